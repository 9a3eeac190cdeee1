use Rattle.std.proofs.Common.{ap, arith, ◌∙◌, take}
use Rattle.cm_meaning.specs.Output.{cut_at}
use Rattle.cm_meaning.proofs.OutputLaw.{IsCut, within, cut_ordered, cut_entries}
use Rattle.cm_meaning.proofs.output.Output.cut.Goals as goal

pub index-requires : goal.index-requires
index-requires c =
    let there = within c.args.hole c.self.inside.printed _ c.self.view_is c.requires in
    omega (arith, c.self.inside.printed.holes.ok.0)

-- what the two calls leave
cut : (c : goal.After-truncate-2) → IsCut c.args.hole c.self.inside.printed.numbers.items c.truncate-2.new.self.items
    c.self.inside.printed.holes.items c.truncate.new.self.items c.index.result.now
cut c = record {
  there = within c.args.hole c.self.inside.printed _ c.self.view_is c.requires;
  old_is = c.index.ensures;
  left_is = c.truncate-2.ensures.items ∙ ap (λ n. take n c.self.inside.printed.numbers.items) c.before-before.ensures;
  kept_is = c.truncate.ensures.items;
}

pub invariant_of-self : goal.invariant_of-self
invariant_of-self c = cut_ordered c.args.hole _ _ _ _ c.index.result.now (cut c) c.self.invariant

pub returns : goal.returns
returns c = cut_entries c.args.hole _ _ _ _ c.index.result.now (cut c) c.self.invariant ∙ ap (cut_at c.args.hole) c.self.view_is
