use Rattle.std.proofs.Common.{ap, sym, ◌∙◌, arith, length}
use Rattle.cm_gen.specs.Expression.{words_through}
use Rattle.cm_gen.proofs.parts.LayoutLaw.{length_ends, end_at, ends_past, through_below}
use Rattle.cm_gen.proofs.layout.Layout.end.Goals as goal

pub returns-then-at-ends-clause-value : goal.returns-then-at-ends-clause-value
returns-then-at-ends-clause-value c =
    end_at c.self.inside.slots c.items-ends.result.now c.args.slot 0 (c.items-ends.ensures ∙ c.self.invariant.0) c.if-at-ends.true
    ∙ ap (λ l. words_through l c.args.slot) c.self.view_is

pub returns-then-at-ends-clause-small : goal.returns-then-at-ends-clause-small
returns-then-at-ends-clause-small c =
    let slots = c.self.inside.slots in
    let found = end_at slots c.items-ends.result.now c.args.slot 0 (c.items-ends.ensures ∙ c.self.invariant.0) c.if-at-ends.true in
    omega (arith, found, through_below slots c.args.slot, c.self.invariant.2)

pub returns-else-at-ends-clause-value : goal.returns-else-at-ends-clause-value
returns-else-at-ends-clause-value c =
    let slots = c.self.inside.slots in
    let past = ends_past slots c.args.slot (omega (arith, c.if-at-ends.false, ap length (c.items-ends.ensures ∙ c.self.invariant.0), length_ends 0 slots)) in
    c.self.invariant.1 ∙ sym past ∙ ap (λ l. words_through l c.args.slot) c.self.view_is
