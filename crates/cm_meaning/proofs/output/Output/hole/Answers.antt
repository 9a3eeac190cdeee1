use Rattle.std.proofs.Common.{◌++◌, ◌∷◌, [], length, sym, ap, subst, ◌∙◌, zero-add}
use Rattle.cm_meaning.specs.declared.output.Hole.TheVariants as hole
use Rattle.cm_meaning.specs.Output.{Open, hole_count}
use Rattle.cm_meaning.specs.Printed.{laid, AreOrdered}
use Rattle.cm_meaning.proofs.OutputLaw.{laid-hole, laid-count, ordered-hole}
use Rattle.cm_meaning.proofs.output.Output.hole.Goals as goal

pub invariant_of-self-2 : goal.invariant_of-self-2
invariant_of-self-2 c =
    let end = length c.self.inside.printed.numbers.items in
    let holes = c.self.inside.printed.holes.items in
    let put = c.in_ok-push.ensures.items ∙ ap (λ before. holes ++ hole.Open before ∷ []) (c.len-before.ensures ∙ c.self.inside.printed.numbers.ok.0) in
    subst (λ all. AreOrdered 0 end all) (sym put) (ordered-hole 0 end holes c.self.invariant)

pub returns-clause-number : goal.returns-clause-number
returns-clause-number c =
    let counted = laid-count 0 c.self.inside.printed.numbers.items c.self.inside.printed.holes.items in
    c.in-Ok.ensures.1 ∙ c.len.ensures ∙ c.self.inside.printed.holes.ok.0 ∙ sym counted ∙ ap hole_count c.self.view_is

pub returns-clause-ok : goal.returns-clause-ok
returns-clause-ok c =
    let numbers = c.self.inside.printed.numbers.items in
    let holes = c.self.inside.printed.holes.items in
    let put = c.in_ok-push.ensures.items ∙ ap (λ before. holes ++ hole.Open before ∷ []) (c.len-before.ensures ∙ c.self.inside.printed.numbers.ok.0) in
    ap (λ all. laid 0 numbers all) put
    ∙ laid-hole 0 _ numbers holes (zero-add _) c.self.invariant
    ∙ ap (λ entries. entries ++ Open ∷ []) c.self.view_is
