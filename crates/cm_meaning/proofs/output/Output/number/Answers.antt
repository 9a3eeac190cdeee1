use Rattle.std.proofs.Common.{◌≡◌, ◌++◌, ◌∷◌, [], ◌+◌, length, ap, subst, ◌∙◌, zero-add, arith, w32}
use Rattle.std.proofs.lemmas.Int.{to_z-of_z}
use Rattle.cm_meaning.specs.Output.{Number}
use Rattle.cm_meaning.specs.Printed.{laid, AreOrdered}
use Rattle.cm_meaning.proofs.OutputLaw.{laid-number, ordered-number}
use Rattle.cm_meaning.proofs.output.Output.number.Goals as goal

pub invariant_of-self-2 : goal.invariant_of-self-2
invariant_of-self-2 c =
    let holes = c.self.inside.printed.holes.items in
    let longer : length c.self.inside.printed.numbers.items + 1 ≡ length c.push.new.self.items =
    omega (arith, c.in_ok-push.ensures.len, c.self.inside.printed.numbers.ok.0, c.push.new.self.ok.0) in
    subst (λ end. AreOrdered 0 end holes) longer (ordered-number 0 _ holes c.self.invariant)

pub returns-clause-ok : goal.returns-clause-ok
returns-clause-ok c =
    let numbers = c.self.inside.printed.numbers.items in
    let holes = c.self.inside.printed.holes.items in
    let put = c.in_ok-push.ensures.items ∙ ap (λ number. numbers ++ number ∷ []) (to_z-of_z w32 c.args.number c.ranges.number) in
    ap (λ all. laid 0 all holes) put
    ∙ laid-number 0 _ numbers holes c.args.number (zero-add _) c.self.invariant
    ∙ ap (λ entries. entries ++ Number c.args.number ∷ []) c.self.view_is
