use Rattle.std.proofs.Common.{◌≡◌, ◌+◌, ◌≤◌, ◌++◌, [], ◌∷◌, length, List, sym, ap, subst, arith, length-append}
use Rattle.cm_gen.specs.declared.builder.Word.{Word}
use Rattle.cm_gen.specs.Builder.{AreWithin, reach}
use Rattle.cm_gen.proofs.parts.BuilderLaw.{length_code, within_more, within_put}
use Rattle.cm_gen.proofs.builder.CodeBuilder.put.Goals as goal

pub invariant_of-self-2 : goal.invariant_of-self-2
invariant_of-self-2 c =
    let old = c.self.inside.words.items in
    let size : length (old ++ c.args.word ∷ []) ≡ length old + 1 = length-append old (c.args.word ∷ []) in
    let near : reach c.args.word ≤ length old + 1 = omega (arith, c.requires, ap length c.self.view_is, length_code old) in
    let all = within_put (length old + 1) old c.args.word (within_more (length old) (length old + 1) old (omega arith) c.self.invariant) near in
    subst (λ (ws : List Word). AreWithin (length ws) ws) (sym c.in_ok-push.ensures.items) (subst (λ n. AreWithin n (old ++ c.args.word ∷ [])) (sym size) all)
