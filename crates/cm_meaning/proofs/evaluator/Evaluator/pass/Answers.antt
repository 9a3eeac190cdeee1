use Rattle.std.proofs.Common.{◌<◌, ◌++◌, ◌∷◌, [], length, refl, ap, ◌∙◌, arith, rules}
use Rattle.std.proofs.Common.{w32}
use Rattle.std.proofs.lemmas.Int.{to_z-of_z}
use Rattle.cm_meaning.specs.declared.reference.Argument.TheVariants as argument
use Rattle.cm_meaning.specs.declared.work.Hand.TheVariants as hands
use Rattle.cm_meaning.specs.declared.work.Work.TheVariants as works
use Rattle.cm_meaning.proofs.CallLaw.{by_outcome, argument_does}
use Rattle.cm_meaning.proofs.evaluator.Evaluator.pass.Goals as goal

pub returns : goal.returns
returns c =
    let few : length c.args.self.now.passed.items < 18446744073709551615 = omega arith in
    let put = c.in_ok-push.ensures.items ∙ ap (λ v. c.args.self.now.passed.items ++ argument.Word v ∷ []) (to_z-of_z w32 c.value-value.result (search rules)) in
    by_outcome c.go.result c.go.ensures.going c.go.ensures.put
    (λ o going puts. argument_does c.args.self.now _ c.go.new.self (works.Pass c.args.purpose c.args.function c.args.count c.args.more)
    (hands.Value c.value-value.result) o c.args.purpose c.args.function c.args.count c.saturating_add.result 18446744073709551615 c.args.more
    (argument.Word c.value-value.result) c.requires c.value-value.ensures going refl put c.saturating_add.ensures few puts (λ h at. refl))
