use Rattle.std.proofs.Common.{◌<◌, ◌∷◌, length, refl, sym, ap, subst, ◌∙◌, arith}
use Rattle.std.proofs.lemmas.List.{nil_from_length}
use Rattle.cm_syntax.specs.Step.{scalar_slice}
use Rattle.cm_meaning.specs.Layout.{calls_in, slot_in, reference_of, IsRowOf}
use Rattle.cm_meaning.proofs.CallLaw.{by_outcome, enter_does, value_does, slice_at, slice_does, address_does}
use Rattle.cm_meaning.proofs.evaluator.Evaluator.arguments.Goals.{in-Slice, in-Address}
use Rattle.cm_meaning.proofs.evaluator.Evaluator.arguments.Goals as goal

pub returns-in_default : goal.returns-in_default
returns-in_default c = by_outcome c.enter.result c.enter.ensures.going c.enter.ensures.put
    (λ o going puts. enter_does c.args.self.now c.enter.new.self c.args.purpose c.args.function c.args.count c.args.more o c.requires
    (nil_from_length c.args.more.now c.in_default.ensures.cases) going puts)

pub returns-in-Value : goal.returns-in-Value
returns-in-Value c = by_outcome c.then.result c.then.ensures.going c.then.ensures.put
    (λ o going puts. value_does c.args.self.now c.then.new.self c.args.purpose c.args.function c.args.count c.args.more c.in-Some.more _ o c.requires
    (c.in-Some.ensures.cases.0 ∙ ap (λ a. a ∷ c.in-Some.more.now) c.in-Value.is) going puts)

pub row-slice-requires-clause-there : goal.row-slice-requires-clause-there
row-slice-requires-clause-there c =
    (slice_at c.args.self.now c.args.purpose c.args.function c.args.count c.args.more c.in-Some.more c.in-Slice.a c.requires.2 c.requires
    (c.in-Some.ensures.cases.0 ∙ ap (λ a. a ∷ c.in-Some.more.now) c.in-Slice.is) c.requires.3).there

pub returns : goal.returns
returns c =
    let few : length c.args.self.now.passed.items < 18446744073709551615 = omega arith in
    by_outcome c.go.result c.go.ensures.going c.go.ensures.put
    (λ o going puts. elim c.match-argument.branch [
      | in-Slice w ↦ slice_does c.args.self.now _ c.go.new.self c.args.purpose c.args.function c.args.count c.saturating_add.result 18446744073709551615 c.args.more c.in-Some.more w.in-Slice.a
          c.match-argument.slice o c.requires (c.in-Some.ensures.cases.0 ∙ ap (λ a. a ∷ c.in-Some.more.now) w.in-Slice.is)
          (λ h shown. subst (λ r. IsRowOf h (calls_in c.args.self.now.frames) w.in-Slice.a.name (slot_in c.args.self.now.frames w.in-Slice.a.name) (reference_of r)) (sym w.slice-is) (w.row-slice.ensures h shown)) going refl c.in_ok-push.ensures.items c.saturating_add.ensures few puts
      | in-Address w ↦ address_does c.args.self.now _ c.go.new.self c.args.purpose c.args.function c.args.count c.saturating_add.result 18446744073709551615 c.args.more c.in-Some.more w.in-Address.x
          c.match-argument.slice o c.requires (c.in-Some.ensures.cases.0 ∙ ap (λ a. a ∷ c.in-Some.more.now) w.in-Address.is)
          (ap reference_of w.slice-is ∙ ap (λ d. scalar_slice d w.in-Address.x.name) w.top.ensures) going refl c.in_ok-push.ensures.items c.saturating_add.ensures few puts
    ])
