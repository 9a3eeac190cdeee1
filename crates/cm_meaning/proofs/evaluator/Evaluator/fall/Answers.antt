use Rattle.std.proofs.Common.{◌<◌, length, sym, ap, ◌∙◌, subst}
use Rattle.std.specs.Prelude.{slice_get}
use Rattle.std.proofs.lemmas.Option.{slice_get_within, get_or_from_slice_get}
use Rattle.cm_meaning.specs.declared.work.Work.TheVariants as works
use Rattle.cm_meaning.proofs.CallLaw.{by_outcome, running_at, fall_gives, fall_lacks}
use Rattle.cm_meaning.proofs.evaluator.Evaluator.fall.Goals as goal

pub bounds-items-index : goal.bounds-items-index
bounds-items-index c =
    let at = running_at c.args.self.now works.Fall c.function-index.result c.requires tt c.function-index.ensures in
    subst (λ l. c.function-index.result < length l) (sym c.items.ensures) (slice_get_within _ _ at.function at.there)

pub returns-then-items-index : goal.returns-then-items-index
returns-then-items-index c =
    let at = running_at c.args.self.now works.Fall c.function-index.result c.requires tt c.function-index.ensures in
    let found = get_or_from_slice_get c.items.result.now c.function-index.result at.function c.index-items-index.result (ap (λ l. slice_get l c.function-index.result) c.items.ensures ∙ at.there) in
    by_outcome c.hold.result c.hold.ensures.going c.hold.ensures.put
    (λ o going puts. fall_gives c.args.self.now c.hold.new.self c.function-index.result o c.requires at (ap (λ function. function.gives) (sym found) ∙ c.if-items-index.true) going puts)

pub returns-else-items-index : goal.returns-else-items-index
returns-else-items-index c =
    let at = running_at c.args.self.now works.Fall c.function-index.result c.requires tt c.function-index.ensures in
    let found = get_or_from_slice_get c.items.result.now c.function-index.result at.function c.index-items-index.result (ap (λ l. slice_get l c.function-index.result) c.items.ensures ∙ at.there) in
    by_outcome c.idle.result c.idle.ensures.going c.idle.ensures.put
    (λ o going puts. fall_lacks c.args.self.now c.idle.new.self c.function-index.result o c.requires at (ap (λ function. function.gives) (sym found) ∙ c.if-items-index.false) going puts)

pub bounds-items-index-2 : goal.bounds-items-index-2
bounds-items-index-2 c = bounds-items-index c
