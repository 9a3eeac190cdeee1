use Rattle.std.proofs.Common.{◌∙◌, ap, sym, subst, suc, ◌++◌, ◌∷◌, [], rules, w32}
use Rattle.std.proofs.lemmas.Int.{to_z-of_z}
use Rattle.cm_meaning.specs.Output.{Number, numbers_of, open_count}
use Rattle.cm_meaning.specs.Evaluator.{Steps}
use Rattle.cm_meaning.specs.Progress.{Progress, Stops, noted}
use Rattle.cm_meaning.proofs.ProgressLaw.{numbers_push, open_push, at_hand, some_page, same_account, after_going, after_print, after_tick, at_trap, at_end, falls_going, falls_print}
use Rattle.cm_meaning.proofs.evaluator.Evaluator.until_tick.Goals as goal

pub step-requires : goal.step-requires
step-requires c = at_hand _ _ _ _ _ (c.steps.invariant.0 c.requires.0 c.requires.1 c.requires.2)

pub note-requires-clause-page : goal.note-requires-clause-page
note-requires-clause-page c = some_page _ _ _ _ _ _ (c.steps.invariant.0 c.requires.0 c.requires.1 c.requires.2) c.in_ok-outcome.ensures.same

pub note-requires-clause-account : goal.note-requires-clause-account
note-requires-clause-account c = same_account _ _ _ _ _ _ (c.steps.invariant.0 c.requires.0 c.requires.1 c.requires.2) c.in_ok-outcome.ensures.same

pub steps-smaller-in-Going : goal.steps-smaller-in-Going
steps-smaller-in-Going c = falls_going _ _ _ _ _ _ (c.steps.invariant.0 c.requires.0 c.requires.1 c.requires.2)
    (subst (λ o. Steps c.steps.self o c.step.new.self) c.in-Going.is c.in_ok-outcome.ensures)

pub steps-preserved-in-Going : goal.steps-preserved-in-Going
steps-preserved-in-Going c = (
  (λ run used start.
      subst (λ m. Progress run c.step.new.self used (numbers_of c.steps.output) m) (sym c.note.ensures)
      (after_going _ _ _ _ _ _ (c.steps.invariant.0 run used start) (subst (λ o. Steps c.steps.self o c.step.new.self) c.in-Going.is c.in_ok-outcome.ensures))),
  c.steps.invariant.1,
)

pub note-requires-in-Printed-clause-page : goal.note-requires-in-Printed-clause-page
note-requires-in-Printed-clause-page c = some_page _ _ _ _ _ _ (c.steps.invariant.0 c.requires.0 c.requires.1 c.requires.2) c.in_ok-outcome.ensures.same

pub note-requires-in-Printed-clause-account : goal.note-requires-in-Printed-clause-account
note-requires-in-Printed-clause-account c = same_account _ _ _ _ _ _ (c.steps.invariant.0 c.requires.0 c.requires.1 c.requires.2) c.in_ok-outcome.ensures.same

pub steps-smaller : goal.steps-smaller
steps-smaller c = falls_print _ _ _ _ _ _ (c.steps.invariant.0 c.requires.0 c.requires.1 c.requires.2) c.in-Printed.value
    (subst (λ o. Steps c.steps.self o c.step.new.self) c.in-Printed.is c.in_ok-outcome.ensures)

pub steps-preserved : goal.steps-preserved
steps-preserved c = (
  (λ run used start.
      subst (λ m. Progress run c.step.new.self used (numbers_of c.number.new.self) m) (sym c.note-in-Printed.ensures)
      (subst (λ o. Progress run c.step.new.self used o (noted c.steps.most c.step.new.self))
      (sym (ap numbers_of (c.in_ok-number-in-Printed.ensures.ok ∙ ap (λ v. c.steps.output ++ Number v ∷ []) (to_z-of_z w32 c.in-Printed.value (search rules)))
      ∙ numbers_push c.steps.output c.in-Printed.value))
      (after_print _ _ _ _ _ _ (c.steps.invariant.0 run used start) c.in-Printed.value (subst (λ o. Steps c.steps.self o c.step.new.self) c.in-Printed.is c.in_ok-outcome.ensures)))),
  ap open_count c.in_ok-number-in-Printed.ensures.ok ∙ (open_push c.steps.output _ ∙ c.steps.invariant.1),
)

pub note-requires-in-Tick-clause-page : goal.note-requires-in-Tick-clause-page
note-requires-in-Tick-clause-page c = some_page _ _ _ _ _ _ (c.steps.invariant.0 c.requires.0 c.requires.1 c.requires.2) c.in_ok-outcome.ensures.same

pub note-requires-in-Tick-clause-account : goal.note-requires-in-Tick-clause-account
note-requires-in-Tick-clause-account c = same_account _ _ _ _ _ _ (c.steps.invariant.0 c.requires.0 c.requires.1 c.requires.2) c.in_ok-outcome.ensures.same

pub returns-in-Tick-clause-stops : goal.returns-in-Tick-clause-stops
returns-in-Tick-clause-stops c = λ run used start.
    subst (λ o. Stops run used o c.step.new.self (numbers_of c.steps.output) c.note-in-Tick.new.self) (sym c.in-Tick.is)
    (subst (λ m. Progress run c.step.new.self (suc used) (numbers_of c.steps.output) m) (sym c.note-in-Tick.ensures)
    (after_tick _ _ _ _ _ _ (c.steps.invariant.0 run used start) (subst (λ o. Steps c.steps.self o c.step.new.self) c.in-Tick.is c.in_ok-outcome.ensures)))

pub returns-in-Trapped-clause-stops : goal.returns-in-Trapped-clause-stops
returns-in-Trapped-clause-stops c = λ run used start.
    subst (λ o. Stops run used o c.step.new.self (numbers_of c.steps.output) c.steps.most) (sym c.in-Trapped.is)
    (at_trap _ _ _ _ _ _ (c.steps.invariant.0 run used start) _ (subst (λ o. Steps c.steps.self o c.step.new.self) c.in-Trapped.is c.in_ok-outcome.ensures))

pub returns-in-Ended-clause-stops : goal.returns-in-Ended-clause-stops
returns-in-Ended-clause-stops c = λ run used start.
    subst (λ o. Stops run used o c.step.new.self (numbers_of c.steps.output) c.steps.most) (sym c.in-Ended.is)
    (at_end _ _ _ _ _ _ (c.steps.invariant.0 run used start) _ (subst (λ o. Steps c.steps.self o c.step.new.self) c.in-Ended.is c.in_ok-outcome.ensures))
