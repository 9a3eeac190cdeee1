use Rattle.std.proofs.Common.{◌≡◌, ◌+◌, ◌∙◌, ap, sym, subst, suc, arith, rules, w32}
use Rattle.std.proofs.lemmas.Int.{to_z-of_z}
use Rattle.cm_meaning.specs.declared.ended.Ended.TheVariants as ended
use Rattle.cm_meaning.specs.Ended.{end_of, limits_of, IsFilled}
use Rattle.cm_meaning.specs.Meaning.{SerialEnd}
use Rattle.cm_meaning.specs.Output.{numbers_of}
use Rattle.cm_meaning.specs.Progress.{Run, Progress, Stops, HasMost}
use Rattle.cm_meaning.proofs.ProgressLaw.{trap_end, value_end, spent_end}
use Rattle.cm_meaning.proofs.elision.run.Goals as goal
use Rattle.cm_meaning.proofs.elision.run.Goals.{in-Trapped, in-Ended}

pub until_tick-requires : goal.until_tick-requires
until_tick-requires c = (_, _, c.ticks.invariant.0)

pub ticks-preserved : goal.ticks-preserved
ticks-preserved c =
    let run : Run = record { program = c.args.program.now; input = c.args.input.now; limits = limits_of c.args.limits.now } in
    let next : Progress run c.until_tick.new.self (suc c.ticks.ticks) (numbers_of c.until_tick.new.output) c.until_tick.new.most
    = subst (λ o. Stops run c.ticks.ticks o c.until_tick.new.self (numbers_of c.until_tick.new.output) c.until_tick.new.most) c.in-Tick.is
    (c.in_ok-until_tick.ensures.stops run c.ticks.ticks c.ticks.invariant.0) in
    let one : suc c.ticks.ticks ≡ c.ticks.ticks + 1 = omega arith in
    (subst (λ n. Progress run c.until_tick.new.self n (numbers_of c.until_tick.new.output) c.until_tick.new.most) one next, c.in_ok-until_tick.ensures.open ∙ c.ticks.invariant.1)

pub unreachable-requires : goal.unreachable-requires
unreachable-requires c =
    let run : Run = record { program = c.args.program.now; input = c.args.input.now; limits = limits_of c.args.limits.now } in
    subst (λ o. Stops run c.ticks.ticks o c.until_tick.new.self (numbers_of c.until_tick.new.output) c.until_tick.new.most) c.in-Going.is
    (c.in_ok-until_tick.ensures.stops run c.ticks.ticks c.ticks.invariant.0)

pub unreachable-requires-in-Printed : goal.unreachable-requires-in-Printed
unreachable-requires-in-Printed c =
    let run : Run = record { program = c.args.program.now; input = c.args.input.now; limits = limits_of c.args.limits.now } in
    subst (λ o. Stops run c.ticks.ticks o c.until_tick.new.self (numbers_of c.until_tick.new.output) c.until_tick.new.most) c.in-Printed.is
    (c.in_ok-until_tick.ensures.stops run c.ticks.ticks c.ticks.invariant.0)

pub returns-in-ticks-clause-end : goal.returns-in-ticks-clause-end
returns-in-ticks-clause-end c =
    let run : Run = record { program = c.args.program.now; input = c.args.input.now; limits = limits_of c.args.limits.now } in
    let stops = c.in_ok-until_tick.ensures.stops run c.ticks.ticks c.ticks.invariant.0 in
    let out = numbers_of c.until_tick.new.output in
    let most = c.until_tick.new.most in
    elim c.match-branch-3.branch [
      | in-Trapped w ↦ subst (λ e. SerialEnd run.program run.input run.limits (end_of e)) (sym w.ended-is)
          (trap_end run c.ticks.ticks out _ (subst (λ o. Stops run c.ticks.ticks o c.until_tick.new.self out most) w.in-Trapped.is stops) (omega arith))
      | in-Ended w ↦ subst (λ e. SerialEnd run.program run.input run.limits (end_of e))
          (sym (w.ended-is ∙ ap (λ v. ended.Done c.until_tick.new.output v c.ticks.ticks) (to_z-of_z w32 w.in-Ended.value (search rules))))
          (value_end run c.ticks.ticks out w.in-Ended.value most (subst (λ o. Stops run c.ticks.ticks o c.until_tick.new.self out most) w.in-Ended.is stops) (omega arith))
    ]

pub returns-in-ticks-clause-most : goal.returns-in-ticks-clause-most
returns-in-ticks-clause-most c =
    let run : Run = record { program = c.args.program.now; input = c.args.input.now; limits = limits_of c.args.limits.now } in
    let stops = c.in_ok-until_tick.ensures.stops run c.ticks.ticks c.ticks.invariant.0 in
    let out = numbers_of c.until_tick.new.output in
    let most = c.until_tick.new.most in
    elim c.match-branch-3.branch [
      | in-Trapped w ↦ subst (λ e. HasMost run.program run.input run.limits e most) (sym w.ended-is) tt
      | in-Ended w ↦ subst (λ e. HasMost run.program run.input run.limits e most) (sym w.ended-is)
          (let last = subst (λ o. Stops run c.ticks.ticks o c.until_tick.new.self out most) w.in-Ended.is stops in (last.bytes (omega arith), last.depth (omega arith)))
    ]

pub returns-clause-end : goal.returns-clause-end
returns-clause-end c = spent_end _ _ _ _ _ c.ticks.invariant.0 (omega arith)

pub returns-in-ticks-clause-filled : goal.returns-in-ticks-clause-filled
returns-in-ticks-clause-filled c = elim c.match-branch-3.branch [
  | in-Trapped w ↦ subst IsFilled (sym w.ended-is) (c.in_ok-until_tick.ensures.open ∙ c.ticks.invariant.1)
  | in-Ended w ↦ subst IsFilled (sym w.ended-is) (c.in_ok-until_tick.ensures.open ∙ c.ticks.invariant.1)
]
