use Rattle.cilkm.proofs.StillLaw.{run_is_served}
use Rattle.cilkm.proofs.still.run_verdict.Goals as goal

pub returns-in_ok-ended-in-Ok : goal.returns-in_ok-ended-in-Ok
returns-in_ok-ended-in-Ok c =
    let run = c.in_ok-ended-in-Ok in
    run_is_served c.args.input.now c.args.source.now c.args.build.now c.args.limits.now c.args.stat c.in-Ok.numbers c.items.result.now run.field-0.ended run.field-0.steps
    c.served_verdict.result c.requires.short c.requires.cut c.requires.compiled c.in-Ok.ensures.values c.items.ensures run.ensures.ended run.ensures.steps
    c.served_verdict.ensures
