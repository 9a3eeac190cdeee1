use Rattle.std.proofs.Common.{◌≡◌}
use Rattle.std.specs.Prelude.{slice_index}
use Rattle.cm_isa.specs.Action.{action_at, Stores}
use Rattle.cm_isa.proofs.execution.effect.Goals as goal

pub returns-in-Stores-clause-outcome : goal.returns-in-Stores-clause-outcome
returns-in-Stores-clause-outcome g c =
    let asks : action_at c.args.instr (slice_index c.args.regs.now) c.args.pc ≡ Stores c.in-Stores.size c.in-Stores.address c.in-Stores.value = cc in
    rw asks (c.store.ensures.outcome c.args.instr.rd c.args.regs.now)
