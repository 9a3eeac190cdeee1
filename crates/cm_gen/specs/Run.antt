-- Where a run of an image starts.
use Rattle.std.specs.Prelude.{ℕ, ◌==◌, if◌then◌else◌}
use Rattle.cm_maps.specs.declared.map.TheConstants.{STACK_TOP}
use Rattle.cm_isa.specs.declared.convention.TheConstants as reg

-- the address just above the stack, which grows downwards
abbrev pub stack_top : ℕ
stack_top = STACK_TOP

-- the registers at the start: the stack pointer, the account and the ticks, and 0 in all others
abbrev pub start_registers : (account ticks : ℕ) → ℕ → ℕ
start_registers account ticks r = if r == reg.TICKS then ticks else if r == reg.ACCOUNT then account else if r == reg.SP then stack_top else 0
