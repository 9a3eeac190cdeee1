use Rattle.std.proofs.Common.{◌≡◌, ◌≤◌, ◌++◌, drop, length}
use Rattle.cm_gen.specs.Image.{functions_code, marked}
use Rattle.cm_gen.proofs.function_code.functions.Given as goal

-- the code of the functions from this one on stands before what there was
abbrev pub invariant-loop-at : goal.invariant-loop-at
invariant-loop-at l = (l.code ≡ functions_code l.form l.page (marked l.cilk (drop l.at l.list)) ++ l.fn.code) × (l.at ≤ length l.list)

-- each turn is for the function before
abbrev pub decreases-loop-at : goal.decreases-loop-at
decreases-loop-at l = l.at
