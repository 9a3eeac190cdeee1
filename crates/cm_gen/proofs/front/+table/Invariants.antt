use Rattle.std.proofs.Common.{length}
use Rattle.cm_gen.proofs.front.+table.Given as goal

-- each call is for fewer functions
abbrev pub decreases-table : goal.decreases-table
decreases-table l = length l.list.now
