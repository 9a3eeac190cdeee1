-- Functions with a spawn in their text.
use Rattle.std.specs.Prelude.{ℕ, ⊤}
use Rattle.cm_syntax.specs.declared.stmt.Function.{Function}
use Rattle.cm_syntax.specs.Walk.{Event, mentions, calls, spawns, ends, Has}
use Rattle.cm_syntax.specs.Evaluation.{function_order}

abbrev pub IsSpawn : Event → Type 0
IsSpawn (mentions variable at) = ⊥
IsSpawn (calls passed) = ⊥
IsSpawn (spawns at lent) = ⊤
IsSpawn ends = ⊥

-- a spawn stands in the function
abbrev pub HasSpawn : Function ℕ → Type 0
HasSpawn f = Has IsSpawn (function_order f)
