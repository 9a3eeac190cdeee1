-- What a step does to the calls: at most the last one comes or goes.
use Rattle.std.specs.Prelude.{◌≡◌, ℕ, suc, ◌+◌, ◌≤◌, ⊤, List, [], ◌∷◌, length}
use Rattle.cm_syntax.specs.Label.{silent, ticks, prints, spawns, syncs, traps, ends, stuck}
use Rattle.cm_syntax.specs.Stack.{Argument}
use Rattle.cm_syntax.specs.Rest.{end, framing, Control}
use Rattle.cm_syntax.specs.Step.{Move}
use Rattle.cm_meaning.specs.Activation.{end_count}

-- the calls are the same, and the rest ends as many of them
abbrev pub KeepsCalls : Control → Control → Type 0
KeepsCalls c d = (d.calls ≡ c.calls) × (end_count d.rest ≡ end_count c.rest)

-- The calls stay; or the call at hand becomes the last one, and the rest ends one more; or the last one goes, whose end
-- stood first in the rest.
pub data Shifts (c d : Control) : Type 0 where
  stays : KeepsCalls c d → Shifts c d
  comes : (f : ℕ) (ws : List Argument) → c.hand ≡ framing f ws → d.calls ≡ f ∷ c.calls → end_count d.rest ≡ suc (end_count c.rest) → Shifts c d
  goes : (f : ℕ) → c.calls ≡ f ∷ d.calls → c.rest ≡ end ∷ d.rest → Shifts c d

-- What a step does to the calls. Only a silent one changes them; a spawned call has those of its parent and nothing else
-- to do, and at its end a state has nothing left to do.
abbrev pub ShiftsCalls : Control → Move → Type 0
ShiftsCalls c (silent d g) = Shifts c d
ShiftsCalls c (ticks d g) = KeepsCalls c d
ShiftsCalls c (prints v d g) = KeepsCalls c d
ShiftsCalls c (spawns call lent x d g) = KeepsCalls c d × (call.calls ≡ c.calls) × (call.rest ≡ [])
ShiftsCalls c (syncs d) = KeepsCalls c d
ShiftsCalls c (traps k) = ⊤
ShiftsCalls c (ends v) = c.rest ≡ []
ShiftsCalls c stuck = ⊤

-- the calls that no end in the rest takes away are as many as before
abbrev pub KeepsBase : Control → Control → Type 0
KeepsBase c d = length d.calls + end_count c.rest ≡ length c.calls + end_count d.rest

-- the calls are at most one more, and at most one less
abbrev pub IsWithinOne : Control → Control → Type 0
IsWithinOne c d = (length d.calls ≤ suc (length c.calls)) × (length c.calls ≤ suc (length d.calls))
