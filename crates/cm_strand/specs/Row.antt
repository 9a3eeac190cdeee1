-- Logs and scopes that are worked out by hand.
use Rattle.std.specs.Prelude.{ℕ, Bool, true, false, pos, None, Some, List, [], ◌∷◌}
use Rattle.cm_syntax.specs.Trap as kind
use Rattle.cm_meaning.specs.End.{End, Done, Trapped, Spent}
use Rattle.cm_strand.specs.Owned.{Owned}
use Rattle.cm_strand.specs.Strand.{Request, filled, Entry, number, hole, Scope}

module _ (request : Request) (words : Owned) where
  -- a hole with this end, of a child that was spawned after so many own ticks
  abbrev pub told : (used : ℕ) → End → (paid : Bool) → Entry
  told used e paid = hole (record { used = used; target = 0; request = request; filling = filled e paid; aside = words })

  -- A child printed 1 and took 4 ticks, and was popped; 2 was printed; a second child printed 7 and took 3 ticks.
  abbrev pub two_done : List Entry
  two_done = told 5 (Done (pos 7 ∷ []) None 3) false ∷ number (pos 2) ∷ told 1 (Done (pos 1 ∷ []) (Some (pos 9)) 4) true ∷ []

  -- The same where the second child traps, and a third one was spent.
  abbrev pub a_trap : List Entry
  a_trap = told 8 Spent false ∷ told 5 (Trapped (pos 7 ∷ []) kind.Divide 3) false ∷ number (pos 2) ∷ told 1 (Done (pos 1 ∷ []) (Some (pos 9)) 4) true ∷ []

  -- The same where the first child was spent.
  abbrev pub a_spent : List Entry
  a_spent = told 5 (Trapped (pos 7 ∷ []) kind.Divide 3) false ∷ told 1 Spent false ∷ []

-- the scope of a frame at 4000, opened where the next one may stand at 3960, from the second hole on
abbrev pub one_scope : Scope
one_scope = record { frame = 4000; low = 3960; first = 1; depth = 0 }
