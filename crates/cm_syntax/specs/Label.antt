-- What one step of a program does, whatever its states are made of. The label tells what the serial elision and the
-- runs with children take differently: a tick, a print, a spawn, a sync.
use Rattle.std.specs.Prelude.{ℤ, Option}
use Rattle.cm_syntax.specs.Trap.{Trap}

-- A state is a control, what is still to do, and a stack, the words and references that are held. A destination is
-- where the value of a spawned call goes.
module _ (Control Stack Destination : Type 0) where
  pub data Step : Type 0 where
    -- to this state, and nothing is seen of it
    silent : Control → Stack → Step
    -- a tick, and then this state
    ticks : Control → Stack → Step
    -- a printed number, and then this state
    prints : ℤ → Control → Stack → Step
    -- the child's call with what it is lent, its destination, and the continuation with what it keeps
    spawns : (child : Control) → (lent : Stack) → Destination → Control → (kept : Stack) → Step
    -- the children of this call are waited for, and then this control goes on
    syncs : Control → Step
    -- the program's own error
    traps : Trap → Step
    -- nothing is left to do, and this is what the call gave
    ends : Option ℤ → Step
    -- no rule has this state: a word is read that holds nothing, say
    stuck : Step
