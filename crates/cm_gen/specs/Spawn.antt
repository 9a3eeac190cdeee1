-- What is known of a child of a reached piece: where it was spawned, and where its value goes.
use Rattle.std.specs.Prelude.{◌≡◌, ℕ, suc, true, ℤ, List, [], length, Some, slice_get}
use Rattle.cm_syntax.specs.declared.stmt.Slot.TheVariants as slot
use Rattle.cm_syntax.specs.declared.stmt.Program.{Program}
use Rattle.cm_syntax.specs.Cell.{may_write}
use Rattle.cm_syntax.specs.Stack.{Stack, Scalar, Destination, StackSum}
use Rattle.cm_syntax.specs.Label.{spawns}
use Rattle.cm_syntax.specs.Rest.{idle, Control}
use Rattle.cm_syntax.specs.Step.{step, inside}
use Rattle.cm_meaning.specs.Law.{HoldsDestination}
use Rattle.cm_meaning.specs.Meaning.{Ask}
use Rattle.cm_meaning.specs.TypedState.{slots_at}
use Rattle.cm_gen.specs.Formed.{Formed}

-- A child was spawned by the call at this depth, by a step of a state for which the code is proved: so it is for the child's
-- call with what it was lent, for the continuation with what was kept, and for the call before its continuation with all that
-- was held. The child has the calls and the account of its continuation, nothing to do behind its call, and the whole of its
-- destination.
pub record ComesFromSpawn (program : Program) (page limit : ℕ) (input : List ℤ) (depth : ℕ) (x : Destination) (ask : Ask) : Type 0 where
  pub spawning : Control
  pub continuation : Control
  pub kept : Stack
  pub held : Stack
  pub formed : Formed program page limit spawning held
  pub spawned : step program page input spawning held ≡ spawns ask.call ask.lent x continuation kept
  pub child : Formed program page limit ask.call ask.lent
  pub later : Formed program page limit continuation kept
  pub whole : Formed program page limit (inside ask.call x continuation) held
  pub parts : StackSum ask.lent kept held
  pub alone : ask.call.rest ≡ []
  pub waits : continuation.hand ≡ idle
  pub calls : ask.call.calls ≡ continuation.calls
  pub account : ask.call.account ≡ continuation.account
  pub frame : suc depth ≡ length ask.call.calls
  pub lends : HoldsDestination x (length ask.call.calls) ask.lent

-- The destination of a child: a scalar of the frame of the call at this depth, the last one that the child's call finds, and
-- the whole of it was lent.
pub record IsLentScalar (program : Program) (depth : ℕ) (x : Scalar) (ask : Ask) : Type 0 where
  pub depth_is : x.depth ≡ depth
  pub last : suc depth ≡ length ask.call.calls
  pub scalar : slice_get (slots_at program ask.call.calls x.depth) x.slot ≡ Some slot.Scalar
  pub lent : may_write (ask.lent.words x.depth x.slot 0) ≡ true
