-- What the laws of steps say.
use Rattle.std.specs.Prelude.{◌≡◌, ◌<◌, Bool, true, false, ⊤, Option, None, Some, List, ◌∷◌, ℤ, ℕ}
use Rattle.cm_syntax.specs.declared.expr.Call.{end_of-Arg}
use Rattle.cm_syntax.specs.declared.stmt.Program.{Program}
use Rattle.cm_syntax.specs.Label.{silent, ticks, prints, spawns, syncs, traps, ends, stuck}
use Rattle.cm_syntax.specs.Cell.{unlent, to_read, is_held, may_write}
use Rattle.cm_syntax.specs.Stack.{Stack, Destination, lent_word, lent_reference, StackSum, SharesBack, IsUnder}
use Rattle.cm_syntax.specs.Rest.{spawned, Item, arguments, deliver, declare, assign, update, store, part, Control, returned}
use Rattle.cm_syntax.specs.Step.{Move, frame_count, inside, deliver_value}
use Rattle.cm_meaning.specs.Weight.{weight}
use Rattle.cm_meaning.specs.Activation.{IsSettled}
use Rattle.cm_meaning.specs.End.{Done}
use Rattle.cm_meaning.specs.Meaning.{Ask, Note}
use Rattle.cm_meaning.specs.Piece.{child, told, HasNote}

-- What a spawn of the whole lends and keeps is together what the spawn alone lends, what it keeps and the words beside;
-- and a word that may be written goes where it goes alone.
pub record PartsBeside (words lent kept more_lent more_kept : Stack) : Type 0 where
  pub before : Stack
  pub whole : Stack
  pub alone : StackSum lent kept before
  pub beside : StackSum before words whole
  pub parted : StackSum more_lent more_kept whole
  pub same_lent : (d s i : ℕ) → may_write (lent.words d s i) ≡ true → more_lent.words d s i ≡ lent.words d s i
  pub same_kept : (d s i : ℕ) → may_write (kept.words d s i) ≡ true → more_kept.words d s i ≡ kept.words d s i

-- A step is another one that is done beside some words, which it leaves as they are. They may not be of a frame that
-- the step begins or ends.
abbrev pub IsBeside : (words : Stack) → (alone beside : Move) → Type 0
IsBeside b (silent c h) y = IsUnder (frame_count c) b → (g : Stack) × (y ≡ silent c g) × StackSum h b g
IsBeside b (ticks c h) y = IsUnder (frame_count c) b → (g : Stack) × (y ≡ ticks c g) × StackSum h b g
IsBeside b (prints v c h) y = IsUnder (frame_count c) b → (g : Stack) × (y ≡ prints v c g) × StackSum h b g
IsBeside b (spawns call lent x c h) y = (l : Stack) × (g : Stack) × (y ≡ spawns call l x c g) × PartsBeside b lent h l g
IsBeside b (syncs c) y = y ≡ syncs c
IsBeside b (traps k) y = y ≡ traps k
IsBeside b (ends v) y = y ≡ ends v
IsBeside b stuck y = ⊤

-- the next item is one that puts something into a word or a reference, or lends a word to be written
abbrev pub writes_next : List Item → Bool
writes_next (arguments (spawned (Some x)) f ws end_of-Arg ∷ k) = true
writes_next (deliver x ∷ k) = true
writes_next (declare row ∷ k) = true
writes_next (assign x ∷ k) = true
writes_next (update x o ∷ k) = true
writes_next (store a i o ∷ k) = true
writes_next (part a l r row ∷ k) = true
writes_next _ = false

-- A part has what a step needs of the whole: each word and reference without which the step is stuck is held in the part;
-- and where the step writes, each of which a share isn't enough for it may be written there.
pub record HasNeeded (writes : Bool) (does : Stack → Move) (part whole : Stack) : Type 0 where
  pub words : (d s i : ℕ) → does (lent_word whole unlent d s i) ≡ stuck → is_held (part.words d s i) ≡ true
  pub words_written : writes ≡ true → (d s i : ℕ) → does (lent_word whole to_read d s i) ≡ stuck → may_write (part.words d s i) ≡ true
  pub references : (d s : ℕ) → does (lent_reference whole unlent d s) ≡ stuck → is_held (part.references d s) ≡ true
  pub references_written : writes ≡ true → (d s : ℕ) → does (lent_reference whole to_read d s) ≡ stuck → may_write (part.references d s) ≡ true

-- A call at its end goes on inside its caller: the value that came back is delivered.
abbrev pub arrival : Destination → (continuation at_end : Control) → Stack → Option ℤ → Move
arrival x k c h v = deliver_value (inside c x k) h (returned v) x k.rest

-- A step of the elision is another one that is done inside a caller's rest.
abbrev pub IsInside : Destination → (continuation : Control) → (arrives : Option ℤ → Move) → (alone within : Move) → Type 0
IsInside x k arrives (silent c h) y = y ≡ silent (inside c x k) h
IsInside x k arrives (ticks c h) y = y ≡ ticks (inside c x k) h
IsInside x k arrives (prints v c h) y = y ≡ prints v (inside c x k) h
IsInside x k arrives (traps l) y = y ≡ traps l
IsInside x k arrives (ends v) y = y ≡ arrives v
IsInside x k arrives _ y = ⊤

-- A step without a tick leads to less weight; of a spawn the child, the continuation and the call of the elision.
abbrev pub LowersWeight : Program → Control → Move → Type 0
LowersWeight program c (silent t g) = weight program t < weight program c
LowersWeight program c (prints v t g) = weight program t < weight program c
LowersWeight program c (spawns call lent x t g) =
    (weight program call < weight program c) × (weight program t < weight program c) × (weight program (inside call x t) < weight program c)
LowersWeight program c (syncs t) = weight program t < weight program c
LowersWeight program c _ = ⊤

-- a spawn parts what is held: the child and the continuation have nothing in common, and together all of it
abbrev pub PartsStack : Stack → Move → Type 0
PartsStack h (spawns call lent x t kept) = StackSum lent kept h
PartsStack h _ = ⊤

-- the state that a step of the elision leads to is settled again
abbrev pub KeepsSettled : Move → Type 0
KeepsSettled (silent t g) = IsSettled t g
KeepsSettled (ticks t g) = IsSettled t g
KeepsSettled (prints v t g) = IsSettled t g
KeepsSettled _ = ⊤

-- the destination is a word of which the whole is held, in one of so many frames
abbrev pub HoldsDestination : Destination → (frames : ℕ) → Stack → Type 0
HoldsDestination None n h = ⊤
HoldsDestination (Some x) n h = (x.depth < n) × (may_write (h.words x.depth x.slot 0) ≡ true)

-- One child of a log, which is Done and not joined, gave shares back: they are in what is held now, and its answer has what is
-- left of what it gave.
pub record ComesFromOne (log later : List Note) (h g : Stack) : Type 0 where
  pub depth : ℕ
  pub own : ℕ
  pub destination : Destination
  pub ask : Ask
  pub out : List ℤ
  pub value : Option ℤ
  pub used : ℕ
  pub given : Stack
  pub back : Stack
  pub rest : Stack
  pub before : HasNote Control Stack Destination log (child depth own destination false ask (told (Done out value used) given))
  pub after : HasNote Control Stack Destination later (child depth own destination false ask (told (Done out value used) rest))
  pub shares : SharesBack back rest given
  pub joined : StackSum h back g
