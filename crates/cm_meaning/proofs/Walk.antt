-- What the one walk of the step speaks of: the changes of a stack, and the rules that a property of moves has to keep.
use Rattle.std.specs.Prelude.{◌≡◌, ℕ, ◌<◌, ⊤, Bool, true, ℤ, None, Some, List, [], ◌∷◌, ◌++◌}
use Rattle.cm_syntax.specs.Trap.{Trap}
use Rattle.cm_syntax.specs.Label as move
use Rattle.cm_syntax.specs.Cell.{may_write}
use Rattle.cm_syntax.specs.Stack.{Reference, Stack, Argument, Destination, write_word, clear_words, write_parts, lent_stack, kept_stack}
use Rattle.cm_syntax.specs.Rest.{Item, join, end, Hand, entering, Control, control}
use Rattle.cm_syntax.specs.Step.{Move, top, to, rest_at_join, leave, when_readable, when_writable}
use Rattle.cm_syntax.proofs.AccessLaw.{reading, writing}

-- ---- items

-- no join and no end of a call is among them
abbrev pub IsPlainRow : List Item → Type 0
IsPlainRow [] = ⊤
IsPlainRow (join ∷ k) = ⊥
IsPlainRow (end ∷ k) = ⊥
IsPlainRow (_ ∷ k) = IsPlainRow k

-- the item isn't the end of a call
abbrev pub IsNoEnd : Item → Type 0
IsNoEnd end = ⊥
IsNoEnd _ = ⊤

-- ---- what a silent step does to the stack

-- Nothing; a word gets a value; the first words of a slot of the running function become 0; a slice of it is split at a count
-- into the slots of its parts.
pub data Change : Type 0 where
  nothing : Change
  word : (depth slot index : ℕ) → ℤ → Change
  zeros : (slot count : ℕ) → Change
  parts : (left right : ℕ) → Reference → (count : ℕ) → Change

-- the stack behind it, where the running function's frame is at this depth
abbrev pub changed : (depth : ℕ) → Change → Stack → Stack
changed n nothing h = h
changed n (word d s i v) h = write_word h d s i v
changed n (zeros s m) h = clear_words h n s m
changed n (parts l r x m) h = write_parts h n l r x m

-- What is known of a word or a reference that is written: `MayWrite` and `MayRefer` say it of one. Of a change it is known of
-- each that is written, where the running function's frame is at this depth.
abbrev pub MayChange : (MayWrite : (depth slot index : ℕ) → Type 0) (MayRefer : (depth slot : ℕ) → Type 0) (depth : ℕ) → Change → Type 0
MayChange MayWrite MayRefer n nothing = ⊤
MayChange MayWrite MayRefer n (word d s i v) = MayWrite d s i
MayChange MayWrite MayRefer n (zeros s m) = (i : ℕ) → i < m → MayWrite n s i
MayChange MayWrite MayRefer n (parts l r x m) = MayRefer n l × MayRefer n r

-- a spawn's destination is a word of the frame at this depth, and is written
abbrev pub MayTake : (MayWrite : (depth slot index : ℕ) → Type 0) (depth : ℕ) → Destination → Type 0
MayTake MayWrite n None = ⊤
MayTake MayWrite n (Some x) = (x.depth ≡ n) × MayWrite x.depth x.slot 0

-- a word may be written
abbrev pub IsFree : Stack → (depth slot index : ℕ) → Type 0
IsFree h d s i = may_write (h.words d s i) ≡ true

-- a reference may be written
abbrev pub IsFreeReference : Stack → (depth slot : ℕ) → Type 0
IsFreeReference h d s = may_write (h.references d s) ≡ true

-- ---- the rules

-- Rules for a property of two moves, each as a function of the stack: the steps of one item before two rests and with two
-- accounts. A silent step puts `new` before the rest. Where something is written `writes` is true.
module _ (writes : Bool) (MayWrite : (depth slot index : ℕ) → Type 0) (MayRefer : (depth slot : ℕ) → Type 0) (P : (Stack → Move) → (Stack → Move) → Type 0)
    (c : Control) (account : ℕ) (rest : List Item) (k l : List Item) where
  -- the control of the second
  abbrev other : Control
  other = control c.calls account c.hand rest

  pub record Rules : Type 0 where
    pub none : P (λ h. move.stuck) (λ h. move.stuck)
    pub error : (t : Trap) → P (λ h. move.traps t) (λ h. move.traps t)
    pub reads : (d s i : ℕ) (f m : ℤ → Stack → Move) → ((v : ℤ) → P (f v) (m v)) → P (λ h. when_readable (h.words d s i) (λ v. f v h)) (λ h. when_readable (h.words d s i) (λ v. m v h))
    pub reads_reference : (d s : ℕ) (f m : Reference → Stack → Move) → ((r : Reference) → P (f r) (m r)) → P (λ h. when_readable (h.references d s) (λ r. f r h)) (λ h. when_readable (h.references d s) (λ r. m r h))
    pub writes_word : writes ≡ true → (d s i : ℕ) (f m : Stack → Move) → (MayWrite d s i → P f m) → P (λ h. when_writable (h.words d s i) (f h)) (λ h. when_writable (h.words d s i) (m h))
    pub writes_reference : writes ≡ true → (d s : ℕ) (f m : Stack → Move) → (MayRefer d s → P f m) → P (λ h. when_writable (h.references d s) (f h)) (λ h. when_writable (h.references d s) (m h))
    pub goes : (x : Change) (y : Hand) (new : List Item) → MayChange MayWrite MayRefer (top c.calls) x → IsPlainRow new
        → P (λ h. move.silent (control c.calls c.account y (new ++ k)) (changed (top c.calls) x h)) (λ h. move.silent (control c.calls account y (new ++ l)) (changed (top c.calls) x h))
    pub called : (f : ℕ) (ws : List Argument) → P (λ h. move.silent (control c.calls c.account (entering f ws) k) h) (λ h. move.silent (control c.calls account (entering f ws) l) h)
    pub spawns : (f : ℕ) (ws : List Argument) (x : Destination) → MayTake MayWrite (top c.calls) x
        → P (λ h. move.spawns (control c.calls c.account (entering f ws) []) (lent_stack h x ws) x (to c k) (kept_stack h x ws))
        (λ h. move.spawns (control c.calls account (entering f ws) []) (lent_stack h x ws) x (to other l) (kept_stack h x ws))
    pub ticks : (y : Hand) → P (λ h. move.ticks (control c.calls c.account y k) h) (λ h. move.ticks (control c.calls account y l) h)
    pub prints : (v : ℤ) → P (λ h. move.prints v (to c k) h) (λ h. move.prints v (to other l) h)
    pub syncs : (y : Hand) → P (λ h. move.syncs (control c.calls c.account y k)) (λ h. move.syncs (control c.calls account y l))
    pub leaves : P (λ h. leave c h (rest_at_join k)) (λ h. leave other h (rest_at_join l))

-- the rules for a property of one move on one stack
module _ (P : Move → Type 0) (c : Control) (h : Stack) (k : List Item) where
  pub record MoveRules : Type 0 where
    pub none : P move.stuck
    pub error : (t : Trap) → P (move.traps t)
    pub goes : (x : Change) (y : Hand) (new : List Item) → MayChange (IsFree h) (IsFreeReference h) (top c.calls) x → IsPlainRow new → P (move.silent (control c.calls c.account y (new ++ k)) (changed (top c.calls) x h))
    pub called : (f : ℕ) (ws : List Argument) → P (move.silent (control c.calls c.account (entering f ws) k) h)
    pub spawns : (f : ℕ) (ws : List Argument) (x : Destination) → MayTake (IsFree h) (top c.calls) x → P (move.spawns (control c.calls c.account (entering f ws) []) (lent_stack h x ws) x (to c k) (kept_stack h x ws))
    pub ticks : (y : Hand) → P (move.ticks (control c.calls c.account y k) h)
    pub prints : (v : ℤ) → P (move.prints v (to c k) h)
    pub syncs : (y : Hand) → P (move.syncs (control c.calls c.account y k))
    pub leaves : P (leave c h (rest_at_join k))

  -- they are rules for two moves, of which the second is left out
  pub of_move : MoveRules → Rules true (IsFree h) (IsFreeReference h) (λ f m. P (f h)) c c.account c.rest k k
  of_move rules = record {
    none = rules.none;
    error = rules.error;
    reads = λ d s i f m e. reading P rules.none (h.words d s i) (λ v. f v h) (λ v q. e v);
    reads_reference = λ d s f m e. reading P rules.none (h.references d s) (λ r. f r h) (λ r q. e r);
    writes_word = λ w d s i f m e. writing P rules.none (h.words d s i) (f h) e;
    writes_reference = λ w d s f m e. writing P rules.none (h.references d s) (f h) e;
    goes = rules.goes;
    called = rules.called;
    spawns = rules.spawns;
    ticks = rules.ticks;
    prints = rules.prints;
    syncs = rules.syncs;
    leaves = rules.leaves;
  }
