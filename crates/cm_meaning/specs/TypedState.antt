-- Typed states of the serial elision: what is at hand and what is still to do fit the frames, and whatever is read there
-- is set. In the elision every word of a live frame is held.
use Rattle.std.specs.Prelude.{◌≡◌, ℕ, suc, ◌+◌, ◌≤◌, ◌<◌, ◌==◌, Bool, true, false, if◌then◌else◌, Option, None, Some, List, [], ◌∷◌, length, drop, slice_get, Contains, is_some, option_map}
use Rattle.cm_syntax.specs.declared.expr.Expr.{Expr}
use Rattle.cm_syntax.specs.declared.expr.Call.{Row_of-Arg}
use Rattle.cm_syntax.specs.declared.stmt.Slot.{Slot}
use Rattle.cm_syntax.specs.declared.stmt.Slot.TheVariants as slot
use Rattle.cm_syntax.specs.declared.stmt.Extent.{Extent}
use Rattle.cm_syntax.specs.declared.stmt.Extent.TheVariants as extent
use Rattle.cm_syntax.specs.Extent.{extent_of}
use Rattle.cm_syntax.specs.declared.stmt.Function.{Function}
use Rattle.cm_syntax.specs.declared.stmt.Stmt.{Stmt}
use Rattle.cm_syntax.specs.declared.stmt.Program.{Program}
use Rattle.cm_syntax.specs.ParseTree.{is_unary}
use Rattle.cm_syntax.specs.Fault.{parameter_slots}
use Rattle.cm_syntax.specs.Label.{silent, ticks, prints, spawns, syncs, traps, ends, stuck}
use Rattle.cm_syntax.specs.Cell.{Cell, absent, unset, present, shared, may_write}
use Rattle.cm_syntax.specs.Stack.{Reference, Stack, Destination, Argument, word, slice, IsUnder}
use Rattle.cm_syntax.specs.Rest.{Purpose, called, spawned, Item, evaluate, right, apply, prefix, both, either, truth, element, read, arguments, pass, take_back, discard, deliver, perform, sequence, body, declare, assign, update, locate, store, branch, turn, test, part, tick, show, exit, fall, join, end, Hand, holds, returned, entering, framing, Control}
use Rattle.cm_syntax.specs.Step.{Move, slots_in}
use Rattle.cm_meaning.specs.Typing.{is_arithmetic, IsUpdate, GivesWanted, IsSetScalar, IsSetRow, parameters_in, TypedExpression, TypedArguments, TypedOptional, TypedItems, set_by_items, set_behind, TypedStatement, TypedSequence, TypedBody}

-- ---- what is set

-- a value is there, and the whole of it is held
abbrev pub IsPresent : {A : Type 0} → Cell A → Type 0
IsPresent absent = ⊥
IsPresent unset = ⊥
IsPresent (present v) = Unit {0}
IsPresent (shared p v) = ⊥

-- the words that slices may refer to; a reference has none of its own
abbrev pub own_words : Option Extent → ℕ
own_words None = 0
own_words (Some extent.Word) = 1
own_words (Some (extent.Words words)) = words
own_words (Some extent.Reference) = 0

-- those of a variable
abbrev pub row_words : Option Slot → ℕ
row_words kind = own_words (option_map extent_of kind)

-- all of its words are there, or its reference
abbrev pub IsThere : Stack → (depth x : ℕ) → Option Extent → Type 0
IsThere h depth x None = ⊥
IsThere h depth x (Some extent.Reference) = IsPresent (h.references depth x)
IsThere h depth x (Some extent.Word) = (i : ℕ) → i < 1 → IsPresent (h.words depth x i)
IsThere h depth x (Some (extent.Words words)) = (i : ℕ) → i < words → IsPresent (h.words depth x i)

-- the variable of a slot was set
abbrev pub IsSet : Stack → (depth x : ℕ) → Option Slot → Type 0
IsSet h depth x kind = IsThere h depth x (option_map extent_of kind)

abbrev pub AreSet : Stack → (depth : ℕ) → List Slot → (set : List ℕ) → Type 0
AreSet h depth slots set = (x : ℕ) → Contains set x → IsSet h depth x (slice_get slots x)

-- What is at hand, as the items see it: nothing; a value; or what a call came back with, which may be a value.
pub data AtHand : Type 0 where
  nothing : AtHand
  value : AtHand
  back : (gives : Bool) → AtHand

abbrev pub at_hand : Hand → AtHand
at_hand (holds v) = value
at_hand (returned v) = back (is_some v)
at_hand _ = nothing

-- what a call came back with is at hand
abbrev pub HasComeBack : AtHand → Type 0
HasComeBack (back gives) = Unit {0}
HasComeBack _ = ⊥

-- the words that a reference has
abbrev pub reference_length : Cell Reference → ℕ
reference_length absent = 0
reference_length unset = 0
reference_length (present r) = r.length
reference_length (shared p r) = r.length

-- at the join of a function
abbrev pub at_join : (gives : Bool) → AtHand
at_join gives = if gives then value else nothing

-- ---- slices and arguments

module _ (program : Program) where
  -- the slots of the frame at a depth
  abbrev pub slots_at : (calls : List ℕ) → (depth : ℕ) → List Slot
  slots_at [] d = []
  slots_at (f ∷ calls) d = if d == length calls then slots_in (slice_get program.functions f) else slots_at calls d

  module _ (h : Stack) where
    -- a reference to set words of one variable of a live frame
    pub record IsReference (calls : List ℕ) (r : Reference) : Type 0 where
      pub live : r.depth < length calls
      pub within : r.start + r.length ≤ row_words (slice_get (slots_at calls r.depth) r.slot)
      pub set : (i : ℕ) → r.start ≤ i → i < r.start + r.length → IsPresent (h.words r.depth r.slot i)

    -- an argument fits its parameter
    abbrev pub FitsExtent : (calls : List ℕ) → Argument → Option Extent → Type 0
    FitsExtent calls (word v) (Some extent.Word) = Unit {0}
    FitsExtent calls (slice r) (Some extent.Reference) = IsReference calls r
    FitsExtent calls _ _ = ⊥

    -- the same of a parameter's slot
    abbrev pub FitsParameter : (calls : List ℕ) → Argument → Option Slot → Type 0
    FitsParameter calls w kind = FitsExtent calls w (option_map extent_of kind)

    -- the arguments, which stand last first, fit the first of these parameters
    abbrev pub FitParameters : (calls : List ℕ) → List Argument → (parameters : List Slot) → Type 0
    FitParameters calls [] parameters = Unit {0}
    FitParameters calls (w ∷ ws) parameters = FitsParameter calls w (slice_get parameters (length ws)) × FitParameters calls ws parameters

-- ---- rests

-- no element of this function's frame waits for the value that is written to it
abbrev pub HasNoStore : List Item → Type 0
HasNoStore [] = Unit {0}
HasNoStore (store a i o ∷ k) = ⊥
HasNoStore (join ∷ k) = Unit {0}
HasNoStore (_ ∷ k) = HasNoStore k

-- the words of a row: of the scalar or the array, or of what the slice refers to
abbrev pub extent_length : Stack → (depth a : ℕ) → Option Extent → ℕ
extent_length h depth a (Some extent.Reference) = reference_length (h.references depth a)
extent_length h depth a kind = own_words kind

-- the same of a variable's slot
abbrev pub row_length : Stack → (depth a : ℕ) → Option Slot → ℕ
row_length h depth a kind = extent_length h depth a (option_map extent_of kind)

-- the destination of a spawn, and where a value that came back goes: a scalar of the frame at this depth
abbrev pub FitsDestination : List Slot → Option ℕ → Type 0
FitsDestination slots None = Unit {0}
FitsDestination slots (Some x) = slice_get slots x ≡ Some slot.Scalar

abbrev pub FitsDelivery : List Slot → (depth : ℕ) → Destination → Type 0
FitsDelivery slots depth None = Unit {0}
FitsDelivery slots depth (Some x) = (x.depth ≡ depth) × (slice_get slots x.slot ≡ Some slot.Scalar)

-- what is at hand behind a call: what it came back with, or nothing where it was spawned
abbrev pub behind_call : Purpose → Option (Function ℕ) → AtHand
behind_call called None = nothing
behind_call called (Some g) = back g.gives
behind_call (spawned x) g = nothing

-- a spawn's destination
abbrev pub FitsPurpose : List Slot → Purpose → Type 0
FitsPurpose slots called = Unit {0}
FitsPurpose slots (spawned x) = FitsDestination slots x

module _ (functions : List (Function ℕ)) (function : Function ℕ) where
  -- what an `if` does where its condition is 0
  abbrev pub TypedOther : (set : List ℕ) → Option (Stmt ℕ) → Type 0
  TypedOther set None = Unit {0}
  TypedOther set (Some s) = TypedStatement functions function.slots function.gives set s

  -- a loop with its condition, what is done behind a turn, and its body
  abbrev pub TypedLoop : (set : List ℕ) → Option (Expr ℕ) → (step body : Stmt ℕ) → Type 0
  TypedLoop set t s b = TypedOptional functions function.slots set t × TypedStatement functions function.slots function.gives set s
      × TypedStatement functions function.slots function.gives set b

module _ (program : Program) (h : Stack) where
  -- a call with the arguments that are known, last first, and those to come
  abbrev pub FitsCall : (slots : List Slot) → (calls : List ℕ) → (set : List ℕ) → Option (Function ℕ) → List Argument → {n : _} → Row_of-Arg ℕ n → Type 0
  FitsCall slots calls set callee ws row = GivesWanted false callee × FitParameters program h calls ws (parameters_in callee)
      × TypedArguments program.functions slots set (drop (length ws) (parameters_in callee)) row

  -- the same where the next argument is the value at hand
  abbrev pub FitsPass : (slots : List Slot) → (calls : List ℕ) → (set : List ℕ) → Option (Function ℕ) → List Argument → {n : _} → Row_of-Arg ℕ n → Type 0
  FitsPass slots calls set callee ws row = GivesWanted false callee × FitParameters program h calls ws (parameters_in callee)
      × (slice_get (parameters_in callee) (length ws) ≡ Some slot.Scalar)
      × TypedArguments program.functions slots set (drop (suc (length ws)) (parameters_in callee)) row

  -- The items of a running function up to its join; `calls` are the live calls, the function's own first, `set` is
  -- what was set, and `after` says of the rest behind the end of the call that it fits.
  module _ (function : Function ℕ) (calls : List ℕ) (depth : ℕ) (after : List Item → Type 0) where
    -- behind the join: the end of the call
    abbrev pub Leaving : AtHand → List Item → Type 0
    Leaving a (end ∷ k) = (a ≡ at_join function.gives) × after k
    Leaving a _ = ⊥

    abbrev pub Inner : (set : List ℕ) → AtHand → List Item → Type 0
    Inner set a [] = ⊥
    Inner set a (evaluate e ∷ k) = TypedExpression program.functions function.slots set e × Inner set value k
    Inner set a (right o r ∷ k) = (a ≡ value) × (is_arithmetic o ≡ true) × TypedExpression program.functions function.slots set r × Inner set value k
    Inner set a (apply o v ∷ k) = (a ≡ value) × (is_arithmetic o ≡ true) × Inner set value k
    Inner set a (prefix o ∷ k) = (a ≡ value) × (is_unary o ≡ true) × Inner set value k
    Inner set a (both r ∷ k) = (a ≡ value) × TypedExpression program.functions function.slots set r × Inner set value k
    Inner set a (either r ∷ k) = (a ≡ value) × TypedExpression program.functions function.slots set r × Inner set value k
    Inner set a (truth ∷ k) = (a ≡ value) × Inner set value k
    Inner set a (element x ∷ k) = (a ≡ value) × IsSetRow program.functions function.slots set x × Inner set value k
    Inner set a (read ∷ k) = (a ≡ value) × Inner set value k
    Inner set a (arguments u f ws row ∷ k) = FitsPurpose function.slots u × FitsCall function.slots calls set (slice_get program.functions f) ws row
        × Inner set (behind_call u (slice_get program.functions f)) k
    Inner set a (pass u f ws row ∷ k) = (a ≡ value) × FitsPurpose function.slots u × FitsPass function.slots calls set (slice_get program.functions f) ws row
        × Inner set (behind_call u (slice_get program.functions f)) k
    Inner set a (take_back ∷ k) = (a ≡ back true) × Inner set value k
    Inner set a (discard ∷ k) = HasComeBack a × Inner set nothing k
    Inner set a (deliver x ∷ k) = HasComeBack a × FitsDelivery function.slots depth x × Inner set nothing k
    Inner set a (perform s ∷ k) = TypedStatement program.functions function.slots function.gives set s × HasNoStore k × Inner (set_behind set s) nothing k
    Inner set a (sequence row ∷ k) = TypedSequence program.functions function.slots function.gives set row × HasNoStore k × Inner set nothing k
    Inner set a (body row ∷ k) = TypedBody program.functions function.slots function.gives set row × HasNoStore k × Inner set nothing k
    Inner set a (declare row ∷ k) = TypedItems program.functions function.slots set row × HasNoStore k × Inner (set_by_items set row) nothing k
    Inner set a (assign x ∷ k) = (a ≡ value) × (slice_get function.slots x ≡ Some slot.Scalar) × Inner (x ∷ set) nothing k
    Inner set a (update x o ∷ k) = (a ≡ value) × IsSetScalar program.functions function.slots set x × (is_arithmetic o ≡ true) × Inner set nothing k
    Inner set a (locate x o e ∷ k) = (a ≡ value) × IsSetRow program.functions function.slots set x × IsUpdate o
        × TypedExpression program.functions function.slots set e × Inner set nothing k
    Inner set a (store x i o ∷ k) = (a ≡ value) × IsSetRow program.functions function.slots set x × IsUpdate o
        × (i < row_length h depth x (slice_get function.slots x)) × Inner set nothing k
    Inner set a (branch s o ∷ k) = (a ≡ value) × TypedStatement program.functions function.slots function.gives set s × TypedOther program.functions function set o
        × HasNoStore k × Inner set nothing k
    Inner set a (turn t s b ∷ k) = TypedLoop program.functions function set t s b × HasNoStore k × Inner set nothing k
    Inner set a (test t s b ∷ k) = (a ≡ value) × TypedLoop program.functions function set (Some t) s b × HasNoStore k × Inner set nothing k
    Inner set a (part x l r row ∷ k) = (a ≡ value) × IsSetRow program.functions function.slots set x
        × (slice_get function.slots l ≡ Some slot.Slice) × (slice_get function.slots r ≡ Some slot.Slice)
        × TypedSequence program.functions function.slots function.gives (r ∷ l ∷ set) row × HasNoStore k × Inner set nothing k
    Inner set a (tick ∷ k) = Inner set a k
    Inner set a (show ∷ k) = (a ≡ value) × Inner set nothing k
    Inner set a (exit ∷ k) = (a ≡ at_join function.gives) × Inner set nothing k
    Inner set a (fall ∷ k) = Inner set (at_join function.gives) k
    Inner set a (join ∷ k) = Leaving a k
    Inner set a (end ∷ k) = ⊥

  -- The rest behind the end of a call, with what the call came back with; `gives` tells whether the first call of all
  -- gives a value.
  abbrev pub Outer : (gives : Bool) → (calls : List ℕ) → AtHand → List Item → Type 0
  Outer gives [] a k = (a ≡ back gives) × (k ≡ [])
  Outer gives (f ∷ calls) a k = (function : Function ℕ) × (slice_get program.functions f ≡ Some function)
      × (set : List ℕ) × AreSet h (length calls) function.slots set
      × Inner function (f ∷ calls) (length calls) (Outer gives calls (back function.gives)) set a k

  -- a rest with the call that is running; only behind its join may the end of a call stand first
  abbrev pub Running : (gives : Bool) → (calls : List ℕ) → AtHand → List Item → Type 0
  Running gives (f ∷ calls) a (end ∷ k) = (function : Function ℕ) × (slice_get program.functions f ≡ Some function)
      × Leaving function (f ∷ calls) (length calls) (Outer gives calls (back function.gives)) a (end ∷ k)
  Running gives calls a k = Outer gives calls a k

  -- a call that is to take its tick or its frame
  abbrev pub Calling : (gives : Bool) → (calls : List ℕ) → (f : ℕ) → List Argument → List Item → Type 0
  Calling gives calls f ws k = (function : Function ℕ) × (slice_get program.functions f ≡ Some function)
      × FitParameters program h calls ws (parameter_slots function) × (length ws ≡ length (parameter_slots function))
      × Outer gives calls (back function.gives) k

  -- a rest with what is at hand
  abbrev pub Ready : (gives : Bool) → (calls : List ℕ) → Hand → List Item → Type 0
  Ready gives calls (entering f ws) k = Calling gives calls f ws k
  Ready gives calls (framing f ws) k = Calling gives calls f ws k
  Ready gives calls hand k = Running gives calls (at_hand hand) k

-- ---- states

-- A state of the elision; `gives` tells whether the first call of all gives a value.
pub record TypedState (program : Program) (gives : Bool) (c : Control) (h : Stack) : Type 0 where
  -- every word and reference of the live frames is held whole, and nothing beyond
  pub words : (d s i : ℕ) → d < length c.calls → may_write (h.words d s i) ≡ true
  pub references : (d s : ℕ) → d < length c.calls → may_write (h.references d s) ≡ true
  pub below : IsUnder (length c.calls) h
  -- a reference is to set words of its own frame or of one before it
  pub refers : (d s : ℕ) (r : Reference) → h.references d s ≡ present r → (r.depth ≤ d) × IsReference program h c.calls r
  pub rest : Ready program h gives c.calls c.hand c.rest

-- a step of the elision leads to a typed state again, or the run ends
abbrev pub KeepsTyped : Program → (gives : Bool) → Move → Type 0
KeepsTyped program gives (silent t g) = TypedState program gives t g
KeepsTyped program gives (ticks t g) = TypedState program gives t g
KeepsTyped program gives (prints v t g) = TypedState program gives t g
KeepsTyped program gives (spawns call lent x t g) = ⊥
KeepsTyped program gives (syncs t) = ⊥
KeepsTyped program gives (traps k) = Unit {0}
KeepsTyped program gives (ends v) = is_some v ≡ gives
KeepsTyped program gives stuck = ⊥
