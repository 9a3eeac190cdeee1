-- How the evaluator keeps the words of frames: one frame behind the other in one list, and in a frame one slot behind
-- the other. A slice has its reference at the place of its first word, in a list of its own.
use Rattle.std.specs.Prelude.{◌≡◌, ℕ, ◌+◌, ◌<◌, ◌≤◌, ◌==◌, if◌then◌else◌, ℤ, pos, Option, None, Some, List, [], ◌∷◌, ◌++◌, length, map, reverse, take, slice_get, slice_index, option_map}
use Rattle.cm_syntax.specs.declared.stmt.Slot.{Slot}
use Rattle.cm_syntax.specs.declared.stmt.Extent.{Extent}
use Rattle.cm_syntax.specs.declared.stmt.Extent.TheVariants as extent
use Rattle.cm_syntax.specs.Extent.{extent_of, extent_at}
use Rattle.cm_syntax.specs.declared.stmt.Function.{Function}
use Rattle.cm_syntax.specs.declared.stmt.Program.{Program}
use Rattle.cm_syntax.specs.Fault.{parameter_slots}
use Rattle.cm_syntax.specs.Frame.{slot_words, slots_words, frame_words, extent_words}
use Rattle.cm_syntax.specs.Limit.{max_frame_words}
use Rattle.cm_syntax.specs.Cell.{present}
use Rattle.cm_syntax.specs.Stack as stack
use Rattle.cm_syntax.specs.Step.{top, scalar_slice}
use Rattle.cm_meaning.specs.TypedState.{slots_at, row_words}
use Rattle.cm_meaning.specs.declared.frames.Frames.{Frames}
use Rattle.cm_meaning.specs.declared.frames.Frame as frame
use Rattle.cm_meaning.specs.declared.frames.Layout as layout
use Rattle.cm_meaning.specs.declared.reference.Reference as declared
use Rattle.cm_meaning.specs.declared.reference.Argument as argument
use Rattle.cm_meaning.specs.declared.reference.Argument.TheVariants as arguments
use Rattle.cm_meaning.specs.Range.{max_stack_words}

-- ---- values

-- the reference
abbrev pub reference_of : declared.Reference → stack.Reference
reference_of r = record { depth = r.depth; slot = r.slot; start = r.start; length = r.length }

-- the argument
abbrev pub argument_of : argument.Argument → stack.Argument
argument_of (arguments.Word v) = stack.word v
argument_of (arguments.Slice r) = stack.slice (reference_of r)

-- ---- places

-- the words of a function's frame
abbrev pub words_in : Option (Function ℕ) → ℕ
words_in None = 0
words_in (Some function) = frame_words function

-- the words of the frames of these calls together
abbrev pub frames_words : Program → (calls : List ℕ) → ℕ
frames_words program [] = 0
frames_words program (f ∷ calls) = frames_words program calls + words_in (slice_get program.functions f)

-- where the frame at a depth begins
abbrev pub base_at : Program → (calls : List ℕ) → (depth : ℕ) → ℕ
base_at program [] depth = 0
base_at program (f ∷ calls) depth = if depth == length calls then frames_words program calls else base_at program calls depth

-- where a word of a slot stands
abbrev pub address : Program → (calls : List ℕ) → (depth slot index : ℕ) → ℕ
address program calls depth x index = base_at program calls depth + (slots_words (take x (slots_at program calls depth)) + index)

-- where the words of each slot begin, behind so many words
abbrev pub offsets_from : (before : ℕ) → List Slot → List ℕ
offsets_from before [] = []
offsets_from before (first ∷ more) = before ∷ offsets_from (before + slot_words first) more

-- how a function's frame is laid out
abbrev pub layout_of : Function ℕ → layout.Layout
layout_of function = record { words = frame_words function; offsets = offsets_from 0 function.slots }

-- the frames of these calls, the first one first
abbrev pub frames_of : Program → (calls : List ℕ) → List frame.Frame
frames_of program [] = []
frames_of program (f ∷ calls) = frames_of program calls ++ record { function = f; base = frames_words program calls } ∷ []

-- the functions of these calls are there
abbrev pub AreKnown : Program → (calls : List ℕ) → Type 0
AreKnown program [] = Unit {0}
AreKnown program (f ∷ calls) = (f < length program.functions) × AreKnown program calls

-- the words that an extent takes
abbrev pub taken_words : Option Extent → ℕ
taken_words None = 0
taken_words (Some kind) = extent_words kind

-- the words that a slot takes
abbrev pub place_words : Option Slot → ℕ
place_words kind = taken_words (option_map extent_of kind)

-- ---- what is kept

-- the program
abbrev pub program_in : Frames → Program
program_in frames = frames.program.now

-- the live calls, the last one first
abbrev pub calls_in : Frames → List ℕ
calls_in frames = reverse (map (λ frame. frame.function) frames.frames.items)

-- how many words there is room for
abbrev pub room_in : Frames → ℕ
room_in frames = length frames.words.items

-- each function's frame is within the limit
abbrev pub FitFrames : Program → Type 0
FitFrames program = (f : ℕ) (function : Function ℕ) → slice_get program.functions f ≡ Some function → frame_words function ≤ max_frame_words

-- The frames are laid out as the program has them, one behind the other.
pub record IsLaidOut (frames : Frames) : Type 0 where
  pub fits : FitFrames (program_in frames)
  pub layouts : frames.layouts ≡ map layout_of (program_in frames).functions
  pub known : AreKnown (program_in frames) (calls_in frames)
  pub placed : frames.frames.items ≡ frames_of (program_in frames) (calls_in frames)
  pub used : frames.used ≡ frames_words (program_in frames) (calls_in frames)
  pub within : frames_words (program_in frames) (calls_in frames) ≤ room_in frames
  pub paired : length frames.references.items ≡ room_in frames
  pub few : room_in frames ≤ max_stack_words

-- a word that a slot of a live frame takes
abbrev pub IsPlaceAt : Frames → (depth slot index : ℕ) → Type 0
IsPlaceAt frames depth x index =
    (depth < length (calls_in frames)) × (index < place_words (slice_get (slots_at (program_in frames) (calls_in frames) depth) x))

-- a word of a scalar or an array of a live frame
abbrev pub IsWordAt : Frames → (depth slot index : ℕ) → Type 0
IsWordAt frames depth x index =
    (depth < length (calls_in frames)) × (index < row_words (slice_get (slots_at (program_in frames) (calls_in frames) depth) x))

-- what a slot of the running function is
abbrev pub slot_in : Frames → (x : ℕ) → Option Slot
slot_in frames x = slice_get (slots_at (program_in frames) (calls_in frames) (top (calls_in frames))) x

-- what it has
abbrev pub extent_in : Frames → (x : ℕ) → Option Extent
extent_in frames x = option_map extent_of (slot_in frames x)

-- What is present in the stack is what is kept. Nothing is said of words and references that are unset.
pub record Shows (frames : Frames) (h : stack.Stack) : Type 0 where
  pub words : (depth x index : ℕ) (v : ℤ) → IsWordAt frames depth x index → h.words depth x index ≡ present v
      → slice_get frames.words.items (address (program_in frames) (calls_in frames) depth x index) ≡ Some v
  pub references : (depth x : ℕ) (r : stack.Reference) → depth < length (calls_in frames)
      → extent_at (slots_at (program_in frames) (calls_in frames) depth) x ≡ Some extent.Reference → h.references depth x ≡ present r
      → slice_get (map reference_of frames.references.items) (address (program_in frames) (calls_in frames) depth x 0) ≡ Some r

-- the frames show a stack behind what was done to it
abbrev pub ShowsAfter : (old new : Frames) → (stack.Stack → stack.Stack) → Type 0
ShowsAfter old new done = (h : stack.Stack) → Shows old h → Shows new (done h)

-- No frame yet: nothing is live, and there is room for so many words.
pub record IsNew (program : Program) (room : ℕ) (frames : Frames) : Type 0 where
  pub laid : IsLaidOut frames
  pub calls : calls_in frames ≡ []
  pub place : room_in frames ≡ room
  pub of : program_in frames ≡ program
  pub shows : (h : stack.Stack) → Shows frames h

-- the same program and room
pub record IsSamePlace (old new : Frames) : Type 0 where
  pub program : program_in new ≡ program_in old
  pub room : room_in new ≡ room_in old

-- the slot is an array
abbrev pub HasWords : Option Extent → Type 0
HasWords (Some (extent.Words words)) = Unit {0}
HasWords _ = ⊥

-- the same of a slot
abbrev pub IsArray : Option Slot → Type 0
IsArray kind = HasWords (option_map extent_of kind)

-- A row of the running function: its scalar, its array, or what its slice refers to.
abbrev pub IsReach : stack.Stack → (calls : List ℕ) → (x : ℕ) → Option Extent → stack.Reference → Type 0
IsReach h calls x None r = ⊥
IsReach h calls x (Some extent.Word) r = r ≡ scalar_slice (top calls) x
IsReach h calls x (Some (extent.Words words)) r = r ≡ record { depth = top calls; slot = x; start = 0; length = words }
IsReach h calls x (Some extent.Reference) r = (s : stack.Reference) → h.references (top calls) x ≡ present s → r ≡ s

-- the same of a slot
abbrev pub IsRowOf : stack.Stack → (calls : List ℕ) → (x : ℕ) → Option Slot → stack.Reference → Type 0
IsRowOf h calls x kind r = IsReach h calls x (option_map extent_of kind) r

-- the arguments in their order are of the kinds of these parameters
abbrev pub AreOfExtents : List argument.Argument → List Extent → Type 0
AreOfExtents [] [] = Unit {0}
AreOfExtents (arguments.Word v ∷ more) (extent.Word ∷ parameters) = AreOfExtents more parameters
AreOfExtents (arguments.Slice r ∷ more) (extent.Reference ∷ parameters) = AreOfExtents more parameters
AreOfExtents _ _ = ⊥

-- the same of the slots of parameters
abbrev pub AreOfKinds : List argument.Argument → List Slot → Type 0
AreOfKinds ws parameters = AreOfExtents ws (map extent_of parameters)

-- A function that is there and takes these arguments: they are of the kinds of its parameters, which are its first slots.
pub record TakesArguments (program : Program) (f : ℕ) (ws : List argument.Argument) : Type 0 where
  pub function : Function ℕ
  pub others : List Slot
  pub there : slice_get program.functions f ≡ Some function
  pub slots : function.slots ≡ parameter_slots function ++ others
  pub kinds : AreOfKinds ws (parameter_slots function)

-- The places of so many first slots ascend, and are below a limit.
pub record ArePlaces (offsets : List ℕ) (base count limit : ℕ) : Type 0 where
  pub there : count ≤ length offsets
  pub below : (x : ℕ) → x < count → base + slice_index offsets x < limit
  pub ascend : (x y : ℕ) → x < y → y < count → slice_index offsets x < slice_index offsets y

-- Of the arguments so many stand in the places of their slots, and nothing before the base changed.
pub record ArePut (offsets : List ℕ) (base count : ℕ) (ws : List argument.Argument) (old_words words : List ℤ)
    (old_references references : List declared.Reference) : Type 0 where
  pub words_length : length words ≡ length old_words
  pub references_length : length references ≡ length old_references
  pub words_kept : (a : ℕ) → a < base → slice_get words a ≡ slice_get old_words a
  pub references_kept : (a : ℕ) → a < base → slice_get references a ≡ slice_get old_references a
  pub words_put : (x : ℕ) (v : ℤ) → x < count → slice_get ws x ≡ Some (arguments.Word v)
      → slice_get words (base + slice_index offsets x) ≡ Some v
  pub references_put : (x : ℕ) (r : declared.Reference) → x < count → slice_get ws x ≡ Some (arguments.Slice r)
      → slice_get references (base + slice_index offsets x) ≡ Some r

-- So many words from a place on are 0, and the others as before.
pub record AreCleared (start count : ℕ) (old_words words : List ℤ) : Type 0 where
  pub same_length : length words ≡ length old_words
  pub before : (a : ℕ) → a < start → slice_get words a ≡ slice_get old_words a
  pub behind : (a : ℕ) → start + count ≤ a → slice_get words a ≡ slice_get old_words a
  pub cleared : (i : ℕ) → i < count → slice_get words (start + i) ≡ Some (pos 0)
