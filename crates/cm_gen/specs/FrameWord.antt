-- The words of frames. A frame's words are numbered from 1 downwards from its address: the return address, the caller's
-- frame pointer, the slots, the temporaries. Word n of a frame is 4 n bytes below its address.
use Rattle.std.specs.Prelude.{◌≡◌, ℕ, zero, suc, ◌+◌, ◌*◌, ◌-◌, ◌%◌, ◌<◌, ◌≤◌, ◌==◌, ◌⊎◌, ⊤, true, if◌then◌else◌, ℤ, Option, None, Some, FitsSigned, List, [], ◌∷◌, length, slice_get, option_map}
use Rattle.std.specs.Int.{w32, cast_unsigned}
use Rattle.cm_isa.specs.Machine.{Mapped, writable, IsWritable, Stored, reads}
use Rattle.cm_syntax.specs.declared.stmt.Slot.{Slot}
use Rattle.cm_syntax.specs.declared.stmt.Extent.{Extent}
use Rattle.cm_syntax.specs.declared.stmt.Extent.TheVariants as extent
use Rattle.cm_syntax.specs.Extent.{extent_of}
use Rattle.cm_syntax.specs.declared.stmt.Function.{Function}
use Rattle.cm_syntax.specs.declared.stmt.Program.{Program}
use Rattle.cm_syntax.specs.Frame.{slots_words, frame_words, extent_words}
use Rattle.cm_syntax.specs.Cell.{Cell, absent, unset, present, shared, value_in, map_cell}
use Rattle.cm_syntax.specs.Stack.{Reference, Stack, Argument, word, slice}
use Rattle.cm_syntax.specs.Rest.{Item, apply, arguments, pass, store, end}
use Rattle.cm_syntax.specs.Step.{top, scalar_slice, call_bytes_in}
use Rattle.cm_meaning.specs.TypedState.{slots_at}
use Rattle.cm_gen.specs.Run.{stack_top}
use Rattle.cm_gen.specs.Expression.{words_through}
use Rattle.cm_gen.specs.Standing.{Frame, used, arguments_size, slots_here}

-- ---- numbers of words

-- the words of a slot that may not be there
abbrev pub words_for : Option Extent → ℕ
words_for None = 0
words_for (Some kind) = extent_words kind

-- those of a slot
abbrev pub words_in_slot : Option Slot → ℕ
words_in_slot kind = words_for (option_map extent_of kind)

-- the index is of a word of the slot
abbrev pub IsPlace : List Slot → (s i : ℕ) → Type 0
IsPlace slots s i = i < words_in_slot (slice_get slots s)

-- its number; the lowest word of a slot has the greatest number
abbrev pub word_number : List Slot → (s i : ℕ) → ℕ
word_number slots s i = 2 + words_through slots s - i

-- the number of a temporary
abbrev pub temporary_number : List Slot → (j : ℕ) → ℕ
temporary_number slots j = 3 + slots_words slots + j

-- a number that isn't of a slot's word: a saved word, or a temporary
abbrev pub IsOwnNumber : List Slot → (n : ℕ) → Type 0
IsOwnNumber slots n = (n ≤ 2) ⊎ (2 + slots_words slots < n)

-- the bits of a value
abbrev pub bits : ℤ → ℕ
bits v = cast_unsigned w32 v

-- the words of a function's frame
abbrev pub words_in : Option (Function ℕ) → ℕ
words_in None = 0
words_in (Some function) = frame_words function

-- a function that is marked `cilk`
abbrev pub IsMarked : Option (Function ℕ) → Type 0
IsMarked None = ⊥
IsMarked (Some function) = function.cilk ≡ true

-- ---- addresses

-- the address of the frame at a depth; the last frame stands first
abbrev pub address_at : List Frame → (depth : ℕ) → ℕ
address_at [] d = 0
address_at (F ∷ frames) d = if d == length frames then F.address else address_at frames d

-- the frame pointer of the last frame
abbrev pub pointer_of : List Frame → ℕ
pointer_of [] = 0
pointer_of (F ∷ frames) = F.address

-- the address of a numbered word
abbrev pub word_address : List Frame → (depth number : ℕ) → ℕ
word_address frames d n = address_at frames d - 4 * n

module _ (program : Program) (page : ℕ) where
  -- the bytes of a function's frame
  abbrev pub bytes_of : (f : ℕ) → ℕ
  bytes_of f = 4 * words_in (slice_get program.functions f)

  -- the words of the frame at a depth
  abbrev pub words_at : List ℕ → (depth : ℕ) → ℕ
  words_at [] d = 0
  words_at (f ∷ calls) d = if d == length calls then words_in (slice_get program.functions f) else words_at calls d

  -- An address at which the next frame may stand: main's at the top of the stack; another one at the low end of the frame
  -- before it, or, where that one's function is marked `cilk`, also at the beginning of the page in which the low end is.
  abbrev pub MayStand : (calls : List ℕ) → List Frame → (address : ℕ) → Type 0
  MayStand [] [] a = a ≡ stack_top
  MayStand (f ∷ calls) (F ∷ frames) a = (a ≡ F.address - bytes_of f)
      ⊎ (IsMarked (slice_get program.functions f) × (a ≡ (F.address - bytes_of f) - (F.address - bytes_of f) % page))
  MayStand _ _ a = ⊥

  -- each frame is of a function of the program, and stands where it may, in whole words, above address 0
  abbrev pub AreFrames : (calls : List ℕ) → List Frame → Type 0
  AreFrames [] [] = ⊤
  AreFrames (f ∷ calls) (F ∷ frames) = MayStand calls frames F.address × (F.address % 4 ≡ 0) × (bytes_of f ≤ F.address) × AreFrames calls frames
      × (2 ≤ words_in (slice_get program.functions f))
  AreFrames _ _ = ⊥

  -- what the calls took of the account together
  abbrev pub taken : (calls : List ℕ) → ℕ
  taken [] = 0
  taken (f ∷ calls) = call_bytes_in page (slice_get program.functions f) + taken calls

  -- ---- what the words are

  -- the address of a word that a reference begins at
  abbrev pub reference_address : (calls : List ℕ) → List Frame → Reference → ℕ
  reference_address calls frames r = word_address frames r.depth (word_number (slots_at program calls r.depth) r.slot r.start)

  -- what stands in the two words of a slice
  abbrev pub slice_value : (calls : List ℕ) → List Frame → Reference → (i : ℕ) → ℕ
  slice_value calls frames r zero = reference_address calls frames r
  slice_value calls frames r (suc i) = r.length

  abbrev pub slice_cell : (calls : List ℕ) → List Frame → Cell Reference → (i : ℕ) → Cell ℕ
  slice_cell calls frames c i = map_cell (λ r. slice_value calls frames r i) c

  -- what stands in a word
  abbrev pub value_cell : Cell ℤ → Cell ℕ
  value_cell c = map_cell bits c

  -- what stands in a word of a slot, by what the slot has
  abbrev pub cell_for : Option Extent → (calls : List ℕ) → List Frame → Stack → (d s i : ℕ) → Cell ℕ
  cell_for (Some extent.Reference) calls frames h d s i = slice_cell calls frames (h.references d s) i
  cell_for _ calls frames h d s i = value_cell (h.words d s i)

  -- the same of a slot
  abbrev pub cell_in : Option Slot → (calls : List ℕ) → List Frame → Stack → (d s i : ℕ) → Cell ℕ
  cell_in kind calls frames h d s i = cell_for (option_map extent_of kind) calls frames h d s i

  abbrev pub cell_at : (calls : List ℕ) → List Frame → Stack → (d s i : ℕ) → Cell ℕ
  cell_at calls frames h d s i = cell_in (slice_get (slots_at program calls d) s) calls frames h d s i

  -- the word that is mapped has what the cell says
  abbrev pub HasCell : Cell ℕ → Stored → Type 0
  HasCell absent found = ⊤
  HasCell unset found = IsWritable found
  HasCell (present n) found = found ≡ writable n
  HasCell (shared p n) found = reads found ≡ Some n

  -- The words of the slots of live frames are where they belong. Of absent words nothing is said.
  abbrev pub Holds : (calls : List ℕ) → List Frame → Stack → Mapped → Type 0
  Holds calls frames h w = (d s i : ℕ) → d < length calls → IsPlace (slots_at program calls d) s i
      → HasCell (cell_at calls frames h d s i) (w (word_address frames d (word_number (slots_at program calls d) s i)))

  -- the words of a slot as a reference: an array's own, or what the slice refers to
  abbrev pub row_for : Option Extent → (calls : List ℕ) → Stack → (a : ℕ) → Cell Reference
  row_for None calls h a = absent
  row_for (Some extent.Word) calls h a = present (scalar_slice (top calls) a)
  row_for (Some (extent.Words n)) calls h a = present (record { depth = top calls; slot = a; start = 0; length = n })
  row_for (Some extent.Reference) calls h a = h.references (top calls) a

  -- the same of a slot
  abbrev pub row_in : Option Slot → (calls : List ℕ) → Stack → (a : ℕ) → Cell Reference
  row_in kind calls h a = row_for (option_map extent_of kind) calls h a

  -- of a slot of the running function
  abbrev pub row_of : (calls : List ℕ) → Stack → (a : ℕ) → Cell Reference
  row_of calls h a = row_in (slice_get (slots_here program calls) a) calls h a

  -- ---- what a rest knows

  -- temporary j of the running function has this word
  abbrev pub HasTemporary : (calls : List ℕ) → List Frame → Mapped → (j v : ℕ) → Type 0
  HasTemporary calls frames w j v = w (word_address frames (top calls) (temporary_number (slots_here program calls) j)) ≡ writable v

  -- the known arguments, last first, are in the temporaries from j on: a value in one, a slice in two
  abbrev pub HasArguments : (calls : List ℕ) → List Frame → Mapped → (j : ℕ) → List Argument → Type 0
  HasArguments calls frames w j [] = ⊤
  HasArguments calls frames w j (word v ∷ ws) = HasTemporary calls frames w (j + arguments_size ws) (bits v) × FitsSigned w32 v × HasArguments calls frames w j ws
  HasArguments calls frames w j (slice r ∷ ws) = HasTemporary calls frames w (j + arguments_size ws) (reference_address calls frames r)
      × HasTemporary calls frames w (j + arguments_size ws + 1) r.length × HasArguments calls frames w j ws

  -- the element that waits for its value has its address in temporary 0
  pub record HasElement (calls : List ℕ) (frames : List Frame) (h : Stack) (w : Mapped) (a i : ℕ) : Type 0 where
    pub row : Reference
    pub row_is : value_in (row_of calls h a) ≡ Some row
    pub address : HasTemporary calls frames w 0 (reference_address calls frames row + 4 * i)

  -- The operands and arguments that a rest knows are in their temporaries, and the saved words of the calls that it ends
  -- are in their places: where the call goes back to, and the frame pointer of the frame before it.
  abbrev pub Kept : List Item → (calls : List ℕ) → List Frame → Stack → Mapped → Type 0
  Kept [] calls frames h w = ⊤
  Kept (apply o a ∷ k) calls frames h w = HasTemporary calls frames w (used k) (bits a) × FitsSigned w32 a × Kept k calls frames h w
  Kept (arguments u f ws row ∷ k) calls frames h w = HasArguments calls frames w (used k) ws × Kept k calls frames h w
  Kept (pass u f ws row ∷ k) calls frames h w = HasArguments calls frames w (used k) ws × Kept k calls frames h w
  Kept (store a i o ∷ k) calls frames h w = HasElement calls frames h w a i × Kept k calls frames h w
  Kept (end ∷ k) (f ∷ calls) (F ∷ frames) h w = (w (F.address - 4) ≡ writable F.back) × (w (F.address - 8) ≡ writable (pointer_of frames)) × Kept k calls frames h w
  Kept (end ∷ k) _ _ h w = ⊥
  Kept (_ ∷ k) calls frames h w = Kept k calls frames h w

  -- the saved words and the temporaries of a call that the rest ends are mapped
  abbrev pub HasOwn : (ends : ℕ) → (calls : List ℕ) → List Frame → Mapped → Type 0
  HasOwn ends calls frames w = (d n : ℕ) → d < length calls → length calls ≤ d + ends → 0 < n → n ≤ words_at calls d
      → IsOwnNumber (slots_at program calls d) n → IsWritable (w (word_address frames d n))

  -- The words that a state speaks of: those of slots that aren't absent, and the saved words and temporaries of the calls that
  -- its rest ends. It reads and writes no other word, but those of a new frame.
  pub data Touches (calls : List ℕ) (frames : List Frame) (h : Stack) (ends : ℕ) (a : ℕ) : Type 0 where
    of_slot : (d s i : ℕ) → d < length calls → IsPlace (slots_at program calls d) s i → (cell_at calls frames h d s i ≡ absent → ⊥)
        → a ≡ word_address frames d (word_number (slots_at program calls d) s i) → Touches calls frames h ends a
    of_call : (d n : ℕ) → d < length calls → length calls ≤ d + ends → 0 < n → n ≤ words_at calls d → IsOwnNumber (slots_at program calls d) n
        → a ≡ word_address frames d n → Touches calls frames h ends a
