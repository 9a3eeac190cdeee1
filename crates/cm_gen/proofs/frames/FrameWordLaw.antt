-- The numbered words of frames: where they are, that they lie apart, and what a store into one of them does to what is
-- said of the others.
use Rattle.std.proofs.Common.{◌≡◌, ℕ, zero, suc, ◌+◌, ◌-◌, ◌*◌, ◌/◌, ◌%◌, ◌^◌, ◌<◌, ◌≤◌, List, [], ◌∷◌, length, Option, None, Some, refl, sym, ap, ◌∙◌, subst, arith, eq-eqb, inl, inr}
use Rattle.std.proofs.lemmas.Bool.{ne_eqb, cases_order}
use Rattle.std.proofs.lemmas.Bool.Decides.{eqb_tells}
use Rattle.std.proofs.lemmas.Int.{ints}
use Rattle.std.proofs.lemmas.Nat.{mod_below}
use Rattle.std.specs.Prelude.{true, false, ◌==◌, ◌⊎◌, if◌then◌else◌, max, ℤ, pos, ◌+ℤ◌, slice_get}
use Rattle.cm_isa.specs.Bits.{minus}
use Rattle.cm_isa.specs.Alu.{offset}
use Rattle.cm_isa.specs.Machine.{Mapped, with_word, writable}
use Rattle.cm_syntax.specs.declared.stmt.Slot.{Slot}
use Rattle.cm_syntax.specs.Extent.{extent_at}
use Rattle.cm_syntax.specs.declared.stmt.Extent.{Extent}
use Rattle.cm_syntax.specs.declared.stmt.Extent.TheVariants as extent
use Rattle.cm_syntax.specs.declared.stmt.Function.{Function}
use Rattle.cm_syntax.specs.declared.stmt.Program.{Program}
use Rattle.cm_syntax.specs.Frame.{slots_words, body_temporaries, frame_words, arguments_words}
use Rattle.cm_syntax.specs.Cell.{present, value_in}
use Rattle.cm_syntax.specs.Stack.{Stack, Argument, word, slice}
use Rattle.cm_syntax.specs.Rest.{Item, evaluate, right, apply, prefix, both, either, truth, element, read, arguments, pass, take_back, store, end}
use Rattle.cm_syntax.specs.Step.{top, slots_in, call_bytes_in}
use Rattle.cm_meaning.specs.TypedState.{slots_at}
use Rattle.cm_gen.specs.Run.{stack_top}
use Rattle.cm_gen.specs.Expression.{words_through, slot_offset, temporary_offset}
use Rattle.cm_gen.specs.Standing.{Frame, used, arguments_size, slots_here}
use Rattle.cm_gen.specs.FrameWord.{IsPlace, word_number, temporary_number, IsOwnNumber, words_in, IsMarked, bytes_of, words_at, address_at, pointer_of, word_address, MayStand, AreFrames, taken, cell_at, HasCell, Holds, HasArguments, Kept, HasOwn, row_of, row_for}
use Rattle.cm_gen.specs.Formed.{HasRoom, RestFits}
use Rattle.cm_gen.proofs.patterns.WordLaw as words
use Rattle.cm_gen.proofs.frames.MappedWordLaw.{with_word_same, with_word_other, with_word_mapped, own_of}

-- the last one of the frames, or an earlier one
pub at_end : (d n : ℕ) {A : Type 0} (x y : A) → d ≡ n → (if d == n then x else y) ≡ x
at_end d n x y e = let h : (d == n) ≡ true = eq-eqb d n e in rw h refl

pub at_before : (d n : ℕ) {A : Type 0} (x y : A) → d < n → (if d == n then x else y) ≡ y
at_before d n x y l = let h : (d == n) ≡ false = ne_eqb d n (λ e. omega (arith, l, e)) in rw h refl

-- ---- the numbers of a frame's words

pub place_low : (slots : List Slot) (s i : ℕ) → IsPlace slots s i → i < words_through slots s
place_low [] s i h = absurd (omega (arith, h))
place_low (first ∷ slots) zero i h = h
place_low (first ∷ slots) (suc s) i h = let a = place_low slots s i h in omega (arith, a)

pub place_high : (slots : List Slot) (s i : ℕ) → IsPlace slots s i → words_through slots s ≤ slots_words slots
place_high [] s i h = absurd (omega (arith, h))
place_high (first ∷ slots) zero i h = omega arith
place_high (first ∷ slots) (suc s) i h = let a = place_high slots s i h in omega (arith, a)

one_through : (slots : List Slot) (s i t j : ℕ) → IsPlace slots s i → IsPlace slots t j → words_through slots s - i ≡ words_through slots t - j → (s ≡ t) × (i ≡ j)
one_through [] s i t j g h e = absurd (omega (arith, g))
one_through (first ∷ slots) zero i zero j g h e = (refl, omega (arith, g, h, e))
one_through (first ∷ slots) zero i (suc t) j g h e = let a = place_low slots t j h in absurd (omega (arith, g, a, e))
one_through (first ∷ slots) (suc s) i zero j g h e = let a = place_low slots s i g in absurd (omega (arith, h, a, e))
one_through (first ∷ slots) (suc s) i (suc t) j g h e =
    let a = place_low slots s i g in let b = place_low slots t j h in
    let r = one_through slots s i t j g h (omega (arith, a, b, e)) in (ap suc r.0, r.1)

-- two places with one number are one
pub one_place : (slots : List Slot) (s i t j : ℕ) → IsPlace slots s i → IsPlace slots t j → word_number slots s i ≡ word_number slots t j → (s ≡ t) × (i ≡ j)
one_place slots s i t j g h e =
    let a = place_low slots s i g in let b = place_low slots t j h in one_through slots s i t j g h (omega (arith, a, b, e))

-- the number of a place is behind the saved words, and before the temporaries
pub record IsSlotNumber (slots : List Slot) (n : ℕ) : Type 0 where
  pub low : 2 < n
  pub high : n ≤ 2 + slots_words slots

pub place_number : (slots : List Slot) (s i : ℕ) → IsPlace slots s i → IsSlotNumber slots (word_number slots s i)
place_number slots s i h = let a = place_low slots s i h in let b = place_high slots s i h in record { low = omega (arith, a); high = omega (arith, a, b) }

-- a function's frame has its saved words, its slots and its temporaries
pub frame_holds : (function : Function ℕ) → 2 + slots_words function.slots + body_temporaries function.body ≤ frame_words function
frame_holds function = rounded (slots_words function.slots) (body_temporaries function.body)
  where
    rounded : (s t : ℕ) → 2 + s + t ≤ (2 + s + t + 3) / 4 * 4
    rounded s t = omega arith

module _ (program : Program) (page : ℕ) where
  pub lengths : (calls : List ℕ) (frames : List Frame) → AreFrames program page calls frames → length calls ≡ length frames
  lengths [] [] h = refl
  lengths (f ∷ calls) (F ∷ frames) h = ap suc (lengths calls frames h.3)
  lengths [] (F ∷ frames) h = absurd h
  lengths (f ∷ calls) [] h = absurd h

  -- the slots of the last frame, and its address
  pub slots_top : (f : ℕ) (calls : List ℕ) → slots_at program (f ∷ calls) (length calls) ≡ slots_here program (f ∷ calls)
  slots_top f calls = at_end (length calls) (length calls) _ _ refl

  pub words_top : (f : ℕ) (calls : List ℕ) → words_at program page (f ∷ calls) (length calls) ≡ words_in (slice_get program.functions f)
  words_top f calls = at_end (length calls) (length calls) _ _ refl

  pub address_top : (f : ℕ) (calls : List ℕ) (frames : List Frame) → AreFrames program page (f ∷ calls) frames → address_at frames (length calls) ≡ pointer_of frames
  address_top f calls [] h = absurd h
  address_top f calls (F ∷ frames) h = at_end (length calls) (length frames) _ _ (lengths calls frames h.3)

  -- a frame deeper in the stack is the same one when another one is on top
  pub slots_before : (f : ℕ) (calls : List ℕ) (d : ℕ) → d < length calls → slots_at program (f ∷ calls) d ≡ slots_at program calls d
  slots_before f calls d l = at_before d (length calls) _ _ l

  pub words_before : (f : ℕ) (calls : List ℕ) (d : ℕ) → d < length calls → words_at program page (f ∷ calls) d ≡ words_at program page calls d
  words_before f calls d l = at_before d (length calls) _ _ l

  pub address_before : (calls : List ℕ) (F : Frame) (frames : List Frame) (d : ℕ) → AreFrames program page calls frames → d < length calls → address_at (F ∷ frames) d ≡ address_at frames d
  address_before calls F frames d h l = at_before d (length frames) _ _ (subst (λ n. d < n) (lengths calls frames h) l)

  -- ---- where frames stand

  -- the low end of the last frame
  abbrev pub low_end : (calls : List ℕ) → List Frame → ℕ
  low_end [] frames = stack_top
  low_end (f ∷ calls) frames = pointer_of frames - bytes_of program page f

  -- the next frame stands at it or below it
  pub may_stand_low : (calls : List ℕ) (frames : List Frame) (a : ℕ) → MayStand program page calls frames a → a ≤ low_end calls frames
  may_stand_low [] [] a h = omega (arith, h)
  may_stand_low (f ∷ calls) (F ∷ frames) a h = elim h [ inl at ↦ omega (arith, at) | inr before ↦ omega (arith, before.1) ]
  may_stand_low [] (F ∷ frames) a h = absurd h
  may_stand_low (f ∷ calls) [] a h = absurd h

  -- and so it is below the top of the stack
  pub low_end_below : (calls : List ℕ) (frames : List Frame) → AreFrames program page calls frames → low_end calls frames ≤ 2 ^ 30
  low_end_below [] frames h = omega arith
  low_end_below (f ∷ calls) [] h = absurd h
  low_end_below (f ∷ calls) (F ∷ frames) h =
      let a = may_stand_low calls frames F.address h.0 in let b = low_end_below calls frames h.3 in omega (arith, a, b)

  -- a frame's words are above the low end
  pub above_low : (calls : List ℕ) (frames : List Frame) (d : ℕ) → AreFrames program page calls frames → d < length calls
      → low_end calls frames + 4 * words_at program page calls d ≤ address_at frames d
  above_low [] frames d h l = absurd (omega (arith, l))
  above_low (f ∷ calls) [] d h l = absurd h
  above_low (f ∷ calls) (F ∷ frames) d h l =
      elim (eqb_tells d (length calls)) [
        | inl here ↦
            let a = at_end d (length frames) F.address (address_at frames d) (here.1 ∙ lengths calls frames h.3) in
            let b = at_end d (length calls) (words_in (slice_get program.functions f)) (words_at program page calls d) here.1 in
            omega (arith, a, b, h.2)
        | inr other ↦
            let older : d < length calls = omega (arith, l, other.1) in
            let a = address_before calls F frames d h.3 older in
            let b = words_before f calls d older in
            let c = above_low calls frames d h.3 older in
            let g = may_stand_low calls frames F.address h.0 in
            omega (arith, a, b, c, g)
      ]

  -- a deeper frame is above the words of a later one
  pub deeper : (calls : List ℕ) (frames : List Frame) (d e : ℕ) → AreFrames program page calls frames → d < e → e < length calls
      → address_at frames e + 4 * words_at program page calls d ≤ address_at frames d
  deeper [] frames d e h l m = absurd (omega (arith, m))
  deeper (f ∷ calls) [] d e h l m = absurd h
  deeper (f ∷ calls) (F ∷ frames) d e h l m =
      let older : d < length calls = omega (arith, l, m) in
      let a = address_before calls F frames d h.3 older in
      let b = words_before f calls d older in
      elim (eqb_tells e (length calls)) [
        | inl here ↦
            let c = at_end e (length frames) F.address (address_at frames e) (here.1 ∙ lengths calls frames h.3) in
            let g = above_low calls frames d h.3 older in
            let k = may_stand_low calls frames F.address h.0 in
            omega (arith, a, b, c, g, k)
        | inr other ↦
            let inner : e < length calls = omega (arith, m, other.1) in
            let c = address_before calls F frames e h.3 inner in
            let g = deeper calls frames d e h.3 l inner in
            omega (arith, a, b, c, g)
      ]

  -- where the next frame may stand is a place of whole words
  pub may_stand_aligned : (calls : List ℕ) (frames : List Frame) (a : ℕ) → (page ≡ 256) ⊎ (page ≡ 1024) ⊎ (page ≡ 4096)
      → AreFrames program page calls frames → MayStand program page calls frames a → a % 4 ≡ 0
  may_stand_aligned [] [] a is h may = omega (arith, may)
  may_stand_aligned [] (F ∷ frames) a is h may = absurd h
  may_stand_aligned (f ∷ calls) [] a is h may = absurd h
  may_stand_aligned (f ∷ calls) (F ∷ frames) a is h may =
      let low : (F.address - bytes_of program page f) % 4 ≡ 0 = omega (arith, h.1, h.2) in
      elim may [ inl at ↦ ap (λ x. x % 4) at ∙ low | inr begins ↦ ap (λ x. x % 4) begins.1 ∙ rounded (F.address - bytes_of program page f) is low ]
    where
      rounded : (x : ℕ) → (page ≡ 256) ⊎ (page ≡ 1024) ⊎ (page ≡ 4096) → x % 4 ≡ 0 → (x - x % page) % 4 ≡ 0
      rounded x (inl one) l = let e : (x - x % 256) % 4 ≡ 0 = omega (arith, l) in subst (λ p. (x - x % p) % 4 ≡ 0) (sym one) e
      rounded x (inr (inl two)) l = let e : (x - x % 1024) % 4 ≡ 0 = omega (arith, l) in subst (λ p. (x - x % p) % 4 ≡ 0) (sym two) e
      rounded x (inr (inr three)) l = let e : (x - x % 4096) % 4 ≡ 0 = omega (arith, l) in subst (λ p. (x - x % p) % 4 ≡ 0) (sym three) e

  -- Each frame pays for its bytes, and a page more where the next one may stand at the beginning of a page: so the next one
  -- stands no deeper than what the calls took.
  pub may_stand_above : (calls : List ℕ) (frames : List Frame) (a : ℕ) → (page ≡ 256) ⊎ (page ≡ 1024) ⊎ (page ≡ 4096)
      → AreFrames program page calls frames → MayStand program page calls frames a → 2 ^ 30 ≤ a + taken program page calls
  may_stand_above [] [] a is h may = omega (arith, may)
  may_stand_above [] (F ∷ frames) a is h may = absurd h
  may_stand_above (f ∷ calls) [] a is h may = absurd h
  may_stand_above (f ∷ calls) (F ∷ frames) a is h may =
      let above = may_stand_above calls frames F.address is h.3 h.0 in
      next (slice_get program.functions f) h.2 may above
    where
      positive : (page ≡ 256) ⊎ (page ≡ 1024) ⊎ (page ≡ 4096) → 0 < page
      positive (inl one) = omega (arith, one)
      positive (inr (inl two)) = omega (arith, two)
      positive (inr (inr three)) = omega (arith, three)

      less : (x p : ℕ) → 0 < p → x ≤ (x - x % p) + p
      less x p h = omega (arith, mod_below x p h)

      next : (function : Option (Function ℕ)) → 4 * words_in function ≤ F.address
          → (a ≡ F.address - 4 * words_in function) ⊎ (IsMarked function × (a ≡ (F.address - 4 * words_in function) - (F.address - 4 * words_in function) % page))
          → 2 ^ 30 ≤ F.address + taken program page calls → 2 ^ 30 ≤ a + (call_bytes_in page function + taken program page calls)
      next None room (inl at) above = omega (arith, room, at, above)
      next None room (inr begins) above = absurd begins.0
      next (Some function) room (inl at) above = omega (arith, room, at, above)
      next (Some function) room (inr (marked, at)) above =
          let less = less (F.address - 4 * frame_words function) page (positive is) in
          let pays : (if function.cilk then page else 0) ≡ page = rw marked refl in
          omega (arith, room, at, above, less, pays)

  -- so a frame of so many bytes, which the account has, fits there
  pub frame_fits : (calls : List ℕ) (frames : List Frame) (a b limit account : ℕ) → (page ≡ 256) ⊎ (page ≡ 1024) ⊎ (page ≡ 4096)
      → AreFrames program page calls frames → MayStand program page calls frames a → limit ≤ 2 ^ 30 → account + taken program page calls ≡ limit → b ≤ account → b ≤ a
  frame_fits calls frames a b limit account is h may fits balance enough = let above = may_stand_above calls frames a is h may in omega (arith, above, fits, balance, enough)

  -- ---- numbered words

  -- a numbered word of the frame at a depth
  pub record IsWord (calls : List ℕ) (d n : ℕ) : Type 0 where
    pub deep : d < length calls
    pub low : 0 < n
    pub high : n ≤ words_at program page calls d

  -- a frame has its slots
  slots_fit : (calls : List ℕ) (d s i : ℕ) → d < length calls → IsPlace (slots_at program calls d) s i → 2 + slots_words (slots_at program calls d) ≤ words_at program page calls d
  slots_fit [] d s i l h = absurd (omega (arith, l))
  slots_fit (f ∷ calls) d s i l h =
      elim (eqb_tells d (length calls)) [
        | inl here ↦
            let a = at_end d (length calls) (words_in (slice_get program.functions f)) (words_at program page calls d) here.1 in
            let b = at_end d (length calls) (slots_in (slice_get program.functions f)) (slots_at program calls d) here.1 in
            let c = of_function (slice_get program.functions f) (subst (λ slots. IsPlace slots s i) b h) in
            omega (arith, a, ap slots_words b, c)
        | inr other ↦
            let older : d < length calls = omega (arith, l, other.1) in
            let b = slots_before f calls d older in
            let c = slots_fit calls d s i older (subst (λ slots. IsPlace slots s i) b h) in
            omega (arith, words_before f calls d older, ap slots_words b, c)
      ]
    where
      of_function : (function : Option (Function ℕ)) → IsPlace (slots_in function) s i → 2 + slots_words (slots_in function) ≤ words_in function
      of_function None h = absurd (omega (arith, h))
      of_function (Some function) h = let a = frame_holds function in omega (arith, a)

  -- the words of places, the temporaries and the saved words are words of their frames
  pub place_word : (calls : List ℕ) (d s i : ℕ) → d < length calls → IsPlace (slots_at program calls d) s i
      → IsWord calls d (word_number (slots_at program calls d) s i)
  place_word calls d s i deep h =
      let a = slots_fit calls d s i deep h in
      let b = place_number (slots_at program calls d) s i h in
      record { deep = deep; low = omega (arith, b.low); high = omega (arith, a, b.high) }

  pub temporary_word : (f : ℕ) (calls : List ℕ) (j count : ℕ) → HasRoom program page (f ∷ calls) count → j < count
      → IsWord (f ∷ calls) (length calls) (temporary_number (slots_here program (f ∷ calls)) j)
  temporary_word f calls j count room less =
      let a = words_top f calls in record { deep = omega arith; low = omega arith; high = omega (arith, a, room, less) }

  pub saved_word : (f : ℕ) (calls : List ℕ) (n : ℕ) → 2 ≤ words_in (slice_get program.functions f) → 0 < n → n ≤ 2 → IsWord (f ∷ calls) (length calls) n
  saved_word f calls n has some few = let a = words_top f calls in record { deep = omega arith; low = some; high = omega (arith, a, has, few) }

  -- two numbered words at one address are one
  pub one_word : (calls : List ℕ) (frames : List Frame) (d n e o : ℕ) → AreFrames program page calls frames → IsWord calls d n → IsWord calls e o
      → word_address frames d n ≡ word_address frames e o → (d ≡ e) × (n ≡ o)
  one_word calls frames d n e o h w x same =
      let a = above_low calls frames d h w.deep in
      let b = above_low calls frames e h x.deep in
      elim (cases_order d e) [
        | inl here ↦
            let c : address_at frames d ≡ address_at frames e = ap (address_at frames) here in
            let g : words_at program page calls d ≡ words_at program page calls e = ap (words_at program page calls) here in
            (here, omega (arith, a, b, c, g, same, w.high, x.high))
        | inr other ↦ absurd (elim other [
          | inl less ↦ let g = deeper calls frames d e h less x.deep in omega (arith, a, b, g, same, w.high, x.high, w.low, x.low)
          | inr more ↦ let g = deeper calls frames e d h more w.deep in omega (arith, a, b, g, same, w.high, x.high, w.low, x.low)
        ])
      ]

  -- what is said of an offset from the frame pointer of the running function
  pub record IsOffset (pointer : ℕ) (o : ℤ) (a : ℕ) : Type 0 where
    pub fits : pointer < 2 ^ 32
    pub address : offset pointer o ≡ a
    pub aligned : a % 4 ≡ 0

  -- the frame pointer
  pub record IsPointer (calls : List ℕ) (pointer : ℕ) : Type 0 where
    pub below : pointer ≤ 2 ^ 30
    pub aligned : pointer % 4 ≡ 0
    pub room : 4 * words_at program page calls (top calls) ≤ pointer

  pub pointer_is : (f : ℕ) (calls : List ℕ) (frames : List Frame) → AreFrames program page (f ∷ calls) frames → IsPointer (f ∷ calls) (pointer_of frames)
  pointer_is f calls [] h = absurd h
  pointer_is f calls (F ∷ frames) h =
      let a = low_end_below calls frames h.3 in let b = may_stand_low calls frames F.address h.0 in let c = words_top f calls in
      record { below = omega (arith, a, b); aligned = h.1; room = omega (arith, c, h.2) }

  -- an offset that is so many words below the frame pointer
  offset_is : (f : ℕ) (calls : List ℕ) (frames : List Frame) (n : ℕ) (o : ℤ) → AreFrames program page (f ∷ calls) frames → IsWord (f ∷ calls) (length calls) n
      → ((p : ℕ) → 4 * n ≤ p → pos p +ℤ o ≡ pos (p - 4 * n)) → IsOffset (pointer_of frames) o (word_address frames (length calls) n)
  offset_is f calls frames n o h within is =
      let p = pointer_is f calls frames h in
      let a = address_top f calls frames h in
      let fits : pointer_of frames < 2 ^ 32 = omega (arith, p.below) in
      let room : 4 * n ≤ pointer_of frames = omega (arith, p.room, within.high) in
      record {
        fits = fits;
        address = words.offset_down (pointer_of frames) (4 * n) room fits o (is (pointer_of frames) room) ∙ ap (λ b. b - 4 * n) (sym a);
        aligned = omega (arith, a, room, p.aligned);
      }

  -- of a numbered word
  pub offset_of : (f : ℕ) (calls : List ℕ) (frames : List Frame) (n : ℕ) → AreFrames program page (f ∷ calls) frames → IsWord (f ∷ calls) (length calls) n
      → IsOffset (pointer_of frames) (minus (4 * n)) (word_address frames (length calls) n)
  offset_of f calls frames n h within = offset_is f calls frames n (minus (4 * n)) h within (λ p l. down p (4 * n) l)
    where
      down : (p k : ℕ) → k ≤ p → pos p +ℤ minus k ≡ pos (p - k)
      down p k l = omega (arith, ints)

  -- the word of a place of the running function
  pub place_top : (f : ℕ) (calls : List ℕ) (s i : ℕ) → IsPlace (slots_here program (f ∷ calls)) s i → IsWord (f ∷ calls) (length calls) (word_number (slots_here program (f ∷ calls)) s i)
  place_top f calls s i place =
      let e = slots_top f calls in
      subst (λ slots. IsWord (f ∷ calls) (length calls) (word_number slots s i)) e
      (place_word (f ∷ calls) (length calls) s i (omega arith) (subst (λ slots. IsPlace slots s i) (sym e) place))

  -- of a slot's lowest word, of any word of it, and of a temporary
  pub slot_at_offset : (f : ℕ) (calls : List ℕ) (frames : List Frame) (s : ℕ) → AreFrames program page (f ∷ calls) frames → IsPlace (slots_here program (f ∷ calls)) s 0
      → IsOffset (pointer_of frames) (slot_offset (slots_here program (f ∷ calls)) s) (word_address frames (length calls) (word_number (slots_here program (f ∷ calls)) s 0))
  slot_at_offset f calls frames s h place =
      offset_is f calls frames (word_number (slots_here program (f ∷ calls)) s 0) _ h (place_top f calls s 0 place)
      (λ p l. down p (words_through (slots_here program (f ∷ calls)) s) l)
    where
      down : (p t : ℕ) → 4 * (2 + t - 0) ≤ p → pos p +ℤ minus (4 * (2 + t)) ≡ pos (p - 4 * (2 + t - 0))
      down p t l = omega (arith, ints)

  pub place_at_offset : (f : ℕ) (calls : List ℕ) (frames : List Frame) (s i : ℕ) → AreFrames program page (f ∷ calls) frames → IsPlace (slots_here program (f ∷ calls)) s i
      → IsOffset (pointer_of frames) (slot_offset (slots_here program (f ∷ calls)) s +ℤ pos (4 * i)) (word_address frames (length calls) (word_number (slots_here program (f ∷ calls)) s i))
  place_at_offset f calls frames s i h place =
      offset_is f calls frames (word_number (slots_here program (f ∷ calls)) s i) _ h (place_top f calls s i place)
      (λ p l. up p (words_through (slots_here program (f ∷ calls)) s) (place_low (slots_here program (f ∷ calls)) s i place) l)
    where
      up : (p t : ℕ) → i < t → 4 * (2 + t - i) ≤ p → pos p +ℤ (minus (4 * (2 + t)) +ℤ pos (4 * i)) ≡ pos (p - 4 * (2 + t - i))
      up p t less l = omega (arith, ints)

  pub temporary_at_offset : (f : ℕ) (calls : List ℕ) (frames : List Frame) (j count : ℕ) → AreFrames program page (f ∷ calls) frames → HasRoom program page (f ∷ calls) count → j < count
      → IsOffset (pointer_of frames) (temporary_offset (slots_here program (f ∷ calls)) j) (word_address frames (length calls) (temporary_number (slots_here program (f ∷ calls)) j))
  temporary_at_offset f calls frames j count h room less = offset_of f calls frames (temporary_number (slots_here program (f ∷ calls)) j) h (temporary_word f calls j count room less)

  -- ---- what a store does

  -- to another numbered word: nothing
  pub other_word : (calls : List ℕ) (frames : List Frame) (w : Mapped) (d n e o v : ℕ) → AreFrames program page calls frames → IsWord calls d n → IsWord calls e o
      → ((e ≡ d) → (o ≡ n) → ⊥) → with_word w (word_address frames d n) v (word_address frames e o) ≡ w (word_address frames e o)
  other_word calls frames w d n e o v h here there differ =
      with_word_other w (word_address frames d n) v (word_address frames e o) (λ same. let one = one_word calls frames e o d n h there here same in differ one.0 one.1)

  -- a number of a slot's word is no other one
  not_own : (slots : List Slot) (n : ℕ) → IsSlotNumber slots n → IsOwnNumber slots n → ⊥
  not_own slots n h (inl few) = omega (arith, few, h.low)
  not_own slots n h (inr many) = omega (arith, many, h.high)

  -- to the slots: a store into a word that is no slot's changes nothing of them
  pub holds_own : (calls : List ℕ) (frames : List Frame) (h : Stack) (w : Mapped) (d n v : ℕ) → AreFrames program page calls frames → IsWord calls d n → IsOwnNumber (slots_at program calls d) n
      → Holds program page calls frames h w → Holds program page calls frames h (with_word w (word_address frames d n) v)
  holds_own calls frames h w d n v shape here own holds = λ e s i deep place.
      subst (HasCell program page (cell_at program page calls frames h e s i))
      (sym (other_word calls frames w d n e (word_number (slots_at program calls e) s i) v shape here (place_word calls e s i deep place) (apart e s i place)))
      (holds e s i deep place)
    where
      apart : (e s i : ℕ) → IsPlace (slots_at program calls e) s i → e ≡ d → word_number (slots_at program calls e) s i ≡ n → ⊥
      apart e s i place same one =
          not_own (slots_at program calls e) (word_number (slots_at program calls e) s i) (place_number (slots_at program calls e) s i place)
          (subst (λ m. IsOwnNumber (slots_at program calls e) m) (sym one) (subst (λ c. IsOwnNumber (slots_at program calls c) n) (sym same) own))

  -- the address of a place
  abbrev place_address : (calls : List ℕ) → List Frame → (d s i : ℕ) → ℕ
  place_address calls frames d s i = word_address frames d (word_number (slots_at program calls d) s i)

  -- a store into a place gives it this cell, and the other places keep theirs
  pub holds_place : (calls : List ℕ) (frames : List Frame) (h g : Stack) (w : Mapped) (d s i v : ℕ) → AreFrames program page calls frames → d < length calls → IsPlace (slots_at program calls d) s i
      → cell_at program page calls frames g d s i ≡ present v
      → ((e t j : ℕ) → e < length calls → IsPlace (slots_at program calls e) t j
      → (cell_at program page calls frames g e t j ≡ cell_at program page calls frames h e t j) ⊎ ((e ≡ d) × (t ≡ s) × (j ≡ i)))
      → Holds program page calls frames h w → Holds program page calls frames g (with_word w (word_address frames d (word_number (slots_at program calls d) s i)) v)
  holds_place calls frames h g w d s i v shape deep place put cells holds = λ e t j low there. by_number e t j low there
    where
      at_place : (e t j : ℕ) → e ≡ d → t ≡ s → j ≡ i → HasCell program page (cell_at program page calls frames g e t j) (with_word w (place_address calls frames d s i) v (place_address calls frames e t j))
      at_place e t j a b c =
          let same : place_address calls frames e t j ≡ place_address calls frames d s i =
          ap (λ e. place_address calls frames e t j) a ∙ ap (λ t. place_address calls frames d t j) b ∙ ap (λ j. place_address calls frames d s j) c in
          let cell : cell_at program page calls frames g e t j ≡ present v =
          ap (λ e. cell_at program page calls frames g e t j) a ∙ ap (λ t. cell_at program page calls frames g d t j) b ∙ ap (λ j. cell_at program page calls frames g d s j) c ∙ put in
          subst (λ x. HasCell program page x (with_word w (place_address calls frames d s i) v (place_address calls frames e t j))) (sym cell)
          (ap (with_word w (place_address calls frames d s i) v) same ∙ with_word_same w (place_address calls frames d s i) v)

      at_one : (e t j : ℕ) → IsPlace (slots_at program calls e) t j → (e ≡ d) × (word_number (slots_at program calls e) t j ≡ word_number (slots_at program calls d) s i)
          → HasCell program page (cell_at program page calls frames g e t j) (with_word w (place_address calls frames d s i) v (place_address calls frames e t j))
      at_one e t j there (a, b) =
          let slots = ap (slots_at program calls) a in
          let one = one_place (slots_at program calls d) t j s i (subst (λ slots. IsPlace slots t j) slots there) place (ap (λ slots. word_number slots t j) (sym slots) ∙ b) in
          at_place e t j a one.0 one.1

      by_number : (e t j : ℕ) → e < length calls → IsPlace (slots_at program calls e) t j
          → HasCell program page (cell_at program page calls frames g e t j) (with_word w (place_address calls frames d s i) v (place_address calls frames e t j))
      by_number e t j low there =
          elim (eqb_tells (place_address calls frames e t j) (place_address calls frames d s i)) [
            | inl same ↦ at_one e t j there (one_word calls frames e _ d _ shape (place_word calls e t j low there) (place_word calls d s i deep place) same.1)
            | inr other ↦ elim (cells e t j low there) [
              | inl old ↦ subst (λ x. HasCell program page x (with_word w (place_address calls frames d s i) v (place_address calls frames e t j))) (sym old)
                  (subst (HasCell program page (cell_at program page calls frames h e t j)) (sym (with_word_other w (place_address calls frames d s i) v (place_address calls frames e t j) other.1)) (holds e t j low there))
              | inr new ↦ at_place e t j new.0 new.1 new.2
            ]
          ]

  -- to the saved words and temporaries: they stay mapped
  pub own_put : (ends : ℕ) (calls : List ℕ) (frames : List Frame) (w : Mapped) (a v : ℕ) → HasOwn program page ends calls frames w → HasOwn program page ends calls frames (with_word w a v)
  own_put ends calls frames w a v own = λ d n deep last some most number. with_word_mapped w a v (word_address frames d n) (own d n deep last some most number)

  -- a temporary of the running function is mapped
  pub temporary_mapped : (ends : ℕ) (f : ℕ) (calls : List ℕ) (frames : List Frame) (w : Mapped) (j count : ℕ) → 0 < ends → HasRoom program page (f ∷ calls) count → j < count
      → HasOwn program page ends (f ∷ calls) frames w → (old : ℕ) × (w (word_address frames (length calls) (temporary_number (slots_here program (f ∷ calls)) j)) ≡ writable old)
  temporary_mapped ends f calls frames w j count some room less own =
      let here = temporary_word f calls j count room less in
      let slots = ap slots_words (slots_top f calls) in
      own_of _ (own (length calls) (temporary_number (slots_here program (f ∷ calls)) j) here.deep (omega (arith, some)) here.low here.high (inr (omega (arith, slots))))

  -- ---- what a rest speaks of

  -- a word that is kept for a rest which uses so many temporaries
  record IsKept (u : ℕ) (calls : List ℕ) (d n : ℕ) : Type 0 where
    pub there : IsWord calls d n
    pub own : IsOwnNumber (slots_at program calls d) n
    pub known : suc d ≡ length calls → n ≤ 2 + slots_words (slots_here program calls) + u

  wider : (u v : ℕ) (calls : List ℕ) (d n : ℕ) → u ≤ v → IsKept u calls d n → IsKept v calls d n
  wider u v calls d n more h = record { there = h.there; own = h.own; known = λ e. let k = h.known e in omega (arith, k, more) }

  under : (u v : ℕ) (f : ℕ) (calls : List ℕ) (d n : ℕ) → IsKept u calls d n → IsKept v (f ∷ calls) d n
  under u v f calls d n h =
      let deep = h.there.deep in
      record {
        there = record { deep = omega (arith, deep); low = h.there.low; high = subst (λ s. n ≤ s) (sym (words_before f calls d deep)) h.there.high };
        own = subst (λ s. IsOwnNumber s n) (sym (slots_before f calls d deep)) h.own;
        known = λ e. absurd (omega (arith, deep, e));
      }

  temporary_kept : (f : ℕ) (calls : List ℕ) (j u count : ℕ) → HasRoom program page (f ∷ calls) count → u ≤ count → j < u → IsKept u (f ∷ calls) (length calls) (temporary_number (slots_here program (f ∷ calls)) j)
  temporary_kept f calls j u count room fits less =
      let slots = ap slots_words (slots_top f calls) in
      record {
        there = temporary_word f calls j count room (omega (arith, fits, less));
        own = inr (omega (arith, slots));
        known = λ e. omega (arith, less);
      }

  saved_kept : (f : ℕ) (calls : List ℕ) (n u : ℕ) → 2 ≤ words_in (slice_get program.functions f) → 0 < n → n ≤ 2 → IsKept u (f ∷ calls) (length calls) n
  saved_kept f calls n u has some few = record { there = saved_word f calls n has some few; own = inl few; known = λ e. omega (arith, few) }

  -- these words are the same in both
  abbrev SameKept : (u : ℕ) (calls : List ℕ) (frames : List Frame) (v w : Mapped) → Type 0
  SameKept u calls frames v w = (d n : ℕ) → IsKept u calls d n → v (word_address frames d n) ≡ w (word_address frames d n)

  same_fewer : (u v : ℕ) (calls : List ℕ) (frames : List Frame) (x y : Mapped) → u ≤ v → SameKept v calls frames x y → SameKept u calls frames x y
  same_fewer u v calls frames x y less same = λ d n h. same d n (wider u v calls d n less h)

  arguments_as : (f : ℕ) (calls : List ℕ) (frames : List Frame) (ws : List Argument) (j u count : ℕ) (v w : Mapped) → HasRoom program page (f ∷ calls) count → u ≤ count → j + arguments_size ws ≤ u
      → SameKept u (f ∷ calls) frames v w → HasArguments program page (f ∷ calls) frames w j ws → HasArguments program page (f ∷ calls) frames v j ws
  arguments_as f calls frames [] j u count v w room fits within same h = tt
  arguments_as f calls frames (word x ∷ ws) j u count v w room fits within same h = (
    same (length calls) _ (temporary_kept f calls (j + arguments_size ws) u count room fits (omega (arith, within))) ∙ h.0,
    h.1,
    arguments_as f calls frames ws j u count v w room fits (omega (arith, within)) same h.2,
  )
  arguments_as f calls frames (slice r ∷ ws) j u count v w room fits within same h = (
    same (length calls) _ (temporary_kept f calls (j + arguments_size ws) u count room fits (omega (arith, within))) ∙ h.0,
    same (length calls) _ (temporary_kept f calls (j + arguments_size ws + 1) u count room fits (omega (arith, within))) ∙ h.1,
    arguments_as f calls frames ws j u count v w room fits (omega (arith, within)) same h.2,
  )

  -- the rows of slots, where the references are the same
  row_as : (o : Option Extent) (calls : List ℕ) (g h : Stack) (a : ℕ) → h.references (top calls) a ≡ g.references (top calls) a → row_for program page o calls h a ≡ row_for program page o calls g a
  row_as None calls g h a e = refl
  row_as (Some extent.Word) calls g h a e = refl
  row_as (Some (extent.Words n)) calls g h a e = refl
  row_as (Some extent.Reference) calls g h a e = e

  abbrev SameRows : (calls : List ℕ) (g h : Stack) → Type 0
  SameRows calls g h = (a : ℕ) → row_of program page calls h a ≡ row_of program page calls g a

  abbrev SameBefore : (calls : List ℕ) (g h : Stack) → Type 0
  SameBefore calls g h = (d s : ℕ) → suc d < length calls → h.references d s ≡ g.references d s

  rows_under : (f : ℕ) (calls : List ℕ) (g h : Stack) → SameBefore (f ∷ calls) g h → SameRows calls g h
  rows_under f [] g h same = λ a. refl
  rows_under f (e ∷ calls) g h same = λ a. row_as (extent_at (slots_here program (e ∷ calls)) a) (e ∷ calls) g h a (same (length calls) a (omega arith))

  kept_as : (k : List Item) (calls : List ℕ) (frames : List Frame) (g h : Stack) (v w : Mapped) → RestFits program page k calls → AreFrames program page calls frames
      → SameKept (used k) calls frames v w → SameRows calls g h → SameBefore calls g h → Kept program page k calls frames h w → Kept program page k calls frames g v
  kept_as [] calls frames g h v w fits shape same rows references kept = tt
  kept_as (apply o a ∷ k) [] frames g h v w fits shape same rows references kept = absurd fits.0
  kept_as (apply o a ∷ k) (f ∷ calls) frames g h v w fits shape same rows references kept = (
    same (length calls) _ (temporary_kept f calls (used k) (used k + 1) (used k + 1) fits.0 (omega arith) (omega arith)) ∙ kept.0,
    kept.1,
    kept_as k (f ∷ calls) frames g h v w fits.1 shape (same_fewer (used k) (used k + 1) (f ∷ calls) frames v w (omega arith) same) rows references kept.2,
  )
  kept_as (arguments u c ws row ∷ k) [] frames g h v w fits shape same rows references kept = absurd fits.0.0
  kept_as (arguments u c ws row ∷ k) (f ∷ calls) frames g h v w fits shape same rows references kept = (
    arguments_as f calls frames ws (used k) (used k + arguments_size ws) _ v w fits.0.0 (first_most (used k + arguments_size ws) (arguments_words row) _) (omega arith) same kept.0,
    kept_as k (f ∷ calls) frames g h v w fits.1 shape (same_fewer (used k) (used k + arguments_size ws) (f ∷ calls) frames v w (omega arith) same) rows references kept.1,
  )
    where
      first_most : (a b c : ℕ) → a ≤ max (a + b) c
      first_most a b c = omega arith
  kept_as (pass u c ws row ∷ k) [] frames g h v w fits shape same rows references kept = absurd fits.0.0
  kept_as (pass u c ws row ∷ k) (f ∷ calls) frames g h v w fits shape same rows references kept = (
    arguments_as f calls frames ws (used k) (used k + arguments_size ws) _ v w fits.0.0 (first_most (used k + arguments_size ws) (arguments_words row) _) (omega arith) same kept.0,
    kept_as k (f ∷ calls) frames g h v w fits.1 shape (same_fewer (used k) (used k + arguments_size ws) (f ∷ calls) frames v w (omega arith) same) rows references kept.1,
  )
    where
      first_most : (a b c : ℕ) → a ≤ max (a + 1 + b) c
      first_most a b c = omega arith
  kept_as (store a i o ∷ k) [] frames g h v w fits shape same rows references kept = absurd fits.0.1
  kept_as (store a i o ∷ k) (f ∷ calls) frames g h v w fits shape same rows references kept =
      let element = kept.0 in (
        record {
          row = element.row;
          row_is = ap value_in (sym (rows a)) ∙ element.row_is;
          address = same (length calls) _ (temporary_kept f calls 0 1 1 fits.0.1 (omega arith) (omega arith)) ∙ element.address;
        },
        kept_as k (f ∷ calls) frames g h v w fits.1 shape (same_fewer (used k) 1 (f ∷ calls) frames v w (omega (arith, fits.0.0)) same) rows references kept.1,
      )
  kept_as (end ∷ k) [] frames g h v w fits shape same rows references kept = absurd fits
  kept_as (end ∷ k) (f ∷ calls) [] g h v w fits shape same rows references kept = absurd shape
  kept_as (end ∷ k) (f ∷ calls) (F ∷ frames) g h v w fits shape same rows references kept = (
    saved 1 (omega arith) (omega arith) ∙ kept.0,
    saved 2 (omega arith) (omega arith) ∙ kept.1,
    kept_as k calls frames g h v w fits.1 shape.3
        (λ d n x. let e = ap (λ b. b - 4 * n) (address_before calls F frames d shape.3 x.there.deep) in
        subst (λ b. v b ≡ w b) e (same d n (under (used k) 0 f calls d n x)))
        (rows_under f calls g h references) (λ d s less. references d s (omega (arith, less))) kept.2,
  )
    where
      saved : (n : ℕ) → 0 < n → n ≤ 2 → v (F.address - 4 * n) ≡ w (F.address - 4 * n)
      saved n some few = subst (λ b. v (b - 4 * n) ≡ w (b - 4 * n)) (address_top f calls (F ∷ frames) shape) (same (length calls) n (saved_kept f calls n 0 shape.4 some few))
  kept_as (evaluate e ∷ k) calls frames g h v w fits shape same rows references kept = kept_as k calls frames g h v w fits.1 shape same rows references kept
  kept_as (right o r ∷ k) calls frames g h v w fits shape same rows references kept = kept_as k calls frames g h v w fits.1 shape same rows references kept
  kept_as (prefix o ∷ k) calls frames g h v w fits shape same rows references kept = kept_as k calls frames g h v w fits.1 shape same rows references kept
  kept_as (both r ∷ k) calls frames g h v w fits shape same rows references kept = kept_as k calls frames g h v w fits.1 shape same rows references kept
  kept_as (either r ∷ k) calls frames g h v w fits shape same rows references kept = kept_as k calls frames g h v w fits.1 shape same rows references kept
  kept_as (truth ∷ k) calls frames g h v w fits shape same rows references kept = kept_as k calls frames g h v w fits.1 shape same rows references kept
  kept_as (element a ∷ k) calls frames g h v w fits shape same rows references kept = kept_as k calls frames g h v w fits.1 shape same rows references kept
  kept_as (read ∷ k) calls frames g h v w fits shape same rows references kept = kept_as k calls frames g h v w fits.1 shape same rows references kept
  kept_as (take_back ∷ k) calls frames g h v w fits shape same rows references kept = kept_as k calls frames g h v w fits.1 shape same rows references kept
  kept_as (_ ∷ k) calls frames g h v w fits shape same rows references kept =
      kept_as k calls frames g h v w fits.1 shape (same_fewer (used k) 0 calls frames v w (omega (arith, fits.0.0)) same) rows references kept

  -- The words that a rest speaks of lie in the frames of its calls: where these words are as they were, and so are the
  -- references of slots of these calls, what is kept lasts.
  pub kept_lasts : (k : List Item) (calls : List ℕ) (frames : List Frame) (g h : Stack) (v w : Mapped) → RestFits program page k calls → AreFrames program page calls frames
      → ((d n : ℕ) → IsWord calls d n → IsOwnNumber (slots_at program calls d) n → (suc d ≡ length calls → n ≤ 2 + slots_words (slots_here program calls) + used k)
      → v (word_address frames d n) ≡ w (word_address frames d n))
      → ((a : ℕ) → row_of program page calls h a ≡ row_of program page calls g a)
      → ((d s : ℕ) → suc d < length calls → h.references d s ≡ g.references d s)
      → Kept program page k calls frames h w → Kept program page k calls frames g v
  kept_lasts k calls frames g h v w fits shape same rows references kept =
      kept_as k calls frames g h v w fits shape (λ d n x. same d n x.there x.own x.known) rows references kept

  -- a store into a temporary that the rest doesn't use, and a store into a slot's place
  pub kept_temporary : (k : List Item) (f : ℕ) (calls : List ℕ) (frames : List Frame) (h : Stack) (w : Mapped) (j count v : ℕ) → RestFits program page k (f ∷ calls) → AreFrames program page (f ∷ calls) frames
      → used k ≤ j → HasRoom program page (f ∷ calls) count → j < count
      → Kept program page k (f ∷ calls) frames h w → Kept program page k (f ∷ calls) frames h (with_word w (word_address frames (length calls) (temporary_number (slots_here program (f ∷ calls)) j)) v)
  kept_temporary k f calls frames h w j count v fits shape least room less kept =
      kept_as k (f ∷ calls) frames h h _ w fits shape
      (λ d n x. other_word (f ∷ calls) frames w (length calls) (temporary_number (slots_here program (f ∷ calls)) j) d n v shape (temporary_word f calls j count room less) x.there (apart d n x))
      (λ a. refl) (λ d s l. refl) kept
    where
      apart : (d n : ℕ) → IsKept (used k) (f ∷ calls) d n → d ≡ length calls → n ≡ temporary_number (slots_here program (f ∷ calls)) j → ⊥
      apart d n x e same = let top : suc d ≡ length (f ∷ calls) = ap suc e in let a = x.known top in omega (arith, a, same, least)

  pub kept_place : (k : List Item) (calls : List ℕ) (frames : List Frame) (h : Stack) (w : Mapped) (d s i v : ℕ) → RestFits program page k calls → AreFrames program page calls frames → d < length calls → IsPlace (slots_at program calls d) s i
      → Kept program page k calls frames h w → Kept program page k calls frames h (with_word w (word_address frames d (word_number (slots_at program calls d) s i)) v)
  kept_place k calls frames h w d s i v fits shape deep place kept =
      kept_as k calls frames h h _ w fits shape
      (λ e o x. other_word calls frames w d (word_number (slots_at program calls d) s i) e o v shape (place_word calls d s i deep place) x.there (apart e o x))
      (λ a. refl) (λ d s l. refl) kept
    where
      apart : (e o : ℕ) → IsKept (used k) calls e o → e ≡ d → o ≡ word_number (slots_at program calls d) s i → ⊥
      apart e o x same one =
          not_own (slots_at program calls d) (word_number (slots_at program calls d) s i) (place_number (slots_at program calls d) s i place)
          (subst (λ m. IsOwnNumber (slots_at program calls d) m) one (subst (λ c. IsOwnNumber (slots_at program calls c) o) same x.own))
