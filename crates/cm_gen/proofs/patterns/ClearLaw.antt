-- The loop that clears the words of a declared array, from the lowest one to the last.
use Rattle.cm_gen.proofs.patterns.LeavesLaw.{SameRegisters, same_after, same_leaves}
use Rattle.cm_gen.proofs.patterns.StandingLaw.{IsCodeAt}
use Rattle.std.proofs.Common.{◌≡◌, ◌≢◌, ℕ, zero, suc, ◌+◌, ◌*◌, ◌%◌, ◌^◌, ◌<◌, ◌≤◌, List, length, Some, refl, sym, ap, ◌∙◌, subst, arith, inl, inr, eq-eqb}
use Rattle.std.proofs.lemmas.Bool.{lt-ltb, le-ltb, cases_order}
use Rattle.std.proofs.lemmas.Bool.Decides.{eqb_tells}
use Rattle.std.proofs.lemmas.Int.{ints}
use Rattle.std.specs.Prelude.{◌⊎◌, Bool, true, false, ◌==◌, ◌&&◌, nat_lt, if◌then◌else◌, ℤ, pos, ◌+ℤ◌, slice_get}
use Rattle.std.specs.Int.{w32, cast_unsigned}
use Rattle.cm_isa.specs.declared.convention.TheConstants as reg
use Rattle.cm_isa.specs.Bits.{minus}
use Rattle.cm_isa.specs.Alu.{int, word, offset}
use Rattle.cm_isa.specs.Action.{follow}
use Rattle.cm_isa.specs.Machine.{Machine, Mapped, Code, machine_after, machine_with, with_word, IsWritable}
use Rattle.cm_gen.specs.Returns.{GoesTo}
use Rattle.cm_isa.specs.Register.{with_register}
use Rattle.cm_syntax.specs.declared.stmt.Program.{Program}
use Rattle.cm_syntax.specs.Cell.{Cell, present, may_write}
use Rattle.cm_syntax.specs.Stack.{may_write_all, Stack, clear_words}
use Rattle.cm_syntax.specs.Rest.{Item}
use Rattle.cm_meaning.specs.TypedState.{slots_at, row_words}
use Rattle.cm_gen.specs.Assembler.{addi, bltu, sw}
use Rattle.cm_gen.specs.Statement.{clear_words_code}
use Rattle.cm_gen.specs.Standing.{Frame}
use Rattle.cm_gen.specs.FrameWord.{word_number, word_address, AreFrames, value_cell, HasCell, Holds, Kept, HasOwn}
use Rattle.cm_gen.specs.Formed.{RestFits}
use Rattle.cm_gen.proofs.patterns.WordLaw as words
use Rattle.cm_gen.proofs.patterns.StepLaw.{comes_by_one, comes_on, follow_is}
use Rattle.cm_gen.proofs.frames.MappedWordLaw.{own_of, with_word_mapped}
use Rattle.cm_gen.proofs.patterns.PatternLaw.{sets_by_one, put_runs}
use Rattle.cm_gen.proofs.frames.FrameWordLaw.{holds_place, kept_place, own_put}
use Rattle.cm_gen.proofs.frames.CellLaw.{own_place, own_cell, same_cell}
use Rattle.cm_gen.proofs.patterns.JumpLaw.{moved}

-- ---- stacks

-- where all words may be written, each of them may
pub held_at : (words : ℕ → Cell ℤ) (n : ℕ) → may_write_all words n ≡ true → (i : ℕ) → i < n → may_write (words i) ≡ true
held_at words zero h i less = absurd (omega (arith, less))
held_at words (suc n) h i less = by_first (may_write (words n)) refl h (λ f l. held_at words n f i l)
  where
    by_first : (b : Bool) → may_write (words n) ≡ b → (b && may_write_all words n) ≡ true → (may_write_all words n ≡ true → i < n → may_write (words i) ≡ true) → may_write (words i) ≡ true
    by_first false e h before = cc h
    by_first true e h before = elim (eqb_tells i n) [
      | inl one ↦ ap (λ j. may_write (words j)) one.1 ∙ e
      | inr other ↦ let away = other.1 in before h (omega (arith, less, away))
    ]

-- one more word is cleared, or nothing changes
cleared_next : (h : Stack) (d s i : ℕ) (e t j : ℕ) → ((clear_words h d s (suc i)).words e t j ≡ (clear_words h d s i).words e t j) ⊎ ((e ≡ d) × (t ≡ s) × (j ≡ i))
cleared_next h d s i e t j = elim (eqb_tells e d) [
  | inr other ↦ let x : (e == d) ≡ false = other.0 in inl (rw x refl)
  | inl one ↦ elim (eqb_tells t s) [
    | inr other ↦ let x : (e == d) ≡ true = one.0 in let y : (t == s) ≡ false = other.0 in inl (rw (x, y) refl)
    | inl two ↦ elim (eqb_tells j i) [
      | inl three ↦ inr (one.1, two.1, three.1)
      | inr other ↦
          let x : (e == d) ≡ true = one.0 in
          let y : (t == s) ≡ true = two.0 in
          let z : nat_lt j (suc i) ≡ nat_lt j i = same_less j i other.1 in
          inl (rw (x, y, z) refl)
    ]
  ]
]
  where
    same_less : (j i : ℕ) → j ≢ i → nat_lt j (suc i) ≡ nat_lt j i
    same_less j i away = elim (cases_order j i) [
      | inl same ↦ absurd (away same)
      | inr apart ↦ elim apart [
        | inl less ↦ lt-ltb j (suc i) (omega (arith, less)) ∙ sym (lt-ltb j i less)
        | inr more ↦ le-ltb j (suc i) (omega (arith, more)) ∙ sym (le-ltb j i (omega (arith, more)))
      ]
    ]

cleared_there : (h : Stack) (d s i : ℕ) → (clear_words h d s (suc i)).words d s i ≡ present (pos 0)
cleared_there h d s i =
    let x : (d == d) ≡ true = eq-eqb d d refl in
    let y : (s == s) ≡ true = eq-eqb s s refl in
    let z : nat_lt i (suc i) ≡ true = lt-ltb i (suc i) (omega arith) in
    rw (x, y, z) refl

cleared_none : (h : Stack) (d s e t j : ℕ) → (clear_words h d s 0).words e t j ≡ h.words e t j
cleared_none h d s e t j = by_test (e == d) (t == s)
  where
    none : nat_lt j 0 ≡ false
    none = le-ltb j 0 (omega arith)

    by_test : (a b : Bool) → (if a && (b && nat_lt j 0) then present (pos 0) else h.words e t j) ≡ h.words e t j
    by_test true true = rw none refl
    by_test true false = refl
    by_test false b = refl

-- ---- branches

less_back : (m : Machine) (p : ℕ) → nat_lt (m.registers reg.VALUE) (m.registers reg.LEFT) ≡ true → m.counter ≡ p + 8 → p % 4 ≡ 0 → p + 8 < 2 ^ 32
    → machine_after (bltu reg.VALUE reg.LEFT (minus 8)) m ≡ Some (moved m p)
less_back m p less is four room =
    let e : offset m.counter (minus 8) ≡ p = words.offset_down m.counter 8 (omega (arith, is)) (omega (arith, is, room)) (minus 8) (omega (arith, ints, is)) ∙ omega (arith, is) in
    rw (less, e, four) refl

less_on : (m : Machine) → nat_lt (m.registers reg.VALUE) (m.registers reg.LEFT) ≡ false → m.counter + 4 < 2 ^ 32 → machine_after (bltu reg.VALUE reg.LEFT (minus 8)) m ≡ Some (moved m (m.counter + 4))
less_on m more room = let next = follow_is m.counter room in rw (more, next) refl

-- ---- the loop

module _ (program : Program) (page : ℕ) (code : Code) (calls : List ℕ) (frames : List Frame) (h : Stack) (k : List Item) (ends d s n first p : ℕ)
    (shape : AreFrames program page calls frames) (deep : d < length calls) (within : n ≤ row_words (slice_get (slots_at program calls d) s)) (fits : RestFits program page k calls)
    (address : (i : ℕ) → i < n → first + 4 * i ≡ word_address frames d (word_number (slots_at program calls d) s i)) (aligned : first % 4 ≡ 0) (below : first + 4 * n ≤ 2 ^ 30)
    (there : IsCodeAt code p clear_words_code) where
  -- the first words are cleared
  pub record Cleared (i : ℕ) (w : Mapped) : Type 0 where
    pub slots : Holds program page calls frames (clear_words h d s i) w
    pub keeps : Kept program page k calls frames h w
    pub own : HasOwn program page ends calls frames w
    pub mapped : (j : ℕ) → j < n → IsWritable (w (first + 4 * j))

  -- one more
  clears_one : (i : ℕ) (w : Mapped) → i < n → Cleared i w → Cleared (suc i) (with_word w (first + 4 * i) 0)
  clears_one i w less x =
      let a = word_address frames d (word_number (slots_at program calls d) s i) in
      let inside : i < row_words (slice_get (slots_at program calls d) s) = omega (arith, less, within) in
      let place = own_place (slots_at program calls d) s i inside in
      subst (λ b. Cleared (suc i) (with_word w b 0)) (sym (address i less))
      (record {
        slots = holds_place program page calls frames (clear_words h d s i) (clear_words h d s (suc i)) w d s i 0 shape deep place
            (own_cell program page calls frames (clear_words h d s (suc i)) d s i inside ∙ ap (value_cell program page) (cleared_there h d s i))
            (λ e t j low y. elim (cleared_next h d s i e t j) [
              | inl old ↦ inl (same_cell program page calls frames (clear_words h d s i) (clear_words h d s (suc i)) e t j old refl)
              | inr new ↦ inr new
            ])
            x.slots;
        keeps = kept_place program page k calls frames h w d s i 0 fits shape deep place x.keeps;
        own = own_put program page ends calls frames w a 0 x.own;
        mapped = λ j l. with_word_mapped w a 0 (first + 4 * j) (x.mapped j l);
      })

  -- the machine is behind the store and the addition of a turn
  turn_runs : (i : ℕ) (m : Machine) → i < n → m.counter ≡ p → m.registers reg.ZERO ≡ 0 → m.registers reg.VALUE ≡ first + 4 * i → Cleared i m.words
      → (t : Machine) × GoesTo code 2 m t × (t.counter ≡ p + 8) × SameRegisters m.registers t.registers × (t.registers reg.VALUE ≡ first + 4 * suc i) × (t.registers reg.LEFT ≡ m.registers reg.LEFT)
      × Cleared (suc i) t.words
  turn_runs i m less at zero_is value x =
      let room = there.below in
      let old = own_of (m.words (first + 4 * i)) (x.mapped i less) in
      let a = first + 4 * i in
      let u : Machine = record { registers = m.registers; counter = m.counter + 4; words = with_word m.words a (m.registers reg.ZERO) } in
      let one = put_runs code reg.ZERO reg.VALUE a old.0 m (subst (λ q. code q (sw reg.ZERO reg.VALUE (pos 0))) (sym at) there.there.0) (omega (arith, room, at)) value (omega (arith, aligned)) (omega (arith, below, less)) old.1 in
      let summed : word (int (m.registers reg.VALUE) +ℤ int (cast_unsigned w32 (pos 4))) ≡ first + 4 * suc i =
      rw value (words.word-add a 4 (omega (arith, below, less)) (omega arith) ∙ omega (arith, below, less)) in
      let e : p + 4 ≡ m.counter + 4 = omega (arith, at) in
      let two = sets_by_one code (addi reg.VALUE reg.VALUE (pos 4)) refl reg.VALUE (first + 4 * suc i) u refl (omega (arith, room, at)) (subst (λ q. code q (addi reg.VALUE reg.VALUE (pos 4))) e there.there.1.0)
      (ap (λ v. Some (machine_with u (with_register u.registers reg.VALUE v) (follow u.counter))) summed) in
      let t = two.0 in
      let does = two.2 in (
        t,
        comes_on code 1 1 m u t one two.1,
        (let c = does.counter in omega (arith, c, at)),
        same_leaves refl does,
        does.value,
        does.kept reg.LEFT refl,
        subst (λ w. Cleared (suc i) w) (sym does.words) (subst (λ z. Cleared (suc i) (with_word m.words a z)) (sym zero_is) (clears_one i m.words less x)),
      )

  pub clears : (rest i : ℕ) (m : Machine) → i + suc rest ≡ n → m.counter ≡ p → m.registers reg.ZERO ≡ 0 → m.registers reg.VALUE ≡ first + 4 * i → m.registers reg.LEFT ≡ first + 4 * n → Cleared i m.words
      → (count : ℕ) × (t : Machine) × GoesTo code count m t × (t.counter ≡ p + 12) × SameRegisters m.registers t.registers × Cleared n t.words
  clears zero i m last at zero_is value left x =
      let room = there.below in
      let ran = turn_runs i m (omega (arith, last)) at zero_is value x in
      let t = ran.0 in
      let c = ran.2 in
      let e : p + 4 + 4 ≡ t.counter = omega (arith, c) in
      let full : suc i ≡ n = omega (arith, last) in
      let more : nat_lt (t.registers reg.VALUE) (t.registers reg.LEFT) ≡ false = let v = ran.4 in let l = ran.5 in le-ltb (t.registers reg.VALUE) (t.registers reg.LEFT) (omega (arith, v, l, left, full)) in (
        3,
        moved t (t.counter + 4),
        comes_on code 2 1 m t (moved t (t.counter + 4)) ran.1 (comes_by_one code (bltu reg.VALUE reg.LEFT (minus 8)) refl t (moved t (t.counter + 4)) (subst (λ q. code q (bltu reg.VALUE reg.LEFT (minus 8))) e there.there.1.1.0) (less_on t more (omega (arith, room, c)))),
        omega (arith, c),
        ran.3,
        subst (λ j. Cleared j t.words) full ran.6,
      )
  clears (suc rest) i m last at zero_is value left x =
      let room = there.below in
      let ran = turn_runs i m (omega (arith, last)) at zero_is value x in
      let t = ran.0 in
      let c = ran.2 in
      let e : p + 4 + 4 ≡ t.counter = omega (arith, c) in
      let less : nat_lt (t.registers reg.VALUE) (t.registers reg.LEFT) ≡ true = let v = ran.4 in let l = ran.5 in lt-ltb (t.registers reg.VALUE) (t.registers reg.LEFT) (omega (arith, v, l, left, last)) in
      let back = comes_by_one code (bltu reg.VALUE reg.LEFT (minus 8)) refl t (moved t p) (subst (λ q. code q (bltu reg.VALUE reg.LEFT (minus 8))) e there.there.1.1.0) (less_back t p less c there.aligned (omega (arith, room))) in
      let on = clears rest (suc i) (moved t p) (omega (arith, last)) refl (ran.3.zero_is ∙ zero_is) ran.4 (ran.5 ∙ left) ran.6 in
      let three : GoesTo code 3 m (moved t p) = comes_on code 2 1 m t (moved t p) ran.1 back in
      (3 + on.0, on.1, comes_on code 3 on.0 m (moved t p) on.1 three on.2, on.3, same_after ran.3 on.4, on.5)

  -- nothing is cleared at the beginning
  pub cleared_first : (w : Mapped) → Holds program page calls frames h w → Kept program page k calls frames h w → HasOwn program page ends calls frames w → ((j : ℕ) → j < n → IsWritable (w (first + 4 * j))) → Cleared 0 w
  cleared_first w slots keeps own mapped = record {
    slots = λ e t j low place. subst (λ c. HasCell program page c (w (word_address frames e (word_number (slots_at program calls e) t j))))
        (sym (same_cell program page calls frames h (clear_words h d s 0) e t j (cleared_none h d s e t j) refl)) (slots e t j low place);
    keeps = keeps;
    own = own;
    mapped = mapped;
  }
