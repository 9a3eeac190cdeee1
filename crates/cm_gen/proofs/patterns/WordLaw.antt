-- Words as numbers: sums, differences and products modulo 2 ^ 32, and addresses with an offset.
use Rattle.std.proofs.Common.{◌≡◌, ℕ, ◌+◌, ◌-◌, ◌%◌, ◌^◌, ◌<◌, ◌≤◌, refl, sym, ap, ◌∙◌, arith}
use Rattle.std.specs.Prelude.{ℤ, pos, negsuc, ◌+ℤ◌, ◌-ℤ◌, FitsSigned}
use Rattle.std.specs.Int.{w32, cast_unsigned, int_rem_euclid, int_wrap}
use Rattle.std.proofs.lemmas.Int.{ints, SFits-int_wrap, fits_signed_from_abs, int_wrap-add_same, to_z-of_z, of_z-to_z, wrapping_add-bits, wrapping_sub-bits, int_wrap-add_left, int_wrap_fits}
use Rattle.cm_isa.specs.Alu.{int, word, offset}
use Rattle.cm_syntax.specs.Word.{wrap}
use Rattle.cm_gen.specs.Code.{low_part, high_part}

-- a word is below 2 ^ 32
pub word_below : (z : ℤ) → word z < 2 ^ 32
word_below (pos n) = omega arith
word_below (negsuc n) = omega arith

-- a number below 2 ^ 32 is its own word
pub word-pos : (n : ℕ) → n < 2 ^ 32 → word (pos n) ≡ n
word-pos n h = omega arith

-- the signed number of a word's bits
pub int-cast_unsigned : (z : ℤ) → FitsSigned w32 z → int (cast_unsigned w32 z) ≡ z
int-cast_unsigned z h = to_z-of_z w32 z h

-- the bits of a number that was brought back into the range of a word
pub cast_unsigned-wrap : (z : ℤ) → cast_unsigned w32 (wrap z) ≡ word z
unfolding int_wrap
cast_unsigned-wrap z = of_z-to_z w32 (word z) (word_below z)

-- sums, differences and products of words
pub word-add : (a b : ℕ) → a < 2 ^ 32 → b < 2 ^ 32 → word (int a +ℤ int b) ≡ (a + b) % 2 ^ 32
word-add a b p q =
    sym (cast_unsigned-wrap (int a +ℤ int b)) ∙ ap (cast_unsigned w32) (sym (wrapping_add-bits w32 a b p q)) ∙ of_z-to_z w32 ((a + b) % 2 ^ 32) (omega arith)

pub word-sub : (a b : ℕ) → a < 2 ^ 32 → b < 2 ^ 32 → word (int a -ℤ int b) ≡ (a + (2 ^ 32 - b)) % 2 ^ 32
word-sub a b p q =
    sym (cast_unsigned-wrap (int a -ℤ int b)) ∙ ap (cast_unsigned w32) (sym (wrapping_sub-bits w32 a b p q)) ∙ of_z-to_z w32 ((a + (2 ^ 32 - b)) % 2 ^ 32) (omega arith)

-- an address above or below another one
pub offset_up : (base k : ℕ) → base + k < 2 ^ 32 → offset base (pos k) ≡ base + k
offset_up base k h = word-pos (base + k) h

pub offset_down : (base k : ℕ) → k ≤ base → base < 2 ^ 32 → (z : ℤ) → pos base +ℤ z ≡ pos (base - k) → offset base z ≡ base - k
offset_down base k h p z e = ap word e ∙ word-pos (base - k) (omega arith)

-- ---- numbers in two parts

-- a word's number fits
pub int_fits : (a : ℕ) → a < 2 ^ 32 → FitsSigned w32 (int a)
int_fits a h = grind (arith, ints)

pub cast_unsigned_below : (z : ℤ) → FitsSigned w32 z → cast_unsigned w32 z < 2 ^ 32
cast_unsigned_below z h = omega (arith, ints)

pub wrapped_fits : (z : ℤ) → FitsSigned w32 (wrap z)
wrapped_fits z = SFits-int_wrap w32 z

rem_below : (z : ℤ) → (k : ℕ) × (int_rem_euclid z (pos 4096) ≡ pos k) × (k < 4096)
rem_below (pos n) = (n % 4096, refl, omega arith)
rem_below (negsuc n) = (4096 - 1 - n % 4096, refl, omega arith)

pub low_part_fits : (v : ℤ) → FitsSigned w32 (low_part v)
low_part_fits v = let r = rem_below (v +ℤ pos 2048) in rw r.1 (small r.0 r.2)
  where
    small : (k : ℕ) → k < 4096 → FitsSigned w32 (pos k -ℤ pos 2048)
    small k h = fits_signed_from_abs w32 (pos k -ℤ pos 2048) (omega (arith, ints))

-- to bring a part back into the range changes nothing of the whole
pub word-wrapped_add : (a b : ℤ) → word (wrap a +ℤ b) ≡ word (a +ℤ b)
word-wrapped_add a b =
    sym (cast_unsigned-wrap (wrap a +ℤ b)) ∙ ap (cast_unsigned w32) (int_wrap-add_left w32 a b) ∙ cast_unsigned-wrap (a +ℤ b)

-- the two parts of a number make up the number
pub parts_sum : (v : ℤ) → (v -ℤ low_part v) +ℤ low_part v ≡ v
parts_sum v = minus_plus v (low_part v)
  where
    minus_plus : (a b : ℤ) → (a -ℤ b) +ℤ b ≡ a
    minus_plus a b = omega (arith, ints)

pub word-fits : (z : ℤ) → FitsSigned w32 z → word z ≡ cast_unsigned w32 z
word-fits z h = sym (cast_unsigned-wrap z) ∙ ap (cast_unsigned w32) (int_wrap_fits w32 z h)

pub word-parts : (v : ℤ) → word (high_part v +ℤ low_part v) ≡ word v
word-parts v = word-wrapped_add (v -ℤ low_part v) (low_part v) ∙ ap word (parts_sum v)

-- a word and its signed number are the same modulo 2 ^ 32, below a sum too
wrap-pos_int : (a : ℕ) → a < 2 ^ 32 → wrap (pos a) ≡ wrap (int a)
unfolding int_wrap
wrap-pos_int a h = ap int (word-pos a h ∙ sym (word-int a h))
  where
    word-int : (a : ℕ) → a < 2 ^ 32 → word (int a) ≡ a
    word-int a h = word-fits (int a) (int_fits a h) ∙ of_z-to_z w32 a h

pub word-pos_add : (a : ℕ) (b : ℤ) → a < 2 ^ 32 → word (pos a +ℤ b) ≡ word (int a +ℤ b)
word-pos_add a b h =
    sym (cast_unsigned-wrap (pos a +ℤ b)) ∙ ap (cast_unsigned w32) (int_wrap-add_same w32 (pos a) (int a) b (wrap-pos_int a h)) ∙ cast_unsigned-wrap (int a +ℤ b)

-- the high part of an offset, added to an address, and then the low part
pub far_offset : (o : ℤ) (f : ℕ) → f < 2 ^ 32 → offset (word (int (cast_unsigned w32 (high_part o)) +ℤ int f)) (low_part o) ≡ offset f o
far_offset o f h =
    let upper = high_part o in
    let lower = low_part o in
    let base = wrap (upper +ℤ int f) in
    let first : word (int (cast_unsigned w32 upper) +ℤ int f) ≡ cast_unsigned w32 base =
    ap (λ u. word (u +ℤ int f)) (int-cast_unsigned upper (wrapped_fits _)) ∙ sym (cast_unsigned-wrap (upper +ℤ int f)) in
    let second : word (pos (cast_unsigned w32 base) +ℤ lower) ≡ word (base +ℤ lower) =
    word-pos_add (cast_unsigned w32 base) lower (cast_unsigned_below base (wrapped_fits _)) ∙ ap (λ u. word (u +ℤ lower)) (int-cast_unsigned base (wrapped_fits _)) in
    let third : word (base +ℤ lower) ≡ word ((upper +ℤ int f) +ℤ lower) = word-wrapped_add (upper +ℤ int f) lower in
    let fourth : word ((upper +ℤ int f) +ℤ lower) ≡ word (wrap (o -ℤ lower) +ℤ (int f +ℤ lower)) = ap word (turned (o -ℤ lower) (int f) lower) in
    let fifth : word (wrap (o -ℤ lower) +ℤ (int f +ℤ lower)) ≡ word (int f +ℤ o) = word-wrapped_add (o -ℤ lower) (int f +ℤ lower) ∙ ap word (whole o lower (int f)) in
    ap (λ u. offset u lower) first ∙ second ∙ third ∙ fourth ∙ fifth ∙ sym (word-pos_add f o h)
  where
    turned : (u f l : ℤ) → (wrap u +ℤ f) +ℤ l ≡ wrap u +ℤ (f +ℤ l)
    turned u f l = omega (arith, ints)

    whole : (o l f : ℤ) → (o -ℤ l) +ℤ (f +ℤ l) ≡ f +ℤ o
    whole o l f = omega (arith, ints)
