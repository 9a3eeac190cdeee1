-- Bytes at the front of a text that a loop goes through.
use Rattle.std.proofs.Common.{◌≡◌, ℕ, zero, suc, ◌+◌, ◌-◌, ◌*◌, ◌<◌, min, Bool, true, false, List, [], ◌∷◌, length, get_or, take, drop, refl, sym, ap, ◌∙◌, arith}
use Rattle.std.proofs.lemmas.List.{drop_more, take_rest}
use Rattle.std.proofs.lemmas.Bool.{and_parts}
use Rattle.std.specs.List.{list_all}
use Rattle.std.specs.Char.{is_ascii_digit, digit_value}
use Rattle.std.specs.Str.Parse.{digits_value_after}
use Rattle.cm_syntax.specs.Lexer.{closes, has_end, before_end}

-- no end of a block comment stands in front of a byte
pub record NoEnd (bytes rest : List ℕ) : Type 0 where
  pub later : has_end rest ≡ has_end bytes
  pub longer : 1 + length (before_end rest) ≡ length (before_end bytes)

no_end : (b : ℕ) (rest : List ℕ) → closes (b ∷ rest) ≡ false → NoEnd (b ∷ rest) rest
no_end b rest h = record { later = rw h refl; longer = rw h (omega arith) }

pub no_end_at : (bytes : List ℕ) (i : ℕ) (found : Bool) → i < length bytes → found ≡ closes (take (length bytes - i) (drop i bytes)) → found ≡ false →
    NoEnd (drop i bytes) (drop (i + 1) bytes)
no_end_at bytes i found lt is none =
    let parts = drop_more bytes i 0 lt in
    let here : closes (drop i bytes) ≡ false = ap closes (sym (take_rest bytes i)) ∙ (sym is ∙ none) in
    rw parts (no_end (get_or bytes i 0) (drop (i + 1) bytes) (ap closes (sym parts) ∙ here))

-- ---- numbers

-- the value of digits up to a cap depends on no more than what stands in front of them up to this cap
same_capped : (u v cap : ℕ) (digits : List ℕ) → min u cap ≡ min v cap → min (digits_value_after 10 u digits) cap ≡ min (digits_value_after 10 v digits) cap
same_capped u v cap [] h = h
same_capped u v cap (d ∷ digits) h = same_capped (u * 10 + digit_value d) (v * 10 + digit_value d) cap digits (omega arith)

-- with one more digit
pub digit_more : (digits : List ℕ) (i value new total : ℕ) → i < length digits → new ≡ min (value * 10 + digit_value (get_or digits i 0)) 2147483648 →
    min (digits_value_after 10 value (drop i digits)) 2147483648 ≡ total → min (digits_value_after 10 new (drop (i + 1) digits)) 2147483648 ≡ total
digit_more digits i value new total lt more all =
    let same = same_capped new (value * 10 + digit_value (get_or digits i 0)) 2147483648 (drop (i + 1) digits) (omega arith) in
    same ∙ (sym (ap (λ (xs : List ℕ). min (digits_value_after 10 value xs) 2147483648) (drop_more digits i 0 lt)) ∙ all)

pub digit_at : (digits : List ℕ) (i : ℕ) → i < length digits → list_all is_ascii_digit digits ≡ true → is_ascii_digit (get_or digits i 0) ≡ true
digit_at [] i lt all = absurd (omega arith)
digit_at (x ∷ digits) zero lt all = (and_parts (is_ascii_digit x) (list_all is_ascii_digit digits) all).0
digit_at (x ∷ digits) (suc i) lt all = digit_at digits i (omega arith) (and_parts (is_ascii_digit x) (list_all is_ascii_digit digits) all).1
