-- Stacks that are a part of another one, and stacks whose words are words of the machine.
use Rattle.std.proofs.lemmas.Option.{same_Some, none-some}
use Rattle.std.proofs.Common.{◌≡◌, ℕ, List, [], ◌∷◌, length, refl, subst, arith}
use Rattle.std.specs.Prelude.{Bool, true, false, ◌==◌, ◌&&◌, nat_lt, if◌then◌else◌, ℤ, pos, FitsSigned, Some}
use Rattle.std.specs.Int.{w32}
use Rattle.cm_syntax.proofs.CellLaw.{cell_nothing, cell_assoc, cell_comm, loan_sum, sum_absent}
use Rattle.cm_syntax.specs.Cell.{Cell, absent, unset, present, value_in, lent_cell, kept_cell}
use Rattle.cm_syntax.specs.Stack.{Stack, Destination, Argument, word, slice, write_word, clear_words, word_parameter, push_frame, pop_frame, lent_stack, kept_stack, StackSum, IsUnder, loan_of}
use Rattle.cm_gen.specs.Formed.{IsPart, IsPartOf, AreWords}
use Rattle.cm_gen.proofs.states.FactLaw.{part_has}
use Rattle.cm_gen.proofs.states.ValueFitsLaw.{natural_fits}

-- ---- parts

part_same : {A : Type 0} (a : Cell A) → IsPart a a
part_same a = (absent, cell_nothing a)

part_on : {A : Type 0} (a b c : Cell A) → IsPart a b → IsPart b c → IsPart a c
part_on a b c p q = let r = cell_assoc a p.0 q.0 b c p.1 q.1 in (r.0, r.2)

-- a part of a part
pub part_of_part : (a b c : Stack) → IsPartOf a b → IsPartOf b c → IsPartOf a c
part_of_part a b c p q = record {
  words = λ d s i. part_on (a.words d s i) (b.words d s i) (c.words d s i) (p.words d s i) (q.words d s i);
  references = λ d s. part_on (a.references d s) (b.references d s) (c.references d s) (p.references d s) (q.references d s);
}

pub lent_part : (h : Stack) (x : Destination) (ws : List Argument) → IsPartOf (lent_stack h x ws) h
lent_part h x ws = record { words = λ d s i. (kept_cell (loan_of x ws d s i) (h.words d s i), loan_sum (loan_of x ws d s i) (h.words d s i)); references = λ d s. (h.references d s, refl) }

pub kept_part : (h : Stack) (x : Destination) (ws : List Argument) → IsPartOf (kept_stack h x ws) h
kept_part h x ws = record {
  words = λ d s i. (lent_cell (loan_of x ws d s i) (h.words d s i), cell_comm (lent_cell (loan_of x ws d s i) (h.words d s i)) (kept_cell (loan_of x ws d s i) (h.words d s i)) (h.words d s i) (loan_sum (loan_of x ws d s i) (h.words d s i)));
  references = λ d s. part_same (h.references d s);
}

popped : {A : Type 0} (q : Bool) (a b : Cell A) → IsPart a b → IsPart (if q then absent else a) (if q then absent else b)
popped true a b p = (absent, refl)
popped false a b p = p

-- a frame that ends, ends in both
pub popped_part : (a b : Stack) (n : ℕ) → IsPartOf a b → IsPartOf (pop_frame a n) (pop_frame b n)
popped_part a b n p = record { words = λ d s i. popped (d == n) (a.words d s i) (b.words d s i) (p.words d s i); references = λ d s. popped (d == n) (a.references d s) (b.references d s) (p.references d s) }

-- ---- parts and sums

pub part_of_sum : (a b c : Stack) → StackSum a b c → IsPartOf a c
part_of_sum a b c s = record { words = λ d i j. (b.words d i j, s.words d i j); references = λ d i. (b.references d i, s.references d i) }

-- what a whole has beside a part
abbrev pub others : (part whole : Stack) → IsPartOf part whole → Stack
others h whole p = record { words = λ d s i. (p.words d s i).0; references = λ d s. (p.references d s).0 }

pub others_sum : (h whole : Stack) (p : IsPartOf h whole) → StackSum h (others h whole p) whole
others_sum h whole p = record { words = λ d s i. (p.words d s i).1; references = λ d s. (p.references d s).1 }

beside_absent : {A : Type 0} (a w : Cell A) (p : IsPart a w) → w ≡ absent → p.0 ≡ absent
beside_absent a w p e = sum_absent p.0 a w (cell_comm a p.0 w p.1) e

pub others_under : (n : ℕ) (h whole : Stack) (p : IsPartOf h whole) → IsUnder n whole → IsUnder n (others h whole p)
others_under n h whole p u = record { words = λ d s i l. beside_absent (h.words d s i) (whole.words d s i) (p.words d s i) (u.words d s i l); references = λ d s l. beside_absent (h.references d s) (whole.references d s) (p.references d s) (u.references d s l) }

-- ---- words

-- a value that a cell has is a word
abbrev pub CellFits : Cell ℤ → Type 0
CellFits c = (v : ℤ) → value_in c ≡ Some v → FitsSigned w32 v

-- and so all of a stack
abbrev pub StackFits : Stack → Type 0
StackFits h = (d s i : ℕ) (v : ℤ) → value_in (h.words d s i) ≡ Some v → FitsSigned w32 v

absent_fits : CellFits absent
absent_fits v e = absurd (none-some v e)

unset_fits : CellFits unset
unset_fits v e = absurd (none-some v e)

pub present_fits : (w : ℤ) → FitsSigned w32 w → CellFits (present w)
present_fits w f v e = subst (FitsSigned w32) (same_Some w v e) f

if_fits : (q : Bool) (a b : Cell ℤ) → CellFits a → CellFits b → CellFits (if q then a else b)
if_fits true a b f g = f
if_fits false a b f g = g

pub empty_fits : StackFits (record { words = λ d s i. absent; references = λ d s. absent })
empty_fits d s i = absent_fits

pub part_fits : (h whole : Stack) → IsPartOf h whole → StackFits whole → StackFits h
part_fits h whole p f d s i v e = f d s i v (part_has (h.words d s i) (whole.words d s i) v (p.words d s i) e)

pub write_fits : (h : Stack) (d s i : ℕ) (w : ℤ) → FitsSigned w32 w → StackFits h → StackFits (write_word h d s i w)
write_fits h d s i w fits f e t j = if_fits (e == d && (t == s && j == i)) (present w) (h.words e t j) (present_fits w fits) (f e t j)

pub clear_fits : (h : Stack) (d s n : ℕ) → StackFits h → StackFits (clear_words h d s n)
clear_fits h d s n f e t j = if_fits (e == d && (t == s && nat_lt j n)) (present (pos 0)) (h.words e t j) (present_fits (pos 0) (natural_fits 0 (omega arith))) (f e t j)

pub pop_fits : (h : Stack) (n : ℕ) → StackFits h → StackFits (pop_frame h n)
pop_fits h n f d s i = if_fits (d == n) absent (h.words d s i) absent_fits (f d s i)

parameter_fits : (ws : List Argument) (s : ℕ) → AreWords ws → CellFits (word_parameter ws s)
parameter_fits [] s f = unset_fits
parameter_fits (word w ∷ ws) s f = if_fits (s == length ws) (present w) (word_parameter ws s) (present_fits w f.0) (parameter_fits ws s f.1)
parameter_fits (slice r ∷ ws) s f = parameter_fits ws s f

pub push_fits : (h : Stack) (n : ℕ) (ws : List Argument) → AreWords ws → StackFits h → StackFits (push_frame h n ws)
push_fits h n ws a f d s i = if_fits (d == n) (if i == 0 then word_parameter ws s else unset) (h.words d s i) (if_fits (i == 0) (word_parameter ws s) unset (parameter_fits ws s a) unset_fits) (f d s i)
