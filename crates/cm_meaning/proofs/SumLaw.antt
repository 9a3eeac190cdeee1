-- Stacks that are parted and joined.
use Rattle.std.proofs.Common.{◌≡◌, ℕ, ◌≤◌, List, Option, None, Some, refl, ap, arith, subst, ◌∙◌, sym}
use Rattle.std.specs.Prelude.{Bool, true, false, ◌==◌, ◌&&◌, if◌then◌else◌, ℤ}
use Rattle.cm_syntax.specs.Cell.{Cell, absent, settle_cell, CellSum, ComesEarly}
use Rattle.cm_syntax.specs.Stack.{SharesBack, Reference, Stack, Destination, Argument, loan_of, lent_stack, kept_stack, empty_stack, settle, StackSum, IsUnder}
use Rattle.cm_syntax.proofs.CellLaw.{cell_comm, cell_assoc, cell_same, cell_nothing, cell_none, loan_sum, lent_absent, kept_absent, early_sum, early_settle, early_absent}

pub comm : {a b c : Stack} → StackSum a b c → StackSum b a c
comm {a = a} {b = b} {c = c} e = record { words = λ d s i. cell_comm (a.words d s i) (b.words d s i) (c.words d s i) (e.words d s i); references = λ d s. cell_comm (a.references d s) (b.references d s) (c.references d s) (e.references d s) }

pub assoc : {a b c x y : Stack} → StackSum a b x → StackSum x c y → (z : Stack) × StackSum b c z × StackSum a z y
assoc {a = a} {b = b} {c = c} {x = x} {y = y} e f = (
  record { words = λ d s i. (word_ d s i).0; references = λ d s. (reference_ d s).0 },
  record { words = λ d s i. (word_ d s i).1; references = λ d s. (reference_ d s).1 },
  record { words = λ d s i. (word_ d s i).2; references = λ d s. (reference_ d s).2 },
)
  where
    word_ : (d s i : ℕ) → (z : Cell ℤ) × CellSum (b.words d s i) (c.words d s i) z × CellSum (a.words d s i) z (y.words d s i)
    word_ d s i = cell_assoc (a.words d s i) (b.words d s i) (c.words d s i) (x.words d s i) (y.words d s i) (e.words d s i) (f.words d s i)

    reference_ : (d s : ℕ) → (z : Cell Reference) × CellSum (b.references d s) (c.references d s) z × CellSum (a.references d s) z (y.references d s)
    reference_ d s = cell_assoc (a.references d s) (b.references d s) (c.references d s) (x.references d s) (y.references d s) (e.references d s) (f.references d s)

pub same : {a b x y : Stack} → StackSum a b x → StackSum a b y → x ≡ y
same {a = a} {b = b} {x = x} {y = y} e f i = record {
  words = λ d s j. cell_same (a.words d s j) (b.words d s j) (x.words d s j) (y.words d s j) (e.words d s j) (f.words d s j) i;
  references = λ d s. cell_same (a.references d s) (b.references d s) (x.references d s) (y.references d s) (e.references d s) (f.references d s) i;
}

pub alone_ : (a : Stack) → StackSum a empty_stack a
alone_ a = record { words = λ d s i. cell_nothing (a.words d s i); references = λ d s. cell_nothing (a.references d s) }

pub under_nothing : (n : ℕ) → IsUnder n empty_stack
under_nothing n = record { words = λ d s i l. refl; references = λ d s l. refl }

pub under_more : {n m : ℕ} {a : Stack} → n ≤ m → IsUnder n a → IsUnder m a
under_more l f = record { words = λ d s i k. f.words d s i (omega (arith, l, k)); references = λ d s k. f.references d s (omega (arith, l, k)) }

pub under_sum : {n : ℕ} {a b c : Stack} → StackSum a b c → IsUnder n a → IsUnder n b → IsUnder n c
under_sum {a = a} {b = b} {c = c} e f g = record {
  words = λ d s i l. cell_none (a.words d s i) (b.words d s i) (c.words d s i) (e.words d s i) (f.words d s i l) (g.words d s i l);
  references = λ d s l. cell_none (a.references d s) (b.references d s) (c.references d s) (e.references d s) (f.references d s l) (g.references d s l);
}

-- a spawn parts the words, and the child and the continuation hold empty_stack beyond their frames
pub part_sum : (h : Stack) (x : Destination) (ws : List Argument) → StackSum (lent_stack h x ws) (kept_stack h x ws) h
part_sum h x ws = record { words = λ d s i. loan_sum (loan_of x ws d s i) (h.words d s i); references = λ d s. refl }

pub lent_under : {n : ℕ} (h : Stack) (x : Destination) (ws : List Argument) → IsUnder n h → IsUnder n (lent_stack h x ws)
lent_under h x ws u = record { words = λ d s i l. lent_absent (loan_of x ws d s i) (h.words d s i) (u.words d s i l); references = λ d s l. refl }

pub kept_under : {n : ℕ} (h : Stack) (x : Destination) (ws : List Argument) → IsUnder n h → IsUnder n (kept_stack h x ws)
kept_under h x ws u = record { words = λ d s i l. kept_absent (loan_of x ws d s i) (h.words d s i) (u.words d s i l); references = u.references }

pub settle_under : {n : ℕ} {h : Stack} (x : Destination) (v : Option ℤ) → IsUnder n h → IsUnder n (settle x v h)
settle_under {h = h} (Some x) (Some v) u = record { words = λ d s i l. by (d == x.depth && (s == x.slot && i == 0)) (h.words d s i) (u.words d s i l); references = u.references }
  where
    by : (q : Bool) (c : Cell ℤ) → c ≡ absent → (if q then settle_cell c v else c) ≡ absent
    by true c e = ap (λ z. settle_cell z v) e
    by false c e = e
settle_under (Some x) None u = u
settle_under None v u = u

-- ---- shares that come back early

pub back_sum : {back rest given : Stack} → SharesBack back rest given → StackSum back rest given
back_sum {back = back} {rest = rest} {given = given} y = record {
  words = λ d s i. early_sum (back.words d s i) (rest.words d s i) (given.words d s i) (y.words d s i);
  references = λ d s. let r = y.references d s in subst (λ z. CellSum z (rest.references d s) (given.references d s)) (sym r.0) (sym r.1);
}

-- a value goes where the whole is held, so it goes into the rest as into all of it
pub back_settle : {back rest given : Stack} (x : Destination) (v : Option ℤ) → SharesBack back rest given → SharesBack back (settle x v rest) (settle x v given)
back_settle {back = back} {rest = rest} {given = given} (Some x) (Some v) y = record {
  words = λ d s i. by (d == x.depth && (s == x.slot && i == 0)) (back.words d s i) (rest.words d s i) (given.words d s i) (y.words d s i);
  references = y.references;
}
  where
    by : (q : Bool) (b r g : Cell ℤ) → ComesEarly b r g → ComesEarly b (if q then settle_cell r v else r) (if q then settle_cell g v else g)
    by true b r g e = early_settle b r g v e
    by false b r g e = e
back_settle (Some x) None y = y
back_settle None v y = y

pub back_under : {n : ℕ} {back rest given : Stack} → SharesBack back rest given → IsUnder n given → IsUnder n back × IsUnder n rest
back_under {n = n} {back = back} {rest = rest} {given = given} y u = (
  record { words = λ d s i l. (word_ d s i l).0; references = λ d s l. (y.references d s).0 },
  record { words = λ d s i l. (word_ d s i l).1; references = λ d s l. (y.references d s).1 ∙ u.references d s l },
)
  where
    word_ : (d s i : ℕ) → n ≤ d → (back.words d s i ≡ absent) × (rest.words d s i ≡ absent)
    word_ d s i l = early_absent (back.words d s i) (rest.words d s i) (given.words d s i) (y.words d s i) (u.words d s i l)
