-- The algebra of cells: sums commute, are associative, have one value and cancel. What may be written is held by one
-- alone, and what may be read reads the same in a sum.
use Rattle.std.proofs.Common.{◌≡◌, Option, None, Some, refl, sym, ap, ◌∙◌, subst, inl, inr}
use Rattle.std.specs.Prelude.{◌⊎◌, Bool, true, false, ℤ}
use Rattle.cm_share.specs.Share.{Share, whole, part, Part, ShareSum}
use Rattle.cm_syntax.specs.Cell.{Cell, absent, unset, present, shared, share_in, is_held, value_in, may_read, may_write, with_share, map_cell, Loan, unlent, to_read, to_write, lent_cell, kept_cell, settle_cell, CellSum, ComesBack, ComesEarly}
use Rattle.cm_share.proofs.ShareLaw.{share_comm, share_assoc, share_same, share_cancel, share_halves, share_grows, share_apart, whole_alone}

pub cell_comm : {A : Type 0} (a b c : Cell A) → CellSum a b c → CellSum b a c
cell_comm absent absent c e = e
cell_comm absent unset c e = e
cell_comm absent (present v) c e = e
cell_comm absent (shared p v) c e = e
cell_comm unset absent c e = e
cell_comm unset unset c e = absurd e
cell_comm unset (present v) c e = absurd e
cell_comm unset (shared p v) c e = absurd e
cell_comm (present v) absent c e = e
cell_comm (present v) unset c e = absurd e
cell_comm (present v) (present w) c e = absurd e
cell_comm (present v) (shared q w) c e = absurd e
cell_comm (shared p v) absent c e = e
cell_comm (shared p v) unset c e = absurd e
cell_comm (shared p v) (present w) c e = absurd e
cell_comm (shared p v) (shared q w) c e = (sym e.0, e.1, share_comm e.2, e.3 ∙ ap (λ z. with_share e.1 z) (sym e.0))

-- three parts of one value
parts_assoc : {A : Type 0} (p q s : Part) (v w u : A) (r : Share) (y : Cell A) → w ≡ v → ShareSum (part p) (part q) r → CellSum (with_share r v) (shared s u) y
    → (z : Cell A) × CellSum (shared q w) (shared s u) z × CellSum (shared p v) z y
parts_assoc p q s v w u whole y e h f = absurd f
parts_assoc {A = A} p q s v w u (part t) y e h f = let z = share_assoc h f.2 in (with_share z.0 w, (f.0 ∙ sym e, z.0, z.1, refl), by z.0 z.2)
  where
    by : (z : Share) → ShareSum (part p) z f.1 → CellSum (shared p v) (with_share z w) y
    by whole k = absurd (whole_alone (share_comm k))
    by (part z) k = (e, f.1, k, f.3)

pub cell_assoc : {A : Type 0} (a b c x y : Cell A) → CellSum a b x → CellSum x c y → (z : Cell A) × CellSum b c z × CellSum a z y
cell_assoc absent b c x y e f = (y, subst (λ q. CellSum q c y) e f, refl)
cell_assoc unset absent absent x y e f = (absent, refl, subst (λ q. CellSum q absent y) e f)
cell_assoc unset absent unset x y e f = absurd (subst (λ q. CellSum q unset y) e f)
cell_assoc unset absent (present w) x y e f = absurd (subst (λ q. CellSum q (present w) y) e f)
cell_assoc unset absent (shared s w) x y e f = absurd (subst (λ q. CellSum q (shared s w) y) e f)
cell_assoc unset unset c x y e f = absurd e
cell_assoc unset (present w) c x y e f = absurd e
cell_assoc unset (shared q w) c x y e f = absurd e
cell_assoc (present v) absent absent x y e f = (absent, refl, subst (λ q. CellSum q absent y) e f)
cell_assoc (present v) absent unset x y e f = absurd (subst (λ q. CellSum q unset y) e f)
cell_assoc (present v) absent (present w) x y e f = absurd (subst (λ q. CellSum q (present w) y) e f)
cell_assoc (present v) absent (shared s w) x y e f = absurd (subst (λ q. CellSum q (shared s w) y) e f)
cell_assoc (present v) unset c x y e f = absurd e
cell_assoc (present v) (present w) c x y e f = absurd e
cell_assoc (present v) (shared q w) c x y e f = absurd e
cell_assoc (shared p v) absent c x y e f = (c, refl, subst (λ q. CellSum q c y) e f)
cell_assoc (shared p v) unset c x y e f = absurd e
cell_assoc (shared p v) (present w) c x y e f = absurd e
cell_assoc (shared p v) (shared q w) absent x y e f = (shared q w, refl, subst (λ z. CellSum (shared p v) (shared q w) z) (sym (none x y f)) e)
  where
    none : {A : Type 0} (x y : Cell A) → CellSum x absent y → y ≡ x
    none absent y f = f
    none unset y f = f
    none (present v) y f = f
    none (shared p v) y f = f
cell_assoc (shared p v) (shared q w) unset x y e f = absurd (no e.1 (subst (λ z. CellSum z unset y) e.3 f))
  where
    no : (r : Share) → CellSum (with_share r v) unset y → ⊥
    no whole f = f
    no (part p) f = f
cell_assoc (shared p v) (shared q w) (present u) x y e f = absurd (no e.1 (subst (λ z. CellSum z (present u) y) e.3 f))
  where
    no : (r : Share) → CellSum (with_share r v) (present u) y → ⊥
    no whole f = f
    no (part p) f = f
cell_assoc (shared p v) (shared q w) (shared s u) x y e f = parts_assoc p q s v w u e.1 y e.0 e.2 (subst (λ z. CellSum z (shared s u) y) e.3 f)

pub cell_same : {A : Type 0} (a b x y : Cell A) → CellSum a b x → CellSum a b y → x ≡ y
cell_same absent b x y e f = e ∙ sym f
cell_same unset absent x y e f = e ∙ sym f
cell_same unset unset x y e f = absurd e
cell_same unset (present v) x y e f = absurd e
cell_same unset (shared q v) x y e f = absurd e
cell_same (present v) absent x y e f = e ∙ sym f
cell_same (present v) unset x y e f = absurd e
cell_same (present v) (present w) x y e f = absurd e
cell_same (present v) (shared q w) x y e f = absurd e
cell_same (shared p v) absent x y e f = e ∙ sym f
cell_same (shared p v) unset x y e f = absurd e
cell_same (shared p v) (present w) x y e f = absurd e
cell_same (shared p v) (shared q w) x y e f = e.3 ∙ ap (λ z. with_share z v) (share_same e.2 f.2) ∙ sym f.3

pub cell_nothing : {A : Type 0} (a : Cell A) → CellSum a absent a
cell_nothing absent = refl
cell_nothing unset = refl
cell_nothing (present v) = refl
cell_nothing (shared p v) = refl

pub cell_none : {A : Type 0} (a b c : Cell A) → CellSum a b c → a ≡ absent → b ≡ absent → c ≡ absent
cell_none a b c e f g = subst (λ q. CellSum q absent c) f (subst (λ q. CellSum a q c) g e)

-- what is beside nothing is the whole of it
pub cell_alone : {A : Type 0} (a b c : Cell A) → CellSum a b c → b ≡ absent → c ≡ a
cell_alone a b c s e = cell_same a absent c a (subst (λ z. CellSum a z c) e s) (cell_nothing a)

-- what may be written is held by nobody else
pub writable_alone : {A : Type 0} (a b c : Cell A) → CellSum a b c → may_write a ≡ true → b ≡ absent
writable_alone absent b c s h = cc h
writable_alone unset absent c s h = refl
writable_alone unset unset c s h = absurd s
writable_alone unset (present w) c s h = absurd s
writable_alone unset (shared q w) c s h = absurd s
writable_alone (present v) absent c s h = refl
writable_alone (present v) unset c s h = absurd s
writable_alone (present v) (present w) c s h = absurd s
writable_alone (present v) (shared q w) c s h = absurd s
writable_alone (shared p v) b c s h = cc h

-- and may be written in the sum
pub writable_sum : {A : Type 0} (a b c : Cell A) → CellSum a b c → may_write a ≡ true → (may_write c ≡ true) × (b ≡ absent)
writable_sum a b c s h = let e = writable_alone a b c s h in (ap may_write (cell_alone a b c s e) ∙ h, e)

-- what may be read has the same value in the sum
pub value_sum : {A : Type 0} (a b c : Cell A) (v : A) → CellSum a b c → value_in a ≡ Some v → value_in c ≡ Some v
value_sum absent b c v s h = cc h
value_sum unset b c v s h = cc h
value_sum (present w) absent c v s h = ap value_in s ∙ h
value_sum (present w) unset c v s h = absurd s
value_sum (present w) (present u) c v s h = absurd s
value_sum (present w) (shared q u) c v s h = absurd s
value_sum (shared p w) absent c v s h = ap value_in s ∙ h
value_sum (shared p w) unset c v s h = absurd s
value_sum (shared p w) (present u) c v s h = absurd s
value_sum (shared p w) (shared q u) c v s h = ap value_in s.3 ∙ by s.1 ∙ h
  where
    by : (r : Share) → value_in (with_share r w) ≡ Some w
    by whole = refl
    by (part t) = refl

-- a spawn parts a cell, however it is lent
pub loan_sum : {A : Type 0} (l : Loan) (c : Cell A) → CellSum (lent_cell l c) (kept_cell l c) c
loan_sum unlent c = refl
loan_sum to_write c = cell_nothing c
loan_sum to_read absent = refl
loan_sum to_read unset = refl
loan_sum to_read (present v) = (refl, whole, share_comm (share_halves whole), refl)
loan_sum to_read (shared p v) = (refl, part p, share_comm (share_halves (part p)), refl)

pub lent_absent : {A : Type 0} (l : Loan) (c : Cell A) → c ≡ absent → lent_cell l c ≡ absent
lent_absent {A = A} l c e = subst (λ z. lent_cell l z ≡ absent) (sym e) (by l)
  where
    by : (l : Loan) → lent_cell {A = A} l absent ≡ absent
    by unlent = refl
    by to_read = refl
    by to_write = refl

pub kept_absent : {A : Type 0} (l : Loan) (c : Cell A) → c ≡ absent → kept_cell l c ≡ absent
kept_absent {A = A} l c e = subst (λ z. kept_cell l z ≡ absent) (sym e) (by l)
  where
    by : (l : Loan) → kept_cell {A = A} l absent ≡ absent
    by unlent = refl
    by to_read = refl
    by to_write = refl

-- a sum with a part is no part that was there before
sum_grows : {A : Type 0} (p q : Part) (v : A) (r : Share) → ShareSum (part p) (part q) r → with_share r v ≡ shared p v → ⊥
sum_grows p q v whole s k = cc k
sum_grows p q v (part t) s k = share_grows (subst (λ z. ShareSum (part p) (part q) z) (by k) s)
  where
    by : shared t v ≡ shared p v → part t ≡ part p
    by k = cc k

-- what is left beside a cell is known by the sum
pub cell_cancel : {A : Type 0} (a b c x : Cell A) → CellSum a b x → CellSum a c x → b ≡ c
cell_cancel absent b c x e f = sym e ∙ f
cell_cancel unset absent absent x e f = refl
cell_cancel unset absent unset x e f = absurd f
cell_cancel unset absent (present w) x e f = absurd f
cell_cancel unset absent (shared q w) x e f = absurd f
cell_cancel unset unset c x e f = absurd e
cell_cancel unset (present v) c x e f = absurd e
cell_cancel unset (shared q w) c x e f = absurd e
cell_cancel (present v) absent absent x e f = refl
cell_cancel (present v) absent unset x e f = absurd f
cell_cancel (present v) absent (present w) x e f = absurd f
cell_cancel (present v) absent (shared q w) x e f = absurd f
cell_cancel (present v) unset c x e f = absurd e
cell_cancel (present v) (present w) c x e f = absurd e
cell_cancel (present v) (shared q w) c x e f = absurd e
cell_cancel (shared p v) absent absent x e f = refl
cell_cancel (shared p v) absent unset x e f = absurd f
cell_cancel (shared p v) absent (present w) x e f = absurd f
cell_cancel (shared p v) absent (shared q w) x e f = absurd (sum_grows p q v f.1 f.2 (sym f.3 ∙ e))
cell_cancel (shared p v) unset c x e f = absurd e
cell_cancel (shared p v) (present w) c x e f = absurd e
cell_cancel (shared p v) (shared q w) absent x e f = absurd (sum_grows p q v e.1 e.2 (sym e.3 ∙ f))
cell_cancel (shared p v) (shared q w) unset x e f = absurd f
cell_cancel (shared p v) (shared q w) (present u) x e f = absurd f
cell_cancel (shared p v) (shared q w) (shared s u) x e f = ap (λ z. shared q z) (e.0 ∙ sym f.0) ∙ ap (λ z. shared z u) (of_part (share_cancel e.2 (subst (λ z. ShareSum (part p) (part s) z) (shares f.1 e.1 (sym f.3 ∙ e.3)) f.2)))
  where
    shares : (r t : Share) → with_share r v ≡ with_share t v → r ≡ t
    shares whole whole k = refl
    shares whole (part t) k = cc k
    shares (part r) whole k = cc k
    shares (part r) (part t) k = cc k

    of_part : part q ≡ part s → q ≡ s
    of_part k = cc k

-- a value comes into what may be written, in the sum too
pub settle_sum : (a b c : Cell ℤ) (v : ℤ) → CellSum a b c → may_write a ≡ true → CellSum (settle_cell a v) b (settle_cell c v)
settle_sum a b c v s h = let w = writable_sum a b c s h in
    subst (λ z. CellSum (settle_cell a v) z (settle_cell c v)) (sym w.1) (subst (λ z. CellSum (settle_cell a v) absent (settle_cell z v)) (sym (cell_alone a b c s w.1)) (cell_nothing (settle_cell a v)))

pub settle_writable : (a : Cell ℤ) (v : ℤ) → may_write a ≡ true → settle_cell a v ≡ present v
settle_writable absent v h = cc h
settle_writable unset v h = refl
settle_writable (present w) v h = refl
settle_writable (shared p w) v h = cc h

-- where a sum is nothing, so are its parts
pub sum_absent : {A : Type 0} (a b c : Cell A) → CellSum a b c → c ≡ absent → a ≡ absent
sum_absent absent b c s e = refl
sum_absent unset absent c s e = cc (sym s ∙ e)
sum_absent unset unset c s e = absurd s
sum_absent unset (present w) c s e = absurd s
sum_absent unset (shared q w) c s e = absurd s
sum_absent (present v) absent c s e = cc (sym s ∙ e)
sum_absent (present v) unset c s e = absurd s
sum_absent (present v) (present w) c s e = absurd s
sum_absent (present v) (shared q w) c s e = absurd s
sum_absent (shared p v) absent c s e = cc (sym s ∙ e)
sum_absent (shared p v) unset c s e = absurd s
sum_absent (shared p v) (present w) c s e = absurd s
sum_absent (shared p v) (shared q w) c s e = absurd (by s.1 (sym s.3 ∙ e))
  where
    by : (r : Share) → with_share r v ≡ absent → ⊥
    by whole k = cc k
    by (part t) k = cc k

-- ---- what no join does, and what a loan for reading is

pub no_share_twice : {A : Type 0} (p : Part) (v : A) (c : Cell A) → CellSum (shared p v) (shared p v) c → ⊥
no_share_twice p v c s = share_apart s.2

pub no_share_forgotten : {A : Type 0} (a b : Cell A) → CellSum a b a → b ≡ absent
no_share_forgotten a b s = cell_cancel a b absent a s (cell_nothing a)

pub one_word : {A : Type 0} (p q : Part) (v w : A) (c : Cell A) → CellSum (shared p v) (shared q w) c → v ≡ w
one_word p q v w c s = sym s.0

pub loan_reads : {A : Type 0} (c : Cell A) (v : A) → value_in c ≡ Some v → (value_in (lent_cell to_read c) ≡ Some v) × (value_in (kept_cell to_read c) ≡ Some v)
loan_reads absent v e = cc e
loan_reads unset v e = cc e
loan_reads (present w) v e = (e, e)
loan_reads (shared p w) v e = (e, e)

pub loan_no_write : {A : Type 0} (c : Cell A) (v : A) → value_in c ≡ Some v → (may_write (lent_cell to_read c) ≡ false) × (may_write (kept_cell to_read c) ≡ false)
loan_no_write absent v e = cc e
loan_no_write unset v e = cc e
loan_no_write (present w) v e = (refl, refl)
loan_no_write (shared p w) v e = (refl, refl)

pub loan_whole : {A : Type 0} (v : A) (c : Cell A) → CellSum (lent_cell to_read (present v)) (kept_cell to_read (present v)) c → c ≡ present v
loan_whole v c s = cell_same (lent_cell to_read (present v)) (kept_cell to_read (present v)) c (present v) s (loan_sum to_read (present v))

pub share_back : {A : Type 0} (a b : Cell A) → ComesBack a b → share_in b ≡ share_in a
share_back absent b h = h
share_back unset b h = h
share_back (present v) b h = h
share_back (shared p v) b h = ap share_in h

-- ---- cells whose values are made of others'

pub map_value : {A B : Type 0} (f : A → B) (c : Cell A) (v : A) → value_in c ≡ Some v → value_in (map_cell f c) ≡ Some (f v)
map_value f absent v e = cc e
map_value f unset v e = cc e
map_value f (present w) v e = cc e
map_value f (shared p w) v e = cc e

pub map_write : {A B : Type 0} (f : A → B) (c : Cell A) → may_write (map_cell f c) ≡ may_write c
map_write f absent = refl
map_write f unset = refl
map_write f (present v) = refl
map_write f (shared p v) = refl

pub map_same : {A B : Type 0} (f g : A → B) (c : Cell A) → ((v : A) → value_in c ≡ Some v → f v ≡ g v) → map_cell f c ≡ map_cell g c
map_same f g absent same = refl
map_same f g unset same = refl
map_same f g (present v) same = ap present (same v refl)
map_same f g (shared p v) same = ap (λ z. shared p z) (same v refl)

pub map_sum : {A B : Type 0} (f : A → B) (a b c : Cell A) → CellSum a b c → CellSum (map_cell f a) (map_cell f b) (map_cell f c)
map_sum f absent b c s = ap (λ z. map_cell f z) s
map_sum f unset absent c s = ap (λ z. map_cell f z) s
map_sum f unset unset c s = absurd s
map_sum f unset (present w) c s = absurd s
map_sum f unset (shared q w) c s = absurd s
map_sum f (present v) absent c s = ap (λ z. map_cell f z) s
map_sum f (present v) unset c s = absurd s
map_sum f (present v) (present w) c s = absurd s
map_sum f (present v) (shared q w) c s = absurd s
map_sum f (shared p v) absent c s = ap (λ z. map_cell f z) s
map_sum f (shared p v) unset c s = absurd s
map_sum f (shared p v) (present w) c s = absurd s
map_sum {B = B} f (shared p v) (shared q w) c s = (ap f s.0, s.1, s.2, ap (λ z. map_cell f z) s.3 ∙ by s.1)
  where
    by : (r : Share) → map_cell f (with_share r v) ≡ with_share r (f v)
    by whole = refl
    by (part t) = refl

-- ---- what comes back early

pub early_sum : {A : Type 0} (back rest given : Cell A) → ComesEarly back rest given → CellSum back rest given
early_sum back rest given (inl e) = subst (λ z. CellSum z rest given) (sym e.0) (sym e.1)
early_sum back rest given (inr e) = subst (λ z. CellSum z rest given) (sym e.2) (subst (λ z. CellSum given z given) (sym e.3) (cell_nothing given))

-- a value isn't put where not the whole is held
pub settle_kept : (c : Cell ℤ) (v : ℤ) → may_write c ≡ false → settle_cell c v ≡ c
settle_kept absent v e = refl
settle_kept unset v e = cc e
settle_kept (present w) v e = cc e
settle_kept (shared p w) v e = refl

pub early_settle : (back rest given : Cell ℤ) (v : ℤ) → ComesEarly back rest given → ComesEarly back (settle_cell rest v) (settle_cell given v)
early_settle back rest given v (inl e) = inl (e.0, ap (λ z. settle_cell z v) e.1)
early_settle back rest given v (inr e) = let k = settle_kept given v e.1 in
    inr (ap may_read k ∙ e.0, ap may_write k ∙ e.1, e.2 ∙ sym k, ap (λ z. settle_cell z v) e.3)

-- what wasn't there neither comes back nor stays
pub early_absent : {A : Type 0} (back rest given : Cell A) → ComesEarly back rest given → given ≡ absent → (back ≡ absent) × (rest ≡ absent)
early_absent back rest given (inl e) n = (e.0, e.1 ∙ n)
early_absent back rest given (inr e) n = (e.2 ∙ n, e.3)

-- what may not be written comes back whole
pub early_whole : {A : Type 0} (c : Cell A) → may_write c ≡ false → ComesEarly c absent c
early_whole absent e = inl (refl, refl)
early_whole unset e = cc e
early_whole (present v) e = cc e
early_whole (shared p v) e = inr (refl, refl, refl, refl)

-- what is lent for reading may not be written
pub read_only : {A : Type 0} (c : Cell A) → may_write (lent_cell to_read c) ≡ false
read_only absent = refl
read_only unset = refl
read_only (present v) = refl
read_only (shared p v) = refl

-- ---- what is held

pub held_whole : {A : Type 0} (a : Cell A) → may_write a ≡ true → is_held a ≡ true
held_whole absent p = cc p
held_whole unset p = refl
held_whole (present v) p = refl
held_whole (shared q v) p = cc p

pub value_held : {A : Type 0} (a : Cell A) (v : A) → value_in a ≡ Some v → is_held a ≡ true
value_held absent v e = cc e
value_held unset v e = cc e
value_held (present w) v e = refl
value_held (shared q w) v e = refl

pub not_held : {A : Type 0} (a : Cell A) → a ≡ absent → is_held a ≡ true → ⊥
not_held a e h = cc (sym (ap is_held e) ∙ h)

pub unheld : {A : Type 0} (a : Cell A) → (is_held a ≡ true → ⊥) → a ≡ absent
unheld absent n = refl
unheld unset n = absurd (n refl)
unheld (present v) n = absurd (n refl)
unheld (shared p v) n = absurd (n refl)

is_absent : {A : Type 0} (a : Cell A) → is_held a ≡ false → a ≡ absent
is_absent a h = unheld a (λ i. cc (sym h ∙ i))

-- what may be written of a part is the whole sum, and the other part has nothing
pub whole_left : {A : Type 0} (a b c : Cell A) → CellSum a b c → may_write a ≡ true → (c ≡ a) × (b ≡ absent)
whole_left a b c s h = let e = writable_alone a b c s h in (cell_alone a b c s e, e)

-- what is held of a part has the value of the sum, and is held of it
pub held_value : {A : Type 0} (a b c : Cell A) → CellSum a b c → is_held a ≡ true → value_in c ≡ value_in a
held_value absent b c s h = cc h
held_value unset b c s h = ap value_in (whole_left unset b c s refl).0
held_value (present v) b c s h = value_sum (present v) b c v s refl
held_value (shared p v) b c s h = value_sum (shared p v) b c v s refl

pub held_left : {A : Type 0} (a b c : Cell A) → CellSum a b c → is_held a ≡ true → is_held c ≡ true
held_left absent b c s h = cc h
held_left unset b c s h = ap is_held (whole_left unset b c s refl).0
held_left (present v) b c s h = value_held c v (value_sum (present v) b c v s refl)
held_left (shared p v) b c s h = value_held c v (value_sum (shared p v) b c v s refl)

pub held_parts : {A : Type 0} (a b c : Cell A) → CellSum a b c → is_held c ≡ true → (is_held a ≡ true) ⊎ (is_held b ≡ true)
held_parts absent b c s h = inr (ap is_held (sym s) ∙ h)
held_parts unset b c s h = inl refl
held_parts (present v) b c s h = inl refl
held_parts (shared p v) b c s h = inl refl

-- beside the same share elsewhere a cell that was held is held, if the sum may be written
pub still_held : {A : Type 0} (a b o u w : Cell A) → CellSum a o u → CellSum b o w → (is_held w ≡ true → may_write w ≡ true) → is_held o ≡ true → is_held a ≡ true → is_held b ≡ true
still_held a b o u w s r owns p q = by (is_held b) refl
  where
    by : (z : Bool) → is_held b ≡ z → is_held b ≡ true
    by true e = e
    by false e =
        let same = cell_alone o b w (cell_comm b o w r) (is_absent b e) in
        absurd (not_held a (writable_alone o a u (cell_comm a o u s) (ap may_write (sym same) ∙ owns (ap is_held same ∙ p))) q)

-- A cell beside two others has the value of the sum, where some of it is here as soon as the first of these has a part or
-- the second a value.
pub left_value : {A : Type 0} (a b x o w : Cell A) → CellSum b x o → CellSum a o w → ((is_held b ≡ true) ⊎ ((v : A) × (value_in x ≡ Some v)) → (is_held a ≡ true → ⊥) → ⊥) → value_in a ≡ value_in w
left_value {A = A} a b x o w s r n = by (is_held a) refl
  where
    by : (z : Bool) → is_held a ≡ z → value_in a ≡ value_in w
    by true i = sym (held_value a o w r i)
    by false i =
        let m = is_absent a i in
        ap value_in m ∙ sym (ap value_in (cell_alone o a w (cell_comm a o w r) m ∙ cell_alone x b o (cell_comm b x o s) (unheld b (λ k. n (inl k) (not_held a m)))) ∙ none m (value_in x) refl)
      where
        none : a ≡ absent → (z : Option A) → value_in x ≡ z → value_in x ≡ None
        none m None q = q
        none m (Some v) q = absurd (n (inr (v, q)) (not_held a m))

-- a value comes into a cell that may be written, and into no other
pub settle_or : (a : Cell ℤ) (v : ℤ) → (settle_cell a v ≡ a) ⊎ ((may_write a ≡ true) × (settle_cell a v ≡ present v))
settle_or absent v = inl refl
settle_or unset v = inr (refl, refl)
settle_or (present w) v = inr (refl, refl)
settle_or (shared p w) v = inl refl

-- what holds of the whole of a value and of each part of it holds of each cell with the value
pub valued : {A : Type 0} (P : Cell A → Type 0) (v : A) → P (present v) → ((p : Part) → P (shared p v)) → (a : Cell A) → value_in a ≡ Some v → P a
valued P v w s absent e = absurd (cc e)
valued P v w s unset e = absurd (cc e)
valued P v w s (present u) e = subst (λ z. P (present z)) (cc e) w
valued P v w s (shared p u) e = subst (λ z. P (shared p z)) (cc e) (s p)

-- ---- what comes back

-- a cell comes back as it was
pub back_same : {A : Type 0} (a b : Cell A) → b ≡ a → ComesBack a b
back_same absent b e = ap share_in e
back_same unset b e = ap share_in e
back_same (present v) b e = ap share_in e
back_same (shared p v) b e = e

whole_share : {A : Type 0} (c : Cell A) → may_write c ≡ true → share_in c ≡ Some whole
whole_share absent h = cc h
whole_share unset h = refl
whole_share (present v) h = refl
whole_share (shared p v) h = cc h

-- and one that was lent whole comes back whole, with whatever value
pub back_whole : {A : Type 0} (a b : Cell A) → may_write a ≡ true → may_write b ≡ true → ComesBack a b
back_whole absent b h g = cc h
back_whole unset b h g = whole_share b g
back_whole (present v) b h g = whole_share b g
back_whole (shared p v) b h g = cc h
