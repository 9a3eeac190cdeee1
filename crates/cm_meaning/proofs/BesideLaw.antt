-- A step on some words is the same step beside other words, which it leaves alone; and with what it needs of all of
-- them it goes on as it does on all.
use Rattle.std.proofs.Common.{◌≡◌, ℕ, ◌<◌, List, [], ◌∷◌, length, Option, None, Some, refl, sym, ap, ◌∙◌, subst, arith}
use Rattle.std.proofs.lemmas.Bool.{eq-eqb, eqb-true, ltb-true}
use Rattle.std.specs.Prelude.{Bool, true, false, ◌==◌, ◌&&◌, if◌then◌else◌, nat_le, nat_lt, ℤ, pos, slice_get, ⊤}
use Rattle.cm_syntax.specs.declared.stmt.Function.{Function}
use Rattle.cm_syntax.specs.declared.stmt.Program.{Program}
use Rattle.cm_syntax.specs.Label.{silent, stuck}
use Rattle.cm_syntax.specs.Cell.{Cell, absent, unset, present, shared, is_held, value_in, may_write, Loan, unlent, to_read, to_write, lent_cell, kept_cell, CellSum}
use Rattle.cm_syntax.specs.Stack.{Reference, Stack, Destination, Argument, loan_of, lent_stack, kept_stack, write_word, clear_words, write_reference, word_parameter, slice_parameter, push_frame, pop_frame, lent_word, lent_reference, StackSum, IsUnder}
use Rattle.cm_syntax.specs.Rest.{Item, end, Hand, idle, holds, returned, entering, framing, Control}
use Rattle.cm_syntax.specs.Step.{Move, top, rest_at_join, when_readable, when_writable, leave, call_bytes_in, push_call, end_call, item_step, hand_step, step}
use Rattle.cm_meaning.proofs.Walk.{Change, nothing, word, zeros, parts, changed, MayChange, Rules}
use Rattle.cm_meaning.proofs.WalkLaw.{item_law}
use Rattle.cm_meaning.proofs.SumLaw.{part_sum}
use Rattle.cm_meaning.specs.Law.{PartsBeside, IsBeside, writes_next, HasNeeded}
use Rattle.cm_syntax.proofs.CellLaw.{cell_same, cell_nothing, writable_alone, writable_sum, value_sum, held_value, loan_sum, whole_left, read_only}
use Rattle.cm_syntax.proofs.AccessLaw.{reading, writing, reads_value, writes_on, writes_no_loan}

pub and_true : (x y : Bool) → (x && y) ≡ true → (x ≡ true) × (y ≡ true)
and_true true y h = (refl, h)
and_true false y h = cc h

-- where the tests of a word hold it is that word
pub one_place : (e d t s j i : ℕ) → (e == d && (t == s && j == i)) ≡ true → (e ≡ d) × (t ≡ s) × (j ≡ i)
one_place e d t s j i q = let a = and_true (e == d) (t == s && j == i) q in let b = and_true (t == s) (j == i) a.1 in (eqb-true e d a.0, eqb-true t s b.0, eqb-true j i b.1)

pub in_slot : (e d t s j m : ℕ) → (e == d && (t == s && nat_lt j m)) ≡ true → (e ≡ d) × (t ≡ s) × (j < m)
in_slot e d t s j m q = let a = and_true (e == d) (t == s && nat_lt j m) q in let b = and_true (t == s) (nat_lt j m) a.1 in (eqb-true e d a.0, eqb-true t s b.0, ltb-true j m b.1)

-- a sum in which one cell was changed
pub sum_if : {A : Type 0} (q : Bool) (v w x y z : Cell A) → (q ≡ true → CellSum v y w) → CellSum x y z → CellSum (if q then v else x) y (if q then w else z)
sum_if true v w x y z h s = h refl
sum_if false v w x y z h s = s

-- where the other has nothing
sum_new : {A : Type 0} (q : Bool) (w x y z : Cell A) → (q ≡ true → y ≡ absent) → CellSum x y z → CellSum (if q then w else x) y (if q then w else z)
sum_new q w x y z e s = sum_if q w w x y z (λ i. subst (λ y. CellSum w y w) (sym (e i)) (cell_nothing w)) s

-- what is left of a cell by a loan has its value
less_value : {A : Type 0} (q : Bool) (l : Loan) (c : Cell A) (v : A) → value_in (if q then lent_cell l c else c) ≡ Some v → value_in c ≡ Some v
less_value true l c v e = value_sum (lent_cell l c) (kept_cell l c) c v (loan_sum l c) e
less_value false l c v e = e

-- a move that reads or writes is stuck where what comes then is
stuck_read : {A : Type 0} (c : Cell A) (l : A → Move) → ((v : A) → value_in c ≡ Some v → l v ≡ stuck) → when_readable c l ≡ stuck
stuck_read c l h = reading (λ m. m ≡ stuck) refl c l h

stuck_write : {A : Type 0} (c : Cell A) (m : Move) → (may_write c ≡ true → m ≡ stuck) → when_writable c m ≡ stuck
stuck_write c m h = writing (λ m. m ≡ stuck) refl c m h

-- what is lent and may be written is lent of the whole, and what is kept so is kept
whole_lent : {A : Type 0} (l : Loan) (a b c : Cell A) → CellSum a b c → may_write (lent_cell l a) ≡ true → lent_cell l c ≡ lent_cell l a
whole_lent unlent a b c s m = refl
whole_lent to_write a b c s m = (whole_left a b c s m).0
whole_lent to_read a b c s m = cc (sym (read_only a) ∙ m)

whole_kept : {A : Type 0} (l : Loan) (a b c : Cell A) → CellSum a b c → may_write (kept_cell l a) ≡ true → kept_cell l c ≡ kept_cell l a
whole_kept unlent a b c s m = (whole_left a b c s m).0
whole_kept to_write a b c s m = refl
whole_kept to_read absent b c s m = cc m
whole_kept to_read unset b c s m = ap (kept_cell to_read) (whole_left unset b c s refl).0
whole_kept to_read (present v) b c s m = cc m
whole_kept to_read (shared p v) b c s m = cc m

-- a part of a part, beside the same, is one whole
one_whole : {A : Type 0} (x y v z c w u : Cell A) → CellSum x y v → CellSum v c w → CellSum x y z → CellSum z c u → w ≡ u
one_whole x y v z c w u e f g h = cell_same z c w u (subst (λ q. CellSum q c w) (cell_same x y v z e g) f) h

-- what is lent and kept beside the words is together the whole
pub parted_whole : (b lent kept l k h g : Stack) → PartsBeside b lent kept l k → StackSum lent kept h → StackSum h b g → StackSum l k g
parted_whole b lent kept l k h g p a s = record {
  words = λ d t i. subst (λ z. CellSum (l.words d t i) (k.words d t i) z) (one_whole (lent.words d t i) (kept.words d t i) (p.before.words d t i) (h.words d t i) (b.words d t i) (p.whole.words d t i) (g.words d t i) (p.alone.words d t i) (p.beside.words d t i) (a.words d t i) (s.words d t i)) (p.parted.words d t i);
  references = λ d t. subst (λ z. CellSum (l.references d t) (k.references d t) z) (one_whole (lent.references d t) (kept.references d t) (p.before.references d t) (h.references d t) (b.references d t) (p.whole.references d t) (g.references d t) (p.alone.references d t) (p.beside.references d t) (a.references d t) (s.references d t)) (p.parted.references d t);
}

-- the move isn't stuck
abbrev GoesOn : Move → Type 0
GoesOn stuck = ⊥
GoesOn _ = ⊤

module _ (program : Program) (page : ℕ) (input : List ℤ) (a b g : Stack) (o : StackSum a b g) (c : Control) where
  -- a move on the part is the one on the whole, and isn't stuck where that isn't and the part has what is needed
  record Agrees (writes : Bool) (does : Stack → Move) : Type 0 where
    beside_ : IsUnder (length c.calls) b → IsBeside b (does a) (does g)
    goes : HasNeeded writes does a g → does a ≡ stuck → does g ≡ stuck

  -- the others have nothing of a word or a reference
  abbrev IsAway : (d s i : ℕ) → Type 0
  IsAway d s i = b.words d s i ≡ absent

  abbrev IsAwayReference : (d s : ℕ) → Type 0
  IsAwayReference d s = b.references d s ≡ absent

  leaf : {q : Bool} {f : Stack → Move} → (IsUnder (length c.calls) b → IsBeside b (f a) (f g)) → GoesOn (f a) → Agrees q f
  leaf s on = record { beside_ = s; goes = λ n e. absurd (subst GoesOn e on) }

  same : {q : Bool} (t : Control) → Agrees q (λ h. silent t h)
  same t = leaf (λ l u. (g, refl, o)) tt

  stops : {q : Bool} → Agrees q (λ h. stuck)
  stops = record { beside_ = λ l. tt; goes = λ n e. refl }

  -- a stack has no value that the whole doesn't have
  record Within (h : Stack) : Type 0 where
    words : (d s i : ℕ) (v : ℤ) → value_in (h.words d s i) ≡ Some v → value_in (g.words d s i) ≡ Some v
    references : (d s : ℕ) (v : Reference) → value_in (h.references d s) ≡ Some v → value_in (g.references d s) ≡ Some v

  less_word : (l : Loan) (d s i : ℕ) → Within (lent_word g l d s i)
  less_word l d s i = record { words = λ e t j v. less_value (e == d && (t == s && j == i)) l (g.words e t j) v; references = λ e t v h. h }

  less_reference : (l : Loan) (d s : ℕ) → Within (lent_reference g l d s)
  less_reference l d s = record { words = λ e t j v h. h; references = λ e t v. less_value (e == d && t == s) l (g.references e t) v }

  -- what is needed behind a cell is needed
  behind : {q : Bool} {f r : Stack → Move} → ((h : Stack) → Within h → r h ≡ stuck → f h ≡ stuck) → HasNeeded q f a g → HasNeeded q r a g
  behind go n = record {
    words = λ d s i e. n.words d s i (go _ (less_word unlent d s i) e);
    words_written = λ w d s i e. n.words_written w d s i (go _ (less_word to_read d s i) e);
    references = λ d s e. n.references d s (go _ (less_reference unlent d s) e);
    references_written = λ w d s e. n.references_written w d s (go _ (less_reference to_read d s) e);
  }

  -- what is read has its value beside other words, and where it is held
  reads : {q : Bool} {A : Type 0} (cell : Stack → Cell A) (f : A → Stack → Move) → CellSum (cell a) (cell b) (cell g)
      → ((h : Stack) → Within h → (v : A) → value_in (cell h) ≡ Some v → value_in (cell g) ≡ Some v)
      → (HasNeeded q (λ h. when_readable (cell h) (λ v. f v h)) a g → is_held (cell a) ≡ true)
      → ((v : A) → Agrees q (f v)) → Agrees q (λ h. when_readable (cell h) (λ v. f v h))
  reads cell f s less held go = record {
    beside_ = λ l. reading (λ m. IsBeside b m (when_readable (cell g) (λ v. f v g))) tt (cell a) (λ v. f v a) (λ v e.
        subst (λ m. IsBeside b (f v a) m) (sym (reads_value (cell g) v (λ v. f v g) (value_sum (cell a) (cell b) (cell g) v s e))) ((go v).beside_ l));
    goes = λ n e. stuck_read (cell g) (λ v. f v g) (λ v k. (go v).goes
        (behind (λ h w r. stuck_read (cell h) (λ v. f v h) (λ x i. let same_ : v ≡ x = cc (sym k ∙ less h w x i) in subst (λ x. f x h ≡ stuck) same_ r)) n)
        (sym (reads_value (cell a) v (λ v. f v a) (sym (held_value (cell a) (cell b) (cell g) s (held n)) ∙ k)) ∙ e));
  }

  -- what is written is held by nobody else
  writes : {q : Bool} {A : Type 0} (cell : Stack → Cell A) (f : Stack → Move) → CellSum (cell a) (cell b) (cell g)
      → (HasNeeded q (λ h. when_writable (cell h) (f h)) a g → may_write (cell a) ≡ true)
      → (cell b ≡ absent → Agrees q f) → Agrees q (λ h. when_writable (cell h) (f h))
  writes cell f s held go = record {
    beside_ = λ l. writing (λ m. IsBeside b m (when_writable (cell g) (f g))) tt (cell a) (f a) (λ e.
        let w = writable_sum (cell a) (cell b) (cell g) s e in subst (λ m. IsBeside b (f a) m) (sym (writes_on (cell g) (f g) w.0)) ((go w.1).beside_ l));
    goes = λ n e. stuck_write (cell g) (f g) (λ k. (go (writable_alone (cell a) (cell b) (cell g) s (held n))).goes
        (behind (λ h w r. stuck_write (cell h) (f h) (λ i. r)) n) (sym (writes_on (cell a) (f a) (held n)) ∙ e));
  }

  by_word : {q : Bool} (d s i : ℕ) (f : ℤ → Stack → Move) → ((v : ℤ) → Agrees q (f v)) → Agrees q (λ h. when_readable (h.words d s i) (λ v. f v h))
  by_word d s i f go = reads (λ h. h.words d s i) f (o.words d s i) (λ h w. w.words d s i) (λ n. n.words d s i (rw (eq-eqb d d refl, eq-eqb s s refl, eq-eqb i i refl) refl)) go

  by_reference : {q : Bool} (d s : ℕ) (f : Reference → Stack → Move) → ((r : Reference) → Agrees q (f r)) → Agrees q (λ h. when_readable (h.references d s) (λ r. f r h))
  by_reference d s f go = reads (λ h. h.references d s) f (o.references d s) (λ h w. w.references d s) (λ n. n.references d s (rw (eq-eqb d d refl, eq-eqb s s refl) refl)) go

  by_written : {q : Bool} → q ≡ true → (d s i : ℕ) (f : Stack → Move) → (b.words d s i ≡ absent → Agrees q f) → Agrees q (λ h. when_writable (h.words d s i) (f h))
  by_written w d s i f go = writes (λ h. h.words d s i) f (o.words d s i) (λ n. n.words_written w d s i (rw (eq-eqb d d refl, eq-eqb s s refl, eq-eqb i i refl) (writes_no_loan _ _))) go

  by_set : {q : Bool} → q ≡ true → (d s : ℕ) (f : Stack → Move) → (b.references d s ≡ absent → Agrees q f) → Agrees q (λ h. when_writable (h.references d s) (f h))
  by_set w d s f go = writes (λ h. h.references d s) f (o.references d s) (λ n. n.references_written w d s (rw (eq-eqb d d refl, eq-eqb s s refl) (writes_no_loan _ _))) go

  by_if : {q : Bool} (t : Bool) (f l : Stack → Move) → Agrees q f → Agrees q l → Agrees q (λ h. if t then f h else l h)
  by_if true f l x y = x
  by_if false f l x y = y

  sum_put : (d s i : ℕ) (v : ℤ) → b.words d s i ≡ absent → StackSum (write_word a d s i v) b (write_word g d s i v)
  sum_put d s i v none_ = record {
    words = λ e t j. sum_new (e == d && (t == s && j == i)) (present v) _ _ _ (λ q. let x = one_place e d t s j i q in (λ k. b.words (x.0 k) (x.1 k) (x.2 k)) ∙ none_) (o.words e t j);
    references = o.references;
  }

  beside_leave : {q : Bool} (k : Option (List Item)) → Agrees q (λ h. leave c h k)
  beside_leave None = stops
  beside_leave (Some k) = same _

  sum_zeroed : (d s n : ℕ) → ((i : ℕ) → i < n → b.words d s i ≡ absent) → StackSum (clear_words a d s n) b (clear_words g d s n)
  sum_zeroed d s n none_ = record {
    words = λ e t j. sum_new (e == d && (t == s && nat_lt j n)) (present (pos 0)) _ _ _ (λ q. let x = in_slot e d t s j n q in (λ k. b.words (x.0 k) (x.1 k) j) ∙ none_ j x.2) (o.words e t j);
    references = o.references;
  }

  sum_set : (h k : Stack) (d s : ℕ) (r : Reference) → b.references d s ≡ absent → StackSum h b k → StackSum (write_reference h d s r) b (write_reference k d s r)
  sum_set h k d s r none_ z = record {
    words = z.words;
    references = λ e t. sum_new (e == d && t == s) (present r) _ _ _ (λ q. let x = and_true (e == d) (t == s) q in (λ k. b.references (eqb-true e d x.0 k) (eqb-true t s x.1 k)) ∙ none_) (z.references e t);
  }

  sum_popped : (n : ℕ) → IsUnder n b → StackSum (pop_frame a n) b (pop_frame g n)
  sum_popped n u = record {
    words = λ d s i. sum_new (d == n) absent _ _ _ (λ q. u.words d s i (omega (arith, eqb-true d n q))) (o.words d s i);
    references = λ d s. sum_new (d == n) absent _ _ _ (λ q. u.references d s (omega (arith, eqb-true d n q))) (o.references d s);
  }

  beside_end : {q : Bool} (calls : List ℕ) (k : List Item) → Agrees q (λ h. end_call program page input c h calls k)
  beside_end [] k = stops
  beside_end (f ∷ calls) k = leaf (λ l u. (pop_frame g (length calls), refl, sum_popped (length calls) u)) tt

  sum_pushed : IsUnder (length c.calls) b → (ws : List Argument) → StackSum (push_frame a (length c.calls) ws) b (push_frame g (length c.calls) ws)
  sum_pushed low ws = record {
    words = λ d s i. sum_new (d == length c.calls) (if i == 0 then word_parameter ws s else unset) _ _ _ (λ q. low.words d s i (omega (arith, eqb-true d (length c.calls) q))) (o.words d s i);
    references = λ d s. sum_new (d == length c.calls) (slice_parameter ws s) _ _ _ (λ q. low.references d s (omega (arith, eqb-true d (length c.calls) q))) (o.references d s);
  }

  beside_frame : {q : Bool} (f : ℕ) (ws : List Argument) (k : List Item) (z : Option (Function ℕ)) → Agrees q (λ h. push_call program page input c h f ws k z)
  beside_frame f ws k None = stops
  beside_frame f ws k (Some z) = by_if (nat_le (call_bytes_in page (Some z)) c.account) _ _ (leaf (λ l u. (push_frame g (length c.calls) ws, refl, sum_pushed l ws)) tt) (leaf (λ l. refl) tt)

  -- what a change does to the part it does to the whole, beside the other words
  sum_changed : (x : Change) → MayChange IsAway IsAwayReference (top c.calls) x → StackSum (changed (top c.calls) x a) b (changed (top c.calls) x g)
  sum_changed nothing m = o
  sum_changed (word d s i v) m = sum_put d s i v m
  sum_changed (zeros s n) m = sum_zeroed (top c.calls) s n m
  sum_changed (parts l r x n) m = sum_set _ _ (top c.calls) r _ m.1 (sum_set a g (top c.calls) l _ m.0 o)

  -- a spawn parts the whole, with the other words
  parts_beside : (x : Destination) (ws : List Argument) → PartsBeside b (lent_stack a x ws) (kept_stack a x ws) (lent_stack g x ws) (kept_stack g x ws)
  parts_beside x ws = record {
    before = a;
    whole = g;
    alone = part_sum a x ws;
    beside = o;
    parted = part_sum g x ws;
    same_lent = λ d s i m. whole_lent (loan_of x ws d s i) (a.words d s i) (b.words d s i) (g.words d s i) (o.words d s i) m;
    same_kept = λ d s i m. whole_kept (loan_of x ws d s i) (a.words d s i) (b.words d s i) (g.words d s i) (o.words d s i) m;
  }

  rules : (q : Bool) (k : List Item) → Rules q IsAway IsAwayReference (λ f m. Agrees q f) c c.account c.rest k k
  rules q k = record {
    none = stops;
    error = λ t. leaf (λ l. refl) tt;
    reads = λ d s i f m e. by_word d s i f e;
    reads_reference = λ d s f m e. by_reference d s f e;
    writes_word = λ w d s i f m e. by_written w d s i f e;
    writes_reference = λ w d s f m e. by_set w d s f e;
    goes = λ x y new m p. leaf (λ l u. (changed (top c.calls) x g, refl, sum_changed x m)) tt;
    called = λ f ws. same _;
    spawns = λ f ws x m. leaf (λ l. (_, _, refl, parts_beside x ws)) tt;
    ticks = λ y. leaf (λ l u. (g, refl, o)) tt;
    prints = λ v. leaf (λ l u. (g, refl, o)) tt;
    syncs = λ y. leaf (λ l. refl) tt;
    leaves = beside_leave (rest_at_join k);
  }

  beside_item : (i : Item) (k : List Item) → Agrees (writes_next (i ∷ k)) (λ h. item_step program page input c h i k)
  beside_item end k = beside_end c.calls k
  beside_item i k = item_law program page input (writes_next (i ∷ k)) IsAway IsAwayReference (λ f m. Agrees (writes_next (i ∷ k)) f) c c.account c.rest k k (rules (writes_next (i ∷ k)) k) i tt (λ e. e)

  beside_step : (h : Hand) (k : List Item) → Agrees (writes_next k) (λ s. hand_step program page input c s h k)
  beside_step (entering f ws) k = leaf (λ l u. (g, refl, o)) tt
  beside_step (framing f ws) k = beside_frame f ws k (slice_get program.functions f)
  beside_step idle [] = stops
  beside_step (holds v) [] = stops
  beside_step (returned v) [] = leaf (λ l. refl) tt
  beside_step idle (i ∷ k) = beside_item i k
  beside_step (holds v) (i ∷ k) = beside_item i k
  beside_step (returned v) (i ∷ k) = beside_item i k

  agrees : Agrees (writes_next c.rest) (step program page input c)
  agrees = beside_step c.hand c.rest

  -- the law by which a child and a continuation do what the whole does
  pub beside : IsUnder (length c.calls) b → IsBeside b (step program page input c a) (step program page input c g)
  beside low = agrees.beside_ low

  -- and the other way: where they have what is needed, they are stuck only where the whole is
  pub goes_on : HasNeeded (writes_next c.rest) (step program page input c) a g → step program page input c a ≡ stuck → step program page input c g ≡ stuck
  goes_on has e = agrees.goes has e
