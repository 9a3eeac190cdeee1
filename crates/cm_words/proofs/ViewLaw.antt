-- The rule, after one view has changed, after a new one has come, and after one has gone into another.
use Rattle.std.proofs.Common.{◌≡◌, ℕ, zero, suc, ◌^◌, ◌<◌, ◌≢◌, ◌⊎◌, inl, inr, ⊎_elim, List, [], ◌∷◌, ◌++◌, length, set, get_or, sym, refl, ap, ◌∙◌, subst, arith, Bool, true, true≢false}
use mathlib.Core.Option.{some, some-injective, some-ne-none}
use lib.ListN.{get_elem?}
use Rattle.atomic_table.specs.Table.{State, Splits, Joins}
use Rattle.atomic_table.proofs.Lists.{at_set, set_else}
use Rattle.cm_share.specs.Share.{Point}
use Rattle.cm_words.specs.Held.{Held, cell, has, HeldSum}
use Rattle.cm_words.specs.Rule.{view, view_has, Tells, Fits, Ruled}
use Rattle.cm_words.specs.Play.{kept_span, parted_span, kept_halves, lent_halves, both_lists, nothing_left}
use Rattle.cm_words.specs.declared.view.View.{View}
use Rattle.cm_words.proofs.HeldLaw.{cut_sums, half_sums, nothing_there, or_left, or_right, or_none, or_cases, sum_has, sum_apart, left_word, right_word}

snoc_at : {V : Type 0} (l : List V) (a b : V) (j : ℕ) → get_elem? (l ++ a ∷ []) j ≡ some b → (get_elem? l j ≡ some b) ⊎ ((j ≡ length l) × (a ≡ b))
snoc_at [] a b zero e = inr (refl, some-injective a b e)
snoc_at [] a b (suc j) e = absurd (some-ne-none b (sym e))
snoc_at (x ∷ xs) a b zero e = inl e
snoc_at (x ∷ xs) a b (suc j) e = ⊎_elim (λ t. inl t) (λ t. inr (ap suc t.0, t.1)) (snoc_at xs a b j e)

there : {A : Type 0} (l : List A) (i : ℕ) (a : A) → get_elem? l i ≡ some a → i < length l
there [] i a e = absurd (some-ne-none a (sym e))
there (x ∷ xs) zero a e = omega arith
there (x ∷ xs) (suc i) a e = let t = there xs i a e in omega arith

-- one list alone
pub one_list : (n : ℕ) (words : List ℕ) (cells : List Held) → Tells n words cells → Fits n words (view cells [])
one_list n words cells h = record {
  tells = h;
  more_tells = λ i q w e. absurd (nothing_there e);
  lists_apart = λ i x a b. true≢false (sym b);
}

module _ {S : Type 0} (n : ℕ) (s : State S View) (r : Ruled n s) where
  -- one view has changed to one that has no new point, maybe with the words
  pub rebuild : (words : List ℕ) (me : ℕ) (v w : View) → get_elem? s.views me ≡ some v
      → length words ≡ n → ((i : ℕ) → get_or words i 0 < 2 ^ 32)
      → Fits n words w → ((j : ℕ) (u : View) → get_elem? s.views j ≡ some u → j ≢ me → Fits n words u)
      → ((i : ℕ) (x : Point) → view_has w i x ≡ true → view_has v i x ≡ true)
      → Ruled {S = S} n record { words = words; homes = s.homes; views = set s.views me w }
  rebuild words me v w mine wide small fits others less = record {
    wide = wide;
    small = small;
    fits = λ j u e. ⊎_elim (λ (t : (j ≡ me) × (w ≡ u)). subst (Fits n words) t.1 fits) (λ (t : (j ≢ me) × (get_elem? s.views j ≡ some u)). others j u t.1 t.0) (at_set s.views me j w u e);
    apart = λ j k a b ea eb ne i x ha hb. ⊎_elim
        (λ (t : (j ≡ me) × (w ≡ a)). ⊎_elim
        (λ (y : (k ≡ me) × (w ≡ b)). ne (t.0 ∙ sym y.0))
        (λ (y : (k ≢ me) × (get_elem? s.views k ≡ some b)). r.apart me k v b mine y.1 (λ z. y.0 (sym z)) i x (less i x (subst (λ z. view_has z i x ≡ true) (sym t.1) ha)) hb)
        (at_set s.views me k w b eb))
        (λ (t : (j ≢ me) × (get_elem? s.views j ≡ some a)). ⊎_elim
        (λ (y : (k ≡ me) × (w ≡ b)). r.apart j me a v t.1 mine t.0 i x ha (less i x (subst (λ z. view_has z i x ≡ true) (sym y.1) hb)))
        (λ (y : (k ≢ me) × (get_elem? s.views k ≡ some b)). r.apart j k a b t.1 y.1 ne i x ha hb)
        (at_set s.views me k w b eb))
        (at_set s.views me j w a ea);
  }

  -- a new view comes, which has no point of another
  pub adds : (u : View) → Fits n s.words u → ((j : ℕ) (a : View) → get_elem? s.views j ≡ some a → (i : ℕ) (x : Point) → view_has a i x ≡ true → view_has u i x ≡ true → ⊥)
      → Ruled {S = S} n record { words = s.words; homes = s.homes; views = s.views ++ u ∷ [] }
  adds u fits free = record {
    wide = r.wide;
    small = r.small;
    fits = λ j a e. ⊎_elim (λ (t : get_elem? s.views j ≡ some a). r.fits j a t) (λ (t : (j ≡ length s.views) × (u ≡ a)). subst (Fits n s.words) t.1 fits) (snoc_at s.views u a j e);
    apart = λ j k a b ea eb ne i x ha hb. ⊎_elim
        (λ (t : get_elem? s.views j ≡ some a). ⊎_elim
        (λ (y : get_elem? s.views k ≡ some b). r.apart j k a b t y ne i x ha hb)
        (λ (y : (k ≡ length s.views) × (u ≡ b)). free j a t i x ha (subst (λ z. view_has z i x ≡ true) (sym y.1) hb))
        (snoc_at s.views u b k eb))
        (λ (t : (j ≡ length s.views) × (u ≡ a)). ⊎_elim
        (λ (y : get_elem? s.views k ≡ some b). free k b y i x hb (subst (λ z. view_has z i x ≡ true) (sym t.1) ha))
        (λ (y : (k ≡ length s.views) × (u ≡ b)). ne (t.0 ∙ sym y.0))
        (snoc_at s.views u b k eb))
        (snoc_at s.views u a j ea);
  }

-- a view is cut into two whose sum it is
pub parts : {S : Type 0} (n me : ℕ) (v : View) (ls rs : List Held) → ((i : ℕ) → HeldSum (cell ls i) (cell rs i) (cell v.cells i)) → Splits {S = S} (Ruled n) me v (view ls []) (view rs [])
parts {S} n me v ls rs sums s r mine = adds n mid kept (view rs []) (one_list n s.words rs (λ i q w e. let t = right_word _ _ _ (sums i) q w e in own.tells i t.0 w t.1))
    (λ j a e i x ha hb. ⊎_elim
    (λ (t : (j ≡ me) × (view ls [] ≡ a)). sum_apart (cell ls i) (cell rs i) (cell v.cells i) (sums i) x (or_none _ (subst (λ z. view_has z i x ≡ true) (sym t.1) ha)) (or_none _ hb))
    (λ (t : (j ≢ me) × (get_elem? s.views j ≡ some a)). r.apart j me a v t.1 mine t.0 i x ha (right_in i x hb))
    (at_set s.views me j (view ls []) a e))
  where
    own : Fits n s.words v
    own = r.fits me v mine

    left_in : (i : ℕ) (x : Point) → view_has (view ls []) i x ≡ true → view_has v i x ≡ true
    left_in i x h = or_left _ _ (sum_has _ _ _ (sums i) x ∙ or_left _ _ (or_none _ h))

    right_in : (i : ℕ) (x : Point) → view_has (view rs []) i x ≡ true → view_has v i x ≡ true
    right_in i x h = or_left _ _ (sum_has _ _ _ (sums i) x ∙ or_right _ _ (or_none _ h))

    mid : State S View
    mid = record { words = s.words; homes = s.homes; views = set s.views me (view ls []) }

    kept : Ruled n mid
    kept = rebuild n s r s.words me v (view ls []) mine r.wide r.small (one_list n s.words ls (λ i q w e. let t = left_word _ _ _ (sums i) q w e in own.tells i t.0 w t.1)) (λ j u e ne. r.fits j u e) left_in

-- a view goes beside another's list
pub joins : {S : Type 0} (n me other : ℕ) (v w : View) → Joins {S = S} (Ruled n) me v other w (both_lists v w) nothing_left
joins {S} n me other v w s r mine apart theirs = record {
  wide = r.wide;
  small = r.small;
  fits = λ j u e. ⊎_elim
      (λ (t : nothing_left ≡ u). subst (Fits n s.words) t (one_list n s.words [] (λ i q x f. absurd (nothing_there f))))
      (λ t. ⊎_elim (λ (y : (j ≡ me) × (both_lists v w ≡ u)). subst (Fits n s.words) y.1 both) (λ (y : (j ≢ me) × (j ≢ other) × (get_elem? s.views j ≡ some u)). r.fits j u y.2) t)
      (class j u e);
  apart = λ j k a b ea eb ne i x ha hb. ⊎_elim
      (λ (t : nothing_left ≡ a). true≢false (sym (subst (λ z. view_has z i x ≡ true) (sym t) ha)))
      (λ t. ⊎_elim
      (λ (c : nothing_left ≡ b). true≢false (sym (subst (λ z. view_has z i x ≡ true) (sym c) hb)))
      (λ c. pair j k a b ne i x ha hb t c)
      (class k b eb))
      (class j a ea);
}
  where
    his : get_elem? s.views other ≡ some w
    his = sym (set_else s.views me other (both_lists v w) apart) ∙ theirs

    both : Fits n s.words (both_lists v w)
    both = record {
      tells = (r.fits me v mine).tells;
      more_tells = (r.fits other w his).tells;
      lists_apart = λ i x a b. r.apart me other v w mine his (λ e. apart (sym e)) i x (or_left _ _ a) (or_left _ _ b);
    }

    Old : ℕ → View → Type 0
    Old j u = ((j ≡ me) × (both_lists v w ≡ u)) ⊎ ((j ≢ me) × (j ≢ other) × (get_elem? s.views j ≡ some u))

    class : (j : ℕ) (u : View) → get_elem? (set (set s.views me (both_lists v w)) other nothing_left) j ≡ some u → (nothing_left ≡ u) ⊎ Old j u
    class j u e = ⊎_elim (λ (t : (j ≡ other) × (nothing_left ≡ u)). inl t.1)
        (λ (t : (j ≢ other) × (get_elem? (set s.views me (both_lists v w)) j ≡ some u)). inr (⊎_elim (λ (y : (j ≡ me) × (both_lists v w ≡ u)). inl y) (λ (y : (j ≢ me) × (get_elem? s.views j ≡ some u)). inr (y.0, t.0, y.1)) (at_set s.views me j (both_lists v w) u t.1)))
        (at_set (set s.views me (both_lists v w)) other j nothing_left u e)

    touch : (k : ℕ) (u : View) → k ≢ me → k ≢ other → get_elem? s.views k ≡ some u → (i : ℕ) (x : Point) → view_has (both_lists v w) i x ≡ true → view_has u i x ≡ true → ⊥
    touch k u a b e i x h g = ⊎_elim
        (λ (c : has (cell v.cells i) x ≡ true). r.apart me k v u mine e (λ z. a (sym z)) i x (or_left _ _ c) g)
        (λ (c : has (cell w.cells i) x ≡ true). r.apart other k w u his e (λ z. b (sym z)) i x (or_left _ _ c) g)
        (or_cases (has (cell v.cells i) x) (has (cell w.cells i) x) h)

    pair : (j k : ℕ) (a b : View) → j ≢ k → (i : ℕ) (x : Point) → view_has a i x ≡ true → view_has b i x ≡ true → Old j a → Old k b → ⊥
    pair j k a b ne i x ha hb (inl t) (inl y) = ne (t.0 ∙ sym y.0)
    pair j k a b ne i x ha hb (inl t) (inr y) = touch k b y.0 y.1 y.2 i x (subst (λ z. view_has z i x ≡ true) (sym t.1) ha) hb
    pair j k a b ne i x ha hb (inr t) (inl y) = touch j a t.0 t.1 t.2 i x (subst (λ z. view_has z i x ≡ true) (sym y.1) hb) ha
    pair j k a b ne i x ha hb (inr t) (inr y) = r.apart j k a b t.2 y.2 ne i x ha hb

-- some places leave a grant, and half of the shares of some places
pub cuts : {S : Type 0} (inside : ℕ → Bool) (n me : ℕ) (v : View) → Splits {S = S} (Ruled n) me v (kept_span inside v) (parted_span inside v)
cuts inside n me v = parts n me v _ _ (cut_sums inside v.cells)

pub halves : {S : Type 0} (inside : ℕ → Bool) (n me : ℕ) (v : View) → Splits {S = S} (Ruled n) me v (kept_halves inside v) (lent_halves inside v)
halves inside n me v = parts n me v _ _ (half_sums inside v.cells)
