-- Each step keeps the rule, and tells what it should.
use Rattle.std.proofs.Common.{◌≡◌, ℕ, zero, suc, ◌^◌, ◌<◌, ◌≤◌, ◌≢◌, ⊎_elim, List, [], ◌∷◌, length, replicate, set, get_or, sym, refl, ap, ◌∙◌, subst, arith, true, true≢false, length-set}
use Rattle.std.specs.Prelude.{◌||◌, Some}
use mathlib.Core.Logic.{dite}
use mathlib.Core.Option.{some, some-injective, some-ne-none}
use native.Mathlib.Decide.{ℕ_discrete}
use lib.ListN.{get_elem?}
use lib.Seq.{set-get_or, get_or-set_same, get_or-set_other}
use Rattle.atomic_table.specs.Table.{State, Me, keeps, Allows, opening}
use Rattle.atomic_table.proofs.Lists.{set_again}
use Rattle.cm_share.specs.Share.{Share, whole, Point}
use Rattle.cm_share.proofs.ShareLaw.{some_point}
use Rattle.cm_words.specs.Held.{Held, nothing, held, cell, has, HeldSum, IsHeld, word_in}
use Rattle.cm_words.specs.Rule.{view, all_words, view_has, Tells, Fits, Ruled}
use Rattle.cm_words.specs.Play.{Told, read, written, merged}
use Rattle.atomic_table.specs.Seated.{TableId}
use Rattle.cm_words.specs.Granted.{Granted}
use Rattle.cm_words.specs.declared.view.View.{View}
use Rattle.cm_words.proofs.HeldLaw.{nothing_there, same_word, or_left, or_right, or_none, sum_has, sum_word, sum_of, sum_cells, cell_there, held_there}
use Rattle.cm_words.proofs.ViewLaw.{one_list, rebuild}

told : (words : List ℕ) (at : ℕ) (c : Held) → ((q : Share) (w : ℕ) → c ≡ held q w → get_or words at 0 ≡ w) → get_or words at 0 < 2 ^ 32 → Told c (get_or words at 0)
told words at nothing h small = tt
told words at (held q w) h small = (h q w refl, small)

-- a list that has nothing of the place
kept_elsewhere : (n : ℕ) (words : List ℕ) (at word : ℕ) (cells : List Held) → Tells n words cells → ((x : Point) → has (cell cells at) x ≡ true → ⊥) → Tells n (set words at word) cells
kept_elsewhere n words at word cells h free i q w e = dite (ℕ_discrete i at)
    (λ here. let p = some_point q in absurd (free p.0 (ap (λ c. has c p.0) (subst (λ k. cell cells k ≡ held q w) here e) ∙ p.1)))
    (λ other. let t = h i q w e in (t.0, get_or-set_other words at i word 0 other ∙ t.1))

module _ {S : Type 0} (n : ℕ) where
  -- a word read is put back as it was
  same_words : (s : State S View) (at : ℕ) (views : List View) → Ruled {S = S} n record { words = s.words; homes = s.homes; views = views } → Ruled {S = S} n record { words = set s.words at (get_or s.words at 0); homes = s.homes; views = views }
  same_words s at views r = subst (λ ws. Ruled {S = S} n record { words = ws; homes = s.homes; views = views }) (sym (set-get_or s.words at 0)) r

  pub reads : (slots me : ℕ) (m : Me S View) (at : ℕ) → Allows (Ruled n) slots me m at (λ k. k) (read at m)
  reads slots me m at s r long mine bound = (
    m.0,
    keeps,
    tt,
    same_words s at _ (subst (λ vs. Ruled {S = S} n record { words = s.words; homes = s.homes; views = vs }) (sym (set_again s.views me m.0 mine)) r),
    (refl, told s.words at (cell m.0.cells at) (λ q w e. ((r.fits me m.0 mine).tells at q w e).1) (r.small at)),
  )

  pub writes : (slots me : ℕ) (m : Me S View) (at word old : ℕ) → cell m.0.cells at ≡ held whole old → m.0.more ≡ [] → word < 2 ^ 32 → Allows (Ruled n) slots me m at (λ k. word) (λ r m'. written at word m m')
  writes slots me m at word old mine_whole bare small s r long mine bound = (
    w,
    keeps,
    tt,
    rebuild n s r words me m.0 w mine (length-set s.words at word ∙ r.wide) narrow fits others less,
    refl,
  )
    where
      cells : List Held
      cells = m.0.cells

      w : View
      w = view (set cells at (held whole word)) m.0.more

      words : List ℕ
      words = set s.words at word

      own : Fits n s.words m.0
      own = r.fits me m.0 mine

      inside : at < length s.words
      inside = let t = (own.tells at whole old mine_whole).0 in let l = r.wide in omega arith

      in_cells : at < length cells
      in_cells = cell_there cells at whole old mine_whole

      narrow : (i : ℕ) → get_or words i 0 < 2 ^ 32
      narrow i = dite (ℕ_discrete i at)
          (λ here. subst (λ k. get_or words k 0 < 2 ^ 32) (sym here) (subst (λ k. k < 2 ^ 32) (sym (get_or-set_same s.words at word 0 inside)) small))
          (λ other. subst (λ k. k < 2 ^ 32) (sym (get_or-set_other s.words at i word 0 other)) (r.small i))

      mine_all : (x : Point) → view_has m.0 at x ≡ true
      mine_all x = or_left _ _ (ap (λ c. has c x) mine_whole)

      no_more : (i : ℕ) → cell m.0.more i ≡ nothing
      no_more i = ap (λ h. cell h i) bare

      fits : Fits n words w
      fits = record {
        tells = λ i q v e. dite (ℕ_discrete i at)
            (λ here. subst (λ k. (k < n) × (get_or words k 0 ≡ v)) (sym here) ((own.tells at whole old mine_whole).0, get_or-set_same s.words at word 0 inside ∙ same_word (sym (get_or-set_same cells at (held whole word) nothing in_cells) ∙ subst (λ k. cell (set cells at (held whole word)) k ≡ held q v) here e)))
            (λ other. let t = own.tells i q v (sym (get_or-set_other cells at i (held whole word) nothing other) ∙ e) in (t.0, get_or-set_other s.words at i word 0 other ∙ t.1));
        more_tells = λ i q v e. absurd (nothing_there (sym (no_more i) ∙ e));
        lists_apart = λ i x a b. true≢false (sym b ∙ ap (λ c. has c x) (no_more i));
      }

      others : (j : ℕ) (u : View) → get_elem? s.views j ≡ some u → j ≢ me → Fits n words u
      others j u e ne = let f = r.fits j u e in record {
        tells = kept_elsewhere n s.words at word u.cells f.tells (λ x h. r.apart me j m.0 u mine e (λ z. ne (sym z)) at x (mine_all x) (or_left _ _ h));
        more_tells = kept_elsewhere n s.words at word u.more f.more_tells (λ x h. r.apart me j m.0 u mine e (λ z. ne (sym z)) at x (mine_all x) (or_right _ _ h));
        lists_apart = f.lists_apart;
      }

      less : (i : ℕ) (x : Point) → view_has w i x ≡ true → view_has m.0 i x ≡ true
      less i x h = dite (ℕ_discrete i at)
          (λ here. subst (λ k. view_has m.0 k x ≡ true) (sym here) (mine_all x))
          (λ other. subst (λ c. (has c x || has (cell m.0.more i) x) ≡ true) (get_or-set_other cells at i (held whole word) nothing other) h)

  -- the two lists of a seat become one
  pub merges : (slots me : ℕ) (m : Me S View) → Allows (Ruled n) slots me m 0 (λ k. k) (λ r m'. merged m m')
  merges slots me m s r long mine bound = (
    view t.0 [],
    keeps,
    tt,
    same_words s 0 _ (rebuild n s r s.words me m.0 (view t.0 []) mine r.wide r.small fits (λ j u e ne. r.fits j u e) less),
    (t.0, refl, t.1, t.2),
  )
    where
      own : Fits n s.words m.0
      own = r.fits me m.0 mine

      t : (cells : List Held) × ((i : ℕ) → HeldSum (cell m.0.cells i) (cell m.0.more i) (cell cells i)) × ((k : ℕ) → length m.0.cells ≤ k → length m.0.more ≤ k → length cells ≤ k)
      t = sum_cells m.0.cells m.0.more (λ i. sum_of (cell m.0.cells i) (cell m.0.more i) (own.lists_apart i) (λ q p v w e f. sym (own.more_tells i p w f).1 ∙ (own.tells i q v e).1))

      fits : Fits n s.words (view t.0 [])
      fits = one_list n s.words t.0 (λ i q w e. ⊎_elim (λ c. own.tells i c.0 w c.1) (λ c. own.more_tells i c.0 w c.1) (sum_word _ _ _ (t.1 i) q w e))

      less : (i : ℕ) (x : Point) → view_has (view t.0 []) i x ≡ true → view_has m.0 i x ≡ true
      less i x h = sym (sum_has _ _ _ (t.1 i) x) ∙ or_none _ h

-- ---- the opening

abbrev pub zeros : ℕ → List ℕ
zeros n = replicate n 0

all_zero : (n i : ℕ) → ◌≡◌ {A = ℕ} (get_or (zeros n) i 0) 0
all_zero zero i = refl
all_zero (suc n) zero = refl
all_zero (suc n) (suc i) = all_zero n i

all_whole : (n i : ℕ) (q : Share) (w : ℕ) → cell (replicate n (held whole 0)) i ≡ held q w → (i < n) × (0 ≡ w)
all_whole zero i q w e = absurd (nothing_there e)
all_whole (suc n) zero q w e = (omega arith, same_word e)
all_whole (suc n) (suc i) q w e = let t = all_whole n i q w e in (let k = t.0 in omega arith, t.1)

wide_zeros : (n : ℕ) → length (zeros n) ≡ n
wide_zeros zero = refl
wide_zeros (suc n) = ap suc (wide_zeros n)

pub opens : {S : Type 0} (n : ℕ) (words : List ℕ) → words ≡ zeros n → Ruled {S = S} n (opening words [] (all_words n))
opens {S} n words e = subst (λ ws. Ruled {S = S} n (opening ws [] (all_words n))) (sym e) record {
  wide = wide_zeros n;
  small = λ i. let z = all_zero n i in omega arith;
  fits = fits;
  apart = apart;
}
  where
    fits : (j : ℕ) (v : View) → get_elem? (all_words n ∷ []) j ≡ some v → Fits n (zeros n) v
    fits zero v f = subst (Fits n (zeros n)) (some-injective _ _ f) (one_list n (zeros n) (replicate n (held whole 0)) (λ i q w c. let t = all_whole n i q w c in (t.0, all_zero n i ∙ t.1)))
    fits (suc j) v f = absurd (some-ne-none v (sym f))

    apart : (j k : ℕ) (v u : View) → get_elem? (all_words n ∷ []) j ≡ some v → get_elem? (all_words n ∷ []) k ≡ some u → j ≢ k → (i : ℕ) (x : Point) → view_has v i x ≡ true → view_has u i x ≡ true → ⊥
    apart zero zero v u a b ne i x h g = ne refl
    apart zero (suc k) v u a b ne i x h g = some-ne-none u (sym b)
    apart (suc j) k v u a b ne i x h g = some-ne-none v (sym a)

-- ---- a place of a grant lies in the region

pub at_word : (at : ℕ) (cells : List Held) (words words' : ℕ) → IsHeld (cell cells at) → length cells ≤ words → words ≡ words' → at < words'
at_word at cells words words' h long e = let t = held_there cells at h in omega arith

pub is_held : (c : Held) (q : Share) (w : ℕ) → c ≡ held q w → IsHeld c
is_held c q w e = subst IsHeld (sym e) tt

pub some_words : (words key : ℕ) → words ≡ key → 0 < key → 0 < words
some_words words key e h = omega arith

-- what a load told of a place that is held
pub told_word : (c : Held) (found : ℕ) → IsHeld c → Told c found → word_in c ≡ Some found
told_word nothing found h t = absurd h
told_word (held q w) found h t = ap Some (sym t.0)

pub told_small : (c : Held) (found : ℕ) → IsHeld c → Told c found → found < 2 ^ 32
told_small nothing found h t = absurd h
told_small (held q w) found h t = t.1

pub cut_inside : (old new : List Held) (words words' : ℕ) → length new ≡ length old → length old ≤ words → words' ≡ words → length new ≤ words'
cut_inside old new words words' same long e = omega arith

-- ---- the same of a grant as contracts see it

pub inside_at : (at : ℕ) (l m : Granted) (z : TableId) → m ≡ l → IsHeld (cell l.cells at) → length m.cells ≤ m.region.words → l.region ≡ z → at < z.words
inside_at at l m z e h long g = at_word at m.cells m.region.words z.words (subst (λ (k : Granted). IsHeld (cell k.cells at)) (sym e) h) long (ap (λ (k : Granted). k.region.words) e ∙ ap (λ (k : TableId). k.words) g)

pub whole_in : (at old : ℕ) (l m : Granted) → m ≡ l → cell l.cells at ≡ held whole old → cell m.cells at ≡ held whole old
whole_in at old l m e h = ap (λ (k : Granted). cell k.cells at) e ∙ h

pub here_in : (l m : Granted) (z : TableId) → m ≡ l → l.region ≡ z → m.region ≡ z
here_in l m z e g = ap (λ (k : Granted). k.region) e ∙ g
