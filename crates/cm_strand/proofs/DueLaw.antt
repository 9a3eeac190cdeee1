-- What a join takes of the log in the code and of the one on paper.
use Rattle.std.proofs.Common.{◌≡◌, ℕ, zero, suc, ◌+◌, ◌<◌, ◌≤◌, Bool, true, false, List, [], ◌∷◌, ◌++◌, length, length-append, map, take, drop, get_or, set, Option, None, Some, refl, sym, ap, ◌∙◌, arith}
use Rattle.std.proofs.lemmas.Bool.{leb-true, leb-false}
use Rattle.std.proofs.lemmas.List.{map-append, take_all, take-append-le, drop-append-le, drop_all}
use Rattle.std.specs.Prelude.{nat_le, if◌then◌else◌, ◌-◌, MatchOption, vec_len}
use Rattle.cm_meaning.specs.End.{Done, Trapped, Spent}
use Rattle.cm_meaning.specs.Output.{Number}
use Rattle.cm_strand.specs.Strand.{Filling, empty, filled, Hole, Entry, number, hole, hole_count, Scope}
use Rattle.cm_strand.specs.Turn.{unpaid, unpaid_by, paid_filling, joined_hole, joined_log, FilledDone, AllFilledDone, first_scope, outer}
use Rattle.cm_strand.specs.Seen.{holes_of, hole_of, filling_of, output_of, entry_of, scope_of, scopes_of, IsStrand}
use Rattle.cm_strand.specs.Due.{hole_due, both, all_due, taken, taken_hole, joined_holes}
use Rattle.cm_strand.specs.declared.log.Hole as code_hole
use Rattle.cm_strand.specs.declared.scope.Scope as code_scope
use Rattle.cm_strand.specs.declared.strand.Strand as code_strand
use Rattle.cm_strand.specs.Strand as paper
use Rattle.cm_strand.proofs.LogLaw.{count_holes, got_last, got_it}

-- one hole more is taken
pub taken_more : {A : Type 0} (f : A → A) (xs : List A) (i : ℕ) (d : A) → i < length xs
    → set (map f (take i xs) ++ drop i xs) i (f (get_or (map f (take i xs) ++ drop i xs) i d)) ≡ map f (take (suc i) xs) ++ drop (suc i) xs
taken_more f [] i d h = absurd (omega (arith, h))
taken_more f (x ∷ xs) zero d h = refl
taken_more f (x ∷ xs) (suc i) d h = ap (λ l. f x ∷ l) (taken_more f xs i d (omega (arith, h)))

behind : {A : Type 0} (xs ys zs : List A) → (xs ++ ys) ++ zs ≡ xs ++ (ys ++ zs)
behind [] ys zs = refl
behind (x ∷ xs) ys zs = ap (λ l. x ∷ l) (behind xs ys zs)

-- ---- one hole

due_of_done : (F : Filling) → FilledDone F → hole_due (filling_of F) ≡ Some (unpaid_by F)
due_of_done empty h = absurd h
due_of_done (filled (Done out v n) true) h = refl
due_of_done (filled (Done out v n) false) h = refl
due_of_done (filled (Trapped out k n) b) h = absurd h
due_of_done (filled Spent b) h = absurd h

taken_is : (F : Filling) → taken (filling_of F) ≡ filling_of (paid_filling F)
taken_is empty = refl
taken_is (filled (Done out v n) b) = refl
taken_is (filled (Trapped out k n) b) = refl
taken_is (filled Spent b) = refl

entry_is : (F : Filling) → entry_of (paid_filling F) ≡ entry_of F
entry_is empty = refl
entry_is (filled e b) = refl

-- ---- where a hole stands

from_here : (xs : List code_hole.Hole) (y : code_hole.Hole) (n : ℕ) → n ≤ length xs → joined_holes n (xs ++ y ∷ []) ≡ joined_holes n xs ++ taken_hole y ∷ []
from_here xs y n h =
    (λ i. take-append-le n xs (y ∷ []) h i ++ map taken_hole (drop-append-le n xs (y ∷ []) h i))
    ∙ ap (λ l. take n xs ++ l) (map-append taken_hole (drop n xs) (y ∷ [])) ∙ sym (behind (take n xs) (map taken_hole (drop n xs)) (taken_hole y ∷ []))

all_before : (xs : List code_hole.Hole) (n : ℕ) → length xs ≤ n → joined_holes n xs ≡ xs ++ []
all_before xs n h = λ i. take_all n xs h i ++ map taken_hole (drop_all n xs h i)

before_it : (xs : List code_hole.Hole) (y : code_hole.Hole) (n : ℕ) → length xs < n → joined_holes n (xs ++ y ∷ []) ≡ joined_holes n xs ++ y ∷ []
before_it xs y n h =
    let count = length-append xs (y ∷ []) in
    all_before (xs ++ y ∷ []) n (omega (arith, h, count)) ∙ behind xs (y ∷ []) [] ∙ sym (ap (λ l. l ++ y ∷ []) (all_before xs n (omega (arith, h))) ∙ behind xs [] (y ∷ []))

-- ---- the log

pub holes_joined : (first : ℕ) (log : List Entry) → joined_holes first (holes_of log) ≡ holes_of (joined_log first log)
holes_joined zero [] = refl
holes_joined (suc n) [] = refl
holes_joined first (number v ∷ log) = holes_joined first log
holes_joined first (hole H ∷ log) = by (nat_le first (hole_count log)) refl (holes_joined first log)
  where
    by : (test : Bool) → nat_le first (hole_count log) ≡ test → joined_holes first (holes_of log) ≡ holes_of (joined_log first log)
        → joined_holes first (holes_of log ++ hole_of H ∷ []) ≡ holes_of ((if test then hole (joined_hole H) else hole H) ∷ joined_log first log)
    by true is older = let le = leb-true first (hole_count log) is in let count = count_holes log in
        from_here (holes_of log) (hole_of H) first (omega (arith, le, count))
        ∙ (λ i. older i ++ record { used = H.used; target = H.target; filling = taken_is H.filling i } ∷ [])
    by false is older = let lt = leb-false first (hole_count log) is in let count = count_holes log in
        before_it (holes_of log) (hole_of H) first (omega (arith, lt, count)) ∙ ap (λ l. l ++ hole_of H ∷ []) older

pub output_joined : (first : ℕ) (log : List Entry) → output_of log ≡ output_of (joined_log first log)
output_joined first [] = refl
output_joined first (number v ∷ log) = ap (λ l. l ++ Number v ∷ []) (output_joined first log)
output_joined first (hole H ∷ log) =
    elim (nat_le first (hole_count log)) as (λ t. output_of log ++ entry_of H.filling ∷ [] ≡ output_of ((if t then hole (joined_hole H) else hole H) ∷ joined_log first log)) [
      | true ↦ λ i. output_joined first log i ++ sym (entry_is H.filling) i ∷ []
      | false ↦ ap (λ l. l ++ entry_of H.filling ∷ []) (output_joined first log)
    ]

-- ---- the ticks

due_with : (xs : List code_hole.Hole) (y : code_hole.Hole) → all_due (xs ++ y ∷ []) ≡ both (all_due xs) (hole_due y.filling)
due_with [] y = by (hole_due y.filling)
  where
    by : (d : Option ℕ) → both d (Some 0) ≡ both (Some 0) d
    by None = refl
    by (Some n) = let same : n + 0 ≡ 0 + n = omega arith in ap Some same
due_with (x ∷ xs) y = ap (both (hole_due x.filling)) (due_with xs y) ∙ three (hole_due x.filling) (all_due xs) (hole_due y.filling)
  where
    three : (a b d : Option ℕ) → both a (both b d) ≡ both (both a b) d
    three None b d = refl
    three (Some m) None d = refl
    three (Some m) (Some n) None = refl
    three (Some m) (Some n) (Some k) = let same : m + (n + k) ≡ (m + n) + k = omega arith in ap Some same

due_later : (log : List Entry) (H : Hole) (first : ℕ) → first ≤ hole_count log
    → all_due (drop first (holes_of log ++ hole_of H ∷ [])) ≡ both (all_due (drop first (holes_of log))) (hole_due (filling_of H.filling))
due_later log H first le =
    let count = count_holes log in
    ap all_due (drop-append-le first (holes_of log) (hole_of H ∷ []) (omega (arith, le, count))) ∙ due_with (drop first (holes_of log)) (hole_of H)

due_none : (log : List Entry) (H : Hole) (first : ℕ) → hole_count log < first → all_due (drop first (holes_of log ++ hole_of H ∷ [])) ≡ all_due (drop first (holes_of log))
due_none log H first lt =
    let count = count_holes log in let more = length-append (holes_of log) (hole_of H ∷ []) in
    ap all_due (drop_all first (holes_of log ++ hole_of H ∷ []) (omega (arith, lt, count, more))) ∙ sym (ap all_due (drop_all first (holes_of log) (omega (arith, lt, count))))

-- where all are Done, what is due are the ticks that weren't taken
pub due_is : (first : ℕ) (log : List Entry) → AllFilledDone first log → all_due (drop first (holes_of log)) ≡ Some (unpaid first log)
due_is zero [] h = refl
due_is (suc n) [] h = refl
due_is first (number v ∷ log) h = due_is first log h
due_is first (hole H ∷ log) h = by (nat_le first (hole_count log)) refl (due_is first log h.1)
  where
    by : (test : Bool) → nat_le first (hole_count log) ≡ test → all_due (drop first (holes_of log)) ≡ Some (unpaid first log)
        → all_due (drop first (holes_of log ++ hole_of H ∷ [])) ≡ Some (unpaid first log + (if test then unpaid_by H.filling else 0))
    by true is older = let le = leb-true first (hole_count log) is in
        due_later log H first le ∙ (λ i. both (older i) (due_of_done H.filling (h.0 le) i))
    by false is older = let same : unpaid first log ≡ unpaid first log + 0 = omega arith in
        due_none log H first (leb-false first (hole_count log) is) ∙ older ∙ ap Some same

done_of_due : (F : Filling) (n : ℕ) → hole_due (filling_of F) ≡ Some n → FilledDone F
done_of_due empty n h = cc
done_of_due (filled (Done out v t) b) n h = tt
done_of_due (filled (Trapped out k t) b) n h = cc
done_of_due (filled Spent b) n h = cc

parts_of_both : (a b : Option ℕ) (n : ℕ) → both a b ≡ Some n → ((m : ℕ) × (a ≡ Some m)) × ((m : ℕ) × (b ≡ Some m))
parts_of_both None b n h = cc
parts_of_both (Some m) None n h = cc
parts_of_both (Some m) (Some k) n h = ((m, refl), (k, refl))

-- and where something is due, all are Done
pub due_done : (first : ℕ) (log : List Entry) (n : ℕ) → all_due (drop first (holes_of log)) ≡ Some n → AllFilledDone first log
due_done first [] n h = tt
due_done first (number v ∷ log) n h = due_done first log n h
due_done first (hole H ∷ log) n h = by (nat_le first (hole_count log)) refl (due_done first log)
  where
    by : (test : Bool) → nat_le first (hole_count log) ≡ test → ((m : ℕ) → all_due (drop first (holes_of log)) ≡ Some m → AllFilledDone first log)
        → (first ≤ hole_count log → FilledDone H.filling) × AllFilledDone first log
    by true is older = let le = leb-true first (hole_count log) is in
        let x = parts_of_both _ _ n (sym (due_later log H first le) ∙ h) in ((λ le. done_of_due H.filling x.1.0 x.1.1), older x.0.0 x.0.1)
    by false is older = let lt = leb-false first (hole_count log) is in
        ((λ le. absurd (omega (arith, le, lt))), older n (sym (due_none log H first lt) ∙ h))

-- ---- the scope that is closed

some_one : (u v : code_scope.Scope) → Some u ≡ Some v → u ≡ v
some_one u v h = cc

pub popped : (scopes : List Scope) (items : List code_scope.Scope) (n : ℕ) (u : code_scope.Scope) (s : Scope) → items ≡ scopes_of scopes → n ≡ length items
    → (0 < n → Some u ≡ Some (get_or items (n - 1) u)) → first_scope scopes ≡ Some s → u ≡ scope_of s
popped [] items n u s same len is first = cc
popped (t ∷ scopes) items n u s same len is first =
    let more = length-append (scopes_of scopes) (scope_of t ∷ []) in let all = ap length same in
    some_one u _ (is (omega (arith, more, all, len))) ∙ ap (λ l. get_or l (n - 1) u) same
    ∙ got_it (scopes_of scopes ++ scope_of t ∷ []) (n - 1) u (scope_of t) (got_last (scopes_of scopes) (scope_of t) (n - 1) (omega (arith, more, all, len)))
    ∙ some_one (scope_of t) (scope_of s) (ap code first)
  where
    code : Option Scope → Option code_scope.Scope
    code None = None
    code (Some x) = Some (scope_of x)

pub popped_rest : (scopes : List Scope) (items new : List code_scope.Scope) (n : ℕ) → items ≡ scopes_of scopes → n ≡ length items → new ≡ take (n - 1) items
    → new ≡ scopes_of (outer scopes)
popped_rest [] items new n same len is = is ∙ ap (take (n - 1)) same ∙ take_all (n - 1) [] (omega arith)
popped_rest (t ∷ scopes) items new n same len is =
    let more = length-append (scopes_of scopes) (scope_of t ∷ []) in let all = ap length same in
    is ∙ ap (take (n - 1)) same ∙ take-append-le (n - 1) (scopes_of scopes) (scope_of t ∷ []) (omega (arith, more, all, len)) ∙ take_all (n - 1) (scopes_of scopes) (omega (arith, more, all, len))

-- ---- what fits

some_number : (m n : ℕ) → Some m ≡ Some n → m ≡ n
some_number m n h = cc

-- what is due are the ticks that weren't taken
pub due_unpaid : (first : ℕ) (log : List Entry) (n : ℕ) → all_due (drop first (holes_of log)) ≡ Some n → unpaid first log ≡ n
due_unpaid first log n h = some_number _ _ (sym (due_is first log (due_done first log n h)) ∙ h)

-- the answer of the code tells it of the log on paper
pub due_tells : (first left : ℕ) (log : List Entry) (hs : List code_hole.Hole) (o : Option ℕ) → hs ≡ holes_of log
    → MatchOption o ((n : ℕ) → all_due (drop first hs) ≡ Some n → left < n) (λ due. (all_due (drop first hs) ≡ Some due) × (due ≤ left))
    → MatchOption o (AllFilledDone first log → left < unpaid first log) (λ due. AllFilledDone first log × (unpaid first log ≡ due) × (due ≤ left))
due_tells first left log hs None same h = λ done. h (unpaid first log) (ap (λ l. all_due (drop first l)) same ∙ due_is first log done)
due_tells first left log hs (Some due) same h =
    let is = sym (ap (λ l. all_due (drop first l)) same) ∙ h.0 in (due_done first log due is, due_unpaid first log due is, h.1)

pub is_scope : (k : code_strand.Strand) (u : code_scope.Scope) (S : paper.Strand) (s : Scope) → IsStrand k S → first_scope S.scopes ≡ Some s
    → (0 < k.scopes.len → Some u ≡ Some (get_or k.scopes.items (k.scopes.len - 1) u)) → u ≡ scope_of s
is_scope k u S s h is last = popped S.scopes k.scopes.items k.scopes.len u s h.scopes k.scopes.ok.0 last is

pub first_fits : (k : code_strand.Strand) (u : code_scope.Scope) (S : paper.Strand) (s : Scope) → IsStrand k S → u ≡ scope_of s → s.first ≤ hole_count S.log
    → u.first ≤ vec_len k.log.holes
first_fits k u S s h is le =
    let first = ap (λ (x : code_scope.Scope). x.first) is in let all = ap length h.log.holes in let count = count_holes S.log in
    let len = k.log.holes.ok.0 in omega (arith, first, all, count, le, len)
