-- The log in the code and the one on paper.
use Rattle.std.proofs.Common.{◌≡◌, ℕ, zero, suc, ◌+◌, ◌-◌, ◌<◌, get_or, add-zero, set-set, Bool, true, false, List, [], ◌∷◌, ◌++◌, length, length-append, Option, Some, refl, sym, ap, ◌∙◌, subst, arith, inl, inr}
use Rattle.std.proofs.lemmas.Bool.{ne_eqb, eq-eqb}
use Rattle.std.specs.Prelude.{ℤ, if◌then◌else◌, slice_get, set, min, MatchOption}
use Rattle.cm_meaning.specs.End.{End, Done, Trapped, Spent}
use Rattle.cm_meaning.specs.Output.{Number, Open, Filled, hole_at, filled_at}
use Rattle.cm_meaning.specs.Output as output
use Rattle.cm_strand.specs.Owned.{Owned}
use Rattle.cm_strand.specs.Strand.{Filling, empty, filled, Hole, Entry, number, hole, hole_count, paid, done_ticks, going}
use Rattle.cm_strand.specs.Strand as paper
use Rattle.cm_strand.specs.declared.log.Log.{Log}
use Rattle.cm_strand.specs.declared.log.Filling.TheVariants as filling
use Rattle.cm_meaning.specs.Piece.{IsDone}
use Rattle.cm_strand.specs.declared.scope.Scope as code_scope
use Rattle.cm_strand.proofs.FillLaw.{fill_paid, fill_count}
use Rattle.cm_strand.specs.Turn.{fill, filled_hole, HoleAt, first_scope, course_behind}
use Rattle.cm_strand.specs.Seen.{holes_of, hole_of, output_of, entry_of, end_entry, end_filling, pieced, IsLog, largest, scopes_of, scope_of}

-- ---- the last of a list, and those before

module _ {A : Type 0} where
  pub got_last : (xs : List A) (y : A) (n : ℕ) → length xs ≡ n → slice_get (xs ++ y ∷ []) n ≡ Some y
  got_last [] y zero h = refl
  got_last [] y (suc n) h = absurd (omega (arith, h))
  got_last (x ∷ xs) y zero h = absurd (omega (arith, h))
  got_last (x ∷ xs) y (suc n) h = got_last xs y n (omega (arith, h))

  pub got_earlier : (xs ys : List A) (n : ℕ) → n < length xs → slice_get (xs ++ ys) n ≡ slice_get xs n
  got_earlier [] ys n h = absurd (omega (arith, h))
  got_earlier (x ∷ xs) ys zero h = refl
  got_earlier (x ∷ xs) ys (suc n) h = got_earlier xs ys n (omega (arith, h))

  pub put_last : (xs : List A) (y z : A) (n : ℕ) → length xs ≡ n → set (xs ++ y ∷ []) n z ≡ xs ++ z ∷ []
  put_last [] y z zero h = refl
  put_last [] y z (suc n) h = absurd (omega (arith, h))
  put_last (x ∷ xs) y z zero h = absurd (omega (arith, h))
  put_last (x ∷ xs) y z (suc n) h = ap (λ l. x ∷ l) (put_last xs y z n (omega (arith, h)))

  pub put_earlier : (xs ys : List A) (z : A) (n : ℕ) → n < length xs → set (xs ++ ys) n z ≡ set xs n z ++ ys
  put_earlier [] ys z n h = absurd (omega (arith, h))
  put_earlier (x ∷ xs) ys z zero h = refl
  put_earlier (x ∷ xs) ys z (suc n) h = ap (λ l. x ∷ l) (put_earlier xs ys z n (omega (arith, h)))

-- ---- the last hole of an output, and those before

open_last : (xs : List output.Entry) (n : ℕ) → output.hole_count xs ≡ n → hole_at n (xs ++ Open ∷ []) ≡ Some Open
open_last [] zero h = refl
open_last [] (suc n) h = absurd (omega (arith, h))
open_last (Number v ∷ xs) n h = open_last xs n h
open_last (Open ∷ xs) zero h = absurd (omega (arith, h))
open_last (Open ∷ xs) (suc n) h = open_last xs n (omega (arith, h))
open_last (Filled ns ∷ xs) zero h = absurd (omega (arith, h))
open_last (Filled ns ∷ xs) (suc n) h = open_last xs n (omega (arith, h))

hole_earlier : (xs ys : List output.Entry) (n : ℕ) → n < output.hole_count xs → hole_at n (xs ++ ys) ≡ hole_at n xs
hole_earlier [] ys n h = absurd (omega (arith, h))
hole_earlier (Number v ∷ xs) ys n h = hole_earlier xs ys n h
hole_earlier (Open ∷ xs) ys zero h = refl
hole_earlier (Open ∷ xs) ys (suc n) h = hole_earlier xs ys n (omega (arith, h))
hole_earlier (Filled ns ∷ xs) ys zero h = refl
hole_earlier (Filled ns ∷ xs) ys (suc n) h = hole_earlier xs ys n (omega (arith, h))

filled_last : (xs : List output.Entry) (p : List ℤ) (n : ℕ) → output.hole_count xs ≡ n → filled_at n p (xs ++ Open ∷ []) ≡ xs ++ Filled p ∷ []
filled_last [] p zero h = refl
filled_last [] p (suc n) h = absurd (omega (arith, h))
filled_last (Number v ∷ xs) p n h = ap (λ l. Number v ∷ l) (filled_last xs p n h)
filled_last (Open ∷ xs) p zero h = absurd (omega (arith, h))
filled_last (Open ∷ xs) p (suc n) h = ap (λ l. Open ∷ l) (filled_last xs p n (omega (arith, h)))
filled_last (Filled ns ∷ xs) p zero h = absurd (omega (arith, h))
filled_last (Filled ns ∷ xs) p (suc n) h = ap (λ l. Filled ns ∷ l) (filled_last xs p n (omega (arith, h)))

filled_earlier : (xs ys : List output.Entry) (p : List ℤ) (n : ℕ) → n < output.hole_count xs → filled_at n p (xs ++ ys) ≡ filled_at n p xs ++ ys
filled_earlier [] ys p n h = absurd (omega (arith, h))
filled_earlier (Number v ∷ xs) ys p n h = ap (λ l. Number v ∷ l) (filled_earlier xs ys p n h)
filled_earlier (Open ∷ xs) ys p zero h = refl
filled_earlier (Open ∷ xs) ys p (suc n) h = ap (λ l. Open ∷ l) (filled_earlier xs ys p n (omega (arith, h)))
filled_earlier (Filled ns ∷ xs) ys p zero h = refl
filled_earlier (Filled ns ∷ xs) ys p (suc n) h = ap (λ l. Filled ns ∷ l) (filled_earlier xs ys p n (omega (arith, h)))

pieced_last : (xs : List output.Entry) (e : End) (n : ℕ) → output.hole_count xs ≡ n → pieced n e (xs ++ Open ∷ []) ≡ xs ++ end_entry e ∷ []
pieced_last xs (Done out v t) n h = filled_last xs out n h
pieced_last xs (Trapped out k t) n h = filled_last xs out n h
pieced_last xs Spent n h = refl

pieced_earlier : (xs ys : List output.Entry) (e : End) (n : ℕ) → n < output.hole_count xs → pieced n e (xs ++ ys) ≡ pieced n e xs ++ ys
pieced_earlier xs ys (Done out v t) n h = filled_earlier xs ys out n h
pieced_earlier xs ys (Trapped out k t) n h = filled_earlier xs ys out n h
pieced_earlier xs ys Spent n h = refl

-- ---- how many holes there are

pub count_holes : (log : List Entry) → length (holes_of log) ≡ hole_count log
count_holes [] = refl
count_holes (number v ∷ log) = count_holes log
count_holes (hole H ∷ log) = let same = length-append (holes_of log) (hole_of H ∷ []) in let before = count_holes log in omega (arith, same, before)

holes_with_number : (xs : List output.Entry) (v : ℤ) → output.hole_count (xs ++ Number v ∷ []) ≡ output.hole_count xs
holes_with_number [] v = refl
holes_with_number (Number w ∷ xs) v = holes_with_number xs v
holes_with_number (Open ∷ xs) v = ap suc (holes_with_number xs v)
holes_with_number (Filled ns ∷ xs) v = ap suc (holes_with_number xs v)

holes_with_hole : (xs : List output.Entry) (f : Filling) → output.hole_count (xs ++ entry_of f ∷ []) ≡ suc (output.hole_count xs)
holes_with_hole [] empty = refl
holes_with_hole [] (filled (Done out v t) b) = refl
holes_with_hole [] (filled (Trapped out k t) b) = refl
holes_with_hole [] (filled Spent b) = refl
holes_with_hole (Number w ∷ xs) f = holes_with_hole xs f
holes_with_hole (Open ∷ xs) f = ap suc (holes_with_hole xs f)
holes_with_hole (Filled ns ∷ xs) f = ap suc (holes_with_hole xs f)

pub count_output : (log : List Entry) → output.hole_count (output_of log) ≡ hole_count log
count_output [] = refl
count_output (number v ∷ log) = holes_with_number (output_of log) v ∙ count_output log
count_output (hole H ∷ log) = holes_with_hole (output_of log) H.filling ∙ ap suc (count_output log)

-- ---- the hole of a number

pub hole_within : (log : List Entry) (n : ℕ) (H : Hole) → HoleAt log n H → n < hole_count log
hole_within [] n H at = absurd at
hole_within (number v ∷ log) n H at = hole_within log n H at
hole_within (hole G ∷ log) n H (inl x) = let same = x.0 in omega (arith, same)
hole_within (hole G ∷ log) n H (inr x) = let less = x.0 in omega (arith, less)

pub hole_there : (log : List Entry) (n : ℕ) (H : Hole) → HoleAt log n H → slice_get (holes_of log) n ≡ Some (hole_of H)
hole_there [] n H at = absurd at
hole_there (number v ∷ log) n H at = hole_there log n H at
hole_there (hole G ∷ log) n H (inl x) = got_last (holes_of log) (hole_of G) n (count_holes log ∙ sym x.0) ∙ ap (λ K. Some (hole_of K)) x.1
hole_there (hole G ∷ log) n H (inr x) =
    let less = x.0 in let count = count_holes log in got_earlier (holes_of log) (hole_of G ∷ []) n (omega (arith, less, count)) ∙ hole_there log n H x.1

pub open_there : (log : List Entry) (n : ℕ) (H : Hole) → HoleAt log n H → H.filling ≡ empty → hole_at n (output_of log) ≡ Some Open
open_there [] n H at none = absurd at
open_there (number v ∷ log) n H at none =
    let less = hole_within log n H at in let count = count_output log in
    hole_earlier (output_of log) (Number v ∷ []) n (omega (arith, less, count)) ∙ open_there log n H at none
open_there (hole G ∷ log) n H (inl x) none =
    ap (λ f. hole_at n (output_of log ++ entry_of f ∷ [])) (ap (λ (K : Hole). K.filling) x.1 ∙ none) ∙ open_last (output_of log) n (count_output log ∙ sym x.0)
open_there (hole G ∷ log) n H (inr x) none =
    let less = x.0 in let count = count_output log in
    hole_earlier (output_of log) (entry_of G.filling ∷ []) n (omega (arith, less, count)) ∙ open_there log n H x.1 none

-- ---- an end fills a hole

-- a hole that the filling finds, and one that it passes
at_it : (G : Hole) (log : List Entry) (n : ℕ) (e : End) (b : Bool) (w : Owned) → n ≡ hole_count log → fill (hole G ∷ log) n e b w ≡ hole (filled_hole G e b w) ∷ log
at_it G log n e b w same = ap (λ t. if t then hole (filled_hole G e b w) ∷ log else hole G ∷ fill log n e b w) (eq-eqb (hole_count log) n (sym same))

past_it : (G : Hole) (log : List Entry) (n : ℕ) (e : End) (b : Bool) (w : Owned) → n < hole_count log → fill (hole G ∷ log) n e b w ≡ hole G ∷ fill log n e b w
past_it G log n e b w less = ap (λ t. if t then hole (filled_hole G e b w) ∷ log else hole G ∷ fill log n e b w) (ne_eqb (hole_count log) n (λ same. absurd (omega (arith, less, same))))

pub fill_holes : (log : List Entry) (n : ℕ) (H : Hole) (e : End) (b : Bool) (w : Owned) → HoleAt log n H
    → set (holes_of log) n (record (hole_of H) { filling = end_filling e b }) ≡ holes_of (fill log n e b w)
fill_holes [] n H e b w at = absurd at
fill_holes (number v ∷ log) n H e b w at = fill_holes log n H e b w at
fill_holes (hole G ∷ log) n H e b w (inl x) =
    put_last (holes_of log) (hole_of G) (record (hole_of H) { filling = end_filling e b }) n (count_holes log ∙ sym x.0)
    ∙ ap (λ (K : Hole). holes_of log ++ record (hole_of K) { filling = end_filling e b } ∷ []) (sym x.1)
    ∙ ap holes_of (sym (at_it G log n e b w x.0))
fill_holes (hole G ∷ log) n H e b w (inr x) =
    let less = x.0 in let count = count_holes log in
    put_earlier (holes_of log) (hole_of G ∷ []) (record (hole_of H) { filling = end_filling e b }) n (omega (arith, less, count))
    ∙ ap (λ hs. hs ++ hole_of G ∷ []) (fill_holes log n H e b w x.1)
    ∙ ap holes_of (sym (past_it G log n e b w x.0))

pub fill_output : (log : List Entry) (n : ℕ) (H : Hole) (e : End) (b : Bool) (w : Owned) → HoleAt log n H → H.filling ≡ empty
    → pieced n e (output_of log) ≡ output_of (fill log n e b w)
fill_output [] n H e b w at none = absurd at
fill_output (number v ∷ log) n H e b w at none =
    let less = hole_within log n H at in let count = count_output log in
    pieced_earlier (output_of log) (Number v ∷ []) e n (omega (arith, less, count)) ∙ ap (λ xs. xs ++ Number v ∷ []) (fill_output log n H e b w at none)
fill_output (hole G ∷ log) n H e b w (inl x) none =
    ap (λ f. pieced n e (output_of log ++ entry_of f ∷ [])) (ap (λ (K : Hole). K.filling) x.1 ∙ none)
    ∙ pieced_last (output_of log) e n (count_output log ∙ sym x.0)
    ∙ ap output_of (sym (at_it G log n e b w x.0))
fill_output (hole G ∷ log) n H e b w (inr x) none =
    let less = x.0 in let count = count_output log in
    pieced_earlier (output_of log) (entry_of G.filling ∷ []) e n (omega (arith, less, count))
    ∙ ap (λ xs. xs ++ entry_of G.filling ∷ []) (fill_output log n H e b w x.1 none)
    ∙ ap output_of (sym (past_it G log n e b w x.0))

-- ---- the log as a whole

pub holes_fit : (l : Log) (log : List Entry) (n : ℕ) (H : Hole) → IsLog l log → HoleAt log n H → n < length l.holes.items
holes_fit l log n H h at = let less = hole_within log n H at in let count = count_holes log in let same = ap length h.holes in omega (arith, less, count, same)

pub hole_got : (l : Log) (log : List Entry) (n : ℕ) (H : Hole) → IsLog l log → HoleAt log n H → slice_get l.holes.items n ≡ Some (hole_of H)
hole_got l log n H h at = ap (λ hs. slice_get hs n) h.holes ∙ hole_there log n H at

pub got_it : {A : Type 0} (xs : List A) (n : ℕ) (d y : A) → slice_get xs n ≡ Some y → get_or xs n d ≡ y
got_it [] n d y h = cc
got_it (x ∷ xs) zero d y h = cc
got_it (x ∷ xs) (suc n) d y h = got_it xs n d y h

pub log_filled : (l new : Log) (log : List Entry) (n : ℕ) (H : Hole) (e : End) (aside : Owned) → IsLog l log → HoleAt log n H → H.filling ≡ empty
    → new.output ≡ pieced n e l.output → new.holes.items ≡ set l.holes.items n (record (hole_of H) { filling = end_filling e false }) → new.paid ≡ l.paid
    → IsLog new (fill log n e false aside)
log_filled l new log n H e aside h at none out holes same = record {
  output = out ∙ ap (pieced n e) h.output ∙ fill_output log n H e false aside at none;
  holes = holes ∙ ap (λ hs. set hs n (record (hole_of H) { filling = end_filling e false })) h.holes ∙ fill_holes log n H e false aside at;
  paid = same ∙ h.paid ∙ ap (λ t. min t largest) (sym (fill_paid log n H e false aside at none ∙ add-zero (paid log)));
  few = let count = fill_count log n e false aside in let few = h.few in omega (arith, count, few);
}

-- ---- the ticks of a filled hole are taken

pub hole_filled : (log : List Entry) (n : ℕ) (H : Hole) (e : End) (b : Bool) (w : Owned) → HoleAt log n H → HoleAt (fill log n e b w) n (filled_hole H e b w)
hole_filled [] n H e b w at = absurd at
hole_filled (number v ∷ log) n H e b w at = hole_filled log n H e b w at
hole_filled (hole G ∷ log) n H e b w (inl x) =
    let P : List Entry → Type 0 = λ l. HoleAt l n (filled_hole H e b w) in
    subst P (sym (at_it G log n e b w x.0)) (inl (x.0, ap (λ K. filled_hole K e b w) x.1))
hole_filled (hole G ∷ log) n H e b w (inr x) =
    let P : List Entry → Type 0 = λ l. HoleAt l n (filled_hole H e b w) in let less = x.0 in let count = fill_count log n e b w in
    subst P (sym (past_it G log n e b w x.0)) (inr (omega (arith, less, count), hole_filled log n H e b w x.1))

pub log_paid : (l new : Log) (log : List Entry) (n : ℕ) (H : Hole) (e : End) (aside : Owned) → IsLog l (fill log n e false aside) → HoleAt log n H → H.filling ≡ empty
    → new.output ≡ l.output → new.holes.items ≡ set l.holes.items n (record (hole_of H) { filling = end_filling e true }) → new.paid ≡ min (l.paid + done_ticks e) largest
    → IsLog new (fill log n e true aside)
log_paid l new log n H e aside h at none out holes same = record {
  output = out ∙ h.output ∙ sym (fill_output log n H e false aside at none) ∙ fill_output log n H e true aside at none;
  holes = holes ∙ ap (λ hs. set hs n (record (hole_of H) { filling = end_filling e true })) (h.holes ∙ sym (fill_holes log n H e false aside at))
      ∙ set-set (holes_of log) n _ _ ∙ fill_holes log n H e true aside at;
  paid = let before = h.paid in let unpaid = fill_paid log n H e false aside at none in let after = fill_paid log n H e true aside at none in omega (arith, same, before, unpaid, after);
  few = let one = fill_count log n e false aside in let two = fill_count log n e true aside in let few = h.few in omega (arith, one, two, few);
}

pub done_filling : (e : End) → IsDone e → end_filling e true ≡ filling.Done (done_ticks e) true
done_filling (Done out v n) h = refl
done_filling (Trapped out k n) h = absurd h
done_filling Spent h = absurd h

pub done_goes_on : (e : End) → IsDone e → course_behind e ≡ going
done_goes_on (Done out v n) h = refl
done_goes_on (Trapped out k n) h = absurd h
done_goes_on Spent h = absurd h

-- ---- scopes

pub innermost : (scopes : List paper.Scope) (items : List code_scope.Scope) (last : Option code_scope.Scope) → items ≡ scopes_of scopes
    → last ≡ slice_get items (length items - 1) → MatchOption last (scopes ≡ []) (λ scope. (s : paper.Scope) × (first_scope scopes ≡ Some s) × (scope ≡ scope_of s))
innermost [] items last same is =
    let P : Option code_scope.Scope → Type 0 = λ o. MatchOption o (◌≡◌ {A = List paper.Scope} [] []) (λ scope. (s : paper.Scope) × (first_scope [] ≡ Some s) × (scope ≡ scope_of s)) in
    subst P (sym (is ∙ ap (λ l. slice_get l (length l - 1)) same)) refl
innermost (s ∷ scopes) items last same is =
    let P : Option code_scope.Scope → Type 0 = λ o. MatchOption o (s ∷ scopes ≡ []) (λ scope. (t : paper.Scope) × (first_scope (s ∷ scopes) ≡ Some t) × (scope ≡ scope_of t)) in
    let count = length-append (scopes_of scopes) (scope_of s ∷ []) in
    subst P (sym (is ∙ ap (λ l. slice_get l (length l - 1)) same ∙ got_last (scopes_of scopes) (scope_of s) _ (omega (arith, count)))) (s, refl, refl)
