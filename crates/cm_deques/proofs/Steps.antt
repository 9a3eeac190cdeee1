-- Each step keeps the rule of a deque.
use Rattle.std.proofs.Common.{◌≡◌, ◌≢◌, ◌⊎◌, inl, inr, ◌+◌, ℕ, zero, suc, true, false, true≢false, Some, None, List, [], ◌∷◌, ◌++◌, All, length, reverse, set, sym, refl, ap, ◌∙◌, subst, ⊎_elim, append_assoc, arith}
use Rattle.std.specs.Option.{is_some}
use lib.Seq.{take-append_seam, drop-append_seam}
use Rattle.std.specs.List.{sum_by}
use Rattle.std.proofs.lemmas.List.{reverse-append}
use Rattle.std.proofs.lemmas.List.Sums.{sum_by-cons, sum_by-append}
use Rattle.std.proofs.lemmas.List.Sorted.{IsPermutation-reverse, sum_by-IsPermutation}
use Rattle.std.proofs.lemmas.List.Elements.{All-append, All-take, All-drop}
use mathlib.Core.Option.{some, some-ne-none}
use lib.ListN.{get_elem?}
use Rattle.crossbeam_deque.specs.Tasks.{Pushes, Takes, Pops, Forks}
use Rattle.crossbeam_deque.proofs.Lists.{at_set, at_snoc}
use Rattle.cm_deques.specs.declared.known.Known.{Known}
use Rattle.cm_deques.specs.Rule.{known, lies_at, Fits, stolen_weight, Kept, InOrder, NoneLost}

some_same : {A : Type 0} {x y : A} → some x ≡ some y → x ≡ y
some_same e = cc

module _ {T : Type 0} where
  all_left : (P : T → Type 0) (xs ys : List T) → All P (xs ++ ys) → All P xs
  all_left P xs ys h = subst (All P) (take-append_seam xs ys) (All-take P (length xs) (xs ++ ys) h)

  all_right : (P : T → Type 0) (xs ys : List T) → All P (xs ++ ys) → All P ys
  all_right P xs ys h = subst (All P) (drop-append_seam xs ys) (All-drop P (length xs) (xs ++ ys) h)

  all_map : (P Q : T → Type 0) (f : (x : T) → P x → Q x) (xs : List T) → All P xs → All Q xs
  all_map P Q f xs h k d l = f _ (h k d l)

  all_none : (P : T → Type 0) → All P []
  all_none P k d l = absurd (omega arith)

  all_one : (P : T → Type 0) (x : T) → P x → All P (x ∷ [])
  all_one P x p zero d l = p
  all_one P x p (suc k) d l = absurd (omega arith)

  pub the_one : (P : T → Type 0) (x : T) → All P (x ∷ []) → P x
  the_one P x h = h 0 x (omega arith)

module _ {X : Type 0} (f : X → ℕ) where
  -- the total after a change of one
  total_set : (xs : List X) (i : ℕ) (x y : X) → get_elem? xs i ≡ some x → sum_by f (set xs i y) + f x ≡ sum_by f xs + f y
  total_set [] i x y e = absurd (some-ne-none x (sym e))
  total_set (z ∷ xs) zero x y e = subst (λ u. sum_by f (y ∷ xs) + f u ≡ sum_by f (z ∷ xs) + f y) (some_same e) (let a = sum_by-cons f y xs in let b = sum_by-cons f z xs in omega arith)
  total_set (z ∷ xs) (suc i) x y e =
      let rest = total_set xs i x y e in
      let a = sum_by-cons f z (set xs i y) in
      let b = sum_by-cons f z xs in omega arith

  total_reverse : (xs ys : List X) → sum_by f (reverse xs ++ ys) ≡ sum_by f xs + sum_by f ys
  total_reverse xs ys =
      let a = sum_by-append f (reverse xs) ys in let b = sum_by-IsPermutation f xs (reverse xs) (IsPermutation-reverse xs) in omega arith

module _ {T H : Type 0} where
  -- the end of one thread changes, which stole no more
  same_stolen : (f : T → ℕ) (views : List (Known T H)) (port : ℕ) (v w : Known T H) → get_elem? views port ≡ some v → w.stolen ≡ v.stolen
      → stolen_weight f (set views port w) ≡ stolen_weight f views
  same_stolen f views port v w at same =
      let a = total_set (λ u. sum_by f u.stolen) views port v w at in let b = ap (sum_by f) same in omega arith

  all_set : (F : ℕ → Known T H → Type 0) (views : List (Known T H)) (port : ℕ) (w : Known T H) → F port w
      → ((j : ℕ) (u : Known T H) → j ≢ port → get_elem? views j ≡ some u → F j u)
      → (j : ℕ) (u : Known T H) → get_elem? (set views port w) j ≡ some u → F j u
  all_set F views port w mine others j u e =
      ⊎_elim (λ (x : (j ≡ port) × (w ≡ u)). subst (λ (y : ℕ × Known T H). F y.0 y.1) (λ i. (sym x.0 i, x.1 i)) mine)
      (λ (x : (j ≢ port) × (get_elem? views j ≡ some u)). others j u x.0 x.1) (at_set views port j w u e)

  module _ (lies : H → T → Type 0) where
    pub begins : Kept lies [] (known None true [] [] ∷ [])
    unfolding Kept
    begins = (None, 0, [], [], refl, all_none (lies_at lies None), only, λ f. refl)
      where
        only : (port : ℕ) (v : Known T H) → get_elem? (known None true [] [] ∷ []) port ≡ some v → Fits None 0 [] port v
        only zero v e = subst (λ (u : Known T H). Fits None 0 [] zero u) (some_same e) ((λ _. (refl, refl, refl)), inl refl)
        only (suc port) v e = absurd (some-ne-none v (sym e))

    -- the owner puts a task last
    pub pushes : (port : ℕ) (v : Known T H) (x : T) → v.is_owner ≡ true → lies_at lies v.home x
        → Pushes (Kept lies) port v (x ∷ []) (λ w. w ≡ known v.home v.is_owner (x ∷ v.pushed) v.stolen)
    unfolding Kept
    pushes port v x may here items views k at =
        let mine = k.6 port v at in
        let own = mine.0 may in
        let w : Known T H = known v.home v.is_owner (x ∷ v.pushed) v.stolen in (
          w,
          (
            k.0,
            k.1,
            x ∷ k.2,
            k.3,
            ap (λ l. x ∷ l) k.4 ∙ ap (λ l. l ++ k.3) (sym (reverse-append items (x ∷ []))),
            All-append (lies_at lies k.0) items (x ∷ []) k.5 (all_one (lies_at lies k.0) x (subst (λ h. lies_at lies h x) own.2 here)),
            all_set (Fits k.0 k.1 (x ∷ k.2)) views port w ((λ _. (own.0, ap (λ l. x ∷ l) own.1, own.2)), mine.1)
                (λ j u other e. ((λ p. absurd (other (((k.6 j u e).0 p).0 ∙ sym own.0))), (k.6 j u e).1)),
            λ f. k.7 f ∙ sym (same_stolen f views port v w at refl),
          ),
          refl,
        )

    -- the owner takes the last task
    pub pops : (port : ℕ) (v : Known T H) → v.is_owner ≡ true
        → Pops (Kept lies) port v (λ xs w. (w.home ≡ v.home) × (w.is_owner ≡ v.is_owner) × (v.pushed ≡ xs ++ w.pushed) × All (lies_at lies v.home) xs)
    unfolding Kept
    pops port v may x items views k at =
        let mine = k.6 port v at in
        let own = mine.0 may in
        let left = reverse items ++ k.3 in
        let w : Known T H = known v.home v.is_owner left v.stolen in
        let turned : k.2 ≡ x ∷ left = k.4 ∙ ap (λ l. l ++ k.3) (reverse-append items (x ∷ [])) in (
          w,
          (
            k.0,
            k.1,
            left,
            k.3,
            refl,
            all_left (lies_at lies k.0) items (x ∷ []) k.5,
            all_set (Fits k.0 k.1 left) views port w ((λ _. (own.0, refl, own.2)), mine.1)
                (λ j u other e. ((λ p. absurd (other (((k.6 j u e).0 p).0 ∙ sym own.0))), (k.6 j u e).1)),
            λ f. k.7 f ∙ sym (same_stolen f views port v w at refl),
          ),
          (
            refl,
            refl,
            own.1 ∙ turned,
            subst (λ h. All (lies_at lies h) (x ∷ [])) (sym own.2) (all_right (lies_at lies k.0) items (x ∷ []) k.5),
          ),
        )

    -- a thief takes the oldest task
    pub takes : (port : ℕ) (v : Known T H) → is_some v.home ≡ true
        → Takes (Kept lies) port v 1 (λ xs w. (w ≡ known v.home v.is_owner v.pushed (xs ++ v.stolen)) × All (lies_at lies v.home) xs)
    unfolding Kept
    takes port v housed xs items views _ _ k at =
        let mine = k.6 port v at in
        let w : Known T H = known v.home v.is_owner v.pushed (xs ++ v.stolen) in
        let is_home : v.home ≡ k.0 = ⊎_elim (λ none. absurd (true≢false (sym housed ∙ ap is_some none))) (λ same. same) mine.1 in (
          w,
          (
            k.0,
            k.1,
            k.2,
            reverse xs ++ k.3,
            (k.4 ∙ ap (λ l. l ++ k.3) (reverse-append xs items)) ∙ append_assoc (reverse items) (reverse xs) k.3,
            all_right (lies_at lies k.0) xs items k.5,
            all_set (Fits k.0 k.1 k.2) views port w mine (λ j u other e. k.6 j u e),
            λ f.
                let a = total_set (λ u. sum_by f u.stolen) views port v w at in
                let b = sum_by-append f xs v.stolen in
                let c = total_reverse f xs k.3 in
                let d = k.7 f in omega arith,
          ),
          (refl, subst (λ h. All (lies_at lies h) xs) (sym is_home) (all_left (lies_at lies k.0) xs items k.5)),
        )

    -- the owner names the home, or has it, and makes a pass that knows it
    pub names : (port : ℕ) (v : Known T H) (home : H) → v.is_owner ≡ true → (v.home ≡ None) ⊎ (v.home ≡ Some home)
        → Forks (Kept lies) port v (known (Some home) v.is_owner v.pushed v.stolen) (known (Some home) false [] [])
    unfolding Kept
    names port v home may was items views k at =
        let mine = k.6 port v at in
        let own = mine.0 may in
        let left : Known T H = known (Some home) v.is_owner v.pushed v.stolen in
        let right : Known T H = known (Some home) false [] [] in
        let others : (j : ℕ) (u : Known T H) → j ≢ port → get_elem? views j ≡ some u → Fits (Some home) k.1 k.2 j u
        = λ j u other e. (
          (λ p. absurd (other (((k.6 j u e).0 p).0 ∙ sym own.0))),
          ⊎_elim (λ none. inl none)
              (λ same. ⊎_elim (λ none. inl (same ∙ (sym own.2 ∙ none))) (λ here. inr (same ∙ (sym own.2 ∙ here))) was)
              (k.6 j u e).1,
        ) in
        let all : (j : ℕ) (u : Known T H) → get_elem? (set views port left) j ≡ some u → Fits (Some home) k.1 k.2 j u
        = all_set (Fits (Some home) k.1 k.2) views port left ((λ _. (own.0, own.1, refl)), inr refl) others in (
          Some home,
          k.1,
          k.2,
          k.3,
          k.4,
          all_map (lies_at lies k.0) (lies_at lies (Some home))
              (λ x h. ⊎_elim (λ none. absurd (subst (λ o. lies_at lies o x) (sym own.2 ∙ none) h)) (λ here. subst (λ o. lies_at lies o x) (sym own.2 ∙ here) h) was)
              items k.5,
          λ j u e. ⊎_elim (λ x. all j u x)
              (λ (is : right ≡ u). subst (λ y. Fits (Some home) k.1 k.2 j y) is ((λ p. absurd (true≢false (sym p))), inr refl))
              (at_snoc (set views port left) right u j e),
          λ f.
              let a = same_stolen f views port v left at refl in
              let b = sum_by-append (λ u. sum_by f u.stolen) (set views port left) (right ∷ []) in
              let d = k.7 f in omega arith,
        )

    pub in_order : InOrder lies
    unfolding Kept
    in_order items views port v k at may = (k.3, ((k.6 port v at).0 may).1 ∙ k.4)

    -- what was pushed and not popped is what lies there and what was stolen
    pub none_lost : NoneLost lies
    unfolding Kept
    none_lost items views port v k at may f =
        let own = (k.6 port v at).0 may in
        let a = ap (sum_by f) (own.1 ∙ k.4) in
        let b = total_reverse f items k.3 in
        let c = k.7 f in omega arith
