-- What a call passes again.
use Rattle.std.proofs.Common.{◌≡◌, ℕ, List, [], ◌∷◌, ◌++◌, inl, inr, subst, sym, ap, Option, None, Some, Contains, ◌≢◌, ◌≤◌, ◌-◌, length, get_or, take, drop, arith}
use Rattle.std.proofs.lemmas.List.{take_rest}
use Rattle.std.proofs.lemmas.List.Elements.{Contains-append_left, Contains-push, Contains-push_cases}
use Rattle.std.specs.Prelude.{◌⊎◌}
use Rattle.cm_syntax.specs.declared.expr.Mark.{Mark}
use Rattle.cm_lend.specs.Breach.{IsBest, Picks, IsAgain, IsOnceMore}
use Rattle.cm_lend.specs.declared.breach.Breach.{Breach}
use Rattle.cm_lend.specs.declared.breach.Breach.TheVariants.{Lent, Same}
use Rattle.cm_lend.proofs.BreachLaw.{best_pick, best_map, best_one, none_there}

pub none_again : (variable : ℕ) → IsBest (IsOnceMore variable []) None
none_again variable (Lent at spawn) h = h
none_again variable (Same at) h = none_there _ h

-- one more of the variable
pub once_more : (variable : ℕ) (more : List (Mark ℕ)) (x : Mark ℕ) (best r : Option Breach) → IsBest (IsOnceMore variable more) best →
    x.name ≡ variable → Picks best (Some (Same x.at)) r → IsBest (IsOnceMore variable (more ++ x ∷ [])) r
once_more variable more x best r h same k =
    best_map (λ b. IsOnceMore variable more b ⊎ (b ≡ Same x.at)) (IsOnceMore variable (more ++ x ∷ [])) r there back
    (best_pick (IsOnceMore variable more) (λ b. b ≡ Same x.at) best (Some (Same x.at)) r h (best_one (Same x.at)) k)
  where
    here : IsOnceMore variable (more ++ x ∷ []) (Same x.at)
    here = subst (λ v. Contains (more ++ x ∷ []) (record { name = v; at = x.at })) same (Contains-push more x)

    there : (b : Breach) → (IsOnceMore variable more b ⊎ (b ≡ Same x.at)) → IsOnceMore variable (more ++ x ∷ []) b
    there (Lent at spawn) (inl i) = i
    there (Same at) (inl i) = Contains-append_left more (x ∷ []) (record { name = variable; at = at }) i
    there b (inr e) = subst (IsOnceMore variable (more ++ x ∷ [])) (sym e) here

    back : (b : Breach) → IsOnceMore variable (more ++ x ∷ []) b → (IsOnceMore variable more b ⊎ (b ≡ Same x.at))
    back (Lent at spawn) i = inl i
    back (Same at) i =
        elim (Contains-push_cases more x (record { name = variable; at = at }) i)
        [ inl j ↦ inl j | inr e ↦ inr (λ k. Same (sym (ap (λ y. y.at) e) k)) ]

-- one more of another variable
pub once_other : (variable : ℕ) (more : List (Mark ℕ)) (x : Mark ℕ) (best : Option Breach) → IsBest (IsOnceMore variable more) best →
    x.name ≢ variable → IsBest (IsOnceMore variable (more ++ x ∷ [])) best
once_other variable more x best h other = best_map (IsOnceMore variable more) (IsOnceMore variable (more ++ x ∷ [])) best there back h
  where
    there : (b : Breach) → IsOnceMore variable more b → IsOnceMore variable (more ++ x ∷ []) b
    there (Lent at spawn) i = i
    there (Same at) i = Contains-append_left more (x ∷ []) (record { name = variable; at = at }) i

    back : (b : Breach) → IsOnceMore variable (more ++ x ∷ []) b → IsOnceMore variable more b
    back (Lent at spawn) i = i
    back (Same at) i =
        elim (Contains-push_cases more x (record { name = variable; at = at }) i)
        [ inl j ↦ j | inr e ↦ absurd (other (ap (λ y. y.name) e)) ]

-- nothing is passed
pub nothing_again : IsBest (IsAgain []) None
nothing_again (Lent at spawn) h = h
nothing_again (Same at) h = h

-- the first, and those behind it
pub first_again : (first : Mark ℕ) (more : List (Mark ℕ)) (x y r : Option Breach) → IsBest (IsOnceMore first.name more) x → IsBest (IsAgain more) y →
    Picks x y r → IsBest (IsAgain (first ∷ more)) r
first_again first more x y r h i k =
    best_map (λ b. IsOnceMore first.name more b ⊎ IsAgain more b) (IsAgain (first ∷ more)) r there back
    (best_pick (IsOnceMore first.name more) (IsAgain more) x y r h i k)
  where
    there : (b : Breach) → (IsOnceMore first.name more b ⊎ IsAgain more b) → IsAgain (first ∷ more) b
    there (Lent at spawn) (inl j) = j
    there (Lent at spawn) (inr j) = j
    there (Same at) j = j

    back : (b : Breach) → IsAgain (first ∷ more) b → (IsOnceMore first.name more b ⊎ IsAgain more b)
    back (Lent at spawn) j = absurd j
    back (Same at) j = j

-- the same, as the code takes a list apart
pub list_again : (passed : List (Mark ℕ)) (d : Mark ℕ) (x y r : Option Breach) → 1 ≤ length passed →
    IsBest (IsOnceMore (get_or passed 0 d).name (take (length passed - 1) (drop 1 passed))) x →
    IsBest (IsAgain (take (length passed - 1) (drop 1 passed))) y → Picks x y r → IsBest (IsAgain passed) r
list_again [] d x y r lt h i k = absurd (omega (arith, lt))
list_again (first ∷ more) d x y r lt h i k =
    let rest = take_rest (first ∷ more) 1 in
    first_again first more x y r (subst (λ xs. IsBest (IsOnceMore first.name xs) x) rest h) (subst (λ xs. IsBest (IsAgain xs) y) rest i) k
