-- What is kept of joined pieces of text.
use Rattle.std.proofs.Common.{◌≡◌, ℕ, ◌<◌, ◌+◌, List, [], ◌∷◌, ◌++◌, Bool, true, false, if◌then◌else◌, inl, inr, refl, subst, sym, ap, Option, Some, Contains, ◌≢◌, take, get_or, length, map}
use Rattle.std.proofs.lemmas.Grind.{take_at_read}
use Rattle.std.proofs.lemmas.List.Elements.{Contains-append_left, Contains-append_right, Contains-append_cases, Contains-push, Contains-push_cases}
use Rattle.std.specs.Prelude.{◌⊎◌, ◌↔◌}
use Rattle.std.proofs.lemmas.Bool.{true≢false}
use Rattle.cm_syntax.specs.declared.expr.Mark.{Mark}
use Rattle.cm_syntax.specs.Walk.{Order, event, spawns, calls, next, choice, turns}
use Rattle.cm_syntax.specs.Lending.{variables, Lends, Mentions}
use Rattle.cm_lend.specs.Part.{Passes, Enters, Leaves}
use Rattle.cm_lend.specs.Breach.{IsBest, AtLeast, Picks, Breaks, IsAgain}
use Rattle.cm_lend.specs.Summary.{loan, mention, Meets, MeetsAt, IsBetter, IsMarked, AreMarked, Sums}
use Rattle.cm_lend.specs.declared.breach.Breach.{Breach}
use Rattle.cm_lend.specs.declared.breach.Breach.TheVariants.{Lent, Same}
use Rattle.cm_lend.specs.declared.meeting.Loan.{Loan}
use Rattle.cm_lend.specs.declared.meeting.Mention.{Mention}
use Rattle.cm_lend.specs.declared.summary.Summary.{Summary}
use Rattle.cm_lend.proofs.BreachLaw.{best_pick, best_map, best_one, best_better, better_both, better_map, better_none, better_pick, none_there}

-- ---- lists

pub in_joined : {X : Type 0} (xs ys : List X) (x : X) (A B : Type 0) → Contains xs x ↔ A → Contains ys x ↔ B → Contains (xs ++ ys) x ↔ (A ⊎ B)
in_joined xs ys x A B h i = (
  λ j. elim (Contains-append_cases xs ys x j) [ inl k ↦ inl (h.0 k) | inr k ↦ inr (i.0 k) ],
  λ j. elim j [ inl k ↦ Contains-append_left xs ys x (h.1 k) | inr k ↦ Contains-append_right xs ys x (i.1 k) ],
)

-- what is entered behind is had where a path leads there
in_entered : {X : Type 0} (passes : Bool) (xs ys : List X) (x : X) (A B P : Type 0) → (passes ≡ true) ↔ P →
    Contains xs x ↔ A → Contains ys x ↔ B → Contains (if passes then xs ++ ys else xs) x ↔ (A ⊎ (P × B))
in_entered true xs ys x A B P o h i =
    let both = in_joined xs ys x A B h i in
    (λ j. elim (both.0 j) [ inl k ↦ inl k | inr k ↦ inr (o.0 refl, k) ], λ j. both.1 (elim j as (λ _. A ⊎ B) [ inl k ↦ inl k | inr k ↦ inr k.1 ]))
in_entered false xs ys x A B P o h i =
    (λ j. inl (h.0 j), λ j. elim j [ inl k ↦ h.1 k | inr k ↦ absurd (true≢false (sym (o.1 k.0))) ])

-- what leaves before is had where a path leads on from there
in_left : {X : Type 0} (passes : Bool) (xs ys : List X) (x : X) (A B P : Type 0) → (passes ≡ true) ↔ P →
    Contains xs x ↔ A → Contains ys x ↔ B → Contains (if passes then xs ++ ys else ys) x ↔ ((A × P) ⊎ B)
in_left true xs ys x A B P o h i =
    let both = in_joined xs ys x A B h i in
    (λ j. elim (both.0 j) [ inl k ↦ inl (k, o.0 refl) | inr k ↦ inr k ], λ j. both.1 (elim j as (λ _. A ⊎ B) [ inl k ↦ inl k.0 | inr k ↦ inr k ]))
in_left false xs ys x A B P o h i =
    (λ j. inr (i.0 j), λ j. elim j [ inl k ↦ absurd (true≢false (sym (o.1 k.1))) | inr k ↦ i.1 k ])

pub take_more : {X : Type 0} (xs : List X) (i : ℕ) (d : X) → i < length xs → take (i + 1) xs ≡ take i xs ++ get_or xs i d ∷ []
take_more xs i d lt = (take_at_read xs i d lt).1

-- ---- meetings of one more

-- one more loan of the mentioned variable
pub each_more : (before_loans : List Loan) (l : Loan) (m : Mention) (before best r : Option Breach) → IsBetter (MeetsAt before_loans m) before best →
    l.variable ≡ m.variable → Picks best (Some (Lent m.at l.spawn)) r → IsBetter (MeetsAt (before_loans ++ l ∷ []) m) before r
each_more loans l m before best r h same k =
    let P : Breach → Type 0 = λ b. b ≡ Lent m.at l.spawn in
    let here : MeetsAt (loans ++ l ∷ []) m (Lent m.at l.spawn) = (refl, subst (λ v. Contains (loans ++ l ∷ []) (loan l.spawn v)) same (Contains-push loans l)) in
    better_map (λ b. MeetsAt loans m b ⊎ P b) (MeetsAt (loans ++ l ∷ []) m) before r (there here) back
    (better_both (MeetsAt loans m) P before best r h (better_pick P best (Some (Lent m.at l.spawn)) r (best_one (Lent m.at l.spawn)) k))
  where
    there : MeetsAt (loans ++ l ∷ []) m (Lent m.at l.spawn) → (b : Breach) → (MeetsAt loans m b ⊎ (b ≡ Lent m.at l.spawn)) → MeetsAt (loans ++ l ∷ []) m b
    there here (Lent at spawn) (inl i) = (i.0, Contains-append_left loans (l ∷ []) (loan spawn m.variable) i.1)
    there here (Same at) (inl i) = i
    there here b (inr e) = subst (MeetsAt (loans ++ l ∷ []) m) (sym e) here

    back : (b : Breach) → MeetsAt (loans ++ l ∷ []) m b → (MeetsAt loans m b ⊎ (b ≡ Lent m.at l.spawn))
    back (Lent at spawn) i =
        elim (Contains-push_cases loans l (loan spawn m.variable) i.1)
        [ inl j ↦ inl (i.0, j) | inr e ↦ inr (λ k. Lent (i.0 k) (sym (ap (λ x. x.spawn) e) k)) ]
    back (Same at) i = absurd i

-- one more loan, of another variable
pub each_other : (loans : List Loan) (l : Loan) (m : Mention) (before best : Option Breach) → IsBetter (MeetsAt loans m) before best →
    l.variable ≢ m.variable → IsBetter (MeetsAt (loans ++ l ∷ []) m) before best
each_other loans l m before best h other = better_map (MeetsAt loans m) (MeetsAt (loans ++ l ∷ []) m) before best there back h
  where
    there : (b : Breach) → MeetsAt loans m b → MeetsAt (loans ++ l ∷ []) m b
    there (Lent at spawn) i = (i.0, Contains-append_left loans (l ∷ []) (loan spawn m.variable) i.1)
    there (Same at) i = i

    back : (b : Breach) → MeetsAt (loans ++ l ∷ []) m b → MeetsAt loans m b
    back (Lent at spawn) i =
        elim (Contains-push_cases loans l (loan spawn m.variable) i.1)
        [ inl j ↦ (i.0, j) | inr e ↦ absurd (other (ap (λ x. x.variable) e)) ]
    back (Same at) i = i

-- no loan yet
pub each_none : (m : Mention) (before : Option Breach) → IsBetter (MeetsAt [] m) before before
each_none m before = better_none (MeetsAt [] m) before none
  where
    none : (b : Breach) → MeetsAt [] m b → AtLeast before (Some b)
    none (Lent at spawn) h = absurd (none_there _ h.1)
    none (Same at) h = absurd h

-- the loans are marked one after another
pub marked_none : (marks : List Bool) → AreMarked [] marks
marked_none marks l h = absurd (none_there _ h)

pub marked_more : (loans : List Loan) (l : Loan) (marks others : List Bool) → AreMarked loans marks →
    ((variable : ℕ) → IsMarked marks variable → IsMarked others variable) → IsMarked others l.variable → AreMarked (loans ++ l ∷ []) others
marked_more loans l marks others h kept is k i =
    elim (Contains-push_cases loans l k i) [ inl j ↦ kept k.variable (h k j) | inr e ↦ subst (λ x. IsMarked others x.variable) e is ]

-- one more mention
pub all_more : (loans : List Loan) (entering : List Mention) (m : Mention) (before best r : Option Breach) → IsBetter (Meets loans entering) before best →
    IsBetter (MeetsAt loans m) best r → IsBetter (Meets loans (entering ++ m ∷ [])) before r
all_more loans entering m before best r h i =
    better_map (λ b. Meets loans entering b ⊎ MeetsAt loans m b) (Meets loans (entering ++ m ∷ [])) before r there back
    (better_both (Meets loans entering) (MeetsAt loans m) before best r h i)
  where
    there : (b : Breach) → (Meets loans entering b ⊎ MeetsAt loans m b) → Meets loans (entering ++ m ∷ []) b
    there (Lent at spawn) (inl j) = (j.0, j.1, Contains-append_left entering (m ∷ []) (mention j.0 at) j.2)
    there (Lent at spawn) (inr j) = (m.variable, j.1, subst (λ a. Contains (entering ++ m ∷ []) (mention m.variable a)) (sym j.0) (Contains-push entering m))
    there (Same at) (inl j) = j
    there (Same at) (inr j) = j

    back : (b : Breach) → Meets loans (entering ++ m ∷ []) b → (Meets loans entering b ⊎ MeetsAt loans m b)
    back (Lent at spawn) j =
        elim (Contains-push_cases entering m (mention j.0 at) j.2) [
          | inl k ↦ inl (j.0, j.1, k)
          | inr e ↦ inr (sym (ap (λ x. x.at) e), subst (λ v. Contains loans (loan spawn v)) (sym (ap (λ x. x.variable) e)) j.1)
        ]
    back (Same at) j = absurd j

-- no mention yet
pub all_none : (loans : List Loan) (before : Option Breach) → IsBetter (Meets loans []) before before
all_none loans before = better_none (Meets loans []) before none
  where
    none : (b : Breach) → Meets loans [] b → AtLeast before (Some b)
    none (Lent at spawn) h = absurd (none_there _ h.2)
    none (Same at) h = absurd h

-- ---- pieces of text

pub sums_choice : (p q : Order) (s t : Summary) (passes : Bool) (found : Option Breach) → Sums p s → Sums q t →
    (passes ≡ true) ↔ ((s.passes ≡ true) ⊎ (t.passes ≡ true)) → Picks s.found t.found found →
    Sums (choice p q) (record { passes = passes; leaving = s.leaving ++ t.leaving; entering = s.entering ++ t.entering; found = found })
sums_choice p q s t passes found h i pass k = record {
  passes = (
    λ e. elim (pass.0 e) [ inl j ↦ inl (h.passes.0 j) | inr j ↦ inr (i.passes.0 j) ],
    λ j. pass.1 (elim j as (λ _. (s.passes ≡ true) ⊎ (t.passes ≡ true)) [ inl x ↦ inl (h.passes.1 x) | inr x ↦ inr (i.passes.1 x) ]),
  );
  leaving = λ spawn variable.
      in_joined s.leaving t.leaving (loan spawn variable) (Leaves (Lends spawn variable) p) (Leaves (Lends spawn variable) q)
      (h.leaving spawn variable) (i.leaving spawn variable);
  entering = λ variable at.
      in_joined s.entering t.entering (mention variable at) (Enters (Mentions variable at) p) (Enters (Mentions variable at) q)
      (h.entering variable at) (i.entering variable at);
  found = best_map (λ b. Breaks p b ⊎ Breaks q b) (Breaks (choice p q)) found there back (best_pick (Breaks p) (Breaks q) s.found t.found found h.found i.found k);
}
  where
    there : (b : Breach) → (Breaks p b ⊎ Breaks q b) → Breaks (choice p q) b
    there (Lent at spawn) (inl x) = (x.0, inl x.1)
    there (Lent at spawn) (inr x) = (x.0, inr x.1)
    there (Same at) x = x

    back : (b : Breach) → Breaks (choice p q) b → (Breaks p b ⊎ Breaks q b)
    back (Lent at spawn) x = elim x.1 [ inl y ↦ inl (x.0, y) | inr y ↦ inr (x.0, y) ]
    back (Same at) x = x

-- where a spawn of the one piece leads out and a mention of the other is led to
abbrev Across : (p q : Order) → Breach → Type 0
Across p q (Lent at spawn) = (variable : ℕ) × Leaves (Lends spawn variable) p × Enters (Mentions variable at) q
Across p q (Same at) = ⊥

across : (p q : Order) (s t : Summary) (before r : Option Breach) → Sums p s → Sums q t → IsBetter (Meets s.leaving t.entering) before r →
    IsBetter (Across p q) before r
across p q s t before r h i = better_map (Meets s.leaving t.entering) (Across p q) before r there back
  where
    there : (b : Breach) → Meets s.leaving t.entering b → Across p q b
    there (Lent at spawn) x = (x.0, (h.leaving spawn x.0).0 x.1, (i.entering x.0 at).0 x.2)
    there (Same at) x = x

    back : (b : Breach) → Across p q b → Meets s.leaving t.entering b
    back (Lent at spawn) x = (x.0, (h.leaving spawn x.0).1 x.1, (i.entering x.0 at).1 x.2)
    back (Same at) x = x

pub sums_next : (p q : Order) (s t : Summary) (passes : Bool) (before found : Option Breach) → Sums p s → Sums q t →
    (passes ≡ true) ↔ ((s.passes ≡ true) × (t.passes ≡ true)) → Picks s.found t.found before →
    IsBetter (Meets s.leaving t.entering) before found →
    Sums (next p q) (record {
      passes = passes;
      leaving = if t.passes then s.leaving ++ t.leaving else t.leaving;
      entering = if s.passes then s.entering ++ t.entering else s.entering;
      found = found;
    })
sums_next p q s t passes before found h i pass k m = record {
  passes = (
    λ e. (h.passes.0 (pass.0 e).0, i.passes.0 (pass.0 e).1),
    λ e. pass.1 (h.passes.1 e.0, i.passes.1 e.1),
  );
  leaving = λ spawn variable.
      in_left t.passes s.leaving t.leaving (loan spawn variable) (Leaves (Lends spawn variable) p)
      (Leaves (Lends spawn variable) q) (Passes q) i.passes (h.leaving spawn variable) (i.leaving spawn variable);
  entering = λ variable at.
      in_entered s.passes s.entering t.entering (mention variable at) (Enters (Mentions variable at) p)
      (Enters (Mentions variable at) q) (Passes p) h.passes (h.entering variable at) (i.entering variable at);
  found =
      best_map (λ b. (Breaks p b ⊎ Breaks q b) ⊎ Across p q b) (Breaks (next p q)) found there back
      (best_better (λ b. Breaks p b ⊎ Breaks q b) (Across p q) before found
      (best_pick (Breaks p) (Breaks q) s.found t.found before h.found i.found k) (across p q s t before found h i m));
}
  where
    there : (b : Breach) → ((Breaks p b ⊎ Breaks q b) ⊎ Across p q b) → Breaks (next p q) b
    there (Lent at spawn) (inl (inl x)) = (x.0, inl x.1)
    there (Lent at spawn) (inl (inr x)) = (x.0, inr (inl x.1))
    there (Lent at spawn) (inr x) = (x.0, inr (inr (x.1, x.2)))
    there (Same at) (inl x) = x
    there (Same at) (inr x) = absurd x

    back : (b : Breach) → Breaks (next p q) b → ((Breaks p b ⊎ Breaks q b) ⊎ Across p q b)
    back (Lent at spawn) x = elim x.1 [ inl y ↦ inl (inl (x.0, y)) | inr y ↦ elim y [ inl z ↦ inl (inr (x.0, z)) | inr z ↦ inr (x.0, z.0, z.1) ] ]
    back (Same at) x = inl x

pub sums_turns : (p : Order) (s : Summary) (found : Option Breach) → Sums p s → IsBetter (Meets s.leaving s.entering) s.found found →
    Sums (turns p) (record { passes = true; leaving = s.leaving; entering = s.entering; found = found })
sums_turns p s found h m = record {
  passes = (λ e. tt, λ e. refl);
  leaving = h.leaving;
  entering = h.entering;
  found =
      best_map (λ b. Breaks p b ⊎ Across p p b) (Breaks (turns p)) found there back
      (best_better (Breaks p) (Across p p) s.found found h.found (across p p s s s.found found h h m));
}
  where
    there : (b : Breach) → (Breaks p b ⊎ Across p p b) → Breaks (turns p) b
    there (Lent at spawn) (inl x) = (x.0, inl x.1)
    there (Lent at spawn) (inr x) = (x.0, inr (x.1, x.2))
    there (Same at) (inl x) = x
    there (Same at) (inr x) = absurd x

    back : (b : Breach) → Breaks (turns p) b → (Breaks p b ⊎ Across p p b)
    back (Lent at spawn) x = elim x.1 [ inl y ↦ inl (x.0, y) | inr y ↦ inr (x.0, y.0, y.1) ]
    back (Same at) x = inl x

-- ---- calls and spawns

pub sums_calls : (passed : List (Mark ℕ)) (found : Option Breach) → IsBest (IsAgain passed) found →
    Sums (event (calls passed)) (record { passes = true; leaving = []; entering = []; found = found })
sums_calls passed found h = record {
  passes = (λ e. tt, λ e. refl);
  leaving = λ spawn variable. (λ i. absurd (none_there _ i), λ i. absurd i);
  entering = λ variable at. (λ i. absurd (none_there _ i), λ i. absurd i);
  found = best_map (IsAgain passed) (Breaks (event (calls passed))) found there back h;
}
  where
    there : (b : Breach) → IsAgain passed b → Breaks (event (calls passed)) b
    there (Lent at spawn) i = absurd i
    there (Same at) i = i

    back : (b : Breach) → Breaks (event (calls passed)) b → IsAgain passed b
    back (Lent at spawn) i = i.1
    back (Same at) i = i

in_loans : (at : ℕ) (xs : List ℕ) (spawn variable : ℕ) → Contains (map (loan at) xs) (loan spawn variable) ↔ ((at ≡ spawn) × Contains xs variable)
in_loans at [] spawn variable = (λ h. absurd (none_there _ h), λ h. absurd (none_there _ h.1))
in_loans at (x ∷ xs) spawn variable =
    let later = in_loans at xs spawn variable in
    let there : Contains (map (loan at) (x ∷ xs)) (loan spawn variable) → ((at ≡ spawn) × Contains (x ∷ xs) variable)
    = λ h. elim (Contains-append_cases (loan at x ∷ []) (map (loan at) xs) (loan spawn variable) h) [
      | inl i ↦ elim (Contains-push_cases [] (loan at x) (loan spawn variable) i) [
        | inl j ↦ absurd (none_there _ j)
        | inr e ↦ (ap (λ l. l.spawn) e, subst (Contains (x ∷ xs)) (ap (λ l. l.variable) e) (Contains-append_left (x ∷ []) xs x (Contains-push [] x)))
      ]
      | inr i ↦
          let k = later.0 i in
          (k.0, Contains-append_right (x ∷ []) xs variable k.1)
    ] in
    let back : ((at ≡ spawn) × Contains (x ∷ xs) variable) → Contains (map (loan at) (x ∷ xs)) (loan spawn variable)
    = λ h. elim (Contains-append_cases (x ∷ []) xs variable h.1) [
      | inl i ↦ elim (Contains-push_cases [] x variable i) [
        | inl j ↦ absurd (none_there _ j)
        | inr e ↦ subst (λ s. Contains (map (loan at) (x ∷ xs)) (loan s variable)) h.0
            (subst (λ v. Contains (map (loan at) (x ∷ xs)) (loan at v)) e (Contains-append_left (loan at x ∷ []) (map (loan at) xs) (loan at x) (Contains-push [] (loan at x))))
      ]
      | inr i ↦ Contains-append_right (loan at x ∷ []) (map (loan at) xs) (loan spawn variable) (later.1 (h.0, i))
    ] in
    (there, back)

pub sums_spawn : (at : ℕ) (lent : List (Mark ℕ)) (found : Option Breach) → IsBest (IsAgain lent) found →
    Sums (event (spawns at lent)) (record { passes = true; leaving = map (loan at) (variables lent); entering = []; found = found })
sums_spawn at lent found h = record {
  passes = (λ e. tt, λ h. refl);
  leaving = λ spawn variable. in_loans at (variables lent) spawn variable;
  entering = λ variable place. (λ h. absurd (none_there _ h), λ h. absurd h);
  found = best_map (IsAgain lent) (Breaks (event (spawns at lent))) found there back h;
}
  where
    there : (b : Breach) → IsAgain lent b → Breaks (event (spawns at lent)) b
    there (Lent at spawn) i = absurd i
    there (Same at) i = i

    back : (b : Breach) → Breaks (event (spawns at lent)) b → IsAgain lent b
    back (Lent at spawn) i = i.1
    back (Same at) i = i
