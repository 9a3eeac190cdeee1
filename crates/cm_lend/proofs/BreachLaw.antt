-- Which of several breaches is answered.
use Rattle.std.proofs.Common.{◌≡◌, inl, inr, refl, subst, sym, ◌∙◌, arith, Option, None, Some, [], Contains}
use Rattle.std.specs.Prelude.{◌⊎◌}
use Rattle.cm_lend.specs.Breach.{Rather, IsBest, AtLeast, Picks}
use Rattle.cm_lend.specs.Summary.{IsBetter}
use Rattle.cm_lend.specs.declared.breach.Breach.{Breach}
use Rattle.cm_lend.specs.declared.breach.Breach.TheVariants.{Lent, Same}

-- a breach is answered rather than itself
pub rather_same : (b : Breach) → Rather b b
rather_same (Lent at spawn) = inr (refl, omega arith)
rather_same (Same at) = omega arith

pub rather_more : (a b c : Breach) → Rather a b → Rather b c → Rather a c
rather_more (Lent _ _) (Lent _ _) (Lent _ _) (inl h) (inl i) = inl (omega arith)
rather_more (Lent _ _) (Lent _ _) (Lent _ _) (inl h) (inr i) = inl (omega (arith, i.0))
rather_more (Lent _ _) (Lent _ _) (Lent _ _) (inr h) (inl i) = inl (omega (arith, h.0))
rather_more (Lent _ _) (Lent _ _) (Lent _ _) (inr h) (inr i) = inr (h.0 ∙ i.0, omega (arith, h.1, i.1))
rather_more (Lent _ _) (Lent _ _) (Same _) (inl h) i = omega arith
rather_more (Lent _ _) (Lent _ _) (Same _) (inr h) i = omega (arith, h.0)
rather_more (Lent _ _) (Same _) (Lent _ _) h i = inl (omega arith)
rather_more (Lent _ _) (Same _) (Same _) h i = omega arith
rather_more (Same _) (Lent _ _) (Lent _ _) h (inl i) = omega arith
rather_more (Same _) (Lent _ _) (Lent _ _) h (inr i) = omega (arith, i.0)
rather_more (Same _) (Lent _ _) (Same _) h i = omega arith
rather_more (Same _) (Same _) (Lent _ _) h i = omega arith
rather_more (Same _) (Same _) (Same _) h i = omega arith

pub at_least_same : (x : Option Breach) → AtLeast x x
at_least_same None = tt
at_least_same (Some b) = rather_same b

pub at_least_more : (x y z : Option Breach) → AtLeast x y → AtLeast y z → AtLeast x z
at_least_more x y None h i = tt
at_least_more x None (Some c) h i = absurd i
at_least_more None (Some b) (Some c) h i = absurd h
at_least_more (Some a) (Some b) (Some c) h i = rather_more a b c h i

-- ---- the best

pub at_least : (P : Breach → Type 0) (x : Option Breach) (best : Breach) → IsBest P x → AtLeast (Some best) x → (b : Breach) → P b → Rather best b
at_least P None best h a b p = absurd (h b p)
at_least P (Some d) best h a b p = rather_more best d b a (h.1 b p)

pub none_at_least : (P : Breach → Type 0) (x : Option Breach) → IsBest P x → AtLeast None x → (b : Breach) → P b → ⊥
none_at_least P None h a b p = h b p
none_at_least P (Some d) h a b p = absurd a

pub best_pick : (P Q : Breach → Type 0) (x y r : Option Breach) → IsBest P x → IsBest Q y → Picks x y r → IsBest (λ b. P b ⊎ Q b) r
best_pick P Q x y None h i k = λ b d. elim d [ inl p ↦ none_at_least P x h k.first b p | inr q ↦ none_at_least Q y i k.second b q ]
best_pick P Q x y (Some best) h i k =
    let one : P best ⊎ Q best = elim k.one_of [ inl e ↦ inl (subst (IsBest P) (sym e) h).0 | inr e ↦ inr (subst (IsBest Q) (sym e) i).0 ] in
    (one, λ b d. elim d [ inl p ↦ at_least P x best h k.first b p | inr q ↦ at_least Q y best i k.second b q ])

pub best_map : (P Q : Breach → Type 0) (x : Option Breach) → ((b : Breach) → P b → Q b) → ((b : Breach) → Q b → P b) → IsBest P x → IsBest Q x
best_map P Q None there back h = λ b q. h b (back b q)
best_map P Q (Some best) there back h = (there best h.0, λ b q. h.1 b (back b q))

-- one breach alone
pub best_one : (one : Breach) → IsBest (λ b. b ≡ one) (Some one)
best_one one = (refl, λ b e. subst (Rather one) (sym e) (rather_same one))

-- ---- better than before

pub better_none : (P : Breach → Type 0) (x : Option Breach) → ((b : Breach) → P b → AtLeast x (Some b)) → IsBetter P x x
better_none P x h = record { one_of = inl refl; kept = at_least_same x; best = h }

pub better_pick : (P : Breach → Type 0) (x y r : Option Breach) → IsBest P y → Picks x y r → IsBetter P x r
better_pick P x None r h k = record {
  one_of = elim k.one_of [ inl e ↦ inl e | inr e ↦ inl (e ∙ none_of x (subst (λ z. AtLeast z x) e k.first)) ];
  kept = k.first;
  best = λ b p. absurd (h b p);
}
  where
    none_of : (z : Option Breach) → AtLeast None z → None ≡ z
    none_of None a = refl
    none_of (Some b) a = absurd a
better_pick P x (Some y) r h k = record {
  one_of = elim k.one_of [ inl e ↦ inl e | inr e ↦ inr (y, e, h.0) ];
  kept = k.first;
  best = λ b p. at_least_more r (Some y) (Some b) k.second (h.1 b p);
}

pub better_both : (P Q : Breach → Type 0) (x y r : Option Breach) → IsBetter P x y → IsBetter Q y r → IsBetter (λ b. P b ⊎ Q b) x r
better_both P Q x y r h i = record {
  one_of = elim i.one_of [
    | inl e ↦ elim h.one_of [ inl j ↦ inl (e ∙ j) | inr j ↦ inr (j.0, e ∙ j.1, inl j.2) ]
    | inr j ↦ inr (j.0, j.1, inr j.2)
  ];
  kept = at_least_more r y x i.kept h.kept;
  best = λ b d. elim d [ inl p ↦ at_least_more r y (Some b) i.kept (h.best b p) | inr q ↦ i.best b q ];
}

pub better_map : (P Q : Breach → Type 0) (x r : Option Breach) → ((b : Breach) → P b → Q b) → ((b : Breach) → Q b → P b) → IsBetter P x r → IsBetter Q x r
better_map P Q x r there back h = record {
  one_of = elim h.one_of [ inl e ↦ inl e | inr j ↦ inr (j.0, j.1, there j.0 j.2) ];
  kept = h.kept;
  best = λ b q. h.best b (back b q);
}

-- a breach is there, and it is such a one
abbrev IsIn : (Breach → Type 0) → Option Breach → Type 0
IsIn P None = ⊥
IsIn P (Some b) = P b

-- the best of all from the best of some and what is better
pub best_better : (P Q : Breach → Type 0) (x r : Option Breach) → IsBest P x → IsBetter Q x r → IsBest (λ b. P b ⊎ Q b) r
best_better P Q x None h i = λ b d. elim d [ inl p ↦ none_at_least P x h i.kept b p | inr q ↦ i.best b q ]
best_better P Q x (Some best) h i =
    let one : P best ⊎ Q best = elim i.one_of
    [ inl e ↦ inl (subst (IsBest P) (sym e) h).0 | inr j ↦ inr (subst (IsIn Q) (sym j.1) j.2) ] in
    (one, λ b d. elim d [ inl p ↦ at_least P x best h i.kept b p | inr q ↦ i.best b q ])

-- ---- lists

pub none_there : {X : Type 0} (x : X) → Contains [] x → ⊥
none_there x h = omega (arith, h.1)
