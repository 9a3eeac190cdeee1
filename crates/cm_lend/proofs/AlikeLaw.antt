-- Orders whose paths and calls are the same, and loops through a list.
use Rattle.std.proofs.Common.{◌≡◌, ℕ, inl, inr, subst, sym}
use Rattle.std.specs.Prelude.{◌↔◌}
use Rattle.cm_syntax.specs.Walk.{Order, nothing, next, Has}
use Rattle.cm_syntax.specs.Lending.{Lends, Mentions, Doubles}
use Rattle.cm_lend.specs.Part.{Passes, Enters, Leaves, Holds}
use Rattle.cm_lend.specs.Breach.{Breaks}
use Rattle.cm_lend.specs.Summary.{Sums}
use Rattle.cm_lend.specs.declared.breach.Breach.{Breach}
use Rattle.cm_lend.specs.declared.breach.Breach.TheVariants.{Lent, Same}
use Rattle.cm_lend.proofs.BreachLaw.{best_map}
use Rattle.cm_lend.specs.declared.summary.Summary.{Summary}

-- the paths of the one are those of the other
pub record Alike (o p : Order) : Type 0 where
  pub passes : Passes o ↔ Passes p
  pub leaves : (spawn variable : ℕ) → Leaves (Lends spawn variable) o ↔ Leaves (Lends spawn variable) p
  pub enters : (variable at : ℕ) → Enters (Mentions variable at) o ↔ Enters (Mentions variable at) p
  pub holds : (spawn variable at : ℕ) → Holds (Lends spawn variable) (Mentions variable at) o ↔ Holds (Lends spawn variable) (Mentions variable at) p
  pub has : (at : ℕ) → Has (Doubles at) o ↔ Has (Doubles at) p

chain : {A B C : Type 0} → A ↔ B → B ↔ C → A ↔ C
chain h i = (λ a. i.0 (h.0 a), λ c. h.1 (i.1 c))

pub sums_alike : (o p : Order) (s : Summary) → Alike o p → Sums o s → Sums p s
sums_alike o p s a h = record {
  passes = chain h.passes a.passes;
  leaving = λ spawn variable. chain (h.leaving spawn variable) (a.leaves spawn variable);
  entering = λ variable at. chain (h.entering variable at) (a.enters variable at);
  found = best_map (Breaks o) (Breaks p) s.found there back h.found;
}
  where
    there : (b : Breach) → Breaks o b → Breaks p b
    there (Lent at spawn) x = (x.0, (a.holds spawn x.0 at).0 x.1)
    there (Same at) x = (a.has at).0 x

    back : (b : Breach) → Breaks p b → Breaks o b
    back (Lent at spawn) x = (x.0, (a.holds spawn x.0 at).1 x.1)
    back (Same at) x = (a.has at).1 x

pub alike_left : (p : Order) → Alike (next nothing p) p
alike_left p = record {
  passes = (λ h. h.1, λ h. (tt, h));
  leaves = λ spawn variable. (λ h. elim h [ inl x ↦ absurd x.0 | inr x ↦ x ], λ h. inr h);
  enters = λ variable at. (λ h. elim h [ inl x ↦ absurd x | inr x ↦ x.1 ], λ h. inr (tt, h));
  holds = λ spawn variable at.
      (λ h. elim h [ inl x ↦ absurd x | inr x ↦ elim x [ inl y ↦ y | inr y ↦ absurd y.0 ] ], λ h. inr (inl h));
  has = λ at. (λ h. elim h [ inl x ↦ absurd x | inr x ↦ x ], λ h. inr h);
}

pub alike_right : (p : Order) → Alike (next p nothing) p
alike_right p = record {
  passes = (λ h. h.0, λ h. (h, tt));
  leaves = λ spawn variable. (λ h. elim h [ inl x ↦ x.0 | inr x ↦ absurd x ], λ h. inl (h, tt));
  enters = λ variable at. (λ h. elim h [ inl x ↦ x | inr x ↦ absurd x.1 ], λ h. inl h);
  holds = λ spawn variable at.
      (λ h. elim h [ inl x ↦ x | inr x ↦ elim x [ inl y ↦ absurd y | inr y ↦ absurd y.1 ] ], λ h. inl h);
  has = λ at. (λ h. elim h [ inl x ↦ x | inr x ↦ absurd x ], λ h. inl h);
}

pub alike_joined : (p q r : Order) → Alike (next p (next q r)) (next (next p q) r)
alike_joined p q r = record {
  passes = (λ h. ((h.0, h.1.0), h.1.1), λ h. (h.0.0, (h.0.1, h.1)));
  leaves = λ spawn variable. (
    λ h. elim h [ inl x ↦ inl (inl (x.0, x.1.0), x.1.1) | inr x ↦ elim x [ inl y ↦ inl (inr y.0, y.1) | inr y ↦ inr y ] ],
    λ h. elim h [ inl x ↦ elim x.0 [ inl y ↦ inl (y.0, (y.1, x.1)) | inr y ↦ inr (inl (y, x.1)) ] | inr x ↦ inr (inr x) ],
  );
  enters = λ variable at. (
    λ h. elim h [ inl x ↦ inl (inl x) | inr x ↦ elim x.1 [ inl y ↦ inl (inr (x.0, y)) | inr y ↦ inr ((x.0, y.0), y.1) ] ],
    λ h. elim h [ inl x ↦ elim x [ inl y ↦ inl y | inr y ↦ inr (y.0, inl y.1) ] | inr x ↦ inr (x.0.0, inr (x.0.1, x.1)) ],
  );
  holds = λ spawn variable at. (
    λ h. elim h [
      | inl x ↦ inl (inl x)
      | inr x ↦ elim x [
        | inl y ↦ elim y [ inl z ↦ inl (inr (inl z)) | inr z ↦ elim z [ inl a ↦ inr (inl a) | inr a ↦ inr (inr (inr a.0, a.1)) ] ]
        | inr y ↦ elim y.1 [ inl z ↦ inl (inr (inr (y.0, z))) | inr z ↦ inr (inr (inl (y.0, z.0), z.1)) ]
      ]
    ],
    λ h. elim h [
      | inl x ↦ elim x [ inl y ↦ inl y | inr y ↦ elim y [ inl z ↦ inr (inl (inl z)) | inr z ↦ inr (inr (z.0, inl z.1)) ] ]
      | inr x ↦ elim x [
        | inl y ↦ inr (inl (inr (inl y)))
        | inr y ↦ elim y.0 [ inl z ↦ inr (inr (z.0, inr (z.1, y.1))) | inr z ↦ inr (inl (inr (inr (z, y.1)))) ]
      ]
    ],
  );
  has = λ at. (
    λ h. elim h [ inl x ↦ inl (inl x) | inr x ↦ elim x [ inl y ↦ inl (inr y) | inr y ↦ inr y ] ],
    λ h. elim h [ inl x ↦ elim x [ inl y ↦ inl y | inr y ↦ inr (inl y) ] | inr x ↦ inr (inr x) ],
  );
}

pub alike_back : (o p : Order) → Alike o p → Alike p o
alike_back o p a = record {
  passes = (a.passes.1, a.passes.0);
  leaves = λ spawn variable. ((a.leaves spawn variable).1, (a.leaves spawn variable).0);
  enters = λ variable at. ((a.enters variable at).1, (a.enters variable at).0);
  holds = λ spawn variable at. ((a.holds spawn variable at).1, (a.holds spawn variable at).0);
  has = λ at. ((a.has at).1, (a.has at).0);
}

-- What was done has this sum, and with what is left it makes the whole.
pub record IsDone (whole : Order) (left : Order) (s : Summary) : Type 0 where
  pub done : Order
  pub sum : Sums done s
  pub rest : (t : Summary) → Sums (next done left) t → Sums whole t

pub none_done : (whole : Order) (s : Summary) → Sums nothing s → IsDone whole whole s
none_done whole s h = record { done = nothing; sum = h; rest = λ t i. sums_alike (next nothing whole) whole t (alike_left whole) i }

pub all_done : (whole : Order) (s : Summary) → IsDone whole nothing s → Sums whole s
all_done whole s h = h.rest s (sums_alike h.done (next h.done nothing) s (alike_back (next h.done nothing) h.done (alike_right h.done)) h.sum)

pub more_done : (whole one left left_is : Order) (s t u : Summary) → IsDone whole left_is s → left_is ≡ next one left → Sums one t →
    ((p q : Order) → Sums p s → Sums q t → Sums (next p q) u) → IsDone whole left u
more_done whole one left left_is s t u h e i joined = record {
  done = next h.done one;
  sum = joined h.done one h.sum i;
  rest = λ v j. h.rest v (subst (λ x. Sums (next h.done x) v) (sym e)
      (sums_alike (next (next h.done one) left) (next h.done (next one left)) v (alike_back (next h.done (next one left)) (next (next h.done one) left) (alike_joined h.done one left)) j));
}
