-- From the best breach of all functions to the program's answer, and that there is one answer at most.
use Rattle.std.proofs.Common.{◌≡◌, ℕ, ◌<◌, ◌≤◌, ◌+◌, ◌-◌, List, [], ◌∷◌, ◌++◌, Bool, true, false, if◌then◌else◌, inl, inr, refl, sym, subst, ap, ◌∙◌, arith, Option, None, Some, Result, nat_lt}
use Rattle.std.proofs.lemmas.List.Elements.{Contains-append_left, Contains-push, Contains-push_cases}
use Rattle.std.proofs.lemmas.Bool.{lt-ltb, ltb-true, cases_lt}
use Rattle.std.specs.Prelude.{◌⊎◌, Ok, Err}
use Rattle.cm_syntax.specs.declared.stmt.Function.{Function}
use Rattle.cm_syntax.specs.declared.stmt.Program.{Program}
use Rattle.cm_syntax.specs.Evaluation.{function_order}
use Rattle.cm_syntax.specs.Lending.{Lends, Mentions, IsNamed, IsLentAmong}
use Rattle.cm_lend.specs.Breach.{distance, Rather, IsBest, Picks, Breaks, BreaksAmong}
use Rattle.cm_lend.specs.Answer.{IsAnswer, Gives}
use Rattle.cm_lend.specs.declared.breach.Breach.{Breach}
use Rattle.cm_lend.specs.declared.breach.Breach.TheVariants.{Lent, Same}
use Rattle.cm_lend.specs.declared.refusal.LendRefusal.{LendRefusal}
use Rattle.cm_lend.specs.declared.refusal.LendRefusal.TheVariants as refusal
use Rattle.cm_lend.proofs.BreachLaw.{best_map, best_pick, none_there}
use Rattle.cm_lend.proofs.PathLaw.{hold_walk, walk_holds}

-- ---- functions one after another

pub none_breaks : IsBest (BreaksAmong []) None
none_breaks b h = none_there _ h.1

pub one_more_function : (functions : List (Function ℕ)) (f : Function ℕ) (best found r : Option Breach) → IsBest (BreaksAmong functions) best →
    IsBest (Breaks (function_order f)) found → Picks best found r → IsBest (BreaksAmong (functions ++ f ∷ [])) r
one_more_function functions f best found r h i k =
    best_map (λ b. BreaksAmong functions b ⊎ Breaks (function_order f) b) (BreaksAmong (functions ++ f ∷ [])) r there back
    (best_pick (BreaksAmong functions) (Breaks (function_order f)) best found r h i k)
  where
    there : (b : Breach) → (BreaksAmong functions b ⊎ Breaks (function_order f) b) → BreaksAmong (functions ++ f ∷ []) b
    there b j = elim j [
      | inl m ↦ (m.0, Contains-append_left functions (f ∷ []) m.0 m.1, m.2)
      | inr m ↦ (f, Contains-push functions f, m)
    ]

    back : (b : Breach) → BreaksAmong (functions ++ f ∷ []) b → (BreaksAmong functions b ⊎ Breaks (function_order f) b)
    back b m = elim (Contains-push_cases functions f m.0 m.1) [
      | inl j ↦ inl (m.0, j, m.2)
      | inr e ↦ inr (subst (λ g. Breaks (function_order g) b) (sym e) m.2)
    ]

-- ---- the answer

lent_breaks : (functions : List (Function ℕ)) (at spawn : ℕ) → IsLentAmong functions at spawn → BreaksAmong functions (Lent at spawn)
lent_breaks functions at spawn h =
    let lent = h.2 in
    (h.0, h.1, (lent.0, walk_holds (Lends spawn lent.0) (Mentions lent.0 at) (function_order h.0) lent.1.0 lent.1.1 lent.1.2))

breaks_lent : (functions : List (Function ℕ)) (at spawn : ℕ) → BreaksAmong functions (Lent at spawn) → IsLentAmong functions at spawn
breaks_lent functions at spawn h =
    let walk = hold_walk (Lends spawn h.2.0) (Mentions h.2.0 at) (function_order h.0) h.2.1 in
    (h.0, h.1, (h.2.0, (walk.0, walk.1, walk.2)))

before_at : (at spawn : ℕ) → spawn < at → distance at spawn ≡ at - spawn
before_at at spawn lt = rw (lt-ltb spawn at lt)

behind_at : (at spawn : ℕ) → at ≤ spawn → distance at spawn ≡ spawn + 1
behind_at at spawn le = by (nat_lt spawn at) refl
  where
    by : (b : Bool) → nat_lt spawn at ≡ b → (if b then at - spawn else spawn + 1) ≡ spawn + 1
    by true e = absurd (omega (arith, ltb-true spawn at e))
    by false e = refl

-- the spawn with the least distance is the named one
named : (LentBy : ℕ → Type 0) (at spawn : ℕ) → LentBy spawn → ((other : ℕ) → LentBy other → distance at spawn ≤ distance at other) → IsNamed LentBy at spawn
named LentBy at spawn lent near = record { lent = lent; before = before; nearest = nearest; first = first }
  where
    before : (other : ℕ) → LentBy other → other < at → spawn < at
    before other l lt = elim (cases_lt spawn at)
        [ inl h ↦ h | inr h ↦ absurd (omega (arith, before_at at other lt, behind_at at spawn h, near other l)) ]

    nearest : (other : ℕ) → LentBy other → other < at → other ≤ spawn
    nearest other l lt = omega (arith, before_at at spawn (before other l lt), before_at at other lt, near other l, before other l lt)

    first : at ≤ spawn → (other : ℕ) → LentBy other → spawn ≤ other
    first le other l = elim (cases_lt other at)
        [ inl h ↦ absurd (omega (arith, before other l h)) | inr h ↦ omega (arith, behind_at at spawn le, behind_at at other h, near other l) ]

rather_at : (at spawn offset other : ℕ) → Rather (Lent at spawn) (Lent offset other) → at ≤ offset
rather_at at spawn offset other (inl h) = omega arith
rather_at at spawn offset other (inr h) = omega (arith, h.0)

rather_near : (at spawn other : ℕ) → Rather (Lent at spawn) (Lent at other) → distance at spawn ≤ distance at other
rather_near at spawn other (inl h) = absurd (omega arith)
rather_near at spawn other (inr h) = h.1

pub answer : (program : Program) (found : Option Breach) → IsBest (BreaksAmong program.functions) found → IsAnswer program found
answer program None h = record {
  lent = λ at spawn l. h (Lent at spawn) (lent_breaks program.functions at spawn l);
  same = λ at s. h (Same at) s;
}
answer program (Some (Lent at spawn)) h =
    let best : (offset other : ℕ) → IsLentAmong program.functions offset other → Rather (Lent at spawn) (Lent offset other)
    = λ offset other l. h.1 (Lent offset other) (lent_breaks program.functions offset other l) in
    record {
      named = named (IsLentAmong program.functions at) at spawn (breaks_lent program.functions at spawn h.0)
          (λ other l. rather_near at spawn other (best at other l));
      least = λ offset other l. rather_at at spawn offset other (best offset other l);
      foremost = λ offset s. h.1 (Same offset) s;
    }
answer program (Some (Same at)) h = record {
  same = h.0;
  least = λ offset s. h.1 (Same offset) s;
  foremost = λ offset spawn l. h.1 (Lent offset spawn) (lent_breaks program.functions offset spawn l);
}

-- ---- one answer at most

one_named : (LentBy : ℕ → Type 0) (at x y : ℕ) → IsNamed LentBy at x → IsNamed LentBy at y → x ≡ y
one_named LentBy at x y h i = elim (cases_lt x at) [
  | inl lt ↦
      let before = i.before x h.lent lt in
      omega (arith, h.nearest y i.lent before, i.nearest x h.lent lt)
  | inr le ↦ elim (cases_lt y at)
      [ inl lt ↦ absurd (omega (arith, h.before y i.lent lt)) | inr also ↦ omega (arith, h.first le y i.lent, i.first also x h.lent) ]
]

pub one_answer : (program : Program) (x y : Option Breach) → IsAnswer program x → IsAnswer program y → x ≡ y
one_answer program None None h i = refl
one_answer program None (Some (Lent at spawn)) h i = absurd (h.lent at spawn i.named.lent)
one_answer program None (Some (Same at)) h i = absurd (h.same at i.same)
one_answer program (Some (Lent at spawn)) None h i = absurd (i.lent at spawn h.named.lent)
one_answer program (Some (Same at)) None h i = absurd (i.same at h.same)
one_answer program (Some (Lent at spawn)) (Some (Lent offset other)) h i =
    let same : at ≡ offset = omega (arith, h.least offset other i.named.lent, i.least at spawn h.named.lent) in
    let spawns = one_named (IsLentAmong program.functions offset) offset spawn other (subst (λ a. IsNamed (IsLentAmong program.functions a) a spawn) same h.named) i.named in
    λ k. Some (Lent (same k) (spawns k))
one_answer program (Some (Lent at spawn)) (Some (Same offset)) h i = absurd (omega (arith, h.foremost offset i.same, i.foremost at spawn h.named.lent))
one_answer program (Some (Same offset)) (Some (Lent at spawn)) i h = absurd (omega (arith, h.foremost offset i.same, i.foremost at spawn h.named.lent))
one_answer program (Some (Same at)) (Some (Same offset)) h i =
    let same : at ≡ offset = omega (arith, h.least offset i.same, i.least at h.same) in
    λ k. Some (Same (same k))

-- what is answered of a program with this breach
abbrev pub answer_of : Program → Option Breach → Result Program LendRefusal
answer_of program None = Ok program
answer_of program (Some (Lent at spawn)) = Err (refusal.Lent at spawn)
answer_of program (Some (Same at)) = Err (refusal.Same at)

pub gives : (program : Program) (found is wanted : Option Breach) → IsAnswer program found → found ≡ is → IsAnswer program wanted →
    Gives (answer_of program is) (answer_of program wanted)
gives program found is wanted h e i = inl (ap (answer_of program) (sym e ∙ one_answer program found wanted h i))
