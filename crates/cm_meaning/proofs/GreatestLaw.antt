-- The greatest value of a measure over a run, as it is found step by step.
use Rattle.std.proofs.Common.{◌≡◌, ℕ, ◌≤◌, max, List, Option, refl, sym, ◌∙◌, subst, arith, inl, inr}
use Rattle.std.proofs.lemmas.Bool.{leb-true, leb-false}
use Rattle.std.specs.Prelude.{◌⊎◌, ℤ, Bool, true, false, nat_le}
use Rattle.cm_meaning.specs.Elision.{here}
use Rattle.cm_syntax.specs.declared.stmt.Program.{Program}
use Rattle.cm_syntax.specs.Label.{ends}
use Rattle.cm_syntax.specs.Stack.{Stack, Destination, empty_stack}
use Rattle.cm_syntax.specs.Rest.{Control}
use Rattle.cm_syntax.specs.Step.{Move, step, inside}
use Rattle.cm_meaning.specs.Meaning.{Limits, Comes, serial_step, first_control}
use Rattle.cm_meaning.specs.Measure.{IsGreatest}
use Rattle.cm_meaning.specs.Progress as progress
use Rattle.cm_meaning.proofs.EndLaw.{Onward, onward}

-- the greater of two numbers is one of them
max_is : (a b : ℕ) → (max a b ≡ a) ⊎ (max a b ≡ b)
max_is a b = by (nat_le a b) refl
  where
    by : (q : Bool) → nat_le a b ≡ q → (max a b ≡ a) ⊎ (max a b ≡ b)
    by true l = let le = leb-true a b l in inr (omega (arith, le))
    by false l = let le = leb-false a b l in inl (omega (arith, le))

module _ (program : Program) (input : List ℤ) (limits : Limits) (measure : List ℕ → ℕ) where
  abbrev Runs : Control → Stack → List ℤ → ℕ → Control → Stack → Type 0
  Runs = Comes program limits.page input

  abbrev goes : Control → Stack → Move
  goes = serial_step program limits.page input

  abbrev Later : Move → Control → Stack → Type 0
  Later = Onward Control Stack Destination (step program limits.page input) inside

  abbrev Reaches : Control → Stack → Type 0
  Reaches = progress.Reaches program input limits

  abbrev IsSeen : Control → Stack → ℕ → Type 0
  IsSeen = progress.IsSeen program input limits measure

  -- the first state
  pub seen_first : IsSeen (first_control program limits) empty_stack (measure (first_control program limits).calls)
  seen_first = record {
    before = λ t g r. inr (r.out, r.used, r.runs);
    top = omega arith;
    state = first_control program limits;
    held = empty_stack;
    met = record { out = _; used = 0; runs = here; within = omega arith };
    greatest = refl;
  }

  -- a state behind a step is behind the state before it, or it is that state
  later_low : (c t : Control) (n : ℕ) → measure c.calls ≤ n → t ≡ c → measure t.calls ≤ n
  later_low c t n l e = subst (λ z. measure z.calls ≤ n) (sym e) l

  below_max : (a b c : ℕ) → a ≤ b → a ≤ max b c
  below_max a b c l = omega (arith, l)

  -- the state behind a step that goes on; `goes_on` is by the step
  pub seen_next : (c d : Control) (h k : Stack) (n : ℕ) → IsSeen c h n → Reaches d k
      → ((t : Control) (g : Stack) → Later (goes c h) t g → (o : List ℤ) × (u : ℕ) × Runs d k o u t g)
      → IsSeen d k (max n (measure d.calls))
  seen_next c d h k n s r goes_on = record {
    before = λ t g q. elim (s.before t g q) [
      | inl l ↦ inl (below_max (measure t.calls) n (measure d.calls) l)
      | inr (o, u, runs) ↦ elim (onward Control Stack Destination (step program limits.page input) inside (goes c h) refl runs) [
        | inl e ↦ inl (below_max (measure t.calls) n (measure d.calls) (later_low c t n s.top e))
        | inr later ↦ inr (goes_on t g later)
      ]
    ];
    top = omega arith;
    state = chosen.0;
    held = chosen.1;
    met = chosen.2;
    greatest = chosen.3;
  }
    where
      chosen : (x : Control) × (y : Stack) × Reaches x y × (measure x.calls ≡ max n (measure d.calls))
      chosen = elim (max_is n (measure d.calls)) [
        | inl e ↦ (s.state, s.held, s.met, s.greatest ∙ sym e)
        | inr e ↦ (d, k, r, sym e)
      ]

  -- at the end the greatest measure is found
  pub seen_last : (c : Control) (h : Stack) (n : ℕ) (v : Option ℤ) → IsSeen c h n → goes c h ≡ ends v → IsGreatest program input limits measure n
  seen_last c h n v s e = record {
    bound = λ out used t g runs l. elim (s.before t g (record { out = out; used = used; runs = runs; within = l })) [
      | inl low ↦ low
      | inr (o, u, more) ↦ elim (onward Control Stack Destination (step program limits.page input) inside (ends v) e more) [
        | inl same ↦ later_low c t n s.top same
        | inr never ↦ absurd never
      ]
    ];
    met = (s.met.out, s.met.used, s.state, s.held, s.met.runs, s.met.within, s.greatest);
  }
