-- The ticks that are left and the place of the next frame are in registers, and of the others standing reads few.
use Rattle.std.proofs.Common.{◌≡◌, ℕ, ◌%◌, ◌^◌, ◌<◌, ◌≤◌, List, ◌∷◌, None, Some, refl, sym, ap, ◌∙◌, subst, arith}
use Rattle.std.proofs.lemmas.Bool.{ne_eqb}
use Rattle.std.specs.Prelude.{ℤ}
use Rattle.cm_isa.specs.declared.convention.TheConstants as reg
use Rattle.cm_isa.specs.Machine.{Machine, Code}
use Rattle.cm_isa.specs.Register.{with_register}
use Rattle.cm_syntax.specs.declared.stmt.Program.{Program}
use Rattle.cm_syntax.specs.Stack.{Stack}
use Rattle.cm_syntax.specs.Rest.{Item, Hand, idle, holds, returned, entering, framing, Control}
use Rattle.cm_meaning.specs.Activation.{end_count}
use Rattle.cm_gen.specs.declared.form.Form.{Form}
use Rattle.cm_gen.specs.Standing.{Frame, LeadsTo, Coded}
use Rattle.cm_gen.specs.FrameWord.{MayStand}
use Rattle.cm_gen.specs.StandsFor.{Spot, spot_at, backs, returns_at, Placed, ExactAt, with_registers}
use Rattle.cm_gen.proofs.patterns.ParameterLaw.{handed_same}
use Rattle.cm_gen.proofs.patterns.StandingLaw.{leads_map}
use Rattle.cm_gen.proofs.patterns.StepLaw.{with_register_other}

-- the returns read RA alone
returns_with : (hand : Hand) (n : ℕ) (frames : List Frame) (r t : ℕ → ℕ) → t reg.RA ≡ r reg.RA → returns_at hand n frames r ≡ returns_at hand n frames t
returns_with idle n frames r t e = refl
returns_with (holds v) n frames r t e = refl
returns_with (returned v) n frames r t e = refl
returns_with (entering f ws) n frames r t e = ap (λ p. p ∷ backs n frames) (sym e)
returns_with (framing f ws) n frames r t e = ap (λ p. p ∷ backs n frames) (sym e)

-- registers that agree wherever a state at its place reads them
record Agree (r t : ℕ → ℕ) : Type 0 where
  back : t reg.RA ≡ r reg.RA
  value : t reg.VALUE ≡ r reg.VALUE
  results : (q : ℕ) → reg.RESULT ≤ q → t q ≡ r q

module _ (program : Program) (form : Form) (page : ℕ) (input : List ℤ) (code : Code) where
  placed_with : (hand : Hand) (k : List Item) (calls : List ℕ) (frames : List Frame) (r t : ℕ → ℕ) (p : ℕ) → Agree r t
      → Placed program form page input code hand k calls frames r p → Placed program form page input code hand k calls frames t p
  placed_with idle k calls frames r t p same x = x
  placed_with (holds v) k calls frames r t p same x = (same.value ∙ x.0, x.1, x.2)
  placed_with (returned None) k calls frames r t p same x = x
  placed_with (returned (Some v)) k calls frames r t p same x = (same.results reg.RESULT (omega arith) ∙ x.0, x.1, x.2)
  placed_with (entering f ws) k calls frames r t p same x = (
    x.0,
    handed_same program page calls frames r t ws same.results x.1,
    subst (λ n. n % 4 ≡ 0) (sym same.back) x.2,
    subst (λ n. n < 2 ^ 30) (sym same.back) x.3,
    subst (LeadsTo code (Coded program form page code k calls frames)) (sym same.back) x.4,
  )
  placed_with (framing f ws) k calls frames r t p same x = (
    x.0,
    handed_same program page calls frames r t ws same.results x.1,
    subst (λ n. n % 4 ≡ 0) (sym same.back) x.2,
    subst (λ n. n < 2 ^ 30) (sym same.back) x.3,
    subst (LeadsTo code (Coded program form page code k calls frames)) (sym same.back) x.4,
  )

  -- a machine with other registers, but for those that standing reads elsewhere
  exact_other : (spot : Spot) (low left later : ℕ) (c : Control) (h : Stack) (m : Machine) (t : ℕ → ℕ) → MayStand program page c.calls spot.frames low → t reg.SP ≡ low → t reg.TICKS ≡ later
      → t reg.ZERO ≡ m.registers reg.ZERO → t reg.ACCOUNT ≡ m.registers reg.ACCOUNT → t reg.FP ≡ m.registers reg.FP → Agree m.registers t
      → ExactAt program form page input code spot left c h m → ExactAt program form page input code (spot_at spot low) later c h (with_registers m t)
  exact_other spot low left later c h m t may low_is left_is zero account pointer same x = record {
    frames = x.frames;
    may_stand = may;
    slots = x.slots;
    kept = x.kept;
    own = x.own;
    returns_are = x.returns_are ∙ returns_with c.hand (end_count c.rest) spot.frames m.registers t same.back;
    zero_is = zero ∙ x.zero_is;
    low_is = low_is;
    account_is = account ∙ x.account_is;
    left_is = left_is;
    pointer_is = pointer ∙ x.pointer_is;
    placed = leads_map code _ _ m.counter x.placed (λ q. placed_with c.hand c.rest c.calls spot.frames m.registers t q same);
  }

  pub other_ticks : (spot : Spot) (left later : ℕ) (c : Control) (h : Stack) (m : Machine) → ExactAt program form page input code spot left c h m
      → ExactAt program form page input code spot later c h (with_registers m (with_register m.registers reg.TICKS later))
  other_ticks spot left later c h m x = exact_other spot spot.low left later c h m (with_register m.registers reg.TICKS later) x.may_stand x.low_is refl refl refl refl
      (record { back = refl; value = refl; results = λ q l. with_register_other m.registers reg.TICKS later q (ne_eqb q reg.TICKS (λ e. omega (arith, e, l))) }) x

  pub other_low : (spot : Spot) (low left : ℕ) (c : Control) (h : Stack) (m : Machine) → MayStand program page c.calls spot.frames low → ExactAt program form page input code spot left c h m
      → ExactAt program form page input code (spot_at spot low) left c h (with_registers m (with_register m.registers reg.SP low))
  other_low spot low left c h m may x = exact_other spot low left left c h m (with_register m.registers reg.SP low) may refl x.left_is refl refl refl
      (record { back = refl; value = refl; results = λ q l. with_register_other m.registers reg.SP low q (ne_eqb q reg.SP (λ e. omega (arith, e, l))) }) x
