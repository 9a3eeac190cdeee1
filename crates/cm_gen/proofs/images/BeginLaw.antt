-- The first machine of a run stands for its first state.
use Rattle.std.proofs.Common.{ℕ, List, [], ◌∷◌, refl, sym, ap, arith}
use Rattle.std.specs.Prelude.{ℤ}
use Rattle.cm_isa.specs.declared.convention.TheConstants as reg
use Rattle.cm_isa.specs.Machine.{Machine, Code}
use Rattle.cm_syntax.specs.declared.stmt.Program.{Program}
use Rattle.cm_syntax.specs.Stack.{Stack}
use Rattle.cm_syntax.specs.Step.{start_of}
use Rattle.cm_gen.specs.declared.form.Form.{Form}
use Rattle.cm_gen.specs.Standing.{IsCompiled}
use Rattle.cm_gen.specs.StandsFor.{first_spot, ExactAt, Begins}

module _ (program : Program) (form : Form) (page limit : ℕ) (input : List ℤ) (code : Code) (compiled : IsCompiled program form page code) where
  pub begins : (left : ℕ) (m : Machine) → Begins program limit left m → (none : Stack)
      → ExactAt program form page input code first_spot left (start_of program.main limit) none m
  begins left m first none = record {
    frames = tt;
    may_stand = refl;
    slots = λ d s i deep. absurd (omega (arith, deep));
    kept = tt;
    own = λ d n deep. absurd (omega (arith, deep));
    returns_are = ap (λ p. p ∷ []) (sym (first.registers reg.RA));
    zero_is = first.registers reg.ZERO;
    low_is = first.registers reg.SP;
    account_is = first.registers reg.ACCOUNT;
    left_is = first.registers reg.TICKS;
    pointer_is = first.registers reg.FP;
    placed = (0, (first.counter, tt, (let e = first.registers reg.RA in omega (arith, e)), (let e = first.registers reg.RA in omega (arith, e)), (0, (first.registers reg.RA, compiled.ending))));
  }
