-- What a machine passes is a way of the serial elision.
use Rattle.std.proofs.Common.{◌≡◌, ℕ, suc, ◌+◌, List, [], ap, arith}
use Rattle.std.specs.Prelude.{ℤ}
use Rattle.cm_syntax.specs.declared.stmt.Program.{Program}
use Rattle.cm_syntax.specs.Stack.{Stack, Destination}
use Rattle.cm_syntax.specs.Rest.{Control}
use Rattle.cm_syntax.specs.Step.{step, inside}
use Rattle.cm_meaning.specs.Elision as elision
use Rattle.cm_meaning.specs.Meaning.{Comes}
use Rattle.cm_gen.specs.declared.form.Form.{Form}
use Rattle.cm_gen.specs.StandsFor.{Spot}
use Rattle.cm_gen.specs.Moment.{Passes, here, quiet, tick, call, join}

module _ (program : Program) (form : Form) (page : ℕ) (input : List ℤ) where
  -- so many ticks are gone
  pub elided : {old : Spot} {new : Spot} {left : ℕ} {later : ℕ} {c : Control} {d : Control} {h : Stack} {g : Stack} → Passes program form page input old left c h new later d g
      → (n : ℕ) × Comes program page input c h [] n d g × (left ≡ n + later)
  elided here = (0, elision.here, omega arith)
  elided {h = h} (quiet is s p) = let on = elided p in (on.0, elision.quiet (ap (elision.serial Control Stack Destination (step program page input) inside h) is) on.1, on.2)
  elided {h = h} (tick is s p) = let on = elided p in let e = on.2 in (suc on.0, elision.tick (ap (elision.serial Control Stack Destination (step program page input) inside h) is) on.1, omega (arith, e))
  elided {h = h} (call own is s p) = let on = elided p in (on.0, elision.quiet (ap (elision.serial Control Stack Destination (step program page input) inside h) is) on.1, on.2)
  elided {h = h} (join own is s p) = let on = elided p in (on.0, elision.quiet (ap (elision.serial Control Stack Destination (step program page input) inside h) is) on.1, on.2)
