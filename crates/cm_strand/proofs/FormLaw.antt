-- Functions that are marked `cilk` have code of the Cilk form; and a number of the input that isn't there.
use Rattle.std.proofs.Common.{◌≡◌, ℕ, ◌≤◌, ◌<◌, ◌^◌, Bool, true, false, List, [], ◌∷◌, length, Option, None, Some, refl, sym, ap, ◌∙◌, arith}
use Rattle.std.proofs.lemmas.Bool.{ltb-false}
use Rattle.std.proofs.lemmas.Int.{ints}
use Rattle.std.proofs.lemmas.Option.{slice_get_past}
use Rattle.std.specs.Prelude.{ℤ, pos, negsuc, FitsSigned, slice_get, if◌then◌else◌}
use Rattle.std.specs.Int.{w32}
use Rattle.cm_syntax.specs.declared.stmt.Function.{Function}
use Rattle.cm_syntax.specs.declared.stmt.Program.{Program}
use Rattle.cm_syntax.specs.Step.{is_index}
use Rattle.cm_meaning.specs.Mark.{mark_in, mark_of}
use Rattle.cm_gen.specs.declared.form.Form.TheVariants.{Serial, Cilk}
use Rattle.cm_gen.specs.Standing.{form_of, form_here}
use Rattle.cm_gen.specs.FrameWord.{bits, IsMarked}
use Rattle.cm_strand.specs.Running.{RunsCilk}

serial_cilk : Serial ≡ Cilk → ⊥
serial_cilk e = cc

marked : (o : Option (Function ℕ)) → form_of Cilk o ≡ Cilk → IsMarked o
marked None e = absurd (serial_cilk e)
marked (Some f) e = by f.cilk e
  where
    by : (b : Bool) → (if b then Cilk else Serial) ≡ Cilk → b ≡ true
    by true g = refl
    by false g = absurd (serial_cilk g)

not_marked : (o : Option (Function ℕ)) → form_of Cilk o ≡ Serial → IsMarked o → ⊥
not_marked None e m = m
not_marked (Some f) e m = by f.cilk e m
  where
    by : (b : Bool) → (if b then Cilk else Serial) ≡ Serial → b ≡ true → ⊥
    by true g h = serial_cilk (sym g)
    by false g h = differ h
      where
        differ : false ≡ true → ⊥
        differ k = cc

pub cilk_runs : (program : Program) (calls : List ℕ) → form_here program Cilk calls ≡ Cilk → RunsCilk program calls
cilk_runs program [] e = serial_cilk e
cilk_runs program (f ∷ calls) e = marked (slice_get program.functions f) e

pub serial_not_cilk : (program : Program) (calls : List ℕ) → form_here program Cilk calls ≡ Serial → RunsCilk program calls → ⊥
serial_not_cilk program [] e r = r
serial_not_cilk program (f ∷ calls) e r = not_marked (slice_get program.functions f) e r

-- the mark of the running function says so too
marked_is : (o : Option (Function ℕ)) → mark_in o ≡ true → IsMarked o
marked_is None e = absurd (differ e)
  where
    differ : false ≡ true → ⊥
    differ k = cc
marked_is (Some f) e = e

pub marked_runs : (program : Program) (calls : List ℕ) → mark_of program calls ≡ true → RunsCilk program calls
marked_runs program [] e = differ e
  where
    differ : false ≡ true → ⊥
    differ k = cc
marked_runs program (f ∷ calls) e = marked_is (slice_get program.functions f) e

-- an index of a number that isn't there
no_number : (input : List ℤ) (v : ℤ) → FitsSigned w32 v → length input < 2 ^ 31 → is_index v (length input) ≡ false → slice_get input (bits v) ≡ None
no_number input (pos k) fits small outside =
    let far : length input ≤ k = ltb-false k (length input) outside in
    slice_get_past input (bits (pos k)) (omega (arith, ints, fits, far))
no_number input (negsuc k) fits small outside = slice_get_past input (bits (negsuc k)) (omega (arith, ints, fits, small))

none_some : (x : ℤ) → ◌≡◌ {A = Option ℤ} None (Some x) → ⊥
none_some x e = cc

-- such an index doesn't get a number
pub missing : (input : List ℤ) → length input < 2 ^ 31 → (v x : ℤ) (n : ℕ) → n ≡ bits v → FitsSigned w32 v → is_index v (length input) ≡ false → slice_get input n ≡ Some x → ⊥
missing input few v x n e fits outside got =
    none_some x (sym (no_number input v fits few outside) ∙ (ap (slice_get input) (sym e) ∙ got))
