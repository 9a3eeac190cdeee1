-- An image has room for each of its functions, the end service and the table.
use Rattle.std.proofs.lemmas.Option.{same_Some}
use Rattle.std.proofs.Common.{◌≡◌, ℕ, zero, suc, ◌+◌, ◌≤◌, Bool, true, false, if◌then◌else◌, List, [], ◌∷◌, length, Some, length-append, ap, arith}
use Rattle.std.proofs.lemmas.Option.{none-some}
use Rattle.std.specs.Prelude.{slice_get}
use Rattle.cm_syntax.specs.declared.stmt.Function.{Function}
use Rattle.cm_syntax.specs.declared.stmt.Program.{Program}
use Rattle.cm_gen.specs.declared.form.Form.{Form}
use Rattle.cm_gen.specs.Part.{laid}
use Rattle.cm_gen.specs.Image.{function_code, marked, functions_code, functions_start, program_code, front_of, image_of}
use Rattle.cm_gen.proofs.images.ImageLaw.{length-front}
use Rattle.cm_gen.proofs.images.CompiledLaw.{length-laid}

-- the words of the functions that aren't marked and of those that are
abbrev both : Form → (page : ℕ) → (low high : List (Function ℕ)) → ℕ
both form page low high = length (functions_code form page low) + length (functions_code form page high)

-- one more function is on one side or the other, over whether it is marked
more_of : (b : Bool) (form : Form) (page : ℕ) (g : Function ℕ) (low high : List (Function ℕ))
    → both form page (if b then low else g ∷ low) (if b then g ∷ high else high) ≡ length (function_code form page g) + both form page low high
more_of true form page g low high = omega (arith, length-append (function_code form page g) (functions_code form page high))
more_of false form page g low high = omega (arith, length-append (function_code form page g) (functions_code form page low))

one_of : (form : Form) (page : ℕ) (fs : List (Function ℕ)) (j : ℕ) (f : Function ℕ) → slice_get fs j ≡ Some f
    → length (function_code form page f) ≤ both form page (marked false fs) (marked true fs)
one_of form page [] j f is = absurd (none-some _ is)
one_of form page (g ∷ fs) zero f is =
    let same : length (function_code form page g) ≡ length (function_code form page f) = ap (λ h. length (function_code form page h)) (same_Some _ _ is) in
    omega (arith, same, more_of g.cilk form page g (marked false fs) (marked true fs))
one_of form page (g ∷ fs) (suc j) f is =
    omega (arith, one_of form page fs j f is, more_of g.cilk form page g (marked false fs) (marked true fs))

pub room_in_image : (program : Program) (form : Form) (page j : ℕ) (f : Function ℕ) → slice_get program.functions j ≡ Some f
    → length (function_code form page f) + 2 + length program.functions ≤ length (image_of program form page)
room_in_image program form page j f is =
    let fs = program.functions in
    let code = program_code program form page in
    let place = functions_start program in
    omega (
      arith,
      one_of form page fs j f is,
      length-append (front_of program form page) (laid place code),
      length-laid place code,
      length-append (functions_code form page (marked false fs)) (functions_code form page (marked true fs)),
      length-front program form page,
    )
