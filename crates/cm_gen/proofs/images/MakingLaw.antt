-- What is known of a sound program, as the goals ask for it.
use Rattle.std.proofs.Common.{◌≡◌, ℕ, ◌+◌, ◌<◌, ◌≤◌, ◌^◌, length, List, ap, arith, Err}
use Rattle.std.specs.declared.result.Result.{Result}
use Rattle.cm_syntax.specs.declared.stmt.Program.{Program}
use Rattle.cm_syntax.specs.Fault.{IsSoundProgram}
use Rattle.cm_syntax.specs.Limit.{max_functions}
use Rattle.cm_gen.specs.Fits.{FunctionsFit}
use Rattle.cm_gen.specs.declared.form.Form.{Form}
use Rattle.cm_gen.specs.declared.making.GenRefusal.{GenRefusal}
use Rattle.cm_gen.specs.declared.making.GenRefusal.TheVariants as refusal
use Rattle.cm_gen.specs.Part.{Part}
use Rattle.cm_gen.specs.Image.{program_code, image_of}
use Rattle.cm_gen.specs.Build.{max_image_words}
use Rattle.cm_gen.proofs.sizes.BoundLaw.{length-image, sound_bound}
use Rattle.cm_gen.proofs.sizes.SoundFitsLaw.{sound_functions}

pub fits_of : (program : Program) → IsSoundProgram program → FunctionsFit program.functions
fits_of program sound = (sound_functions program sound).0

pub few_of : (program : Program) → IsSoundProgram program → length program.functions ≤ max_functions
few_of program sound = (sound_functions program sound).1

-- the words of an image, as they are counted
pub counted : (program value : Program) (form : Form) (page few size : ℕ) (code : List Part) → value ≡ program → few ≡ length value.functions → size ≡ length code
    → code ≡ program_code value form page → 2 + few + size ≡ 2 + length program.functions + length (program_code program form page)
counted program value form page few size code is one two made =
    omega (arith, one, two, ap length made, ap (λ (p : Program). length p.functions) is, ap (λ (p : Program). length (program_code p form page)) is)

-- the words of an image that is too long, and of one that isn't
pub too_long : (program : Program) (form : Form) (page made words : ℕ) → made ≡ 2 + length program.functions + length (program_code program form page) → max_image_words < made
    → made ≡ words → (words ≡ length (image_of program form page)) × (max_image_words < words)
too_long program form page made words sum many same = (omega (arith, sum, same, length-image program form page), omega (arith, many, same))

pub short_enough : (program : Program) (form : Form) (page made : ℕ) → made ≡ 2 + length program.functions + length (program_code program form page) → made ≤ max_image_words
    → length (image_of program form page) ≤ max_image_words
short_enough program form page made sum few = omega (arith, sum, few, length-image program form page)

pub fits_number : (program : Program) (form : Form) (page made : ℕ) → IsSoundProgram program → made ≡ 2 + length program.functions + length (program_code program form page) → made < 2 ^ 32
fits_number program form page made sound sum = omega (arith, sum, length-image program form page, sound_bound program form page sound)

-- refusals as long are of the same number
pub same_words : {T : Type 0} {m n : ℕ} → ◌≡◌ {A = Result T GenRefusal} (Err (refusal.Long m)) (Err (refusal.Long n)) → m ≡ n
same_words h = cc
