-- What the laws of the code ask of a program's run, from the ranges of its limits and its input.
use Rattle.std.proofs.Common.{◌≡◌, ℕ, suc, ◌+◌, ◌*◌, ◌%◌, ◌^◌, ◌<◌, ◌≤◌, List, [], ◌∷◌, length, length-append, refl, ap, arith, inl, inr}
use Rattle.std.specs.Prelude.{ℤ, FitsSigned, Contains}
use Rattle.std.specs.Int.{w32}
use Rattle.cm_isa.specs.Address.{AreWordsOf, InstructionAt}
use Rattle.cm_isa.specs.Operation.{Operation, ecall}
use Rattle.cm_syntax.specs.declared.stmt.Program.{Program}
use Rattle.cm_syntax.specs.Fault.{IsSoundProgram}
use Rattle.cm_meaning.specs.Meaning.{Limits}
use Rattle.cm_maps.specs.Pages.{IsPage}
use Rattle.cm_meaning.specs.Range.{HasRanges, max_input_numbers}
use Rattle.cm_gen.specs.declared.form.Form.{Form}
use Rattle.cm_gen.specs.Build.{max_image_words}
use Rattle.cm_gen.specs.Part.{Part, laid}
use Rattle.cm_gen.specs.Image.{image_of, front_of, functions_start, program_code}
use Rattle.cm_gen.specs.Formed.{Runs}
use Rattle.cm_serial.specs.Run.{stack_bytes}

-- the bytes of a stack: they are whole words, and fit below its top
page_bytes : (stack page : ℕ) → stack ≤ 256 → IsPage page → (stack * page ≤ 2 ^ 20) × (stack * page % 4 ≡ 0)
page_bytes stack page few (inl e) = let h : stack * page ≡ stack * 256 = ap (λ p. stack * p) e in (omega (arith, few, h), omega (arith, h))
page_bytes stack page few (inr (inl e)) = let h : stack * page ≡ stack * 1024 = ap (λ p. stack * p) e in (omega (arith, few, h), omega (arith, h))
page_bytes stack page few (inr (inr e)) = let h : stack * page ≡ stack * 4096 = ap (λ p. stack * p) e in (omega (arith, few, h), omega (arith, h))

pub bytes_fit : (limits : Limits) → HasRanges limits → (stack_bytes limits ≤ 2 ^ 20) × (stack_bytes limits % 4 ≡ 0)
bytes_fit limits ranges = page_bytes limits.stack limits.page ranges.most_stack ranges.page

-- the premises of the laws
pub runs_of : (program : Program) (input : List ℤ) (limits : Limits) → IsSoundProgram program → HasRanges limits → length input ≤ max_input_numbers
    → ((v : ℤ) → Contains input v → FitsSigned w32 v) → Runs program limits.page (stack_bytes limits) input
runs_of program input limits sound ranges few fits = record {
  sound = sound;
  page_is = ranges.page;
  limit_fits = let bytes = (bytes_fit limits ranges).0 in omega (arith, bytes);
  count_fits = omega (arith, few);
  numbers_fit = fits;
}

-- ---- words

length-laid : (address : ℕ) (parts : List Part) → length (laid address parts) ≡ length parts
length-laid address [] = refl
length-laid address (first ∷ more) = ap suc (length-laid (address + 4) more)

-- the code of the functions is no longer than the image
pub code_within : (program : Program) (form : Form) (page n : ℕ) → length (image_of program form page) ≤ n → length (program_code program form page) ≤ n
code_within program form page n short =
    let whole = length-append (front_of program form page) (laid (functions_start program) (program_code program form page)) in
    let same = length-laid (functions_start program) (program_code program form page) in
    omega (arith, short, whole, same)

pub length-words : (words : List ℕ) (is : List Operation) → AreWordsOf words is → length words ≡ length is
length-words [] [] h = refl
length-words (w ∷ words) (i ∷ is) h = ap suc (length-words words is h.1)
length-words [] (i ∷ is) h = absurd h
length-words (w ∷ words) [] h = absurd h

-- each instruction of a short image is far below the end of the addresses
pub ecall_below : (words : List ℕ) (is : List Operation) → AreWordsOf words is → length is ≤ max_image_words → (p : ℕ) → InstructionAt words p ecall → p + 4 < 2 ^ 32
ecall_below words is are short p there =
    let same = length-words words is are in
    let inside = there.1 in
    omega (arith, short, same, inside)
