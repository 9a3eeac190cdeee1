-- The image of a program in one of its builds.
use Rattle.std.specs.Prelude.{ℕ, ◌^◌, ◌<◌, ◌≤◌, List, length, slice_index}
use Rattle.cm_isa.specs.Address.{AreWordsOf}
use Rattle.cm_syntax.specs.declared.stmt.Program.{Program}
use Rattle.cm_gen.specs.declared.form.Form.{Form}
use Rattle.cm_gen.specs.declared.build.Build.{Build}
use Rattle.cm_gen.specs.Build.{IsBuild, max_image_words}
use Rattle.cm_gen.specs.Image.{image_of}

-- The words, of 32 bits each, are the image of the program in this form and with pages of so many bytes, and not too
-- many.
pub record IsImageOf (program : Program) (form : Form) (page : ℕ) (words : List ℕ) : Type 0 where
  pub code : AreWordsOf words (image_of program form page)
  pub each : (k : ℕ) → slice_index words k < 2 ^ 32
  pub few : length words ≤ max_image_words

-- the most bytes of a source whose image is never too long
abbrev pub max_short_source : ℕ
max_short_source = 8192

-- the image of the program has too many words
abbrev pub IsLong : Program → Form → (page : ℕ) → Type 0
IsLong program form page = max_image_words < length (image_of program form page)

-- the build is that of the program in this form and with pages of so many bytes, and its image isn't too long
pub record IsCompiled (program : Program) (form : Form) (page : ℕ) (build : Build) : Type 0 where
  pub made : IsBuild program form page build
  pub few : length (image_of program form page) ≤ max_image_words
