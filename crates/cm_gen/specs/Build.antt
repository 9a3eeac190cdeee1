-- What the build of a program is.
use Rattle.std.specs.Prelude.{◌≡◌, ℕ}
use Rattle.cm_isa.specs.Address.{AreWordsOf}
use Rattle.cm_syntax.specs.declared.stmt.Program.{Program}
use Rattle.cm_gen.specs.declared.form.Form.{Form}
use Rattle.cm_gen.specs.declared.build.Build.{Build}
use Rattle.cm_gen.specs.declared.build.TheConstants.{MAX_IMAGE_WORDS}
use Rattle.cm_gen.specs.Image as code

-- the most words of an image
abbrev pub max_image_words : ℕ
max_image_words = MAX_IMAGE_WORDS

-- the build of a program in this form and with pages of so many bytes
pub record IsBuild (program : Program) (form : Form) (page : ℕ) (build : Build) : Type 0 where
  -- the words of the image are those of the program's code, one for each instruction
  pub words : AreWordsOf build.image.words (code.image_of program form page)
  -- the form and the page are those that it was made with
  pub in_form : build.form ≡ form
  pub with_page : build.page ≡ page
  -- the index of the function that is run
  pub main : build.main ≡ program.main
  -- the addresses of the functions, the words of their frames and the slots of their parameters
  pub entries : build.entries ≡ code.entries program form page
  pub frames : build.frames ≡ code.frames program
  pub parameters : build.parameters ≡ code.parameters program
  -- the address behind the last function that isn't marked `cilk`
  pub serial_end : build.serial_end ≡ code.serial_end program page
  -- the program that it was made from
  pub made : build.made.value ≡ program
