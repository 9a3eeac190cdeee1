-- The words of an image are the code of its program: the end service, the table, and each function where the table says.
use Rattle.std.proofs.lemmas.Option.{none-some, same_Some}
use Rattle.std.proofs.Common.{◌≡◌, ℕ, zero, suc, ◌+◌, ◌*◌, ◌%◌, ◌^◌, ◌<◌, ◌≤◌, Bool, true, false, if◌then◌else◌, Some, List, [], ◌∷◌, ◌++◌, length, length-append, refl, ap, subst, arith}
use Rattle.std.specs.Prelude.{⊤, pos, ◌-ℤ◌, slice_get}
use Rattle.cm_isa.specs.Operation.{Operation}
use Rattle.cm_isa.specs.Machine.{Code, InstructionsAt}
use Rattle.cm_isa.specs.Address.{AreWordsOf, InstructionAt}
use Rattle.cm_isa.specs.declared.convention.TheConstants as reg
use Rattle.cm_isa.proofs.Image.{image_is_one}
use Rattle.cm_syntax.specs.declared.stmt.Function.{Function}
use Rattle.cm_syntax.specs.declared.stmt.Program.{Program}
use Rattle.cm_syntax.specs.Fault.{IsSoundProgram}
use Rattle.cm_gen.specs.declared.form.Form.{Form}
use Rattle.cm_gen.specs.Assembler.{jal}
use Rattle.cm_gen.specs.Code.{service}
use Rattle.cm_gen.specs.Part.{Part, laid, table_word}
use Rattle.cm_gen.specs.Image.{function_code, marked, functions_code, functions_start, serial_end, entries_from, entries, table_from, front_of, program_code, image_of}
use Rattle.cm_gen.specs.Standing.{Stands, StandsAt, HasEntry, IsCompiled}
use Rattle.cm_gen.specs.Build.{max_image_words}
use Rattle.cm_gen.proofs.images.AddressLaw.{words_are_instructions}
use Rattle.cm_gen.proofs.images.ImageLaw.{laid-append, length-front, serial_codes}
use Rattle.cm_gen.proofs.sizes.SoundFitsLaw.{sound_functions}

pub length-laid : (address : ℕ) (parts : List Part) → length (laid address parts) ≡ length parts
length-laid address [] = refl
length-laid address (first ∷ more) = ap suc (length-laid (address + 4) more)

module _ (code : Code) where
  -- these instructions stand one after another from a place on
  abbrev pub AllStand : (p : ℕ) → List Operation → Type 0
  AllStand p [] = ⊤
  AllStand p (i ∷ is) = Stands code p i × AllStand (p + 4) is

  pub all_stand : (p : ℕ) (is : List Operation) → InstructionsAt code p is → p % 4 ≡ 0 → p + 4 * length is < 2 ^ 30 → AllStand p is
  all_stand p [] h aligned below = tt
  all_stand p (i ∷ is) h aligned below =
      (record { there = h.0; aligned = aligned; below = omega (arith, below) }, all_stand (p + 4) is h.1 (omega (arith, aligned)) (omega (arith, below)))

  -- two lists of them, one behind the other
  pub all_split : (p : ℕ) (a b : List Operation) → AllStand p (a ++ b) → AllStand p a × AllStand (p + 4 * length a) b
  all_split p [] b h = (tt, let e : p ≡ p + 4 * length {A = Operation} [] = omega arith in subst (λ q. AllStand q b) e h)
  all_split p (i ∷ a) b h =
      let x = all_split (p + 4) a b h.1 in
      let e : p + 4 + 4 * length a ≡ p + 4 * length (i ∷ a) = omega arith in
      ((h.0, x.0), subst (λ q. AllStand q b) e x.1)

  -- parts one behind the other
  parts_split : (p : ℕ) (a b : List Part) → AllStand p (laid p (a ++ b)) → AllStand p (laid p a) × AllStand (p + 4 * length a) (laid (p + 4 * length a) b)
  parts_split p a b h =
      let x = all_split p (laid p a) (laid (p + 4 * length a) b) (subst (AllStand p) (laid-append p a b) h) in
      (x.0, subst (λ n. AllStand (p + 4 * n) (laid (p + 4 * length a) b)) (length-laid p a) x.1)

  pub parts_stand : (p : ℕ) (parts : List Part) → AllStand p (laid p parts) → StandsAt code parts p
  parts_stand p [] h = (0, tt)
  parts_stand p (first ∷ more) h = (h.0, parts_stand (p + 4) more h.1)

  -- ---- the table

  table_at : (p : ℕ) (es : List ℕ) (j e : ℕ) → AllStand p (table_from p es) → slice_get es j ≡ Some e → Stands code (p + 4 * j) (jal reg.ZERO (pos e -ℤ pos (p + 4 * j)))
  table_at p [] j e h at = absurd (none-some _ at)
  table_at p (first ∷ es) zero e h at =
      let here : Stands code p (jal reg.ZERO (pos e -ℤ pos p)) = subst (λ x. Stands code p (jal reg.ZERO (pos x -ℤ pos p))) (same_Some _ _ at) h.0 in
      let place : p ≡ p + 4 * zero = omega arith in
      subst (λ q. Stands code q (jal reg.ZERO (pos e -ℤ pos q))) place here
  table_at p (first ∷ es) (suc j) e h at =
      let place : p + 4 + 4 * j ≡ p + 4 * suc j = omega arith in
      subst (λ q. Stands code q (jal reg.ZERO (pos e -ℤ pos q))) place (table_at (p + 4) es j e h.1 at)

  -- ---- the functions

  -- an address of a list is that of a function, whose code stands there
  record HasAddress (form : Form) (page : ℕ) (addresses : List ℕ) (f : ℕ) (function : Function ℕ) : Type 0 where
    pub entry : ℕ
    pub listed : slice_get addresses f ≡ Some entry
    pub aligned : entry % 4 ≡ 0
    pub stands : AllStand entry (laid entry (function_code form page function))

  later : (form : Form) (page first : ℕ) (addresses : List ℕ) (f : ℕ) (function : Function ℕ) → HasAddress form page addresses f function → HasAddress form page (first ∷ addresses) (suc f) function
  later form page first addresses f function h = record { entry = h.entry; listed = h.listed; aligned = h.aligned; stands = h.stands }

  -- the code of functions stands at a place of whole words
  record Lies (form : Form) (page p : ℕ) (functions : List (Function ℕ)) : Type 0 where
    pub aligned : p % 4 ≡ 0
    pub stands : AllStand p (laid p (functions_code form page functions))

  behind : (form : Form) (page p : ℕ) (g : Function ℕ) (fs : List (Function ℕ)) → Lies form page p (g ∷ fs) → Lies form page (p + 4 * length (function_code form page g)) fs
  behind form page p g fs h = record { aligned = let a = h.aligned in omega (arith, a); stands = (parts_split p (function_code form page g) (functions_code form page fs) h.stands).1 }

  first_of_these : (form : Form) (page p : ℕ) (g : Function ℕ) (fs : List (Function ℕ)) (addresses : List ℕ) (function : Function ℕ) → Lies form page p (g ∷ fs) → Some g ≡ Some function
      → HasAddress form page (p ∷ addresses) 0 function
  first_of_these form page p g fs addresses function h at = record {
    entry = p;
    listed = refl;
    aligned = h.aligned;
    stands = subst (λ function. AllStand p (laid p (function_code form page function))) (same_Some _ _ at) (parts_split p (function_code form page g) (functions_code form page fs) h.stands).0;
  }

  -- over whether the first function is marked, with what is said of the others
  by_mark : (b : Bool) (form : Form) (page serial cilk : ℕ) (g : Function ℕ) (fs : List (Function ℕ)) (f : ℕ) (function : Function ℕ) → slice_get (g ∷ fs) f ≡ Some function
      → Lies form page serial (if b then marked false fs else g ∷ marked false fs) → Lies form page cilk (if b then g ∷ marked true fs else marked true fs)
      → ((serial cilk f : ℕ) → slice_get fs f ≡ Some function → Lies form page serial (marked false fs) → Lies form page cilk (marked true fs) → HasAddress form page (entries_from form page serial cilk fs) f function)
      → HasAddress form page (if b then cilk ∷ entries_from form page serial (cilk + 4 * length (function_code form page g)) fs
      else serial ∷ entries_from form page (serial + 4 * length (function_code form page g)) cilk fs) f function
  by_mark true form page serial cilk g fs zero function at low high more = first_of_these form page cilk g (marked true fs) _ function high at
  by_mark true form page serial cilk g fs (suc f) function at low high more =
      later form page cilk _ f function (more serial (cilk + 4 * length (function_code form page g)) f at low (behind form page cilk g (marked true fs) high))
  by_mark false form page serial cilk g fs zero function at low high more = first_of_these form page serial g (marked false fs) _ function low at
  by_mark false form page serial cilk g fs (suc f) function at low high more =
      later form page serial _ f function (more (serial + 4 * length (function_code form page g)) cilk f at (behind form page serial g (marked false fs) low) high)

  has_address : (form : Form) (page serial cilk : ℕ) (fs : List (Function ℕ)) (f : ℕ) (function : Function ℕ) → slice_get fs f ≡ Some function
      → Lies form page serial (marked false fs) → Lies form page cilk (marked true fs) → HasAddress form page (entries_from form page serial cilk fs) f function
  has_address form page serial cilk [] f function at low high = absurd (none-some _ at)
  has_address form page serial cilk (g ∷ fs) f function at low high =
      by_mark g.cilk form page serial cilk g fs f function at low high (λ serial cilk f at low high. has_address form page serial cilk fs f function at low high)

  -- ---- the image

  pub image_stands : (program : Program) (form : Form) (page : ℕ) → AllStand 0 (image_of program form page) → ((p : ℕ) (i j : Operation) → code p i → code p j → i ≡ j) → IsCompiled program form page code
  image_stands program form page all one =
      let fs = program.functions in
      let start = functions_start program in
      let front = all_split 0 (front_of program form page) (laid start (program_code program form page)) all in
      let table = all_split 0 (service (pos 0)) (table_from (table_word 0) (entries program form page)) front.0 in
      let place : 0 + 4 * length (front_of program form page) ≡ start = omega (arith, length-front program form page) in
      let both = parts_split start (functions_code form page (marked false fs)) (functions_code form page (marked true fs)) (subst (λ p. AllStand p (laid start (program_code program form page))) place front.1) in
      let last : start + 4 * length (functions_code form page (marked false fs)) ≡ serial_end program page = ap (λ c. start + 4 * length c) (serial_codes form page fs) in
      let low : Lies form page start (marked false fs) = record { aligned = omega arith; stands = both.0 } in
      let high : Lies form page (serial_end program page) (marked true fs) = record { aligned = omega arith; stands = subst (λ p. AllStand p (laid p (functions_code form page (marked true fs)))) last both.1 } in
      record {
        one = one;
        ending = (front.0.0, (front.0.1.0, (0, tt)));
        functions = λ f function at. has_entry f function (has_address form page start (serial_end program page) fs f function at low high) table.1;
      }
    where
      has_entry : (f : ℕ) (function : Function ℕ) → HasAddress form page (entries program form page) f function
          → AllStand 8 (table_from (table_word 0) (entries program form page)) → HasEntry form page code f function
      has_entry f function h table = record {
        entry = h.entry;
        aligned = h.aligned;
        table = let place : table_word 0 + 4 * f ≡ table_word f = omega arith in
            subst (λ p. Stands code p (jal reg.ZERO (pos h.entry -ℤ pos p))) place (table_at (table_word 0) (entries program form page) f h.entry table h.listed);
        entry_code = parts_stand h.entry (function_code form page function) h.stands;
      }

-- the words of an image of a sound program, which isn't too long
pub is_compiled : (program : Program) (form : Form) (page : ℕ) (words : List ℕ) → IsSoundProgram program → AreWordsOf words (image_of program form page)
    → length (program_code program form page) ≤ max_image_words → IsCompiled program form page (InstructionAt words)
is_compiled program form page words sound are short =
    let few = (sound_functions program sound).1 in
    let front = length-front program form page in
    let size = length-append (front_of program form page) (laid (functions_start program) (program_code program form page)) in
    let same = length-laid (functions_start program) (program_code program form page) in
    image_stands (InstructionAt words) program form page
    (all_stand (InstructionAt words) 0 (image_of program form page) (words_are_instructions [] words (image_of program form page) are) refl (omega (arith, few, front, size, same, short)))
    (image_is_one words)
