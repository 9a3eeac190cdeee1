-- The part of an image that belongs to functions that aren't marked `cilk` names no build.
use Rattle.std.proofs.lemmas.Bool.{true≢false}
use Rattle.std.proofs.lemmas.Option.{same_Some}
use Rattle.std.proofs.Common.{◌≡◌, ℕ, zero, suc, ◌+◌, ◌*◌, Bool, true, false, if◌then◌else◌, List, [], ◌∷◌, ◌++◌, length, Some, ◌≤◌, length-append, refl, sym, ap, ◌∙◌, arith}
use Rattle.std.specs.Prelude.{slice_get}
use Rattle.cm_syntax.specs.declared.stmt.Function.{Function}
use Rattle.cm_syntax.specs.declared.stmt.Program.{Program}
use Rattle.cm_gen.specs.declared.form.Form.{Form}
use Rattle.cm_gen.specs.declared.form.Form.TheVariants.{Serial}
use Rattle.cm_gen.specs.Part.{Part, placed, laid, table_word}
use Rattle.cm_gen.specs.Image.{function_code, marked, functions_code, functions_start, serial_code, serial_end, serial_part, entries_from, entries, table_from, front_of, program_code, image_of, HaveRoom}
use Rattle.cm_gen.specs.Build.{max_image_words}

-- parts laid out one after another
pub laid-append : (address : ℕ) (x y : List Part) → laid address (x ++ y) ≡ laid address x ++ laid (address + 4 * length x) y
laid-append address [] y = ap (λ p. laid p y) (omega arith)
laid-append address (p ∷ x) y =
    let place : address + 4 + 4 * length x ≡ address + 4 * length (p ∷ x) = omega arith in
    ap (λ is. placed address p ∷ is) (laid-append (address + 4) x y ∙ ap (λ q. laid (address + 4) x ++ laid q y) place)

-- the code of a function that isn't marked
pub unmarked : (form : Form) (page : ℕ) (f : Function ℕ) → f.cilk ≡ false → function_code form page f ≡ function_code Serial page f
unmarked form page f is = rw is refl

-- over whether the first of some functions is marked
serial_more : (b : Bool) (form : Form) (page : ℕ) (f : Function ℕ) (fs : List (Function ℕ)) → f.cilk ≡ b
    → functions_code form page (marked false fs) ≡ functions_code Serial page (marked false fs)
    → functions_code form page (if b then marked false fs else f ∷ marked false fs) ≡ functions_code Serial page (if b then marked false fs else f ∷ marked false fs)
serial_more true form page f fs is more = more
serial_more false form page f fs is more =
    ap (λ code. code ++ functions_code form page (marked false fs)) (unmarked form page f is) ∙ ap (λ later. function_code Serial page f ++ later) more

pub serial_codes : (form : Form) (page : ℕ) (fs : List (Function ℕ)) → functions_code form page (marked false fs) ≡ functions_code Serial page (marked false fs)
serial_codes form page [] = refl
serial_codes form page (f ∷ fs) = serial_more f.cilk form page f fs refl (serial_codes form page fs)

-- the image: what stands before the functions, the functions that aren't marked, and those that are
pub image_parts : (program : Program) (form : Form) (page : ℕ)
    → image_of program form page ≡ front_of program form page ++ (serial_part program page ++ laid (serial_end program page) (functions_code form page (marked true program.functions)))
image_parts program form page =
    let fs = program.functions in
    let whole : program_code program form page ≡ serial_code program page ++ functions_code form page (marked true fs) =
    ap (λ c. c ++ functions_code form page (marked true fs)) (serial_codes form page fs) in
    ap (λ c. front_of program form page ++ laid (functions_start program) c) whole
    ∙ ap (λ is. front_of program form page ++ is) (laid-append (functions_start program) (serial_code program page) (functions_code form page (marked true fs)))

length-table : (address : ℕ) (es : List ℕ) → length (table_from address es) ≡ length es
length-table address [] = refl
length-table address (e ∷ es) = ap suc (length-table (address + 4) es)

length-choice : (b : Bool) (x y : ℕ) (xs ys : List ℕ) (n : ℕ) → length xs ≡ n → length ys ≡ n → length (if b then x ∷ xs else y ∷ ys) ≡ suc n
length-choice true x y xs ys n ex ey = ap suc ex
length-choice false x y xs ys n ex ey = ap suc ey

length-entries : (form : Form) (page serial cilk : ℕ) (fs : List (Function ℕ)) → length (entries_from form page serial cilk fs) ≡ length fs
length-entries form page serial cilk [] = refl
length-entries form page serial cilk (f ∷ fs) =
    let words = 4 * length (function_code form page f) in
    length-choice f.cilk cilk serial _ _ _ (length-entries form page serial (cilk + words) fs) (length-entries form page (serial + words) cilk fs)

-- what stands before the functions has the words before their start
pub length-front : (program : Program) (form : Form) (page : ℕ) → 4 * length (front_of program form page) ≡ functions_start program
length-front program form page =
    let table = length-table (table_word 0) (entries program form page) in
    let all = length-entries form page (functions_start program) (serial_end program page) program.functions in
    omega (arith, table, all)

-- A function that isn't marked has the same address in both builds: over whether the first function is marked, with what
-- is said of the others.
entry_more : (b : Bool) (form : Form) (page serial x y : ℕ) (g : Function ℕ) (fs : List (Function ℕ)) (j : ℕ) (f : Function ℕ) → g.cilk ≡ b
    → slice_get (g ∷ fs) j ≡ Some f → f.cilk ≡ false
    → ((serial x y j : ℕ) → slice_get fs j ≡ Some f → slice_get (entries_from form page serial x fs) j ≡ slice_get (entries_from Serial page serial y fs) j)
    → slice_get (if b then x ∷ entries_from form page serial (x + 4 * length (function_code form page g)) fs
    else serial ∷ entries_from form page (serial + 4 * length (function_code form page g)) x fs) j
    ≡ slice_get (if b then y ∷ entries_from Serial page serial (y + 4 * length (function_code Serial page g)) fs
    else serial ∷ entries_from Serial page (serial + 4 * length (function_code Serial page g)) y fs) j
entry_more true form page serial x y g fs zero f marks at is more = absurd (true≢false (sym marks ∙ ap (λ (h : Function ℕ). h.cilk) (same_Some _ _ at) ∙ is))
entry_more true form page serial x y g fs (suc j) f marks at is more = more serial _ _ j at
entry_more false form page serial x y g fs zero f marks at is more = refl
entry_more false form page serial x y g fs (suc j) f marks at is more =
    ap (λ code. slice_get (entries_from form page (serial + 4 * length code) x fs) j) (unmarked form page g marks) ∙ more _ x y j at

entry_from : (form : Form) (page serial x y : ℕ) (fs : List (Function ℕ)) (j : ℕ) (f : Function ℕ) → slice_get fs j ≡ Some f → f.cilk ≡ false
    → slice_get (entries_from form page serial x fs) j ≡ slice_get (entries_from Serial page serial y fs) j
entry_from form page serial x y [] j f at is = refl
entry_from form page serial x y (g ∷ fs) j f at is =
    entry_more g.cilk form page serial x y g fs j f refl at is (λ serial x y j at. entry_from form page serial x y fs j f at is)

pub serial_entry : (program : Program) (form : Form) (page j : ℕ) (f : Function ℕ) → slice_get program.functions j ≡ Some f → f.cilk ≡ false
    → slice_get (entries program form page) j ≡ slice_get (entries program Serial page) j
serial_entry program form page j f at is = entry_from form page (functions_start program) _ _ program.functions j f at is

-- an image of few words has its functions within reach
pub room_of : (program : Program) (form : Form) (page : ℕ) → length program.functions ≤ 256 → length (program_code program form page) ≤ max_image_words
    → HaveRoom form page (functions_start program) (serial_end program page) program.functions
room_of program form page few le =
    let fs = program.functions in
    let whole = length-append (functions_code form page (marked false fs)) (functions_code form page (marked true fs)) in
    let same = ap length (serial_codes form page fs) in
    (omega (arith, few, le, whole), omega (arith, few, le, whole, same), omega arith, omega arith)
