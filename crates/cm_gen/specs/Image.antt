-- The code of functions and of programs. The image has the end service at address 0, the table of functions, the
-- functions that aren't marked `cilk`, and those that are, each in the order of the source.
use Rattle.std.specs.Prelude.{◌≡◌, ℕ, ◌+◌, ◌*◌, ◌^◌, ◌%◌, ◌<◌, pos, ◌+ℤ◌, ◌-ℤ◌, Bool, true, false, if◌then◌else◌, Some, List, [], ◌∷◌, ◌++◌, length, map}
use Rattle.cm_isa.specs.Operation.{Operation}
use Rattle.cm_isa.specs.declared.convention.TheConstants as reg
use Rattle.cm_syntax.specs.declared.stmt.Slot.{Slot}
use Rattle.cm_syntax.specs.declared.stmt.Extent.{Extent}
use Rattle.cm_syntax.specs.declared.stmt.Extent.TheVariants as extent
use Rattle.cm_syntax.specs.Extent.{extent_of}
use Rattle.cm_syntax.specs.declared.stmt.Item as items
use Rattle.cm_syntax.specs.declared.stmt.Function.{Function}
use Rattle.cm_syntax.specs.declared.stmt.Program.{Program}
use Rattle.cm_syntax.specs.Frame.{slot_words, frame_words}
use Rattle.cm_syntax.specs.Fault.{parameter_slots}
use Rattle.cm_syntax.specs.Step.{call_bytes_in}
use Rattle.cm_gen.specs.declared.form.Form.{Form}
use Rattle.cm_gen.specs.declared.form.Form.TheVariants.{Serial}
use Rattle.cm_isa.specs.Bits.{minus}
use Rattle.cm_gen.specs.Assembler.{addi, lw, sw, jal, jalr}
use Rattle.cm_gen.specs.Code.{store_slot, service, entry, leave}
use Rattle.cm_gen.specs.Part.{Part, straight, table_word, laid}
use Rattle.cm_gen.specs.Expression.{slot_offset}
use Rattle.cm_gen.specs.Statement.{sync_code, body_code}

-- ---- functions

-- the words of a parameter, which has slot x, go from the registers from r on into the slot; no parameter is an array
abbrev pub parameter_for : List Slot → (x r : ℕ) → Extent → List Operation
parameter_for slots x r extent.Word = store_slot r (slot_offset slots x)
parameter_for slots x r (extent.Words n) = []
parameter_for slots x r extent.Reference = store_slot r (slot_offset slots x) ++ store_slot (r + 1) (slot_offset slots x +ℤ pos 4)

-- the same by the parameter's slot
abbrev pub parameter_code : List Slot → (x r : ℕ) → Slot → List Operation
parameter_code slots x r kind = parameter_for slots x r (extent_of kind)

-- those of all parameters, from slot x and register r on
abbrev pub parameters_code : List Slot → (x r : ℕ) → List (items.Item ℕ) → List Operation
parameters_code slots x r [] = []
parameters_code slots x r (first ∷ more) = parameter_code slots x r first.slot ++ parameters_code slots (x + 1) (r + slot_words first.slot) more

-- The form of a function's spawns, syncs and return. Only a function marked `cilk` has spawns and syncs, so the code of
-- the others is the same in both builds.
abbrev pub form_in : Form → Function ℕ → Form
form_in form function = if function.cilk then form else Serial

-- the bytes of a function's frame
abbrev pub frame_bytes_of : Function ℕ → ℕ
frame_bytes_of function = 4 * frame_words function

-- what a call takes of the account: these bytes, and a page where the function is marked `cilk`
abbrev pub need_of : (page : ℕ) → Function ℕ → ℕ
need_of page function = call_bytes_in page (Some function)

-- a body that falls off its end returns 0
abbrev pub fall_code : List Operation
fall_code = addi reg.VALUE reg.ZERO (pos 0) ∷ []

-- the caller's registers are saved in a new frame, whose address HELP has
abbrev pub save_words : List Operation
save_words = sw reg.RA reg.HELP (minus 4) ∷ sw reg.FP reg.HELP (minus 8) ∷ addi reg.FP reg.HELP (pos 0) ∷ []

-- they come back, and the call returns
abbrev pub go_back : List Operation
go_back = lw reg.RA reg.FP (minus 4) ∷ addi reg.SP reg.FP (pos 0) ∷ lw reg.FP reg.FP (minus 8) ∷ jalr reg.ZERO reg.RA (pos 0) ∷ []

-- the exit, to which `return` jumps: the join, and the end of the call
abbrev pub exit_of : Form → (need : ℕ) → List Part
exit_of own need = straight (sync_code own) ++ straight (leave need)

-- the code behind a function's frame, by the form of its own spawns; behind the body is one word before the exit
abbrev pub inner_of : Form → (need : ℕ) → List Slot → Function ℕ → List Part
inner_of own need slots function = straight (parameters_code slots 0 reg.RESULT function.parameters)
    ++ (body_code own slots 1 function.body ++ (straight fall_code ++ exit_of own need))

abbrev pub inner_code : Form → (page : ℕ) → Function ℕ → List Part
inner_code form page function = inner_of (form_in form function) (need_of page function) function.slots function

-- a function
abbrev pub function_code : Form → (page : ℕ) → Function ℕ → List Part
function_code form page function = straight (entry (frame_bytes_of function) (need_of page function)) ++ inner_code form page function

-- ---- programs

-- functions that are marked `cilk`, or those that aren't
abbrev pub marked : (cilk : Bool) → List (Function ℕ) → List (Function ℕ)
marked cilk [] = []
marked true (first ∷ more) = if first.cilk then first ∷ marked true more else marked true more
marked false (first ∷ more) = if first.cilk then marked false more else first ∷ marked false more

-- the code of functions, one after another
abbrev pub functions_code : Form → (page : ℕ) → List (Function ℕ) → List Part
functions_code form page [] = []
functions_code form page (first ∷ more) = function_code form page first ++ functions_code form page more

-- where the functions begin: behind the end service and the table
abbrev pub functions_start : Program → ℕ
functions_start program = table_word (length program.functions)

-- the code of the functions that aren't marked `cilk`, which is the same in both builds
abbrev pub serial_code : Program → (page : ℕ) → List Part
serial_code program page = functions_code Serial page (marked false program.functions)

-- the address behind it
abbrev pub serial_end : Program → (page : ℕ) → ℕ
serial_end program page = functions_start program + 4 * length (serial_code program page)

-- the instructions of these functions, from `functions_start` on; no build is named
abbrev pub serial_part : Program → (page : ℕ) → List Operation
serial_part program page = laid (functions_start program) (serial_code program page)

-- the addresses of functions, where the next one that isn't marked `cilk` and the next one that is stand at these
abbrev pub entries_from : Form → (page : ℕ) → (serial cilk : ℕ) → List (Function ℕ) → List ℕ
entries_from form page serial cilk [] = []
entries_from form page serial cilk (first ∷ more) =
    if first.cilk then cilk ∷ entries_from form page serial (cilk + 4 * length (function_code form page first)) more
    else serial ∷ entries_from form page (serial + 4 * length (function_code form page first)) cilk more

-- The functions end within 2 ^ 20 bytes where the next ones stand at these addresses, of whole words.
abbrev pub HaveRoom : Form → (page : ℕ) → (serial cilk : ℕ) → List (Function ℕ) → Type 0
HaveRoom form page serial cilk functions =
    (serial + 4 * length (functions_code form page (marked false functions)) < 2 ^ 20) × (cilk + 4 * length (functions_code form page (marked true functions)) < 2 ^ 20)
    × (serial % 4 ≡ 0) × (cilk % 4 ≡ 0)

-- the addresses of all functions
abbrev pub entries : Program → Form → (page : ℕ) → List ℕ
entries program form page = entries_from form page (functions_start program) (serial_end program page) program.functions

-- the frame words of all functions
abbrev pub frames : Program → List ℕ
frames program = map frame_words program.functions

-- the slots of the parameters of all functions
abbrev pub parameters : Program → List (List Slot)
parameters program = map parameter_slots program.functions

-- the table from an address on: a jump to each function
abbrev pub table_from : (address : ℕ) → (entries : List ℕ) → List Operation
table_from address [] = []
table_from address (first ∷ more) = jal reg.ZERO (pos first -ℤ pos address) ∷ table_from (address + 4) more

-- the code of all functions, in the order of the image
abbrev pub program_code : Program → Form → (page : ℕ) → List Part
program_code program form page = functions_code form page (marked false program.functions) ++ functions_code form page (marked true program.functions)

-- the instructions before the functions
abbrev pub front_of : Program → Form → (page : ℕ) → List Operation
front_of program form page = service (pos 0) ++ table_from (table_word 0) (entries program form page)

-- the image of a program
abbrev pub image_of : Program → Form → (page : ℕ) → List Operation
image_of program form page = front_of program form page ++ laid (functions_start program) (program_code program form page)
