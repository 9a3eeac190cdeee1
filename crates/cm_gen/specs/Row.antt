-- Statements and programs with their code, worked out by hand, so that the definitions can be held against them.
use Rattle.std.specs.Prelude.{ℕ, Bool, true, false, pos, Option, None, Some, List, [], ◌∷◌, ◌++◌}
use Rattle.cm_isa.specs.Bits.{minus}
use Rattle.cm_isa.specs.Operation.{Operation, ecall}
use Rattle.cm_syntax.specs.declared.expr.Mark.{Mark}
use Rattle.cm_syntax.specs.declared.expr.Op.{Op}
use Rattle.cm_syntax.specs.declared.expr.Op.TheVariants as op
use Rattle.cm_syntax.specs.declared.expr.Expr.{Expr}
use Rattle.cm_syntax.specs.declared.expr.Expr.TheVariants as expression
use Rattle.cm_syntax.specs.declared.expr.Arg.{Arg}
use Rattle.cm_syntax.specs.declared.expr.Arg.TheVariants as argument
use Rattle.cm_syntax.specs.declared.expr.Call.{Call}
use Rattle.cm_syntax.specs.declared.stmt.Slot.{Slot}
use Rattle.cm_syntax.specs.declared.stmt.Slot.TheVariants as slot
use Rattle.cm_syntax.specs.declared.stmt.Item as items
use Rattle.cm_syntax.specs.declared.stmt.Target.TheVariants as target
use Rattle.cm_syntax.specs.declared.stmt.Stmt.{Stmt}
use Rattle.cm_syntax.specs.declared.stmt.Stmt.TheVariants as statement
use Rattle.cm_syntax.specs.declared.stmt.Function.{Function}
use Rattle.cm_syntax.specs.declared.stmt.Program.{Program}
use Rattle.cm_syntax.specs.Shape.{Joined, IfAlone, IfElse, WhileLoop, ForLoop}
use Rattle.cm_gen.specs.Assembler.{lui, addi, add, sub, slli, slt, sltu, lw, sw, jal, jalr, bne, bltu, bgeu}
use Rattle.cm_gen.specs.Part.{Part, call, straight}

-- ---- frames

-- `int x, a[10]`, a slice s and its parts l and r, and `int y`: at -12, -52, -60, -68, -76 and -80; the first temporary
-- is at -84
abbrev pub near_slots : List Slot
near_slots = slot.Scalar ∷ slot.Array 10 ∷ slot.Slice ∷ slot.Slice ∷ slot.Slice ∷ slot.Scalar ∷ []

abbrev pub x : ℕ
x = 0

abbrev pub a : ℕ
a = 1

abbrev pub s : ℕ
s = 2

abbrev pub l : ℕ
l = 3

abbrev pub r : ℕ
r = 4

abbrev pub y : ℕ
y = 5

-- `int b[1000]` and `int z`: at -4008 and -4012
abbrev pub far_slots : List Slot
far_slots = slot.Array 1000 ∷ slot.Scalar ∷ []

abbrev pub b : ℕ
b = 0

abbrev pub z : ℕ
z = 1

-- ---- parts of programs

-- a mention of a slot or a function; offsets don't matter here
abbrev pub mark : ℕ → Mark ℕ
mark n = record { name = n; at = 0 }

-- a literal, and a scalar
abbrev pub number : ℕ → Expr ℕ
number n = expression.Number (pos n)

abbrev pub value : (x : ℕ) → Expr ℕ
value x = expression.Scalar (mark x)

-- a call
abbrev pub call_of : (f : ℕ) → List (Arg ℕ) → Call ℕ
call_of f arguments = record { function = mark f; arguments = arguments }

-- an item of a declaration
abbrev pub item_of : (x : ℕ) → Slot → Option (Expr ℕ) → items.Item ℕ
item_of x kind first = record { name = mark x; slot = kind; first = first }

-- assignments to a scalar and to an element
abbrev pub assign : (x : ℕ) → Option Op → Expr ℕ → Stmt ℕ
assign x o e = statement.Assign (target.Scalar (mark x)) o e

abbrev pub assign_element : (a : ℕ) → (index : Expr ℕ) → Option Op → Expr ℕ → Stmt ℕ
assign_element a index o e = statement.Assign (target.Index (mark a) index) o e

-- `return e;` and `return;`
abbrev pub give : Expr ℕ → Stmt ℕ
give e = statement.Return 0 (Some e)

abbrev pub leave_alone : Stmt ℕ
leave_alone = statement.Return 0 None

-- a function without parameters
abbrev pub function_of : (cilk : Bool) → List Slot → List (Stmt ℕ) → Function ℕ
function_of cilk slots body = record { name = mark 0; cilk = cilk; gives = true; parameters = []; body = body; slots = slots }

abbrev pub program_of : List (Function ℕ) → Program
program_of functions = record { functions = functions; main = 0 }

-- ---- statements and their code

-- a service
abbrev pub serve : ℕ → List Operation
serve n = addi 31 0 (pos n) ∷ ecall ∷ []

-- a tick
abbrev pub ticking : List Operation
ticking = bne 4 0 (pos 12) ∷ addi 31 0 (pos 6) ∷ ecall ∷ addi 4 4 (minus 1) ∷ []

-- `for (x = 0; x < 3; x++) print(x);`
abbrev pub counting : Stmt ℕ
counting = ForLoop (assign x None (number 0)) (Some (Joined op.Lt (value x) (number 3))) (assign x (Some op.Add) (number 1)) (statement.Print (value x))

abbrev pub counting_code : List Operation
counting_code =
    addi 5 0 (pos 0) ∷ sw 5 8 (minus 12)
    ∷ lw 5 8 (minus 12) ∷ sw 5 8 (minus 84) ∷ addi 5 0 (pos 3) ∷ lw 6 8 (minus 84) ∷ slt 5 6 5
    ∷ bne 5 0 (pos 8) ∷ jal 0 (pos 68) ∷ (ticking
    ++ (lw 5 8 (minus 12) ∷ (ticking ++ (addi 31 0 (pos 1) ∷ ecall
    ∷ addi 5 0 (pos 1) ∷ lw 6 8 (minus 12) ∷ add 5 6 5 ∷ sw 5 8 (minus 12)
    ∷ jal 0 (minus 88) ∷ []))))

-- `for (;;) ;`
abbrev pub endless : Stmt ℕ
endless = ForLoop statement.Empty None statement.Empty statement.Empty

-- `while (y) if (x) return y; else return;` with five words between it and the exit
abbrev pub leaving : Stmt ℕ
leaving = WhileLoop (value y) (IfElse (value x) (give (value y)) leave_alone)

abbrev pub leaving_code : List Operation
leaving_code =
    lw 5 8 (minus 80) ∷ bne 5 0 (pos 8) ∷ jal 0 (pos 52) ∷ (ticking
    ++ (lw 5 8 (minus 12) ∷ bne 5 0 (pos 8) ∷ jal 0 (pos 16)
    ∷ lw 5 8 (minus 80) ∷ jal 0 (pos 36) ∷ jal 0 (pos 8)
    ∷ jal 0 (pos 28)
    ∷ jal 0 (minus 56) ∷ []))

-- `if (x && y) x = 1;`
abbrev pub both_tested : Stmt ℕ
both_tested = IfAlone (Joined op.Both (value x) (value y)) (assign x None (number 1))

abbrev pub both_tested_code : List Operation
both_tested_code =
    lw 5 8 (minus 12) ∷ bne 5 0 (pos 8) ∷ jal 0 (pos 8) ∷ lw 5 8 (minus 80) ∷ sltu 5 0 5
    ∷ bne 5 0 (pos 8) ∷ jal 0 (pos 12) ∷ addi 5 0 (pos 1) ∷ sw 5 8 (minus 12) ∷ []

-- `split s at 2 as l, r { sync; }`
abbrev pub parting : Stmt ℕ
parting = statement.Split (mark s) (number 2) (mark l) (mark r) (statement.Sync 0 ∷ []) 0

abbrev pub parting_code : List Operation
parting_code =
    addi 5 0 (pos 2) ∷ lw 6 8 (minus 60) ∷ lw 7 8 (minus 56) ∷ bgeu 7 5 (pos 12) ∷ addi 31 0 (pos 8) ∷ ecall
    ∷ sub 9 7 5 ∷ sw 6 8 (minus 68) ∷ sw 5 8 (minus 64) ∷ slli 5 5 (pos 2) ∷ add 5 6 5 ∷ sw 5 8 (minus 76) ∷ sw 9 8 (minus 72) ∷ []

-- `a[x] += f(x);`
abbrev pub adding : Stmt ℕ
adding = assign_element a (value x) (Some op.Add) (expression.Call (call_of 3 (argument.Value (value x) ∷ [])))

abbrev pub adding_code : List Part
adding_code =
    straight (lw 5 8 (minus 12) ∷ addi 6 8 (minus 52) ∷ addi 7 0 (pos 10) ∷ bltu 5 7 (pos 12) ∷ addi 31 0 (pos 8) ∷ ecall
    ∷ slli 5 5 (pos 2) ∷ add 5 5 6 ∷ sw 5 8 (minus 84)
    ∷ lw 5 8 (minus 12) ∷ sw 5 8 (minus 88) ∷ lw 10 8 (minus 88) ∷ [])
    ++ call 3 ∷ straight (addi 5 10 (pos 0)
    ∷ lw 7 8 (minus 84) ∷ lw 6 7 (pos 0) ∷ add 5 6 5 ∷ sw 5 7 (pos 0) ∷ [])

-- `a[0] = 1;`
abbrev pub writing : Stmt ℕ
writing = assign_element a (number 0) None (number 1)

abbrev pub writing_code : List Operation
writing_code =
    addi 5 0 (pos 0) ∷ addi 6 8 (minus 52) ∷ addi 7 0 (pos 10) ∷ bltu 5 7 (pos 12) ∷ addi 31 0 (pos 8) ∷ ecall
    ∷ slli 5 5 (pos 2) ∷ add 5 5 6 ∷ sw 5 8 (minus 84) ∷ addi 5 0 (pos 1) ∷ lw 6 8 (minus 84) ∷ sw 5 6 (pos 0) ∷ []

-- `int x, y = 2, a[10];`
abbrev pub declaring : Stmt ℕ
declaring = statement.Declare (item_of x slot.Scalar None ∷ item_of y slot.Scalar (Some (number 2)) ∷ item_of a (slot.Array 10) None ∷ [])

abbrev pub declaring_code : List Operation
declaring_code =
    sw 0 8 (minus 12) ∷ addi 5 0 (pos 2) ∷ sw 5 8 (minus 80)
    ∷ addi 5 8 (minus 52) ∷ addi 6 8 (minus 12) ∷ sw 0 5 (pos 0) ∷ addi 5 5 (pos 4) ∷ bltu 5 6 (minus 8) ∷ []

-- `int b[1000];` and `z += 3000;` with slots and a number that are far
abbrev pub far_declaring : Stmt ℕ
far_declaring = statement.Declare (item_of b (slot.Array 1000) None ∷ [])

abbrev pub far_declaring_code : List Operation
far_declaring_code =
    lui 5 (minus 4096) ∷ addi 5 5 (pos 88) ∷ add 5 5 8 ∷ addi 6 8 (minus 8) ∷ sw 0 5 (pos 0) ∷ addi 5 5 (pos 4) ∷ bltu 5 6 (minus 8) ∷ []

abbrev pub far_adding : Stmt ℕ
far_adding = assign z (Some op.Add) (number 3000)

abbrev pub far_adding_code : List Operation
far_adding_code =
    lui 5 (pos 4096) ∷ addi 5 5 (minus 1096) ∷ lui 6 (minus 4096) ∷ add 6 6 8 ∷ lw 6 6 (pos 84) ∷ add 5 6 5
    ∷ lui 7 (minus 4096) ∷ add 7 7 8 ∷ sw 5 7 (pos 84) ∷ []

-- `x = spawn f(s, &y, 7);` and `spawn f();`
abbrev pub spawning : Stmt ℕ
spawning = statement.Spawn 0 (Some (mark x)) (call_of 1 (argument.Slice (mark s) ∷ argument.Address (mark y) ∷ argument.Value (number 7) ∷ []))

-- the code of the arguments
abbrev pub spawning_front : List Operation
spawning_front =
    lw 6 8 (minus 60) ∷ lw 7 8 (minus 56) ∷ addi 5 7 (pos 0) ∷ sw 6 8 (minus 84) ∷ sw 5 8 (minus 88)
    ∷ addi 6 8 (minus 80) ∷ sw 6 8 (minus 92) ∷ addi 5 0 (pos 1) ∷ sw 5 8 (minus 96)
    ∷ addi 5 0 (pos 7) ∷ sw 5 8 (minus 100)
    ∷ lw 10 8 (minus 84) ∷ lw 11 8 (minus 88) ∷ lw 12 8 (minus 92) ∷ lw 13 8 (minus 96) ∷ lw 14 8 (minus 100) ∷ []

abbrev pub spawning_alone : Stmt ℕ
spawning_alone = statement.Spawn 0 None (call_of 1 [])

-- ---- programs

-- `int main() { return 14; }`
abbrev pub fourteen : Program
fourteen = program_of (function_of false [] (give (number 14) ∷ []) ∷ [])

-- its 29 words
abbrev pub fourteen_words : List ℕ
fourteen_words =
    0x00000f93 ∷ 0x00000073 ∷ 0x0040006f ∷ 0x00021663 ∷ 0x00600f93 ∷ 0x00000073 ∷ 0xfff20213 ∷ 0x01000393 ∷ 0x0071f663 ∷ 0x00900f93
    ∷ 0x00000073 ∷ 0x407181b3 ∷ 0x01000393 ∷ 0x40710133 ∷ 0x00012023 ∷ 0x007103b3 ∷ 0xfe13ae23 ∷ 0xfe83ac23 ∷ 0x00038413 ∷ 0x00e00293
    ∷ 0x0080006f ∷ 0x00000293 ∷ 0x01000393 ∷ 0x007181b3 ∷ 0x00028513 ∷ 0xffc42083 ∷ 0x00040113 ∷ 0xff842403 ∷ 0x00008067 ∷ []

-- `cilk int main() { spawn g(); return 1; } int g() { return 14; }`
abbrev pub spawning_main : Function ℕ
spawning_main = function_of true [] (statement.Spawn 0 None (call_of 1 []) ∷ give (number 1) ∷ [])

abbrev pub two_functions : Program
two_functions = program_of (spawning_main ∷ function_of false [] (give (number 14) ∷ []) ∷ [])

-- main's code in the serial and in the Cilk build, with pages of 4,096 bytes
abbrev pub spawning_entry : List Operation
spawning_entry =
    ticking ++ (lui 7 (pos 4096) ∷ addi 7 7 (pos 16) ∷ bgeu 3 7 (pos 12) ∷ addi 31 0 (pos 9) ∷ ecall ∷ sub 3 3 7
    ∷ addi 7 0 (pos 16) ∷ sub 2 2 7 ∷ sw 0 2 (pos 0) ∷ add 7 2 7 ∷ sw 1 7 (minus 4) ∷ sw 8 7 (minus 8) ∷ addi 8 7 (pos 0) ∷ [])

abbrev pub spawning_exit : List Operation
spawning_exit =
    lui 7 (pos 4096) ∷ addi 7 7 (pos 16) ∷ add 3 3 7 ∷ addi 10 5 (pos 0) ∷ lw 1 8 (minus 4) ∷ addi 2 8 (pos 0) ∷ lw 8 8 (minus 8) ∷ jalr 0 1 (pos 0) ∷ []

abbrev pub spawning_serial : List Part
spawning_serial =
    straight spawning_entry ++ (call 1 ∷ straight (addi 5 0 (pos 1) ∷ jal 0 (pos 8) ∷ addi 5 0 (pos 0) ∷ spawning_exit))

abbrev pub spawning_cilk : List Operation
spawning_cilk =
    spawning_entry ++ (addi 5 0 (pos 12) ∷ addi 6 0 (pos 0) ∷ addi 31 0 (pos 4) ∷ ecall
    ∷ addi 5 0 (pos 1) ∷ jal 0 (pos 8) ∷ addi 5 0 (pos 0) ∷ addi 31 0 (pos 5) ∷ ecall ∷ spawning_exit)
