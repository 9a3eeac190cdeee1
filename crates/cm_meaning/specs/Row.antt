-- Programs worked out by hand, so that the definitions can be held against them.
use Rattle.std.specs.Prelude.{ℕ, Bool, true, false, ℤ, pos, neg_ℤ, Option, None, Some, List, [], ◌∷◌}
use Rattle.cm_syntax.specs.declared.expr.Mark.{Mark}
use Rattle.cm_syntax.specs.declared.expr.Op.{Op}
use Rattle.cm_syntax.specs.declared.expr.Op.TheVariants as op
use Rattle.cm_syntax.specs.declared.expr.Expr.{Expr}
use Rattle.cm_syntax.specs.declared.expr.Expr.TheVariants as expression
use Rattle.cm_syntax.specs.declared.expr.Arg.{Arg}
use Rattle.cm_syntax.specs.declared.expr.Arg.TheVariants as arg
use Rattle.cm_syntax.specs.declared.expr.Call.{Call}
use Rattle.cm_syntax.specs.declared.stmt.Slot.{Slot}
use Rattle.cm_syntax.specs.declared.stmt.Slot.TheVariants as slot
use Rattle.cm_syntax.specs.declared.stmt.Item as items
use Rattle.cm_syntax.specs.declared.stmt.Target.TheVariants as target
use Rattle.cm_syntax.specs.declared.stmt.Stmt.{Stmt}
use Rattle.cm_syntax.specs.declared.stmt.Stmt.TheVariants as statement
use Rattle.cm_syntax.specs.declared.stmt.Function.{Function}
use Rattle.cm_syntax.specs.declared.stmt.Program.{Program}
use Rattle.cm_syntax.specs.Shape.{Joined, Element, InputAt, IfAlone, ForLoop}
use Rattle.cm_meaning.specs.Meaning.{Limits}

-- ---- parts of programs

-- a negative whole number
abbrev pub minus : ℕ → ℤ
minus n = neg_ℤ (pos n)

-- a mention of a variable's slot or a function's index; offsets don't matter here
abbrev pub mark : ℕ → Mark ℕ
mark n = record { name = n; at = 0 }

-- a literal, a scalar, an array's element at a literal
abbrev pub number : ℕ → Expr ℕ
number n = expression.Number (pos n)

abbrev pub variable : ℕ → Expr ℕ
variable x = expression.Scalar (mark x)

abbrev pub element_of : (a index : ℕ) → Expr ℕ
element_of a i = Element (mark a) (number i)

-- `l / r` and so on
abbrev pub joined : Op → Expr ℕ → Expr ℕ → Expr ℕ
joined o l r = Joined o l r

-- `1 / 0`
abbrev pub division_by_zero : Expr ℕ
division_by_zero = Joined op.Div (number 1) (number 0)

-- a call of a function with its arguments
abbrev pub call_of : (f : ℕ) → List (Arg ℕ) → Call ℕ
call_of f arguments = record { function = mark f; arguments = arguments }

abbrev pub called_value : (f : ℕ) → List (Arg ℕ) → Expr ℕ
called_value f arguments = expression.Call (call_of f arguments)

-- a variable that is declared, or a parameter
abbrev pub item_of : (x : ℕ) → Slot → items.Item ℕ
item_of x s = record { name = mark x; slot = s; first = None }

-- `int x;` and `int a[n];`
abbrev pub declare_scalar : (x : ℕ) → Stmt ℕ
declare_scalar x = statement.Declare (item_of x slot.Scalar ∷ [])

abbrev pub declare_array : (a count : ℕ) → Stmt ℕ
declare_array a n = statement.Declare (item_of a (slot.Array n) ∷ [])

-- `x = e;`, `x op= e;`, `a[i] = e;`, `a[i] op= e;`
abbrev pub assign_scalar : (x : ℕ) → Option Op → Expr ℕ → Stmt ℕ
assign_scalar x o e = statement.Assign (target.Scalar (mark x)) o e

abbrev pub assign_element : (a index : ℕ) → Option Op → Expr ℕ → Stmt ℕ
assign_element a i o e = statement.Assign (target.Index (mark a) (number i)) o e

-- `return e;`
abbrev pub give_back : Expr ℕ → Stmt ℕ
give_back e = statement.Return 0 (Some e)

-- `for (x = 0; x < turns; x++) ;`
abbrev pub count_up : (x turns : ℕ) → Stmt ℕ
count_up x n = ForLoop (assign_scalar x None (number 0)) (Some (Joined op.Lt (variable x) (number n)))
    (assign_scalar x (Some op.Add) (number 1)) statement.Empty

-- a function that gives a value, with its slots and the statements of its body
abbrev pub int_function : (cilk : Bool) → List Slot → (parameters : List (items.Item ℕ)) → List (Stmt ℕ) → Function ℕ
int_function cilk slots parameters body =
    record { name = mark 0; cilk = cilk; gives = true; parameters = parameters; body = body; slots = slots }

-- a function marked `cilk` that gives none
abbrev pub cilk_procedure : List Slot → List (Stmt ℕ) → Function ℕ
cilk_procedure slots body = record { name = mark 0; cilk = true; gives = false; parameters = []; body = body; slots = slots }

-- a program whose first function is main
abbrev pub program_of : List (Function ℕ) → Program
program_of functions = record { functions = functions; main = 0 }

-- ---- programs

-- `int main() { return e; }`
abbrev pub returns_value : Expr ℕ → Program
returns_value e = program_of (int_function false [] [] (give_back e ∷ []) ∷ [])

-- `int main() { return 2 + 3 * 4; }`
abbrev pub sum_and_product : Program
sum_and_product = returns_value (Joined op.Add (number 2) (Joined op.Mul (number 3) (number 4)))

-- `int main() { int i; for (i = 0; i < 3; i++) ; return i; }`
abbrev pub three_turns : Program
three_turns =
    program_of (int_function false (slot.Scalar ∷ []) [] (declare_scalar 0 ∷ count_up 0 3 ∷ give_back (variable 0) ∷ []) ∷ [])

-- `int main() { for (;;) ; return 0; }`
abbrev pub endless : Program
endless =
    program_of (int_function false [] [] (ForLoop statement.Empty None statement.Empty statement.Empty ∷ give_back (number 0) ∷ []) ∷ [])

-- `int main() { int a[2]; return a[n]; }`
abbrev pub reads_element : (n : ℕ) → Program
reads_element n = program_of (int_function false (slot.Array 2 ∷ []) [] (declare_array 0 2 ∷ give_back (element_of 0 n) ∷ []) ∷ [])

-- `int main() { int a[2]; split a at e as l, r { return len(l) * 10 + len(r); } }`
abbrev pub splits_at : Expr ℕ → Program
splits_at e = program_of (int_function false (slot.Array 2 ∷ slot.Slice ∷ slot.Slice ∷ []) [] (declare_array 0 2
    ∷ statement.Split (mark 0) e (mark 1) (mark 2)
    (give_back (Joined op.Add (Joined op.Mul (expression.Len (mark 1)) (number 10)) (expression.Len (mark 2))) ∷ []) 0 ∷ []) ∷ [])

-- `int main() { int a[3]; split a at 1 as l, r { r[1] = 7; l[0] = 2; } return a[2] * 10 + a[0]; }`
abbrev pub writes_parts : Program
writes_parts = program_of (int_function false (slot.Array 3 ∷ slot.Slice ∷ slot.Slice ∷ []) [] (declare_array 0 3
    ∷ statement.Split (mark 0) (number 1) (mark 1) (mark 2) (assign_element 2 1 None (number 7) ∷ assign_element 1 0 None (number 2) ∷ []) 0
    ∷ give_back (Joined op.Add (Joined op.Mul (element_of 0 2) (number 10)) (element_of 0 0)) ∷ []) ∷ [])

-- `int main() { int a[2]; a[9] = 1 / 0; return 0; }`
abbrev pub writes_outside : Program
writes_outside = program_of (int_function false (slot.Array 2 ∷ []) [] (declare_array 0 2
    ∷ assign_element 0 9 None division_by_zero ∷ give_back (number 0) ∷ []) ∷ [])

-- `int main() { int a[2]; a[len(a)] = f(); return 0; } int f() { return 1; }`
abbrev pub writes_at_length : Program
writes_at_length = program_of (int_function false (slot.Array 2 ∷ []) [] (declare_array 0 2
    ∷ statement.Assign (target.Index (mark 0) (expression.Len (mark 0))) None (called_value 1 []) ∷ give_back (number 0) ∷ [])
    ∷ int_function false [] [] (give_back (number 1) ∷ []) ∷ [])

-- `int f(int p[]) { p[0] = 10; return 1; }`
abbrev pub sets_ten : Function ℕ
sets_ten =
    int_function false (slot.Slice ∷ []) (item_of 0 slot.Slice ∷ []) (assign_element 0 0 None (number 10) ∷ give_back (number 1) ∷ [])

-- `int main() { int a[1]; a[0] = 5; a[0] += f(a); return a[0]; }` with this f
abbrev pub updates_element : Program
updates_element = program_of (int_function false (slot.Array 1 ∷ []) [] (declare_array 0 1 ∷ assign_element 0 0 None (number 5)
    ∷ assign_element 0 0 (Some op.Add) (called_value 1 (arg.Slice (mark 0) ∷ [])) ∷ give_back (element_of 0 0) ∷ [])
    ∷ sets_ten ∷ [])

-- `int f(int n) { if (n == 0) return 0; return f(n - 1); }`
abbrev pub descends : Function ℕ
descends = int_function false (slot.Scalar ∷ []) (item_of 0 slot.Scalar ∷ [])
    (IfAlone (Joined op.Eq (variable 0) (number 0)) (give_back (number 0))
    ∷ give_back (called_value 1 (arg.Value (Joined op.Sub (variable 0) (number 1)) ∷ [])) ∷ [])

-- `int main() { return f(n); }` with this f: n + 2 frames of 16 bytes each
abbrev pub deep_calls : (n : ℕ) → Program
deep_calls n = program_of (int_function false [] [] (give_back (called_value 1 (arg.Value (number n) ∷ [])) ∷ []) ∷ descends ∷ [])

-- `cilk int main() { int x, y; x = spawn f(&y, 4); sync; return x * 10 + y; } int f(int *p, int n) { *p = 3; return n; }`
abbrev pub spawns_once : Program
spawns_once = program_of (int_function true (slot.Scalar ∷ slot.Scalar ∷ []) [] (declare_scalar 0 ∷ declare_scalar 1
    ∷ statement.Spawn 0 (Some (mark 0)) (call_of 1 (arg.Address (mark 1) ∷ arg.Value (number 4) ∷ [])) ∷ statement.Sync 0
    ∷ give_back (Joined op.Add (Joined op.Mul (variable 0) (number 10)) (variable 1)) ∷ [])
    ∷ int_function false (slot.Slice ∷ slot.Scalar ∷ []) (item_of 0 slot.Slice ∷ item_of 1 slot.Scalar ∷ [])
    (assign_element 0 0 None (number 3) ∷ give_back (variable 1) ∷ []) ∷ [])

-- `cilk int main() { return 0; }`: a frame of 16 bytes and a page
abbrev pub cilk_main : Program
cilk_main = program_of (int_function true [] [] (give_back (number 0) ∷ []) ∷ [])

-- a main with a slot that is read and never declared
abbrev pub reads_unset : Program
reads_unset = program_of (int_function false (slot.Scalar ∷ []) [] (give_back (variable 0) ∷ []) ∷ [])

-- `int main() { print(n); return 0; }`
abbrev pub prints_number : (n : ℕ) → Program
prints_number n = program_of (int_function false [] [] (statement.Print (number n) ∷ give_back (number 0) ∷ []) ∷ [])

-- `cilk void loop() { int i; for (i = 0; i < 10; i++) ; } cilk int main() { spawn loop(); return 1 / 0; }`
abbrev pub loop_beside_trap : Program
loop_beside_trap = program_of (int_function true [] [] (statement.Spawn 0 None (call_of 1 []) ∷ give_back division_by_zero ∷ [])
    ∷ cilk_procedure (slot.Scalar ∷ []) (declare_scalar 0 ∷ count_up 0 10 ∷ []) ∷ [])

-- `cilk int main() { spawn slow(); spawn quick(); return 0; }`: slow takes three turns and traps `divide`, quick traps
-- `input` at once
abbrev pub two_traps : Program
two_traps = program_of (int_function true [] []
    (statement.Spawn 0 None (call_of 1 []) ∷ statement.Spawn 0 None (call_of 2 []) ∷ give_back (number 0) ∷ [])
    ∷ int_function false (slot.Scalar ∷ []) [] (declare_scalar 0 ∷ count_up 0 3 ∷ give_back division_by_zero ∷ [])
    ∷ int_function false [] [] (give_back (InputAt (number 0)) ∷ []) ∷ [])

-- `cilk int main() { spawn f(); spawn f(); return 0; } int f() { return 0; }`
abbrev pub spawns_twice : Program
spawns_twice = program_of (int_function true [] []
    (statement.Spawn 0 None (call_of 1 []) ∷ statement.Spawn 0 None (call_of 1 []) ∷ give_back (number 0) ∷ [])
    ∷ int_function false [] [] (give_back (number 0) ∷ []) ∷ [])

-- `cilk int main() { int x; x = spawn f(4); sync; return x; } int f(int n) { return n; }`
abbrev pub spawns_and_syncs : Program
spawns_and_syncs = program_of (int_function true (slot.Scalar ∷ []) []
    (declare_scalar 0 ∷ statement.Spawn 0 (Some (mark 0)) (call_of 1 (arg.Value (number 4) ∷ []))
    ∷ statement.Sync 0 ∷ give_back (variable 0) ∷ [])
    ∷ int_function false (slot.Scalar ∷ []) (item_of 0 slot.Scalar ∷ []) (give_back (variable 0) ∷ []) ∷ [])

-- the same without the `sync`: `cilk int main() { int x; x = spawn f(4); return x; } int f(int n) { return n; }`
abbrev pub returns_awaited : Program
returns_awaited = program_of (int_function true (slot.Scalar ∷ []) []
    (declare_scalar 0 ∷ statement.Spawn 0 (Some (mark 0)) (call_of 1 (arg.Value (number 4) ∷ [])) ∷ give_back (variable 0) ∷ [])
    ∷ int_function false (slot.Scalar ∷ []) (item_of 0 slot.Scalar ∷ []) (give_back (variable 0) ∷ []) ∷ [])

-- `cilk int main() { return f(); } cilk int f() { return g(); } cilk int g() { return 0; }`
abbrev pub three_cilk_calls : Program
three_cilk_calls = program_of (int_function true [] [] (give_back (called_value 1 []) ∷ [])
    ∷ int_function true [] [] (give_back (called_value 2 []) ∷ []) ∷ int_function true [] [] (give_back (number 0) ∷ []) ∷ [])

-- `cilk void child() { print(2); } cilk int main() { print(1); spawn child(); print(3); sync; print(4); }`
abbrev pub prints_in_order : Program
prints_in_order = program_of (int_function true [] [] (statement.Print (number 1) ∷ statement.Spawn 0 None (call_of 1 [])
    ∷ statement.Print (number 3) ∷ statement.Sync 0 ∷ statement.Print (number 4) ∷ [])
    ∷ cilk_procedure [] (statement.Print (number 2) ∷ []) ∷ [])

-- `cilk void child(int i) { int a[1]; print(7); a[i] = 0; } cilk int main() { spawn child(1); print(8); sync; }`
abbrev pub traps_behind_print : Program
traps_behind_print = program_of (int_function true [] []
    (statement.Spawn 0 None (call_of 1 (arg.Value (number 1) ∷ [])) ∷ statement.Print (number 8) ∷ statement.Sync 0 ∷ [])
    ∷ record {
      name = mark 0;
      cilk = true;
      gives = false;
      parameters = item_of 0 slot.Scalar ∷ [];
      body = declare_array 1 1 ∷ statement.Print (number 7) ∷ statement.Assign (target.Index (mark 1) (variable 0)) None (number 0) ∷ [];
      slots = slot.Scalar ∷ slot.Array 1 ∷ [];
    } ∷ [])

-- ---- limits

-- so many ticks and a stack of 16 pages of 256 bytes
abbrev pub with_ticks : ℕ → Limits
with_ticks n = record { ticks = n; stack = 16; page = 256 }

-- 100 ticks and a stack of so many bytes
abbrev pub with_bytes : ℕ → Limits
with_bytes n = record { ticks = 100; stack = 1; page = n }

-- so many ticks and a stack of so many bytes
abbrev pub ticks_and_bytes : (ticks bytes : ℕ) → Limits
ticks_and_bytes n m = record { ticks = n; stack = 1; page = m }

-- 100 ticks and a stack of two pages of 64 bytes
abbrev pub two_pages : Limits
two_pages = record { ticks = 100; stack = 2; page = 64 }
