-- The large source and the input of a seed and a size.
use Rattle.std.specs.Prelude.{ℕ, zero, suc, ◌+◌, ◌*◌, ◌%◌, ℤ, pos, List, [], ◌∷◌, ◌++◌, codes}
use Rattle.std.specs.Fmt.{decimal}
use Rattle.cm_big.specs.Draw.{draw, value_after}

-- what there is for each index below a count, one behind the other
abbrev pub each : {A : Type 0} → ℕ → (ℕ → List A) → List A
each zero part = []
each (suc count) part = each count part ++ part count

-- a function, by its index, its factor and its summand
abbrev pub function_line : ℕ → ℕ → ℕ → List ℕ
function_line index factor summand =
    codes "int f" ++ (decimal index ++ (codes "(int x) { return x * " ++ (decimal factor ++ (codes " + " ++ (decimal summand ++ codes "; }\n")))))

-- the functions, each with two draws behind a value
abbrev pub function_lines : ℕ → ℕ → List ℕ
function_lines value size = each size (λ index. function_line index (draw (2 * index) value % 100) (draw (2 * index + 1) value % 100))

-- the call of a function
abbrev pub call_line : ℕ → List ℕ
call_line index = codes "s = s + f" ++ decimal index ++ codes "(x);\n"

-- the calls
abbrev pub call_lines : ℕ → List ℕ
call_lines size = each size call_line

-- the source
abbrev pub source_of : ℕ → ℕ → List ℕ
source_of seed size = function_lines seed size
    ++ codes "int pick(int x) {\nint s;\n"
    ++ call_lines size
    ++ codes "return s;\n}\ncilk int work(int a[]) {\nint x, y;\nif (len(a) == 1) return pick(a[0]);\nsplit a at len(a) / 2 as l, r {\nx = spawn work(l);\ny = spawn work(r);\nsync;\n}\nreturn x + y;\n}\ncilk int main() {\nint a["
    ++ decimal (10 * size)
    ++ codes "];\nint i, v;\nfor (i = 0; i < inputs(); i++) a[i] = input(i);\nv = spawn work(a);\nsync;\nreturn v;\n}\n"

-- so many numbers behind a value
abbrev pub numbers_from : ℕ → ℕ → List ℤ
numbers_from value count = each count (λ index. pos (draw index value % 1000) ∷ [])

-- the input: ten times as many numbers as the size, behind the draws of the functions
abbrev pub numbers_of : ℕ → ℕ → List ℤ
numbers_of seed size = numbers_from (value_after (2 * size) seed) (10 * size)
