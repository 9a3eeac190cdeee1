-- Tables by number, their sums, and their least entry of a kind.
use Rattle.std.specs.Prelude.{ℕ, zero, suc, ◌+◌, Bool, ◌==◌, if◌then◌else◌, Option, Some, None, List, [], ◌∷◌}

-- the table with this entry at this number, and as before elsewhere
abbrev pub put : {A : Type 0} → (ℕ → A) → ℕ → A → ℕ → A
put table n x m = if m == n then x else table m

-- the sum of the first so many entries
abbrev pub total : ℕ → (ℕ → ℕ) → ℕ
total zero f = 0
total (suc n) f = total n f + f n

-- the least number below the second one at which the test is true, where there is one
abbrev pub least : (ℕ → Bool) → ℕ → Option ℕ
least test zero = None
least test (suc n) = elim (least test n) [ Some m ↦ Some m | None ↦ (if test n then Some n else None) ]

-- the weight of these pages, where each has one
abbrev pub weigh : (ℕ → ℕ) → List ℕ → ℕ
weigh h [] = 0
weigh h (page ∷ pages) = h page + weigh h pages
