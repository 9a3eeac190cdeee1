-- The table of the functions of a tree.
use Rattle.std.specs.Prelude.{◌≡◌, ℕ, List, position}
use Rattle.indexmap.specs.IndexMap.{IndexMap, get}
use Rattle.cm_syntax.specs.declared.name.Name.{Name}
use Rattle.cm_syntax.specs.declared.stmt.Function.{Function}
use Rattle.cm_syntax.specs.Text.{is_same}

-- the table has for each name the index of the first function of that name
abbrev pub IsTable : {S : Type 0} → List (Function Name) → IndexMap Name ℕ S → Type 0
IsTable functions numbers = (x : Name) → get is_same numbers x ≡ position (λ g. is_same g.name.name x) functions
