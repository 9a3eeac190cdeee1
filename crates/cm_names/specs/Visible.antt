-- What the table of the visible variables stands for.
use Rattle.std.specs.Prelude.{◌≡◌, if◌then◌else◌, List, [], ◌∷◌, reverse, Option, None, Some, unwrap_or}
use Rattle.indexmap.specs.IndexMap.{get}
use Rattle.cm_syntax.specs.declared.name.Name.{Name}
use Rattle.cm_syntax.specs.Text.{is_same}
use Rattle.cm_syntax.specs.Resolution as resolution
use Rattle.cm_names.specs.declared.variable.Variable.{Variable}
use Rattle.cm_names.specs.declared.variable.Variables.{Variables}

-- the variables that are visible at a point, the nearest first
abbrev pub Sight : Type 0
Sight = List resolution.Variable

-- a declared variable without its name
abbrev pub kept_of : resolution.Variable → Variable
kept_of v = record { slot = v.slot; kind = v.kind }

-- the variables of a name, the nearest declaration first
abbrev pub of_name : Sight → Name → List Variable
of_name [] x = []
of_name (v ∷ visible) x = if is_same v.name x then kept_of v ∷ of_name visible x else of_name visible x

-- the nearest variable of a stack
abbrev pub top : List Variable → Option Variable
top [] = None
top (v ∷ more) = Some v

-- a stack without its nearest variable
abbrev pub below_top : List Variable → List Variable
below_top [] = []
below_top (v ∷ more) = more

-- the variables that the table has of a name, the nearest first
abbrev pub stack_of : Variables → Name → List Variable
stack_of variables x = reverse (unwrap_or (get is_same variables.stacks x) [])

-- the table has of each name the variables that are visible
pub record Shows (variables : Variables) (visible : Sight) : Type 0 where
  pub each : (x : Name) → stack_of variables x ≡ of_name visible x
