-- Breaches of the lending rule, and which of several is answered.
use Rattle.std.specs.Prelude.{◌≡◌, ℕ, ◌+◌, ◌-◌, ◌<◌, ◌≤◌, nat_lt, if◌then◌else◌, List, ◌⊎◌, ⊤, Option, None, Some, Contains}
use Rattle.cm_syntax.specs.declared.expr.Mark.{Mark}
use Rattle.cm_syntax.specs.declared.stmt.Function.{Function}
use Rattle.cm_syntax.specs.Walk.{Order, Has}
use Rattle.cm_syntax.specs.Evaluation.{function_order}
use Rattle.cm_syntax.specs.Lending.{HasAgain, Doubles}
use Rattle.cm_lend.specs.Part.{HoldsPath}
use Rattle.cm_lend.specs.declared.breach.Breach.{Breach}
use Rattle.cm_lend.specs.declared.breach.Breach.TheVariants as breach

-- How far a spawn is from being named: those before the mention come first, the nearest first.
abbrev pub distance : (at spawn : ℕ) → ℕ
distance at spawn = if nat_lt spawn at then at - spawn else spawn + 1

-- The one is answered rather than the other, or they are the same: the less offset, then a lent mention, then the
-- named spawn.
abbrev pub Rather : Breach → Breach → Type 0
Rather (breach.Lent at spawn) (breach.Lent offset other) = (at < offset) ⊎ ((at ≡ offset) × (distance at spawn ≤ distance offset other))
Rather (breach.Lent at spawn) (breach.Same offset) = at ≤ offset
Rather (breach.Same at) (breach.Lent offset other) = at < offset
Rather (breach.Same at) (breach.Same offset) = at ≤ offset

-- no such breach, or the one of them that is answered
abbrev pub IsBest : (Is : Breach → Type 0) → Option Breach → Type 0
IsBest Is None = (b : Breach) → Is b → ⊥
IsBest Is (Some best) = Is best × ((b : Breach) → Is b → Rather best b)

-- the one is answered where the other is there
abbrev pub AtLeast : Option Breach → Option Breach → Type 0
AtLeast found None = ⊤
AtLeast None (Some b) = ⊥
AtLeast (Some best) (Some b) = Rather best b

-- the better of two
pub record Picks (x y result : Option Breach) : Type 0 where
  pub one_of : (result ≡ x) ⊎ (result ≡ y)
  pub first : AtLeast result x
  pub second : AtLeast result y

-- a breach in a piece of text: a path to a mention, or what a call has again
abbrev pub Breaks : Order → Breach → Type 0
Breaks order (breach.Lent at spawn) = (variable : ℕ) × HoldsPath order spawn variable at
Breaks order (breach.Same at) = Has (Doubles at) order

-- what a call has again of what it passes
abbrev pub IsAgain : List (Mark ℕ) → Breach → Type 0
IsAgain passed (breach.Lent at spawn) = ⊥
IsAgain passed (breach.Same at) = HasAgain passed at

-- what is passed once more of a variable
abbrev pub IsOnceMore : (variable : ℕ) → List (Mark ℕ) → Breach → Type 0
IsOnceMore variable more (breach.Lent at spawn) = ⊥
IsOnceMore variable more (breach.Same at) = Contains more (record { name = variable; at = at })

-- a breach in one of the functions
abbrev pub BreaksAmong : List (Function ℕ) → Breach → Type 0
BreaksAmong functions b = (f : Function ℕ) × Contains functions f × Breaks (function_order f) b
