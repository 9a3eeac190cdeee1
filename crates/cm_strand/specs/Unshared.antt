-- Stacks of which no word is shared: nothing is lent for reading alone yet, so all that pieces hold are such ones.
use Rattle.std.specs.Prelude.{ℕ, ⊤}
use Rattle.cm_syntax.specs.Cell.{Cell, absent, unset, present, shared}
use Rattle.cm_syntax.specs.Stack.{Stack}

-- no part of a word or reference that isn't the whole
abbrev pub NoPart : {A : Type 0} → Cell A → Type 0
NoPart absent = ⊤
NoPart unset = ⊤
NoPart (present v) = ⊤
NoPart (shared p v) = ⊥

-- a stack holds each word and reference as a whole, or nothing of it
pub record IsUnshared (h : Stack) : Type 0 where
  pub words : (d s i : ℕ) → NoPart (h.words d s i)
  pub references : (d s : ℕ) → NoPart (h.references d s)
