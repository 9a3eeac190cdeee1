-- What it means that the answer of `resolve` is the tree's.
use Rattle.std.specs.Prelude.{◌≡◌, ◌⊎◌, ℕ, ⊤, Result, Err}
use Rattle.cm_syntax.specs.declared.stmt.Tree.{Tree}
use Rattle.cm_syntax.specs.declared.stmt.Program.{Program}
use Rattle.cm_syntax.specs.Fault.{Variant, IsNameAnswer}
use Rattle.cm_names.specs.declared.refusal.NameRefusal.{NameRefusal}
use Rattle.cm_names.specs.declared.refusal.NameRefusal.TheVariants as refusal

-- the refusal is the tree's answer, or there was no memory
abbrev pub IsRefusalOf : Tree → NameRefusal → Type 0
IsRefusalOf tree (refusal.Unknown at) = IsNameAnswer tree at Variant.unknown
IsRefusalOf tree (refusal.Twice at) = IsNameAnswer tree at Variant.twice
IsRefusalOf tree (refusal.Arity at) = IsNameAnswer tree at Variant.arity
IsRefusalOf tree (refusal.Kind at) = IsNameAnswer tree at Variant.kind
IsRefusalOf tree (refusal.NoMain at) = IsNameAnswer tree at Variant.no_main
IsRefusalOf tree (refusal.Frame at) = IsNameAnswer tree at Variant.frame
IsRefusalOf tree (refusal.Count at) = IsNameAnswer tree at Variant.count
IsRefusalOf tree refusal.Memory = ⊤

-- the fault of the language as `resolve` says it
abbrev pub refusal_of : Variant → (at : ℕ) → NameRefusal
refusal_of Variant.unknown at = refusal.Unknown at
refusal_of Variant.twice at = refusal.Twice at
refusal_of Variant.arity at = refusal.Arity at
refusal_of Variant.kind at = refusal.Kind at
refusal_of Variant.no_main at = refusal.NoMain at
refusal_of Variant.frame at = refusal.Frame at
refusal_of Variant.count at = refusal.Count at

-- The answer is the wanted one, or there was no memory.
abbrev pub Gives : (answer wanted : Result Program NameRefusal) → Type 0
Gives answer wanted = (answer ≡ wanted) ⊎ (answer ≡ Err refusal.Memory)
