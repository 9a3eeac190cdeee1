-- What a printed text has in common with the tree that it was printed from.
use Rattle.std.specs.Prelude.{◌≡◌, ℕ, List}
use Rattle.cm_syntax.specs.declared.stmt.Tree.{Tree}
use Rattle.cm_syntax.specs.Grammar.{IsSourceOf}
use Rattle.cm_syntax.specs.Offset.{without_offsets}

-- the text is a source text of the same tree, in all but the offsets and the length
abbrev pub ReadsBack : (text : List ℕ) → Tree → Type 0
ReadsBack text tree = (again : Tree) × IsSourceOf text again × (without_offsets again ≡ without_offsets tree)
