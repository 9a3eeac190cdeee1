use Rattle.std.proofs.Common.{◌⊎◌, inl, inr, ℕ, List, length}
use Rattle.cm_syntax.specs.declared.stmt.Tree.{Tree}
use Rattle.cm_syntax.specs.Grammar.{IsSourceOf}
use Rattle.cm_syntax.specs.Refusal.{Refusal, IsAnswer, HasNoRefusal}
use Rattle.cm_syntax.specs.Parser.{Answer, accepted, refused, IsAnswerTo}
use Rattle.cm_syntax.proofs.parser.SourceText.{answer_to, answered}
use Rattle.cm_syntax.proofs.law.every_text_is_answered.Goals as goal

by_answer : (bytes : List ℕ) (answer : Answer) → IsAnswerTo bytes answer → ((tree : Tree) × IsSourceOf bytes tree × HasNoRefusal bytes) ⊎ ((refusal : Refusal) × (at : ℕ) × IsAnswer bytes refusal at)
by_answer bytes (accepted functions) a = inl (record { functions = functions; length = length bytes }, a.0, a.1)
by_answer bytes (refused refusal at) a = inr (refusal, at, a)

pub returns-clause-some : goal.returns-clause-some
returns-clause-some c = λ bytes. by_answer bytes (answer_to bytes) (answered bytes)

pub returns-clause-one : goal.returns-clause-one
returns-clause-one c = λ bytes refusal at none answer. none refusal at answer.refused
