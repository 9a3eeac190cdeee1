-- Short source texts by computing: the machine finds their tokens, their trees and their refused offsets.
use Rattle.std.proofs.Common.{◌≡◌, ℕ, List, [], ◌∷◌, length, map, refl, subst, arith}
use Rattle.std.specs.Prelude.{⊤}
use Rattle.cm_syntax.specs.declared.name.Name.{Name}
use Rattle.cm_syntax.specs.declared.stmt.Function.{Function}
use Rattle.cm_syntax.specs.declared.stmt.Tree.{Tree}
use Rattle.cm_syntax.specs.Token.{Tokens}
use Rattle.cm_syntax.specs.ParseTree.{Offset}
use Rattle.cm_syntax.specs.Grammar.{IsSourceOf}
use Rattle.cm_syntax.specs.Refusal.{Refusal, IsAnswer}
use Rattle.cm_syntax.specs.Resolution.{Variable, ResolvesTo}
use Rattle.cm_syntax.specs.Number.{function_numbers}
use Rattle.cm_syntax.specs.Fault.{faults, program_of}
use Rattle.cm_syntax.specs.Row.{HasFunctions, IsAccepted, HasNumbers, ResolvesToSlot, IsSoundSource}
use Rattle.cm_syntax.specs.Parser.{Answer, accepted, refused, text_answer, IsAnswerTo}
use Rattle.cm_syntax.specs.Lexer.{lexed}
use Rattle.cm_syntax.proofs.lexing.Lexing.{lexed_tokens}
use Rattle.cm_syntax.proofs.parser.Answer.{text_answered}

-- the tokens of a text
pub tokens_of : (bytes : List ℕ) → Tokens 0 bytes (lexed (length bytes) 0 bytes)
tokens_of bytes = lexed_tokens (length bytes) 0 bytes (omega arith)

-- the answer to a text
abbrev pub answer_to : List ℕ → Answer
answer_to bytes = text_answer (lexed (length bytes) 0 bytes) (length bytes)

pub answered : (bytes : List ℕ) → IsAnswerTo bytes (answer_to bytes)
answered bytes = text_answered bytes (lexed (length bytes) 0 bytes) (tokens_of bytes)

-- a text that is refused
pub is_refused : {bytes : List ℕ} {refusal : Refusal} {at : Offset} → answer_to bytes ≡ refused refusal at → IsAnswer bytes refusal at
is_refused {bytes} e = subst (IsAnswerTo bytes) e (answered bytes)

-- what is said of the tree of an accepted text of this length
abbrev pub OfTree : (Tree → Type 0) → (length : ℕ) → Answer → Type 0
OfTree P length (accepted functions) = P (record { functions = functions; length = length })
OfTree P length (refused refusal at) = ⊥

-- what is said of its one function
abbrev pub OfFunction : (Function Name → Type 0) → Answer → Type 0
OfFunction P (accepted (f ∷ [])) = P f
OfFunction P _ = ⊥

-- a text that is accepted
pub has_tree : {bytes : List ℕ} {P : Tree → Type 0} → OfTree P (length bytes) (answer_to bytes) → (tree : Tree) × IsSourceOf bytes tree × P tree
has_tree {bytes} {P} h = by_answer (answer_to bytes) (answered bytes) h
  where
    by_answer : (answer : Answer) → IsAnswerTo bytes answer → OfTree P (length bytes) answer → (tree : Tree) × IsSourceOf bytes tree × P tree
    by_answer (accepted functions) a h = (record { functions = functions; length = length bytes }, a.0, h)
    by_answer (refused refusal at) a h = absurd h

-- a text of one function
pub has_function : {bytes : List ℕ} {P : Function Name → Type 0} → OfFunction P (answer_to bytes) → (f : Function Name) × HasFunctions bytes (f ∷ []) × P f
has_function {bytes} {P} h = by_answer (answer_to bytes) (answered bytes) h
  where
    by_answer : (answer : Answer) → IsAnswerTo bytes answer → OfFunction P answer → (f : Function Name) × HasFunctions bytes (f ∷ []) × P f
    by_answer (accepted []) a h = absurd h
    by_answer (accepted (f ∷ [])) a h = (f, (record { functions = f ∷ []; length = length bytes }, a.0, refl), h)
    by_answer (accepted (f ∷ g ∷ more)) a h = absurd h
    by_answer (refused refusal at) a h = absurd h

-- a text that is accepted
abbrev pub WasAccepted : Answer → Type 0
WasAccepted (accepted functions) = ⊤
WasAccepted (refused refusal at) = ⊥

pub is_accepted : {bytes : List ℕ} → WasAccepted (answer_to bytes) → IsAccepted bytes
is_accepted {bytes} h = by_answer (answer_to bytes) (answered bytes) h
  where
    by_answer : (answer : Answer) → IsAnswerTo bytes answer → WasAccepted answer → IsAccepted bytes
    by_answer (accepted functions) a h = (record { functions = functions; length = length bytes }, a.0, (bytes, a.0, a.1))
    by_answer (refused refusal at) a h = absurd h

-- a text that is accepted and whose tree has no fault
pub is_sound : {bytes : List ℕ} → OfTree (λ tree. faults tree ≡ []) (length bytes) (answer_to bytes) → IsSoundSource bytes
is_sound {bytes} h = by_answer (answer_to bytes) (answered bytes) h
  where
    by_answer : (answer : Answer) → IsAnswerTo bytes answer → OfTree (λ tree. faults tree ≡ []) (length bytes) answer → IsSoundSource bytes
    by_answer (accepted functions) a h = (record { functions = functions; length = length bytes }, a.0, (bytes, a.0, a.1), h)
    by_answer (refused refusal at) a h = absurd h

-- the numbers that an accepted text mentions
pub has_numbers : {bytes : List ℕ} {main : ℕ} {numbers : List (List ℕ)} →
    OfTree (λ tree. ((program_of tree).main ≡ main) × (map function_numbers (program_of tree).functions ≡ numbers)) (length bytes) (answer_to bytes) → HasNumbers bytes main numbers
has_numbers {bytes} {main} {numbers} h =
    let found = has_tree {bytes = bytes} {P = λ tree. ((program_of tree).main ≡ main) × (map function_numbers (program_of tree).functions ≡ numbers)} h in (found.0, found.1, found.2.0, found.2.1)

-- a mention in a text of one function
pub resolves : {bytes : List ℕ} {i slot : ℕ} → OfFunction (λ f. (v : Variable) × (v.slot ≡ slot) × ResolvesTo f i v) (answer_to bytes) → ResolvesToSlot bytes i slot
resolves {bytes} {i} {slot} h =
    let found = has_function {bytes = bytes} {P = λ f. (v : Variable) × (v.slot ≡ slot) × ResolvesTo f i v} h in (found.0, found.2.0, found.1, found.2.1, found.2.2)
