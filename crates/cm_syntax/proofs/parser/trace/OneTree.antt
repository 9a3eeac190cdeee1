-- Tokens are of one program at most.
use Rattle.std.proofs.Common.{◌≡◌, ℕ, List, [], ◌∷◌, refl, sym, ap, ◌∙◌, subst, Option, None, Some, append-nil}
use Rattle.cm_syntax.specs.declared.name.Name.{Name}
use Rattle.cm_syntax.specs.declared.stmt.Function.{Function}
use Rattle.cm_syntax.specs.declared.stmt.Tree.{Tree}
use Rattle.cm_syntax.specs.Token.{LocatedToken}
use Rattle.cm_syntax.specs.ParseTree as grammar
use Rattle.cm_syntax.specs.Yield.{CountedToken, program_tokens, located_tokens}
use Rattle.cm_syntax.specs.Lowering.{lower_program}
use Rattle.cm_syntax.specs.Grammar.{Parses, IsSourceOf}
use Rattle.cm_syntax.specs.Parser.{State, some_functions, finish, start}
use Rattle.cm_syntax.proofs.lexing.TokenLaw.{Tokens-one}
use Rattle.cm_syntax.proofs.parser.trace.Trace.{Trace, took, stuck, over, trace, taken}
use Rattle.cm_syntax.proofs.parser.trace.ProgramTrace.{program_leads}

-- The machine takes the tokens of a program with their counts, and comes behind its functions.
pub program_traced : (p : grammar.Program) → trace start (located_tokens (program_tokens p)) ≡ taken (program_tokens p) (over (State.functions_next (lower_program p)))
program_traced p =
    subst (λ tokens. trace start tokens ≡ taken (program_tokens p) (over (State.functions_next (lower_program p)))) (append-nil (located_tokens (program_tokens p)))
    (program_leads p []).same

-- ---- one tree

-- what was read where the tokens end
abbrev pub ending : Trace → Option (List (Function Name))
ending (took quantity more) = ending more
ending (stuck at) = None
ending (over s) = finish s

pub ending-taken : (tokens : List CountedToken) (more : Trace) → ending (taken tokens more) ≡ ending more
ending-taken [] more = refl
ending-taken (t ∷ tokens) more = ending-taken tokens more

-- a program has functions
pub some_program : (p : grammar.Program) → some_functions (lower_program p) ≡ Some (lower_program p)
some_program (grammar.Program.last f) = refl
some_program (grammar.Program.before f more) = refl

pub program_ends : (p : grammar.Program) → ending (trace start (located_tokens (program_tokens p))) ≡ Some (lower_program p)
program_ends p = ap ending (program_traced p) ∙ (ending-taken (program_tokens p) _ ∙ some_program p)

-- two parse trees with the same tokens are of one tree
pub one_tree : (a b : grammar.Program) → located_tokens (program_tokens a) ≡ located_tokens (program_tokens b) → lower_program a ≡ lower_program b
one_tree a b same =
    let found : Some (lower_program a) ≡ Some (lower_program b) = sym (program_ends a) ∙ (ap (λ tokens. ending (trace start tokens)) same ∙ program_ends b) in cc

-- tokens are of one list of functions at most, and bytes of one tree
pub Parses-one : (tokens : List LocatedToken) (x y : List (Function Name)) → Parses tokens x → Parses tokens y → x ≡ y
Parses-one tokens x y (a, a_tokens, a_tree) (b, b_tokens, b_tree) = sym a_tree ∙ (one_tree a b (a_tokens ∙ sym b_tokens) ∙ b_tree)

pub IsSourceOf-one : (bytes : List ℕ) (x y : Tree) → IsSourceOf bytes x → IsSourceOf bytes y → x ≡ y
IsSourceOf-one bytes x y (tokens, read, parses, length) (others, read', parses', length') =
    let functions = Parses-one tokens x.functions y.functions parses (subst (λ ts. Parses ts y.functions) (Tokens-one read' read) parses') in
    λ i. record { functions = functions i; length = (length ∙ sym length') i }
