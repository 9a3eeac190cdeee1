-- The machine takes the tokens of each function and program with their counts, and ends with its tree.
use Rattle.std.proofs.Common.{◌≡◌, Bool, true, false, if◌then◌else◌, List, [], ◌∷◌, ◌++◌, refl, sym, subst, Option, None, Some, append_assoc, is_some}
use Rattle.cm_syntax.specs.declared.name.Name.{Name}
use Rattle.cm_syntax.specs.declared.stmt.Item.{Item}
use Rattle.cm_syntax.specs.declared.stmt.Stmt.{Stmt}
use Rattle.cm_syntax.specs.declared.stmt.Function.{Function}
use Rattle.cm_syntax.specs.declared.token.Keyword.TheVariants as keyword
use Rattle.cm_syntax.specs.declared.token.Sign.TheVariants as sign
use Rattle.cm_syntax.specs.Token.{Token, LocatedToken}
use Rattle.cm_syntax.specs.ParseTree.{Offset, Parameter, ParameterList, Parameters}
use Rattle.cm_syntax.specs.ParseTree as grammar
use Rattle.cm_syntax.specs.Yield.{CountedToken, word_at, sign_at, name_at, statements_tokens, parameter_tokens, parameter_list_tokens, parameters_tokens, cilk_tokens, function_tokens, program_tokens}
use Rattle.cm_syntax.specs.Lowering.{lower_statements, lower_parameter, lower_parameter_list, lower_parameters, lower_function, lower_program}
use Rattle.cm_syntax.specs.Parser.{State, on, step, parameter, function_of, function_step, is_sign}
use Rattle.cm_syntax.proofs.parser.trace.Trace.{Leads, none, one, both, passes}
use Rattle.cm_syntax.proofs.parser.trace.StatementTrace.{statements_lead}

-- ---- functions

-- a parameter, where its `int` is wanted
parameter_leads : (p : Parameter) (s : State) (before : List (Item Name)) (k : List (Item Name) → State) → ((at : Offset) → step s (Token.keyword keyword.Int) at ≡ on (parameter before k)) →
    (t : LocatedToken) (rest : List LocatedToken) → is_sign sign.BracketOpen t.token ≡ false →
    Leads s (parameter_tokens p) (t ∷ rest) (State.more_parameters (before ++ lower_parameter p ∷ []) k)
parameter_leads (Parameter.scalar int_at x) s before k steps t rest no_index = one (steps int_at) (one refl (passes (rw no_index refl)))
parameter_leads (Parameter.slice int_at a opening closing) s before k steps t rest no_index = one (steps int_at) (one refl (one refl (one refl none)))
parameter_leads (Parameter.pointer int_at star p) s before k steps t rest no_index = one (steps int_at) (one refl (one refl none))

-- the parameters behind others, with the closing parenthesis
list_leads : (all : ParameterList) (s : State) (before : List (Item Name)) (k : List (Item Name) → State) → ((at : Offset) → step s (Token.keyword keyword.Int) at ≡ on (parameter before k)) →
    (closing : Offset) (rest : List LocatedToken) → Leads s (parameter_list_tokens all ++ sign_at sign.ParenClose closing ∷ []) rest (k (before ++ lower_parameter_list all))
list_leads (ParameterList.last single) s before k steps closing rest = both (parameter_leads single s before k steps _ _ refl) (one refl none)
list_leads (ParameterList.before first comma more) s before k steps closing rest =
    let end : List CountedToken = sign_at sign.ParenClose closing ∷ [] in
    let found = lower_parameter first in
    subst (λ tokens. Leads s tokens rest (k (before ++ (found ∷ lower_parameter_list more)))) (sym (append_assoc (parameter_tokens first) (sign_at sign.Comma comma ∷ parameter_list_tokens more) end))
    (both (parameter_leads first s before k steps _ _ refl)
    (one refl (subst (λ all. Leads (State.word_next keyword.Int (parameter (before ++ found ∷ []) k)) (parameter_list_tokens more ++ end) rest (k all))
    (append_assoc before (found ∷ []) (lower_parameter_list more))
    (list_leads more (State.word_next keyword.Int (parameter (before ++ found ∷ []) k)) (before ++ found ∷ []) k (λ at. refl) closing rest))))

parameters_lead : (all : Parameters) (k : List (Item Name) → State) (closing : Offset) (rest : List LocatedToken) →
    Leads (State.first_parameter k) (parameters_tokens all ++ sign_at sign.ParenClose closing ∷ []) rest (k (lower_parameters all))
parameters_lead Parameters.none k closing rest = one refl none
parameters_lead (Parameters.void at) k closing rest = one refl (one refl none)
parameters_lead (Parameters.list all) k closing rest = list_leads all (State.first_parameter k) [] k (λ at. refl) closing rest

-- the tokens behind the mark and the type of a function
abbrev behind_type : grammar.Function → List CountedToken
behind_type f =
    name_at f.name ∷ sign_at sign.ParenOpen f.opening ∷ (parameters_tokens f.parameters ++ (sign_at sign.ParenClose f.closing ∷ sign_at sign.BraceOpen f.body_opening ∷
    (statements_tokens 1 f.body ++ sign_at sign.BraceClose f.body_closing ∷ [])))

behind_type_leads : (f : grammar.Function) (cilk gives : Bool) (k : Function Name → State) (rest : List LocatedToken) →
    Leads (function_of cilk gives k) (behind_type f) rest
    (k (record { name = f.name; cilk = cilk; gives = gives; parameters = lower_parameters f.parameters; body = lower_statements f.body; slots = [] }))
behind_type_leads f cilk gives k rest =
    let inside : List CountedToken = sign_at sign.BraceOpen f.body_opening ∷ (statements_tokens 1 f.body ++ sign_at sign.BraceClose f.body_closing ∷ []) in
    let ended : List (Item Name) → List (Stmt Name) → State =
    λ parameters statements. k (record { name = f.name; cilk = cilk; gives = gives; parameters = parameters; body = statements; slots = [] }) in
    let listed : List (Item Name) → State = λ parameters. State.sign_next sign.BraceOpen (State.statements 1 [] (λ statements close. ended parameters statements)) in
    one refl (one refl
    (subst (λ tokens. Leads (State.first_parameter listed) tokens rest (ended (lower_parameters f.parameters) (lower_statements f.body)))
    (append_assoc (parameters_tokens f.parameters) (sign_at sign.ParenClose f.closing ∷ []) inside)
    (both (parameters_lead f.parameters listed f.closing _)
    (one refl (statements_lead f.body 1 [] (λ statements close. ended (lower_parameters f.parameters) statements) f.body_closing rest)))))

-- a function, in a state where one is wanted
pub function_leads : (f : grammar.Function) (s : State) (k : Function Name → State) → ((token : Token) (at : Offset) → step s token at ≡ function_step token k) →
    (rest : List LocatedToken) → Leads s (function_tokens f) rest (k (lower_function f))
function_leads f s k steps rest = by_mark f.cilk_at f.gives
  where
    by_mark : (mark : Option Offset) (gives : Bool) → Leads s (cilk_tokens mark ++ (word_at (if gives then keyword.Int else keyword.Void) f.type_at ∷ behind_type f)) rest
        (k (record { name = f.name; cilk = is_some mark; gives = gives; parameters = lower_parameters f.parameters; body = lower_statements f.body; slots = [] }))
    by_mark None true = one (steps _ _) (behind_type_leads f false true k rest)
    by_mark None false = one (steps _ _) (behind_type_leads f false false k rest)
    by_mark (Some at) true = one (steps _ _) (one refl (behind_type_leads f true true k rest))
    by_mark (Some at) false = one (steps _ _) (one refl (behind_type_leads f true false k rest))

-- ---- programs

-- a program behind other functions
pub program_leads : (p : grammar.Program) (before : List (Function Name)) → Leads (State.functions_next before) (program_tokens p) [] (State.functions_next (before ++ lower_program p))
program_leads (grammar.Program.last f) before = function_leads f (State.functions_next before) (λ found. State.functions_next (before ++ found ∷ [])) (λ token at. refl) []
program_leads (grammar.Program.before f more) before =
    let found = lower_function f in
    both (function_leads f (State.functions_next before) (λ found. State.functions_next (before ++ found ∷ [])) (λ token at. refl) _)
    (subst (λ all. Leads (State.functions_next (before ++ found ∷ [])) (program_tokens more) [] (State.functions_next all)) (append_assoc before (found ∷ []) (lower_program more))
    (program_leads more (before ++ found ∷ [])))
