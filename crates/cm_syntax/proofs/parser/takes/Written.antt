-- The tokens of a parse tree in front of others. Written so, what follows a part stands in its place by computing.
use Rattle.std.proofs.Common.{◌≡◌, ℕ, ◌+◌, Bool, List, ◌∷◌, ◌++◌, refl, sym, ap, ◌∙◌, Option, None, Some}
use Rattle.std.specs.Prelude.{if◌then◌else◌}
use Rattle.cm_syntax.specs.declared.token.Keyword.{Keyword}
use Rattle.cm_syntax.specs.declared.token.Keyword.TheVariants as keyword
use Rattle.cm_syntax.specs.declared.token.Sign.{Sign}
use Rattle.cm_syntax.specs.declared.token.Sign.TheVariants as sign
use Rattle.cm_syntax.specs.Token.{Token, LocatedToken, token_at}
use Rattle.cm_syntax.specs.ParseTree.{Mark, Offset, Expression, Arguments, Argument, AnyExpression, Declaration, Simple, FirstPart, Plain, Statements, Parameter, ParameterList, Parameters}
use Rattle.cm_syntax.specs.ParseTree as grammar
use Rattle.cm_syntax.specs.Yield.{Quantity, sign_of, update_sign, step_sign, operators_of, expression_tokens, call_tokens, simple_call_tokens, arguments_tokens, argument_tokens, any_tokens, optional_tokens, item_tokens, items_tokens, declaration_tokens, target_tokens, simple_tokens, first_part_tokens, last_part_tokens, plain_tokens, statements_tokens, parameter_tokens, parameter_list_tokens, parameters_tokens, cilk_tokens, function_tokens, program_tokens, located_tokens}
use Rattle.cm_syntax.proofs.YieldLaw.{regroup}

-- ---- tokens

abbrev pub sign_then : Sign → Offset → List LocatedToken → List LocatedToken
sign_then s at rest = token_at (Token.sign s) at ∷ rest

abbrev pub word_then : Keyword → Offset → List LocatedToken → List LocatedToken
word_then k at rest = token_at (Token.keyword k) at ∷ rest

abbrev pub name_then : Mark → List LocatedToken → List LocatedToken
name_then x rest = token_at (Token.name x.name) x.at ∷ rest

-- ---- expressions

abbrev mutual
  pub expression_then : {level : ℕ} → Expression level → List LocatedToken → List LocatedToken
  expression_then (Expression.literal at value) rest = token_at (Token.number value) at ∷ rest
  expression_then (Expression.variable x) rest = name_then x rest
  expression_then (Expression.element a opening index closing) rest =
      name_then a (sign_then sign.BracketOpen opening (expression_then index (sign_then sign.BracketClose closing rest)))
  expression_then (Expression.pointee star p) rest = sign_then sign.Star star (name_then p rest)
  expression_then (Expression.called call) rest = call_then call rest
  expression_then (Expression.len word opening a closing) rest =
      word_then keyword.Len word (sign_then sign.ParenOpen opening (name_then a (sign_then sign.ParenClose closing rest)))
  expression_then (Expression.input word opening index closing) rest =
      word_then keyword.Input word (sign_then sign.ParenOpen opening (expression_then index (sign_then sign.ParenClose closing rest)))
  expression_then (Expression.inputs word opening closing) rest =
      word_then keyword.Inputs word (sign_then sign.ParenOpen opening (sign_then sign.ParenClose closing rest))
  expression_then (Expression.grouped opening inner closing) rest =
      sign_then sign.ParenOpen opening (expression_then inner (sign_then sign.ParenClose closing rest))
  expression_then (Expression.prefixed op unary at operand tight) rest = sign_then (sign_of op) at (expression_then operand rest)
  expression_then (Expression.joined op binary left loose at right tight) rest =
      expression_then left (sign_then (sign_of op) at (expression_then right rest))

  pub call_then : grammar.Call → List LocatedToken → List LocatedToken
  call_then (grammar.Call.alone f opening closing) rest = name_then f (sign_then sign.ParenOpen opening (sign_then sign.ParenClose closing rest))
  call_then (grammar.Call.with_ f opening arguments closing) rest =
      name_then f (sign_then sign.ParenOpen opening (arguments_then arguments (sign_then sign.ParenClose closing rest)))

  pub arguments_then : Arguments → List LocatedToken → List LocatedToken
  arguments_then (Arguments.last argument) rest = argument_then argument rest
  arguments_then (Arguments.before argument comma more) rest = argument_then argument (sign_then sign.Comma comma (arguments_then more rest))

  pub argument_then : Argument → List LocatedToken → List LocatedToken
  argument_then (Argument.value value) rest = expression_then value rest
  argument_then (Argument.address at x) rest = sign_then sign.Ampersand at (name_then x rest)

abbrev pub any_then : AnyExpression → List LocatedToken → List LocatedToken
any_then (AnyExpression.any value) rest = expression_then value rest

abbrev pub optional_then : Option AnyExpression → List LocatedToken → List LocatedToken
optional_then None rest = rest
optional_then (Some value) rest = any_then value rest

-- ---- declarations and simple statements

abbrev pub item_then : grammar.Item → List LocatedToken → List LocatedToken
item_then (grammar.Item.scalar x) rest = name_then x rest
item_then (grammar.Item.set x assign value) rest = name_then x (sign_then sign.Assign assign (any_then value rest))
item_then (grammar.Item.array a opening at words closing) rest =
    name_then a (sign_then sign.BracketOpen opening (token_at (Token.number words) at ∷ sign_then sign.BracketClose closing rest))

abbrev pub items_then : grammar.Items → List LocatedToken → List LocatedToken
items_then (grammar.Items.last one) rest = item_then one rest
items_then (grammar.Items.before one comma more) rest = item_then one (sign_then sign.Comma comma (items_then more rest))

abbrev pub declaration_then : Declaration → List LocatedToken → List LocatedToken
declaration_then d rest = word_then keyword.Int d.int_at (items_then d.items rest)

abbrev pub target_then : grammar.Target → List LocatedToken → List LocatedToken
target_then (grammar.Target.scalar x) rest = name_then x rest
target_then (grammar.Target.element a opening index closing) rest =
    name_then a (sign_then sign.BracketOpen opening (any_then index (sign_then sign.BracketClose closing rest)))
target_then (grammar.Target.pointee star p) rest = sign_then sign.Star star (name_then p rest)

abbrev pub simple_then : Simple → List LocatedToken → List LocatedToken
simple_then (Simple.assign target at value) rest = target_then target (sign_then sign.Assign at (any_then value rest))
simple_then (Simple.update target op updates at value) rest = target_then target (sign_then (update_sign op) at (any_then value rest))
simple_then (Simple.step_after target up at) rest = target_then target (sign_then (step_sign up) at rest)
simple_then (Simple.step_before up at target) rest = sign_then (step_sign up) at (target_then target rest)
simple_then (Simple.call call) rest = call_then call rest

abbrev pub first_part_then : FirstPart → List LocatedToken → List LocatedToken
first_part_then FirstPart.nothing rest = rest
first_part_then (FirstPart.declare declaration) rest = declaration_then declaration rest
first_part_then (FirstPart.simple s) rest = simple_then s rest

abbrev pub last_part_then : Option Simple → List LocatedToken → List LocatedToken
last_part_then None rest = rest
last_part_then (Some s) rest = simple_then s rest

-- ---- statements

abbrev mutual
  pub plain_then : {is_open : Bool} → Plain is_open → List LocatedToken → List LocatedToken
  plain_then (Plain.simple s semicolon) rest = simple_then s (sign_then sign.Semicolon semicolon rest)
  plain_then (Plain.empty semicolon) rest = sign_then sign.Semicolon semicolon rest
  plain_then (Plain.block opening body closing) rest = sign_then sign.BraceOpen opening (statements_then body (sign_then sign.BraceClose closing rest))
  plain_then (Plain.if_alone word opening test closing chosen) rest =
      word_then keyword.If word (sign_then sign.ParenOpen opening (any_then test (sign_then sign.ParenClose closing (plain_then chosen rest))))
  plain_then (Plain.if_else word opening test closing chosen at other) rest =
      word_then keyword.If word (sign_then sign.ParenOpen opening (any_then test (sign_then sign.ParenClose closing
      (plain_then chosen (word_then keyword.Else at (plain_then other rest))))))
  plain_then (Plain.while word opening test closing body) rest =
      word_then keyword.While word (sign_then sign.ParenOpen opening (any_then test (sign_then sign.ParenClose closing (plain_then body rest))))
  plain_then (Plain.for word opening first semicolon test second step closing body) rest =
      word_then keyword.For word (sign_then sign.ParenOpen opening (first_part_then first (sign_then sign.Semicolon semicolon
      (optional_then test (sign_then sign.Semicolon second (last_part_then step (sign_then sign.ParenClose closing (plain_then body rest))))))))
  plain_then (Plain.split word whole at index as_ left comma right opening body closing) rest =
      word_then keyword.Split word (name_then whole (word_then keyword.At at (any_then index (word_then keyword.As as_ (name_then left
      (sign_then sign.Comma comma (name_then right (sign_then sign.BraceOpen opening (statements_then body (sign_then sign.BraceClose closing rest))))))))))
  plain_then (Plain.return word value semicolon) rest = word_then keyword.Return word (optional_then value (sign_then sign.Semicolon semicolon rest))
  plain_then (Plain.print word opening value closing semicolon) rest =
      word_then keyword.Print word (sign_then sign.ParenOpen opening (any_then value (sign_then sign.ParenClose closing (sign_then sign.Semicolon semicolon rest))))
  plain_then (Plain.sync word semicolon) rest = word_then keyword.Sync word (sign_then sign.Semicolon semicolon rest)
  plain_then (Plain.spawn word call semicolon) rest = word_then keyword.Spawn word (call_then call (sign_then sign.Semicolon semicolon rest))
  plain_then (Plain.spawn_into x assign word call semicolon) rest =
      name_then x (sign_then sign.Assign assign (word_then keyword.Spawn word (call_then call (sign_then sign.Semicolon semicolon rest))))

  pub statements_then : Statements → List LocatedToken → List LocatedToken
  statements_then Statements.none rest = rest
  statements_then (Statements.declare declaration semicolon more) rest = declaration_then declaration (sign_then sign.Semicolon semicolon (statements_then more rest))
  statements_then (Statements.plain first more) rest = plain_then first (statements_then more rest)

-- ---- functions

abbrev pub parameter_then : Parameter → List LocatedToken → List LocatedToken
parameter_then (Parameter.scalar int_at x) rest = word_then keyword.Int int_at (name_then x rest)
parameter_then (Parameter.slice int_at a opening closing) rest =
    word_then keyword.Int int_at (name_then a (sign_then sign.BracketOpen opening (sign_then sign.BracketClose closing rest)))
parameter_then (Parameter.pointer int_at star p) rest = word_then keyword.Int int_at (sign_then sign.Star star (name_then p rest))

abbrev pub parameter_list_then : ParameterList → List LocatedToken → List LocatedToken
parameter_list_then (ParameterList.last one) rest = parameter_then one rest
parameter_list_then (ParameterList.before one comma more) rest = parameter_then one (sign_then sign.Comma comma (parameter_list_then more rest))

abbrev pub parameters_then : Parameters → List LocatedToken → List LocatedToken
parameters_then Parameters.none rest = rest
parameters_then (Parameters.void at) rest = word_then keyword.Void at rest
parameters_then (Parameters.list all) rest = parameter_list_then all rest

abbrev pub cilk_then : Option Offset → List LocatedToken → List LocatedToken
cilk_then None rest = rest
cilk_then (Some at) rest = word_then keyword.Cilk at rest

abbrev pub function_then : grammar.Function → List LocatedToken → List LocatedToken
function_then f rest =
    cilk_then f.cilk_at (word_then (if f.gives then keyword.Int else keyword.Void) f.type_at (name_then f.name (sign_then sign.ParenOpen f.opening
    (parameters_then f.parameters (sign_then sign.ParenClose f.closing (sign_then sign.BraceOpen f.body_opening
    (statements_then f.body (sign_then sign.BraceClose f.body_closing rest))))))))

abbrev pub program_then : grammar.Program → List LocatedToken → List LocatedToken
program_then (grammar.Program.last f) rest = function_then f rest
program_then (grammar.Program.before f more) rest = function_then f (program_then more rest)

-- ---- they are the tokens of the tree, and then the others

mutual
  expression_same : {level : ℕ} (n : ℕ) (e : Expression level) (rest : List LocatedToken) → expression_then e rest ≡ located_tokens (expression_tokens n e) ++ rest
  expression_same n (Expression.literal at value) rest = refl
  expression_same n (Expression.variable x) rest = refl
  expression_same n (Expression.element a opening index closing) rest = rw (expression_same 0 index, regroup) refl
  expression_same n (Expression.pointee star p) rest = refl
  expression_same n (Expression.called call) rest = call_same call rest
  expression_same n (Expression.len word opening a closing) rest = refl
  expression_same n (Expression.input word opening index closing) rest = rw (expression_same 0 index, regroup) refl
  expression_same n (Expression.inputs word opening closing) rest = refl
  expression_same n (Expression.grouped opening inner closing) rest = rw (expression_same 0 inner, regroup) refl
  expression_same n (Expression.prefixed op unary at operand tight) rest = rw (expression_same (n + 1) operand) refl
  expression_same n (Expression.joined op binary left loose at right tight) rest =
      rw (expression_same n left, expression_same (n + operators_of left + 1) right, regroup) refl

  call_same : (call : grammar.Call) (rest : List LocatedToken) → call_then call rest ≡ located_tokens (call_tokens call) ++ rest
  call_same (grammar.Call.alone f opening closing) rest = refl
  call_same (grammar.Call.with_ f opening arguments closing) rest = rw (arguments_same arguments, regroup) refl

  arguments_same : (arguments : Arguments) (rest : List LocatedToken) → arguments_then arguments rest ≡ located_tokens (arguments_tokens arguments) ++ rest
  arguments_same (Arguments.last argument) rest = argument_same argument rest
  arguments_same (Arguments.before argument comma more) rest = rw (argument_same argument, arguments_same more, regroup) refl

  argument_same : (a : Argument) (rest : List LocatedToken) → argument_then a rest ≡ located_tokens (argument_tokens a) ++ rest
  argument_same (Argument.value value) rest = expression_same 0 value rest
  argument_same (Argument.address at x) rest = refl

any_same : (e : AnyExpression) (rest : List LocatedToken) → any_then e rest ≡ located_tokens (any_tokens e) ++ rest
any_same (AnyExpression.any value) rest = expression_same 0 value rest

optional_same : (e : Option AnyExpression) (rest : List LocatedToken) → optional_then e rest ≡ located_tokens (optional_tokens e) ++ rest
optional_same None rest = refl
optional_same (Some value) rest = any_same value rest

item_same : (i : grammar.Item) (rest : List LocatedToken) → item_then i rest ≡ located_tokens (item_tokens i) ++ rest
item_same (grammar.Item.scalar x) rest = refl
item_same (grammar.Item.set x assign value) rest = rw (any_same value) refl
item_same (grammar.Item.array a opening at words closing) rest = refl

items_same : (i : grammar.Items) (rest : List LocatedToken) → items_then i rest ≡ located_tokens (items_tokens i) ++ rest
items_same (grammar.Items.last one) rest = item_same one rest
items_same (grammar.Items.before one comma more) rest = rw (item_same one, items_same more, regroup) refl

declaration_same : (first : Quantity) (d : Declaration) (rest : List LocatedToken) → declaration_then d rest ≡ located_tokens (declaration_tokens first d) ++ rest
declaration_same first d rest = rw (items_same d.items) refl

target_same : (first : Quantity) (t : grammar.Target) (rest : List LocatedToken) → target_then t rest ≡ located_tokens (target_tokens first t) ++ rest
target_same first (grammar.Target.scalar x) rest = refl
target_same first (grammar.Target.element a opening index closing) rest = rw (any_same index, regroup) refl
target_same first (grammar.Target.pointee star p) rest = refl

simple_call_same : (first : Quantity) (call : grammar.Call) (rest : List LocatedToken) → call_then call rest ≡ located_tokens (simple_call_tokens first call) ++ rest
simple_call_same first (grammar.Call.alone f opening closing) rest = refl
simple_call_same first (grammar.Call.with_ f opening arguments closing) rest = rw (arguments_same arguments, regroup) refl

simple_same : (first : Quantity) (s : Simple) (rest : List LocatedToken) → simple_then s rest ≡ located_tokens (simple_tokens first s) ++ rest
simple_same first (Simple.assign target at value) rest = rw (target_same first target, any_same value, regroup) refl
simple_same first (Simple.update target op updates at value) rest = rw (target_same first target, any_same value, regroup) refl
simple_same first (Simple.step_after target up at) rest = rw (target_same first target, regroup) refl
simple_same first (Simple.step_before up at target) rest = rw (target_same Quantity.nothing target) refl
simple_same first (Simple.call call) rest = simple_call_same first call rest

first_part_same : (p : FirstPart) (rest : List LocatedToken) → first_part_then p rest ≡ located_tokens (first_part_tokens p) ++ rest
first_part_same FirstPart.nothing rest = refl
first_part_same (FirstPart.declare declaration) rest = declaration_same Quantity.nothing declaration rest
first_part_same (FirstPart.simple s) rest = simple_same Quantity.nothing s rest

last_part_same : (p : Option Simple) (rest : List LocatedToken) → last_part_then p rest ≡ located_tokens (last_part_tokens p) ++ rest
last_part_same None rest = refl
last_part_same (Some s) rest = simple_same Quantity.nothing s rest

mutual
  plain_same : {is_open : Bool} (d inner : ℕ) (s : Plain is_open) (rest : List LocatedToken) → plain_then s rest ≡ located_tokens (plain_tokens d inner s) ++ rest
  plain_same d inner (Plain.simple s semicolon) rest = rw (simple_same (Quantity.depth d) s, regroup) refl
  plain_same d inner (Plain.empty semicolon) rest = refl
  plain_same d inner (Plain.block opening body closing) rest = rw (statements_same inner body, regroup) refl
  plain_same d inner (Plain.if_alone word opening test closing chosen) rest = rw (any_same test, plain_same (d + 1) (d + 1) chosen, regroup) refl
  plain_same d inner (Plain.if_else word opening test closing chosen at other) rest =
      rw (any_same test, plain_same (d + 1) (d + 1) chosen, plain_same (d + 1) (d + 1) other, regroup, regroup) refl
  plain_same d inner (Plain.while word opening test closing body) rest = rw (any_same test, plain_same (d + 1) (d + 1) body, regroup) refl
  plain_same d inner (Plain.for word opening first semicolon test second step closing body) rest =
      rw (first_part_same first, optional_same test, last_part_same step, plain_same (d + 1) (d + 1) body, regroup, regroup, regroup) refl
  plain_same d inner (Plain.split word whole at index as_ left comma right opening body closing) rest =
      rw (any_same index, statements_same (d + 1) body, regroup, regroup) refl
  plain_same d inner (Plain.return word value semicolon) rest = rw (optional_same value, regroup) refl
  plain_same d inner (Plain.print word opening value closing semicolon) rest = rw (any_same value, regroup) refl
  plain_same d inner (Plain.sync word semicolon) rest = refl
  plain_same d inner (Plain.spawn word call semicolon) rest = rw (call_same call, regroup) refl
  plain_same d inner (Plain.spawn_into x assign word call semicolon) rest = rw (call_same call, regroup) refl

  statements_same : (d : ℕ) (s : Statements) (rest : List LocatedToken) → statements_then s rest ≡ located_tokens (statements_tokens d s) ++ rest
  statements_same d Statements.none rest = refl
  statements_same d (Statements.declare declaration semicolon more) rest =
      rw (declaration_same (Quantity.depth d) declaration, statements_same d more, regroup) refl
  statements_same d (Statements.plain first more) rest = rw (plain_same d (d + 1) first, statements_same d more, regroup) refl

parameter_same : (p : Parameter) (rest : List LocatedToken) → parameter_then p rest ≡ located_tokens (parameter_tokens p) ++ rest
parameter_same (Parameter.scalar int_at x) rest = refl
parameter_same (Parameter.slice int_at a opening closing) rest = refl
parameter_same (Parameter.pointer int_at star p) rest = refl

parameter_list_same : (p : ParameterList) (rest : List LocatedToken) → parameter_list_then p rest ≡ located_tokens (parameter_list_tokens p) ++ rest
parameter_list_same (ParameterList.last one) rest = parameter_same one rest
parameter_list_same (ParameterList.before one comma more) rest = rw (parameter_same one, parameter_list_same more, regroup) refl

parameters_same : (p : Parameters) (rest : List LocatedToken) → parameters_then p rest ≡ located_tokens (parameters_tokens p) ++ rest
parameters_same Parameters.none rest = refl
parameters_same (Parameters.void at) rest = refl
parameters_same (Parameters.list all) rest = parameter_list_same all rest

cilk_same : (at : Option Offset) (rest : List LocatedToken) → cilk_then at rest ≡ located_tokens (cilk_tokens at) ++ rest
cilk_same None rest = refl
cilk_same (Some at) rest = refl

function_same : (f : grammar.Function) (rest : List LocatedToken) → function_then f rest ≡ located_tokens (function_tokens f) ++ rest
function_same f rest = rw (cilk_same f.cilk_at, parameters_same f.parameters, statements_same 1 f.body, regroup, regroup, regroup) refl

pub program_same : (p : grammar.Program) (rest : List LocatedToken) → program_then p rest ≡ located_tokens (program_tokens p) ++ rest
program_same (grammar.Program.last f) rest = function_same f rest
program_same (grammar.Program.before f more) rest =
    function_same f (program_then more rest) ∙
    (ap (λ x. located_tokens (function_tokens f) ++ x) (program_same more rest) ∙ sym (regroup (function_tokens f) (program_tokens more) rest))
