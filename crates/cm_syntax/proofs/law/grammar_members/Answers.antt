use Rattle.std.proofs.Common.{List, [], Bool, true, false, None, refl, arith, codes}
use Rattle.cm_syntax.specs.declared.name.Name.{Name}
use Rattle.cm_syntax.specs.declared.stmt.Stmt.{Stmt}
use Rattle.cm_syntax.specs.Token.{LocatedToken}
use Rattle.cm_syntax.specs.Grammar.{IsPlain}
use Rattle.cm_syntax.specs.ParseTree.{Mark, Expression, Argument, AnyExpression, Simple, Plain, Statements, Parameter, Parameters}
use Rattle.cm_syntax.specs.ParseTree as grammar
use Rattle.cm_syntax.proofs.law.grammar_members.Goals as goal

abbrev x : Mark
x = record { name = codes "x"; at = 0 }

abbrev one : AnyExpression
one = AnyExpression.any (Expression.literal 0 1)

abbrev main : grammar.Function
main = record {
  cilk_at = None;
  gives = true;
  type_at = 0;
  name = x;
  opening = 0;
  parameters = Parameters.none;
  closing = 0;
  body_opening = 0;
  body = Statements.none;
  body_closing = 0;
}

pub returns-clause-expression : goal.returns-clause-expression
returns-clause-expression c = λ level le. (_, _, (12, le, Expression.variable x, refl, refl))

pub returns-clause-primary : goal.returns-clause-primary
returns-clause-primary c = (_, _, (12, omega arith, Expression.variable x, refl, refl))

pub returns-clause-argument : goal.returns-clause-argument
returns-clause-argument c = (_, _, (Argument.address 0 x, refl, refl))

pub returns-clause-item : goal.returns-clause-item
returns-clause-item c = (_, _, (grammar.Item.scalar x, refl, refl))

pub returns-clause-declaration : goal.returns-clause-declaration
returns-clause-declaration c = (_, _, (record { int_at = 0; items = grammar.Items.last (grammar.Item.scalar x) }, refl, refl))

pub returns-clause-call : goal.returns-clause-call
returns-clause-call c = (_, _, (grammar.Call.alone x 0 0, refl, refl))

pub returns-clause-items : goal.returns-clause-items
returns-clause-items c = (_, _, (grammar.Items.last (grammar.Item.scalar x), refl, refl))

pub returns-clause-target : goal.returns-clause-target
returns-clause-target c = (_, _, (grammar.Target.scalar x, refl, refl))

pub returns-clause-simple : goal.returns-clause-simple
returns-clause-simple c = (_, _, (Simple.assign (grammar.Target.scalar x) 0 one, refl, refl))

plain : (is_open : Bool) → (tokens : List LocatedToken) × (tree : Stmt Name) × IsPlain is_open tokens tree
plain true = (_, _, (Plain.if_alone 0 0 one 0 (Plain.empty 0), refl, refl))
plain false = (_, _, (Plain.empty 0, refl, refl))

pub returns-clause-plain : goal.returns-clause-plain
returns-clause-plain c = plain

pub returns-clause-statements : goal.returns-clause-statements
returns-clause-statements c = (_, _, (Statements.none, refl, refl))

pub returns-clause-statement : goal.returns-clause-statement
returns-clause-statement c = (_, _, (Statements.plain (Plain.empty 0) Statements.none, refl, refl))

pub returns-clause-block : goal.returns-clause-block
returns-clause-block c = (_, _, record { opening = 0; closing = 0; inside = []; statements = (Statements.none, refl, refl); parts = refl })

pub returns-clause-parameter : goal.returns-clause-parameter
returns-clause-parameter c = (_, _, (Parameter.scalar 0 x, refl, refl))

pub returns-clause-parameters : goal.returns-clause-parameters
returns-clause-parameters c = (_, _, (Parameters.none, refl, refl))

pub returns-clause-function : goal.returns-clause-function
returns-clause-function c = (_, _, (main, refl, refl))

pub returns-clause-program : goal.returns-clause-program
returns-clause-program c = (_, _, (grammar.Program.last main, refl, refl))
