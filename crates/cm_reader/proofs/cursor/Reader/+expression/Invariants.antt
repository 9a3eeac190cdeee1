use Rattle.std.proofs.Common.{◌≡◌, ◌≤◌, ◌<◌, ◌+◌, ◌*◌, ℕ, List, length}
use Rattle.cm_syntax.specs.declared.name.Name.{Name}
use Rattle.cm_syntax.specs.declared.expr.Expr.{Expr}
use Rattle.cm_syntax.specs.declared.expr.Arg.{Arg}
use Rattle.cm_syntax.specs.Parser.{State, whole}
use Rattle.cm_reader.specs.Read.{answer}
use Rattle.cm_reader.proofs.cursor.Reader.+expression.Given as goal

abbrev pub decreases-parenthesized : goal.decreases-parenthesized
decreases-parenthesized l = 8 * length l.tokens.now

abbrev pub decreases-named_operand : goal.decreases-named_operand
decreases-named_operand l = 8 * length l.tokens.now + 7

abbrev pub decreases-input : goal.decreases-input
decreases-input l = 8 * length l.tokens.now

abbrev pub decreases-primary : goal.decreases-primary
decreases-primary l = 8 * length l.tokens.now + 1

abbrev pub decreases-operand : goal.decreases-operand
decreases-operand l = 8 * length l.tokens.now + 2

abbrev pub decreases-expression : goal.decreases-expression
decreases-expression l = 8 * length l.tokens.now + 3

abbrev pub decreases-value : goal.decreases-value
decreases-value l = 8 * length l.tokens.now + 4

abbrev pub decreases-argument : goal.decreases-argument
decreases-argument l = 8 * length l.tokens.now + 5

abbrev pub decreases-index : goal.decreases-index
decreases-index l = 8 * length l.tokens.now + 5

abbrev pub decreases-arguments : goal.decreases-arguments
decreases-arguments l = 8 * length l.tokens.now + 6

abbrev pub invariant-arguments-loop-rest : goal.invariant-arguments-loop-rest
invariant-arguments-loop-rest l = record {
  reads : (k : List (Arg Name) → State) → answer l.self.length (State.first_argument k) l.tokens ≡ answer l.self.length (State.more_arguments l.arguments k) l.rest;
  shorter : length l.rest < length l.tokens;
}

abbrev pub decreases-arguments-loop-rest : goal.decreases-arguments-loop-rest
decreases-arguments-loop-rest l = length l.rest

abbrev pub invariant-expression-loop-op : goal.invariant-expression-loop-op
invariant-expression-loop-op l = record {
  reads : (k : Expr Name → ℕ → State) → answer l.self.length (whole l.level l.operators k) l.tokens ≡
      answer l.self.length (State.operators l.level l.count l.left k) l.rest;
  shorter : length l.rest < length l.tokens;
  few : l.count ≤ 64;
}

abbrev pub decreases-expression-loop-op : goal.decreases-expression-loop-op
decreases-expression-loop-op l = length l.rest
