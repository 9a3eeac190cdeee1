use Rattle.std.proofs.Common.{sym, ap, refl, ◌∙◌, ◌++◌, ◌∷◌, [], true, arith}
use Rattle.std.proofs.lemmas.Bool.{ltb-true}
use Rattle.cm_syntax.specs.declared.expr.Expr.TheVariants as expression
use Rattle.cm_syntax.specs.declared.expr.Arg.TheVariants as argument
use Rattle.cm_syntax.specs.ParseTree.{level_of}
use Rattle.cm_syntax.specs.Yield.{Quantity}
use Rattle.cm_syntax.specs.Parser.{State}
use Rattle.cm_reader.specs.declared.start.PrimaryStart.TheVariants as primary
use Rattle.cm_reader.specs.Read.{answer}
use Rattle.cm_reader.proofs.StepLaw.{err_same, refused_on, ok_map, err_map}
use Rattle.cm_reader.proofs.ExpressionLaw.{operator_goes, operators_end, prefix_goes, primary_goes, primary_name, primary_group, primary_stuck, index_goes, call_goes, scalar_same, no_argument_goes, first_argument_same, address_goes, value_same, argument_comma_goes, arguments_end}
use Rattle.cm_reader.proofs.cursor.Reader.+expression.Goals as goal

pub argument-returns-in_err-rest-clause-err : goal.argument-returns-in_err-rest-clause-err
argument-returns-in_err-rest-clause-err t c =
    err_same _ c.from_residual.result c.in_err-rest.field-0.0 c.from_residual.ensures.1
    (λ before k. c.in_err-rest.ensures.err (State.next_argument before k) _ (address_goes before k c.args.tokens.now (sym c.is_next.ensures ∙ c.if-is_next.true)))

pub argument-returns-in_err-name-clause-err : goal.argument-returns-in_err-name-clause-err
argument-returns-in_err-name-clause-err t c =
    err_same _ c.from_residual-in_err-name.result c.in_err-name.field-0.0 c.from_residual-in_err-name.ensures.1
    (λ before k. refused_on _ (c.in_ok-rest.ensures.ok (State.next_argument before k) _ (address_goes before k c.args.tokens.now (sym c.is_next.ensures ∙ c.if-is_next.true))) (c.in_err-name.ensures.err (λ x. State.more_arguments (before ++ argument.Address x ∷ []) k)))

pub argument-returns-in_err-given-clause-err : goal.argument-returns-in_err-given-clause-err
argument-returns-in_err-given-clause-err t c =
    err_same _ c.from_residual-in_err-given.result c.in_err-given.field-0.0 c.from_residual-in_err-given.ensures.1
    (λ before k. refused_on _ (value_same c.args.self.length before k c.args.tokens.now (sym c.is_next.ensures ∙ c.if-is_next.false)) (c.in_err-given.ensures.err (λ e. State.more_arguments (before ++ argument.Value e ∷ []) k)))

pub argument-returns-in_ok-name-clause-ok : goal.argument-returns-in_ok-name-clause-ok
argument-returns-in_ok-name-clause-ok t c =
    λ before k. c.in_ok-rest.ensures.ok (State.next_argument before k) _ (address_goes before k c.args.tokens.now (sym c.is_next.ensures ∙ c.if-is_next.true)) ∙ c.in_ok-name.ensures.ok (λ x. State.more_arguments (before ++ argument.Address x ∷ []) k)

pub argument-returns-in_ok-given-clause-ok : goal.argument-returns-in_ok-given-clause-ok
argument-returns-in_ok-given-clause-ok t c =
    λ before k. value_same c.args.self.length before k c.args.tokens.now (sym c.is_next.ensures ∙ c.if-is_next.false) ∙ c.in_ok-given.ensures.ok (λ e. State.more_arguments (before ++ argument.Value e ∷ []) k)

pub arguments-returns-in_err-rest-clause-err : goal.arguments-returns-in_err-rest-clause-err
arguments-returns-in_err-rest-clause-err t c =
    err_same _ c.from_residual.result c.in_err-rest.field-0.0 c.from_residual.ensures.1
    (λ k. c.in_err-rest.ensures.err (State.first_argument k) _ (no_argument_goes k c.args.tokens.now (sym c.is_next.ensures ∙ c.if-is_next.true)))

pub arguments-returns-then-is_next-clause-ok : goal.arguments-returns-then-is_next-clause-ok
arguments-returns-then-is_next-clause-ok t c =
    λ k. c.in_ok-rest.ensures.ok (State.first_argument k) _ (no_argument_goes k c.args.tokens.now (sym c.is_next.ensures ∙ c.if-is_next.true)) ∙ ap (λ xs. answer c.args.self.length (k xs) c.in_ok-rest.rest.now) (sym c.new-arguments.ensures)

pub arguments-returns-in_err-first-clause-err : goal.arguments-returns-in_err-first-clause-err
arguments-returns-in_err-first-clause-err t c =
    err_same _ c.from_residual-in_err-first.result c.in_err-first.field-0.0 c.from_residual-in_err-first.ensures.1
    (λ k. refused_on _ (first_argument_same c.args.self.length k c.args.tokens.now (sym c.is_next.ensures ∙ c.if-is_next.false)) (c.in_err-first.ensures.err [] k))

pub arguments-returns-in_err-behind-clause-err : goal.arguments-returns-in_err-behind-clause-err
arguments-returns-in_err-behind-clause-err t c =
    err_same _ c.from_residual-in_err-behind.result c.in_err-behind.field-0.0 c.from_residual-in_err-behind.ensures.1
    (λ k. refused_on _ (c.loop-rest.invariant.reads k) (c.in_err-behind.ensures.err (State.more_arguments c.loop-rest.arguments k) _ (argument_comma_goes c.loop-rest.arguments k c.loop-rest.rest.now (sym c.is_next-in-loop-rest.ensures ∙ c.loop-rest-test.true))))

pub arguments-returns-in_err-more-clause-err : goal.arguments-returns-in_err-more-clause-err
arguments-returns-in_err-more-clause-err t c =
    err_same _ c.from_residual-in_err-more.result c.in_err-more.field-0.0 c.from_residual-in_err-more.ensures.1
    (λ k. refused_on _ (c.loop-rest.invariant.reads k ∙ c.in_ok-behind.ensures.ok (State.more_arguments c.loop-rest.arguments k) _ (argument_comma_goes c.loop-rest.arguments k c.loop-rest.rest.now (sym c.is_next-in-loop-rest.ensures ∙ c.loop-rest-test.true))) (c.in_err-more.ensures.err c.loop-rest.arguments k))

pub arguments-loop-rest-preserved : goal.arguments-loop-rest-preserved
arguments-loop-rest-preserved t c =
    record {
      reads = λ k. c.loop-rest.invariant.reads k ∙ (c.in_ok-behind.ensures.ok (State.more_arguments c.loop-rest.arguments k) _ (argument_comma_goes c.loop-rest.arguments k c.loop-rest.rest.now (sym c.is_next-in-loop-rest.ensures ∙ c.loop-rest-test.true)) ∙ (c.in_ok-more.ensures.ok c.loop-rest.arguments k ∙ ap (λ xs. answer c.args.self.length (State.more_arguments xs k) c.in_ok-more.end.now) (sym c.in_ok-push-2.ensures.ok)));
      shorter = omega (arith, c.in_ok-more.ensures.shorter, c.in_ok-behind.ensures.shorter, c.loop-rest.invariant.shorter);
    }

pub arguments-returns-in_err-rest-2-clause-err : goal.arguments-returns-in_err-rest-2-clause-err
arguments-returns-in_err-rest-2-clause-err t c =
    err_same _ c.from_residual-in_err-rest-2.result c.in_err-rest-2.field-0.0 c.from_residual-in_err-rest-2.ensures.1
    (λ k. refused_on _ (c.loop-rest.invariant.reads k ∙ arguments_end c.args.self.length c.loop-rest.arguments k c.loop-rest.rest.now (sym c.is_next-in-loop-rest.ensures ∙ c.loop-rest-test.false)) (c.in_err-rest-2.ensures.err (k c.loop-rest.arguments)))

pub expression-returns-in_err-behind-clause-err : goal.expression-returns-in_err-behind-clause-err
expression-returns-in_err-behind-clause-err t c =
    err_same _ c.from_residual-in_err-behind.result c.in_err-behind.field-0.0 c.from_residual-in_err-behind.ensures.1
    (λ k. refused_on _ (c.loop-op.invariant.reads k) (c.in_err-behind.ensures.err (State.operators c.args.level c.loop-op.count c.loop-op.left k) _ (operator_goes c.args.level c.loop-op.count (level_of c.in-Some.op) c.loop-op.left k c.in-Some.op c.loop-op.rest.now refl c.in-Some.ensures.found)))

pub expression-expression-requires : goal.expression-expression-requires
expression-expression-requires t c =
    let small = ltb-true c.loop-op.count 64 c.in_ok-behind.ensures.within in
    (omega (arith, c.decreases, c.in_ok-behind.ensures.shorter, c.loop-op.invariant.shorter), omega (arith, small))

pub expression-returns-in_err-right-clause-err : goal.expression-returns-in_err-right-clause-err
expression-returns-in_err-right-clause-err t c =
    err_same _ c.from_residual-in_err-right.result c.in_err-right.field-0.0 c.from_residual-in_err-right.ensures.1
    (λ k. refused_on _ (c.loop-op.invariant.reads k ∙ c.in_ok-behind.ensures.ok (State.operators c.args.level c.loop-op.count c.loop-op.left k) _ (operator_goes c.args.level c.loop-op.count c.level_of.result c.loop-op.left k c.in-Some.op c.loop-op.rest.now c.level_of.ensures c.in-Some.ensures.found)) (c.in_err-right.ensures.err (λ right m. State.operators c.args.level m (expression.Binary c.in-Some.op c.loop-op.left right) k)))

pub expression-loop-op-preserved : goal.expression-loop-op-preserved
expression-loop-op-preserved t c =
    record {
      reads = λ k. c.loop-op.invariant.reads k ∙ (c.in_ok-behind.ensures.ok (State.operators c.args.level c.loop-op.count c.loop-op.left k) _ (operator_goes c.args.level c.loop-op.count c.level_of.result c.loop-op.left k c.in-Some.op c.loop-op.rest.now c.level_of.ensures c.in-Some.ensures.found) ∙ (c.in_ok-right.ensures.ok (λ right m. State.operators c.args.level m (expression.Binary c.in-Some.op c.loop-op.left right) k) ∙ ap (λ e. answer c.args.self.length (State.operators c.args.level c.in_ok-right.more e k) c.in_ok-right.end.now) (sym c.in_ok-left-2.ensures.ok)));
      shorter = omega (arith, c.in_ok-right.ensures.shorter, c.in_ok-behind.ensures.shorter, c.loop-op.invariant.shorter);
      few = c.in_ok-right.ensures.few;
    }

pub expression-returns-clause-ok : goal.expression-returns-clause-ok
expression-returns-clause-ok t c =
    λ k. c.loop-op.invariant.reads k ∙ operators_end c.args.self.length c.args.level c.loop-op.count c.loop-op.left k c.loop-op.rest.now c.in_default.ensures.none

pub named_operand-returns-in_err-rest-clause-err : goal.named_operand-returns-in_err-rest-clause-err
named_operand-returns-in_err-rest-clause-err t c =
    err_same _ c.from_residual.result c.in_err-rest.field-0.0 c.from_residual.ensures.1
    (λ n k. c.in_err-rest.ensures.err (State.operand_name c.args.name n k) _ (index_goes c.args.name n k c.args.tokens.now (sym c.is_next.ensures ∙ c.if-is_next.true)))

pub named_operand-returns-in_err-place-clause-err : goal.named_operand-returns-in_err-place-clause-err
named_operand-returns-in_err-place-clause-err t c =
    err_same _ c.from_residual-in_err-place.result c.in_err-place.field-0.0 c.from_residual-in_err-place.ensures.1
    (λ n k. refused_on _ (c.in_ok-rest.ensures.ok (State.operand_name c.args.name n k) _ (index_goes c.args.name n k c.args.tokens.now (sym c.is_next.ensures ∙ c.if-is_next.true))) (c.in_err-place.ensures.err (λ e. k (expression.Index c.args.name e) n)))

pub named_operand-returns-in_ok-new-clause-ok : goal.named_operand-returns-in_ok-new-clause-ok
named_operand-returns-in_ok-new-clause-ok t c =
    λ n k. c.in_ok-rest.ensures.ok (State.operand_name c.args.name n k) _ (index_goes c.args.name n k c.args.tokens.now (sym c.is_next.ensures ∙ c.if-is_next.true)) ∙ (c.in_ok-place.ensures.ok (λ e. k (expression.Index c.args.name e) n) ∙ ap (λ e. answer c.args.self.length (k (expression.Index c.args.name e) n) c.in_ok-place.rest.now) (sym c.in_ok-new.ensures))

pub named_operand-returns-in_err-rest-2-clause-err : goal.named_operand-returns-in_err-rest-2-clause-err
named_operand-returns-in_err-rest-2-clause-err t c =
    err_same _ c.from_residual-in_err-rest-2.result c.in_err-rest-2.field-0.0 c.from_residual-in_err-rest-2.ensures.1
    (λ n k. c.in_err-rest-2.ensures.err (State.operand_name c.args.name n k) _ (call_goes c.args.name n k c.args.tokens.now (sym c.is_next.ensures ∙ c.if-is_next.false) (sym c.is_next-else-is_next.ensures ∙ c.if-is_next-2.true)))

pub named_operand-returns-in_err-arguments-clause-err : goal.named_operand-returns-in_err-arguments-clause-err
named_operand-returns-in_err-arguments-clause-err t c =
    err_same _ c.from_residual-in_err-arguments.result c.in_err-arguments.field-0.0 c.from_residual-in_err-arguments.ensures.1
    (λ n k. refused_on _ (c.in_ok-rest-2.ensures.ok (State.operand_name c.args.name n k) _ (call_goes c.args.name n k c.args.tokens.now (sym c.is_next.ensures ∙ c.if-is_next.false) (sym c.is_next-else-is_next.ensures ∙ c.if-is_next-2.true))) (c.in_err-arguments.ensures.err (λ arguments. k (expression.Call (record { function = c.args.name; arguments = arguments })) n)))

pub named_operand-returns-in_ok-arguments-clause-ok : goal.named_operand-returns-in_ok-arguments-clause-ok
named_operand-returns-in_ok-arguments-clause-ok t c =
    λ n k. c.in_ok-rest-2.ensures.ok (State.operand_name c.args.name n k) _ (call_goes c.args.name n k c.args.tokens.now (sym c.is_next.ensures ∙ c.if-is_next.false) (sym c.is_next-else-is_next.ensures ∙ c.if-is_next-2.true)) ∙ c.in_ok-arguments.ensures.ok (λ arguments. k (expression.Call (record { function = c.args.name; arguments = arguments })) n)

pub named_operand-returns-else-is_next-2-clause-ok : goal.named_operand-returns-else-is_next-2-clause-ok
named_operand-returns-else-is_next-2-clause-ok t c =
    λ n k. scalar_same c.args.self.length c.args.name n k c.args.tokens.now (sym c.is_next.ensures ∙ c.if-is_next.false) (sym c.is_next-else-is_next.ensures ∙ c.if-is_next-2.false)

pub operand-returns-in_err-rest-clause-err : goal.operand-returns-in_err-rest-clause-err
operand-returns-in_err-rest-clause-err t c =
    err_same _ c.from_residual-in_err-rest.result c.in_err-rest.field-0.0 c.from_residual-in_err-rest.ensures.1
    (λ k. c.in_err-rest.ensures.err (State.operand c.args.operators k) _ (prefix_goes c.args.operators k c.in-Some.op c.args.tokens.now (sym c.unary_operator.ensures ∙ c.in-Some.is)))

pub operand-returns-in_err-operand-clause-err : goal.operand-returns-in_err-operand-clause-err
operand-returns-in_err-operand-clause-err t c =
    err_same _ c.from_residual-in_err-operand.result c.in_err-operand.field-0.0 c.from_residual-in_err-operand.ensures.1
    (λ k. refused_on _ (c.in_ok-rest.ensures.ok (State.operand c.args.operators k) _ (prefix_goes c.args.operators k c.in-Some.op c.args.tokens.now (sym c.unary_operator.ensures ∙ c.in-Some.is))) (c.in_err-operand.ensures.err (λ e m. k (expression.Unary c.in-Some.op e) m)))

pub operand-operand-requires : goal.operand-operand-requires
operand-operand-requires t c =
    let small = ltb-true c.args.operators 64 c.in_ok-rest.ensures.within in
    (omega (arith, c.decreases, c.in_ok-rest.ensures.shorter), omega (arith, small))

pub operand-returns-clause-ok : goal.operand-returns-clause-ok
operand-returns-clause-ok t c =
    λ k. c.in_ok-rest.ensures.ok (State.operand c.args.operators k) _ (prefix_goes c.args.operators k c.in-Some.op c.args.tokens.now (sym c.unary_operator.ensures ∙ c.in-Some.is)) ∙ (c.in_ok-operand.ensures.ok (λ e m. k (expression.Unary c.in-Some.op e) m) ∙ ap (λ e. answer c.args.self.length (k (expression.Unary c.in-Some.op e) c.in_ok-operand.count) c.in_ok-operand.rest.now) (sym c.in_ok-new.ensures))

pub primary-returns-in_err-name-in-Name-clause-err : goal.primary-returns-in_err-name-in-Name-clause-err
primary-returns-in_err-name-in-Name-clause-err t c =
    err_same _ c.from_residual.result c.in_err-name-in-Name.field-0.0 c.from_residual.ensures.1
    (λ n k. c.in_err-name-in-Name.ensures.err (State.operand n k) (λ x. State.operand_name x n k) (primary_name n k c.args.tokens.now (sym c.primary_start.ensures ∙ c.in-Name.is)))

pub primary-returns-in_ok-name-in-Name-clause-ok : goal.primary-returns-in_ok-name-in-Name-clause-ok
primary-returns-in_ok-name-in-Name-clause-ok t c =
    ok_map c.named_operand.result (λ read h n k. c.in_ok-name-in-Name.ensures.ok (State.operand n k) (λ x. State.operand_name x n k) (primary_name n k c.args.tokens.now (sym c.primary_start.ensures ∙ c.in-Name.is)) ∙ h n k) c.named_operand.ensures.ok

pub primary-returns-in_ok-name-in-Name-clause-err : goal.primary-returns-in_ok-name-in-Name-clause-err
primary-returns-in_ok-name-in-Name-clause-err t c =
    err_map c.named_operand.result (λ refusal h n k. refused_on _ (c.in_ok-name-in-Name.ensures.ok (State.operand n k) (λ x. State.operand_name x n k) (primary_name n k c.args.tokens.now (sym c.primary_start.ensures ∙ c.in-Name.is))) (h n k)) c.named_operand.ensures.err

pub primary-returns-in-Group-clause-ok : goal.primary-returns-in-Group-clause-ok
primary-returns-in-Group-clause-ok t c =
    ok_map c.parenthesized.result (λ read h n k. primary_group c.args.self.length n k c.args.tokens.now c.requires (sym c.primary_start.ensures ∙ c.in-Group.is) ∙ h (λ e. k e n)) c.parenthesized.ensures.ok

pub primary-returns-in-Group-clause-err : goal.primary-returns-in-Group-clause-err
primary-returns-in-Group-clause-err t c =
    err_map c.parenthesized.result (λ refusal h n k. refused_on _ (primary_group c.args.self.length n k c.args.tokens.now c.requires (sym c.primary_start.ensures ∙ c.in-Group.is)) (h (λ e. k e n))) c.parenthesized.ensures.err

pub input-returns-in_err-rest-clause-err : goal.input-returns-in_err-rest-clause-err
input-returns-in_err-rest-clause-err t c =
    err_same _ c.from_residual.result c.in_err-rest.field-0.0 c.from_residual.ensures.1
    (λ n k. c.in_err-rest.ensures.err (State.operand n k) _ (primary_goes n k c.args.tokens.now primary.Input Quantity.nothing _ true c.requires.none c.requires.start (λ token at. refl) refl))

pub input-returns-in_err-place-clause-err : goal.input-returns-in_err-place-clause-err
input-returns-in_err-place-clause-err t c =
    err_same _ c.from_residual-in_err-place.result c.in_err-place.field-0.0 c.from_residual-in_err-place.ensures.1
    (λ n k. refused_on _ (c.in_ok-rest.ensures.ok (State.operand n k) _ (primary_goes n k c.args.tokens.now primary.Input Quantity.nothing _ true c.requires.none c.requires.start (λ token at. refl) refl)) (c.in_err-place.ensures.err (λ e. k (expression.Input e) n)))

pub input-returns-clause-ok : goal.input-returns-clause-ok
input-returns-clause-ok t c =
    λ n k. c.in_ok-rest.ensures.ok (State.operand n k) _ (primary_goes n k c.args.tokens.now primary.Input Quantity.nothing _ true c.requires.none c.requires.start (λ token at. refl) refl) ∙ (c.in_ok-place.ensures.ok (λ e. k (expression.Input e) n) ∙ ap (λ e. answer c.args.self.length (k (expression.Input e) n) c.in_ok-place.rest.now) (sym c.in_ok-new.ensures))

pub primary-returns-in-Nothing-clause-err : goal.primary-returns-in-Nothing-clause-err
primary-returns-in-Nothing-clause-err t c =
    λ n k. c.refuse.ensures (State.operand n k) (primary_stuck n k c.args.tokens.now c.requires (sym c.primary_start.ensures ∙ c.in-Nothing.is))

pub primary-number-requires : goal.primary-number-requires
primary-number-requires t c =
    record { none = c.requires; start = sym c.primary_start.ensures ∙ c.in-Number.is }
