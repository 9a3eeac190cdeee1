use Rattle.std.proofs.Common.{sym, subst, ◌∙◌, ap, ◌+◌, drop}
use Rattle.std.proofs.lemmas.List.{drop_all}
use Rattle.std.specs.Result.{IfOk}
use Rattle.cm_syntax.specs.Walk.{event, calls}
use Rattle.cm_syntax.specs.Evaluation.{expression_order, arguments_order, argument_order, mention_order, slices}
use Rattle.cm_lend.specs.Summary.{Sums}
use Rattle.cm_lend.proofs.TreeLaw.{order_Call, arguments_follow, order_Index, order_Input, order_Unary, order_Binary, sums_got}
use Rattle.cm_lend.proofs.AlikeLaw.{IsDone, none_done, all_done, more_done}
use Rattle.cm_lend.proofs.expression.+expression.Goals as goal

pub expression-returns-in_ok-whole-in-Index : goal.expression-returns-in_ok-whole-in-Index
expression-returns-in_ok-whole-in-Index t c =
    subst (λ o. Sums o c.in_ok-whole-in-Index.whole) (sym (order_Index _ c.in-Index.mark c.in-Index.index c.in-Index.is))
    (c.in_ok-whole-in-Index.ensures (expression_order c.in-Index.index) (mention_order c.in-Index.mark)
    (sums_got _ _ _ c.get.ensures c.in_ok-before-in-Index.ensures) c.in_ok-mention-in-Index.ensures)

pub expression-returns-in-Input : goal.expression-returns-in-Input
expression-returns-in-Input t c =
    subst (λ o. IfOk c.expression-in-Input.result (Sums o))
    (ap expression_order c.get-in-Input.ensures ∙ sym (order_Input _ c.in-Input.index c.in-Input.is)) c.expression-in-Input.ensures

pub expression-returns-in-Unary : goal.expression-returns-in-Unary
expression-returns-in-Unary t c =
    subst (λ o. IfOk c.expression-in-Unary.result (Sums o))
    (ap expression_order c.get-in-Unary.ensures ∙ sym (order_Unary _ _ c.in-Unary.operand c.in-Unary.is)) c.expression-in-Unary.ensures

pub expression-returns-in_ok-whole-in-Binary : goal.expression-returns-in_ok-whole-in-Binary
expression-returns-in_ok-whole-in-Binary t c =
    subst (λ o. Sums o c.in_ok-whole-in-Binary.whole) (sym (order_Binary _ c.in-Binary.op c.in-Binary.left c.in-Binary.right c.in-Binary.is))
    (c.in_ok-whole-in-Binary.ensures (expression_order c.in-Binary.left) (expression_order c.in-Binary.right)
    (sums_got _ _ _ c.get-in-Binary.ensures c.in_ok-first-in-Binary.ensures)
    (sums_got _ _ _ c.get-in-Binary-2.ensures c.in_ok-second-in-Binary.ensures))

pub call_of-returns : goal.call_of-returns
call_of-returns t c =
    let call = c.args.call.now in
    subst (λ o. Sums o c.in_ok-whole.whole) (order_Call call)
    (c.in_ok-whole.ensures (arguments_order call.arguments) (event (calls (slices call.arguments)))
    (subst (λ xs. Sums (arguments_order xs) c.in_ok-before.before) c.items.ensures c.in_ok-before.ensures)
    (subst (λ xs. Sums (event (calls (slices xs))) c.in_ok-passing.field-0) c.items-2.ensures c.in_ok-passing.ensures))

pub arguments-loop-argument-init : goal.arguments-loop-argument-init
arguments-loop-argument-init t c = none_done (arguments_order c.args.passed.now) c.nothing-whole.result c.nothing-whole.ensures

pub arguments-loop-argument-preserved : goal.arguments-loop-argument-preserved
arguments-loop-argument-preserved t c =
    let passed = c.args.passed.now in
    let i = c.loop-argument.argument-index in
    more_done (arguments_order passed) (argument_order c.argument-item.result) (arguments_order (drop (i + 1) passed)) (arguments_order (drop i passed))
    c.loop-argument.whole c.in_ok-argument_of.field-0 c.in_ok-whole.whole c.loop-argument.invariant
    (arguments_follow passed i c.argument-item.result c.loop-argument-test.true c.argument-item.is) c.in_ok-argument_of.ensures c.in_ok-whole.ensures

pub arguments-returns : goal.arguments-returns
arguments-returns t c =
    let passed = c.args.passed.now in
    all_done (arguments_order passed) c.loop-argument.whole
    (subst (λ xs. IsDone (arguments_order passed) (arguments_order xs) c.loop-argument.whole)
    (drop_all c.loop-argument.argument-index passed c.loop-argument-test.false) c.loop-argument.invariant)
