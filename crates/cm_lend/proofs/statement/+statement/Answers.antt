use Rattle.std.proofs.Common.{sym, subst, ◌∙◌, ap, ◌+◌, drop}
use Rattle.std.proofs.lemmas.List.{drop_all}
use Rattle.std.specs.Result.{IfOk}
use Rattle.cm_syntax.specs.Walk.{nothing, next}
use Rattle.cm_syntax.specs.Evaluation.{expression_order, statement_order, body_order}
use Rattle.cm_lend.specs.Summary.{Sums}
use Rattle.cm_lend.proofs.TreeLaw.{order_While, order_IfAlone, order_IfElse, order_Block, order_Split, order_For, body_follows, sums_got_statement}
use Rattle.cm_lend.proofs.AlikeLaw.{IsDone, none_done, all_done, more_done}
use Rattle.cm_lend.proofs.statement.+statement.Goals as goal

pub statement_of-returns-in-None : goal.statement_of-returns-in-None
statement_of-returns-in-None t c =
    let test = expression_order c.in-If.test in
    let chosen = statement_order c.in-If.then in
    subst (λ o. IfOk c.branches.result (Sums o)) (sym (order_IfAlone _ c.in-If.test c.in-If.then c.in-If.other c.in-If.is c.in-None.is))
    (c.branches.ensures test chosen nothing c.in_ok-condition-in-If.ensures
    (sums_got_statement _ _ _ c.get.ensures c.in_ok-chosen-in-If.ensures) c.nothing.ensures)

pub statement_of-returns-in_ok-second-in-Some : goal.statement_of-returns-in_ok-second-in-Some
statement_of-returns-in_ok-second-in-Some t c =
    let test = expression_order c.in-If.test in
    let chosen = statement_order c.in-If.then in
    subst (λ o. IfOk c.branches-in-Some.result (Sums o))
    (sym (order_IfElse _ c.in-If.test c.in-If.then c.in-If.other c.in-Some.other c.in-If.is c.in-Some.is))
    (c.branches-in-Some.ensures test chosen (statement_order c.in-Some.other) c.in_ok-condition-in-If.ensures
    (sums_got_statement _ _ _ c.get.ensures c.in_ok-chosen-in-If.ensures)
    (sums_got_statement _ _ _ c.get-in-Some.ensures c.in_ok-second-in-Some.ensures))

pub statement_of-returns-in_ok-turn-in-While : goal.statement_of-returns-in_ok-turn-in-While
statement_of-returns-in_ok-turn-in-While t c =
    subst (λ o. IfOk c.while_loop.result (Sums o)) (sym (order_While _ c.in-While.test c.in-While.body c.in-While.is))
    (c.while_loop.ensures (statement_order c.in-While.body) (sums_got_statement _ _ _ c.get-in-While.ensures c.in_ok-turn-in-While.ensures))

pub statement_of-returns-in_ok-turn-in-For : goal.statement_of-returns-in_ok-turn-in-For
statement_of-returns-in_ok-turn-in-For t c =
    let first = statement_order c.in-For.first in
    let step = statement_order c.in-For.step in
    let body = statement_order c.in-For.body in
    subst (λ o. IfOk c.for_loop.result (Sums o))
    (sym (order_For _ c.in-For.first c.in-For.step c.in-For.body c.in-For.test c.in-For.is))
    (c.for_loop.ensures first (next body step)
    (sums_got_statement _ _ _ c.get-in-For.ensures c.in_ok-before-in-For.ensures)
    (c.in_ok-turn-in-For.ensures body step
    (sums_got_statement _ _ _ c.get-in-For-2.ensures c.in_ok-inside-in-For.ensures)
    (sums_got_statement _ _ _ c.get-in-For-3.ensures c.in_ok-after-in-For.ensures)))

pub statement_of-returns-in_ok-inside-in-Split : goal.statement_of-returns-in_ok-inside-in-Split
statement_of-returns-in_ok-inside-in-Split t c =
    subst (λ o. IfOk c.split.result (Sums o))
    (sym (order_Split _ c.in-Split.whole c.in-Split.place c.in-Split.left c.in-Split.right c.in-Split.body c.in-Split.close c.in-Split.is))
    (c.split.ensures (expression_order c.in-Split.place) (body_order c.in-Split.body) c.in_ok-index-in-Split.ensures
    (subst (λ xs. Sums (body_order xs) c.in_ok-inside-in-Split.inside) c.items.ensures c.in_ok-inside-in-Split.ensures))

pub statement_of-returns-in-Block : goal.statement_of-returns-in-Block
statement_of-returns-in-Block t c =
    subst (λ o. IfOk c.statements-in-Block.result (Sums o)) (ap body_order c.items-in-Block.ensures ∙ sym (order_Block _ c.in-Block.body c.in-Block.is)) c.statements-in-Block.ensures

pub statements-loop-statement-init : goal.statements-loop-statement-init
statements-loop-statement-init t c = none_done (body_order c.args.body.now) c.nothing-whole.result c.nothing-whole.ensures

pub statements-loop-statement-preserved : goal.statements-loop-statement-preserved
statements-loop-statement-preserved t c =
    let body = c.args.body.now in
    let i = c.loop-statement.statement-index in
    more_done (body_order body) (statement_order c.statement-item.result) (body_order (drop (i + 1) body)) (body_order (drop i body))
    c.loop-statement.whole c.in_ok-statement_of.field-0 c.in_ok-whole.whole c.loop-statement.invariant
    (body_follows body i c.statement-item.result c.loop-statement-test.true c.statement-item.is) c.in_ok-statement_of.ensures c.in_ok-whole.ensures

pub statements-returns : goal.statements-returns
statements-returns t c =
    let body = c.args.body.now in
    all_done (body_order body) c.loop-statement.whole
    (subst (λ xs. IsDone (body_order body) (body_order xs) c.loop-statement.whole) (drop_all c.loop-statement.statement-index body c.loop-statement-test.false)
    c.loop-statement.invariant)
