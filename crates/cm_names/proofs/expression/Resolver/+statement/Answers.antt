use Rattle.std.proofs.Common.{refl, ap, ◌∙◌, arith}
use Rattle.cm_syntax.specs.declared.stmt.Stmt.TheVariants as statement
use Rattle.cm_names.proofs.SizeLaw.{statement_size, body_size, size-If, size-While, size-For, size-Block, size-Split, statement_smaller}
use Rattle.cm_names.proofs.StatementLaw.{does_own, hands_on, no_declaration-If, no_declaration-While, no_declaration-For, passes, passes_inner, passes_block, own_while, own_if_alone, own_if_else, own_for, own_split, passes_parts, own_call, own_print, own_block}
use Rattle.cm_names.proofs.expression.Resolver.+statement.Goals as goal

pub body-statement-requires : goal.body-statement-requires
body-statement-requires t c = let h = statement_smaller _ _ _ c.loop-statement-test.true c.statement-item.is in omega (arith, c.decreases)

pub statement-choice-requires : goal.statement-choice-requires
statement-choice-requires t c = let h = ap statement_size c.in-If.is ∙ size-If c.in-If.test c.in-If.then c.in-If.other in omega (arith, c.decreases)

pub statement-while_loop-requires : goal.statement-while_loop-requires
statement-while_loop-requires t c = let h = ap statement_size c.in-While.is ∙ size-While c.in-While.test c.in-While.body in omega (arith, c.decreases)

pub statement-for_loop-requires : goal.statement-for_loop-requires
statement-for_loop-requires t c =
    let h = ap statement_size c.in-For.is ∙ size-For c.in-For.first c.in-For.test c.in-For.step c.in-For.body in omega (arith, c.decreases)

pub statement-split-requires : goal.statement-split-requires
statement-split-requires t c =
    let h = ap statement_size c.in-Split.is ∙ size-Split c.in-Split.whole c.in-Split.place c.in-Split.left c.in-Split.right c.in-Split.body c.in-Split.close in
    omega (arith, c.decreases)

pub statement-block-requires : goal.statement-block-requires
statement-block-requires t c =
    let h = ap statement_size c.in-Block.is ∙ size-Block c.in-Block.body in let i = ap body_size c.items-in-Block.ensures in omega (arith, c.decreases)

pub while_loop-returns : goal.while_loop-returns
while_loop-returns t c =
    own_while c.args.self.now.functions.now c.args.self.now.function.now c.args.test.now c.args.body.now c.get.result.now _ _ _ _ _ c.get.ensures
    c.in_ok-test.ensures c.in_ok-body.ensures

pub inner-returns : goal.inner-returns
inner-returns t c =
    passes_inner c.args.self.now.functions.now c.args.self.now.function.now c.in_ok-base.base c.args.statement.now c.args.pass.now _ _ c.in_ok-base.ensures c.in_ok-resolved.ensures

pub passing-returns : goal.passing-returns
passing-returns t c =
    passes c.args.self.now.functions.now c.args.self.now.function.now c.args.base c.args.statement.now c.args.pass.now _ _ _ _ c.in_ok-statement.ensures
    c.take_back.ensures c.in_ok-resolved.ensures

pub block-returns : goal.block-returns
block-returns t c =
    passes_block c.args.self.now.functions.now c.args.self.now.function.now c.in_ok-base.base c.args.body.now c.args.pass.now _ _ _ c.in_ok-base.ensures
    c.in_ok-resolved.ensures c.take_back_body.ensures

pub choice-returns-in-None : goal.choice-returns-in-None
choice-returns-in-None t c =
    own_if_alone c.args.self.now.functions.now c.args.self.now.function.now c.args.test.now c.args.then.now c.get.result.now c.args.other.now _ _ _ _ _
    c.in-None.is c.get.ensures c.in_ok-test.ensures c.in_ok-then.ensures

pub choice-returns-in_ok-other-in-Some : goal.choice-returns-in_ok-other-in-Some
choice-returns-in_ok-other-in-Some t c =
    own_if_else c.args.self.now.functions.now c.args.self.now.function.now c.args.test.now c.args.then.now c.get.result.now c.args.other.now _ c.get-in-Some.result.now
    _ _ _ _ _ _ _ c.in-Some.is c.get.ensures c.get-in-Some.ensures c.in_ok-test.ensures c.in_ok-then.ensures c.in_ok-other-in-Some.ensures

pub for_loop-returns : goal.for_loop-returns
for_loop-returns t c =
    own_for c.args.self.now.functions.now c.args.self.now.function.now c.in_ok-base.base c.args.first.now c.get.result.now c.get-4.result.now c.args.test.now
    c.args.step.now c.get-2.result.now c.args.body.now c.get-3.result.now c.args.pass.now _ _ _ _ _ _ _ _ _ _ c.in_ok-base.ensures c.get.ensures c.get-4.ensures
    c.get-2.ensures c.get-3.ensures c.in_ok-header.ensures c.in_ok-statement.ensures c.in_ok-test.ensures c.in_ok-step.ensures c.in_ok-body.ensures c.take_back.ensures

pub split-returns : goal.split-returns
split-returns t c =
    own_split c.args.self.now.functions.now c.args.self.now.function.now c.args.whole.now c.args.place.now c.args.left.now c.args.right.now c.args.body.now c.items.result.now c.args.close
    _ _ _ _ _ _ _ _ c.items.ensures c.mentioned-mention.ensures c.in_ok-place.ensures c.note_same.ensures c.in_ok-parts.ensures

pub parts-returns : goal.parts-returns
parts-returns t c =
    passes_parts c.args.self.now.functions.now c.args.self.now.function.now c.args.whole.now c.args.left.now c.args.right.now c.args.body.now c.args.pass.now _ _ _
    c.pop-hidden.result c.pop-hidden.new.self c.pop.new.self c.pop-2.new.self _ _ _ _ c.pop-hidden.ensures.nearest c.pop-hidden.ensures.rest c.in_ok-first.ensures c.in_ok-second.ensures c.in_ok-resolved.ensures
    c.pop.ensures.rest c.pop-2.ensures.rest c.in_ok-show_again.ensures

pub statement-returns-in-Assign : goal.statement-returns-in-Assign
statement-returns-in-Assign t c =
    hands_on c.args.self.now.functions.now c.args.self.now.function.now c.args.base _ (statement.Assign c.in-Assign.target c.in-Assign.op c.in-Assign.value) c.args.pass.now _ _
    c.in-Assign.is refl c.assignment.ensures

pub statement-returns-in_ok-call-in-Call : goal.statement-returns-in_ok-call-in-Call
statement-returns-in_ok-call-in-Call t c =
    does_own c.args.self.now.functions.now c.args.self.now.function.now c.args.base _ (statement.Call c.in-Call.call) c.args.pass.now _ _ c.in-Call.is refl
    (own_call c.args.self.now.functions.now c.args.self.now.function.now c.in-Call.call c.args.pass.now _ _ c.in_ok-call-in-Call.ensures)

pub statement-returns-in-Spawn : goal.statement-returns-in-Spawn
statement-returns-in-Spawn t c =
    hands_on c.args.self.now.functions.now c.args.self.now.function.now c.args.base _ (statement.Spawn c.in-Spawn.at c.in-Spawn.target c.in-Spawn.call) c.args.pass.now _ _
    c.in-Spawn.is refl c.spawn.ensures

pub statement-returns-in-If : goal.statement-returns-in-If
statement-returns-in-If t c =
    hands_on c.args.self.now.functions.now c.args.self.now.function.now c.args.base _ (statement.If c.in-If.test c.in-If.then c.in-If.other) c.args.pass.now _ _
    c.in-If.is (no_declaration-If c.in-If.test c.in-If.then c.in-If.other) c.choice.ensures

pub statement-returns-in-While : goal.statement-returns-in-While
statement-returns-in-While t c =
    hands_on c.args.self.now.functions.now c.args.self.now.function.now c.args.base _ (statement.While c.in-While.test c.in-While.body) c.args.pass.now _ _
    c.in-While.is (no_declaration-While c.in-While.test c.in-While.body) c.while_loop.ensures

pub statement-returns-in-For : goal.statement-returns-in-For
statement-returns-in-For t c =
    hands_on c.args.self.now.functions.now c.args.self.now.function.now c.args.base _ (statement.For c.in-For.first c.in-For.test c.in-For.step c.in-For.body) c.args.pass.now _ _
    c.in-For.is (no_declaration-For c.in-For.first c.in-For.test c.in-For.step c.in-For.body) c.for_loop.ensures

pub statement-returns-in-Split : goal.statement-returns-in-Split
statement-returns-in-Split t c =
    hands_on c.args.self.now.functions.now c.args.self.now.function.now c.args.base _
    (statement.Split c.in-Split.whole c.in-Split.place c.in-Split.left c.in-Split.right c.in-Split.body c.in-Split.close) c.args.pass.now _ _
    c.in-Split.is refl c.split.ensures

pub statement-returns-in-Return : goal.statement-returns-in-Return
statement-returns-in-Return t c =
    hands_on c.args.self.now.functions.now c.args.self.now.function.now c.args.base _ (statement.Return c.in-Return.at c.in-Return.value) c.args.pass.now _ _
    c.in-Return.is refl c.return_statement.ensures

pub statement-returns-in_ok-value-in-Print : goal.statement-returns-in_ok-value-in-Print
statement-returns-in_ok-value-in-Print t c =
    does_own c.args.self.now.functions.now c.args.self.now.function.now c.args.base _ (statement.Print c.in-Print.value) c.args.pass.now _ _ c.in-Print.is refl
    (own_print c.args.self.now.functions.now c.args.self.now.function.now c.in-Print.value c.args.pass.now _ _ c.in_ok-value-in-Print.ensures)

pub statement-returns-in_ok-body-in-Block : goal.statement-returns-in_ok-body-in-Block
statement-returns-in_ok-body-in-Block t c =
    does_own c.args.self.now.functions.now c.args.self.now.function.now c.args.base _ (statement.Block c.in-Block.body) c.args.pass.now _ _ c.in-Block.is refl
    (own_block c.args.self.now.functions.now c.args.self.now.function.now c.in-Block.body c.items-in-Block.result.now c.args.pass.now _ _ c.items-in-Block.ensures
    c.in_ok-body-in-Block.ensures)
