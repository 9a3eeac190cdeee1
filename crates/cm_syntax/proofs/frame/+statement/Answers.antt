use Rattle.std.proofs.Common.{ap, arith, refl, sym, ◌∙◌}
use Rattle.std.proofs.lemmas.List.{drop_all}
use Rattle.cm_syntax.specs.Frame as frame
use Rattle.cm_syntax.proofs.FrameLaw.{most_of_next}
use Rattle.cm_syntax.proofs.StatementLaw.{chooses_alone, chooses, tests, repeats, counts, holds-Block, holds-Split, follows}
use Rattle.cm_syntax.proofs.frame.+statement.Goals as goal

pub statement_temporaries-statement_temporaries-requires : goal.statement_temporaries-statement_temporaries-requires
statement_temporaries-statement_temporaries-requires g t c =
    let parts = tests _ _ _ _ _ c.in-If.is c.get.ensures in
    λ κs h. (omega (arith, c.decreases), h)

pub statement_temporaries-returns-in-None : goal.statement_temporaries-returns-in-None
statement_temporaries-returns-in-None g t c =
    let parts = chooses_alone _ _ _ _ _ c.in-If.is c.in-None.is c.get.ensures in
    omega arith

pub statement_temporaries-statement_temporaries-requires-in-Some : goal.statement_temporaries-statement_temporaries-requires-in-Some
statement_temporaries-statement_temporaries-requires-in-Some g t c =
    let parts = chooses _ _ _ _ _ _ _ c.in-If.is c.in-Some.is c.get.ensures c.get-in-Some.ensures in
    λ κs h. (omega (arith, c.decreases), h)

pub statement_temporaries-returns-in-Some : goal.statement_temporaries-returns-in-Some
statement_temporaries-returns-in-Some g t c =
    let parts = chooses _ _ _ _ _ _ _ c.in-If.is c.in-Some.is c.get.ensures c.get-in-Some.ensures in
    omega arith

pub statement_temporaries-statement_temporaries-requires-in-While : goal.statement_temporaries-statement_temporaries-requires-in-While
statement_temporaries-statement_temporaries-requires-in-While g t c =
    let parts = repeats _ _ _ _ c.in-While.is c.get-in-While.ensures in
    λ κs h. (omega (arith, c.decreases), h)

pub statement_temporaries-returns-in-While : goal.statement_temporaries-returns-in-While
statement_temporaries-returns-in-While g t c =
    let parts = repeats _ _ _ _ c.in-While.is c.get-in-While.ensures in
    omega arith

pub statement_temporaries-statement_temporaries-requires-in-For : goal.statement_temporaries-statement_temporaries-requires-in-For
statement_temporaries-statement_temporaries-requires-in-For g t c =
    let parts = counts _ _ _ _ _ _ c.in-For.step c.in-For.body c.in-For.is c.get-in-For.ensures refl refl in
    λ κs h. (omega (arith, c.decreases), h)

pub statement_temporaries-statement_temporaries-requires-in-For-2 : goal.statement_temporaries-statement_temporaries-requires-in-For-2
statement_temporaries-statement_temporaries-requires-in-For-2 g t c =
    let parts = counts _ _ _ _ _ c.in-For.first _ c.in-For.body c.in-For.is refl c.get-in-For-2.ensures refl in
    λ κs h. (omega (arith, c.decreases), h)

pub statement_temporaries-statement_temporaries-requires-in-For-3 : goal.statement_temporaries-statement_temporaries-requires-in-For-3
statement_temporaries-statement_temporaries-requires-in-For-3 g t c =
    let parts = counts _ _ _ _ _ c.in-For.first c.in-For.step _ c.in-For.is refl refl c.get-in-For-3.ensures in
    λ κs h. (omega (arith, c.decreases), h)

pub statement_temporaries-returns-in-For : goal.statement_temporaries-returns-in-For
statement_temporaries-returns-in-For g t c =
    let parts = counts _ _ _ _ _ _ _ _ c.in-For.is c.get-in-For.ensures c.get-in-For-2.ensures c.get-in-For-3.ensures in
    omega arith

pub statement_temporaries-statements_temporaries-inside-requires : goal.statement_temporaries-statements_temporaries-inside-requires
statement_temporaries-statements_temporaries-inside-requires g t c =
    let parts = holds-Split _ _ _ _ _ _ _ _ c.in-Split.is c.items-in-Split.ensures in
    λ κs h. (omega (arith, c.decreases), h)

pub statement_temporaries-returns-in-Split : goal.statement_temporaries-returns-in-Split
statement_temporaries-returns-in-Split g t c =
    let parts = holds-Split _ _ _ _ _ _ _ _ c.in-Split.is c.items-in-Split.ensures in
    omega arith

pub statement_temporaries-statements_temporaries-requires : goal.statement_temporaries-statements_temporaries-requires
statement_temporaries-statements_temporaries-requires g t c =
    let parts = holds-Block _ _ _ c.in-Block.is c.items-in-Block.ensures in
    λ κs h. (omega (arith, c.decreases), h)

pub statement_temporaries-returns-in-Block : goal.statement_temporaries-returns-in-Block
statement_temporaries-returns-in-Block g t c =
    let parts = holds-Block _ _ _ c.in-Block.is c.items-in-Block.ensures in
    omega arith

pub statements_temporaries-statement_temporaries-requires : goal.statements_temporaries-statement_temporaries-requires
statements_temporaries-statement_temporaries-requires g t c =
    let part = follows _ _ _ c.loop-statement-test.true c.statement-item.is in
    λ κs h. (omega (arith, c.decreases), h)

pub statements_temporaries-loop-statement-preserved : goal.statements_temporaries-loop-statement-preserved
statements_temporaries-loop-statement-preserved g t c =
    let part = follows _ _ _ c.loop-statement-test.true c.statement-item.is in
    most_of_next _ _ _ _ _ _ _ part.most c.statement_temporaries.ensures c.max-most.ensures c.loop-statement.invariant

pub statements_temporaries-returns : goal.statements_temporaries-returns
statements_temporaries-returns g t c =
    let none = drop_all c.loop-statement.statement-index c.args.statements.now c.loop-statement-test.false in
    let last = ap frame.body_temporaries none in
    omega (arith, c.loop-statement.invariant)

pub statement_temporaries-returns-in-Spawn : goal.statement_temporaries-returns-in-Spawn
statement_temporaries-returns-in-Spawn g t c =
    c.call_temporaries-in-Spawn.ensures ∙ sym (ap (λ s. frame.capped (frame.statement_temporaries s)) c.in-Spawn.is)
