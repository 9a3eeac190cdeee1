use Rattle.std.proofs.Common.{◌≡◌, ◌+◌, ◌-◌, ◌<◌, ◌++◌, List, length, drop, refl, sym, ap, ◌∙◌, arith, length-append, append_assoc}
use Rattle.std.proofs.lemmas.Result.{on_ok_weaker}
use Rattle.cm_syntax.proofs.StatementLaw as measure
use Rattle.cm_gen.specs.Part.{Part, straight}
use Rattle.cm_gen.specs.Statement.{statement_code, statement_size, part_code, turn_code, loop_code, body_code}
use Rattle.cm_gen.proofs.parts.CodeLaw.{behind_one}
use Rattle.cm_gen.proofs.parts.StatementLaw.{choice_made, choice_place, turn_made, first_made, closed_none, closed_some, renamed, alone-If, choice-If, repeats-While, counts-For, blocks-Block, splits-Split, body_fits_at, body_next}
use Rattle.cm_gen.proofs.statement.+statement.Goals as goal

pub choice-returns : goal.choice-returns
choice-returns t c =
    let old = c.args.code.now in
    let first = c.statement.new.code in
    let place = choice_place c.args.form c.args.layout.now c.args.other.now c.args.exit _ old first c.skip.new.self c.requires.exit c.in_ok-statement.ensures c.in_ok-skip.ensures in
    let chosen = c.in_ok-statement-2.ensures ∙ ap (λ n. statement_code c.args.form c.args.layout.now n c.args.chosen.now ++ c.skip.new.self) place in
    let other_code : List Part = statement_code c.args.form c.args.layout.now (length old - c.args.exit) c.args.other.now in
    let chosen_code : List Part = statement_code c.args.form c.args.layout.now (length old - c.args.exit + (statement_size c.args.form c.args.layout.now c.args.other.now + 1)) c.args.chosen.now in
    let m : c.len.result - c.len-behind.result ≡ length other_code = omega (arith, c.len.ensures, c.len-behind.ensures, ap length c.in_ok-statement.ensures, length-append other_code old) in
    let n : c.len-2.result - c.len-start.result + 1 ≡ length chosen_code + 1 = omega (arith, c.len-2.ensures, c.len-start.ensures, ap length chosen, length-append chosen_code c.skip.new.self) in
    on_ok_weaker _ (choice_made chosen_code other_code old first c.skip.new.self c.statement-2.new.code c.skip_unless.new.code (c.len.result - c.len-behind.result) (c.len-2.result - c.len-start.result + 1) c.in_ok-statement.ensures c.in_ok-skip.ensures m chosen n) c.skip_unless.ensures

pub count-returns-in-None : goal.count-returns-in-None
count-returns-in-None t c =
    let made = turn_made c.args.form c.args.layout.now c.args.step.now c.args.body.now c.args.exit c.args.code.now c.open.new.self c.statement.new.code c.statement-2.new.code c.requires.exit c.in_ok-open.ensures c.in_ok-statement.ensures c.in_ok-statement-2.ensures in
    let turn = turn_code c.args.form c.args.layout.now (length c.args.code.now - c.args.exit) c.args.step.now c.args.body.now in
    on_ok_weaker _ (closed_none c.args.layout.now c.args.test.now turn c.args.code.now c.statement-2.new.code c.endless_head.new.code c.len-behind.result made (sym c.len-behind.ensures) c.in-None.is) c.endless_head.ensures

pub count-returns-in-Some : goal.count-returns-in-Some
count-returns-in-Some t c =
    let made = turn_made c.args.form c.args.layout.now c.args.step.now c.args.body.now c.args.exit c.args.code.now c.open.new.self c.statement.new.code c.statement-2.new.code c.requires.exit c.in_ok-open.ensures c.in_ok-statement.ensures c.in_ok-statement-2.ensures in
    let turn = turn_code c.args.form c.args.layout.now (length c.args.code.now - c.args.exit) c.args.step.now c.args.body.now in
    on_ok_weaker _ (closed_some c.args.layout.now c.args.test.now c.in-Some.test turn c.args.code.now c.statement-2.new.code c.test_head.new.code c.len-behind.result made (sym c.len-behind.ensures) c.in-Some.is) c.test_head.ensures

pub statement-alone-requires : goal.statement-alone-requires
statement-alone-requires t c =
    let parts = alone-If _ _ _ c.get.result.now _ c.args.form c.args.layout.now 0 c.in-If.is c.in-None.is c.get.ensures c.requires.fits in
    (omega (arith, parts.smaller, c.decreases), (parts.fits, c.requires.exit))

pub statement-expression-requires : goal.statement-expression-requires
statement-expression-requires t c = (alone-If _ _ _ c.get.result.now _ c.args.form c.args.layout.now 0 c.in-If.is c.in-None.is c.get.ensures c.requires.fits).fits_test

pub statement-returns-in_ok-alone-in-None : goal.statement-returns-in_ok-alone-in-None
statement-returns-in_ok-alone-in-None t c =
    let parts = alone-If _ _ _ c.get.result.now _ c.args.form c.args.layout.now (length c.args.code.now - c.args.exit) c.in-If.is c.in-None.is c.get.ensures c.requires.fits in
    on_ok_weaker _ (behind_one _ _ _ _ _ _ c.in_ok-alone-in-None.ensures parts.code) c.expression.ensures

pub statement-choice-requires : goal.statement-choice-requires
statement-choice-requires t c =
    let parts = choice-If _ _ _ c.get-in-Some.result.now _ _ c.get-in-Some-2.result.now c.args.form c.args.layout.now 0 c.in-If.is c.in-Some.is c.get-in-Some.ensures c.get-in-Some-2.ensures c.requires.fits in
    (omega (arith, parts.smaller, c.decreases), (parts.fits_chosen, (parts.fits_other, c.requires.exit)))

pub statement-expression-requires-in-Some : goal.statement-expression-requires-in-Some
statement-expression-requires-in-Some t c = (choice-If _ _ _ c.get-in-Some.result.now _ _ c.get-in-Some-2.result.now c.args.form c.args.layout.now 0 c.in-If.is c.in-Some.is c.get-in-Some.ensures c.get-in-Some-2.ensures c.requires.fits).fits_test

pub statement-returns-in_ok-choice-in-Some : goal.statement-returns-in_ok-choice-in-Some
statement-returns-in_ok-choice-in-Some t c =
    let parts = choice-If _ _ _ c.get-in-Some.result.now _ _ c.get-in-Some-2.result.now c.args.form c.args.layout.now (length c.args.code.now - c.args.exit) c.in-If.is c.in-Some.is c.get-in-Some.ensures c.get-in-Some-2.ensures c.requires.fits in
    on_ok_weaker _ (behind_one _ _ _ _ _ _ c.in_ok-choice-in-Some.ensures parts.code) c.expression-in-Some.ensures

pub statement-repeat-requires : goal.statement-repeat-requires
statement-repeat-requires t c =
    let parts = repeats-While _ _ _ c.get-in-While.result.now c.args.form c.args.layout.now 0 c.in-While.is c.get-in-While.ensures c.requires.fits in
    (omega (arith, parts.smaller, c.decreases), (parts.fits_test, (parts.fits, c.requires.exit)))

pub statement-returns-in-While : goal.statement-returns-in-While
statement-returns-in-While t c =
    let parts = repeats-While _ _ _ c.get-in-While.result.now c.args.form c.args.layout.now (length c.args.code.now - c.args.exit) c.in-While.is c.get-in-While.ensures c.requires.fits in
    on_ok_weaker _ (renamed _ _ c.args.code.now c.repeat.new.code parts.code) c.repeat.ensures

pub statement-count-requires : goal.statement-count-requires
statement-count-requires t c =
    let parts = counts-For _ _ _ _ _ c.in-For.first c.get-in-For.result.now c.get-in-For-2.result.now c.in-For.is refl c.get-in-For.ensures c.get-in-For-2.ensures c.requires.fits in
    (omega (arith, parts.smaller, c.decreases), (parts.fits_test, (parts.fits_step, (parts.fits_body, c.requires.exit))))

pub statement-statement-requires : goal.statement-statement-requires
statement-statement-requires t c =
    let parts = counts-For _ _ _ _ _ c.get-in-For-3.result.now c.get-in-For.result.now c.get-in-For-2.result.now c.in-For.is c.get-in-For-3.ensures c.get-in-For.ensures c.get-in-For-2.ensures c.requires.fits in
    (omega (arith, parts.smaller_first, c.decreases), (parts.fits_first, omega (arith, c.requires.exit, ap length c.in_ok-count-in-For.ensures, length-append (loop_code c.args.layout.now c.in-For.test (turn_code c.args.form c.args.layout.now (length c.args.code.now - c.args.exit) c.get-in-For.result.now c.get-in-For-2.result.now)) c.args.code.now)))

pub statement-returns-in_ok-count-in-For : goal.statement-returns-in_ok-count-in-For
statement-returns-in_ok-count-in-For t c =
    let parts = counts-For _ _ _ _ _ c.get-in-For-3.result.now c.get-in-For.result.now c.get-in-For-2.result.now c.in-For.is c.get-in-For-3.ensures c.get-in-For.ensures c.get-in-For-2.ensures c.requires.fits in
    on_ok_weaker _ (first_made c.args.form c.args.layout.now c.args.value.now c.get-in-For-3.result.now c.get-in-For.result.now c.get-in-For-2.result.now c.in-For.test c.args.exit c.args.code.now c.count.new.code c.statement.new.code c.requires.exit parts.shape c.in_ok-count-in-For.ensures) c.statement.ensures

pub statement-statements-requires : goal.statement-statements-requires
statement-statements-requires t c =
    let parts = splits-Split _ _ _ _ _ _ _ c.items-in-Split.result.now c.args.form c.args.layout.now 0 c.in-Split.is c.items-in-Split.ensures c.requires.fits in
    (omega (arith, parts.smaller, c.decreases), (parts.fits, c.requires.exit))

pub statement-statements-requires-in-Block : goal.statement-statements-requires-in-Block
statement-statements-requires-in-Block t c =
    let parts = blocks-Block _ _ c.items-in-Block.result.now c.args.form c.args.layout.now 0 c.in-Block.is c.items-in-Block.ensures c.requires.fits in
    (omega (arith, parts.smaller, c.decreases), (parts.fits, c.requires.exit))

pub statement-returns-in-Block : goal.statement-returns-in-Block
statement-returns-in-Block t c =
    let parts = blocks-Block _ _ c.items-in-Block.result.now c.args.form c.args.layout.now (length c.args.code.now - c.args.exit) c.in-Block.is c.items-in-Block.ensures c.requires.fits in
    on_ok_weaker _ (renamed _ _ c.args.code.now c.statements-in-Block.new.code parts.code) c.statements-in-Block.ensures

pub statement-returns-in_ok-split-in-Split : goal.statement-returns-in_ok-split-in-Split
statement-returns-in_ok-split-in-Split t c =
    let old = c.args.code.now in
    let parts = splits-Split _ _ _ _ _ _ _ c.items-in-Split.result.now c.args.form c.args.layout.now (length old - c.args.exit) c.in-Split.is c.items-in-Split.ensures c.requires.fits in
    let pair : List Part = straight (part_code c.args.layout.now c.in-Split.whole.name c.in-Split.left.name c.in-Split.right.name) in
    let body : List Part = body_code c.args.form c.args.layout.now (length old - c.args.exit) c.items-in-Split.result.now in
    let behind = c.in_ok-split-in-Split.ensures ∙ ap (λ l. pair ++ l) c.in_ok-statements-in-Split.ensures ∙ sym (append_assoc pair body old) in
    on_ok_weaker _ (behind_one _ _ _ _ _ _ behind parts.code) c.expression-in-Split.ensures

pub statements-statement-requires : goal.statements-statement-requires
statements-statement-requires t c =
    let list = c.args.list.now in
    let i = c.loop-at.at - 1 in
    let lt : i < length list = omega (arith, c.loop-at.invariant.1, c.loop-at-test.true) in
    let part = measure.follows list i c.index-list-at.result lt c.index-list-at.is in
    let later : List Part = body_code c.args.form c.args.layout.now (length c.args.code.now - c.args.exit) (drop c.loop-at.at list) in (
      omega (arith, part.smaller, c.decreases),
      (
        body_fits_at list i c.index-list-at.result c.requires.fits lt c.index-list-at.is,
        omega (arith, c.requires.exit, ap length c.loop-at.invariant.0, length-append later c.args.code.now),
      ),
    )

pub statements-loop-at-preserved : goal.statements-loop-at-preserved
statements-loop-at-preserved t c =
    let list = c.args.list.now in
    let old = c.args.code.now in
    let i = c.loop-at.at - 1 in
    let lt : i < length list = omega (arith, c.loop-at.invariant.1, c.loop-at-test.true) in
    let step : i + 1 ≡ c.loop-at.at = omega (arith, c.loop-at-test.true) in
    let later = c.loop-at.invariant.0 ∙ ap (λ n. body_code c.args.form c.args.layout.now (length old - c.args.exit) (drop n list) ++ old) (sym step) in (
      body_next c.args.form c.args.layout.now list i c.index-list-at.result _ c.loop-at.code old c.args.exit lt c.index-list-at.is c.requires.exit c.in_ok-statement.ensures later,
      omega (arith, c.loop-at.invariant.1),
    )
