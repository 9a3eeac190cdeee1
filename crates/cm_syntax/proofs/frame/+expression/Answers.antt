use Rattle.std.proofs.Common.{◌+◌, max, if◌then◌else◌, arith, ap, refl, sym, ◌∙◌}
use Rattle.std.proofs.lemmas.List.{drop_all}
use Rattle.cm_syntax.specs.Frame as frame
use Rattle.cm_syntax.specs.Frame.{capped}
use Rattle.cm_syntax.proofs.FrameLaw.{temporaries_at_least, capped_from, passes-Index, passes-Input, passes-Unary, joins-Binary, argument_size, arguments_size, takes, size_of-Call, rest_of_call, rest_of_call-whole}
use Rattle.cm_syntax.proofs.frame.+expression.Goals as goal

pub temporaries-temporaries-requires : goal.temporaries-temporaries-requires
temporaries-temporaries-requires g t c =
    let part = passes-Index _ _ _ _ c.args.depth c.in-Index.is c.get.ensures in
    λ κs h. (omega (arith, c.decreases), (h, omega arith))

pub temporaries-returns-in-Index : goal.temporaries-returns-in-Index
temporaries-returns-in-Index g t c =
    let part = passes-Index _ _ _ _ c.args.depth c.in-Index.is c.get.ensures in
    omega arith

pub temporaries-temporaries-requires-in-Input : goal.temporaries-temporaries-requires-in-Input
temporaries-temporaries-requires-in-Input g t c =
    let part = passes-Input _ _ _ c.args.depth c.in-Input.is c.get-in-Input.ensures in
    λ κs h. (omega (arith, c.decreases), (h, omega arith))

pub temporaries-returns-in-Input : goal.temporaries-returns-in-Input
temporaries-returns-in-Input g t c =
    let part = passes-Input _ _ _ c.args.depth c.in-Input.is c.get-in-Input.ensures in
    omega arith

pub temporaries-temporaries-requires-in-Unary : goal.temporaries-temporaries-requires-in-Unary
temporaries-temporaries-requires-in-Unary g t c =
    let part = passes-Unary _ _ _ _ c.args.depth c.in-Unary.is c.get-in-Unary.ensures in
    λ κs h. (omega (arith, c.decreases), (h, omega arith))

pub temporaries-returns-in-Unary : goal.temporaries-returns-in-Unary
temporaries-returns-in-Unary g t c =
    let part = passes-Unary _ _ _ _ c.args.depth c.in-Unary.is c.get-in-Unary.ensures in
    omega arith

pub temporaries-temporaries-first-requires : goal.temporaries-temporaries-first-requires
temporaries-temporaries-first-requires g t c =
    let parts = joins-Binary _ _ _ _ _ c.in-Binary.right c.args.depth c.in-Binary.is c.get-in-Binary.ensures refl in
    λ κs h. (omega (arith, c.decreases), (h, omega arith))

pub temporaries-temporaries-requires-in-Binary : goal.temporaries-temporaries-requires-in-Binary
temporaries-temporaries-requires-in-Binary g t c =
    let parts = joins-Binary _ _ _ _ _ _ c.args.depth c.in-Binary.is c.get-in-Binary.ensures c.get-in-Binary-2.ensures in
    let begun = ap (frame.temporaries c.get-in-Binary-2.result.now) c.right_depth.ensures in
    λ κs h. (omega (arith, c.decreases), (h, omega arith))

pub temporaries-returns-in-Binary : goal.temporaries-returns-in-Binary
temporaries-returns-in-Binary g t c =
    let parts = joins-Binary _ _ _ _ _ _ c.args.depth c.in-Binary.is c.get-in-Binary.ensures c.get-in-Binary-2.ensures in
    let begun = ap (frame.temporaries c.get-in-Binary-2.result.now) c.right_depth.ensures in
    let right = c.get-in-Binary-2.result.now in
    let depth = if frame.is_short_circuit c.in-Binary.op then c.args.depth else c.args.depth + 1 in
    let same = capped_from (frame.temporaries right) depth (temporaries_at_least right) in
    omega (arith, same)

pub temporaries-call_temporaries-requires : goal.temporaries-call_temporaries-requires
temporaries-call_temporaries-requires g t c =
    let size = size_of-Call _ _ c.in-Call.is in
    let whole = ap (λ e. frame.temporaries e c.args.depth) c.in-Call.is in
    λ κs h. (omega (arith, c.decreases), (h, omega arith))

pub call_temporaries-loop-argument-init : goal.call_temporaries-loop-argument-init
call_temporaries-loop-argument-init g t c =
    let whole = ap (λ arguments. rest_of_call arguments c.args.depth c.args.depth) c.items-argument-items.ensures ∙ rest_of_call-whole c.args.call.now c.args.depth in
    (ap capped whole, omega arith, omega arith)

pub call_temporaries-argument_temporaries-requires : goal.call_temporaries-argument_temporaries-requires
call_temporaries-argument_temporaries-requires g t c =
    let taken = takes _ _ _ c.loop-argument.most c.loop-argument.used c.loop-argument-test.true c.argument-item.is in
    let size = ap arguments_size c.items-argument-items.ensures in
    λ κs h. (omega (arith, c.decreases), (h, omega arith))

pub call_temporaries-loop-argument-preserved : goal.call_temporaries-loop-argument-preserved
call_temporaries-loop-argument-preserved g t c =
    let taken = takes _ _ _ c.loop-argument.most c.loop-argument.used c.loop-argument-test.true c.argument-item.is in
    let most = c.max-most.ensures ∙ ap (max c.loop-argument.most) c.argument_temporaries.ensures in
    let used = c.min-used.ensures ∙ ap (λ n. capped (c.loop-argument.used + n)) c.argument_words.ensures.words in
    (rw (most, used) (sym taken.rest ∙ c.loop-argument.invariant.0), omega arith, omega arith)

pub call_temporaries-returns : goal.call_temporaries-returns
call_temporaries-returns g t c =
    let none = drop_all c.loop-argument.argument-index c.items-argument-items.result.now c.loop-argument-test.false in
    let last = ap (λ x. capped (rest_of_call x c.loop-argument.most c.loop-argument.used)) none in
    omega (arith, c.loop-argument.invariant.0)

pub argument_temporaries-temporaries-requires : goal.argument_temporaries-temporaries-requires
argument_temporaries-temporaries-requires g t c =
    let size = ap argument_size c.in-Value.is in
    λ κs h. (omega (arith, c.decreases), (h, omega arith))
