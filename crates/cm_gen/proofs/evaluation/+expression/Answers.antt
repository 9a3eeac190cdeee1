use Rattle.std.proofs.Common.{◌∷◌, refl, ap, ◌∙◌, arith}
use Rattle.std.proofs.lemmas.Result.{on_ok_weaker}
use Rattle.cm_gen.specs.Part.{call}
use Rattle.cm_gen.proofs.parts.CodeLaw.{behind_one}
use Rattle.cm_gen.proofs.parts.ExpressionLaw.{one-Index, one-Input, one-Unary, two-Binary, calls-Call}
use Rattle.cm_gen.proofs.evaluation.+expression.Goals as goal

pub expression-expression-requires : goal.expression-expression-requires
expression-expression-requires t c =
    let part = one-Index _ _ _ c.get.result.now c.args.layout.now c.args.depth c.in-Index.is c.get.ensures c.requires in
    (omega (arith, part.smaller, c.decreases), part.fits)

pub expression-returns-in_ok-element-in-Index : goal.expression-returns-in_ok-element-in-Index
expression-returns-in_ok-element-in-Index t c =
    let part = one-Index _ _ _ c.get.result.now c.args.layout.now c.args.depth c.in-Index.is c.get.ensures c.requires in
    on_ok_weaker _ (behind_one _ _ _ _ _ _ c.in_ok-element-in-Index.ensures part.code) c.expression.ensures

pub expression-expression-requires-in-Input : goal.expression-expression-requires-in-Input
expression-expression-requires-in-Input t c =
    let part = one-Input _ _ c.get-in-Input.result.now c.args.layout.now c.args.depth c.in-Input.is c.get-in-Input.ensures c.requires in
    (omega (arith, part.smaller, c.decreases), part.fits)

pub expression-returns-in_ok-service-in-Input : goal.expression-returns-in_ok-service-in-Input
expression-returns-in_ok-service-in-Input t c =
    let part = one-Input _ _ c.get-in-Input.result.now c.args.layout.now c.args.depth c.in-Input.is c.get-in-Input.ensures c.requires in
    on_ok_weaker _ (behind_one _ _ _ _ _ _ c.in_ok-service-in-Input.ensures part.code) c.expression-in-Input.ensures

pub expression-expression-requires-in-Unary : goal.expression-expression-requires-in-Unary
expression-expression-requires-in-Unary t c =
    let part = one-Unary _ _ _ c.get-in-Unary.result.now c.args.layout.now c.args.depth c.in-Unary.is c.get-in-Unary.ensures c.requires in
    (omega (arith, part.smaller, c.decreases), part.fits)

pub expression-returns-in_ok-prefix-in-Unary : goal.expression-returns-in_ok-prefix-in-Unary
expression-returns-in_ok-prefix-in-Unary t c =
    let part = one-Unary _ _ _ c.get-in-Unary.result.now c.args.layout.now c.args.depth c.in-Unary.is c.get-in-Unary.ensures c.requires in
    on_ok_weaker _ (behind_one _ _ _ _ _ _ c.in_ok-prefix-in-Unary.ensures part.code) c.expression-in-Unary.ensures

pub expression-behind_left-requires : goal.expression-behind_left-requires
expression-behind_left-requires t c =
    let parts = two-Binary _ _ _ _ c.in-Binary.left c.get-in-Binary.result.now c.args.layout.now c.args.depth c.in-Binary.is refl c.get-in-Binary.ensures c.requires in
    (omega (arith, parts.smaller_right, c.decreases), parts.fits_right)

pub expression-expression-requires-in-Binary : goal.expression-expression-requires-in-Binary
expression-expression-requires-in-Binary t c =
    let parts = two-Binary _ _ _ _ c.get-in-Binary-2.result.now c.get-in-Binary.result.now c.args.layout.now c.args.depth c.in-Binary.is c.get-in-Binary-2.ensures c.get-in-Binary.ensures c.requires in
    (omega (arith, parts.smaller_left, c.decreases), parts.fits_left)

pub expression-returns-in_ok-behind_left-in-Binary : goal.expression-returns-in_ok-behind_left-in-Binary
expression-returns-in_ok-behind_left-in-Binary t c =
    let parts = two-Binary _ _ _ _ c.get-in-Binary-2.result.now c.get-in-Binary.result.now c.args.layout.now c.args.depth c.in-Binary.is c.get-in-Binary-2.ensures c.get-in-Binary.ensures c.requires in
    on_ok_weaker _ (behind_one _ _ _ _ _ _ c.in_ok-behind_left-in-Binary.ensures parts.code) c.expression-in-Binary.ensures

pub expression-arguments-requires : goal.expression-arguments-requires
expression-arguments-requires t c =
    let parts = calls-Call _ _ c.items.result.now c.args.layout.now c.args.depth c.in-Call.is c.items.ensures c.requires in
    (omega (arith, parts.smaller, c.decreases), parts.fits)

pub expression-returns-in_ok-call-in-Call : goal.expression-returns-in_ok-call-in-Call
expression-returns-in_ok-call-in-Call t c =
    let parts = calls-Call _ _ c.items.result.now c.args.layout.now c.args.depth c.in-Call.is c.items.ensures c.requires in
    let behind = c.in_ok-call-in-Call.ensures ∙ ap (λ l. call c.in-Call.call.function.name ∷ l) c.in_ok-take_back-in-Call.ensures in
    on_ok_weaker _ (behind_one _ _ _ _ _ _ behind parts.code) c.arguments.ensures
