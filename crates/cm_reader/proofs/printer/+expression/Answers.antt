use Rattle.std.proofs.Common.{◌≡◌, ◌+◌, [], ◌∷◌, ◌++◌, true, sym, ap, ◌∙◌}
use Rattle.std.specs.Prelude.{nat_lt, pos}
use Rattle.std.proofs.lemmas.Bool.{true≢false}
use Rattle.cm_syntax.specs.declared.expr.Expr.TheVariants as expression
use Rattle.cm_syntax.specs.declared.token.Sign.TheVariants as sign
use Rattle.cm_syntax.specs.declared.token.Keyword.TheVariants as keyword
use Rattle.cm_syntax.specs.Canonical.{word_token, sign_token, name_token, own_level, parenthesize, expression_text, argument_text}
use Rattle.cm_reader.specs.Spaced.{spaced}
use Rattle.cm_reader.proofs.SpacedLaw.{put_both, put_three, put_four, separated_step, separated_end}
use Rattle.cm_reader.proofs.PrinterLaw.{text_of_Index, text_of_brackets, text_of_Input, text_of_Unary, text_of_Binary, arguments_of}
use Rattle.cm_syntax.proofs.printing.TextLaw.{listed, text-Call}
use Rattle.cm_reader.proofs.printer.+expression.Goals as goal

pub put_expression-returns-in-Index : goal.put_expression-returns-in-Index
put_expression-returns-in-Index t c = rw (text_of_Index _ _ _ _ c.in-Index.is c.get.ensures) c.put_element.ensures

pub put_expression-returns-in_ok-put_group-in-Input : goal.put_expression-returns-in_ok-put_group-in-Input
put_expression-returns-in_ok-put_group-in-Input t c =
    rw (text_of_Input _ _ _ c.in-Input.is c.get-in-Input.ensures)
    (put_both _ _ _ (word_token keyword.Input ∷ []) (parenthesize true (expression_text c.get-in-Input.result.now)) c.in_ok-put_word-in-Input.ensures c.in_ok-put_group-in-Input.ensures)

pub put_expression-returns-in_ok-put_operand-in-Unary : goal.put_expression-returns-in_ok-put_operand-in-Unary
put_expression-returns-in_ok-put_operand-in-Unary t c =
    let operand = c.get-in-Unary.result.now in
    rw (text_of_Unary _ _ _ _ _ _ c.in-Unary.is c.get-in-Unary.ensures c.sign_of.ensures c.level_of.ensures)
    (put_both _ _ _ (sign_token c.sign_of.result ∷ []) (parenthesize (nat_lt (own_level operand) c.level_of.result) (expression_text operand))
    c.in_ok-put_sign-in-Unary.ensures c.in_ok-put_operand-in-Unary.ensures)

pub put_expression-returns-in_ok-put_operand-in-Binary-2 : goal.put_expression-returns-in_ok-put_operand-in-Binary-2
put_expression-returns-in_ok-put_operand-in-Binary-2 t c =
    let left = c.get-in-Binary.result.now in
    let right = c.get-in-Binary-2.result.now in
    rw (text_of_Binary _ _ _ _ _ _ _ _ _ c.in-Binary.is c.get-in-Binary.ensures c.get-in-Binary-2.ensures c.sign_of-in-Binary.ensures c.level_of-in-Binary.ensures c.level_of-in-Binary-2.ensures)
    (put_three _ _ _ _ (parenthesize (nat_lt (own_level left) c.level_of-in-Binary.result) (expression_text left)) (sign_token c.sign_of-in-Binary.result ∷ [])
    (parenthesize (nat_lt (own_level right) (c.level_of-in-Binary-2.result + 1)) (expression_text right))
    c.in_ok-put_operand-in-Binary.ensures c.in_ok-put_sign-in-Binary.ensures c.in_ok-put_operand-in-Binary-2.ensures)

pub put_element-returns : goal.put_element-returns
put_element-returns t c =
    let other = λ (zero : c.args.index.now ≡ expression.Number (pos 0)). true≢false (sym (c.is_zero.ensures.1 zero) ∙ c.if-is_zero.false) in
    rw (text_of_brackets c.args.name.now c.args.index.now other)
    (put_four _ _ _ _ _ (name_token c.args.name.now ∷ []) (sign_token sign.BracketOpen ∷ []) (expression_text c.args.index.now) (sign_token sign.BracketClose ∷ [])
    c.in_ok-put_name-2.ensures c.in_ok-put_sign-2.ensures c.in_ok-put_expression.ensures c.in_ok-put_sign-3.ensures)

pub put_call-loop-index-preserved : goal.put_call-loop-index-preserved
put_call-loop-index-preserved t c =
    separated_step argument_text _ _ _ _ _ _ _ c.loop-index-test.true c.argument-item.is c.loop-index.invariant c.in_ok-put_comma.ensures c.in_ok-put_argument.ensures

pub put_call-returns : goal.put_call-returns
put_call-returns t c =
    let call = c.args.call.now in
    let before = c.put_sign.new.text in
    let arguments = separated_end argument_text _ _ _ _ c.loop-index-test.false c.loop-index.invariant in
    let same = arguments_of c.items-argument-items.result.now ∙ ap listed c.items-argument-items.ensures in
    put_four _ _ _ _ _ (name_token call.function ∷ []) (sign_token sign.ParenOpen ∷ []) (listed call.arguments) (sign_token sign.ParenClose ∷ [])
    c.in_ok-put_name.ensures c.in_ok-put_sign.ensures (arguments ∙ ap (λ tokens. before ++ spaced tokens) same) c.in_ok-put_sign-2.ensures ∙
    ap (λ tokens. c.args.text.now ++ spaced tokens) (sym (text-Call call))
