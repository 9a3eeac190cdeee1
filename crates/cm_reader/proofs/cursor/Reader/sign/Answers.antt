use Rattle.std.proofs.Common.{sym, ◌∙◌}
use Rattle.cm_reader.proofs.StepLaw.{ok_map, err_map, sign_goes}
use Rattle.cm_reader.proofs.cursor.Reader.sign.Goals as goal

pub returns-then-is_next-clause-ok : goal.returns-then-is_next-clause-ok
returns-then-is_next-clause-ok c =
    ok_map c.accept.result (λ rest h next. h _ next (sign_goes c.args.sign next c.args.tokens.now (sym c.is_next.ensures ∙ c.if-is_next.true))) c.accept.ensures.ok

pub returns-then-is_next-clause-err : goal.returns-then-is_next-clause-err
returns-then-is_next-clause-err c =
    err_map c.accept.result (λ refusal h next. h _ next (sign_goes c.args.sign next c.args.tokens.now (sym c.is_next.ensures ∙ c.if-is_next.true))) c.accept.ensures.err
