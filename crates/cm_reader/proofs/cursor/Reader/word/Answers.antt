use Rattle.std.proofs.Common.{sym, ◌∙◌}
use Rattle.cm_reader.proofs.StepLaw.{ok_map, err_map, word_goes}
use Rattle.cm_reader.proofs.cursor.Reader.word.Goals as goal

pub returns-then-is_next_word-clause-ok : goal.returns-then-is_next_word-clause-ok
returns-then-is_next_word-clause-ok c =
    ok_map c.accept.result (λ rest h next. h _ next (word_goes c.args.word next c.args.tokens.now (sym c.is_next_word.ensures ∙ c.if-is_next_word.true))) c.accept.ensures.ok

pub returns-then-is_next_word-clause-err : goal.returns-then-is_next_word-clause-err
returns-then-is_next_word-clause-err c =
    err_map c.accept.result (λ refusal h next. h _ next (word_goes c.args.word next c.args.tokens.now (sym c.is_next_word.ensures ∙ c.if-is_next_word.true))) c.accept.ensures.err
