use Rattle.cm_reader.proofs.StepLaw.{ok_map, err_map, next_takes_name}
use Rattle.cm_syntax.specs.Parser.{State}
use Rattle.cm_reader.proofs.cursor.Reader.name.Goals as goal

pub returns-clause-ok : goal.returns-clause-ok
returns-clause-ok c = ok_map c.counted_name.result (λ read h k. h (State.name_next k) k (next_takes_name k c.args.tokens.now)) c.counted_name.ensures.ok

pub returns-clause-err : goal.returns-clause-err
returns-clause-err c = err_map c.counted_name.result (λ refusal h k. h (State.name_next k) k (next_takes_name k c.args.tokens.now)) c.counted_name.ensures.err
