use Rattle.std.proofs.Common.{sym, ap, ◌∙◌, arith, length-take}
use Rattle.std.specs.Prelude.{option_map}
use Rattle.cm_syntax.specs.Text.{is_word_byte}
use Rattle.cm_syntax.specs.Lexer.{front, run_next, run_token}
use Rattle.cm_syntax.specs.Parser.{capped_token}
use Rattle.cm_reader.specs.Next.{token_of}
use Rattle.cm_reader.proofs.LexerLaw.{front_within, front_taken, capped_run}
use Rattle.cm_reader.proofs.lexer.run.Goals as goal

pub slice_bounds-run_token-end : goal.slice_bounds-run_token-end
slice_bounds-run_token-end c =
    omega (arith, front_within is_word_byte c.args.bytes.now, c.run_length-length.ensures, length-take c.run_length-length.result c.args.bytes.now)

pub returns-in-Some : goal.returns-in-Some
returns-in-Some c =
    let taken = ap (λ text. option_map capped_token (run_token text)) (front_taken is_word_byte c.args.bytes.now _ c.run_length-length.ensures) in
    ap (λ token. run_next (option_map token_of token) c.run_length-length.result) (sym c.in-Some.is) ∙
    capped_run _ (run_token (front is_word_byte c.args.bytes.now)) _ _ (c.in_ok-token.ensures ∙ taken) c.run_length-length.ensures

pub returns-in-None : goal.returns-in-None
returns-in-None c =
    let taken = ap (λ text. option_map capped_token (run_token text)) (front_taken is_word_byte c.args.bytes.now _ c.run_length-length.ensures) in
    ap (λ token. run_next (option_map token_of token) c.run_length-length.result) (sym c.in-None.is) ∙
    capped_run _ (run_token (front is_word_byte c.args.bytes.now)) _ _ (c.in_ok-token.ensures ∙ taken) c.run_length-length.ensures
