use Rattle.std.proofs.Common.{◌++◌, append-nil, sym, ap, ◌∙◌, arith}
use Rattle.std.proofs.lemmas.List.{take_rest}
use Rattle.cm_syntax.specs.Lexer.{next}
use Rattle.cm_syntax.specs.Parser.{nested_tokens}
use Rattle.cm_reader.specs.Next.{token_of, nested}
use Rattle.cm_reader.specs.Found.{next_of, capped_next}
use Rattle.cm_reader.proofs.LexerLaw.{left_skips, left_finds, left_fails, left_none, found_more, found_last, found_all, grown}
use Rattle.cm_reader.proofs.lexer.tokens.Goals as goal

pub overflow_add-at : goal.overflow_add-at
overflow_add-at c =
    let source = c.args.source.now in
    let is = ap next_of (sym c.in-Skips.is) ∙ (c.in_ok-bytes.ensures ∙ ap (λ xs. capped_next (next xs)) (take_rest source c.loop-at.at)) in
    let taken = left_skips source c.loop-at.at (omega (arith, c.min-end.ensures)) (omega (arith, c.min-end.ensures)) c.in-Skips.bytes is in
    omega (arith, taken.within)

pub loop-at-smaller-in-Skips : goal.loop-at-smaller-in-Skips
loop-at-smaller-in-Skips c =
    let source = c.args.source.now in
    let is = ap next_of (sym c.in-Skips.is) ∙ (c.in_ok-bytes.ensures ∙ ap (λ xs. capped_next (next xs)) (take_rest source c.loop-at.at)) in
    let taken = left_skips source c.loop-at.at (omega (arith, c.min-end.ensures)) (omega (arith, c.min-end.ensures)) c.in-Skips.bytes is in
    omega (arith, taken.within, taken.more)

pub loop-at-preserved-in-Skips : goal.loop-at-preserved-in-Skips
loop-at-preserved-in-Skips c =
    let source = c.args.source.now in
    let is = ap next_of (sym c.in-Skips.is) ∙ (c.in_ok-bytes.ensures ∙ ap (λ xs. capped_next (next xs)) (take_rest source c.loop-at.at)) in
    let taken = left_skips source c.loop-at.at (omega (arith, c.min-end.ensures)) (omega (arith, c.min-end.ensures)) c.in-Skips.bytes is in
    record {
      within = taken.within;
      opened = omega (arith, c.loop-at.invariant.opened);
      closed = omega (arith, c.loop-at.invariant.closed);
      whole = sym (ap (λ tokens. nested c.loop-at.tokens ++ nested_tokens c.loop-at.brackets.opened c.loop-at.brackets.closed tokens) taken.left) ∙ c.loop-at.invariant.whole;
    }

pub overflow_add-at-in-Finds : goal.overflow_add-at-in-Finds
overflow_add-at-in-Finds c =
    let source = c.args.source.now in
    let is = ap next_of (sym c.in-Finds.is) ∙ (c.in_ok-bytes.ensures ∙ ap (λ xs. capped_next (next xs)) (take_rest source c.loop-at.at)) in
    let taken = left_finds source c.loop-at.at (omega (arith, c.min-end.ensures)) (omega (arith, c.min-end.ensures)) (token_of c.in-Finds.token) c.in-Finds.bytes is in
    omega (arith, taken.within)

pub loop-at-smaller : goal.loop-at-smaller
loop-at-smaller c =
    let source = c.args.source.now in
    let is = ap next_of (sym c.in-Finds.is) ∙ (c.in_ok-bytes.ensures ∙ ap (λ xs. capped_next (next xs)) (take_rest source c.loop-at.at)) in
    let taken = left_finds source c.loop-at.at (omega (arith, c.min-end.ensures)) (omega (arith, c.min-end.ensures)) (token_of c.in-Finds.token) c.in-Finds.bytes is in
    omega (arith, taken.within, taken.more)

pub loop-at-preserved : goal.loop-at-preserved
loop-at-preserved c =
    let source = c.args.source.now in
    let is = ap next_of (sym c.in-Finds.is) ∙ (c.in_ok-bytes.ensures ∙ ap (λ xs. capped_next (next xs)) (take_rest source c.loop-at.at)) in
    let taken = left_finds source c.loop-at.at (omega (arith, c.min-end.ensures)) (omega (arith, c.min-end.ensures)) (token_of c.in-Finds.token) c.in-Finds.bytes is in
    let counted = c.count-too_nested.ensures in
    record {
      within = taken.within;
      opened = grown _ _ _ _ _ counted.opened c.loop-at.invariant.opened taken.more;
      closed = grown _ _ _ _ _ counted.closed c.loop-at.invariant.closed taken.more;
      whole = found_more _ _ _ _ _ _ _ _ _ _ _ _ c.in_ok-push-in-Finds.ensures.ok counted.nested counted.opened counted.closed taken.left c.loop-at.invariant.whole;
    }

pub returns-in-Fails : goal.returns-in-Fails
returns-in-Fails c =
    let source = c.args.source.now in
    let is = ap next_of (sym c.in-Fails.is) ∙ (c.in_ok-bytes.ensures ∙ ap (λ xs. capped_next (next xs)) (take_rest source c.loop-at.at)) in
    let left = left_fails source c.loop-at.at (omega (arith, c.min-end.ensures)) (omega (arith, c.min-end.ensures)) is in
    λ all are. found_all source all _ are (found_last _ _ _ _ _ _ _ c.in_ok-push-in-Fails.ensures.ok left c.loop-at.invariant.whole)

pub returns : goal.returns
returns c =
    let source = c.args.source.now in
    let none = left_none source c.loop-at.at c.min-end.result c.min-end.ensures c.loop-at-test.false in
    let whole = ap (λ tokens. nested c.loop-at.tokens ++ nested_tokens c.loop-at.brackets.opened c.loop-at.brackets.closed tokens) none in
    λ all are. found_all source all _ are (sym (append-nil (nested c.loop-at.tokens)) ∙ (sym whole ∙ c.loop-at.invariant.whole))
