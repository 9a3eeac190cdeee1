use Rattle.std.proofs.Common.{sym, ap, ◌∙◌, drop}
use Rattle.cm_syntax.specs.Lexer.{has_end, block_length, sign_there}
use Rattle.cm_reader.specs.Found.{capped_next}
use Rattle.cm_reader.proofs.LexerLaw.{next_block, next_sign, capped_block, capped_sign}
use Rattle.cm_reader.proofs.lexer.front.Goals as goal

pub returns-then-is_pair-2 : goal.returns-then-is_pair-2
returns-then-is_pair-2 c =
    let bytes = c.args.bytes.now in
    let there = next_block bytes (sym c.begins_space.ensures ∙ c.if-begins_space.false) (sym c.is_pair.ensures ∙ c.if-is_pair.false) (sym c.is_pair-2.ensures ∙ c.if-is_pair-2.true) in
    c.block.ensures ∙ (sym (capped_block (has_end (drop 2 bytes)) (block_length bytes)) ∙ sym (ap capped_next there))

pub returns : goal.returns
returns c =
    let bytes = c.args.bytes.now in
    let there = next_sign bytes (sym c.begins_space.ensures ∙ c.if-begins_space.false) (sym c.is_pair.ensures ∙ c.if-is_pair.false) (sym c.is_pair-2.ensures ∙ c.if-is_pair-2.false)
    (sym c.begins_word.ensures ∙ c.if-begins_word.false) in
    c.sign.ensures ∙ (sym (capped_sign (sign_there bytes)) ∙ sym (ap capped_next there))
