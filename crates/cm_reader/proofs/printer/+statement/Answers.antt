use Rattle.std.proofs.Common.{[], ◌∷◌, ◌++◌, refl, sym, ap, ◌∙◌}
use Rattle.cm_syntax.specs.declared.token.Keyword.TheVariants as keyword
use Rattle.cm_syntax.specs.declared.token.Sign.TheVariants as sign
use Rattle.cm_syntax.specs.declared.stmt.Stmt.TheVariants as statement
use Rattle.cm_syntax.specs.Canonical.{word_token, sign_token, statement_text, body_text}
use Rattle.cm_reader.specs.Spaced.{spaced, block, head}
use Rattle.cm_reader.proofs.SpacedLaw.{put_both, put_three, put_four, list_step, list_end}
use Rattle.cm_reader.proofs.PrinterLaw.{body_lists, text_of_IfAlone, text_of_IfElse, text_of_While, text_of_For, text_of_Split, text_of_Block, text_of_line, put_last}
use Rattle.cm_reader.proofs.printer.+statement.Goals as goal

pub put_block-loop-statement-preserved : goal.put_block-loop-statement-preserved
put_block-loop-statement-preserved t c =
    list_step statement_text body_text body_lists _ _ _ _ _ _ c.loop-statement-test.true c.statement-item.is c.loop-statement.invariant c.in_ok-put_statement.ensures

pub put_block-returns : goal.put_block-returns
put_block-returns t c =
    put_three _ _ _ _ (sign_token sign.BraceOpen ∷ []) (body_text c.args.body.now) (sign_token sign.BraceClose ∷ []) c.in_ok-put_sign.ensures
    (list_end statement_text body_text body_lists _ _ _ _ c.loop-statement-test.false c.loop-statement.invariant) c.in_ok-put_sign-2.ensures

pub put_statement-returns-in-None : goal.put_statement-returns-in-None
put_statement-returns-in-None t c =
    put_both _ _ _ (head c.args.statement.now) (statement_text c.get.result.now) c.in_ok-put_head.ensures c.in_ok-put_statement-in-If.ensures ∙
    ap (λ tokens. c.args.text.now ++ spaced tokens) (sym (text_of_IfAlone _ _ _ _ _ c.in-If.is c.in-None.is c.get.ensures))

pub put_statement-returns-in_ok-put_statement-in-Some : goal.put_statement-returns-in_ok-put_statement-in-Some
put_statement-returns-in_ok-put_statement-in-Some t c =
    put_four _ _ _ _ _ (head c.args.statement.now) (statement_text c.get.result.now) (word_token keyword.Else ∷ []) (statement_text c.get-in-Some.result.now)
    c.in_ok-put_head.ensures c.in_ok-put_statement-in-If.ensures c.in_ok-put_word-in-Some.ensures c.in_ok-put_statement-in-Some.ensures ∙
    ap (λ tokens. c.args.text.now ++ spaced tokens) (sym (text_of_IfElse _ _ _ _ _ _ _ c.in-If.is c.in-Some.is c.get.ensures c.get-in-Some.ensures))

pub put_statement-returns-in-While : goal.put_statement-returns-in-While
put_statement-returns-in-While t c =
    put_last _ _ _ _ (head c.args.statement.now) (statement_text c.get-in-While.result.now) _ (text_of_While _ _ _ _ c.in-While.is c.get-in-While.ensures)
    c.in_ok-put_head.ensures c.put_statement-in-While.ensures

pub put_statement-returns-in-For : goal.put_statement-returns-in-For
put_statement-returns-in-For t c =
    put_last _ _ _ _ (head c.args.statement.now) (statement_text c.get-in-For.result.now) _ (text_of_For _ _ _ _ _ _ c.in-For.is c.get-in-For.ensures)
    c.in_ok-put_head.ensures c.put_statement-in-For.ensures

pub put_statement-returns-in-Split : goal.put_statement-returns-in-Split
put_statement-returns-in-Split t c =
    put_last _ _ _ _ (head c.args.statement.now) (block c.items.result.now) _ (text_of_Split _ _ _ _ _ _ _ _ c.in-Split.is c.items.ensures)
    c.in_ok-put_head.ensures c.put_block.ensures

pub put_statement-returns-in-Block : goal.put_statement-returns-in-Block
put_statement-returns-in-Block t c =
    put_last _ _ _ _ (head c.args.statement.now) (block c.items-in-Block.result.now) _ (text_of_Block _ _ _ c.in-Block.is c.items-in-Block.ensures)
    c.in_ok-put_head.ensures c.put_block-in-Block.ensures

pub put_statement-returns-in-Spawn : goal.put_statement-returns-in-Spawn
put_statement-returns-in-Spawn t c =
    put_last _ _ _ _ (head c.args.statement.now) (statement_text (statement.Spawn c.in-Spawn.at c.in-Spawn.target c.in-Spawn.call)) _ (text_of_line _ _ c.in-Spawn.is refl)
    c.in_ok-put_head.ensures (c.put_spawn.ensures c.in-Spawn.at)

pub put_statement-returns-in-Sync : goal.put_statement-returns-in-Sync
put_statement-returns-in-Sync t c =
    put_last _ _ _ _ (head c.args.statement.now) (statement_text (statement.Sync c.in-Sync.at)) _ (text_of_line _ _ c.in-Sync.is refl)
    c.in_ok-put_head.ensures (c.put_sync.ensures c.in-Sync.at)

pub put_statement-returns-in-Return : goal.put_statement-returns-in-Return
put_statement-returns-in-Return t c =
    put_last _ _ _ _ (head c.args.statement.now) (statement_text (statement.Return c.in-Return.at c.in-Return.value)) _ (text_of_line _ _ c.in-Return.is refl)
    c.in_ok-put_head.ensures (c.put_return.ensures c.in-Return.at)
