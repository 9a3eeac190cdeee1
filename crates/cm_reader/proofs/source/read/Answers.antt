use Rattle.std.specs.Prelude.{IfErr, Ok, Err}
use Rattle.cm_reader.specs.Answer.{IsRefusalOf, refusal_of, Gives}
use Rattle.cm_reader.proofs.SourceLaw.{handed_on, read_functions, read_refusal, tree_read, refusal_or_tree, tree_or_refusal, refusal_read, read_written}
use Rattle.cm_reader.proofs.source.read.Goals as goal

pub returns-in_err-functions-clause-refusal : goal.returns-in_err-functions-clause-refusal
returns-in_err-functions-clause-refusal c =
    handed_on (λ r. IfErr r (IsRefusalOf c.args.source.now)) _ _ c.from_residual-in_err-functions.ensures.1
    (read_refusal _ _ _ _ c.in_err-functions.field-0.0 c.items.ensures c.in_ok-tokens.ensures c.min-length.ensures c.in_err-functions.ensures.err)

pub returns-in_err-functions-clause-each_tree : goal.returns-in_err-functions-clause-each_tree
returns-in_err-functions-clause-each_tree c = λ tree is none.
    handed_on (λ r. Gives r (Ok tree)) _ _ c.from_residual-in_err-functions.ensures.1
    (tree_or_refusal _ _ tree (read_refusal _ _ _ _ c.in_err-functions.field-0.0 c.items.ensures c.in_ok-tokens.ensures c.min-length.ensures c.in_err-functions.ensures.err) none)

pub returns-in_err-functions-clause-each_refusal : goal.returns-in_err-functions-clause-each_refusal
returns-in_err-functions-clause-each_refusal c = λ why at is.
    handed_on (λ r. Gives r (Err (refusal_of why at))) _ _ c.from_residual-in_err-functions.ensures.1
    (refusal_read _ _ why at (read_refusal _ _ _ _ c.in_err-functions.field-0.0 c.items.ensures c.in_ok-tokens.ensures c.min-length.ensures c.in_err-functions.ensures.err) is)

pub returns-clause-tree : goal.returns-clause-tree
returns-clause-tree c = (read_functions _ _ _ _ c.in_ok-functions.functions c.items.ensures c.in_ok-tokens.ensures c.min-length.ensures c.in_ok-functions.ensures.ok).0

pub returns-clause-within : goal.returns-clause-within
returns-clause-within c = (read_functions _ _ _ _ c.in_ok-functions.functions c.items.ensures c.in_ok-tokens.ensures c.min-length.ensures c.in_ok-functions.ensures.ok).1

pub returns-clause-each_tree : goal.returns-clause-each_tree
returns-clause-each_tree c = λ tree is none.
    tree_read _ _ tree (read_functions _ _ _ _ c.in_ok-functions.functions c.items.ensures c.in_ok-tokens.ensures c.min-length.ensures c.in_ok-functions.ensures.ok).0 is

pub returns-clause-each_refusal : goal.returns-clause-each_refusal
returns-clause-each_refusal c = λ why at is.
    refusal_or_tree _ _ why at (read_functions _ _ _ _ c.in_ok-functions.functions c.items.ensures c.in_ok-tokens.ensures c.min-length.ensures c.in_ok-functions.ensures.ok).1 is

pub returns-clause-written : goal.returns-clause-written
returns-clause-written c = λ tree sound text.
    read_written _ _ tree (read_functions _ _ _ _ c.in_ok-functions.functions c.items.ensures c.in_ok-tokens.ensures c.min-length.ensures c.in_ok-functions.ensures.ok).0 sound text
