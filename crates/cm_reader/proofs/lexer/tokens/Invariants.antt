use Rattle.std.proofs.Common.{◌≡◌, ◌≤◌, ◌-◌, ◌++◌, length}
use Rattle.cm_syntax.specs.Parser.{nested_tokens}
use Rattle.cm_reader.specs.Next.{nested}
use Rattle.cm_reader.proofs.LexerLaw.{tokens_left}
use Rattle.cm_reader.proofs.lexer.tokens.Given as goal

-- with the tokens that are left, those that were found come to the whole
abbrev pub invariant-loop-at : goal.invariant-loop-at
invariant-loop-at l = record {
  within : l.at ≤ length l.source;
  opened : l.brackets.opened ≤ l.at;
  closed : l.brackets.closed ≤ l.at;
  whole : nested l.tokens ++ nested_tokens l.brackets.opened l.brackets.closed (tokens_left l.source l.at) ≡ nested_tokens 0 0 (tokens_left l.source 0);
}

abbrev pub decreases-loop-at : goal.decreases-loop-at
decreases-loop-at l = length l.source - l.at
