use Rattle.std.proofs.Common.{length, arith}
use Rattle.cm_syntax.specs.Lexer.{lexed}
use Rattle.cm_syntax.proofs.lexing.TokenLaw.{Tokens-one}
use Rattle.cm_syntax.proofs.lexing.Lexing.{lexed_tokens}
use Rattle.cm_syntax.proofs.law.one_token_list.Goals as goal

pub returns-clause-some : goal.returns-clause-some
returns-clause-some c = λ bytes. (lexed (length bytes) 0 bytes, lexed_tokens (length bytes) 0 bytes (omega arith))

pub returns-clause-one : goal.returns-clause-one
returns-clause-one c = λ bytes tokens others h i. Tokens-one h i
