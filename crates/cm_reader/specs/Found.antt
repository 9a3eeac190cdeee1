-- What the lexer finds at the front of a text.
use Rattle.cm_syntax.specs.Lexer.{Next, skips, finds, fails}
use Rattle.cm_syntax.specs.Parser.{capped_token}
use Rattle.cm_reader.specs.declared.lexer.Found.{Found}
use Rattle.cm_reader.specs.declared.lexer.Found.TheVariants as found
use Rattle.cm_reader.specs.Next.{token_of}

-- what was found
abbrev pub next_of : Found → Next
next_of (found.Skips n) = skips n
next_of (found.Finds token n) = finds (token_of token) n
next_of found.Fails = fails

-- what stands at the front of a text, with a number that is beyond each limit as the least such number
abbrev pub capped_next : Next → Next
capped_next (skips n) = skips n
capped_next (finds token n) = finds (capped_token token) n
capped_next fails = fails
