-- Which signs begin with a byte.
use Rattle.std.specs.Prelude.{ℕ, ◌==◌, List}
use Rattle.std.specs.List.{filter}
use Rattle.cm_syntax.specs.declared.token.Sign.{Sign}
use Rattle.cm_syntax.specs.Text.{sign_text}
use Rattle.cm_syntax.specs.Token.{begins}
use Rattle.cm_syntax.specs.Lexer.{all_signs}

-- the signs that begin with a byte, the longest first
abbrev pub signs_from : ℕ → List Sign
signs_from first = filter (λ s. begins (λ byte. byte == first) (sign_text s)) all_signs
