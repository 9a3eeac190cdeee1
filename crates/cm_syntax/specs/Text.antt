-- The bytes of source text, and how words and signs are written.
use Rattle.std.specs.Prelude.{ℕ, Bool, ◌==◌, ◌||◌, nat_eq, List, [], ◌∷◌, codes}
use Rattle.std.specs.Char.{is_ascii_alphabetic, is_ascii_digit}
use Rattle.std.specs.Cmp.Lexicographic.{pointwise}
use Rattle.cm_syntax.specs.declared.token.Keyword.{Keyword}
use Rattle.cm_syntax.specs.declared.token.Keyword.TheVariants as word
use Rattle.cm_syntax.specs.declared.token.Sign.{Sign}
use Rattle.cm_syntax.specs.declared.token.Sign.TheVariants as sign

-- a space, a tab, a carriage return or a line feed
abbrev pub is_space : ℕ → Bool
is_space byte = byte == 32 || byte == 9 || byte == 13 || byte == 10

-- a letter or `_`: a byte that a word begins with
abbrev pub is_letter : ℕ → Bool
is_letter byte = is_ascii_alphabetic byte || byte == 95

-- a letter, a digit or `_`: a byte that a word goes on with
abbrev pub is_word_byte : ℕ → Bool
is_word_byte byte = is_letter byte || is_ascii_digit byte

-- whether two texts have the same bytes
abbrev pub is_same : List ℕ → List ℕ → Bool
is_same a b = pointwise nat_eq a b

-- how a word that is no name is written
abbrev pub keyword_text : Keyword → List ℕ
keyword_text word.Int = codes "int"
keyword_text word.Void = codes "void"
keyword_text word.Cilk = codes "cilk"
keyword_text word.Spawn = codes "spawn"
keyword_text word.Sync = codes "sync"
keyword_text word.If = codes "if"
keyword_text word.Else = codes "else"
keyword_text word.While = codes "while"
keyword_text word.For = codes "for"
keyword_text word.Return = codes "return"
keyword_text word.Print = codes "print"
keyword_text word.Input = codes "input"
keyword_text word.Inputs = codes "inputs"
keyword_text word.Len = codes "len"
keyword_text word.Split = codes "split"
keyword_text word.At = codes "at"
keyword_text word.As = codes "as"

-- the words that are set aside: they are no names, and fit nowhere
abbrev pub reserved_words : List (List ℕ)
reserved_words =
    codes "const" ∷ codes "cilk_spawn" ∷ codes "cilk_sync" ∷ codes "cilk_for" ∷ codes "grain" ∷ codes "reducer" ∷
    codes "foreign" ∷ codes "extern" ∷ codes "break" ∷ codes "continue" ∷ codes "do" ∷ codes "goto" ∷
    codes "switch" ∷ codes "case" ∷ codes "default" ∷ codes "struct" ∷ codes "union" ∷ codes "enum" ∷
    codes "typedef" ∷ codes "static" ∷ codes "char" ∷ codes "short" ∷ codes "long" ∷ codes "unsigned" ∷
    codes "signed" ∷ codes "float" ∷ codes "double" ∷ codes "sizeof" ∷ codes "inlet" ∷ codes "abort" ∷ []

-- how a sign is written
abbrev pub sign_text : Sign → List ℕ
sign_text sign.ShiftLeftAssign = codes "<<="
sign_text sign.ShiftRightAssign = codes ">>="
sign_text sign.ShiftLeft = codes "<<"
sign_text sign.ShiftRight = codes ">>"
sign_text sign.LessEqual = codes "<="
sign_text sign.GreaterEqual = codes ">="
sign_text sign.Equal = codes "=="
sign_text sign.NotEqual = codes "!="
sign_text sign.AndAnd = codes "&&"
sign_text sign.OrOr = codes "||"
sign_text sign.PlusAssign = codes "+="
sign_text sign.MinusAssign = codes "-="
sign_text sign.StarAssign = codes "*="
sign_text sign.SlashAssign = codes "/="
sign_text sign.PercentAssign = codes "%="
sign_text sign.AndAssign = codes "&="
sign_text sign.CaretAssign = codes "^="
sign_text sign.OrAssign = codes "|="
sign_text sign.PlusPlus = codes "++"
sign_text sign.MinusMinus = codes "--"
sign_text sign.Plus = codes "+"
sign_text sign.Minus = codes "-"
sign_text sign.Star = codes "*"
sign_text sign.Slash = codes "/"
sign_text sign.Percent = codes "%"
sign_text sign.Less = codes "<"
sign_text sign.Greater = codes ">"
sign_text sign.Assign = codes "="
sign_text sign.Exclamation = codes "!"
sign_text sign.Tilde = codes "~"
sign_text sign.Ampersand = codes "&"
sign_text sign.Caret = codes "^"
sign_text sign.Bar = codes "|"
sign_text sign.ParenOpen = codes "("
sign_text sign.ParenClose = codes ")"
sign_text sign.BraceOpen = codes "{"
sign_text sign.BraceClose = codes "}"
sign_text sign.BracketOpen = codes "["
sign_text sign.BracketClose = codes "]"
sign_text sign.Comma = codes ","
sign_text sign.Semicolon = codes ";"
