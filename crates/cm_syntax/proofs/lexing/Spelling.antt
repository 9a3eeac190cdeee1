-- How tokens are spelled: which token a text is, and which bytes it has. The tables are computed case by case.
use Rattle.std.proofs.Common.{◌≡◌, ℕ, ◌<◌, ◌≤◌, Bool, true, false, List, [], ◌∷◌, length, refl, sym, ap, ◌∙◌, arith, Some, inl, inr}
use Rattle.std.specs.List.{list_all, list_any}
use Rattle.std.proofs.lemmas.Bool.{and_parts, or_cases, true≢false}
use lib.Pointwise.{bytes_decides}
use Rattle.cm_syntax.specs.declared.token.Keyword.{Keyword}
use Rattle.cm_syntax.specs.declared.token.Keyword.TheVariants as word
use Rattle.cm_syntax.specs.declared.token.Sign.{Sign}
use Rattle.cm_syntax.specs.declared.token.Sign.TheVariants as sign
use Rattle.cm_syntax.specs.Text.{is_space, is_letter, is_word_byte, is_same, keyword_text, reserved_words, sign_text}
use Rattle.cm_syntax.specs.Lexer.{keyword_written, sign_written}
use Rattle.cm_syntax.specs.Token.{begins, is_reserved}

-- texts with the same bytes are equal
pub is_same-equal : (a b : List ℕ) → is_same a b ≡ true → a ≡ b
is_same-equal a b = (bytes_decides a b).0

-- each word is found by its text, begins with a letter, has letters alone, and none is set aside
spelled_word : (k : Keyword) → (keyword_written (keyword_text k) ≡ Some k) × (begins is_letter (keyword_text k) ≡ true) ×
    (list_all is_word_byte (keyword_text k) ≡ true) × (is_reserved (keyword_text k) ≡ false)
spelled_word word.Int = (refl, refl, refl, refl)
spelled_word word.Void = (refl, refl, refl, refl)
spelled_word word.Cilk = (refl, refl, refl, refl)
spelled_word word.Spawn = (refl, refl, refl, refl)
spelled_word word.Sync = (refl, refl, refl, refl)
spelled_word word.If = (refl, refl, refl, refl)
spelled_word word.Else = (refl, refl, refl, refl)
spelled_word word.While = (refl, refl, refl, refl)
spelled_word word.For = (refl, refl, refl, refl)
spelled_word word.Return = (refl, refl, refl, refl)
spelled_word word.Print = (refl, refl, refl, refl)
spelled_word word.Input = (refl, refl, refl, refl)
spelled_word word.Inputs = (refl, refl, refl, refl)
spelled_word word.Len = (refl, refl, refl, refl)
spelled_word word.Split = (refl, refl, refl, refl)
spelled_word word.At = (refl, refl, refl, refl)
spelled_word word.As = (refl, refl, refl, refl)

pub keyword_written-text : (k : Keyword) → keyword_written (keyword_text k) ≡ Some k
keyword_written-text k = (spelled_word k).0

pub keyword_begins : (k : Keyword) → begins is_letter (keyword_text k) ≡ true
keyword_begins k = (spelled_word k).1

pub keyword_bytes : (k : Keyword) → list_all is_word_byte (keyword_text k) ≡ true
keyword_bytes k = (spelled_word k).2

pub keyword_free : (k : Keyword) → is_reserved (keyword_text k) ≡ false
keyword_free k = (spelled_word k).3

-- each sign is found by its text, begins with no letter, digit, `_` or white space, and has one to three bytes
spelled_sign : (s : Sign) → (sign_written (sign_text s) ≡ Some s) × (begins is_word_byte (sign_text s) ≡ false) ×
    (begins is_space (sign_text s) ≡ false) × (0 < length (sign_text s)) × (length (sign_text s) ≤ 3)
spelled_sign sign.ShiftLeftAssign = (refl, refl, refl, omega arith, omega arith)
spelled_sign sign.ShiftRightAssign = (refl, refl, refl, omega arith, omega arith)
spelled_sign sign.ShiftLeft = (refl, refl, refl, omega arith, omega arith)
spelled_sign sign.ShiftRight = (refl, refl, refl, omega arith, omega arith)
spelled_sign sign.LessEqual = (refl, refl, refl, omega arith, omega arith)
spelled_sign sign.GreaterEqual = (refl, refl, refl, omega arith, omega arith)
spelled_sign sign.Equal = (refl, refl, refl, omega arith, omega arith)
spelled_sign sign.NotEqual = (refl, refl, refl, omega arith, omega arith)
spelled_sign sign.AndAnd = (refl, refl, refl, omega arith, omega arith)
spelled_sign sign.OrOr = (refl, refl, refl, omega arith, omega arith)
spelled_sign sign.PlusAssign = (refl, refl, refl, omega arith, omega arith)
spelled_sign sign.MinusAssign = (refl, refl, refl, omega arith, omega arith)
spelled_sign sign.StarAssign = (refl, refl, refl, omega arith, omega arith)
spelled_sign sign.SlashAssign = (refl, refl, refl, omega arith, omega arith)
spelled_sign sign.PercentAssign = (refl, refl, refl, omega arith, omega arith)
spelled_sign sign.AndAssign = (refl, refl, refl, omega arith, omega arith)
spelled_sign sign.CaretAssign = (refl, refl, refl, omega arith, omega arith)
spelled_sign sign.OrAssign = (refl, refl, refl, omega arith, omega arith)
spelled_sign sign.PlusPlus = (refl, refl, refl, omega arith, omega arith)
spelled_sign sign.MinusMinus = (refl, refl, refl, omega arith, omega arith)
spelled_sign sign.Plus = (refl, refl, refl, omega arith, omega arith)
spelled_sign sign.Minus = (refl, refl, refl, omega arith, omega arith)
spelled_sign sign.Star = (refl, refl, refl, omega arith, omega arith)
spelled_sign sign.Slash = (refl, refl, refl, omega arith, omega arith)
spelled_sign sign.Percent = (refl, refl, refl, omega arith, omega arith)
spelled_sign sign.Less = (refl, refl, refl, omega arith, omega arith)
spelled_sign sign.Greater = (refl, refl, refl, omega arith, omega arith)
spelled_sign sign.Assign = (refl, refl, refl, omega arith, omega arith)
spelled_sign sign.Exclamation = (refl, refl, refl, omega arith, omega arith)
spelled_sign sign.Tilde = (refl, refl, refl, omega arith, omega arith)
spelled_sign sign.Ampersand = (refl, refl, refl, omega arith, omega arith)
spelled_sign sign.Caret = (refl, refl, refl, omega arith, omega arith)
spelled_sign sign.Bar = (refl, refl, refl, omega arith, omega arith)
spelled_sign sign.ParenOpen = (refl, refl, refl, omega arith, omega arith)
spelled_sign sign.ParenClose = (refl, refl, refl, omega arith, omega arith)
spelled_sign sign.BraceOpen = (refl, refl, refl, omega arith, omega arith)
spelled_sign sign.BraceClose = (refl, refl, refl, omega arith, omega arith)
spelled_sign sign.BracketOpen = (refl, refl, refl, omega arith, omega arith)
spelled_sign sign.BracketClose = (refl, refl, refl, omega arith, omega arith)
spelled_sign sign.Comma = (refl, refl, refl, omega arith, omega arith)
spelled_sign sign.Semicolon = (refl, refl, refl, omega arith, omega arith)

pub sign_written-text : (s : Sign) → sign_written (sign_text s) ≡ Some s
sign_written-text s = (spelled_sign s).0

pub sign_begins : (s : Sign) → begins is_word_byte (sign_text s) ≡ false
sign_begins s = (spelled_sign s).1

pub sign_black : (s : Sign) → begins is_space (sign_text s) ≡ false
sign_black s = (spelled_sign s).2

pub sign_short : (s : Sign) → (0 < length (sign_text s)) × (length (sign_text s) ≤ 3)
sign_short s = ((spelled_sign s).3, (spelled_sign s).4)

-- one text is of one word, and of one sign
pub keyword_text-injective : (j k : Keyword) → keyword_text j ≡ keyword_text k → j ≡ k
keyword_text-injective j k e =
    let found : Some j ≡ Some k = sym (keyword_written-text j) ∙ ap keyword_written e ∙ keyword_written-text k in cc

pub sign_text-injective : (s t : Sign) → sign_text s ≡ sign_text t → s ≡ t
sign_text-injective s t e =
    let found : Some s ≡ Some t = sym (sign_written-text s) ∙ ap sign_written e ∙ sign_written-text t in cc

-- what holds of each of a list's texts holds of one that is among them
pub among : (p : List ℕ → Bool) (texts : List (List ℕ)) (text : List ℕ) → list_all p texts ≡ true → list_any (is_same text) texts ≡ true → p text ≡ true
among p [] text all any = absurd (true≢false (sym any))
among p (first ∷ texts) text all any =
    let parts = and_parts (p first) (list_all p texts) all in
    elim (or_cases (is_same text first) (list_any (is_same text) texts) any) [
      | inl same ↦ ap p (is_same-equal text first same) ∙ parts.0
      | inr more ↦ among p texts text parts.1 more
    ]

-- a word that is set aside begins with a letter, and has letters and `_` alone
pub reserved_begins : (text : List ℕ) → is_reserved text ≡ true → begins is_letter text ≡ true
reserved_begins text e = among (begins is_letter) reserved_words text refl e

pub reserved_bytes : (text : List ℕ) → is_reserved text ≡ true → list_all is_word_byte text ≡ true
reserved_bytes text e = among (list_all is_word_byte) reserved_words text refl e
