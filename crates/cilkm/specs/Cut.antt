-- Which bytes of standard input are the source.
use Rattle.std.specs.Prelude.{◌≡◌, ℕ, ◌≤◌, ◌⊎◌, List, [], ◌++◌, length, codes}

-- the most bytes of standard input
abbrev pub max_input : ℕ
max_input = 4194304

-- The bytes are whole lines: there are none, or the last one is a line feed.
abbrev pub AreLines : List ℕ → Type 0
AreLines bytes = (bytes ≡ []) ⊎ ((before : List ℕ) × (bytes ≡ before ++ codes "\n"))

-- A line ends here: nothing follows, or a line feed does.
abbrev pub EndsLine : List ℕ → Type 0
EndsLine bytes = (bytes ≡ []) ⊎ ((more : List ℕ) × (bytes ≡ codes "\n" ++ more))

-- The bytes begin with a line of `%%`, with or without a carriage return at its end.
abbrev pub BeginsMark : List ℕ → Type 0
BeginsMark bytes = (rest : List ℕ) × EndsLine rest × ((bytes ≡ codes "%%" ++ rest) ⊎ (bytes ≡ codes "%%\r" ++ rest))

-- A line of `%%` stands right behind this front of a text.
pub record MarkBehind (bytes front : List ℕ) : Type 0 where
  pub rest : List ℕ
  pub text : bytes ≡ front ++ rest
  pub lines : AreLines front
  pub mark : BeginsMark rest

-- The source in a text: a front of it behind which a line of `%%` stands, or all of it; and no such line stands
-- behind a shorter front. So it is all of the text exactly where the text has no line of `%%`.
pub record IsCut (bytes source : List ℕ) : Type 0 where
  pub here : MarkBehind bytes source ⊎ (source ≡ bytes)
  pub first : (front : List ℕ) → MarkBehind bytes front → length source ≤ length front
