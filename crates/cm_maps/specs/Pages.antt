-- Pages of memory by their numbers.
use Rattle.std.specs.Prelude.{ℕ, ◌≡◌, ◌≢◌, ◌⊎◌, List}
use Rattle.std.specs.List.{AllPairs}

-- a size of pages, in bytes
abbrev pub IsPage : ℕ → Type 0
IsPage page = (page ≡ 256) ⊎ (page ≡ 1024) ⊎ (page ≡ 4096)

-- a list of pages: for how many there is room, and their numbers
pub record ListState : Type 0 where
  pub room : ℕ
  pub pages : List ℕ

-- a page map: the bytes of a page, for how many pages there is room, and their numbers from the top of the stack down
pub record MapState : Type 0 where
  pub page : ℕ
  pub room : ℕ
  pub pages : List ℕ

-- no page stands twice
abbrev pub AreDistinct : List ℕ → Type 0
AreDistinct pages = AllPairs (λ first second. first ≢ second) pages
