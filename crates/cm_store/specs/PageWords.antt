-- A page as contracts see it, and what its grant holds.
use Rattle.std.specs.Prelude.{◌≡◌, ◌<◌, ℕ, ◌*◌, ◌/◌, List}
use base.Stored.{Coded, coded×, coded_via}
use Rattle.std.specs.Coded.{coded_ℕ}
use Rattle.cm_maps.specs.Pages.{IsPage}
use Rattle.cm_words.specs.Granted.{Granted, granted_coded}
use Rattle.cm_words.specs.Held.{Held, cell, is_held, is_whole, in_span}

-- a page: its number, its bytes, and the grant of its words
pub record PageState : Type 0 where
  pub number : ℕ
  pub page : ℕ
  pub words : Granted

abbrev pub page_coded : Coded PageState
page_coded = coded_via (coded× coded_ℕ (coded× coded_ℕ granted_coded)) (λ (p : PageState). (p.number, (p.page, p.words))) (λ x y e i. record { number = (e i).0; page = (e i).1.0; words = (e i).1.1 })

-- the whole of each of the `page / 4` places from `number * (page / 4)` on, and nothing else
abbrev pub HoldsPage : ℕ → ℕ → List Held → Type 0
HoldsPage number page cells = (i : ℕ)
    → (is_held (cell cells i) ≡ in_span (number * (page / 4)) (page / 4) i) × (is_whole (cell cells i) ≡ in_span (number * (page / 4)) (page / 4) i)

-- the number and the bytes are a page's, and the grant is that of its words
abbrev pub IsExact : PageState → Type 0
IsExact p = (p.number < 65536) × IsPage p.page × HoldsPage p.number p.page p.words.cells
