-- A store as contracts see it: for how many pages there is room, and the pages in order.
use Rattle.std.specs.Prelude.{ℕ, List}
use base.Stored.{Coded, coded×, coded_via, coded_list}
use Rattle.std.specs.Coded.{coded_ℕ}
use Rattle.cm_store.specs.PageWords.{PageState, page_coded}

pub record StoreState : Type 0 where
  pub room : ℕ
  pub pages : List PageState

abbrev pub store_coded : Coded StoreState
store_coded = coded_via (coded× coded_ℕ (coded_list page_coded)) (λ (s : StoreState). (s.room, s.pages)) (λ x y e i. record { room = (e i).0; pages = (e i).1 })
