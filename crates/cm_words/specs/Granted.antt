-- A grant as contracts see it: which region it is of, and what it has of the places from 0 on.
use Rattle.std.specs.Prelude.{List}
use base.Stored.{Coded, coded×, coded_via}
use Rattle.atomic_table.specs.Seated.{TableId, table_id_coded}
use Rattle.cm_words.specs.Held.{Held, cells_coded}

pub record Granted : Type 0 where
  pub region : TableId
  pub cells : List Held

abbrev pub granted_coded : Coded Granted
granted_coded = coded_via (coded× table_id_coded cells_coded) (λ (l : Granted). (l.region, l.cells)) (λ x y e i. record { region = (e i).0; cells = (e i).1 })
