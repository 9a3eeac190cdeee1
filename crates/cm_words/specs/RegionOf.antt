-- The table of a region, by which contracts know it.
use Rattle.atomic_table.specs.Seated.{TableId}
use Rattle.cm_words.specs.declared.region.Region.{Region}

-- which region it is
abbrev pub region_of : Region → TableId
region_of r = r.table.shared.table_id
