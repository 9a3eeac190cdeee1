-- What most definitions ask of a slot: whether it has one word, so many words, or a reference. Names, typing, lending and
-- the text alone ask how it was declared.
use Rattle.std.specs.Prelude.{ℕ, Option, option_map, List, slice_get}
use Rattle.cm_syntax.specs.declared.stmt.Slot.{Slot}
use Rattle.cm_syntax.specs.declared.stmt.Slot.TheVariants as slot
use Rattle.cm_syntax.specs.declared.stmt.Extent.{Extent}
use Rattle.cm_syntax.specs.declared.stmt.Extent.TheVariants as extent

-- what a slot has, however it was declared
abbrev pub extent_of : Slot → Extent
extent_of slot.Scalar = extent.Word
extent_of (slot.Array words) = extent.Words words
extent_of slot.Slice = extent.Reference

-- the extent of a variable among these slots
abbrev pub extent_at : List Slot → (x : ℕ) → Option Extent
extent_at slots x = option_map extent_of (slice_get slots x)
