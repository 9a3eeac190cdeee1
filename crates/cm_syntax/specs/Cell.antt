-- Cells: what a stack holds of one word or one reference, and what a spawn and a join make of it. Nothing outside goes by
-- the cases of a cell where it can ask whether the cell may be read or written, or for the value in it.
use Rattle.std.specs.Prelude.{◌≡◌, ◌⊎◌, Bool, true, false, ℤ, Option, None, Some}
use Rattle.cm_share.specs.Share.{Share, whole, part, Part, ShareSum, kept_half, lent_half}

-- ---- what a cell is

-- What a stack holds of a word or a reference: *absent*, it isn't this stack's and may be neither read nor written;
-- *unset*, it is this stack's, but nothing was put there yet, so it may be written and not read; *present*, the whole
-- of it is this stack's, with its value; *shared*, a part of it that isn't the whole, so it may be read and not written.
pub data Cell (A : Type 0) : Type 0 where
  absent : Cell A
  unset : Cell A
  present : A → Cell A
  shared : Part → A → Cell A

-- ---- what may be done with a cell

-- the share of it that is this stack's
abbrev pub share_in : {A : Type 0} → Cell A → Option Share
share_in absent = None
share_in unset = Some whole
share_in (present v) = Some whole
share_in (shared p v) = Some (part p)

-- some share of it is this stack's
abbrev pub is_held : {A : Type 0} → Cell A → Bool
is_held absent = false
is_held unset = true
is_held (present v) = true
is_held (shared p v) = true

-- the value in it, with whatever share
abbrev pub value_in : {A : Type 0} → Cell A → Option A
value_in absent = None
value_in unset = None
value_in (present v) = Some v
value_in (shared p v) = Some v

-- it may be read where there is a value, and written where the whole is this stack's
abbrev pub may_read : {A : Type 0} → Cell A → Bool
may_read absent = false
may_read unset = false
may_read (present v) = true
may_read (shared p v) = true

abbrev pub may_write : {A : Type 0} → Cell A → Bool
may_write absent = false
may_write unset = true
may_write (present v) = true
may_write (shared p v) = false

-- a value of which so great a share is held
abbrev pub with_share : {A : Type 0} → Share → A → Cell A
with_share whole v = present v
with_share (part p) v = shared p v

-- the same share of another value, which is made of the one that is there
abbrev pub map_cell : {A B : Type 0} → (A → B) → Cell A → Cell B
map_cell f absent = absent
map_cell f unset = unset
map_cell f (present v) = present (f v)
map_cell f (shared p v) = shared p (f v)

-- ---- lending

-- what a spawn does with a word: nothing, it lends it for reading, or for writing
pub data Loan : Type 0 where
  unlent : Loan
  to_read : Loan
  to_write : Loan

-- What goes to the child of a word: all that is held of it where it is lent for writing, and the half of the share
-- where it is lent for reading. A word that is unset can't be read, and is not lent for it.
abbrev pub lent_cell : {A : Type 0} → Loan → Cell A → Cell A
lent_cell unlent c = absent
lent_cell to_write c = c
lent_cell to_read absent = absent
lent_cell to_read unset = absent
lent_cell to_read (present v) = shared (lent_half whole) v
lent_cell to_read (shared p v) = shared (lent_half (part p)) v

-- what stays
abbrev pub kept_cell : {A : Type 0} → Loan → Cell A → Cell A
kept_cell unlent c = c
kept_cell to_write c = absent
kept_cell to_read absent = absent
kept_cell to_read unset = unset
kept_cell to_read (present v) = shared (kept_half whole) v
kept_cell to_read (shared p v) = shared (kept_half (part p)) v

-- ---- joining

-- Of two cells at most one is held, and the third is that one; or both have the same value, of which the shares are
-- apart, and the third has it with both shares together.
abbrev pub CellSum : {A : Type 0} → Cell A → Cell A → Cell A → Type 0
CellSum absent b c = c ≡ b
CellSum unset absent c = c ≡ unset
CellSum unset _ c = ⊥
CellSum (present v) absent c = c ≡ present v
CellSum (present v) _ c = ⊥
CellSum (shared p v) absent c = c ≡ shared p v
CellSum (shared p v) (shared q w) c = (w ≡ v) × (r : Share) × ShareSum (part p) (part q) r × (c ≡ with_share r v)
CellSum (shared p v) _ c = ⊥

-- a value comes into a cell that may be written
abbrev pub settle_cell : Cell ℤ → ℤ → Cell ℤ
settle_cell absent v = absent
settle_cell unset v = present v
settle_cell (present w) v = present v
settle_cell (shared p w) v = shared p w

-- What comes back of a cell that was lent: the same share of it, and where that isn't the whole the same value, which
-- nobody could write.
abbrev pub ComesBack : {A : Type 0} → (lent back : Cell A) → Type 0
ComesBack (shared p v) b = b ≡ shared p v
ComesBack a b = share_in b ≡ share_in a

-- What comes back of a cell before its join: a share that may be read and not written, all of it or nothing.
abbrev pub ComesEarly : {A : Type 0} → (back rest given : Cell A) → Type 0
ComesEarly back rest given = ((back ≡ absent) × (rest ≡ given)) ⊎ ((may_read given ≡ true) × (may_write given ≡ false) × (back ≡ given) × (rest ≡ absent))
