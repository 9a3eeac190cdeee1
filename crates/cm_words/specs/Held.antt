-- What a grant has of a place, a share of it with the word there or nothing, and a grant as the list of these.
use Rattle.std.specs.Prelude.{◌≡◌, ℕ, suc, ◌+◌, ◌<◌, ◌≤◌, Bool, true, false, ◌&&◌, nat_lt, nat_le, if◌then◌else◌, List, [], ◌∷◌, slice_index_or, Option, None, Some}
use mathlib.Core.Path.{refl, sym, ap, subst}
use base.Stored.{Gv, gnil, gnum, gcons, num, Coded, coded_list}
use Rattle.cm_share.specs.Share.{Share, whole, part, ShareSum, Point, has_point, kept_half, lent_half}
use Rattle.cm_share.specs.ShareCode.{share_coded}

-- Nothing of a place, or a share of it with the word there. The shares are those of the cells of a stack.
pub data Held : Type 0 where
  nothing : Held
  held : Share → ℕ → Held

-- what a grant has of the place i: nothing beyond the end of its list
abbrev pub cell : List Held → ℕ → Held
cell cells i = slice_index_or cells i nothing

-- the word there, of whatever share
abbrev pub word_in : Held → Option ℕ
word_in nothing = None
word_in (held q w) = Some w

-- some share of the place is held
abbrev pub IsHeld : Held → Type 0
IsHeld nothing = ⊥
IsHeld (held q w) = Unit {0}

-- some share of it is held, and the whole of it
abbrev pub is_held : Held → Bool
is_held nothing = false
is_held (held q w) = true

abbrev pub is_whole : Held → Bool
is_whole nothing = false
is_whole (held whole w) = true
is_whole (held (part p) w) = false

-- the share has this point of the place
abbrev pub has : Held → Point → Bool
has nothing x = false
has (held q w) x = has_point q x

-- What two grants have of a place comes together: at most one has something of it, or their shares are apart and of one
-- word, and the third has both shares.
abbrev pub HeldSum : Held → Held → Held → Type 0
HeldSum nothing b c = c ≡ b
HeldSum (held q v) nothing c = c ≡ held q v
HeldSum (held q v) (held p w) c = (w ≡ v) × (r : Share) × ShareSum q p r × (c ≡ held r v)

-- the place i is one of the `count` places from `first` on
abbrev pub InSpan : ℕ → ℕ → ℕ → Type 0
InSpan first count i = (first ≤ i) × (i < first + count)

abbrev pub in_span : ℕ → ℕ → ℕ → Bool
in_span first count i = nat_le first i && nat_lt i (first + count)

-- each place of a grant changed, by its number
abbrev pub each : (ℕ → Held → Held) → ℕ → List Held → List Held
each f k [] = []
each f k (c ∷ cs) = f k c ∷ each f (suc k) cs

-- what stays and what goes of the place i where all that is held of some places goes
abbrev pub kept_of : (ℕ → Bool) → ℕ → Held → Held
kept_of inside i c = if inside i then nothing else c

abbrev pub parted_of : (ℕ → Bool) → ℕ → Held → Held
parted_of inside i c = if inside i then c else nothing

-- the two halves of what is held of a place
abbrev pub kept_part_of : Held → Held
kept_part_of nothing = nothing
kept_part_of (held q w) = held (part (kept_half q)) w

abbrev pub lent_part_of : Held → Held
lent_part_of nothing = nothing
lent_part_of (held q w) = held (part (lent_half q)) w

-- what stays and what goes of the place i where half of what is held of some places goes
abbrev pub kept_half_of : (ℕ → Bool) → ℕ → Held → Held
kept_half_of inside i c = if inside i then kept_part_of c else c

abbrev pub lent_half_of : (ℕ → Bool) → ℕ → Held → Held
lent_half_of inside i c = if inside i then lent_part_of c else nothing

-- how a ghost field keeps it
abbrev code_held : Held → Gv
code_held nothing = gnil
code_held (held q w) = gcons (share_coded.code q) (gnum w)

abbrev head_of : Gv → Gv
head_of gnil = gnil
head_of (gnum n) = gnil
head_of (gcons a b) = a

abbrev tail_of : Gv → Gv
tail_of gnil = gnil
tail_of (gnum n) = gnil
tail_of (gcons a b) = b

abbrev IsPair : Gv → Type 0
IsPair gnil = ⊥
IsPair (gnum n) = ⊥
IsPair (gcons a b) = Unit {0}

pub inj_held : (x y : Held) → code_held x ≡ code_held y → x ≡ y
inj_held nothing nothing p = refl
inj_held nothing (held q w) p = absurd (subst IsPair (sym p) tt)
inj_held (held q w) nothing p = absurd (subst IsPair p tt)
inj_held (held q w) (held r v) p = λ i. held (share_coded.inj q r (ap head_of p) i) (ap (λ g. num (tail_of g)) p i)

abbrev pub held_coded : Coded Held
held_coded = record { code = code_held; inj = inj_held }

abbrev pub cells_coded : Coded (List Held)
cells_coded = coded_list held_coded
