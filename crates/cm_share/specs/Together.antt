-- The sum of two shares that are apart, computed: what each half of the whole comes to, half by half.
use Rattle.std.specs.Prelude.{Option, None, Some}
use Rattle.cm_share.specs.Share.{Share, whole, part, Part, left, right, both, most}

-- what of a share lies in each half
abbrev pub left_of : Option Share → Option Share
left_of None = None
left_of (Some whole) = Some whole
left_of (Some (part (left s))) = Some s
left_of (Some (part (right s))) = None
left_of (Some (part (both p s))) = Some (part p)
left_of (Some (part (most p))) = Some whole

abbrev pub right_of : Option Share → Option Share
right_of None = None
right_of (Some whole) = Some whole
right_of (Some (part (left s))) = None
right_of (Some (part (right s))) = Some s
right_of (Some (part (both p s))) = Some s
right_of (Some (part (most p))) = Some (part p)

-- of two halves, one of which is there
abbrev pub with_left : Share → Option Share → Share
with_left whole None = part (left whole)
with_left whole (Some whole) = whole
with_left whole (Some (part q)) = part (most q)
with_left (part p) None = part (left (part p))
with_left (part p) (Some s) = part (both p s)

abbrev pub with_right : Option Share → Share → Share
with_right None s = part (right s)
with_right (Some l) s = with_left l (Some s)

-- the share that two shares which are apart come to, or a share and nothing
abbrev mutual
  pub together : Share → Option Share → Share
  together whole o = whole
  together (part p) o = part_together p o

  pub part_together : Part → Option Share → Share
  part_together (left s) o = with_left (together s (left_of o)) (right_of o)
  part_together (right s) o = with_right (left_of o) (together s (right_of o))
  part_together (both p s) o = with_left (part_together p (left_of o)) (Some (together s (right_of o)))
  part_together (most p) o = with_left whole (Some (part_together p (right_of o)))
