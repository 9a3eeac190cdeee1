-- The algebra of shares: sums commute, are associative, have one value and cancel, the whole has no sum, and a share is
-- the sum of its halves. Each law is one of points, and a share is known by its points.
use Rattle.std.proofs.Common.{◌≡◌, zero, suc, Option, None, Some, refl, sym, ap, ◌∙◌, subst}
use Rattle.std.specs.Prelude.{Bool, true, false, ◌||◌, if◌then◌else◌}
use Rattle.cm_share.specs.Share.{Share, whole, part, Part, left, right, both, most, Point, within, has_point, part_has_point, OneOf, ShareSum, kept_half, kept_part, lent_half, lent_part}
use Rattle.cm_share.specs.Together.{left_of, right_of, with_left, with_right, together, part_together}

-- ---- points

-- a point of the whole that lies in a half, where it is this one
abbrev at_left : Point → Point
at_left x zero = false
at_left x (suc n) = x n

abbrev at_right : Point → Point
at_right x zero = true
at_right x (suc n) = x n

abbrev first_point : Point
first_point n = false

abbrev mutual
  -- some point of the share
  pub some_point : (s : Share) → (x : Point) × (has_point s x ≡ true)
  some_point whole = (first_point, refl)
  some_point (part p) = part_point p

  part_point : (p : Part) → (x : Point) × (part_has_point p x ≡ true)
  part_point (left s) = let r = some_point s in (at_left r.0, r.1)
  part_point (right s) = let r = some_point s in (at_right r.0, r.1)
  part_point (both p s) = let r = some_point s in (at_right r.0, r.1)
  part_point (most p) = let r = part_point p in (at_right r.0, r.1)

-- a part isn't the whole: it lacks a point
abbrev lacking : (p : Part) → (x : Point) × (part_has_point p x ≡ false)
lacking (left s) = (at_right first_point, refl)
lacking (right s) = (at_left first_point, refl)
lacking (both p s) = let r = lacking p in (at_left r.0, r.1)
lacking (most p) = let r = lacking p in (at_right r.0, r.1)

not_both : (b c : Bool) → b ≡ c → b ≡ true → c ≡ false → ⊥
not_both true true e f g = cc g
not_both true false e f g = cc e
not_both false c e f g = cc f

mutual
  -- two shares that have the same points are one
  pub same_points : (s t : Share) → ((x : Point) → has_point s x ≡ has_point t x) → s ≡ t
  same_points whole whole h = refl
  same_points whole (part q) h = let r = lacking q in absurd (not_both _ _ (h r.0) refl r.1)
  same_points (part p) whole h = let r = lacking p in absurd (not_both _ _ (sym (h r.0)) refl r.1)
  same_points (part p) (part q) h = ap part (same_part p q h)

  same_part : (p q : Part) → ((x : Point) → part_has_point p x ≡ part_has_point q x) → p ≡ q
  same_part (left s) (left t) h = ap left (same_points s t (λ x. h (at_left x)))
  same_part (left s) (right t) h = let r = some_point t in absurd (not_both _ _ (sym (h (at_right r.0))) r.1 refl)
  same_part (left s) (both q t) h = let r = some_point t in absurd (not_both _ _ (sym (h (at_right r.0))) r.1 refl)
  same_part (left s) (most q) h = let r = part_point q in absurd (not_both _ _ (sym (h (at_right r.0))) r.1 refl)
  same_part (right s) (left t) h = let r = some_point s in absurd (not_both _ _ (h (at_right r.0)) r.1 refl)
  same_part (right s) (right t) h = ap right (same_points s t (λ x. h (at_right x)))
  same_part (right s) (both q t) h = let r = part_point q in absurd (not_both _ _ (sym (h (at_left r.0))) r.1 refl)
  same_part (right s) (most q) h = absurd (not_both _ _ (sym (h (at_left first_point))) refl refl)
  same_part (both p s) (left t) h = let r = some_point s in absurd (not_both _ _ (h (at_right r.0)) r.1 refl)
  same_part (both p s) (right t) h = let r = part_point p in absurd (not_both _ _ (h (at_left r.0)) r.1 refl)
  same_part (both p s) (both q t) h = ap (λ z. both z s) (same_part p q (λ x. h (at_left x))) ∙ ap (λ z. both q z) (same_points s t (λ x. h (at_right x)))
  same_part (both p s) (most q) h = let r = lacking p in absurd (not_both _ _ (sym (h (at_left r.0))) refl r.1)
  same_part (most p) (left t) h = let r = part_point p in absurd (not_both _ _ (h (at_right r.0)) r.1 refl)
  same_part (most p) (right t) h = absurd (not_both _ _ (h (at_left first_point)) refl refl)
  same_part (most p) (both q t) h = let r = lacking q in absurd (not_both _ _ (h (at_left r.0)) refl r.1)
  same_part (most p) (most q) h = ap most (same_part p q (λ x. h (at_right x)))

-- ---- two shares together

abbrev has : Option Share → Point → Bool
has None x = false
has (Some s) x = has_point s x

always : (b : Bool) → true ≡ (if b then true else true)
always true = refl
always false = refl

never : (b : Bool) → false ≡ (if b then false else false)
never true = refl
never false = refl

in_halves : (o : Option Share) (x : Point) → has o x ≡ (if x zero then has (right_of o) (within x) else has (left_of o) (within x))
in_halves None x = never (x zero)
in_halves (Some whole) x = always (x zero)
in_halves (Some (part (left s))) x = refl
in_halves (Some (part (right s))) x = refl
in_halves (Some (part (both p s))) x = refl
in_halves (Some (part (most p))) x = refl

has_left : (s : Share) (o : Option Share) (x : Point) → has_point (with_left s o) x ≡ (if x zero then has o (within x) else has_point s (within x))
has_left whole None x = refl
has_left whole (Some whole) x = always (x zero)
has_left whole (Some (part q)) x = refl
has_left (part p) None x = refl
has_left (part p) (Some s) x = refl

has_right : (o : Option Share) (s : Share) (x : Point) → has_point (with_right o s) x ≡ (if x zero then has_point s (within x) else has o (within x))
has_right None s x = refl
has_right (Some l) s x = has_left l (Some s) x

or_in : (b p q r s t u v : Bool) → t ≡ (if b then u else v) → u ≡ (p || q) → v ≡ (r || s) → t ≡ ((if b then p else r) || (if b then q else s))
or_in true p q r s t u v e f g = e ∙ f
or_in false p q r s t u v e f g = e ∙ g

mutual
  pub has_together : (s : Share) (o : Option Share) (x : Point) → has_point (together s o) x ≡ (has_point s x || has o x)
  has_together whole o x = refl
  has_together (part p) o x = part_has_together p o x

  part_has_together : (p : Part) (o : Option Share) (x : Point) → has_point (part_together p o) x ≡ (part_has_point p x || has o x)
  part_has_together (left s) o x = rw (in_halves o x) (or_in (x zero) false (has (right_of o) (within x)) (has_point s (within x)) (has (left_of o) (within x)) _ _ _ (has_left (together s (left_of o)) (right_of o) x) refl (has_together s (left_of o) (within x)))
  part_has_together (right s) o x = rw (in_halves o x) (or_in (x zero) (has_point s (within x)) (has (right_of o) (within x)) false (has (left_of o) (within x)) _ _ _ (has_right (left_of o) (together s (right_of o)) x) (has_together s (right_of o) (within x)) refl)
  part_has_together (both p s) o x = rw (in_halves o x) (or_in (x zero) (has_point s (within x)) (has (right_of o) (within x)) (part_has_point p (within x)) (has (left_of o) (within x)) _ _ _ (has_left (part_together p (left_of o)) (Some (together s (right_of o))) x) (has_together s (right_of o) (within x)) (part_has_together p (left_of o) (within x)))
  part_has_together (most p) o x = rw (in_halves o x) (or_in (x zero) (part_has_point p (within x)) (has (right_of o) (within x)) true (has (left_of o) (within x)) _ _ _ (has_left whole (Some (part_together p (right_of o))) x) (part_has_together p (right_of o) (within x)) refl)

-- ---- of one point

one_comm : (a b c : Bool) → OneOf a b c → OneOf b a c
one_comm true true c e = e
one_comm true false c e = e
one_comm false true c e = e
one_comm false false c e = e

one_same : (a b x y : Bool) → OneOf a b x → OneOf a b y → x ≡ y
one_same true true x y e f = absurd e
one_same true false x y e f = e ∙ sym f
one_same false b x y e f = e ∙ sym f

one_cancel : (a b c x : Bool) → OneOf a b x → OneOf a c x → b ≡ c
one_cancel true true c x e f = absurd e
one_cancel true false true x e f = absurd f
one_cancel true false false x e f = refl
one_cancel false b c x e f = sym e ∙ f

one_assoc : (a b c x y : Bool) → OneOf a b x → OneOf x c y → OneOf b c (b || c) × OneOf a (b || c) y
one_assoc true true c x y e f = absurd e
one_assoc true false true x y e f = absurd (subst (λ z. OneOf z true y) e f)
one_assoc true false false x y e f = (refl, subst (λ z. OneOf z false y) e f)
one_assoc false true true x y e f = absurd (subst (λ z. OneOf z true y) e f)
one_assoc false true false x y e f = (refl, subst (λ z. OneOf z false y) e f)
one_assoc false false c x y e f = (refl, subst (λ z. OneOf z c y) e f)

one_none : (b : Bool) → OneOf b false b
one_none true = refl
one_none false = refl

one_in : (b p q r s t u : Bool) → OneOf p q r → OneOf s t u → OneOf (if b then p else s) (if b then q else t) (if b then r else u)
one_in true p q r s t u e f = e
one_in false p q r s t u e f = f

one_half : (b : Bool) → OneOf (if b then false else true) (if b then true else false) true
one_half true = refl
one_half false = refl

-- ---- of shares

pub share_comm : {a b c : Share} → ShareSum a b c → ShareSum b a c
share_comm s = record { points = λ x. one_comm _ _ _ (s.points x) }

pub share_same : {a b x y : Share} → ShareSum a b x → ShareSum a b y → x ≡ y
share_same {a = a} {b = b} {x = x} {y = y} s t = same_points x y (λ z. one_same (has_point a z) (has_point b z) _ _ (s.points z) (t.points z))

pub share_cancel : {a b c x : Share} → ShareSum a b x → ShareSum a c x → b ≡ c
share_cancel {a = a} {b = b} {c = c} {x = x} s t = same_points b c (λ z. one_cancel (has_point a z) _ _ (has_point x z) (s.points z) (t.points z))

pub share_assoc : {a b c x y : Share} → ShareSum a b x → ShareSum x c y → (z : Share) × ShareSum b c z × ShareSum a z y
share_assoc {a = a} {b = b} {c = c} {x = x} {y = y} s t = (
  together b (Some c),
  record { points = λ p. rw (has_together b (Some c) p) (one_assoc (has_point a p) (has_point b p) (has_point c p) (has_point x p) (has_point y p) (s.points p) (t.points p)).0 },
  record { points = λ p. rw (has_together b (Some c) p) (one_assoc (has_point a p) (has_point b p) (has_point c p) (has_point x p) (has_point y p) (s.points p) (t.points p)).1 },
)

-- nobody holds anything beside the whole
pub whole_alone : {b c : Share} → ShareSum whole b c → ⊥
whole_alone {b = b} {c = c} s = let r = some_point b in subst (λ z. OneOf true z (has_point c r.0)) r.1 (s.points r.0)

-- a sum is more than each part
pub share_grows : {a b : Share} → ShareSum a b a → ⊥
share_grows {a = a} {b = b} s = let r = some_point b in by (has_point a r.0) (subst (λ z. OneOf (has_point a r.0) z (has_point a r.0)) r.1 (s.points r.0))
  where
    by : (c : Bool) → OneOf c true c → ⊥
    by true e = e
    by false e = cc e

-- a share is the sum of its halves
mutual
  halved : (s : Share) (x : Point) → OneOf (part_has_point (kept_half s) x) (part_has_point (lent_half s) x) (has_point s x)
  halved whole x = one_half (x zero)
  halved (part p) x = halved_part p x

  halved_part : (p : Part) (x : Point) → OneOf (part_has_point (kept_part p) x) (part_has_point (lent_part p) x) (part_has_point p x)
  halved_part (left s) x = one_in (x zero) false false false _ _ _ refl (halved s (within x))
  halved_part (right s) x = one_in (x zero) _ _ _ false false false (halved s (within x)) refl
  halved_part (both p s) x = one_in (x zero) (has_point s (within x)) false (has_point s (within x)) _ _ _ (one_none _) (halved_part p (within x))
  halved_part (most p) x = one_in (x zero) (part_has_point p (within x)) false (part_has_point p (within x)) _ _ true (one_none _) (one_half (x (suc zero)))

pub share_halves : (s : Share) → ShareSum (part (kept_half s)) (part (lent_half s)) s
share_halves s = record { points = λ x. halved s x }

-- what two shares come to is computed
pub share_together : {a b c : Share} → ShareSum a b c → together a (Some b) ≡ c
share_together {a = a} {b = b} {c = c} s = same_points (together a (Some b)) c (λ x. has_together a (Some b) x ∙ by (has_point a x) (has_point b x) (has_point c x) (s.points x))
  where
    by : (p q r : Bool) → OneOf p q r → (p || q) ≡ r
    by true true r e = absurd e
    by true false r e = sym e
    by false q r e = sym e

-- no share is apart from itself
pub share_apart : {a c : Share} → ShareSum a a c → ⊥
share_apart {a = a} {c = c} s = let r = some_point a in subst (λ z. OneOf z z (has_point c r.0)) r.1 (s.points r.0)
