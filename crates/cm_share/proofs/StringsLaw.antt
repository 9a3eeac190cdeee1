-- A share and its strings: halving goes by the first string, and a share has the points that its strings lead to.
use Rattle.std.proofs.Common.{◌≡◌, zero, refl, sym, ap, ◌∙◌}
use Rattle.std.specs.Prelude.{Bool, true, false, ◌&&◌, ◌||◌, not, if◌then◌else◌, List, [], ◌∷◌, ◌++◌}
use Rattle.cm_share.specs.Share.{Share, whole, part, Part, left, right, both, most, Point, within, has_point, part_has_point, kept_half, kept_part, lent_half, lent_part}
use Rattle.cm_share.specs.Strings.{by_left, by_right, strings, part_strings, leads_to, some_leads_to, HalvesFirst}

mutual
  pub halves_first : (s : Share) → HalvesFirst (strings s) (part_strings (kept_half s)) (part_strings (lent_half s))
  halves_first whole = record { first = []; others = []; are = refl; kept_are = refl; lent_are = refl }
  halves_first (part p) = part_halves_first p

  part_halves_first : (p : Part) → HalvesFirst (part_strings p) (part_strings (kept_part p)) (part_strings (lent_part p))
  part_halves_first (left s) = let h = halves_first s in
      record { first = false ∷ h.first; others = by_left h.others; are = ap by_left h.are; kept_are = ap by_left h.kept_are; lent_are = ap by_left h.lent_are }
  part_halves_first (right s) = let h = halves_first s in
      record { first = true ∷ h.first; others = by_right h.others; are = ap by_right h.are; kept_are = ap by_right h.kept_are; lent_are = ap by_right h.lent_are }
  part_halves_first (both p s) = let h = part_halves_first p in record {
    first = false ∷ h.first;
    others = by_left h.others ++ by_right (strings s);
    are = ap (λ z. by_left z ++ by_right (strings s)) h.are;
    kept_are = ap (λ z. by_left z ++ by_right (strings s)) h.kept_are;
    lent_are = ap by_left h.lent_are;
  }
  part_halves_first (most p) = record { first = false ∷ []; others = by_right (part_strings p); are = refl; kept_are = refl; lent_are = refl }

at_left : (ways : List (List Bool)) (x : Point) → some_leads_to (by_left ways) x ≡ (if x zero then false else some_leads_to ways (within x))
at_left ways x = by (x zero) refl ways
  where
    by : (b : Bool) → x zero ≡ b → (ways : List (List Bool)) → some_leads_to (by_left ways) x ≡ (if b then false else some_leads_to ways (within x))
    by true e [] = refl
    by true e (way ∷ ways) = rw e (by true e ways)
    by false e [] = refl
    by false e (way ∷ ways) = rw e (ap (λ z. leads_to way (within x) || z) (by false e ways))

at_right : (ways : List (List Bool)) (x : Point) → some_leads_to (by_right ways) x ≡ (if x zero then some_leads_to ways (within x) else false)
at_right ways x = by (x zero) refl ways
  where
    by : (b : Bool) → x zero ≡ b → (ways : List (List Bool)) → some_leads_to (by_right ways) x ≡ (if b then some_leads_to ways (within x) else false)
    by true e [] = refl
    by true e (way ∷ ways) = rw e (ap (λ z. leads_to way (within x) || z) (by true e ways))
    by false e [] = refl
    by false e (way ∷ ways) = rw e (by false e ways)

-- of two lists of strings
some_of_both : (ways more : List (List Bool)) (x : Point) → some_leads_to (ways ++ more) x ≡ (some_leads_to ways x || some_leads_to more x)
some_of_both [] more x = refl
some_of_both (way ∷ ways) more x = by (leads_to way x) _ (some_leads_to ways x) (some_leads_to more x) (some_of_both ways more x)
  where
    by : (b c d e : Bool) → c ≡ (d || e) → (b || c) ≡ ((b || d) || e)
    by true c d e k = refl
    by false c d e k = k

mutual
  pub strings_lead : (s : Share) (x : Point) → has_point s x ≡ some_leads_to (strings s) x
  strings_lead whole x = refl
  strings_lead (part p) x = part_strings_lead p x

  part_strings_lead : (p : Part) (x : Point) → part_has_point p x ≡ some_leads_to (part_strings p) x
  part_strings_lead (left s) x = ap (λ z. if x zero then false else z) (strings_lead s (within x)) ∙ sym (at_left (strings s) x)
  part_strings_lead (right s) x = ap (λ z. if x zero then z else false) (strings_lead s (within x)) ∙ sym (at_right (strings s) x)
  part_strings_lead (both p s) x = by (x zero) _ (some_leads_to (strings s) (within x)) _ (some_leads_to (part_strings p) (within x)) (strings_lead s (within x)) (part_strings_lead p (within x))
      ∙ ap (λ z. z || (if x zero then some_leads_to (strings s) (within x) else false)) (sym (at_left (part_strings p) x))
      ∙ ap (λ z. some_leads_to (by_left (part_strings p)) x || z) (sym (at_right (strings s) x))
      ∙ sym (some_of_both (by_left (part_strings p)) (by_right (strings s)) x)
    where
      by : (b c d e f : Bool) → c ≡ d → e ≡ f → (if b then c else e) ≡ ((if b then false else f) || (if b then d else false))
      by true c d e f k l = k
      by false c d e f k l = l ∙ sym (none f)
        where
          none : (z : Bool) → (z || false) ≡ z
          none true = refl
          none false = refl
  part_strings_lead (most p) x = by (x zero) _ (some_leads_to (part_strings p) (within x)) (part_strings_lead p (within x)) ∙ ap (λ z. (not (x zero) && true) || z) (sym (at_right (part_strings p) x))
    where
      by : (b c d : Bool) → c ≡ d → (if b then c else true) ≡ ((not b && true) || (if b then d else false))
      by true c d k = k
      by false c d k = refl
