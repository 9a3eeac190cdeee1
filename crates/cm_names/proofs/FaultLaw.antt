-- Which fault is kept of those that are found one after another, and that it is the one that is answered.
use Rattle.std.proofs.Common.{◌≡◌, ℕ, zero, suc, ◌≤◌, Bool, true, false, if◌then◌else◌, List, [], ◌∷◌, ◌++◌, Option, None, Some, inl, inr, refl, sym, ◌∙◌, append_assoc, append-nil, arith}
use Rattle.std.specs.Prelude.{◌==◌, nat_lt, ◌||◌, ◌&&◌, ◌⊎◌, Contains}
use Rattle.std.specs.List.{flat_map, list_any}
use Rattle.std.proofs.Math.Bool.{or-false, or_assoc}
use Rattle.std.proofs.lemmas.Bool.Decides.{nat_tests}
use Rattle.std.proofs.lemmas.List.Sums.{fold-append}
use Rattle.std.proofs.lemmas.List.Elements.{Contains-append_left, Contains-append_right, Contains-append_cases}
use Rattle.cm_syntax.specs.declared.name.Name.{Name}
use Rattle.cm_syntax.specs.declared.stmt.Function.{Function}
use Rattle.cm_syntax.specs.declared.stmt.Tree.{Tree}
use Rattle.cm_syntax.specs.Resolution.{Use}
use Rattle.cm_syntax.specs.Fault.{Fault, rank, fault_at, use_faults, is_faulty_mention, faults, IsNameAnswer}
use Rattle.cm_names.specs.Found.{Found}
use Rattle.cm_names.specs.Finding.{precedes, keep, least_fault, IsLeast, after_use, after_uses}

-- ---- what is found in uses

module _ (functions : List (Function Name)) (f : Function Name) where
  -- the fault that is kept, and whether a mention is faulty, of all uses
  pub record Finds (found new : Found) (uses : List Use) : Type 0 where
    pub least : new.least ≡ least_fault found.least (flat_map (use_faults functions f) uses)
    pub has_faulty_mention : new.has_faulty_mention ≡ (found.has_faulty_mention || list_any (is_faulty_mention functions f) uses)

  pub finds : (found : Found) (uses : List Use) → Finds found (after_uses functions f found uses) uses
  finds found [] = record { least = refl; has_faulty_mention = sym (or-false found.has_faulty_mention) }
  finds found (first ∷ more) =
      let rest = finds (after_use functions f found first) more in
      record {
        least = rest.least ∙ sym (fold-append keep found.least (use_faults functions f first) (flat_map (use_faults functions f) more));
        has_faulty_mention = rest.has_faulty_mention ∙ or_assoc found.has_faulty_mention (is_faulty_mention functions f first) (list_any (is_faulty_mention functions f) more);
      }

-- ---- the least fault

abbrev is_before : (a r b s : ℕ) → Bool
is_before a r b s = nat_lt a b || (a == b && nat_lt r s)

no_less : (a r b s c t : ℕ) → is_before a r b s ≡ true → is_before c t b s ≡ false → is_before c t a r ≡ false
no_less a r b s c t less other = grind (arith, nat_tests)

itself : (a r : ℕ) → is_before a r a r ≡ false
itself a r = grind (arith, nat_tests)

only : {X : Type 0} (x y : X) → Contains (x ∷ []) y → y ≡ x
only x y (zero, lt, is) = sym is
only x y (suc k, lt, is) = absurd (omega arith)

pub here : {X : Type 0} (x : X) → Contains (x ∷ []) x
here x = (0, omega arith, refl)

-- one more fault
least-keep : (least : Option Fault) (earlier : List Fault) (fault : Fault) → IsLeast least earlier → IsLeast (keep least fault) (earlier ++ fault ∷ [])
least-keep None earlier fault none = rw (none) (here fault, λ other among. rw (only fault other among) (itself fault.at (rank fault.variant)))
least-keep (Some least) earlier fault is = by (precedes fault least) refl
  where
    by : (b : Bool) → precedes fault least ≡ b → IsLeast (if b then Some fault else Some least) (earlier ++ fault ∷ [])
    by true less = (Contains-append_right earlier (fault ∷ []) fault (here fault), λ other among. of_either other (Contains-append_cases earlier (fault ∷ []) other among))
      where
        of_either : (other : Fault) → Contains earlier other ⊎ Contains (fault ∷ []) other → precedes other fault ≡ false
        of_either other (inl before) = no_less fault.at (rank fault.variant) least.at (rank least.variant) other.at (rank other.variant) less (is.1 other before)
        of_either other (inr last) = rw (only fault other last) (itself fault.at (rank fault.variant))
    by false more = (Contains-append_left earlier (fault ∷ []) least is.0, λ other among. of_either other (Contains-append_cases earlier (fault ∷ []) other among))
      where
        of_either : (other : Fault) → Contains earlier other ⊎ Contains (fault ∷ []) other → precedes other least ≡ false
        of_either other (inl before) = is.1 other before
        of_either other (inr last) = rw (only fault other last) more

-- more faults
pub least-more : (least : Option Fault) (earlier more : List Fault) → IsLeast least earlier → IsLeast (least_fault least more) (earlier ++ more)
least-more least earlier [] is = rw (append-nil earlier) is
least-more least earlier (fault ∷ more) is =
    rw (← append_assoc earlier (fault ∷ []) more) (least-more (keep least fault) (earlier ++ fault ∷ []) more (least-keep least earlier fault is))

-- the order of two groups of faults plays no part
swapped : {X : Type 0} (earlier xs ys : List X) (x : X) → Contains (earlier ++ (xs ++ ys)) x → Contains (earlier ++ (ys ++ xs)) x
swapped earlier xs ys x among = by (Contains-append_cases earlier (xs ++ ys) x among)
  where
    by_later : Contains xs x ⊎ Contains ys x → Contains (ys ++ xs) x
    by_later (inl first) = Contains-append_right ys xs x first
    by_later (inr second) = Contains-append_left ys xs x second

    by : Contains earlier x ⊎ Contains (xs ++ ys) x → Contains (earlier ++ (ys ++ xs)) x
    by (inl before) = Contains-append_left earlier (ys ++ xs) x before
    by (inr later) = Contains-append_right earlier (ys ++ xs) x (by_later (Contains-append_cases xs ys x later))

none_swapped : {X : Type 0} (earlier xs ys : List X) → earlier ++ (xs ++ ys) ≡ [] → earlier ++ (ys ++ xs) ≡ []
none_swapped [] [] [] none = refl
none_swapped [] [] (y ∷ ys) none = absurd (cc)
none_swapped [] (x ∷ xs) ys none = absurd (cc)
none_swapped (x ∷ earlier) xs ys none = absurd (cc)

pub least-swapped : (least : Option Fault) (earlier xs ys : List Fault) → IsLeast least (earlier ++ (xs ++ ys)) → IsLeast least (earlier ++ (ys ++ xs))
least-swapped None earlier xs ys none = none_swapped earlier xs ys none
least-swapped (Some fault) earlier xs ys is = (swapped earlier xs ys fault is.0, λ other among. is.1 other (swapped earlier ys xs other among))

-- ---- the answer

not_later : (a r b s : ℕ) → is_before b s a r ≡ false → a ≤ b
not_later a r b s kept = grind (arith, nat_tests)

not_after : (a r s : ℕ) → is_before a s a r ≡ false → r ≤ s
not_after a r s kept = grind (arith, nat_tests)

-- the fault that is kept of all of a tree is its answer
pub least-answer : (tree : Tree) (fault : Fault) → IsLeast (Some fault) (faults tree) → IsNameAnswer tree fault.at fault.variant
least-answer tree fault is = record {
  faulty = is.0;
  least = λ offset other faulty. not_later fault.at (rank fault.variant) offset (rank other) (is.1 (fault_at offset other) faulty);
  foremost = λ other faulty. not_after fault.at (rank fault.variant) (rank other) (is.1 (fault_at fault.at other) faulty);
}
