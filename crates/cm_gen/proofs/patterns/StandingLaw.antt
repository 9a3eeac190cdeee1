-- Code at its place: how it is taken apart, and what is behind it.
use Rattle.cm_gen.proofs.patterns.StepLaw.{instructions_front, instructions_back}
use Rattle.std.proofs.Common.{◌≡◌, ℕ, zero, suc, ◌+◌, ◌*◌, ◌^◌, ◌<◌, List, [], ◌∷◌, ◌++◌, length, refl, ap, subst, arith, ◌%◌, sym, length-append, ◌∙◌}
use Rattle.cm_isa.specs.Operation.{Operation}
use Rattle.cm_isa.specs.Machine.{Code, InstructionsAt}
use Rattle.cm_gen.specs.Part.{Part, plain, straight}
use Rattle.cm_gen.specs.Standing.{BehindJumps, LeadsTo, StandsThen, Frame, IsBefore}

-- these instructions stand at a place of whole words, far below the end of the addresses
pub record IsCodeAt (code : Code) (p : ℕ) (is : List Operation) : Type 0 where
  pub there : InstructionsAt code p is
  pub aligned : p % 4 ≡ 0
  pub below : p + 4 * length is < 2 ^ 30

-- the exit, seen from two places
pub before_on : (frames : List Frame) (p q a b : ℕ) → p + 4 * a ≡ q + 4 * b → IsBefore frames p a → IsBefore frames q b
before_on [] p q a b e h = h
before_on (F ∷ frames) p q a b e h = sym e ∙ h

module _ (code : Code) where
  -- ---- jumps

  pub behind_map : (n : ℕ) (K L : ℕ → Type 0) (p : ℕ) → BehindJumps code n K p → ((q : ℕ) → K q → L q) → BehindJumps code n L p
  behind_map zero K L p h f = f p h
  behind_map (suc n) K L p h f = (h.0, h.1, behind_map n K L h.0 h.2 f)

  -- what is said of where jumps lead is followed by something else
  pub leads_map : (K L : ℕ → Type 0) (p : ℕ) → LeadsTo code K p → ((q : ℕ) → K q → L q) → LeadsTo code L p
  leads_map K L p h f = (h.0, behind_map h.0 K L p h.1 f)

  -- ---- parts

  -- what is said of the place behind is followed by something else
  pub then_map : (parts : List Part) (K L : ℕ → Type 0) (p : ℕ) → StandsThen code parts K p → ((q : ℕ) → K q → L q) → StandsThen code parts L p
  then_map [] K L p h f = leads_map K L p h f
  then_map (first ∷ more) K L p h f = (h.0, then_map more K L (p + 4) h.1 f)

  -- parts one after another
  pub parted : (a b : List Part) (K : ℕ → Type 0) (p : ℕ) → StandsThen code (a ++ b) K p → StandsThen code a (StandsThen code b K) p
  parted [] b K p h = (0, h)
  parted (first ∷ a) b K p h = (h.0, parted a b K (p + 4) h.1)

  -- the same, with the place in between
  pub parted_at : (a b : List Part) (K : ℕ → Type 0) (p : ℕ) → StandsThen code (a ++ b) K p
      → StandsThen code a (λ q. (q ≡ p + 4 * length a) × StandsThen code b K q) p
  parted_at [] b K p h = (0, (omega arith, h))
  parted_at (first ∷ a) b K p h = (h.0, then_map a _ (λ q. (q ≡ p + 4 * length (first ∷ a)) × StandsThen code b K q) (p + 4) (parted_at a b K (p + 4) h.1) (λ q x. (omega (arith, x.0), x.1)))

  -- the place behind
  pub then_end : (parts : List Part) (K : ℕ → Type 0) (p : ℕ) → StandsThen code parts K p → LeadsTo code K (p + 4 * length parts)
  then_end [] K p h = let e : p ≡ p + 4 * length {A = Part} [] = omega arith in subst (LeadsTo code K) e h
  then_end (first ∷ more) K p h = let e : p + 4 + 4 * length more ≡ p + 4 * length (first ∷ more) = omega arith in subst (LeadsTo code K) e (then_end more K (p + 4) h.1)

  -- the second of two parts
  pub then_second : (a b : List Part) (K : ℕ → Type 0) (p : ℕ) → StandsThen code (a ++ b) K p → StandsThen code b K (p + 4 * length a)
  then_second [] b K p h = let e : p ≡ p + 4 * length {A = Part} [] = omega arith in subst (StandsThen code b K) e h
  then_second (first ∷ a) b K p h = let e : p + 4 + 4 * length a ≡ p + 4 * length (first ∷ a) = omega arith in subst (StandsThen code b K) e (then_second a b K (p + 4) h.1)

  pub then_below : (first : Part) (more : List Part) (K : ℕ → Type 0) (p : ℕ) → StandsThen code (first ∷ more) K p → p + 4 * length (first ∷ more) < 2 ^ 30
  then_below first [] K p h = let b = h.0.below in omega (arith, b)
  then_below first (next ∷ more) K p h = let b = then_below next more K (p + 4) h.1 in omega (arith, b)

  -- ---- instructions as they stand

  pub straight_front : (is : List Operation) (K : ℕ → Type 0) (p : ℕ) → StandsThen code (straight is) K p → InstructionsAt code p is
  straight_front [] K p h = tt
  straight_front (i ∷ is) K p h = (h.0.there, straight_front is K (p + 4) h.1)

  pub straight_length : (is : List Operation) → length (straight is) ≡ length is
  straight_length [] = refl
  straight_length (i ∷ is) = ap suc (straight_length is)

  -- some instructions stand at a place, and behind them is what is said
  pub straight_there : (i : Operation) (is : List Operation) (K : ℕ → Type 0) (p : ℕ) → StandsThen code (straight (i ∷ is)) K p → IsCodeAt code p (i ∷ is)
  straight_there i is K p h = record {
    there = straight_front (i ∷ is) K p h;
    aligned = h.0.aligned;
    below = let b = then_below (plain i) (straight is) K p h in let l = straight_length is in omega (arith, b, l);
  }

  pub straight_end : (is : List Operation) (K : ℕ → Type 0) (p : ℕ) → StandsThen code (straight is) K p → LeadsTo code K (p + 4 * length is)
  straight_end is K p h = subst (λ n. LeadsTo code K (p + 4 * n)) (straight_length is) (then_end (straight is) K p h)

  -- instructions before other parts
  pub straight_first : (i : Operation) (is : List Operation) (more : List Part) (K : ℕ → Type 0) (p : ℕ) → StandsThen code (straight (i ∷ is) ++ more) K p
      → IsCodeAt code p (i ∷ is) × StandsThen code more K (p + 4 * length (i ∷ is))
  straight_first i is more K p h = (
    straight_there i is (StandsThen code more K) p (parted (straight (i ∷ is)) more K p h),
    subst (λ n. StandsThen code more K (p + 4 * n)) (straight_length (i ∷ is)) (then_second (straight (i ∷ is)) more K p h),
  )

  pub code_at : (is : List Operation) (K : ℕ → Type 0) (p : ℕ) → 0 < length is → StandsThen code (straight is) K p → IsCodeAt code p is
  code_at [] K p some h = absurd (omega (arith, some))
  code_at (i ∷ is) K p some h = straight_there i is K p h

  -- the front and the back of instructions one after another
  pub code_front : {p : ℕ} (a b : List Operation) → IsCodeAt code p (a ++ b) → IsCodeAt code p a
  code_front {p = p} a b h = record {
    there = instructions_front code p a b h.there;
    aligned = h.aligned;
    below = let e = length-append a b in let l = h.below in omega (arith, e, l);
  }

  pub code_back : {p q : ℕ} (a b : List Operation) → q ≡ p + 4 * length a → IsCodeAt code p (a ++ b) → IsCodeAt code q b
  code_back {p = p} {q = q} a b place h = record {
    there = subst (λ n. InstructionsAt code n b) (sym place) (instructions_back code p a b h.there);
    aligned = let l = h.aligned in omega (arith, place, l);
    below = let e = length-append a b in let l = h.below in omega (arith, place, e, l);
  }
