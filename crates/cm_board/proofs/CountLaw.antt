-- The sum of the weights, and what a claim says of its seat.
use Rattle.std.proofs.Common.{◌≡◌, ℕ, zero, suc, ◌+◌, ◌<◌, ◌≤◌, ◌≢◌, ◌⊎◌, inl, inr, List, [], ◌∷◌, ◌++◌, length, set, sym, refl, ap, ◌∙◌, arith, None}
use mathlib.Core.Option as opt
use mathlib.Core.Option.{some, none, some-injective, some-ne-none}
use lib.ListN.{get_elem?}
use Rattle.cm_board.specs.declared.view.Lead.{Lead}
use Rattle.cm_board.specs.declared.view.View.{View}
use Rattle.cm_board.specs.declared.view.Role.{Role}
use Rattle.cm_board.specs.declared.view.Role.TheVariants.{Spent, Child, Filling, Deposited, Owner, Adding, Backing, Emptying, Moving, Parked, Last, Posting, Left, Fetching}
use Rattle.cm_board.specs.Rule.{Place, out, filling, emptying, Holder, led, moving, parked, last, seat_of, claim_of, holder_seat, holder_of, lead_of, one_if, weight, total, with_entry, Surplus, handled, surplus_seat, surplus_claim}

-- none is not some
pub nothing : {X : Type 0} (x : X) {P : Type 0} → ◌≡◌ {A = opt.Option X} none (some x) → P
nothing x e = absurd (some-ne-none x (sym e))

pub there : {A : Type 0} (l : List A) (i : ℕ) (a : A) → get_elem? l i ≡ some a → i < length l
there [] i a e = absurd (some-ne-none a (sym e))
there (x ∷ xs) zero a e = omega arith
there (x ∷ xs) (suc i) a e = let t = there xs i a e in omega arith

pub some_at : {A : Type 0} (l : List A) (i : ℕ) → i < length l → (a : A) × (get_elem? l i ≡ some a)
some_at [] i h = absurd (omega arith)
some_at (x ∷ xs) zero h = (x, refl)
some_at (x ∷ xs) (suc i) h = some_at xs i (omega arith)

module _ {H A : Type 0} where
  pub total_set : (vs : List (View H A)) (me : ℕ) (v w : View H A) → get_elem? vs me ≡ some v → total (set vs me w) + weight v.role ≡ total vs + weight w.role
  total_set [] me v w e = absurd (some-ne-none v (sym e))
  total_set (x ∷ xs) zero v w e = let same : weight x.role ≡ weight v.role = ap (λ (u : View H A). weight u.role) (some-injective x v e) in omega (arith, same)
  total_set (x ∷ xs) (suc me) v w e = let t = total_set xs me v w e in omega (arith, t)

  pub total_snoc : (vs : List (View H A)) (w : View H A) → total (vs ++ w ∷ []) ≡ total vs + weight w.role
  total_snoc [] w = omega arith
  total_snoc (x ∷ xs) w = let t = total_snoc xs w in omega (arith, t)

  pub total_one : (vs : List (View H A)) (i : ℕ) (v : View H A) → get_elem? vs i ≡ some v → weight v.role ≤ total vs
  total_one [] i v e = absurd (some-ne-none v (sym e))
  total_one (x ∷ xs) zero v e = let same : weight x.role ≡ weight v.role = ap (λ (u : View H A). weight u.role) (some-injective x v e) in omega (arith, same)
  total_one (x ∷ xs) (suc i) v e = let t = total_one xs i v e in omega (arith, t)

  pub total_two : (vs : List (View H A)) (i j : ℕ) (v u : View H A) → get_elem? vs i ≡ some v → get_elem? vs j ≡ some u → j ≢ i → weight v.role + weight u.role ≤ total vs
  total_two [] i j v u e f n = absurd (some-ne-none v (sym e))
  total_two (x ∷ xs) zero zero v u e f n = absurd (n refl)
  total_two (x ∷ xs) zero (suc j) v u e f n = let same : weight x.role ≡ weight v.role = ap (λ (u : View H A). weight u.role) (some-injective x v e) in let t = total_one xs j u f in omega (arith, same, t)
  total_two (x ∷ xs) (suc i) zero v u e f n = let same : weight x.role ≡ weight u.role = ap (λ (u : View H A). weight u.role) (some-injective x u f) in let t = total_one xs i v e in omega (arith, same, t)
  total_two (x ∷ xs) (suc i) (suc j) v u e f n = let t = total_two xs i j v u e f (λ same. n (ap suc same)) in omega (arith, t)

holder_in : (j : ℕ) (q d : Holder) → holder_seat q ≡ some j → ◌≡◌ {A = opt.Option Holder} (some q) (some d) → holder_seat d ≡ some j
holder_in j q d own e = ap holder_seat (sym (some-injective _ _ e)) ∙ own

surplus_in : (j at i : ℕ) (p : Surplus) → ◌≡◌ {A = opt.Option (ℕ × Surplus)} (some (at, handled j)) (some (i, p)) → surplus_seat p ≡ some j
surplus_in j at i p e = ap (λ (t : ℕ × Surplus). surplus_seat t.1) (sym (some-injective _ _ e))

module _ {A : Type 0} where
  seat_in : (j at i : ℕ) (q p : Place A) → seat_of q ≡ some j → ◌≡◌ {A = opt.Option (ℕ × Place A)} (some (at, q)) (some (i, p)) → seat_of p ≡ some j
  seat_in j at i q p own e = ap (λ (t : ℕ × Place A). seat_of t.1) (sym (some-injective _ _ e)) ∙ own

  pub claim_seat : (j : ℕ) (r : Role A) (i : ℕ) (p : Place A) → claim_of j r ≡ some (i, p) → seat_of p ≡ some j
  claim_seat j (Child at a) i p e = seat_in j at i (out j a) p refl e
  claim_seat j (Filling at a) i p e = seat_in j at i (filling j a) p refl e
  claim_seat j (Emptying at a l) i p e = seat_in j at i (emptying j a) p refl e
  claim_seat j Spent i p e = absurd (some-ne-none _ (sym e))
  claim_seat j Deposited i p e = absurd (some-ne-none _ (sym e))
  claim_seat j (Owner l) i p e = absurd (some-ne-none _ (sym e))
  claim_seat j (Adding at a l) i p e = absurd (some-ne-none _ (sym e))
  claim_seat j (Backing at a l) i p e = absurd (some-ne-none _ (sym e))
  claim_seat j (Moving l) i p e = absurd (some-ne-none _ (sym e))
  claim_seat j (Parked l) i p e = absurd (some-ne-none _ (sym e))
  claim_seat j (Last l) i p e = absurd (some-ne-none _ (sym e))
  claim_seat j (Posting at l) i p e = absurd (some-ne-none _ (sym e))
  claim_seat j (Left log) i p e = absurd (some-ne-none _ (sym e))
  claim_seat j (Fetching at log) i p e = absurd (some-ne-none _ (sym e))

  pub holder_seat_of : (j : ℕ) (r : Role A) (d : Holder) → holder_of j r ≡ some d → holder_seat d ≡ some j
  holder_seat_of j (Child at a) d e = absurd (some-ne-none _ (sym e))
  holder_seat_of j (Filling at a) d e = absurd (some-ne-none _ (sym e))
  holder_seat_of j Spent d e = absurd (some-ne-none _ (sym e))
  holder_seat_of j Deposited d e = absurd (some-ne-none _ (sym e))
  holder_seat_of j (Emptying at a l) d e = holder_in j (led j) d refl e
  holder_seat_of j (Owner l) d e = holder_in j (led j) d refl e
  holder_seat_of j (Adding at a l) d e = holder_in j (led j) d refl e
  holder_seat_of j (Backing at a l) d e = holder_in j (led j) d refl e
  holder_seat_of j (Moving l) d e = holder_in j (moving j) d refl e
  holder_seat_of j (Parked l) d e = holder_in j (parked j) d refl e
  holder_seat_of j (Last l) d e = holder_in j (last j) d refl e
  holder_seat_of j (Posting at l) d e = holder_in j (led j) d refl e
  holder_seat_of j (Left log) d e = absurd (some-ne-none _ (sym e))
  holder_seat_of j (Fetching at log) d e = absurd (some-ne-none _ (sym e))

  -- who leads stands at the holder
  pub lead_holder : (j : ℕ) (r : Role A) (l : Lead A) → lead_of r ≡ some l → (d : Holder) × (holder_of j r ≡ some d)
  lead_holder j (Child at a) l e = absurd (some-ne-none _ (sym e))
  lead_holder j (Filling at a) l e = absurd (some-ne-none _ (sym e))
  lead_holder j Spent l e = absurd (some-ne-none _ (sym e))
  lead_holder j Deposited l e = absurd (some-ne-none _ (sym e))
  lead_holder j (Emptying at a m) l e = (led j, refl)
  lead_holder j (Owner m) l e = (led j, refl)
  lead_holder j (Adding at a m) l e = (led j, refl)
  lead_holder j (Backing at a m) l e = (led j, refl)
  lead_holder j (Moving m) l e = (moving j, refl)
  lead_holder j (Parked m) l e = (parked j, refl)
  lead_holder j (Last m) l e = (last j, refl)
  lead_holder j (Posting at m) l e = (led j, refl)
  lead_holder j (Left log) l e = absurd (some-ne-none _ (sym e))
  lead_holder j (Fetching at log) l e = absurd (some-ne-none _ (sym e))

  -- who stands at the holder leads, and is counted where it is open
  pub holder_lead : (j : ℕ) (r : Role A) (d : Holder) → holder_of j r ≡ some d → (l : Lead A) × (lead_of r ≡ some l) × (one_if l.is_open ≤ weight r)
  holder_lead j (Child at a) d e = absurd (some-ne-none _ (sym e))
  holder_lead j (Filling at a) d e = absurd (some-ne-none _ (sym e))
  holder_lead j Spent d e = absurd (some-ne-none _ (sym e))
  holder_lead j Deposited d e = absurd (some-ne-none _ (sym e))
  holder_lead j (Emptying at a m) d e = (m, refl, omega arith)
  holder_lead j (Owner m) d e = (m, refl, omega arith)
  holder_lead j (Adding at a m) d e = (m, refl, omega arith)
  holder_lead j (Backing at a m) d e = (with_entry m at None, refl, omega arith)
  holder_lead j (Moving m) d e = (m, refl, omega arith)
  holder_lead j (Parked m) d e = (m, refl, omega arith)
  holder_lead j (Last m) d e = (m, refl, omega arith)
  holder_lead j (Posting at m) d e = (m, refl, omega arith)
  holder_lead j (Left log) d e = absurd (some-ne-none _ (sym e))
  holder_lead j (Fetching at log) d e = absurd (some-ne-none _ (sym e))

  -- who claims a place is counted or leads
  pub claim_counts : (j : ℕ) (r : Role A) (q : ℕ × Place A) → claim_of j r ≡ some q → (1 ≤ weight r) ⊎ (holder_of j r ≡ some (led j))
  claim_counts j (Child at a) q e = inl (omega arith)
  claim_counts j (Filling at a) q e = inl (omega arith)
  claim_counts j (Emptying at a l) q e = inr refl
  claim_counts j Spent q e = absurd (some-ne-none _ (sym e))
  claim_counts j Deposited q e = absurd (some-ne-none _ (sym e))
  claim_counts j (Owner l) q e = absurd (some-ne-none _ (sym e))
  claim_counts j (Adding at a l) q e = absurd (some-ne-none _ (sym e))
  claim_counts j (Backing at a l) q e = absurd (some-ne-none _ (sym e))
  claim_counts j (Moving l) q e = absurd (some-ne-none _ (sym e))
  claim_counts j (Parked l) q e = absurd (some-ne-none _ (sym e))
  claim_counts j (Last l) q e = absurd (some-ne-none _ (sym e))
  claim_counts j (Posting at l) q e = absurd (some-ne-none _ (sym e))
  claim_counts j (Left log) q e = absurd (some-ne-none _ (sym e))
  claim_counts j (Fetching at log) q e = absurd (some-ne-none _ (sym e))

  pub surplus_claim_seat : (j : ℕ) (r : Role A) (i : ℕ) (p : Surplus) → surplus_claim j r ≡ some (i, p) → surplus_seat p ≡ some j
  surplus_claim_seat j (Posting at l) i p e = surplus_in j at i p e
  surplus_claim_seat j (Left log) i p e = absurd (some-ne-none _ (sym e))
  surplus_claim_seat j (Fetching at log) i p e = surplus_in j at i p e
  surplus_claim_seat j (Child at a) i p e = absurd (some-ne-none _ (sym e))
  surplus_claim_seat j (Filling at a) i p e = absurd (some-ne-none _ (sym e))
  surplus_claim_seat j (Emptying at a l) i p e = absurd (some-ne-none _ (sym e))
  surplus_claim_seat j Spent i p e = absurd (some-ne-none _ (sym e))
  surplus_claim_seat j Deposited i p e = absurd (some-ne-none _ (sym e))
  surplus_claim_seat j (Owner l) i p e = absurd (some-ne-none _ (sym e))
  surplus_claim_seat j (Adding at a l) i p e = absurd (some-ne-none _ (sym e))
  surplus_claim_seat j (Backing at a l) i p e = absurd (some-ne-none _ (sym e))
  surplus_claim_seat j (Moving l) i p e = absurd (some-ne-none _ (sym e))
  surplus_claim_seat j (Parked l) i p e = absurd (some-ne-none _ (sym e))
  surplus_claim_seat j (Last l) i p e = absurd (some-ne-none _ (sym e))
