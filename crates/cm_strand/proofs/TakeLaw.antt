-- What a join takes in: the words that the holes of its scope kept aside.
use Rattle.std.proofs.Common.{◌≡◌, ℕ, suc, ◌+◌, ◌<◌, ◌≤◌, Bool, true, false, List, [], ◌∷◌, refl, sym, ap, subst, arith, inl, inr}
use Rattle.std.proofs.lemmas.Bool.{leb-true, leb-false}
use Rattle.std.specs.Prelude.{◌⊎◌, nat_le, if◌then◌else◌}
use Rattle.cm_isa.specs.Run.{Extends}
use Rattle.cm_strand.specs.Owned.{Owned, Claim, OwnedSum, ClaimSum, seen, claim, no_claim}
use Rattle.cm_strand.specs.Strand.{Filling, empty, filled, Hole, Entry, number, hole, hole_count, hole_claim, paid, paid_by, Balances}
use Rattle.cm_strand.specs.Turn.{joined_hole, joined_log, paid_filling, unpaid, unpaid_by, TakesIn, FilledDone, AllFilledDone}
use Rattle.cm_strand.proofs.OwnedLaw.{extends_same, extends_through, claim_sum, claims_commute, claims_pair, claims_none, no_words_claim, one_claim, sum_extends, sums_commute, reorder}

-- what runs is among what is taken in
pub takes_run : (first : ℕ) (log : List Entry) (run all : Owned) → TakesIn first log run all → Extends (seen run) (seen all)
takes_run first [] run all t = subst (λ k. Extends (seen run) (seen k)) (sym t) (extends_same (seen run))
takes_run first (number v ∷ log) run all t = takes_run first log run all t
takes_run first (hole H ∷ log) run all t = by (takes_run first log run t.0 t.1) t.2
  where
    by : Extends (seen run) (seen t.0) → ((first ≤ hole_count log) × OwnedSum t.0 H.aside all) ⊎ ((hole_count log < first) × (all ≡ t.0)) → Extends (seen run) (seen all)
    by older (inl x) = extends_through (seen run) (seen t.0) (seen all) older (sum_extends t.0 H.aside all x.1)
    by older (inr x) = subst (λ k. Extends (seen run) (seen k)) (sym x.1) older

-- and so are the words of a hole
pub takes_aside : (log : List Entry) (H : Hole) (first : ℕ) (run all : Owned) → TakesIn first (hole H ∷ log) run all → first ≤ hole_count log → Extends (seen H.aside) (seen all)
takes_aside log H first run all t l = by t.2
  where
    by : ((first ≤ hole_count log) × OwnedSum t.0 H.aside all) ⊎ ((hole_count log < first) × (all ≡ t.0)) → Extends (seen H.aside) (seen all)
    by (inl x) = sum_extends H.aside t.0 all (sums_commute t.0 H.aside all x.1)
    by (inr x) = let f = x.0 in absurd (omega (arith, f, l))

-- and what the older ones took
pub takes_older : (log : List Entry) (H : Hole) (first : ℕ) (run all : Owned) (t : TakesIn first (hole H ∷ log) run all) → Extends (seen t.0) (seen all)
takes_older log H first run all t = by t.2
  where
    by : ((first ≤ hole_count log) × OwnedSum t.0 H.aside all) ⊎ ((hole_count log < first) × (all ≡ t.0)) → Extends (seen t.0) (seen all)
    by (inl x) = sum_extends t.0 H.aside all x.1
    by (inr x) = subst (λ k. Extends (seen t.0) (seen k)) (sym x.1) (extends_same (seen t.0))

-- ---- counts and ticks

pub joined_count : (first : ℕ) (log : List Entry) → hole_count (joined_log first log) ≡ hole_count log
joined_count first [] = refl
joined_count first (number v ∷ log) = joined_count first log
joined_count first (hole H ∷ log) = by (nat_le first (hole_count log)) (joined_count first log)
  where
    by : (b : Bool) → hole_count (joined_log first log) ≡ hole_count log
        → hole_count ((if b then hole (joined_hole H) else hole H) ∷ joined_log first log) ≡ suc (hole_count log)
    by true e = ap suc e
    by false e = ap suc e

paid_filling_is : (f : Filling) → paid_by (paid_filling f) ≡ paid_by f + unpaid_by f
paid_filling_is empty = omega arith
paid_filling_is (filled e true) = omega arith
paid_filling_is (filled e false) = omega arith

pub joined_paid : (first : ℕ) (log : List Entry) → paid (joined_log first log) ≡ paid log + unpaid first log
joined_paid first [] = omega arith
joined_paid first (number v ∷ log) = joined_paid first log
joined_paid first (hole H ∷ log) = by (nat_le first (hole_count log)) (joined_paid first log)
  where
    by : (b : Bool) → paid (joined_log first log) ≡ paid log + unpaid first log
        → paid ((if b then hole (joined_hole H) else hole H) ∷ joined_log first log)
        ≡ (paid log + paid_by H.filling) + (unpaid first log + (if b then unpaid_by H.filling else 0))
    by true e = let f = paid_filling_is H.filling in omega (arith, e, f)
    by false e = omega (arith, e)

-- ---- claims

done_claim : (H : Hole) (f : Filling) → FilledDone f → hole_claim H f ≡ claim H.aside
done_claim H empty d = absurd d
done_claim H (filled e b) d = refl

joined_claim : (H : Hole) (f : Filling) → FilledDone f → hole_claim (joined_hole H) (paid_filling f) ≡ no_claim
joined_claim H empty d = absurd d
joined_claim H (filled e b) d = no_words_claim

pub takes_balance : (first : ℕ) (log : List Entry) (run all : Owned) (given : Claim) → TakesIn first log run all → AllFilledDone first log → Balances given run log
    → Balances given all (joined_log first log)
takes_balance first [] run all given t done b = (b.0, b.1, subst (λ k. ClaimSum (claim k) b.0 given) (sym t) b.2)
takes_balance first (number v ∷ log) run all given t done b = takes_balance first log run all given t done b
takes_balance first (hole H ∷ log) run all given t done b =
    by (nat_le first (hole_count log)) refl t.2 (takes_balance first log run t.0 moved.0 t.1 done.1 (b.1.0, b.1.1, moved.1))
  where
    moved : (u : Claim) × ClaimSum (claim run) b.1.0 u × ClaimSum u (hole_claim H H.filling) given
    moved = reorder (claim run) (hole_claim H H.filling) b.1.0 b.0 given b.1.2 b.2

    by : (test : Bool) → nat_le first (hole_count log) ≡ test → ((first ≤ hole_count log) × OwnedSum t.0 H.aside all) ⊎ ((hole_count log < first) × (all ≡ t.0))
        → Balances moved.0 t.0 (joined_log first log) → Balances given all ((if test then hole (joined_hole H) else hole H) ∷ joined_log first log)
    by true e (inr x) older = let f = x.0 in let g = leb-true first (hole_count log) e in absurd (omega (arith, f, g))
    by false e (inl x) older = let f = x.0 in let g = leb-false first (hole_count log) e in absurd (omega (arith, f, g))
    by true e (inl x) older = (
      older.0,
      (older.0, older.1, subst (λ k. ClaimSum k older.0 older.0) (sym (joined_claim H H.filling (done.0 x.0))) (claims_none older.0)),
      subst (λ k. ClaimSum k older.0 given) (sym claim_all) summed.2,
    )
      where
        -- (t + older) + aside as t + (older + aside)
        paired : (u : Claim) × ClaimSum older.0 (hole_claim H H.filling) u × ClaimSum (claim t.0) u given
        paired = claims_pair (claim t.0) older.0 (hole_claim H H.filling) moved.0 given older.2 moved.2

        summed : (u : Claim) × ClaimSum (claim t.0) (hole_claim H H.filling) u × ClaimSum u older.0 given
        summed = reorder (claim t.0) older.0 (hole_claim H H.filling) paired.0 given paired.1 paired.2

        claim_all : claim all ≡ summed.0
        claim_all = one_claim (claim t.0) (claim H.aside) (claim all) summed.0 (claim_sum t.0 H.aside all x.1)
            (subst (λ k. ClaimSum (claim t.0) k summed.0) (done_claim H H.filling (done.0 x.0)) summed.1)
    by false e (inr x) older = let u = claims_pair (claim t.0) older.0 (hole_claim H H.filling) moved.0 given older.2 moved.2 in
        (u.0, (older.0, older.1, claims_commute older.0 (hole_claim H H.filling) u.0 u.1), subst (λ k. ClaimSum (claim k) u.0 given) (sym x.1) u.2)
