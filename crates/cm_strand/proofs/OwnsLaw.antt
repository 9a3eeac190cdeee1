-- What a strand owns altogether: the words that it runs on and those kept aside. Each event takes from it or adds to it as a whole,
-- and so the sums that the events speak of are there.
use Rattle.std.proofs.Common.{◌≡◌, ℕ, ◌<◌, Bool, true, false, List, [], ◌∷◌, refl, sym, ap, ◌∙◌, subst, arith, inl, inr}
use Rattle.std.proofs.lemmas.Bool.{eqb-true, eqb-false, leb-true, leb-false}
use Rattle.std.specs.Prelude.{◌⊎◌, ◌==◌, nat_le, if◌then◌else◌}
use Rattle.cm_meaning.specs.End.{End}
use Rattle.cm_strand.specs.Owned.{Owned, OwnedSum, no_words}
use Rattle.cm_strand.specs.Strand.{Filling, empty, filled, Hole, Entry, number, hole, hole_count, aside_of, Owns}
use Rattle.cm_strand.specs.Turn.{fill, filled_hole, delivered, HoleAt, TakesIn, joined_hole, joined_log, paid_filling, FilledDone, AllFilledDone}
use Rattle.cm_strand.proofs.OwnedLaw.{sums_commute, sums_pair, sum_none, sum_none_is, reorder_sums}

-- a + (b + c) as (a + c) + b, and (a + b) + c as (a + c) + b
swap_sums : (a b c s t : Owned) → OwnedSum a b s → OwnedSum s c t → (u : Owned) × OwnedSum a c u × OwnedSum u b t
swap_sums a b c s t p q =
    let x = sums_pair b a c s t (sums_commute a b s p) q in
    (x.0, x.1, sums_commute b x.0 t x.2)

-- further words go to those that it runs on
pub owns_more : (run more : Owned) (log : List Entry) (all later : Owned) → Owns run log all → OwnedSum all more later
    → (new : Owned) × OwnedSum run more new × Owns new log later
owns_more run more [] all later o sum = (later, subst (λ k. OwnedSum k more later) o sum, refl)
owns_more run more (number v ∷ log) all later o sum = owns_more run more log all later o sum
owns_more run more (hole H ∷ log) all later o sum =
    let x = swap_sums o.0 (aside_of H H.filling) more all later o.2 sum in
    let y = owns_more run more log o.0 x.0 o.1 x.1 in
    (y.0, y.1, (x.0, y.2, x.2))

-- at a spawn the child's words are taken from all
pub owns_less : (lent kept run : Owned) (log : List Entry) (all : Owned) → OwnedSum lent kept run → Owns run log all
    → (rest : Owned) × OwnedSum lent rest all × Owns kept log rest
owns_less lent kept run [] all parts o = (kept, subst (OwnedSum lent kept) (sym o) parts, refl)
owns_less lent kept run (number v ∷ log) all parts o = owns_less lent kept run log all parts o
owns_less lent kept run (hole H ∷ log) all parts o =
    let x = owns_less lent kept run log o.0 parts o.1 in
    let y = sums_pair lent x.0 (aside_of H H.filling) o.0 all x.1 o.2 in
    (y.0, y.2, (x.0, x.2, y.1))

-- at a join the words that were kept aside are run on, and all is as it was
pub takes_all : (first : ℕ) (run : Owned) (log : List Entry) (all : Owned) → AllFilledDone first log → Owns run log all
    → (words : Owned) × TakesIn first log run words × Owns words (joined_log first log) all
takes_all first run [] all done o = (run, refl, o)
takes_all first run (number v ∷ log) all done o = takes_all first run log all done o
takes_all first run (hole H ∷ log) all done o = by (nat_le first (hole_count log)) refl (takes_all first run log o.0 done.1 o.1)
  where
    aside_is : (f : Filling) → FilledDone f → aside_of H f ≡ H.aside
    aside_is empty d = absurd d
    aside_is (filled e b) d = refl

    none_aside : (f : Filling) → FilledDone f → aside_of (joined_hole H) (paid_filling f) ≡ no_words
    none_aside empty d = absurd d
    none_aside (filled e b) d = refl

    by : (test : Bool) → nat_le first (hole_count log) ≡ test → (words : Owned) × TakesIn first log run words × Owns words (joined_log first log) o.0
        → (words : Owned) × TakesIn first (hole H ∷ log) run words × Owns words ((if test then hole (joined_hole H) else hole H) ∷ joined_log first log) all
    by false e x = (x.0, (x.0, x.1, inr (leb-false first (hole_count log) e, refl)), (o.0, x.2, o.2))
    by true e x =
        let l = leb-true first (hole_count log) e in
        let y = owns_more x.0 H.aside (joined_log first log) o.0 all x.2 (subst (λ k. OwnedSum o.0 k all) (aside_is H.filling (done.0 l)) o.2) in
        (y.0, (x.0, x.1, inl (l, y.1)), (all, y.2, subst (λ k. OwnedSum all k all) (sym (none_aside H.filling (done.0 l))) (sums_commute no_words all all (sum_none all))))

-- an answer's words, with the value in the destination, go to all that is owned
pub owns_answer : (run : Owned) (log : List Entry) (n : ℕ) (H : Hole) (e : End) (b : Bool) (aside back w all later : Owned) → HoleAt log n H → H.filling ≡ empty
    → OwnedSum (delivered H.target e aside) back w → Owns run log all → OwnedSum all w later
    → (new : Owned) × OwnedSum run back new × Owns new (fill log n e b aside) later
owns_answer run [] n H e b aside back w all later at hollow parts o sum = absurd at
owns_answer run (number v ∷ log) n H e b aside back w all later at hollow parts o sum = owns_answer run log n H e b aside back w all later at hollow parts o sum
owns_answer run (hole G ∷ log) n H e b aside back w all later at hollow parts o sum =
    by (hole_count log == n) refl (λ here_ older more own_ su. owns_answer run log n H e b aside back w older more here_ hollow parts own_ su)
  where
    by : (same : Bool) → (hole_count log == n) ≡ same
        → (HoleAt log n H → (older more : Owned) → Owns run log older → OwnedSum older w more → (new : Owned) × OwnedSum run back new × Owns new (fill log n e b aside) more)
        → (new : Owned) × OwnedSum run back new × Owns new (if same then hole (filled_hole G e b aside) ∷ log else hole G ∷ fill log n e b aside) later
    by true is on = here_ at
      where
        here_ : ((n ≡ hole_count log) × (G ≡ H)) ⊎ ((n < hole_count log) × HoleAt log n H)
            → (new : Owned) × OwnedSum run back new × Owns new (hole (filled_hole G e b aside) ∷ log) later
        here_ (inr x) = let f = x.0 in let g = eqb-true (hole_count log) n is in absurd (omega (arith, f, g))
        here_ (inl x) =
            let same_ : all ≡ o.0 = sum_none_is o.0 all (sums_commute o.0 no_words all (subst (λ f. OwnedSum o.0 (aside_of G f) all) (ap (λ K. K.filling) x.1 ∙ hollow) o.2)) in
            let y = reorder_sums all (delivered G.target e aside) back w later (subst (λ K. OwnedSum (delivered K.target e aside) back w) (sym x.1) parts) sum in
            let z = owns_more run back log all y.0 (subst (Owns run log) (sym same_) o.1) y.1 in
            (z.0, z.1, (y.0, z.2, y.2))
    by false is on = deeper_ at
      where
        deeper_ : ((n ≡ hole_count log) × (G ≡ H)) ⊎ ((n < hole_count log) × HoleAt log n H)
            → (new : Owned) × OwnedSum run back new × Owns new (hole G ∷ fill log n e b aside) later
        deeper_ (inl x) = absurd (eqb-false (hole_count log) n is (sym x.0))
        deeper_ (inr x) =
            let y = swap_sums o.0 (aside_of G G.filling) w all later o.2 sum in
            let z = on x.1 o.0 y.0 o.1 y.1 in
            (z.0, z.1, (y.0, z.2, y.2))
