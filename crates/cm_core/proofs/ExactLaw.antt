-- Each page stands in a store, in a post, or is held, and in one of these alone.
use Rattle.std.proofs.Common.{◌≡◌, ℕ, zero, suc, ◌+◌, ◌*◌, ◌<◌, ◌⊎◌, Bool, true, false, ◌==◌, ◌||◌, List, [], ◌∷◌, Option, Some, None, refl, sym, ap, ◌∙◌, subst, arith, inl, inr, length, drop, true≢false, mul-le-mul_right}
use Rattle.std.proofs.lemmas.Bool.{cases_eq, eqb-false}
use Rattle.cm_core.specs.Table.{total, weigh}
use Rattle.cm_core.specs.State.{Home, Phase, State, Strand, Task, active, arriving, chain_of, closed, collecting, depositing, idle, innermost, joining, leaving, mapping, over, pages_from, running, suspended, width}
use Rattle.cm_core.specs.Held.{bit, deque_shows, held, is_held, lies_on, only, phase_shows, post_length, posts, shows, slot_weight, some, stores, task_shows, worker_shows}
use Rattle.cm_core.specs.Valid.{DequeFits, IsFront, IsIn, IsLive, Location, Owns, PhaseFits, StrandFits, TaskFits, Valid, at_scope, at_worker, own_weight, tail_weight}
use Rattle.cm_core.specs.Owner.{IsNamed, IsParked, IsQueued, IsSomewhere, OwnedIn}
use Rattle.cm_core.proofs.HeldLaw.{beyond, dealt_below, held_apart, split_length, stored, total_ones, total_sum, total_swap}
use Rattle.cm_core.proofs.PageLaw.{only_other, owned, pages_stand_once, weight_parts}
use Rattle.cm_core.proofs.TableLaw.{at_most_total, front_front, front_self, sum_cut, sum_front, total_same, total_zero}

neither : (a b : Bool) → (a || b) ≡ false → (a ≡ false) × (b ≡ false)
neither true b e = absurd (true≢false e)
neither false b e = (refl, e)

none_of_some : (n : ℕ) (test : ℕ → Bool) → some n test ≡ false → (m : ℕ) → m < n → test m ≡ false
none_of_some zero test e m l = absurd (omega (arith, l))
none_of_some (suc n) test e m l = by (neither (some n test) (test n) e) (cases_eq m n) (λ d k. none_of_some n test d m k)
  where
    by : (some n test ≡ false) × (test n ≡ false) → (m ≡ n) ⊎ (m ≡ n → ⊥) → (some n test ≡ false → m < n → test m ≡ false) → test m ≡ false
    by q (inl d) go = ap test d ∙ q.1
    by q (inr other) go = go q.0 (omega (arith, l, other))

hidden_weight : (pages : List ℕ) (page : ℕ) → shows pages page ≡ false → weigh (only page) pages ≡ 0
hidden_weight [] page e = refl
hidden_weight (x ∷ pages) page e = let q = neither (x == page) (shows pages page) e in
    let a = only_other page x (eqb-false x page q.0) in let b = hidden_weight pages page q.1 in omega (arith, a, b)

-- a part weighs no more
part_weight : (h : ℕ → ℕ) (k : ℕ) (pages : List ℕ) → weigh h pages ≡ 0 → weigh h (drop k pages) ≡ 0
part_weight h k pages e = let a = sum_cut h k pages in omega (arith, a, e)

front_weight : (h : ℕ → ℕ) (first pages : List ℕ) → IsFront first pages → weigh h pages ≡ 0 → weigh h first ≡ 0
front_weight h first pages f e = let a = sum_front h first pages f in omega (arith, a, e)

module _ {Body Ended : Type 0} {BodyFits : List ℕ → Body → Type 0} {P V : ℕ} {s : State Body Ended} {location : ℕ → Location} (valid : Valid BodyFits P V s location) where
  -- each of a strand's scopes is at the front of its innermost one
  in_front : (n number : ℕ) (scopes : List ℕ) (home : Option Home) → Owns s.scopes s.owner s.outer number scopes home → IsIn scopes n → IsFront (s.chain n) (chain_of s.chain (innermost scopes home))
  in_front n number [] home o i = absurd i
  in_front n number (m ∷ scopes) home o (inl d) = subst (λ m. IsFront (s.chain n) (s.chain m)) (sym d) (front_self (s.chain n))
  in_front n number (m ∷ scopes) home o (inr i) = front_front (s.chain n) (chain_of s.chain (innermost scopes home)) (s.chain m) (in_front n number scopes home o.3 i)
      (subst (λ o. IsFront (chain_of s.chain o) (s.chain m)) o.2 (valid.begins m o.0))

  -- so is a live scope whose owner this is
  sits_front : (p : Location) (t : Strand Body) (n : ℕ) → StrandFits BodyFits s location p t → n < s.scopes → IsLive (s.phase n) → t.number ≡ s.owner n → IsFront (s.chain n) (chain_of s.chain (innermost t.scopes t.home))
  sits_front p t n z l a e = in_front n t.number t.scopes t.home z.owns (z.all n l a (sym e))

  module _ (page : ℕ) (hidden : is_held P s page ≡ false) where
    no_worker : (w : ℕ) → w < P → worker_shows s.chain (s.workers w) page ≡ false
    no_worker w l = none_of_some P (λ w. worker_shows s.chain (s.workers w) page) (neither (some P (λ w. worker_shows s.chain (s.workers w) page)) (some s.scopes (λ n. phase_shows s.chain (s.phase n) page)) hidden).0 w l

    no_gate : (n : ℕ) → n < s.scopes → phase_shows s.chain (s.phase n) page ≡ false
    no_gate n l = none_of_some s.scopes (λ n. phase_shows s.chain (s.phase n) page) (neither (some P (λ w. worker_shows s.chain (s.workers w) page)) (some s.scopes (λ n. phase_shows s.chain (s.phase n) page)) hidden).1 n l

    worker_parts : (w : ℕ) → w < P → (shows (s.workers w).pages page ≡ false) × (task_shows s.chain (s.workers w).task page ≡ false) × (deque_shows s.chain (s.workers w).deque page ≡ false)
    worker_parts w l = let a = neither (shows (s.workers w).pages page) (task_shows s.chain (s.workers w).task page || deque_shows s.chain (s.workers w).deque page) (no_worker w l) in
        let b = neither (task_shows s.chain (s.workers w).task page) (deque_shows s.chain (s.workers w).deque page) a.1 in (a.0, b.0, b.1)

    queued_hidden : (n : ℕ) → n < s.scopes → IsLive (s.phase n) → (w number : ℕ) (home : Option Home) (deque : List (Strand Body)) → DequeFits BodyFits s location w number home deque
        → deque_shows s.chain deque page ≡ false → IsQueued (s.owner n) deque → weigh (only page) (s.chain n) ≡ 0
    queued_hidden n l a w number home [] k e q = absurd q
    queued_hidden n l a w number home (p ∷ deque) k e (inl d) = front_weight (only page) (s.chain n) (chain_of s.chain (innermost p.scopes p.home)) (sits_front (at_worker w) p n k.2 l a d)
        (hidden_weight (chain_of s.chain (innermost p.scopes p.home)) page (neither (lies_on s.chain p page) (deque_shows s.chain deque page) e).0)
    queued_hidden n l a w number home (p ∷ deque) k e (inr q) = queued_hidden n l a w p.number p.home deque k.4 (neither (lies_on s.chain p page) (deque_shows s.chain deque page) e).1 q

    empty_hidden : (n : ℕ) (deque : List (Strand Body)) → deque ≡ [] → IsQueued (s.owner n) deque → weigh (only page) (s.chain n) ≡ 0
    empty_hidden n deque d q = absurd (subst (IsQueued (s.owner n)) d q)

    with_hidden : (n : ℕ) → n < s.scopes → IsLive (s.phase n) → (w : ℕ) (pages store : List ℕ) (deque : List (Strand Body)) (x : Task Body Ended) → TaskFits BodyFits V s location w pages store deque x
        → shows pages page ≡ false → task_shows s.chain x page ≡ false → deque_shows s.chain deque page ≡ false
        → IsNamed (s.owner n) x ⊎ IsQueued (s.owner n) deque → weigh (only page) (s.chain n) ≡ 0
    with_hidden n l a w pages store deque (running t) f e g h (inl d) = front_weight (only page) (s.chain n) pages
        (front_front (s.chain n) (chain_of s.chain (innermost t.scopes t.home)) pages (sits_front (at_worker w) t n f.1 l a d) f.0.begins) (hidden_weight pages page e)
    with_hidden n l a w pages store deque (collecting t) f e g h (inl d) = front_weight (only page) (s.chain n) pages
        (front_front (s.chain n) (chain_of s.chain (innermost t.scopes t.home)) pages (sits_front (at_worker w) t n f.1 l a d) f.0.begins) (hidden_weight pages page e)
    with_hidden n l a w pages store deque (mapping t) f e g h (inl d) = front_weight (only page) (s.chain n) (chain_of s.chain (innermost t.scopes t.home)) (sits_front (at_worker w) t n f.3 l a d)
        (hidden_weight (chain_of s.chain (innermost t.scopes t.home)) page g)
    with_hidden n l a w pages store deque idle f e g h (inl d) = absurd d
    with_hidden n l a w pages store deque (depositing x y) f e g h (inl d) = absurd d
    with_hidden n l a w pages store deque (arriving m) f e g h (inl d) = absurd d
    with_hidden n l a w pages store deque (leaving m) f e g h (inl d) = absurd d
    with_hidden n l a w pages store deque (over y) f e g h (inl d) = absurd d
    with_hidden n l a w pages store deque (running t) f e g h (inr q) = queued_hidden n l a w t.number t.home deque f.3 h q
    with_hidden n l a w pages store deque (collecting t) f e g h (inr q) = queued_hidden n l a w t.number t.home deque f.3 h q
    with_hidden n l a w pages store deque (mapping t) f e g h (inr q) = empty_hidden n deque f.1 q
    with_hidden n l a w pages store deque idle f e g h (inr q) = empty_hidden n deque f.1 q
    with_hidden n l a w pages store deque (depositing x y) f e g h (inr q) = empty_hidden n deque f.1 q
    with_hidden n l a w pages store deque (arriving m) f e g h (inr q) = empty_hidden n deque f.1 q
    with_hidden n l a w pages store deque (leaving m) f e g h (inr q) = empty_hidden n deque f.1 q
    with_hidden n l a w pages store deque (over y) f e g h (inr q) = empty_hidden n deque f.1 q

    parked_hidden : (n : ℕ) → n < s.scopes → IsLive (s.phase n) → (m : ℕ) → m < s.scopes → (g : Phase Body) → PhaseFits BodyFits s location m g → phase_shows s.chain g page ≡ false
        → IsParked (s.owner n) g → weigh (only page) (s.chain n) ≡ 0
    parked_hidden n l a m k active f e p = absurd p
    parked_hidden n l a m k joining f e p = absurd p
    parked_hidden n l a m k closed f e p = absurd p
    parked_hidden n l a m k (suspended t) f e p = front_weight (only page) (s.chain n) (chain_of s.chain (innermost t.scopes t.home)) (sits_front (at_scope m) t n f.0 l a p)
        (hidden_weight (chain_of s.chain (innermost t.scopes t.home)) page e)

    module _ (there : OwnedIn P s) where
      live_hidden : (n : ℕ) → n < s.scopes → IsLive (s.phase n) → weigh (only page) (s.chain n) ≡ 0
      live_hidden n l a = by (there n l a)
        where
          by : IsSomewhere P s.scopes s.workers s.phase (s.owner n) → weigh (only page) (s.chain n) ≡ 0
          by (inl b) = let q = worker_parts b.0 b.1 in with_hidden n l a b.0 (s.workers b.0).pages (s.workers b.0).store (s.workers b.0).deque (s.workers b.0).task (valid.fits b.0) q.0 q.1 q.2 b.2
          by (inr b) = parked_hidden n l a b.0 b.1 (s.phase b.0) (valid.parked b.0 b.1) (no_gate b.0 b.1) b.2

      owned_hidden : (n : ℕ) → n < s.scopes → owned valid (only page) n ≡ 0
      owned_hidden n l = by (s.phase n) (λ a. live_hidden n l a)
        where
          by : (g : Phase Body) → (IsLive g → weigh (only page) (s.chain n) ≡ 0) → own_weight (only page) s.chain (s.outer n) n g ≡ 0
          by active z = part_weight (only page) (length (chain_of s.chain (s.outer n))) (s.chain n) (z tt)
          by (suspended t) z = part_weight (only page) (length (chain_of s.chain (s.outer n))) (s.chain n) (z tt)
          by joining z = part_weight (only page) (length (chain_of s.chain (s.outer n))) (s.chain n) (z tt)
          by closed z = refl

      -- a page that isn't held is in a store or a post
      pub free_once : page < P * V → stores P s (only page) + posts s (only page) ≡ 1
      free_once l =
          let a = pages_stand_once valid page l in let b = weight_parts valid (only page) in
          let c = total_zero P (λ w. tail_weight (only page) s.chain (s.workers w))
          (λ w k. part_weight (only page) (length (chain_of s.chain (Rattle.cm_core.specs.Valid.base (s.workers w).task))) (s.workers w).pages (hidden_weight (s.workers w).pages page (worker_parts w k).0)) in
          let d = total_zero s.scopes (owned valid (only page)) owned_hidden in omega (arith, a, b, c, d)

  module _ (there : OwnedIn P s) where
    -- each page is held, or stands once in a store or a post, and not both
    pub exactly_once : (page : ℕ) → page < P * V → bit (is_held P s page) + stores P s (only page) + posts s (only page) ≡ 1
    exactly_once page l = by (is_held P s page) refl
      where
        by : (b : Bool) → is_held P s page ≡ b → bit b + stores P s (only page) + posts s (only page) ≡ 1
        by true e = let a = held_apart valid page e in let b = pages_stand_once valid page l in omega (arith, a, b)
        by false e = let a = free_once page e there l in omega (arith, a)

    nothing_posted : (n i : ℕ) → n < s.scopes → i < width → slot_weight (beyond (P * V)) (s.surplus n i) ≡ 0
    nothing_posted n i l k =
        let a = valid.conserved (beyond (P * V)) in
        let b = total_zero P (λ w. weigh (beyond (P * V)) (pages_from (w * V) V)) (λ w l. dealt_below (P * V) (w * V) V (let m = mul-le-mul_right V l in omega (arith, m))) in
        let c = weight_parts valid (beyond (P * V)) in
        let d = at_most_total s.scopes n (λ n. total width (λ i. slot_weight (beyond (P * V)) (s.surplus n i))) l in
        let e = at_most_total width i (λ i. slot_weight (beyond (P * V)) (s.surplus n i)) k in omega (arith, a, b, c, d, e)

    slot_length : (o : Option (List ℕ)) → slot_weight (beyond (P * V)) o ≡ 0 → total (P * V) (λ page. slot_weight (only page) o) ≡ post_length o
    slot_length None e = total_zero (P * V) (λ page. 0) (λ page l. refl)
    slot_length (Some pages) e = let a = split_length (P * V) pages in omega (arith, a, e)

    -- the pages of all posts
    posted : total (P * V) (λ page. posts s (only page)) ≡ total s.scopes (λ n. total width (λ i. post_length (s.surplus n i)))
    posted = total_swap (P * V) s.scopes (λ page n. total width (λ i. slot_weight (only page) (s.surplus n i)))
        ∙ total_same s.scopes (λ n. total (P * V) (λ page. total width (λ i. slot_weight (only page) (s.surplus n i)))) (λ n. total width (λ i. post_length (s.surplus n i)))
        (λ n l. total_swap (P * V) width (λ page i. slot_weight (only page) (s.surplus n i))
        ∙ total_same width (λ i. total (P * V) (λ page. slot_weight (only page) (s.surplus n i))) (λ i. post_length (s.surplus n i)) (λ i k. slot_length (s.surplus n i) (nothing_posted n i l k)))

    -- the pages held are all but those of the stores and the posts
    pub held_exact : held P V s + total P (λ w. length (s.workers w).store) + total s.scopes (λ n. total width (λ i. post_length (s.surplus n i))) ≡ P * V
    held_exact =
        let a = total_same (P * V) (λ page. bit (is_held P s page) + stores P s (only page) + posts s (only page)) (λ page. 1) exactly_once in
        let b = total_sum (P * V) (λ page. bit (is_held P s page) + stores P s (only page)) (λ page. posts s (only page)) in
        let c = total_sum (P * V) (λ page. bit (is_held P s page)) (λ page. stores P s (only page)) in
        let d = total_ones (P * V) 1 in let e = stored valid in let f = posted in omega (arith, a, b, c, d, e, f)
