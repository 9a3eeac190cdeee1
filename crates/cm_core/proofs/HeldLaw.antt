-- The bound on the pages that are held.
use Rattle.std.proofs.Common.{◌≡◌, ℕ, zero, suc, ◌+◌, ◌-◌, ◌*◌, ◌<◌, ◌≤◌, ◌⊎◌, Bool, true, false, ◌==◌, ◌||◌, List, [], ◌∷◌, Option, refl, sym, ap, ◌∙◌, subst, arith, inl, inr, length, eqb-true, true≢false, mul-le-mul_right}
use Rattle.std.proofs.lemmas.Bool.{cases_lt, cases_eq}
use Rattle.cm_core.specs.Table.{total, weigh}
use Rattle.cm_core.specs.State.{Home, Phase, State, Strand, Task, active, arriving, chain_of, closed, collecting, depositing, idle, innermost, joining, leaving, mapping, over, pages_from, running, suspended}
use Rattle.cm_core.specs.Held.{bit, deque_shows, held, is_held, lies_on, only, phase_shows, posts, shows, some, stores, task_shows, worker_shows}
use Rattle.cm_core.specs.Valid.{DequeFits, IsLive, IsSuspended, Location, PhaseFits, TaskFits, Valid, weight}
use Rattle.cm_core.proofs.PageLaw.{IsRound, chain_apart, map_apart, only_other, only_self, open_round, pages_stand_once, weight_parts}
use Rattle.cm_core.proofs.TableLaw.{at_most_total, total_same, total_zero}

pub either : (a b : Bool) → (a || b) ≡ true → (a ≡ true) ⊎ (b ≡ true)
either true b e = inl refl
either false b e = inr e

some_found : (n : ℕ) (test : ℕ → Bool) → some n test ≡ true → (m : ℕ) × (m < n) × (test m ≡ true)
some_found zero test e = absurd (true≢false (sym e))
some_found (suc n) test e = by (either (some n test) (test n) e) (some_found n test)
  where
    by : (some n test ≡ true) ⊎ (test n ≡ true) → (some n test ≡ true → (m : ℕ) × (m < n) × (test m ≡ true)) → (m : ℕ) × (m < suc n) × (test m ≡ true)
    by (inl d) go = let r = go d in let a = r.1 in (r.0, omega (arith, a), r.2)
    by (inr d) go = (n, omega arith, d)

shown_weight : (pages : List ℕ) (page : ℕ) → shows pages page ≡ true → 1 ≤ weigh (only page) pages
shown_weight [] page e = absurd (true≢false (sym e))
shown_weight (x ∷ pages) page e = by (either (x == page) (shows pages page) e) (shown_weight pages page)
  where
    by : ((x == page) ≡ true) ⊎ (shows pages page ≡ true) → (shows pages page ≡ true → 1 ≤ weigh (only page) pages) → 1 ≤ only page x + weigh (only page) pages
    by (inl d) go = let a = only_self page x (eqb-true x page d) in omega (arith, a)
    by (inr d) go = let a = go d in omega (arith, a)

pub total_le : (n : ℕ) (f g : ℕ → ℕ) → ((m : ℕ) → m < n → f m ≤ g m) → total n f ≤ total n g
total_le zero f g l = omega arith
total_le (suc n) f g l = let a = total_le n f g (λ m k. l m (omega (arith, k))) in let b = l n (omega arith) in omega (arith, a, b)

pub total_sum : (n : ℕ) (f g : ℕ → ℕ) → total n (λ m. f m + g m) ≡ total n f + total n g
total_sum zero f g = refl
total_sum (suc n) f g = let a = total_sum n f g in omega (arith, a)

pub total_ones : (n c : ℕ) → total n (λ m. c) ≡ n * c
total_ones zero c = omega arith
total_ones (suc n) c = let a = total_ones n c in omega (arith, a)

pub total_swap : (n m : ℕ) (f : ℕ → ℕ → ℕ) → total n (λ a. total m (λ b. f a b)) ≡ total m (λ b. total n (λ a. f a b))
total_swap zero m f = sym (total_zero m (λ b. 0) (λ b l. refl))
total_swap (suc n) m f = let a = total_swap n m f in let b = total_sum m (λ b. total n (λ a. f a b)) (λ b. f n b) in omega (arith, a, b)

-- a page is one of so many, or it isn't
one_of : (n x : ℕ) → x < n → total n (λ page. only page x) ≡ 1
one_of zero x l = absurd (omega (arith, l))
one_of (suc n) x l = by (λ k. one_of n x k) (cases_eq x n)
  where
    by : (x < n → total n (λ page. only page x) ≡ 1) → (x ≡ n) ⊎ (x ≡ n → ⊥) → total n (λ page. only page x) + only n x ≡ 1
    by go (inl d) = let a = total_zero n (λ page. only page x) (λ page k. only_other page x (λ e. omega (arith, k, d, e))) in let b = only_self n x d in omega (arith, a, b)
    by go (inr other) = let a = go (omega (arith, l, other)) in let b = only_other n x other in omega (arith, a, b)

none_of : (n x : ℕ) → n ≤ x → total n (λ page. only page x) ≡ 0
none_of n x l = total_zero n (λ page. only page x) (λ page k. only_other page x (λ e. omega (arith, l, k, e)))

-- the weight of what is not below this number
pub beyond : ℕ → ℕ → ℕ
beyond n x = 1 - total n (λ page. only page x)

beyond_or : (n x : ℕ) → total n (λ page. only page x) + beyond n x ≡ 1
unfolding beyond
beyond_or n x = by (cases_lt x n)
  where
    by : (x < n) ⊎ (n ≤ x) → total n (λ page. only page x) + (1 - total n (λ page. only page x)) ≡ 1
    by (inl l) = let a = one_of n x l in omega (arith, a)
    by (inr l) = let a = none_of n x l in omega (arith, a)

pub split_length : (n : ℕ) (xs : List ℕ) → total n (λ page. weigh (only page) xs) + weigh (beyond n) xs ≡ length xs
split_length n [] = let a = total_zero n (λ page. 0) (λ page l. refl) in omega (arith, a)
split_length n (x ∷ xs) = let a = total_sum n (λ page. only page x) (λ page. weigh (only page) xs) in let b = split_length n xs in let c = beyond_or n x in omega (arith, a, b, c)

pub dealt_below : (n at count : ℕ) → at + count ≤ n → weigh (beyond n) (pages_from at count) ≡ 0
dealt_below n at zero l = refl
dealt_below n at (suc count) l = let a = dealt_below n (suc at) count (omega (arith, l)) in let b = one_of n at (omega (arith, l)) in let c = beyond_or n at in omega (arith, a, b, c)

module _ {Body Ended : Type 0} {BodyFits : List ℕ → Body → Type 0} {P V : ℕ} {s : State Body Ended} {location : ℕ → Location} (valid : Valid BodyFits P V s location) where
  -- a page that is shown is in no store and no post
  abbrev pub Apart : ℕ → Type 0
  Apart page = 1 + stores P s (only page) + posts s (only page) ≤ weight P (only page) s

  chain_held : (page : ℕ) (o : Option ℕ) → IsRound valid o → shows (chain_of s.chain o) page ≡ true → Apart page
  chain_held page o r e = let a = shown_weight (chain_of s.chain o) page e in let b = chain_apart valid (only page) o r in omega (arith, a, b)

  deque_held : (page w number : ℕ) (home : Option Home) (deque : List (Strand Body)) → DequeFits BodyFits s location w number home deque → deque_shows s.chain deque page ≡ true → Apart page
  deque_held page w number home [] l e = absurd (true≢false (sym e))
  deque_held page w number home (p ∷ deque) l e = by (either (lies_on s.chain p page) (deque_shows s.chain deque page) e) (deque_held page w p.number p.home deque l.4)
    where
      by : (lies_on s.chain p page ≡ true) ⊎ (deque_shows s.chain deque page ≡ true) → (deque_shows s.chain deque page ≡ true → Apart page) → Apart page
      by (inl d) go = chain_held page (innermost p.scopes p.home) (open_round valid p.number p.scopes p.home l.2.owns l.2.home l.3) d
      by (inr d) go = go d

  empty_held : (page : ℕ) (deque : List (Strand Body)) → deque ≡ [] → deque_shows s.chain deque page ≡ true → Apart page
  empty_held page deque d e = absurd (true≢false (sym e ∙ ap (λ l. deque_shows s.chain l page) d))

  lies_held : (page w : ℕ) (pages store : List ℕ) (deque : List (Strand Body)) (x : Task Body Ended) → TaskFits BodyFits V s location w pages store deque x
      → (task_shows s.chain x page || deque_shows s.chain deque page) ≡ true → Apart page
  lies_held page w pages store deque idle f e = empty_held page deque f.1 e
  lies_held page w pages store deque (running t) f e = deque_held page w t.number t.home deque f.3 e
  lies_held page w pages store deque (depositing h d) f e = empty_held page deque f.1 e
  lies_held page w pages store deque (arriving n) f e = empty_held page deque f.1 e
  lies_held page w pages store deque (leaving n) f e = empty_held page deque f.1 e
  lies_held page w pages store deque (collecting t) f e = deque_held page w t.number t.home deque f.3 e
  lies_held page w pages store deque (over d) f e = empty_held page deque f.1 e
  lies_held page w pages store deque (mapping t) f e = by (either (lies_on s.chain t page) (deque_shows s.chain deque page) e)
    where
      by : (lies_on s.chain t page ≡ true) ⊎ (deque_shows s.chain deque page ≡ true) → Apart page
      by (inl d) = chain_held page (innermost t.scopes t.home) (open_round valid t.number t.scopes t.home f.3.owns f.3.home f.4) d
      by (inr d) = empty_held page deque f.1 d

  worker_held : (page w : ℕ) → w < P → worker_shows s.chain (s.workers w) page ≡ true → Apart page
  worker_held page w k e = by (either (shows (s.workers w).pages page) (task_shows s.chain (s.workers w).task page || deque_shows s.chain (s.workers w).deque page) e)
    where
      by : (shows (s.workers w).pages page ≡ true) ⊎ ((task_shows s.chain (s.workers w).task page || deque_shows s.chain (s.workers w).deque page) ≡ true) → Apart page
      by (inl d) = let a = shown_weight (s.workers w).pages page d in let b = map_apart valid (only page) w k in omega (arith, a, b)
      by (inr d) = lies_held page w (s.workers w).pages (s.workers w).store (s.workers w).deque (s.workers w).task (valid.fits w) d

  behind_round : (n : ℕ) → n < s.scopes → IsLive (s.phase n) → (scopes : List ℕ) (home : Option Home) → IsSuspended s.phase n scopes → IsRound valid (innermost scopes home)
  behind_round n l a [] home o = absurd o
  behind_round n l a (m ∷ scopes) home o = subst (λ k. (k < s.scopes) × IsLive (s.phase k)) (sym o.0) (l, a)

  gate_held : (page n : ℕ) → n < s.scopes → (g : Phase Body) → s.phase n ≡ g → phase_shows s.chain g page ≡ true → Apart page
  gate_held page n l active d e = absurd (true≢false (sym e))
  gate_held page n l joining d e = absurd (true≢false (sym e))
  gate_held page n l closed d e = absurd (true≢false (sym e))
  gate_held page n l (suspended t) d e = chain_held page (innermost t.scopes t.home)
      (behind_round n l (subst (IsLive) (sym d) tt) t.scopes t.home (subst (PhaseFits BodyFits s location n) d (valid.parked n l)).1) e

  pub held_apart : (page : ℕ) → is_held P s page ≡ true → Apart page
  held_apart page e = by (either (some P (λ w. worker_shows s.chain (s.workers w) page)) (some s.scopes (λ n. phase_shows s.chain (s.phase n) page)) e)
    where
      by : (some P (λ w. worker_shows s.chain (s.workers w) page) ≡ true) ⊎ (some s.scopes (λ n. phase_shows s.chain (s.phase n) page) ≡ true) → Apart page
      by (inl d) = let r = some_found P (λ w. worker_shows s.chain (s.workers w) page) d in worker_held page r.0 r.1 r.2
      by (inr d) = let r = some_found s.scopes (λ n. phase_shows s.chain (s.phase n) page) d in gate_held page r.0 r.1 (s.phase r.0) refl r.2

  nothing_beyond : (w : ℕ) → w < P → weigh (beyond (P * V)) (s.workers w).store ≡ 0
  nothing_beyond w k =
      let a = valid.conserved (beyond (P * V)) in
      let b = total_zero P (λ w. weigh (beyond (P * V)) (pages_from (w * V) V)) (λ w l. dealt_below (P * V) (w * V) V (let m = mul-le-mul_right V l in omega (arith, m))) in
      let c = weight_parts valid (beyond (P * V)) in
      let d = at_most_total P w (λ w. weigh (beyond (P * V)) (s.workers w).store) k in omega (arith, a, b, c, d)

  pub stored : total (P * V) (λ page. stores P s (only page)) ≡ total P (λ w. length (s.workers w).store)
  stored = total_swap (P * V) P (λ page w. weigh (only page) (s.workers w).store)
      ∙ total_same P (λ w. total (P * V) (λ page. weigh (only page) (s.workers w).store)) (λ w. length (s.workers w).store)
      (λ w l. let a = split_length (P * V) (s.workers w).store in let b = nothing_beyond w l in omega (arith, a, b))

  once : (page : ℕ) → page < P * V → bit (is_held P s page) + stores P s (only page) ≤ 1
  once page l = by (is_held P s page) refl
    where
      by : (b : Bool) → is_held P s page ≡ b → bit b + stores P s (only page) ≤ 1
      by true e = let a = held_apart page e in let b = pages_stand_once valid page l in omega (arith, a, b)
      by false e = let a = weight_parts valid (only page) in let b = pages_stand_once valid page l in omega (arith, a, b)

  -- the pages held, and those of the stores, are at most all pages
  pub held_and_stored : held P V s + total P (λ w. length (s.workers w).store) ≤ P * V
  held_and_stored =
      let a = total_le (P * V) (λ page. bit (is_held P s page) + stores P s (only page)) (λ page. 1) once in
      let b = total_sum (P * V) (λ page. bit (is_held P s page)) (λ page. stores P s (only page)) in
      let c = total_ones (P * V) 1 in omega (arith, a, b, c, stored)

  -- the pages of a worker that are not in its store: those of its map, or of the scope that it leaves
  pub charge_bound : (B w : ℕ) (pages store : List ℕ) (deque : List (Strand Body)) (x : Task Body Ended) → length pages ≤ B → ((n : ℕ) → x ≡ leaving n → length (s.chain n) ≤ B)
      → TaskFits BodyFits V s location w pages store deque x → V ≤ length store + B
  charge_bound B w pages store deque idle l k f = let a = f.2 in omega (arith, a)
  charge_bound B w pages store deque (mapping t) l k f = let a = f.2 in omega (arith, a)
  charge_bound B w pages store deque (running t) l k f = let a = f.0.whole in omega (arith, a, l)
  charge_bound B w pages store deque (depositing h d) l k f = let a = f.0.whole in omega (arith, a, l)
  charge_bound B w pages store deque (arriving n) l k f = let a = f.0.whole in omega (arith, a, l)
  charge_bound B w pages store deque (leaving n) l k f = let a = f.3 in let b = k n refl in omega (arith, a, b)
  charge_bound B w pages store deque (collecting t) l k f = let a = f.0.whole in omega (arith, a, l)
  charge_bound B w pages store deque (over d) l k f = let a = f.0 in omega (arith, a, l)

  -- where no map and no scope that is left has more than B pages, at most P times B pages are held
  pub held_bound : (B : ℕ) → ((w : ℕ) → w < P → length (s.workers w).pages ≤ B) → ((w n : ℕ) → w < P → (s.workers w).task ≡ leaving n → length (s.chain n) ≤ B) → held P V s ≤ P * B
  held_bound B maps leaves =
      let a = total_le P (λ w. V) (λ w. length (s.workers w).store + B)
      (λ w l. charge_bound B w (s.workers w).pages (s.workers w).store (s.workers w).deque (s.workers w).task (maps w l) (λ n e. leaves w n l e) (valid.fits w)) in
      let b = total_sum P (λ w. length (s.workers w).store) (λ w. B) in let c = total_ones P B in let d = total_ones P V in
      omega (arith, a, b, c, d, held_and_stored)

  -- and at most all of them
  pub held_all : held P V s ≤ P * V
  held_all = omega (arith, held_and_stored)
