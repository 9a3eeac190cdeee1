-- Each page is in one place, and no page that a map shows is in a store or a post.
use Rattle.std.proofs.Common.{◌≡◌, ℕ, zero, suc, ◌+◌, ◌*◌, ◌<◌, ◌≤◌, ◌≢◌, ◌⊎◌, true, false, ◌==◌, List, [], ◌∷◌, Option, Some, None, refl, sym, ap, ◌∙◌, subst, arith, inl, inr, length, take, drop, eq-eqb, ne_eqb}
use Rattle.std.specs.Prelude.{⊤}
use Rattle.std.proofs.lemmas.Bool.{cases_lt, cases_eq}
use Rattle.cm_core.specs.Table.{total, weigh}
use Rattle.cm_core.specs.State.{Home, Phase, State, Strand, Task, active, arriving, chain_of, closed, collecting, depositing, home_scope, idle, innermost, joining, leaving, mapping, over, pages_from, running, suspended, width}
use Rattle.cm_core.specs.Held.{only, posts, slot_weight, stores}
use Rattle.cm_core.specs.Valid.{AreActive, HomeFits, IsBelow, IsFront, IsJoined, IsJoining, IsLive, IsOut, Location, Owns, TaskFits, Under, Valid, arriving_bit, base, itself, out_bit, own_weight, tail_weight, weight, within}
use Rattle.cm_core.proofs.PlaceLaw.{arriving_self}
use Rattle.cm_core.proofs.TableLaw.{at_most_total, front_front, front_self, sum_front, take_front}

pub only_self : (page x : ℕ) → x ≡ page → only page x ≡ 1
only_self page x d = let e : (x == page) ≡ true = eq-eqb x page d in rw e refl

pub only_other : (page x : ℕ) → x ≢ page → only page x ≡ 0
only_other page x other = let e : (x == page) ≡ false = ne_eqb x page other in rw e refl

before_pages : (page at count : ℕ) → page < at → weigh (only page) (pages_from at count) ≡ 0
before_pages page at zero l = refl
before_pages page at (suc count) l = let a = only_other page at (λ d. omega (arith, l, d)) in let b = before_pages page (suc at) count (omega (arith, l)) in omega (arith, a, b)

behind_pages : (page at count : ℕ) → at + count ≤ page → weigh (only page) (pages_from at count) ≡ 0
behind_pages page at zero l = refl
behind_pages page at (suc count) l = let a = only_other page at (λ d. omega (arith, l, d)) in let b = behind_pages page (suc at) count (omega (arith, l)) in omega (arith, a, b)

among_pages : (page at count : ℕ) → at ≤ page → page < at + count → weigh (only page) (pages_from at count) ≡ 1
among_pages page at zero l k = absurd (omega (arith, l, k))
among_pages page at (suc count) l k = by (λ other. among_pages page (suc at) count (omega (arith, l, other)) (omega (arith, k))) (cases_eq at page)
  where
    by : ((at ≡ page → ⊥) → weigh (only page) (pages_from (suc at) count) ≡ 1) → (at ≡ page) ⊎ (at ≡ page → ⊥) → only page at + weigh (only page) (pages_from (suc at) count) ≡ 1
    by go (inl d) = let a = only_self page at d in let b = before_pages page (suc at) count (omega (arith, d)) in omega (arith, a, b)
    by go (inr other) = let a = only_other page at other in let b = go other in omega (arith, a, b)

none_yet : (page V n : ℕ) → n * V ≤ page → total n (λ w. weigh (only page) (pages_from (w * V) V)) ≡ 0
none_yet page V zero l = refl
none_yet page V (suc n) l = let a = none_yet page V n (omega (arith, l)) in let b = behind_pages page (n * V) V (omega (arith, l)) in omega (arith, a, b)

pub dealt_once : (page V n : ℕ) → page < n * V → total n (λ w. weigh (only page) (pages_from (w * V) V)) ≡ 1
dealt_once page V zero l = absurd (omega (arith, l))
dealt_once page V (suc n) l = by (λ k. dealt_once page V n k) (cases_lt page (n * V))
  where
    by : (page < n * V → total n (λ w. weigh (only page) (pages_from (w * V) V)) ≡ 1) → (page < n * V) ⊎ (n * V ≤ page)
        → total n (λ w. weigh (only page) (pages_from (w * V) V)) + weigh (only page) (pages_from (n * V) V) ≡ 1
    by go (inl k) = let a = go k in let b = before_pages page (n * V) V k in omega (arith, a, b)
    by go (inr k) = let a = none_yet page V n k in let b = among_pages page (n * V) V k (omega (arith, l)) in omega (arith, a, b)

total_sum : (n : ℕ) (f g : ℕ → ℕ) → total n (λ m. f m + g m) ≡ total n f + total n g
total_sum zero f g = refl
total_sum (suc n) f g = let a = total_sum n f g in omega (arith, a)

total_more : (n m : ℕ) (f : ℕ → ℕ) → n ≤ m → total n f ≤ total m f
total_more n zero f l = by n l
  where
    by : (n : ℕ) → n ≤ 0 → total n f ≤ 0
    by zero l = omega arith
    by (suc n) l = absurd (omega (arith, l))
total_more n (suc m) f l = by (λ k. total_more n m f k) (cases_eq n (suc m))
  where
    by : (n ≤ m → total n f ≤ total m f) → (n ≡ suc m) ⊎ (n ≡ suc m → ⊥) → total n f ≤ total m f + f m
    by go (inl d) = let a = ap (λ n. total n f) d in omega (arith, a)
    by go (inr other) = let a = go (omega (arith, l, other)) in omega (arith, a)

module _ {Body Ended : Type 0} {BodyFits : List ℕ → Body → Type 0} {P V : ℕ} {s : State Body Ended} {location : ℕ → Location} (valid : Valid BodyFits P V s location) where
  -- each page stands once among the stores, the posts, the scopes' own pages and the workers' own
  pub pages_stand_once : (page : ℕ) → page < P * V → weight P (only page) s ≡ 1
  pages_stand_once page l = valid.conserved (only page) ∙ dealt_once page V P l

  abbrev pub owned : (ℕ → ℕ) → ℕ → ℕ
  owned h m = own_weight h s.chain (s.outer m) m (s.phase m)

  live_owned : (h : ℕ → ℕ) (n : ℕ) (g : Phase Body) → IsLive g → own_weight h s.chain (s.outer n) n g ≡ weigh h (drop (length (chain_of s.chain (s.outer n))) (s.chain n))
  live_owned h n active a = refl
  live_owned h n (suspended t) a = refl
  live_owned h n joining a = refl
  live_owned h n closed a = absurd a

  -- the pages of a live scope are its own and those of the live scopes round it
  chain_weight : (h : ℕ → ℕ) (fuel n : ℕ) → n < fuel → n < s.scopes → IsLive (s.phase n) → weigh h (s.chain n) ≤ total (suc n) (owned h)
  chain_weight h zero n f l a = absurd (omega (arith, f))
  chain_weight h (suc fuel) n f l a = by (s.outer n) refl (λ m k less b. chain_weight h fuel m (omega (arith, f, k)) less b)
    where
      whole : weigh h (s.chain n) ≡ weigh h (chain_of s.chain (s.outer n)) + owned h n
      whole = sum_front h (chain_of s.chain (s.outer n)) (s.chain n) (valid.begins n l) ∙ ap (λ x. weigh h (chain_of s.chain (s.outer n)) + x) (sym (live_owned h n (s.phase n) a))

      by : (o : Option ℕ) → s.outer n ≡ o → ((m : ℕ) → m < n → m < s.scopes → IsLive (s.phase m) → weigh h (s.chain m) ≤ total (suc m) (owned h)) → weigh h (s.chain n) ≤ total n (owned h) + owned h n
      by None d go = let b = ap (λ o. weigh h (chain_of s.chain o)) d in omega (arith, whole, b)
      by (Some m) d go =
          let k : m < n = subst (IsBelow n) d (valid.below n l) in
          let c = go m k (omega (arith, k, l)) (valid.nested n m l a d).0 in
          let b = ap (λ o. weigh h (chain_of s.chain o)) d in
          let e = total_more (suc m) n (owned h) (omega (arith, k)) in omega (arith, whole, b, c, e)

  abbrev pub IsRound : Option ℕ → Type 0
  IsRound None = ⊤
  IsRound (Some n) = (n < s.scopes) × IsLive (s.phase n)

  pub round_weight : (h : ℕ → ℕ) (o : Option ℕ) → IsRound o → weigh h (chain_of s.chain o) ≤ total s.scopes (owned h)
  round_weight h None r = omega arith
  round_weight h (Some n) r = let a = chain_weight h (suc n) n (omega arith) r.0 r.1 in let l = r.0 in let b = total_more (suc n) s.scopes (owned h) (omega (arith, l)) in omega (arith, a, b)

  -- a scope that is waited for is live
  live_by : (n : ℕ) → 1 ≤ s.count n → (g : Phase Body) → (IsJoined g → s.count n ≡ 0) → IsLive g
  live_by n l active j = tt
  live_by n l (suspended t) j = tt
  live_by n l joining j = tt
  live_by n l closed j = let a = j tt in omega (arith, a, l)

  out_round : (c : ℕ) (h : Home) → IsOut s c h → IsRound (Some h.scope)
  out_round c h o = let n = h.scope in
      let a = valid.counts h.scope o.0 in let b = at_most_total width h.place (λ i. out_bit (s.places h.scope i)) o.1 in let d = ap (out_bit) o.2.1 in
      (o.0, live_by h.scope (omega (arith, a, b, d)) (s.phase h.scope) (λ j. valid.joined h.scope o.0 j))

  home_round : (c : ℕ) (home : Option Home) → HomeFits s c home → IsRound (home_scope home)
  home_round c None f = tt
  home_round c (Some h) f = out_round c h f

  pub open_round : (number : ℕ) (scopes : List ℕ) (home : Option Home) → Owns s.scopes s.owner s.outer number scopes home → HomeFits s number home → AreActive s.phase scopes → IsRound (innermost scopes home)
  open_round number [] home o f g = home_round number home f
  open_round number (n ∷ scopes) home o f g = (o.0, subst (IsLive) (sym g.0) tt)

  taken_round : (number : ℕ) (scopes : List ℕ) (home : Option Home) → Owns s.scopes s.owner s.outer number scopes home → IsJoining s.phase scopes → IsRound (innermost scopes home)
  taken_round number [] home o g = absurd g
  taken_round number (n ∷ scopes) home o g = (o.0, subst (IsLive) (sym g.0) tt)

  -- the worker's base is live, and its map begins with the base's pages
  pub base_round : (w : ℕ) → w < P → (x : Task Body Ended) → (s.workers w).task ≡ x → TaskFits BodyFits V s location w (s.workers w).pages (s.workers w).store (s.workers w).deque x → IsRound (base x)
  base_round w k idle e f = tt
  base_round w k (mapping t) e f = tt
  base_round w k (running t) e f = open_round t.number t.scopes t.home f.1.owns f.1.home f.2
  base_round w k (depositing h d) e f = out_round f.2.0 h f.2.2
  base_round w k (arriving n) e f = (
    f.2,
    let a = valid.counts n f.2 in let b = at_most_total P w (λ v. arriving_bit n (s.workers v).task) k in
        let c = ap (arriving_bit n) e in let d = arriving_self Body Ended n in live_by n (omega (arith, a, b, c, d)) (s.phase n) (λ j. valid.joined n f.2 j),
  )
  base_round w k (leaving n) e f = tt
  base_round w k (collecting t) e f = taken_round t.number t.scopes t.home f.1.owns f.2
  base_round w k (over d) e f = tt

  pub base_front : (w : ℕ) (pages store : List ℕ) (deque : List (Strand Body)) (x : Task Body Ended) → TaskFits BodyFits V s location w pages store deque x → IsFront (chain_of s.chain (base x)) pages
  base_front w pages store deque idle f = refl
  base_front w pages store deque (mapping t) f = refl
  base_front w pages store deque (running t) f = f.0.begins
  base_front w pages store deque (depositing h d) f = f.0.begins
  base_front w pages store deque (arriving n) f = f.0.begins
  base_front w pages store deque (leaving n) f = refl
  base_front w pages store deque (collecting t) f = f.0.begins
  base_front w pages store deque (over d) f = refl

  -- the parts of the whole weight
  pub weight_parts : (h : ℕ → ℕ) → weight P h s ≡ stores P s h + total P (λ w. tail_weight h s.chain (s.workers w)) + total s.scopes (owned h) + posts s h
  weight_parts h =
      let a = total_sum P (λ w. weigh h (s.workers w).store) (λ w. tail_weight h s.chain (s.workers w)) in
      let b = total_sum s.scopes (owned h) (λ n. total width (λ i. slot_weight h (s.surplus n i))) in omega (arith, a, b)

  -- what a worker's map shows is in no store and no post, and stands in the map once
  pub map_apart : (h : ℕ → ℕ) (w : ℕ) → w < P → weigh h (s.workers w).pages + stores P s h + posts s h ≤ weight P h s
  map_apart h w k =
      let a = round_weight h (base (s.workers w).task) (base_round w k (s.workers w).task refl (valid.fits w)) in
      let b = sum_front h (chain_of s.chain (base (s.workers w).task)) (s.workers w).pages (base_front w (s.workers w).pages (s.workers w).store (s.workers w).deque (s.workers w).task (valid.fits w)) in
      let c = at_most_total P w (λ w. tail_weight h s.chain (s.workers w)) k in
      let d = weight_parts h in omega (arith, a, b, c, d)

  -- so it is with the pages of a live scope
  pub chain_apart : (h : ℕ → ℕ) (o : Option ℕ) → IsRound o → weigh h (chain_of s.chain o) + stores P s h + posts s h ≤ weight P h s
  chain_apart h o r = let a = round_weight h o r in let d = weight_parts h in omega (arith, a, d)

  -- a page is in one map once, and then in no store and no post
  pub page_apart : (page w : ℕ) → page < P * V → w < P → weigh (only page) (s.workers w).pages + stores P s (only page) + posts s (only page) ≤ 1
  page_apart page w l k = let a = map_apart (only page) w k in let b = pages_stand_once page l in omega (arith, a, b)

  -- ---- scopes in common
  abbrev IsThere : Option ℕ → Type 0
  IsThere None = ⊤
  IsThere (Some n) = n < s.scopes

  outer_there : (m : ℕ) (o : Option ℕ) → m < s.scopes → IsBelow m o → IsThere o
  outer_there m None l b = tt
  outer_there m (Some n) l b = omega (arith, l, b)

  pub under_front : (n : ℕ) (o : Option ℕ) → IsThere o → Under s.outer n o → IsFront (s.chain n) (chain_of s.chain o)
  under_front n o l itself = front_self (s.chain n)
  under_front n o l (within {m = m} {o = p} d u) =
      front_front (s.chain n) (chain_of s.chain p) (s.chain m) (under_front n p (outer_there m p l (subst (IsBelow m) d (valid.below m l))) u)
      (subst (λ p. IsFront (chain_of s.chain p) (s.chain m)) d (valid.begins m l))

  round_there : (o : Option ℕ) → IsRound o → IsThere o
  round_there None r = tt
  round_there (Some n) r = r.0

  -- the map of a worker below a scope shows the scope's pages
  pub map_shows : (n w : ℕ) → w < P → Under s.outer n (base (s.workers w).task) → IsFront (s.chain n) (s.workers w).pages
  map_shows n w k u = front_front (s.chain n) (chain_of s.chain (base (s.workers w).task)) (s.workers w).pages
      (under_front n (base (s.workers w).task) (round_there (base (s.workers w).task) (base_round w k (s.workers w).task refl (valid.fits w))) u)
      (base_front w (s.workers w).pages (s.workers w).store (s.workers w).deque (s.workers w).task (valid.fits w))

  -- two workers below one scope have the same pages for it
  pub common_pages : (n w v : ℕ) → w < P → v < P → Under s.outer n (base (s.workers w).task) → Under s.outer n (base (s.workers v).task)
      → take (length (s.chain n)) (s.workers w).pages ≡ take (length (s.chain n)) (s.workers v).pages
  common_pages n w v k l a b = take_front (s.chain n) (s.workers w).pages (map_shows n w k a) ∙ sym (take_front (s.chain n) (s.workers v).pages (map_shows n v l b))
