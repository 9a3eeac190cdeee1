-- The counts of scopes whose owners have others below them in a deque.
use Rattle.std.proofs.Common.{◌≡◌, ℕ, ◌<◌, ◌≤◌, List, [], ◌∷◌, Option, Some, None, sym, ◌∙◌, subst, arith}
use Rattle.std.specs.Prelude.{⊤}
use Rattle.cm_core.specs.Table.{put}
use Rattle.cm_core.specs.State.{Home, Phase, State, Strand, Task, active, arriving, collecting, depositing, idle, innermost, leaving, mapping, out, over, running, width}
use Rattle.cm_core.specs.Valid.{Above, AreActive, DequeFits, HasCount, HomeFits, IsBelow, Location, Ones, Owns, TaskFits, Unstolen, UnstolenAt, Valid, at_worker}
use Rattle.cm_core.proofs.TableLaw.{put_other}

-- each of these is below
abbrev pub AllBelow : ℕ → List ℕ → Type 0
AllBelow n [] = ⊤
AllBelow n (m ∷ scopes) = (m < n) × AllBelow n scopes

below_more : (n m : ℕ) (o : Option ℕ) → m < n → IsBelow m o → IsBelow n o
below_more n m None l b = b
below_more n m (Some k) l b = omega (arith, l, b)

pub ones_put : (count : ℕ → ℕ) (n c : ℕ) (scopes : List ℕ) → AllBelow n scopes → Ones count scopes → Ones (put count n c) scopes
ones_put count n c [] a o = o
ones_put count n c (m ∷ scopes) a o = (put_other count n c m (λ d. let l = a.0 in omega (arith, l, d)) ∙ o.0, ones_put count n c scopes a.1 o.1)

pub ones_count : (count : ℕ → ℕ) (scopes : List ℕ) → Ones count scopes → HasCount count 1 scopes
ones_count count [] o = o
ones_count count (m ∷ scopes) o = o

pub active_put : {Body : Type 0} (phase : ℕ → Phase Body) (n : ℕ) (g : Phase Body) (scopes : List ℕ) → AllBelow n scopes → AreActive phase scopes → AreActive (put phase n g) scopes
active_put phase n g [] a o = o
active_put phase n g (m ∷ scopes) a o = (put_other phase n g m (λ d. let l = a.0 in omega (arith, l, d)) ∙ o.0, active_put phase n g scopes a.1 o.1)

-- a scope whose owner is with a worker: its count is small, or it waits for a child that is out
pub data IsCounted {Body Ended : Type 0} (s : State Body Ended) (m : ℕ) : Type 0 where
  has_few : s.count m ≤ 1 → IsCounted s m
  awaits : s.count m ≡ 2 → s.phase m ≡ active → (i c hole : ℕ) → i < width → s.places m i ≡ out hole c → IsCounted s m

module _ {Body Ended : Type 0} where
  module _ {BodyFits : List ℕ → Body → Type 0} {P V : ℕ} {s : State Body Ended} {location : ℕ → Location} (valid : Valid BodyFits P V s location) where
    all_below : (n number : ℕ) (scopes : List ℕ) (home : Option Home) → Owns s.scopes s.owner s.outer number scopes home → IsBelow n (innermost scopes home) → AllBelow n scopes
    all_below n number [] home o b = tt
    all_below n number (m ∷ scopes) home o b =
        (b, all_below n number scopes home o.3 (below_more n m (innermost scopes home) b (subst (IsBelow m) o.2 (valid.below m o.0))))

    -- a strand's other scopes are below its innermost
    pub tail_below : (n number : ℕ) (scopes : List ℕ) (home : Option Home) → Owns s.scopes s.owner s.outer number (n ∷ scopes) home → AllBelow n scopes
    tail_below n number scopes home o = all_below n number scopes home o.3 (subst (IsBelow n) o.2 (valid.below n o.0))

    module _ (R : ℕ → Type 0) (count' : ℕ → ℕ) (same : (m : ℕ) → m < s.scopes → R (s.owner m) → IsCounted s m → count' m ≡ s.count m) where
      ones_frame : (number : ℕ) (scopes : List ℕ) (home : Option Home) → R number → Owns s.scopes s.owner s.outer number scopes home → Ones s.count scopes → Ones count' scopes
      ones_frame number [] home r o c = c
      ones_frame number (m ∷ scopes) home r o c = (same m o.0 (subst R (sym o.1) r) (has_few (let a = c.0 in omega (arith, a))) ∙ c.0, ones_frame number scopes home r o.3 c.1)

      -- the scope of a home that waits for the child with this number
      waits_for : (number m : ℕ) (home : Option Home) (scopes : List ℕ) → HomeFits s number home → Above home (m ∷ scopes) → s.count m ≡ 2 → s.phase m ≡ active → IsCounted s m
      waits_for number m None scopes h a two g = absurd a
      waits_for number m (Some x) scopes h a two g = awaits two g x.place number h.2.0 h.1 (subst (λ n. s.places n x.place ≡ out h.2.0 number) a h.2.1)

      count_below : (number : ℕ) (home : Option Home) → HomeFits s number home → (owner : ℕ) (scopes : List ℕ) (round : Option Home) → Above home scopes → R owner
          → Owns s.scopes s.owner s.outer owner scopes round → AreActive s.phase scopes → HasCount s.count 2 scopes → HasCount count' 2 scopes
      count_below number home h owner [] round a r o g c = c
      count_below number home h owner (m ∷ scopes) round a r o g c =
          (same m o.0 (subst R (sym o.1) r) (waits_for number m home scopes h a c.0 g.0) ∙ c.0, ones_frame owner scopes round r o.3 c.1)

      pub below_unstolen : (w number : ℕ) (home : Option Home) → HomeFits s number home → (q : Strand Body) (deque : List (Strand Body))
          → ((k : ℕ) → k < number → location k ≡ at_worker w → R k) → DequeFits BodyFits s location w number home (q ∷ deque)
          → Unstolen s.count 2 q.scopes deque → Unstolen count' 2 q.scopes deque
      below_unstolen w number home h q [] r l c = c
      below_unstolen w number home h q (x ∷ deque) r l c = let a = l.1 in (
        count_below number home h q.number q.scopes q.home l.0 (r q.number l.1 l.2.place) l.2.owns l.3 c.0,
        below_unstolen w q.number q.home l.2.home x deque (λ k less e. r k (omega (arith, less, a)) e) l.4 c.1,
      )

      count_top : (c number : ℕ) (scopes : List ℕ) (home : Option Home) → c ≤ 1 → R number → Owns s.scopes s.owner s.outer number scopes home → HasCount s.count c scopes → HasCount count' c scopes
      count_top c number [] home l r o h = h
      count_top c number (m ∷ scopes) home l r o h = (same m o.0 (subst R (sym o.1) r) (has_few (let a = h.0 in omega (arith, a, l))) ∙ h.0, ones_frame number scopes home r o.3 h.1)

      -- the counts under a strand that is R
      pub deque_unstolen : (w c number : ℕ) (scopes : List ℕ) (home : Option Home) → c ≤ 1 → R number → Owns s.scopes s.owner s.outer number scopes home → HomeFits s number home
          → (deque : List (Strand Body)) → ((k : ℕ) → k < number → location k ≡ at_worker w → R k) → DequeFits BodyFits s location w number home deque
          → Unstolen s.count c scopes deque → Unstolen count' c scopes deque
      deque_unstolen w c number scopes home l r o h [] q k z = z
      deque_unstolen w c number scopes home l r o h (x ∷ deque) q k z = (count_top c number scopes home l r o z.0, below_unstolen w number home h x deque q k z.1)

      -- the counts at a worker all of whose strands are R
      pub unstolen_frame : (w : ℕ) (pages store : List ℕ) (deque : List (Strand Body)) (task : Task Body Ended) → ((k : ℕ) → location k ≡ at_worker w → R k)
          → TaskFits BodyFits V s location w pages store deque task → UnstolenAt s.count deque task → UnstolenAt count' deque task
      unstolen_frame w pages store deque idle r z q = q
      unstolen_frame w pages store deque (mapping t) r z q = q
      unstolen_frame w pages store deque (running t) r z q =
          deque_unstolen w 1 t.number t.scopes t.home (omega arith) (r t.number z.1.place) z.1.owns z.1.home deque (λ k less e. r k e) z.3 q
      unstolen_frame w pages store deque (depositing h e) r z q = q
      unstolen_frame w pages store deque (arriving n) r z q = q
      unstolen_frame w pages store deque (leaving n) r z q = q
      unstolen_frame w pages store deque (collecting t) r z q =
          deque_unstolen w 0 t.number t.scopes t.home (omega arith) (r t.number z.1.place) z.1.owns z.1.home deque (λ k less e. r k e) z.3 q
      unstolen_frame w pages store deque (over e) r z q = q
