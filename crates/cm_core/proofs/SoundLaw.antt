-- Every turn of every run keeps what is kept, and is what it says.
use Rattle.std.proofs.Common.{◌≡◌, ℕ, ◌*◌, ◌<◌, ◌≤◌, false, if◌then◌else◌, List, [], ◌∷◌, ◌++◌, Some, None, refl, sym, ap, ◌∙◌, subst, arith, inl, inr, true≢false}
use Rattle.cm_core.specs.Table.{put}
use Rattle.cm_core.specs.State.{width, Strand, Place, free, out, back, closed, Task, running, collecting, State, start}
use Rattle.cm_core.specs.Event.{Strands}
use Rattle.cm_core.specs.Turn.{Why, Empty, Unposted, NoPlace, NotYet, Stopped, Turned, turned, found, behind, oldest, Pair, is_used, is_back, steal_from, fetch_by, fetch_at, deposit, arrive_last, arrive, park, park_in, add_page, map_by, map_in, collect_at, collect_by, collect_in, crowded, spawn_by, spawn_in, pop_at, end_in, end_of, run_next, turn_of, turn, run}
use Rattle.cm_core.specs.Row.{Row, stopped_row, empty_row, steal_row, full_row, map_row, instruction_row, fail_row, page_row, first_spawn_row, spawn_row, early_collect_row, crowded_row, park_row, last_park_row, finish_row, pop_row, orphan_row, deposit_row, arrive_row, last_arrive_row, unposted_row, fetch_row, collect_row, resume_row, over_row, row_result}
use Rattle.cm_core.specs.Held.{held, Run, counted, run_counted}
use Rattle.cm_core.specs.Valid.{Location, Valid}
use Rattle.cm_core.specs.Goes.{WorkerGoes, GoesAlong, AreAmong, KeepsFit}
use Rattle.cm_core.specs.Law.{Sound, IsCause, DoesAs}
use Rattle.cm_core.specs.Share.{Shares, Whole, Lends, moves}
use Rattle.cm_core.proofs.TableLaw.{put_self}
use Rattle.cm_core.proofs.RowLaw.{row_of, at_least}
use Rattle.cm_core.proofs.ValidLaw.{row_valid, start_valid}
use Rattle.cm_core.proofs.PostedLaw.{row_posted}
use Rattle.cm_core.proofs.OwnedLaw.{row_owned}
use Rattle.cm_core.proofs.SlimLaw.{row_slim}
use Rattle.cm_core.proofs.ShareLaw.{row_fine, moves_whole}
use Rattle.cm_core.proofs.HeldLaw.{held_bound}

-- the pages held
pub sound_held : {Body Ended : Type 0} {BodyFits : List ℕ → Body → Type 0} {P V B : ℕ} (s : State Body Ended) → Sound BodyFits P V B s → held P V s ≤ P * B
sound_held {B = B} s k = held_bound k.valid B (λ w l. k.slim.0 w) (λ w n l e. k.slim.1 n)

module _ {Body Ended : Type 0} {BodyFits : List ℕ → Body → Type 0} {P V B : ℕ} {strands : Strands Body Ended} (keeps : KeepsFit BodyFits strands) (small : B ≤ V) where
  -- what a row leaves is sound
  row_sound : (s : State Body Ended) → Sound BodyFits P V B s → (w : ℕ) → w < P → (v : ℕ) → v < P → WorkerGoes BodyFits B strands s w → (r : Row strands s w v) → Sound BodyFits P V B (row_result r).state
  row_sound s k w l v m goes r = let a = row_valid keeps k.valid w l B goes r in record {
    location = a.0;
    valid = a.1;
    posted = row_posted keeps k.valid w l B goes k.posted m r;
    owned = row_owned keeps k.valid w l B goes k.owned r;
    later = (row_fine keeps k.valid w l B goes k.later r).0;
    slim = row_slim BodyFits B s w goes k.slim r;
  }

  pub turn_sound : (s : State Body Ended) → Sound BodyFits P V B s → (w : ℕ) → w < P → (v : ℕ) → v < P → WorkerGoes BodyFits B strands s w → Sound BodyFits P V B (turn strands s w v).state
  turn_sound s k w l v m goes = let r = row_of strands k.valid w l v small goes in
      subst (λ t. Sound BodyFits P V B t.state) (sym r.1) (row_sound s k w l v m goes r.0)

  pub run_sound : (pairs : List Pair) → AreAmong P pairs → (s : State Body Ended) → GoesAlong BodyFits B strands s pairs → Sound BodyFits P V B s → Sound BodyFits P V B (run strands s pairs)
  run_sound [] l s a k = k
  run_sound (p ∷ pairs) l s a k = run_sound pairs l.2 (turn strands s p.worker p.victim).state a.1 (turn_sound s k p.worker l.0 p.victim l.1 a.0)

  -- the most that is held after any turn
  pub run_held : (pairs : List Pair) → AreAmong P pairs → (r : Run Body Ended) → GoesAlong BodyFits B strands r.state pairs → Sound BodyFits P V B r.state → r.most ≤ P * B → (run_counted P V strands r pairs).most ≤ P * B
  run_held [] l r a k m = m
  run_held (p ∷ pairs) l r a k m = let n = turn_sound r.state k p.worker l.0 p.victim l.1 a.0 in
      run_held pairs l.2 (counted P V r (turn strands r.state p.worker p.victim)) a.1 n
      (let b = sound_held (turn strands r.state p.worker p.victim).state n in omega (arith, m, b))

  -- all shares of every word make the whole after each turn
  pub turn_shares : (s : State Body Ended) → Sound BodyFits P V B s → (w : ℕ) → w < P → (v : ℕ) → WorkerGoes BodyFits B strands s w → (whole : ℕ) (lent has : Shares) → Whole whole s.strands has
      → Lends lent s.strands (turn strands s w v).moved has → Whole whole (turn strands s w v).state.strands (moves lent s.strands (turn strands s w v).moved has)
  turn_shares s k w l v goes whole lent has h = let r = row_of strands k.valid w l v small goes in
      subst (λ t. Lends lent s.strands t.moved has → Whole whole t.state.strands (moves lent s.strands t.moved has)) (sym r.1)
      (moves_whole whole s.strands (row_result r.0).state.strands lent (row_result r.0).moved has h (row_fine keeps k.valid w l B goes k.later r.0).1)

module _ {Body Ended : Type 0} (BodyFits : List ℕ → Body → Type 0) (P V B : ℕ) (root : Body) (okay : BodyFits (0 ∷ []) root) where
  pub start_sound : Sound BodyFits P V B (start {Body = Body} {Ended = Ended} V root)
  start_sound = let a = start_valid {Ended = Ended} BodyFits P V root okay in record {
    location = a.0;
    valid = a.1;
    posted = λ n l. absurd (omega (arith, l));
    owned = λ n l. absurd (omega (arith, l));
    later = λ n i l. absurd (omega (arith, l));
    slim = ((λ w. omega arith), (λ n. omega arith));
  }

oldest_last : {Body : Type 0} (rest : List (Strand Body)) (t : Strand Body) → oldest (rest ++ t ∷ []) ≡ found t rest
oldest_last [] t = refl
oldest_last (q ∷ rest) t = ap (behind q) (oldest_last rest t)

-- a free place of a scope
emptied : {Ended : Type 0} (f : ℕ → ℕ → Place Ended) (n i : ℕ) → put f n (put (f n) i free) n i ≡ free
emptied f n i = ap (λ g. g i) (put_self f n (put (f n) i free)) ∙ put_self (f n) i free

unused : {Ended : Type 0} (p : Place Ended) → is_used p ≡ false → p ≡ free
unused free e = refl
unused (out hole child) e = absurd (true≢false e)
unused (back hole child x) e = absurd (true≢false e)

module _ {Body Ended : Type 0} (strands : Strands Body Ended) (s : State Body Ended) (w v : ℕ) where
  abbrev at : Task Body Ended → Turned Body Ended
  at x = turn_of strands s w v x

  -- a row is what it says
  pub row_does : (r : Row strands s w v) → DoesAs strands s w v (row_result r).did (row_result r)
  row_does (stopped_row a b) = ((a, b), refl)
  row_does (empty_row a b c) = ((a, b, c), refl)
  row_does (steal_row t rest a b c) = (a, b, (t, rest, c, ap (λ x. x.task) (put_self (put s.workers v (record (s.workers v) { deque = rest })) w _)))
  row_does (full_row t n scopes a b c) = (inl (t, n, scopes, a, b, c), refl)
  row_does (map_row t n scopes slot a b c) = (t, a, ap (λ x. x.task) (put_self s.workers w _))
  row_does (instruction_row t b words a) = tt
  row_does (fail_row t b a) = tt
  row_does (page_row t page store a b) = tt
  row_does (first_spawn_row t k inside parent child hole a) = (t, a.0, refl)
  row_does (spawn_row t n scopes i inside parent child hole a b c) = (t, a.0, refl)
  row_does (early_collect_row t n scopes i inside parent child hole filled number e a b c d f) = (t, inl a.0, (n, i, filled, number, e, (at_least (λ i. is_back (s.places n i)) width (Some i) d).0, f, emptied s.places n i, refl))
  row_does (crowded_row t n scopes inside parent child hole a b c d) = (inr (t, n, scopes, inside, parent, child, hole, a, b, c, d), refl)
  row_does (park_row t n scopes more a b d) = tt
  row_does (last_park_row t n scopes a b d) = tt
  row_does (finish_row t e a b) = tt
  row_does (pop_row t e h p rest hole child a b c d) = tt
  row_does (orphan_row t e h a b c) = tt
  row_does (deposit_row h e hole child a b) = tt
  row_does (arrive_row n more a d) = tt
  row_does (last_arrive_row n t a d g) = tt
  row_does (unposted_row n a b) = ((n, a, b), refl)
  row_does (fetch_row n slot pages a b d) = tt
  row_does (collect_row t n scopes i hole child e a b c d) = (t, inr a, (n, i, hole, child, e, (at_least (λ i. is_used (s.places n i)) width (Some i) c).0, d, emptied s.places n i, refl))
  row_does (resume_row t n scopes a b c) = (t, n, scopes, a, b, (λ i l. unused (s.places n i) (at_least (λ i. is_used (s.places n i)) width None c i l)), put_self s.phase n closed)
  row_does (over_row e a) = ((e, a), refl)

  -- where a row's conditions hold, it is what the turn does
  pub row_is : (r : Row strands s w v) → turn strands s w v ≡ row_result r
  row_is (stopped_row a b) = ap at a ∙ ap (λ b. if b then turned s (NotYet Stopped) else steal_from s w v (oldest (s.workers v).deque)) b
  row_is (empty_row a b c) = ap at a ∙ ap (λ b. if b then turned s (NotYet Stopped) else steal_from s w v (oldest (s.workers v).deque)) b ∙ ap (λ d. steal_from s w v (oldest d)) c
  row_is (steal_row t rest a b c) = ap at a ∙ ap (λ b. if b then turned s (NotYet Stopped) else steal_from s w v (oldest (s.workers v).deque)) b
      ∙ ap (λ d. steal_from s w v (oldest d)) c ∙ ap (steal_from s w v) (oldest_last rest t)
  row_is (full_row t n scopes a b c) = ap at a ∙ ap (map_in strands s w t) b ∙ ap (map_by strands s w t n) c
  row_is (map_row t n scopes slot a b c) = ap at a ∙ ap (map_in strands s w t) b ∙ ap (map_by strands s w t n) c
  row_is (instruction_row t b words a) = ap at a.0 ∙ ap (run_next strands s w t) a.1
  row_is (fail_row t b a) = ap at a.0 ∙ ap (run_next strands s w t) a.1
  row_is (page_row t page store a b) = ap at a.0 ∙ ap (run_next strands s w t) a.1 ∙ ap (add_page s w) b
  row_is (first_spawn_row t k inside parent child hole a) = ap at a.0 ∙ ap (run_next strands s w t) a.1
  row_is (spawn_row t n scopes i inside parent child hole a b c) = ap at a.0 ∙ ap (run_next strands s w t) a.1 ∙ ap (λ l. spawn_in strands s w t l parent child hole) b ∙ ap (spawn_by strands s w t n parent child hole) c
  row_is (early_collect_row t n scopes i inside parent child hole filled number e a b c d f) = ap at a.0 ∙ ap (run_next strands s w t) a.1 ∙ ap (λ l. spawn_in strands s w t l parent child hole) b
      ∙ ap (spawn_by strands s w t n parent child hole) c ∙ ap (crowded strands s w t n) d ∙ ap (collect_at strands s w t running n i) f
  row_is (crowded_row t n scopes inside parent child hole a b c d) = ap at a.0 ∙ ap (run_next strands s w t) a.1 ∙ ap (λ l. spawn_in strands s w t l parent child hole) b
      ∙ ap (spawn_by strands s w t n parent child hole) c ∙ ap (crowded strands s w t n) d
  row_is (park_row t n scopes more a b d) = ap at a.0 ∙ ap (run_next strands s w t) a.1 ∙ ap (park_in s w t) b ∙ ap (park s w t n) d
  row_is (last_park_row t n scopes a b d) = ap at a.0 ∙ ap (run_next strands s w t) a.1 ∙ ap (park_in s w t) b ∙ ap (park s w t n) d
  row_is (finish_row t e a b) = ap at a.0 ∙ ap (run_next strands s w t) a.1 ∙ ap (λ h. end_of strands s w h e) b
  row_is (pop_row t e h p rest hole child a b c d) = ap at a.0 ∙ ap (run_next strands s w t) a.1 ∙ ap (λ h. end_of strands s w h e) b ∙ ap (end_in strands s w h e) c ∙ ap (pop_at strands s w h e p rest) d
  row_is (orphan_row t e h a b c) = ap at a.0 ∙ ap (run_next strands s w t) a.1 ∙ ap (λ h. end_of strands s w h e) b ∙ ap (end_in strands s w h e) c
  row_is (deposit_row h e hole child a b) = ap at a ∙ ap (deposit s w h e) b
  row_is (arrive_row n more a d) = ap at a ∙ ap (arrive s w n) d
  row_is (last_arrive_row n t a d g) = ap at a ∙ ap (arrive s w n) d ∙ ap (arrive_last s w n) g
  row_is (unposted_row n a b) = ap at a ∙ ap (fetch_by s w n) b
  row_is (fetch_row n slot pages a b d) = ap at a ∙ ap (fetch_by s w n) b ∙ ap (fetch_at s w n slot) d
  row_is (collect_row t n scopes i hole child e a b c d) = ap at a ∙ ap (collect_in strands s w t) b ∙ ap (collect_by strands s w t n scopes) c ∙ ap (collect_at strands s w t collecting n i) d
  row_is (resume_row t n scopes a b c) = ap at a ∙ ap (collect_in strands s w t) b ∙ ap (collect_by strands s w t n scopes) c
  row_is (over_row e a) = ap at a

module _ {Body Ended : Type 0} {BodyFits : List ℕ → Body → Type 0} {P V B : ℕ} (strands : Strands Body Ended) {s : State Body Ended} {location : ℕ → Location} (valid : Valid BodyFits P V s location)
    (w : ℕ) (within : w < P) (v : ℕ) (small : B ≤ V) where
  -- each turn is what it says
  pub turn_does : WorkerGoes BodyFits B strands s w → DoesAs strands s w v (turn strands s w v).did (turn strands s w v)
  turn_does goes = let r = row_of strands valid w within v small goes in
      subst (λ t. DoesAs strands s w v t.did t) (sym r.1) (row_does strands s w v r.0)

module _ {Body Ended : Type 0} (strands : Strands Body Ended) (s : State Body Ended) (w v : ℕ) where
  -- where there is a cause, the turn says so
  pub caused : (why : Why) → IsCause strands s w v why → turn strands s w v ≡ turned s (NotYet why)
  caused Stopped c = row_is strands s w v (stopped_row c.0 c.1)
  caused Empty c = row_is strands s w v (empty_row c.0 c.1 c.2)
  caused Unposted c = row_is strands s w v (unposted_row c.0 c.1 c.2)
  caused NoPlace (inl c) = row_is strands s w v (full_row c.0 c.1 c.2 c.3 c.4 c.5)
  caused NoPlace (inr c) = row_is strands s w v (crowded_row c.0 c.1 c.2 c.3 c.4 c.5 c.6 c.7 c.8 c.9 c.10)
