-- The start is valid, and each row of the table leaves a valid state.
use Rattle.std.proofs.Common.{◌≡◌, ℕ, zero, suc, ◌*◌, ◌<◌, ◌≤◌, true, List, [], ◌∷◌, Option, Some, None, refl, sym, ap, subst, arith, length, true≢false}
use Rattle.cm_core.specs.Table.{weigh}
use Rattle.cm_core.specs.State.{Place, State, Strand, back, chain_of, free, innermost, out, page_counts, pages_from, running, start, width}
use Rattle.cm_core.specs.Event.{Next, Strands, inside_of, opened, spawned, spawns}
use Rattle.cm_core.specs.Turn.{is_back, is_empty, is_filled, is_free, is_used}
use Rattle.cm_core.specs.Row.{Row, RunsTo, arrive_row, collect_row, crowded_row, deposit_row, early_collect_row, empty_row, fail_row, fetch_row, finish_row, first_spawn_row, full_row, instruction_row, last_arrive_row, last_park_row, least_empty, least_free, map_row, orphan_row, over_row, page_row, park_row, pop_row, row_result, resume_row, spawn_row, steal_row, stopped_row, unposted_row}
use Rattle.cm_core.specs.Valid.{Location, UnstolenAt, Valid, ValidIn, WorkerFits, at_worker, worker_weight}
use Rattle.cm_core.specs.Goes.{FreshFits, KeepsFit, NextFits, ParentFits, TaskGoes, WorkerGoes}
use Rattle.cm_core.proofs.ArriveLaw.{arrive_among_valid, arrive_last_valid}
use Rattle.cm_core.proofs.CollectLaw.{collect_joining, collect_running, resume_valid}
use Rattle.cm_core.proofs.OpenLaw.{counts_new, open_valid, own_length}
use Rattle.cm_core.proofs.ParkLaw.{park_among_valid, park_last_valid}
use Rattle.cm_core.proofs.PlaceLaw.{deposit_valid}
use Rattle.cm_core.proofs.RowLaw.{at_least}
use Rattle.cm_core.proofs.RunLaw.{alone_scopes, finish_valid, goes_valid, orphan_valid, page_valid}
use Rattle.cm_core.proofs.SpawnLaw.{pop_valid, spawn_valid}
use Rattle.cm_core.proofs.StealLaw.{steal_valid}
use Rattle.cm_core.proofs.SurplusLaw.{fetch_valid, map_valid}
use Rattle.cm_core.proofs.TableLaw.{put_self, total_same}

length_pages : (at count : ℕ) → length (pages_from at count) ≡ count
length_pages at zero = refl
length_pages at (suc count) = let a = length_pages (suc at) count in omega (arith, a)

-- ---- what the least numbers say
pub free_at : {Body Ended : Type 0} (s : State Body Ended) (n i : ℕ) → least_free s n ≡ Some i → (i < width) × (s.places n i ≡ free)
free_at {Ended = Ended} s n i q = let is = at_least (λ i. is_free (s.places n i)) width (Some i) q in (is.0, by (s.places n i) is.1)
  where
    by : (p : Place Ended) → is_free p ≡ true → p ≡ free
    by free e = refl
    by (out hole child) e = absurd (true≢false (sym e))
    by (back hole child o) e = absurd (true≢false (sym e))

pub empty_at : {Body Ended : Type 0} (s : State Body Ended) (n i : ℕ) → least_empty s n ≡ Some i → (i < width) × (s.surplus n i ≡ None)
empty_at s n i q = let is = at_least (λ i. is_empty (s.surplus n i)) width (Some i) q in (is.0, by (s.surplus n i) is.1)
  where
    by : (o : Option (List ℕ)) → is_empty o ≡ true → o ≡ None
    by None e = refl
    by (Some pages) e = absurd (true≢false (sym e))

module _ {Body : Type 0} (BodyFits : List ℕ → Body → Type 0) where
  pub parent_fits : (chain : ℕ → List ℕ) (k : ℕ) (ks : List ℕ) (parent child : Body) → ParentFits BodyFits (k ∷ ks) None parent child → BodyFits (k ∷ ks) parent × BodyFits (k ∷ []) child
  parent_fits chain k [] parent child f = absurd f
  parent_fits chain k (n ∷ ks) parent child f = f

  pub fresh_fits : (chain : ℕ → List ℕ) (scopes : List ℕ) (home : _) (pages : List ℕ) (k : ℕ) (inside : Body) → FreshFits BodyFits (page_counts chain scopes home) pages (Some k) inside
      → (length (chain_of chain (innermost scopes home)) ≤ k) × (k ≤ length pages) × BodyFits (k ∷ page_counts chain scopes home) inside
  fresh_fits chain [] home pages k inside f = f
  fresh_fits chain (n ∷ scopes) home pages k inside f = f

module _ {Body Ended : Type 0} (BodyFits : List ℕ → Body → Type 0) (B : ℕ) (strands : Strands Body Ended) (s : State Body Ended) (w : ℕ) (goes : WorkerGoes BodyFits B strands s w) where
  -- what the strand that runs does next fits
  pub next_fits : (t : Strand Body) (x : Next Body Ended) → RunsTo strands s w t x → NextFits BodyFits B (page_counts s.chain t.scopes t.home) (s.workers w).pages x
  next_fits t x r = subst (NextFits BodyFits B (page_counts s.chain t.scopes t.home) (s.workers w).pages) r.1
      (subst (TaskGoes BodyFits B strands s.chain (s.workers w).pages s.words) r.0 goes)

module _ {Body Ended : Type 0} (s : State Body Ended) (w : ℕ) where
  -- the strand that has opened a scope runs on
  pub opener_runs : (t : Strand Body) (k : ℕ) (b : Body) → ((opened s w t k b).workers w).task ≡ running (inside_of s.scopes t b)
  opener_runs t k b = ap (λ x. x.task) (put_self s.workers w (record (s.workers w) { task = running (inside_of s.scopes t b) }))

module _ {Body Ended : Type 0} {BodyFits : List ℕ → Body → Type 0} {P V : ℕ} {strands : Strands Body Ended} (keeps : KeepsFit BodyFits strands)
    {s : State Body Ended} {location : ℕ → Location} (valid : Valid BodyFits P V s location) (w : ℕ) (within : w < P) (B : ℕ) (goes : WorkerGoes BodyFits B strands s w) where
  -- a state in which a scope was opened
  pub opening_valid : (t : Strand Body) (k : ℕ) (inside parent child : Body) (hole : ℕ) → RunsTo strands s w t (spawns (Some k) inside parent child hole) → Valid BodyFits P V (opened s w t k inside) location
  opening_valid t k inside parent child hole r = open_valid valid w within t r.0 k inside h.0 h.1 h.2
    where
      h : (length (chain_of s.chain (innermost t.scopes t.home)) ≤ k) × (k ≤ length (s.workers w).pages) × BodyFits (k ∷ page_counts s.chain t.scopes t.home) inside
      h = fresh_fits BodyFits s.chain t.scopes t.home (s.workers w).pages k inside (next_fits BodyFits B strands s w goes t (spawns (Some k) inside parent child hole) r).0

  first_spawn : (t : Strand Body) (k : ℕ) (inside parent child : Body) (hole : ℕ) → RunsTo strands s w t (spawns (Some k) inside parent child hole)
      → ValidIn BodyFits P V (spawned (opened s w t k inside) w (inside_of s.scopes t inside) s.scopes 0 parent child hole)
  first_spawn t k inside parent child hole r = let f = next_fits BodyFits B strands s w goes t (spawns (Some k) inside parent child hole) r in
      let h = fresh_fits BodyFits s.chain t.scopes t.home (s.workers w).pages k inside f.0 in
      spawn_valid keeps (opening_valid t k inside parent child hole r) w within (inside_of s.scopes t inside) (opener_runs s w t k inside) s.scopes t.scopes refl 0 (omega arith)
      (ap (λ f. f 0) (put_self s.places s.scopes (λ i. free))) parent child hole
      (subst (λ l. BodyFits l parent) (sym (counts_new valid w within t r.0 k inside h.0 h.1 h.2)) f.1.0)
      (subst (λ k. BodyFits (k ∷ []) child) (sym (own_length valid w within t r.0 k inside h.0 h.1 h.2)) f.1.1)

  next_spawn : (t : Strand Body) (n : ℕ) (scopes : List ℕ) (i : ℕ) (inside parent child : Body) (hole : ℕ) → RunsTo strands s w t (spawns None inside parent child hole) → t.scopes ≡ n ∷ scopes → least_free s n ≡ Some i
      → ValidIn BodyFits P V (spawned s w t n i parent child hole)
  next_spawn t n scopes i inside parent child hole r at q = let z = free_at s n i q in
      let f = parent_fits BodyFits s.chain (length (s.chain n)) (page_counts s.chain scopes t.home) parent child
      (subst (λ l. ParentFits BodyFits (page_counts s.chain l t.home) None parent child) at (next_fits BodyFits B strands s w goes t (spawns None inside parent child hole) r).1) in
      spawn_valid keeps valid w within t r.0 n scopes at i z.0 z.1 parent child hole (subst (λ l. BodyFits (page_counts s.chain l t.home) parent) (sym at) f.0) f.1

  -- what each row leaves is valid
  pub row_valid : {v : ℕ} (r : Row strands s w v) → ValidIn BodyFits P V (row_result r).state
  row_valid (stopped_row a b) = (location, valid)
  row_valid (empty_row a b c) = (location, valid)
  row_valid {v = v} (steal_row t rest a b c) = steal_valid valid w within v t rest c a
  row_valid (full_row t n scopes a b c) = (location, valid)
  row_valid (map_row t n scopes slot a b c) = let z = empty_at s n slot c in map_valid valid w within keeps t n slot scopes a b z.0 z.1
  row_valid (instruction_row t b words a) = goes_valid valid w within t a.0 b words s.stopped (next_fits BodyFits B strands s w goes t _ a)
  row_valid (fail_row t b a) = goes_valid valid w within t a.0 b s.words true (next_fits BodyFits B strands s w goes t _ a)
  row_valid (page_row t page store a b) = page_valid valid w within t a.0 page store b
  row_valid (first_spawn_row t k inside parent child hole a) = first_spawn t k inside parent child hole a
  row_valid (spawn_row t n scopes i inside parent child hole a b c) = next_spawn t n scopes i inside parent child hole a b c
  row_valid (early_collect_row t n scopes i inside parent child hole filled number e a b c d f) =
      collect_running keeps valid w within t a.0 n i scopes b (at_least (λ i. is_back (s.places n i)) width (Some i) d).0 filled number e f
  row_valid (crowded_row t n scopes inside parent child hole a b c d) = (location, valid)
  row_valid (park_row t n scopes more a b c) = park_among_valid valid w within t a.0 n scopes b more c
  row_valid (last_park_row t n scopes a b c) = park_last_valid valid w within t a.0 n scopes b c
  row_valid (finish_row t e a b) = finish_valid valid w within t a.0 (alone_scopes s.chain t.scopes t.home (next_fits BodyFits B strands s w goes t _ a)) b e
  row_valid (pop_row t e h p rest hole child a b c d) = pop_valid keeps valid w within t a.0 (alone_scopes s.chain t.scopes t.home (next_fits BodyFits B strands s w goes t _ a)) h b p rest c e hole child d
  row_valid (orphan_row t e h a b c) = orphan_valid valid w within t a.0 (alone_scopes s.chain t.scopes t.home (next_fits BodyFits B strands s w goes t _ a)) h b c e
  row_valid (deposit_row h e hole child a b) = deposit_valid valid w within h e a hole child b
  row_valid (arrive_row n more a b) = arrive_among_valid valid w within n a more b
  row_valid (last_arrive_row n t a b c) = arrive_last_valid valid w within n a t c b
  row_valid (unposted_row n a b) = (location, valid)
  row_valid (fetch_row n slot pages a b c) = fetch_valid valid w within n slot a (at_least (λ i. is_filled (s.surplus n i)) width (Some slot) b).0 pages c
  row_valid (collect_row t n scopes i hole child e a b c d) = collect_joining keeps valid w within t a n scopes b i (at_least (λ i. is_used (s.places n i)) width (Some i) c).0 hole child e d
  row_valid (resume_row t n scopes a b c) = resume_valid keeps valid w within t a n scopes b
  row_valid (over_row e a) = (location, valid)

module _ {Body Ended : Type 0} (BodyFits : List ℕ → Body → Type 0) (P V : ℕ) (root : Body) (okay : BodyFits (0 ∷ []) root) where
  abbrev begun : State Body Ended
  begun = start V root

  pub start_valid : ValidIn BodyFits P V begun
  start_valid = (
    (λ n. at_worker 0),
    record {
      fits = fits;
      parked = λ n l. absurd (omega (arith, l));
      below = λ n l. absurd (omega (arith, l));
      begins = λ n l. absurd (omega (arith, l));
      short = λ n l. absurd (omega (arith, l));
      counts = λ n l. absurd (omega (arith, l));
      joined = λ n l. absurd (omega (arith, l));
      posts = λ n i l. absurd (omega (arith, l));
      conserved = λ h. let a = total_same P (λ w. worker_weight h (λ n. []) (begun.workers w)) (λ w. weigh h (pages_from (w * V) V)) (λ w l. weighs h w) in omega (arith, a);
      owners = λ n l. absurd (omega (arith, l));
      nested = λ m n l. absurd (omega (arith, l));
      unstolen = unstolen;
    },
  )
    where
      fits : (w : ℕ) → WorkerFits BodyFits V begun (λ n. at_worker 0) w (begun.workers w)
      fits zero = (
        record { begins = refl; whole = let a = length_pages (0 * V) V in omega (arith, a) },
        record { young = omega arith; place = refl; home = tt; owns = tt; okay = okay; all = λ m l. absurd (omega (arith, l)) },
        tt,
        tt,
      )
      fits (suc w) = (refl, refl, length_pages (suc w * V) V)

      weighs : (h : ℕ → ℕ) (w : ℕ) → worker_weight h (λ n. []) (begun.workers w) ≡ weigh h (pages_from (w * V) V)
      weighs h zero = omega arith
      weighs h (suc w) = omega arith

      unstolen : (w : ℕ) → UnstolenAt (λ n. 0) (begun.workers w).deque (begun.workers w).task
      unstolen zero = tt
      unstolen (suc w) = tt
