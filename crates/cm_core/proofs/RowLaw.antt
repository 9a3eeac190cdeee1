-- Each turn of a valid state is a row of the table.
use Rattle.std.proofs.Common.{◌≡◌, ℕ, zero, suc, ◌<◌, ◌≤◌, Bool, true, false, if◌then◌else◌, List, [], ◌∷◌, Option, Some, None, refl, sym, ap, ◌∙◌, subst, arith, length, true≢false}
use Rattle.cm_core.specs.Table.{least, total}
use Rattle.cm_core.specs.State.{Home, Phase, Place, State, Strand, Task, Worker, active, arriving, back, closed, collecting, depositing, free, idle, joining, leaving, mapping, out, over, page_counts, running, suspended, width}
use Rattle.cm_core.specs.Event.{Next, Strands, ends, fails, faults, goes, spawns, waits}
use Rattle.cm_core.specs.Turn.{NotYet, Oldest, Stopped, Turned, add_page, arrive, arrive_last, collect_at, collect_by, collect_in, crowded, deposit, end_in, end_of, fetch_at, fetch_by, found, is_back, is_filled, is_used, map_by, map_in, none, oldest, park, park_in, pop_at, run_next, spawn_by, spawn_in, steal_from, turn, turn_of, turned}
use Rattle.cm_core.specs.Row.{IsAt, Row, arrive_row, collect_row, crowded_row, deposit_row, early_collect_row, empty_row, fail_row, fetch_row, finish_row, first_spawn_row, full_row, instruction_row, last_arrive_row, last_park_row, least_back, least_empty, least_filled, least_free, least_used, map_row, orphan_row, over_row, page_row, park_row, pop_row, row_result, resume_row, spawn_row, steal_row, stopped_row, unposted_row}
use Rattle.cm_core.specs.Valid.{AreActive, HomeFits, IsInside, IsJoined, IsJoining, IsOut, IsWithin, Location, Owns, OwnsAll, TaskFits, Valid, active_bit, arriving_bit, at_worker, out_bit, outstanding}
use Rattle.cm_core.specs.Goes.{NextFits, ParentFits, TaskGoes, WorkerGoes}
use Rattle.cm_core.proofs.PlaceLaw.{arriving_self}
use Rattle.cm_core.proofs.RunLaw.{fits_as}
use Rattle.cm_core.proofs.StealLaw.{IsOldest, oldest_law}
use Rattle.cm_core.proofs.TableLaw.{IsLeastAt, at_most_total, least_law}

-- the least number, where there is one
pub at_least : (test : ℕ → Bool) (n : ℕ) (o : Option ℕ) → least test n ≡ o → IsLeastAt test n o
at_least test n o e = subst (IsLeastAt test n) e (least_law test n)

module _ {Body Ended : Type 0} {BodyFits : List ℕ → Body → Type 0} {P V : ℕ} (strands : Strands Body Ended) {s : State Body Ended} {location : ℕ → Location} (valid : Valid BodyFits P V s location)
    (w : ℕ) (within : w < P) (v : ℕ) where
  abbrev me : Worker Body Ended
  me = s.workers w

  abbrev Found : Turned Body Ended → Type 0
  Found t = (r : Row strands s w v) × (t ≡ row_result r)

  steals : IsAt s w idle → (stop : Bool) → s.stopped ≡ stop → (o : Oldest Body) → IsOldest (s.workers v).deque o → Found (if stop then turned s (NotYet Stopped) else steal_from s w v o)
  steals e true q o d = (stopped_row e q, refl)
  steals e false q none d = (empty_row e q d, refl)
  steals e false q (found t rest) d = (steal_row t rest e q d, refl)

  fetches : (n : ℕ) → IsAt s w (leaving n) → (o : Option ℕ) → least_filled s n ≡ o → Found (fetch_by s w n o)
  fetches n e None q = (unposted_row n e q, refl)
  fetches n e (Some i) q = by (s.surplus n i) refl
    where
      by : (x : Option (List ℕ)) → s.surplus n i ≡ x → Found (fetch_at s w n i x)
      by None d = absurd (true≢false (sym (at_least (λ i. is_filled (s.surplus n i)) width (Some i) q).1 ∙ ap is_filled d))
      by (Some pages) d = (fetch_row n i pages e q d, refl)

  maps : (t : Strand Body) → IsAt s w (mapping t) → (scopes : List ℕ) → t.scopes ≡ scopes → Found (map_in strands s w t scopes)
  maps t e [] at = absurd (subst IsInside at (fits_as valid w within (mapping t) e).5)
  maps t e (n ∷ scopes) at = by (least_empty s n) refl
    where
      by : (o : Option ℕ) → least_empty s n ≡ o → Found (map_by strands s w t n o)
      by None q = (full_row t n scopes e at q, refl)
      by (Some i) q = (map_row t n scopes i e at q, refl)

  not_out : {A : Type 0} (p : Place Ended) (hole child : ℕ) → p ≡ out hole child → out_bit p ≡ 0 → A
  not_out p hole child d z = absurd (let a = ap out_bit d in omega (arith, a, z))

  deposits : (h : Home) (e : Ended) → IsAt s w (depositing h e) → (p : Place Ended) → s.places h.scope h.place ≡ p → Found (deposit s w h e p)
  deposits h e a p d = by p d (subst (λ p. p ≡ out o.0 z.0) d o.1)
    where
      z : (child : ℕ) × (child < s.strands) × IsOut s child h × (location child ≡ at_worker w) × OwnsAll s child []
      z = (fits_as valid w within (depositing h e) a).2

      o : (hole : ℕ) × (s.places h.scope h.place ≡ out hole z.0)
      o = z.2.2

      by : (p : Place Ended) → s.places h.scope h.place ≡ p → p ≡ out o.0 z.0 → Found (deposit s w h e p)
      by free d q = not_out free o.0 z.0 q refl
      by (out hole child) d q = (deposit_row h e hole child a d, refl)
      by (back hole child x) d q = not_out (back hole child x) o.0 z.0 q refl

  arrives : (n : ℕ) → IsAt s w (arriving n) → (k : ℕ) → s.count n ≡ k → Found (arrive s w n k)
  arrives n e k d = by k d
    where
      z : TaskFits BodyFits V s location w me.pages me.store me.deque (arriving n)
      z = fits_as valid w within (arriving n) e

      one : suc (active_bit (s.phase n)) ≤ s.count n
      one = let a = valid.counts n z.2 in let b = at_most_total P w (λ v. arriving_bit n (s.workers v).task) within in
          let c = ap (arriving_bit n) e in let f = arriving_self Body Ended n in omega (arith, a, b, c, f)

      last : (g : Phase Body) → s.phase n ≡ g → s.count n ≡ 1 → Found (arrive_last s w n g)
      last active g d = absurd (let a = ap active_bit g in omega (arith, a, d, one))
      last (suspended t) g d = (last_arrive_row n t e d g, refl)
      last joining g d = absurd (let a = valid.joined n z.2 (subst IsJoined (sym g) tt) in omega (arith, a, d))
      last closed g d = absurd (let a = valid.joined n z.2 (subst IsJoined (sym g) tt) in omega (arith, a, d))

      by : (k : ℕ) → s.count n ≡ k → Found (arrive s w n k)
      by zero d = absurd (omega (arith, one, d))
      by (suc zero) d = last (s.phase n) refl d
      by (suc (suc more)) d = (arrive_row n more e d, refl)

  -- an answer that is there is collected
  collects_at : (t : Strand Body) (as_task : Strand Body → Task Body Ended) (n i : ℕ) → ((hole child : ℕ) (e : Ended) → s.places n i ≡ back hole child e → Found (collect_at strands s w t as_task n i (back hole child e)))
      → is_back (s.places n i) ≡ true → (p : Place Ended) → s.places n i ≡ p → Found (collect_at strands s w t as_task n i p)
  collects_at t as_task n i then_ e free d = absurd (true≢false (sym e ∙ ap is_back d))
  collects_at t as_task n i then_ e (out hole c) d = absurd (true≢false (sym e ∙ ap is_back d))
  collects_at t as_task n i then_ e (back hole c x) d = then_ hole c x d

  -- a scope that collects waits for nobody
  used_back : (p : Place Ended) → is_used p ≡ true → out_bit p ≡ 0 → is_back p ≡ true
  used_back free e z = absurd (true≢false (sym e))
  used_back (out hole c) e z = absurd (omega (arith, z))
  used_back (back hole c d) e z = refl

  collects : (t : Strand Body) → IsAt s w (collecting t) → (scopes : List ℕ) → t.scopes ≡ scopes → IsJoining s.phase scopes → Found (collect_in strands s w t scopes)
  collects t e [] at g = absurd g
  collects t e (n ∷ scopes) at g = by (least_used s n) refl
    where
      by : (o : Option ℕ) → least_used s n ≡ o → Found (collect_by strands s w t n scopes o)
      by None q = (resume_row t n scopes e at q, refl)
      by (Some i) q = collects_at t collecting n i (λ hole child x d. (collect_row t n scopes i hole child x e at q d, refl)) (used_back (s.places n i) is.1 (omega (arith, a, b, c))) (s.places n i) refl
        where
          is : (i < width) × (is_used (s.places n i) ≡ true)
          is = at_least (λ i. is_used (s.places n i)) width (Some i) q

          there : n < s.scopes
          there = (subst (λ l. Owns s.scopes s.owner s.outer t.number l t.home) at (fits_as valid w within (collecting t) e).1.owns).0

          a : s.count n ≡ outstanding P s n
          a = valid.counts n there

          b : s.count n ≡ 0
          b = valid.joined n there (subst IsJoined (sym g.0) tt)

          c : out_bit (s.places n i) ≤ total width (λ j. out_bit (s.places n j))
          c = at_most_total width i (λ j. out_bit (s.places n j)) is.0

  module _ (t : Strand Body) (e : me.task ≡ running t) where
    z : TaskFits BodyFits V s location w me.pages me.store me.deque (running t)
    z = fits_as valid w within (running t) e

    parks : strands.next t.body me.pages s.words ≡ waits → (scopes : List ℕ) → t.scopes ≡ scopes → IsWithin (page_counts s.chain scopes t.home) → Found (park_in s w t scopes)
    parks x [] at i = absurd i
    parks x (n ∷ scopes) at i = by (s.count n) refl
      where
        by : (k : ℕ) → s.count n ≡ k → Found (park s w t n k)
        by zero d = absurd (let o = subst (λ l. Owns s.scopes s.owner s.outer t.number l t.home) at z.1.owns in
            let a = valid.counts n o.0 in let b = ap active_bit (subst (AreActive s.phase) at z.2).0 in omega (arith, a, b, d))
        by (suc zero) d = (last_park_row t n scopes (e, x) at d, refl)
        by (suc (suc more)) d = (park_row t n scopes more (e, x) at d, refl)

    pages_left : strands.next t.body me.pages s.words ≡ faults → length me.pages < V → (store : List ℕ) → me.store ≡ store → Found (add_page s w store)
    pages_left x less [] d = absurd (let a = z.0.whole in let b = ap length d in omega (arith, a, b, less))
    pages_left x less (page ∷ store) d = (page_row t page store (e, x) d, refl)

    ended : (d : Ended) → strands.next t.body me.pages s.words ≡ ends d → (home : Option Home) → t.home ≡ home → Found (end_of strands s w home d)
    ended d x None at = (finish_row t d (e, x) at, refl)
    ended d x (Some h) at = by me.deque refl
      where
        o : IsOut s t.number h
        o = subst (HomeFits s t.number) at z.1.home

        pops : (p : Strand Body) (rest : List (Strand Body)) → me.deque ≡ p ∷ rest → (y : Place Ended) → s.places h.scope h.place ≡ y → y ≡ out o.2.0 t.number → Found (pop_at strands s w h d p rest y)
        pops p rest q free f k = not_out free o.2.0 t.number k refl
        pops p rest q (out hole child) f k = (pop_row t d h p rest hole child (e, x) at q f, refl)
        pops p rest q (back hole child y) f k = not_out (back hole child y) o.2.0 t.number k refl

        by : (deque : List (Strand Body)) → me.deque ≡ deque → Found (end_in strands s w h d deque)
        by [] q = (orphan_row t d h (e, x) at q, refl)
        by (p ∷ rest) q = pops p rest q (s.places h.scope h.place) refl o.2.1

    spawns_in : (inside parent child : Body) (hole : ℕ) → strands.next t.body me.pages s.words ≡ spawns None inside parent child hole → (scopes : List ℕ) → t.scopes ≡ scopes
        → ParentFits BodyFits (page_counts s.chain scopes t.home) None parent child → Found (spawn_in strands s w t scopes parent child hole)
    spawns_in inside parent child hole x [] at f = absurd f
    spawns_in inside parent child hole x (n ∷ scopes) at f = by (least_free s n) refl
      where
        full : least_free s n ≡ None → (o : Option ℕ) → least_back s n ≡ o → Found (crowded strands s w t n o)
        full no_free None q = (crowded_row t n scopes inside parent child hole (e, x) at no_free q, refl)
        full no_free (Some i) q = collects_at t running n i (λ filled number y d. (early_collect_row t n scopes i inside parent child hole filled number y (e, x) at no_free q d, refl))
            (at_least (λ i. is_back (s.places n i)) width (Some i) q).1 (s.places n i) refl

        by : (o : Option ℕ) → least_free s n ≡ o → Found (spawn_by strands s w t n parent child hole o)
        by None q = full q (least_back s n) refl
        by (Some i) q = (spawn_row t n scopes i inside parent child hole (e, x) at q, refl)

    runs : {B : ℕ} → B ≤ V → (x : Next Body Ended) → strands.next t.body me.pages s.words ≡ x → NextFits BodyFits B (page_counts s.chain t.scopes t.home) me.pages x → Found (run_next strands s w t x)
    runs small (goes b words) d f = (instruction_row t b words (e, d), refl)
    runs small (fails b) d f = (fail_row t b (e, d), refl)
    runs small faults d f = pages_left d (omega (arith, small, f)) me.store refl
    runs small (spawns None inside parent child hole) d f = spawns_in inside parent child hole d t.scopes refl f.1
    runs small (spawns (Some k) inside parent child hole) d f = (first_spawn_row t k inside parent child hole (e, d), refl)
    runs small waits d f = parks d t.scopes refl f
    runs small (ends y) d f = ended y d t.home refl

  -- each turn is a row, and no worker is at a loss but one with which the root has ended
  pub row_of : {B : ℕ} → B ≤ V → WorkerGoes BodyFits B strands s w → Found (turn strands s w v)
  row_of {B = B} small = by me.task refl
    where
      by : (x : Task Body Ended) → me.task ≡ x → TaskGoes BodyFits B strands s.chain me.pages s.words x → Found (turn_of strands s w v x)
      by idle e f = steals e s.stopped refl (oldest (s.workers v).deque) (oldest_law (s.workers v).deque)
      by (mapping t) e f = maps t e t.scopes refl
      by (running t) e f = runs t e small (strands.next t.body me.pages s.words) refl f
      by (depositing h d) e f = deposits h d e (s.places h.scope h.place) refl
      by (arriving n) e f = arrives n e (s.count n) refl
      by (leaving n) e f = fetches n e (least_filled s n) refl
      by (collecting t) e f = collects t e t.scopes refl (fits_as valid w within (collecting t) e).2
      by (over d) e f = (over_row d e, refl)
