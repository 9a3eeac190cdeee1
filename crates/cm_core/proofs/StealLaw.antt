-- A steal keeps the state.
use Rattle.std.proofs.Common.{◌≡◌, ℕ, ◌<◌, ◌≢◌, List, [], ◌∷◌, ◌++◌, Option, Some, None, refl, sym, ap, ◌∙◌, subst, arith, length}
use Rattle.std.specs.Prelude.{⊤}
use Rattle.cm_core.specs.Table.{put}
use Rattle.cm_core.specs.State.{Home, State, Strand, Task, Worker, arriving, collecting, depositing, idle, leaving, mapping, over, running}
use Rattle.cm_core.specs.Event.{stolen}
use Rattle.cm_core.specs.Turn.{Oldest, behind, found, none, oldest}
use Rattle.cm_core.specs.Valid.{Above, AreActive, DequeFits, IsInside, Location, StrandFits, TaskFits, Unstolen, UnstolenAt, Valid, ValidIn, WorkerFits, arriving_bit, at_worker, worker_weight}
use Rattle.cm_core.proofs.BoardLaw.{IsAtWorker, number_of}
use Rattle.cm_core.proofs.FrameLaw.{Frame, joining_frame, phase_frame, strand_frame, task_frame}
use Rattle.cm_core.proofs.RunLaw.{arrives_as, fits_as, weighs_as}
use Rattle.cm_core.proofs.TableLaw.{at_put, put_other, put_self, total_same}

abbrev pub IsOldest : {Body : Type 0} → List (Strand Body) → Oldest Body → Type 0
IsOldest deque none = deque ≡ []
IsOldest deque (found t later) = deque ≡ later ++ t ∷ []

pub oldest_law : {Body : Type 0} (deque : List (Strand Body)) → IsOldest deque (oldest deque)
oldest_law [] = refl
oldest_law {Body = Body} (q ∷ deque) = by (oldest deque) (oldest_law deque)
  where
    by : (o : Oldest Body) → IsOldest deque o → IsOldest (q ∷ deque) (behind q o)
    by none e = ap (λ l. q ∷ l) e
    by (found t later) e = ap (λ l. q ∷ l) e

unstolen_cut : {Body : Type 0} (count : ℕ → ℕ) (c : ℕ) (scopes : List ℕ) (later : List (Strand Body)) (t : Strand Body) → Unstolen count c scopes (later ++ t ∷ []) → Unstolen count c scopes later
unstolen_cut count c scopes [] t z = tt
unstolen_cut count c scopes (q ∷ later) t z = (z.0, unstolen_cut count 2 q.scopes later t z.1)

above_inside : (home : Option Home) (scopes : List ℕ) → Above home scopes → IsInside scopes
above_inside None scopes a = absurd a
above_inside (Some h) [] a = absurd a
above_inside (Some h) (n ∷ scopes) a = tt

not_empty : {Body : Type 0} (later : List (Strand Body)) (t : Strand Body) → later ++ t ∷ [] ≡ [] → ⊥
not_empty [] t e = let a = ap length e in omega (arith, a)
not_empty (q ∷ later) t e = let a = ap length e in omega (arith, a)

module _ {Body Ended : Type 0} where
  module _ {BodyFits : List ℕ → Body → Type 0} {P V : ℕ} {s : State Body Ended} {location : ℕ → Location} (valid : Valid BodyFits P V s location) (w : ℕ) (within : w < P) (v : ℕ) where
    -- what is known of the oldest strand
    last_linked : (number : ℕ) (home : Option Home) (later : List (Strand Body)) (t : Strand Body) → DequeFits BodyFits s location v number home (later ++ t ∷ [])
        → (t.number < number) × StrandFits BodyFits s location (at_worker v) t × AreActive s.phase t.scopes × IsInside t.scopes
    last_linked number home [] t l = (l.1, l.2, l.3, above_inside home t.scopes l.0)
    last_linked number home (q ∷ later) t l = let r = last_linked q.number q.home later t l.4 in
        ((let a = r.0 in let b = l.1 in omega (arith, a, b)), r.1, r.2, r.3)

    module _ (t : Strand Body) (later : List (Strand Body)) (is : (s.workers v).deque ≡ later ++ t ∷ []) (e : (s.workers w).task ≡ idle) where
      abbrev pub robbed : Worker Body Ended
      robbed = record (s.workers v) { deque = later }

      abbrev pub thief : Worker Body Ended
      thief = record (put s.workers v robbed w) { task = mapping t }

      abbrev after : State Body Ended
      after = stolen s w v t later

      abbrev pub location' : ℕ → Location
      location' = put location t.number (at_worker w)

      frame : Frame s after (λ k. ⊤) (λ k. ⊤)
      frame = record { strands = omega arith; scopes = omega arith; chain = λ n l. refl; owner = λ n l. refl; outer = λ n l. refl; phase = λ n l q. refl; live = λ n l a. a; fresh = λ n c l k q. absurd (omega (arith, l, k)); places = λ n i c hole l q e. e }

      z : TaskFits BodyFits V s location w (s.workers w).pages (s.workers w).store (s.workers w).deque idle
      z = fits_as valid w within idle e

      apart : v ≢ w
      apart d = not_empty later t (sym is ∙ ap (λ u. (s.workers u).deque) d ∙ z.1)

      rest_linked : (number : ℕ) (home : Option Home) (later : List (Strand Body)) → DequeFits BodyFits s location v number home (later ++ t ∷ []) → DequeFits BodyFits after location' v number home later
      rest_linked number home [] l = tt
      rest_linked number home (q ∷ later) l = let r = last_linked q.number q.home later t l.4 in (
        l.0,
        l.1,
        strand_frame frame BodyFits V location location' (at_worker v) (at_worker v) q tt
            (put_other location t.number (at_worker w) q.number (λ d. let a = r.0 in omega (arith, a, d)) ∙ l.2.place) l.2,
        l.3,
        rest_linked q.number q.home later l.4,
      )

      -- what the victim's task tells of the strand, and what it keeps
      pub record Robbed (x : Task Body Ended) : Type 0 where
        pub sits : StrandFits BodyFits s location (at_worker v) t
        pub opened : AreActive s.phase t.scopes
        pub inside : IsInside t.scopes
        pub fits : TaskFits BodyFits V after location' v (s.workers v).pages (s.workers v).store later x
        pub unstolen : UnstolenAt s.count later x

      empty : {A : Type 0} → (s.workers v).deque ≡ [] → A
      empty d = absurd (not_empty later t (sym is ∙ d))

      moved : (p : Strand Body) → t.number < p.number → StrandFits BodyFits s location (at_worker v) p → StrandFits BodyFits after location' (at_worker v) p
      moved p l y = strand_frame frame BodyFits V location location' (at_worker v) (at_worker v) p tt
          (put_other location t.number (at_worker w) p.number (λ d. omega (arith, l, d)) ∙ y.place) y

      robs : (x : Task Body Ended) → TaskFits BodyFits V s location v (s.workers v).pages (s.workers v).store (s.workers v).deque x → UnstolenAt s.count (s.workers v).deque x → Robbed x
      robs idle y q = empty y.1
      robs (mapping p) y q = empty y.1
      robs (depositing h d) y q = empty y.1
      robs (arriving n) y q = empty y.1
      robs (leaving n) y q = empty y.1
      robs (over d) y q = empty y.1
      robs (running p) y q = let l = subst (DequeFits BodyFits s location v p.number p.home) is y.3 in let r = last_linked p.number p.home later t l in
          record {
            sits = r.1;
            opened = r.2;
            inside = r.3;
            fits = (y.0, moved p r.0 y.1, y.2, rest_linked p.number p.home later l);
            unstolen = unstolen_cut s.count 1 p.scopes later t (subst (Unstolen s.count 1 p.scopes) is q);
          }
      robs (collecting p) y q = let l = subst (DequeFits BodyFits s location v p.number p.home) is y.3 in let r = last_linked p.number p.home later t l in
          record {
            sits = r.1;
            opened = r.2;
            inside = r.3;
            fits = (y.0, moved p r.0 y.1, joining_frame frame p.number p.scopes p.home tt y.1.owns y.2, rest_linked p.number p.home later l);
            unstolen = unstolen_cut s.count 0 p.scopes later t (subst (Unstolen s.count 0 p.scopes) is q);
          }

      robbing : Robbed (s.workers v).task
      robbing = robs (s.workers v).task (valid.fits v) (valid.unstolen v)

      as_before : put s.workers v robbed w ≡ s.workers w
      as_before = put_other s.workers v robbed w (λ d. apart (sym d))

      -- a claim of each worker
      each : (Q : ℕ → Worker Body Ended → Type 0) → Q w (record (s.workers w) { task = mapping t }) → Q v robbed → ((u : ℕ) → u ≢ v → Q u (s.workers u)) → (u : ℕ) → Q u (after.workers u)
      each Q one two others = at_put Q (put s.workers v robbed) w thief (subst (λ x. Q w (record x { task = mapping t })) (sym as_before) one)
          (λ u other. at_put Q s.workers v robbed two others u)

      elsewhere : (u k : ℕ) → u ≢ v → location k ≡ at_worker u → location' k ≡ at_worker u
      elsewhere u k other at = put_other location t.number (at_worker w) k (λ d. other (ap number_of (sym at ∙ ap location d ∙ robbing.sits.place))) ∙ at

      pub steal_valid : ValidIn BodyFits P V (stolen s w v t later)
      steal_valid = (
        location',
        record {
          fits = each (λ u x. WorkerFits BodyFits V after location' u x)
              (z.0, z.1, z.2, strand_frame frame BodyFits V location location' (at_worker v) (at_worker w) t tt (put_self location t.number (at_worker w)) robbing.sits, robbing.opened, robbing.inside)
              robbing.fits
              (λ u other. task_frame frame BodyFits V location location' u (s.workers u).pages (s.workers u).store (s.workers u).deque (s.workers u).task
              (λ k l at. (tt, tt, elsewhere u k other at)) (valid.fits u));
          parked = λ n l. phase_frame frame BodyFits V location location' n (s.phase n)
              (λ k less at. (tt, tt, put_other location t.number (at_worker w) k (λ d. subst IsAtWorker (sym robbing.sits.place ∙ ap location (sym d) ∙ at) tt) ∙ at)) (valid.parked n l);
          below = valid.below;
          begins = valid.begins;
          short = valid.short;
          counts = λ n l. let a = valid.counts n l in
              let b = total_same P (λ u. arriving_bit n (after.workers u).task) (λ u. arriving_bit n (s.workers u).task)
              (λ u less. each (λ u x. arriving_bit n x.task ≡ arriving_bit n (s.workers u).task) (sym (arrives_as valid w within idle e n)) refl (λ u other. refl) u) in
              omega (arith, a, b);
          joined = valid.joined;
          posts = valid.posts;
          conserved = λ h. let a = valid.conserved h in
              let b = total_same P (λ u. worker_weight h s.chain (after.workers u)) (λ u. worker_weight h s.chain (s.workers u))
              (λ u less. each (λ u x. worker_weight h s.chain x ≡ worker_weight h s.chain (s.workers u))
              (sym (weighs_as valid w within idle e h)) refl (λ u other. refl) u) in
              omega (arith, a, b);
          owners = valid.owners;
          nested = valid.nested;
          unstolen = each (λ u x. UnstolenAt s.count x.deque x.task) tt robbing.unstolen (λ u other. valid.unstolen u);
        },
      )
