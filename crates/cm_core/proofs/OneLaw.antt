-- Turns that change one worker and no table of the scopes.
use Rattle.std.proofs.Common.{◌≡◌, ℕ, ◌+◌, ◌<◌, Bool, List, refl, arith}
use Rattle.std.specs.Prelude.{⊤}
use Rattle.cm_core.specs.Table.{put, total}
use Rattle.cm_core.specs.State.{State, Worker}
use Rattle.cm_core.specs.Valid.{Location, UnstolenAt, Valid, WorkerFits, arriving_bit, worker_weight}
use Rattle.cm_core.proofs.FrameLaw.{Frame, phase_frame, task_frame}
use Rattle.cm_core.proofs.TableLaw.{at_put, total_put}

module _ {Body Ended : Type 0} {BodyFits : List ℕ → Body → Type 0} {P V : ℕ} {s : State Body Ended} {location : ℕ → Location} (valid : Valid BodyFits P V s location) (w : ℕ) (within : w < P) where
  -- the sum of what arrives, where one worker changes
  pub arrivals : (me : Worker Body Ended) (n : ℕ) → total P (λ v. arriving_bit n (put s.workers w me v).task) + arriving_bit n (s.workers w).task
      ≡ total P (λ v. arriving_bit n (s.workers v).task) + arriving_bit n me.task
  arrivals me n = total_put P w (λ x. arriving_bit n x.task) s.workers me within

  pub weights : (chain : ℕ → List ℕ) (me : Worker Body Ended) (h : ℕ → ℕ) → total P (λ v. worker_weight h chain (put s.workers w me v)) + worker_weight h chain (s.workers w)
      ≡ total P (λ v. worker_weight h chain (s.workers v)) + worker_weight h chain me
  weights chain me h = total_put P w (worker_weight h chain) s.workers me within

  module _ (words : ℕ → ℕ) (stopped : Bool) (me : Worker Body Ended) where
    abbrev pub after : State Body Ended
    after = record s { words = words; stopped = stopped; workers = put s.workers w me }

    frame : Frame s after (λ k. ⊤) (λ k. ⊤)
    frame = record { strands = omega arith; scopes = omega arith; chain = λ n l. refl; owner = λ n l. refl; outer = λ n l. refl; phase = λ n l q. refl; live = λ n l a. a; fresh = λ n c l k q. absurd (omega (arith, l, k)); places = λ n i c hole l q e. e }

    pub one_valid : WorkerFits BodyFits V s location w me
        → ((n : ℕ) → arriving_bit n me.task ≡ arriving_bit n (s.workers w).task)
        → ((h : ℕ → ℕ) → worker_weight h s.chain me ≡ worker_weight h s.chain (s.workers w))
        → UnstolenAt s.count me.deque me.task
        → Valid BodyFits P V after location
    one_valid fits arrives weighs unstolen = record {
      fits = at_put (λ v x. WorkerFits BodyFits V after location v x) s.workers w me (moved w me fits) (λ v other. moved v (s.workers v) (valid.fits v));
      parked = λ n l. phase_frame frame BodyFits V location location n (s.phase n) (λ k less e. (tt, tt, e)) (valid.parked n l);
      below = valid.below;
      begins = valid.begins;
      short = valid.short;
      counts = λ n l. let a = valid.counts n l in let b = arrivals me n in let c = arrives n in omega (arith, a, b, c);
      joined = valid.joined;
      posts = valid.posts;
      conserved = λ h. let a = valid.conserved h in let b = weights s.chain me h in let c = weighs h in omega (arith, a, b, c);
      nested = valid.nested;
      owners = valid.owners;
      unstolen = at_put (λ v x. UnstolenAt s.count x.deque x.task) s.workers w me unstolen (λ v other. valid.unstolen v);
    }
      where
        moved : (v : ℕ) (x : Worker Body Ended) → WorkerFits BodyFits V s location v x → WorkerFits BodyFits V after location v x
        moved v x z = task_frame frame BodyFits V location location v x.pages x.store x.deque x.task (λ k less e. (tt, tt, e)) z
