-- An arrival keeps the state.
use Rattle.std.proofs.Common.{◌≡◌, ℕ, suc, ◌<◌, ◌≤◌, ◌≢◌, List, [], ◌∷◌, Some, refl, sym, ap, ◌∙◌, subst, arith, length, take, drop, length-append, length-drop, length-take-le}
use Rattle.std.specs.Prelude.{⊤}
use Rattle.cm_core.specs.Table.{put, total, weigh}
use Rattle.cm_core.specs.State.{Phase, State, Strand, Worker, active, arriving, chain_of, collecting, innermost, joining, out, suspended, width}
use Rattle.cm_core.specs.Event.{arrived_among, arrived_last, cut, left}
use Rattle.cm_core.specs.Valid.{DequeFits, IsFront, IsJoining, IsLive, IsSuspended, Location, Owns, PhaseFits, StrandFits, TaskFits, Unstolen, UnstolenAt, Valid, ValidIn, active_bit, arriving_bit, at_scope, at_worker, out_bit, outstanding, own_weight}
use Rattle.cm_core.proofs.BoardLaw.{IsAtWorker, board_valid, frame_of, lives_put}
use Rattle.cm_core.proofs.FrameLaw.{Frame, phase_frame, strand_frame}
use Rattle.cm_core.proofs.OneLaw.{arrivals}
use Rattle.cm_core.proofs.PlaceLaw.{arriving_other, arriving_self, nothing_behind}
use Rattle.cm_core.proofs.RunLaw.{arrives_as, fits_as, weighs_as}
use Rattle.cm_core.proofs.TableLaw.{at_most_total, front_length, front_self, put_other, put_self, sum_append, take_front}
use Rattle.cm_core.proofs.UnstolenLaw.{AllBelow, IsCounted, active_put, awaits, has_few, tail_below, unstolen_frame}

module _ {Body Ended : Type 0} {BodyFits : List ℕ → Body → Type 0} {P V : ℕ} where
  module _ {s : State Body Ended} {location : ℕ → Location} (valid : Valid BodyFits P V s location) (w : ℕ) (within : w < P) where
    abbrev me : Worker Body Ended
    me = s.workers w

    module _ (n : ℕ) (e : me.task ≡ arriving n) where
      z : TaskFits BodyFits V s location w me.pages me.store me.deque (arriving n)
      z = fits_as valid w within (arriving n) e

      there : n < s.scopes
      there = z.2

      -- this worker is one of those that arrive
      one_arrives : 1 ≤ total P (λ v. arriving_bit n (s.workers v).task)
      one_arrives = let a = at_most_total P w (λ v. arriving_bit n (s.workers v).task) within in
          let b = arrives_as valid w within (arriving n) e n in let c = arriving_self Body Ended n in omega (arith, a, b, c)

      pub counted : s.count n ≡ outstanding P s n
      counted = valid.counts n there

      -- no strand with a worker counts on this scope
      not_held : (m : ℕ) → 2 ≤ s.count n → IsCounted s m → m ≢ n
      not_held m more (has_few l) d = let a = ap s.count d in omega (arith, a, l, more)
      not_held m more (awaits two g i c hole l p) d =
          let a = ap s.count (sym d) in
          let b = ap (active_bit) (subst (λ m. s.phase m ≡ active) d g) in
          let f = at_most_total width i (λ j. out_bit (s.places n j)) l in
          let j = ap (out_bit) (subst (λ m. s.places m i ≡ out hole c) d p) in
          omega (arith, a, two, b, f, j, counted, one_arrives)

      unstolen_more : (c : ℕ) → 2 ≤ s.count n → (v : ℕ) → v ≢ w → UnstolenAt (put s.count n c) (s.workers v).deque (s.workers v).task
      unstolen_more c more v other = unstolen_frame valid (λ k. ⊤) (put s.count n c)
          (λ m l r held. put_other s.count n c m (not_held m more held))
          v (s.workers v).pages (s.workers v).store (s.workers v).deque (s.workers v).task (λ k e. tt) (valid.fits v) (valid.unstolen v)

      -- the place where nobody else arrives
      module _ (now : Worker Body Ended) (c : ℕ) (g : Phase Body) (location' : ℕ → Location) where
        abbrev arrived : State Body Ended
        arrived = record s { workers = put s.workers w now; count = put s.count n c; phase = put s.phase n g }

        one_less : active_bit g ≡ active_bit (s.phase n) → arriving_bit n now.task ≡ 0 → s.count n ≡ suc c → put s.count n c n ≡ outstanding P arrived n
        one_less alike quietly found =
            let b = arrivals valid w within now n in
            let d = arrives_as valid w within (arriving n) e n in let f = arriving_self Body Ended n in
            let j = ap (active_bit) (put_self s.phase n g) in let k = put_self s.count n c in
            omega (arith, counted, b, d, f, j, k, found, alike, quietly)

        quietly_arrives : ((m : ℕ) → arriving_bit m now.task ≡ 0) → (m : ℕ) → m ≢ n → arriving_bit m now.task ≡ arriving_bit m me.task
        quietly_arrives new m other = new m ∙ sym (arrives_as valid w within (arriving n) e m ∙ arriving_other Body Ended n m other)

      -- others have still to arrive
      pub arrive_among_valid : (more : ℕ) → s.count n ≡ suc (suc more) → ValidIn BodyFits P V (arrived_among s w n (suc more))
      arrive_among_valid more found = (
        location,
        board_valid valid w within s.words s.stopped s.strands now (put s.count n (suc more)) s.places s.surplus s.phase location n
            (record {
              strands = omega arith;
              there = there;
              counted = λ m other. put_other s.count n (suc more) m other;
              placed = λ m other. refl;
              posted = λ m other. refl;
              phases = λ m other. refl;
              sites = λ c l q. refl;
              alive = λ a. a;
              stays = λ m l a f. (valid.nested m n l a f).0;
              waits = λ m i hole l a e. e;
              phase_at = λ q. refl;
              places_at = λ j c hole q e. e;
              arrives = λ m other. sym (arrives_as valid w within (arriving n) e m ∙ arriving_other Body Ended n m other);
              unstolen = unstolen_more (suc more) (omega (arith, found));
            })
            (record {
              fits = (
                refl,
                z.1,
                there,
                let a = length-append me.store (drop k me.pages) in let b = length-drop k me.pages in let c = z.0.whole in
                    let d = front_length (s.chain n) me.pages z.0.begins in omega (arith, a, b, c, d),
              );
              parked = phase_frame
                  (frame_of valid w within s.words s.stopped s.strands now (put s.count n (suc more)) s.places s.surplus s.phase location n
                  (λ k. ⊤) (λ k. ⊤) (omega arith) (λ m l q. refl) (λ m l a. a) (λ m j c hole l q e. e)) BodyFits V location location n (s.phase n) (λ k less at. (tt, tt, at)) (valid.parked n there);
              counts =
                  let b = arrivals valid w within now n in
                  let d = arrives_as valid w within (arriving n) e n in let f = arriving_self Body Ended n in
                  let k = put_self s.count n (suc more) in omega (arith, counted, b, d, f, k, found);
              joined = λ j. absurd (let a = valid.joined n there j in omega (arith, a, found));
              posts = λ i. valid.posts n i there;
              conserved = λ h. let a = weighs_as valid w within (arriving n) e h in let d = sum_append h me.store (drop k me.pages) in omega (arith, a, d);
              unstolen = tt;
            }),
      )
        where
          k : ℕ
          k = length (s.chain n)

          now : Worker Body Ended
          now = left me n (length (s.chain n))

      -- the last to arrive takes the parked strand
      module _ (t : Strand Body) (lies : s.phase n ≡ suspended t) (found : s.count n ≡ 1) where
        parked : StrandFits BodyFits s location (at_scope n) t × IsSuspended s.phase n t.scopes
        parked = subst (PhaseFits BodyFits s location n) lies (valid.parked n there)

        last_of : (scopes : List ℕ) → t.scopes ≡ scopes → IsSuspended s.phase n scopes → ValidIn BodyFits P V (arrived_last s w n t)
        last_of [] at o = absurd o
        last_of (m ∷ scopes) at o = (
          location',
          board_valid valid w within s.words s.stopped s.strands now (put s.count n 0) s.places s.surplus (put s.phase n joining) location' n
              (record {
                strands = omega arith;
                there = there;
                counted = λ m other. put_other s.count n 0 m other;
                placed = λ m other. refl;
                posted = λ m other. refl;
                phases = λ m other. put_other s.phase n joining m other;
                sites = λ c l q. put_other location t.number (at_worker w) c (λ d. q.1 (ap location d ∙ parked.0.place));
                alive = λ a. was;
                stays = λ m l a f. subst (IsLive) (sym (put_self s.phase n joining)) tt;
                waits = λ m i hole l a e. e;
                phase_at = λ q. absurd (q.1 owned);
                places_at = λ j c hole q e. e;
                arrives = quietly_arrives now 0 joining location' (λ m. refl);
                unstolen = λ v other. unstolen_frame valid (λ k. location k ≡ at_worker v) (put s.count n 0)
                    (λ m l r held. put_other s.count n 0 m (λ d. subst IsAtWorker (sym r ∙ ap (λ m. location (s.owner m)) d ∙ owned) tt))
                    v (s.workers v).pages (s.workers v).store (s.workers v).deque (s.workers v).task (λ k e. e) (valid.fits v) (valid.unstolen v);
              })
              (record {
                fits = (
                  record {
                    begins = subst (λ l. IsFront (chain_of s.chain (innermost l t.home)) (take k me.pages)) (sym at) (subst (λ n. IsFront (s.chain n) (take k me.pages)) (sym o.0) fronted);
                    whole = let a = length-append me.store (drop k me.pages) in let b = length-drop k me.pages in let c = z.0.whole in
                        let d = front_length (s.chain n) me.pages z.0.begins in let f = length-take-le k me.pages d in omega (arith, a, b, c, d, f);
                  },
                  strand_frame f BodyFits V location location' (at_scope n) (at_worker w) t tt (put_self location t.number (at_worker w)) parked.0,
                  subst (IsJoining (arrived now 0 joining location').phase) (sym at)
                      (ap (put s.phase n joining) o.0 ∙ put_self s.phase n joining, active_put s.phase n joining scopes low o.1),
                  subst (DequeFits BodyFits (arrived now 0 joining location') location' w t.number t.home) (sym z.1) tt,
                );
                parked = subst (PhaseFits BodyFits (arrived now 0 joining location') location' n) (sym (put_self s.phase n joining)) tt;
                counts = one_less now 0 joining location' (sym (ap (active_bit) lies)) refl found;
                joined = λ j. put_self s.count n 0;
                posts = λ i. valid.posts n i there;
                conserved = λ h. let a = weighs_as valid w within (arriving n) e h in
                    let b = ap (own_weight h s.chain (s.outer n) n) (put_self s.phase n joining) in let c = ap (own_weight h s.chain (s.outer n) n) lies in
                    let d = sum_append h me.store (drop k me.pages) in
                    let f = ap (λ o. weigh h (drop (length (chain_of s.chain o)) (take k me.pages))) inner in
                    let g = ap (λ l. weigh h (drop k l)) (take_front (s.chain n) me.pages z.0.begins) in let j = nothing_behind h (s.chain n) in omega (arith, a, b, c, d, f, g, j);
                unstolen = subst (Unstolen (put s.count n 0) 0 t.scopes) (sym z.1) tt;
              }),
        )
          where
            k : ℕ
            k = length (s.chain n)

            now : Worker Body Ended
            now = record (cut me (length (s.chain n))) { task = collecting t }

            location' : ℕ → Location
            location' = put location t.number (at_worker w)

            was : IsLive (s.phase n)
            was = subst (IsLive) (sym lies) tt

            own : Owns s.scopes s.owner s.outer t.number (m ∷ scopes) t.home
            own = subst (λ l. Owns s.scopes s.owner s.outer t.number l t.home) at parked.0.owns

            owned : location (s.owner n) ≡ at_scope n
            owned = ap (λ m. location (s.owner m)) (sym o.0) ∙ ap location own.1 ∙ parked.0.place

            low : AllBelow n scopes
            low = subst (λ n. AllBelow n scopes) o.0 (tail_below valid m t.number scopes t.home own)

            inner : innermost t.scopes t.home ≡ Some n
            inner = ap (λ l. innermost l t.home) at ∙ ap Some o.0

            fronted : IsFront (s.chain n) (take k me.pages)
            fronted = subst (IsFront (s.chain n)) (sym (take_front (s.chain n) me.pages z.0.begins)) (front_self (s.chain n))

            f : Frame s (arrived now 0 joining location') (λ k. ⊤) (λ k. k ≢ t.number)
            f = frame_of valid w within s.words s.stopped s.strands now (put s.count n 0) s.places s.surplus (put s.phase n joining) location' n
                (λ k. ⊤) (λ k. k ≢ t.number) (omega arith) (λ j l q. put_other s.phase n joining j (λ d. q (ap s.owner d ∙ ap s.owner (sym o.0) ∙ own.1))) (lives_put s n joining (λ a. was)) (λ m j c hole l q e. e)

      -- the last of all
      pub arrive_last_valid : (t : Strand Body) → s.phase n ≡ suspended t → s.count n ≡ 1 → ValidIn BodyFits P V (arrived_last s w n t)
      arrive_last_valid t d found = last_of t d found t.scopes refl (parked t d found).1
