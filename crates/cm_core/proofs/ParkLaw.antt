-- A park keeps the state.
use Rattle.std.proofs.Common.{◌≡◌, ℕ, suc, ◌<◌, ◌≢◌, List, [], ◌∷◌, Some, refl, sym, ap, ◌∙◌, subst, arith, length, drop, length-append, length-drop}
use Rattle.std.specs.Prelude.{⊤}
use Rattle.cm_core.specs.Table.{put, weigh}
use Rattle.cm_core.specs.State.{Phase, State, Strand, Worker, active, chain_of, collecting, innermost, joining, running, suspended}
use Rattle.cm_core.specs.Event.{left, parked_among, parked_last}
use Rattle.cm_core.specs.Valid.{AreActive, DequeFits, IsFront, IsJoined, IsJoining, IsLive, IsSuspended, Location, Owns, PhaseFits, TaskFits, Unstolen, UnstolenAt, Valid, ValidIn, active_bit, arriving_bit, at_scope, at_worker, outstanding, own_weight, scope_weight}
use Rattle.cm_core.proofs.BoardLaw.{Elsewhere, board_valid, frame_of, lives_put, number_of}
use Rattle.cm_core.proofs.FrameLaw.{Frame, deque_frame, strand_frame}
use Rattle.cm_core.proofs.OneLaw.{arrivals}
use Rattle.cm_core.proofs.RunLaw.{arrives_as, fits_as, unstolen_as, weighs_as}
use Rattle.cm_core.proofs.TableLaw.{front_length, put_other, put_self, sum_append}
use Rattle.cm_core.proofs.UnstolenLaw.{AllBelow, active_put, below_unstolen, ones_put, tail_below, unstolen_frame}

module _ {Body Ended : Type 0} {BodyFits : List ℕ → Body → Type 0} {P V : ℕ} where
  module _ {s : State Body Ended} {location : ℕ → Location} (valid : Valid BodyFits P V s location) (w : ℕ) (within : w < P) where
    abbrev me : Worker Body Ended
    me = s.workers w

    -- the counts at other workers, where the count of a scope changes whose owner is with this one
    pub unstolen_owner : (n c : ℕ) → location (s.owner n) ≡ at_worker w → (v : ℕ) → v ≢ w → UnstolenAt (put s.count n c) (s.workers v).deque (s.workers v).task
    unstolen_owner n c owned v other = unstolen_frame valid (λ k. location k ≡ at_worker v) (put s.count n c)
        (λ m l r held. put_other s.count n c m (λ d. other (ap number_of (sym r ∙ ap (λ m. location (s.owner m)) d ∙ owned))))
        v (s.workers v).pages (s.workers v).store (s.workers v).deque (s.workers v).task (λ k e. e) (valid.fits v) (valid.unstolen v)

    module _ (t : Strand Body) (e : me.task ≡ running t) (n : ℕ) (scopes : List ℕ) (at : t.scopes ≡ n ∷ scopes) where
      pub z : TaskFits BodyFits V s location w me.pages me.store me.deque (running t)
      z = fits_as valid w within (running t) e

      pub owns : Owns s.scopes s.owner s.outer t.number (n ∷ scopes) t.home
      owns = subst (λ l. Owns s.scopes s.owner s.outer t.number l t.home) at z.1.owns

      pub actives : AreActive s.phase (n ∷ scopes)
      actives = subst (AreActive s.phase) at z.2

      pub low : AllBelow n scopes
      low = tail_below valid n t.number scopes t.home owns

      pub owned : location (s.owner n) ≡ at_worker w
      owned = ap location owns.1 ∙ z.1.place

      pub inner : innermost t.scopes t.home ≡ Some n
      inner = ap (λ l. innermost l t.home) at

      pub below : Unstolen s.count 1 (n ∷ scopes) me.deque
      below = subst (λ l. Unstolen s.count 1 l me.deque) at (unstolen_as valid w within (running t) e)

      -- the phase and the count of this scope change
      module _ (now : Worker Body Ended) (c : ℕ) (g : Phase Body) (location' : ℕ → Location) where
        abbrev pub gated : State Body Ended
        gated = record s { workers = put s.workers w now; count = put s.count n c; phase = put s.phase n g }

        -- the scope was live
        was : IsLive g → IsLive (s.phase n)
        was a = subst (IsLive) (sym actives.0) tt

        pub frame : Frame s gated (λ k. ⊤) (λ k. k ≢ t.number)
        frame = frame_of valid w within s.words s.stopped s.strands now (put s.count n c) s.places s.surplus (put s.phase n g) location' n
            (λ k. ⊤) (λ k. k ≢ t.number) (omega arith) (λ m l q. put_other s.phase n g m (λ d. q (ap s.owner d ∙ owns.1))) (lives_put s n g was) (λ m j c hole l q e. e)

        pub elsewhere : IsLive g → ((m : ℕ) → arriving_bit m now.task ≡ 0) → ((c : ℕ) → c ≢ t.number → location' c ≡ location c)
            → Elsewhere valid w within s.words s.stopped s.strands now (put s.count n c) s.places s.surplus (put s.phase n g) location' n
        elsewhere lives quietly sites = record {
          strands = omega arith;
          there = owns.0;
          counted = λ m other. put_other s.count n c m other;
          placed = λ m other. refl;
          posted = λ m other. refl;
          phases = λ m other. put_other s.phase n g m other;
          sites = λ c l q. sites c (λ d. q.0 (ap location d ∙ z.1.place));
          alive = λ a. was lives;
          stays = λ m l a f. subst (IsLive) (sym (put_self s.phase n g)) lives;
          waits = λ m i hole l a e. e;
          phase_at = λ q. absurd (q.0 owned);
          places_at = λ j c hole q e. e;
          arrives = λ m other. quietly m ∙ sym (arrives_as valid w within (running t) e m);
          unstolen = unstolen_owner n c owned;
        }

        -- what holds the join back, less the owner
        pub one_less : active_bit g ≡ 0 → arriving_bit n now.task ≡ 0 → s.count n ≡ suc c → put s.count n c n ≡ outstanding P gated n
        one_less away quietly found =
            let a = valid.counts n owns.0 in let b = arrivals valid w within now n in
            let d = arrives_as valid w within (running t) e n in
            let f = ap (active_bit) actives.0 in let j = ap (active_bit) (put_self s.phase n g) in let k = put_self s.count n c in
            omega (arith, a, b, d, f, j, k, found, away, quietly)

        -- the scope's own pages stay its own
        pub own_same : (h : ℕ → ℕ) → own_weight h s.chain (s.outer n) n g ≡ own_weight {Body = Body} h s.chain (s.outer n) n active
            → scope_weight h gated n ≡ scope_weight h s n
        own_same h like = let a = ap (own_weight h s.chain (s.outer n) n) (put_self s.phase n g) in
            let b = ap (own_weight h s.chain (s.outer n) n) actives.0 in omega (arith, a, b, like)

      -- found one: the strand collects
      pub park_last_valid : s.count n ≡ 1 → ValidIn BodyFits P V (parked_last s w t n)
      park_last_valid found = (
        location,
        board_valid valid w within s.words s.stopped s.strands now (put s.count n 0) s.places s.surplus (put s.phase n joining) location n
            (elsewhere now 0 joining location tt (λ m. refl) (λ c other. refl))
            (record {
              fits = (
                z.0,
                strand_frame f BodyFits V location location (at_worker w) (at_worker w) t tt z.1.place z.1,
                subst (IsJoining (gated now 0 joining location).phase) (sym at) (put_self s.phase n joining, active_put s.phase n joining scopes low actives.1),
                deque_frame f BodyFits V location location w t.number t.home me.deque (λ k less at. (tt, (λ d. omega (arith, less, d)), at)) z.3,
              );
              parked = subst (PhaseFits BodyFits (gated now 0 joining location) location n) (sym (put_self s.phase n joining)) tt;
              counts = one_less now 0 joining location refl refl found;
              joined = λ j. put_self s.count n 0;
              posts = λ i. valid.posts n i owns.0;
              conserved = λ h. let a = weighs_as valid w within (running t) e h in let b = own_same now 0 joining location h refl in omega (arith, a, b);
              unstolen = subst (λ l. Unstolen (put s.count n 0) 0 l me.deque) (sym at) (calmer me.deque z.3 below);
            }),
      )
        where
          now : Worker Body Ended
          now = record me { task = collecting t }

          f : Frame s (gated now 0 joining location) (λ k. ⊤) (λ k. k ≢ t.number)
          f = frame now 0 joining location

          calmer : (deque : List (Strand Body)) → DequeFits BodyFits s location w t.number t.home deque → Unstolen s.count 1 (n ∷ scopes) deque → Unstolen (put s.count n 0) 0 (n ∷ scopes) deque
          calmer [] l c = tt
          calmer (p ∷ deque) l c = (
            (put_self s.count n 0, ones_put s.count n 0 scopes low c.0.1),
            below_unstolen valid (λ k. k ≢ t.number) (put s.count n 0) (λ m l r held. put_other s.count n 0 m (λ d. r (ap s.owner d ∙ owns.1)))
                w t.number t.home z.1.home p deque (λ k less at d. omega (arith, less, d)) l c.1,
          )

      -- found more: the strand lies in the scope, and the worker leaves
      pub park_among_valid : (more : ℕ) → s.count n ≡ suc (suc more) → ValidIn BodyFits P V (parked_among s w t n (suc more))
      park_among_valid more found = (
        location',
        board_valid valid w within s.words s.stopped s.strands now (put s.count n (suc more)) s.places s.surplus (put s.phase n (suspended t)) location' n
            (elsewhere now (suc more) (suspended t) location' tt (λ m. refl) (λ c other. put_other location t.number (at_scope n) c other))
            (record {
              fits = (
                refl,
                bare me.deque below,
                owns.0,
                let a = length-append me.store (drop k me.pages) in let b = length-drop k me.pages in let c = z.0.whole in
                    let d = front_length (s.chain n) me.pages begins in omega (arith, a, b, c, d),
              );
              parked = subst (PhaseFits BodyFits (gated now (suc more) (suspended t) location') location' n) (sym (put_self s.phase n (suspended t))) (
                strand_frame f BodyFits V location location' (at_worker w) (at_scope n) t tt (put_self location t.number (at_scope n)) z.1,
                subst (IsSuspended (gated now (suc more) (suspended t) location').phase n) (sym at) (refl, active_put s.phase n (suspended t) scopes low actives.1),
              );
              counts = one_less now (suc more) (suspended t) location' refl refl found;
              joined = λ j. absurd (subst (IsJoined) (put_self s.phase n (suspended t)) j);
              posts = λ i. valid.posts n i owns.0;
              conserved = λ h. let a = weighs_as valid w within (running t) e h in let b = own_same now (suc more) (suspended t) location' h refl in
                  let c = ap (λ o. weigh h (drop (length (chain_of s.chain o)) me.pages)) inner in let d = sum_append h me.store (drop k me.pages) in omega (arith, a, b, c, d);
              unstolen = tt;
            }),
      )
        where
          k : ℕ
          k = length (s.chain n)

          now : Worker Body Ended
          now = left me n (length (s.chain n))

          location' : ℕ → Location
          location' = put location t.number (at_scope n)

          f : Frame s (gated now (suc more) (suspended t) location') (λ k. ⊤) (λ k. k ≢ t.number)
          f = frame now (suc more) (suspended t) location'

          begins : IsFront (s.chain n) me.pages
          begins = subst (λ o. IsFront (chain_of s.chain o) me.pages) inner z.0.begins

          bare : (deque : List (Strand Body)) → Unstolen s.count 1 (n ∷ scopes) deque → deque ≡ []
          bare [] c = refl
          bare (p ∷ deque) c = absurd (let a = c.0.0 in omega (arith, a, found))
