-- A turn that collects an answer, or resumes a strand, keeps the state.
use Rattle.std.proofs.Common.{◌≡◌, ℕ, ◌+◌, ◌<◌, ◌≢◌, ◌⊎◌, Bool, ◌||◌, List, [], ◌∷◌, Some, refl, sym, ap, ◌∙◌, subst, arith, inl, inr, length, drop, true≢false}
use Rattle.std.specs.Prelude.{⊤}
use Rattle.cm_core.specs.Table.{put, weigh}
use Rattle.cm_core.specs.State.{Place, State, Strand, Worker, back, chain_of, closed, collecting, free, innermost, joining, out, page_counts, running, width}
use Rattle.cm_core.specs.Event.{Changed, Strands, collected, resumed, with_body}
use Rattle.cm_core.specs.Turn.{is_back}
use Rattle.cm_core.specs.Valid.{AreActive, IsBelow, IsFront, IsIn, IsJoined, IsJoining, IsLive, Location, Owns, PhaseFits, StrandFits, TaskFits, Unstolen, UnstolenAt, Valid, ValidIn, WorkerFits, active_bit, arriving_bit, at_worker, out_bit, own_weight, scope_weight, worker_weight}
use Rattle.cm_core.specs.Goes.{KeepsFit}
use Rattle.cm_core.proofs.BoardLaw.{board_valid, frame_of, lives_put}
use Rattle.cm_core.proofs.FrameLaw.{Frame, deque_frame, phase_frame, strand_frame}
use Rattle.cm_core.proofs.OneLaw.{arrivals}
use Rattle.cm_core.proofs.PlaceLaw.{outs_put, spots_put}
use Rattle.cm_core.proofs.RunLaw.{arrives_as, fits_as, unstolen_as, weighs_as}
use Rattle.cm_core.proofs.TableLaw.{at_most_total, front_front, put_other, put_self, sum_between}
use Rattle.cm_core.proofs.UnstolenLaw.{AllBelow, active_put, ones_count, tail_below}

back_out : {Ended : Type 0} (h c k d : ℕ) (e : Ended) (p : Place Ended) → p ≡ back h c e → p ≡ out k d → ⊥
back_out h c k d e p f g = true≢false (ap (is_back) (sym f ∙ g))

module _ {Body Ended : Type 0} {BodyFits : List ℕ → Body → Type 0} {P V : ℕ} {strands : Strands Body Ended} (keeps : KeepsFit BodyFits strands) where
  module _ {s : State Body Ended} {location : ℕ → Location} (valid : Valid BodyFits P V s location) (w : ℕ) (within : w < P) where
    abbrev me : Worker Body Ended
    me = s.workers w

    -- an answer leaves its place
    module _ (n i hole child : ℕ) (end : Ended) (d : s.places n i ≡ back hole child end) (less : i < width) (there : n < s.scopes) (words : ℕ → ℕ) (stopped : Bool) (now : Worker Body Ended) where
      abbrev emptied : State Body Ended
      emptied = record s { words = words; stopped = stopped; workers = put s.workers w now; places = put s.places n (put (s.places n) i free) }

      spots : (m j c hole : ℕ) → ⊤ → s.places m j ≡ out hole c → put s.places n (put (s.places n) i free) m j ≡ out hole c
      spots = spots_put s (λ c. ⊤) n i free (λ c k q f. back_out hole child k c end (s.places n i) d f)

      frame : Frame s emptied (λ k. ⊤) (λ k. ⊤)
      frame = frame_of valid w within words stopped s.strands now s.count (put s.places n (put (s.places n) i free)) s.surplus s.phase location n
          (λ k. ⊤) (λ k. ⊤) (omega arith) (λ m l q. refl) (λ m l a. a) (λ m j c hole l q e. spots m j c hole q e)

      emptied_kept : WorkerFits BodyFits V emptied location w now
          → ((m : ℕ) → arriving_bit m now.task ≡ 0) → ((m : ℕ) → arriving_bit m me.task ≡ 0)
          → ((h : ℕ → ℕ) → worker_weight h s.chain now ≡ worker_weight h s.chain me)
          → UnstolenAt s.count now.deque now.task
          → ValidIn BodyFits P V emptied
      emptied_kept fits new old weighs unstolen = (
        location,
        board_valid valid w within words stopped s.strands now s.count (put s.places n (put (s.places n) i free)) s.surplus s.phase location n
            (record {
              strands = omega arith;
              there = there;
              counted = λ m other. refl;
              placed = λ m other. put_other s.places n (put (s.places n) i free) m other;
              posted = λ m other. refl;
              phases = λ m other. refl;
              sites = λ c l q. refl;
              alive = λ a. a;
              stays = λ m l a f. (valid.nested m n l a f).0;
              waits = λ m i hole l a e. spots n i (s.owner m) hole tt e;
              phase_at = λ q. refl;
              places_at = λ j c hole q e. spots n j c hole tt e;
              arrives = λ m other. new m ∙ sym (old m);
              unstolen = λ v other. valid.unstolen v;
            })
            (record {
              fits = fits;
              parked = phase_frame frame BodyFits V location location n (s.phase n) (λ k less e. (tt, tt, e)) (valid.parked n there);
              counts = let a = valid.counts n there in let b = arrivals valid w within now n in let c = new n in let f = old n in
                  let g = outs_put s n i free less in let j = ap (out_bit) d in omega (arith, a, b, c, f, g, j);
              joined = valid.joined n there;
              posts = λ j. valid.posts n j there;
              conserved = λ h. ap (λ x. x + scope_weight h s n) (weighs h);
              unstolen = unstolen;
            }),
      )

    -- of a strand that runs, at a spawn where all places are in use
    pub collect_running : (t : Strand Body) → me.task ≡ running t → (n i : ℕ) (scopes : List ℕ) → t.scopes ≡ n ∷ scopes → i < width → (hole child : ℕ) (end : Ended) → s.places n i ≡ back hole child end
        → ValidIn BodyFits P V (collected strands s w t running n i hole end)
    collect_running t e n i scopes at l hole child end d = let c = strands.collect t.body hole end me.pages s.words in
        let now : Worker Body Ended = record me { task = running (with_body t c.body) } in
        let z = fits_as valid w within (running t) e in
        let f = frame n i hole child end d l (there t n scopes at z.1) c.words s.stopped now in
        let y = strand_frame f BodyFits V location location (at_worker w) (at_worker w) t tt z.1.place z.1 in
        emptied_kept n i hole child end d l (there t n scopes at z.1) c.words s.stopped now (
          z.0,
          record { young = y.young; place = y.place; home = y.home; owns = y.owns; okay = keeps.collect _ t.body hole end me.pages s.words y.okay; all = y.all },
          z.2,
          deque_frame f BodyFits V location location w t.number t.home me.deque (λ k less at. (tt, tt, at)) z.3,
        )
        (λ m. refl) (λ m. arrives_as valid w within (running t) e m)
        (λ h. sym (weighs_as valid w within (running t) e h)) (unstolen_as valid w within (running t) e)
      where
        there : (t : Strand Body) (n : ℕ) (scopes : List ℕ) → t.scopes ≡ n ∷ scopes → StrandFits BodyFits s location (at_worker w) t → n < s.scopes
        there t n scopes at y = (subst (λ l. Owns s.scopes s.owner s.outer t.number l t.home) at y.owns).0

    -- ---- collecting
    module _ (t : Strand Body) (e : me.task ≡ collecting t) (n : ℕ) (scopes : List ℕ) (at : t.scopes ≡ n ∷ scopes) where
      z : TaskFits BodyFits V s location w me.pages me.store me.deque (collecting t)
      z = fits_as valid w within (collecting t) e

      owns : Owns s.scopes s.owner s.outer t.number (n ∷ scopes) t.home
      owns = subst (λ l. Owns s.scopes s.owner s.outer t.number l t.home) at z.1.owns

      pub phases : (s.phase n ≡ joining) × AreActive s.phase scopes
      phases = subst (IsJoining s.phase) at z.2

      pub count_zero : s.count n ≡ 0
      count_zero = valid.joined n owns.0 (subst (IsJoined) (sym phases.0) tt)

      pub collect_joining : (i : ℕ) → i < width → (hole child : ℕ) (end : Ended) → s.places n i ≡ back hole child end → ValidIn BodyFits P V (collected strands s w t collecting n i hole end)
      collect_joining i l hole child end d = let c = strands.collect t.body hole end me.pages s.words in
          let now : Worker Body Ended = record me { task = collecting (with_body t c.body) } in
          let f = frame n i hole child end d l owns.0 c.words s.stopped now in
          let y = strand_frame f BodyFits V location location (at_worker w) (at_worker w) t tt z.1.place z.1 in
          emptied_kept n i hole child end d l owns.0 c.words s.stopped now (
            z.0,
            record { young = y.young; place = y.place; home = y.home; owns = y.owns; okay = keeps.collect _ t.body hole end me.pages s.words y.okay; all = y.all },
            subst (IsJoining (emptied n i hole child end d l owns.0 c.words s.stopped now).phase) (sym at) phases,
            deque_frame f BodyFits V location location w t.number t.home me.deque (λ k less at. (tt, tt, at)) z.3,
          )
          (λ m. refl) (λ m. arrives_as valid w within (collecting t) e m)
          (λ h. sym (weighs_as valid w within (collecting t) e h)) (unstolen_as valid w within (collecting t) e)

      -- the scope is closed
      pub resume_valid : ValidIn BodyFits P V (resumed strands s w t n scopes)
      resume_valid = (
        location,
        board_valid valid w within c.words (s.stopped || c.ending) s.strands now s.count s.places s.surplus (put s.phase n closed) location n
            (record {
              strands = omega arith;
              there = owns.0;
              counted = λ m other. refl;
              placed = λ m other. refl;
              posted = λ m other. refl;
              phases = λ m other. put_other s.phase n closed m other;
              sites = λ c l q. refl;
              alive = λ a. subst (IsLive) (sym phases.0) tt;
              stays = λ m l a f. absurd (bare m l a f);
              waits = λ m i hole l a e. e;
              phase_at = λ q. absurd (q.0 (ap location owns.1 ∙ z.1.place));
              places_at = λ j c hole q e. e;
              arrives = λ m other. sym (arrives_as valid w within (collecting t) e m);
              unstolen = λ v other. valid.unstolen v;
            })
            (record {
              fits = (
                record { begins = subst (λ o. IsFront (chain_of s.chain o) me.pages) owns.2 (front_front (chain_of s.chain (s.outer n)) (s.chain n) me.pages (valid.begins n owns.0) begins); whole = z.0.whole },
                record {
                  young = y.young;
                  place = y.place;
                  home = y.home;
                  owns = owns.3;
                  okay = keeps.join (length (s.chain n)) (page_counts s.chain scopes t.home) t.body s.words (subst (λ l. BodyFits (page_counts s.chain l t.home) t.body) at y.okay);
                  all = λ m l a o. fewer m a (subst (λ l. IsIn l m) at (y.all m l a o));
                },
                active_put s.phase n closed scopes (tail_below valid n t.number scopes t.home owns) phases.1,
                deque_frame f BodyFits V location location w t.number t.home me.deque (λ k less at. (tt, (λ d. omega (arith, less, d)), at)) z.3,
              );
              parked = subst (PhaseFits BodyFits result location n) (sym (put_self s.phase n closed)) tt;
              counts =
                  let a = valid.counts n owns.0 in let b = arrivals valid w within now n in let c = arrives_as valid w within (collecting t) e n in
                  let d = ap (active_bit) (put_self s.phase n closed) in let g = ap (active_bit) phases.0 in omega (arith, a, b, c, d, g);
              joined = λ j. count_zero;
              posts = λ i. valid.posts n i owns.0;
              conserved = λ h. let a = weighs_as valid w within (collecting t) e h in
                  let b = ap (own_weight h s.chain (s.outer n) n) (put_self s.phase n closed) in let c = ap (own_weight h s.chain (s.outer n) n) phases.0 in
                  let d = sum_between h (chain_of s.chain (s.outer n)) (s.chain n) me.pages (valid.begins n owns.0) begins in
                  let g = ap (λ o. weigh h (drop (length (chain_of s.chain o)) me.pages)) owns.2 in
                  let j = ap (λ o. weigh h (drop (length (chain_of s.chain o)) me.pages)) inner in omega (arith, a, b, c, d, g, j);
              unstolen = calmer me.deque (subst (λ l. Unstolen s.count 0 l me.deque) at (unstolen_as valid w within (collecting t) e));
            }),
      )
        where
          c : Changed Body
          c = strands.join t.body s.words

          now : Worker Body Ended
          now = record me { task = running (record t { scopes = scopes; body = (strands.join t.body s.words).body }) }

          result : State Body Ended
          result = record s { words = (strands.join t.body s.words).words; stopped = s.stopped || (strands.join t.body s.words).ending; workers = put s.workers w now; phase = put s.phase n closed }

          f : Frame s result (λ k. ⊤) (λ k. k ≢ t.number)
          f = frame_of valid w within c.words (s.stopped || c.ending) s.strands now s.count s.places s.surplus (put s.phase n closed) location n
              (λ k. ⊤) (λ k. k ≢ t.number) (omega arith) (λ m l q. put_other s.phase n closed m (λ d. q (ap s.owner d ∙ owns.1))) (lives_put s n closed (λ a. absurd a)) (λ m j c hole l q e. e)

          y : StrandFits BodyFits result location (at_worker w) t
          y = strand_frame f BodyFits V location location (at_worker w) (at_worker w) t tt z.1.place z.1

          not_closed : (m : ℕ) → IsLive (put s.phase n closed m) → m ≢ n
          not_closed m a d = subst (IsLive) (ap (put s.phase n closed) d ∙ put_self s.phase n closed) a

          fewer : (m : ℕ) → IsLive (put s.phase n closed m) → IsIn (n ∷ scopes) m → IsIn scopes m
          fewer m a (inl d) = absurd (not_closed m a (sym d))
          fewer m a (inr i) = i

          under : (m : ℕ) (l : List ℕ) → AllBelow n l → IsIn l m → m < n
          under m [] b i = absurd i
          under m (x ∷ l) b (inl d) = let a = b.0 in omega (arith, a, d)
          under m (x ∷ l) b (inr i) = under m l b.1 i

          -- no live scope is left inside
          bare : (m : ℕ) → m < s.scopes → IsLive (put s.phase n closed m) → s.outer m ≡ Some n → ⊥
          bare m l a d = by (valid.nested m n l old d).1
            where
              old : IsLive (s.phase m)
              old = subst (IsLive) (put_other s.phase n closed m (not_closed m a)) a

              by : (s.owner m ≡ s.owner n) ⊎ ((i : ℕ) × (hole : ℕ) × (i < width) × (s.places n i ≡ out hole (s.owner m))) → ⊥
              by (inl same) =
                  let b = under m scopes (tail_below valid n t.number scopes t.home owns) (fewer m a (subst (λ l. IsIn l m) at (z.1.all m l old (same ∙ owns.1)))) in
                  let c : n < m = subst (IsBelow m) d (valid.below m l) in omega (arith, b, c)
              by (inr o) = let b = valid.counts n owns.0 in let c = at_most_total width o.0 (λ i. out_bit (s.places n i)) o.2 in
                  let f = ap (out_bit) o.3 in omega (arith, b, c, f, count_zero)

          inner : innermost t.scopes t.home ≡ Some n
          inner = ap (λ l. innermost l t.home) at

          begins : IsFront (s.chain n) me.pages
          begins = subst (λ o. IsFront (chain_of s.chain o) me.pages) inner z.0.begins

          calmer : (deque : List (Strand Body)) → Unstolen s.count 0 (n ∷ scopes) deque → Unstolen s.count 1 scopes deque
          calmer [] c = tt
          calmer (p ∷ deque) c = (ones_count s.count scopes c.0.1, c.1)
