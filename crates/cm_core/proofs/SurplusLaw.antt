-- A turn that fetches or posts surplus pages keeps the state.
use Rattle.std.proofs.Common.{◌≡◌, ℕ, ◌+◌, ◌-◌, ◌<◌, ◌≤◌, List, ◌∷◌, ◌++◌, Option, Some, None, refl, sym, ap, ◌∙◌, subst, arith, length, take, drop, length-append, length-drop, length-take-le}
use Rattle.std.specs.Prelude.{⊤}
use Rattle.cm_core.specs.Table.{put, total, weigh}
use Rattle.cm_core.specs.State.{State, Strand, Worker, chain_of, idle, innermost, leaving, mapping, running, width}
use Rattle.cm_core.specs.Event.{Strands, fetched, mapped, with_body}
use Rattle.cm_core.specs.Held.{slot_weight}
use Rattle.cm_core.specs.Valid.{DequeFits, IsFront, IsPost, Location, Owns, StrandFits, TaskFits, Unstolen, UnstolenAt, Valid, ValidIn, WorkerFits, arriving_bit, at_worker, worker_weight}
use Rattle.cm_core.specs.Goes.{KeepsFit}
use Rattle.cm_core.proofs.BoardLaw.{board_valid, frame_of}
use Rattle.cm_core.proofs.FrameLaw.{Frame, phase_frame, strand_frame}
use Rattle.cm_core.proofs.OneLaw.{arrivals}
use Rattle.cm_core.proofs.PlaceLaw.{nothing_behind, posts_put, slots_put}
use Rattle.cm_core.proofs.RunLaw.{arrives_as, fits_as, weighs_as}
use Rattle.cm_core.proofs.TableLaw.{front_self, put_other, sum_append, sum_cut}

module _ {Body Ended : Type 0} {BodyFits : List ℕ → Body → Type 0} {P V : ℕ} where
  module _ {s : State Body Ended} {location : ℕ → Location} (valid : Valid BodyFits P V s location) (w : ℕ) (within : w < P) where
    abbrev me : Worker Body Ended
    me = s.workers w

    -- nothing changes but the worker and this scope's surplus
    module _ (now : Worker Body Ended) (n : ℕ) (slots : ℕ → Option (List ℕ)) where
      abbrev posted : State Body Ended
      posted = record s { workers = put s.workers w now; surplus = put s.surplus n slots }

      frame : Frame s posted (λ k. ⊤) (λ k. ⊤)
      frame = frame_of valid w within s.words s.stopped s.strands now s.count s.places (put s.surplus n slots) s.phase location n
          (λ k. ⊤) (λ k. ⊤) (omega arith) (λ m l q. refl) (λ m l a. a) (λ m j c hole l q e. e)

      surplus_kept : n < s.scopes → WorkerFits BodyFits V posted location w now
          → ((m : ℕ) → arriving_bit m now.task ≡ 0) → ((m : ℕ) → arriving_bit m me.task ≡ 0)
          → ((i : ℕ) → IsPost (length (s.chain n)) (put s.surplus n slots n i))
          → ((h : ℕ → ℕ) → worker_weight h s.chain now + total width (λ i. slot_weight h (put s.surplus n slots n i))
          ≡ worker_weight h s.chain me + total width (λ i. slot_weight h (s.surplus n i)))
          → UnstolenAt s.count now.deque now.task
          → ValidIn BodyFits P V posted
      surplus_kept l fits new old posts weighs unstolen = (
        location,
        board_valid valid w within s.words s.stopped s.strands now s.count s.places (put s.surplus n slots) s.phase location n
            (record {
              strands = omega arith;
              there = l;
              counted = λ m other. refl;
              placed = λ m other. refl;
              posted = λ m other. put_other s.surplus n slots m other;
              phases = λ m other. refl;
              sites = λ c l q. refl;
              alive = λ a. a;
              stays = λ m l a f. (valid.nested m n l a f).0;
              waits = λ m i hole l a e. e;
              phase_at = λ q. refl;
              places_at = λ j c hole q e. e;
              arrives = λ m other. new m ∙ sym (old m);
              unstolen = λ v other. valid.unstolen v;
            })
            (record {
              fits = fits;
              parked = phase_frame frame BodyFits V location location n (s.phase n) (λ k less e. (tt, tt, e)) (valid.parked n l);
              counts = let a = valid.counts n l in let b = arrivals valid w within now n in let c = new n in let d = old n in omega (arith, a, b, c, d);
              joined = valid.joined n l;
              posts = posts;
              conserved = λ h. let a = weighs h in omega (arith, a);
              unstolen = unstolen;
            }),
      )

    -- ---- leaving
    pub fetch_valid : (n i : ℕ) → me.task ≡ leaving n → i < width → (pages : List ℕ) → s.surplus n i ≡ Some pages → ValidIn BodyFits P V (fetched s w n i pages)
    fetch_valid n i e l pages d = surplus_kept (record me { task = idle; store = me.store ++ pages }) n (put (s.surplus n) i None) z.2
        (z.0, z.1, let a = length-append me.store pages in let b = subst (IsPost (length (s.chain n))) d (valid.posts n i z.2) in let c = z.3 in omega (arith, a, b, c))
        (λ m. refl) (λ m. arrives_as valid w within _ e m)
        (posts_put s (length (s.chain n)) n i None tt (λ j. valid.posts n j z.2))
        (λ h. let a = weighs_as valid w within _ e h in let b = slots_put s h n i None l in
        let c = ap (slot_weight h) d in let f = sum_append h me.store pages in omega (arith, a, b, c, f))
        tt
      where
        z : TaskFits BodyFits V s location w me.pages me.store me.deque (leaving n)
        z = fits_as valid w within (leaving n) e

    -- ---- mapping
    module _ {strands : Strands Body Ended} (keeps : KeepsFit BodyFits strands) where
      pub map_valid : (t : Strand Body) (n i : ℕ) (scopes : List ℕ) → me.task ≡ mapping t → t.scopes ≡ n ∷ scopes → i < width → s.surplus n i ≡ None
          → ValidIn BodyFits P V (mapped strands s w t n i)
      map_valid t n i scopes e at l d = surplus_kept now n (put (s.surplus n) i (Some (drop beyond me.store))) there (
        record {
          begins = subst (λ o. IsFront (chain_of s.chain o) (s.chain n)) (sym inner) (front_self (s.chain n));
          whole = let a = length-take-le beyond me.store (omega arith) in omega (arith, a, whole, short);
        },
        body (strand_frame (frame now n (put (s.surplus n) i (Some (drop beyond me.store)))) BodyFits V location location (at_worker w) (at_worker w) t tt z.3.place z.3),
        z.4,
        subst (λ d. DequeFits BodyFits (posted now n (put (s.surplus n) i (Some (drop beyond me.store)))) location w t.number t.home d) (sym z.1) tt,
      )
          (λ m. refl) (λ m. arrives_as valid w within _ e m)
          (posts_put s (length (s.chain n)) n i (Some (drop beyond me.store)) (let a = length-drop beyond me.store in omega (arith, a, whole, short)) (λ j. valid.posts n j there))
          (λ h. let a = weighs_as valid w within _ e h in let b = slots_put s h n i (Some (drop beyond me.store)) l in
          let c = ap (slot_weight h) d in let f = sum_cut h beyond me.store in
          let g = ap (weigh h) z.0 in
          let j = ap (λ o. weigh h (drop (length (chain_of s.chain o)) (s.chain n))) inner in let k = nothing_behind h (s.chain n) in
          omega (arith, a, b, c, f, g, j, k))
          (subst (λ d. Unstolen s.count 1 t.scopes d) (sym z.1) tt)
        where
          beyond : ℕ
          beyond = length me.store - length (s.chain n)

          now : Worker Body Ended
          now = record me { task = running (with_body t (strands.lower t.body)); pages = s.chain n; store = take (length me.store - length (s.chain n)) me.store }

          z : TaskFits BodyFits V s location w me.pages me.store me.deque (mapping t)
          z = fits_as valid w within (mapping t) e

          whole : length me.store ≡ V
          whole = z.2

          there : n < s.scopes
          there = (subst (λ l. Owns s.scopes s.owner s.outer t.number l t.home) at z.3.owns).0

          short : length (s.chain n) ≤ V
          short = valid.short n there

          inner : innermost t.scopes t.home ≡ Some n
          inner = ap (λ l. innermost l t.home) at

          body : StrandFits BodyFits (posted now n (put (s.surplus n) i (Some (drop beyond me.store)))) location (at_worker w) t
              → StrandFits BodyFits (posted now n (put (s.surplus n) i (Some (drop beyond me.store)))) location (at_worker w) (with_body t (strands.lower t.body))
          body y = record { young = y.young; place = y.place; home = y.home; owns = y.owns; okay = keeps.lower _ t.body y.okay; all = y.all }
