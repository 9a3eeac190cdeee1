-- A spawn in an open scope, and a return to the parent in the deque, keep the state.
use Rattle.std.proofs.Common.{◌≡◌, ℕ, suc, ◌-◌, ◌<◌, ◌≢◌, ◌||◌, List, [], ◌∷◌, Some, refl, sym, ap, ◌∙◌, subst, arith, length, drop, true≢false}
use Rattle.std.specs.Prelude.{⊤}
use Rattle.cm_core.specs.Table.{put, weigh}
use Rattle.cm_core.specs.State.{Home, Place, State, Strand, Worker, chain_of, free, home_scope, innermost, out, page_counts, running, width}
use Rattle.cm_core.specs.Event.{Changed, Strands, popped, spawned, with_body}
use Rattle.cm_core.specs.Turn.{is_free}
use Rattle.cm_core.specs.Valid.{Above, AreActive, DequeFits, HasCount, HomeFits, IsFront, IsIn, IsJoined, IsOut, Location, Owns, StrandFits, TaskFits, Unstolen, Valid, ValidIn, active_bit, at_worker, out_bit}
use Rattle.cm_core.specs.Goes.{KeepsFit}
use Rattle.cm_core.proofs.BoardLaw.{IsAtWorker, board_valid, frame_of}
use Rattle.cm_core.proofs.FrameLaw.{Frame, deque_frame, phase_frame, strand_frame}
use Rattle.cm_core.proofs.OneLaw.{arrivals}
use Rattle.cm_core.proofs.ParkLaw.{actives, below, inner, low, owned, owns, unstolen_owner, z}
use Rattle.cm_core.proofs.PlaceLaw.{outs_put, same_child, spots_put}
use Rattle.cm_core.proofs.RunLaw.{arrives_as, fits_as, unstolen_as, weighs_as}
use Rattle.cm_core.proofs.TableLaw.{put_other, put_self}
use Rattle.cm_core.proofs.UnstolenLaw.{AllBelow, below_unstolen, ones_put, tail_below}

free_out : {Ended : Type 0} (k d : ℕ) (p : Place Ended) → p ≡ free → p ≡ out k d → ⊥
free_out k d p f g = true≢false (ap (is_free) (sym f ∙ g))

module _ {Body Ended : Type 0} {BodyFits : List ℕ → Body → Type 0} {P V : ℕ} {strands : Strands Body Ended} (keeps : KeepsFit BodyFits strands) where
  module _ {s : State Body Ended} {location : ℕ → Location} (valid : Valid BodyFits P V s location) (w : ℕ) (within : w < P) where
    abbrev me : Worker Body Ended
    me = s.workers w

    pub spawn_valid : (t : Strand Body) (e : me.task ≡ running t) (n : ℕ) (scopes : List ℕ) (at : t.scopes ≡ n ∷ scopes) (i : ℕ) → i < width → s.places n i ≡ free
        → (parent child : Body) (hole : ℕ) → BodyFits (page_counts s.chain t.scopes t.home) parent → BodyFits (length (s.chain n) ∷ []) child
        → ValidIn BodyFits P V (spawned s w t n i parent child hole)
    spawn_valid t e n scopes at i less empty parent child hole okay young_okay = (
      location',
      board_valid valid w within s.words s.stopped (suc s.strands) now count places s.surplus s.phase location' n
          (record {
            strands = omega arith;
            there = there;
            counted = λ m other. put_other s.count n (suc (s.count n)) m other;
            placed = λ m other. put_other s.places n _ m other;
            posted = λ m other. refl;
            phases = λ m other. refl;
            sites = λ c l q. put_other location s.strands (at_worker w) c (λ d. omega (arith, l, d));
            alive = λ a. a;
            stays = λ m l a f. (valid.nested m n l a f).0;
            waits = λ m i hole l a e. spots n i (s.owner m) hole tt e;
            phase_at = λ q. refl;
            places_at = λ j c hole q e. spots n j c hole tt e;
            arrives = λ m other. sym (arrives_as valid w within (running t) e m);
            unstolen = unstolen_owner valid w within n (suc (s.count n)) (owned');
          })
          (record {
            fits = (
              record { begins = subst (λ o. IsFront (chain_of s.chain o) me.pages) inner' y.0.begins; whole = y.0.whole },
              record {
                young = omega arith;
                place = put_self location s.strands (at_worker w);
                home = (there, less, (hole, ap (λ f. f i) (put_self s.places n (put (s.places n) i (out hole s.strands))) ∙ put_self (s.places n) i (out hole s.strands)));
                owns = tt;
                okay = young_okay;
                all = λ m l a o. let b = valid.owners m l in omega (arith, b, o);
              },
              tt,
              (
                subst (Above (Some (record { scope = n; place = i }))) (sym at) refl,
                y.1.young,
                record { young = moved.young; place = moved.place; home = moved.home; owns = moved.owns; okay = okay; all = moved.all },
                y.2,
                deque_frame f BodyFits V location location' w t.number t.home me.deque
                    (λ k l d. (tt, tt, put_other location s.strands (at_worker w) k (λ b. let a = y.1.young in omega (arith, l, b, a)) ∙ d)) y.3,
              ),
            );
            parked = phase_frame f BodyFits V location location' n (s.phase n)
                (λ k l d. (tt, tt, put_other location s.strands (at_worker w) k (λ b. omega (arith, l, b)) ∙ d)) (valid.parked n there);
            counts = let a = valid.counts n there in let b = arrivals valid w within now n in let c = arrives_as valid w within (running t) e n in
                let d = outs_put s n i (out hole s.strands) less in let g = ap (out_bit) empty in let j = put_self s.count n (suc (s.count n)) in omega (arith, a, b, c, d, g, j);
            joined = λ j. absurd (subst (IsJoined) open'.0 j);
            posts = λ i. valid.posts n i there;
            conserved = λ h. let a = weighs_as valid w within (running t) e h in
                let b = ap (λ o. weigh h (drop (length (chain_of s.chain o)) me.pages)) inner' in omega (arith, a, b);
            unstolen = calmer me.deque y.3 (below valid w within t e n scopes at);
          }),
    )
      where
        y : TaskFits BodyFits V s location w me.pages me.store me.deque (running t)
        y = z valid w within t e n scopes at

        own : Owns s.scopes s.owner s.outer t.number (n ∷ scopes) t.home
        own = owns valid w within t e n scopes at

        there : n < s.scopes
        there = own.0

        open' : AreActive s.phase (n ∷ scopes)
        open' = actives valid w within t e n scopes at

        owned' : location (s.owner n) ≡ at_worker w
        owned' = owned valid w within t e n scopes at

        inner' : innermost t.scopes t.home ≡ Some n
        inner' = inner valid w within t e n scopes at

        location' : ℕ → Location
        location' = put location s.strands (at_worker w)

        count : ℕ → ℕ
        count = put s.count n (suc (s.count n))

        places : ℕ → ℕ → Place Ended
        places = put s.places n (put (s.places n) i (out hole s.strands))

        now : Worker Body Ended
        now = record me { task = running (record { number = s.strands; home = Some (record { scope = n; place = i }); scopes = []; body = child }); deque = with_body t parent ∷ me.deque }

        spots : (m j c hole : ℕ) → ⊤ → s.places m j ≡ out hole c → places m j ≡ out hole c
        spots = spots_put s (λ c. ⊤) n i (out hole s.strands) (λ c k q f. free_out k c (s.places n i) empty f)

        result : State Body Ended
        result = record s { workers = put s.workers w now; strands = suc s.strands; count = count; places = places }

        f : Frame s result (λ k. ⊤) (λ k. ⊤)
        f = frame_of valid w within s.words s.stopped (suc s.strands) now count places s.surplus s.phase location' n
            (λ k. ⊤) (λ k. ⊤) (omega arith) (λ m l q. refl) (λ m l a. a) (λ m j c hole l q e. spots m j c hole q e)

        moved : StrandFits BodyFits result location' (at_worker w) t
        moved = strand_frame f BodyFits V location location' (at_worker w) (at_worker w) t tt
            (put_other location s.strands (at_worker w) t.number (λ b. let a = y.1.young in omega (arith, b, a)) ∙ y.1.place) y.1

        calmer : (deque : List (Strand Body)) → DequeFits BodyFits s location w t.number t.home deque → Unstolen s.count 1 (n ∷ scopes) deque
            → (⊤ × Unstolen count 2 t.scopes deque)
        calmer [] l c = (tt, tt)
        calmer (p ∷ deque) l c = (
          tt,
          (
            subst (λ l. HasCount count 2 l) (sym at) (put_self s.count n (suc (s.count n)) ∙ (let a = c.0.0 in omega (arith, a)), ones_put s.count n (suc (s.count n)) scopes (low valid w within t e n scopes at) c.0.1),
            below_unstolen valid (λ k. k ≢ t.number) count (λ m l r held. put_other s.count n (suc (s.count n)) m (λ d. r (ap s.owner d ∙ own.1)))
                w t.number t.home y.1.home p deque (λ k less at d. omega (arith, less, d)) l c.1,
          ),
        )

    -- the child of the youngest strand in the deque has ended
    module _ (t : Strand Body) (e : me.task ≡ running t) (none : t.scopes ≡ []) (h : Home) (at : t.home ≡ Some h) (p : Strand Body) (later : List (Strand Body)) (d : me.deque ≡ p ∷ later) (end : Ended) where
      y : TaskFits BodyFits V s location w me.pages me.store me.deque (running t)
      y = fits_as valid w within (running t) e

      linked : DequeFits BodyFits s location w t.number (Some h) (p ∷ later)
      linked = subst (λ l. DequeFits BodyFits s location w t.number (Some h) l) d (subst (λ o. DequeFits BodyFits s location w t.number o me.deque) at y.3)

      is_out : IsOut s t.number h
      is_out = subst (HomeFits s t.number) at y.1.home

      pop_in : (ms : List ℕ) → p.scopes ≡ h.scope ∷ ms → (hole child : ℕ) → s.places h.scope h.place ≡ out hole child
          → ValidIn BodyFits P V (popped strands s w h end p later hole)
      pop_in ms scopes hole child place = (
        location,
        board_valid valid w within c.words (s.stopped || c.ending) s.strands now count places s.surplus s.phase location n
            (record {
              strands = omega arith;
              there = own.0;
              counted = λ m other. put_other s.count n (s.count n - 1) m other;
              placed = λ m other. put_other s.places n _ m other;
              posted = λ m other. refl;
              phases = λ m other. refl;
              sites = λ c l q. refl;
              alive = λ a. a;
              stays = λ m l a f. (valid.nested m n l a f).0;
              waits = λ m i hole l a e. spots n i (s.owner m) hole (λ d. subst (λ l. IsIn l m) none (y.1.all m l a d)) e;
              phase_at = λ q. refl;
              places_at = λ j c hole q e. spots n j c hole (λ b. q.0 (ap location b ∙ y.1.place)) e;
              arrives = λ m other. sym (arrives_as valid w within (running t) e m);
              unstolen = unstolen_owner valid w within n (s.count n - 1) (ap location own.1 ∙ linked.2.place);
            })
            (record {
              fits = (
                record { begins = subst (λ o. IsFront (chain_of s.chain o) me.pages) (inner_t ∙ sym inner_p) y.0.begins; whole = y.0.whole },
                record { young = moved.young; place = moved.place; home = moved.home; owns = moved.owns; okay = keeps.pop _ p.body hole end me.pages s.words moved.okay; all = moved.all },
                linked.3,
                deque_frame f BodyFits V location location w p.number p.home later (λ k l b. ((λ g. let a = linked.1 in omega (arith, l, g, a)), tt, b)) linked.4,
              );
              parked = phase_frame f BodyFits V location location n (s.phase n)
                  (λ k l b. ((λ g. subst IsAtWorker (sym y.1.place ∙ ap location (sym g) ∙ b) tt), tt, b)) (valid.parked n own.0);
              counts = let a = valid.counts n own.0 in let b = arrivals valid w within now n in let c = arrives_as valid w within (running t) e n in
                  let g = outs_put s n i free is_out.1 in let j = ap (out_bit) place in let k = put_self s.count n (s.count n - 1) in
                  let l = ap (active_bit) actives.0 in omega (arith, a, b, c, g, j, k, l);
              joined = λ j. absurd (subst (IsJoined) actives.0 j);
              posts = λ i. valid.posts n i own.0;
              conserved = λ h. let a = weighs_as valid w within (running t) e h in
                  let b = ap (λ o. weigh h (drop (length (chain_of s.chain o)) me.pages)) (inner_t ∙ sym inner_p) in omega (arith, a, b);
              unstolen = calmer later linked.4 (subst (λ l. Unstolen s.count 1 t.scopes l) d (unstolen_as valid w within (running t) e)).1;
            }),
      )
        where
          n : ℕ
          n = h.scope

          i : ℕ
          i = h.place

          c : Changed Body
          c = strands.pop p.body hole end me.pages s.words

          own : Owns s.scopes s.owner s.outer p.number (h.scope ∷ ms) p.home
          own = subst (λ l. Owns s.scopes s.owner s.outer p.number l p.home) scopes linked.2.owns

          actives : AreActive s.phase (h.scope ∷ ms)
          actives = subst (AreActive s.phase) scopes linked.3

          low : AllBelow h.scope ms
          low = tail_below valid h.scope p.number ms p.home own

          inner_p : innermost p.scopes p.home ≡ Some h.scope
          inner_p = ap (λ l. innermost l p.home) scopes

          inner_t : innermost t.scopes t.home ≡ Some h.scope
          inner_t = ap (λ l. innermost l t.home) none ∙ ap home_scope at

          count : ℕ → ℕ
          count = put s.count h.scope (s.count h.scope - 1)

          places : ℕ → ℕ → Place Ended
          places = put s.places h.scope (put (s.places h.scope) h.place free)

          now : Worker Body Ended
          now = record me { task = running (with_body p c.body); deque = later }

          result : State Body Ended
          result = record s { words = c.words; stopped = s.stopped || c.ending; workers = put s.workers w now; count = count; places = places }

          spots : (m j c hole : ℕ) → c ≢ t.number → s.places m j ≡ out hole c → places m j ≡ out hole c
          spots = spots_put s (λ c. c ≢ t.number) h.scope h.place free
              (λ c k q f. q (same_child k is_out.2.0 c t.number (s.places h.scope h.place) f is_out.2.1))

          f : Frame s result (λ k. k ≢ t.number) (λ k. ⊤)
          f = frame_of valid w within c.words (s.stopped || c.ending) s.strands now count places s.surplus s.phase location h.scope
              (λ k. k ≢ t.number) (λ k. ⊤) (omega arith) (λ m l q. refl) (λ m l a. a) (λ m j c hole l q e. spots m j c hole q e)

          moved : StrandFits BodyFits result location (at_worker w) p
          moved = strand_frame f BodyFits V location location (at_worker w) (at_worker w) p
              (λ b. let a = linked.1 in omega (arith, b, a)) linked.2.place linked.2

          calmer : (deque : List (Strand Body)) → DequeFits BodyFits s location w p.number p.home deque → Unstolen s.count 2 p.scopes deque → Unstolen count 1 p.scopes deque
          calmer [] l c = tt
          calmer (x ∷ deque) l c = let b = subst (HasCount s.count 2) scopes c.0 in (
            subst (HasCount count 1) (sym scopes) (put_self s.count h.scope (s.count h.scope - 1) ∙ (let a = b.0 in omega (arith, a)), ones_put s.count h.scope (s.count h.scope - 1) ms low b.1),
            below_unstolen valid (λ k. k ≢ p.number) count (λ m l r held. put_other s.count h.scope (s.count h.scope - 1) m (λ d. r (ap s.owner d ∙ own.1)))
                w p.number p.home linked.2.home x deque (λ k less at d. omega (arith, less, d)) l c.1,
          )

      pop_by : (scopes : List ℕ) → p.scopes ≡ scopes → Above (Some h) scopes → (hole child : ℕ) → s.places h.scope h.place ≡ out hole child → ValidIn BodyFits P V (popped strands s w h end p later hole)
      pop_by [] g a hole child b = absurd a
      pop_by (m ∷ ms) g a hole child b = pop_in ms (g ∙ ap (λ m. m ∷ ms) (sym a)) hole child b

      pub pop_valid : (hole child : ℕ) → s.places h.scope h.place ≡ out hole child → ValidIn BodyFits P V (popped strands s w h end p later hole)
      pop_valid = pop_by p.scopes refl linked.0
