-- Deposits, surplus pages that are fetched and posted: the state is valid.
use Rattle.std.proofs.Common.{◌≡◌, ℕ, ◌+◌, ◌<◌, ◌≢◌, true, false, ◌==◌, if◌then◌else◌, List, Option, refl, sym, ap, ◌∙◌, subst, arith, length, drop, ne_eqb, eq-eqb}
use Rattle.std.specs.Prelude.{⊤}
use Rattle.cm_core.specs.Table.{put, total, weigh}
use Rattle.cm_core.specs.State.{Home, Place, State, Worker, arriving, back, depositing, free, out, width}
use Rattle.cm_core.specs.Event.{deposited}
use Rattle.cm_core.specs.Held.{slot_weight}
use Rattle.cm_core.specs.Valid.{IsLive, IsPost, Location, TaskFits, Valid, ValidIn, arriving_bit, at_scope, at_worker, out_bit, scope_weight}
use Rattle.cm_core.proofs.BoardLaw.{board_valid, frame_of}
use Rattle.cm_core.proofs.FrameLaw.{phase_frame}
use Rattle.cm_core.proofs.OneLaw.{arrivals}
use Rattle.cm_core.proofs.RunLaw.{arrives_as, fits_as, weighs_as}
use Rattle.cm_core.proofs.TableLaw.{at_put, at_split, front_self, put_other, put_self, sum_front, total_put}

pub arriving_self : (Body Ended : Type 0) (n : ℕ) → arriving_bit {Body = Body} {Ended = Ended} n (arriving n) ≡ 1
arriving_self Body Ended n = let e : (n == n) ≡ true = eq-eqb n n refl in rw e refl

pub arriving_other : (Body Ended : Type 0) (n m : ℕ) → m ≢ n → arriving_bit {Body = Body} {Ended = Ended} m (arriving n) ≡ 0
arriving_other Body Ended n m other = let e : (n == m) ≡ false = ne_eqb n m (λ d. other (sym d)) in rw e refl

pub nothing_behind : (h : ℕ → ℕ) (xs : List ℕ) → weigh h (drop (length xs) xs) ≡ 0
nothing_behind h xs = let a = sum_front h xs xs (front_self xs) in omega (arith, a)

pub child_in : {Ended : Type 0} → Place Ended → ℕ
child_in free = 0
child_in (out hole child) = child
child_in (back hole child e) = child

pub same_child : {Ended : Type 0} (h k c d : ℕ) (p : Place Ended) → p ≡ out h c → p ≡ out k d → c ≡ d
unfolding child_in
same_child h k c d p e f = ap child_in (sym e ∙ f)

module _ {Body Ended : Type 0} where
  module _ (s : State Body Ended) where
    -- another child's place, where this one is written over
    pub spots_put : (Q : ℕ → Type 0) (n i : ℕ) (p : Place Ended) → ((c hole : ℕ) → Q c → s.places n i ≡ out hole c → ⊥)
        → (m j c hole : ℕ) → Q c → s.places m j ≡ out hole c → put s.places n (put (s.places n) i p) m j ≡ out hole c
    spots_put Q n i p apart m j c hole q e = at_split n (λ m b. s.places m j ≡ out hole c → (if b then put (s.places n) i p else s.places m) j ≡ out hole c)
        (λ e. at_split i (λ j b. s.places n j ≡ out hole c → (if b then p else s.places n j) ≡ out hole c) (λ e. absurd (apart c hole q e)) (λ j other e. e) j e)
        (λ m other e. e) m e

    pub outs_put : (n i : ℕ) (p : Place Ended) → i < width
        → total width (λ j. out_bit (put s.places n (put (s.places n) i p) n j)) + out_bit (s.places n i) ≡ total width (λ j. out_bit (s.places n j)) + out_bit p
    outs_put n i p l = let a = ap (λ f. total width (λ j. out_bit (f j))) (put_self s.places n (put (s.places n) i p)) in
        let b = total_put width i (out_bit) (s.places n) p l in omega (arith, a, b)

    pub slots_put : (h : ℕ → ℕ) (n i : ℕ) (p : Option (List ℕ)) → i < width
        → total width (λ j. slot_weight h (put s.surplus n (put (s.surplus n) i p) n j)) + slot_weight h (s.surplus n i) ≡ total width (λ j. slot_weight h (s.surplus n j)) + slot_weight h p
    slots_put h n i p l = let a = ap (λ f. total width (λ j. slot_weight h (f j))) (put_self s.surplus n (put (s.surplus n) i p)) in
        let b = total_put width i (slot_weight h) (s.surplus n) p l in omega (arith, a, b)

    pub posts_put : (k n i : ℕ) (p : Option (List ℕ)) → IsPost k p → ((j : ℕ) → IsPost k (s.surplus n j)) → (j : ℕ) → IsPost k (put s.surplus n (put (s.surplus n) i p) n j)
    posts_put k n i p new old j = subst (λ f. IsPost k (f j)) (sym (put_self s.surplus n (put (s.surplus n) i p)))
        (at_put (λ j o. IsPost k o) (s.surplus n) i p new (λ j other. old j) j)

module _ {Body Ended : Type 0} {BodyFits : List ℕ → Body → Type 0} {P V : ℕ} where
  module _ {s : State Body Ended} {location : ℕ → Location} (valid : Valid BodyFits P V s location) (w : ℕ) (within : w < P) where
    abbrev me : Worker Body Ended
    me = s.workers w

    pub deposit_valid : (h : Home) (e : Ended) → me.task ≡ depositing h e → (hole child : ℕ) → s.places h.scope h.place ≡ out hole child → ValidIn BodyFits P V (deposited s w h e hole child)
    deposit_valid h e d hole child q = (
      location,
      board_valid valid w within s.words s.stopped s.strands (record me { task = arriving n })
          s.count places s.surplus s.phase location n
          (record {
            strands = omega arith;
            there = l;
            counted = λ m other. refl;
            placed = λ m other. put_other s.places n _ m other;
            posted = λ m other. refl;
            phases = λ m other. refl;
            sites = λ c l q. refl;
            alive = λ a. a;
            stays = λ m l a f. (valid.nested m n l a f).0;
            waits = waits;
            phase_at = λ q. refl;
            places_at = λ j c hole q. spots n j c hole q.0;
            arrives = λ m other. arriving_other Body Ended n m other ∙ sym (arrives_as valid w within _ d m);
            unstolen = λ v other. valid.unstolen v;
          })
          (record {
            fits = (z.0, z.1, l);
            parked = phase_frame
                (frame_of valid w within s.words s.stopped s.strands (record me { task = arriving n }) s.count places s.surplus s.phase location n
                (λ k. location k ≢ at_worker w) (λ k. ⊤) (omega arith) (λ m l q. refl) (λ m l a. a) (λ m j c hole l q. spots m j c hole q)) BodyFits V location location n (s.phase n) (λ k less at. ((λ b. subst IsWork (sym b ∙ at) tt), tt, at)) (valid.parked n l);
            counts =
                let a = valid.counts n l in let b = outs_put s n i (back hole child e) z.2.2.1 in
                let c = ap (out_bit) q in let f = arrivals valid w within (record me { task = arriving n }) n in
                let g = arriving_self Body Ended n in let j = arrives_as valid w within _ d n in omega (arith, a, b, c, f, g, j);
            joined = valid.joined n l;
            posts = λ j. valid.posts n j l;
            conserved = λ f. ap (λ x. x + scope_weight f s n) (sym (weighs_as valid w within _ d f));
            unstolen = tt;
          }),
    )
      where
        n : ℕ
        n = h.scope

        i : ℕ
        i = h.place

        z : TaskFits BodyFits V s location w me.pages me.store me.deque (depositing h e)
        z = fits_as valid w within (depositing h e) d

        l : h.scope < s.scopes
        l = z.2.2.0

        places : ℕ → ℕ → Place Ended
        places = put s.places h.scope (put (s.places h.scope) h.place (back hole child e))

        at : location child ≡ at_worker w
        at = subst (λ c. location c ≡ at_worker w) (same_child z.2.2.2.0 hole z.2.0 child (s.places h.scope h.place) z.2.2.2.1 q) z.2.3

        IsWork : Location → Type 0
        IsWork (at_worker v) = ⊤
        IsWork (at_scope v) = ⊥

        spots : (m j c hole : ℕ) → location c ≢ at_worker w → s.places m j ≡ out hole c → places m j ≡ out hole c
        spots = spots_put s (λ c. location c ≢ at_worker w) h.scope h.place (back hole child e)
            (λ c hole' q' e'. q' (subst (λ c. location c ≡ at_worker w) (same_child hole hole' child c (s.places h.scope h.place) q e') at))

        -- the child has no live scope
        waits : (m j hole : ℕ) → m < s.scopes → IsLive (s.phase m) → s.places h.scope j ≡ out hole (s.owner m) → places h.scope j ≡ out hole (s.owner m)
        waits m j hole' less a f = spots_put s (λ c. c ≡ s.owner m) h.scope h.place (back hole child e)
            (λ c k q g. z.2.4 m less a (sym q ∙ same_child k z.2.2.2.0 c z.2.0 (s.places h.scope h.place) g z.2.2.2.1)) h.scope j (s.owner m) hole' refl f
