-- Turns that change one worker and the board of one scope.
use Rattle.std.proofs.Common.{◌≡◌, ℕ, ◌+◌, ◌<◌, ◌≤◌, ◌≢◌, ◌⊎◌, Bool, List, Option, Some, refl, sym, ap, ◌∙◌, subst, arith, inl, inr, length}
use Rattle.std.specs.Prelude.{⊤}
use Rattle.std.proofs.lemmas.Bool.{cases_eq}
use Rattle.cm_core.specs.Table.{put, total}
use Rattle.cm_core.specs.State.{Phase, Place, State, Worker, out, width}
use Rattle.cm_core.specs.Held.{slot_weight}
use Rattle.cm_core.specs.Valid.{IsJoined, IsLive, IsPost, Location, Nests, PhaseFits, UnstolenAt, Valid, WorkerFits, active_bit, arriving_bit, at_scope, at_worker, out_bit, outstanding, own_weight, scope_weight, worker_weight}
use Rattle.cm_core.proofs.FrameLaw.{Frame, phase_frame, task_frame}
use Rattle.cm_core.proofs.OneLaw.{arrivals, weights}
use Rattle.cm_core.proofs.TableLaw.{at_put, total_at}

abbrev pub number_of : Location → ℕ
number_of (at_worker v) = v
number_of (at_scope n) = n

abbrev pub IsAtWorker : Location → Type 0
IsAtWorker (at_worker v) = ⊤
IsAtWorker (at_scope n) = ⊥

-- neither with this worker nor parked in this scope
abbrev pub IsApart : (ℕ → Location) → (w n : ℕ) → ℕ → Type 0
IsApart location w n k = (location k ≢ at_worker w) × (location k ≢ at_scope n)

pub other_worker : (location : ℕ → Location) (w n v k : ℕ) → v ≢ w → location k ≡ at_worker v → IsApart location w n k
other_worker location w n v k other e = (λ d. other (ap number_of (sym e ∙ d)), λ d. subst IsAtWorker (sym e ∙ d) tt)

pub other_scope : (location : ℕ → Location) (w n m k : ℕ) → m ≢ n → location k ≡ at_scope m → IsApart location w n k
other_scope location w n m k other e = (λ d. subst IsAtWorker (sym d ∙ e) tt, λ d. other (ap number_of (sym e ∙ d)))

module _ {Body Ended : Type 0} {BodyFits : List ℕ → Body → Type 0} {P V : ℕ} {s : State Body Ended} {location : ℕ → Location} (valid : Valid BodyFits P V s location) (w : ℕ) (within : w < P) where
  module _ (words : ℕ → ℕ) (stopped : Bool) (k : ℕ) (me : Worker Body Ended) (count : ℕ → ℕ) (places : ℕ → ℕ → Place Ended)
      (surplus : ℕ → ℕ → Option (List ℕ)) (phase : ℕ → Phase Body) (location' : ℕ → Location) (n : ℕ) where
    abbrev pub after : State Body Ended
    after = record s { words = words; stopped = stopped; strands = k; workers = put s.workers w me; count = count; places = places; surplus = surplus; phase = phase }

    -- what is said of all but the worker and the scope
    pub record Elsewhere : Type 0 where
      pub strands : s.strands ≤ k
      pub there : n < s.scopes
      pub counted : (m : ℕ) → m ≢ n → count m ≡ s.count m
      pub placed : (m : ℕ) → m ≢ n → places m ≡ s.places m
      pub posted : (m : ℕ) → m ≢ n → surplus m ≡ s.surplus m
      pub phases : (m : ℕ) → m ≢ n → phase m ≡ s.phase m
      pub sites : (c : ℕ) → c < s.strands → IsApart location w n c → location' c ≡ location c
      pub alive : IsLive (phase n) → IsLive (s.phase n)
      -- a scope with a live one inside stays live, and a live scope's owner that is out stays so
      pub stays : (m : ℕ) → m < s.scopes → IsLive (phase m) → s.outer m ≡ Some n → IsLive (phase n)
      pub waits : (m i hole : ℕ) → m < s.scopes → IsLive (s.phase m) → s.places n i ≡ out hole (s.owner m) → places n i ≡ out hole (s.owner m)
      pub phase_at : IsApart location w n (s.owner n) → phase n ≡ s.phase n
      pub places_at : (i c hole : ℕ) → IsApart location w n c → s.places n i ≡ out hole c → places n i ≡ out hole c
      pub arrives : (m : ℕ) → m ≢ n → arriving_bit m me.task ≡ arriving_bit m (s.workers w).task
      pub unstolen : (v : ℕ) → v ≢ w → UnstolenAt count (s.workers v).deque (s.workers v).task

    -- what is said of the worker and the scope
    pub record There : Type 0 where
      pub fits : WorkerFits BodyFits V after location' w me
      pub parked : PhaseFits BodyFits after location' n (phase n)
      pub counts : count n ≡ outstanding P after n
      pub joined : IsJoined (phase n) → count n ≡ 0
      pub posts : (i : ℕ) → IsPost (length (s.chain n)) (surplus n i)
      pub conserved : (h : ℕ → ℕ) → worker_weight h s.chain me + scope_weight h after n
          ≡ worker_weight h s.chain (s.workers w) + scope_weight h s n
      pub unstolen : UnstolenAt count me.deque me.task

    pub frame_of : (Q R : ℕ → Type 0) → s.strands ≤ k → ((m : ℕ) → m < s.scopes → R (s.owner m) → phase m ≡ s.phase m)
        → ((m : ℕ) → m < s.scopes → IsLive (phase m) → IsLive (s.phase m))
        → ((m i c hole : ℕ) → m < s.scopes → Q c → s.places m i ≡ out hole c → places m i ≡ out hole c) → Frame s after Q R
    frame_of Q R l g a p = record { strands = l; scopes = omega arith; chain = λ m l. refl; owner = λ m l. refl; outer = λ m l. refl; phase = g; live = a; fresh = λ m c l k q. absurd (omega (arith, l, k)); places = p }

    pub lives : Elsewhere → (m : ℕ) → m < s.scopes → IsLive (phase m) → IsLive (s.phase m)
    lives e m l a = by (cases_eq m n)
      where
        by : (m ≡ n) ⊎ (m ≡ n → ⊥) → IsLive (s.phase m)
        by (inl d) = subst (λ m. IsLive (phase m) → IsLive (s.phase m)) (sym d) e.alive a
        by (inr other) = subst (IsLive) (e.phases m other) a

    frame : Elsewhere → Frame s after (IsApart location w n) (IsApart location w n)
    frame e = frame_of (IsApart location w n) (IsApart location w n) e.strands phases (lives e) spots
      where
        phases : (m : ℕ) → m < s.scopes → IsApart location w n (s.owner m) → phase m ≡ s.phase m
        phases m l q = by (cases_eq m n)
          where
            by : (m ≡ n) ⊎ (m ≡ n → ⊥) → phase m ≡ s.phase m
            by (inl d) = subst (λ m. IsApart location w n (s.owner m) → phase m ≡ s.phase m) (sym d) e.phase_at q
            by (inr other) = e.phases m other

        spots : (m i c hole : ℕ) → m < s.scopes → IsApart location w n c → s.places m i ≡ out hole c → places m i ≡ out hole c
        spots m i c hole l q d = by (cases_eq m n)
          where
            by : (m ≡ n) ⊎ (m ≡ n → ⊥) → places m i ≡ out hole c
            by (inl same) = subst (λ m. s.places m i ≡ out hole c → places m i ≡ out hole c) (sym same) (e.places_at i c hole q) d
            by (inr other) = ap (λ f. f i) (e.placed m other) ∙ d

    pub board_valid : Elsewhere → There → Valid BodyFits P V after location'
    board_valid e t = record {
      fits = at_put (λ v x. WorkerFits BodyFits V after location' v x) s.workers w me t.fits
          (λ v other. task_frame (frame e) BodyFits V location location' v (s.workers v).pages (s.workers v).store (s.workers v).deque (s.workers v).task
          (λ c l d. let a = other_worker location w n v c other d in (a, a, e.sites c l a ∙ d)) (valid.fits v));
      parked = λ m l. by_scope m (λ m. m < s.scopes → PhaseFits BodyFits after location' m (phase m)) (λ l. t.parked)
          (λ m other l. subst (PhaseFits BodyFits after location' m) (sym (e.phases m other))
          (phase_frame (frame e) BodyFits V location location' m (s.phase m)
          (λ c l d. let a = other_scope location w n m c other d in (a, a, e.sites c l a ∙ d)) (valid.parked m l))) l;
      below = valid.below;
      begins = valid.begins;
      short = valid.short;
      counts = λ m l. by_scope m (λ m. m < s.scopes → count m ≡ outstanding P after m) (λ l. t.counts) counts l;
      joined = λ m l. by_scope m (λ m. m < s.scopes → IsJoined (phase m) → count m ≡ 0) (λ l. t.joined)
          (λ m other l j. e.counted m other ∙ valid.joined m l (subst (IsJoined) (e.phases m other) j)) l;
      posts = λ m i l. by_scope m (λ m. m < s.scopes → IsPost (length (s.chain m)) (surplus m i)) (λ l. t.posts i)
          (λ m other l. subst (IsPost (length (s.chain m))) (ap (λ f. f i) (sym (e.posted m other))) (valid.posts m i l)) l;
      conserved = λ h.
          let a = valid.conserved h in let b = weights valid w within s.chain me h in let c = t.conserved h in
          let d = total_at s.scopes n (scope_weight h after) (scope_weight h s) e.there (λ m other. same_weight h m other) in
          omega (arith, a, b, c, d);
      owners = λ m l. let a = valid.owners m l in let b = e.strands in omega (arith, a, b);
      nested = nests;
      unstolen = at_put (λ v x. UnstolenAt count x.deque x.task) s.workers w me t.unstolen e.unstolen;
    }
      where
        nests : (m x : ℕ) → m < s.scopes → IsLive (phase m) → s.outer m ≡ Some x → Nests after m x
        nests m x l a d = by (cases_eq x n) (valid.nested m x l (lives e m l a) d)
          where
            by : (x ≡ n) ⊎ (x ≡ n → ⊥) → Nests s m x → Nests after m x
            by (inl b) old = subst (λ x. s.outer m ≡ Some x → Nests s m x → Nests after m x) (sym b) at_n d old
              where
                outs : Nests s m n → ((s.owner m ≡ s.owner n) ⊎ ((i : ℕ) × (hole : ℕ) × (i < width) × (places n i ≡ out hole (s.owner m))))
                outs (z, inl same) = inl same
                outs (z, inr o) = inr (o.0, o.1, o.2, e.waits m o.0 o.1 l (lives e m l a) o.3)

                at_n : s.outer m ≡ Some n → Nests s m n → Nests after m n
                at_n d old = (e.stays m l a d, outs old)
            by (inr other) (z, inl same) = (subst (IsLive) (sym (e.phases x other)) z, inl same)
            by (inr other) (z, inr o) = (subst (IsLive) (sym (e.phases x other)) z, inr (o.0, o.1, o.2, ap (λ f. f o.0) (e.placed x other) ∙ o.3))

        by_scope : (m : ℕ) (G : ℕ → Type 0) → G n → ((m : ℕ) → m ≢ n → G m) → G m
        by_scope m G one away = by (cases_eq m n)
          where
            by : (m ≡ n) ⊎ (m ≡ n → ⊥) → G m
            by (inl d) = subst G (sym d) one
            by (inr other) = away m other

        counts : (m : ℕ) → m ≢ n → m < s.scopes → count m ≡ outstanding P after m
        counts m other l =
            let a = valid.counts m l in let b = arrivals valid w within me m in let c = e.arrives m other in
            let d = e.counted m other in let f = ap (active_bit) (e.phases m other) in
            let g = ap (λ f. total width (λ i. out_bit (f i))) (e.placed m other) in
            omega (arith, a, b, c, d, f, g)

        same_weight : (h : ℕ → ℕ) (m : ℕ) → m ≢ n → scope_weight h after m ≡ scope_weight h s m
        same_weight h m other =
            let a = ap (own_weight h s.chain (s.outer m) m) (e.phases m other) in
            let b = ap (λ f. total width (λ i. slot_weight h (f i))) (e.posted m other) in omega (arith, a, b)

-- the phases where one of them changes
pub lives_put : {Body Ended : Type 0} (s : State Body Ended) (n : ℕ) (g : Phase Body) → (IsLive g → IsLive (s.phase n)) → (m : ℕ) → m < s.scopes → IsLive (put s.phase n g m) → IsLive (s.phase m)
lives_put s n g old m l = at_put (λ m x. IsLive x → IsLive (s.phase m)) s.phase n g old (λ m other a. a) m
