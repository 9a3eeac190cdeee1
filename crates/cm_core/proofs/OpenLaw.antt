-- A scope that is opened keeps the state.
use Rattle.std.proofs.Common.{◌≡◌, ℕ, suc, ◌+◌, ◌<◌, ◌≤◌, ◌≢◌, ◌⊎◌, List, [], ◌∷◌, ◌++◌, Option, Some, None, refl, sym, ap, ◌∙◌, subst, arith, inl, inr, length, take, drop, length-take-le, take-append-drop, option_to_list, get_or}
use Rattle.std.specs.Prelude.{⊤}
use Rattle.std.proofs.lemmas.Bool.{cases_eq}
use Rattle.cm_core.specs.Table.{put, total, weigh}
use Rattle.cm_core.specs.State.{Home, Phase, State, Strand, Task, Worker, active, arriving, chain_of, closed, collecting, depositing, free, idle, innermost, joining, leaving, mapping, out, over, page_counts, running, suspended, width}
use Rattle.cm_core.specs.Event.{opened}
use Rattle.cm_core.specs.Held.{slot_weight}
use Rattle.cm_core.specs.Valid.{AreActive, DequeFits, HasCount, HomeFits, IsBelow, IsFront, IsIn, IsJoined, IsLive, IsOut, IsPost, Location, Nests, Ones, Owns, OwnsAll, PhaseFits, TaskFits, Unstolen, UnstolenAt, Valid, WorkerFits, active_bit, arriving_bit, base, out_bit, outstanding, own_weight, scope_weight, weight, worker_weight}
use Rattle.cm_core.proofs.BoardLaw.{IsAtWorker, number_of}
use Rattle.cm_core.proofs.FrameLaw.{Frame, IsThere, active_frame, chain_frame, counts_frame, deque_frame, innermost_there, owns_frame, phase_frame, task_frame}
use Rattle.cm_core.proofs.OneLaw.{arrivals}
use Rattle.cm_core.proofs.PlaceLaw.{arriving_other}
use Rattle.cm_core.proofs.RunLaw.{arrives_as, fits_as, unstolen_as, weighs_as}
use Rattle.cm_core.proofs.TableLaw.{at_most_total, at_put, front_take, put_other, put_self, sum_between, total_put, total_same, total_zero}
use Rattle.cm_core.proofs.UnstolenLaw.{AllBelow, below_unstolen, ones_put, unstolen_frame}

front_cut : (k : ℕ) (pages : List ℕ) → k ≤ length pages → IsFront (take k pages) pages
front_cut k pages l = sym (ap (λ n. take k pages ++ drop n pages) (length-take-le k pages l) ∙ take-append-drop k pages)

there_below : (n : ℕ) (o : Option ℕ) → IsThere n o → IsBelow n o
there_below n None i = i
there_below n (Some m) i = i

below_there : (n m : ℕ) (o : Option ℕ) → m < n → IsBelow m o → IsThere n o
below_there n m None l i = i
below_there n m (Some k) l i = omega (arith, l, i)

owns_below : (n : ℕ) (owner : ℕ → ℕ) (outer : ℕ → Option ℕ) (number : ℕ) (scopes : List ℕ) (home : Option Home) → Owns n owner outer number scopes home → AllBelow n scopes
owns_below n owner outer number [] home o = tt
owns_below n owner outer number (m ∷ scopes) home o = (o.0, owns_below n owner outer number scopes home o.3)

none_some : (x : ℕ) → ◌≡◌ {A = Option ℕ} None (Some x) → ⊥
none_some x d = let a = ap (λ o. length (option_to_list o)) d in omega (arith, a)

some_some : (x y : ℕ) → ◌≡◌ {A = Option ℕ} (Some x) (Some y) → x ≡ y
some_some x y d = ap (λ o. get_or (option_to_list o) 0 0) d

count_ones : (count : ℕ → ℕ) (scopes : List ℕ) → HasCount count 1 scopes → Ones count scopes
count_ones count [] h = h
count_ones count (n ∷ scopes) h = h

-- a scope's own pages, where its chain and the one round it are the same
own_like : {Body : Type 0} (h : ℕ → ℕ) (c c' : ℕ → List ℕ) (o : Option ℕ) (n : ℕ) (g : Phase Body) → chain_of c' o ≡ chain_of c o → c' n ≡ c n
    → own_weight h c' o n g ≡ own_weight h c o n g
own_like h c c' o n active e f = ap (λ a. weigh h (drop (length a) (c' n))) e ∙ ap (λ b. weigh h (drop (length (chain_of c o)) b)) f
own_like h c c' o n (suspended t) e f = ap (λ a. weigh h (drop (length a) (c' n))) e ∙ ap (λ b. weigh h (drop (length (chain_of c o)) b)) f
own_like h c c' o n joining e f = ap (λ a. weigh h (drop (length a) (c' n))) e ∙ ap (λ b. weigh h (drop (length (chain_of c o)) b)) f
own_like h c c' o n closed e f = refl

module _ {Body Ended : Type 0} {BodyFits : List ℕ → Body → Type 0} {P V : ℕ} where
  module _ {s : State Body Ended} {location : ℕ → Location} (valid : Valid BodyFits P V s location) (w : ℕ) (within : w < P) where
    abbrev me : Worker Body Ended
    me = s.workers w

    -- nobody arrives at a scope that isn't there
    none_arrive : (v : ℕ) (pages store : List ℕ) (deque : List (Strand Body)) (x : Task Body Ended) → TaskFits BodyFits V s location v pages store deque x → arriving_bit s.scopes x ≡ 0
    none_arrive v pages store deque idle f = refl
    none_arrive v pages store deque (mapping t) f = refl
    none_arrive v pages store deque (running t) f = refl
    none_arrive v pages store deque (depositing h e) f = refl
    none_arrive v pages store deque (arriving n) f = arriving_other Body Ended n s.scopes (λ d. let a = f.2 in omega (arith, a, d))
    none_arrive v pages store deque (leaving n) f = refl
    none_arrive v pages store deque (collecting t) f = refl
    none_arrive v pages store deque (over e) f = refl

    base_there : (v : ℕ) (pages store : List ℕ) (deque : List (Strand Body)) (x : Task Body Ended) → TaskFits BodyFits V s location v pages store deque x → IsThere s.scopes (base x)
    base_there v pages store deque idle f = tt
    base_there v pages store deque (mapping t) f = tt
    base_there v pages store deque (running t) f = innermost_there self t.number t.scopes t.home f.1.owns f.1.home
      where
        self : Frame s s (λ k. ⊤) (λ k. ⊤)
        self = record { strands = omega arith; scopes = omega arith; chain = λ n l. refl; owner = λ n l. refl; outer = λ n l. refl; phase = λ n l q. refl; live = λ n l a. a; fresh = λ n c l k q. absurd (omega (arith, l, k)); places = λ n i c hole l q e. e }
    base_there v pages store deque (depositing h e) f = f.2.2.0
    base_there v pages store deque (arriving n) f = f.2
    base_there v pages store deque (leaving n) f = tt
    base_there v pages store deque (collecting t) f = innermost_there self t.number t.scopes t.home f.1.owns f.1.home
      where
        self : Frame s s (λ k. ⊤) (λ k. ⊤)
        self = record { strands = omega arith; scopes = omega arith; chain = λ n l. refl; owner = λ n l. refl; outer = λ n l. refl; phase = λ n l q. refl; live = λ n l a. a; fresh = λ n c l k q. absurd (omega (arith, l, k)); places = λ n i c hole l q e. e }
    base_there v pages store deque (over e) f = tt

    module _ (t : Strand Body) (e : me.task ≡ running t) (k : ℕ) (b : Body) (least : length (chain_of s.chain (innermost t.scopes t.home)) ≤ k) (most : k ≤ length me.pages)
        (okay : BodyFits (k ∷ page_counts s.chain t.scopes t.home) b) where
      abbrev pub now : Worker Body Ended
      now = record me { task = running (record t { scopes = s.scopes ∷ t.scopes; body = b }) }

      abbrev after : State Body Ended
      after = opened s w t k b

      z : TaskFits BodyFits V s location w me.pages me.store me.deque (running t)
      z = fits_as valid w within (running t) e

      abbrev apart : (m : ℕ) → m < s.scopes → m ≢ s.scopes
      apart m l d = omega (arith, l, d)

      frame : Frame s after (λ k. k ≢ t.number) (λ k. ⊤)
      frame = record {
        strands = omega arith;
        scopes = omega arith;
        chain = λ m l. put_other s.chain s.scopes _ m (λ d. omega (arith, l, d));
        owner = λ m l. put_other s.owner s.scopes _ m (λ d. omega (arith, l, d));
        outer = λ m l. put_other s.outer s.scopes _ m (λ d. omega (arith, l, d));
        phase = λ m l q. put_other s.phase s.scopes _ m (λ d. omega (arith, l, d));
        live = λ m l a. subst (IsLive) (put_other s.phase s.scopes active m (λ d. omega (arith, l, d))) a;
        fresh = λ m c l k q d. q (sym d ∙ ap (put s.owner s.scopes t.number) (same m l k) ∙ put_self s.owner s.scopes t.number);
        places = λ m i c hole l q e. ap (λ f. f i) (put_other s.places s.scopes _ m (λ d. omega (arith, l, d))) ∙ e;
      }
        where
          same : (m : ℕ) → s.scopes ≤ m → m < suc s.scopes → m ≡ s.scopes
          same m l k = omega (arith, l, k)

      inner_there : IsThere s.scopes (innermost t.scopes t.home)
      inner_there = innermost_there frame t.number t.scopes t.home z.1.owns z.1.home

      same_chain : (o : Option ℕ) → IsThere s.scopes o → chain_of after.chain o ≡ chain_of s.chain o
      same_chain o i = chain_frame frame o i

      pub own_chain : (opened s w t k b).chain s.scopes ≡ take k me.pages
      own_chain = put_self s.chain s.scopes (take k me.pages)

      pub own_length : length ((opened s w t k b).chain s.scopes) ≡ k
      own_length = ap length own_chain ∙ length-take-le k me.pages most

      pub counts_new : page_counts (opened s w t k b).chain (s.scopes ∷ t.scopes) t.home ≡ k ∷ page_counts s.chain t.scopes t.home
      counts_new = ap (λ x. x ∷ page_counts after.chain t.scopes t.home) own_length
          ∙ ap (λ l. k ∷ l) (counts_frame frame t.number t.scopes t.home z.1.owns z.1.home)

      home_opened : (home : Option Home) → HomeFits s t.number home → HomeFits after t.number home
      home_opened None h = h
      home_opened (Some x) h = let a = h.0 in
          (omega (arith, a), h.1, (h.2.0, ap (λ f. f x.place) (put_other s.places s.scopes (λ i. free) x.scope (λ d. omega (arith, a, d))) ∙ h.2.1))

      all_opened : OwnsAll after t.number (s.scopes ∷ t.scopes)
      all_opened m l a o = by (cases_eq m s.scopes)
        where
          by : (m ≡ s.scopes) ⊎ (m ≡ s.scopes → ⊥) → IsIn (s.scopes ∷ t.scopes) m
          by (inl d) = inl (sym d)
          by (inr other) = inr (z.1.all m (omega (arith, l, other)) (subst (IsLive) (put_other s.phase s.scopes active m other) a)
              (sym (put_other s.owner s.scopes t.number m other) ∙ o))

      stays : (v : ℕ) → v ≢ w → WorkerFits BodyFits V after location v (s.workers v)
      stays v other = task_frame frame BodyFits V location location v (s.workers v).pages (s.workers v).store (s.workers v).deque (s.workers v).task
          (λ c l at. ((λ d. other (ap number_of (sym at ∙ ap location d ∙ z.1.place))), tt, at)) (valid.fits v)

      -- a claim of each scope that is there now
      each : (G : ℕ → Type 0) → G s.scopes → ((m : ℕ) → m < s.scopes → G m) → (m : ℕ) → m < suc s.scopes → G m
      each G one others m l = by (cases_eq m s.scopes)
        where
          by : (m ≡ s.scopes) ⊎ (m ≡ s.scopes → ⊥) → G m
          by (inl d) = subst G (sym d) one
          by (inr other) = others m (omega (arith, l, other))

      fits : (v : ℕ) → WorkerFits BodyFits V after location v (after.workers v)
      fits = at_put (λ v x. WorkerFits BodyFits V after location v x) s.workers w now (
        record { begins = subst (λ l. IsFront l me.pages) (sym own_chain) (front_cut k me.pages most); whole = z.0.whole },
        record {
          young = z.1.young;
          place = z.1.place;
          home = home_opened t.home z.1.home;
          owns = (omega arith, put_self s.owner s.scopes t.number, put_self s.outer s.scopes (innermost t.scopes t.home), owns_frame frame t.number t.scopes t.home z.1.owns);
          okay = subst (λ l. BodyFits l b) (sym counts_new) okay;
          all = all_opened;
        },
        (put_self s.phase s.scopes active, active_frame frame t.number t.scopes t.home tt z.1.owns z.2),
        deque_frame frame BodyFits V location location w t.number t.home me.deque (λ c l at. ((λ d. omega (arith, l, d)), tt, at)) z.3,
      )
          (λ v other. stays v other)

      parked : (m : ℕ) → m < suc s.scopes → PhaseFits BodyFits after location m (after.phase m)
      parked = each (λ m. PhaseFits BodyFits after location m (after.phase m))
          (subst (PhaseFits BodyFits after location s.scopes) (sym (put_self s.phase s.scopes active)) tt)
          (λ m l. subst (PhaseFits BodyFits after location m) (sym (frame.phase m l tt))
          (phase_frame frame BodyFits V location location m (s.phase m) (λ c less at. ((λ d. subst IsAtWorker (sym z.1.place ∙ ap location (sym d) ∙ at) tt), tt, at)) (valid.parked m l)))

      begins : (m : ℕ) → m < suc s.scopes → IsFront (chain_of after.chain (after.outer m)) (after.chain m)
      begins = each (λ m. IsFront (chain_of after.chain (after.outer m)) (after.chain m))
          (subst (λ o. IsFront (chain_of after.chain o) (after.chain s.scopes)) (sym (put_self s.outer s.scopes (innermost t.scopes t.home)))
          (subst (λ l. IsFront l (after.chain s.scopes)) (sym (same_chain (innermost t.scopes t.home) inner_there))
          (subst (IsFront (chain_of s.chain (innermost t.scopes t.home))) (sym own_chain) (front_take (chain_of s.chain (innermost t.scopes t.home)) me.pages k least z.0.begins))))
          (λ m l. subst (λ o. IsFront (chain_of after.chain o) (after.chain m)) (sym (frame.outer m l))
          (subst (λ c. IsFront c (after.chain m)) (sym (same_chain (s.outer m) (below_there s.scopes m (s.outer m) l (valid.below m l))))
          (subst (IsFront (chain_of s.chain (s.outer m))) (sym (frame.chain m l)) (valid.begins m l))))

      counts : (m : ℕ) → m < suc s.scopes → after.count m ≡ outstanding P after m
      counts = each (λ m. after.count m ≡ outstanding P after m)
          (let a = put_self s.count s.scopes 1 in let b = ap (active_bit) (put_self s.phase s.scopes active) in
          let c = ap (λ f. total width (λ i. out_bit (f i))) (put_self s.places s.scopes (λ i. free)) in
          let d = total_zero P (λ v. arriving_bit s.scopes (s.workers v).task) (λ v l. none_arrive v (s.workers v).pages (s.workers v).store (s.workers v).deque (s.workers v).task (valid.fits v)) in
          let f = arrivals valid w within now s.scopes in
          let g : total width (λ i. out_bit {Ended = Ended} free) ≡ 0 = refl in
          omega (arith, a, b, c, d, f, g))
          (λ m l. let a = valid.counts m l in let b = put_other s.count s.scopes 1 m (λ d. omega (arith, l, d)) in let c = ap (active_bit) (frame.phase m l tt) in
          let d = ap (λ f. total width (λ i. out_bit (f i))) (put_other s.places s.scopes (λ i. free) m (λ d. omega (arith, l, d))) in
          let f = arrivals valid w within now m in let g = arrives_as valid w within (running t) e m in
          omega (arith, a, b, c, d, f, g))

      same_base : (h : ℕ → ℕ) (v : ℕ) → worker_weight h after.chain (s.workers v) ≡ worker_weight h s.chain (s.workers v)
      same_base h v = ap (λ l. weigh h (s.workers v).store + weigh h (drop (length l) (s.workers v).pages))
          (same_chain (base (s.workers v).task) (base_there v (s.workers v).pages (s.workers v).store (s.workers v).deque (s.workers v).task (valid.fits v)))

      same_scope : (h : ℕ → ℕ) (m : ℕ) → m < s.scopes → scope_weight h after m ≡ scope_weight h s m
      same_scope h m l =
          let a = ap (own_weight h after.chain (after.outer m) m) (frame.phase m l tt) in
          let b = ap (λ o. own_weight h after.chain o m (s.phase m)) (frame.outer m l) in
          let c = own_like h s.chain after.chain (s.outer m) m (s.phase m) (same_chain (s.outer m) (below_there s.scopes m (s.outer m) l (valid.below m l))) (frame.chain m l) in
          let d = ap (λ f. total width (λ i. slot_weight h (f i))) (put_other s.surplus s.scopes (λ i. None) m (λ d. omega (arith, l, d))) in
          omega (arith, a, b, c, d)

      conserved : (h : ℕ → ℕ) → weight P h after ≡ weight P h s
      conserved h =
          let a = total_put P w (worker_weight h after.chain) s.workers now within in
          let b = total_same P (λ v. worker_weight h after.chain (s.workers v)) (λ v. worker_weight h s.chain (s.workers v)) (λ v l. same_base h v) in
          let c = same_base h w in
          let d = weighs_as valid w within (running t) e h in
          let f = total_same s.scopes (scope_weight h after) (scope_weight h s) (same_scope h) in
          let g : scope_weight h after s.scopes ≡ weigh h (drop (length (chain_of s.chain (innermost t.scopes t.home))) (take k me.pages)) = own_new in
          let j : worker_weight h after.chain now ≡ weigh h me.store + weigh h (drop (length (take k me.pages)) me.pages) = tail_new in
          let q = sum_between h (chain_of s.chain (innermost t.scopes t.home)) (take k me.pages) me.pages
          (front_take (chain_of s.chain (innermost t.scopes t.home)) me.pages k least z.0.begins) (front_cut k me.pages most) in
          omega (arith, a, b, c, d, f, g, j, q)
        where
          own_new : scope_weight h after s.scopes ≡ weigh h (drop (length (chain_of s.chain (innermost t.scopes t.home))) (take k me.pages))
          own_new =
              let a = ap (own_weight h after.chain (after.outer s.scopes) s.scopes) (put_self s.phase s.scopes active) in
              let b = ap (λ o. own_weight {Body = Body} h after.chain o s.scopes active) (put_self s.outer s.scopes (innermost t.scopes t.home)) in
              let c = ap (λ l. weigh h (drop (length l) (after.chain s.scopes))) (same_chain (innermost t.scopes t.home) inner_there) in
              let d = ap (λ l. weigh h (drop (length (chain_of s.chain (innermost t.scopes t.home))) l)) own_chain in
              let f = ap (λ f. total width (λ i. slot_weight h (f i))) (put_self s.surplus s.scopes (λ i. None)) in
              let g : total width (λ i. slot_weight h None) ≡ 0 = refl in
              omega (arith, a, b, c, d, f, g)

          tail_new : worker_weight h after.chain now ≡ weigh h me.store + weigh h (drop (length (take k me.pages)) me.pages)
          tail_new = ap (λ l. weigh h me.store + weigh h (drop (length l) me.pages)) own_chain

      -- the scope round the new one
      abbrev IsRound : ℕ → Type 0
      IsRound x = (x < s.scopes) × IsLive (s.phase x) × ((t.number ≡ s.owner x) ⊎ ((i : ℕ) × (hole : ℕ) × (i < width) × (s.places x i ≡ out hole t.number)))

      waiting_live : (h : Home) → IsOut s t.number h → IsLive (s.phase h.scope)
      waiting_live h o = by (s.phase h.scope) (λ g. valid.joined h.scope o.0 g)
        where
          more : 1 ≤ s.count h.scope
          more = let a = valid.counts h.scope o.0 in let b = at_most_total width h.place (λ i. out_bit (s.places h.scope i)) o.1 in
              let c = ap (out_bit) o.2.1 in omega (arith, a, b, c)

          by : (g : Phase Body) → (IsJoined g → s.count h.scope ≡ 0) → IsLive g
          by active j = tt
          by (suspended q) j = tt
          by joining j = tt
          by closed j = let a = j tt in omega (arith, a, more)

      round_of : (scopes : List ℕ) (home : Option Home) → t.scopes ≡ scopes → t.home ≡ home → (x : ℕ) → innermost scopes home ≡ Some x → IsRound x
      round_of [] None a b x d = absurd (none_some x d)
      round_of [] (Some h) a b x d = let o = subst (HomeFits s t.number) b z.1.home in
          subst IsRound (some_some h.scope x d) (o.0, waiting_live h o, inr (h.place, o.2.0, o.1, o.2.1))
      round_of (y ∷ scopes) home a b x d = let o = subst (λ l. Owns s.scopes s.owner s.outer t.number l t.home) a z.1.owns in
          subst IsRound (some_some y x d) (o.0, subst (IsLive) (sym (subst (AreActive s.phase) a z.2).0) tt, inl (sym o.1))

      nest : (m x : ℕ) → m < suc s.scopes → IsLive (after.phase m) → after.outer m ≡ Some x → Nests after m x
      nest m x l = each (λ m. IsLive (after.phase m) → after.outer m ≡ Some x → Nests after m x) new old m l
        where
          as_it_was : (x owner owner' : ℕ) → owner' ≡ owner → x < s.scopes → IsLive (s.phase x) → ((owner ≡ s.owner x) ⊎ ((i : ℕ) × (hole : ℕ) × (i < width) × (s.places x i ≡ out hole owner)))
              → IsLive (after.phase x) × ((owner' ≡ after.owner x) ⊎ ((i : ℕ) × (hole : ℕ) × (i < width) × (after.places x i ≡ out hole owner')))
          as_it_was x owner owner' e less a (inl o) = (subst (IsLive) (sym (frame.phase x less tt)) a, inl (e ∙ o ∙ sym (frame.owner x less)))
          as_it_was x owner owner' e less a (inr o) = (
            subst (IsLive) (sym (frame.phase x less tt)) a,
            inr (o.0, o.1, o.2, ap (λ f. f o.0) (put_other s.places s.scopes (λ i. free) x (λ d. omega (arith, less, d))) ∙ o.3 ∙ ap (out o.1) (sym e)),
          )

          new : IsLive (after.phase s.scopes) → after.outer s.scopes ≡ Some x → Nests after s.scopes x
          new a d = let r = round_of t.scopes t.home refl refl x (sym (put_self s.outer s.scopes (innermost t.scopes t.home)) ∙ d) in
              as_it_was x t.number (after.owner s.scopes) (put_self s.owner s.scopes t.number) r.0 r.1 r.2

          old : (m : ℕ) → m < s.scopes → IsLive (after.phase m) → after.outer m ≡ Some x → Nests after m x
          old m l a d = let d' = sym (frame.outer m l) ∙ d in let r = valid.nested m x l (frame.live m l a) d' in
              as_it_was x (s.owner m) (after.owner m) (frame.owner m l) (subst (IsThere s.scopes) d' (below_there s.scopes m (s.outer m) l (valid.below m l))) r.0 r.1

      unstolen : (v : ℕ) → UnstolenAt after.count (after.workers v).deque (after.workers v).task
      unstolen = at_put (λ v x. UnstolenAt after.count x.deque x.task) s.workers w now
          (calmer me.deque z.3 (unstolen_as valid w within (running t) e))
          (λ v other. unstolen_frame valid (λ k. ⊤) after.count (λ m l r held. put_other s.count s.scopes 1 m (λ d. omega (arith, l, d)))
          v (s.workers v).pages (s.workers v).store (s.workers v).deque (s.workers v).task (λ k at. tt) (valid.fits v) (valid.unstolen v))
        where
          calmer : (deque : List (Strand Body)) → DequeFits BodyFits s location w t.number t.home deque → Unstolen s.count 1 t.scopes deque → Unstolen after.count 1 (s.scopes ∷ t.scopes) deque
          calmer [] l c = tt
          calmer (p ∷ deque) l c = (
            (put_self s.count s.scopes 1, ones_put s.count s.scopes 1 t.scopes (owns_below s.scopes s.owner s.outer t.number t.scopes t.home z.1.owns) (count_ones s.count t.scopes c.0)),
            below_unstolen valid (λ k. ⊤) after.count (λ m l r held. put_other s.count s.scopes 1 m (λ d. omega (arith, l, d)))
                w t.number t.home z.1.home p deque (λ k less at. tt) l c.1,
          )

      pub open_valid : Valid BodyFits P V (opened s w t k b) location
      open_valid = record {
        fits = fits;
        parked = parked;
        below = each (λ m. IsBelow m (after.outer m))
            (subst (IsBelow s.scopes) (sym (put_self s.outer s.scopes (innermost t.scopes t.home))) (there_below s.scopes (innermost t.scopes t.home) inner_there))
            (λ m l. subst (IsBelow m) (sym (frame.outer m l)) (valid.below m l));
        begins = begins;
        short = each (λ m. length (after.chain m) ≤ V)
            (let a = own_length in let b = z.0.whole in omega (arith, a, b, most))
            (λ m l. subst (λ c. length c ≤ V) (sym (frame.chain m l)) (valid.short m l));
        counts = counts;
        joined = each (λ m. IsJoined (after.phase m) → after.count m ≡ 0)
            (λ j. absurd (subst (IsJoined) (put_self s.phase s.scopes active) j))
            (λ m l j. put_other s.count s.scopes 1 m (λ d. omega (arith, l, d)) ∙ valid.joined m l (subst (IsJoined) (frame.phase m l tt) j));
        posts = λ m i l. each (λ m. IsPost (length (after.chain m)) (after.surplus m i))
            (subst (λ f. IsPost (length (after.chain s.scopes)) (f i)) (sym (put_self s.surplus s.scopes (λ i. None))) tt)
            (λ m l. subst (λ c. IsPost (length c) (after.surplus m i)) (sym (frame.chain m l))
            (subst (λ f. IsPost (length (s.chain m)) (f i)) (sym (put_other s.surplus s.scopes (λ i. None) m (λ d. omega (arith, l, d)))) (valid.posts m i l))) m l;
        conserved = λ h. conserved h ∙ valid.conserved h;
        owners = each (λ m. after.owner m < s.strands) (let a = put_self s.owner s.scopes t.number in let b = z.1.young in omega (arith, a, b))
            (λ m l. let a = frame.owner m l in let b = valid.owners m l in omega (arith, a, b));
        nested = nest;
        unstolen = unstolen;
      }
