-- Each row of the table keeps the balance of posts.
use Rattle.std.proofs.Common.{◌≡◌, ℕ, suc, ◌+◌, ◌-◌, ◌<◌, ◌≤◌, ◌≢◌, ◌⊎◌, true, false, ◌==◌, List, [], ◌∷◌, ◌++◌, Option, Some, None, refl, sym, ap, ◌∙◌, subst, arith, inl, inr, length, take, drop, eq-eqb, ne_eqb}
use Rattle.std.proofs.lemmas.Bool.{cases_eq}
use Rattle.cm_core.specs.Table.{put, total}
use Rattle.cm_core.specs.State.{Home, Phase, State, Strand, Task, Worker, active, arriving, closed, collecting, depositing, idle, joining, leaving, mapping, out, over, running, suspended, width}
use Rattle.cm_core.specs.Event.{Strands, cut, inside_of, left, mapped, opened, popped, resumed, spawned, stolen, with_body}
use Rattle.cm_core.specs.Turn.{is_filled}
use Rattle.cm_core.specs.Row.{Row, arrive_row, collect_row, crowded_row, deposit_row, early_collect_row, empty_row, fail_row, fetch_row, finish_row, first_spawn_row, full_row, instruction_row, last_arrive_row, last_park_row, map_row, orphan_row, over_row, page_row, park_row, pop_row, row_result, resume_row, spawn_row, steal_row, stopped_row, unposted_row}
use Rattle.cm_core.specs.Valid.{Above, AreActive, DequeFits, HomeFits, IsJoined, IsJoining, Location, Owns, TaskFits, Valid, out_bit}
use Rattle.cm_core.specs.Goes.{KeepsFit, WorkerGoes}
use Rattle.cm_core.specs.Post.{Posted, PostedIn, filled_bit, heads, joined_bit, leaving_bit, mapping_bit, queued, waiting}
use Rattle.cm_core.proofs.RowLaw.{at_least}
use Rattle.cm_core.proofs.RunLaw.{fits_as}
use Rattle.cm_core.proofs.TableLaw.{at_most_total, at_put, put_other, put_self, total_put, total_zero}
use Rattle.cm_core.proofs.ValidLaw.{empty_at, opener_runs, opening_valid}

pub heads_self : (n : ℕ) (scopes : List ℕ) → heads n (n ∷ scopes) ≡ 1
heads_self n scopes = let e : (n == n) ≡ true = eq-eqb n n refl in rw e refl

pub heads_other : (n m : ℕ) (scopes : List ℕ) → m ≢ n → heads m (n ∷ scopes) ≡ 0
heads_other n m scopes other = let e : (n == m) ≡ false = ne_eqb n m (λ d. other (sym d)) in rw e refl

-- the scope of a home is the innermost one of these
heads_above : (h : Home) (scopes : List ℕ) → Above (Some h) scopes → (heads h.scope scopes ≡ 1) × ((m : ℕ) → m ≢ h.scope → heads m scopes ≡ 0)
heads_above h [] a = absurd a
heads_above h (n ∷ scopes) a = subst (λ k. (heads k (n ∷ scopes) ≡ 1) × ((m : ℕ) → m ≢ k → heads m (n ∷ scopes) ≡ 0)) (sym a) (heads_self n scopes, λ m other. heads_other n m scopes other)

queued_last : {Body : Type 0} (n : ℕ) (later : List (Strand Body)) (t : Strand Body) → queued n (later ++ t ∷ []) ≡ queued n later + heads n t.scopes
queued_last n [] t = omega arith
queued_last n (q ∷ later) t = let a = queued_last n later t in omega (arith, a)

module _ {Body Ended : Type 0} (P : ℕ) (s : State Body Ended) (w : ℕ) (within : w < P) where
  abbrev me : Worker Body Ended
  me = s.workers w

  -- one worker changes, and what changes at each scope is in balance
  posted_by : (now : Worker Body Ended) (surplus : ℕ → ℕ → Option (List ℕ)) (count : ℕ → ℕ) (phase : ℕ → Phase Body) → PostedIn P s
      → ((n : ℕ) → n < s.scopes → total width (λ i. filled_bit (surplus n i)) + waiting n now + leaving_bit n me.task + s.count n + joined_bit (s.phase n)
      ≡ total width (λ i. filled_bit (s.surplus n i)) + waiting n me + leaving_bit n now.task + count n + joined_bit (phase n))
      → Posted P s.scopes (put s.workers w now) surplus count phase
  posted_by now surplus count phase posted balance n l =
      let a = posted n l in let b = balance n l in
      let c = total_put P w (waiting n) s.workers now within in
      let d = total_put P w (λ x. leaving_bit n x.task) s.workers now within in omega (arith, a, b, c, d)

  -- nothing of it changes
  posted_same : (now : Worker Body Ended) → PostedIn P s → ((n : ℕ) → waiting n now ≡ waiting n me) → ((n : ℕ) → leaving_bit n now.task ≡ leaving_bit n me.task)
      → Posted P s.scopes (put s.workers w now) s.surplus s.count s.phase
  posted_same now posted a b = posted_by now s.surplus s.count s.phase posted (λ n l. let c = a n in let d = b n in omega (arith, c, d))

  -- a claim at one scope and at the others
  pub at_scope_or : (n : ℕ) (G : ℕ → Type 0) → G n → ((m : ℕ) → m ≢ n → G m) → (m : ℕ) → G m
  at_scope_or n G one others m = by (cases_eq m n)
    where
      by : (m ≡ n) ⊎ (m ≡ n → ⊥) → G m
      by (inl d) = subst G (sym d) one
      by (inr other) = others m other

  filled_put : (n i : ℕ) (o : Option (List ℕ)) → i < width
      → total width (λ j. filled_bit (put s.surplus n (put (s.surplus n) i o) n j)) + filled_bit (s.surplus n i) ≡ total width (λ j. filled_bit (s.surplus n j)) + filled_bit o
  filled_put n i o l = let a = ap (λ f. total width (λ j. filled_bit (f j))) (put_self s.surplus n (put (s.surplus n) i o)) in
      let b = total_put width i filled_bit (s.surplus n) o l in omega (arith, a, b)

  -- the post of one scope changes, and so does the worker
  posted_slot : (now : Worker Body Ended) (n i : ℕ) (o : Option (List ℕ)) → i < width → PostedIn P s
      → filled_bit o + waiting n now + leaving_bit n me.task ≡ filled_bit (s.surplus n i) + waiting n me + leaving_bit n now.task
      → ((m : ℕ) → m ≢ n → waiting m now + leaving_bit m me.task ≡ waiting m me + leaving_bit m now.task)
      → Posted P s.scopes (put s.workers w now) (put s.surplus n (put (s.surplus n) i o)) s.count s.phase
  posted_slot now n i o less posted one others = posted_by now (put s.surplus n (put (s.surplus n) i o)) s.count s.phase posted
      (λ m l. at_scope_or n (λ m. total width (λ j. filled_bit (put s.surplus n (put (s.surplus n) i o) m j)) + waiting m now + leaving_bit m me.task + s.count m + joined_bit (s.phase m)
      ≡ total width (λ j. filled_bit (s.surplus m j)) + waiting m me + leaving_bit m now.task + s.count m + joined_bit (s.phase m))
      (let a = filled_put n i o less in omega (arith, a, one))
      (λ m other. let a = others m other in let b = ap (λ f. total width (λ j. filled_bit (f j))) (put_other s.surplus n (put (s.surplus n) i o) m other) in omega (arith, a, b)) m)

  -- the count and the phase of one scope change, and so does the worker
  posted_phase : (now : Worker Body Ended) (n c : ℕ) (g : Phase Body) → PostedIn P s
      → waiting n now + leaving_bit n me.task + s.count n + joined_bit (s.phase n) ≡ waiting n me + leaving_bit n now.task + c + joined_bit g
      → ((m : ℕ) → m ≢ n → waiting m now + leaving_bit m me.task ≡ waiting m me + leaving_bit m now.task)
      → Posted P s.scopes (put s.workers w now) s.surplus (put s.count n c) (put s.phase n g)
  posted_phase now n c g posted one others = posted_by now s.surplus (put s.count n c) (put s.phase n g) posted
      (λ m l. at_scope_or n (λ m. total width (λ j. filled_bit (s.surplus m j)) + waiting m now + leaving_bit m me.task + s.count m + joined_bit (s.phase m)
      ≡ total width (λ j. filled_bit (s.surplus m j)) + waiting m me + leaving_bit m now.task + put s.count n c m + joined_bit (put s.phase n g m))
      (let a = put_self s.count n c in let b = ap (joined_bit) (put_self s.phase n g) in omega (arith, a, b, one))
      (λ m other. let a = others m other in let b = put_other s.count n c m other in let d = ap (joined_bit) (put_other s.phase n g m other) in omega (arith, a, b, d)) m)

  posted_count : (now : Worker Body Ended) (n c : ℕ) → PostedIn P s
      → waiting n now + leaving_bit n me.task + s.count n ≡ waiting n me + leaving_bit n now.task + c
      → ((m : ℕ) → m ≢ n → waiting m now + leaving_bit m me.task ≡ waiting m me + leaving_bit m now.task)
      → Posted P s.scopes (put s.workers w now) s.surplus (put s.count n c) s.phase
  posted_count now n c posted one others = posted_by now s.surplus (put s.count n c) s.phase posted
      (λ m l. at_scope_or n (λ m. total width (λ j. filled_bit (s.surplus m j)) + waiting m now + leaving_bit m me.task + s.count m + joined_bit (s.phase m)
      ≡ total width (λ j. filled_bit (s.surplus m j)) + waiting m me + leaving_bit m now.task + put s.count n c m + joined_bit (s.phase m))
      (let a = put_self s.count n c in omega (arith, a, one))
      (λ m other. let a = others m other in let b = put_other s.count n c m other in omega (arith, a, b)) m)

  -- the worker's task, named
  waits_as : (x : Task Body Ended) → me.task ≡ x → (n : ℕ) → waiting n me ≡ mapping_bit n x + queued n me.deque
  waits_as x e n = ap (λ x. mapping_bit n x + queued n me.deque) e

  leaves_as : (x : Task Body Ended) → me.task ≡ x → (n : ℕ) → leaving_bit n me.task ≡ leaving_bit n x
  leaves_as x e n = ap (leaving_bit n) e

  leaving_self : (n : ℕ) → leaving_bit {Body = Body} {Ended = Ended} n (leaving n) ≡ 1
  leaving_self n = heads_self n []

  leaving_other : (n m : ℕ) → m ≢ n → leaving_bit {Body = Body} {Ended = Ended} m (leaving n) ≡ 0
  leaving_other n m other = heads_other n m [] other

module _ {Body Ended : Type 0} {BodyFits : List ℕ → Body → Type 0} {P V : ℕ} {s : State Body Ended} {location : ℕ → Location} (valid : Valid BodyFits P V s location) where
  -- nothing waits at a scope that is the innermost one of no strand whose scopes are active
  module _ (n : ℕ) (apart : (number : ℕ) (scopes : List ℕ) (home : Option Home) → Owns s.scopes s.owner s.outer number scopes home → AreActive s.phase scopes → heads n scopes ≡ 0) where
    none_queued : (v number : ℕ) (home : Option Home) (deque : List (Strand Body)) → DequeFits BodyFits s location v number home deque → queued n deque ≡ 0
    none_queued v number home [] l = refl
    none_queued v number home (p ∷ deque) l = let a = apart p.number p.scopes p.home l.2.owns l.3 in let b = none_queued v p.number p.home deque l.4 in omega (arith, a, b)

    bare : (deque : List (Strand Body)) → deque ≡ [] → queued n deque ≡ 0
    bare deque d = ap (queued n) d

    pub none_wait : (v : ℕ) (pages store : List ℕ) (deque : List (Strand Body)) (x : Task Body Ended) → TaskFits BodyFits V s location v pages store deque x → mapping_bit n x + queued n deque ≡ 0
    none_wait v pages store deque idle f = let a = bare deque f.1 in omega (arith, a)
    none_wait v pages store deque (mapping t) f = let a = bare deque f.1 in let b = apart t.number t.scopes t.home f.3.owns f.4 in omega (arith, a, b)
    none_wait v pages store deque (running t) f = let a = none_queued v t.number t.home deque f.3 in omega (arith, a)
    none_wait v pages store deque (depositing h e) f = let a = bare deque f.1 in omega (arith, a)
    none_wait v pages store deque (arriving m) f = let a = bare deque f.1 in omega (arith, a)
    none_wait v pages store deque (leaving m) f = let a = bare deque f.1 in omega (arith, a)
    none_wait v pages store deque (collecting t) f = let a = none_queued v t.number t.home deque f.3 in omega (arith, a)
    none_wait v pages store deque (over e) f = let a = bare deque f.1 in omega (arith, a)

  -- a closed scope has as many posts as workers that leave it
  pub closed_posts : (n : ℕ) → n < s.scopes → s.phase n ≡ closed → PostedIn P s → total width (λ i. filled_bit (s.surplus n i)) ≡ total P (λ w. leaving_bit n (s.workers w).task)
  closed_posts n l shut posted =
      let a = posted n l in let b = valid.joined n l (subst IsJoined (sym shut) tt) in let c = ap joined_bit shut in
      let d = total_zero P (λ w. waiting n (s.workers w)) (λ w k. none_wait n apart w (s.workers w).pages (s.workers w).store (s.workers w).deque (s.workers w).task (valid.fits w)) in
      omega (arith, a, b, c, d)
    where
      apart : (number : ℕ) (scopes : List ℕ) (home : Option Home) → Owns s.scopes s.owner s.outer number scopes home → AreActive s.phase scopes → heads n scopes ≡ 0
      apart number [] home o g = refl
      apart number (m ∷ scopes) home o g = heads_other m n scopes (λ d. let a = ap joined_bit g.0 in let b = ap (λ m. joined_bit (s.phase m)) d in let c = ap joined_bit shut in omega (arith, a, b, c))

module _ {Body Ended : Type 0} {BodyFits : List ℕ → Body → Type 0} {P V : ℕ} {s : State Body Ended} {location : ℕ → Location} (valid : Valid BodyFits P V s location) (w : ℕ) (within : w < P) (posted : PostedIn P s) where
  -- a scope that isn't there yet
  unborn : (number : ℕ) (scopes : List ℕ) (home : Option Home) → Owns s.scopes s.owner s.outer number scopes home → AreActive s.phase scopes → heads s.scopes scopes ≡ 0
  unborn number [] home o g = refl
  unborn number (n ∷ scopes) home o g = heads_other n s.scopes scopes (λ d. let a = o.0 in omega (arith, a, d))

  none_leave : (v : ℕ) (pages store : List ℕ) (deque : List (Strand Body)) (x : Task Body Ended) → TaskFits BodyFits V s location v pages store deque x → leaving_bit s.scopes x ≡ 0
  none_leave v pages store deque idle f = refl
  none_leave v pages store deque (mapping t) f = refl
  none_leave v pages store deque (running t) f = refl
  none_leave v pages store deque (depositing h e) f = refl
  none_leave v pages store deque (arriving n) f = refl
  none_leave v pages store deque (leaving n) f = heads_other n s.scopes [] (λ d. let a = f.2 in omega (arith, a, d))
  none_leave v pages store deque (collecting t) f = refl
  none_leave v pages store deque (over e) f = refl

  opens : (t : Strand Body) → (s.workers w).task ≡ running t → (k : ℕ) (b : Body) → PostedIn P (opened s w t k b)
  opens t e k b m l = by (cases_eq m s.scopes)
    where
      now : Worker Body Ended
      now = record (s.workers w) { task = running (record t { scopes = s.scopes ∷ t.scopes; body = b }) }

      a : (m : ℕ) → total P (λ v. waiting m (put s.workers w now v)) + waiting m (s.workers w) ≡ total P (λ v. waiting m (s.workers v)) + queued m (s.workers w).deque
      a m = let q = total_put P w (waiting m) s.workers now within in omega (arith, q)

      c : (m : ℕ) → total P (λ v. leaving_bit m (put s.workers w now v).task) + leaving_bit m (s.workers w).task ≡ total P (λ v. leaving_bit m (s.workers v).task) + 0
      c m = total_put P w (λ x. leaving_bit m x.task) s.workers now within

      d : (m : ℕ) → waiting m (s.workers w) ≡ queued m (s.workers w).deque
      d m = let q = ap (λ x. mapping_bit m x + queued m (s.workers w).deque) e in omega (arith, q)

      f : (m : ℕ) → leaving_bit m (s.workers w).task ≡ 0
      f m = ap (leaving_bit m) e

      by : (m ≡ s.scopes) ⊎ (m ≡ s.scopes → ⊥) →
          total width (λ i. filled_bit ((opened s w t k b).surplus m i)) + total P (λ v. waiting m (put s.workers w now v)) + 1
          ≡ total P (λ v. leaving_bit m (put s.workers w now v).task) + (opened s w t k b).count m + joined_bit ((opened s w t k b).phase m)
      by (inl same) = subst (λ m. total width (λ i. filled_bit ((opened s w t k b).surplus m i)) + total P (λ v. waiting m (put s.workers w now v)) + 1
          ≡ total P (λ v. leaving_bit m (put s.workers w now v).task) + (opened s w t k b).count m + joined_bit ((opened s w t k b).phase m)) (sym same)
          (let g = ap (λ f. total width (λ i. filled_bit (f i))) (put_self s.surplus s.scopes (λ i. None)) in
          let z : total width (λ i. filled_bit None) ≡ 0 = refl in
          let h = put_self s.count s.scopes 1 in let j = ap (joined_bit) (put_self s.phase s.scopes active) in
          let p = total_zero P (λ v. waiting s.scopes (s.workers v)) (λ v l. none_wait valid s.scopes unborn v (s.workers v).pages (s.workers v).store (s.workers v).deque (s.workers v).task (valid.fits v)) in
          let q = total_zero P (λ v. leaving_bit s.scopes (s.workers v).task) (λ v l. none_leave v (s.workers v).pages (s.workers v).store (s.workers v).deque (s.workers v).task (valid.fits v)) in
          let a' = a s.scopes in let c' = c s.scopes in let d' = d s.scopes in let f' = f s.scopes in omega (arith, g, z, h, j, p, q, a', c', d', f'))
      by (inr other) =
          let g = ap (λ f. total width (λ i. filled_bit (f i))) (put_other s.surplus s.scopes (λ i. None) m other) in
          let h = put_other s.count s.scopes 1 m other in let j = ap (joined_bit) (put_other s.phase s.scopes active m other) in
          let p = posted m (omega (arith, l, other)) in
          let a' = a m in let c' = c m in let d' = d m in let f' = f m in omega (arith, g, h, j, p, a', c', d', f')

  steals : (v : ℕ) → v < P → (s.workers w).task ≡ idle → (t : Strand Body) (rest : List (Strand Body)) → (s.workers v).deque ≡ rest ++ t ∷ [] → PostedIn P (stolen s w v t rest)
  steals v k e t rest d n l =
      let V' : Worker Body Ended = record (s.workers v) { deque = rest } in
      let W' : Worker Body Ended = record (put s.workers v V' w) { task = mapping t } in
      let a = posted n l in
      let b = total_put P v (waiting n) s.workers V' k in
      let c = total_put P w (waiting n) (put s.workers v V') W' within in
      let f = total_put P v (λ x. leaving_bit n x.task) s.workers V' k in
      let g = total_put P w (λ x. leaving_bit n x.task) (put s.workers v V') W' within in
      let h = ap (queued n) d in let j = queued_last n rest t in
      let p = at_put (λ u x. u ≡ w → x.task ≡ idle) s.workers v V' (λ g. ap (λ u. (s.workers u).task) g ∙ e) (λ u other g. ap (λ u. (s.workers u).task) g ∙ e) w refl in
      let q = ap (mapping_bit n) p in let r = ap (leaving_bit n) p in
      omega (arith, a, b, c, f, g, h, j, q, r)

  -- the task changes, and the deque and the scopes do not
  quietly : (x : Task Body Ended) → (s.workers w).task ≡ x → (now : Worker Body Ended) → now.deque ≡ (s.workers w).deque
      → ((n : ℕ) → mapping_bit n now.task ≡ mapping_bit n x) → ((n : ℕ) → leaving_bit n now.task ≡ leaving_bit n x)
      → Posted P s.scopes (put s.workers w now) s.surplus s.count s.phase
  quietly x e now d f g = posted_same P s w within now posted
      (λ n. let a = waits_as P s w within x e n in let b = ap (queued n) d in let c = f n in omega (arith, a, b, c))
      (λ n. g n ∙ sym (leaves_as P s w within x e n))

  spawned_so : (t : Strand Body) → (s.workers w).task ≡ running t → (n : ℕ) (scopes : List ℕ) → t.scopes ≡ n ∷ scopes → (i : ℕ) (parent child : Body) (hole : ℕ) → PostedIn P (spawned s w t n i parent child hole)
  spawned_so t e n scopes at i parent child hole = posted_count P s w within
      (record (s.workers w) { task = running (record { number = s.strands; home = Some (record { scope = n; place = i }); scopes = []; body = child }); deque = with_body t parent ∷ (s.workers w).deque })
      n (suc (s.count n)) posted
      (let a = waits_as P s w within _ e n in let b = leaves_as P s w within _ e n in let c = ap (heads n) at in let d = heads_self n scopes in omega (arith, a, b, c, d))
      (λ m other. let a = waits_as P s w within _ e m in let b = leaves_as P s w within _ e m in let c = ap (heads m) at in let d = heads_other n m scopes other in omega (arith, a, b, c, d))

  module _ (strands : Strands Body Ended) where
    maps : (t : Strand Body) (n : ℕ) (scopes : List ℕ) (slot : ℕ) → (s.workers w).task ≡ mapping t → t.scopes ≡ n ∷ scopes → (slot < width) × (s.surplus n slot ≡ None) → PostedIn P (mapped strands s w t n slot)
    maps t n scopes slot e at z = posted_slot P s w within now n slot _ z.0 posted
        (let a = waits_as P s w within _ e n in let b = leaves_as P s w within _ e n in let c = ap (heads n) at in let d = heads_self n scopes in let f = ap filled_bit z.1 in omega (arith, a, b, c, d, f))
        (λ m other. let a = waits_as P s w within _ e m in let b = leaves_as P s w within _ e m in let c = ap (heads m) at in let d = heads_other n m scopes other in omega (arith, a, b, c, d))
      where
        now : Worker Body Ended
        now = record (s.workers w) { task = running (with_body t (strands.lower t.body)); pages = s.chain n; store = take (length (s.workers w).store - length (s.chain n)) (s.workers w).store }

    resumes : (t : Strand Body) (n : ℕ) (scopes : List ℕ) → (s.workers w).task ≡ collecting t → s.phase n ≡ joining → PostedIn P (resumed strands s w t n scopes)
    resumes t n scopes e g = posted_by P s w within (record (s.workers w) { task = running (record t { scopes = scopes; body = (strands.join t.body s.words).body }) }) s.surplus s.count (put s.phase n closed) posted
        (λ m l. let a = waits_as P s w within _ e m in let b = leaves_as P s w within _ e m in
        let c = at_put (λ m x. joined_bit x ≡ joined_bit (s.phase m)) s.phase n closed (sym (ap joined_bit g)) (λ m other. refl) m in omega (arith, a, b, c))

    pops : (t : Strand Body) → (s.workers w).task ≡ running t → (h : Home) → t.home ≡ Some h → (p : Strand Body) (rest : List (Strand Body)) → (s.workers w).deque ≡ p ∷ rest → (e : Ended) (hole child : ℕ) → s.places h.scope h.place ≡ out hole child
        → PostedIn P (popped strands s w h e p rest hole)
    pops t e h at p rest q d hole child f = posted_count P s w within now h.scope (s.count h.scope - 1) posted
        (let a = waits_as P s w within _ e h.scope in let b = leaves_as P s w within _ e h.scope in let f = ap (queued h.scope) q in let g = above.0 in omega (arith, a, b, f, g, more))
        (λ m other. let a = waits_as P s w within _ e m in let b = leaves_as P s w within _ e m in let f = ap (queued m) q in let g = above.1 m other in omega (arith, a, b, f, g))
      where
        now : Worker Body Ended
        now = record (s.workers w) { task = running (with_body p (strands.pop p.body hole d (s.workers w).pages s.words).body); deque = rest }

        above : (heads h.scope p.scopes ≡ 1) × ((m : ℕ) → m ≢ h.scope → heads m p.scopes ≡ 0)
        above = let l = (fits_as valid w within (running t) e).3 in
            heads_above h p.scopes (subst (λ l. DequeFits BodyFits s location w t.number (Some h) l) q (subst (λ o. DequeFits BodyFits s location w t.number o (s.workers w).deque) at l)).0

        more : 1 ≤ s.count h.scope
        more = let o = subst (HomeFits s t.number) at (fits_as valid w within (running t) e).1.home in
            let a = valid.counts h.scope o.0 in let b = at_most_total width h.place (λ i. out_bit (s.places h.scope i)) o.1 in let c = ap out_bit f in
            omega (arith, a, b, c)

  -- the worker's strand's innermost scope is active
  active_at : (t : Strand Body) (n : ℕ) (scopes : List ℕ) → (s.workers w).task ≡ running t → t.scopes ≡ n ∷ scopes → s.phase n ≡ active
  active_at t n scopes e at = (subst (AreActive s.phase) at (fits_as valid w within (running t) e).2).0

module _ {Body Ended : Type 0} {BodyFits : List ℕ → Body → Type 0} {P V : ℕ} {strands : Strands Body Ended} (keeps : KeepsFit BodyFits strands)
    {s : State Body Ended} {location : ℕ → Location} (valid : Valid BodyFits P V s location) (w : ℕ) (within : w < P) (B : ℕ) (goes : WorkerGoes BodyFits B strands s w) (posted : PostedIn P s) where
  -- each row
  pub row_posted : {v : ℕ} → v < P → (r : Row strands s w v) → PostedIn P (row_result r).state
  row_posted k (stopped_row a b) = posted
  row_posted k (empty_row a b c) = posted
  row_posted {v = v} k (steal_row t rest a b c) = steals valid w within posted v k a t rest c
  row_posted k (full_row t n scopes a b c) = posted
  row_posted k (map_row t n scopes slot a b c) = maps valid w within posted strands t n scopes slot a b (empty_at s n slot c)
  row_posted k (instruction_row t b words a) = quietly valid w within posted (running t) a.0 (record (s.workers w) { task = running (with_body t b) }) refl (λ n. refl) (λ n. refl)
  row_posted k (fail_row t b a) = quietly valid w within posted (running t) a.0 (record (s.workers w) { task = running (with_body t b) }) refl (λ n. refl) (λ n. refl)
  row_posted k (page_row t page store a b) = posted_same P s w within (record (s.workers w)
      { pages = (s.workers w).pages ++ drop (length (s.workers w).store - 1) (s.workers w).store; store = take (length (s.workers w).store - 1) (s.workers w).store }) posted (λ n. refl) (λ n. refl)
  row_posted k (first_spawn_row t m inside parent child hole a) = spawned_so (opening_valid keeps valid w within B goes t m inside parent child hole a) w within (opens valid w within posted t a.0 m inside)
      (inside_of s.scopes t inside) (opener_runs s w t m inside) s.scopes t.scopes refl 0 parent child hole
  row_posted k (spawn_row t n scopes i inside parent child hole a b c) = spawned_so valid w within posted t a.0 n scopes b i parent child hole
  row_posted k (early_collect_row t n scopes i inside parent child hole filled number e a b c d f) = quietly valid w within posted (running t) a.0
      (record (s.workers w) { task = running (with_body t (strands.collect t.body filled e (s.workers w).pages s.words).body) }) refl (λ n. refl) (λ n. refl)
  row_posted k (crowded_row t n scopes inside parent child hole a b c d) = posted
  row_posted k (park_row t n scopes more a b d) = posted_phase P s w within (left (s.workers w) n (length (s.chain n))) n (suc more) (suspended t) posted
      (let f = waits_as P s w within _ a.0 n in let g = leaves_as P s w within _ a.0 n in let c = ap joined_bit (active_at valid w within posted t n scopes a.0 b) in let h = leaving_self P s w within n in omega (arith, f, g, c, d, h))
      (λ m other. let f = waits_as P s w within _ a.0 m in let g = leaves_as P s w within _ a.0 m in let c = leaving_other P s w within n m other in omega (arith, f, g, c))
  row_posted k (last_park_row t n scopes a b d) = posted_phase P s w within (record (s.workers w) { task = collecting t }) n 0 joining posted
      (let f = waits_as P s w within _ a.0 n in let g = leaves_as P s w within _ a.0 n in let c = ap joined_bit (active_at valid w within posted t n scopes a.0 b) in omega (arith, f, g, c, d))
      (λ m other. let f = waits_as P s w within _ a.0 m in let g = leaves_as P s w within _ a.0 m in omega (arith, f, g))
  row_posted k (finish_row t e a b) = quietly valid w within posted (running t) a.0 (record (s.workers w) { task = over e }) refl (λ n. refl) (λ n. refl)
  row_posted k (pop_row t e h p rest hole child a b c d) = pops valid w within posted strands t a.0 h b p rest c e hole child d
  row_posted k (orphan_row t e h a b c) = quietly valid w within posted (running t) a.0 (record (s.workers w) { task = depositing h e }) refl (λ n. refl) (λ n. refl)
  row_posted k (deposit_row h e hole child a b) = quietly valid w within posted (depositing h e) a (record (s.workers w) { task = arriving h.scope }) refl (λ n. refl) (λ n. refl)
  row_posted k (arrive_row n more a d) = posted_count P s w within (left (s.workers w) n (length (s.chain n))) n (suc more) posted
      (let f = waits_as P s w within _ a n in let g = leaves_as P s w within _ a n in let c = leaving_self P s w within n in omega (arith, f, g, c, d))
      (λ m other. let f = waits_as P s w within _ a m in let g = leaves_as P s w within _ a m in let c = leaving_other P s w within n m other in omega (arith, f, g, c))
  row_posted k (last_arrive_row n t a d h) = posted_phase P s w within (record (cut (s.workers w) (length (s.chain n))) { task = collecting t }) n 0 joining posted
      (let f = waits_as P s w within _ a n in let g = leaves_as P s w within _ a n in let c = ap joined_bit h in omega (arith, f, g, c, d))
      (λ m other. let f = waits_as P s w within _ a m in let g = leaves_as P s w within _ a m in omega (arith, f, g))
  row_posted k (unposted_row n a b) = posted
  row_posted k (fetch_row n slot pages a b d) = posted_slot P s w within (record (s.workers w) { task = idle; store = (s.workers w).store ++ pages }) n slot None (at_least (λ i. is_filled (s.surplus n i)) width (Some slot) b).0 posted
      (let f = waits_as P s w within _ a n in let g = leaves_as P s w within _ a n in let c = leaving_self P s w within n in let h = ap filled_bit d in omega (arith, f, g, c, h))
      (λ m other. let f = waits_as P s w within _ a m in let g = leaves_as P s w within _ a m in let c = leaving_other P s w within n m other in omega (arith, f, g, c))
  row_posted k (collect_row t n scopes i hole child e a b c d) = quietly valid w within posted (collecting t) a
      (record (s.workers w) { task = collecting (with_body t (strands.collect t.body hole e (s.workers w).pages s.words).body) }) refl (λ n. refl) (λ n. refl)
  row_posted k (resume_row t n scopes a b c) = resumes valid w within posted strands t n scopes a (subst (IsJoining s.phase) b (fits_as valid w within (collecting t) a).2).0
  row_posted k (over_row e a) = posted
