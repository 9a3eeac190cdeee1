-- Each row of the table leaves the owner of each scope that isn't closed somewhere.
use Rattle.std.proofs.Common.{◌≡◌, ℕ, suc, ◌-◌, ◌<◌, ◌≢◌, ◌⊎◌, List, [], ◌∷◌, ◌++◌, Some, refl, sym, ap, ◌∙◌, subst, arith, inl, inr, length, take, drop}
use Rattle.std.proofs.lemmas.Bool.{cases_eq}
use Rattle.cm_core.specs.Table.{put}
use Rattle.cm_core.specs.State.{Home, Phase, State, Strand, Task, Worker, active, arriving, closed, collecting, depositing, idle, joining, leaving, mapping, over, running, suspended}
use Rattle.cm_core.specs.Event.{Strands, cut, ends, inside_of, left, opened, parked_among, popped, spawned, stolen, with_body}
use Rattle.cm_core.specs.Row.{Row, RunsTo, arrive_row, collect_row, crowded_row, deposit_row, early_collect_row, empty_row, fail_row, fetch_row, finish_row, first_spawn_row, full_row, instruction_row, last_arrive_row, last_park_row, map_row, orphan_row, over_row, page_row, park_row, pop_row, row_result, resume_row, spawn_row, steal_row, stopped_row, unposted_row}
use Rattle.cm_core.specs.Valid.{AreActive, IsIn, IsJoining, IsLive, Location, Owns, Valid}
use Rattle.cm_core.specs.Goes.{KeepsFit, WorkerGoes}
use Rattle.cm_core.specs.Owner.{IsNamed, IsParked, IsQueued, IsSomewhere, IsWith, Owned, OwnedIn}
use Rattle.cm_core.proofs.RunLaw.{alone_scopes, fits_as}
use Rattle.cm_core.proofs.TableLaw.{at_put, put_other, put_self}
use Rattle.cm_core.proofs.ValidLaw.{next_fits, opener_runs, opening_valid}

module _ {Body Ended : Type 0} (P : ℕ) (s : State Body Ended) (w : ℕ) (within : w < P) (owned : OwnedIn P s) where
  abbrev me : Worker Body Ended
  me = s.workers w

  abbrev Now : (Worker Body Ended) → (ℕ → Phase Body) → ℕ → Type 0
  Now now phase k = IsSomewhere P s.scopes (put s.workers w now) phase k

  -- with this worker now
  here_now : (now : Worker Body Ended) (phase : ℕ → Phase Body) (k : ℕ) → IsWith k now → Now now phase k
  here_now now phase k a = inl (w, within, subst (IsWith k) (sym (put_self s.workers w now)) a)

  -- one worker and one phase change
  gated : (now : Worker Body Ended) (n : ℕ) (g : Phase Body) → (IsLive g → IsLive (s.phase n))
      → ((m : ℕ) → m < s.scopes → IsLive (s.phase m) → IsWith (s.owner m) me → Now now (put s.phase n g) (s.owner m))
      → ((k : ℕ) → IsParked k (s.phase n) → Now now (put s.phase n g) k)
      → Owned P s.scopes (put s.workers w now) s.owner (put s.phase n g)
  gated now n g live mine lay m l a = by (owned m l was)
    where
      was : IsLive (s.phase m)
      was = at_put (λ m x. IsLive x → IsLive (s.phase m)) s.phase n g live (λ m other b. b) m a

      at_m : (j : ℕ) → j < s.scopes → (j ≡ n) ⊎ (j ≡ n → ⊥) → IsParked (s.owner m) (s.phase j) → Now now (put s.phase n g) (s.owner m)
      at_m j k (inl d) p = lay (s.owner m) (subst (λ j. IsParked (s.owner m) (s.phase j)) d p)
      at_m j k (inr other) p = inr (j, k, subst (IsParked (s.owner m)) (sym (put_other s.phase n g j other)) p)

      at_w : (v : ℕ) → v < P → (v ≡ w) ⊎ (v ≡ w → ⊥) → IsWith (s.owner m) (s.workers v) → Now now (put s.phase n g) (s.owner m)
      at_w v k (inl d) b = mine m l was (subst (λ v. IsWith (s.owner m) (s.workers v)) d b)
      at_w v k (inr other) b = inl (v, k, subst (IsWith (s.owner m)) (sym (put_other s.workers w now v other)) b)

      by : IsSomewhere P s.scopes s.workers s.phase (s.owner m) → Now now (put s.phase n g) (s.owner m)
      by (inl b) = at_w b.0 b.1 (cases_eq b.0 w) b.2
      by (inr b) = at_m b.0 b.1 (cases_eq b.0 n) b.2

  -- one worker changes
  alone : (now : Worker Body Ended) → ((m : ℕ) → m < s.scopes → IsLive (s.phase m) → IsWith (s.owner m) me → IsWith (s.owner m) now)
      → Owned P s.scopes (put s.workers w now) s.owner s.phase
  alone now mine m l a = by (owned m l a)
    where
      at_w : (v : ℕ) → v < P → (v ≡ w) ⊎ (v ≡ w → ⊥) → IsWith (s.owner m) (s.workers v) → Now now s.phase (s.owner m)
      at_w v k (inl d) b = here_now now s.phase (s.owner m) (mine m l a (subst (λ v. IsWith (s.owner m) (s.workers v)) d b))
      at_w v k (inr other) b = inl (v, k, subst (IsWith (s.owner m)) (sym (put_other s.workers w now v other)) b)

      by : IsSomewhere P s.scopes s.workers s.phase (s.owner m) → Now now s.phase (s.owner m)
      by (inl b) = at_w b.0 b.1 (cases_eq b.0 w) b.2
      by (inr b) = inr b

  -- its strand, if any, stays, and so does its deque
  quietly : (x : Task Body Ended) → me.task ≡ x → (now : Worker Body Ended) → now.deque ≡ me.deque → ((k : ℕ) → IsNamed k x → IsNamed k now.task)
      → Owned P s.scopes (put s.workers w now) s.owner s.phase
  quietly x e now d h = alone now (λ m l a. by (s.owner m))
    where
      by : (k : ℕ) → IsWith k me → IsWith k now
      by k (inl a) = inl (h k (subst (IsNamed k) e a))
      by k (inr a) = inr (subst (IsQueued k) (sym d) a)

  -- a steal
  abbrev rob : (v : ℕ) (later : List (Strand Body)) → Worker Body Ended
  rob v later = record (s.workers v) { deque = later }

  abbrev Stolen : (v : ℕ) (t : Strand Body) (later : List (Strand Body)) → ℕ → Type 0
  Stolen v t later k = IsSomewhere P s.scopes (put (put s.workers v (rob v later)) w (record (put s.workers v (rob v later) w) { task = mapping t })) s.phase k

  steals : (v : ℕ) → me.task ≡ idle → me.deque ≡ [] → (t : Strand Body) (later : List (Strand Body)) → (s.workers v).deque ≡ later ++ t ∷ [] → OwnedIn P (stolen s w v t later)
  steals v e bare t later d m l a = by (owned m l a)
    where
      robbed : Worker Body Ended
      robbed = rob v later

      thief : Worker Body Ended
      thief = record (put s.workers v robbed w) { task = mapping t }

      nobody : IsWith (s.owner m) (s.workers w) → ⊥
      nobody (inl b) = subst (IsNamed (s.owner m)) e b
      nobody (inr b) = subst (IsQueued (s.owner m)) bare b

      parted : (xs : List (Strand Body)) → IsQueued (s.owner m) (xs ++ t ∷ []) → IsQueued (s.owner m) xs ⊎ (t.number ≡ s.owner m)
      parted [] (inl b) = inr b
      parted [] (inr b) = absurd b
      parted (x ∷ xs) (inl b) = inl (inl b)
      parted (x ∷ xs) (inr b) = up (parted xs b)
        where
          up : IsQueued (s.owner m) xs ⊎ (t.number ≡ s.owner m) → IsQueued (s.owner m) (x ∷ xs) ⊎ (t.number ≡ s.owner m)
          up (inl c) = inl (inr c)
          up (inr c) = inr c

      at_thief : t.number ≡ s.owner m → Stolen v t later (s.owner m)
      at_thief b = inl (w, within, subst (IsWith (s.owner m)) (sym (put_self (put s.workers v robbed) w thief)) (inl b))

      at_victim : v < P → v ≢ w → IsWith (s.owner m) robbed → Stolen v t later (s.owner m)
      at_victim less other b = inl (v, less, subst (IsWith (s.owner m)) (sym (put_other (put s.workers v robbed) w thief v other ∙ put_self s.workers v robbed)) b)

      split : v < P → v ≢ w → IsWith (s.owner m) (s.workers v) → Stolen v t later (s.owner m)
      split less other (inl b) = at_victim less other (inl b)
      split less other (inr b) = one (parted later (subst (IsQueued (s.owner m)) d b))
        where
          one : IsQueued (s.owner m) later ⊎ (t.number ≡ s.owner m) → Stolen v t later (s.owner m)
          one (inl c) = at_victim less other (inr c)
          one (inr c) = at_thief c

      at_u : (u : ℕ) → u < P → u ≢ w → (u ≡ v) ⊎ (u ≡ v → ⊥) → IsWith (s.owner m) (s.workers u) → Stolen v t later (s.owner m)
      at_u u less other (inl same) b = split (subst (λ u. u < P) same less) (λ q. other (same ∙ q)) (subst (λ u. IsWith (s.owner m) (s.workers u)) same b)
      at_u u less other (inr away) b = inl (u, less, subst (IsWith (s.owner m)) (sym (put_other (put s.workers v robbed) w thief u other ∙ put_other s.workers v robbed u away)) b)

      at_w : (u : ℕ) → u < P → (u ≡ w) ⊎ (u ≡ w → ⊥) → IsWith (s.owner m) (s.workers u) → Stolen v t later (s.owner m)
      at_w u less (inl same) b = absurd (nobody (subst (λ u. IsWith (s.owner m) (s.workers u)) same b))
      at_w u less (inr other) b = at_u u less other (cases_eq u v) b

      by : IsSomewhere P s.scopes s.workers s.phase (s.owner m) → Stolen v t later (s.owner m)
      by (inl b) = at_w b.0 b.1 (cases_eq b.0 w) b.2
      by (inr b) = inr b

module _ {Body Ended : Type 0} {BodyFits : List ℕ → Body → Type 0} {P V : ℕ} {s : State Body Ended} {location : ℕ → Location} (valid : Valid BodyFits P V s location) (w : ℕ) (within : w < P) (owned : OwnedIn P s) where
  abbrev mine : Worker Body Ended
  mine = s.workers w

  still : (x : Task Body Ended) → mine.task ≡ x → (now : Worker Body Ended) → now.deque ≡ mine.deque → ((k : ℕ) → IsNamed k x → IsNamed k now.task)
      → Owned P s.scopes (put s.workers w now) s.owner s.phase
  still = quietly P s w within owned

  -- the strand that is with the worker, by its task's name
  named : (k : ℕ) (x : Task Body Ended) → mine.task ≡ x → IsWith k mine → IsNamed k x ⊎ IsQueued k mine.deque
  named k x e (inl a) = inl (subst (IsNamed k) e a)
  named k x e (inr a) = inr a

  -- the worker keeps its strand, and the phase of the strand's scope changes
  turns : (x : Task Body Ended) → mine.task ≡ x → (now : Worker Body Ended) → now.deque ≡ mine.deque → ((k : ℕ) → IsNamed k x → IsNamed k now.task) → (n : ℕ) (g : Phase Body) → (IsLive g → IsLive (s.phase n))
      → ((k : ℕ) → IsParked k (s.phase n) → IsWith k now) → Owned P s.scopes (put s.workers w now) s.owner (put s.phase n g)
  turns x e now d h n g live lay = gated P s w within owned now n g live (λ m l a b. here_now P s w within owned now (put s.phase n g) (s.owner m) (with_now (s.owner m) (named (s.owner m) x e b)))
      (λ k p. here_now P s w within owned now (put s.phase n g) k (lay k p))
    where
      with_now : (k : ℕ) → IsNamed k x ⊎ IsQueued k mine.deque → IsWith k now
      with_now k (inl b) = inl (h k b)
      with_now k (inr b) = inr (subst (IsQueued k) (sym d) b)

  parks : (t : Strand Body) → mine.task ≡ running t → (n : ℕ) (scopes : List ℕ) → t.scopes ≡ n ∷ scopes → (more : ℕ) → s.phase n ≡ active → OwnedIn P (parked_among s w t n more)
  parks t e n scopes at more open' = gated P s w within owned now n (suspended t) (λ a. subst IsLive (sym open') tt)
      (λ m l a b. with_now (s.owner m) (named (s.owner m) (running t) e b)) (λ k p. absurd (subst (IsParked k) open' p))
    where
      there : n < s.scopes
      there = (subst (λ l. Owns s.scopes s.owner s.outer t.number l t.home) at (fits_as valid w within (running t) e).1.owns).0

      now : Worker Body Ended
      now = left mine n (length (s.chain n))

      with_now : (k : ℕ) → (t.number ≡ k) ⊎ IsQueued k mine.deque → IsSomewhere P s.scopes (put s.workers w now) (put s.phase n (suspended t)) k
      with_now k (inl b) = inr (n, there, subst (IsParked k) (sym (put_self s.phase n (suspended t))) b)
      with_now k (inr b) = here_now P s w within owned now (put s.phase n (suspended t)) k (inr b)

  -- the worker's strand goes onto the deque
  spawned_so : (t : Strand Body) → mine.task ≡ running t → (n i : ℕ) (parent child : Body) (hole : ℕ) → OwnedIn P (spawned s w t n i parent child hole)
  spawned_so t e n i parent child hole = alone P s w within owned now (λ m l a b. with_now (s.owner m) (named (s.owner m) (running t) e b))
    where
      now : Worker Body Ended
      now = record mine { task = running (record { number = s.strands; home = Some (record { scope = n; place = i }); scopes = []; body = child }); deque = with_body t parent ∷ mine.deque }

      with_now : (k : ℕ) → (t.number ≡ k) ⊎ IsQueued k mine.deque → IsWith k now
      with_now k (inl b) = inr (inl b)
      with_now k (inr b) = inr (inr b)

  -- a strand without scopes goes: no live scope is its own
  gone : (t : Strand Body) → mine.task ≡ running t → t.scopes ≡ [] → (now : Worker Body Ended) → ((k : ℕ) → IsQueued k mine.deque → IsWith k now)
      → Owned P s.scopes (put s.workers w now) s.owner s.phase
  gone t e bare now h = alone P s w within owned now (λ m l a b. by m l a (named (s.owner m) (running t) e b))
    where
      by : (m : ℕ) → m < s.scopes → IsLive (s.phase m) → (t.number ≡ s.owner m) ⊎ IsQueued (s.owner m) mine.deque → IsWith (s.owner m) now
      by m l a (inl b) = absurd (subst (λ l. IsIn l m) bare ((fits_as valid w within (running t) e).1.all m l a (sym b)))
      by m l a (inr b) = h (s.owner m) b

  popped_so : (strands : Strands Body Ended) (t : Strand Body) → mine.task ≡ running t → t.scopes ≡ [] → (h : Home) (e : Ended) (p : Strand Body) (rest : List (Strand Body)) → mine.deque ≡ p ∷ rest → (hole : ℕ)
      → OwnedIn P (popped strands s w h e p rest hole)
  popped_so strands t a bare h e p rest q hole = gone t a bare now (λ k b. up k (subst (IsQueued k) q b))
    where
      now : Worker Body Ended
      now = record mine { task = running (with_body p (strands.pop p.body hole e mine.pages s.words).body); deque = rest }

      up : (k : ℕ) → IsQueued k (p ∷ rest) → IsWith k now
      up k (inl b) = inl b
      up k (inr b) = inr b

  opens : (t : Strand Body) → mine.task ≡ running t → (k : ℕ) (b : Body) → OwnedIn P (opened s w t k b)
  opens t e k b m l a = by (cases_eq m s.scopes)
    where
      now : Worker Body Ended
      now = record mine { task = running (inside_of s.scopes t b) }

      Now : ℕ → Type 0
      Now c = IsSomewhere P (suc s.scopes) (put s.workers w now) (put s.phase s.scopes active) c

      with_now : (c : ℕ) → (t.number ≡ c) ⊎ IsQueued c mine.deque → IsWith c now
      with_now c (inl b) = inl b
      with_now c (inr b) = inr b

      with_w : (c : ℕ) → IsWith c now → Now c
      with_w c a = inl (w, within, subst (IsWith c) (sym (put_self s.workers w now)) a)

      at_w : (c v : ℕ) → v < P → (v ≡ w) ⊎ (v ≡ w → ⊥) → IsWith c (s.workers v) → Now c
      at_w c v less (inl d) b = with_w c (with_now c (named c (running t) e (subst (λ v. IsWith c (s.workers v)) d b)))
      at_w c v less (inr other) b = inl (v, less, subst (IsWith c) (sym (put_other s.workers w now v other)) b)

      up : (c : ℕ) → IsSomewhere P s.scopes s.workers s.phase c → Now c
      up c (inl b) = at_w c b.0 b.1 (cases_eq b.0 w) b.2
      up c (inr b) = inr (b.0, (let l = b.1 in omega (arith, l)), subst (IsParked c) (sym (put_other s.phase s.scopes active b.0 (λ d. let l = b.1 in omega (arith, l, d)))) b.2)

      by : (m ≡ s.scopes) ⊎ (m ≡ s.scopes → ⊥) → Now (put s.owner s.scopes t.number m)
      by (inl d) = subst Now (sym (ap (put s.owner s.scopes t.number) d ∙ put_self s.owner s.scopes t.number)) (with_w t.number (inl refl))
      by (inr other) = subst Now (sym (put_other s.owner s.scopes t.number m other))
          (up (s.owner m) (owned m (omega (arith, l, other)) (subst IsLive (put_other s.phase s.scopes active m other) a)))

module _ {Body Ended : Type 0} {BodyFits : List ℕ → Body → Type 0} {P V : ℕ} {strands : Strands Body Ended} (keeps : KeepsFit BodyFits strands)
    {s : State Body Ended} {location : ℕ → Location} (valid : Valid BodyFits P V s location) (w : ℕ) (within : w < P) (B : ℕ) (goes : WorkerGoes BodyFits B strands s w) (owned : OwnedIn P s) where
  abbrev this : Worker Body Ended
  this = s.workers w

  -- a strand that ends has no scopes
  bare : (t : Strand Body) (e : Ended) → RunsTo strands s w t (ends e) → t.scopes ≡ []
  bare t e a = alone_scopes s.chain t.scopes t.home (next_fits BodyFits B strands s w goes t (ends e) a)

  -- each row
  pub row_owned : {v : ℕ} (r : Row strands s w v) → OwnedIn P (row_result r).state
  row_owned (stopped_row a b) = owned
  row_owned (empty_row a b c) = owned
  row_owned {v = v} (steal_row t rest a b c) = steals P s w within owned v a (fits_as valid w within idle a).1 t rest c
  row_owned (full_row t n scopes a b c) = owned
  row_owned (map_row t n scopes slot a b c) = still valid w within owned (mapping t) a
      (record this { task = running (with_body t (strands.lower t.body)); pages = s.chain n; store = take (length this.store - length (s.chain n)) this.store }) refl (λ k a. a)
  row_owned (instruction_row t b words a) = still valid w within owned (running t) a.0 (record this { task = running (with_body t b) }) refl (λ k a. a)
  row_owned (fail_row t b a) = still valid w within owned (running t) a.0 (record this { task = running (with_body t b) }) refl (λ k a. a)
  row_owned (page_row t page store a b) = still valid w within owned (running t) a.0
      (record this { pages = this.pages ++ drop (length this.store - 1) this.store; store = take (length this.store - 1) this.store }) refl (λ k b. subst (IsNamed k) (sym a.0) b)
  row_owned (first_spawn_row t m inside parent child hole a) = spawned_so (opening_valid keeps valid w within B goes t m inside parent child hole a) w within (opens valid w within owned t a.0 m inside)
      (inside_of s.scopes t inside) (opener_runs s w t m inside) s.scopes 0 parent child hole
  row_owned (spawn_row t n scopes i inside parent child hole a b c) = spawned_so valid w within owned t a.0 n i parent child hole
  row_owned (early_collect_row t n scopes i inside parent child hole filled number e a b c d f) = still valid w within owned (running t) a.0
      (record this { task = running (with_body t (strands.collect t.body filled e this.pages s.words).body) }) refl (λ k a. a)
  row_owned (crowded_row t n scopes inside parent child hole a b c d) = owned
  row_owned (park_row t n scopes more a b d) = parks valid w within owned t a.0 n scopes b (suc more) (subst (AreActive s.phase) b (fits_as valid w within (running t) a.0).2).0
  row_owned (last_park_row t n scopes a b d) = let g = (subst (AreActive s.phase) b (fits_as valid w within (running t) a.0).2).0 in
      turns valid w within owned (running t) a.0 (record this { task = collecting t }) refl (λ k a. a) n joining (λ l. subst IsLive (sym g) tt) (λ k p. absurd (subst (IsParked k) g p))
  row_owned (finish_row t e a b) = gone valid w within owned t a.0 (bare t e a) (record this { task = over e }) (λ k b. inr b)
  row_owned (pop_row t e h p rest hole child a b c d) = popped_so valid w within owned strands t a.0 (bare t e a) h e p rest c hole
  row_owned (orphan_row t e h a b c) = gone valid w within owned t a.0 (bare t e a) (record this { task = depositing h e }) (λ k b. inr b)
  row_owned (deposit_row h e hole child a b) = still valid w within owned (depositing h e) a (record this { task = arriving h.scope }) refl (λ k a. a)
  row_owned (arrive_row n more a d) = still valid w within owned (arriving n) a (left this n (length (s.chain n))) refl (λ k a. a)
  row_owned (last_arrive_row n t a d g) = turns valid w within owned (arriving n) a (record (cut this (length (s.chain n))) { task = collecting t }) refl (λ k b. absurd b) n joining
      (λ l. subst IsLive (sym g) tt) (λ k p. inl (subst (IsParked k) g p))
  row_owned (unposted_row n a b) = owned
  row_owned (fetch_row n slot pages a b d) = still valid w within owned (leaving n) a (record this { task = idle; store = this.store ++ pages }) refl (λ k a. a)
  row_owned (collect_row t n scopes i hole child e a b c d) = still valid w within owned (collecting t) a
      (record this { task = collecting (with_body t (strands.collect t.body hole e this.pages s.words).body) }) refl (λ k a. a)
  row_owned (resume_row t n scopes a b c) = let g = (subst (IsJoining s.phase) b (fits_as valid w within (collecting t) a).2).0 in
      turns valid w within owned (collecting t) a (record this { task = running (record t { scopes = scopes; body = (strands.join t.body s.words).body }) }) refl (λ k a. a) n closed
      (λ l. absurd l) (λ k p. absurd (subst (IsParked k) g p))
  row_owned (over_row e a) = owned
