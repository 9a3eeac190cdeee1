-- Shares of words only move, and what a strand holds whole is held by nobody else.
use Rattle.std.proofs.Common.{◌≡◌, ℕ, zero, suc, ◌+◌, ◌-◌, ◌<◌, ◌≤◌, ◌≢◌, ◌⊎◌, Bool, true, false, ◌==◌, if◌then◌else◌, List, [], ◌∷◌, Option, Some, refl, sym, ap, ◌∙◌, eqb-true, subst, arith, inl, inr, eq-eqb, ne_eqb}
use Rattle.std.proofs.lemmas.Bool.{cases_eq, cases_lt}
use Rattle.cm_core.specs.Table.{put, total}
use Rattle.cm_core.specs.State.{Home, Place, State, Strand, Task, back, collecting, depositing, free, out, running}
use Rattle.cm_core.specs.Event.{Strands, collected, inside_of, opened, popped, spawned}
use Rattle.cm_core.specs.Turn.{Collect, End, Spawn, Transfer, Turned, nothing, turned_with, words_of}
use Rattle.cm_core.specs.Row.{Row, arrive_row, collect_row, crowded_row, deposit_row, early_collect_row, empty_row, fail_row, fetch_row, finish_row, first_spawn_row, full_row, instruction_row, last_arrive_row, last_park_row, map_row, orphan_row, over_row, page_row, park_row, pop_row, row_result, resume_row, spawn_row, steal_row, stopped_row, unposted_row}
use Rattle.cm_core.specs.Valid.{Above, DequeFits, Location, Owns, Valid}
use Rattle.cm_core.specs.Goes.{KeepsFit, WorkerGoes}
use Rattle.cm_core.specs.Share.{GoesWell, IsLater, Later, Lends, Shares, Whole, moves, shift}
use Rattle.cm_core.proofs.RunLaw.{fits_as}
use Rattle.cm_core.proofs.TableLaw.{at_most_total, at_split, put_other, put_self, total_at}
use Rattle.cm_core.proofs.ValidLaw.{opening_valid}

-- ---- shares
shift_taker : (has : Shares) (giver taker : ℕ) (what : ℕ → ℕ) (word : ℕ) → shift has giver taker what taker word ≡ has taker word + what word
shift_taker has giver taker what word = let e : (taker == taker) ≡ true = eq-eqb taker taker refl in rw e refl

shift_giver : (has : Shares) (giver taker : ℕ) (what : ℕ → ℕ) (word : ℕ) → giver ≢ taker → shift has giver taker what giver word ≡ has giver word - what word
shift_giver has giver taker what word other = let e : (giver == taker) ≡ false = ne_eqb giver taker other in let f : (giver == giver) ≡ true = eq-eqb giver giver refl in rw (e, f) refl

shift_other : (has : Shares) (giver taker : ℕ) (what : ℕ → ℕ) (k word : ℕ) → k ≢ giver → k ≢ taker → shift has giver taker what k word ≡ has k word
shift_other has giver taker what k word a b = let e : (k == taker) ≡ false = ne_eqb k taker b in let f : (k == giver) ≡ false = ne_eqb k giver a in rw (e, f) refl

-- the sum of all shares stays
shift_total : (has : Shares) (giver taker : ℕ) (what : ℕ → ℕ) (word n : ℕ) → giver < n → taker < n → giver ≢ taker → what word ≤ has giver word
    → total n (λ k. shift has giver taker what k word) ≡ total n (λ k. has k word)
shift_total has giver taker what word n l m other enough =
    let a = total_at n taker (λ k. shift has giver taker what k word) (λ k. if k == giver then has giver word - what word else has k word) m
    (λ k b. let e : (k == taker) ≡ false = ne_eqb k taker b in rw e refl) in
    let b = total_at n giver (λ k. if k == giver then has giver word - what word else has k word) (λ k. has k word) l
    (λ k b. let e : (k == giver) ≡ false = ne_eqb k giver b in rw e refl) in
    let c = shift_taker has giver taker what word in
    let d : (if giver == giver then has giver word - what word else has giver word) ≡ has giver word - what word = let e : (giver == giver) ≡ true = eq-eqb giver giver refl in rw e refl in
    let f : (if taker == giver then has giver word - what word else has taker word) ≡ has taker word = let e : (taker == giver) ≡ false = ne_eqb taker giver (λ q. other (sym q)) in rw e refl in
    omega (arith, a, b, c, d, f, enough)

pub moves_whole : (whole strands strands' : ℕ) (lent : Shares) (g : Transfer) (has : Shares) → Whole whole strands has → GoesWell strands strands' g → Lends lent strands g has → Whole whole strands' (moves lent strands g has)
moves_whole whole strands strands' lent nothing has w well lends = subst (λ n. Whole whole n has) (sym well) w
moves_whole whole strands strands' lent (words_of giver taker) has w well lends = by (taker == strands) refl
  where
    more : (word : ℕ) → total strands' (λ k. has k word) ≡ whole
    more word = by_new well.4
      where
        by_new : (taker ≡ strands) ⊎ (strands' ≡ strands) → total strands' (λ k. has k word) ≡ whole
        by_new (inr e) = ap (λ n. total n (λ k. has k word)) e ∙ w.all word
        by_new (inl e) = up strands' well.3
          where
            up : (n : ℕ) → strands ≤ n → total n (λ k. has k word) ≡ whole
            up zero l = let e : 0 ≡ strands = omega (arith, l) in ap (λ n. total n (λ k. has k word)) e ∙ w.all word
            up (suc n) l = next (cases_eq strands (suc n)) (λ k. up n k)
              where
                next : (strands ≡ suc n) ⊎ (strands ≡ suc n → ⊥) → (strands ≤ n → total n (λ k. has k word) ≡ whole) → total n (λ k. has k word) + has n word ≡ whole
                next (inl d) go = ap (λ n. total n (λ k. has k word)) (sym d) ∙ w.all word
                next (inr other) go = let a = go (omega (arith, l, other)) in let b = w.none n word (omega (arith, l, other)) in omega (arith, a, b)

    shifted : (what : ℕ → ℕ) → ((word : ℕ) → what word ≤ has giver word) → Whole whole strands' (shift has giver taker what)
    shifted what enough = record {
      all = λ word. shift_total has giver taker what word strands' (let a = well.0 in let b = well.3 in omega (arith, a, b)) well.1 well.2 (enough word) ∙ more word;
      none = λ k word l. shift_other has giver taker what k word (λ d. let a = well.0 in let b = well.3 in omega (arith, l, d, a, b)) (λ d. let a = well.1 in omega (arith, l, d, a))
          ∙ w.none k word (let b = well.3 in omega (arith, l, b));
    }

    by : (b : Bool) → (taker == strands) ≡ b → Whole whole strands' (shift has giver taker (if b then lent taker else has giver))
    by true e = shifted (lent taker) (lends (eqb-true taker strands e))
    by false e = shifted (has giver) (λ word. omega arith)

-- who holds the whole of a word is alone with it, and two holders' shares are within the whole
pub two_holders : (whole strands : ℕ) (has : Shares) → Whole whole strands has → (k l word : ℕ) → k ≢ l → has k word + has l word ≤ whole
two_holders whole strands has w k l word other = by (cases_lt k strands) (cases_lt l strands)
  where
    by : (k < strands) ⊎ (strands ≤ k) → (l < strands) ⊎ (strands ≤ l) → has k word + has l word ≤ whole
    by (inl a) (inl b) =
        let f = total_at strands k (λ m. has m word) (λ m. if m == k then 0 else has m word) a (λ m d. let e : (m == k) ≡ false = ne_eqb m k d in rw e refl) in
        let g = at_most_total strands l (λ m. if m == k then 0 else has m word) b in
        let h : (if k == k then 0 else has k word) ≡ 0 = let e : (k == k) ≡ true = eq-eqb k k refl in rw e refl in
        let i : (if l == k then 0 else has l word) ≡ has l word = let e : (l == k) ≡ false = ne_eqb l k (λ d. other (sym d)) in rw e refl in
        let c = w.all word in omega (arith, f, g, h, i, c)
    by (inl a) (inr b) = let c = at_most_total strands k (λ m. has m word) a in let d = w.none l word b in let e = w.all word in omega (arith, c, d, e)
    by (inr a) (inl b) = let c = at_most_total strands l (λ m. has m word) b in let d = w.none k word a in let e = w.all word in omega (arith, c, d, e)
    by (inr a) (inr b) = let c = w.none k word a in let d = w.none l word b in omega (arith, c, d)

pub one_owner : (whole strands : ℕ) (has : Shares) → Whole whole strands has → (k l word : ℕ) → k ≢ l → has k word ≡ whole → has l word ≡ 0
one_owner whole strands has w k l word other e = let a = two_holders whole strands has w k l word other in omega (arith, a, e)

-- an event leaves what every strand holds that is neither giver nor taker
pub others_keep : (lent : Shares) (strands : ℕ) (has : Shares) (giver taker k word : ℕ) → k ≢ giver → k ≢ taker → moves lent strands (words_of giver taker) has k word ≡ has k word
others_keep lent strands has giver taker k word a b = shift_other has giver taker (if taker == strands then lent taker else has giver) k word a b

-- what a turn does with the words goes well
abbrev pub Fine : {Body Ended : Type 0} → State Body Ended → Turned Body Ended → Type 0
Fine s t = Later t.state × GoesWell s.strands t.state.strands t.moved

later_up : {Ended : Type 0} (owner n m : ℕ) → n ≤ m → (p : Place Ended) → IsLater owner n p → IsLater owner m p
later_up owner n m l free f = f
later_up owner n m l (out hole c) f = (f.0, let a = f.1 in omega (arith, a, l))
later_up owner n m l (back hole c e) f = (f.0, let a = f.1 in omega (arith, a, l))

module _ {Body Ended : Type 0} {BodyFits : List ℕ → Body → Type 0} {P V : ℕ} {s : State Body Ended} {location : ℕ → Location} (valid : Valid BodyFits P V s location) (w : ℕ) (within : w < P) (later : Later s) where
  later_put : (k : ℕ) → s.strands ≤ k → (n i : ℕ) (p : Place Ended) → IsLater (s.owner n) k p
      → (m j : ℕ) → m < s.scopes → IsLater (s.owner m) k (put s.places n (put (s.places n) i p) m j)
  later_put k l n i p f m j less = at_split n (λ m b. m < s.scopes → IsLater (s.owner m) k ((if b then put (s.places n) i p else s.places m) j))
      (λ less. at_split i (λ j b. IsLater (s.owner n) k (if b then p else s.places n j)) f (λ j other. later_up (s.owner n) s.strands k l (s.places n j) (later n j less)) j)
      (λ m other less. later_up (s.owner m) s.strands k l (s.places m j) (later m j less)) m less

  -- an answer goes to the owner of its scope
  takes : (strands : Strands Body Ended) (t : Strand Body) (as_task : Strand Body → Task Body Ended) (n i hole child : ℕ) (e : Ended) → (n < s.scopes) × (s.owner n ≡ t.number) × (t.number < s.strands) → s.places n i ≡ back hole child e
      → Fine s (turned_with (collected strands s w t as_task n i hole e) Collect child t.number)
  takes strands t as_task n i hole child e o d = let f = subst (IsLater (s.owner n) s.strands) d (later n i o.0) in
      (later_put s.strands (omega arith) n i free tt, (f.1, o.2, (λ q. let a = f.0 in let b = o.1 in omega (arith, a, q, b)), omega arith, inr refl))

  owner_of : (number n : ℕ) (scopes : List ℕ) (home : Option Home) (own : List ℕ) → own ≡ n ∷ scopes → number < s.strands → Owns s.scopes s.owner s.outer number own home → (n < s.scopes) × (s.owner n ≡ number) × (number < s.strands)
  owner_of number n scopes home own at y o = let q = subst (λ l. Owns s.scopes s.owner s.outer number l home) at o in (q.0, q.1, y)

  spawned_so : (t : Strand Body) (n i : ℕ) → (n < s.scopes) × (s.owner n ≡ t.number) × (t.number < s.strands) → (parent child : Body) (hole : ℕ) → Fine s (turned_with (spawned s w t n i parent child hole) Spawn t.number s.strands)
  spawned_so t n i o parent child hole =
      (later_put (suc s.strands) (omega arith) n i (out hole s.strands) (let a = valid.owners n o.0 in (a, omega arith)), (o.2, omega arith, (λ q. let a = o.2 in omega (arith, q, a)), omega arith, inl refl))

  opens : (t : Strand Body) (k : ℕ) (b : Body) → Later (opened s w t k b)
  opens t k b n i l = by (cases_eq n s.scopes)
    where
      by : (n ≡ s.scopes) ⊎ (n ≡ s.scopes → ⊥) → IsLater ((opened s w t k b).owner n) s.strands ((opened s w t k b).places n i)
      by (inl d) = subst (λ f. IsLater ((opened s w t k b).owner n) s.strands (f i)) (sym (ap (put s.places s.scopes (λ i. free)) d ∙ put_self s.places s.scopes (λ i. free))) tt
      by (inr other) = subst (λ f. IsLater ((opened s w t k b).owner n) s.strands (f i)) (sym (put_other s.places s.scopes (λ i. free) n other))
          (subst (λ o. IsLater o s.strands (s.places n i)) (sym (put_other s.owner s.scopes t.number n other)) (later n i (omega (arith, l, other))))

  pops : (strands : Strands Body Ended) (t : Strand Body) → (s.workers w).task ≡ running t → (h : Home) → t.home ≡ Some h → (e : Ended) (p : Strand Body) (rest : List (Strand Body)) → (s.workers w).deque ≡ p ∷ rest → (hole child : ℕ) → s.places h.scope h.place ≡ out hole child
      → Fine s (turned_with (popped strands s w h e p rest hole) End child p.number)
  pops strands t a h at e p rest q hole child f = let o = owned p.scopes refl l.0 in let g = subst (IsLater (s.owner h.scope) s.strands) f (later h.scope h.place o.0) in
      (later_put s.strands (omega arith) h.scope h.place free tt, (g.1, l.2.young, (λ b. let a = g.0 in let y = o.1 in omega (arith, a, b, y)), omega arith, inr refl))
    where
      l : DequeFits BodyFits s location w t.number (Some h) (p ∷ rest)
      l = subst (λ l. DequeFits BodyFits s location w t.number (Some h) l) q (subst (λ o. DequeFits BodyFits s location w t.number o (s.workers w).deque) at (fits_as valid w within (running t) a).3)

      owned : (scopes : List ℕ) → p.scopes ≡ scopes → Above (Some h) scopes → (h.scope < s.scopes) × (s.owner h.scope ≡ p.number)
      owned [] b a = absurd a
      owned (m ∷ scopes) b a = let o = subst (λ l. Owns s.scopes s.owner s.outer p.number l p.home) b l.2.owns in subst (λ k. (k < s.scopes) × (s.owner k ≡ p.number)) (sym a) (o.0, o.1)

module _ {Body Ended : Type 0} {BodyFits : List ℕ → Body → Type 0} {P V : ℕ} {strands : Strands Body Ended} (keeps : KeepsFit BodyFits strands)
    {s : State Body Ended} {location : ℕ → Location} (valid : Valid BodyFits P V s location) (w : ℕ) (within : w < P) (B : ℕ) (goes : WorkerGoes BodyFits B strands s w) (later : Later s) where
  -- the scope of the strand that the worker runs
  runs_in : (t : Strand Body) (n : ℕ) (scopes : List ℕ) → (s.workers w).task ≡ running t → t.scopes ≡ n ∷ scopes → (n < s.scopes) × (s.owner n ≡ t.number) × (t.number < s.strands)
  runs_in t n scopes e at = let z = (fits_as valid w within (running t) e).1 in owner_of valid w within later t.number n scopes t.home t.scopes at z.young z.owns

  -- each row: words go between two different strands that are there
  pub row_fine : {v : ℕ} (r : Row strands s w v) → Fine s (row_result r)
  row_fine (stopped_row a b) = (later, refl)
  row_fine (empty_row a b c) = (later, refl)
  row_fine (steal_row t rest a b c) = (later, refl)
  row_fine (full_row t n scopes a b c) = (later, refl)
  row_fine (map_row t n scopes slot a b c) = (later, refl)
  row_fine (instruction_row t b words a) = (later, refl)
  row_fine (fail_row t b a) = (later, refl)
  row_fine (page_row t page store a b) = (later, refl)
  row_fine (first_spawn_row t k inside parent child hole a) = spawned_so (opening_valid keeps valid w within B goes t k inside parent child hole a) w within (opens valid w within later t k inside)
      (inside_of s.scopes t inside) s.scopes 0 (omega arith, put_self s.owner s.scopes t.number, (fits_as valid w within (running t) a.0).1.young) parent child hole
  row_fine (spawn_row t n scopes i inside parent child hole a b c) = spawned_so valid w within later t n i (runs_in t n scopes a.0 b) parent child hole
  row_fine (early_collect_row t n scopes i inside parent child hole filled number e a b c d f) = takes valid w within later strands t running n i filled number e (runs_in t n scopes a.0 b) f
  row_fine (crowded_row t n scopes inside parent child hole a b c d) = (later, refl)
  row_fine (park_row t n scopes more a b d) = (later, refl)
  row_fine (last_park_row t n scopes a b d) = (later, refl)
  row_fine (finish_row t e a b) = (later, refl)
  row_fine (pop_row t e h p rest hole child a b c d) = pops valid w within later strands t a.0 h b e p rest c hole child d
  row_fine (orphan_row t e h a b c) = (later, refl)
  row_fine (deposit_row h e hole child a b) = (
    later_put valid w within later s.strands (omega arith) h.scope h.place (back hole child e)
        (subst (IsLater (s.owner h.scope) s.strands) b (later h.scope h.place (fits_as valid w within (depositing h e) a).2.2.0)),
    refl,
  )
  row_fine (arrive_row n more a d) = (later, refl)
  row_fine (last_arrive_row n t a d g) = (later, refl)
  row_fine (unposted_row n a b) = (later, refl)
  row_fine (fetch_row n slot pages a b d) = (later, refl)
  row_fine (collect_row t n scopes i hole child e a b c d) = let z = (fits_as valid w within (collecting t) a).1 in
      takes valid w within later strands t collecting n i hole child e (owner_of valid w within later t.number n scopes t.home t.scopes b z.young z.owns) d
  row_fine (resume_row t n scopes a b c) = (later, refl)
  row_fine (over_row e a) = (later, refl)
