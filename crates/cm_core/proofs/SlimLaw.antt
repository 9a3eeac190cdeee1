-- Maps and chains grow at page faults alone.
use Rattle.std.proofs.Common.{ℕ, ◌-◌, ◌<◌, ◌≤◌, List, ap, arith, length, take, drop, length-append, length-drop, take-append-drop}
use Rattle.cm_core.specs.Table.{put}
use Rattle.cm_core.specs.State.{State, Strand, Worker, mapping}
use Rattle.cm_core.specs.Event.{Strands, faults, opened, stolen}
use Rattle.cm_core.specs.Row.{Row, arrive_row, collect_row, crowded_row, deposit_row, early_collect_row, empty_row, fail_row, fetch_row, finish_row, first_spawn_row, full_row, instruction_row, last_arrive_row, last_park_row, map_row, orphan_row, over_row, page_row, park_row, pop_row, row_result, resume_row, spawn_row, steal_row, stopped_row, unposted_row}
use Rattle.cm_core.specs.Held.{IsSlim}
use Rattle.cm_core.specs.Goes.{WorkerGoes}
use Rattle.cm_core.proofs.TableLaw.{at_put}
use Rattle.cm_core.proofs.ValidLaw.{next_fits}

take_short : (k : ℕ) (pages : List ℕ) → length (take k pages) ≤ length pages
take_short k pages = let a = ap length (take-append-drop k pages) in let b = length-append (take k pages) (drop k pages) in omega (arith, a, b)

module _ {Body Ended : Type 0} (B : ℕ) (s : State Body Ended) (w : ℕ) (slim : IsSlim B s) where
  -- one worker changes
  one : (now : Worker Body Ended) → length now.pages ≤ B → (v : ℕ) → length (put s.workers w now v).pages ≤ B
  one now l = at_put (λ v x. length x.pages ≤ B) s.workers w now l (λ v other. slim.0 v)

  steals : (v : ℕ) (t : Strand Body) (rest : List (Strand Body)) → IsSlim B (stolen s w v t rest)
  steals v t rest = (at_put (λ u x. length x.pages ≤ B) (put s.workers v robbed) w (record (put s.workers v robbed w) { task = mapping t }) (robs w) (λ u other. robs u), slim.1)
    where
      robbed : Worker Body Ended
      robbed = record (s.workers v) { deque = rest }

      robs : (u : ℕ) → length (put s.workers v robbed u).pages ≤ B
      robs = at_put (λ u x. length x.pages ≤ B) s.workers v robbed (slim.0 v) (λ u other. slim.0 u)

module _ {Body Ended : Type 0} (BodyFits : List ℕ → Body → Type 0) (B : ℕ) {strands : Strands Body Ended} (s : State Body Ended) (w : ℕ) (goes : WorkerGoes BodyFits B strands s w) (slim : IsSlim B s) where
  -- each row
  pub row_slim : {v : ℕ} (r : Row strands s w v) → IsSlim B (row_result r).state
  row_slim (stopped_row a b) = slim
  row_slim (empty_row a b c) = slim
  row_slim {v = v} (steal_row t rest a b c) = steals B s w slim v t rest
  row_slim (full_row t n scopes a b c) = slim
  row_slim (map_row t n scopes slot a b c) = (one B s w slim _ (slim.1 n), slim.1)
  row_slim (instruction_row t b words a) = (one B s w slim _ (slim.0 w), slim.1)
  row_slim (fail_row t b a) = (one B s w slim _ (slim.0 w), slim.1)
  row_slim (page_row t page store a b) = (
    one B s w slim _ (let f = length-append (s.workers w).pages (drop (length (s.workers w).store - 1) (s.workers w).store) in
        let g = length-drop (length (s.workers w).store - 1) (s.workers w).store in let l : length (s.workers w).pages < B = next_fits BodyFits B strands s w goes t faults a in omega (arith, f, g, l)),
    slim.1,
  )
  row_slim (first_spawn_row t k inside parent child hole a) = (
    at_put (λ u x. length x.pages ≤ B) (opened s w t k inside).workers w _ (one B s w slim _ (slim.0 w) w) (λ u other. one B s w slim _ (slim.0 w) u),
    at_put (λ n c. length c ≤ B) s.chain s.scopes (take k (s.workers w).pages) (let f = take_short k (s.workers w).pages in let c = slim.0 w in omega (arith, f, c)) (λ n other. slim.1 n),
  )
  row_slim (spawn_row t n scopes i inside parent child hole a b c) = (one B s w slim _ (slim.0 w), slim.1)
  row_slim (early_collect_row t n scopes i inside parent child hole filled number e a b c d f) = (one B s w slim _ (slim.0 w), slim.1)
  row_slim (crowded_row t n scopes inside parent child hole a b c d) = slim
  row_slim (park_row t n scopes more a b d) = (one B s w slim _ (omega arith), slim.1)
  row_slim (last_park_row t n scopes a b d) = (one B s w slim _ (slim.0 w), slim.1)
  row_slim (finish_row t e a b) = (one B s w slim _ (slim.0 w), slim.1)
  row_slim (pop_row t e h p rest hole child a b c d) = (one B s w slim _ (slim.0 w), slim.1)
  row_slim (orphan_row t e h a b c) = (one B s w slim _ (slim.0 w), slim.1)
  row_slim (deposit_row h e hole child a b) = (one B s w slim _ (slim.0 w), slim.1)
  row_slim (arrive_row n more a d) = (one B s w slim _ (omega arith), slim.1)
  row_slim (last_arrive_row n t a d g) = (one B s w slim _ (let f = take_short (length (s.chain n)) (s.workers w).pages in let b = slim.0 w in omega (arith, f, b)), slim.1)
  row_slim (unposted_row n a b) = slim
  row_slim (fetch_row n slot pages a b d) = (one B s w slim _ (slim.0 w), slim.1)
  row_slim (collect_row t n scopes i hole child e a b c d) = (one B s w slim _ (slim.0 w), slim.1)
  row_slim (resume_row t n scopes a b c) = (one B s w slim _ (slim.0 w), slim.1)
  row_slim (over_row e a) = slim
