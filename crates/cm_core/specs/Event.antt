-- The events: the state that each one leaves.
use Rattle.std.specs.Prelude.{ℕ, suc, ◌-◌, Bool, ◌||◌, List, [], ◌∷◌, ◌++◌, Option, Some, None, length, take, drop}
use Rattle.cm_core.specs.Table.{put}
use Rattle.cm_core.specs.State.{Home, innermost, Strand, free, out, back, active, suspended, joining, closed, Task, idle, mapping, running, depositing, arriving, leaving, collecting, over, Worker, State}

-- What a strand does next: an instruction with the words behind it, one that ends it, a page fault, a spawn, a sync of an open scope (or one that is ending with one), its end.
-- A spawn opens a scope first where it gives a number of pages, and then stands in the scope as `opened`; `parent` stands behind it.
pub data Next (Body Ended : Type 0) : Type 0 where
  goes : Body → (words : ℕ → ℕ) → Next Body Ended
  fails : Body → Next Body Ended
  faults : Next Body Ended
  spawns : (fresh : Option ℕ) → (opened parent child : Body) → (hole : ℕ) → Next Body Ended
  waits : Next Body Ended
  ends : Ended → Next Body Ended

-- a strand and the words once a hole was filled
pub record Filled (Body : Type 0) : Type 0 where
  pub body : Body
  pub words : ℕ → ℕ

-- a strand and the words once a child was popped or a scope was joined, and whether that made it ending
pub record Changed (Body : Type 0) : Type 0 where
  pub body : Body
  pub words : ℕ → ℕ
  pub ending : Bool

-- how strands go on, given the pages of the map and the words: what they do next, how a thief maps one, how an end popped or collected fills a hole, how a scope is joined
pub record Strands (Body Ended : Type 0) : Type 0 where
  pub next : Body → (pages : List ℕ) → (words : ℕ → ℕ) → Next Body Ended
  pub lower : Body → Body
  pub pop : Body → (hole : ℕ) → Ended → (pages : List ℕ) → (words : ℕ → ℕ) → Changed Body
  pub collect : Body → (hole : ℕ) → Ended → (pages : List ℕ) → (words : ℕ → ℕ) → Filled Body
  pub join : Body → (words : ℕ → ℕ) → Changed Body

-- the strand with this inside
abbrev pub with_body : {Body : Type 0} → Strand Body → Body → Strand Body
with_body t b = record t { body = b }

-- the strand in a new scope, with this inside
abbrev pub inside_of : {Body : Type 0} → (n : ℕ) → Strand Body → Body → Strand Body
inside_of n t b = record t { scopes = n ∷ t.scopes; body = b }

module _ {Body Ended : Type 0} where
  -- the state with this worker changed
  abbrev pub change : State Body Ended → ℕ → Worker Body Ended → State Body Ended
  change s w me = record s { workers = put s.workers w me }

  -- Steal: the thief maps the strand next, and the victim keeps the others of its deque
  abbrev pub stolen : State Body Ended → (w v : ℕ) → Strand Body → (rest : List (Strand Body)) → State Body Ended
  stolen s w v t rest = let robbed = change s v (record (s.workers v) { deque = rest }) in change robbed w (record (robbed.workers w) { task = mapping t })

  -- Map: the map becomes the scope's chain, and as many pages, the last of the store as they stand there, are posted
  abbrev pub mapped : Strands Body Ended → State Body Ended → ℕ → Strand Body → (n slot : ℕ) → State Body Ended
  mapped strands s w t n slot = let me = s.workers w in let kept = length me.store - length (s.chain n) in
      record s {
        workers = put s.workers w (record me { task = running (with_body t (strands.lower t.body)); pages = s.chain n; store = take kept me.store });
        surplus = put s.surplus n (put (s.surplus n) slot (Some (drop kept me.store)));
      }

  -- Instruction
  abbrev pub stepped : State Body Ended → ℕ → Strand Body → Body → (words : ℕ → ℕ) → (stopped : Bool) → State Body Ended
  stepped s w t b words stopped = record s { words = words; stopped = stopped; workers = put s.workers w (record (s.workers w) { task = running (with_body t b) }) }

  -- Page: the last page of the store goes last into the map
  abbrev pub page_added : State Body Ended → ℕ → State Body Ended
  page_added s w = let me = s.workers w in let kept = length me.store - 1 in change s w (record me { pages = me.pages ++ drop kept me.store; store = take kept me.store })

  -- a running strand opens a scope, with the first k pages of its map for a chain
  abbrev pub opened : State Body Ended → ℕ → Strand Body → (k : ℕ) → Body → State Body Ended
  opened s w t k b = let me = s.workers w in let n = s.scopes in
      record s {
        workers = put s.workers w (record me { task = running (inside_of n t b) });
        scopes = suc n;
        outer = put s.outer n (innermost t.scopes t.home);
        chain = put s.chain n (take k me.pages);
        owner = put s.owner n t.number;
        count = put s.count n 1;
        places = put s.places n (λ i. free);
        surplus = put s.surplus n (λ i. None);
        phase = put s.phase n active;
      }

  -- Spawn: the child runs, and its parent goes onto the deque
  abbrev pub spawned : State Body Ended → ℕ → Strand Body → (n i : ℕ) → (parent child : Body) → (hole : ℕ) → State Body Ended
  spawned s w t n i parent child hole = let me = s.workers w in
      let young : Strand Body = record { number = s.strands; home = Some (record { scope = n; place = i }); scopes = []; body = child } in
      record s {
        workers = put s.workers w (record me { task = running young; deque = with_body t parent ∷ me.deque });
        strands = suc s.strands;
        count = put s.count n (suc (s.count n));
        places = put s.places n (put (s.places n) i (out hole s.strands));
      }

  -- Collect: the answer in a place goes to the hole of the scope's owner, and the place is free
  abbrev pub collected : Strands Body Ended → State Body Ended → ℕ → Strand Body → (Strand Body → Task Body Ended) → (n i : ℕ) → (hole : ℕ) → Ended → State Body Ended
  collected strands s w t as_task n i hole e = let me = s.workers w in let now = strands.collect t.body hole e me.pages s.words in
      record s {
        words = now.words;
        workers = put s.workers w (record me { task = as_task (with_body t now.body) });
        places = put s.places n (put (s.places n) i free);
      }

  -- the worker's map, cut to the first k pages: the others go to the end of its store
  abbrev pub cut : Worker Body Ended → (k : ℕ) → Worker Body Ended
  cut me k = record me { store = me.store ++ drop k me.pages; pages = take k me.pages }

  -- the worker leaves a scope of k pages, with no map
  abbrev pub left : Worker Body Ended → (n k : ℕ) → Worker Body Ended
  left me n k = record me { task = leaving n; store = me.store ++ drop k me.pages; pages = [] }

  -- Park, where others are to come
  abbrev pub parked_among : State Body Ended → ℕ → Strand Body → (n more : ℕ) → State Body Ended
  parked_among s w t n more = record s {
    workers = put s.workers w (left (s.workers w) n (length (s.chain n)));
    count = put s.count n more;
    phase = put s.phase n (suspended t);
  }

  -- Park, where nobody is out
  abbrev pub parked_last : State Body Ended → ℕ → Strand Body → (n : ℕ) → State Body Ended
  parked_last s w t n = record s { workers = put s.workers w (record (s.workers w) { task = collecting t }); count = put s.count n 0; phase = put s.phase n joining }

  -- End, where the parent lies in the deque: it takes the end and runs on
  abbrev pub popped : Strands Body Ended → State Body Ended → ℕ → Home → Ended → Strand Body → List (Strand Body) → (hole : ℕ) → State Body Ended
  popped strands s w h e p rest hole = let me = s.workers w in let now = strands.pop p.body hole e me.pages s.words in
      record s {
        words = now.words;
        stopped = s.stopped || now.ending;
        workers = put s.workers w (record me { task = running (with_body p now.body); deque = rest });
        count = put s.count h.scope (s.count h.scope - 1);
        places = put s.places h.scope (put (s.places h.scope) h.place free);
      }

  -- End, where the parent was stolen
  abbrev pub orphaned : State Body Ended → ℕ → Home → Ended → State Body Ended
  orphaned s w h e = change s w (record (s.workers w) { task = depositing h e })

  -- Finish
  abbrev pub finished : State Body Ended → ℕ → Ended → State Body Ended
  finished s w e = change s w (record (s.workers w) { task = over e })

  -- Deposit: the end goes to its place
  abbrev pub deposited : State Body Ended → ℕ → Home → Ended → (hole child : ℕ) → State Body Ended
  deposited s w h e hole child = record s {
    workers = put s.workers w (record (s.workers w) { task = arriving h.scope });
    places = put s.places h.scope (put (s.places h.scope) h.place (back hole child e));
  }

  -- Arrive, where others are to come
  abbrev pub arrived_among : State Body Ended → (w n more : ℕ) → State Body Ended
  arrived_among s w n more = record s { workers = put s.workers w (left (s.workers w) n (length (s.chain n))); count = put s.count n more }

  -- Arrive, as the last: the parked strand is taken
  abbrev pub arrived_last : State Body Ended → (w n : ℕ) → Strand Body → State Body Ended
  arrived_last s w n t = record s {
    workers = put s.workers w (record (cut (s.workers w) (length (s.chain n))) { task = collecting t });
    count = put s.count n 0;
    phase = put s.phase n joining;
  }

  -- Fetch: a post goes to the end of the store
  abbrev pub fetched : State Body Ended → (w n slot : ℕ) → (pages : List ℕ) → State Body Ended
  fetched s w n slot pages = let me = s.workers w in
      record s { workers = put s.workers w (record me { task = idle; store = me.store ++ pages }); surplus = put s.surplus n (put (s.surplus n) slot None) }

  -- Resume: the scope is joined and closed
  abbrev pub resumed : Strands Body Ended → State Body Ended → ℕ → Strand Body → ℕ → List ℕ → State Body Ended
  resumed strands s w t n scopes = let now = strands.join t.body s.words in
      record s {
        words = now.words;
        stopped = s.stopped || now.ending;
        workers = put s.workers w (record (s.workers w) { task = running (record t { scopes = scopes; body = now.body }) });
        phase = put s.phase n closed;
      }
