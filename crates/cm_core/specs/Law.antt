-- What is kept by every turn of every run, and what a turn says by what it says it did.
use Rattle.std.specs.Prelude.{◌≡◌, ℕ, ◌<◌, ◌⊎◌, true, false, ⊤, List, [], ◌∷◌, ◌++◌, None}
use Rattle.cm_core.specs.State.{width, Strand, free, back, closed, idle, mapping, running, collecting, leaving, over, State}
use Rattle.cm_core.specs.Event.{spawns, Strands, with_body}
use Rattle.cm_core.specs.Turn.{Why, Empty, Stopped, Unposted, NoPlace, Did, Instruction, Page, Spawn, Steal, Map, End, Deposit, Arrive, Fetch, Park, Collect, Resume, Finish, NotYet, Lost, words_of, Turned}
use Rattle.cm_core.specs.Row.{IsAt, RunsTo, least_free, least_back, least_empty, least_filled}
use Rattle.cm_core.specs.Held.{IsSlim}
use Rattle.cm_core.specs.Valid.{Location, Valid}
use Rattle.cm_core.specs.Post.{PostedIn}
use Rattle.cm_core.specs.Owner.{OwnedIn}
use Rattle.cm_core.specs.Share.{Later}

-- all that is kept, with P workers of V pages each, where no map comes to more than B pages
pub record Sound {Body Ended : Type 0} (BodyFits : List ℕ → Body → Type 0) (P V B : ℕ) (s : State Body Ended) : Type 0 where
  pub location : ℕ → Location
  pub valid : Valid BodyFits P V s location
  pub posted : PostedIn P s
  pub owned : OwnedIn P s
  pub later : Later s
  pub slim : IsSlim B s

module _ {Body Ended : Type 0} (strands : Strands Body Ended) (s : State Body Ended) (w v : ℕ) where
  -- why a turn did nothing yet
  abbrev pub IsCause : Why → Type 0
  IsCause Stopped = IsAt s w idle × (s.stopped ≡ true)
  IsCause Empty = IsAt s w idle × (s.stopped ≡ false) × ((s.workers v).deque ≡ [])
  IsCause Unposted = (n : ℕ) × IsAt s w (leaving n) × (least_filled s n ≡ None)
  IsCause NoPlace = ((t : Strand Body) × (n : ℕ) × (scopes : List ℕ) × IsAt s w (mapping t) × (t.scopes ≡ n ∷ scopes) × (least_empty s n ≡ None))
      ⊎ ((t : Strand Body) × (n : ℕ) × (scopes : List ℕ) × (inside : Body) × (parent : Body) × (child : Body) × (hole : ℕ)
      × RunsTo strands s w t (spawns None inside parent child hole) × (t.scopes ≡ n ∷ scopes) × (least_free s n ≡ None) × (least_back s n ≡ None))

  -- what a turn says it did: nothing yet has its cause and changes nothing; a steal takes the oldest strand, and comes only where no strand has ended otherwise than by return;
  -- a thief's strand is lowered as it is mapped; words go from a parent to its child, and back to the owner that takes the child's answer, whose place is free then;
  -- a scope is joined where no answer is left in it; and the table has an event but where the root has ended with this worker
  abbrev pub DoesAs : Did → Turned Body Ended → Type 0
  DoesAs (NotYet why) t' = IsCause why × (t'.state ≡ s)
  DoesAs Steal t' = IsAt s w idle × (s.stopped ≡ false) × ((t : Strand Body) × (rest : List (Strand Body)) × ((s.workers v).deque ≡ rest ++ t ∷ []) × IsAt t'.state w (mapping t))
  DoesAs Map t' = (t : Strand Body) × IsAt s w (mapping t) × IsAt t'.state w (running (with_body t (strands.lower t.body)))
  DoesAs Spawn t' = (t : Strand Body) × IsAt s w (running t) × (t'.moved ≡ words_of t.number s.strands)
  DoesAs Collect t' = (t : Strand Body) × (IsAt s w (running t) ⊎ IsAt s w (collecting t)) × ((n : ℕ) × (i : ℕ) × (hole : ℕ) × (child : ℕ) × (e : Ended) × (i < width) × (s.places n i ≡ back hole child e)
      × (t'.state.places n i ≡ free) × (t'.moved ≡ words_of child t.number))
  DoesAs Resume t' = (t : Strand Body) × (n : ℕ) × (scopes : List ℕ) × IsAt s w (collecting t) × (t.scopes ≡ n ∷ scopes) × ((i : ℕ) → i < width → s.places n i ≡ free) × (t'.state.phase n ≡ closed)
  DoesAs Lost t' = ((e : Ended) × IsAt s w (over e)) × (t'.state ≡ s)
  DoesAs Instruction t' = ⊤
  DoesAs Page t' = ⊤
  DoesAs End t' = ⊤
  DoesAs Deposit t' = ⊤
  DoesAs Arrive t' = ⊤
  DoesAs Fetch t' = ⊤
  DoesAs Park t' = ⊤
  DoesAs Finish t' = ⊤
