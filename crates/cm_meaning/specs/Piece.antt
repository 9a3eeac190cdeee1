-- Fork and join, over the steps of any language. A *piece* is the part of a run that one spawned call does, or main:
-- its child pieces may run beside it, and at a sync they are joined in. What may come of a piece is said by rules,
-- and nothing is said of the order in which pieces go.
use Rattle.std.specs.Prelude.{◌≡◌, ℕ, suc, ◌+◌, ◌-◌, ◌<◌, ◌≤◌, ◌≢◌, Bool, true, false, ℤ, Option, List, [], ◌∷◌, ◌++◌, ⊤}
use Rattle.cm_syntax.specs.Trap.{Trap}
use Rattle.cm_syntax.specs.Label.{Step, silent, ticks, prints, spawns, syncs, traps, ends}
use Rattle.cm_meaning.specs.End.{End, Done, Trapped, Spent}

-- ---- what a piece comes to

-- how a piece itself comes to its end, its children aside: by its value, by a trap, or by want of ticks
pub data Own : Type 0 where
  returns : Option ℤ → Own
  fails : Trap → Own
  runs_out : Own

-- What the prints and the children of a log come to, in the order of the log: all children are Done, with so many
-- ticks together; or the first child that isn't Done is trapped, after so many ticks of the serial order; or spent.
pub data Sum : Type 0 where
  going : (out : List ℤ) → (used : ℕ) → Sum
  trapped : (out : List ℤ) → Trap → (used : ℕ) → Sum
  spent : Sum

-- an end by a value
abbrev pub IsDone : End → Type 0
IsDone (Done out v n) = ⊤
IsDone (Trapped out k n) = ⊥
IsDone Spent = ⊥

-- an end after so many ticks: itself within the ticks at the start, and spent beyond
pub data Capped (start : ℕ) : ℕ → End → End → Type 0 where
  fits : {n : ℕ} {e : End} → n ≤ start → Capped start n e e
  passes : {n : ℕ} {e : End} → start < n → Capped start n e Spent

-- What decides: the first child that isn't Done, and the piece's own end where there is none.
pub data Decides (start own : ℕ) : Sum → Own → End → Type 0 where
  all_done : {out : List ℤ} {n : ℕ} {v : Option ℤ} {e : End} → Capped start (own + n) (Done out v (own + n)) e
      → Decides start own (going out n) (returns v) e
  own_trap : {out : List ℤ} {n : ℕ} {k : Trap} {e : End} → Capped start (own + n) (Trapped out k (own + n)) e
      → Decides start own (going out n) (fails k) e
  own_spent : {out : List ℤ} {n : ℕ} → Decides start own (going out n) runs_out Spent
  child_trap : {out : List ℤ} {n : ℕ} {k : Trap} {o : Own} {e : End} → Capped start n (Trapped out k n) e
      → Decides start own (trapped out k n) o e
  child_spent : {o : Own} → Decides start own spent o Spent

-- a child's end, which was spawned at so many own ticks, is added to what came before it
abbrev pub add_end : Sum → (own : ℕ) → End → Sum
add_end (going out n) own (Done more v m) = going (out ++ more) (n + m)
add_end (going out n) own (Trapped more k m) = trapped (out ++ more) k (own + n + m)
add_end (going out n) own Spent = spent
add_end (trapped out k n) own e = trapped out k n
add_end spent own e = spent

-- a printed number is added
abbrev pub add_number : Sum → ℤ → Sum
add_number (going out n) v = going (out ++ (v ∷ [])) n
add_number (trapped out k n) v = trapped out k n
add_number spent v = spent

-- ---- pieces and their logs

module _ (Control Stack Destination : Type 0) where
  -- a call that a child piece starts with: its ticks at the start, its state
  pub record Ask : Type 0 where
    pub start : ℕ
    pub call : Control
    pub lent : Stack

  -- what came of a child: nothing yet, or its end and the words that it gives back
  pub data Answer : Type 0 where
    awaited : Answer
    told : End → Stack → Answer

  -- A printed number; or a child: the depth of the frame that spawned it, the own ticks at its spawn, its destination,
  -- whether it is joined, its ask and its answer.
  pub data Note : Type 0 where
    printed : ℤ → Note
    child : (depth own : ℕ) → Destination → (joined : Bool) → Ask → Answer → Note

  -- its ticks at the start, its own ticks so far, its state, and its log, in which the latest note stands first
  pub record Piece : Type 0 where
    pub start : ℕ
    pub own : ℕ
    pub control : Control
    pub held : Stack
    pub log : List Note

  abbrev pub piece : (start own : ℕ) → Control → Stack → List Note → Piece
  piece start own c h log = record { start = start; own = own; control = c; held = h; log = log }

  -- the piece of an ask
  abbrev pub begun : Ask → Piece
  begun q = piece q.start 0 q.call q.lent []

  -- the log has this note
  pub data HasNote : List Note → Note → Type 0 where
    here : {n : Note} {log : List Note} → HasNote (n ∷ log) n
    deeper : {n m : Note} {log : List Note} → HasNote log n → HasNote (m ∷ log) n

  -- an answer is added; an awaited one is left out
  abbrev pub add_answer : Sum → (own : ℕ) → Answer → Sum
  add_answer z own awaited = z
  add_answer z own (told e w) = add_end z own e

  -- what a log comes to
  abbrev pub log_sum : List Note → Sum
  log_sum [] = going [] 0
  log_sum (printed v ∷ log) = add_number (log_sum log) v
  log_sum (child depth own x joined q r ∷ log) = add_answer (log_sum log) own r

  -- So many ticks of Done children are counted: of each joined one, and of whichever others.
  pub data Counts : List Note → ℕ → Type 0 where
    none : Counts [] 0
    past : {log : List Note} {v : ℤ} {n : ℕ} → Counts log n → Counts (printed v ∷ log) n
    counted : {log : List Note} {d o : ℕ} {x : Destination} {q : Ask} {j : Bool} {n m : ℕ} {out : List ℤ} {v : Option ℤ} {w : Stack}
        → Counts log n → Counts (child d o x j q (told (Done out v m) w) ∷ log) (n + m)
    skipped : {log : List Note} {d o : ℕ} {x : Destination} {q : Ask} {n : ℕ} {r : Answer}
        → Counts log n → Counts (child d o x false q r ∷ log) n

  -- every child of the log has an answer
  abbrev pub AllTold : List Note → Type 0
  AllTold [] = ⊤
  AllTold (printed v ∷ log) = AllTold log
  AllTold (child d o x j q awaited ∷ log) = ⊥
  AllTold (child d o x j q (told e w) ∷ log) = AllTold log

  -- every child of the log has an end by a value
  abbrev pub AllDone : List Note → Type 0
  AllDone [] = ⊤
  AllDone (printed v ∷ log) = AllDone log
  AllDone (child d o x j q awaited ∷ log) = ⊥
  AllDone (child d o x j q (told e w) ∷ log) = IsDone e × AllDone log

  -- some child has an end that isn't Done
  pub data Fallen : List Note → Type 0 where
    by_trap : {log : List Note} {d o m : ℕ} {x : Destination} {q : Ask} {j : Bool} {out : List ℤ} {k : Trap} {w : Stack}
        → Fallen (child d o x j q (told (Trapped out k m) w) ∷ log)
    by_spent : {log : List Note} {d o : ℕ} {x : Destination} {q : Ask} {j : Bool} {w : Stack}
        → Fallen (child d o x j q (told Spent w) ∷ log)
    later : {log : List Note} {n : Note} → Fallen log → Fallen (n ∷ log)

  -- the words that a piece gives back: those that it holds where its end is Done, and else they are free
  abbrev pub Given : End → (held given : Stack) → Type 0
  Given (Done out v n) h w = w ≡ h
  Given (Trapped out k n) h w = ⊤
  Given Spent h w = ⊤

-- ---- rules

-- `Joins` says when two stacks are joined to a third; `TakesOut` when shares of words that were lent for reading, and
-- nothing else, are taken out of what a child gives back; `settle` puts a child's value into its destination; `depth` is
-- that of the running function's frame.
module _ (Control Stack Destination : Type 0) (Joins : Stack → Stack → Stack → Type 0) (TakesOut : (back rest given : Stack) → Type 0) (settle : Destination → Option ℤ → Stack → Stack)
    (depth : Control → ℕ) (step : Control → Stack → Step Control Stack Destination) where
  abbrev pub SomePiece : Type 0
  SomePiece = Piece Control Stack Destination

  abbrev pub SomeAsk : Type 0
  SomeAsk = Ask Control Stack Destination

  abbrev pub SomeAnswer : Type 0
  SomeAnswer = Answer Control Stack Destination

  abbrev pub Log : Type 0
  Log = List (Note Control Stack Destination)

  abbrev pub at_state : (start own : ℕ) → Control → Stack → Log → SomePiece
  at_state = piece Control Stack Destination

  abbrev pub CountsOf : Log → ℕ → Type 0
  CountsOf = Counts Control Stack Destination

  -- At a join all unjoined children of the frame at this depth are Done: each one's words come back with its value in
  -- the destination, and it is marked as joined.
  pub data Collects (d : ℕ) : Log → Stack → Log → Stack → Type 0 where
    none : {h : Stack} → Collects d [] h [] h
    past : {log later : Log} {v : ℤ} {h g : Stack} → Collects d log h later g → Collects d (printed v ∷ log) h (printed v ∷ later) g
    before : {log later : Log} {b o : ℕ} {x : Destination} {q : SomeAsk} {r : SomeAnswer} {h g : Stack}
        → Collects d log h later g → Collects d (child b o x true q r ∷ log) h (child b o x true q r ∷ later) g
    other : {log later : Log} {b o : ℕ} {x : Destination} {q : SomeAsk} {r : SomeAnswer} {h g : Stack}
        → b ≢ d → Collects d log h later g → Collects d (child b o x false q r ∷ log) h (child b o x false q r ∷ later) g
    taken : {log later : Log} {o m : ℕ} {x : Destination} {q : SomeAsk} {out : List ℤ} {v : Option ℤ} {w h i g : Stack}
        → Joins h (settle x v w) i → Collects d log i later g
        → Collects d (child d o x false q (told (Done out v m) w) ∷ log) h (child d o x true q (told (Done out v m) w) ∷ later) g

  -- how a piece comes to its own end
  pub data Stops (start own : ℕ) (c : Control) (h : Stack) (log : Log) : Own → Type 0 where
    by_trap : {k : Trap} → step c h ≡ traps k → Stops start own c h log (fails k)
    by_return : {v : Option ℤ} → step c h ≡ ends v → Stops start own c h log (returns v)
    by_tick : {t : Control} {g : Stack} {m : ℕ}
        → step c h ≡ ticks t g → CountsOf log m → start ≤ own + m → Stops start own c h log runs_out
    by_sync : {t : Control} {g : Stack} {more : Log} {m : ℕ}
        → step c h ≡ syncs t → Collects (depth c) log h more g → CountsOf more m → start < own + m → Stops start own c h log runs_out
    by_child : Fallen Control Stack Destination log → Stops start own c h log runs_out

  -- A share comes back before the sync: of a child that is Done and not joined, the piece gets shares of words that the
  -- child got for reading, and the answer has them no more, so none comes back twice.
  pub data GivesBack : Log → Stack → Log → Stack → Type 0 where
    this : {d o m : ℕ} {x : Destination} {q : SomeAsk} {out : List ℤ} {v : Option ℤ} {given back rest h g : Stack} {log : Log}
        → TakesOut back rest given → Joins h back g
        → GivesBack (child d o x false q (told (Done out v m) given) ∷ log) h (child d o x false q (told (Done out v m) rest) ∷ log) g
    deeper : {n : Note Control Stack Destination} {log more : Log} {h g : Stack} → GivesBack log h more g → GivesBack (n ∷ log) h (n ∷ more) g

  mutual
    -- One rule leads from a piece to the next one. A tick may be taken where own ticks and the counted ones are below
    -- the ticks at the start; a join fits where they are at most these. A child gets what is left.
    pub data Goes : SomePiece → SomePiece → Type 0 where
      silently : {start own : ℕ} {c t : Control} {h g : Stack} {log : Log}
          → step c h ≡ silent t g → Goes (at_state start own c h log) (at_state start own t g log)
      ticking : {start own m : ℕ} {c t : Control} {h g : Stack} {log : Log}
          → step c h ≡ ticks t g → CountsOf log m → own + m < start
          → Goes (at_state start own c h log) (at_state start (suc own) t g log)
      showing : {start own : ℕ} {v : ℤ} {c t : Control} {h g : Stack} {log : Log}
          → step c h ≡ prints v t g → Goes (at_state start own c h log) (at_state start own t g (printed v ∷ log))
      joining : {start own m : ℕ} {c t : Control} {h g : Stack} {log more : Log}
          → step c h ≡ syncs t → Collects (depth c) log h more g → CountsOf more m → own + m ≤ start
          → Goes (at_state start own c h log) (at_state start own t g more)
      parting : {start own m : ℕ} {c t call : Control} {h g lent : Stack} {x : Destination} {log : Log}
          → step c h ≡ spawns call lent x t g → CountsOf log m
          → Goes (at_state start own c h log) (at_state start own t g
          (child (depth c) own x false (record { start = start - (own + m); call = call; lent = lent }) awaited ∷ log))
      -- an answer comes, at any time
      hearing : {start own : ℕ} {c : Control} {h : Stack} {log more : Log}
          → Hears log more → Goes (at_state start own c h log) (at_state start own c h more)
      returning : {start own : ℕ} {c : Control} {h g : Stack} {log more : Log}
          → GivesBack log h more g → Goes (at_state start own c h log) (at_state start own c g more)

    -- one awaited answer of a log is told: an end that the rules allow to the child
    pub data Hears : Log → Log → Type 0 where
      this : {d o : ℕ} {x : Destination} {q : SomeAsk} {j : Bool} {e : End} {w : Stack} {log : Log}
          → Fork (begun Control Stack Destination q) e w → Hears (child d o x j q awaited ∷ log) (child d o x j q (told e w) ∷ log)
      deeper : {n : Note Control Stack Destination} {log more : Log} → Hears log more → Hears (n ∷ log) (n ∷ more)

    -- The rules lead from a piece to this end, and it gives back these words.
    pub data Fork : SomePiece → End → Stack → Type 0 where
      stops : {start own : ℕ} {c : Control} {h w : Stack} {log : Log} {o : Own} {e : End}
          → Stops start own c h log o → AllTold Control Stack Destination log
          → Decides start own (log_sum Control Stack Destination log) o e → Given Control Stack Destination e h w
          → Fork (at_state start own c h log) e w
      goes : {p q : SomePiece} {e : End} {w : Stack} → Goes p q → Fork q e w → Fork p e w

  -- The rules lead from the first piece to this one: it may be a child.
  pub data Reached (first : SomePiece) : SomePiece → Type 0 where
    itself : Reached first first
    then : {p q : SomePiece} → Reached first p → Goes p q → Reached first q
    its_child : {p : SomePiece} {d o : ℕ} {x : Destination} {j : Bool} {q : SomeAsk} {r : SomeAnswer}
        → Reached first p → HasNote Control Stack Destination p.log (child d o x j q r)
        → Reached first (begun Control Stack Destination q)
