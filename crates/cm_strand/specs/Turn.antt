-- What each event does to the strand that it touches, one function an event.
use Rattle.std.specs.Prelude.{◌≡◌, ℕ, ◌+◌, ◌-◌, ◌%◌, ◌≤◌, ◌<◌, ◌⊎◌, ◌==◌, nat_le, Bool, true, false, if◌then◌else◌, ℤ, Option, None, Some, List, [], ◌∷◌}
use Rattle.cm_syntax.specs.Trap.{Trap}
use Rattle.cm_meaning.specs.End.{End, Done, Trapped, Spent}
use Rattle.cm_meaning.specs.Piece.{Own, returns, fails, runs_out, Sum, going as adds, trapped, spent, add_number, add_end}
use Rattle.cm_isa.specs.Register.{with_register, with_result}
use Rattle.cm_isa.specs.Action.{follow}
use Rattle.cm_gen.specs.FrameWord.{bits}
use Rattle.cm_strand.specs.Owned.{Owned, no_words, OwnedSum, put}
use Rattle.cm_isa.specs.declared.convention.TheConstants as reg
use Rattle.cm_strand.specs.Strand.{Request, Filling, empty, filled, Hole, Entry, number, hole, Scope, Course, going, ending, Strand, hole_count, paid, done_ticks}

-- an instruction: the machine behind it has these registers, this counter and these words
abbrev pub after_instruction : Strand → (registers : ℕ → ℕ) → (counter : ℕ) → Owned → Strand
after_instruction s registers counter words = record s { registers = registers; counter = counter; words = words }

-- a service that replies with a word, or with none
abbrev pub reply : Strand → Option ℕ → Strand
reply s word = record s { registers = with_result s.registers reg.VALUE word; counter = follow s.counter }

-- a service that has nothing to do: a sync of a frame without a scope
abbrev pub pass : Strand → Strand
pass s = record s { counter = s.counter + 4 }

-- the innermost scope, if there is one, isn't that of this frame
abbrev pub IsElsewhere : List Scope → (frame : ℕ) → Type 0
IsElsewhere [] frame = Unit {0}
IsElsewhere (s ∷ scopes) frame = s.frame ≡ frame → ⊥

-- a page is added to its words
abbrev pub with_page : Strand → Owned → Strand
with_page s words = record s { words = words }

-- a number is printed
abbrev pub print : Strand → ℤ → Strand
print s v = record s { log = number v ∷ s.log; counter = s.counter + 4 }

-- it traps, or its ticks are spent
abbrev pub fail : Strand → Option Trap → Strand
fail s kind = record s { course = ending kind }

-- ---- spawns

-- the open scopes, where the running frame has one
abbrev pub scopes_at : List Scope → (frame low first depth : ℕ) → List Scope
scopes_at [] frame low first depth = record { frame = frame; low = low; first = first; depth = depth } ∷ []
scopes_at (s ∷ scopes) frame low first depth =
    if s.frame == frame then s ∷ scopes else record { frame = frame; low = low; first = first; depth = depth } ∷ s ∷ scopes

-- the ticks of its own that it used
abbrev pub used_by : Strand → ℕ
used_by s = s.start - (paid s.log + s.registers reg.TICKS)

-- the hole for a child
abbrev pub new_hole : Strand → Request → Hole
new_hole s request = record { used = used_by s; target = s.registers reg.LEFT; request = request; filling = empty; aside = no_words }

-- behind a spawn, with the words that it keeps
abbrev pub spawn : Strand → Request → (depth : ℕ) → Owned → Strand
spawn s request depth kept = record s {
  log = hole (new_hole s request) ∷ s.log;
  scopes = scopes_at s.scopes (s.registers reg.FP) (s.registers reg.SP) (hole_count s.log) depth;
  counter = s.counter + 4;
  words = kept;
}

-- the child of a spawn, with the words that it gets
abbrev pub child_of : Strand → Owned → Strand
child_of s lent = record {
  registers = λ r. if r == reg.RA then 0 else s.registers r;
  counter = s.registers reg.VALUE;
  start = s.registers reg.TICKS;
  log = [];
  scopes = [];
  course = going;
  words = lent;
}

-- ---- answers

-- a value goes into its destination, if there is one
abbrev pub delivered : (target : ℕ) → End → Owned → Owned
delivered target (Done out (Some v) n) w = if target == 0 then w else put w target (bits v)
delivered target e w = w

-- a hole is filled
abbrev pub filled_hole : Hole → End → (paid : Bool) → Owned → Hole
filled_hole H e b w = record H { filling = filled e b; aside = delivered H.target e w }

-- that of this number
abbrev pub fill : List Entry → (n : ℕ) → End → (paid : Bool) → Owned → List Entry
fill [] n e b w = []
fill (number v ∷ log) n e b w = number v ∷ fill log n e b w
fill (hole H ∷ log) n e b w = if hole_count log == n then hole (filled_hole H e b w) ∷ log else hole H ∷ fill log n e b w

-- the hole of this number
abbrev pub HoleAt : List Entry → (n : ℕ) → Hole → Type 0
HoleAt [] n H = ⊥
HoleAt (number v ∷ log) n H = HoleAt log n H
HoleAt (hole G ∷ log) n H = ((n ≡ hole_count log) × (G ≡ H)) ⊎ ((n < hole_count log) × HoleAt log n H)

-- A collected answer. Of the words that came with it those of frames are kept aside up to the join, and the others, free ones
-- below the frames, are run on at once.
abbrev pub collect : Strand → (n : ℕ) → End → (aside words : Owned) → Strand
collect s n e aside words = record s { log = fill s.log n e false aside; words = words }

-- the course behind a popped answer
abbrev pub course_behind : End → Course
course_behind (Done out v n) = going
course_behind (Trapped out k n) = ending None
course_behind Spent = ending None

-- a popped answer, whose ticks are taken at once
abbrev pub pop : Strand → (n : ℕ) → End → (aside words : Owned) → Strand
pop s n e aside words = record s {
  registers = with_register s.registers reg.TICKS (s.registers reg.TICKS - done_ticks e);
  log = fill s.log n e true aside;
  course = course_behind e;
  words = words;
}

-- ---- thieves and joins

-- the innermost scope
abbrev pub first_scope : List Scope → Option Scope
first_scope [] = None
first_scope (s ∷ scopes) = Some s

-- the others
abbrev pub outer : List Scope → List Scope
outer [] = []
outer (s ∷ scopes) = scopes

-- x2 is lowered to a page, for a thief
abbrev pub lower : Strand → (page low : ℕ) → Strand
lower s page low = record s { registers = with_register s.registers reg.SP (low - low % page) }

-- the ticks of a hole that weren't taken
abbrev pub unpaid_by : Filling → ℕ
unpaid_by empty = 0
unpaid_by (filled e true) = 0
unpaid_by (filled e false) = done_ticks e

-- those of the holes from this one on
abbrev pub unpaid : (first : ℕ) → List Entry → ℕ
unpaid first [] = 0
unpaid first (number v ∷ log) = unpaid first log
unpaid first (hole H ∷ log) = unpaid first log + (if nat_le first (hole_count log) then unpaid_by H.filling else 0)

-- their ticks are taken, and what they kept aside is taken in
abbrev pub paid_filling : Filling → Filling
paid_filling empty = empty
paid_filling (filled e b) = filled e true

-- a hole behind its join
abbrev pub joined_hole : Hole → Hole
joined_hole H = record H { filling = paid_filling H.filling; aside = no_words }

-- the log behind a join of the holes from this one on
abbrev pub joined_log : (first : ℕ) → List Entry → List Entry
joined_log first [] = []
joined_log first (number v ∷ log) = number v ∷ joined_log first log
joined_log first (hole H ∷ log) = (if nat_le first (hole_count log) then hole (joined_hole H) else hole H) ∷ joined_log first log

-- all words that holes from this one on kept aside are added to others
abbrev pub TakesIn : (first : ℕ) → List Entry → (run all : Owned) → Type 0
TakesIn first [] run all = all ≡ run
TakesIn first (number v ∷ log) run all = TakesIn first log run all
TakesIn first (hole H ∷ log) run all = (older : Owned) × TakesIn first log run older
    × (((first ≤ hole_count log) × OwnedSum older H.aside all) ⊎ ((hole_count log < first) × (all ≡ older)))

-- all ends of the holes from this one on are by a value
abbrev pub FilledDone : Filling → Type 0
FilledDone (filled (Done out v n) b) = Unit {0}
FilledDone _ = ⊥

-- of all holes from this one on
abbrev pub AllFilledDone : (first : ℕ) → List Entry → Type 0
AllFilledDone first [] = Unit {0}
AllFilledDone first (number v ∷ log) = AllFilledDone first log
AllFilledDone first (hole H ∷ log) = ((first ≤ hole_count log) → FilledDone H.filling) × AllFilledDone first log

-- they are filled
abbrev pub AllFilledFrom : (first : ℕ) → List Entry → Type 0
AllFilledFrom first [] = Unit {0}
AllFilledFrom first (number v ∷ log) = AllFilledFrom first log
AllFilledFrom first (hole H ∷ log) = ((first ≤ hole_count log) → H.filling ≡ empty → ⊥) × AllFilledFrom first log

-- some end of them isn't
abbrev pub FilledOtherwise : Filling → Type 0
FilledOtherwise empty = ⊥
FilledOtherwise (filled (Done out v n) b) = ⊥
FilledOtherwise (filled e b) = Unit {0}

-- of some hole from this one on
abbrev pub SomeFilledOtherwise : (first : ℕ) → List Entry → Type 0
SomeFilledOtherwise first [] = ⊥
SomeFilledOtherwise first (number v ∷ log) = SomeFilledOtherwise first log
SomeFilledOtherwise first (hole H ∷ log) = ((first ≤ hole_count log) × FilledOtherwise H.filling) ⊎ SomeFilledOtherwise first log

-- a join that fits: the scope is closed, the ticks are taken, x2 is the low end of the scope, and the strand runs on
abbrev pub join : Strand → Scope → Owned → Strand
join s scope words = record s {
  registers = with_register (with_register s.registers reg.TICKS (s.registers reg.TICKS - unpaid scope.first s.log)) reg.SP scope.low;
  counter = s.counter + 4;
  log = joined_log scope.first s.log;
  scopes = outer s.scopes;
  words = words;
}

-- one that doesn't: the scope is closed, and the strand is ending
abbrev pub break_off : Strand → Strand
break_off s = record s { scopes = outer s.scopes; course = ending None }

-- an ending strand goes on past a scope
abbrev pub close : Strand → Strand
close s = record s { scopes = outer s.scopes }

-- a strand that is on its way has no ticks left from now on, and one that is ending ends as it was about to
abbrev pub stopped_course : Course → Course
stopped_course going = ending None
stopped_course (ending kind) = ending kind

-- a join that doesn't fit, of whichever strand
abbrev pub broken : Strand → Strand
broken s = record s { scopes = outer s.scopes; course = stopped_course s.course }

-- ---- the end

-- what a log comes to
abbrev pub add_filling : Sum → (used : ℕ) → Filling → Sum
add_filling z used empty = z
add_filling z used (filled e b) = add_end z used e

-- of a whole log
abbrev pub entries_sum : List Entry → Sum
entries_sum [] = adds [] 0
entries_sum (number v ∷ log) = add_number (entries_sum log) v
entries_sum (hole H ∷ log) = add_filling (entries_sum log) H.used H.filling

-- an end after so many ticks
abbrev pub within_start : (start n : ℕ) → End → End
within_start start n e = if nat_le n start then e else Spent

-- what decides
abbrev pub decided : (start own : ℕ) → Sum → Own → End
decided start own (adds out n) (returns v) = within_start start (own + n) (Done out v (own + n))
decided start own (adds out n) (fails k) = within_start start (own + n) (Trapped out k (own + n))
decided start own (adds out n) runs_out = Spent
decided start own (trapped out k n) o = within_start start n (Trapped out k n)
decided start own spent o = Spent

-- the strand's own end: by the value in x10, or as it is ending
abbrev pub own_end : Course → (value : ℤ) → Own
own_end going v = returns (Some v)
own_end (ending (Some k)) v = fails k
own_end (ending None) v = runs_out

-- the end of a strand, where x10 has this value
abbrev pub end_of : Strand → (value : ℤ) → End
end_of s v = decided s.start (used_by s) (entries_sum s.log) (own_end s.course v)

-- every hole is filled
abbrev pub AllFilled : List Entry → Type 0
AllFilled [] = Unit {0}
AllFilled (number v ∷ log) = AllFilled log
AllFilled (hole H ∷ log) = (H.filling ≡ empty → ⊥) × AllFilled log
