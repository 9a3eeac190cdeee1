-- What the laws of strands say.
use Rattle.std.specs.Prelude.{◌≡◌, ℕ, ◌+◌, ◌*◌, ◌<◌, ◌≤◌, ◌^◌, ◌⊎◌, Bool, ℤ, Option, None, Some, List, [], ◌∷◌, length}
use Rattle.std.specs.Int.{w32, cast_signed}
use Rattle.cm_syntax.specs.Trap as kind
use Rattle.cm_syntax.specs.Trap.{Trap}
use Rattle.cm_meaning.specs.End.{End, Done}
use Rattle.cm_syntax.specs.declared.stmt.Program.{Program}
use Rattle.cm_meaning.specs.Activation.{end_count}
use Rattle.cm_isa.specs.Machine.{Machine, StepsTo}
use Rattle.cm_isa.specs.Address.{InstructionAt}
use Rattle.cm_isa.specs.Operation.{ecall}
use Rattle.cm_meaning.specs.Meaning.{Limits, Ask, Piece, Fork, begun, main_ask, Reached, SerialEnd, Asks, Answers}
use Rattle.cm_meaning.specs.Piece.{IsDone, child, told}
use Rattle.cm_strand.specs.Piece.{HasNote}
use Rattle.cm_strand.specs.Unshared.{IsUnshared}
use Rattle.cm_syntax.specs.Stack.{Stack, Destination}
use Rattle.cm_meaning.specs.Measure.{IsSerialPages, IsCilkDepth}
use Rattle.cm_gen.specs.Standing.{Frame, IsCompiled}
use Rattle.cm_gen.specs.FrameWord.{AreFrames, MayStand, words_at, word_address}
use Rattle.cm_syntax.specs.Lending.{IsAccepted}
use Rattle.cm_gen.specs.Formed.{Runs}
use Rattle.cm_gen.specs.Moment.{MapsFrame}
use Rattle.cm_gen.specs.Returns.{link_of, Links}
use Rattle.cm_gen.specs.StandsFor.{Spot, first_spot, Reply, Traps, ExactAt, Begins}
use Rattle.cm_strand.specs.Owned.{Owned, Claim, OwnedSum, ClaimSum, Covers, Spares, seen, claim}
use Rattle.cm_strand.specs.Walk.{Walk, LiveOn, frames_to}
use Rattle.cm_meaning.specs.Leads.{Leads}
use Rattle.cm_strand.specs.Standing.{StandsAs, StandsBehind, Events, Parted, Waits, Answered, IsSorted}
use Rattle.cm_gen.specs.StandsFor.{AreMapped}
use Rattle.cm_isa.specs.declared.convention.TheConstants as reg
use Rattle.cm_gen.specs.declared.form.Form.TheVariants.{Cilk}
use Rattle.cm_strand.specs.Strand.{Request, Hole, Entry, Scope, empty, going, ending, Strand, machine_of, hole_count, Balances, Owns, HolesSpare, OthersSpare, OlderSpare}
use Rattle.cm_strand.specs.Turn.{after_instruction, spawn, print, reply, pass, fail, with_page, collect, pop, lower, join, break_off, close, broken, end_of, fill, delivered, joined_log, HoleAt, IsElsewhere, TakesIn, AllFilledDone, SomeFilledOtherwise, AllFilledFrom, unpaid}
use Rattle.cm_strand.specs.Outcome.{IsSpawned}

-- A program with its limits and input, in its build: it is sound and obeys the lending rule, its stack is less than the addresses below
-- the top, and the image is its code.
pub record World : Type 0 where
  pub program : Program
  pub limits : Limits
  pub input : List ℤ
  pub image : List ℕ
  pub runs : Runs program limits.page (limits.stack * limits.page) input
  pub accepted : IsAccepted program
  pub small : limits.stack * limits.page < 2 ^ 30
  pub compiled : IsCompiled program Cilk limits.page (InstructionAt image)

module _ (w : World) (request : Request) where
  -- the request is one of a reached piece
  abbrev pub IsReached : Type 0
  IsReached = Reached w.program w.limits.page w.input (begun (main_ask w.program w.limits)) (begun request.ask)

  -- a strand of the request stands for a piece
  abbrev pub Stands : (given : Claim) → Strand → Spot → Piece → Type 0
  Stands = StandsAs w.program w.limits.page w.input w.image request

  -- behind an event it stands for a piece to which the rules lead from this one
  abbrev pub Behind : (given : Claim) → Spot → Strand → Piece → Type 0
  Behind = StandsBehind w.program w.limits.page w.input w.image request

  -- a strand on its way that is at a service
  abbrev pub At : Strand → Type 0
  At s = (s.course ≡ going) × InstructionAt w.image s.counter ecall

  -- at the start
  abbrev pub Starts : Type 0
  Starts = (s : Strand) → s.log ≡ [] → s.scopes ≡ [] → s.course ≡ going → s.start ≡ request.ask.start → request.ask.start < 2 ^ 32
      → end_count request.ask.call.rest ≡ 0
      → ExactAt w.program Cilk w.limits.page w.input (InstructionAt w.image) request.spot request.ask.start request.ask.call request.ask.lent (machine_of s)
      → Stands (claim s.words) s request.spot (begun request.ask)

  -- Behind an instruction; the returns are those that it leaves. Where it is the first store into a new frame, the words up to where
  -- the frame may stand are mapped.
  abbrev pub KeepsByInstruction : Type 0
  KeepsByInstruction = (given : Claim) (s : Strand) (spot : Spot) (p : Piece) (next : Machine) (words : Owned) → Stands given s spot p → s.course ≡ going
      → MapsFrame w.program Cilk w.limits.page w.input (InstructionAt w.image) spot (machine_of s) → StepsTo (InstructionAt w.image) (machine_of s) next → seen words ≡ next.words → claim words ≡ claim s.words
      → (x : Behind given spot (after_instruction s next.registers next.counter words) p)
      × ((z : StepsTo (InstructionAt w.image) (machine_of s) next) → Links (link_of z.instruction) (machine_of s) next spot.returns x.spot.returns)

  -- a service that it asks for is one of ten
  abbrev pub AsksKnown : Type 0
  AsksKnown = (given : Claim) (s : Strand) (spot : Spot) (p : Piece) → Stands given s spot p → At s → s.registers reg.SERVICE ≤ 9

  -- a number of the input that it asks for is replied, or isn't there
  abbrev pub HearsInput : Type 0
  HearsInput = (given : Claim) (s : Strand) (spot : Spot) (p : Piece) → Stands given s spot p → At s → s.registers reg.SERVICE ≡ 2
      → ((n : ℕ) × Reply w.program Cilk w.limits.page w.input (InstructionAt w.image) (machine_of s) n)
      ⊎ Traps w.program Cilk w.limits.page w.input (InstructionAt w.image) kind.Input (machine_of s)

  -- behind a print
  abbrev pub KeepsByPrint : Type 0
  KeepsByPrint = (given : Claim) (s : Strand) (spot : Spot) (p : Piece) → Stands given s spot p → At s → s.registers reg.SERVICE ≡ 1
      → Behind given spot (print s (cast_signed w32 (s.registers reg.VALUE))) p

  -- behind a reply
  abbrev pub KeepsByReply : Type 0
  KeepsByReply = (given : Claim) (s : Strand) (spot : Spot) (p : Piece) (word : ℕ) → Stands given s spot p → At s
      → Reply w.program Cilk w.limits.page w.input (InstructionAt w.image) (machine_of s) word → Behind given spot (reply s (Some word)) p

  -- behind a sync of a frame without a scope
  abbrev pub KeepsByPass : Type 0
  KeepsByPass = (given : Claim) (s : Strand) (spot : Spot) (p : Piece) → Stands given s spot p → At s → s.registers reg.SERVICE ≡ 5
      → IsElsewhere s.scopes (s.registers reg.FP) → Behind given spot (pass s) p

  -- behind a page
  abbrev pub KeepsByPage : Type 0
  KeepsByPage = (given given_later : Claim) (s : Strand) (spot : Spot) (p : Piece) (more words : Owned) → Stands given s spot p
      → OwnedSum s.words more words → ClaimSum given (claim more) given_later → Behind given_later spot (with_page s words) p

  -- behind a spawn
  abbrev pub KeepsBySpawn : Type 0
  KeepsBySpawn = (given : Claim) (s : Strand) (spot : Spot) (p : Piece) (lent kept : Owned) (due more : Claim) → Stands given s spot p → At s
      → s.registers reg.SERVICE ≡ 4 → Parted w.program w.limits.page w.input w.image s lent kept due more
      → IsSpawned w.program w.limits.page w.input w.image (begun (main_ask w.program w.limits)) request given spot s lent kept due more p

  -- behind a collected and a popped answer
  abbrev pub KeepsByCollect : Type 0
  KeepsByCollect = (given given_later more : Claim) (s : Strand) (spot : Spot) (p : Piece) (n : ℕ) (H : Hole) (e : End) (all aside back words : Owned)
      → Stands given s spot p → HoleAt s.log n H → H.filling ≡ empty → Answered w.program w.limits.page w.input w.image H.request e all
      → IsSorted w.program w.limits.page w.input w.image H all aside back s.words words more → ClaimSum given more given_later
      → Behind given_later spot (collect s n e aside words) p

  -- behind a popped answer, of a strand that waits as its last spawn left it
  abbrev pub KeepsByPop : Type 0
  KeepsByPop = (given given_later more : Claim) (s : Strand) (spot : Spot) (p : Piece) (H : Hole) (log : List Entry) (e : End) (all aside back words : Owned)
      → Waits w.program w.limits.page w.input w.image request given s H log spot p → Answered w.program w.limits.page w.input w.image H.request e all
      → IsSorted w.program w.limits.page w.input w.image H all aside back s.words words more → ClaimSum given more given_later
      → Behind given_later spot (pop s (hole_count log) e aside words) p

  -- for a thief
  abbrev pub KeepsByLower : Type 0
  KeepsByLower = (given : Claim) (s : Strand) (H : Hole) (log : List Entry) (spot : Spot) (p : Piece) (scope : Scope) (outer : List Scope) → 0 < w.limits.page
      → Waits w.program w.limits.page w.input w.image request given s H log spot p → s.scopes ≡ scope ∷ outer → scope.frame ≡ s.registers reg.FP
      → Behind given spot (lower s w.limits.page scope.low) p

  -- behind a join that fits, and one that doesn't
  abbrev pub KeepsByJoin : Type 0
  KeepsByJoin = (given : Claim) (s : Strand) (spot : Spot) (p : Piece) (scope : Scope) (outer : List Scope) (words : Owned) → Stands given s spot p → At s
      → s.registers reg.SERVICE ≡ 5 → s.scopes ≡ scope ∷ outer → scope.frame ≡ s.registers reg.FP → AllFilledDone scope.first s.log
      → unpaid scope.first s.log ≤ s.registers reg.TICKS → TakesIn scope.first s.log s.words words → Behind given spot (join s scope words) p

  -- behind a join that doesn't fit: some child ended otherwise, or the ticks don't
  abbrev pub EndsByJoin : Type 0
  EndsByJoin = (given : Claim) (s : Strand) (spot : Spot) (p : Piece) (scope : Scope) (outer : List Scope) → Stands given s spot p → At s
      → s.registers reg.SERVICE ≡ 5 → s.scopes ≡ scope ∷ outer → scope.frame ≡ s.registers reg.FP
      → AllFilledFrom scope.first s.log → SomeFilledOtherwise scope.first s.log ⊎ (AllFilledDone scope.first s.log × (s.registers reg.TICKS < unpaid scope.first s.log))
      → Behind given spot (break_off s) p

  -- a join of a strand that is ending
  abbrev pub KeepsEndingByJoin : Type 0
  KeepsEndingByJoin = (given : Claim) (s : Strand) (spot : Spot) (p : Piece) (kind : Option Trap) (scope : Scope) (outer : List Scope) (words : Owned) → Stands given s spot p
      → s.course ≡ ending kind → s.scopes ≡ scope ∷ outer → AllFilledDone scope.first s.log → unpaid scope.first s.log ≤ s.registers reg.TICKS
      → TakesIn scope.first s.log s.words words → Behind given spot (join s scope words) p

  -- behind a trap and spent ticks
  abbrev pub EndsByTrap : Type 0
  EndsByTrap = (given : Claim) (s : Strand) (spot : Spot) (p : Piece) (k : Trap) → Stands given s spot p → At s
      → Traps w.program Cilk w.limits.page w.input (InstructionAt w.image) k (machine_of s) → Behind given spot (fail s (Some k)) p

  -- behind spent ticks
  abbrev pub EndsByTicks : Type 0
  EndsByTicks = (given : Claim) (s : Strand) (spot : Spot) (p : Piece) → Stands given s spot p → At s → s.registers reg.SERVICE ≡ 6
      → Behind given spot (fail s None) p

  -- a strand that is ending goes on past a scope
  abbrev pub KeepsByClose : Type 0
  KeepsByClose = (given : Claim) (s : Strand) (spot : Spot) (p : Piece) (kind : Option Trap) (scope : Scope) (inner : List Scope) → Stands given s spot p → s.course ≡ ending kind
      → s.scopes ≡ scope ∷ inner → AllFilledFrom scope.first s.log → Behind given spot (close s) p

  -- What is decided is an end that the rules allow, and all words are given back that were given: by a value at the end service, where no
  -- scope is open,
  -- and otherwise of a strand that is ending.
  abbrev pub AnswersByValue : Type 0
  AnswersByValue = (given : Claim) (s : Strand) (spot : Spot) (p : Piece) (all : Owned) → Stands given s spot p → At s → s.registers reg.SERVICE ≡ 0
      → Owns s.words s.log all
      → (s.scopes ≡ []) × Answered w.program w.limits.page w.input w.image request (end_of s (cast_signed w32 (s.registers reg.RESULT))) all × (claim all ≡ given)

  -- the same of a strand that is ending
  abbrev pub AnswersOtherwise : Type 0
  AnswersOtherwise = (given : Claim) (s : Strand) (spot : Spot) (p : Piece) (kind : Option Trap) (v : ℤ) (all : Owned) → Stands given s spot p
      → s.course ≡ ending kind → s.scopes ≡ [] → Owns s.words s.log all
      → Answered w.program w.limits.page w.input w.image request (end_of s v) all × (claim all ≡ given)

  -- behind an event the piece is reached, and each end that the rules allow to it they allow to the piece before
  abbrev pub LeadsToReached : Type 0
  LeadsToReached = (given : Claim) (spot : Spot) (s : Strand) (p : Piece) (x : Behind given spot s p)
      → Reached w.program w.limits.page w.input (begun (main_ask w.program w.limits)) p → Reached w.program w.limits.page w.input (begun (main_ask w.program w.limits)) x.to

  -- and each end that the rules allow to it they allow to the piece before
  abbrev pub KeepsEnds : Type 0
  KeepsEnds = (given : Claim) (spot : Spot) (s : Strand) (p : Piece) (x : Behind given spot s p) (e : End) (g : Stack)
      → Fork w.program w.limits.page w.input x.to e g → Fork w.program w.limits.page w.input p e g

  -- what stands behind one event and then behind another one stands behind both
  abbrev pub GoesOnBehind : Type 0
  GoesOnBehind = (given later : Claim) (spot : Spot) (s t : Strand) (p : Piece) (x : Behind given spot s p) → Behind later x.spot t x.to → Behind later spot t p

  -- behind any list of events a strand stands for a piece to which the rules lead from the first one, and their ways are one walk
  abbrev pub GoesOnForAll : Type 0
  GoesOnForAll = (given : Claim) (spot new : Spot) (s last : Strand) (p q : Piece) → Stands given s spot p
      → Events w.program w.limits.page w.input w.image request spot s p new last q
      → Leads w.program w.limits.page w.input p q × Walk spot new × ((later : Claim) × Stands later last new q)

-- a join that doesn't fit breaks a strand off that is on its way, and closes the scope of one that is ending
abbrev pub BreaksOff : Type 0
BreaksOff = (s : Strand) → s.course ≡ going → broken s ≡ break_off s

abbrev pub Closes : Type 0
Closes = (s : Strand) (kind : Option Trap) → s.course ≡ ending kind → broken s ≡ close s

-- the first frames that are live all the way stay where they are
abbrev pub FramesStay : Type 0
FramesStay = (n : ℕ) (old new : Spot) (walk : Walk old new) → LiveOn n walk → frames_to n old.frames ≡ frames_to n new.frames

-- What is owned altogether: further words are added, a child's are taken from it, an answer's are added, and at a join it is as it
-- was. So the sums of which the events speak are there.
abbrev pub OwnsMore : Type 0
OwnsMore = (run more : Owned) (log : List Entry) (all later : Owned) → Owns run log all → OwnedSum all more later
    → (new : Owned) × OwnedSum run more new × Owns new log later

-- a child's words are taken from it
abbrev pub OwnsLess : Type 0
OwnsLess = (lent kept run : Owned) (log : List Entry) (all : Owned) → OwnedSum lent kept run → Owns run log all
    → (rest : Owned) × OwnedSum lent rest all × Owns kept log rest

-- an answer's are added, with the value in the destination
abbrev pub OwnsAnswer : Type 0
OwnsAnswer = (run : Owned) (log : List Entry) (n : ℕ) (H : Hole) (e : End) (paid : Bool) (aside back w all later : Owned) → HoleAt log n H → H.filling ≡ empty
    → OwnedSum (delivered H.target e aside) back w → Owns run log all → OwnedSum all w later
    → (new : Owned) × OwnedSum run back new × Owns new (fill log n e paid aside) later

-- a join leaves it as it was
abbrev pub OwnsJoined : Type 0
OwnsJoined = (first : ℕ) (run : Owned) (log : List Entry) (all : Owned) → AllFilledDone first log → Owns run log all
    → (words : Owned) × TakesIn first log run words × Owns words (joined_log first log) all

-- The free words below the frames: where all is given between two addresses and no hole claims any of it, a strand runs on it.
abbrev pub RunsOnFree : Type 0
RunsOnFree = (given : Claim) (words : Owned) (log : List Entry) (from to : ℕ) → Balances given words log → Covers given from to → HolesSpare from to log
    → Covers (claim words) from to × AreMapped from to (seen words)

-- What is given between two addresses as a whole stays so with more, which may cover further words below; and with less where
-- nothing of these words goes.
abbrev pub CoversMore : Type 0
CoversMore = (given more later : Claim) (from middle to : ℕ) → ClaimSum given more later → Covers given middle to → Covers more from middle → Covers later from to

-- and with less where nothing of these words goes
abbrev pub CoversLess : Type 0
CoversLess = (later less given : Claim) (from to : ℕ) → ClaimSum later less given → Covers given from to → Spares less from to → Covers later from to

-- No hole claims a word there: but for the hole of a spawned child that stays; where its answer claims none that stays; and a join
-- leaves only older holes to claim any.
abbrev pub SparesBySpawn : Type 0
SparesBySpawn = (s : Strand) (request : Request) (depth : ℕ) (kept : Owned) (from to : ℕ) → HolesSpare from to s.log
    → OthersSpare (hole_count s.log) from to (spawn s request depth kept).log

-- an answer that claims none in place of the hole's claim
abbrev pub SparesByAnswer : Type 0
SparesByAnswer = (log : List Entry) (n from to : ℕ) (e : End) (paid : Bool) (aside : Owned) → OthersSpare n from to log → Spares (claim aside) from to
    → HolesSpare from to (fill log n e paid aside)

-- a join leaves only older holes to claim any
abbrev pub SparesByJoin : Type 0
SparesByJoin = (log : List Entry) (first from to : ℕ) → AllFilledDone first log → OlderSpare first from to log → HolesSpare from to (joined_log first log)

module _ (w : World) where
  -- The strand of main begins with the machine of the start of a run, and stands for main's piece.
  abbrev pub RootStarts : Type 0
  RootStarts = (s : Strand) (due : Claim) → s.log ≡ [] → s.scopes ≡ [] → s.course ≡ going → s.start ≡ w.limits.ticks → w.limits.ticks < 2 ^ 32
      → Begins w.program (w.limits.stack * w.limits.page) w.limits.ticks (machine_of s)
      → Stands w (record { ask = main_ask w.program w.limits; spot = first_spot; due = due }) (claim s.words) s first_spot (begun (main_ask w.program w.limits))

  -- What answers main's call is the end of the serial elision.
  abbrev pub RootEnds : Type 0
  RootEnds = (request : Request) (e : End) (all : Owned) → request.ask ≡ main_ask w.program w.limits
      → Answered w.program w.limits.page w.input w.image request e all → SerialEnd w.program w.input w.limits e

  -- What answers a child's call, by a value, is an answer of it: the words are those that were lent, whatever is in them.
  abbrev pub ChildrenAnswer : Type 0
  ChildrenAnswer = (request : Request) (e : End) (all : Owned) (parent : Piece) → Reached w.program w.limits.page w.input (begun (main_ask w.program w.limits)) parent
      → Asks parent.log request.ask → (x : Answered w.program w.limits.page w.input w.image request e all) → IsDone x.end_
      → Answers w.program w.input w.limits request.ask x.end_ x.held

  -- The frames of a reached piece with the next one, wherever they stand, fit so many pages: those of the serial stack and one for each
  -- frame of a function marked `cilk`, where the elision ends by a value; and always those of the stack account.
  abbrev pub FramesFitPages : Type 0
  FramesFitPages = (p : Piece) (frames : List Frame) (low : ℕ) (out : List ℤ) (v : Option ℤ) (n pages most : ℕ)
      → Reached w.program w.limits.page w.input (begun (main_ask w.program w.limits)) p
      → AreFrames w.program w.limits.page p.control.calls frames → MayStand w.program w.limits.page p.control.calls frames low
      → SerialEnd w.program w.input w.limits (Done out v n) → IsSerialPages w.program w.input w.limits pages → IsCilkDepth w.program w.input w.limits most
      → 2 ^ 30 ≤ low + (pages + most) * w.limits.page

  -- and always those of the stack account
  abbrev pub FramesFitStack : Type 0
  FramesFitStack = (p : Piece) (frames : List Frame) (low : ℕ) → Reached w.program w.limits.page w.input (begun (main_ask w.program w.limits)) p
      → AreFrames w.program w.limits.page p.control.calls frames → MayStand w.program w.limits.page p.control.calls frames low
      → 2 ^ 30 ≤ low + w.limits.stack * w.limits.page

  -- A strand that is given all words from one address up to where the next frame may stand, of which no hole claims any, has that
  -- frame's words mapped where x2 is no lower: the first store into it finds them.
  abbrev pub FreeWordsServe : Type 0
  FreeWordsServe = (given : Claim) (s : Strand) (spot : Spot) (bottom : ℕ) → Balances given s.words s.log → Covers given bottom spot.low → HolesSpare bottom spot.low s.log
      → bottom ≤ s.registers reg.SP → MapsFrame w.program Cilk w.limits.page w.input (InstructionAt w.image) spot (machine_of s)

  -- Each word of a live frame stands from where the next frame may stand up to the top of the stack: a map that shows these addresses
  -- shows every frame.
  abbrev pub FramesLieAbove : Type 0
  FramesLieAbove = (calls : List ℕ) (frames : List Frame) (low d n : ℕ) → AreFrames w.program w.limits.page calls frames → MayStand w.program w.limits.page calls frames low
      → d < length calls → 0 < n → n ≤ words_at w.program w.limits.page calls d
      → (low ≤ word_address frames d n) × (word_address frames d n + 4 ≤ 2 ^ 30)

  -- no word is shared: neither what a reached piece holds is a part, nor what a child gives back
  abbrev pub HoldsNoPart : Type 0
  HoldsNoPart = (p : Piece) → Reached w.program w.limits.page w.input (begun (main_ask w.program w.limits)) p → IsUnshared p.held

  -- nor what a child gives back
  abbrev pub GivesNoPart : Type 0
  GivesNoPart = (p : Piece) (d own : ℕ) (x : Destination) (joined : Bool) (q : Ask) (out : List ℤ) (v : Option ℤ) (n : ℕ) (g : Stack)
      → Reached w.program w.limits.page w.input (begun (main_ask w.program w.limits)) p → HasNote p.log (child d own x joined q (told (Done out v n) g)) → IsUnshared g
