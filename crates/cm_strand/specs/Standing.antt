-- When a strand stands for a piece, and when what it ends with answers what it was asked for.
use Rattle.std.specs.Prelude.{◌≡◌, ℕ, suc, ◌+◌, ◌<◌, ◌≤◌, ◌^◌, ◌⊎◌, ⊤, Bool, true, false, ℤ, Option, None, Some, List, [], ◌∷◌, length}
use Rattle.cm_syntax.specs.Trap.{Trap}
use Rattle.cm_meaning.specs.End.{End, Done, Trapped, Spent}
use Rattle.cm_syntax.specs.Stack.{Stack, Destination, settle}
use Rattle.cm_meaning.specs.Piece.{printed, child, awaited, told, fails, runs_out}
use Rattle.cm_meaning.specs.Meaning.{Ask, Note, Piece, begun, Fork, Stops}
use Rattle.cm_meaning.specs.Leads.{Leads}
use Rattle.cm_meaning.specs.Loan.{HasUnjoined}
use Rattle.cm_strand.specs.Piece.{Answer}
use Rattle.cm_syntax.specs.Rest.{Control}
use Rattle.cm_syntax.specs.declared.stmt.Program.{Program}
use Rattle.cm_meaning.specs.Activation.{end_count}
use Rattle.cm_isa.specs.Address.{InstructionAt}
use Rattle.cm_gen.specs.Standing.{Frame}
use Rattle.cm_gen.specs.StandsFor.{Spot, ExactAt, Spawns}
use Rattle.cm_gen.specs.FrameWord.{AreFrames, MayStand, Touches, Holds}
use Rattle.cm_gen.specs.Moment.{StandsFor}
use Rattle.cm_strand.specs.Running.{RunsCilk, target_address}
use Rattle.cm_strand.specs.Owned.{Owned, Claim, OwnedSum, ClaimSum, MayWrite, seen, claim}
use Rattle.cm_strand.specs.Walk.{Walk}
use Rattle.cm_isa.specs.declared.convention.TheConstants as reg
use Rattle.cm_gen.specs.declared.form.Form.TheVariants.{Cilk}
use Rattle.cm_strand.specs.Strand.{Request, Filling, empty, filled, Hole, Entry, number, hole, Scope, Course, going, ending, Strand, machine_of, hole_count, paid, Balances}

-- The end of a strand shows the end of a piece: they are the same, but the value is free where a call gives none.
abbrev pub ShowsEnd : (strand piece : End) → Type 0
ShowsEnd (Done out v n) (Done more u m) = (out ≡ more) × (n ≡ m) × ((u ≡ None) ⊎ (u ≡ v))
ShowsEnd (Trapped out k n) (Trapped more l m) = (out ≡ more) × (k ≡ l) × (n ≡ m)
ShowsEnd Spent Spent = ⊤
ShowsEnd _ _ = ⊥

-- A hole is empty while no answer was told; else it has the end that was told, and of a joined child the ticks are taken.
abbrev pub ShowsFilling : Filling → (joined : Bool) → Answer → Type 0
ShowsFilling empty false awaited = ⊤
ShowsFilling (filled e b) false (told d w) = ShowsEnd e d
ShowsFilling (filled (Done out v n) true) true (told d w) = ShowsEnd (Done out v n) d
ShowsFilling _ _ _ = ⊥

-- ---- places of frames

-- some calls and their frames are the first ones of others
pub data Lies : (calls : List ℕ) (frames : List Frame) (first_calls : List ℕ) (first_frames : List Frame) → Type 0 where
  there : {calls : List ℕ} {frames : List Frame} → Lies calls frames calls frames
  above : {f : ℕ} {F : Frame} {calls first_calls : List ℕ} {frames first_frames : List Frame}
      → Lies calls frames first_calls first_frames → Lies (f ∷ calls) (F ∷ frames) first_calls first_frames

-- the number of a hole and the depth of its child's spawn belong to one scope: the last one whose first hole isn't behind it
abbrev pub Belongs : List Scope → (n depth : ℕ) → Type 0
Belongs [] n d = ⊥
Belongs (s ∷ scopes) n d = ((s.first ≤ n) × (d ≡ s.depth)) ⊎ ((n < s.first) × Belongs scopes n d)

-- a hole of this number is one of an open scope
abbrev pub InScope : List Scope → (n : ℕ) → Type 0
InScope [] n = ⊥
InScope (s ∷ scopes) n = (s.first ≤ n) ⊎ InScope scopes n

-- each empty hole is one of an open scope
abbrev pub EmptyIn : List Scope → List Entry → Type 0
EmptyIn scopes [] = ⊤
EmptyIn scopes (number v ∷ log) = EmptyIn scopes log
EmptyIn scopes (hole H ∷ log) = (H.filling ≡ empty → InScope scopes (hole_count log)) × EmptyIn scopes log

-- each scope has a child that isn't joined, and its first hole is one of so many
abbrev pub AreUsed : List Scope → (holes : ℕ) → List Note → Type 0
AreUsed [] n log = ⊤
AreUsed (s ∷ scopes) n log = (s.first < n) × HasUnjoined s.depth log × AreUsed scopes n log

module _ (program : Program) (page : ℕ) where
  -- Each open scope is that of a frame of a function marked `cilk`, and its low end is where the next frame may stand.
  pub data AreOpen : List Scope → (calls : List ℕ) → List Frame → Type 0 where
    none : {calls : List ℕ} {frames : List Frame} → AreOpen [] calls frames
    here : {s : Scope} {scopes : List Scope} {f : ℕ} {F : Frame} {calls : List ℕ} {frames : List Frame}
        → s.frame ≡ F.address → s.depth ≡ length calls → MayStand program page (f ∷ calls) (F ∷ frames) s.low → RunsCilk program (f ∷ calls)
        → AreOpen scopes calls frames
        → AreOpen (s ∷ scopes) (f ∷ calls) (F ∷ frames)
    below : {scopes : List Scope} {f : ℕ} {F : Frame} {calls : List ℕ} {frames : List Frame}
        → AreOpen scopes calls frames → AreOpen scopes (f ∷ calls) (F ∷ frames)

  -- ---- logs

  -- the words that came back with an end by a value, and the value in the destination
  abbrev pub Returned : Hole → Destination → End → Stack → Type 0
  Returned H x (Done out v n) w = Holds program page H.request.ask.call.calls H.request.spot.frames (settle x v w) (seen H.aside)
  Returned H x _ w = ⊤

  -- the same of an answer that may not be there
  abbrev pub ReturnedBy : Hole → Destination → Answer → Type 0
  ReturnedBy H x awaited = ⊤
  ReturnedBy H x (told d w) = Returned H x d w

  -- a hole shows a child
  pub record ShowsChild (H : Hole) (own : ℕ) (x : Destination) (joined : Bool) (q : Ask) (r : Answer) : Type 0 where
    pub used : H.used ≡ own
    pub ask : H.request.ask ≡ q
    pub target : H.target ≡ target_address program page H.request.ask.call.calls H.request.spot.frames x
    pub frames : AreFrames program page H.request.ask.call.calls H.request.spot.frames
    pub whole : (H.target ≡ 0 → ⊥) → MayWrite H.request.due H.target
    pub filling : ShowsFilling H.filling joined r

  -- the log of a strand shows the log of a piece
  abbrev pub ShowsLog : List Entry → List Note → Type 0
  ShowsLog [] [] = ⊤
  ShowsLog (number v ∷ log) (printed u ∷ notes) = (v ≡ u) × ShowsLog log notes
  ShowsLog (hole H ∷ log) (child d own x joined q r ∷ notes) = ShowsChild H own x joined q r × ShowsLog log notes
  ShowsLog _ _ = ⊥

  -- A child that isn't joined belongs to a scope, its frames began above the frame that spawned it, and the words that came back are
  -- kept aside.
  pub record Unjoined (scopes : List Scope) (calls : List ℕ) (frames : List Frame) (n depth : ℕ) (H : Hole) (x : Destination) (r : Answer) : Type 0 where
    pub belongs : Belongs scopes n depth
    pub lies : Lies calls frames H.request.ask.call.calls H.request.spot.frames
    pub deep : length H.request.ask.call.calls ≡ suc depth
    pub back : ReturnedBy H x r

  -- of a child that may be joined
  abbrev pub UnjoinedIn : (joined : Bool) → List Scope → (calls : List ℕ) → List Frame → (n depth : ℕ) → Hole → Destination → Answer → Type 0
  UnjoinedIn true scopes calls frames n d H x r = ⊤
  UnjoinedIn false scopes calls frames n d H x r = Unjoined scopes calls frames n d H x r

  -- and so of each child of the log
  abbrev pub Placed : List Scope → (calls : List ℕ) → List Frame → List Entry → List Note → Type 0
  Placed scopes calls frames (hole H ∷ log) (child d own x joined q r ∷ notes) =
      UnjoinedIn joined scopes calls frames (hole_count log) d H x r × Placed scopes calls frames log notes
  Placed scopes calls frames (number v ∷ log) (printed u ∷ notes) = Placed scopes calls frames log notes
  Placed scopes calls frames _ _ = ⊤

module _ (program : Program) (page : ℕ) (input : List ℤ) (image : List ℕ) where
  -- ---- strands

  -- a strand on its way
  pub record IsGoing (request : Request) (s : Strand) (spot : Spot) (left : ℕ) (p : Piece) : Type 0 where
    pub stands : StandsFor program Cilk page input (InstructionAt image) spot left p.control p.held (machine_of s)
    pub frames : AreFrames program page p.control.calls spot.frames
    pub opens : AreOpen program page s.scopes p.control.calls spot.frames
    pub scopes_used : AreUsed s.scopes (hole_count s.log) p.log
    pub placed : Placed program page s.scopes p.control.calls spot.frames s.log p.log
    pub rooted : Lies p.control.calls spot.frames request.ask.call.calls request.spot.frames
    pub base : length p.control.calls ≡ length request.ask.call.calls + end_count p.control.rest

  -- how a strand's own end is that of its piece
  abbrev pub StopsBy : Option Trap → Piece → Type 0
  StopsBy (Some k) p = Stops program page input p.start p.own p.control p.held p.log (fails k)
  StopsBy None p = Stops program page input p.start p.own p.control p.held p.log runs_out

  -- a strand that is ending: its log and ticks are the piece's, and so is its own end
  pub record IsEnding (kind : Option Trap) (s : Strand) (left : ℕ) (p : Piece) : Type 0 where
    pub left_is : s.registers reg.TICKS ≡ left
    pub stops : StopsBy kind p
    pub hollow : EmptyIn s.scopes s.log

  -- a strand by its course
  abbrev pub Proceeds : Course → Request → Strand → Spot → (left : ℕ) → Piece → Type 0
  Proceeds going request s spot left p = IsGoing request s spot left p
  Proceeds (ending kind) request s spot left p = IsEnding kind s left p

  -- A strand, which was asked for this and was given these words, stands for a piece, to which the rules lead from what was asked.
  pub record StandsAs (request : Request) (given : Claim) (s : Strand) (spot : Spot) (p : Piece) : Type 0 where
    pub from : Leads program page input (begun request.ask) p
    pub left : ℕ
    pub start_is : s.start ≡ p.start
    pub few : p.start < 2 ^ 32
    pub ticks_are : (p.own + paid s.log) + left ≡ p.start
    pub shows : ShowsLog program page s.log p.log
    pub balances : Balances given s.words s.log
    pub proceeds : Proceeds s.course request s spot left p

  -- Behind an event a strand stands for a piece to which the rules lead.
  pub record StandsBehind (request : Request) (given : Claim) (old : Spot) (s : Strand) (p : Piece) : Type 0 where
    pub spot : Spot
    pub walk : Walk old spot
    pub to : Piece
    pub leads : Leads program page input p to
    pub stands : StandsAs request given s spot to

  -- events, one after another: each leaves a strand that stands behind the one before
  pub data Events (request : Request) : (spot : Spot) (s : Strand) (p : Piece) (new : Spot) (last : Strand) (q : Piece) → Type 0 where
    no_event : {spot : Spot} {s : Strand} {p : Piece} → Events request spot s p spot s p
    one_event : {given : Claim} {spot new : Spot} {s t last : Strand} {p q : Piece} (x : StandsBehind request given spot t p)
        → Events request x.spot t x.to new last q → Events request spot s p new last q

  -- What is owned is parted for a spawn: the child has the words that its first state speaks of, the continuation those of its own;
  -- the child has so many to give back, the whole destination among them, and the others are pages that go along with it.
  pub record Parted (s : Strand) (lent kept : Owned) (due more : Claim) : Type 0 where
    pub sum : OwnedSum lent kept s.words
    pub due_is : ClaimSum due more (claim lent)
    pub whole : (s.registers reg.LEFT ≡ 0 → ⊥) → MayWrite due (s.registers reg.LEFT)
    pub for_child : (spot : Spot) (left : ℕ) (call : Control) (g : Stack) (x : Destination) (d : Control) (k : Stack)
        → Spawns program Cilk page input (InstructionAt image) spot left call g x d k (machine_of s)
        → (a : ℕ) → Touches program page call.calls spot.frames g (end_count call.rest) a → seen lent a ≡ seen s.words a
    pub for_rest : (spot : Spot) (left : ℕ) (call : Control) (g : Stack) (x : Destination) (d : Control) (k : Stack)
        → Spawns program Cilk page input (InstructionAt image) spot left call g x d k (machine_of s)
        → (a : ℕ) → Touches program page d.calls spot.frames k (end_count d.rest) a → seen kept a ≡ seen s.words a

  -- A strand that waits in a deque as its last spawn left it: it stands exactly, and has the ticks that its child began with.
  pub record Waits (request : Request) (given : Claim) (s : Strand) (H : Hole) (log : List Entry) (spot : Spot) (p : Piece) : Type 0 where
    pub stands : StandsAs request given s spot p
    pub course_is : s.course ≡ going
    pub log_is : s.log ≡ hole H ∷ log
    pub empty_ : H.filling ≡ empty
    pub left_is : stands.left ≡ H.request.ask.start
    pub exact : ExactAt program Cilk page input (InstructionAt image) spot H.request.ask.start p.control p.held (machine_of s)

  -- An end with words answers what was asked for: the rules allow the end that it shows, and of an end by a value the words are
  -- those that the rules give back, in the frames above which the call began.
  abbrev pub GivesWords : Request → End → Stack → Owned → Type 0
  GivesWords request (Done out v n) w all = Holds program page request.ask.call.calls request.spot.frames w (seen all)
  GivesWords request _ w all = ⊤

  -- an end with words answers what was asked for
  pub record Answered (request : Request) (e : End) (all : Owned) : Type 0 where
    pub end_ : End
    pub shows : ShowsEnd e end_
    pub held : Stack
    pub allowed : Fork program page input (begun request.ask) end_ held
    pub words : GivesWords request end_ held all

  -- The words of an answer are sorted: those that its frames speak of, the destination among them, are kept aside, and the others
  -- go to what the strand runs on. Together they are what is due, and the pages that come with it.
  pub record IsSorted (H : Hole) (w aside back old new : Owned) (more : Claim) : Type 0 where
    pub sum : OwnedSum aside back w
    pub run_sum : OwnedSum old back new
    pub due_is : ClaimSum H.request.due more (claim w)
    pub whole : (H.target ≡ 0 → ⊥) → MayWrite (claim aside) H.target
    pub of_frames : (h : Stack) → Holds program page H.request.ask.call.calls H.request.spot.frames h (seen w)
        → (a : ℕ) → Touches program page H.request.ask.call.calls H.request.spot.frames h 0 a → seen aside a ≡ seen w a
