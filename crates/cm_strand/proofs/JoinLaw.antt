-- A join, true and false.
use Rattle.std.proofs.Common.{◌≡◌, ℕ, suc, ◌+◌, ◌-◌, ◌<◌, ◌≤◌, Bool, true, false, List, [], ◌∷◌, length, Option, None, Some, refl, sym, ap, ◌∙◌, subst, arith, inl, inr}
use Rattle.std.proofs.lemmas.Bool.{leb-true, leb-false}
use Rattle.std.specs.Prelude.{ℤ, ◌⊎◌, nat_le, if◌then◌else◌}
use Rattle.cm_syntax.specs.Trap.{Trap}
use Rattle.cm_meaning.specs.End.{End, Done, Trapped, Spent}
use Rattle.cm_syntax.specs.Stack.{Stack, Destination, settle}
use Rattle.cm_syntax.specs.declared.stmt.Program.{Program}
use Rattle.cm_syntax.specs.Rest.{Control}
use Rattle.cm_syntax.specs.Step.{top}
use Rattle.cm_isa.specs.Machine.{Machine}
use Rattle.cm_isa.specs.Address.{InstructionAt}
use Rattle.cm_isa.specs.Run.{Extends}
use Rattle.cm_isa.specs.Operation.{ecall}
use Rattle.cm_isa.specs.Register.{with_register}
use Rattle.cm_meaning.specs.Piece.{printed, child, awaited, told, runs_out}
use Rattle.cm_meaning.specs.Meaning.{Ask, Note, Piece, begun, Goes, Reached, Stops}
use Rattle.cm_strand.specs.Piece.{Answer, piece, HasNote, Fallen}
use Rattle.cm_meaning.specs.Leads.{Collects, Leads, AreDone}
use Rattle.cm_gen.specs.Standing.{Frame}
use Rattle.cm_gen.specs.StandsFor.{Spot, ExactAt, passed, with_words}
use Rattle.cm_gen.specs.FrameWord.{pointer_of, AreFrames, MayStand, Holds}
use Rattle.cm_gen.specs.StandsFor.{spot_at}
use Rattle.cm_strand.specs.Running.{RunsCilk}
use Rattle.cm_strand.specs.Owned.{Owned, Claim, seen}
use Rattle.cm_strand.specs.Walk.{Walk, rest, move, shift_low}
use Rattle.cm_strand.specs.Standing.{Belongs, InScope, EmptyIn, AreUsed, AreOpen, none, here, below, Placed, ShowsLog, ShowsChild, ShowsFilling, Lies, there, above, Proceeds}
use Rattle.cm_meaning.specs.Loan.{HasUnjoined}
use Rattle.cm_meaning.specs.Shift.{KeepsCalls}
use Rattle.cm_strand.proofs.KnownLaw.{CallsKept, KnownFacts}
use Rattle.cm_strand.specs.Unshared.{IsUnshared}
use Rattle.cm_strand.proofs.FactLaw.{CodeFacts}
use Rattle.cm_meaning.specs.Piece as pieces
use Rattle.cm_isa.specs.declared.convention.TheConstants as reg
use Rattle.cm_gen.specs.declared.form.Form.TheVariants.{Cilk}
use Rattle.cm_strand.specs.Strand.{Request, Filling, empty, filled, Hole, Entry, number, hole, Scope, going, ending, Strand, machine_of, hole_count, paid}
use Rattle.cm_strand.specs.Turn.{join, break_off, joined_hole, joined_log, paid_filling, unpaid, TakesIn, FilledDone, AllFilledDone, AllFilledFrom, FilledOtherwise, SomeFilledOtherwise}
use Rattle.cm_meaning.proofs.LeadLaw.{both_lead, one_rule}
use Rattle.cm_strand.proofs.ShapeLaw.{counts, scope_deep, lies_short}
use Rattle.cm_strand.proofs.ScopeLaw.{empty_of_placed, empty_outer}
use Rattle.cm_strand.proofs.CarriedLaw.{Now, Stands, Behind, standing, reached_by}
use Rattle.cm_strand.proofs.ServiceLaw.{Syncing, syncing, Served, served}
use Rattle.cm_strand.proofs.SpawnLaw.{scope_above, length_is}
use Rattle.cm_strand.proofs.UnsharedLaw.{wholes, unshared_sum, unshared_settled}
use Rattle.cm_strand.proofs.OwnedLaw.{extends_same, extends_through}
use Rattle.cm_strand.proofs.TakeLaw.{takes_run, takes_aside, takes_older, joined_count, joined_paid, takes_balance}

-- the place of the next frame is another at the end
walk_join : {old : Spot} (new : Spot) → Walk old new → (low : ℕ) → Walk old (spot_at new low)
walk_join new rest low = shift_low low rest
walk_join new (move m w) low = move m (walk_join new w low)
walk_join new (shift_low l w) low = shift_low l (walk_join new w low)

-- frames as many as the first ones are those
pub lies_same : (calls : List ℕ) (frames : List Frame) (first_calls : List ℕ) (first_frames : List Frame) → Lies calls frames first_calls first_frames
    → length first_calls ≡ length calls → (first_calls ≡ calls) × (first_frames ≡ frames)
lies_same calls frames _ _ there e = (refl, refl)
lies_same _ _ first_calls first_frames (above {calls = calls} {frames = frames} l) e =
    let h = lies_short calls frames first_calls first_frames l in absurd (omega (arith, e, h))

-- scopes of frames before this depth
abbrev pub AreBelow : List Scope → (depth : ℕ) → Type 0
AreBelow [] d = Unit {0}
AreBelow (s ∷ scopes) d = (s.depth < d) × AreBelow scopes d

below_more : (scopes : List Scope) (d e : ℕ) → d ≤ e → AreBelow scopes d → AreBelow scopes e
below_more [] d e l b = tt
below_more (s ∷ scopes) d e l b = (let f = b.0 in omega (arith, f, l), below_more scopes d e l b.1)

module _ (program : Program) (page : ℕ) where
  scopes_below : (scopes : List Scope) (calls : List ℕ) (frames : List Frame) → AreOpen program page scopes calls frames → AreBelow scopes (length calls)
  scopes_below _ calls frames none = tt
  scopes_below _ _ _ (here {s = s} {scopes = scopes} {calls = calls} {frames = frames} at deep low cilk o) =
      (omega (arith, deep), below_more scopes (length calls) (suc (length calls)) (omega arith) (scopes_below scopes calls frames o))
  scopes_below scopes _ _ (below {calls = calls} {frames = frames} o) = below_more scopes (length calls) (suc (length calls)) (omega arith) (scopes_below scopes calls frames o)

  -- the running frame's scope, and the outer ones
  pub record Innermost (s : Scope) (outer : List Scope) (calls : List ℕ) (frames : List Frame) : Type 0 where
    pub depth_is : s.depth ≡ top calls
    pub low : MayStand program page calls frames s.low
    pub cilk : RunsCilk program calls
    pub outer_opens : AreOpen program page outer calls frames
    pub outer_below : AreBelow outer (top calls)
    pub outer_none : (n : ℕ) → Belongs outer n (top calls) → ⊥

  pub innermost : (s : Scope) (outer : List Scope) (calls : List ℕ) (frames : List Frame) → AreFrames program page calls frames → AreOpen program page (s ∷ outer) calls frames
      → s.frame ≡ pointer_of frames → Innermost s outer calls frames
  innermost s outer _ _ are (here {calls = calls} {frames = frames} at deep low cilk o) e = record {
    depth_is = deep;
    low = low;
    cilk = cilk;
    outer_opens = below o;
    outer_below = scopes_below outer calls frames o;
    outer_none = λ n b. let h = scope_deep program page outer calls frames n (length calls) o b in omega (arith, h);
  }
  innermost s outer _ _ are (below {f = f} {F = F} {calls = calls} {frames = frames} o) e =
      let h = scope_above program page f F calls frames s outer are o in absurd (omega (arith, h, e))

  module _ (s : Scope) (outer : List Scope) (calls : List ℕ) (frames : List Frame) (inner : Innermost s outer calls frames) where
    -- a child of the running frame has a number from the scope's first one on, and no other has
    number_in : (n : ℕ) → Belongs (s ∷ outer) n (top calls) → s.first ≤ n
    number_in n (inl x) = x.0
    number_in n (inr x) = absurd (inner.outer_none n x.1)

    number_out : (n b : ℕ) → Belongs (s ∷ outer) n b → (b ≡ top calls → ⊥) → (n < s.first) × Belongs outer n b
    number_out n b (inl x) other = absurd (other (x.1 ∙ inner.depth_is))
    number_out n b (inr x) other = x

    told_done : (H : Hole) (f : Filling) (x : Destination) (r : Answer) → FilledDone f → ShowsFilling f false r
        → (out : List ℤ) × (v : Option ℤ) × (n : ℕ) × (w : Stack) × (r ≡ told (Done out v n) w)
    told_done H empty x r d h = absurd d
    told_done H (filled (Done out v n) b) x awaited d h = absurd h
    told_done H (filled (Done out v n) b) x (told (Done more u m) w) d h = (more, u, m, w, refl)
    told_done H (filled (Done out v n) b) x (told (Trapped more k m) w) d h = absurd h
    told_done H (filled (Done out v n) b) x (told Spent w) d h = absurd h
    told_done H (filled (Trapped out k n) b) x r d h = absurd d
    told_done H (filled Spent b) x r d h = absurd d

    -- the children of the running frame are told ends by values
    are_done : (log : List Entry) (notes : List Note) → ShowsLog program page log notes → Placed program page (s ∷ outer) calls frames log notes
        → AllFilledDone s.first log → AreDone (top calls) notes
    are_done [] [] shows placed done own x q r h = elim h [ ]
    are_done (number v ∷ log) (printed u ∷ notes) shows placed done own x q r (pieces.HasNote.deeper h) = are_done log notes shows.1 placed done own x q r h
    are_done (hole H ∷ log) (child d o y j a t ∷ notes) shows placed done own x q r (pieces.HasNote.deeper h) = are_done log notes shows.1 placed.1 done.1 own x q r h
    are_done (hole H ∷ log) (child d o y j a t ∷ notes) shows placed done own x q r pieces.HasNote.here =
        told_done H H.filling x r (done.0 (number_in (hole_count log) placed.0.belongs)) shows.0.filling
    are_done [] (n ∷ notes) shows placed done own x q r h = absurd shows
    are_done (number v ∷ log) [] shows placed done own x q r h = absurd shows
    are_done (number v ∷ log) (child d o y j a t ∷ notes) shows placed done own x q r h = absurd shows
    are_done (hole H ∷ log) [] shows placed done own x q r h = absurd shows
    are_done (hole H ∷ log) (printed u ∷ notes) shows placed done own x q r h = absurd shows

    module _ (input : List ℤ) where
      -- what the joined log shows
      joined_filling : (H : Hole) (f : Filling) (x : Destination) (r : Answer) → FilledDone f → ShowsFilling f true r
          → ShowsFilling (paid_filling f) true r
      joined_filling H empty x r d h = absurd d
      joined_filling H (filled (Done out v n) true) x awaited d h = absurd h
      joined_filling H (filled (Done out v n) true) x (told i w) d h = h
      joined_filling H (filled (Done out v n) false) x r d h = absurd h
      joined_filling H (filled (Trapped out k n) b) x r d h = absurd d
      joined_filling H (filled Spent b) x r d h = absurd d

      taken_filling : (H : Hole) (f : Filling) (x : Destination) (i : End) (w : Stack) → FilledDone f → ShowsFilling f false (told i w)
          → ShowsFilling (paid_filling f) true (told i w)
      taken_filling H empty x i w d h = absurd d
      taken_filling H (filled (Done out v n) b) x i w d h = h
      taken_filling H (filled (Trapped out k n) b) x i w d h = absurd d
      taken_filling H (filled Spent b) x i w d h = absurd d

      -- a hole that shows a joined child shows it still
      joined_child : (H : Hole) (own : ℕ) (x : Destination) (q : Ask) (r : Answer) → FilledDone H.filling → ShowsChild program page H own x true q r
          → ShowsChild program page (joined_hole H) own x true q r
      joined_child H own x q r d c = record { used = c.used; ask = c.ask; target = c.target; frames = c.frames; whole = c.whole; filling = joined_filling H H.filling x r d c.filling }

      taken_child : (H : Hole) (own : ℕ) (x : Destination) (q : Ask) (i : End) (w : Stack) → FilledDone H.filling → ShowsChild program page H own x false q (told i w)
          → ShowsChild program page (joined_hole H) own x true q (told i w)
      taken_child H own x q i w d c = record { used = c.used; ask = c.ask; target = c.target; frames = c.frames; whole = c.whole; filling = taken_filling H H.filling x i w d c.filling }

      abbrev Shown : List Entry → List Note → Type 0
      Shown log more = ShowsLog program page log more × Placed program page outer calls frames log more

      collected : (log : List Entry) (notes more : List Note) (h g : Stack) → Collects program page input (top calls) notes h more g → ShowsLog program page log notes
          → Placed program page (s ∷ outer) calls frames log notes → AllFilledDone s.first log → Shown (joined_log s.first log) more
      collected [] _ _ h _ pieces.Collects.none shows placed done = (tt, tt)
      collected (number v ∷ log) _ _ h _ pieces.Collects.none shows placed done = absurd shows
      collected (hole H ∷ log) _ _ h _ pieces.Collects.none shows placed done = absurd shows
      collected [] _ _ h g (pieces.Collects.past c) shows placed done = absurd shows
      collected (hole H ∷ log) _ _ h g (pieces.Collects.past c) shows placed done = absurd shows
      collected (number v ∷ log) _ _ h g (pieces.Collects.past c) shows placed done =
          let x = collected log _ _ h g c shows.1 placed done in ((shows.0, x.0), x.1)
      collected [] _ _ h g (pieces.Collects.before c) shows placed done = absurd shows
      collected (number v ∷ log) _ _ h g (pieces.Collects.before c) shows placed done = absurd shows
      collected (hole H ∷ log) _ _ h g (pieces.Collects.before {later = later} {b = b} {o = o} {x = x} {q = q} {r = r} c) shows placed done =
          by (nat_le s.first (hole_count log)) refl (collected log _ _ h g c shows.1 placed.1 done.1)
        where
          by : (test : Bool) → nat_le s.first (hole_count log) ≡ test → Shown (joined_log s.first log) later
              → Shown ((if test then hole (joined_hole H) else hole H) ∷ joined_log s.first log) (child b o x true q r ∷ later)
          by true e y = ((joined_child H o x q r (done.0 (leb-true s.first (hole_count log) e)) shows.0, y.0), (tt, y.1))
          by false e y = ((shows.0, y.0), (tt, y.1))
      collected [] _ _ h g (pieces.Collects.other different c) shows placed done = absurd shows
      collected (number v ∷ log) _ _ h g (pieces.Collects.other different c) shows placed done = absurd shows
      collected (hole H ∷ log) _ _ h g (pieces.Collects.other {later = later} {b = b} {o = o} {x = x} {q = q} {r = r} different c) shows placed done =
          by (nat_le s.first (hole_count log)) refl (collected log _ _ h g c shows.1 placed.1 done.1)
        where
          out_ : (hole_count log < s.first) × Belongs outer (hole_count log) b
          out_ = number_out (hole_count log) b placed.0.belongs different

          by : (test : Bool) → nat_le s.first (hole_count log) ≡ test → Shown (joined_log s.first log) later
              → Shown ((if test then hole (joined_hole H) else hole H) ∷ joined_log s.first log) (child b o x false q r ∷ later)
          by true e y = let f = leb-true s.first (hole_count log) e in let k = out_.0 in absurd (omega (arith, f, k))
          by false e y = (
            (shows.0, y.0),
            (
              record {
                belongs = subst (λ k. Belongs outer k b) (sym (joined_count s.first log)) out_.1;
                lies = placed.0.lies;
                deep = placed.0.deep;
                back = placed.0.back;
              },
              y.1,
            ),
          )
      collected [] _ _ h g (pieces.Collects.taken sum c) shows placed done = absurd shows
      collected (number v ∷ log) _ _ h g (pieces.Collects.taken sum c) shows placed done = absurd shows
      collected (hole H ∷ log) _ _ h g (pieces.Collects.taken {later = later} {o = o} {m = m} {x = x} {q = q} {out = out} {v = v} {w = w} {i = i} sum c) shows placed done =
          by (nat_le s.first (hole_count log)) refl (collected log _ _ i g c shows.1 placed.1 done.1)
        where
          by : (test : Bool) → nat_le s.first (hole_count log) ≡ test → Shown (joined_log s.first log) later
              → Shown ((if test then hole (joined_hole H) else hole H) ∷ joined_log s.first log) (child (top calls) o x true q (told (Done out v m) w) ∷ later)
          by true e y = ((taken_child H o x q (Done out v m) w (done.0 (leb-true s.first (hole_count log) e)) shows.0, y.0), (tt, y.1))
          by false e y = let f = leb-false s.first (hole_count log) e in let k = number_in (hole_count log) placed.0.belongs in absurd (omega (arith, f, k))

      -- children of other frames stay unjoined
      unjoined_still : (b d : ℕ) (notes more : List Note) (h g : Stack) → Collects program page input d notes h more g → (b ≡ d → ⊥) → HasUnjoined b notes → HasUnjoined b more
      unjoined_still b d _ _ h _ pieces.Collects.none different (o, x, q, r, k) = elim k [ ]
      unjoined_still b d _ _ h g (pieces.Collects.past c) different (o, x, q, r, pieces.HasNote.deeper k) =
          let y = unjoined_still b d _ _ h g c different (o, x, q, r, k) in (y.0, y.1, y.2, y.3, pieces.HasNote.deeper y.4)
      unjoined_still b d _ _ h g (pieces.Collects.before c) different (o, x, q, r, pieces.HasNote.deeper k) =
          let y = unjoined_still b d _ _ h g c different (o, x, q, r, k) in (y.0, y.1, y.2, y.3, pieces.HasNote.deeper y.4)
      unjoined_still b d _ _ h g (pieces.Collects.other e c) different (o, x, q, r, pieces.HasNote.deeper k) =
          let y = unjoined_still b d _ _ h g c different (o, x, q, r, k) in (y.0, y.1, y.2, y.3, pieces.HasNote.deeper y.4)
      unjoined_still b d _ _ h g (pieces.Collects.other e c) different (o, x, q, r, pieces.HasNote.here) = (o, x, q, r, pieces.HasNote.here)
      unjoined_still b d _ _ h g (pieces.Collects.taken {i = i} sum c) different (o, x, q, r, pieces.HasNote.deeper k) =
          let y = unjoined_still b d _ _ i g c different (o, x, q, r, k) in (y.0, y.1, y.2, y.3, pieces.HasNote.deeper y.4)
      unjoined_still b d _ _ h g (pieces.Collects.taken sum c) different (o, x, q, r, pieces.HasNote.here) = absurd (different refl)

      used_still : (scopes : List Scope) (d count later : ℕ) (notes more : List Note) (h g : Stack) → Collects program page input d notes h more g → count ≡ later
          → AreBelow scopes d → AreUsed scopes count notes → AreUsed scopes later more
      used_still [] d count later notes more h g c e lacks u = tt
      used_still (t ∷ scopes) d count later notes more h g c e lacks u = (
        (let f = u.0 in omega (arith, e, f)),
        unjoined_still t.depth d notes more h g c (λ same. let f = lacks.0 in omega (arith, f, same)) u.1,
        used_still scopes d count later notes more h g c e lacks.1 u.2,
      )

module _ (program : Program) (page limit : ℕ) (input : List ℤ) (image : List ℕ) (first : Piece) (request : Request)
    (code : CodeFacts program page limit input image) (facts : KnownFacts program page limit input first)
    (asked : Reached program page input first (begun request.ask)) where
  -- what is taken in at a join is held behind it
  holds_joined : (s : Scope) (outer : List Scope) (spot : Spot) (left : ℕ) (c : Control) (m : Machine) (inner : Innermost program page s outer c.calls spot.frames)
      → (log : List Entry) (notes more : List Note) (h g : Stack) (run all : Owned) → Collects program page input (top c.calls) notes h more g
      → ShowsLog program page log notes → Placed program page (s ∷ outer) c.calls spot.frames log notes → RunsCilk program c.calls
      → AllFilledDone s.first log → TakesIn s.first log run all → Extends (seen all) m.words
      → ExactAt program Cilk page input (InstructionAt image) spot left c h m → IsUnshared h
      → ((d own : ℕ) (x : Destination) (q : Ask) (out : List ℤ) (v : Option ℤ) (n : ℕ) (w : Stack) → HasNote notes (child d own x false q (told (Done out v n) w)) → IsUnshared w)
      → ExactAt program Cilk page input (InstructionAt image) spot left c g m
  holds_joined s outer spot left c m inner [] _ _ h _ run all pieces.Collects.none shows placed cilk done t more_ exact un back = exact
  holds_joined s outer spot left c m inner (number v ∷ log) _ _ h _ run all pieces.Collects.none shows placed cilk done t more_ exact un back = absurd shows
  holds_joined s outer spot left c m inner (hole H ∷ log) _ _ h _ run all pieces.Collects.none shows placed cilk done t more_ exact un back = absurd shows
  holds_joined s outer spot left c m inner [] _ _ h g run all (pieces.Collects.past k) shows placed cilk done t more_ exact un back = absurd shows
  holds_joined s outer spot left c m inner (hole H ∷ log) _ _ h g run all (pieces.Collects.past k) shows placed cilk done t more_ exact un back = absurd shows
  holds_joined s outer spot left c m inner (number v ∷ log) _ _ h g run all (pieces.Collects.past k) shows placed cilk done t more_ exact un back =
      holds_joined s outer spot left c m inner log _ _ h g run all k shows.1 placed cilk done t more_ exact un (λ d o x q out v n w k. back d o x q out v n w (pieces.HasNote.deeper k))
  holds_joined s outer spot left c m inner [] _ _ h g run all (pieces.Collects.before k) shows placed cilk done t more_ exact un back = absurd shows
  holds_joined s outer spot left c m inner (number v ∷ log) _ _ h g run all (pieces.Collects.before k) shows placed cilk done t more_ exact un back = absurd shows
  holds_joined s outer spot left c m inner (hole H ∷ log) _ _ h g run all (pieces.Collects.before k) shows placed cilk done t more_ exact un back =
      holds_joined s outer spot left c m inner log _ _ h g run t.0 k shows.1 placed.1 cilk done.1 t.1
      (extends_through (seen t.0) (seen all) m.words (takes_older log H s.first run all t) more_) exact un (λ d o x q out v n w k. back d o x q out v n w (pieces.HasNote.deeper k))
  holds_joined s outer spot left c m inner [] _ _ h g run all (pieces.Collects.other e k) shows placed cilk done t more_ exact un back = absurd shows
  holds_joined s outer spot left c m inner (number v ∷ log) _ _ h g run all (pieces.Collects.other e k) shows placed cilk done t more_ exact un back = absurd shows
  holds_joined s outer spot left c m inner (hole H ∷ log) _ _ h g run all (pieces.Collects.other e k) shows placed cilk done t more_ exact un back =
      holds_joined s outer spot left c m inner log _ _ h g run t.0 k shows.1 placed.1 cilk done.1 t.1
      (extends_through (seen t.0) (seen all) m.words (takes_older log H s.first run all t) more_) exact un (λ d o x q out v n w k. back d o x q out v n w (pieces.HasNote.deeper k))
  holds_joined s outer spot left c m inner [] _ _ h g run all (pieces.Collects.taken sum k) shows placed cilk done t more_ exact un back = absurd shows
  holds_joined s outer spot left c m inner (number v ∷ log) _ _ h g run all (pieces.Collects.taken sum k) shows placed cilk done t more_ exact un back = absurd shows
  holds_joined s outer spot left c m inner (hole H ∷ log) _ _ h g run all (pieces.Collects.taken {o = o} {m = n} {x = x} {q = q} {out = out} {v = v} {w = w} {i = i} sum k) shows placed cilk done t more_ exact un back =
      holds_joined s outer spot left c m inner log _ _ i g run t.0 k shows.1 placed.1 cilk done.1 t.1
      (extends_through (seen t.0) (seen all) m.words (takes_older log H s.first run all t) more_)
      (code.joined spot left c h (settle x v w) i m exact sum
      (subst (λ y. Holds program page y spot.frames (settle x v w) m.words) same.0
      (subst (λ y. Holds program page H.request.ask.call.calls y (settle x v w) m.words) same.1
      (code.holds_more H.request.ask.call.calls H.request.spot.frames (settle x v w) (seen H.aside) m.words
      (extends_through (seen H.aside) (seen all) m.words (takes_aside log H s.first run all t in_) more_) placed.0.back)))
      (wholes program page c.calls spot.frames h (settle x v w) i m.words un sum))
      (unshared_sum h (settle x v w) i sum un (unshared_settled x v w (back (top c.calls) o x q out v n w pieces.HasNote.here)))
      (λ d o x q out v n w k. back d o x q out v n w (pieces.HasNote.deeper k))
    where
      in_ : s.first ≤ hole_count log
      in_ = number_in program page s outer c.calls spot.frames inner (hole_count log) placed.0.belongs

      same : (H.request.ask.call.calls ≡ c.calls) × (H.request.spot.frames ≡ spot.frames)
      same = lies_same c.calls spot.frames H.request.ask.call.calls H.request.spot.frames placed.0.lies (placed.0.deep ∙ sym (length_is program page c.calls cilk))

  -- a strand at the sync of a frame that has a scope
  pub record AtJoin (old : Spot) (s : Strand) (scope : Scope) (outer : List Scope) (p : Piece) : Type 0 where
    pub served_ : Served program page limit input image first request code facts asked old s p
    pub at_sync : Syncing program page input image served_.spot served_.left served_.control served_.held (machine_of s)
    pub inner : Innermost program page scope outer served_.control.calls served_.spot.frames

  at_join : (given : Claim) (s : Strand) (spot : Spot) (p : Piece) (scope : Scope) (outer : List Scope)
      → Stands program page limit input image first request given s spot p → s.course ≡ going → InstructionAt image s.counter ecall → s.registers reg.SERVICE ≡ 5
      → s.scopes ≡ scope ∷ outer → scope.frame ≡ s.registers reg.FP → AtJoin spot s scope outer p
  at_join given s spot p scope outer x e stops five scopes frame = record {
    served_ = y;
    at_sync = z;
    inner = innermost program page scope outer y.control.calls y.spot.frames y.frames (subst (λ k. AreOpen program page k y.control.calls y.spot.frames) scopes y.carried.opens)
        (frame ∙ z.exact.pointer_is);
  }
    where
      y : Served program page limit input image first request code facts asked spot s p
      y = served program page limit input image first request code facts asked given s spot p x e stops

      z : Syncing program page input image y.spot y.left y.control y.held (machine_of s)
      z = syncing program page input image y.spot y.left y.control y.held (machine_of s) y.at five

  -- the end of the join's children is by values: they can be joined
  pub record Joining (spot : Spot) (s : Strand) (scope : Scope) (outer : List Scope) (p : Piece) : Type 0 where
    pub at : AtJoin spot s scope outer p
    pub later : List Note
    pub held : Stack
    pub collects : Collects program page input (top at.served_.control.calls) p.log at.served_.held later held
    pub shown : ShowsLog program page (joined_log scope.first s.log) later × Placed program page outer at.served_.control.calls at.served_.spot.frames (joined_log scope.first s.log) later

  joining_ : (spot : Spot) (s : Strand) (scope : Scope) (outer : List Scope) (p : Piece) → AtJoin spot s scope outer p → s.scopes ≡ scope ∷ outer → AllFilledDone scope.first s.log
      → Joining spot s scope outer p
  joining_ spot s scope outer p at scopes done = record {
    at = at;
    later = found.0;
    held = found.1;
    collects = found.2;
    shown = collected program page scope outer y.control.calls y.spot.frames at.inner input s.log p.log found.0 y.held found.1 found.2 y.carried.shows placed done;
  }
    where
      y : Served program page limit input image first request code facts asked spot s p
      y = at.served_

      placed : Placed program page (scope ∷ outer) y.control.calls y.spot.frames s.log p.log
      placed = subst (λ k. Placed program page k y.control.calls y.spot.frames s.log p.log) scopes y.carried.placed

      found : (more : List Note) × (g : Stack) × Collects program page input (top y.control.calls) p.log y.held more g
      found = facts.joinable (piece p.start y.own y.control y.held p.log) at.at_sync.to (reached_by program page limit input image first request asked _ y.carried.from) at.at_sync.is
          (are_done program page scope outer y.control.calls y.spot.frames at.inner s.log p.log y.carried.shows placed done)

  -- true
  pub joins_children : (given : Claim) (s : Strand) (spot : Spot) (p : Piece) (scope : Scope) (outer : List Scope) (words : Owned)
      → Stands program page limit input image first request given s spot p → s.course ≡ going → InstructionAt image s.counter ecall → s.registers reg.SERVICE ≡ 5
      → s.scopes ≡ scope ∷ outer → scope.frame ≡ s.registers reg.FP → AllFilledDone scope.first s.log → unpaid scope.first s.log ≤ s.registers reg.TICKS
      → TakesIn scope.first s.log s.words words → Behind program page limit input image first request given spot (join s scope words) p
  joins_children given s spot p scope outer words x e stops five scopes frame done fits takes = record {
    spot = spot_;
    walk = walk_join y.spot y.walk scope.low;
    to = to_;
    leads = both_lead program page input p q_ to_ y.leads way;
    stands = standing program page limit input image first request given after spot_ later_ to_ carried e x.start_is x.few
        (takes_balance scope.first s.log s.words words given takes done x.balances) (inl exact)
        (subst (λ k. AreFrames program page k y.spot.frames) (sym z.same) y.frames);
  }
    where
      j : Joining spot s scope outer p
      j = joining_ spot s scope outer p (at_join given s spot p scope outer x e stops five scopes frame) scopes done

      y : Served program page limit input image first request code facts asked spot s p
      y = j.at.served_

      z : Syncing program page input image y.spot y.left y.control y.held (machine_of s)
      z = j.at.at_sync

      later_ : ℕ
      later_ = s.registers reg.TICKS - unpaid scope.first s.log

      spot_ : Spot
      spot_ = spot_at y.spot scope.low

      q_ : Piece
      q_ = piece p.start y.own y.control y.held p.log

      q_reached : Reached program page input first q_
      q_reached = reached_by program page limit input image first request asked q_ y.carried.from

      to_ : Piece
      to_ = piece p.start y.own z.to j.held j.later

      after : Strand
      after = join s scope words

      outer_is : after.scopes ≡ outer
      outer_is = ap Rattle.cm_strand.specs.Turn.outer scopes

      paid_is : paid (joined_log scope.first s.log) ≡ paid s.log + unpaid scope.first s.log
      paid_is = joined_paid scope.first s.log

      rule : Goes program page input q_ to_
      rule = pieces.Goes.joining z.is j.collects (counts program page (joined_log scope.first s.log) j.later j.shown.0)
          (let t = y.carried.ticks_are in let l = z.exact.left_is in let k = paid_is in omega (arith, t, l, k, fits))

      way : Leads program page input q_ to_
      way = one_rule program page input q_ to_ rule

      keeps : KeepsCalls y.control z.to
      keeps = subst (CallsKept y.control) z.is y.step_keeps

      placed : Placed program page (scope ∷ outer) y.control.calls y.spot.frames s.log p.log
      placed = subst (λ k. Placed program page k y.control.calls y.spot.frames s.log p.log) scopes y.carried.placed

      wide : Machine
      wide = with_words (passed (machine_of s)) (seen words)

      exact_wide : ExactAt program Cilk page input (InstructionAt image) y.spot y.left z.to y.held wide
      exact_wide = code.exact_more y.spot y.left z.to y.held (passed (machine_of s)) (seen words) z.exact (takes_run scope.first s.log s.words words takes)

      exact_held : ExactAt program Cilk page input (InstructionAt image) y.spot y.left z.to j.held wide
      exact_held = holds_joined scope outer y.spot y.left z.to wide
          (subst (λ k. Innermost program page scope outer k y.spot.frames) (sym z.same) j.at.inner) s.log p.log j.later y.held j.held s.words words
          (subst (λ k. Collects program page input (top k) p.log y.held j.later j.held) (sym z.same) j.collects) y.carried.shows
          (subst (λ k. Placed program page (scope ∷ outer) k y.spot.frames s.log p.log) (sym z.same) placed)
          (subst (RunsCilk program) (sym z.same) z.cilk) done takes (extends_same (seen words)) exact_wide
          (facts.unshared q_ q_reached)
          (λ d o x_ k out v n i h. facts.unshared_back q_ d o x_ false k out v n i q_reached h)

      exact : ExactAt program Cilk page input (InstructionAt image) spot_ later_ z.to j.held (machine_of after)
      exact = code.other_low y.spot scope.low later_ z.to j.held (record wide { registers = with_register wide.registers reg.TICKS later_ })
          (subst (λ k. MayStand program page k y.spot.frames scope.low) (sym z.same) j.at.inner.low)
          (code.other_ticks y.spot y.left later_ z.to j.held wide exact_held)

      carried : Now program page limit input image first request after spot_ later_ to_
      carried = record {
        from = both_lead program page input (begun request.ask) q_ to_ y.carried.from way;
        ticks_are = let t = y.carried.ticks_are in let l = z.exact.left_is in let k = paid_is in omega (arith, t, l, k, fits);
        shows = j.shown.0;
        opens = subst (λ k. AreOpen program page k z.to.calls y.spot.frames) (sym outer_is)
            (subst (λ k. AreOpen program page outer k y.spot.frames) (sym z.same) j.at.inner.outer_opens);
        scopes_used = subst (λ k. AreUsed k (hole_count (joined_log scope.first s.log)) j.later) (sym outer_is)
            (used_still program page scope outer y.control.calls y.spot.frames j.at.inner input outer (top y.control.calls) (hole_count s.log) (hole_count (joined_log scope.first s.log))
            p.log j.later y.held j.held j.collects (sym (joined_count scope.first s.log)) j.at.inner.outer_below
            (subst (λ k. AreUsed k (hole_count s.log) p.log) scopes y.carried.scopes_used).2);
        placed = subst (λ k. Placed program page k z.to.calls y.spot.frames (joined_log scope.first s.log) j.later) (sym outer_is)
            (subst (λ k. Placed program page outer k y.spot.frames (joined_log scope.first s.log) j.later) (sym z.same) j.shown.1);
        rooted = subst (λ k. Lies k y.spot.frames request.ask.call.calls request.spot.frames) (sym z.same) y.carried.rooted;
        base = let b = y.carried.base in let f = ap length z.same in let g = keeps.1 in omega (arith, b, f, g);
      }

  -- ---- false

  some_fallen : (firsts : ℕ) (log : List Entry) (notes : List Note) → ShowsLog program page log notes → SomeFilledOtherwise firsts log
      → Fallen notes
  some_fallen n [] notes shows f = absurd f
  some_fallen n (number v ∷ log) [] shows f = absurd shows
  some_fallen n (number v ∷ log) (printed u ∷ notes) shows f = pieces.Fallen.later (some_fallen n log notes shows.1 f)
  some_fallen n (number v ∷ log) (child d o x b q r ∷ notes) shows f = absurd shows
  some_fallen n (hole H ∷ log) [] shows f = absurd shows
  some_fallen n (hole H ∷ log) (printed u ∷ notes) shows f = absurd shows
  some_fallen n (hole H ∷ log) (child d o x b q r ∷ notes) shows (inr f) = pieces.Fallen.later (some_fallen n log notes shows.1 f)
  some_fallen n (hole H ∷ log) (child d o x b q r ∷ notes) shows (inl f) = by H.filling b r shows.0.filling f.1
    where
      by : (g : Filling) (b : Bool) (r : Answer) → ShowsFilling g b r → FilledOtherwise g → Fallen (child d o x b q r ∷ notes)
      by empty b r h k = absurd k
      by (filled (Done out v m) c) b r h k = absurd k
      by (filled (Trapped out t m) c) true r h k = absurd h
      by (filled (Trapped out t m) c) false awaited h k = absurd h
      by (filled (Trapped out t m) c) false (told (Trapped more l i) w) h k = pieces.Fallen.by_trap
      by (filled (Trapped out t m) c) false (told (Done more v i) w) h k = absurd h
      by (filled (Trapped out t m) c) false (told Spent w) h k = absurd h
      by (filled Spent c) true r h k = absurd h
      by (filled Spent c) false awaited h k = absurd h
      by (filled Spent c) false (told Spent w) h k = pieces.Fallen.by_spent
      by (filled Spent c) false (told (Done more v i) w) h k = absurd h
      by (filled Spent c) false (told (Trapped more l i) w) h k = absurd h

  pub breaks_off : (given : Claim) (s : Strand) (spot : Spot) (p : Piece) (scope : Scope) (outer : List Scope)
      → Stands program page limit input image first request given s spot p → s.course ≡ going → InstructionAt image s.counter ecall → s.registers reg.SERVICE ≡ 5
      → s.scopes ≡ scope ∷ outer → scope.frame ≡ s.registers reg.FP
      → AllFilledFrom scope.first s.log → SomeFilledOtherwise scope.first s.log ⊎ (AllFilledDone scope.first s.log × (s.registers reg.TICKS < unpaid scope.first s.log))
      → Behind program page limit input image first request given spot (break_off s) p
  breaks_off given s spot p scope outer x e stops five scopes frame full why = record {
    spot = y.spot;
    walk = y.walk;
    to = q_;
    leads = y.leads;
    stands = record {
      from = y.carried.from;
      left = y.left;
      start_is = x.start_is;
      few = x.few;
      ticks_are = y.carried.ticks_are;
      shows = y.carried.shows;
      balances = x.balances;
      proceeds = record { left_is = at.at_sync.exact.left_is; stops = by why; hollow = hollow_ };
    };
  }
    where
      at : AtJoin spot s scope outer p
      at = at_join given s spot p scope outer x e stops five scopes frame

      y : Served program page limit input image first request code facts asked spot s p
      y = at.served_

      q_ : Piece
      q_ = piece p.start y.own y.control y.held p.log

      hollow_ : EmptyIn (Rattle.cm_strand.specs.Turn.outer s.scopes) s.log
      hollow_ = subst (λ k. EmptyIn k s.log) (sym (ap Rattle.cm_strand.specs.Turn.outer scopes)) (empty_outer scope outer s.log
          (subst (λ k. EmptyIn k s.log) scopes (empty_of_placed program page s.scopes y.control.calls y.spot.frames s.log p.log y.carried.shows y.carried.placed)) full)

      by : SomeFilledOtherwise scope.first s.log ⊎ (AllFilledDone scope.first s.log × (s.registers reg.TICKS < unpaid scope.first s.log))
          → Stops program page input p.start y.own y.control y.held p.log runs_out
      by (inl f) = pieces.Stops.by_child (some_fallen scope.first s.log p.log y.carried.shows f)
      by (inr f) = spends
        where
          placed : Placed program page (scope ∷ outer) y.control.calls y.spot.frames s.log p.log
          placed = subst (λ k. Placed program page k y.control.calls y.spot.frames s.log p.log) scopes y.carried.placed

          found : (more : List Note) × (g : Stack) × Collects program page input (top y.control.calls) p.log y.held more g
          found = facts.joinable q_ at.at_sync.to (reached_by program page limit input image first request asked q_ y.carried.from) at.at_sync.is
              (are_done program page scope outer y.control.calls y.spot.frames at.inner s.log p.log y.carried.shows placed f.0)

          shown : ShowsLog program page (joined_log scope.first s.log) found.0 × Placed program page outer y.control.calls y.spot.frames (joined_log scope.first s.log) found.0
          shown = collected program page scope outer y.control.calls y.spot.frames at.inner input s.log p.log found.0 y.held found.1 found.2 y.carried.shows placed f.0

          spends : Stops program page input p.start y.own y.control y.held p.log runs_out
          spends = pieces.Stops.by_sync at.at_sync.is found.2 (counts program page (joined_log scope.first s.log) found.0 shown.0)
              (let t = y.carried.ticks_are in let l = at.at_sync.exact.left_is in let k = joined_paid scope.first s.log in let u = f.1 in omega (arith, t, l, k, u))

  -- ---- an ending strand

  paid_shows : (f : Filling) (j : Bool) (r : Answer) → FilledDone f → ShowsFilling f j r → ShowsFilling (paid_filling f) j r
  paid_shows empty j r d h = absurd d
  paid_shows (filled (Done out v n) b) false awaited d h = absurd h
  paid_shows (filled (Done out v n) b) false (told i w) d h = h
  paid_shows (filled (Done out v n) true) true awaited d h = absurd h
  paid_shows (filled (Done out v n) true) true (told i w) d h = h
  paid_shows (filled (Done out v n) false) true r d h = absurd h
  paid_shows (filled (Trapped out k n) b) j r d h = absurd d
  paid_shows (filled Spent b) j r d h = absurd d

  joined_shows : (firsts : ℕ) (log : List Entry) (notes : List Note) → ShowsLog program page log notes → AllFilledDone firsts log → ShowsLog program page (joined_log firsts log) notes
  joined_shows n [] [] h done = tt
  joined_shows n (number v ∷ log) (printed u ∷ notes) h done = (h.0, joined_shows n log notes h.1 done)
  joined_shows n (hole H ∷ log) (child d o x j q r ∷ notes) h done = by (nat_le n (hole_count log)) refl (joined_shows n log notes h.1 done.1)
    where
      by : (test : Bool) → nat_le n (hole_count log) ≡ test → ShowsLog program page (joined_log n log) notes
          → ShowsLog program page ((if test then hole (joined_hole H) else hole H) ∷ joined_log n log) (child d o x j q r ∷ notes)
      by true e y = (
        record {
          used = h.0.used;
          ask = h.0.ask;
          target = h.0.target;
          frames = h.0.frames;
          whole = h.0.whole;
          filling = paid_shows H.filling j r (done.0 (leb-true n (hole_count log) e)) h.0.filling;
        },
        y,
      )
      by false e y = (h.0, y)
  joined_shows n [] (a ∷ notes) h done = absurd h
  joined_shows n (number v ∷ log) [] h done = absurd h
  joined_shows n (number v ∷ log) (child d o x j q r ∷ notes) h done = absurd h
  joined_shows n (hole H ∷ log) [] h done = absurd h
  joined_shows n (hole H ∷ log) (printed u ∷ notes) h done = absurd h

  joined_hollow : (s : Scope) (outer : List Scope) (log : List Entry) → AllFilledDone s.first log → EmptyIn (s ∷ outer) log → EmptyIn outer (joined_log s.first log)
  joined_hollow s outer [] done h = tt
  joined_hollow s outer (number v ∷ log) done h = joined_hollow s outer log done h
  joined_hollow s outer (hole H ∷ log) done h = by (nat_le s.first (hole_count log)) refl (joined_hollow s outer log done.1 h.1)
    where
      not_empty : (f : Filling) → FilledDone f → paid_filling f ≡ empty → ⊥
      not_empty empty d e = d
      not_empty (filled i b) d e = cc

      by : (test : Bool) → nat_le s.first (hole_count log) ≡ test → EmptyIn outer (joined_log s.first log)
          → EmptyIn outer ((if test then hole (joined_hole H) else hole H) ∷ joined_log s.first log)
      by true e y = (λ f. absurd (not_empty H.filling (done.0 (leb-true s.first (hole_count log) e)) f), y)
      by false e y = (λ f. subst (InScope outer) (sym (joined_count s.first log)) (either (leb-false s.first (hole_count log) e) (h.0 f)), y)
        where
          either : hole_count log < s.first → (s.first ≤ hole_count log) ⊎ InScope outer (hole_count log) → InScope outer (hole_count log)
          either l (inl k) = absurd (omega (arith, l, k))
          either l (inr i) = i

  pub joins_ending : (given : Claim) (s : Strand) (spot : Spot) (p : Piece) (kind : Option Trap) (scope : Scope) (outer : List Scope) (words : Owned)
      → Stands program page limit input image first request given s spot p → s.course ≡ ending kind → s.scopes ≡ scope ∷ outer → AllFilledDone scope.first s.log
      → unpaid scope.first s.log ≤ s.registers reg.TICKS → TakesIn scope.first s.log s.words words
      → Behind program page limit input image first request given spot (join s scope words) p
  joins_ending given s spot p kind scope outer words x e scopes done fits takes = record {
    spot = spot;
    walk = rest;
    to = p;
    leads = here_;
    stands = record {
      from = x.from;
      left = s.registers reg.TICKS - unpaid scope.first s.log;
      start_is = x.start_is;
      few = x.few;
      ticks_are = let t = x.ticks_are in let l = left_of kind r in let k = joined_paid scope.first s.log in omega (arith, t, l, k, fits);
      shows = joined_shows scope.first s.log p.log x.shows done;
      balances = takes_balance scope.first s.log s.words words given takes done x.balances;
      proceeds = subst (λ k. Proceeds program page input image k request (join s scope words) spot (s.registers reg.TICKS - unpaid scope.first s.log) p) (sym e) (by kind r);
    };
  }
    where
      here_ : Leads program page input p p
      here_ = Leads.here

      r : Proceeds program page input image (ending kind) request s spot x.left p
      r = subst (λ k. Proceeds program page input image k request s spot x.left p) e x.proceeds

      left_of : (k : Option Trap) → Proceeds program page input image (ending k) request s spot x.left p → s.registers reg.TICKS ≡ x.left
      left_of (Some k) q = q.left_is
      left_of None q = q.left_is

      hollow_ : EmptyIn s.scopes s.log → EmptyIn (Rattle.cm_strand.specs.Turn.outer s.scopes) (joined_log scope.first s.log)
      hollow_ h = subst (λ k. EmptyIn k (joined_log scope.first s.log)) (sym (ap Rattle.cm_strand.specs.Turn.outer scopes))
          (joined_hollow scope outer s.log done (subst (λ k. EmptyIn k s.log) scopes h))

      by : (k : Option Trap) → Proceeds program page input image (ending k) request s spot x.left p
          → Proceeds program page input image (ending k) request (join s scope words) spot (s.registers reg.TICKS - unpaid scope.first s.log) p
      by (Some k) q = record { left_is = refl; stops = q.stops; hollow = hollow_ q.hollow }
      by None q = record { left_is = refl; stops = q.stops; hollow = hollow_ q.hollow }
