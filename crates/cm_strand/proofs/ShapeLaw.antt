-- Logs, scopes and frames of a strand beside those of its piece.
use Rattle.std.proofs.Common.{◌≡◌, ◌≢◌, ℕ, suc, ◌+◌, ◌<◌, ◌≤◌, Bool, true, false, List, [], ◌∷◌, length, sym, ap, ◌∙◌, subst, arith, inl, inr}
use Rattle.std.specs.Prelude.{ℤ, ⊤}
use Rattle.cm_meaning.specs.End.{Done, Trapped, Spent}
use Rattle.cm_syntax.specs.Stack.{Stack, Destination}
use Rattle.cm_syntax.specs.declared.stmt.Program.{Program}
use Rattle.cm_syntax.specs.Step.{top}
use Rattle.cm_meaning.specs.Piece.{printed, child, awaited, told, counted, skipped}
use Rattle.cm_meaning.specs.Meaning.{Ask, Note}
use Rattle.cm_strand.specs.Piece.{Answer, HasNote}
use Rattle.cm_meaning.specs.Leads.{Counts, Collects}
use Rattle.cm_gen.specs.Standing.{Frame}
use Rattle.cm_strand.specs.Running.{RunsCilk}
use Rattle.cm_strand.specs.Standing.{Lies, there, above, Belongs, AreUsed, AreOpen, none, here, below, ShowsFilling, ShowsLog, Placed}
use Rattle.cm_meaning.specs.Loan.{HasUnjoined}
use Rattle.cm_meaning.specs.Piece as pieces
use Rattle.cm_strand.specs.Strand.{Request, Filling, empty, filled, Hole, Entry, number, hole, Scope, hole_count, paid, paid_by}

-- ---- children of a depth

-- no child of this depth is unjoined
abbrev pub NoneOf : (depth : ℕ) → List Note → Type 0
NoneOf d [] = ⊤
NoneOf d (printed v ∷ notes) = NoneOf d notes
NoneOf d (child b own x true q r ∷ notes) = NoneOf d notes
NoneOf d (child b own x false q r ∷ notes) = (b ≢ d) × NoneOf d notes

-- frames and calls behind a number of ends
pub lies_short : (calls : List ℕ) (frames : List Frame) (first_calls : List ℕ) (first_frames : List Frame) → Lies calls frames first_calls first_frames
    → length first_calls ≤ length calls
lies_short calls frames _ _ there = omega arith
lies_short _ _ first_calls first_frames (above {calls = calls} {frames = frames} l) =
    let h = lies_short calls frames first_calls first_frames l in omega (arith, h)

head_is : {a b : ℕ} {x y : List ℕ} → ◌≡◌ {A = List ℕ} (a ∷ x) (b ∷ y) → x ≡ y
head_is e = cc

frames_are : {a b : Frame} {x y : List Frame} → ◌≡◌ {A = List Frame} (a ∷ x) (b ∷ y) → x ≡ y
frames_are e = cc

first_frame_is : {a b : Frame} {x y : List Frame} → ◌≡◌ {A = List Frame} (a ∷ x) (b ∷ y) → a ≡ b
first_frame_is e = cc

-- the last frame goes, which isn't one of the first ones
pub lies_less : (calls : List ℕ) (frames : List Frame) (first_calls : List ℕ) (first_frames : List Frame) (f : ℕ) (F : Frame) (cs : List ℕ) (fs : List Frame)
    → Lies calls frames first_calls first_frames → calls ≡ f ∷ cs → frames ≡ F ∷ fs → length first_calls ≤ length cs → Lies cs fs first_calls first_frames
lies_less calls frames _ _ f F cs fs there e g short = let n = ap length e in absurd (omega (arith, n, short))
lies_less _ _ first_calls first_frames f F cs fs (above {calls = calls} {frames = frames} l) e g short =
    subst (λ k. Lies cs k first_calls first_frames) (frames_are g) (subst (λ k. Lies k frames first_calls first_frames) (head_is e) l)

module _ (program : Program) (page : ℕ) where
  -- ---- ticks

  filling_counts : (H : Hole) (f : Filling) (d own : ℕ) (x : Destination) (j : Bool) (q : Ask) (r : Answer) (notes : List Note) (n : ℕ)
      → ShowsFilling f j r → Counts notes n → Counts (child d own x j q r ∷ notes) (n + paid_by f)
  filling_counts H empty d own x false q awaited notes n h c = subst (Counts (child d own x false q awaited ∷ notes)) (omega arith) (skipped c)
  filling_counts H empty d own x false q (told e w) notes n h c = absurd h
  filling_counts H empty d own x true q r notes n h c = absurd h
  filling_counts H (filled e b) d own x false q awaited notes n h c = absurd h
  filling_counts H (filled e false) d own x false q (told i w) notes n h c = subst (Counts (child d own x false q (told i w) ∷ notes)) (omega arith) (skipped c)
  filling_counts H (filled (Done out v m) true) d own x false q (told (Done more u k) w) notes n h c =
      subst (λ t. Counts (child d own x false q (told (Done more u k) w) ∷ notes) (n + t)) (sym h.1) (counted c)
  filling_counts H (filled (Done out v m) true) d own x false q (told (Trapped more k t) w) notes n h c = absurd h
  filling_counts H (filled (Done out v m) true) d own x false q (told Spent w) notes n h c = absurd h
  filling_counts H (filled (Trapped out k m) true) d own x false q (told i w) notes n h c = subst (Counts (child d own x false q (told i w) ∷ notes)) (omega arith) (skipped c)
  filling_counts H (filled Spent true) d own x false q (told i w) notes n h c = subst (Counts (child d own x false q (told i w) ∷ notes)) (omega arith) (skipped c)
  filling_counts H (filled (Done out v m) true) d own x true q (told (Done more u k) w) notes n h c =
      subst (λ t. Counts (child d own x true q (told (Done more u k) w) ∷ notes) (n + t)) (sym h.1) (counted c)
  filling_counts H (filled (Done out v m) true) d own x true q (told (Trapped more k t) w) notes n h c = absurd h
  filling_counts H (filled (Done out v m) true) d own x true q (told Spent w) notes n h c = absurd h
  filling_counts H (filled (Done out v m) true) d own x true q awaited notes n h c = absurd h
  filling_counts H (filled (Done out v m) false) d own x true q r notes n h c = absurd h
  filling_counts H (filled (Trapped out k m) b) d own x true q r notes n h c = absurd h
  filling_counts H (filled Spent b) d own x true q r notes n h c = absurd h

  -- the ticks that a strand took are ticks that the rules may count
  pub counts : (log : List Entry) (notes : List Note) → ShowsLog program page log notes → Counts notes (paid log)
  counts [] [] h = pieces.Counts.none
  counts (number v ∷ log) (printed u ∷ notes) h = pieces.Counts.past (counts log notes h.1)
  counts (hole H ∷ log) (child d own x j q r ∷ notes) h = filling_counts H H.filling d own x j q r notes (paid log) h.0.filling (counts log notes h.1)
  counts [] (n ∷ notes) h = absurd h
  counts (number v ∷ log) [] h = absurd h
  counts (number v ∷ log) (child d own x j q r ∷ notes) h = absurd h
  counts (hole H ∷ log) [] h = absurd h
  counts (hole H ∷ log) (printed u ∷ notes) h = absurd h

  -- ---- scopes

  pub scope_deep : (scopes : List Scope) (calls : List ℕ) (frames : List Frame) (n d : ℕ) → AreOpen program page scopes calls frames → Belongs scopes n d → d < length calls
  scope_deep _ calls frames n d none b = absurd b
  scope_deep _ _ _ n d (here {s = s} {scopes = scopes} {f = f} {F = F} {calls = calls} {frames = frames} at deep low cilk o) (inl b) = omega (arith, b.1, deep)
  scope_deep _ _ _ n d (here {s = s} {scopes = scopes} {f = f} {F = F} {calls = calls} {frames = frames} at deep low cilk o) (inr b) =
      let h = scope_deep scopes calls frames n d o b.1 in omega (arith, h)
  scope_deep scopes _ _ n d (below {calls = calls} {frames = frames} o) b = let h = scope_deep scopes calls frames n d o b in omega (arith, h)

  -- a frame of a function that isn't marked `cilk` has no scope
  pub no_scope : (scopes : List Scope) (calls : List ℕ) (frames : List Frame) (n : ℕ) → AreOpen program page scopes calls frames
      → (RunsCilk program calls → ⊥) → Belongs scopes n (top calls) → ⊥
  no_scope _ calls frames n none not b = absurd b
  no_scope _ _ _ n (here at deep low cilk o) not b = not cilk
  no_scope scopes _ _ n (below {calls = calls} {frames = frames} o) not b = let h = scope_deep scopes calls frames n (length calls) o b in omega (arith, h)

  -- the last frame goes, which has no child
  pub opens_less : (scopes : List Scope) (calls : List ℕ) (frames : List Frame) (f : ℕ) (F : Frame) (cs : List ℕ) (fs : List Frame) (count : ℕ) (notes : List Note)
      → AreOpen program page scopes calls frames → calls ≡ f ∷ cs → frames ≡ F ∷ fs → AreUsed scopes count notes → (HasUnjoined (length cs) notes → ⊥)
      → AreOpen program page scopes cs fs
  opens_less _ calls frames f F cs fs count notes none e g used lacks = none
  opens_less _ _ _ f F cs fs count notes (here {s = s} {calls = calls} at deep low cilk o) e g used lacks =
      absurd (lacks (subst (λ d. HasUnjoined d notes) (deep ∙ ap length (head_is e)) used.1))
  opens_less scopes _ _ f F cs fs count notes (below {calls = calls} {frames = frames} o) e g used lacks =
      subst (λ k. AreOpen program page scopes cs k) (frames_are g) (subst (λ k. AreOpen program page scopes k frames) (head_is e) o)

  -- ---- children

  -- a depth to which no number belongs has no child
  pub none_of : (scopes : List Scope) (calls : List ℕ) (frames : List Frame) (d : ℕ) (log : List Entry) (notes : List Note)
      → ShowsLog program page log notes → Placed program page scopes calls frames log notes → ((n : ℕ) → Belongs scopes n d → ⊥) → NoneOf d notes
  none_of scopes calls frames d [] [] h p lacks = tt
  none_of scopes calls frames d (number v ∷ log) (printed u ∷ notes) h p lacks = none_of scopes calls frames d log notes h.1 p lacks
  none_of scopes calls frames d (hole H ∷ log) (child b own x true q r ∷ notes) h p lacks = none_of scopes calls frames d log notes h.1 p.1 lacks
  none_of scopes calls frames d (hole H ∷ log) (child b own x false q r ∷ notes) h p lacks =
      (λ e. lacks (hole_count log) (subst (Belongs scopes (hole_count log)) e p.0.belongs), none_of scopes calls frames d log notes h.1 p.1 lacks)
  none_of scopes calls frames d [] (n ∷ notes) h p lacks = absurd h
  none_of scopes calls frames d (number v ∷ log) [] h p lacks = absurd h
  none_of scopes calls frames d (number v ∷ log) (child b own x j q r ∷ notes) h p lacks = absurd h
  none_of scopes calls frames d (hole H ∷ log) [] h p lacks = absurd h
  none_of scopes calls frames d (hole H ∷ log) (printed u ∷ notes) h p lacks = absurd h

  -- where no frame moves but a last one that goes, the children stay at their places
  pub placed_by : (scopes : List Scope) (calls calls_later : List ℕ) (frames frames_later : List Frame) (log : List Entry) (notes whole : List Note)
      → ((n : Note) → HasNote notes n → HasNote whole n)
      → ((d own : ℕ) (x : Destination) (q : Ask) (r : Answer) (request : Request) → HasNote whole (child d own x false q r)
      → length request.ask.call.calls ≡ suc d → Lies calls frames request.ask.call.calls request.spot.frames
      → Lies calls_later frames_later request.ask.call.calls request.spot.frames)
      → Placed program page scopes calls frames log notes → Placed program page scopes calls_later frames_later log notes
  placed_by scopes calls cl frames fl (hole H ∷ log) (child d own x true q r ∷ notes) whole among on p =
      (tt, placed_by scopes calls cl frames fl log notes whole (λ n h. among n (pieces.HasNote.deeper h)) on p.1)
  placed_by scopes calls cl frames fl (hole H ∷ log) (child d own x false q r ∷ notes) whole among on p = (
    record {
      belongs = p.0.belongs;
      lies = on d own x q r H.request (among _ pieces.HasNote.here) p.0.deep p.0.lies;
      deep = p.0.deep;
      back = p.0.back;
    },
    placed_by scopes calls cl frames fl log notes whole (λ n h. among n (pieces.HasNote.deeper h)) on p.1,
  )
  placed_by scopes calls cl frames fl (number v ∷ log) (printed u ∷ notes) whole among on p =
      placed_by scopes calls cl frames fl log notes whole (λ n h. among n (pieces.HasNote.deeper h)) on p
  placed_by scopes calls cl frames fl [] notes whole among on p = tt
  placed_by scopes calls cl frames fl (number v ∷ log) [] whole among on p = tt
  placed_by scopes calls cl frames fl (number v ∷ log) (child d own x j q r ∷ notes) whole among on p = tt
  placed_by scopes calls cl frames fl (hole H ∷ log) [] whole among on p = tt
  placed_by scopes calls cl frames fl (hole H ∷ log) (printed u ∷ notes) whole among on p = tt

module _ (program : Program) (page : ℕ) (input : List ℤ) where
  -- a join without children
  pub collects_none : (d : ℕ) (notes : List Note) (h : Stack) → NoneOf d notes → Collects program page input d notes h notes h
  collects_none d [] h lacks = pieces.Collects.none
  collects_none d (printed v ∷ notes) h lacks = pieces.Collects.past (collects_none d notes h lacks)
  collects_none d (child b own x true q r ∷ notes) h lacks = pieces.Collects.before (collects_none d notes h lacks)
  collects_none d (child b own x false q r ∷ notes) h lacks = pieces.Collects.other lacks.0 (collects_none d notes h lacks.1)
