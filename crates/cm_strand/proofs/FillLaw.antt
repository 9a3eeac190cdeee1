-- An answer fills its hole: the piece hears it, and the strand's log shows the piece's still.
use Rattle.std.proofs.Common.{◌≡◌, ℕ, suc, ◌+◌, ◌<◌, Bool, true, false, List, [], ◌∷◌, Option, None, Some, refl, sym, ap, ◌∙◌, subst, arith, inl, inr}
use Rattle.std.proofs.lemmas.Bool.{eqb-true, eqb-false, ne_eqb, eq-eqb}
use Rattle.std.specs.Prelude.{ℤ, ◌⊎◌, ◌==◌, if◌then◌else◌, FitsSigned}
use Rattle.std.specs.Int.{w32}
use Rattle.cm_meaning.specs.End.{End, Done, Trapped, Spent}
use Rattle.cm_syntax.specs.Stack.{Stack, Destination, settle}
use Rattle.cm_syntax.specs.declared.stmt.Program.{Program}
use Rattle.cm_syntax.specs.Rest.{Control}
use Rattle.cm_syntax.specs.Step.{depth}
use Rattle.cm_isa.specs.Machine.{with_word}
use Rattle.cm_meaning.specs.Piece.{printed, child, awaited, told}
use Rattle.cm_meaning.specs.Meaning.{Ask, Note, Piece, begun, Fork, Reached, Stops}
use Rattle.cm_meaning.specs.Leads.{Hears}
use Rattle.cm_strand.specs.Piece.{Fallen, Answer, HasNote}
use Rattle.cm_meaning.specs.Leads.{Counts, Collects}
use Rattle.cm_gen.specs.Standing.{Frame}
use Rattle.cm_gen.specs.FrameWord.{AreFrames, Holds, bits}
use Rattle.cm_strand.specs.Running.{target_address}
use Rattle.cm_strand.specs.Owned.{Owned, Claim, OwnedSum, ClaimSum, MayWrite, seen, claim, put}
use Rattle.cm_strand.specs.Standing.{ShowsEnd, Placed, UnjoinedIn, ShowsLog, ShowsChild, ShowsFilling, Returned, GivesWords, Answered}
use Rattle.cm_meaning.specs.Loan.{HasUnjoined}
use Rattle.cm_strand.proofs.KnownLaw.{KnownFacts}
use Rattle.cm_meaning.specs.Piece as pieces
use Rattle.cm_strand.specs.Strand.{empty, filled, Hole, Entry, number, hole, Scope, hole_count, hole_claim, paid, paid_by, Balances}
use Rattle.cm_strand.specs.Turn.{fill, filled_hole, delivered, HoleAt}
use Rattle.cm_strand.proofs.OwnedLaw.{put_seen, put_claim, claim_sum, claims_commute, claims_pair, one_claim, reorder}

module _ (program : Program) (page : ℕ) (input : List ℤ) where
  -- ---- what hearing keeps

  pub counts_hear : (notes more : List Note) (m : ℕ) → Counts notes m → Hears program page input notes more → Counts more m
  counts_hear _ more _ pieces.Counts.none h = elim h [ ]
  counts_hear _ _ _ (pieces.Counts.past c) (pieces.Hears.deeper h) = pieces.Counts.past (counts_hear _ _ _ c h)
  counts_hear _ _ _ (pieces.Counts.counted c) (pieces.Hears.deeper h) = pieces.Counts.counted (counts_hear _ _ _ c h)
  counts_hear _ _ _ (pieces.Counts.skipped c) (pieces.Hears.deeper h) = pieces.Counts.skipped (counts_hear _ _ _ c h)
  counts_hear _ _ _ (pieces.Counts.skipped c) (pieces.Hears.this f) = pieces.Counts.skipped c

  pub fallen_hears : (notes more : List Note) → Fallen notes → Hears program page input notes more → Fallen more
  fallen_hears _ _ pieces.Fallen.by_trap (pieces.Hears.deeper h) = pieces.Fallen.by_trap
  fallen_hears _ _ pieces.Fallen.by_spent (pieces.Hears.deeper h) = pieces.Fallen.by_spent
  fallen_hears _ _ (pieces.Fallen.later f) (pieces.Hears.deeper h) = pieces.Fallen.later (fallen_hears _ _ f h)
  fallen_hears _ _ (pieces.Fallen.later f) (pieces.Hears.this g) = pieces.Fallen.later f

  -- a join that could be made can be made still
  pub collects_hear : (d : ℕ) (notes more joined : List Note) (h g : Stack) → Collects program page input d notes h joined g → Hears program page input notes more
      → (later : List Note) × Collects program page input d more h later g × Hears program page input joined later
  collects_hear d _ more _ _ _ (pieces.Collects.none {h = h}) r = elim r [ ]
  collects_hear d _ _ _ h g (pieces.Collects.past c) (pieces.Hears.deeper r) =
      let x = collects_hear d _ _ _ h g c r in (_, pieces.Collects.past x.1, pieces.Hears.deeper x.2)
  collects_hear d _ _ _ h g (pieces.Collects.before c) (pieces.Hears.deeper r) =
      let x = collects_hear d _ _ _ h g c r in (_, pieces.Collects.before x.1, pieces.Hears.deeper x.2)
  collects_hear d _ _ _ h g (pieces.Collects.before c) (pieces.Hears.this f) = (_, pieces.Collects.before c, pieces.Hears.this f)
  collects_hear d _ _ _ h g (pieces.Collects.other e c) (pieces.Hears.deeper r) =
      let x = collects_hear d _ _ _ h g c r in (_, pieces.Collects.other e x.1, pieces.Hears.deeper x.2)
  collects_hear d _ _ _ h g (pieces.Collects.other e c) (pieces.Hears.this f) = (_, pieces.Collects.other e c, pieces.Hears.this f)
  collects_hear d _ _ _ h g (pieces.Collects.taken {i = i} s c) (pieces.Hears.deeper r) =
      let x = collects_hear d _ _ _ i g c r in (_, pieces.Collects.taken s x.1, pieces.Hears.deeper x.2)

  pub stops_hears : (start own : ℕ) (c : Control) (h : Stack) (notes more : List Note) (o : pieces.Own) → Stops program page input start own c h notes o → Hears program page input notes more
      → Stops program page input start own c h more o
  stops_hears start own c h notes more _ (pieces.Stops.by_trap e) r = pieces.Stops.by_trap e
  stops_hears start own c h notes more _ (pieces.Stops.by_return e) r = pieces.Stops.by_return e
  stops_hears start own c h notes more _ (pieces.Stops.by_tick e k l) r = pieces.Stops.by_tick e (counts_hear notes more _ k r) l
  stops_hears start own c h notes more _ (pieces.Stops.by_sync e j k l) r =
      let x = collects_hear (depth c) notes more _ h _ j r in pieces.Stops.by_sync e x.1 (counts_hear _ x.0 _ k x.2) l
  stops_hears start own c h notes more _ (pieces.Stops.by_child f) r = pieces.Stops.by_child (fallen_hears notes more f r)

-- no end by a value
abbrev pub IsNotDone : End → Type 0
IsNotDone (Done out v n) = ⊥
IsNotDone (Trapped out k n) = Unit {0}
IsNotDone Spent = Unit {0}

-- ---- claims

-- a hole claims what came back
pub delivered_claim : (target : ℕ) (e : End) (w : Owned) → ((target ≡ 0 → ⊥) → MayWrite (claim w) target) → claim (delivered target e w) ≡ claim w
delivered_claim target (Done out None n) w may = refl
delivered_claim target (Done out (Some v) n) w may = by (target == 0) refl
  where
    by : (none : Bool) → (target == 0) ≡ none → claim (if none then w else put w target (bits v)) ≡ claim w
    by true e = refl
    by false e = put_claim w target (bits v)
delivered_claim target (Trapped out k n) w may = refl
delivered_claim target Spent w may = refl

pub fill_balance : (log : List Entry) (n : ℕ) (H : Hole) (e : End) (b : Bool) (w aside back run new : Owned) (more given later : Claim) → HoleAt log n H → H.filling ≡ empty
    → ClaimSum H.request.due more (claim w) → OwnedSum aside back w → OwnedSum run back new → ((H.target ≡ 0 → ⊥) → MayWrite (claim aside) H.target)
    → Balances given run log → ClaimSum given more later → Balances later new (fill log n e b aside)
fill_balance [] n H e b w aside back run new more given later at none due parts runs whole balance sum = absurd at
fill_balance (number v ∷ log) n H e b w aside back run new more given later at none due parts runs whole balance sum =
    fill_balance log n H e b w aside back run new more given later at none due parts runs whole balance sum
fill_balance (hole G ∷ log) n H e b w aside back run new more given later at none due parts runs whole balance sum =
    by (hole_count log == n) refl (λ here_ t u bal su. fill_balance log n H e b w aside back run new more t u here_ none due parts runs whole bal su)
  where
    by : (same : Bool) → (hole_count log == n) ≡ same
        → (HoleAt log n H → (t u : Claim) → Balances t run log → ClaimSum t more u → Balances u new (fill log n e b aside))
        → Balances later new (if same then hole (filled_hole G e b aside) ∷ log else hole G ∷ fill log n e b aside)
    by true is on = here_ at
      where
        here_ : ((n ≡ hole_count log) × (G ≡ H)) ⊎ ((n < hole_count log) × HoleAt log n H) → Balances later new (hole (filled_hole G e b aside) ∷ log)
        here_ (inr x) = let f = x.0 in let g = eqb-true (hole_count log) n is in absurd (omega (arith, f, g))
        here_ (inl x) = (y.0, (older, balance.1.1, subst (λ k. ClaimSum k older y.0) (sym claim_is) (claims_commute older (claim aside) y.0 y.1)), y.2)
          where
            older : Claim
            older = balance.1.0

            dues : ClaimSum G.request.due older balance.0
            dues = subst (λ f. ClaimSum (hole_claim G f) older balance.0) (ap (λ K. K.filling) x.1 ∙ none) balance.1.2

            due_ : ClaimSum G.request.due more (claim w)
            due_ = subst (λ K. ClaimSum K.request.due more (claim w)) (sym x.1) due

            claim_is : claim (delivered G.target e aside) ≡ claim aside
            claim_is = delivered_claim G.target e aside (subst (λ K. (K.target ≡ 0 → ⊥) → MayWrite (claim aside) K.target) (sym x.1) whole)

            t : (u : Claim) × ClaimSum (claim run) older u × ClaimSum u G.request.due given
            t = reorder (claim run) G.request.due older balance.0 given dues balance.2

            p : (u : Claim) × ClaimSum G.request.due more u × ClaimSum t.0 u later
            p = claims_pair t.0 G.request.due more given later t.2 sum

            q : ClaimSum t.0 (claim w) later
            q = subst (λ k. ClaimSum t.0 k later) (one_claim G.request.due more p.0 (claim w) p.1 due_) p.2

            r : (u : Claim) × ClaimSum t.0 (claim back) u × ClaimSum u (claim aside) later
            r = reorder t.0 (claim aside) (claim back) (claim w) later (claim_sum aside back w parts) q

            v : (u : Claim) × ClaimSum older (claim back) u × ClaimSum (claim run) u r.0
            v = claims_pair (claim run) older (claim back) t.0 r.0 t.1 r.1

            s : (u : Claim) × ClaimSum (claim run) (claim back) u × ClaimSum u older r.0
            s = reorder (claim run) older (claim back) v.0 r.0 v.1 v.2

            new_is : s.0 ≡ claim new
            new_is = one_claim (claim run) (claim back) s.0 (claim new) s.1 (claim_sum run back new runs)

            y : (u : Claim) × ClaimSum older (claim aside) u × ClaimSum (claim new) u later
            y = claims_pair (claim new) older (claim aside) r.0 later (subst (λ k. ClaimSum k older r.0) new_is s.2) r.2
    by false is on = deeper_ at
      where
        deeper_ : ((n ≡ hole_count log) × (G ≡ H)) ⊎ ((n < hole_count log) × HoleAt log n H) → Balances later new (hole G ∷ fill log n e b aside)
        deeper_ (inl x) = absurd (eqb-false (hole_count log) n is (sym x.0))
        deeper_ (inr x) = (y.0, (z.0, z.1, claims_commute z.0 c y.0 y.1), y.2)
          where
            c : Claim
            c = hole_claim G G.filling

            t : (u : Claim) × ClaimSum (claim run) balance.1.0 u × ClaimSum u c given
            t = reorder (claim run) c balance.1.0 balance.0 given balance.1.2 balance.2

            p : (u : Claim) × ClaimSum c more u × ClaimSum t.0 u later
            p = claims_pair t.0 c more given later t.2 sum

            r : (u : Claim) × ClaimSum t.0 more u × ClaimSum u c later
            r = reorder t.0 c more p.0 later p.1 p.2

            z : Balances r.0 new (fill log n e b aside)
            z = on x.1 t.0 r.0 (balance.1.0, balance.1.1, t.1) r.1

            y : (u : Claim) × ClaimSum z.0 c u × ClaimSum (claim new) u later
            y = claims_pair (claim new) z.0 c r.0 later z.2 r.2

-- ---- logs

pub fill_count : (log : List Entry) (n : ℕ) (e : End) (b : Bool) (w : Owned) → hole_count (fill log n e b w) ≡ hole_count log
fill_count [] n e b w = refl
fill_count (number v ∷ log) n e b w = fill_count log n e b w
fill_count (hole G ∷ log) n e b w = by (hole_count log == n) (fill_count log n e b w)
  where
    by : (same : Bool) → hole_count (fill log n e b w) ≡ hole_count log → hole_count (if same then hole (filled_hole G e b w) ∷ log else hole G ∷ fill log n e b w) ≡ suc (hole_count log)
    by true on = refl
    by false on = ap suc on

pub fill_paid : (log : List Entry) (n : ℕ) (H : Hole) (e : End) (b : Bool) (w : Owned) → HoleAt log n H → H.filling ≡ empty
    → paid (fill log n e b w) ≡ paid log + paid_by (filled e b)
fill_paid [] n H e b w at none = absurd at
fill_paid (number v ∷ log) n H e b w at none = fill_paid log n H e b w at none
fill_paid (hole G ∷ log) n H e b w at none = by (hole_count log == n) refl (λ k. fill_paid log n H e b w k none)
  where
    by : (same : Bool) → (hole_count log == n) ≡ same → (HoleAt log n H → paid (fill log n e b w) ≡ paid log + paid_by (filled e b))
        → paid (if same then hole (filled_hole G e b w) ∷ log else hole G ∷ fill log n e b w) ≡ (paid log + paid_by G.filling) + paid_by (filled e b)
    by true is on = here_ at
      where
        here_ : ((n ≡ hole_count log) × (G ≡ H)) ⊎ ((n < hole_count log) × HoleAt log n H)
            → paid log + paid_by (filled e b) ≡ (paid log + paid_by G.filling) + paid_by (filled e b)
        here_ (inr x) = let f = x.0 in let g = eqb-true (hole_count log) n is in absurd (omega (arith, f, g))
        here_ (inl x) = let f : paid_by G.filling ≡ 0 = ap paid_by (ap (λ K. K.filling) x.1 ∙ none) in omega (arith, f)
    by false is on = deeper_ at
      where
        deeper_ : ((n ≡ hole_count log) × (G ≡ H)) ⊎ ((n < hole_count log) × HoleAt log n H)
            → paid (fill log n e b w) + paid_by G.filling ≡ (paid log + paid_by G.filling) + paid_by (filled e b)
        deeper_ (inl x) = absurd (eqb-false (hole_count log) n is (sym x.0))
        deeper_ (inr x) = let f = on x.1 in omega (arith, f)

module _ (program : Program) (page limit : ℕ) (input : List ℤ) (image : List ℕ) (first : Piece) (facts : KnownFacts program page limit input first)
    (p : Piece) (reached : Reached program page input first p) where
  -- the words that came back, with the value in the destination
  returned : (G : Hole) (d own : ℕ) (x : Destination) (j : Bool) (r : Answer) (e end_ : End) (held : Stack) (w : Owned) → HasNote p.log (child d own x j G.request.ask r)
      → AreFrames program page G.request.ask.call.calls G.request.spot.frames
      → G.target ≡ target_address program page G.request.ask.call.calls G.request.spot.frames x
      → ((G.target ≡ 0 → ⊥) → MayWrite (claim w) G.target) → ShowsEnd e end_ → Fork program page input (begun G.request.ask) end_ held → GivesWords program page input image G.request end_ held w
      → (b : Bool) → Returned program page (filled_hole G e b w) x end_ held
  returned G d own x j r e (Trapped out k n) held w has frames target whole shows fork gives b = tt
  returned G d own x j r e Spent held w has frames target whole shows fork gives b = tt
  returned G d own x j r (Trapped more k n) (Done out u m) held w has frames target whole shows fork gives b = absurd shows
  returned G d own x j r Spent (Done out u m) held w has frames target whole shows fork gives b = absurd shows
  returned G d own None j r (Done more v n) (Done out u m) held w has frames target whole shows fork gives b =
      subst (λ k. Holds program page G.request.ask.call.calls G.request.spot.frames held (seen k)) (sym (kept v)) gives
    where
      kept : (v : Option ℤ) → delivered G.target (Done more v n) w ≡ w
      kept None = refl
      kept (Some v) = let t : (G.target == 0) ≡ true = eq-eqb G.target 0 target in rw t refl
  returned G d own (Some y) j r (Done more v n) (Done out u m) held w has frames target whole shows fork gives b =
      by (facts.gives p d own y j G.request.ask r out u m held reached has fork)
    where
      by : (z : ℤ) × (u ≡ Some z) × FitsSigned w32 z → Returned program page (filled_hole G (Done more v n) b w) (Some y) (Done out u m) held
      by g = subst (λ k. Holds program page G.request.ask.call.calls G.request.spot.frames (settle (Some y) k held) (seen (delivered G.target (Done more v n) w))) (sym g.1)
          (subst (λ k. Holds program page G.request.ask.call.calls G.request.spot.frames (settle (Some y) (Some g.0) held) (seen (delivered G.target (Done more k n) w))) (sym (value shows.2))
          (subst (Holds program page G.request.ask.call.calls G.request.spot.frames (settle (Some y) (Some g.0) held)) (sym written)
          (facts.settled p d own y j G.request.ask r out g.0 m held G.request.spot.frames (seen w) reached has
          (subst (λ k. Fork program page input (begun G.request.ask) (Done out k m) held) g.1 fork) frames gives)))
        where
          value : (u ≡ None) ⊎ (u ≡ v) → v ≡ Some g.0
          value (inl n) = absurd (none_some (sym n ∙ g.1))
            where
              none_some : ◌≡◌ {A = Option ℤ} None (Some g.0) → ⊥
              none_some e = cc
          value (inr s) = sym s ∙ g.1

          hollow : G.target ≡ 0 → ⊥
          hollow t = facts.address p d own y j G.request.ask r G.request.spot.frames reached has frames (sym target ∙ t)

          there : (G.target == 0) ≡ false
          there = ne_eqb G.target 0 hollow

          written : seen (delivered G.target (Done more (Some g.0) n) w)
              ≡ with_word (seen w) (target_address program page G.request.ask.call.calls G.request.spot.frames (Some y)) (bits g.0)
          written = rw there (put_seen w G.target (bits g.0) (whole hollow) ∙ ap (λ k. with_word (seen w) k (bits g.0)) target)

  -- what a filled log shows
  pub record Heard (e : End) (log : List Entry) (notes : List Note) (filled_log : List Entry) : Type 0 where
    pub later : List Note
    pub hears : Hears program page input notes later
    pub shows : ShowsLog program page filled_log later
    pub placed : (scopes : List Scope) (calls : List ℕ) (frames : List Frame) → Placed program page scopes calls frames log notes
        → Placed program page scopes calls frames filled_log later
    pub unjoined : (d : ℕ) → HasUnjoined d notes → HasUnjoined d later
    pub fallen : IsNotDone e → Fallen later

  falls : (e end_ : End) (held : Stack) (d own : ℕ) (x : Destination) (q : Ask) (notes : List Note) → ShowsEnd e end_ → IsNotDone e
      → Fallen (child d own x false q (told end_ held) ∷ notes)
  falls (Trapped out k n) (Trapped more l m) held d own x q notes shows not = pieces.Fallen.by_trap
  falls Spent Spent held d own x q notes shows not = pieces.Fallen.by_spent
  falls (Done out v n) end_ held d own x q notes shows not = absurd not
  falls (Trapped out k n) (Done more v m) held d own x q notes shows not = absurd shows
  falls (Trapped out k n) Spent held d own x q notes shows not = absurd shows
  falls Spent (Done more v m) held d own x q notes shows not = absurd shows
  falls Spent (Trapped more k m) held d own x q notes shows not = absurd shows

  past_number : (d : ℕ) (u : ℤ) (notes later : List Note) → (HasUnjoined d notes → HasUnjoined d later) → HasUnjoined d (printed u ∷ notes) → HasUnjoined d (printed u ∷ later)
  past_number d u notes later on (o, x, q, r, pieces.HasNote.deeper h) =
      let y = on (o, x, q, r, h) in (y.0, y.1, y.2, y.3, pieces.HasNote.deeper y.4)

  past_child : (d b own : ℕ) (z : Destination) (j : Bool) (a : Ask) (s : Answer) (notes later : List Note) → (HasUnjoined d notes → HasUnjoined d later)
      → HasUnjoined d (child b own z j a s ∷ notes) → HasUnjoined d (child b own z j a s ∷ later)
  past_child d b own z j a s notes later on (o, x, q, r, pieces.HasNote.deeper h) =
      let y = on (o, x, q, r, h) in (y.0, y.1, y.2, y.3, pieces.HasNote.deeper y.4)
  past_child d b own z j a s notes later on (o, x, q, r, pieces.HasNote.here) = (own, z, a, s, pieces.HasNote.here)

  past_told : (d b own : ℕ) (z : Destination) (j : Bool) (a : Ask) (s t : Answer) (notes : List Note)
      → HasUnjoined d (child b own z j a s ∷ notes) → HasUnjoined d (child b own z j a t ∷ notes)
  past_told d b own z j a s t notes (o, x, q, r, pieces.HasNote.deeper h) = (o, x, q, r, pieces.HasNote.deeper h)
  past_told d b own z j a s t notes (o, x, q, r, pieces.HasNote.here) = (own, z, a, t, pieces.HasNote.here)

  at_hole : (log : List Entry) (notes : List Note) (G : Hole) (d own : ℕ) (x : Destination) (j : Bool) (q : Ask) (r : Answer) (e : End) (b : Bool) (w : Owned)
      → ((m : Note) → HasNote (child d own x j q r ∷ notes) m → HasNote p.log m) → ShowsChild program page G own x j q r → ShowsLog program page log notes → G.filling ≡ empty
      → ((G.target ≡ 0 → ⊥) → MayWrite (claim w) G.target) → Answered program page input image G.request e w → Heard e (hole G ∷ log) (child d own x j q r ∷ notes) (hole (filled_hole G e b w) ∷ log)
  at_hole log notes G d own x j q r e b w among child_ shows none whole answer = by j r among child_ (subst (λ f. ShowsFilling f j r) none child_.filling)
    where
      by : (j : Bool) (r : Answer) → ((m : Note) → HasNote (child d own x j q r ∷ notes) m → HasNote p.log m) → ShowsChild program page G own x j q r
          → ShowsFilling empty j r → Heard e (hole G ∷ log) (child d own x j q r ∷ notes) (hole (filled_hole G e b w) ∷ log)
      by true r among child_ f = absurd f
      by false (told i v) among child_ f = absurd f
      by false awaited among child_ f = record {
        later = child d own x false q (told answer.end_ answer.held) ∷ notes;
        hears = pieces.Hears.this (subst (λ k. Fork program page input (begun k) answer.end_ answer.held) child_.ask answer.allowed);
        shows = (
          record {
            used = child_.used;
            ask = child_.ask;
            target = child_.target;
            frames = child_.frames;
            whole = child_.whole;
            filling = answer.shows;
          },
          shows,
        );
        placed = λ scopes calls frames k. (
          record {
            belongs = k.0.belongs;
            lies = k.0.lies;
            deep = k.0.deep;
            back = returned G d own x false awaited e answer.end_ answer.held w
                (subst (λ a. HasNote p.log (child d own x false a awaited)) (sym child_.ask) (among _ pieces.HasNote.here))
                child_.frames child_.target whole answer.shows answer.allowed answer.words b;
          },
          k.1,
        );
        unjoined = λ c k. past_told c d own x false q awaited (told answer.end_ answer.held) notes k;
        fallen = falls e answer.end_ answer.held d own x q notes answer.shows;
      }

  pub heard : (log : List Entry) (notes : List Note) (n : ℕ) (H : Hole) (e : End) (b : Bool) (w : Owned) → ((m : Note) → HasNote notes m → HasNote p.log m)
      → ShowsLog program page log notes → HoleAt log n H → H.filling ≡ empty → ((H.target ≡ 0 → ⊥) → MayWrite (claim w) H.target)
      → Answered program page input image H.request e w
      → Heard e log notes (fill log n e b w)
  heard [] notes n H e b w among shows at none whole answer = absurd at
  heard (number v ∷ log) [] n H e b w among shows at none whole answer = absurd shows
  heard (number v ∷ log) (child d own x j q r ∷ notes) n H e b w among shows at none whole answer = absurd shows
  heard (hole G ∷ log) [] n H e b w among shows at none whole answer = absurd shows
  heard (hole G ∷ log) (printed u ∷ notes) n H e b w among shows at none whole answer = absurd shows
  heard (number v ∷ log) (printed u ∷ notes) n H e b w among shows at none whole answer =
      let x = heard log notes n H e b w (λ m h. among m (pieces.HasNote.deeper h)) shows.1 at none whole answer in record {
        later = printed u ∷ x.later;
        hears = pieces.Hears.deeper x.hears;
        shows = (shows.0, x.shows);
        placed = λ scopes calls frames k. x.placed scopes calls frames k;
        unjoined = λ d k. past_number d u notes x.later (x.unjoined d) k;
        fallen = λ k. pieces.Fallen.later (x.fallen k);
      }
  heard (hole G ∷ log) (child d own x j q r ∷ notes) n H e b w among shows at none whole answer =
      by (hole_count log == n) refl (λ k. heard log notes n H e b w (λ m h. among m (pieces.HasNote.deeper h)) shows.1 k none whole answer)
    where
      by : (same : Bool) → (hole_count log == n) ≡ same → (HoleAt log n H → Heard e log notes (fill log n e b w))
          → Heard e (hole G ∷ log) (child d own x j q r ∷ notes) (if same then hole (filled_hole G e b w) ∷ log else hole G ∷ fill log n e b w)
      by true is on = here_ at
        where
          here_ : ((n ≡ hole_count log) × (G ≡ H)) ⊎ ((n < hole_count log) × HoleAt log n H)
              → Heard e (hole G ∷ log) (child d own x j q r ∷ notes) (hole (filled_hole G e b w) ∷ log)
          here_ (inr y) = let f = y.0 in let g = eqb-true (hole_count log) n is in absurd (omega (arith, f, g))
          here_ (inl y) = at_hole log notes G d own x j q r e b w among shows.0 shows.1 (ap (λ K. K.filling) y.1 ∙ none)
              (subst (λ K. (K.target ≡ 0 → ⊥) → MayWrite (claim w) K.target) (sym y.1) whole)
              (subst (λ K. Answered program page input image K.request e w) (sym y.1) answer)
      by false is on = deeper_ at
        where
          deeper_ : ((n ≡ hole_count log) × (G ≡ H)) ⊎ ((n < hole_count log) × HoleAt log n H)
              → Heard e (hole G ∷ log) (child d own x j q r ∷ notes) (hole G ∷ fill log n e b w)
          deeper_ (inl y) = absurd (eqb-false (hole_count log) n is (sym y.0))
          deeper_ (inr y) =
              let z = on y.1 in record {
                later = child d own x j q r ∷ z.later;
                hears = pieces.Hears.deeper z.hears;
                shows = (shows.0, z.shows);
                placed = λ scopes calls frames k. (subst (λ c. UnjoinedIn program page j scopes calls frames c d G x r) (sym (fill_count log n e b w)) k.0, z.placed scopes calls frames k.1);
                unjoined = λ c k. past_child c d own x j q r notes z.later (z.unjoined c) k;
                fallen = λ k. pieces.Fallen.later (z.fallen k);
              }
