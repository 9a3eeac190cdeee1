-- The destination of a child: a scalar of the frame that spawned it, which was lent whole. Its value is put at its address.
use Rattle.std.proofs.Common.{◌≡◌, ℕ, suc, ◌+◌, ◌^◌, ◌<◌, List, [], ◌∷◌, ◌++◌, length, Some, refl, sym, ap, ◌∙◌, subst, arith, inl}
use Rattle.std.specs.Prelude.{Bool, true, false, ◌==◌, ◌&&◌, if◌then◌else◌, ℤ, slice_get}
use Rattle.cm_isa.specs.Machine.{Mapped, with_word}
use Rattle.cm_syntax.specs.declared.stmt.Slot.TheVariants as slot
use Rattle.cm_syntax.specs.declared.stmt.Program.{Program}
use Rattle.cm_syntax.specs.Cell.{present, may_write, settle_cell}
use Rattle.cm_syntax.specs.Stack.{Stack, Scalar, settle, write_word}
use Rattle.cm_syntax.specs.Rest.{Item, deliver, Hand, idle, holds, returned, entering, framing}
use Rattle.cm_syntax.specs.Step.{slots_in, scalar_slice}
use Rattle.cm_syntax.proofs.CellLaw.{settle_writable}
use Rattle.cm_meaning.specs.End.{Done}
use Rattle.cm_meaning.specs.Meaning.{Ask, Fork, begun}
use Rattle.cm_meaning.specs.TypedState.{AtHand, back, at_hand, slots_at, row_words, Outer, Running, Ready, TypedState}
use Rattle.cm_meaning.proofs.BesideLaw.{one_place}
use Rattle.cm_meaning.proofs.TypedFramesLaw.{cons_empty, slots_last}
use Rattle.cm_gen.specs.Standing.{Frame}
use Rattle.cm_gen.specs.FrameWord.{IsPlace, bits, word_address, word_number, AreFrames, taken, Holds, reference_address}
use Rattle.cm_gen.specs.Formed.{Runs, Within, alone, before, within}
use Rattle.cm_gen.specs.Spawn.{ComesFromSpawn, IsLentScalar}
use Rattle.cm_gen.proofs.frames.CellLaw.{own_place, holds_word}
use Rattle.cm_gen.proofs.frames.FrameWordLaw.{low_end, above_low, may_stand_above, place_word}
use Rattle.cm_gen.proofs.pieces.SpawnLaw.{child_ends}

-- the scalar of the last frame
record IsLast (program : Program) (calls : List ℕ) (x : Scalar) : Type 0 where
  depth_is : suc x.depth ≡ length calls
  kind : slice_get (slots_at program calls x.depth) x.slot ≡ Some slot.Scalar

-- a value that is put into a word of which the whole is held
settle_writes : (w : Stack) (x : Scalar) (u : ℤ) → may_write (w.words x.depth x.slot 0) ≡ true → settle (Some x) (Some u) w ≡ write_word w x.depth x.slot 0 u
settle_writes w x u m = λ k. record { words = λ d s i. cell d s i (d == x.depth && (s == x.slot && i == 0)) refl k; references = w.references }
  where
    cell : (d s i : ℕ) (q : Bool) → (d == x.depth && (s == x.slot && i == 0)) ≡ q → (if q then settle_cell (w.words d s i) u else w.words d s i) ≡ (if q then present u else w.words d s i)
    cell d s i false e = refl
    cell d s i true e =
        let p = one_place d x.depth s x.slot i 0 e in
        settle_writable (w.words d s i) u ((λ k. may_write (w.words (p.0 k) (p.1 k) (p.2 k))) ∙ m)

module _ (program : Program) (page limit : ℕ) (input : List ℤ) (runs : Runs program page limit input) where
  -- where a value is delivered first, it goes to a scalar of the running function
  outer_delivers : (whole : Stack) (gives : Bool) (calls : List ℕ) (a : AtHand) (x : Scalar) (k : List Item) → Outer program whole gives calls a (deliver (Some x) ∷ k) → IsLast program calls x
  outer_delivers whole gives [] a x k t = absurd (cons_empty (deliver (Some x)) k t.1)
  outer_delivers whole gives (f ∷ calls) a x k t =
      let to = t.4.1 in
      record {
        depth_is = ap suc to.0;
        kind = subst (λ d. slice_get (slots_at program (f ∷ calls) d) x.slot ≡ Some slot.Scalar) (sym to.0) (ap (λ slots. slice_get slots x.slot) (slots_last program f calls ∙ ap slots_in t.1) ∙ to.1);
      }

  running_delivers : (whole : Stack) (gives : Bool) (calls : List ℕ) (a : AtHand) (x : Scalar) (k : List Item) → Running program whole gives calls a (deliver (Some x) ∷ k) → IsLast program calls x
  running_delivers whole gives [] a x k t = outer_delivers whole gives [] a x k t
  running_delivers whole gives (f ∷ calls) a x k t = outer_delivers whole gives (f ∷ calls) a x k t

  ready_delivers : (whole : Stack) (gives : Bool) (calls : List ℕ) (z : Hand) (x : Scalar) (k : List Item) → Ready program whole gives calls z (deliver (Some x) ∷ k) → IsLast program calls x
  ready_delivers whole gives calls (entering f ws) x k t = outer_delivers whole gives calls (back t.0.gives) x k t.4
  ready_delivers whole gives calls (framing f ws) x k t = outer_delivers whole gives calls (back t.0.gives) x k t.4
  ready_delivers whole gives calls idle x k t = running_delivers whole gives calls (at_hand idle) x k t
  ready_delivers whole gives calls (holds v) x k t = running_delivers whole gives calls (at_hand (holds v)) x k t
  ready_delivers whole gives calls (returned v) x k t = running_delivers whole gives calls (at_hand (returned v)) x k t

  within_delivers : (whole : Stack) (gives : Bool) (context : Within) (calls : List ℕ) (account : ℕ) (z : Hand) (rest k : List Item) (x : Scalar) → rest ≡ []
      → TypedState program gives (within context (record { calls = calls; account = account; hand = z; rest = rest ++ (deliver (Some x) ∷ k) })) whole → IsLast program calls x
  within_delivers whole gives alone calls account z rest k x e t = ready_delivers whole gives calls z x k (subst (λ r. Ready program whole gives calls z (r ++ (deliver (Some x) ∷ k))) e t.rest)
  within_delivers whole gives (before y c) calls account z rest k x e t =
      ready_delivers whole gives calls z x (k ++ (deliver y ∷ c.rest)) (subst (λ r. Ready program whole gives calls z ((r ++ (deliver (Some x) ∷ k)) ++ (deliver y ∷ c.rest))) e t.rest)

  less_one : (a b n : ℕ) → suc a ≡ n → suc b ≡ n → a ≡ b
  less_one a b n e f = omega (arith, e, f)

  pub lent_scalar : {d : ℕ} {x : Scalar} {ask : Ask} → ComesFromSpawn program page limit input d (Some x) ask → IsLentScalar program d x ask
  lent_scalar {d = d} {x = x} {ask = ask} s =
      let c = ask.call in
      let l = within_delivers s.whole.whole s.whole.gives s.whole.context c.calls c.account c.hand c.rest s.continuation.rest x s.alone s.whole.typed in
      record { depth_is = less_one x.depth d (length c.calls) l.depth_is s.frame; last = s.frame; scalar = l.kind; lent = s.lends.1 }

  -- ---- its word

  live : {d : ℕ} {x : Scalar} {ask : Ask} → IsLentScalar program d x ask → x.depth < length ask.call.calls
  live i = let a = i.depth_is in let b = i.last in omega (arith, a, b)

  one : {d : ℕ} {x : Scalar} {ask : Ask} → IsLentScalar program d x ask → 0 < row_words (slice_get (slots_at program ask.call.calls x.depth) x.slot)
  one i = subst (λ kind. 0 < row_words kind) (sym i.scalar) (omega arith)

  pub settled_holds : {d : ℕ} {x : Scalar} {ask : Ask} → ComesFromSpawn program page limit input d (Some x) ask → {out : List ℤ} {u : ℤ} {n : ℕ} {w : Stack} (frames : List Frame) (mapped : Mapped)
      → Fork program page input (begun ask) (Done out (Some u) n) w → AreFrames program page ask.call.calls frames → Holds program page ask.call.calls frames w mapped
      → Holds program page ask.call.calls frames (settle (Some x) (Some u) w) (with_word mapped (reference_address program page ask.call.calls frames (scalar_slice x.depth x.slot)) (bits u))
  settled_holds {x = x} {ask = ask} s {u = u} {w = w} frames mapped f shape held =
      let i = lent_scalar s in
      let e = child_ends program page limit input runs s f in
      subst (λ h. Holds program page ask.call.calls frames h (with_word mapped (reference_address program page ask.call.calls frames (scalar_slice x.depth x.slot)) (bits u))) (sym (settle_writes w x u e.lends.1))
      (holds_word program page ask.call.calls frames w mapped x.depth x.slot 0 u shape (live i) (one i) held)

  above_zero : (calls : List ℕ) (frames : List Frame) (d s account : ℕ) → AreFrames program page calls frames → d < length calls → IsPlace (slots_at program calls d) s 0 → account + taken program page calls ≡ limit → limit < 2 ^ 30
      → word_address frames d (word_number (slots_at program calls d) s 0) ≡ 0 → ⊥
  above_zero [] frames d s account shape deep place balance fits e = absurd (omega (arith, deep))
  above_zero (f ∷ calls) [] d s account shape deep place balance fits e = absurd shape
  above_zero (f ∷ calls) (F ∷ frames) d s account shape deep place balance fits e =
      let above = may_stand_above program page (f ∷ calls) (F ∷ frames) (low_end program page (f ∷ calls) (F ∷ frames)) runs.page_is shape (inl refl) in
      let low = above_low program page (f ∷ calls) (F ∷ frames) d shape deep in
      let high = (place_word program page (f ∷ calls) d s 0 deep place).high in
      omega (arith, above, low, high, balance, fits, e)

  pub has_address : {d : ℕ} {x : Scalar} {ask : Ask} → ComesFromSpawn program page limit input d (Some x) ask → (frames : List Frame) → limit < 2 ^ 30 → AreFrames program page ask.call.calls frames
      → reference_address program page ask.call.calls frames (scalar_slice x.depth x.slot) ≡ 0 → ⊥
  has_address {x = x} {ask = ask} s frames fits shape e =
      let i = lent_scalar s in
      above_zero ask.call.calls frames x.depth x.slot ask.call.account shape (live i) (own_place (slots_at program ask.call.calls x.depth) x.slot 0 (one i)) s.child.balance fits e
