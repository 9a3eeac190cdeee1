-- How many pages the frames of a reached piece take, and where their words stand.
use Rattle.std.proofs.Common.{◌≡◌, ℕ, ◌+◌, ◌*◌, ◌<◌, ◌≤◌, ◌^◌, List, [], ◌∷◌, length, Option, ◌∙◌, arith, inl, inr}
use Rattle.std.proofs.lemmas.Bool.Decides.{eqb_tells}
use Rattle.std.proofs.Math.Nat.{add-mul, mul-le-mul_right}
use Rattle.std.specs.Prelude.{ℤ}
use Rattle.cm_maps.specs.Pages.{IsPage}
use Rattle.cm_meaning.specs.End.{Done}
use Rattle.cm_meaning.specs.Meaning.{Piece, Reached, SerialEnd}
use Rattle.cm_meaning.specs.Measure.{frame_bytes, cilk_frames, IsSerialPages, IsCilkDepth}
use Rattle.cm_meaning.proofs.AccountLaw.{piece_bytes}
use Rattle.cm_meaning.proofs.CheckedLaw.{checked_bound, checked_pages}
use Rattle.cm_gen.specs.Standing.{Frame}
use Rattle.cm_gen.specs.FrameWord.{AreFrames, MayStand, words_at, address_at, word_address, taken}
use Rattle.cm_gen.proofs.frames.FrameWordLaw.{at_end, lengths, address_before, may_stand_low, low_end_below, above_low, may_stand_above}
use Rattle.cm_gen.proofs.pieces.PieceLaw.{reached_formed}
use Rattle.cm_strand.specs.Law.{World}
use Rattle.cm_strand.proofs.WorldLaw.{limit_of, first_of}

module _ (w : World) (p : Piece) (frames : List Frame) (low : ℕ) (reached : Reached w.program w.limits.page w.input (first_of w) p)
    (are : AreFrames w.program w.limits.page p.control.calls frames) (may : MayStand w.program w.limits.page p.control.calls frames low) where
  -- what the calls took is what the account lacks: the bytes of their frames, and a page for each that is marked `cilk`
  above : 2 ^ 30 ≤ low + taken w.program w.limits.page p.control.calls
  above = may_stand_above w.program w.limits.page p.control.calls frames low w.runs.page_is are may

  balance : p.control.account + taken w.program w.limits.page p.control.calls ≡ limit_of w
  balance = (reached_formed w.program w.input w.limits w.runs w.accepted p reached).balance

  bytes : frame_bytes w.program p.control.calls + cilk_frames w.program p.control.calls * w.limits.page + p.control.account ≡ limit_of w
  bytes = piece_bytes w.program w.input w.limits p reached

  pub fit_stack : 2 ^ 30 ≤ low + w.limits.stack * w.limits.page
  fit_stack = by (limit_of w) above balance
    where
      by : (limit : ℕ) → 2 ^ 30 ≤ low + taken w.program w.limits.page p.control.calls → p.control.account + taken w.program w.limits.page p.control.calls ≡ limit → 2 ^ 30 ≤ low + limit
      by limit a b = omega (arith, a, b)

  some_page : IsPage w.limits.page → 1 ≤ w.limits.page
  some_page (inl e) = omega (arith, e)
  some_page (inr (inl e)) = omega (arith, e)
  some_page (inr (inr e)) = omega (arith, e)

  pub fit_pages : (out : List ℤ) (v : Option ℤ) (n pages most : ℕ) → SerialEnd w.program w.input w.limits (Done out v n)
      → IsSerialPages w.program w.input w.limits pages → IsCilkDepth w.program w.input w.limits most → 2 ^ 30 ≤ low + (pages + most) * w.limits.page
  fit_pages out v n pages most serial least deep =
      by (cilk_frames w.program p.control.calls * w.limits.page) (pages * w.limits.page) (most * w.limits.page) ((pages + most) * w.limits.page) (limit_of w)
      above balance bytes
      (checked_pages w.program w.input w.limits w.runs.sound w.accepted out v n serial p reached pages (some_page w.runs.page_is) least)
      (mul-le-mul_right w.limits.page (checked_bound w.program w.input w.limits w.runs.sound w.accepted out v n serial p reached (cilk_frames w.program) most deep))
      (add-mul pages most w.limits.page)
    where
      by : (cilk a b both limit : ℕ) → 2 ^ 30 ≤ low + taken w.program w.limits.page p.control.calls
          → p.control.account + taken w.program w.limits.page p.control.calls ≡ limit → frame_bytes w.program p.control.calls + cilk + p.control.account ≡ limit
          → frame_bytes w.program p.control.calls ≤ a → cilk ≤ b → both ≡ a + b → 2 ^ 30 ≤ low + both
      by cilk a b both limit f g h i j k = omega (arith, f, g, h, i, j, k)

-- a frame's address is at most the top of the stack
below_top : (w : World) (calls : List ℕ) (frames : List Frame) (d : ℕ) → AreFrames w.program w.limits.page calls frames → d < length calls → address_at frames d ≤ 2 ^ 30
below_top w [] frames d are deep = absurd (omega (arith, deep))
below_top w (f ∷ calls) [] d are deep = absurd are
below_top w (f ∷ calls) (F ∷ frames) d are deep =
    elim (eqb_tells d (length calls)) [
      | inl here ↦
          let a = at_end d (length frames) F.address (address_at frames d) (here.1 ∙ lengths w.program w.limits.page calls frames are.3) in
          let b = may_stand_low w.program w.limits.page calls frames F.address are.0 in
          let c = low_end_below w.program w.limits.page calls frames are.3 in
          omega (arith, a, b, c)
      | inr other ↦
          let older : d < length calls = omega (arith, deep, other.1) in
          let a = address_before w.program w.limits.page calls F frames d are.3 older in
          let b = below_top w calls frames d are.3 older in
          omega (arith, a, b)
    ]

pub lie_above : (w : World) (calls : List ℕ) (frames : List Frame) (low d n : ℕ) → AreFrames w.program w.limits.page calls frames → MayStand w.program w.limits.page calls frames low
    → d < length calls → 0 < n → n ≤ words_at w.program w.limits.page calls d → (low ≤ word_address frames d n) × (word_address frames d n + 4 ≤ 2 ^ 30)
lie_above w calls frames low d n are may deep some few =
    let a = above_low w.program w.limits.page calls frames d are deep in
    let b = may_stand_low w.program w.limits.page calls frames low may in
    let c = below_top w calls frames d are deep in
    (omega (arith, a, b, few), omega (arith, a, c, some, few))
