-- The strand in the code and the one on paper.
use Rattle.std.proofs.Common.{◌≡◌, ℕ, ◌+◌, ◌-◌, ◌<◌, Bool, true, false, List, [], ◌∷◌, ◌++◌, length, Option, None, Some, refl, sym, ap, ◌∙◌, arith, slice_index}
use Rattle.std.proofs.lemmas.Bool.{eqb-true}
use Rattle.std.specs.Prelude.{◌==◌, if◌then◌else◌, min}
use Rattle.cm_meaning.specs.End.{End, Done, Trapped, Spent}
use Rattle.cm_meaning.specs.Piece.{IsDone}
use Rattle.cm_meaning.specs.Output.{Number}
use Rattle.cm_strand.specs.Owned.{Owned}
use Rattle.cm_strand.specs.Strand.{done_ticks}
use Rattle.cm_isa.specs.Register.{with_result, with_register, put, IsRegisters}
use Rattle.cm_isa.specs.Action.{follow}
use Rattle.cm_isa.proofs.Machine.{put_result_register}
use Rattle.cm_isa.specs.declared.convention.TheConstants as reg
use Rattle.cm_hart.specs.Step.{replied_hart}
use Rattle.cm_hart.specs.declared.hart.Hart.{Hart}
use Rattle.cm_strand.specs.Strand as paper
use Rattle.cm_strand.specs.Turn as turn
use Rattle.cm_strand.proofs.FillLaw.{fill_count}
use Rattle.cm_strand.specs.Seen.{IsStrand, end_filling, holes_of, hole_of, output_of, entry_of, largest}
use Rattle.cm_strand.specs.declared.strand.Strand as code_strand

-- a reply
pub replied : (s : code_strand.Strand) (S : paper.Strand) (word : Option ℕ) (new : Hart) → IsStrand s S → IsRegisters s.hart.regs → new ≡ replied_hart s.hart word
    → IsStrand (record s { hart = new }) (turn.reply S word)
replied s S word new h shape is = let within : reg.VALUE < length s.hart.regs = let c = shape.count in omega (arith, c) in record {
  registers = ap (λ f. with_result f reg.VALUE word) h.registers ∙ sym (put_result_register s.hart.regs reg.VALUE word within) ∙ sym (ap (λ (k : Hart). slice_index k.regs) is);
  counter = ap follow h.counter ∙ sym (ap (λ (k : Hart). k.pc) is);
  start = h.start;
  log = h.log;
  scopes = h.scopes;
  course = h.course;
}

-- a register takes a word
pub with_put : (rs : List ℕ) (rd word : ℕ) → IsRegisters rs → rd < 32 → with_register (slice_index rs) rd word ≡ slice_index (put rs rd word)
with_put rs rd word shape within = let c = shape.count in sym (put_result_register rs rd (Some word) (omega (arith, c, within)))

-- ---- a popped end that isn't by a value

same_filling : (e : End) (b : Bool) → (IsDone e → ⊥) → end_filling e b ≡ end_filling e false
same_filling (Done out v n) b h = absurd (h tt)
same_filling (Trapped out k n) b h = refl
same_filling Spent b h = refl

no_ticks : (e : End) → (IsDone e → ⊥) → done_ticks e ≡ 0
no_ticks (Done out v n) h = absurd (h tt)
no_ticks (Trapped out k n) h = refl
no_ticks Spent h = refl

falls : (e : End) → (IsDone e → ⊥) → turn.course_behind e ≡ paper.ending None
falls (Done out v n) h = absurd (h tt)
falls (Trapped out k n) h = refl
falls Spent h = refl

-- a register takes the word that it has
same_word : (f : ℕ → ℕ) (rd n : ℕ) → n ≡ 0 → with_register f rd (f rd - n) ≡ f
same_word f rd n none = λ i r. at r i
  where
    by : (r : ℕ) (test : Bool) → (r == rd) ≡ test → (if test then f rd - n else f r) ≡ f r
    by r true is = let same = eqb-true r rd is in let minus : f rd - n ≡ f rd = omega (arith, none) in minus ∙ ap f (sym same)
    by r false is = refl

    at : (r : ℕ) → with_register f rd (f rd - n) r ≡ f r
    at r = elim (rd == 0) as (λ z. (if z then f r else (if r == rd then f rd - n else f r)) ≡ f r) [ true ↦ refl | false ↦ by r (r == rd) refl ]

same_holes : (log : List paper.Entry) (n : ℕ) (e : End) (w : Owned) → (IsDone e → ⊥) → holes_of (turn.fill log n e false w) ≡ holes_of (turn.fill log n e true w)
same_holes [] n e w h = refl
same_holes (paper.number v ∷ log) n e w h = same_holes log n e w h
same_holes (paper.hole G ∷ log) n e w h =
    elim (paper.hole_count log == n) as (λ t. holes_of (if t then paper.hole (turn.filled_hole G e false w) ∷ log else paper.hole G ∷ turn.fill log n e false w)
    ≡ holes_of (if t then paper.hole (turn.filled_hole G e true w) ∷ log else paper.hole G ∷ turn.fill log n e true w)) [
      | true ↦ ap (λ f. holes_of log ++ record { used = G.used; target = G.target; filling = f } ∷ []) (sym (same_filling e true h))
      | false ↦ ap (λ l. l ++ hole_of G ∷ []) (same_holes log n e w h)
    ]

same_output : (log : List paper.Entry) (n : ℕ) (e : End) (w : Owned) → output_of (turn.fill log n e false w) ≡ output_of (turn.fill log n e true w)
same_output [] n e w = refl
same_output (paper.number v ∷ log) n e w = ap (λ l. l ++ Number v ∷ []) (same_output log n e w)
same_output (paper.hole G ∷ log) n e w =
    elim (paper.hole_count log == n) as (λ t. output_of (if t then paper.hole (turn.filled_hole G e false w) ∷ log else paper.hole G ∷ turn.fill log n e false w)
    ≡ output_of (if t then paper.hole (turn.filled_hole G e true w) ∷ log else paper.hole G ∷ turn.fill log n e true w)) [
      | true ↦ refl
      | false ↦ ap (λ l. l ++ entry_of G.filling ∷ []) (same_output log n e w)
    ]

same_paid : (log : List paper.Entry) (n : ℕ) (e : End) (w : Owned) → (IsDone e → ⊥) → paper.paid (turn.fill log n e false w) ≡ paper.paid (turn.fill log n e true w)
same_paid [] n e w h = refl
same_paid (paper.number v ∷ log) n e w h = same_paid log n e w h
same_paid (paper.hole G ∷ log) n e w h =
    elim (paper.hole_count log == n) as (λ t. paper.paid (if t then paper.hole (turn.filled_hole G e false w) ∷ log else paper.hole G ∷ turn.fill log n e false w)
    ≡ paper.paid (if t then paper.hole (turn.filled_hole G e true w) ∷ log else paper.hole G ∷ turn.fill log n e true w)) [
      | true ↦ ap (λ t. paper.paid log + t) (sym (no_ticks e h))
      | false ↦ ap (λ t. t + paper.paid_by G.filling) (same_paid log n e w h)
    ]

-- collected, and then on its way to its end: that is the popped one
pub fallen_pop : (s : code_strand.Strand) (S : paper.Strand) (n : ℕ) (e : End) (aside words : Owned) → (IsDone e → ⊥)
    → IsStrand s (turn.fail (turn.collect S n e aside words) None) → IsStrand s (turn.pop S n e aside words)
fallen_pop s S n e aside words h x = record {
  registers = same_word S.registers reg.TICKS (done_ticks e) (no_ticks e h) ∙ x.registers;
  counter = x.counter;
  start = x.start;
  log = record {
    output = x.log.output ∙ same_output S.log n e aside;
    holes = x.log.holes ∙ same_holes S.log n e aside h;
    paid = x.log.paid ∙ ap (λ t. min t largest) (same_paid S.log n e aside h);
    few = let one = fill_count S.log n e false aside in let two = fill_count S.log n e true aside in let few = x.log.few in omega (arith, one, two, few);
  };
  scopes = x.scopes;
  course = falls e h ∙ x.course;
}
