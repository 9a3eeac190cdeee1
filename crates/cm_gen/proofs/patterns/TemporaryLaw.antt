-- The temporaries of the running function: what a store into one leaves, and a load from one.
use Rattle.cm_gen.proofs.patterns.StandingLaw.{IsCodeAt}
use Rattle.std.proofs.Common.{◌≡◌, ℕ, ◌*◌, ◌^◌, ◌<◌, ◌≤◌, List, ◌∷◌, length, refl, sym, ap, ◌∙◌, subst, arith, inr}
use Rattle.std.specs.Prelude.{false, ◌==◌, ℤ}
use Rattle.cm_isa.specs.Alu.{offset}
use Rattle.cm_isa.specs.Machine.{Machine, Code}
use Rattle.cm_gen.specs.Returns.{GoesTo}
use Rattle.cm_isa.specs.declared.convention.TheConstants as reg
use Rattle.cm_syntax.specs.declared.stmt.Slot.{Slot}
use Rattle.cm_syntax.specs.declared.stmt.Program.{Program}
use Rattle.cm_syntax.specs.Stack.{Stack}
use Rattle.cm_syntax.specs.Rest.{Item, Control}
use Rattle.cm_meaning.specs.Activation.{end_count}
use Rattle.cm_gen.specs.declared.form.Form.{Form}
use Rattle.cm_gen.specs.Code.{load_slot, store_slot}
use Rattle.cm_gen.specs.Expression.{temporary_offset}
use Rattle.cm_gen.specs.Standing.{Frame, used, slots_here}
use Rattle.cm_gen.specs.FrameWord.{temporary_number, IsOwnNumber, pointer_of, word_address, AreFrames, Holds, HasTemporary, Kept, HasOwn}
use Rattle.cm_gen.specs.Formed.{HasRoom, RestFits}
use Rattle.cm_gen.specs.StandsFor.{Spot, ExactAt}
use Rattle.cm_gen.proofs.frames.MappedWordLaw.{with_word_same, own_reads}
use Rattle.cm_gen.proofs.patterns.PatternLaw.{load_slot_runs, store_slot_runs}
use Rattle.cm_gen.proofs.patterns.LeavesLaw.{Sets, Puts}
use Rattle.cm_gen.proofs.frames.FrameWordLaw.{slots_top, temporary_word, temporary_at_offset, temporary_mapped, holds_own, own_put, kept_temporary}
use Rattle.cm_gen.proofs.patterns.BaseLaw.{IsAtBase, at_base}

module _ (program : Program) (page : ℕ) where
  -- what the code within a function needs of its machine
  pub record IsAtFrame (calls : List ℕ) (frames : List Frame) (ends : ℕ) (h : Stack) (m : Machine) : Type 0 where
    pub base : IsAtBase program page calls frames h m
    pub own : HasOwn program page ends calls frames m.words

  -- the address of a temporary of the running function
  abbrev pub temporary_address : (f : ℕ) → (calls : List ℕ) → List Frame → (j : ℕ) → ℕ
  temporary_address f calls frames j = word_address frames (length calls) (temporary_number (slots_here program (f ∷ calls)) j)

  -- The machine t is behind a store into temporary j: it has the word, and the frames are as they were.
  pub record Keeps (f : ℕ) (calls : List ℕ) (frames : List Frame) (ends : ℕ) (h : Stack) (j v bytes : ℕ) (m t : Machine) : Type 0 where
    pub at : IsAtFrame (f ∷ calls) frames ends h t
    pub leaves : Puts (temporary_address f calls frames j) v bytes m t
    pub there : HasTemporary program page (f ∷ calls) frames t.words j v

  own_number : (slots : List Slot) (j : ℕ) → IsOwnNumber slots (temporary_number slots j)
  own_number slots j = inr (omega arith)

  module _ (code : Code) (f : ℕ) (calls : List ℕ) (frames : List Frame) where
    -- a register goes into a temporary
    pub keep_runs : (ends : ℕ) (h : Stack) (j count r : ℕ) (m : Machine) → IsAtFrame (f ∷ calls) frames ends h m → 0 < ends → HasRoom program page (f ∷ calls) count → j < count → (r == reg.HELP) ≡ false
        → IsCodeAt code m.counter (store_slot r (temporary_offset (slots_here program (f ∷ calls)) j))
        → let size = length (store_slot r (temporary_offset (slots_here program (f ∷ calls)) j)) in
        (t : Machine) × GoesTo code size m t × Keeps f calls frames ends h j (m.registers r) (4 * size) m t
    keep_runs ends h j count r m x some room less other here =
        let o = temporary_offset (slots_here program (f ∷ calls)) j in
        let off = temporary_at_offset program page f calls frames j count x.base.shape room less in
        let pointer = x.base.pointer_is in
        let mapped = temporary_mapped program page ends f calls frames m.words j count some room less x.own in
        let below = here.below in
        let ran = store_slot_runs code r o (temporary_address f calls frames j) mapped.0 m other (subst (λ p. p < 2 ^ 32) (sym pointer) off.fits) (ap (λ p. offset p o) pointer ∙ off.address) off.aligned mapped.1 (omega (arith, below)) here.there in
        let does = ran.2 in
        let v = m.registers r in
        let a = temporary_address f calls frames j in
        let word = temporary_word program page f calls j count room less in (
          ran.0,
          ran.1,
          record {
            at = record {
              base = record {
                shape = x.base.shape;
                slots = subst (λ w. Holds program page (f ∷ calls) frames h w) (sym does.words)
                    (holds_own program page (f ∷ calls) frames h m.words (length calls) (temporary_number (slots_here program (f ∷ calls)) j) v x.base.shape word
                    (subst (λ l. IsOwnNumber l (temporary_number (slots_here program (f ∷ calls)) j)) (sym (slots_top program page f calls)) (own_number (slots_here program (f ∷ calls)) j)) x.base.slots);
                zero_is = does.kept reg.ZERO refl ∙ x.base.zero_is;
                pointer_is = does.kept reg.FP refl ∙ pointer;
              };
              own = subst (λ w. HasOwn program page ends (f ∷ calls) frames w) (sym does.words) (own_put program page ends (f ∷ calls) frames m.words a v x.own);
            };
            leaves = does;
            there = ap (λ w. w a) does.words ∙ with_word_same m.words a v;
          },
        )

    -- what a rest keeps that doesn't use it lasts
    pub keeps_rest : (k : List Item) (ends : ℕ) (h : Stack) (j count v bytes : ℕ) (m t : Machine) → AreFrames program page (f ∷ calls) frames → RestFits program page k (f ∷ calls) → used k ≤ j → HasRoom program page (f ∷ calls) count → j < count
        → Keeps f calls frames ends h j v bytes m t → Kept program page k (f ∷ calls) frames h m.words → Kept program page k (f ∷ calls) frames h t.words
    keeps_rest k ends h j count v bytes m t shape fits least room less does keeps =
        subst (λ w. Kept program page k (f ∷ calls) frames h w) (sym does.leaves.words) (kept_temporary program page k f calls frames h m.words j count v fits shape least room less keeps)

    -- a register takes a temporary's word
    pub temporary_runs : (j count r v : ℕ) (m : Machine) → AreFrames program page (f ∷ calls) frames → m.registers reg.FP ≡ pointer_of frames → HasRoom program page (f ∷ calls) count → j < count → (r == reg.ZERO) ≡ false → (reg.FP == r) ≡ false
        → HasTemporary program page (f ∷ calls) frames m.words j v → IsCodeAt code m.counter (load_slot r (temporary_offset (slots_here program (f ∷ calls)) j))
        → let size = length (load_slot r (temporary_offset (slots_here program (f ∷ calls)) j)) in
        (t : Machine) × GoesTo code size m t × Sets r v (4 * size) m t
    temporary_runs j count r v m shape pointer room less nonzero other there here =
        let o = temporary_offset (slots_here program (f ∷ calls)) j in
        let off = temporary_at_offset program page f calls frames j count shape room less in
        let below = here.below in
        load_slot_runs code r o (temporary_address f calls frames j) v m nonzero other (subst (λ p. p < 2 ^ 32) (sym pointer) off.fits) (ap (λ p. offset p o) pointer ∙ off.address) off.aligned (own_reads _ v there) (omega (arith, below)) here.there

-- what a machine that stands for a state has for the code within its function
pub at_frame : (program : Program) (form : Form) (page : ℕ) (input : List ℤ) (code : Code) (spot : Spot) (left : ℕ) (c : Control) (h : Stack) (m : Machine) → ExactAt program form page input code spot left c h m
    → IsAtFrame program page c.calls spot.frames (end_count c.rest) h m
at_frame program form page input code spot left c h m x = record { base = at_base program form page input code spot left c h m x; own = x.own }
