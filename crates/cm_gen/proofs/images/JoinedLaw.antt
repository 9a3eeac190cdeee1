-- What is joined to what a state holds: the machine stands for the state that holds it all.
use Rattle.std.proofs.Common.{◌≡◌, ℕ, List, [], ◌∷◌, Option, None, Some, refl, sym, ap, subst}
use Rattle.std.proofs.lemmas.Option.{same_Some}
use Rattle.std.specs.Prelude.{true, false, ℤ}
use Rattle.cm_share.specs.Share.{Share, whole, part}
use Rattle.cm_isa.specs.Machine.{Machine, Mapped, Stored, unmapped, writable, read_only, reads, IsWritable, Code}
use Rattle.cm_syntax.specs.declared.stmt.Program.{Program}
use Rattle.cm_syntax.specs.declared.stmt.Extent.{Extent}
use Rattle.cm_syntax.specs.declared.stmt.Extent.TheVariants as extent
use Rattle.cm_syntax.specs.Extent.{extent_at}
use Rattle.cm_syntax.specs.Cell.{Cell, absent, unset, present, shared, value_in, may_write, with_share, CellSum}
use Rattle.cm_syntax.specs.Stack.{Reference, Stack, StackSum}
use Rattle.cm_syntax.specs.Rest.{Item, apply, arguments, pass, store, end, Control}
use Rattle.cm_syntax.specs.Step.{top}
use Rattle.cm_syntax.proofs.CellLaw.{cell_alone, writable_alone, value_sum, map_sum}
use Rattle.cm_meaning.specs.TypedState.{slots_at}
use Rattle.cm_gen.specs.declared.form.Form.{Form}
use Rattle.cm_gen.specs.Standing.{Frame, slots_here}
use Rattle.cm_gen.specs.FrameWord.{bits, slice_value, cell_for, cell_at, row_for, row_of, HasCell, Holds, Kept}
use Rattle.cm_gen.specs.StandsFor.{Spot, ExactAt}
use Rattle.cm_gen.specs.Moment.{WholesAreWritable}

module _ (program : Program) (page : ℕ) where
  -- a word that has what two cells say has what their sum says; where only the sum is the whole it may be written
  cell_joined : (a b c : Cell ℕ) (found : Stored) → CellSum a b c → (may_write a ≡ false → may_write b ≡ false → may_write c ≡ true → IsWritable found)
      → HasCell program page a found → HasCell program page b found → HasCell program page c found
  cell_joined absent b c found s wholes x y = subst (λ z. HasCell program page z found) (sym s) y
  cell_joined unset b c found s wholes x y = subst (λ z. HasCell program page z found) (sym (cell_alone unset b c s (writable_alone unset b c s refl))) x
  cell_joined (present n) b c found s wholes x y = subst (λ z. HasCell program page z found) (sym (cell_alone (present n) b c s (writable_alone (present n) b c s refl))) x
  cell_joined (shared p n) absent c found s wholes x y = subst (λ z. HasCell program page z found) (sym s) x
  cell_joined (shared p n) unset c found s wholes x y = absurd s
  cell_joined (shared p n) (present m) c found s wholes x y = absurd s
  cell_joined (shared p n) (shared q m) c found s wholes x y = subst (λ z. HasCell program page z found) (sym s.3) (by s.1 s.3)
    where
      written : (found : Stored) → IsWritable found → reads found ≡ Some n → found ≡ writable n
      written unmapped w e = absurd w
      written (writable v) w e = ap writable (same_Some v n e)
      written (read_only v) w e = absurd w

      by : (r : Share) → c ≡ with_share r n → HasCell program page (with_share r n) found
      by whole e = written found (wholes refl refl (ap may_write e)) x
      by (part t) e = x

  -- what stands in a word of the sum
  sum_at : (calls : List ℕ) (frames : List Frame) (h more all : Stack) (d s i : ℕ) → StackSum h more all
      → CellSum (cell_at program page calls frames h d s i) (cell_at program page calls frames more d s i) (cell_at program page calls frames all d s i)
  sum_at calls frames h more all d s i sum = of_kind (extent_at (slots_at program calls d) s)
    where
      words : CellSum (cell_for program page None calls frames h d s i) (cell_for program page None calls frames more d s i) (cell_for program page None calls frames all d s i)
      words = map_sum bits (h.words d s i) (more.words d s i) (all.words d s i) (sum.words d s i)

      of_kind : (o : Option Extent) → CellSum (cell_for program page o calls frames h d s i) (cell_for program page o calls frames more d s i) (cell_for program page o calls frames all d s i)
      of_kind None = words
      of_kind (Some extent.Word) = words
      of_kind (Some (extent.Words n)) = words
      of_kind (Some extent.Reference) = map_sum (λ r. slice_value program page calls frames r i) (h.references d s) (more.references d s) (all.references d s) (sum.references d s)

  holds_joined : (calls : List ℕ) (frames : List Frame) (h more all : Stack) (w : Mapped) → StackSum h more all → WholesAreWritable program page calls frames h more all w
      → Holds program page calls frames h w → Holds program page calls frames more w → Holds program page calls frames all w
  holds_joined calls frames h more all w sum wholes x y = λ d s i deep place.
      cell_joined (cell_at program page calls frames h d s i) (cell_at program page calls frames more d s i) (cell_at program page calls frames all d s i) _
      (sum_at calls frames h more all d s i sum) (wholes d s i deep place) (x d s i deep place) (y d s i deep place)

  -- the words of a row are where they were
  row_joined : (calls : List ℕ) (h more all : Stack) (a : ℕ) (r : Reference) → StackSum h more all → value_in (row_of program page calls h a) ≡ Some r → value_in (row_of program page calls all a) ≡ Some r
  row_joined calls h more all a r sum e = of_kind (extent_at (slots_here program calls) a) e
    where
      of_kind : (o : Option Extent) → value_in (row_for program page o calls h a) ≡ Some r → value_in (row_for program page o calls all a) ≡ Some r
      of_kind None e = e
      of_kind (Some extent.Word) e = e
      of_kind (Some (extent.Words n)) e = e
      of_kind (Some extent.Reference) e = value_sum (h.references (top calls) a) (more.references (top calls) a) (all.references (top calls) a) r (sum.references (top calls) a) e

  -- of what a rest knows only the element that waits for its value reads the stack
  kept_joined : (k : List Item) (calls : List ℕ) (frames : List Frame) (h more all : Stack) (w : Mapped) → StackSum h more all → Kept program page k calls frames h w → Kept program page k calls frames all w
  kept_joined [] calls frames h more all w sum x = tt
  kept_joined (apply o a ∷ k) calls frames h more all w sum x = (x.0, x.1, kept_joined k calls frames h more all w sum x.2)
  kept_joined (arguments u f ws row ∷ k) calls frames h more all w sum x = (x.0, kept_joined k calls frames h more all w sum x.1)
  kept_joined (pass u f ws row ∷ k) calls frames h more all w sum x = (x.0, kept_joined k calls frames h more all w sum x.1)
  kept_joined (store a i o ∷ k) calls frames h more all w sum x =
      (record { row = x.0.row; row_is = row_joined calls h more all a x.0.row sum x.0.row_is; address = x.0.address }, kept_joined k calls frames h more all w sum x.1)
  kept_joined (end ∷ k) [] frames h more all w sum x = absurd x
  kept_joined (end ∷ k) (f ∷ calls) [] h more all w sum x = absurd x
  kept_joined (end ∷ k) (f ∷ calls) (F ∷ frames) h more all w sum x = (x.0, x.1, kept_joined k calls frames h more all w sum x.2)
  kept_joined (_ ∷ k) calls frames h more all w sum x = kept_joined k calls frames h more all w sum x

  pub exact_joined : (form : Form) (input : List ℤ) (code : Code) (spot : Spot) (left : ℕ) (c : Control) (h more all : Stack) (m : Machine) → ExactAt program form page input code spot left c h m
      → StackSum h more all → Holds program page c.calls spot.frames more m.words → WholesAreWritable program page c.calls spot.frames h more all m.words
      → ExactAt program form page input code spot left c all m
  exact_joined form input code spot left c h more all m x sum y wholes = record {
    frames = x.frames;
    may_stand = x.may_stand;
    slots = holds_joined c.calls spot.frames h more all m.words sum wholes x.slots y;
    kept = kept_joined c.rest c.calls spot.frames h more all m.words sum x.kept;
    own = x.own;
    returns_are = x.returns_are;
    zero_is = x.zero_is;
    low_is = x.low_is;
    account_is = x.account_is;
    left_is = x.left_is;
    pointer_is = x.pointer_is;
    placed = x.placed;
  }
