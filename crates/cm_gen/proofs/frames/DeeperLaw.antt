-- The frames below the last one: what is said of them is the same with the last one and without it.
use Rattle.std.proofs.Common.{◌≡◌, ℕ, zero, suc, ◌-◌, ◌*◌, ◌<◌, ◌≤◌, List, [], ◌∷◌, length, Option, None, Some, refl, sym, ap, ◌∙◌, subst, arith}
use Rattle.std.specs.Prelude.{slice_get, Some}
use Rattle.cm_isa.specs.Machine.{Mapped, Stored, unmapped, writable, read_only, reads}
use Rattle.cm_isa.specs.Run.{Extends}
use Rattle.cm_syntax.specs.Extent.{extent_at}
use Rattle.cm_syntax.specs.declared.stmt.Extent.{Extent}
use Rattle.cm_syntax.specs.declared.stmt.Extent.TheVariants as extent
use Rattle.cm_syntax.specs.declared.stmt.Program.{Program}
use Rattle.cm_syntax.specs.Cell.{Cell, absent, unset, present, value_in, shared}
use Rattle.cm_syntax.specs.Stack.{Reference, Stack, Argument, word, slice}
use Rattle.cm_syntax.specs.Rest.{Item, apply, arguments, pass, store, end, Control}
use Rattle.cm_syntax.specs.Step.{top}
use Rattle.cm_meaning.specs.TypedState.{slots_at}
use Rattle.std.proofs.lemmas.Option.{none-some}
use Rattle.cm_gen.proofs.frames.MappedWordLaw.{own_of, is_own_at, own_reads}
use Rattle.cm_gen.specs.Standing.{Frame, used, slots_here}
use Rattle.cm_gen.specs.FrameWord.{word_number, address_at, word_address, cell_in, cell_at, slice_cell, value_cell, HasCell, HasArguments, Kept, row_of, reference_address, slice_value, cell_for, row_for}
use Rattle.cm_gen.specs.Formed.{within, Formed}
use Rattle.cm_gen.proofs.states.FactLaw.{part_has, typed_reference}
use Rattle.cm_gen.proofs.frames.FrameWordLaw.{at_before, slots_before, words_before, IsWord}
use Rattle.cm_syntax.proofs.CellLaw.{map_same}

module _ (program : Program) (page : ℕ) where
  -- a map with more words
  pub extends_cell : (cell : Cell ℕ) (v w : Mapped) (a : ℕ) → Extends v w → HasCell program page cell (v a) → HasCell program page cell (w a)
  extends_cell absent v w a more h = tt
  extends_cell unset v w a more h = let o = own_of (v a) h in is_own_at (w a) o.0 (more.keeps_writable a o.0 o.1)
  extends_cell (present n) v w a more h = more.keeps_writable a n h
  extends_cell (shared p n) v w a more h = by (v a) refl h
    where
      by : (found : Stored) → v a ≡ found → reads found ≡ Some n → reads (w a) ≡ Some n
      by unmapped e k = absurd (none-some n k)
      by (writable x) e k = own_reads (w a) x (more.keeps_writable a x e) ∙ k
      by (read_only x) e k = more.keeps_readable a x e ∙ k

  pub deeper_address : (F : Frame) (calls : List ℕ) (frames : List Frame) (d n : ℕ) → length calls ≡ length frames → d < length calls → word_address (F ∷ frames) d n ≡ word_address frames d n
  deeper_address F calls frames d n same l = ap (λ a. a - 4 * n) (at_before d (length frames) F.address (address_at frames d) (subst (λ n. d < n) same l))

  pub deeper_word : (f : ℕ) (calls : List ℕ) (d n : ℕ) → IsWord program page calls d n → IsWord program page (f ∷ calls) d n
  deeper_word f calls d n x = record { deep = let l = x.deep in omega (arith, l); low = x.low; high = subst (λ m. n ≤ m) (sym (words_before program page f calls d x.deep)) x.high }

  pub shallow_word : (f : ℕ) (calls : List ℕ) (d n : ℕ) → d < length calls → IsWord program page (f ∷ calls) d n → IsWord program page calls d n
  shallow_word f calls d n deep x = record { deep = deep; low = x.low; high = subst (λ m. n ≤ m) (words_before program page f calls d deep) x.high }

  pub deeper_reference : (f : ℕ) (F : Frame) (calls : List ℕ) (frames : List Frame) (r : Reference) → length calls ≡ length frames → r.depth < length calls
      → reference_address program page (f ∷ calls) (F ∷ frames) r ≡ reference_address program page calls frames r
  deeper_reference f F calls frames r same l =
      deeper_address F calls frames r.depth _ same l ∙ ap (λ s. word_address frames r.depth (word_number s r.slot r.start)) (slots_before program page f calls r.depth l)

  -- what stands in the words of a deeper slot, where it is the same in two stacks and refers to no frame above
  pub deeper_cell : (f : ℕ) (F : Frame) (calls : List ℕ) (frames : List Frame) (g h : Stack) (d s i : ℕ) → length calls ≡ length frames → d < length calls
      → g.words d s i ≡ h.words d s i → g.references d s ≡ h.references d s → ((r : Reference) → value_in (h.references d s) ≡ Some r → r.depth < length calls)
      → cell_at program page (f ∷ calls) (F ∷ frames) g d s i ≡ cell_at program page calls frames h d s i
  deeper_cell f F calls frames g h d s i same deep words references live =
      ap (λ slots. cell_in program page (slice_get slots s) (f ∷ calls) (F ∷ frames) g d s i) (slots_before program page f calls d deep) ∙ by_kind (extent_at (slots_at program calls d) s)
    where
      by_word : (i : ℕ) (r : Reference) → value_in (h.references d s) ≡ Some r → slice_value program page (f ∷ calls) (F ∷ frames) r i ≡ slice_value program page calls frames r i
      by_word zero r e = deeper_reference f F calls frames r same (live r e)
      by_word (suc i) r e = refl

      by_kind : (kind : Option Extent) → cell_for program page kind (f ∷ calls) (F ∷ frames) g d s i ≡ cell_for program page kind calls frames h d s i
      by_kind None = ap (λ c. value_cell program page c) words
      by_kind (Some extent.Word) = ap (λ c. value_cell program page c) words
      by_kind (Some (extent.Words n)) = ap (λ c. value_cell program page c) words
      by_kind (Some extent.Reference) = ap (λ c. slice_cell program page (f ∷ calls) (F ∷ frames) c i) references ∙ map_same (λ r. slice_value program page (f ∷ calls) (F ∷ frames) r i) (λ r. slice_value program page calls frames r i) (h.references d s) (by_word i)

  -- the running function's depth is one of the frames
  pub top_low : (calls : List ℕ) → 0 < length calls → top calls < length calls
  top_low [] some = absurd (omega (arith, some))
  top_low (f ∷ calls) some = omega arith

  -- the words of a row are the same where the references are
  pub same_row : (calls : List ℕ) (g h : Stack) (a : ℕ) → ((s : ℕ) → 0 < length calls → g.references (top calls) s ≡ h.references (top calls) s) → row_of program page calls g a ≡ row_of program page calls h a
  same_row [] g h a same = refl
  same_row (f ∷ calls) g h a same = by_kind (extent_at (slots_here program (f ∷ calls)) a)
    where
      by_kind : (kind : Option Extent) → row_for program page kind (f ∷ calls) g a ≡ row_for program page kind (f ∷ calls) h a
      by_kind None = refl
      by_kind (Some extent.Word) = refl
      by_kind (Some (extent.Words n)) = refl
      by_kind (Some extent.Reference) = same a (omega arith)

  -- a reference of a formed state is to its own frame or to one before it
  pub refers_below : (limit : ℕ) (c : Control) (h : Stack) (d s : ℕ) (r : Reference) → Formed program page limit c h → value_in (h.references d s) ≡ Some r → r.depth ≤ d
  refers_below limit c h d s r x e = (x.typed.refers d s r (typed_reference program x.gives (within x.context c) x.whole d s r x.typed (part_has (h.references d s) (x.whole.references d s) r (x.is_part.references d s) e))).0

  arguments_extend : (calls : List ℕ) (frames : List Frame) (v w : Mapped) (j : ℕ) (ws : List Argument) → Extends v w → HasArguments program page calls frames v j ws → HasArguments program page calls frames w j ws
  arguments_extend calls frames v w j [] more x = tt
  arguments_extend calls frames v w j (word z ∷ ws) more x = (more.keeps_writable _ _ x.0, x.1, arguments_extend calls frames v w j ws more x.2)
  arguments_extend calls frames v w j (slice r ∷ ws) more x = (more.keeps_writable _ _ x.0, more.keeps_writable _ _ x.1, arguments_extend calls frames v w j ws more x.2)

  -- what a rest knows stays known with more words
  pub kept_extends : (k : List Item) (calls : List ℕ) (frames : List Frame) (h : Stack) (v w : Mapped) → Extends v w → Kept program page k calls frames h v → Kept program page k calls frames h w
  kept_extends [] calls frames h v w more x = tt
  kept_extends (apply o a ∷ k) calls frames h v w more x = (more.keeps_writable _ _ x.0, x.1, kept_extends k calls frames h v w more x.2)
  kept_extends (arguments u f ws row ∷ k) calls frames h v w more x = (arguments_extend calls frames v w (used k) ws more x.0, kept_extends k calls frames h v w more x.1)
  kept_extends (pass u f ws row ∷ k) calls frames h v w more x = (arguments_extend calls frames v w (used k) ws more x.0, kept_extends k calls frames h v w more x.1)
  kept_extends (store a i o ∷ k) calls frames h v w more x = (record { row = x.0.row; row_is = x.0.row_is; address = more.keeps_writable _ _ x.0.address }, kept_extends k calls frames h v w more x.1)
  kept_extends (end ∷ k) [] frames h v w more x = absurd x
  kept_extends (end ∷ k) (f ∷ calls) [] h v w more x = absurd x
  kept_extends (end ∷ k) (f ∷ calls) (F ∷ frames) h v w more x = (more.keeps_writable _ _ x.0, more.keeps_writable _ _ x.1, kept_extends k calls frames h v w more x.2)
  kept_extends (_ ∷ k) calls frames h v w more x = kept_extends k calls frames h v w more x
