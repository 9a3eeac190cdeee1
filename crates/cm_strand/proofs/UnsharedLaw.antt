-- Stacks that hold no part of a word: what is joined of them, and that a word that becomes whole was whole before.
use Rattle.std.proofs.Common.{◌≡◌, ℕ, ◌==◌, Bool, true, false, List, Option, None, Some, sym, ap, ◌∙◌, subst}
use Rattle.std.specs.Prelude.{ℤ, ◌&&◌, if◌then◌else◌, option_map, slice_get}
use Rattle.cm_isa.specs.Machine.{Mapped}
use Rattle.cm_syntax.specs.declared.stmt.Extent.{Extent}
use Rattle.cm_syntax.specs.declared.stmt.Extent.TheVariants as extent
use Rattle.cm_syntax.specs.declared.stmt.Program.{Program}
use Rattle.cm_syntax.specs.Extent.{extent_of}
use Rattle.cm_syntax.specs.Cell.{Cell, absent, unset, present, shared, may_write, map_cell, CellSum, settle_cell}
use Rattle.cm_syntax.specs.Stack.{Stack, Destination, StackSum, settle}
use Rattle.cm_meaning.specs.TypedState.{slots_at}
use Rattle.cm_gen.specs.Standing.{Frame}
use Rattle.cm_gen.specs.FrameWord.{cell_for}
use Rattle.cm_gen.specs.Moment.{WholesAreWritable}
use Rattle.cm_strand.specs.Unshared.{NoPart, IsUnshared}

true_false : true ≡ false → ⊥
true_false e = cc

-- beside a cell that isn't a part another one becomes no more than it was
alone : {A : Type 0} (f : A → ℕ) (a b c : Cell A) → CellSum a b c → NoPart a → may_write (map_cell f a) ≡ false → may_write (map_cell f b) ≡ false
    → may_write (map_cell f c) ≡ true → ⊥
alone f absent b c s n x y z = true_false (sym z ∙ (ap (λ k. may_write (map_cell f k)) s ∙ y))
alone f unset b c s n x y z = true_false x
alone f (present v) b c s n x y z = true_false x
alone f (shared p v) b c s n x y z = n

pub wholes : (program : Program) (page : ℕ) (calls : List ℕ) (frames : List Frame) (h more all : Stack) (w : Mapped) → IsUnshared h → StackSum h more all
    → WholesAreWritable program page calls frames h more all w
wholes program page calls frames h more all w un sum d s i deep place x y z = absurd (by (option_map extent_of (slice_get (slots_at program calls d) s)) x y z)
  where
    by : (o : Option Extent) → may_write (cell_for program page o calls frames h d s i) ≡ false → may_write (cell_for program page o calls frames more d s i) ≡ false
        → may_write (cell_for program page o calls frames all d s i) ≡ true → ⊥
    by None x y z = alone _ (h.words d s i) (more.words d s i) (all.words d s i) (sum.words d s i) (un.words d s i) x y z
    by (Some extent.Word) x y z = alone _ (h.words d s i) (more.words d s i) (all.words d s i) (sum.words d s i) (un.words d s i) x y z
    by (Some (extent.Words n)) x y z = alone _ (h.words d s i) (more.words d s i) (all.words d s i) (sum.words d s i) (un.words d s i) x y z
    by (Some extent.Reference) x y z = alone _ (h.references d s) (more.references d s) (all.references d s) (sum.references d s) (un.references d s) x y z

no_part_sum : {A : Type 0} (a b c : Cell A) → CellSum a b c → NoPart a → NoPart b → NoPart c
no_part_sum absent b c s m n = subst NoPart (sym s) n
no_part_sum unset absent c s m n = subst NoPart (sym s) tt
no_part_sum unset unset c s m n = absurd s
no_part_sum unset (present w) c s m n = absurd s
no_part_sum unset (shared q w) c s m n = absurd s
no_part_sum (present v) absent c s m n = subst NoPart (sym s) tt
no_part_sum (present v) unset c s m n = absurd s
no_part_sum (present v) (present w) c s m n = absurd s
no_part_sum (present v) (shared q w) c s m n = absurd s
no_part_sum (shared p v) b c s m n = absurd m

pub unshared_sum : (a b c : Stack) → StackSum a b c → IsUnshared a → IsUnshared b → IsUnshared c
unshared_sum a b c s m n = record {
  words = λ d t i. no_part_sum (a.words d t i) (b.words d t i) (c.words d t i) (s.words d t i) (m.words d t i) (n.words d t i);
  references = λ d t. no_part_sum (a.references d t) (b.references d t) (c.references d t) (s.references d t) (m.references d t) (n.references d t);
}

settled_cell : (c : Cell ℤ) (v : ℤ) (here : Bool) → NoPart c → NoPart (if here then settle_cell c v else c)
settled_cell absent v true n = tt
settled_cell unset v true n = tt
settled_cell (present w) v true n = tt
settled_cell (shared p w) v true n = absurd n
settled_cell c v false n = n

pub unshared_settled : (x : Destination) (v : Option ℤ) (h : Stack) → IsUnshared h → IsUnshared (settle x v h)
unshared_settled None v h n = n
unshared_settled (Some x) None h n = n
unshared_settled (Some x) (Some v) h n = record {
  words = λ d s i. settled_cell (h.words d s i) v (d == x.depth && (s == x.slot && i == 0)) (n.words d s i);
  references = n.references;
}
