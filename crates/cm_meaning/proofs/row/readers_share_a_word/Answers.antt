use Rattle.std.specs.Prelude.{pos, Some, None, [], ◌∷◌, ◌≡◌, ◌≤◌, ℕ, ℤ, Bool, true, false, ◌==◌, ◌&&◌, if◌then◌else◌}
use Rattle.std.specs.Int.{int_wrap}
use Rattle.std.proofs.Common.{refl, arith, inl, inr}
use Rattle.std.proofs.lemmas.Bool.Decides.{eqb_tells}
use Rattle.cm_syntax.specs.Cell.{Cell, may_write, unlent, to_read, lent_cell}
use Rattle.cm_syntax.specs.Stack.{StackSum, SharesBack, IsUnder, empty_stack}
use Rattle.cm_syntax.proofs.CellLaw.{loan_sum, early_whole, read_only}
use Rattle.cm_meaning.specs.End.{Done}
use Rattle.cm_meaning.specs.ShareRow as share
use Rattle.cm_meaning.specs.Meaning.{Fork, Goes, begun}
use Rattle.cm_meaning.specs.Piece.{hearing, returning, this, goes}
use Rattle.cm_meaning.proofs.SumLaw.{comm, alone_}
use Rattle.cm_meaning.proofs.ShareRow.{joins_answer, child_ends}
use Rattle.cm_meaning.proofs.row.readers_share_a_word.Goals as goal

parts : StackSum share.lent share.kept share.before
parts = record { words = λ d s i. loan_sum (share.loan d s i) (share.before.words d s i); references = λ d s. refl }

low : IsUnder 1 share.lent
low = record {
  words = λ d s i l. elim (eqb_tells d 0) [ inl one ↦ absurd (none_ d l one.1) | inr ne ↦ let p : (d == 0) ≡ false = ne.0 in rw p refl ];
  references = λ d s l. refl;
}
  where
    none_ : (d : ℕ) → 1 ≤ d → d ≡ 0 → ⊥
    none_ d l e = omega (arith, l, e)

pub returns-clause-parts : goal.returns-clause-parts
returns-clause-parts c = parts

pub returns-clause-both_read : goal.returns-clause-both_read
returns-clause-both_read c = (refl, refl)

pub returns-clause-neither_writes : goal.returns-clause-neither_writes
returns-clause-neither_writes c = λ v. (refl, refl)

child_end : Fork share.readers 256 [] (begun share.asked) (Done (pos 7 ∷ []) None 2) share.lent
unfolding int_wrap Rattle.cm_syntax.specs.declared.expr.Arg.TheBlock.shape-the_row-Expr-0 Rattle.cm_syntax.specs.declared.expr.Arg.TheBlock.hidden-the_row-Expr-0 Rattle.cm_syntax.specs.declared.expr.Arg.TheBlock.shape-the_row-Arg-1 Rattle.cm_syntax.specs.declared.expr.Arg.TheBlock.hidden-the_row-Arg-1 Rattle.cm_syntax.specs.declared.stmt.Stmt.TheBlock.shape-the_row-Stmt-0 Rattle.cm_syntax.specs.declared.stmt.Stmt.TheBlock.hidden-the_row-Stmt-0 Rattle.cm_syntax.specs.declared.stmt.Stmt.TheBlock.shape-the_row-Stmt-1 Rattle.cm_syntax.specs.declared.stmt.Stmt.TheBlock.hidden-the_row-Stmt-1 denote.Hole.Carrier.hidden
child_end = child_ends share.readers 256 [] 10 share.called share.lent share.given (pos 7 ∷ []) 2 low refl

hears : Goes share.readers 256 [] share.reader share.heard
hears = hearing (this child_end)

pub returns-clause-hears : goal.returns-clause-hears
returns-clause-hears c = hears

pub returns-clause-end : goal.returns-clause-end
unfolding int_wrap Rattle.cm_syntax.specs.declared.expr.Arg.TheBlock.shape-the_row-Expr-0 Rattle.cm_syntax.specs.declared.expr.Arg.TheBlock.hidden-the_row-Expr-0 Rattle.cm_syntax.specs.declared.expr.Arg.TheBlock.shape-the_row-Arg-1 Rattle.cm_syntax.specs.declared.expr.Arg.TheBlock.hidden-the_row-Arg-1 Rattle.cm_syntax.specs.declared.stmt.Stmt.TheBlock.shape-the_row-Stmt-0 Rattle.cm_syntax.specs.declared.stmt.Stmt.TheBlock.hidden-the_row-Stmt-0 Rattle.cm_syntax.specs.declared.stmt.Stmt.TheBlock.shape-the_row-Stmt-1 Rattle.cm_syntax.specs.declared.stmt.Stmt.TheBlock.hidden-the_row-Stmt-1 denote.Hole.Carrier.hidden
returns-clause-end c =
    let joined = joins_answer share.readers 256 [] 10 share.called share.going_on _ share.lent share.kept share.lent share.before _ (pos 7 ∷ []) 2 (pos 7) (Done (pos 7 ∷ pos 7 ∷ []) (Some (pos 8)) 3) (comm parts) refl refl refl refl refl (omega arith) _ refl refl in
    (joined.0, goes hears joined.1)

lent_for_reading : (q : Bool) (c : Cell ℤ) → may_write (lent_cell (if q then to_read else unlent) c) ≡ false
lent_for_reading true c = read_only c
lent_for_reading false c = refl

pub returns-clause-returns : goal.returns-clause-returns
returns-clause-returns c = returning (this back (comm parts))
  where
    back : SharesBack share.lent empty_stack share.lent
    back = record { words = λ d s i. early_whole (share.lent.words d s i) (lent_for_reading (d == 0 && (s == 0 && i == 0)) (share.before.words d s i)); references = λ d s. (refl, refl) }

pub returns-clause-early_end : goal.returns-clause-early_end
unfolding int_wrap Rattle.cm_syntax.specs.declared.expr.Arg.TheBlock.shape-the_row-Expr-0 Rattle.cm_syntax.specs.declared.expr.Arg.TheBlock.hidden-the_row-Expr-0 Rattle.cm_syntax.specs.declared.expr.Arg.TheBlock.shape-the_row-Arg-1 Rattle.cm_syntax.specs.declared.expr.Arg.TheBlock.hidden-the_row-Arg-1 Rattle.cm_syntax.specs.declared.stmt.Stmt.TheBlock.shape-the_row-Stmt-0 Rattle.cm_syntax.specs.declared.stmt.Stmt.TheBlock.hidden-the_row-Stmt-0 Rattle.cm_syntax.specs.declared.stmt.Stmt.TheBlock.shape-the_row-Stmt-1 Rattle.cm_syntax.specs.declared.stmt.Stmt.TheBlock.hidden-the_row-Stmt-1 denote.Hole.Carrier.hidden
returns-clause-early_end c =
    joins_answer share.readers 256 [] 10 share.called share.going_on _ share.lent share.before empty_stack share.before _ (pos 7 ∷ []) 2 (pos 7) (Done (pos 7 ∷ pos 7 ∷ []) (Some (pos 8)) 3) (alone_ share.before) refl refl refl refl refl (omega arith) _ refl refl
