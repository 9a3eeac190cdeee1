use Rattle.std.proofs.Common.{[], refl, arith}
use Rattle.std.specs.Int.{int_wrap}
use Rattle.cm_syntax.specs.declared.expr.Op.TheVariants as op
use Rattle.cm_meaning.specs.Row as row
use Rattle.cm_meaning.proofs.RowLaw.{done, spent}
use Rattle.cm_meaning.proofs.row.sums_and_products.Goals as goal

pub returns-clause-value : goal.returns-clause-value
unfolding int_wrap
returns-clause-value c = done row.sum_and_product [] (row.with_ticks 1) 40 refl (omega arith)

pub returns-clause-spent : goal.returns-clause-spent
returns-clause-spent c = spent row.sum_and_product [] (row.with_ticks 0) 250 (omega arith)

pub returns-clause-difference : goal.returns-clause-difference
unfolding int_wrap
returns-clause-difference c = done (row.returns_value (row.joined op.Sub (row.number 2) (row.joined op.Mul (row.number 3) (row.number 4)))) [] (row.with_ticks 1) 40 refl (omega arith)

pub returns-clause-from_left : goal.returns-clause-from_left
unfolding int_wrap
returns-clause-from_left c = done (row.returns_value (row.joined op.Sub (row.joined op.Sub (row.number 1) (row.number 2)) (row.number 3))) [] (row.with_ticks 1) 40 refl (omega arith)
