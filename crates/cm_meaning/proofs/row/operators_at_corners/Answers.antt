use Rattle.std.proofs.Common.{refl}
use Rattle.std.specs.Int.{int_wrap}
use Rattle.cm_meaning.proofs.row.operators_at_corners.Goals as goal

pub returns-clause-sum : goal.returns-clause-sum
unfolding int_wrap
returns-clause-sum c = refl

pub returns-clause-difference : goal.returns-clause-difference
unfolding int_wrap
returns-clause-difference c = refl

pub returns-clause-product : goal.returns-clause-product
unfolding int_wrap
returns-clause-product c = refl

pub returns-clause-product_of_least : goal.returns-clause-product_of_least
unfolding int_wrap
returns-clause-product_of_least c = refl

pub returns-clause-quotient : goal.returns-clause-quotient
unfolding int_wrap
returns-clause-quotient c = refl

pub returns-clause-quotient_of_least : goal.returns-clause-quotient_of_least
unfolding int_wrap
returns-clause-quotient_of_least c = refl

pub returns-clause-no_quotient : goal.returns-clause-no_quotient
unfolding int_wrap
returns-clause-no_quotient c = refl

pub returns-clause-remainder : goal.returns-clause-remainder
unfolding int_wrap
returns-clause-remainder c = refl

pub returns-clause-remainder_of_least : goal.returns-clause-remainder_of_least
unfolding int_wrap
returns-clause-remainder_of_least c = refl

pub returns-clause-no_remainder : goal.returns-clause-no_remainder
unfolding int_wrap
returns-clause-no_remainder c = refl

pub returns-clause-left_by_31 : goal.returns-clause-left_by_31
unfolding int_wrap
returns-clause-left_by_31 c = refl

pub returns-clause-left_by_32 : goal.returns-clause-left_by_32
unfolding int_wrap
returns-clause-left_by_32 c = refl

pub returns-clause-left_by_minus_1 : goal.returns-clause-left_by_minus_1
unfolding int_wrap
returns-clause-left_by_minus_1 c = refl

pub returns-clause-right_by_31 : goal.returns-clause-right_by_31
unfolding int_wrap
returns-clause-right_by_31 c = refl

pub returns-clause-right_by_32 : goal.returns-clause-right_by_32
unfolding int_wrap
returns-clause-right_by_32 c = refl

pub returns-clause-right_by_minus_1 : goal.returns-clause-right_by_minus_1
unfolding int_wrap
returns-clause-right_by_minus_1 c = refl

pub returns-clause-right_by_1 : goal.returns-clause-right_by_1
unfolding int_wrap
returns-clause-right_by_1 c = refl

pub returns-clause-less : goal.returns-clause-less
unfolding int_wrap
returns-clause-less c = refl

pub returns-clause-less_or_equal : goal.returns-clause-less_or_equal
unfolding int_wrap
returns-clause-less_or_equal c = refl

pub returns-clause-greater : goal.returns-clause-greater
unfolding int_wrap
returns-clause-greater c = refl

pub returns-clause-greater_or_equal : goal.returns-clause-greater_or_equal
unfolding int_wrap
returns-clause-greater_or_equal c = refl

pub returns-clause-equal : goal.returns-clause-equal
unfolding int_wrap
returns-clause-equal c = refl

pub returns-clause-unequal : goal.returns-clause-unequal
unfolding int_wrap
returns-clause-unequal c = refl

pub returns-clause-conjunction : goal.returns-clause-conjunction
unfolding int_wrap
returns-clause-conjunction c = refl

pub returns-clause-exclusive : goal.returns-clause-exclusive
unfolding int_wrap
returns-clause-exclusive c = refl

pub returns-clause-disjunction : goal.returns-clause-disjunction
unfolding int_wrap
returns-clause-disjunction c = refl

pub returns-clause-negation_of_least : goal.returns-clause-negation_of_least
unfolding int_wrap
returns-clause-negation_of_least c = refl

pub returns-clause-not_zero : goal.returns-clause-not_zero
unfolding int_wrap
returns-clause-not_zero c = refl

pub returns-clause-not_other : goal.returns-clause-not_other
unfolding int_wrap
returns-clause-not_other c = refl

pub returns-clause-flip : goal.returns-clause-flip
unfolding int_wrap
returns-clause-flip c = refl
