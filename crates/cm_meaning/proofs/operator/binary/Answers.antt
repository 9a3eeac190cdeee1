use Rattle.std.proofs.Common.{Some, sym, ap, ◌∙◌}
use Rattle.std.specs.Int.{w32}
use Rattle.std.proofs.lemmas.Int.{wrapping_add_is, wrapping_sub_is}
use Rattle.cm_syntax.specs.Operator.{binary_value}
use Rattle.cm_meaning.proofs.OperatorLaw.{left_shift_is, right_shift_is}
use Rattle.cm_meaning.proofs.operator.binary.Goals as goal

pub returns-in-Add : goal.returns-in-Add
returns-in-Add c = ap Some (wrapping_add_is w32 c.args.left c.args.right c.ranges.left c.ranges.right) ∙ sym (ap (λ o. binary_value o c.args.left c.args.right) c.in-Add.is)

pub returns-in-Sub : goal.returns-in-Sub
returns-in-Sub c = ap Some (wrapping_sub_is w32 c.args.left c.args.right c.ranges.left c.ranges.right) ∙ sym (ap (λ o. binary_value o c.args.left c.args.right) c.in-Sub.is)

pub returns-in-Shl : goal.returns-in-Shl
returns-in-Shl c = ap Some (left_shift_is c.args.left c.args.right c.wrapping_shl.result c.cast_unsigned.result c.ranges.left c.ranges.right
    (record { sfits = c.wrapping_shl.type_inv }) c.cast_unsigned.ensures c.wrapping_shl.ensures) ∙ sym (ap (λ o. binary_value o c.args.left c.args.right) c.in-Shl.is)

pub returns-in-Shr : goal.returns-in-Shr
returns-in-Shr c = ap Some (right_shift_is c.args.left c.args.right c.wrapping_shr.result c.cast_unsigned-in-Shr.result c.ranges.left c.ranges.right
    (record { sfits = c.wrapping_shr.type_inv }) c.cast_unsigned-in-Shr.ensures c.wrapping_shr.ensures) ∙ sym (ap (λ o. binary_value o c.args.left c.args.right) c.in-Shr.is)
