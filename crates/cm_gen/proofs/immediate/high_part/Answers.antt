use Rattle.std.specs.Int.{w32}
use Rattle.std.proofs.lemmas.Int.{wrapping_sub_is, to_z-of_z}
use Rattle.std.proofs.Common.{◌∙◌, ap}
use Rattle.cm_syntax.specs.Word.{wrap}
use Rattle.std.specs.Prelude.{◌-ℤ◌}
use Rattle.cm_gen.specs.Code.{low_part}
use Rattle.cm_gen.proofs.immediate.high_part.Goals as goal

pub returns-clause-value : goal.returns-clause-value
returns-clause-value c =
    let number = c.args.number in
    wrapping_sub_is w32 number c.low_part.result c.ranges.number (record { sfits = c.low_part.type_inv })
    ∙ ap (λ l. wrap (number -ℤ l)) (c.low_part.ensures.value ∙ ap low_part (to_z-of_z w32 number c.ranges.number))
