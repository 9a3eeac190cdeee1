use Rattle.std.proofs.Common.{arith, ◌≡◌, true, ap, ◌∙◌, sym}
use Rattle.std.specs.Int.{w32}
use Rattle.std.proofs.lemmas.Int.{to_z-of_z}
use Rattle.cm_syntax.specs.Step as step
use Rattle.cm_meaning.proofs.WriteStepLaw.{part_few, split_natural, does_part}
use Rattle.cm_meaning.proofs.evaluator.Evaluator.part.Goals as goal

pub set_parts-requires-clause-fits : goal.set_parts-requires-clause-fits
set_parts-requires-clause-fits c =
    let few = part_few c.args.self.now c.args.whole c.args.left c.args.right c.args.body c.value-place.result c.row-row.result c.requires c.value-place.ensures c.row-row.ensures in
    omega (arith, few)

pub returns : goal.returns
returns c =
    let value = c.value-place.result in
    let same = to_z-of_z w32 value (record { sfits = c.value-place.type_inv }) in
    let fits : step.is_split value c.row-row.result.length ≡ true = ap (λ v. step.is_split v c.row-row.result.length) (sym same) ∙ sym c.if-not-is_split.ensures in
    does_part c.args.self.now c.args.whole c.args.left c.args.right c.args.body value c.row-row.result c.requires c.value-place.ensures c.row-row.ensures
    c.go.new.self c.set_parts.new.self _ c.go.result fits (split_natural value _ c.row-row.result.length same fits)
    (record { laid = c.set_parts.ensures.laid; place = c.set_parts.ensures.place; calls = c.set_parts.ensures.calls })
    c.set_parts.ensures.shows c.go.ensures.going c.go.ensures.put
