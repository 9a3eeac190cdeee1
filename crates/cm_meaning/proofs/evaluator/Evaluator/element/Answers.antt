use Rattle.std.proofs.Common.{arith}
use Rattle.std.specs.Prelude.{FitsSigned}
use Rattle.std.specs.Int.{w32}
use Rattle.std.proofs.lemmas.Int.{to_z-of_z}
use Rattle.cm_meaning.specs.declared.work.Hand.TheVariants as hands
use Rattle.cm_meaning.specs.declared.work.Work.TheVariants as works
use Rattle.cm_meaning.specs.Layout.{reference_of}
use Rattle.cm_meaning.proofs.EvaluatorLaw.{hold_does}
use Rattle.cm_meaning.proofs.OperatorLaw.{index_true, index_number}
use Rattle.cm_meaning.proofs.ExpressionLaw.{element-there, element-fits, moves-Element}
use Rattle.cm_meaning.proofs.evaluator.Evaluator.element.Goals as goal

pub overflow_add-row : goal.overflow_add-row
overflow_add-row c =
    let word : FitsSigned w32 c.value-index.result = record { sfits = c.value-index.type_inv } in
    let within = index_true c.value-index.result c.row-row.result.length c.is_index.result word c.is_index.ensures c.if-not-is_index.false in
    let at = index_number c.value-index.result c.row-row.result.length word within in
    let small = element-fits c.args.self.now c.args.slot c.value-index.result (reference_of c.row-row.result) c.requires c.value-index.ensures c.row-row.ensures within in
    omega (arith, small, at)

pub word-value-requires-clause-there : goal.word-value-requires-clause-there
word-value-requires-clause-there c =
    let word : FitsSigned w32 c.value-index.result = record { sfits = c.value-index.type_inv } in
    let within = index_true c.value-index.result c.row-row.result.length c.is_index.result word c.is_index.ensures c.if-not-is_index.false in
    element-there c.args.self.now c.args.slot c.value-index.result (reference_of c.row-row.result) c.requires c.value-index.ensures c.row-row.ensures within _
    (index_number c.value-index.result c.row-row.result.length word within)

pub returns : goal.returns
returns c =
    let word : FitsSigned w32 c.value-index.result = record { sfits = c.value-index.type_inv } in
    let within = index_true c.value-index.result c.row-row.result.length c.is_index.result word c.is_index.ensures c.if-not-is_index.false in
    hold_does c.args.self.now _ (works.Element c.args.slot) (hands.Value c.value-index.result) _ c.word-value.result c.hold.result
    c.requires c.value-index.ensures c.hold.ensures.going c.hold.ensures.put (to_z-of_z w32 c.word-value.result (record { sfits = c.word-value.type_inv }))
    (moves-Element c.args.self.now c.args.slot c.value-index.result (reference_of c.row-row.result) c.requires c.value-index.ensures c.row-row.ensures within _
    c.word-value.result (index_number c.value-index.result c.row-row.result.length word within) c.word-value.ensures)
