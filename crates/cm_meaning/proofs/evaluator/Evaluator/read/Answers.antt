use Rattle.std.proofs.Common.{sym, ap, ◌∙◌}
use Rattle.cm_syntax.specs.Operator.{natural}
use Rattle.std.specs.Prelude.{length, slice_get, FitsSigned}
use Rattle.std.specs.Int.{w32}
use Rattle.std.proofs.lemmas.Int.{to_z-of_z}
use Rattle.cm_meaning.specs.declared.work.Hand.TheVariants as hands
use Rattle.cm_meaning.specs.declared.work.Work.TheVariants as works
use Rattle.cm_meaning.proofs.EvaluatorLaw.{hold_does}
use Rattle.cm_meaning.proofs.OperatorLaw.{index_true}
use Rattle.cm_meaning.proofs.ExpressionLaw.{moves-Read}
use Rattle.cm_meaning.proofs.evaluator.Evaluator.read.Goals as goal

pub returns : goal.returns
returns c =
    let word : FitsSigned w32 c.value-index.result = record { sfits = c.value-index.type_inv } in
    let within = index_true c.value-index.result (length c.args.self.now.input.now) c.is_index.result word c.is_index.ensures c.if-not-is_index.false in
    hold_does c.args.self.now _ works.Read (hands.Value c.value-index.result) _ c.number_at.result c.hold.result
    c.requires c.value-index.ensures c.hold.ensures.going c.hold.ensures.put (to_z-of_z w32 c.number_at.result (record { sfits = c.number_at.type_inv }))
    (λ h at. moves-Read c.args.self.now c.value-index.result c.number_at.result within
    (ap (λ z. slice_get c.args.self.now.input.now (natural z)) (sym (to_z-of_z w32 c.value-index.result word)) ∙ c.number_at.ensures) h)
