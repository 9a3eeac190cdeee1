use Rattle.std.specs.Int.{w32}
use Rattle.std.proofs.lemmas.Int.{to_z-of_z}
use Rattle.cm_meaning.proofs.WriteStepLaw.{does_update}
use Rattle.cm_meaning.proofs.evaluator.Evaluator.update.Goals as goal

pub returns : goal.returns
returns c = does_update c.args.self.now c.write.new.self c.args.slot c.args.op c.value-value.result _ c.top-depth.result c.write.result
    (to_z-of_z w32 c.value-value.result (record { sfits = c.value-value.type_inv })) c.requires c.value-value.ensures c.top-depth.ensures c.write.ensures
