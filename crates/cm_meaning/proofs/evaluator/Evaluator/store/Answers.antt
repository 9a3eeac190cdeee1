use Rattle.std.proofs.Common.{arith}
use Rattle.std.specs.Int.{w32}
use Rattle.std.proofs.lemmas.Int.{to_z-of_z}
use Rattle.cm_meaning.proofs.WriteStepLaw.{store_few, store_there, does_store}
use Rattle.cm_meaning.proofs.evaluator.Evaluator.store.Goals as goal

pub overflow_add-row : goal.overflow_add-row
overflow_add-row c =
    let few = store_few c.args.self.now c.args.slot c.args.index c.args.op c.value-value.result c.row-row.result c.requires c.value-value.ensures c.row-row.ensures in
    omega (arith, few)

pub write-requires-clause-there : goal.write-requires-clause-there
write-requires-clause-there c =
    store_there c.args.self.now c.args.slot c.args.index c.args.op c.value-value.result c.row-row.result c.requires c.value-value.ensures c.row-row.ensures

pub returns : goal.returns
returns c = does_store c.args.self.now c.args.slot c.args.index c.args.op c.value-value.result c.row-row.result c.requires c.value-value.ensures c.row-row.ensures
    c.write.new.self _ c.write.result (to_z-of_z w32 c.value-value.result (record { sfits = c.value-value.type_inv })) c.write.ensures
