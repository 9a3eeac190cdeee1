use Rattle.cm_meaning.proofs.StatementStepLaw.{copied_part, does_Call, does_Spawn, does_If, does_While, does_For, does_Split, does_Return, does_Block}
use Rattle.cm_meaning.proofs.evaluator.Evaluator.statement.Goals as goal

pub returns-in-Call : goal.returns-in-Call
returns-in-Call c = does_Call c.args.self.now c.then.new.self c.args.statement c.then.result c.requires c.then.ensures.going
    c.arguments_of.result c.in-Call.call c.in-Call.is c.arguments_of.ensures c.then.ensures.put

pub returns-in-Spawn : goal.returns-in-Spawn
returns-in-Spawn c = does_Spawn c.args.self.now c.go-in-Spawn.new.self c.args.statement c.go-in-Spawn.result c.requires c.go-in-Spawn.ensures.going
    c.arguments_of-in-Spawn.result c.in-Spawn.at c.in-Spawn.target c.in-Spawn.call c.spawned.result c.in-Spawn.is c.spawned.ensures c.arguments_of-in-Spawn.ensures
    c.go-in-Spawn.ensures.put

pub returns-in-If : goal.returns-in-If
returns-in-If c = does_If c.args.self.now c.then-in-If.new.self c.args.statement c.then-in-If.result c.requires c.then-in-If.ensures.going
    _ c.in-If.then c.in-If.other c.get.result c.held_by.result c.in-If.is c.get.ensures c.held_by.ensures c.then-in-If.ensures.put

pub returns-in-While : goal.returns-in-While
returns-in-While c = does_While c.args.self.now c.go-in-While.new.self c.args.statement c.go-in-While.result c.requires c.go-in-While.ensures.going
    _ c.in-While.body c.get-in-While.result c.in-While.is c.get-in-While.ensures c.go-in-While.ensures.put

pub returns-in-For : goal.returns-in-For
returns-in-For c = does_For c.args.self.now c.then-in-For.new.self c.args.statement c.then-in-For.result c.requires c.then-in-For.ensures.going
    c.in-For.first c.in-For.test c.in-For.step c.in-For.body c.as_ref.result c.get-in-For-3.result c.get-in-For.result c.get-in-For-2.result
    c.in-For.is (copied_part c.as_ref.result c.in-For.test c.as_ref.ensures.value) c.get-in-For-3.ensures c.get-in-For.ensures c.get-in-For-2.ensures c.then-in-For.ensures.put

pub returns-in-Split : goal.returns-in-Split
returns-in-Split c = does_Split c.args.self.now c.then-in-Split.new.self c.args.statement c.then-in-Split.result c.requires c.then-in-Split.ensures.going
    _ c.in-Split.whole c.in-Split.left c.in-Split.right c.in-Split.body c.in-Split.close c.items-in-Split.result c.in-Split.is c.items-in-Split.ensures
    c.then-in-Split.ensures.put

pub returns-in-Return : goal.returns-in-Return
returns-in-Return c = does_Return c.args.self.now c.leave.new.self c.args.statement c.leave.result c.in-Return.at c.in-Return.value c.in-Return.is c.leave.ensures

pub returns-in-Block : goal.returns-in-Block
returns-in-Block c = does_Block c.args.self.now c.go-in-Block.new.self c.args.statement c.go-in-Block.result c.requires c.go-in-Block.ensures.going
    c.in-Block.body c.items-in-Block.result c.in-Block.is c.items-in-Block.ensures c.go-in-Block.ensures.put
