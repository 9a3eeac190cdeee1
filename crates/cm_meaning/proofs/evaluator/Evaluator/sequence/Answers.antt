use Rattle.cm_meaning.proofs.WriteStepLaw.{does_no_statement, does_statements}
use Rattle.cm_meaning.proofs.evaluator.Evaluator.sequence.Goals as goal

pub returns-in-None : goal.returns-in-None
returns-in-None c = does_no_statement c.args.self.now c.idle.new.self c.args.statements c.idle.result c.requires c.idle.ensures.going
    c.in-None.ensures.cases c.idle.ensures.put

pub returns-in-Some : goal.returns-in-Some
returns-in-Some c = does_statements c.args.self.now c.then.new.self c.args.statements c.then.result c.requires c.then.ensures.going
    c.in-Some.first c.in-Some.more c.in-Some.ensures.cases.0 c.then.ensures.put
