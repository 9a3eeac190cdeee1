use Rattle.cm_meaning.proofs.WriteStepLaw.{does_array}
use Rattle.cm_meaning.proofs.evaluator.Evaluator.declare.Goals as goal

pub returns-in-Array : goal.returns-in-Array
returns-in-Array c = does_array c.args.self.now c.go.new.self c.clear.new.self c.args.items c.in-Some.more c.in-Some.item.now c.in-Array.field-0 c.go.result
    c.requires c.in-Some.ensures.cases.0 c.in-Array.is (record { laid = c.clear.ensures.laid; place = c.clear.ensures.place; calls = c.clear.ensures.calls })
    c.clear.ensures.shows c.go.ensures.going c.go.ensures.put
