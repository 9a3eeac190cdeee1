use Rattle.cm_meaning.proofs.ReturnLaw.{whole_call}
use Rattle.cm_meaning.proofs.law.spawns_are_calls.Goals as goal

pub returns : goal.returns
returns c = λ program page input x z t f ws h g out n v still held run end_. whole_call program page input x z f ws h g out n t v still held run end_
