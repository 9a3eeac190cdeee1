use Rattle.cm_meaning.proofs.ProgressLaw.{noted_is}
use Rattle.cm_meaning.proofs.elision.Most.note.Goals as goal

pub returns : goal.returns
returns c = noted_is c.args.self.now c.args.evaluator.now _ _ _ _ c.requires.kept.program c.used_bytes.ensures c.cilk_calls.ensures c.max-self.ensures c.max-self-2.ensures
