use Rattle.std.proofs.Common.{refl}
use Rattle.cilkm.proofs.SourceLaw.{compiles_as, stops_making}
use Rattle.cilkm.proofs.program.compile_source.Goals as goal

pub returns-clause-compiled : goal.returns-clause-compiled
returns-clause-compiled c =
    compiles_as c.args.source.now c.in_ok-checked.checked c.args.form c.args.page c.compile.result c.in_ok-checked.ensures.program
    c.program-program.ensures.sound c.compile.ensures.compiled

pub returns-clause-stop : goal.returns-clause-stop
returns-clause-stop c =
    stops_making c.args.source.now c.in_ok-checked.checked c.in_ok-checked.checked c.args.form c.args.page c.compile.result c.in_ok-checked.ensures.program
    refl c.compile.ensures.stop
