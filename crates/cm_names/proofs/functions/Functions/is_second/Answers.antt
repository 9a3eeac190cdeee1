use Rattle.cm_syntax.specs.Text.{is_same}
use Rattle.cm_names.proofs.TableLaw.{earlier-None, earlier-Some}
use Rattle.cm_names.proofs.functions.Functions.is_second.Goals as goal

pub returns-in-None : goal.returns-in-None
returns-in-None c = earlier-None (λ g. is_same g.name.name c.args.name.now) c.args.self.now c.args.index c.in-None.ensures

pub returns-in-Some : goal.returns-in-Some
returns-in-Some c = earlier-Some (λ g. is_same g.name.name c.args.name.now) c.args.self.now c.args.index c.in-Some.first c.in-Some.ensures
