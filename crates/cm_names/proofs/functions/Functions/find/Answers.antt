use Rattle.std.proofs.Common.{sym, ap, ◌∙◌}
use Rattle.std.specs.Prelude.{slice_get}
use Rattle.cm_syntax.specs.Text.{is_same}
use Rattle.cm_names.proofs.TableLaw.{find-Some, find-None, is_item}
use Rattle.cm_names.proofs.functions.Functions.find.Goals as goal

pub returns-in-None : goal.returns-in-None
returns-in-None c = sym (find-None (λ g. is_same g.name.name c.args.name.now) c.args.self.now c.in-None.ensures)

pub returns-in-Some : goal.returns-in-Some
returns-in-Some c =
    let some = find-Some (λ g. is_same g.name.name c.args.name.now) c.args.self.now c.in-Some.index c.in-Some.ensures in
    is_item c.self.inside.functions.now c.in-Some.index c.get.result c.get.ensures.lookup ∙ (ap (λ xs. slice_get xs c.in-Some.index) c.self.view_is ∙ sym some)
