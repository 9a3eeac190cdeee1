use Rattle.std.proofs.lemmas.Result.{on_ok_weaker}
use Rattle.cm_syntax.specs.Rest.{called}
use Rattle.cm_gen.specs.declared.form.Form.TheVariants.{Serial}
use Rattle.cm_gen.proofs.parts.CodeLaw.{behind_one}
use Rattle.cm_gen.proofs.parts.ExpressionLaw.{invokes-Call}
use Rattle.cm_gen.proofs.simple.invoke.Goals as goal

pub arguments-requires : goal.arguments-requires
arguments-requires c = (invokes-Call c.args.call.now c.items.result.now c.args.layout.now c.items.ensures c.requires).fits

pub returns : goal.returns
returns c =
    let parts = invokes-Call c.args.call.now c.items.result.now c.args.layout.now c.items.ensures c.requires in
    on_ok_weaker _ (behind_one _ _ _ _ _ _ c.in_ok-call.ensures (parts.code Serial called)) c.arguments.ensures
