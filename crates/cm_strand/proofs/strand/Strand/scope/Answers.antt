use Rattle.std.proofs.Common.{◌∙◌}
use Rattle.cm_strand.proofs.LogLaw.{innermost}
use Rattle.cm_strand.proofs.strand.Strand.scope.Goals as goal

pub returns : goal.returns
returns c = λ S h. innermost S.scopes c.deref.result.now c.copied.result (c.deref.ensures.value ∙ h.scopes) (c.copied.ensures ∙ c.last.ensures.value)
