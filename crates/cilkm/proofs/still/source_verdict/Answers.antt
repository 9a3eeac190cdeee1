use Rattle.std.proofs.Common.{subst, Some}
use Rattle.cilkm.specs.Verdict.{Means}
use Rattle.cilkm.proofs.StillLaw.{cause_from_bytes}
use Rattle.cilkm.proofs.still.source_verdict.Goals as goal

pub returns-clause-cause : goal.returns-clause-cause
returns-clause-cause g c =
    cause_from_bytes c.in_ok-verdict.verdict c.args.command c.in-Ok.bytes (g.I.Source.left c.args.source.now) _ _
    (subst (λ b. Means (Some c.args.command) b c.in_ok-verdict.verdict) c.items.ensures c.in_ok-verdict.ensures) c.in-Ok.ensures.told
