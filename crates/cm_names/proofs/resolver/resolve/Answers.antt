use Rattle.std.proofs.Common.{Some}
use Rattle.cm_syntax.specs.Fault.{faults}
use Rattle.cm_names.specs.Finding.{IsLeast, fault_of, variant_of}
use Rattle.cm_names.proofs.FaultLaw.{least-answer}
use Rattle.cm_names.proofs.ResolverLaw.{refused, gives}
use Rattle.cm_names.proofs.resolver.resolve.Goals as goal

pub returns-clause-refusal : goal.returns-clause-refusal
returns-clause-refusal c =
    let least : IsLeast (Some (fault_of c.in-Some.fault)) (faults c.args.tree) = rw c.in-Some.is at c.in_ok-resolved.ensures.least in
    rw (c.refusal.ensures) (refused c.args.tree (variant_of c.in-Some.fault.kind) c.in-Some.fault.at (least-answer c.args.tree (fault_of c.in-Some.fault) least))

pub returns-clause-each_refusal : goal.returns-clause-each_refusal
returns-clause-each_refusal c = λ at variant is.
    let least : IsLeast (Some (fault_of c.in-Some.fault)) (faults c.args.tree) = rw c.in-Some.is at c.in_ok-resolved.ensures.least in
    gives c.args.tree c.in-Some.fault c.refusal.result at variant least c.refusal.ensures is
