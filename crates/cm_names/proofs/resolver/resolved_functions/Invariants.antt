use Rattle.cm_names.proofs.ResolverLaw.{AreResolved}
use Rattle.cm_names.proofs.resolver.resolved_functions.Given as goal

-- the functions so far are resolved
abbrev pub invariant-loop-index : goal.invariant-loop-index
invariant-loop-index l = AreResolved l.functions l.index l.resolved l.least
