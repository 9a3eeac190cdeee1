use Rattle.cm_names.proofs.ExpressionLaw.{Resolves}
use Rattle.cm_names.proofs.expression.Resolver.+expression.Given as goal

-- the arguments so far are resolved
abbrev pub invariant-arguments-loop-argument : goal.invariant-arguments-loop-argument
invariant-arguments-loop-argument l =
    Resolves l.self.functions.now l.self.function.now l.variables l.arguments l.argument-index l.resolved l.initial.found l.found
