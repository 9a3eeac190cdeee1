use Rattle.std.proofs.Common.{◌≡◌, ◌+◌, ◌≤◌, drop}
use Rattle.cm_syntax.specs.Frame as frame
use Rattle.cm_syntax.specs.Frame.{capped}
use Rattle.cm_syntax.specs.Limit.{max_frame_words}
use Rattle.cm_syntax.specs.declared.expr.Expr.TheVariants as expression
use Rattle.cm_syntax.proofs.FrameLaw.{size_of, argument_size, arguments_size, rest_of_call}
use Rattle.cm_syntax.proofs.frame.+expression.Given as goal

abbrev pub decreases-argument_temporaries : goal.decreases-argument_temporaries
decreases-argument_temporaries g l = argument_size l.argument.now

abbrev pub decreases-call_temporaries : goal.decreases-call_temporaries
decreases-call_temporaries g l = arguments_size l.call.now.arguments + 1

abbrev pub decreases-temporaries : goal.decreases-temporaries
decreases-temporaries g l = size_of l.value.now

-- with the arguments that are left, what was found comes to the whole
abbrev pub invariant-call_temporaries-loop-argument : goal.invariant-call_temporaries-loop-argument
invariant-call_temporaries-loop-argument g l =
    (capped (rest_of_call (drop l.argument-index l.argument-items) l.most l.used) ≡ capped (frame.temporaries (expression.Call l.call) l.depth)) ×
    (l.most ≤ max_frame_words + 1) × (l.used ≤ max_frame_words + 1)
