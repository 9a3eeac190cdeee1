use Rattle.std.proofs.Common.{◌≡◌, drop}
use Rattle.cm_syntax.specs.declared.name.Name.{Name}
use Rattle.cm_names.specs.Visible.{stack_of}
use Rattle.cm_names.specs.Passing.{body_count}
use Rattle.cm_names.proofs.pass.take_back_body.Given as goal

-- with the statements that are left, each stack comes to the one without what they declared
abbrev pub invariant-loop-statement : goal.invariant-loop-statement
invariant-loop-statement l = (x : Name) → drop (body_count x (drop l.statement-index l.body)) (stack_of l.variables x) ≡ drop (body_count x l.body) (stack_of l.initial.variables x)
