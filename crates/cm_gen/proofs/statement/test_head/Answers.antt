use Rattle.std.proofs.Common.{◌-◌, ◌++◌, length, set, ap, ◌∙◌}
use Rattle.cm_gen.specs.Builder.{back}
use Rattle.cm_gen.specs.Part.{straight}
use Rattle.cm_gen.specs.Expression.{skip_unless}
use Rattle.cm_gen.proofs.parts.StatementLaw.{test_closed}
use Rattle.cm_gen.proofs.statement.test_head.Goals as goal

pub returns : goal.returns
returns c = λ inner rest whole size.
    let second = c.in_ok-skip_unless.ensures ∙ ap (λ n. straight (skip_unless (n - c.args.behind)) ++ c.tick.new.code) c.len.ensures in
    let closed = c.close.ensures ∙ ap (λ n. set c.expression.new.code (length c.expression.new.code - 1 - c.args.behind) (back (n - c.args.behind - 1))) c.len-2.ensures in
    test_closed _ inner rest c.args.code.now c.tick.new.code c.skip_unless.new.code c.expression.new.code c.close.new.self c.args.behind size whole c.in_ok-tick.ensures second c.in_ok-expression.ensures closed
