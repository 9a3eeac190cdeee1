use Rattle.std.proofs.Common.{◌-◌, length, set, ap, ◌∙◌}
use Rattle.cm_gen.specs.Builder.{back}
use Rattle.cm_gen.proofs.parts.StatementLaw.{endless_closed}
use Rattle.cm_gen.proofs.statement.endless_head.Goals as goal

pub returns : goal.returns
returns c = λ slots inner rest whole size.
    let closed = c.close.ensures ∙ ap (λ n. set c.tick.new.code (length c.tick.new.code - 1 - c.args.behind) (back (n - c.args.behind - 1))) c.len.ensures in
    endless_closed slots inner rest c.args.code.now c.tick.new.code c.close.new.self c.args.behind size whole c.in_ok-tick.ensures closed
