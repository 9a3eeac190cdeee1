use Rattle.std.proofs.Common.{◌∙◌}
use Rattle.std.specs.Prelude.{option_map}
use Rattle.cm_names.specs.Finding.{fault_of}
use Rattle.cm_names.proofs.ResolverLaw.{kept_of_tree}
use Rattle.cm_names.proofs.resolver.resolved_tree.Goals as goal

pub returns-clause-least : goal.returns-clause-least
returns-clause-least c =
    rw (c.least.ensures) (kept_of_tree c.args.tree.now c.in_ok-functions.functions (option_map fault_of c.in_ok-resolved.resolved.least)
    c.behind-found.result c.note_where.new.self c.number-main.result c.is_none.result c.in_ok-name.name
    (c.in_ok-functions.ensures ∙ c.items.ensures) c.in_ok-resolved.ensures.least c.behind-found.ensures c.in_ok-name.ensures c.number-main.ensures c.is_none.ensures c.note_where.ensures)
