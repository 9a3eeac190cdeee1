use Rattle.std.proofs.Common.{take, ap, ◌∙◌}
use Rattle.std.specs.Prelude.{option_map, ◌==◌, ◌||◌}
use Rattle.cm_syntax.specs.Limit.{max_functions}
use Rattle.cm_names.specs.Finding.{fault_of}
use Rattle.cm_names.proofs.ResolverLaw.{large, kept_behind}
use Rattle.cm_names.proofs.resolver.resolved_function.Goals as goal

pub returns-clause-least : goal.returns-clause-least
returns-clause-least c = λ earlier is.
    let functions = c.args.functions.now in
    let f = c.args.function.now in
    let parts = c.in_ok-parts.parts in
    let least = option_map fault_of c.args.least in
    let is_large = large functions f c.items.result.now parts.found least c.items-2.result.now c.items-3.result.now c.has_faulty_mention.result c.has_large_frame-has_large_frame.result
    (c.items.ensures ∙ c.in_ok-parts.ensures.slots) c.items-2.ensures c.in_ok-parts.ensures.found c.has_faulty_mention.ensures
    (c.items-3.ensures ∙ c.in_ok-parts.ensures.body) c.has_large_frame-has_large_frame.ensures in
    rw (c.least.ensures) (kept_behind functions f (take c.args.index functions) c.args.index earlier least
    parts.found c.note_where.new.self c.note_where-2.new.self c.note_where-3.new.self c.note_where-4.new.self
    c.is_second-is_second.result c.is_wrong_main-is_wrong_main.result c.has_large_frame-has_large_frame.result c.is_excess-is_excess.result
    is c.in_ok-parts.ensures.found c.is_second-is_second.ensures c.note_where.ensures c.is_wrong_main-is_wrong_main.ensures c.note_where-2.ensures
    is_large c.note_where-3.ensures (c.is_excess-is_excess.ensures ∙ ap (λ b. c.args.index == max_functions || b) c.in_ok-parts.ensures.wide) c.note_where-4.ensures)
