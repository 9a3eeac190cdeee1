use Rattle.std.proofs.Common.{◌++◌, length, refl, sym, ap, ◌∙◌, arith}
use Rattle.std.specs.Prelude.{nat_lt, map}
use Rattle.cm_syntax.specs.Limit.{max_parameter_words}
use Rattle.cm_syntax.specs.Frame.{slots_words}
use Rattle.cm_syntax.specs.Resolution.{function_scope}
use Rattle.cm_names.specs.Passing.{At}
use Rattle.cm_names.proofs.resolver.resolved_parts.Goals as goal

pub returns-clause-wide : goal.returns-clause-wide
returns-clause-wide c =
    let begun : At c.new.result c.new-2.result 0 function_scope = record {
      shown = c.new.ensures;
      next = sym (ap length c.new-2.ensures);
      since = λ x. refl;
      below = tt;
      based = omega arith;
    } in
    let steps = (c.in_ok-parameters.ensures function_scope begun).1 in
    c.is_wide-is_wide.ensures ∙ ap (λ slots. nat_lt max_parameter_words (slots_words slots))
    (c.items-3.ensures ∙ (steps.slots_are ∙ (ap (λ slots. slots ++ map (λ item. item.slot) c.items.result.now) c.new-2.ensures ∙
    ap (λ items. map (λ item. item.slot) items) c.items.ensures)))
