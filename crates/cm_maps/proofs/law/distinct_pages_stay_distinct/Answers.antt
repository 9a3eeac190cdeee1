use Rattle.std.proofs.Common.{◌≢◌, ◌∙◌, sym, subst, arith}
use Rattle.std.proofs.lemmas.Grind.{common_steps}
use Rattle.std.proofs.lemmas.List.{get_or-take}
use Rattle.std.proofs.lemmas.List.Elements.{Contains-get_or}
use Rattle.std.proofs.lemmas.List.Quantifiers.{all_pairs_push}
use Rattle.std.specs.List.{Contains}
use Rattle.cm_maps.proofs.law.distinct_pages_stay_distinct.Goals as goal

pub returns-clause-added : goal.returns-clause-added
returns-clause-added c = λ pages number apart new. all_pairs_push (λ x y. x ≢ y) pages number apart
    (λ k d lt same. new (subst (Contains pages) same (Contains-get_or pages k d lt)))

pub returns-clause-kept : goal.returns-clause-kept
returns-clause-kept c = λ pages keep apart i j d before within same. apart i j d before (grind (arith, common_steps))
    (sym (get_or-take keep pages i d (grind (arith, common_steps))) ∙ same ∙ get_or-take keep pages j d (grind (arith, common_steps)))
