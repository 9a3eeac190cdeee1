use Rattle.std.proofs.Common.{◌∷◌, [], ◌++◌, ap, ◌∙◌, arith}
use Rattle.cm_meaning.specs.Output.{hole_count, Open}
use Rattle.cm_strand.specs.Seen.{hole_of, fresh_hole}
use Rattle.cm_strand.proofs.LogLaw.{count_output}
use Rattle.cm_strand.proofs.log.Log.hole.Goals as goal

pub returns-clause-number : goal.returns-clause-number
returns-clause-number c = λ log h. c.in_ok-number.ensures.number ∙ ap hole_count h.output ∙ count_output log

pub returns-clause-ok : goal.returns-clause-ok
returns-clause-ok c = λ log h request. record {
  output = c.in_ok-number.ensures.ok ∙ ap (λ l. l ++ Open ∷ []) h.output;
  holes = c.push_reserved.ensures.items ∙ ap (λ l. l ++ hole_of (fresh_hole c.args.used c.args.target request) ∷ []) c.reserve.ensures.items ∙ ap (λ l. l ++ hole_of (fresh_hole c.args.used c.args.target request) ∷ []) h.holes;
  paid = let before = h.paid in omega (arith, before);
  few = let count = c.in_ok-number.ensures.number ∙ ap hole_count h.output ∙ count_output log in omega (arith, count);
}
