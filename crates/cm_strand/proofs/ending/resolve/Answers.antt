use Rattle.std.proofs.Common.{ap, sym, ◌∙◌, subst, arith, length}
use Rattle.std.specs.Int.{w32, cast_signed, cast_unsigned}
use Rattle.std.proofs.lemmas.Int.{of_z-to_z}
use Rattle.cm_isa.specs.declared.convention.TheConstants as reg
use Rattle.cm_strand.specs.Turn.{decided, entries_sum, own_end}
use Rattle.cm_strand.specs.Fall.{FallIs, fall_from}
use Rattle.cm_strand.specs.declared.ending.Fall.{Fall}
use Rattle.cm_strand.specs.declared.ending.Fall.TheVariants as fall
use Rattle.cm_strand.proofs.LogLaw.{count_holes}
use Rattle.cm_strand.proofs.FallLaw.{log_falls}
use Rattle.cm_strand.proofs.ending.resolve.Goals as goal

pub first_fall-fall-requires : goal.first_fall-fall-requires
first_fall-fall-requires c =
    let (S, h, none, all) = c.requires in
    let same = ap length (c.as_slice.ensures.value ∙ h.log.holes) in let count = count_holes S.log in let few = h.log.few in omega (arith, same, count, few)

pub decide-requires : goal.decide-requires
decide-requires c =
    let (S, h, none, all) = c.requires in let P : Fall → Type 0 = λ f. FallIs f S.log in
    (S.log, h.log.output, subst P (sym (c.first_fall-fall.ensures ∙ ap (fall_from 0 (fall.None 0)) (c.as_slice.ensures.value ∙ h.log.holes))) (log_falls S.log all))

pub returns-clause-end : goal.returns-clause-end
returns-clause-end c = λ S h all.
    let P : Fall → Type 0 = λ f. FallIs f S.log in
    let is = subst P (sym (c.first_fall-fall.ensures ∙ ap (fall_from 0 (fall.None 0)) (c.as_slice.ensures.value ∙ h.log.holes))) (log_falls S.log all) in
    let within = c.get.type_inv in
    let value = ap (λ z. cast_signed w32 (cast_unsigned w32 z)) c.cast_signed-value.ensures ∙ ap (cast_signed w32) (of_z-to_z w32 c.get.result (omega (arith, within)))
    ∙ ap (cast_signed w32) (c.get.ensures.value ∙ ap (λ f. f reg.RESULT) (sym h.registers)) in
    c.decide.ensures.end S.log h.log.output is
    ∙ (λ i. decided (sym h.start i) (c.used-own.ensures S h i) (entries_sum S.log) (own_end (sym h.course i) (value i)))
