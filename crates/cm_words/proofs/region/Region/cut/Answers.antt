use Rattle.std.proofs.Common.{ap, ◌∙◌}
use Rattle.std.specs.Prelude.{length}
use Rattle.cm_words.proofs.HeldLaw.{length_each}
use Rattle.cm_words.proofs.ViewLaw.{cuts}
use Rattle.cm_words.proofs.StepLaw.{some_words, cut_inside, here_in}
use Rattle.cm_words.proofs.region.Region.cut.Goals as goal

pub split_seat-requires : goal.split_seat-requires
split_seat-requires g c = (here_in _ _ _ c.grant.view_is c.requires.here, some_words _ _ c.args.self.now.counted c.args.self.now.some_word, cuts g.N.Places.inside _ _ _)

pub invariant_of-grant : goal.invariant_of-grant
invariant_of-grant g c = let e = c.split_seat.ensures.2 in (
  ap (λ m. m.1) e ∙ c.grant.invariant.0,
  cut_inside _ _ _ _ (ap (λ m. length m.0.cells) e ∙ length_each _ _ _) c.grant.invariant.1 (ap (λ z. z.words) c.split_seat.ensures.0),
  ap (λ m. m.0.more) e,
)

pub invariant_of-result : goal.invariant_of-result
invariant_of-result g c = let e = c.split_seat.ensures.4 in (
  ap (λ m. m.1) e,
  cut_inside _ _ _ _ (ap (λ m. length m.0.cells) e ∙ length_each _ _ _) c.grant.invariant.1 (ap (λ z. z.words) c.split_seat.ensures.3),
  ap (λ m. m.0.more) e,
)
