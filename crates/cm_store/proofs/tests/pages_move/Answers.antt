use Rattle.std.proofs.Common.{refl, ap, ◌∙◌}
use Rattle.std.specs.Prelude.{replicate}
use Rattle.cm_share.specs.Share.{whole}
use Rattle.cm_words.specs.Held.{held, cell, each, in_span, kept_of, parted_of}
use Rattle.cm_words.proofs.EveryLaw.{span_of}
use Rattle.cm_store.proofs.PagesLaw.{exact_of, only_page, put_two, moved_last, kept_first}
use Rattle.cm_store.proofs.tests.pages_move.Goals as goal

pub part-second-requires-clause-held : goal.part-second-requires-clause-held
part-second-requires-clause-held g c = span_of 64 64 _ (replicate 128 (held whole 0)) c.in_ok-region.ensures.grant refl

pub of-requires-clause-exact : goal.of-requires-clause-exact
of-requires-clause-exact g c = exact_of 0 64 _ _ (c.part-second.ensures.kept ∙ ap (each (kept_of (in_span 64 64)) 0) c.in_ok-region.ensures.grant) refl

pub of-requires-2-clause-exact : goal.of-requires-2-clause-exact
of-requires-2-clause-exact g c = exact_of 64 64 _ _ (c.part-second.ensures.parted ∙ ap (each (parted_of (in_span 64 64)) 0) c.in_ok-region.ensures.grant) refl

pub store-requires-clause-here : goal.store-requires-clause-here
store-requires-clause-here g c = ap (λ z. z.region) (c.split-number.ensures.parts.1 ∙ ap (λ z. z.words) ((only_page c.of-2.result _ _ _ (moved_last _ _ _ _ _ _ (put_two _ _ c.in_ok-store.store c.give.new.self c.give-2.new.self (ap (λ z. z.pages) c.in_ok-store.ensures) c.give.ensures c.give-2.ensures) (ap (λ z. z.pages) c.in_ok-other.ensures) c.cut.ensures.moved) c.take.ensures.taken) ∙ c.of-2.ensures)) ∙ c.part-second.ensures.here.1 ∙ c.in_ok-region.ensures.here

pub store-requires-clause-whole : goal.store-requires-clause-whole
store-requires-clause-whole g c = (0, ap (λ z. cell z.cells 127) (c.split-number.ensures.parts.1 ∙ ap (λ z. z.words) ((only_page c.of-2.result _ _ _ (moved_last _ _ _ _ _ _ (put_two _ _ c.in_ok-store.store c.give.new.self c.give-2.new.self (ap (λ z. z.pages) c.in_ok-store.ensures) c.give.ensures c.give-2.ensures) (ap (λ z. z.pages) c.in_ok-other.ensures) c.cut.ensures.moved) c.take.ensures.taken) ∙ c.of-2.ensures)) ∙ ap (λ z. cell z 127) (c.part-second.ensures.parted ∙ ap (each (parted_of (in_span 64 64)) 0) c.in_ok-region.ensures.grant))

pub load-requires-clause-here : goal.load-requires-clause-here
load-requires-clause-here g c = c.store-2.ensures.here ∙ ap (λ z. z.region) (c.split-number.ensures.parts.1 ∙ ap (λ z. z.words) ((only_page c.of-2.result _ _ _ (moved_last _ _ _ _ _ _ (put_two _ _ c.in_ok-store.store c.give.new.self c.give-2.new.self (ap (λ z. z.pages) c.in_ok-store.ensures) c.give.ensures c.give-2.ensures) (ap (λ z. z.pages) c.in_ok-other.ensures) c.cut.ensures.moved) c.take.ensures.taken) ∙ c.of-2.ensures)) ∙ c.part-second.ensures.here.1 ∙ c.in_ok-region.ensures.here

pub load-requires-2-clause-here : goal.load-requires-2-clause-here
load-requires-2-clause-here g c = ap (λ z. z.region) (c.split-number-2.ensures.parts.1 ∙ ap (λ z. z.words) ((only_page c.of.result _ _ _ (kept_first _ _ _ _ _ _ (put_two _ _ c.in_ok-store.store c.give.new.self c.give-2.new.self (ap (λ z. z.pages) c.in_ok-store.ensures) c.give.ensures c.give-2.ensures) c.cut.ensures.moved) c.take-2.ensures.taken) ∙ c.of.ensures)) ∙ c.part-second.ensures.here.0 ∙ c.in_ok-region.ensures.here
