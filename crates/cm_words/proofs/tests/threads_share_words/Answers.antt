use Rattle.std.proofs.Common.{rules, refl, ap, ◌∙◌}
use Rattle.std.specs.Prelude.{replicate, slice_set}
use Rattle.cm_share.specs.Share.{whole}
use Rattle.cm_words.specs.Every.{every}
use Rattle.cm_words.specs.Held.{is_held, is_whole, held, each, parted_of, kept_of, in_span}
use Rattle.cm_words.proofs.EveryLaw.{span_of, spans_of, every_other, every_left, every_right, every_again, even_held, odd_held}
use Rattle.cm_words.proofs.tests.threads_share_words.Goals as goal

-- src/tests.rt:59:22
pub part-second-requires-clause-held : goal.part-second-requires-clause-held
part-second-requires-clause-held g c = span_of 64 64 _ (replicate 128 (held whole 0)) c.in_ok-region.ensures.grant refl

pub halve-lent-requires-clause-held : goal.halve-lent-requires-clause-held
halve-lent-requires-clause-held g c = span_of 64 64 _ _
    (c.store-2.ensures.put ∙ ap (λ z. slice_set z 127 (held whole 9)) (c.store.ensures.put ∙ ap (λ z. slice_set z 64 (held whole 5)) (c.part-second.ensures.parted ∙ ap (each (parted_of (in_span 64 64)) 0) c.in_ok-region.ensures.grant)))
    refl

pub part_all-evens-requires-clause-held : goal.part_all-evens-requires-clause-held
part_all-evens-requires-clause-held g c = spans_of (every_other 32 0) _ _ (c.part-second.ensures.kept ∙ ap (each (kept_of (in_span 64 64)) 0) c.in_ok-region.ensures.grant) refl

pub use_page-requires-clause-held : goal.use_page-requires-clause-held
use_page-requires-clause-held g c = every_again is_held 1 64 64 (in_span 64 64) _ c.store-2.new.grant.cells _ _ c.unite-2.new.grant.cells
    (c.join-words.ensures.first.3 ∙ c.halve-lent.ensures.kept)
    (c.join-words.ensures.second.3 ∙ c.halve-lent.ensures.lent)
    c.unite-2.ensures.sum
    (c.store-2.ensures.put ∙ ap (λ z. slice_set z 127 (held whole 9)) (c.store.ensures.put ∙ ap (λ z. slice_set z 64 (held whole 5)) (c.part-second.ensures.parted ∙ ap (each (parted_of (in_span 64 64)) 0) c.in_ok-region.ensures.grant)))
    refl

pub use_page-requires-clause-whole : goal.use_page-requires-clause-whole
use_page-requires-clause-whole g c = every_again is_whole 2 32 64 (in_span 64 64) _ c.store-2.new.grant.cells _ _ c.unite-2.new.grant.cells
    (c.join-words.ensures.first.3 ∙ c.halve-lent.ensures.kept)
    (c.join-words.ensures.second.3 ∙ c.halve-lent.ensures.lent)
    c.unite-2.ensures.sum
    (c.store-2.ensures.put ∙ ap (λ z. slice_set z 127 (held whole 9)) (c.store.ensures.put ∙ ap (λ z. slice_set z 64 (held whole 5)) (c.part-second.ensures.parted ∙ ap (each (parted_of (in_span 64 64)) 0) c.in_ok-region.ensures.grant)))
    refl

pub loop-i-init : goal.loop-i-init
loop-i-init g c = (
  search rules,
  every_left 2 32 0 _ _ _ c.unite.ensures.sum (search rules),
  every_right 2 32 1 _ _ _ c.unite.ensures.sum (search rules),
)

pub load-requires-clause-held : goal.load-requires-clause-held
load-requires-clause-held g c = even_held 32 c.loop-i.words.cells c.loop-i.invariant.1 c.loop-i.i (search rules)

pub load-requires-in-loop-i-clause-held : goal.load-requires-in-loop-i-clause-held
load-requires-in-loop-i-clause-held g c = odd_held 32 c.load.new.grant.cells (ap (λ z. every is_held 2 32 1 z.cells) c.load.ensures.same ∙ c.loop-i.invariant.2) c.loop-i.i (search rules)
