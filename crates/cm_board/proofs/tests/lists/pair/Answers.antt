use Rattle.std.proofs.Common.{List, ap, ◌∙◌, Option, Some, set}
use lib.ListN.{get_elem?}
use Rattle.cm_board.specs.Slots.{first_free}
use Rattle.cm_board.proofs.tests.lists.pair.Goals as goal

pub first_answer-requires : goal.first_answer-requires
first_answer-requires c =
    let ask = c.of-2.result in
    let first = ap (λ (l : List (Option _)). set l (first_free l) (Some ask)) c.in-Ok.ensures.owner.1 in
    let parked = c.in-Last.ensures.last.2 ∙ (c.in-Ok-post.ensures.owner.1 ∙ (c.in-Ok-spawn.ensures.spawned ∙ first)) in
    (ask, ap (λ l. get_elem? l 0) parked, ap (λ v. v.items) c.of-2.ensures)
