use Rattle.cm_syntax.specs.Walk.{event, mentions, next}
use Rattle.cm_syntax.specs.Evaluation.{mention_order}
use Rattle.cm_lend.proofs.statement.split.Goals as goal

pub returns : goal.returns
returns c = λ p q h i.
    let whole = mention_order c.args.whole.now in
    let left = mention_order c.args.left.now in
    let right = mention_order c.args.right.now in
    let l = event (mentions c.args.left.now.name c.args.close) in
    let r = event (mentions c.args.right.now.name c.args.close) in
    let brace = next l r in
    let inside = next q brace in
    let right_on = next right inside in
    let left_on = next left right_on in
    let whole_on = next whole left_on in
    c.in_ok-all.ensures p whole_on h
    (c.in_ok-behind.ensures whole left_on c.in_ok-mention-3.ensures
    (c.in_ok-parts-2.ensures left right_on c.in_ok-mention-2.ensures
    (c.in_ok-parts.ensures right inside c.in_ok-mention.ensures
    (c.in_ok-inside.ensures q brace i (c.in_ok-brace.ensures l r c.in_ok-mention_at.ensures c.in_ok-mention_at-2.ensures)))))
