use Rattle.std.proofs.Common.{◌≡◌, arith, subst}
use Rattle.cm_meaning.specs.Layout.{AreCleared}
use Rattle.cm_meaning.proofs.KeptLaw.{clear_step, cleared_none}
use Rattle.cm_meaning.proofs.frames.clear_from.Goals as goal

pub loop-index-init : goal.loop-index-init
loop-index-init c = cleared_none c.args.start c.args.words.now.items

pub loop-index-preserved : goal.loop-index-preserved
loop-index-preserved c =
    clear_step c.args.start c.loop-index.index c.args.words.now.items c.loop-index.words.items c.loop-index.invariant
    (omega (arith, c.loop-index.invariant.same_length))

pub returns : goal.returns
returns c =
    let all : c.loop-index.index ≡ c.args.count = omega arith in
    subst (λ n. AreCleared c.args.start n c.args.words.now.items c.loop-index.words.items) all c.loop-index.invariant
