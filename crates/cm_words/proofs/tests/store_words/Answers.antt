use Rattle.std.proofs.Common.{rules, ap, ◌∙◌}
use Rattle.cm_words.specs.Every.{every}
use Rattle.cm_words.specs.Held.{is_whole}
use Rattle.cm_words.proofs.EveryLaw.{each_of, whole_is, put_every}
use Rattle.cm_words.proofs.tests.store_words.Goals as goal

pub store-requires-clause-whole : goal.store-requires-clause-whole
store-requires-clause-whole c = whole_is _ (each_of is_whole 2 32 c.args.at c.loop-i.grant.cells c.loop-i.invariant.2 c.loop-i.i (search rules))

pub loop-i-preserved : goal.loop-i-preserved
loop-i-preserved c = (
  search rules,
  search rules,
  ap (every is_whole 2 32 c.args.at) c.store.ensures.put ∙ put_every 2 32 c.args.at c.loop-i.grant.cells _ _ c.loop-i.invariant.2,
  c.requires.at,
)
