use Rattle.cm_lend.proofs.AgainLaw.{list_again}
use Rattle.cm_lend.proofs.breach.+again.Goals as goal

pub returns-in-len1-up : goal.returns-in-len1-up
returns-in-len1-up t c =
    list_again c.args.passed.now _ c.once_more.result c.again.result c.better.result c.in-len1-up.len_at_least c.once_more.ensures c.again.ensures
    c.better.ensures
