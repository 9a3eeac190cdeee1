use Rattle.std.proofs.Common.{sym, ◌∙◌}
use Rattle.cilkm.proofs.AskedLaw.{asked_with, within}
use Rattle.cilkm.proofs.command.parse.Goals as goal

pub returns-in-Some-read_settings-clause-asked : goal.returns-in-Some-read_settings-clause-asked
returns-in-Some-read_settings-clause-asked c =
    let some = c.in-Some-read_settings.ensures.some in
    asked_with c.args.words.now _ c.in-len1-up.len_at_least c.in-Some.name (sym c.of.ensures ∙ c.in-Some.is) some.0 c.command_with.result some.1 (c.command_with.ensures some.0 some.2)

pub returns-in-Some-read_settings-clause-within : goal.returns-in-Some-read_settings-clause-within
returns-in-Some-read_settings-clause-within c =
    let some = c.in-Some-read_settings.ensures.some in
    within c.in-Some.name some.0 c.command_with.result some.1.allowed (c.command_with.ensures some.0 some.2)
