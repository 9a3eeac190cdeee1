use Rattle.std.proofs.Common.{sym, ap, ◌∙◌}
use Rattle.std.specs.Option.{is_some}
use Rattle.std.proofs.lemmas.Bool.{false≢true}
use Rattle.cilkm.specs.Asked.{texts}
use Rattle.cilkm.proofs.SettingLaw.{word_here, one_taken, key_again, no_setting}
use Rattle.cilkm.proofs.setting.read_settings.Goals as goal

pub returns-in_default-clause-none : goal.returns-in_default-clause-none
returns-in_default-clause-none c = λ settings are.
    let here = word_here c.args.command c.args.words.now c.loop-at.at _ c.loop-at.given c.loop-at-test.true c.loop-at.invariant in
    absurd (no_setting c.args.command (texts c.args.words.now) c.loop-at.at _ settings here (λ setting is. false≢true (c.in_default.ensures.none setting is)) are)

pub returns-then-is_some-clause-none : goal.returns-then-is_some-clause-none
returns-then-is_some-clause-none c = λ settings are.
    let here = word_here c.args.command c.args.words.now c.loop-at.at _ c.loop-at.given c.loop-at-test.true c.loop-at.invariant in
    absurd (key_again c.args.command (texts c.args.words.now) c.loop-at.at c.loop-at.given _ c.in-Some.setting settings c.loop-at.invariant here c.in-Some.ensures.some
    (ap is_some (sym c.number.ensures) ∙ sym c.is_some.ensures ∙ c.if-is_some.true) are)

pub loop-at-preserved : goal.loop-at-preserved
loop-at-preserved c =
    let here = word_here c.args.command c.args.words.now c.loop-at.at _ c.loop-at.given c.loop-at-test.true c.loop-at.invariant in
    one_taken c.args.command (texts c.args.words.now) c.loop-at.at c.loop-at.given c.put.new.self _ c.in-Some.setting c.loop-at.invariant here c.in-Some.ensures.some
    (ap is_some (sym c.number.ensures) ∙ sym c.is_some.ensures ∙ c.if-is_some.false) c.put.ensures
