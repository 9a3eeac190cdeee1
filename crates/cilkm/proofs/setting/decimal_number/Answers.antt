use Rattle.std.proofs.Common.{sym, ◌∙◌, subst}
use Rattle.std.proofs.lemmas.Bool.{true≢false}
use Rattle.cilkm.specs.Setting.{IsPlain}
use Rattle.cilkm.proofs.SettingLaw.{plain_parsed, decimal_parsed, decimal_is_plain}
use Rattle.cilkm.proofs.setting.decimal_number.Goals as goal

pub returns-then-is_plain-clause-some : goal.returns-then-is_plain-clause-some
returns-then-is_plain-clause-some c =
    plain_parsed c.args.text.now c.parse.result c.ok.result c.parse.ensures.value.0 (subst IsPlain c.as_bytes.ensures.value (c.is_plain.ensures.0 c.if-is_plain.true)) c.ok.ensures.value

pub returns-then-is_plain-clause-none : goal.returns-then-is_plain-clause-none
returns-then-is_plain-clause-none c = λ number small e. decimal_parsed c.args.text.now c.parse.result c.ok.result number c.parse.ensures.value.0 small e c.ok.ensures.value

pub returns-else-is_plain-clause-none : goal.returns-else-is_plain-clause-none
returns-else-is_plain-clause-none c = λ number small e.
    absurd (true≢false (sym (c.is_plain.ensures.1 (subst IsPlain (sym c.as_bytes.ensures.value) (decimal_is_plain c.args.text.now number small e))) ∙ c.if-is_plain.false))
