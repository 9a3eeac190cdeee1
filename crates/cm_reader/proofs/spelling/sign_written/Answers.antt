use Rattle.std.proofs.Common.{◌≡◌, ◌∙◌, ap, subst, length}
use Rattle.std.specs.List.{find, IsFirstAndRest}
use Rattle.std.specs.Option.{MatchOption}
use Rattle.cm_syntax.specs.Text.{is_same, sign_text}
use Rattle.cm_reader.proofs.SpellingLaw.{sign_written-from}
use Rattle.cm_reader.proofs.spelling.sign_written.Goals as goal

pub returns-in-Some : goal.returns-in-Some
returns-in-Some c =
    let apart = subst (λ o. MatchOption o (length c.args.text.now ≡ 0) (λ p. IsFirstAndRest c.args.text.now p.0.now p.1.now)) c.in-Some.is c.split_first.ensures.cases in
    c.sign_among.ensures ∙ (ap (find (λ s. is_same (sign_text s) c.args.text.now)) c.signs_from.ensures ∙
    sign_written-from c.args.text.now _ _ apart.0)
