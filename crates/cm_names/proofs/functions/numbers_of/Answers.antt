use Rattle.std.proofs.Common.{◌≡◌, ◌∙◌, sym, ap, if◌then◌else◌, None, Some, take, arith}
use Rattle.std.specs.Prelude.{position}
use Rattle.std.specs.Option.{option_or}
use Rattle.cm_syntax.specs.Text.{is_same}
use Rattle.cm_names.proofs.TableLaw.{position-more}
use Rattle.cm_names.proofs.functions.numbers_of.Goals as goal

pub loop-index-preserved : goal.loop-index-preserved
loop-index-preserved c = λ x.
    let more = position-more (λ g. is_same g.name.name x) c.args.functions.now c.loop-index.index c.index-functions-index.result c.loop-index-test.true c.index-functions-index.is in
    let noted = c.in_ok-note_function.ensures x in
    let before = c.loop-index.invariant x in
    let same : c.in-Ok.number ≡ c.loop-index.index = omega arith in
    noted ∙ (ap (λ o. option_or o (if is_same c.index-functions-index.result.name.name x then Some c.in-Ok.number else None)) before ∙
    (ap (λ n. option_or (position (λ g. is_same g.name.name x) (take c.loop-index.index c.args.functions.now)) (if is_same c.index-functions-index.result.name.name x then Some n else None)) same ∙ sym more))
