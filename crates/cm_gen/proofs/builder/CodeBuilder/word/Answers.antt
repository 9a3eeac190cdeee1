use Rattle.std.proofs.Common.{◌-◌, ◌<◌, length, ap, arith}
use Rattle.cm_gen.specs.Builder.{reach}
use Rattle.cm_gen.proofs.parts.BuilderLaw.{length_code, within_at}
use Rattle.cm_gen.proofs.builder.CodeBuilder.word.Goals as goal

pub returns-clause-reach : goal.returns-clause-reach
returns-clause-reach c =
    let items = c.self.inside.words.items in
    let i = c.len.result - 1 - c.args.before in
    let lt : i < length items = omega (arith, c.len.ensures, c.self.inside.words.ok.0, c.requires, ap length c.self.view_is, length_code items) in
    let most = within_at (length items) items i c.index.result.now c.self.invariant lt in
    omega (arith, most, ap reach c.index.ensures, ap length c.self.view_is, length_code items)
