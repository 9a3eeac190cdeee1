use Rattle.std.proofs.Common.{length, ap, arith, ◌∙◌}
use Rattle.cm_meaning.specs.declared.output.Hole.TheVariants as hole
use Rattle.cm_meaning.specs.Output.{filled_at, numbers_of, Filled}
use Rattle.cm_meaning.proofs.OutputLaw.{within_open, laid-filled, ordered-filled, entry_of-Filled}
use Rattle.cm_meaning.proofs.output.Output.fill.Goals as goal

pub index-requires : goal.index-requires
index-requires c =
    let there = within_open c.args.hole c.self.inside.printed _ c.self.view_is c.requires.hole in
    omega (arith, c.self.inside.printed.holes.ok.0)

pub index_mut-requires : goal.index_mut-requires
index_mut-requires c =
    let there = within_open c.args.hole c.self.inside.printed _ c.self.view_is c.requires.hole in
    omega (arith, c.self.inside.printed.holes.ok.0)

pub invariant_of-self : goal.invariant_of-self
invariant_of-self c =
    let numbers = c.self.inside.printed.numbers.items in
    let holes = c.self.inside.printed.holes.items in
    let there = within_open c.args.hole c.self.inside.printed _ c.self.view_is c.requires.hole in
    let filled = hole.Filled c.before-before.result c.piece.inside.printed in
    ordered-filled c.args.hole 0 (length numbers) holes c.index.result.now filled there c.index.ensures c.before-before.ensures c.self.invariant

pub returns : goal.returns
returns c =
    let numbers = c.self.inside.printed.numbers.items in
    let holes = c.self.inside.printed.holes.items in
    let there = within_open c.args.hole c.self.inside.printed _ c.self.view_is c.requires.hole in
    let filled = hole.Filled c.before-before.result c.piece.inside.printed in
    let piece = entry_of-Filled c.before-before.result c.piece.inside.printed ∙ ap (λ entries. Filled (numbers_of entries)) c.piece.view_is in
    laid-filled c.args.hole 0 numbers (numbers_of c.args.piece) holes c.index.result.now filled there c.index.ensures c.before-before.ensures piece
    ∙ ap (filled_at c.args.hole (numbers_of c.args.piece)) c.self.view_is
