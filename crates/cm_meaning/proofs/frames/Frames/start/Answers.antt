use Rattle.std.proofs.Common.{arith}
use Rattle.cm_meaning.proofs.FramesLaw.{layout_there, offset_there, place_is, place_within}
use Rattle.cm_meaning.proofs.frames.Frames.start.Goals as goal

pub bounds-items-frame : goal.bounds-items-frame
bounds-items-frame c =
    layout_there c.args.self.now c.requires.laid c.args.depth c.args.slot c.requires.live c.requires.there c.index-frame.result.now c.index-frame.ensures _ c.items.ensures

pub bounds-items-slot : goal.bounds-items-slot
bounds-items-slot c =
    offset_there c.args.self.now c.requires.laid c.args.depth c.args.slot c.requires.live c.requires.there c.index-frame.result.now c.index-frame.ensures _ c.items.ensures
    c.index-items-frame.result c.index-items-frame.is _ c.items-2.ensures

pub overflow_add-result : goal.overflow_add-result
overflow_add-result c =
    omega (
      arith,
      c.requires.laid.few,
      place_within c.args.self.now c.requires.laid c.args.depth c.args.slot c.requires.live c.requires.there c.index-frame.result.now
          c.index-frame.ensures _ c.items.ensures c.index-items-frame.result c.index-items-frame.is _ c.items-2.ensures,
    )

pub returns-clause-value : goal.returns-clause-value
returns-clause-value c =
    place_is c.args.self.now c.requires.laid c.args.depth c.args.slot c.requires.live c.requires.there c.index-frame.result.now c.index-frame.ensures _ c.items.ensures
    c.index-items-frame.result c.index-items-frame.is _ c.items-2.ensures

pub returns-clause-within : goal.returns-clause-within
returns-clause-within c =
    place_within c.args.self.now c.requires.laid c.args.depth c.args.slot c.requires.live c.requires.there c.index-frame.result.now c.index-frame.ensures _ c.items.ensures
    c.index-items-frame.result c.index-items-frame.is _ c.items-2.ensures
