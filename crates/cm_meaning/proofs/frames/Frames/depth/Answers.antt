use Rattle.std.proofs.Common.{length, arith, ap}
use Rattle.cm_meaning.specs.Layout.{program_in, calls_in}
use Rattle.cm_meaning.proofs.FramesLaw.{frame_count, count_within}
use Rattle.cm_meaning.proofs.frames.Frames.depth.Goals as goal

pub overflow_cast-result : goal.overflow_cast-result
overflow_cast-result c =
    omega (
      arith,
      c.len.ensures,
      c.args.self.now.frames.ok.0,
      ap length c.requires.placed,
      frame_count (program_in c.args.self.now) (calls_in c.args.self.now),
      count_within (program_in c.args.self.now) (calls_in c.args.self.now) c.requires.known,
      c.requires.within,
      c.requires.few,
    )
