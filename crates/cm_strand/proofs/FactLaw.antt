-- All that the proofs know of the code of a build, as clauses of cm_gen say it.
use Rattle.std.proofs.Common.{◌≡◌, ℕ, ◌<◌, ◌^◌, List}
use Rattle.std.specs.Prelude.{ℤ}
use Rattle.cm_isa.specs.declared.convention.TheConstants as reg
use Rattle.cm_isa.specs.Operation.{ecall}
use Rattle.cm_isa.specs.Register.{with_register}
use Rattle.cm_isa.specs.Address.{InstructionAt}
use Rattle.cm_isa.specs.Machine.{Machine, Mapped, StepsTo}
use Rattle.cm_isa.specs.Run.{Extends}
use Rattle.cm_isa.proofs.Image.{image_is_one}
use Rattle.cm_syntax.specs.declared.stmt.Program.{Program}
use Rattle.cm_syntax.specs.Stack.{Stack, StackSum}
use Rattle.cm_syntax.specs.Rest.{Control}
use Rattle.cm_meaning.specs.Activation.{end_count}
use Rattle.cm_meaning.proofs.WeightLaw.{lowers}
use Rattle.cm_meaning.proofs.ShiftLaw.{shift}
use Rattle.cm_gen.specs.declared.form.Form.TheVariants.{Cilk}
use Rattle.cm_gen.specs.Standing.{Frame, IsCompiled}
use Rattle.cm_gen.specs.FrameWord.{AreFrames, MayStand, Holds, Touches}
use Rattle.cm_gen.specs.Formed.{Runs, Formed}
use Rattle.cm_gen.specs.StandsFor.{Spot, spot_at, ExactAt, with_words}
use Rattle.cm_gen.specs.Moment.{MapsFrame, WholesAreWritable, StandsFor, GoesOn, Settles}
use Rattle.cm_gen.proofs.states.FormedLaw.{step_keeps}
use Rattle.cm_gen.proofs.items.EachStepLaw.{each_step}
use Rattle.cm_gen.proofs.images.MomentLaw as moments
use Rattle.cm_gen.proofs.images.MoreWordsLaw as more_words
use Rattle.cm_gen.proofs.images.RegisterLaw as registers
use Rattle.cm_gen.proofs.images.JoinedLaw.{exact_joined}
use Rattle.cm_gen.proofs.frames.FootprintLaw.{stands_with, holds_with}

pub record CodeFacts (program : Program) (page limit : ℕ) (input : List ℤ) (image : List ℕ) : Type 0 where
  -- from one instruction to the next, with the spot of the frames carried along
  pub instruction : (spot : Spot) (left : ℕ) (c : Control) (h : Stack) (m next : Machine) → left < 2 ^ 32 → Formed program page limit c h
      → AreFrames program page c.calls spot.frames → StandsFor program Cilk page input (InstructionAt image) spot left c h m
      → MapsFrame program Cilk page input (InstructionAt image) spot m → StepsTo (InstructionAt image) m next
      → GoesOn program Cilk page input (InstructionAt image) spot left c h m next
  -- at a service
  pub settles : (spot : Spot) (left : ℕ) (c : Control) (h : Stack) (m : Machine) → left < 2 ^ 32 → Formed program page limit c h
      → AreFrames program page c.calls spot.frames → StandsFor program Cilk page input (InstructionAt image) spot left c h m
      → InstructionAt image m.counter ecall → Settles program Cilk page input (InstructionAt image) spot left c h m
  -- with more words beside its own, as with a page, a machine stands as before, exactly and within a step
  pub exact_more : (spot : Spot) (left : ℕ) (c : Control) (h : Stack) (m : Machine) (more : Mapped)
      → ExactAt program Cilk page input (InstructionAt image) spot left c h m → Extends m.words more
      → ExactAt program Cilk page input (InstructionAt image) spot left c h (with_words m more)
  pub within_more : (spot : Spot) (left : ℕ) (c : Control) (h : Stack) (m : Machine) (more : Mapped)
      → StandsFor program Cilk page input (InstructionAt image) spot left c h m → Extends m.words more
      → StandsFor program Cilk page input (InstructionAt image) spot left c h (with_words m more)
  -- and so do the words of frames that are held
  pub holds_more : (calls : List ℕ) (frames : List Frame) (h : Stack) (words more : Mapped) → Extends words more
      → Holds program page calls frames h words → Holds program page calls frames h more
  -- a machine that stands exactly needs only the words that its state speaks of, and so do the words of frames that are held
  pub needs : (spot : Spot) (left : ℕ) (c : Control) (h : Stack) (m : Machine) (later : Mapped) → Formed program page limit c h
      → ExactAt program Cilk page input (InstructionAt image) spot left c h m
      → ((a : ℕ) → Touches program page c.calls spot.frames h (end_count c.rest) a → later a ≡ m.words a)
      → ExactAt program Cilk page input (InstructionAt image) spot left c h (with_words m later)
  pub holds_needs : (calls : List ℕ) (frames : List Frame) (h : Stack) (words later : Mapped) → Holds program page calls frames h words
      → ((a : ℕ) → Touches program page calls frames h 0 a → later a ≡ words a) → Holds program page calls frames h later
  -- other ticks, and another place for the next frame
  pub other_ticks : (spot : Spot) (left later : ℕ) (c : Control) (h : Stack) (m : Machine)
      → ExactAt program Cilk page input (InstructionAt image) spot left c h m
      → ExactAt program Cilk page input (InstructionAt image) spot later c h (record m { registers = with_register m.registers reg.TICKS later })
  pub other_low : (spot : Spot) (low left : ℕ) (c : Control) (h : Stack) (m : Machine) → MayStand program page c.calls spot.frames low
      → ExactAt program Cilk page input (InstructionAt image) spot left c h m
      → ExactAt program Cilk page input (InstructionAt image) (spot_at spot low) left c h (record m { registers = with_register m.registers reg.SP low })
  -- it holds more where more is joined that is in its words, of which each that becomes whole may be written
  pub joined : (spot : Spot) (left : ℕ) (c : Control) (h more all : Stack) (m : Machine)
      → ExactAt program Cilk page input (InstructionAt image) spot left c h m → StackSum h more all → Holds program page c.calls spot.frames more m.words
      → WholesAreWritable program page c.calls spot.frames h more all m.words
      → ExactAt program Cilk page input (InstructionAt image) spot left c all m

pub code_facts : (program : Program) (page limit : ℕ) (input : List ℤ) (image : List ℕ) → Runs program page limit input
    → IsCompiled program Cilk page (InstructionAt image) → CodeFacts program page limit input image
code_facts program page limit input image runs compiled = record {
  instruction = λ spot left c h m next few formed shape stands maps steps.
      moments.moment program Cilk page limit input (InstructionAt image) compiled (each_step program Cilk page limit input (InstructionAt image) runs compiled)
      (step_keeps program page limit input runs) (lowers program page input) (shift program page input) left c h spot m next few formed shape stands maps steps;
  settles = λ spot left c h m few formed shape stands asks.
      moments.settles program Cilk page limit input (InstructionAt image) compiled (each_step program Cilk page limit input (InstructionAt image) runs compiled)
      (step_keeps program page limit input runs) (lowers program page input) (shift program page input) left c h spot m few formed shape stands asks;
  exact_more = λ spot left c h m more x larger. more_words.exact_more program Cilk page input (InstructionAt image) spot left c h m more larger x;
  within_more = λ spot left c h m more x larger. more_words.stands_more program Cilk page input (InstructionAt image) (image_is_one image) spot left c h m more larger x;
  holds_more = λ calls frames h words more larger x. more_words.holds_more program page calls frames h words more larger x;
  needs = λ spot left c h m later formed x same. stands_with program page Cilk limit input (InstructionAt image) spot left c h m later formed x same;
  holds_needs = λ calls frames h words later x same. holds_with program page calls frames h words later 0 x same;
  other_ticks = λ spot left later c h m x. registers.other_ticks program Cilk page input (InstructionAt image) spot left later c h m x;
  other_low = λ spot low left c h m may x. registers.other_low program Cilk page input (InstructionAt image) spot low left c h m may x;
  joined = λ spot left c h more all m x sum y wholes. exact_joined program page Cilk input (InstructionAt image) spot left c h more all m x sum y wholes;
}
