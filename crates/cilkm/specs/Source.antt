-- What a source text comes to: a program, or a refusal at an offset.
use Rattle.std.specs.Prelude.{◌≡◌, ℕ, ⊤, List, []}
use Rattle.cm_syntax.specs.declared.stmt.Tree.{Tree}
use Rattle.cm_syntax.specs.declared.stmt.Program.{Program}
use Rattle.cm_syntax.specs.Grammar.{IsSourceOf}
use Rattle.cm_syntax.specs.Refusal as text
use Rattle.cm_syntax.specs.Fault.{Variant, IsNameAnswer, IsSoundProgram, faults, program_of}
use Rattle.cm_syntax.specs.Lending.{IsLentAnswer, IsSameAnswer, IsAccepted}
use Rattle.cm_reader.specs.declared.refusal.ReadRefusal.{ReadRefusal}
use Rattle.cm_reader.specs.declared.refusal.ReadRefusal.TheVariants as reading
use Rattle.cm_names.specs.declared.refusal.NameRefusal.{NameRefusal}
use Rattle.cm_names.specs.declared.refusal.NameRefusal.TheVariants as naming
use Rattle.cm_lend.specs.declared.refusal.LendRefusal.{LendRefusal}
use Rattle.cm_lend.specs.declared.refusal.LendRefusal.TheVariants as lending
use Rattle.cm_gen.specs.declared.build.Build.{Build as BuildOf}
use Rattle.cm_gen.specs.declared.form.Form.{Form}
use Rattle.cm_gen.specs.declared.form.Form.TheVariants as forms
use Rattle.cm_gen.specs.declared.making.GenRefusal.{GenRefusal}
use Rattle.cm_gen.specs.declared.making.GenRefusal.TheVariants as making
use Rattle.cilkm.specs.Built.{IsCompiled, IsImageOf, IsLong}
use Rattle.cilkm.specs.declared.command.Command.{Command}
use Rattle.cilkm.specs.declared.command.Command.TheVariants.{Check, Build, Serial, Mean}
use Rattle.cilkm.specs.declared.refusal.Refusal.{Refusal}
use Rattle.cilkm.specs.declared.refusal.Refusal.TheVariants as refusal
use Rattle.cilkm.specs.declared.refusal.Stop.{Stop}
use Rattle.cilkm.specs.declared.refusal.Stop.TheVariants as stop

-- the source has this tree, and is refused nowhere as a text
pub record HasTree (source : List ℕ) (tree : Tree) : Type 0 where
  pub parses : IsSourceOf source tree
  pub within : text.HasNoRefusal source

-- the source has a tree, whose names are refused at an offset
pub record IsMisnamed (source : List ℕ) (at : ℕ) (variant : Variant) : Type 0 where
  pub tree : Tree
  pub read : HasTree source tree
  pub answer : IsNameAnswer tree at variant

-- the source has a tree without faults, and this is its program
pub record HasProgram (source : List ℕ) (program : Program) : Type 0 where
  pub tree : Tree
  pub read : HasTree source tree
  pub faultless : faults tree ≡ []
  pub resolved : program ≡ program_of tree

-- the source has a program, which obeys the lending rule
pub record HasAccepted (source : List ℕ) (program : Program) : Type 0 where
  pub named : HasProgram source program
  pub accepted : IsAccepted program

-- the source is accepted, and the words are the image of its program
abbrev pub BuildsAs : (source : List ℕ) → Form → (page : ℕ) → (words : List ℕ) → Type 0
BuildsAs source form page words = (program : Program) × HasAccepted source program × IsImageOf program form page words

-- the source is accepted, its program is that of the build, and the image isn't too long
pub record CompilesAs (source : List ℕ) (form : Form) (page : ℕ) (build : BuildOf) : Type 0 where
  pub accepted : HasAccepted source build.made.value
  pub sound : IsSoundProgram build.made.value
  pub compiled : IsCompiled build.made.value form page build

-- the source is accepted, and the image of its program has too many words
abbrev pub HasLong : (source : List ℕ) → Form → (page : ℕ) → Type 0
HasLong source form page = (program : Program) × HasAccepted source program × IsLong program form page

-- The source is refused at this offset, as a text, by its names, or by the lending rule.
abbrev pub IsRefused : (source : List ℕ) → (at : ℕ) → Refusal → Type 0
IsRefused source at refusal.Syntax = text.IsAnswer source text.syntax_ at
IsRefused source at refusal.Size = text.IsAnswer source text.size at
IsRefused source at refusal.Unknown = IsMisnamed source at Variant.unknown
IsRefused source at refusal.Twice = IsMisnamed source at Variant.twice
IsRefused source at refusal.Arity = IsMisnamed source at Variant.arity
IsRefused source at refusal.Kind = IsMisnamed source at Variant.kind
IsRefused source at refusal.NoMain = IsMisnamed source at Variant.no_main
IsRefused source at refusal.Frame = IsMisnamed source at Variant.frame
IsRefused source at refusal.Count = IsMisnamed source at Variant.count
IsRefused source at (refusal.Lent spawn) = (program : Program) × HasProgram source program × IsLentAnswer program at spawn
IsRefused source at refusal.Same = (program : Program) × HasProgram source program × IsSameAnswer program at
IsRefused source at refusal.Long = ⊥

-- The source isn't compiled: it is refused at this offset, or its image has too many words.
abbrev pub IsNotCompiled : Form → (page : ℕ) → (source : List ℕ) → (at : ℕ) → Refusal → Type 0
IsNotCompiled form page source at refusal.Long = (at ≡ 0) × HasLong source form page
IsNotCompiled form page source at why = IsRefused source at why

-- With this command the source is refused: `build` and `serial` refuse too what has too many words.
abbrev pub IsRefusedBy : Command → (source : List ℕ) → (at : ℕ) → Refusal → Type 0
IsRefusedBy Check source at why = IsRefused source at why
IsRefusedBy (Build form page) source at why = IsNotCompiled form page source at why
IsRefusedBy (Serial limits stat) source at why = IsNotCompiled forms.Serial limits.page source at why
IsRefusedBy (Mean limits) source at why = IsRefused source at why

-- why the command comes to no end with the source: it is refused, or there was no memory
abbrev pub IsStopOf : Command → (source : List ℕ) → Stop → Type 0
IsStopOf command source (stop.Refused at why) = IsRefusedBy command source at why
IsStopOf command source stop.Memory = ⊤

-- why a program isn't built: its image has too many words, or there was no memory
abbrev pub IsStopOfBuild : Program → Form → (page : ℕ) → Stop → Type 0
IsStopOfBuild program form page (stop.Refused at why) = (at ≡ 0) × (why ≡ refusal.Long) × IsLong program form page
IsStopOfBuild program form page stop.Memory = ⊤

-- the reader's refusal as a reason to stop
abbrev pub stop_of_reading : ReadRefusal → Stop
stop_of_reading (reading.Syntax at) = stop.Refused at refusal.Syntax
stop_of_reading (reading.Size at) = stop.Refused at refusal.Size
stop_of_reading reading.Memory = stop.Memory

-- the refusal of names as a reason to stop
abbrev pub stop_of_names : NameRefusal → Stop
stop_of_names (naming.Unknown at) = stop.Refused at refusal.Unknown
stop_of_names (naming.Twice at) = stop.Refused at refusal.Twice
stop_of_names (naming.Arity at) = stop.Refused at refusal.Arity
stop_of_names (naming.Kind at) = stop.Refused at refusal.Kind
stop_of_names (naming.NoMain at) = stop.Refused at refusal.NoMain
stop_of_names (naming.Frame at) = stop.Refused at refusal.Frame
stop_of_names (naming.Count at) = stop.Refused at refusal.Count
stop_of_names naming.Memory = stop.Memory

-- the refusal of the code generator as a reason to stop
abbrev pub stop_of_making : GenRefusal → Stop
stop_of_making (making.Long words) = stop.Refused 0 refusal.Long
stop_of_making making.Memory = stop.Memory

-- the refusal of the lending rule as a reason to stop
abbrev pub stop_of_lending : LendRefusal → Stop
stop_of_lending (lending.Lent at spawn) = stop.Refused at (refusal.Lent spawn)
stop_of_lending (lending.Same at) = stop.Refused at refusal.Same
stop_of_lending lending.Memory = stop.Memory
