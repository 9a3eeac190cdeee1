-- What the program answers, and why.
use Rattle.std.specs.Prelude.{◌≡◌, ℕ, ◌<◌, ◌≤◌, ◌⊎◌, ℤ, Bool, if◌then◌else◌, List, ◌++◌, length, codes, Option, None, Some, IsSome, IfSome}
use Rattle.std.specs.Fmt.{decimal}
use Rattle.std.specs.Io.KnownBytes.{Appends}
use Rattle.cm_text.specs.Count.{Rose}
use Rattle.cm_text.specs.Transfer.{TookFront}
use Rattle.cm_syntax.specs.declared.stmt.Program.{Program}
use Rattle.cm_meaning.specs.Ended.{ended_text, end_of, limits_of}
use Rattle.cm_meaning.specs.Meaning.{SerialEnd}
use Rattle.cm_meaning.specs.declared.ended.Ended.{Ended as End}
use Rattle.cm_meaning.specs.declared.ended.Limits.{Limits}
use Rattle.cm_meaning.specs.declared.ended.Ended.TheVariants as ended
use Rattle.cm_asm.specs.Listing.{listing}
use Rattle.cm_gen.specs.declared.form.Form.TheVariants as forms
use Rattle.cm_gen.specs.Build.{max_image_words}
use Rattle.cm_gen.specs.Image.{image_of}
use Rattle.cm_isa.specs.Address.{AreWordsOf}
use Rattle.cm_serial.specs.Run.{IsSteps}
use Rattle.cilkm.specs.Asked.{Asks}
use Rattle.cilkm.specs.Cut.{max_input, IsCut}
use Rattle.cilkm.specs.Pieces.{pieces_behind, HaveValues, IsWrongAt}
use Rattle.cilkm.specs.Source.{HasAccepted, IsRefusedBy, BuildsAs}
use Rattle.cilkm.specs.declared.command.Command.{Command}
use Rattle.cilkm.specs.declared.command.Command.TheVariants.{Check, Build, Serial, Mean}
use Rattle.cilkm.specs.declared.refusal.Refusal.{Refusal}
use Rattle.cilkm.specs.declared.refusal.Refusal.TheVariants as refusal
use Rattle.cilkm.specs.declared.verdict.Verdict.{Verdict}
use Rattle.cilkm.specs.declared.verdict.Verdict.TheVariants.{Usage, Read, Long, Refused, Input, Accepted, Listing, Ended, Counted, Memory}

-- ---- texts and statuses

-- the word of a refusal
abbrev pub refusal_word : Refusal → List ℕ
refusal_word refusal.Syntax = codes "syntax"
refusal_word refusal.Size = codes "size"
refusal_word refusal.Unknown = codes "unknown"
refusal_word refusal.Twice = codes "twice"
refusal_word refusal.Arity = codes "arity"
refusal_word refusal.Kind = codes "kind"
refusal_word refusal.NoMain = codes "nomain"
refusal_word refusal.Frame = codes "frame"
refusal_word refusal.Count = codes "count"
refusal_word (refusal.Lent spawn) = codes "lent"
refusal_word refusal.Same = codes "same"
refusal_word refusal.Long = codes "long"

-- the line of a refusal at an offset: of a lent mention it names the spawn too
abbrev pub refusal_text : (at : ℕ) → Refusal → List ℕ
refusal_text at (refusal.Lent spawn) = codes "refused " ++ (decimal at ++ (codes " " ++ (refusal_word (refusal.Lent spawn) ++ (codes " " ++ (decimal spawn ++ codes "\n")))))
refusal_text at why = codes "refused " ++ (decimal at ++ (codes " " ++ (refusal_word why ++ codes "\n")))

-- the line of a number of steps
abbrev pub steps_line : (steps : ℕ) → List ℕ
steps_line steps = codes "steps " ++ (decimal steps ++ codes "\n")

-- what is printed
abbrev pub verdict_text : Verdict → List ℕ
verdict_text Usage = codes "usage\n"
verdict_text Read = codes "read\n"
verdict_text Long = codes "long\n"
verdict_text (Refused offset why) = refusal_text offset why
verdict_text (Input at) = codes "input " ++ (decimal at ++ codes "\n")
verdict_text Accepted = codes "accepted\n"
verdict_text (Listing words) = listing words
verdict_text (Ended end) = ended_text end
verdict_text (Counted end steps) = ended_text end ++ steps_line steps
verdict_text Memory = codes "memory\n"

-- the status of an end
abbrev pub ended_status : End → ℕ
ended_status (ended.Done output value ticks) = 0
ended_status (ended.Trap output kind ticks) = 3
ended_status ended.Spent = 4

-- the status with which the program ends
abbrev pub verdict_status : Verdict → ℕ
verdict_status Usage = 2
verdict_status Read = 5
verdict_status Long = 8
verdict_status (Refused offset why) = 1
verdict_status (Input at) = 10
verdict_status Accepted = 0
verdict_status (Listing words) = 0
verdict_status (Ended end) = ended_status end
verdict_status (Counted end steps) = ended_status end
verdict_status Memory = 7

-- ---- why it is answered

-- The first piece of standard input that isn't a number, or the first one too many, stands behind so many bytes, and
-- the source is accepted.
pub record HasWrongPiece (input : List ℕ) (at : ℕ) : Type 0 where
  pub source : List ℕ
  pub program : Program
  pub cut : IsCut input source
  pub accepted : HasAccepted source program
  pub wrong : IsWrongAt (pieces_behind input source) at

-- the source of standard input is accepted, its pieces are numbers, and this is the end of the elision with them
pub record HasEnd (input : List ℕ) (limits : Limits) (end : End) : Type 0 where
  pub source : List ℕ
  pub program : Program
  pub numbers : List ℤ
  pub cut : IsCut input source
  pub accepted : HasAccepted source program
  pub values : HaveValues (pieces_behind input source) numbers
  pub serial : SerialEnd program numbers (limits_of limits) (end_of end)

-- The source of standard input is accepted, and the image of its program in the serial form isn't too long.
pub record IsRun (input : List ℕ) (page : ℕ) : Type 0 where
  pub source : List ℕ
  pub program : Program
  pub cut : IsCut input source
  pub accepted : HasAccepted source program
  pub few : length (image_of program forms.Serial page) ≤ max_image_words

-- the image of the program has words, and their run with these numbers and limits has so many steps
pub record HasSteps (program : Program) (numbers : List ℤ) (limits : Limits) (steps : ℕ) : Type 0 where
  pub words : List ℕ
  pub code : AreWordsOf words (image_of program forms.Serial limits.page)
  pub steps_are : IsSteps program numbers (limits_of limits) steps

-- an end, with the number of steps where `stat` asks for it
abbrev pub verdict_of : (stat : Bool) → End → (steps : ℕ) → Verdict
verdict_of stat end steps = if stat then Counted end steps else Ended end

-- What `serial` says of a program with numbers: the end of its elision, and where `stat` asks for them the steps of its
-- run.
pub record IsServed (stat : Bool) (program : Program) (numbers : List ℤ) (limits : Limits) (said : Verdict) : Type 0 where
  pub end : End
  pub steps : ℕ
  pub serial : SerialEnd program numbers (limits_of limits) (end_of end)
  pub counted : HasSteps program numbers limits steps
  pub said_is : said ≡ verdict_of stat end steps

-- the source of standard input is accepted, its pieces are numbers, its image isn't too long, and this is said of them
pub record HasServed (input : List ℕ) (limits : Limits) (stat : Bool) (verdict : Verdict) : Type 0 where
  pub source : List ℕ
  pub program : Program
  pub numbers : List ℤ
  pub cut : IsCut input source
  pub accepted : HasAccepted source program
  pub few : length (image_of program forms.Serial limits.page) ≤ max_image_words
  pub values : HaveValues (pieces_behind input source) numbers
  pub served : IsServed stat program numbers limits verdict

-- the command comes to this verdict with this standard input
abbrev pub Brings : Verdict → Command → (input : List ℕ) → Type 0
Brings Long command input = max_input < length input
Brings (Refused offset why) command input = (length input ≤ max_input) × (source : List ℕ) × IsCut input source × IsRefusedBy command source offset why
Brings Accepted Check input = (length input ≤ max_input) × (source : List ℕ) × (program : Program) × IsCut input source × HasAccepted source program
Brings (Listing words) (Build form page) input = (length input ≤ max_input) × (source : List ℕ) × IsCut input source × BuildsAs source form page words
Brings (Input at) (Mean limits) input = (length input ≤ max_input) × HasWrongPiece input at
Brings (Input at) (Serial limits stat) input = (length input ≤ max_input) × HasWrongPiece input at × IsRun input limits.page
Brings (Ended end) (Serial limits stat) input = (length input ≤ max_input) × HasServed input limits stat (Ended end)
Brings (Counted end steps) (Serial limits stat) input = (length input ≤ max_input) × HasServed input limits stat (Counted end steps)
Brings (Ended end) (Mean limits) input = (length input ≤ max_input) × HasEnd input limits end
Brings _ command input = ⊥

-- the command, or None for words that are no command, comes to this verdict with this standard input
abbrev pub Means : Option Command → (input : List ℕ) → Verdict → Type 0
Means None input Usage = Unit {0}
Means None input _ = ⊥
Means (Some command) input verdict = Brings verdict command input

-- two verdicts that are one answer
pub record AnswersSame (a b : Verdict) : Type 0 where
  pub text : verdict_text a ≡ verdict_text b
  pub status : verdict_status a ≡ verdict_status b

-- The cause of each verdict, by standard input, which a source may not tell, and the source's count of faults before and now:
--   Usage   the words are no command
--   Read    the words are a command, and the source's count of faults rose
--   Memory  none is told, since memory may run out at any point
--   others  the words are a command, and it comes to the verdict with standard input, where the source tells that
abbrev pub IsCaused : Option Command → (input : Option (List ℕ)) → (before now : ℕ) → Verdict → Type 0
IsCaused command input before now Usage = command ≡ None
IsCaused command input before now Read = IsSome command × Rose before now
IsCaused command input before now Memory = Unit {0}
IsCaused command input before now verdict = IsSome command × IfSome input (λ bytes. Means command bytes verdict)

-- ---- what is said

-- the verdict's text went out whole, with its status
pub record Says (verdict : Verdict) (status : ℕ) (old new : Option (List ℕ)) : Type 0 where
  pub status_is : status ≡ verdict_status verdict
  pub text : Appends old new (verdict_text verdict)

-- status 6: the sink's count of faults rose, and only a front of the verdict's text went out
pub record BreaksOff (verdict : Verdict) (status : ℕ) (old new : Option (List ℕ)) (before now : ℕ) : Type 0 where
  pub status_is : status ≡ 6
  pub rose : Rose before now
  pub front : TookFront old new (verdict_text verdict)

-- the verdict's text went out: whole, with its status, or a front of it, with status 6
abbrev pub GoesOut : (verdict : Verdict) → (status : ℕ) → (old new : Option (List ℕ)) → (before now : ℕ) → Type 0
GoesOut verdict status old new before now = Says verdict status old new ⊎ BreaksOff verdict status old new before now

-- the text of the verdict, or of want of memory, went out
abbrev pub Tells : (verdict : Verdict) → (status : ℕ) → (old new : Option (List ℕ)) → (before now : ℕ) → Type 0
Tells verdict status old new before now =
    (said : Verdict) × ((said ≡ verdict) ⊎ (said ≡ Memory)) × GoesOut said status old new before now

-- a status that the words and the input decide: none of 5, 6 and 7
pub record IsDecided (status : ℕ) : Type 0 where
  pub not_read : status ≡ 5 → ⊥
  pub not_write : status ≡ 6 → ⊥
  pub not_memory : status ≡ 7 → ⊥

-- ---- all goes well

-- The words are this command; standard input is told, is not too long, and its source is accepted and has this program; and
-- neither stream failed.
pub record GoesWell (words : List (List ℕ)) (command : Command) (told : Option (List ℕ)) (input source : List ℕ) (program : Program)
    (reads_before reads_now writes_before writes_now : ℕ) : Type 0 where
  pub asked : Asks words command
  pub told_is : told ≡ Some input
  pub short : length input ≤ max_input
  pub cut : IsCut input source
  pub accepted : HasAccepted source program
  pub no_read_failed : Rose reads_before reads_now → ⊥
  pub no_write_failed : Rose writes_before writes_now → ⊥
