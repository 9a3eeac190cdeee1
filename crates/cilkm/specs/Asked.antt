-- Which command the words after the program's name are.
use Rattle.std.specs.Prelude.{◌≡◌, ℕ, List, ◌∷◌, codes, map, Option, None, Some, if◌then◌else◌}
use Rattle.std.specs.Str.{bytes_eq}
use Rattle.std.specs.Borrow.{Bor}
use Rattle.cm_meaning.specs.Ended.{limits_of}
use Rattle.cm_maps.specs.Pages.{IsPage}
use Rattle.cm_meaning.specs.Range.{HasRanges}
use Rattle.cilkm.specs.Setting.{AreSettings, page_given, form_given, limits_given, stat_given}
use Rattle.cilkm.specs.declared.setting.Setting.{Setting}
use Rattle.cilkm.specs.declared.command.Command.{Command}
use Rattle.cilkm.specs.declared.command.Command.TheVariants.{Check, Build, Serial, Mean}
use Rattle.cilkm.specs.declared.command.Name.{Name}
use Rattle.cilkm.specs.declared.command.Name.TheVariants as names

-- the bytes of each word
abbrev pub texts : List (Bor (List ℕ)) → List (List ℕ)
texts words = map (λ word. word.now) words

-- the text of a name
abbrev pub name_text : Name → List ℕ
name_text names.Check = codes "check"
name_text names.Build = codes "build"
name_text names.Serial = codes "serial"
name_text names.Mean = codes "mean"

-- the command of a name with settings: `build` has their form and page, `serial` and `mean` their limits, and `serial` also
-- whether they ask for the number of steps
abbrev pub command_with : Name → List Setting → Command
command_with names.Check settings = Check
command_with names.Build settings = Build (form_given settings) (page_given settings)
command_with names.Serial settings = Serial (limits_given settings) (stat_given settings)
command_with names.Mean settings = Mean (limits_given settings)

-- the words are this command: its name, and then settings that are allowed to it
pub record Asks (words : List (List ℕ)) (command : Command) : Type 0 where
  pub name : Name
  pub more : List (List ℕ)
  pub settings : List Setting
  pub words_are : words ≡ name_text name ∷ more
  pub are : AreSettings name more settings
  pub command_is : command ≡ command_with name settings

-- the words are this command, or, of None, no command
abbrev pub AsksOrNot : (words : List (List ℕ)) → Option Command → Type 0
AsksOrNot words None = (command : Command) → Asks words command → ⊥
AsksOrNot words (Some command) = Asks words command

-- what a command has of settings is in its range
abbrev pub IsWithin : Command → Type 0
IsWithin (Build form page) = IsPage page
IsWithin (Serial limits stat) = HasRanges (limits_of limits)
IsWithin (Mean limits) = HasRanges (limits_of limits)
IsWithin _ = Unit {0}

-- the name that a word is, and None where it is no name of a command
abbrev pub name_of : List ℕ → Option Name
name_of word =
    if bytes_eq word (codes "check") then Some names.Check else if bytes_eq word (codes "build") then Some names.Build else if bytes_eq word (codes "serial") then Some names.Serial else if bytes_eq word (codes "mean") then Some names.Mean else None
