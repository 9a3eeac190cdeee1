-- What the words behind a command's name say: settings.
use Rattle.std.specs.Prelude.{◌≡◌, ℕ, ◌≤◌, ◌==◌, Bool, true, false, if◌then◌else◌, List, [], ◌∷◌, ◌++◌, length, slice_index, codes, map, Option, None, Some}
use Rattle.std.specs.Option.{unwrap_or}
use Rattle.std.specs.Fmt.{decimal}
use Rattle.std.specs.Str.{bytes_eq}
use Rattle.cm_gen.specs.declared.form.Form.{Form}
use Rattle.cm_gen.specs.declared.form.Form.TheVariants as form
use Rattle.cm_meaning.specs.declared.ended.Limits.{Limits}
use Rattle.cm_maps.specs.Pages.{IsPage}
use Rattle.cilkm.specs.declared.command.Name.{Name}
use Rattle.cilkm.specs.declared.command.Name.TheVariants as name
use Rattle.cilkm.specs.declared.setting.Key.{Key}
use Rattle.cilkm.specs.declared.setting.Key.TheVariants.{Ticks, Stack, Page, Serial, Stat}
use Rattle.cilkm.specs.declared.setting.Setting.{Setting}
use Rattle.cilkm.specs.declared.setting.Given.{Given}

-- ---- one word

-- the text of a key
abbrev pub key_text : Key → List ℕ
key_text Ticks = codes "ticks"
key_text Stack = codes "stack"
key_text Page = codes "page"
key_text Serial = codes "serial"
key_text Stat = codes "stat"

-- the key of a text, and None where it is no key's
abbrev pub key_of : List ℕ → Option Key
key_of text =
    if bytes_eq text (codes "ticks") then Some Ticks else if bytes_eq text (codes "stack") then Some Stack else if bytes_eq text (codes "page") then Some Page else if bytes_eq text (codes "serial") then Some Serial else if bytes_eq text (codes "stat") then Some Stat else None

-- whether a command has the key
abbrev pub takes : Name → Key → Bool
takes name.Mean Ticks = true
takes name.Mean Stack = true
takes name.Mean Page = true
takes name.Serial Ticks = true
takes name.Serial Stack = true
takes name.Serial Page = true
takes name.Serial Stat = true
takes name.Build Page = true
takes name.Build Serial = true
takes _ _ = false

-- the numbers that a key may have
abbrev pub IsInRange : Key → (number : ℕ) → Type 0
IsInRange Ticks number = (1 ≤ number) × (number ≤ 100000000)
IsInRange Stack number = (16 ≤ number) × (number ≤ 256)
IsInRange Page number = IsPage number
IsInRange Serial number = number ≤ 1
IsInRange Stat number = number ≤ 1

-- the number of a key that no word has
abbrev pub default_number : Key → ℕ
default_number Ticks = 10000000
default_number Stack = 64
default_number Page = 4096
default_number Serial = 0
default_number Stat = 0

-- the word of a setting: its key, `=` and its number in decimal, which is `0` or begins with another digit
abbrev pub setting_word : Setting → List ℕ
setting_word setting = key_text setting.key ++ (codes "=" ++ decimal setting.number)

-- no `+` stands first, and a `0` that stands first stands alone
abbrev pub IsPlain : List ℕ → Type 0
IsPlain digits = (slice_index digits 0 ≡ 43 → ⊥) × (slice_index digits 0 ≡ 48 → length digits ≡ 1)

-- the command has the key, and the number is in the range of the key
pub record IsAllowed (command : Name) (setting : Setting) : Type 0 where
  pub taken : takes command setting.key ≡ true
  pub in_range : IsInRange setting.key setting.number

-- the word is that of the setting, which is allowed to the command
pub record IsWordOf (command : Name) (word : List ℕ) (setting : Setting) : Type 0 where
  pub word_is : word ≡ setting_word setting
  pub allowed : IsAllowed command setting

-- ---- all words

-- the keys are the same
abbrev pub is_key : Key → Key → Bool
is_key Ticks Ticks = true
is_key Stack Stack = true
is_key Page Page = true
is_key Serial Serial = true
is_key Stat Stat = true
is_key _ _ = false

-- the number that the settings have for a key, and None where none has the key
abbrev pub number_for : Key → List Setting → Option ℕ
number_for key [] = None
number_for key (setting ∷ more) = if is_key setting.key key then Some setting.number else number_for key more

-- each setting is allowed to the command, and no key stands twice
abbrev pub AreAllowed : (command : Name) → List Setting → Type 0
AreAllowed command [] = Unit {0}
AreAllowed command (setting ∷ more) = IsAllowed command setting × (number_for setting.key more ≡ None) × AreAllowed command more

-- the words are those of the settings, which are allowed to the command
pub record AreSettings (command : Name) (words : List (List ℕ)) (settings : List Setting) : Type 0 where
  pub words_are : words ≡ map setting_word settings
  pub allowed : AreAllowed command settings

-- the number of a key: that of its setting, or its default where no setting has the key
abbrev pub number_of : Key → List Setting → ℕ
number_of key settings = unwrap_or (number_for key settings) (default_number key)

-- the bytes of a page that the settings give
abbrev pub page_given : List Setting → ℕ
page_given settings = number_of Page settings

-- the form of a build that the settings give: `serial=1` asks for the serial one
abbrev pub form_given : List Setting → Form
form_given settings = if number_of Serial settings == 1 then form.Serial else form.Cilk

-- whether the settings ask for the number of steps
abbrev pub stat_given : List Setting → Bool
stat_given settings = number_of Stat settings == 1

-- the limits that the settings give
abbrev pub limits_given : List Setting → Limits
limits_given settings = record { ticks = number_of Ticks settings; stack = number_of Stack settings; page = page_given settings }

-- what the settings have for each key
abbrev pub given_by : List Setting → Given
given_by settings = record { ticks = number_for Ticks settings; stack = number_for Stack settings; page = number_for Page settings; serial = number_for Serial settings; stat = number_for Stat settings }

-- what was given has this number for a key
abbrev pub given_number : Given → Key → Option ℕ
given_number given Ticks = given.ticks
given_number given Stack = given.stack
given_number given Page = given.page
given_number given Serial = given.serial
given_number given Stat = given.stat

-- what was given, with a number for one more key
abbrev pub with_number : Given → Key → (number : ℕ) → Given
with_number given Ticks number = record { ticks = Some number; stack = given.stack; page = given.page; serial = given.serial; stat = given.stat }
with_number given Stack number = record { ticks = given.ticks; stack = Some number; page = given.page; serial = given.serial; stat = given.stat }
with_number given Page number = record { ticks = given.ticks; stack = given.stack; page = Some number; serial = given.serial; stat = given.stat }
with_number given Serial number = record { ticks = given.ticks; stack = given.stack; page = given.page; serial = Some number; stat = given.stat }
with_number given Stat number = record { ticks = given.ticks; stack = given.stack; page = given.page; serial = given.serial; stat = Some number }
