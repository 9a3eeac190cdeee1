-- The words are one command at most.
use Rattle.std.proofs.Common.{◌≡◌, ℕ, ◌-◌, ◌≤◌, Bool, true, false, List, [], ◌∷◌, length, take, drop, get_or, Option, None, Some, refl, sym, ap, ◌∙◌, subst, arith}
use Rattle.std.specs.Borrow.{Bor}
use Rattle.std.specs.Prelude.{if◌then◌else◌, codes}
use Rattle.std.specs.Str.{bytes_eq}
use Rattle.std.proofs.lemmas.List.{take_rest}
use Rattle.std.proofs.lemmas.Slice.Eq.{bytes_eq-Decides}
use Rattle.cilkm.specs.declared.command.Command.{Command}
use Rattle.cilkm.specs.declared.command.Name.{Name}
use Rattle.cilkm.specs.declared.command.Name.TheVariants as name
use Rattle.cilkm.specs.declared.setting.Setting.{Setting}
use Rattle.cilkm.specs.declared.setting.Key.TheVariants as key
use Rattle.cilkm.specs.Setting.{AreSettings, AreAllowed}
use Rattle.cilkm.specs.Asked.{texts, name_text, name_of, command_with, Asks, AsksOrNot, IsWithin}
use Rattle.cilkm.proofs.SettingLaw.{one_list, number_fits, limits_within}

-- ---- names

name_of-name_text : (found : Name) → name_of (name_text found) ≡ Some found
name_of-name_text name.Check = refl
name_of-name_text name.Build = refl
name_of-name_text name.Serial = refl
name_of-name_text name.Mean = refl

-- a word that has a name is this name's text
name_is : (word : List ℕ) (found : Name) → name_of word ≡ Some found → word ≡ name_text found
name_is word found e = by (bytes_eq word (codes "check")) (bytes_eq word (codes "build")) (bytes_eq word (codes "serial")) (bytes_eq word (codes "mean")) refl refl refl refl e
  where
    one : (other : Name) → bytes_eq word (name_text other) ≡ true → Some other ≡ Some found → word ≡ name_text found
    one other test e = let same : other ≡ found = cc in (bytes_eq-Decides word (name_text other)).0 test ∙ ap name_text same

    by : (check build serial mean : Bool) → bytes_eq word (codes "check") ≡ check → bytes_eq word (codes "build") ≡ build → bytes_eq word (codes "serial") ≡ serial → bytes_eq word (codes "mean") ≡ mean
        → (if check then Some name.Check else if build then Some name.Build else if serial then Some name.Serial else if mean then Some name.Mean else None) ≡ Some found → word ≡ name_text found
    by true build serial mean p q r s e = one name.Check p e
    by false true serial mean p q r s e = one name.Build q e
    by false false true mean p q r s e = one name.Serial r e
    by false false false true p q r s e = one name.Mean s e
    by false false false false p q r s e = cc

-- the name that the first word is
abbrev first_name : List (List ℕ) → Option Name
first_name [] = None
first_name (word ∷ more) = name_of word

named : (words : List (List ℕ)) (command : Command) (asks : Asks words command) → first_name words ≡ Some asks.name
named words command asks = ap first_name asks.words_are ∙ name_of-name_text asks.name

-- ---- one command

one_asked : (words : List (List ℕ)) (a b : Command) → Asks words a → Asks words b → a ≡ b
one_asked words a b x y =
    let found : Some x.name ≡ Some y.name = sym (named words a x) ∙ named words b y in
    let same : x.name ≡ y.name = cc in
    let both : name_text x.name ∷ x.more ≡ name_text y.name ∷ y.more = sym x.words_are ∙ y.words_are in
    let more : x.more ≡ y.more = cc in
    let are = subst (λ (n : Name). AreSettings n y.more x.settings) same (subst (λ (words : List (List ℕ)). AreSettings x.name words x.settings) more x.are) in
    let settings = one_list y.name y.more x.settings y.settings are y.are in
    x.command_is ∙ (λ i. command_with (same i) (settings i)) ∙ sym y.command_is

pub one_command : (words : List (List ℕ)) (a b : Option Command) → AsksOrNot words a → AsksOrNot words b → a ≡ b
one_command words None None x y = refl
one_command words None (Some b) x y = absurd (x b y)
one_command words (Some a) None x y = absurd (y a x)
one_command words (Some a) (Some b) x y = ap Some (one_asked words a b x y)

-- what a command has of allowed settings is in its range
pub within : (found : Name) (settings : List Setting) (command : Command) → AreAllowed found settings → command ≡ command_with found settings → IsWithin command
within found settings command allowed is = subst IsWithin (sym is) (by found allowed)
  where
    by : (found : Name) → AreAllowed found settings → IsWithin (command_with found settings)
    by name.Check allowed = tt
    by name.Build allowed = number_fits name.Build key.Page settings allowed
    by name.Serial allowed = limits_within name.Serial settings allowed
    by name.Mean allowed = limits_within name.Mean settings allowed

-- ---- the words, by the slices of the code

-- the first word, and the words behind it
texts_parts : (words : List (Bor (List ℕ))) (d : Bor (List ℕ)) → 1 ≤ length words → texts words ≡ (get_or words 0 d).now ∷ texts (take (length words - 1) (drop 1 words))
texts_parts [] d h = absurd (omega (arith, h))
texts_parts (word ∷ words) d h = ap (λ (more : List (Bor (List ℕ))). word.now ∷ texts more) (sym (take_rest (word ∷ words) 1))

-- the first word is a name, and the words behind it are those of settings
pub asked_with : (words : List (Bor (List ℕ))) (d : Bor (List ℕ)) → 1 ≤ length words → (found : Name) → name_of (get_or words 0 d).now ≡ Some found
    → (settings : List Setting) (command : Command) → AreSettings found (texts (take (length words - 1) (drop 1 words))) settings
    → command ≡ command_with found settings → Asks (texts words) command
asked_with words d some found is settings command are same =
    let more = texts (take (length words - 1) (drop 1 words)) in
    record { name = found; more = more; settings = settings; words_are = texts_parts words d some ∙ ap (λ word. word ∷ more) (name_is (get_or words 0 d).now found is); are = are; command_is = same }
