-- The settings of words: each word has one at most, and they give one number for each key.
use Rattle.std.proofs.Common.{◌≡◌, ℕ, zero, suc, ◌-◌, ◌^◌, ◌<◌, ◌≤◌, Bool, true, false, List, [], ◌∷◌, ◌++◌, length, drop, get_or, map, Option, None, Some, refl, sym, ap, ◌∙◌, subst, arith, inl, inr, ⊎_elim}
use Rattle.std.specs.Prelude.{if◌then◌else◌, cond, ◌==◌, slice_index, Result, Ok, Err, IfSome}
use Rattle.std.specs.Result.{result_ok}
use Rattle.std.specs.Option.{unwrap_or, is_some}
use Rattle.std.specs.Borrow.{Bor}
use Rattle.std.specs.Fmt.{decimal}
use Rattle.std.specs.Str.Parse.{AllDigits, IsNumeral, digits_value, ParsesUnsigned, without_leading_plus}
use Rattle.std.proofs.lemmas.Fmt.{decimal_injective, decimal_is_IsNumeral, first_decimal, decimal_digit, decimal-digits_value, parse-decimal}
use Rattle.std.proofs.lemmas.Str.Parse.{IsNumeralModel, numerals_by_value, tells_digits, digit_at}
use Rattle.std.proofs.lemmas.Bool.{cases_lt, eqb-true}
use Rattle.std.proofs.lemmas.List.{length-map}
use Rattle.cm_meaning.specs.Ended.{limits_of}
use Rattle.cm_meaning.specs.Range.{HasRanges}
use Rattle.cilkm.specs.declared.command.Name.{Name}
use Rattle.cilkm.specs.declared.setting.Key.{Key}
use Rattle.cilkm.specs.declared.setting.Key.TheVariants.{Ticks, Stack, Page, Serial, Stat}
use Rattle.cilkm.specs.declared.setting.Setting.{Setting}
use Rattle.cilkm.specs.declared.setting.Given.{Given}
use Rattle.cilkm.specs.Asked.{texts}
use Rattle.cilkm.specs.Setting.{key_text, key_of, IsPlain, IsInRange, default_number, setting_word, IsWordOf, is_key, number_for, AreAllowed, AreSettings, number_of, limits_given, given_by, given_number, with_number}

-- ---- one word

-- the key of a key's text
key_of-key_text : (key : Key) → key_of (key_text key) ≡ Some key
key_of-key_text Ticks = refl
key_of-key_text Stack = refl
key_of-key_text Page = refl
key_of-key_text Serial = refl
key_of-key_text Stat = refl

-- no byte of the text is `=`
abbrev HasNoEquals : List ℕ → Type 0
HasNoEquals [] = Unit {0}
HasNoEquals (byte ∷ more) = (byte ≡ 61 → ⊥) × HasNoEquals more

key_plain : (key : Key) → HasNoEquals (key_text key)
key_plain Ticks = (λ e. omega (arith, e), (λ e. omega (arith, e), (λ e. omega (arith, e), (λ e. omega (arith, e), (λ e. omega (arith, e), tt)))))
key_plain Stack = (λ e. omega (arith, e), (λ e. omega (arith, e), (λ e. omega (arith, e), (λ e. omega (arith, e), (λ e. omega (arith, e), tt)))))
key_plain Page = (λ e. omega (arith, e), (λ e. omega (arith, e), (λ e. omega (arith, e), (λ e. omega (arith, e), tt))))
key_plain Stat = (λ e. omega (arith, e), (λ e. omega (arith, e), (λ e. omega (arith, e), (λ e. omega (arith, e), tt))))
key_plain Serial = (λ e. omega (arith, e), (λ e. omega (arith, e), (λ e. omega (arith, e), (λ e. omega (arith, e), (λ e. omega (arith, e), (λ e. omega (arith, e), tt))))))

-- a text is parted at its first `=` in one way
one_split : (a b c d : List ℕ) → HasNoEquals a → HasNoEquals c → a ++ 61 ∷ b ≡ c ++ 61 ∷ d → (a ≡ c) × (b ≡ d)
one_split [] b [] d x y e = (refl, cc)
one_split [] b (byte ∷ c) d x y e = let same : 61 ≡ byte = cc in absurd (y.0 (sym same))
one_split (byte ∷ a) b [] d x y e = let same : byte ≡ 61 = cc in absurd (x.0 same)
one_split (byte ∷ a) b (other ∷ c) d x y e =
    let tails : a ++ 61 ∷ b ≡ c ++ 61 ∷ d = cc in
    let heads : byte ≡ other = cc in
    let rest = one_split a b c d x.1 y.1 tails in
    (cc, rest.1)

-- ---- one number

own : IsNumeralModel (AllDigits 10) (digits_value 10)
own = numerals_by_value (AllDigits 10) tells_digits

decimal_plain : (number : ℕ) → number < 2 ^ 32 → IsPlain (decimal number)
decimal_plain number small = (no_plus, alone)
  where
    digits : IsNumeral 10 (decimal number)
    digits = (decimal_is_IsNumeral number (omega (arith, small))).0

    no_plus : slice_index (decimal number) 0 ≡ 43 → ⊥
    no_plus e = let first = digit_at (decimal number) 0 digits.1 digits.0 in omega (arith, first.0, e)

    alone : slice_index (decimal number) 0 ≡ 48 → length (decimal number) ≡ 1
    alone e = ⊎_elim
        (λ some. let first = first_decimal number some (omega (arith, small)) in absurd (omega (arith, first, e)))
        (λ none. let zero_ : number ≡ 0 = omega (arith, none) in ap (λ n. length (decimal n)) zero_ ∙ ap length (decimal_digit 0 (omega arith)))
        (cases_lt 0 number)

-- what a plain text is parsed to, it is the decimal of
pub plain_parsed : {E : Type 0} (text : List ℕ) (r : Result ℕ E) (o : Option ℕ) → ParsesUnsigned 32 10 text r → IsPlain text → o ≡ result_ok r → IfSome o (λ number. text ≡ decimal number)
plain_parsed text (Ok n) o parses plain e =
    let same : without_leading_plus text ≡ text = no_plus (slice_index text 0 == 43) refl in
    let digits : IsNumeral 10 text = subst (IsNumeral 10) same parses.0.0 in
    let small : digits_value 10 text < 2 ^ 32 = subst (λ t. digits_value 10 t < 2 ^ 32) same parses.0.1 in
    let value : n ≡ digits_value 10 text = parses.1 ∙ ap (digits_value 10) same in
    let back = decimal-digits_value own text digits.1 digits.0 plain.1 (omega (arith, small)) in
    subst (λ p. IfSome p (λ number. text ≡ decimal number)) (sym e) (sym back ∙ ap decimal (sym value))
  where
    no_plus : (plus : Bool) → (slice_index text 0 == 43) ≡ plus → drop (cond plus 1 0) text ≡ text
    no_plus true test = absurd (plain.0 (eqb-true (slice_index text 0) 43 test))
    no_plus false test = refl
plain_parsed text (Err e) o parses plain is = subst (λ p. IfSome p (λ number. text ≡ decimal number)) (sym is) tt

-- the decimal of a number is parsed to it
pub decimal_parsed : {E : Type 0} (text : List ℕ) (r : Result ℕ E) (o : Option ℕ) (number : ℕ) → ParsesUnsigned 32 10 text r → number < 2 ^ 32 → text ≡ decimal number → o ≡ result_ok r → o ≡ Some number
decimal_parsed text r o number parses small e is = is ∙ ap result_ok (parse-decimal 32 number text r small (omega (arith, small)) e parses)

pub decimal_is_plain : (text : List ℕ) (number : ℕ) → number < 2 ^ 32 → text ≡ decimal number → IsPlain text
decimal_is_plain text number small e = subst IsPlain (sym e) (decimal_plain number small)

-- ---- one setting

-- a number of a range has 32 bits
pub range_fits : (key : Key) (number : ℕ) → IsInRange key number → number < 2 ^ 32
range_fits Ticks number h = omega (arith, h.1)
range_fits Stack number h = omega (arith, h.1)
range_fits Page number (inl h) = omega (arith, h)
range_fits Page number (inr (inl h)) = omega (arith, h)
range_fits Page number (inr (inr h)) = omega (arith, h)
range_fits Serial number h = omega (arith, h)
range_fits Stat number h = omega (arith, h)

pub same_key : (text : List ℕ) (a b : Key) → text ≡ key_text a → text ≡ key_text b → a ≡ b
same_key text a b x y =
    let same : Some a ≡ Some b = sym (key_of-key_text a) ∙ ap key_of (sym x ∙ y) ∙ key_of-key_text b in cc

-- what stands behind so many words
pub texts_at : (i : ℕ) (words : List (Bor (List ℕ))) (d : Bor (List ℕ)) → i < length words → drop i (texts words) ≡ (get_or words i d).now ∷ drop (suc i) (texts words)
texts_at zero [] d h = absurd (omega (arith, h))
texts_at (suc i) [] d h = absurd (omega (arith, h))
texts_at zero (word ∷ words) d h = refl
texts_at (suc i) (word ∷ words) d h = texts_at i words d (omega (arith, h))

-- ---- what is given

pub given_number-given_by : (key : Key) (settings : List Setting) → given_number (given_by settings) key ≡ number_for key settings
given_number-given_by Ticks settings = refl
given_number-given_by Stack settings = refl
given_number-given_by Page settings = refl
given_number-given_by Serial settings = refl
given_number-given_by Stat settings = refl

with_one_more : (key : Key) (number : ℕ) (settings : List Setting) → with_number (given_by settings) key number ≡ given_by (record { key = key; number = number } ∷ settings)
with_one_more Ticks number settings = refl
with_one_more Stack number settings = refl
with_one_more Page number settings = refl
with_one_more Serial number settings = refl
with_one_more Stat number settings = refl

default_fits : (key : Key) → IsInRange key (default_number key)
default_fits Ticks = (omega arith, omega arith)
default_fits Stack = (omega arith, omega arith)
default_fits Page = inr (inr refl)
default_fits Serial = omega arith
default_fits Stat = omega arith

key_is : (a b : Key) → is_key a b ≡ true → a ≡ b
key_is Ticks Ticks e = refl
key_is Stack Stack e = refl
key_is Page Page e = refl
key_is Serial Serial e = refl
key_is Stat Stat e = refl
key_is _ _ e = cc

-- ---- all words behind a command's name

module _ (command : Name) where
  -- a word is that of one setting
  pub one_setting : (word : List ℕ) (a b : Setting) → IsWordOf command word a → IsWordOf command word b → a ≡ b
  one_setting word a b x y =
      let parts = one_split (key_text a.key) (decimal a.number) (key_text b.key) (decimal b.number) (key_plain a.key) (key_plain b.key) (sym x.word_is ∙ y.word_is) in
      let key = same_key (key_text a.key) a.key b.key refl parts.0 in
      let first = range_fits a.key a.number x.allowed.in_range in
      let second = range_fits b.key b.number y.allowed.in_range in
      let number = decimal_injective a.number b.number (omega (arith, first)) (omega (arith, second)) parts.1 in
      λ i. record { key = key i; number = number i }

  -- words are those of one list of settings
  pub one_list : (words : List (List ℕ)) (a b : List Setting) → AreSettings command words a → AreSettings command words b → a ≡ b
  one_list words a b x y = by a b (sym x.words_are ∙ y.words_are) x.allowed y.allowed
    where
      by : (a b : List Setting) → map setting_word a ≡ map setting_word b → AreAllowed command a → AreAllowed command b → a ≡ b
      by [] [] e x y = refl
      by [] (s ∷ b) e x y = cc
      by (r ∷ a) [] e x y = cc
      by (r ∷ a) (s ∷ b) e x y =
          let heads : setting_word r ≡ setting_word s = cc in
          let tails : map setting_word a ≡ map setting_word b = cc in
          let first = one_setting (setting_word s) r s (record { word_is = sym heads; allowed = x.0 }) (record { word_is = refl; allowed = y.0 }) in
          let rest = by a b tails x.2 y.2 in
          λ i. first i ∷ rest i

  -- the first setting of words behind so many
  pub front_setting : (i : ℕ) (words : List (List ℕ)) (word : List ℕ) (rest : List (List ℕ)) (all : List Setting) → drop i words ≡ word ∷ rest → AreSettings command words all
      → (setting : Setting) × (more : List Setting) × IsWordOf command word setting × (number_for setting.key more ≡ None) × AreSettings command rest more
  front_setting zero words word rest [] e are = let none : [] ≡ word ∷ rest = sym are.words_are ∙ e in cc
  front_setting zero words word rest (s ∷ more) e are =
      let both : setting_word s ∷ map setting_word more ≡ word ∷ rest = sym are.words_are ∙ e in
      let head : word ≡ setting_word s = cc in
      let tail : rest ≡ map setting_word more = cc in
      (s, more, record { word_is = head; allowed = are.allowed.0 }, are.allowed.1, record { words_are = tail; allowed = are.allowed.2 })
  front_setting (suc i) [] word rest all e are = cc
  front_setting (suc i) (first ∷ words) word rest [] e are = let none : first ∷ words ≡ [] = are.words_are in cc
  front_setting (suc i) (first ∷ words) word rest (s ∷ more) e are =
      let both : first ∷ words ≡ setting_word s ∷ map setting_word more = are.words_are in
      let tail : words ≡ map setting_word more = cc in
      front_setting i words word rest more e (record { words_are = tail; allowed = are.allowed.2 })

  -- the words from here on were read, and gave this
  pub record Taken (words : List (List ℕ)) (at : ℕ) (given : Given) : Type 0 where
    pub settings : List Setting
    pub within : at ≤ length words
    pub are : AreSettings command (drop at words) settings
    pub gave : given ≡ given_by settings

  -- the word before them
  pub word_here : (words : List (Bor (List ℕ))) (at : ℕ) (d : Bor (List ℕ)) (given : Given) → 0 < at → Taken (texts words) at given
      → drop (at - 1) (texts words) ≡ (get_or words (at - 1) d).now ∷ drop at (texts words)
  word_here words at d given some taken =
      let within = taken.within in
      let size = length-map words (λ (word : Bor (List ℕ)). word.now) in
      let next : suc (at - 1) ≡ at = omega (arith, some) in
      texts_at (at - 1) words d (omega (arith, within, size, some)) ∙ ap (λ n. (get_or words (at - 1) d).now ∷ drop n (texts words)) next

  -- one more is read
  pub one_taken : (words : List (List ℕ)) (at : ℕ) (given next : Given) (word : List ℕ) (setting : Setting) → Taken words at given
      → drop (at - 1) words ≡ word ∷ drop at words → IsWordOf command word setting → is_some (given_number given setting.key) ≡ false
      → next ≡ with_number given setting.key setting.number → Taken words (at - 1) next
  one_taken words at given next word setting taken e is none put =
      record {
        settings = setting ∷ taken.settings;
        within = let within = taken.within in omega (arith, within);
        are = record {
          words_are = e ∙ (λ i. is.word_is i ∷ taken.are.words_are i);
          allowed = (is.allowed, no_number, taken.are.allowed);
        };
        gave = put ∙ ap (λ (g : Given). with_number g setting.key setting.number) taken.gave ∙ with_one_more setting.key setting.number taken.settings;
      }
    where
      is_none : (o : Option ℕ) → is_some o ≡ false → o ≡ None
      is_none None e = refl
      is_none (Some n) e = cc

      no_number : number_for setting.key taken.settings ≡ None
      no_number =
          sym (given_number-given_by setting.key taken.settings) ∙ ap (λ (g : Given). given_number g setting.key) (sym taken.gave)
          ∙ is_none (given_number given setting.key) none

  -- where a key has a number already, the words are those of no settings
  pub key_again : (words : List (List ℕ)) (at : ℕ) (given : Given) (word : List ℕ) (setting : Setting) (all : List Setting) → Taken words at given
      → drop (at - 1) words ≡ word ∷ drop at words → IsWordOf command word setting → is_some (given_number given setting.key) ≡ true → AreSettings command words all → ⊥
  key_again words at given word setting all taken e is some are =
      let front = front_setting (at - 1) words word (drop at words) all e are in
      let same = one_setting word setting front.0 is front.2 in
      let rest = one_list (drop at words) taken.settings front.1 taken.are front.4 in
      let number : given_number given setting.key ≡ None =
      ap (λ (g : Given). given_number g setting.key) taken.gave ∙ given_number-given_by setting.key taken.settings
      ∙ ap (λ (s : Setting). number_for s.key taken.settings) same ∙ ap (number_for front.0.key) rest ∙ front.3 in
      let wrong : false ≡ true = sym (ap is_some number) ∙ some in
      cc

  -- and where the word before them is that of no setting
  pub no_setting : (words : List (List ℕ)) (at : ℕ) (word : List ℕ) (all : List Setting) → drop (at - 1) words ≡ word ∷ drop at words
      → ((setting : Setting) → IsWordOf command word setting → ⊥) → AreSettings command words all → ⊥
  no_setting words at word all e none are = let front = front_setting (at - 1) words word (drop at words) all e are in none front.0 front.2

  -- each number is in its range
  pub number_fits : (key : Key) (settings : List Setting) → AreAllowed command settings → IsInRange key (number_of key settings)
  number_fits key [] allowed = default_fits key
  number_fits key (s ∷ more) allowed = by (is_key s.key key) refl (number_fits key more allowed.2)
    where
      by : (same : Bool) → is_key s.key key ≡ same → IsInRange key (number_of key more)
          → IsInRange key (unwrap_or (if same then Some s.number else number_for key more) (default_number key))
      by true e rest = subst (λ k. IsInRange k s.number) (key_is s.key key e) allowed.0.in_range
      by false e rest = rest

  pub limits_within : (settings : List Setting) → AreAllowed command settings → HasRanges (limits_of (limits_given settings))
  limits_within settings allowed =
      let ticks = number_fits Ticks settings allowed in
      let stack = number_fits Stack settings allowed in
      record { some_ticks = ticks.0; most_ticks = ticks.1; some_stack = stack.0; most_stack = stack.1; page = number_fits Page settings allowed }
