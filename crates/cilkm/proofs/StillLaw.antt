-- From what a command comes to, to its verdict, and from the verdict to the status.
use Rattle.std.proofs.Common.{◌≡◌, ℕ, ◌<◌, ◌≤◌, List, length, Option, Some, None, ◌++◌, refl, sym, ap, ◌∙◌, subst, arith, rules, inl, inr}
use Rattle.std.specs.Prelude.{ℤ, ◌⊎◌, Bool, true, false, IfSome, codes}
use Rattle.std.specs.Fmt.{signed_decimal}
use Rattle.cm_text.specs.Count.{Rose}
use Rattle.cm_syntax.specs.declared.stmt.Program.{Program}
use Rattle.cm_syntax.specs.Stack.{Stack, Destination, empty_stack}
use Rattle.cm_syntax.specs.Rest.{Control}
use Rattle.cm_syntax.specs.Step.{step, inside}
use Rattle.cm_meaning.specs.declared.ended.Limits.{Limits}
use Rattle.cm_meaning.specs.declared.ended.Trap as declared_trap
use Rattle.cm_meaning.specs.declared.ended.Trap.TheVariants as trap
use Rattle.cm_meaning.specs.declared.ended.Ended.{Ended as End}
use Rattle.cm_meaning.specs.declared.ended.Ended.TheVariants as ended
use Rattle.cm_meaning.specs.Output.{numbers_of}
use Rattle.cm_meaning.specs.Ended.{limits_of, end_of, trap_of, trap_line, lines}
use Rattle.cm_meaning.specs.Meaning.{SerialEnd, first_control}
use Rattle.cm_meaning.proofs.EndLaw.{one_end}
use Rattle.cm_gen.specs.declared.build.Build.{Build as BuildOf}
use Rattle.cm_gen.specs.declared.form.Form.{Form}
use Rattle.cm_gen.specs.declared.form.Form.TheVariants as forms
use Rattle.cm_gen.specs.Build.{max_image_words}
use Rattle.cm_gen.specs.Image.{image_of}
use Rattle.cm_serial.specs.Run.{IsSteps}
use Rattle.cilkm.specs.Built.{max_short_source, IsImageOf, IsLong}
use Rattle.cilkm.specs.Cut.{max_input, IsCut}
use Rattle.cilkm.specs.Pieces.{Piece, pieces_behind, HaveValues, IsWrongAt}
use Rattle.cilkm.specs.Source.{HasProgram, HasAccepted, IsNotCompiled, IsRefusedBy, CompilesAs}
use Rattle.cilkm.specs.declared.command.Command.{Command}
use Rattle.cilkm.specs.declared.command.Command.TheVariants.{Check, Build, Serial, Mean}
use Rattle.cilkm.specs.declared.refusal.Refusal.{Refusal}
use Rattle.cilkm.specs.declared.refusal.Refusal.TheVariants as refusal
use Rattle.cilkm.specs.declared.verdict.Verdict.{Verdict}
use Rattle.cilkm.specs.declared.verdict.Verdict.TheVariants.{Usage, Read, Long, Refused, Input, Accepted, Listing, Ended, Counted, Memory}
use Rattle.cilkm.specs.Asked.{AsksOrNot}
use Rattle.cilkm.specs.Verdict.{verdict_text, verdict_status, verdict_of, steps_line, IsDecided, IsServed, HasServed, Brings, Means, IsCaused, AnswersSame, Says, GoesOut, Tells}
use Rattle.cilkm.proofs.CutLaw.{IsCut-one}
use Rattle.cilkm.proofs.PieceLaw.{wrong_once, wrong_or_values}
use Rattle.cilkm.proofs.BuiltLaw.{one_image, built_or_long}
use Rattle.cilkm.proofs.StepsLaw.{HasSteps-one}
use Rattle.cilkm.proofs.SourceLaw.{HasProgram-one, IsRefused-one, accepted_or_refused, accepted_and_long, short_or_long}

-- what the bytes mean is the cause, where they are those that the source told
pub cause_from_bytes : (verdict : Verdict) (command : Command) (bytes : List ℕ) (input : Option (List ℕ)) (before now : ℕ) → Means (Some command) bytes verdict
    → IfSome input (λ told. bytes ≡ told) → IsCaused (Some command) input before now verdict
cause_from_bytes Usage command bytes input before now means told = absurd means
cause_from_bytes Read command bytes input before now means told = absurd means
cause_from_bytes Memory command bytes input before now means told = tt
cause_from_bytes verdict command bytes None before now means told = (search rules, tt)
cause_from_bytes verdict command bytes (Some all) before now means told = (search rules, subst (λ b. Means (Some command) b verdict) told means)

-- what was said has its cause too, since want of memory needs none
pub answer_with_cause : (verdict : Verdict) (status : ℕ) (command : Option Command) (input old new : Option (List ℕ)) (before now sink_before sink_now : ℕ)
    → IsCaused command input before now verdict → Tells verdict status old new sink_before sink_now
    → (said : Verdict) × IsCaused command input before now said × GoesOut said status old new sink_before sink_now
answer_with_cause verdict status command input old new before now sink_before sink_now caused (said, inl same, told) =
    (said, subst (IsCaused command input before now) (sym same) caused, told)
answer_with_cause verdict status command input old new before now sink_before sink_now caused (said, inr memory, told) =
    (said, subst (IsCaused command input before now) (sym memory) tt, told)

-- a verdict that is decided is what the command comes to with the bytes that were told
means_it : (verdict : Verdict) (command : Option Command) (bytes : List ℕ) (before now : ℕ) → IsCaused command (Some bytes) before now verdict
    → (verdict_status verdict ≡ 5 → ⊥) → (verdict_status verdict ≡ 7 → ⊥) → Means command bytes verdict
means_it Usage command bytes before now caused read memory = subst (λ c. Means c bytes Usage) (sym caused) tt
means_it Read command bytes before now caused read memory = absurd (read refl)
means_it Memory command bytes before now caused read memory = absurd (memory refl)
means_it verdict command bytes before now caused read memory = caused.1

-- so the words and the bytes decide each status but 5, 6 and 7
pub says_decided : (input : Option (List ℕ)) (words : List (List ℕ)) (command : Option Command) (verdict : Verdict) (status : ℕ) (old new : Option (List ℕ)) (before now sink_before sink_now : ℕ)
    → AsksOrNot words command → IsCaused command input before now verdict → Tells verdict status old new sink_before sink_now
    → IfSome input (λ bytes. IsDecided status → (which : Option Command) × (said : Verdict) × AsksOrNot words which × Means which bytes said × Says said status old new)
says_decided None words command verdict status old new before now sink_before sink_now asked caused told = tt
says_decided (Some bytes) words command verdict status old new before now sink_before sink_now asked caused (said, which, inr breaks) = λ decided.
    absurd (decided.not_write breaks.status_is)
says_decided (Some bytes) words command verdict status old new before now sink_before sink_now asked caused (said, inr memory, inl says) = λ decided.
    absurd (decided.not_memory (says.status_is ∙ ap verdict_status memory))
says_decided (Some bytes) words command verdict status old new before now sink_before sink_now asked caused (said, inl same, inl says) = λ decided.
    let status_is : status ≡ verdict_status verdict = says.status_is ∙ ap verdict_status same in (
      command,
      verdict,
      asked,
      means_it verdict command bytes before now caused (λ e. decided.not_read (status_is ∙ e)) (λ e. decided.not_memory (status_is ∙ e)),
      subst (λ (v : Verdict). Says v status old new) same says,
    )

-- ---- what a command comes to with standard input

-- the first wrong piece is told, or the pieces have values, with which it ends so
abbrev Heard : (given : List Piece) → (ends : List ℤ → Verdict → Type 0) → Verdict → Type 0
Heard given ends verdict = ((at : ℕ) × IsWrongAt given at × (verdict ≡ Input at)) ⊎ ((numbers : List ℤ) × HaveValues given numbers × ends numbers verdict)

-- the end of the elision of a program with numbers is told
abbrev IsMeant : Program → List ℤ → Limits → Verdict → Type 0
IsMeant program numbers limits verdict = (end : End) × SerialEnd program numbers (limits_of limits) (end_of end) × (verdict ≡ Ended end)

-- what a command says of an accepted program, with these pieces behind its source
abbrev Gives : Command → Program → (given : List Piece) → Verdict → Type 0
Gives Check program given verdict = verdict ≡ Accepted
Gives (Build form page) program given verdict = (words : List ℕ) × IsImageOf program form page words × (verdict ≡ Listing words)
Gives (Serial limits stat) program given verdict =
    (length (image_of program forms.Serial limits.page) ≤ max_image_words) × Heard given (λ numbers said. IsServed stat program numbers limits said) verdict
Gives (Mean limits) program given verdict = Heard given (λ numbers said. IsMeant program numbers limits said) verdict

-- the source is refused, and that is told
abbrev IsTold : Command → (source : List ℕ) → Verdict → Type 0
IsTold command source verdict = (at : ℕ) × (why : Refusal) × IsRefusedBy command source at why × (verdict ≡ Refused at why)

-- standard input is too long, or its source is refused, or it is accepted and the command says this of its program
abbrev Front : Command → (input : List ℕ) → Verdict → Type 0
Front command input verdict =
    ((max_input < length input) × (verdict ≡ Long))
    ⊎ ((length input ≤ max_input) × (source : List ℕ) × IsCut input source
    × (IsTold command source verdict ⊎ ((program : Program) × HasAccepted source program × Gives command program (pieces_behind input source) verdict)))

-- two accepted programs of one text are one
one_program : (input source other : List ℕ) (program found : Program) → IsCut input source → HasAccepted source program → IsCut input other → HasAccepted other found → program ≡ found
one_program input source other program found cut has back holds =
    HasProgram-one other program found (subst (λ text. HasProgram text program) (IsCut-one input source other cut back) has.named) holds.named

-- each verdict of a command is one of the three
front : (command : Command) (input : List ℕ) (verdict : Verdict) → Brings verdict command input → Front command input verdict
front command input Long x = inl (x, refl)
front command input (Refused at why) x = inr (x.0, x.1, x.2, inl (at, why, x.3, refl))
front Check input Accepted x = inr (x.0, x.1, x.3, inr (x.2, x.4, refl))
front (Build form page) input (Listing words) x = inr (x.0, x.1, x.2, inr (x.3.0, x.3.1, (words, x.3.2, refl)))
front (Serial limits stat) input (Input at) x =
    let one = one_program input x.2.source x.1.source x.2.program x.1.program x.2.cut x.2.accepted x.1.cut x.1.accepted in
    let few = subst (λ (p : Program). length (image_of p forms.Serial limits.page) ≤ max_image_words) one x.2.few in
    inr (x.0, x.1.source, x.1.cut, inr (x.1.program, x.1.accepted, (few, inl (at, x.1.wrong, refl))))
front (Serial limits stat) input (Ended end) x = inr (x.0, x.1.source, x.1.cut, inr (x.1.program, x.1.accepted, (x.1.few, inr (x.1.numbers, x.1.values, x.1.served))))
front (Serial limits stat) input (Counted end steps) x = inr (x.0, x.1.source, x.1.cut, inr (x.1.program, x.1.accepted, (x.1.few, inr (x.1.numbers, x.1.values, x.1.served))))
front (Mean limits) input (Input at) x = inr (x.0, x.1.source, x.1.cut, inr (x.1.program, x.1.accepted, inl (at, x.1.wrong, refl)))
front (Mean limits) input (Ended end) x = inr (x.0, x.1.source, x.1.cut, inr (x.1.program, x.1.accepted, inr (x.1.numbers, x.1.values, (end, x.1.serial, refl))))
front _ input _ x = absurd (search rules)

-- ---- one answer

same_answer : (a b : Verdict) → a ≡ b → AnswersSame a b
same_answer a b same = record { text = ap verdict_text same; status = ap verdict_status same }

same_trap : (k l : declared_trap.Trap) → trap_of k ≡ trap_of l → k ≡ l
same_trap trap.Divide trap.Divide e = refl
same_trap trap.Index trap.Index e = refl
same_trap trap.Input trap.Input e = refl
same_trap trap.Stack trap.Stack e = refl
same_trap _ _ e = cc

-- one end has one text and status
one_text : (a b : End) → end_of a ≡ end_of b → AnswersSame (Ended a) (Ended b)
one_text (ended.Done out value ticks) (ended.Done more other n) e =
    let numbers : numbers_of out ≡ numbers_of more = cc in
    let same : value ≡ other = cc in
    record { text = λ i. lines (numbers i) ++ (codes "value " ++ (signed_decimal (same i) ++ codes "\n")); status = refl }
one_text (ended.Trap out kind ticks) (ended.Trap more other n) e =
    let numbers : numbers_of out ≡ numbers_of more = cc in
    let traps : trap_of kind ≡ trap_of other = cc in
    let same = same_trap kind other traps in
    record { text = λ i. lines (numbers i) ++ trap_line (same i); status = refl }
one_text ended.Spent ended.Spent e = record { text = refl; status = refl }
one_text _ _ e = let none : ⊥ = cc in absurd none

one_meant : (program : Program) (numbers : List ℤ) (limits : Limits) (a b : Verdict) → IsMeant program numbers limits a → IsMeant program numbers limits b → AnswersSame a b
one_meant program numbers limits a b x y =
    let first = x.1 in
    let second = y.1 in
    let end = one_end Control Stack Destination (step program limits.page numbers) inside (first_control program (limits_of limits)) empty_stack limits.ticks
    (end_of x.0) (end_of y.0) first.0 second.0 first.1 second.1 in
    subst (λ (v : Verdict). AnswersSame a v) (sym y.2) (subst (λ (v : Verdict). AnswersSame v (Ended y.0)) (sym x.2) (one_text x.0 y.0 end))

-- one end and one number of steps have one text and status
one_verdict : (stat : Bool) (a b : End) (i j : ℕ) → AnswersSame (Ended a) (Ended b) → i ≡ j → AnswersSame (verdict_of stat a i) (verdict_of stat b j)
one_verdict true a b i j same steps = record { text = λ k. same.text k ++ steps_line (steps k); status = same.status }
one_verdict false a b i j same steps = same

one_served : (stat : Bool) (program : Program) (numbers : List ℤ) (limits : Limits) (a b : Verdict) → IsServed stat program numbers limits a → IsServed stat program numbers limits b
    → AnswersSame a b
one_served stat program numbers limits a b x y =
    let first = x.serial in
    let second = y.serial in
    let end = one_end Control Stack Destination (step program limits.page numbers) inside (first_control program (limits_of limits)) empty_stack limits.ticks
    (end_of x.end) (end_of y.end) first.0 second.0 first.1 second.1 in
    let steps = HasSteps-one program numbers limits x.steps y.steps x.counted y.counted in
    let same = one_verdict stat x.end y.end x.steps y.steps (one_text x.end y.end end) steps in
    subst (λ (v : Verdict). AnswersSame a v) (sym y.said_is) (subst (λ (v : Verdict). AnswersSame v (verdict_of stat y.end y.steps)) (sym x.said_is) same)

-- what is said is said of the program of any cut
gives_at : (command : Command) (input source other : List ℕ) (program found : Program) (verdict : Verdict) → IsCut input source → HasAccepted source program
    → IsCut input other → HasAccepted other found → Gives command program (pieces_behind input source) verdict → Gives command found (pieces_behind input other) verdict
gives_at command input source other program found verdict cut has back holds x =
    subst (λ (p : Program). Gives command p (pieces_behind input other) verdict) (one_program input source other program found cut has back holds)
    (subst (λ text. Gives command program (pieces_behind input text) verdict) (IsCut-one input source other cut back) x)

-- one wrong piece is told, or one end
one_heard : (given : List Piece) (ends : List ℤ → Verdict → Type 0) → ((numbers : List ℤ) (a b : Verdict) → ends numbers a → ends numbers b → AnswersSame a b)
    → (a b : Verdict) → Heard given ends a → Heard given ends b → AnswersSame a b
one_heard given ends one a b (inl (i, x, e)) (inl (j, y, f)) = same_answer a b (e ∙ ap (λ n. Input n) (wrong_once given i j x y) ∙ sym f)
one_heard given ends one a b (inl (i, x, e)) (inr (more, y, f)) = absurd (wrong_or_values given i more x y)
one_heard given ends one a b (inr (numbers, x, e)) (inl (j, y, f)) = absurd (wrong_or_values given j numbers y x)
one_heard given ends one a b (inr (numbers, x, e)) (inr (more, y, f)) =
    one more a b (subst (λ (n : List ℤ). ends n a) (x.values_are ∙ sym y.values_are) e) f

-- pieces with values have this end
heard : (given : List Piece) (ends : List ℤ → Verdict → Type 0) (numbers : List ℤ) (verdict : Verdict) → Heard given ends verdict → HaveValues given numbers → ends numbers verdict
heard given ends numbers verdict (inl (at, x, e)) values = absurd (wrong_or_values given at numbers x values)
heard given ends numbers verdict (inr (more, x, e)) values = subst (λ (n : List ℤ). ends n verdict) (x.values_are ∙ sym values.values_are) e

-- a command says one thing of a program
one_gives : (command : Command) (program : Program) (given : List Piece) (a b : Verdict) → Gives command program given a → Gives command program given b → AnswersSame a b
one_gives Check program given a b x y = same_answer a b (x ∙ sym y)
one_gives (Build form page) program given a b x y =
    same_answer a b (x.2 ∙ ap (λ (w : List ℕ). Listing w) (one_image program form page x.0 y.0 x.1 y.1) ∙ sym y.2)
one_gives (Serial limits stat) program given a b x y =
    one_heard given (λ numbers said. IsServed stat program numbers limits said) (λ numbers. one_served stat program numbers limits) a b x.1 y.1
one_gives (Mean limits) program given a b x y =
    one_heard given (λ numbers said. IsMeant program numbers limits said) (λ numbers. one_meant program numbers limits) a b x y

-- of a program whose source is refused a command says nothing
refused_or_gives : (command : Command) (source : List ℕ) (program : Program) (given : List Piece) (verdict : Verdict) (at : ℕ) (why : Refusal) → HasAccepted source program
    → IsRefusedBy command source at why → Gives command program given verdict → ⊥
refused_or_gives Check source program given verdict at why has refused x = accepted_or_refused source program at why has refused
refused_or_gives (Build form page) source program given verdict at why has refused x =
    let long = accepted_and_long source program form page at why has refused in
    built_or_long program form page x.0 x.1 long.2
refused_or_gives (Serial limits stat) source program given verdict at why has refused x =
    let long = accepted_and_long source program forms.Serial limits.page at why has refused in
    let few = x.0 in
    let more = long.2 in
    omega (arith, few, more)
refused_or_gives (Mean limits) source program given verdict at why has refused x = accepted_or_refused source program at why has refused

one_front : (command : Command) (input : List ℕ) (a b : Verdict) → Front command input a → Front command input b → AnswersSame a b
one_front command input a b (inl (m, e)) (inl (n, f)) = same_answer a b (e ∙ sym f)
one_front command input a b (inl (m, e)) (inr (short, other, back, y)) = absurd (omega (arith, m, short))
one_front command input a b (inr (short, source, cut, x)) (inl (n, f)) = absurd (omega (arith, n, short))
one_front command input a b (inr (short, source, cut, inl (at, why, refused, e))) (inr (more, other, back, inl (to, what, again, f))) =
    let same = IsCut-one input source other cut back in
    let one = IsRefused-one command other at to why what (subst (λ text. IsRefusedBy command text at why) same refused) again in
    let both : Refused at why ≡ Refused to what = λ k. Refused (one.0 k) (one.1 k) in
    same_answer a b (e ∙ both ∙ sym f)
one_front command input a b (inr (short, source, cut, inl (at, why, refused, e))) (inr (more, other, back, inr (found, holds, y))) =
    let same = IsCut-one input source other cut back in
    absurd (refused_or_gives command other found (pieces_behind input other) b at why holds (subst (λ text. IsRefusedBy command text at why) same refused) y)
one_front command input a b (inr (short, source, cut, inr (program, has, x))) (inr (more, other, back, inl (to, what, again, f))) =
    let same = IsCut-one input other source back cut in
    absurd (refused_or_gives command source program (pieces_behind input source) a to what has (subst (λ text. IsRefusedBy command text to what) same again) x)
one_front command input a b (inr (short, source, cut, inr (program, has, x))) (inr (more, other, back, inr (found, holds, y))) =
    one_gives command found (pieces_behind input other) a b (gives_at command input source other program found a cut has back holds x) y

-- the words and standard input decide the text and the status
pub one_answer : (command : Option Command) (input : List ℕ) (a b : Verdict) → Means command input a → Means command input b → AnswersSame a b
one_answer (Some command) input a b x y = one_front command input a b (front command input a x) (front command input b y)
one_answer None input Usage Usage x y = record { text = refl; status = refl }
one_answer None input a b x y = absurd (search rules)

-- what was told was said, where no write failed
said_calm : (verdict : Verdict) (status : ℕ) (old new : Option (List ℕ)) (before now : ℕ) → Tells verdict status old new before now → (Rose before now → ⊥)
    → Says verdict status old new ⊎ Says Memory status old new
said_calm verdict status old new before now (said, which, inr breaks) calm = absurd (calm breaks.rose)
said_calm verdict status old new before now (said, inr memory, inl says) calm = inr (subst (λ (v : Verdict). Says v status old new) memory says)
said_calm verdict status old new before now (said, inl same, inl says) calm = inl (subst (λ (v : Verdict). Says v status old new) same says)

-- ---- an accepted source

-- what is caused is what the command comes to, or want of memory, where no read failed
told_or_memory : (command : Command) (input : List ℕ) (verdict : Verdict) (before now : ℕ) → IsCaused (Some command) (Some input) before now verdict → (Rose before now → ⊥)
    → Brings verdict command input ⊎ (verdict ≡ Memory)
told_or_memory command input Usage before now caused calm = absurd (some_none caused)
  where
    some_none : Some command ≡ None → ⊥
    some_none h = cc
told_or_memory command input Read before now caused calm = absurd (calm caused.1)
told_or_memory command input Memory before now caused calm = inr refl
told_or_memory command input verdict before now caused calm = inl caused.1

module _ (command : Command) (input source : List ℕ) (program : Program)
    (short : length input ≤ max_input) (cut : IsCut input source) (has : HasAccepted source program) where
  accepted_front : (verdict : Verdict) → Front command input verdict → Gives command program (pieces_behind input source) verdict ⊎ IsTold command source verdict
  accepted_front verdict (inl (long, e)) = absurd (omega (arith, long, short))
  accepted_front verdict (inr (less, other, back, inl (at, why, refused, e))) =
      inr (at, why, subst (λ text. IsRefusedBy command text at why) (IsCut-one input other source back cut) refused, e)
  accepted_front verdict (inr (less, other, back, inr (found, holds, x))) = inl (gives_at command input other source found program verdict back holds cut has x)

  -- of an accepted source the verdict is what the command says of its program, or a refusal, or want of memory
  accepted_is : (verdict : Verdict) (before now : ℕ) → IsCaused (Some command) (Some input) before now verdict → (Rose before now → ⊥)
      → (Gives command program (pieces_behind input source) verdict ⊎ IsTold command source verdict) ⊎ (verdict ≡ Memory)
  accepted_is verdict before now caused calm = elim (told_or_memory command input verdict before now caused calm) [
    | inl brings ↦ inl (accepted_front verdict (front command input verdict brings))
    | inr memory ↦ inr memory
  ]

-- of an accepted source that is refused the image is too long
told_long : (source : List ℕ) (program : Program) (form : Form) (page at : ℕ) (why : Refusal) (verdict : Verdict) → HasAccepted source program → IsNotCompiled form page source at why
    → verdict ≡ Refused at why → IsLong program form page × (verdict ≡ Refused 0 refusal.Long)
told_long source program form page at why verdict has refused is =
    let long = accepted_and_long source program form page at why has refused in
    let both : Refused at why ≡ Refused 0 refusal.Long = λ i. Refused (long.0 i) (long.1 i) in (long.2, is ∙ both)

-- ---- an accepted source with numbers

module _ (input source : List ℕ) (program : Program) (numbers : List ℤ) (limits : Limits)
    (short : length input ≤ max_input) (cut : IsCut input source) (has : HasAccepted source program) (values : HaveValues (pieces_behind input source) numbers) where
  -- the verdict of `mean` is the end of the elision, or want of memory, where no read failed
  end_is : (verdict : Verdict) (before now : ℕ) → IsCaused (Some (Mean limits)) (Some input) before now verdict → (Rose before now → ⊥)
      → ((end : End) × SerialEnd program numbers (limits_of limits) (end_of end) × (verdict ≡ Ended end)) ⊎ (verdict ≡ Memory)
  end_is verdict before now caused calm = elim (accepted_is (Mean limits) input source program short cut has verdict before now caused calm) [
    | inl (inl x) ↦ inl (heard (pieces_behind input source) (λ given said. IsMeant program given limits said) numbers verdict x values)
    | inl (inr x) ↦ absurd (accepted_or_refused source program x.0 x.1 has x.2)
    | inr memory ↦ inr memory
  ]

pub says_told_end : (input : Option (List ℕ)) (command : Option Command) (limits : Limits) (verdict : Verdict) (status : ℕ) (old new : Option (List ℕ)) (before now sink_before sink_now : ℕ)
    → command ≡ Some (Mean limits) → IsCaused command input before now verdict → Tells verdict status old new sink_before sink_now
    → IfSome input (λ bytes. (source : List ℕ) (program : Program) (numbers : List ℤ) → length bytes ≤ max_input → IsCut bytes source
    → HasAccepted source program → HaveValues (pieces_behind bytes source) numbers → (Rose before now → ⊥) → (Rose sink_before sink_now → ⊥)
    → ((end : End) × SerialEnd program numbers (limits_of limits) (end_of end) × Says (Ended end) status old new) ⊎ Says Memory status old new)
says_told_end None command limits verdict status old new before now sink_before sink_now is caused told = tt
says_told_end (Some bytes) command limits verdict status old new before now sink_before sink_now is caused told = λ source program numbers short cut has values calm still.
    elim (said_calm verdict status old new sink_before sink_now told still) [
      | inl says ↦ elim (end_is bytes source program numbers limits short cut has values verdict before now (subst (λ c. IsCaused c (Some bytes) before now verdict) is caused) calm) [
        | inl found ↦ inl (found.0, found.1, subst (λ (v : Verdict). Says v status old new) found.2 says)
        | inr memory ↦ inr (subst (λ (v : Verdict). Says v status old new) memory says)
      ]
      | inr memory ↦ inr memory
    ]

-- ---- an accepted source that is built

module _ (input source : List ℕ) (program : Program) (form : Form) (page : ℕ)
    (short : length input ≤ max_input) (cut : IsCut input source) (has : HasAccepted source program) where
  -- the verdict of `build` is the listing of the image, or that it is too long, or want of memory, where no read failed
  listing_is : (verdict : Verdict) (before now : ℕ) → IsCaused (Some (Build form page)) (Some input) before now verdict → (Rose before now → ⊥)
      → ((words : List ℕ) × IsImageOf program form page words × (verdict ≡ Listing words))
      ⊎ (IsLong program form page × (verdict ≡ Refused 0 refusal.Long))
      ⊎ (verdict ≡ Memory)
  listing_is verdict before now caused calm = elim (accepted_is (Build form page) input source program short cut has verdict before now caused calm) [
    | inl (inl x) ↦ inl x
    | inl (inr x) ↦ inr (inl (told_long source program form page x.0 x.1 verdict has x.2 x.3))
    | inr memory ↦ inr (inr memory)
  ]

pub says_told_listing : (input : Option (List ℕ)) (command : Option Command) (form : Form) (page : ℕ) (verdict : Verdict) (status : ℕ) (old new : Option (List ℕ)) (before now sink_before sink_now : ℕ)
    → command ≡ Some (Build form page) → IsCaused command input before now verdict → Tells verdict status old new sink_before sink_now
    → IfSome input (λ bytes. (source : List ℕ) (program : Program) → length bytes ≤ max_input → IsCut bytes source
    → HasAccepted source program → (Rose before now → ⊥) → (Rose sink_before sink_now → ⊥)
    → ((words : List ℕ) × IsImageOf program form page words × Says (Listing words) status old new)
    ⊎ (IsLong program form page × Says (Refused 0 refusal.Long) status old new)
    ⊎ Says Memory status old new)
says_told_listing None command form page verdict status old new before now sink_before sink_now is caused told = tt
says_told_listing (Some bytes) command form page verdict status old new before now sink_before sink_now is caused told = λ source program short cut has calm still.
    elim (said_calm verdict status old new sink_before sink_now told still) [
      | inl says ↦ elim (listing_is bytes source program form page short cut has verdict before now (subst (λ c. IsCaused c (Some bytes) before now verdict) is caused) calm) [
        | inl found ↦ inl (found.0, found.1, subst (λ (v : Verdict). Says v status old new) found.2 says)
        | inr (inl long) ↦ inr (inl (long.0, subst (λ (v : Verdict). Says v status old new) long.1 says))
        | inr (inr memory) ↦ inr (inr (subst (λ (v : Verdict). Says v status old new) memory says))
      ]
      | inr memory ↦ inr (inr memory)
    ]

-- of a short source the image is not too long
pub says_told_short : (input : Option (List ℕ)) (command : Option Command) (form : Form) (page : ℕ) (verdict : Verdict) (status : ℕ) (old new : Option (List ℕ)) (before now sink_before sink_now : ℕ)
    → command ≡ Some (Build form page) → IsCaused command input before now verdict → Tells verdict status old new sink_before sink_now
    → IfSome input (λ bytes. (source : List ℕ) (program : Program) → length bytes ≤ max_input → IsCut bytes source
    → HasAccepted source program → length source ≤ max_short_source → (Rose before now → ⊥) → (Rose sink_before sink_now → ⊥)
    → ((words : List ℕ) × IsImageOf program form page words × Says (Listing words) status old new)
    ⊎ Says Memory status old new)
says_told_short None command form page verdict status old new before now sink_before sink_now is caused told = tt
says_told_short (Some bytes) command form page verdict status old new before now sink_before sink_now is caused told = λ source program small cut has short calm still.
    elim (says_told_listing (Some bytes) command form page verdict status old new before now sink_before sink_now is caused told source program small cut has calm still) [
      | inl listed ↦ inl listed
      | inr (inl long) ↦ absurd (short_or_long source program form page has short long.0)
      | inr (inr memory) ↦ inr memory
    ]

-- ---- an accepted source with numbers that is run

module _ (input source : List ℕ) (program : Program) (numbers : List ℤ) (limits : Limits) (stat : Bool)
    (short : length input ≤ max_input) (cut : IsCut input source) (has : HasAccepted source program) (values : HaveValues (pieces_behind input source) numbers) where
  -- the verdict of `serial` is the end of the elision with its steps, or that the image is too long, or want of memory, where
  -- no read failed
  served_is : (verdict : Verdict) (before now : ℕ) → IsCaused (Some (Serial limits stat)) (Some input) before now verdict → (Rose before now → ⊥)
      → IsServed stat program numbers limits verdict
      ⊎ (IsLong program forms.Serial limits.page × (verdict ≡ Refused 0 refusal.Long))
      ⊎ (verdict ≡ Memory)
  served_is verdict before now caused calm = elim (accepted_is (Serial limits stat) input source program short cut has verdict before now caused calm) [
    | inl (inl x) ↦ inl (heard (pieces_behind input source) (λ given said. IsServed stat program given limits said) numbers verdict x.1 values)
    | inl (inr x) ↦ inr (inl (told_long source program forms.Serial limits.page x.0 x.1 verdict has x.2 x.3))
    | inr memory ↦ inr (inr memory)
  ]

pub says_told_served : (input : Option (List ℕ)) (command : Option Command) (limits : Limits) (stat : Bool) (verdict : Verdict) (status : ℕ) (old new : Option (List ℕ)) (before now sink_before sink_now : ℕ)
    → command ≡ Some (Serial limits stat) → IsCaused command input before now verdict → Tells verdict status old new sink_before sink_now
    → IfSome input (λ bytes. (source : List ℕ) (program : Program) (numbers : List ℤ) → length bytes ≤ max_input → IsCut bytes source
    → HasAccepted source program → HaveValues (pieces_behind bytes source) numbers → (Rose before now → ⊥) → (Rose sink_before sink_now → ⊥)
    → ((said : Verdict) × IsServed stat program numbers limits said × Says said status old new)
    ⊎ (IsLong program forms.Serial limits.page × Says (Refused 0 refusal.Long) status old new)
    ⊎ Says Memory status old new)
says_told_served None command limits stat verdict status old new before now sink_before sink_now is caused told = tt
says_told_served (Some bytes) command limits stat verdict status old new before now sink_before sink_now is caused told = λ source program numbers short cut has values calm still.
    elim (said_calm verdict status old new sink_before sink_now told still) [
      | inl says ↦ elim (served_is bytes source program numbers limits stat short cut has values verdict before now (subst (λ c. IsCaused c (Some bytes) before now verdict) is caused) calm) [
        | inl served ↦ inl (verdict, served, says)
        | inr (inl long) ↦ inr (inl (long.0, subst (λ (v : Verdict). Says v status old new) long.1 says))
        | inr (inr memory) ↦ inr (inr (subst (λ (v : Verdict). Says v status old new) memory says))
      ]
      | inr memory ↦ inr (inr memory)
    ]

-- of a short source the image is not too long
pub says_told_served_short : (input : Option (List ℕ)) (command : Option Command) (limits : Limits) (stat : Bool) (verdict : Verdict) (status : ℕ) (old new : Option (List ℕ)) (before now sink_before sink_now : ℕ)
    → command ≡ Some (Serial limits stat) → IsCaused command input before now verdict → Tells verdict status old new sink_before sink_now
    → IfSome input (λ bytes. (source : List ℕ) (program : Program) (numbers : List ℤ) → length bytes ≤ max_input → IsCut bytes source
    → HasAccepted source program → HaveValues (pieces_behind bytes source) numbers → length source ≤ max_short_source
    → (Rose before now → ⊥) → (Rose sink_before sink_now → ⊥)
    → ((said : Verdict) × IsServed stat program numbers limits said × Says said status old new)
    ⊎ Says Memory status old new)
says_told_served_short None command limits stat verdict status old new before now sink_before sink_now is caused told = tt
says_told_served_short (Some bytes) command limits stat verdict status old new before now sink_before sink_now is caused told = λ source program numbers small cut has values short calm still.
    elim (says_told_served (Some bytes) command limits stat verdict status old new before now sink_before sink_now is caused told source program numbers small cut has values calm still) [
      | inl served ↦ inl served
      | inr (inl long) ↦ absurd (short_or_long source program forms.Serial limits.page has short long.0)
      | inr (inr memory) ↦ inr memory
    ]

-- the end of a run, with the number of its steps, is what `serial` comes to
pub run_is_served : (input source : List ℕ) (build : BuildOf) (limits : Limits) (stat : Bool) (numbers seen : List ℤ) (end : End) (steps : ℕ) (said : Verdict)
    → length input ≤ max_input → IsCut input source → CompilesAs source forms.Serial limits.page build → HaveValues (pieces_behind input source) numbers → seen ≡ numbers
    → SerialEnd build.made.value seen (limits_of limits) (end_of end) → IsSteps build.made.value seen (limits_of limits) steps → said ≡ verdict_of stat end steps
    → Means (Some (Serial limits stat)) input said
run_is_served input source build limits stat numbers seen end steps said short cut compiled values same serial steps_are is =
    subst (λ (v : Verdict). Brings v (Serial limits stat) input) (sym is) (both stat has)
  where
    program : Program
    program = build.made.value

    has : HasServed input limits stat (verdict_of stat end steps)
    has = record {
      source = source;
      program = program;
      numbers = numbers;
      cut = cut;
      accepted = compiled.accepted;
      few = compiled.compiled.few;
      values = values;
      served = record {
        end = end;
        steps = steps;
        serial = subst (λ (n : List ℤ). SerialEnd program n (limits_of limits) (end_of end)) same serial;
        counted = record {
          words = build.image.words;
          code = compiled.compiled.made.words;
          steps_are = subst (λ (n : List ℤ). IsSteps program n (limits_of limits) steps) same steps_are;
        };
        said_is = refl;
      };
    }

    both : (s : Bool) → HasServed input limits s (verdict_of s end steps) → Brings (verdict_of s end steps) (Serial limits s) input
    both true served = (short, served)
    both false served = (short, served)
