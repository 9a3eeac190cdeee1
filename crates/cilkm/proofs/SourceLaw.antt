-- A source comes to one thing: a program, or a refusal.
use Rattle.std.proofs.Common.{◌≡◌, ℕ, ◌≤◌, List, length, refl, sym, ap, ◌∙◌, subst, arith, inl, inr}
use Rattle.std.specs.Prelude.{◌⊎◌, Some, Result, Ok, Err, IfOk, IfErr, IsErrAnd}
use Rattle.std.specs.List.{Contains}
use Rattle.cm_syntax.specs.declared.stmt.Tree.{Tree}
use Rattle.cm_syntax.specs.declared.stmt.Program.{Program}
use Rattle.cm_syntax.specs.Refusal as text
use Rattle.cm_syntax.specs.Fault.{Variant, Fault, IsNameAnswer, IsSoundProgram, fault_at, faults, program_of}
use Rattle.cm_syntax.proofs.refusing.OneAnswer.{IsAnswer-one, IsNameAnswer-one}
use Rattle.cm_syntax.proofs.parser.trace.OneTree.{IsSourceOf-one}
use Rattle.cm_syntax.specs.Lending.{IsLentAmong, IsSameAmong}
use Rattle.cm_lend.specs.declared.breach.Breach.{Breach}
use Rattle.cm_lend.specs.declared.breach.Breach.TheVariants as breach
use Rattle.cm_lend.specs.Answer.{IsAnswer as IsLendingAnswer, IsRefusalOf}
use Rattle.cm_lend.specs.declared.refusal.LendRefusal.{LendRefusal}
use Rattle.cm_lend.specs.declared.refusal.LendRefusal.TheVariants as lending
use Rattle.cm_lend.proofs.AnswerLaw.{one_answer as one_lending_answer}
use Rattle.cm_gen.specs.declared.build.Build.{Build as BuildOf}
use Rattle.cm_gen.specs.declared.form.Form.{Form}
use Rattle.cm_gen.specs.declared.form.Form.TheVariants as forms
use Rattle.cm_gen.specs.Image.{image_of}
use Rattle.cm_gen.proofs.sizes.BoundLaw.{source_bound}
use Rattle.cilkm.specs.Built.{max_short_source, IsCompiled, IsLong}
use Rattle.cilkm.specs.declared.command.Command.{Command}
use Rattle.cilkm.specs.declared.command.Command.TheVariants.{Check, Build, Serial, Mean}
use Rattle.cilkm.specs.declared.refusal.Refusal.{Refusal}
use Rattle.cilkm.specs.declared.refusal.Refusal.TheVariants as refusal
use Rattle.cilkm.specs.declared.refusal.Stop.{Stop}
use Rattle.cilkm.specs.declared.refusal.Stop.TheVariants as stop
use Rattle.cilkm.specs.Source.{HasTree, IsMisnamed, HasProgram, HasAccepted, HasLong, CompilesAs, IsRefused, IsNotCompiled, IsRefusedBy, IsStopOf, IsStopOfBuild, stop_of_lending}

HasTree-one : (source : List ℕ) (x y : Tree) → HasTree source x → HasTree source y → x ≡ y
HasTree-one source x y a b = IsSourceOf-one source x y a.parses b.parses

pub HasProgram-one : (source : List ℕ) (p q : Program) → HasProgram source p → HasProgram source q → p ≡ q
HasProgram-one source p q x y = x.resolved ∙ ap program_of (HasTree-one source x.tree y.tree x.read y.read) ∙ sym y.resolved

-- a source whose names are refused has no program
misnamed_or_program : (source : List ℕ) (program : Program) (at : ℕ) (variant : Variant) → HasProgram source program → IsMisnamed source at variant → ⊥
misnamed_or_program source program at variant x y =
    let none = ap faults (HasTree-one source y.tree x.tree y.read x.read) ∙ x.faultless in
    let found = subst (λ (all : List Fault). Contains all (fault_at at variant)) none y.answer.faulty in
    omega (arith, found.1)

-- an accepted source isn't refused
pub accepted_or_refused : (source : List ℕ) (program : Program) (at : ℕ) (why : Refusal) → HasAccepted source program → IsRefused source at why → ⊥
accepted_or_refused source program at refusal.Syntax x y = x.named.read.within text.syntax_ at y.refused
accepted_or_refused source program at refusal.Size x y = x.named.read.within text.size at y.refused
accepted_or_refused source program at refusal.Unknown x y = misnamed_or_program source program at Variant.unknown x.named y
accepted_or_refused source program at refusal.Twice x y = misnamed_or_program source program at Variant.twice x.named y
accepted_or_refused source program at refusal.Arity x y = misnamed_or_program source program at Variant.arity x.named y
accepted_or_refused source program at refusal.Kind x y = misnamed_or_program source program at Variant.kind x.named y
accepted_or_refused source program at refusal.NoMain x y = misnamed_or_program source program at Variant.no_main x.named y
accepted_or_refused source program at refusal.Frame x y = misnamed_or_program source program at Variant.frame x.named y
accepted_or_refused source program at refusal.Count x y = misnamed_or_program source program at Variant.count x.named y
accepted_or_refused source program at (refusal.Lent spawn) x y =
    x.accepted.lent at spawn (subst (λ (p : Program). IsLentAmong p.functions at spawn) (HasProgram-one source y.0 program y.1 x.named) y.2.named.lent)
accepted_or_refused source program at refusal.Same x y =
    x.accepted.same at (subst (λ (p : Program). IsSameAmong p.functions at) (HasProgram-one source y.0 program y.1 x.named) y.2.same)
accepted_or_refused source program at refusal.Long x y = y

-- an accepted source isn't compiled only because its image has too many words
pub accepted_and_long : (source : List ℕ) (program : Program) (form : Form) (page at : ℕ) (why : Refusal) → HasAccepted source program
    → IsNotCompiled form page source at why → (at ≡ 0) × (why ≡ refusal.Long) × IsLong program form page
accepted_and_long source program form page at refusal.Long x y =
    (y.0, refl, subst (λ (p : Program). IsLong p form page) (HasProgram-one source y.1.0 program y.1.1.named x.named) y.1.2)
accepted_and_long source program form page at why x y = absurd (accepted_or_refused source program at why x y)

-- the image of a short source isn't too long
pub short_or_long : (source : List ℕ) (program : Program) (form : Form) (page : ℕ) → HasAccepted source program → length source ≤ max_short_source
    → IsLong program form page → ⊥
short_or_long source program form page x short long =
    let named = x.named in
    let bound = source_bound source named.tree form page named.read.parses in
    let same = ap (λ (p : Program). length (image_of p form page)) named.resolved in
    omega (arith, bound, same, short, long)

-- ---- one refusal

-- the words of the reader's refusals and of the faults of names
abbrev word_of_text : text.Refusal → Refusal
word_of_text text.syntax_ = refusal.Syntax
word_of_text text.size = refusal.Size

abbrev word_of_fault : Variant → Refusal
word_of_fault Variant.unknown = refusal.Unknown
word_of_fault Variant.twice = refusal.Twice
word_of_fault Variant.arity = refusal.Arity
word_of_fault Variant.kind = refusal.Kind
word_of_fault Variant.no_main = refusal.NoMain
word_of_fault Variant.frame = refusal.Frame
word_of_fault Variant.count = refusal.Count

-- the words of the lending rule's answers, and where they stand; an accepted program has no refusal
abbrev word_of_breach : Breach → Refusal
word_of_breach (breach.Lent at spawn) = refusal.Lent spawn
word_of_breach (breach.Same at) = refusal.Same

abbrev offset_of_breach : Breach → ℕ
offset_of_breach (breach.Lent at spawn) = at
offset_of_breach (breach.Same at) = at

-- why a source is refused: as a text, by its names, or by what the lending rule answers of its program
abbrev Cause : (source : List ℕ) → (at : ℕ) → Refusal → Type 0
Cause source at why =
    ((r : text.Refusal) × text.IsAnswer source r at × (why ≡ word_of_text r))
    ⊎ (((v : Variant) × IsMisnamed source at v × (why ≡ word_of_fault v))
    ⊎ ((program : Program) × (found : Breach) × HasProgram source program × IsLendingAnswer program (Some found) × (at ≡ offset_of_breach found) × (why ≡ word_of_breach found)))

cause_of : (source : List ℕ) (at : ℕ) (why : Refusal) → IsRefused source at why → Cause source at why
cause_of source at refusal.Syntax x = inl (text.syntax_, x, refl)
cause_of source at refusal.Size x = inl (text.size, x, refl)
cause_of source at refusal.Unknown x = inr (inl (Variant.unknown, x, refl))
cause_of source at refusal.Twice x = inr (inl (Variant.twice, x, refl))
cause_of source at refusal.Arity x = inr (inl (Variant.arity, x, refl))
cause_of source at refusal.Kind x = inr (inl (Variant.kind, x, refl))
cause_of source at refusal.NoMain x = inr (inl (Variant.no_main, x, refl))
cause_of source at refusal.Frame x = inr (inl (Variant.frame, x, refl))
cause_of source at refusal.Count x = inr (inl (Variant.count, x, refl))
cause_of source at (refusal.Lent spawn) x = inr (inr (x.0, breach.Lent at spawn, x.1, x.2, refl, refl))
cause_of source at refusal.Same x = inr (inr (x.0, breach.Same at, x.1, x.2, refl, refl))
cause_of source at refusal.Long x = absurd x

one_cause : (source : List ℕ) (i j : ℕ) (a b : Refusal) → Cause source i a → Cause source j b → (i ≡ j) × (a ≡ b)
one_cause source i j a b (inl (r, x, e)) (inl (s, y, f)) =
    let one = IsAnswer-one source r s i j x y in (one.1, e ∙ ap word_of_text one.0 ∙ sym f)
one_cause source i j a b (inl (r, x, e)) (inr (inl (w, y, f))) = absurd (y.read.within r i x.refused)
one_cause source i j a b (inl (r, x, e)) (inr (inr (p, found, y, n, at, f))) = absurd (y.read.within r i x.refused)
one_cause source i j a b (inr (inl (v, x, e))) (inl (s, y, f)) = absurd (x.read.within s j y.refused)
one_cause source i j a b (inr (inl (v, x, e))) (inr (inl (w, y, f))) =
    let tree = HasTree-one source x.tree y.tree x.read y.read in
    let one = IsNameAnswer-one y.tree i j v w (subst (λ (t : Tree). IsNameAnswer t i v) tree x.answer) y.answer in
    (one.0, e ∙ ap word_of_fault one.1 ∙ sym f)
one_cause source i j a b (inr (inl (v, x, e))) (inr (inr (p, found, y, n, at, f))) = absurd (misnamed_or_program source p i v y x)
one_cause source i j a b (inr (inr (p, found, x, m, at, e))) (inl (s, y, f)) = absurd (x.read.within s j y.refused)
one_cause source i j a b (inr (inr (p, found, x, m, at, e))) (inr (inl (w, y, f))) = absurd (misnamed_or_program source p j w x y)
one_cause source i j a b (inr (inr (p, found, x, m, at, e))) (inr (inr (q, other, y, n, to, f))) =
    let program = HasProgram-one source p q x y in
    let both : Some found ≡ Some other = one_lending_answer q (Some found) (Some other) (subst (λ (of : Program). IsLendingAnswer of (Some found)) program m) n in
    let one : found ≡ other = cc in
    (at ∙ ap offset_of_breach one ∙ sym to, e ∙ ap word_of_breach one ∙ sym f)

by_one_cause : (source : List ℕ) (i j : ℕ) (a b : Refusal) → IsRefused source i a → IsRefused source j b → (i ≡ j) × (a ≡ b)
by_one_cause source i j a b x y = one_cause source i j a b (cause_of source i a x) (cause_of source j b y)

-- a source that is refused anyway has no image that is too long
long_or_refused : (source : List ℕ) (form : Form) (page at : ℕ) (why : Refusal) → HasLong source form page → IsRefused source at why → ⊥
long_or_refused source form page at why x y = accepted_or_refused source x.0 at why x.1 y

-- why a source isn't compiled: its image is too long, or it is refused anyway
build_cause : (source : List ℕ) (form : Form) (page at : ℕ) (why : Refusal) → IsNotCompiled form page source at why
    → ((at ≡ 0) × (why ≡ refusal.Long) × HasLong source form page) ⊎ IsRefused source at why
build_cause source form page at refusal.Long x = inl (x.0, refl, x.1)
build_cause source form page at why x = inr x

one_build_cause : (source : List ℕ) (form : Form) (page i j : ℕ) (a b : Refusal)
    → ((i ≡ 0) × (a ≡ refusal.Long) × HasLong source form page) ⊎ IsRefused source i a
    → ((j ≡ 0) × (b ≡ refusal.Long) × HasLong source form page) ⊎ IsRefused source j b → (i ≡ j) × (a ≡ b)
one_build_cause source form page i j a b (inl x) (inl y) = (x.0 ∙ sym y.0, x.1 ∙ sym y.1)
one_build_cause source form page i j a b (inl x) (inr y) = absurd (long_or_refused source form page j b x.2 y)
one_build_cause source form page i j a b (inr x) (inl y) = absurd (long_or_refused source form page i a y.2 x)
one_build_cause source form page i j a b (inr x) (inr y) = by_one_cause source i j a b x y

-- a source is refused once
pub IsRefused-one : (command : Command) (source : List ℕ) (i j : ℕ) (a b : Refusal) → IsRefusedBy command source i a → IsRefusedBy command source j b → (i ≡ j) × (a ≡ b)
IsRefused-one Check source i j a b x y = by_one_cause source i j a b x y
IsRefused-one (Build form page) source i j a b x y =
    one_build_cause source form page i j a b (build_cause source form page i a x) (build_cause source form page j b y)
IsRefused-one (Serial limits stat) source i j a b x y =
    one_build_cause source forms.Serial limits.page i j a b (build_cause source forms.Serial limits.page i a x) (build_cause source forms.Serial limits.page j b y)
IsRefused-one (Mean limits) source i j a b x y = by_one_cause source i j a b x y

-- why the program of an accepted source isn't built, `build` stops
pub stops_making : {A : Type 0} (source : List ℕ) (program same : Program) (form : Form) (page : ℕ) (r : Result A Stop) → HasAccepted source program → same ≡ program
    → IfErr r (IsStopOfBuild same form page) → IfErr r (IsStopOf (Build form page) source)
stops_making source program same form page (Ok a) x e y = tt
stops_making source program same form page (Err why) x e y = by why x (subst (λ (p : Program). IsStopOfBuild p form page why) e y)
  where
    by : (why : Stop) → HasAccepted source program → IsStopOfBuild program form page why → IsStopOf (Build form page) source why
    by (stop.Refused at why) x y = subst (λ (w : Refusal). IsNotCompiled form page source at w) (sym y.1) (y.0, (program, x, y.2))
    by stop.Memory x y = tt

-- the build of an accepted source's program is the source's
pub compiles_as : (source : List ℕ) (program : Program) (form : Form) (page : ℕ) (r : Result BuildOf Stop) → HasAccepted source program → IsSoundProgram program
    → IfOk r (IsCompiled program form page) → IfOk r (CompilesAs source form page)
compiles_as source program form page (Ok build) x sound y =
    let same = sym y.made.made in
    record { accepted = subst (HasAccepted source) same x; sound = subst IsSoundProgram same sound; compiled = subst (λ (p : Program). IsCompiled p form page build) same y }
compiles_as source program form page (Err why) x sound y = tt

-- the refusal of the lending rule is a reason to stop
pub stops_lending : (source : List ℕ) (program : Program) (why : LendRefusal) → HasProgram source program → IsRefusalOf program why → IsStopOf Check source (stop_of_lending why)
stops_lending source program (lending.Lent at spawn) x y = (program, x, y)
stops_lending source program (lending.Same at) x y = (program, x, y)
stops_lending source program lending.Memory x y = tt

-- what holds of a reason to stop holds of the answer that hands it on
pub handed_on : {A : Type 0} (P : Stop → Type 0) (r : Result A Stop) (why : Stop) → IsErrAnd r (λ found. found ≡ why) → P why → IfErr r P
handed_on P (Ok a) why same h = tt
handed_on P (Err found) why same h = subst P (sym same) h
