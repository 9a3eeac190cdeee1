-- The laws of expressions: what stands before an operand is only taken apart; a literal, a variable, a length and the count
-- of the input are loaded; operators compute.
use Rattle.cm_gen.proofs.items.WriteLaw.{loads_scalar}
use Rattle.std.proofs.Common.{◌≡◌, ℕ, ◌+◌, ◌*◌, ◌^◌, ◌<◌, List, [], ◌∷◌, ◌++◌, length, Option, None, Some, refl, sym, ap, ◌∙◌, subst, arith, inr, append_assoc}
use Rattle.std.specs.Prelude.{ℤ, pos, ◌+ℤ◌, FitsSigned, slice_get}
use Rattle.std.specs.Int.{w32}
use Rattle.cm_isa.specs.Action.{follow}
use Rattle.cm_isa.specs.Operation.{Operation}
use Rattle.cm_isa.specs.Machine.{Machine, Code}
use Rattle.cm_isa.specs.Run.{replied_machine}
use Rattle.cm_gen.specs.Returns.{GoesTo}
use Rattle.cm_isa.specs.declared.convention.TheConstants as reg
use Rattle.cm_syntax.specs.declared.expr.Op.TheVariants as op
use Rattle.cm_syntax.specs.declared.expr.Expr.{Expr}
use Rattle.cm_syntax.specs.declared.expr.Expr.TheVariants as expression
use Rattle.cm_syntax.specs.declared.stmt.Slot.{Slot}
use Rattle.cm_syntax.specs.declared.stmt.Slot.TheVariants as slot
use Rattle.cm_syntax.specs.declared.stmt.Extent.{Extent}
use Rattle.cm_syntax.specs.declared.stmt.Extent.TheVariants as extent
use Rattle.cm_syntax.specs.Extent.{extent_at}
use Rattle.cm_gen.specs.FrameWord.{row_for}
use Rattle.cm_syntax.specs.declared.stmt.Program.{Program}
use Rattle.cm_syntax.specs.Shape.{Joined, Prefixed, Element, InputAt}
use Rattle.cm_syntax.specs.Label.{silent}
use Rattle.cm_syntax.specs.Cell.{value_in}
use Rattle.cm_syntax.specs.Stack.{Reference, Stack}
use Rattle.cm_syntax.specs.Rest.{called, Item, evaluate, right, prefix, both, either, element, read, arguments, take_back, Hand, idle, holds, control}
use Rattle.cm_syntax.specs.Step.{Move, slot_at, slice_in, when_readable, evaluate_step, item_step}
use Rattle.cm_meaning.specs.Activation.{end_count}
use Rattle.cm_meaning.proofs.TypedFramesLaw.{IsPlain}
use Rattle.cm_gen.specs.declared.form.Form.{Form}
use Rattle.cm_gen.specs.declared.form.Form.TheVariants.{Serial, Cilk}
use Rattle.cm_gen.specs.Code.{load_number, load_slot, service}
use Rattle.cm_gen.specs.Part.{Part, call, straight}
use Rattle.cm_gen.specs.Expression.{slot_offset, length_code, take_back_code, expression_code, arguments_code, length_for}
use Rattle.cm_gen.specs.Statement.{enter_code}
use Rattle.cm_gen.specs.Standing.{LeadsTo, StandsThen, used, slots_here, form_here, Coded}
use Rattle.cm_gen.specs.FrameWord.{bits, Kept, row_of}
use Rattle.cm_gen.specs.StandsFor.{Spot, hears, Placed, ExactAt, LeadsFrom}
use Rattle.cm_gen.specs.Formed.{Formed}
use Rattle.cm_gen.proofs.patterns.PatternLaw.{load_number_runs, load_number_some, load_slot_some, service_runs}
use Rattle.cm_gen.proofs.patterns.LeavesLaw.{Sets, same_leaves, same_replied}
use Rattle.cm_gen.proofs.patterns.StandingLaw.{parted, leads_map, straight_end, code_at}
use Rattle.cm_gen.proofs.items.StateLaw.{exact_same, leads_to, goes_on, gives_value, by_present, by_slice, coded_of}
use Rattle.cm_gen.proofs.states.ValueFitsLaw.{natural_fits}
use Rattle.cm_gen.proofs.states.FactLaw.{Opened, opened, row_within, number_fits, slots_are}
use Rattle.cm_gen.proofs.patterns.BaseLaw.{at_base, length_runs, is_row}

-- a call's code is the same in both forms
called_code : (own : Form) (slots : List Slot) (f : ℕ) → call f ∷ [] ≡ enter_code own slots called f
called_code Serial slots f = refl
called_code Cilk slots f = refl

-- the code of a length of a slot that is there
length_some : (program : Program) (page : ℕ) (calls : List ℕ) (h : Stack) (a : ℕ) (r : Reference) → value_in (row_of program page calls h a) ≡ Some r → 0 < length (length_code (slots_here program calls) a)
length_some program page calls h a r row = by_kind (extent_at (slots_here program calls) a) row
  where
    o : ℤ
    o = slot_offset (slots_here program calls) a

    by_kind : (kind : Option Extent) → value_in (row_for program page kind calls h a) ≡ Some r → 0 < length (length_for kind o)
    by_kind None e = cc e
    by_kind (Some extent.Word) e = load_number_some reg.VALUE (pos 1)
    by_kind (Some (extent.Words n)) e = load_number_some reg.VALUE (pos n)
    by_kind (Some extent.Reference) e = load_slot_some reg.VALUE (o +ℤ pos 4)

module _ (program : Program) (form : Form) (page limit : ℕ) (input : List ℤ) (code : Code) where
  module _ (spot : Spot) (left : ℕ) (calls : List ℕ) (account : ℕ) (hand : Hand) (k : List Item) (h : Stack) (m : Machine) (plain : IsPlain hand) where
    abbrev exact : List Item → Type 0
    exact l = ExactAt program form page input code spot left (control calls account hand l) h m

    abbrev coded : List Item → (p : ℕ) → Type 0
    coded l p = Coded program form page code l calls spot.frames p

    abbrev slots : List Slot
    slots = slots_here program calls

    abbrev leads : Move → Type 0
    leads move = LeadsFrom program form page input code spot left calls h move m

    -- instructions that put a value into VALUE
    pub puts_value : (l : List Item) (is : List Operation) (v : ℤ) (n : ℕ) (t : Machine) → exact l → GoesTo code n m t → Sets reg.VALUE (bits v) (4 * length is) m t → FitsSigned w32 v
        → Kept program page k calls spot.frames h m.words → end_count k ≡ end_count l → StandsThen code (straight is) (coded k) m.counter
        → leads (silent (control calls account (holds v) k) h)
    puts_value l is v n t x comes does fits keeps count c =
        gives_value program form page input code x plain k v n t (m.counter + 4 * length is) comes (same_leaves refl does) does.words does.counter does.value fits keeps count (straight_end code is (coded k) m.counter c)

    number_by : (v : ℤ) → FitsSigned w32 v → exact (evaluate (expression.Number v) ∷ k) → StandsThen code (straight (load_number reg.VALUE v)) (coded k) m.counter → leads (silent (control calls account (holds v) k) h)
    number_by v fits x c =
        let at = code_at code (load_number reg.VALUE v) (coded k) m.counter (load_number_some reg.VALUE v) c in
        let below = at.below in
        let ran = load_number_runs code reg.VALUE v m refl x.zero_is fits (omega (arith, below)) at.there in
        puts_value (evaluate (expression.Number v) ∷ k) (load_number reg.VALUE v) v _ ran.0 x ran.1 ran.2 fits x.kept refl c

    -- the count of the input, by a service that replies
    inputs_by : length input < 2 ^ 31 → exact (evaluate expression.Inputs ∷ k) → StandsThen code (straight (service (pos 3))) (coded k) m.counter → leads (silent (control calls account (holds (pos (length input))) k) h)
    inputs_by few x c =
        let at = code_at code (service (pos 3)) (coded k) m.counter (omega arith) c in
        let below = at.below in
        let ran = service_runs code 3 m (omega arith) x.zero_is at in
        let does = ran.2 in
        let place = does.counter in
        let t = ran.0 in
        let u = replied_machine t (Some (length input)) in
        let next : follow t.counter ≡ m.counter + 4 * length (service (pos 3)) = omega (arith, below, place) in
        let same = same_replied t (length input) (same_leaves refl does) in
        leads_to program form page input code 1 t ran.1 (hears (length input) (inr (record { there = ran.3; number_is = does.value }, refl))
        (exact_same program form page input code x plain (holds (pos (length input))) tt k u same does.words x.kept refl
        (leads_map code (coded k) (Placed program form page input code (holds (pos (length input))) k calls spot.frames u.registers) u.counter
        (subst (LeadsTo code (coded k)) (sym next) (straight_end code (service (pos 3)) (coded k) m.counter c))
        (λ q g. (refl, natural_fits (length input) few, g)))))

    -- a part before an item
    front_by : (l : List Item) (j : List Item) (e : Expr ℕ) (first second : List Part) → exact l → Kept program page j calls spot.frames h m.words → end_count j ≡ end_count l
        → StandsThen code (first ++ second) (coded k) m.counter → (StandsThen code first (StandsThen code second (coded k)) m.counter → coded (evaluate e ∷ j) m.counter) → leads (silent (control calls account idle (evaluate e ∷ j)) h)
    front_by l j e first second x keeps count c to = goes_on program form page input code x plain (evaluate e ∷ j) keeps count (to (parted code first second (coded k) m.counter c))

    -- a call: its arguments come first
    call_by : (e : Expr ℕ) (f : ℕ) (arguments_ : List Part) → exact (evaluate e ∷ k) → StandsThen code (arguments_ ++ (call f ∷ straight take_back_code)) (coded k) m.counter
        → StandsThen code (arguments_ ++ enter_code (form_here program form calls) slots called f) (StandsThen code (straight take_back_code) (coded k)) m.counter
    call_by e f arguments_ x c =
        subst (λ l. StandsThen code (arguments_ ++ l) (StandsThen code (straight take_back_code) (coded k)) m.counter) (called_code (form_here program form calls) slots f)
        (parted code (arguments_ ++ call f ∷ []) (straight take_back_code) (coded k) m.counter
        (subst (λ l. StandsThen code l (coded k) m.counter) (sym (append_assoc arguments_ (call f ∷ []) (straight take_back_code))) c))

  -- ---- the words of a slot

  -- ---- expressions

  -- a variable
  scalar_by : (spot : Spot) (left f : ℕ) (calls : List ℕ) (account : ℕ) (hand : Hand) → IsPlain hand → (s : ℕ) (l k : List Item) (h : Stack) (m : Machine) → slice_get (slots_here program (f ∷ calls)) s ≡ Some slot.Scalar
      → ((v : ℤ) → value_in (h.words (length calls) s 0) ≡ Some v → FitsSigned w32 v) → ExactAt program form page input code spot left (control (f ∷ calls) account hand l) h m
      → Kept program page k (f ∷ calls) spot.frames h m.words → end_count k ≡ end_count l
      → StandsThen code (straight (load_slot reg.VALUE (slot_offset (slots_here program (f ∷ calls)) s))) (Coded program form page code k (f ∷ calls) spot.frames) m.counter
      → LeadsFrom program form page input code spot left (f ∷ calls) h (when_readable (h.words (length calls) s 0) (λ v. silent (control (f ∷ calls) account (holds v) k) h)) m
  scalar_by spot left f calls account hand plain s l k h m kind small x keeps count c =
      let o = slot_offset (slots_here program (f ∷ calls)) s in
      let at = code_at code (load_slot reg.VALUE o) (Coded program form page code k (f ∷ calls) spot.frames) m.counter (load_slot_some reg.VALUE o) c in
      by_present program form page input code (h.words (length calls) s 0) _ (λ v e.
      let ran = loads_scalar program form page input code x s reg.VALUE v kind e refl refl at in
      puts_value spot left (f ∷ calls) account hand k h m plain l (load_slot reg.VALUE o) v _ ran.0 x ran.1 ran.2 (small v e) keeps count c)

  -- the number of the words of a slot
  length_by : (spot : Spot) (left : ℕ) (calls : List ℕ) (account : ℕ) (hand : Hand) → IsPlain hand → (a : ℕ) (l k : List Item) (h : Stack) (m : Machine)
      → Formed program page limit (control calls account hand l) h → 0 < length calls → ExactAt program form page input code spot left (control calls account hand l) h m
      → Kept program page k calls spot.frames h m.words → end_count k ≡ end_count l
      → StandsThen code (straight (length_code (slots_here program calls) a)) (Coded program form page code k calls spot.frames) m.counter
      → LeadsFrom program form page input code spot left calls h (slice_in calls h (slot_at program page input calls a) a (λ r. silent (control calls account (holds (pos r.length)) k) h)) m
  length_by spot left calls account hand plain a l k h m formed some x keeps count c =
      by_slice program form page input code calls h a _ (λ r row.
      let is = is_row program page calls spot.frames r x.frames (row_within program page limit calls account hand l h a r formed some row) in
      let small = is.small in
      let at = code_at code (length_code (slots_here program calls) a) (Coded program form page code k calls spot.frames) m.counter (length_some program page calls h a r row) c in
      let ran = length_runs program page code calls spot.frames h a r m (at_base program form page input code spot left (control calls account hand l) h m x) row (omega (arith, small)) at in
      puts_value spot left calls account hand k h m plain l (length_code (slots_here program calls) a) (pos r.length) _ ran.0 x ran.1 ran.2 (natural_fits r.length (omega (arith, small))) keeps count c)

  -- an expression, by its form
  evaluate_by : (e : Expr ℕ) (spot : Spot) (left f : ℕ) (calls : List ℕ) (account : ℕ) (hand : Hand) → IsPlain hand → (k : List Item) (h : Stack) (m : Machine) → length input < 2 ^ 31
      → Formed program page limit (control (f ∷ calls) account hand (evaluate e ∷ k)) h → Opened program page limit (control (f ∷ calls) account hand (evaluate e ∷ k)) h
      → ExactAt program form page input code spot left (control (f ∷ calls) account hand (evaluate e ∷ k)) h m
      → StandsThen code (expression_code (slots_here program (f ∷ calls)) e (used k)) (Coded program form page code k (f ∷ calls) spot.frames) m.counter
      → LeadsFrom program form page input code spot left (f ∷ calls) h (evaluate_step program page input (control (f ∷ calls) account hand (evaluate e ∷ k)) h e k) m
  evaluate_by (expression.Number n) spot left f calls account hand plain k h m few formed o x c =
      number_by spot left (f ∷ calls) account hand k h m plain n (number_fits program page limit (f ∷ calls) account hand n k h formed) x c
  evaluate_by (expression.Scalar s) spot left f calls account hand plain k h m few formed o x c =
      scalar_by spot left f calls account hand plain s.name (evaluate (expression.Scalar s) ∷ k) k h m (ap (λ l. slice_get l s.name) (slots_are program page limit o) ∙ o.inner.0.1)
      (λ v e. formed.small (length calls) s.name 0 v e) x x.kept refl c
  evaluate_by (Element a index) spot left f calls account hand plain k h m few formed o x c =
      front_by spot left (f ∷ calls) account hand k h m plain (evaluate (Element a index) ∷ k) (element a.name ∷ k) index _ _ x x.kept refl c (λ c. c)
  evaluate_by (expression.Len a) spot left f calls account hand plain k h m few formed o x c =
      length_by spot left (f ∷ calls) account hand plain a.name (evaluate (expression.Len a) ∷ k) k h m formed (omega arith) x x.kept refl c
  evaluate_by (InputAt index) spot left f calls account hand plain k h m few formed o x c =
      front_by spot left (f ∷ calls) account hand k h m plain (evaluate (InputAt index) ∷ k) (read ∷ k) index _ _ x x.kept refl c (λ c. c)
  evaluate_by expression.Inputs spot left f calls account hand plain k h m few formed o x c = inputs_by spot left (f ∷ calls) account hand k h m plain few x c
  evaluate_by (Prefixed p e) spot left f calls account hand plain k h m few formed o x c =
      front_by spot left (f ∷ calls) account hand k h m plain (evaluate (Prefixed p e) ∷ k) (prefix p ∷ k) e _ _ x x.kept refl c (λ c. c)
  evaluate_by (Joined op.Both l r) spot left f calls account hand plain k h m few formed o x c =
      front_by spot left (f ∷ calls) account hand k h m plain (evaluate (Joined op.Both l r) ∷ k) (both r ∷ k) l _ _ x x.kept refl c (λ c. c)
  evaluate_by (Joined op.Either l r) spot left f calls account hand plain k h m few formed o x c =
      front_by spot left (f ∷ calls) account hand k h m plain (evaluate (Joined op.Either l r) ∷ k) (either r ∷ k) l _ _ x x.kept refl c (λ c. c)
  evaluate_by (Joined p l r) spot left f calls account hand plain k h m few formed o x c =
      front_by spot left (f ∷ calls) account hand k h m plain (evaluate (Joined p l r) ∷ k) (right p r ∷ k) l _ _ x x.kept refl c (λ c. c)
  evaluate_by (expression.Call' g a row) spot left f calls account hand plain k h m few formed o x c =
      goes_on program form page input code x plain (arguments called g.name [] row ∷ take_back ∷ k) (tt, x.kept) refl
      (call_by spot left (f ∷ calls) account hand k h m plain (expression.Call' g a row) g.name (arguments_code (slots_here program (f ∷ calls)) row (used k) 0) x c)

  pub evaluate_law : (spot : Spot) (left : ℕ) (calls : List ℕ) (account : ℕ) (hand : Hand) (e : Expr ℕ) (k : List Item) (h : Stack) (m : Machine) → length input < 2 ^ 31 → IsPlain hand
      → Formed program page limit (control calls account hand (evaluate e ∷ k)) h
      → ExactAt program form page input code spot left (control calls account hand (evaluate e ∷ k)) h m
      → Placed program form page input code hand (evaluate e ∷ k) calls spot.frames m.registers m.counter
      → LeadsFrom program form page input code spot left calls h (item_step program page input (control calls account hand (evaluate e ∷ k)) h (evaluate e) k) m
  evaluate_law spot left calls account hand e k h m few plain formed x here =
      by_calls calls (opened program page limit calls account hand (evaluate e) k h plain tt formed) formed x (coded_of program form page limit input code hand (evaluate e ∷ k) calls spot.frames m.registers m.counter plain here)
    where
      no_calls : (f : ℕ) (calls : List ℕ) → [] ≡ f ∷ calls → ⊥
      no_calls f calls e = cc e

      by_calls : (calls : List ℕ) → Opened program page limit (control calls account hand (evaluate e ∷ k)) h → Formed program page limit (control calls account hand (evaluate e ∷ k)) h
          → ExactAt program form page input code spot left (control calls account hand (evaluate e ∷ k)) h m → Coded program form page code (evaluate e ∷ k) calls spot.frames m.counter
          → LeadsFrom program form page input code spot left calls h (item_step program page input (control calls account hand (evaluate e ∷ k)) h (evaluate e) k) m
      by_calls [] o formed x c = absurd (no_calls o.f o.callers o.calls_are)
      by_calls (f ∷ calls) o formed x c = evaluate_by e spot left f calls account hand plain k h m few formed o x c
