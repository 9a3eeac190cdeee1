-- What the laws of the items share: a machine that goes from one state to the next, and the choices of a step.
use Rattle.cm_gen.proofs.patterns.JumpLaw.{jumps_run, moved}
use Rattle.cm_syntax.specs.declared.stmt.Extent.TheVariants as extent
use Rattle.cm_syntax.specs.declared.stmt.Extent.{Extent}
use Rattle.cm_syntax.specs.Extent.{extent_at}
use Rattle.std.proofs.Common.{◌≡◌, ℕ, ◌+◌, List, Option, None, Some, refl, sym, ap, ◌∙◌, subst, [], ◌∷◌}
use Rattle.std.specs.Prelude.{Bool, true, false, if◌then◌else◌, ℤ, FitsSigned}
use Rattle.std.specs.Int.{w32}
use Rattle.cm_isa.specs.declared.convention.TheConstants as reg
use Rattle.cm_isa.specs.Machine.{Machine, Mapped, Code}
use Rattle.cm_gen.specs.Returns.{GoesTo}
use Rattle.cm_syntax.specs.declared.expr.Op.{Op}
use Rattle.cm_syntax.specs.declared.stmt.Program.{Program}
use Rattle.cm_syntax.specs.Label.{silent, traps, stuck}
use Rattle.cm_syntax.specs.Trap as kind
use Rattle.cm_syntax.specs.Operator.{divides}
use Rattle.cm_syntax.specs.Cell.{Cell, value_in, may_write}
use Rattle.cm_syntax.specs.Stack.{Stack, Reference}
use Rattle.cm_syntax.specs.Rest.{Item, Hand, idle, holds, Control, control, returned, entering, framing}
use Rattle.cm_syntax.specs.Step.{Move, when_readable, when_writable, when_result, when_some, top, scalar_slice, slot_at, slice_in, when_value}
use Rattle.cm_meaning.specs.Activation.{end_count}
use Rattle.cm_meaning.proofs.TypedFramesLaw.{IsPlain}
use Rattle.cm_gen.specs.declared.form.Form.{Form}
use Rattle.cm_gen.specs.Standing.{Frame, LeadsTo, Coded, slots_here}
use Rattle.cm_gen.specs.FrameWord.{bits, Holds, Kept, HasOwn, row_of, row_for}
use Rattle.cm_gen.specs.StandsFor.{Spot, stays, backs, returns_at, Placed, ExactAt, stands, Arrives, LeadsFrom}
use Rattle.cm_gen.proofs.patterns.StepLaw.{comes_on}
use Rattle.cm_gen.proofs.patterns.StandingLaw.{leads_map}
use Rattle.cm_gen.proofs.patterns.LeavesLaw.{SameRegisters, same_self}
use Rattle.cm_syntax.proofs.AccessLaw.{reading, writing}

-- where no call is at hand, the returns are those of the frames
pub plain_backs : (hand : Hand) (n : ℕ) (frames : List Frame) (r : ℕ → ℕ) → IsPlain hand → returns_at hand n frames r ≡ backs n frames
plain_backs idle n frames r none = refl
plain_backs (holds v) n frames r none = refl
plain_backs (returned v) n frames r none = refl
plain_backs (entering f ws) n frames r none = absurd none
plain_backs (framing f ws) n frames r none = absurd none

-- so they are the same from one state to another
plain_returns : (hand now : Hand) (a b : ℕ) (frames : List Frame) (r t : ℕ → ℕ) → IsPlain hand → IsPlain now → b ≡ a → returns_at hand a frames r ≡ returns_at now b frames t
plain_returns hand now a b frames r t none none' same = plain_backs hand a frames r none ∙ ap (λ n. backs n frames) (sym same) ∙ sym (plain_backs now b frames t none')

module _ (program : Program) (form : Form) (page : ℕ) (input : List ℤ) (code : Code) where
  abbrev exact : Spot → (left : ℕ) → Control → Stack → Machine → Type 0
  exact = ExactAt program form page input code

  abbrev leads : Spot → (left : ℕ) → (calls : List ℕ) → Stack → Move → Machine → Type 0
  leads = LeadsFrom program form page input code

  abbrev kept : List Item → List ℕ → List Frame → Stack → Mapped → Type 0
  kept = Kept program page

  abbrev placed : Hand → List Item → List ℕ → List Frame → (ℕ → ℕ) → ℕ → Type 0
  placed = Placed program form page input code

  -- ---- the next state

  -- with the same frames: the slots, what is kept, and the place are said anew
  pub exact_with : {spot : Spot} {left : ℕ} {calls : List ℕ} {account : ℕ} {hand : Hand} {k : List Item} {h : Stack} {m : Machine} (x : exact spot left (control calls account hand k) h m)
      → IsPlain hand → (now : Hand) → IsPlain now → (l : List Item) (g : Stack) (t : Machine) → SameRegisters m.registers t.registers → end_count l ≡ end_count k
      → Holds program page calls spot.frames g t.words → kept l calls spot.frames g t.words → HasOwn program page (end_count l) calls spot.frames t.words
      → LeadsTo code (placed now l calls spot.frames t.registers) t.counter
      → exact spot left (control calls account now l) g t
  exact_with {spot = spot} {hand = hand} {k = k} {m = m} x none now none' l g t same count slots keeps own here = record {
    frames = x.frames;
    may_stand = x.may_stand;
    slots = slots;
    kept = keeps;
    own = own;
    returns_are = x.returns_are ∙ plain_returns hand now (end_count k) (end_count l) spot.frames m.registers t.registers none none' count;
    zero_is = same.zero_is ∙ x.zero_is;
    low_is = same.sp ∙ x.low_is;
    account_is = same.account ∙ x.account_is;
    left_is = same.ticks ∙ x.left_is;
    pointer_is = same.pointer ∙ x.pointer_is;
    placed = here;
  }

  -- with the same words too
  pub exact_same : {spot : Spot} {left : ℕ} {calls : List ℕ} {account : ℕ} {hand : Hand} {k : List Item} {h : Stack} {m : Machine} (x : exact spot left (control calls account hand k) h m)
      → IsPlain hand → (now : Hand) → IsPlain now → (l : List Item) (t : Machine) → SameRegisters m.registers t.registers → t.words ≡ m.words
      → kept l calls spot.frames h m.words → end_count l ≡ end_count k → LeadsTo code (placed now l calls spot.frames t.registers) t.counter
      → exact spot left (control calls account now l) h t
  exact_same {spot = spot} {calls = calls} {k = k} {h = h} x none now none' l t same words keeps count here =
      exact_with x none now none' l h t same count
      (subst (λ w. Holds program page calls spot.frames h w) (sym words) x.slots)
      (subst (λ w. Kept program page l calls spot.frames h w) (sym words) keeps)
      (subst (λ n. HasOwn program page n calls spot.frames t.words) (sym count) (subst (λ w. HasOwn program page (end_count k) calls spot.frames w) (sym words) x.own))
      here

  -- ---- where a step arrives

  pub leads_to : {spot : Spot} {left : ℕ} {calls : List ℕ} {h : Stack} {move : Move} {m : Machine} (n : ℕ) (t : Machine) → GoesTo code n m t
      → Arrives program form page input code spot left calls h move t → leads spot left calls h move m
  leads_to n t comes arrives = record { count = n; last = t; goes_to = comes; arrives = arrives }

  -- some instructions, and then what leads on
  pub leads_after : {spot : Spot} {left : ℕ} {calls : List ℕ} {h : Stack} {move : Move} {m t : Machine} (n : ℕ) → GoesTo code n m t
      → leads spot left calls h move t → leads spot left calls h move m
  leads_after {m = m} {t = t} n comes on = leads_to (n + on.count) on.last (comes_on code n on.count m t on.last comes on.goes_to) on.arrives

  pub leads_stuck : {spot : Spot} {left : ℕ} {calls : List ℕ} {h : Stack} {m : Machine} → leads spot left calls h stuck m
  leads_stuck {m = m} = leads_to 0 m refl tt

  -- a silent step, with no frame moved
  pub leads_on : {spot : Spot} {left : ℕ} {calls : List ℕ} {h : Stack} {c : Control} {g : Stack} {m : Machine} (n : ℕ) (t : Machine) → GoesTo code n m t
      → exact spot left c g t → leads spot left calls h (silent c g) m
  leads_on {spot = spot} n t comes x = leads_to n t comes (stands (spot, stays refl, refl, x))

  -- no instruction, and on with another rest
  pub goes_behind : {spot : Spot} {left : ℕ} {calls : List ℕ} {account : ℕ} {hand : Hand} {k : List Item} {h : Stack} {m : Machine} (x : exact spot left (control calls account hand k) h m)
      → IsPlain hand → (l : List Item) → kept l calls spot.frames h m.words → end_count l ≡ end_count k → LeadsTo code (Coded program form page code l calls spot.frames) m.counter
      → leads spot left calls h (silent (control calls account idle l) h) m
  goes_behind {m = m} x none l keeps count coded = leads_on 0 m refl (exact_same x none idle tt l m (same_self m.registers) refl keeps count coded)

  pub goes_on : {spot : Spot} {left : ℕ} {calls : List ℕ} {account : ℕ} {hand : Hand} {k : List Item} {h : Stack} {m : Machine} (x : exact spot left (control calls account hand k) h m)
      → IsPlain hand → (l : List Item) → kept l calls spot.frames h m.words → end_count l ≡ end_count k → Coded program form page code l calls spot.frames m.counter
      → leads spot left calls h (silent (control calls account idle l) h) m
  goes_on x none l keeps count coded = goes_behind x none l keeps count (0, coded)

  -- some instructions put a value into VALUE, and change no word
  pub gives_value : {spot : Spot} {left : ℕ} {calls : List ℕ} {account : ℕ} {hand : Hand} {k : List Item} {h : Stack} {m : Machine} (x : exact spot left (control calls account hand k) h m)
      → IsPlain hand → (l : List Item) (v : ℤ) (n : ℕ) (t : Machine) (p : ℕ) → GoesTo code n m t → SameRegisters m.registers t.registers → t.words ≡ m.words → t.counter ≡ p
      → t.registers reg.VALUE ≡ bits v → FitsSigned w32 v → kept l calls spot.frames h m.words → end_count l ≡ end_count k → LeadsTo code (Coded program form page code l calls spot.frames) p
      → leads spot left calls h (silent (control calls account (holds v) l) h) m
  gives_value {spot = spot} {calls = calls} x none l v n t p comes same words place value fits keeps count coded =
      leads_on n t comes (exact_same x none (holds v) tt l t same words keeps count
      (leads_map code _ (placed (holds v) l calls spot.frames t.registers) t.counter (subst (LeadsTo code (Coded program form page code l calls spot.frames)) (sym place) coded) (λ q c. (value, fits, c))))

  -- ---- the choices of a step: where what it needs isn't there, nothing is said

  pub by_present : {A : Type 0} {spot : Spot} {left : ℕ} {calls : List ℕ} {h : Stack} {m : Machine} (cell : Cell A) (f : A → Move) → ((v : A) → value_in cell ≡ Some v → leads spot left calls h (f v) m)
      → leads spot left calls h (when_readable cell f) m
  by_present {spot = spot} {left = left} {calls = calls} {h = h} {m = m} cell f law = reading (λ move. leads spot left calls h move m) leads_stuck cell f law

  pub by_held : {A : Type 0} {spot : Spot} {left : ℕ} {calls : List ℕ} {h : Stack} {m : Machine} (cell : Cell A) (move : Move) → (may_write cell ≡ true → leads spot left calls h move m)
      → leads spot left calls h (when_writable cell move) m
  by_held {spot = spot} {left = left} {calls = calls} {h = h} {m = m} cell move law = writing (λ move. leads spot left calls h move m) leads_stuck cell move law

  pub by_result : {spot : Spot} {left : ℕ} {calls : List ℕ} {h : Stack} {m : Machine} (o : Op) (result : Option ℤ) (f : ℤ → Move)
      → ((v : ℤ) → result ≡ Some v → leads spot left calls h (f v) m) → (result ≡ None → divides o ≡ true → leads spot left calls h (traps kind.Divide) m)
      → leads spot left calls h (when_result o result f) m
  by_result o (Some v) f law trap = law v refl
  by_result {spot = spot} {left = left} {calls = calls} {h = h} {m = m} o None f law trap = by_bool (divides o) (λ e. trap refl e)
    where
      by_bool : (b : Bool) → (b ≡ true → leads spot left calls h (traps kind.Divide) m) → leads spot left calls h (if b then traps kind.Divide else stuck) m
      by_bool true f = f refl
      by_bool false f = leads_stuck

  pub by_some : {spot : Spot} {left : ℕ} {calls : List ℕ} {h : Stack} {m : Machine} (result : Option ℤ) (f : ℤ → Move) → ((v : ℤ) → result ≡ Some v → leads spot left calls h (f v) m)
      → leads spot left calls h (when_some result f) m
  by_some None f law = leads_stuck
  by_some (Some v) f law = law v refl

  by_kind : {spot : Spot} {left : ℕ} {all : List ℕ} {g : Stack} {m : Machine} (o : Option Extent) (calls : List ℕ) (h : Stack) (a : ℕ) (f : Reference → Move)
      → ((r : Reference) → value_in (row_for program page o calls h a) ≡ Some r → LeadsFrom program form page input code spot left all g (f r) m)
      → LeadsFrom program form page input code spot left all g (slice_in calls h o a f) m
  by_kind None calls h a f law = leads_stuck
  by_kind (Some extent.Word) calls h a f law = law (scalar_slice (top calls) a) refl
  by_kind (Some (extent.Words n)) calls h a f law = law _ refl
  by_kind (Some extent.Reference) calls h a f law = by_present (h.references (top calls) a) f law

  -- a step on the words of a slot that is there
  pub by_slice : {spot : Spot} {left : ℕ} {all : List ℕ} {g : Stack} {m : Machine} (calls : List ℕ) (h : Stack) (a : ℕ) (f : Reference → Move)
      → ((r : Reference) → value_in (row_of program page calls h a) ≡ Some r → LeadsFrom program form page input code spot left all g (f r) m)
      → LeadsFrom program form page input code spot left all g (slice_in calls h (slot_at program page input calls a) a f) m
  by_slice [] h a f law = leads_stuck
  by_slice (c ∷ calls) h a f law = by_kind (extent_at (slots_here program (c ∷ calls)) a) (c ∷ calls) h a f law

  -- a law of an item that takes the value at hand
  pub with_value : {spot : Spot} {left : ℕ} {calls : List ℕ} {account : ℕ} {l : List Item} {h : Stack} {m : Machine} (hand : Hand) (f : ℤ → Move)
      → ExactAt program form page input code spot left (control calls account hand l) h m
      → Placed program form page input code hand l calls spot.frames m.registers m.counter
      → ((v : ℤ) → ExactAt program form page input code spot left (control calls account (holds v) l) h m → Placed program form page input code (holds v) l calls spot.frames m.registers m.counter
      → LeadsFrom program form page input code spot left calls h (f v) m)
      → LeadsFrom program form page input code spot left calls h (when_value hand f) m
  with_value idle f x here law = leads_stuck
  with_value (holds v) f x here law = law v x here
  with_value (returned v) f x here law = leads_stuck
  with_value (entering g ws) f x here law = leads_stuck
  with_value (framing g ws) f x here law = leads_stuck

  -- A law of a step may begin where the jumps before the rest are done.
  pub settled : {spot : Spot} {left : ℕ} {c : Control} {h : Stack} {m : Machine} {calls : List ℕ} {move : Move} (x : ExactAt program form page input code spot left c h m)
      → ((t : Machine) → ExactAt program form page input code spot left c h t → Placed program form page input code c.hand c.rest c.calls spot.frames t.registers t.counter
      → LeadsFrom program form page input code spot left calls h move t)
      → LeadsFrom program form page input code spot left calls h move m
  settled {spot = spot} {c = c} {m = m} x law =
      let on = jumps_run code x.placed.0 (Placed program form page input code c.hand c.rest c.calls spot.frames m.registers) m x.placed.1 in
      let t = moved m on.0 in
      let y : ExactAt program form page input code spot _ c _ t = record {
        frames = x.frames;
        may_stand = x.may_stand;
        slots = x.slots;
        kept = x.kept;
        own = x.own;
        returns_are = x.returns_are;
        zero_is = x.zero_is;
        low_is = x.low_is;
        account_is = x.account_is;
        left_is = x.left_is;
        pointer_is = x.pointer_is;
        placed = (0, on.2);
      } in
      leads_after x.placed.0 on.1 (law t y on.2)

module _ (program : Program) (form : Form) (page limit : ℕ) (input : List ℤ) (code : Code) where
  -- whatever is at hand but a call, the rest stands at the machine's place
  pub coded_of : (hand : Hand) (k : List Item) (calls : List ℕ) (frames : List Frame) (r : ℕ → ℕ) (p : ℕ) → IsPlain hand
      → Placed program form page input code hand k calls frames r p → Coded program form page code k calls frames p
  coded_of idle k calls frames r p plain h = h
  coded_of (holds v) k calls frames r p plain h = h.2
  coded_of (returned None) k calls frames r p plain h = h
  coded_of (returned (Some v)) k calls frames r p plain h = h.2
  coded_of (entering f ws) k calls frames r p plain h = absurd plain
  coded_of (framing f ws) k calls frames r p plain h = absurd plain

  -- what is at hand lasts where its register does
  pub hand_lasts : (hand : Hand) (j k : List Item) (calls : List ℕ) (frames : List Frame) (r t : ℕ → ℕ) (p q : ℕ) → IsPlain hand → t reg.VALUE ≡ r reg.VALUE → t reg.RESULT ≡ r reg.RESULT
      → Placed program form page input code hand j calls frames r p → Coded program form page code k calls frames q
      → Placed program form page input code hand k calls frames t q
  hand_lasts idle j k calls frames r t p q none value result h c = c
  hand_lasts (holds v) j k calls frames r t p q none value result h c = (value ∙ h.0, h.1, c)
  hand_lasts (returned None) j k calls frames r t p q none value result h c = c
  hand_lasts (returned (Some v)) j k calls frames r t p q none value result h c = (result ∙ h.0, h.1, c)
  hand_lasts (entering g ws) j k calls frames r t p q none value result h c = absurd none
  hand_lasts (framing g ws) j k calls frames r t p q none value result h c = absurd none
