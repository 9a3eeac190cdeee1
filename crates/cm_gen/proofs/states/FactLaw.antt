-- What a formed state says of the item that its step does: the running function, and that what the item names is of its kind.
use Rattle.std.proofs.Common.{◌≡◌, ℕ, zero, suc, ◌+◌, ◌<◌, ◌≤◌, List, [], ◌∷◌, ◌++◌, length, Option, None, Some, refl, sym, ◌∙◌, subst, arith, append-nil, ap}
use Rattle.std.specs.Prelude.{Bool, true, false, ◌==◌, if◌then◌else◌, ℤ, pos, FitsSigned, Contains, slice_get, nat_lt}
use Rattle.std.proofs.lemmas.Option.{slice_get_within, get_or_from_slice_get, same_Some, none-some}
use Rattle.std.proofs.lemmas.Bool.{ltb-true, ltb-false, false≢true}
use Rattle.cm_syntax.proofs.CellLaw.{value_sum, valued}
use Rattle.cm_syntax.proofs.naming.SoundLaw.{sound_frame}
use Rattle.std.specs.Int.{w32}
use Rattle.cm_syntax.specs.declared.expr.Expr.TheVariants.{Number}
use Rattle.cm_syntax.specs.declared.stmt.Slot.{Slot}
use Rattle.cm_syntax.specs.declared.stmt.Slot.TheVariants as slot
use Rattle.cm_syntax.specs.Extent.{extent_of, extent_at}
use Rattle.cm_syntax.specs.declared.stmt.Extent.{Extent}
use Rattle.cm_syntax.specs.declared.stmt.Extent.TheVariants as extent
use Rattle.cm_syntax.specs.declared.stmt.Function.{Function}
use Rattle.cm_syntax.specs.declared.stmt.Program.{Program}
use Rattle.cm_syntax.specs.Fault.{IsSoundProgram}
use Rattle.cm_syntax.specs.Frame.{slots_words, extent_words}
use Rattle.cm_syntax.specs.Cell.{Cell, present, value_in, may_write}
use Rattle.cm_syntax.specs.Stack.{Reference, Stack}
use Rattle.cm_syntax.specs.Rest.{Item, evaluate, deliver, join, end, Hand, idle, holds, returned, entering, framing, Control, control}
use Rattle.cm_syntax.specs.Step.{slots_in}
use Rattle.cm_meaning.specs.TypedState.{back, at_hand, slots_at, row_words, AreSet, Inner, Outer, Running, Ready, TypedState, own_words}
use Rattle.cm_meaning.specs.Activation.{IsInner, FitsHand, end_count}
use Rattle.cm_meaning.proofs.TypedFramesLaw.{no_less, slots_last, cons_empty, IsPlain}
use Rattle.cm_meaning.proofs.Walk.{IsNoEnd}
use Rattle.cm_gen.specs.Standing.{slots_here}
use Rattle.cm_gen.specs.FrameWord.{IsPlace, row_in, row_of, words_for}
use Rattle.cm_gen.proofs.states.ValueFitsLaw.{natural_fits}
use Rattle.cm_gen.specs.Formed.{Within, alone, before, within, IsPart, IsPartOf, Formed}

-- what a cell has that is a part of another one, the other one has
pub part_has : {A : Type 0} (a b : Cell A) (v : A) → IsPart a b → value_in a ≡ Some v → value_in b ≡ Some v
part_has a b v p e = value_sum a p.0 b v p.1 e

-- what is held whole and has a value is present
pub whole_has : {A : Type 0} (a : Cell A) (v : A) → may_write a ≡ true → value_in a ≡ Some v → a ≡ present v
whole_has a v m e = valued (λ c. may_write c ≡ true → c ≡ present v) v (λ m. refl) (λ p m. absurd (false≢true m)) a e m

-- a reference of a typed state is held whole
pub typed_reference : (program : Program) (gives : Bool) (c : Control) (h : Stack) (d s : ℕ) (r : Reference) → TypedState program gives c h → value_in (h.references d s) ≡ Some r → h.references d s ≡ present r
typed_reference program gives c h d s r t e = by (nat_lt d (length c.calls)) refl
  where
    by : (b : Bool) → nat_lt d (length c.calls) ≡ b → h.references d s ≡ present r
    by true l = whole_has (h.references d s) r (t.references d s (ltb-true d (length c.calls) l)) e
    by false l = absurd (none-some r (sym (ap value_in (t.below.references d s (let m = ltb-false d (length c.calls) l in omega (arith, m)))) ∙ e))

-- the calls of a state in its context, and its rest
pub context_calls : (context : Within) (c : Control) → (within context c).calls ≡ c.calls
context_calls alone c = refl
context_calls (before x k) c = refl

-- items up to a join end a frame
inner_ends : (k : List Item) → IsInner k → 0 < end_count k
inner_ends [] i = absurd i
inner_ends (join ∷ []) i = absurd i
inner_ends (join ∷ end ∷ k) i = omega arith
inner_ends (join ∷ _ ∷ k) i = absurd i
inner_ends (end ∷ k) i = absurd i
inner_ends (_ ∷ k) i = inner_ends k i

-- ---- lengths

row_in_one : (kind : Extent) → own_words (Some kind) ≤ extent_words kind
row_in_one extent.Word = omega arith
row_in_one (extent.Words n) = omega arith
row_in_one extent.Reference = omega arith

row_in_slots : (slots : List Slot) (s : ℕ) → row_words (slice_get slots s) ≤ slots_words slots
row_in_slots [] s = omega arith
row_in_slots (kind ∷ slots) zero = omega (arith, row_in_one (extent_of kind))
row_in_slots (kind ∷ slots) (suc s) = omega (arith, row_in_slots slots s)

-- the words of a function's slots are no more than a frame may have
slots_fit : (program : Program) → IsSoundProgram program → (f : ℕ) (found : Option (Function ℕ)) → slice_get program.functions f ≡ found → slots_words (slots_in found) ≤ 32768
slots_fit program sound f None e = omega arith
slots_fit program sound f (Some function) e =
    let among : Contains program.functions function = (f, slice_get_within program.functions f function e, get_or_from_slice_get program.functions f function function e) in
    let fits = sound_frame function (program, sound, among) in
    omega (arith, fits)

row_small : (program : Program) → IsSoundProgram program → (calls : List ℕ) (d s : ℕ) → row_words (slice_get (slots_at program calls d) s) ≤ 32768
row_small program sound [] d s = omega arith
row_small program sound (f ∷ calls) d s = by (d == length calls) (row_small program sound calls d s)
  where
    by : (q : Bool) → row_words (slice_get (slots_at program calls d) s) ≤ 32768 → row_words (slice_get (if q then slots_in (slice_get program.functions f) else slots_at program calls d) s) ≤ 32768
    by true less = omega (arith, row_in_slots (slots_in (slice_get program.functions f)) s, slots_fit program sound f (slice_get program.functions f) refl)
    by false less = less

module _ (program : Program) (page limit : ℕ) where
  -- The running function of a state whose rest isn't empty, and what is known of its first item: `Inner` says it, of the
  -- whole stack of which the state's is a part.
  pub record Opened (c : Control) (h : Stack) : Type 0 where
    pub f : ℕ
    pub callers : List ℕ
    pub calls_are : c.calls ≡ f ∷ callers
    pub function : Function ℕ
    pub function_is : slice_get program.functions f ≡ Some function
    pub set : List ℕ
    pub whole : Stack
    pub is_part : IsPartOf h whole
    pub are_set : AreSet whole (length callers) function.slots set
    pub gives : Bool
    pub more : List Item
    pub inner : Inner program whole function (f ∷ callers) (length callers) (Outer program whole gives callers (back function.gives)) set (at_hand c.hand) (c.rest ++ more)

  -- without a call at hand the rest is running
  pub runs_on : (whole : Stack) (gives : Bool) (calls : List ℕ) (hand : Hand) (k : List Item) → IsPlain hand → Ready program whole gives calls hand k → Running program whole gives calls (at_hand hand) k
  runs_on whole gives calls idle k p r = r
  runs_on whole gives calls (holds v) k p r = r
  runs_on whole gives calls (returned v) k p r = r
  runs_on whole gives calls (entering f ws) k p r = absurd p
  runs_on whole gives calls (framing f ws) k p r = absurd p

  opened_in : (whole : Stack) (gives : Bool) (calls : List ℕ) (account : ℕ) (hand : Hand) (item : Item) (k more : List Item) (h : Stack) → IsNoEnd item → IsPartOf h whole
      → Running program whole gives calls (at_hand hand) (item ∷ (k ++ more)) → Opened (control calls account hand (item ∷ k)) h
  opened_in whole gives calls account hand end k more h q part r = absurd q
  opened_in whole gives [] account hand item k more h q part r = absurd (cons_empty item (k ++ more) r.1)
  opened_in whole gives (f ∷ calls) account hand item k more h q part r =
      record { f = f; callers = calls; calls_are = refl; function = r.0; function_is = r.1; set = r.2; whole = whole; is_part = part; are_set = r.3; gives = gives; more = more; inner = r.4 }

  pub opened : (calls : List ℕ) (account : ℕ) (hand : Hand) (item : Item) (k : List Item) (h : Stack) → IsPlain hand → IsNoEnd item
      → Formed program page limit (control calls account hand (item ∷ k)) h → Opened (control calls account hand (item ∷ k)) h
  opened calls account hand item k h no_call no_end x = by x.context x.typed
    where
      by : (context : Within) → TypedState program x.gives (within context (control calls account hand (item ∷ k))) x.whole → Opened (control calls account hand (item ∷ k)) h
      by alone t = opened_in x.whole x.gives calls account hand item k [] h no_end x.is_part
          (subst (λ z. Running program x.whole x.gives calls (at_hand hand) (item ∷ z)) (sym (append-nil k)) (runs_on x.whole x.gives calls hand (item ∷ k) no_call t.rest))
      by (before y z) t = opened_in x.whole x.gives calls account hand item k (deliver y ∷ z.rest) h no_end x.is_part (runs_on x.whole x.gives calls hand (item ∷ (k ++ (deliver y ∷ z.rest))) no_call t.rest)

  inner_rest : (hand : Hand) (item : Item) (k : List Item) → IsPlain hand → IsNoEnd item → FitsHand hand (item ∷ k) → IsInner (item ∷ k)
  inner_rest idle end k p q s = absurd q
  inner_rest (holds v) end k p q s = absurd q
  inner_rest (returned v) end k p q s = absurd q
  inner_rest (entering f ws) item k p q s = absurd p
  inner_rest (framing f ws) item k p q s = absurd p
  inner_rest idle _ k p q s = s
  inner_rest (holds v) _ k p q s = s
  inner_rest (returned v) _ k p q s = s

  -- the rest of a running function has its end
  pub some_end : (calls : List ℕ) (account : ℕ) (hand : Hand) (item : Item) (k : List Item) (h : Stack) → IsPlain hand → IsNoEnd item
      → Formed program page limit (control calls account hand (item ∷ k)) h → 0 < end_count (item ∷ k)
  some_end calls account hand item k h p q x = inner_ends (item ∷ k) (inner_rest hand item k p q x.settled.shape)

  -- a reference that a formed state has is to words of places of a live frame
  pub record IsWithin (calls : List ℕ) (r : Reference) : Type 0 where
    pub live : r.depth < length calls
    pub places : (i : ℕ) → i < r.length → IsPlace (slots_at program calls r.depth) r.slot (r.start + i)
    pub ends : r.start + r.length ≤ row_words (slice_get (slots_at program calls r.depth) r.slot)

  row_in_slot : (kind : Option Extent) → own_words kind ≤ words_for kind
  row_in_slot None = omega arith
  row_in_slot (Some extent.Word) = omega arith
  row_in_slot (Some (extent.Words n)) = omega arith
  row_in_slot (Some extent.Reference) = omega arith

  is_within : (calls : List ℕ) (r : Reference) → r.depth < length calls → r.start + r.length ≤ row_words (slice_get (slots_at program calls r.depth) r.slot) → IsWithin calls r
  is_within calls r l w = record { live = l; places = λ i m. omega (arith, w, m, row_in_slot (extent_at (slots_at program calls r.depth) r.slot)); ends = w }

  pub references_within : (c : Control) (h : Stack) (d s : ℕ) (r : Reference) → Formed program page limit c h → value_in (h.references d s) ≡ Some r → IsWithin c.calls r
  references_within c h d s r x e =
      let q = (x.typed.refers d s r (typed_reference program x.gives (within x.context c) x.whole d s r x.typed (part_has (h.references d s) (x.whole.references d s) r (x.is_part.references d s) e))).1 in
      subst (λ calls. IsWithin calls r) (context_calls x.context c) (is_within (within x.context c).calls r q.live q.within)

  -- the words of a slot of the running function that is an array, a slice, or a scalar
  pub row_within : (calls : List ℕ) (account : ℕ) (hand : Hand) (k : List Item) (h : Stack) (a : ℕ) (r : Reference) → Formed program page limit (control calls account hand k) h
      → 0 < length calls → value_in (row_of program page calls h a) ≡ Some r → IsWithin calls r
  row_within [] account hand k h a r x some e = absurd (no_less 0 some)
  row_within (f ∷ calls) account hand k h a r x some e = by (slice_get (slots_here program (f ∷ calls)) a) refl e
    where
      here : slots_at program (f ∷ calls) (length calls) ≡ slots_here program (f ∷ calls)
      here = slots_last program f calls

      own : (n : ℕ) → n ≤ row_words (slice_get (slots_here program (f ∷ calls)) a) → IsWithin (f ∷ calls) (record { depth = length calls; slot = a; start = 0; length = n })
      own n l = is_within (f ∷ calls) _ (omega arith) (subst (λ z. 0 + n ≤ row_words (slice_get z a)) (sym here) (omega (arith, l)))

      by : (kind : Option Slot) → slice_get (slots_here program (f ∷ calls)) a ≡ kind → value_in (row_in program page kind (f ∷ calls) h a) ≡ Some r → IsWithin (f ∷ calls) r
      by None i e = absurd (none-some r e)
      by (Some slot.Scalar) i e = subst (IsWithin (f ∷ calls)) (same_Some _ r e) (own 1 (subst (λ z. 1 ≤ row_words z) (sym i) (omega arith)))
      by (Some (slot.Array n)) i e = subst (IsWithin (f ∷ calls)) (same_Some _ r e) (own n (subst (λ z. n ≤ row_words z) (sym i) (omega arith)))
      by (Some slot.Slice) i e = references_within (control (f ∷ calls) account hand k) h (length calls) a r x e

  -- the length of a slice or an array is a word
  pub array_fits : (calls : List ℕ) (r : Reference) → IsSoundProgram program → IsWithin calls r → FitsSigned w32 (pos r.length)
  array_fits calls r sound x = natural_fits r.length (omega (arith, x.ends, row_small program sound calls r.depth r.slot))

  -- a literal that is evaluated is a word
  pub number_fits : (calls : List ℕ) (account : ℕ) (hand : Hand) (n : ℤ) (k : List Item) (h : Stack) → Formed program page limit (control calls account hand (evaluate (Number n) ∷ k)) h → FitsSigned w32 n
  number_fits calls account hand n k h x = x.words.0

-- its slots
pub slots_are : (program : Program) (page limit : ℕ) {c : Control} {h : Stack} (o : Opened program page limit c h) → slots_here program c.calls ≡ o.function.slots
slots_are program page limit o = subst (λ calls. slots_here program calls ≡ o.function.slots) (sym o.calls_are) (ap slots_in o.function_is)

pub some_calls : (program : Program) (page limit : ℕ) {c : Control} {h : Stack} (o : Opened program page limit c h) → 0 < length c.calls
some_calls program page limit o = subst (λ calls. 0 < length calls) (sym o.calls_are) (omega arith)

-- a slot of the running function, as its function has it
pub slot_here : (program : Program) (page limit : ℕ) (calls : List ℕ) (account : ℕ) (hand : Hand) (l : List Item) (h : Stack) (o : Opened program page limit (control calls account hand l) h) (s : ℕ) (kind : Slot)
    → slice_get o.function.slots s ≡ Some kind → slice_get (slots_here program calls) s ≡ Some kind
slot_here program page limit calls account hand l h o s kind e =
    ap (λ c. slice_get (slots_here program c) s) o.calls_are ∙ ap (λ f. slice_get (slots_in f) s) o.function_is ∙ e
