-- A piece whose calls are guarded takes each step as the whole does, also where a call begins or ends.
use Rattle.std.proofs.Common.{◌≡◌, ℕ, suc, ◌<◌, List, [], ◌∷◌, length, Option, None, Some, refl, sym, ap, ◌∙◌, subst, arith, inl, inr}
use Rattle.std.proofs.lemmas.List.{length-map}
use Rattle.std.proofs.lemmas.Bool.Decides.{eqb_tells}
use Rattle.std.specs.Prelude.{◌-◌, ◌⊎◌, Bool, true, false, ◌==◌, if◌then◌else◌, nat_le, ℤ, ⊤, slice_get}
use Rattle.cm_syntax.specs.declared.stmt.Slot.{Slot}
use Rattle.cm_syntax.specs.declared.stmt.Slot.TheVariants as slot
use Rattle.cm_syntax.specs.declared.stmt.Extent.{Extent}
use Rattle.cm_syntax.specs.declared.stmt.Extent.TheVariants as extent
use Rattle.cm_syntax.specs.Extent.{extent_at}
use Rattle.cm_syntax.specs.declared.stmt.Function.{Function}
use Rattle.cm_syntax.specs.declared.stmt.Program.{Program}
use Rattle.cm_syntax.specs.Fault.{parameter_slots}
use Rattle.cm_syntax.specs.Trap as kind
use Rattle.cm_syntax.specs.Label.{silent, traps}
use Rattle.cm_syntax.specs.Evaluation.{function_order, body_order}
use Rattle.cm_syntax.specs.Cell.{is_held}
use Rattle.cm_syntax.specs.Stack.{Stack, Destination, Argument, word, slice, push_frame, pop_frame}
use Rattle.cm_syntax.specs.Rest.{Item, store, deliver, body, fall, join, end, Hand, idle, holds, returned, entering, framing, control}
use Rattle.cm_syntax.specs.Step.{top, call_bytes_in, push_call, end_call, item_step, hand_step}
use Rattle.cm_syntax.proofs.CellLaw.{not_held}
use Rattle.cm_meaning.specs.Typing.{TypedProgram}
use Rattle.cm_meaning.specs.TypedState.{IsReference, FitsParameter, FitsExtent, FitParameters, Ready, TypedState, row_length}
use Rattle.cm_meaning.specs.Visible.{Among, SeesProgram, SeesBody}
use Rattle.cm_meaning.proofs.LendingLaw.{Obeys, more}
use Rattle.cm_meaning.proofs.TypedFramesLaw.{IsPlain, slot_left, cons_empty}
use Rattle.cm_meaning.proofs.GuardLaw.{Access, names, Ghost, CoveredBy, Passes, Rest, slots_of, Chain, Going, Frames}
use Rattle.cm_meaning.proofs.GuardStepLaw.{known_of, known_low, pushed_stand, guards_pushed}
use Rattle.cm_meaning.proofs.GuardItemLaw.{Agrees, At, Next, Runs, frames_less, ok_item, StoreFits}

-- the rest within the whole: the caller's stands behind it, if there is one
abbrev pub Larger : List Item → List Item → Type 0
Larger [] larger = (larger ≡ []) ⊎ ((x : Destination) × (k : List Item) × (larger ≡ deliver x ∷ k))
Larger (i ∷ k) larger = (m : List Item) × (larger ≡ i ∷ m)

module _ (program : Program) (page : ℕ) (input : List ℤ) (typed : TypedProgram program) (sees : SeesProgram program)
    (obeys : (index : ℕ) (function : Function ℕ) → slice_get program.functions index ≡ Some function → Obeys (function_order function) (λ m. ⊤) []) where
  -- ---- a call begins

  module _ (h u : Stack) where
    -- the parameters that are slices are named
    named_parameter : (calls : List ℕ) (ws : List Argument) (parameters : List Slot) (x : ℕ) → FitParameters program u calls ws parameters → x < length ws → slice_get parameters x ≡ Some slot.Slice → Among (names (known_of ws)) x
    named_parameter calls [] parameters x f l e = absurd (none x l)
      where
        none : (x : ℕ) → x < 0 → ⊥
        none x l = omega (arith, l)
    named_parameter calls (word v ∷ ws) parameters x f l e = elim (eqb_tells x (length ws)) [
      | inl one ↦ absurd (no_word (slice_get parameters (length ws)) (ap (slice_get parameters) (sym one.1) ∙ e) f.0)
      | inr ne ↦ named_parameter calls ws parameters x f.1 (omega (arith, l, ne.1)) e
    ]
      where
        no_word : (z : Option Slot) → z ≡ Some slot.Slice → FitsParameter program u calls (word v) z → ⊥
        no_word z q p = subst (FitsParameter program u calls (word v)) q p
    named_parameter calls (slice r ∷ ws) parameters x f l e = elim (eqb_tells x (length ws)) [
      | inl one ↦ inl (sym one.1)
      | inr ne ↦ inr (named_parameter calls ws parameters x f.1 (omega (arith, l, ne.1)) e)
    ]

    -- what is passed lies in frames before the new one
    passed_before : (calls : List ℕ) (ws : List Argument) (parameters : List Slot) (e t j : ℕ) → FitParameters program u calls ws parameters → CoveredBy ws e t j → e ≡ length calls → ⊥
    passed_before calls [] parameters e t j f c q = c
    passed_before calls (word v ∷ ws) parameters e t j f c q = passed_before calls ws parameters e t j f.1 c q
    passed_before calls (slice r ∷ ws) parameters e t j f (inr c) q = passed_before calls ws parameters e t j f.1 c q
    passed_before calls (slice r ∷ ws) parameters e t j f (inl c) q = by (extent_at parameters (length ws)) f.0
      where
        far : IsReference program u calls r → ⊥
        far i = let l = i.live in let d = c.depth in omega (arith, l, d, q)

        by : (z : Option Extent) → FitsExtent program u calls (slice r) z → ⊥
        by (Some extent.Reference) p = far p
        by (Some extent.Word) p = p
        by (Some (extent.Words n)) p = p
        by None p = p

    ok_push : (Away : Access → (n e t j : ℕ) → Type 0) (calls : List ℕ) (account : ℕ) (hand : Hand) (all larger : List Item) (f : ℕ) (ws : List Argument) (k : List Item) (ghosts : List Ghost) (function : Function ℕ) → slice_get program.functions f ≡ Some function
        → FitParameters program u calls ws (parameter_slots function) → length ws ≡ length (parameter_slots function) → Chain program calls ghosts k → Frames Away h.references calls ghosts → ((access : Access) → Passes (Away access (length calls)) ws)
        → ((access : Access) (t j : ℕ) → Away access (length calls) (length calls) t j → ⊥) → ((access : Access) (e t j : ℕ) → Away access (suc (length calls)) e t j → Away access (length calls) e t j)
        → Next program Away u (control calls account hand all) h (push_call program page input (control calls account hand all) h f ws k (slice_get program.functions f))
    ok_push Away calls account hand all larger f ws k ghosts function is fit count chain frames passes new no_child =
        subst (λ z. Next program Away u (control calls account hand all) h (push_call program page input (control calls account hand all) h f ws k z)) (sym is) (by (nat_le (call_bytes_in page (Some function)) account))
      where
        n : ℕ
        n = length calls

        known : List ℕ
        known = names (known_of ws)

        same_length : length (parameter_slots function) ≡ length function.parameters
        same_length = length-map function.parameters (λ item. item.slot)

        sees_body : SeesBody function.slots known [] function.body
        sees_body = sees f function is known (λ x a. (let l = known_low ws x a in omega (arith, l, count, same_length)))
            (λ x l e. named_parameter calls ws (parameter_slots function) x fit (omega (arith, l, count, same_length))
            (sym (ap (λ s. slice_get s x) (typed.functions f function is).slots ∙ slot_left (parameter_slots function) (typed.functions f function is).others x (omega (arith, l, same_length))) ∙ e))

        rest : Rest (slots_of program f) n (Chain program calls ghosts) (body function.body ∷ fall ∷ join ∷ end ∷ k) (known_of ws) [] []
        rest = (
          subst (λ z. SeesBody (Rattle.cm_syntax.specs.Step.slots_in z) known [] function.body) (sym is) sees_body,
          more (body_order function.body) (λ m. ⊤) (Rest (slots_of program f) n (Chain program calls ghosts) (fall ∷ join ∷ end ∷ k) (known_of ws) []) [] (λ m x. chain) (obeys f function is),
        )

        others : (d s : ℕ) → d < n → (push_frame h n ws).references d s ≡ h.references d s
        others d s l = elim (eqb_tells d n) [ inl one ↦ absurd (less d n l one.1) | inr ne ↦ let b : (d == n) ≡ false = ne.0 in rw b refl ]
          where
            less : (a b : ℕ) → a < b → a ≡ b → ⊥
            less a b l e = omega (arith, l, e)

        by : (b : Bool) → Next program Away u (control calls account hand all) h (if b then silent (control (f ∷ calls) (account - call_bytes_in page (Some function)) idle (body function.body ∷ fall ∷ join ∷ end ∷ k)) (push_frame h n ws) else traps kind.Stack)
        by true = record {
          ghosts = record { known = known_of ws; hidden = []; lent = [] } ∷ ghosts;
          going = rest;
          frames = (
            λ access. guards_pushed (Away access) n ws (new access) (no_child access) (λ e t j c q. passed_before calls ws (parameter_slots function) e t j fit c q) (passes access),
            pushed_stand h n ws,
            frames_less Away Away h.references (push_frame h n ws).references calls ghosts (λ access m e t j l a. a) others frames,
          );
          passes = tt;
        }
        by false = tt

    -- ---- a call ends

    going_on : (calls : List ℕ) (ghosts : List Ghost) (v : Option ℤ) (k : List Item) → Chain program calls ghosts k → Going program calls ghosts (returned v) k
    going_on [] [] v k c = c
    going_on [] (g ∷ ghosts) v k c = absurd c
    going_on (f ∷ calls) [] v k c = c
    going_on (f ∷ calls) (g ∷ ghosts) v (end ∷ k) c = absurd c
    going_on (f ∷ calls) (g ∷ ghosts) v k c = c

    ok_end : (Away : Access → (n e t j : ℕ) → Type 0) (f : ℕ) (calls : List ℕ) (account : ℕ) (hand : Hand) (all k : List Item) (ghosts : List Ghost) → Chain program calls ghosts k → Frames Away h.references calls ghosts
        → Next program Away u (control (f ∷ calls) account hand all) h (end_call program page input (control (f ∷ calls) account hand all) h (f ∷ calls) k)
    ok_end Away f calls account hand all k ghosts chain frames = record {
      ghosts = ghosts;
      going = going_on calls ghosts _ k chain;
      frames = frames_less Away Away h.references (pop_frame h (length calls)).references calls ghosts (λ access m e t j l a. a) others frames;
      passes = tt;
    }
      where
        others : (d s : ℕ) → d < length calls → (pop_frame h (length calls)).references d s ≡ h.references d s
        others d s l = elim (eqb_tells d (length calls)) [ inl one ↦ absurd (less d (length calls) l one.1) | inr ne ↦ let b : (d == length calls) ≡ false = ne.0 in rw b refl ]
          where
            less : (a b : ℕ) → a < b → a ≡ b → ⊥
            less a b l e = omega (arith, l, e)

    -- ---- a step

    -- what is at hand doesn't matter, where no call is
    going_idle : (calls : List ℕ) (ghosts : List Ghost) (hand : Hand) → IsPlain hand → (k : List Item) → Going program calls ghosts hand k → Going program calls ghosts idle k
    going_idle calls ghosts (entering f ws) p k g = absurd p
    going_idle calls ghosts (framing f ws) p k g = absurd p
    going_idle calls ghosts idle p k g = g
    going_idle [] ghosts (holds v) p k g = g
    going_idle [] ghosts (returned v) p k g = g
    going_idle (f ∷ calls) [] (holds v) p k g = g
    going_idle (f ∷ calls) [] (returned v) p k g = g
    going_idle (f ∷ calls) (x ∷ ghosts) (holds v) p [] g = g
    going_idle (f ∷ calls) (x ∷ ghosts) (returned v) p [] g = g
    going_idle (f ∷ calls) (x ∷ ghosts) (holds v) p (end ∷ k) g = g
    going_idle (f ∷ calls) (x ∷ ghosts) (returned v) p (end ∷ k) g = g
    going_idle (f ∷ calls) (x ∷ ghosts) (holds v) p (_ ∷ k) g = g
    going_idle (f ∷ calls) (x ∷ ghosts) (returned v) p (_ ∷ k) g = g

    module _ (Away : Access → (n e t j : ℕ) → Type 0) (account : ℕ) (hand : Hand) (all larger : List Item) where
      -- the first item of a rest
      ok_first : (calls : List ℕ) (ghosts : List Ghost) → IsPlain hand → (i : Item) (k m : List Item) → Going program calls ghosts idle (i ∷ k) → Frames Away h.references calls ghosts
          → Agrees (λ access. Away access (length calls)) h u → ((s : ℕ) → h.references (top calls) s ≡ u.references (top calls) s)
          → ((f : ℕ) (callers : List ℕ) → calls ≡ f ∷ callers → StoreFits program f (length callers) u i)
          → Runs (item_step program page input (control calls account hand larger) u i m) → Next program Away u (control calls account hand all) h (item_step program page input (control calls account hand all) h i k)
      ok_first [] [] p i k m g frames there rows fits n = absurd (cons_empty i k g)
      ok_first [] (x ∷ ghosts) p i k m g frames there rows fits n = absurd g
      ok_first (f ∷ callers) [] p i k m g frames there rows fits n = absurd (cons_empty i k g)
      ok_first (f ∷ callers) (x ∷ ghosts) p end k m g frames there rows fits n = ok_end Away f callers account hand all k ghosts g frames.2
      ok_first (f ∷ callers) (x ∷ ghosts) p i k m g frames there rows fits n =
          ok_item program page input f callers account hand all larger h u Away ghosts there rows frames.2 x.known x.hidden x.lent frames.0 frames.1 p i k m (fits f callers refl) g n

  -- the index of an element that waits for its value is in its row
  store_fits : (u : Stack) (f : ℕ) (callers : List ℕ) (hand : Hand) → IsPlain hand → (i : Item) (m : List Item) → Ready program u true (f ∷ callers) hand (i ∷ m) → StoreFits program f (length callers) u i
  store_fits u f callers idle p (store x j o) m r = subst (λ z. j < row_length u (length callers) x (slice_get (Rattle.cm_syntax.specs.Step.slots_in z) x)) (sym r.1) r.4.3
  store_fits u f callers (holds v) p (store x j o) m r = subst (λ z. j < row_length u (length callers) x (slice_get (Rattle.cm_syntax.specs.Step.slots_in z) x)) (sym r.1) r.4.3
  store_fits u f callers (returned v) p (store x j o) m r = subst (λ z. j < row_length u (length callers) x (slice_get (Rattle.cm_syntax.specs.Step.slots_in z) x)) (sym r.1) r.4.3
  store_fits u f callers (entering g ws) p (store x j o) m r = absurd p
  store_fits u f callers (framing g ws) p (store x j o) m r = absurd p
  store_fits u f callers hand p _ m r = tt

  module _ (h u : Stack) (Away : Access → (n e t j : ℕ) → Type 0) (calls : List ℕ) (account : ℕ) where
    -- a rest that is done without a value that came back
    not_ended : (hand : Hand) (larger : List Item) → Larger [] larger → ((x : Destination) (k : List Item) → Runs (hand_step program page input (control calls account hand (deliver x ∷ k)) u hand (deliver x ∷ k)) → ⊥)
        → (Runs (hand_step program page input (control calls account hand []) u hand []) → ⊥) → Runs (hand_step program page input (control calls account hand larger) u hand larger) → ⊥
    not_ended hand larger (inl e) none_delivered none_left n = none_left (subst (λ z. Runs (hand_step program page input (control calls account hand z) u hand z)) e n)
    not_ended hand larger (inr e) none_delivered none_left n = none_delivered e.0 e.1 (subst (λ z. Runs (hand_step program page input (control calls account hand z) u hand z)) e.2 n)

    run_item : (hand : Hand) → IsPlain hand → (i : Item) (m : List Item) → Runs (hand_step program page input (control calls account hand (i ∷ m)) u hand (i ∷ m)) → Runs (item_step program page input (control calls account hand (i ∷ m)) u i m)
    run_item idle p i m n = n
    run_item (holds v) p i m n = n
    run_item (returned v) p i m n = n
    run_item (entering f ws) p i m n = absurd p
    run_item (framing f ws) p i m n = absurd p

    at_item : (hand : Hand) → IsPlain hand → (i : Item) (k larger : List Item) → Larger (i ∷ k) larger → At program Away (control calls account hand (i ∷ k)) h
        → Agrees (λ access. Away access (length calls)) h u → ((s : ℕ) → h.references (top calls) s ≡ u.references (top calls) s)
        → TypedState program true (control calls account hand larger) u → Runs (hand_step program page input (control calls account hand larger) u hand larger)
        → Next program Away u (control calls account hand (i ∷ k)) h (item_step program page input (control calls account hand (i ∷ k)) h i k)
    at_item hand p i k larger l a there rows t n =
        let t2 : TypedState program true (control calls account hand (i ∷ l.0)) u = subst (λ z. TypedState program true (control calls account hand z) u) l.1 t in
        let n2 = run_item hand p i l.0 (subst (λ z. Runs (hand_step program page input (control calls account hand z) u hand z)) l.1 n) in
        ok_first h u Away account hand (i ∷ k) (i ∷ l.0) calls a.ghosts p i k l.0 (going_idle h u calls a.ghosts hand p (i ∷ k) a.going) a.frames there rows
        (λ f callers e. store_fits u f callers hand p i l.0 (subst (λ z. Ready program u true z hand (i ∷ l.0)) e t2.rest)) n2

    -- a step of the piece
    pub ok_step : (hand : Hand) (rest larger : List Item) → Larger rest larger → At program Away (control calls account hand rest) h
        → Agrees (λ access. Away access (length calls)) h u
        → ((i : Item) (k : List Item) → rest ≡ i ∷ k → IsPlain hand → (s : ℕ) → h.references (top calls) s ≡ u.references (top calls) s)
        → ((access : Access) (n e t j : ℕ) → Away access n e t j → is_held (u.words e t j) ≡ true) → ((access : Access) (e t j : ℕ) → Away access (suc (length calls)) e t j → Away access (length calls) e t j)
        → TypedState program true (control calls account hand larger) u → Runs (hand_step program page input (control calls account hand larger) u hand larger)
        → Next program Away u (control calls account hand rest) h (hand_step program page input (control calls account hand rest) h hand rest)
    ok_step (entering f ws) rest larger l a there rows held no_child t n = record { ghosts = a.ghosts; going = a.going; frames = a.frames; passes = a.passes }
    ok_step (framing f ws) rest larger l a there rows held no_child t n =
        let r = t.rest in
        ok_push h u Away calls account (framing f ws) rest larger f ws rest a.ghosts r.0 r.1 r.2 r.3 a.going a.frames a.passes
        (λ access s j away. not_held (u.words (length calls) s j) (t.below.words (length calls) s j (omega arith)) (held access (length calls) (length calls) s j away)) no_child
    ok_step (returned v) [] larger l a there rows held no_child t n = tt
    ok_step idle [] larger l a there rows held no_child t n = absurd (not_ended idle larger l (λ x k z. z) (λ z. z) n)
    ok_step (holds v) [] larger l a there rows held no_child t n = absurd (not_ended (holds v) larger l (λ x k z. z) (λ z. z) n)
    ok_step idle (i ∷ k) larger l a there rows held no_child t n = at_item idle tt i k larger l a there (rows i k refl tt) t n
    ok_step (holds v) (i ∷ k) larger l a there rows held no_child t n = at_item (holds v) tt i k larger l a there (rows i k refl tt) t n
    ok_step (returned v) (i ∷ k) larger l a there rows held no_child t n = at_item (returned v) tt i k larger l a there (rows i k refl tt) t n
