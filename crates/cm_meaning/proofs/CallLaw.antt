-- The steps of calls and of their ends.
use Rattle.std.proofs.Common.{◌≡◌, ℕ, zero, suc, ◌+◌, ◌*◌, ◌<◌, ◌≤◌, ◌-◌, List, [], ◌∷◌, ◌++◌, length, map, reverse, take, drop, min, None, Some, refl, sym, ap, ◌∙◌, subst, arith}
use Rattle.std.specs.Prelude.{Bool, true, false, if◌then◌else◌, ℤ, pos, slice_get, IsSome, IfOk, OnOk, Result, Ok, Err}
use Rattle.std.proofs.lemmas.Bool.{le-leb}
use Rattle.std.proofs.lemmas.List.{reverse-append, length-reverse, length-drop, length-map, take-append-drop, take_at, take_min, drop_at, drop_all, drop_min, take_all, take_rest, length-append}
use Rattle.std.proofs.Math.Nat.{mul-add}
use Rattle.std.specs.Borrow.{Bor}
use Rattle.cm_syntax.specs.declared.expr.Arg.{Arg}
use Rattle.cm_syntax.specs.declared.expr.Arg.TheVariants as arg
use Rattle.cm_syntax.specs.declared.expr.Expr.{Expr}
use Rattle.cm_syntax.specs.declared.expr.Mark.{Mark}
use Rattle.cm_syntax.specs.declared.stmt.Slot.{Slot}
use Rattle.cm_syntax.specs.declared.stmt.Slot.TheVariants as slot
use Rattle.cm_syntax.specs.declared.stmt.Extent.{Extent}
use Rattle.cm_syntax.specs.declared.stmt.Extent.TheVariants as extent
use Rattle.cm_syntax.specs.Extent.{extent_of}
use Rattle.cm_syntax.specs.declared.stmt.Function.{Function}
use Rattle.cm_syntax.specs.declared.stmt.Program.{Program}
use Rattle.cm_syntax.specs.declared.stmt.Stmt.{Stmt}
use Rattle.cm_syntax.specs.Fault.{parameter_slots}
use Rattle.cm_syntax.specs.Trap as kind
use Rattle.cm_meaning.specs.Meaning.{serial_step}
use Rattle.cm_syntax.specs.Label.{silent, traps}
use Rattle.cm_syntax.specs.Cell.{may_write}
use Rattle.cm_syntax.specs.Stack.{Reference, Stack, Argument, slice, pop_frame, push_frame}
use Rattle.cm_syntax.specs.Rest as rest
use Rattle.cm_syntax.specs.Step.{Move, top, rest_at_join, leave, hand_value, call_bytes_in, running_function, fall_off, hold, go_on, end_call, push_call, item_step, enter_call, scalar_slice, slice_in, slot_at}
use Rattle.cm_meaning.specs.declared.evaluator.Evaluator.{Evaluator}
use Rattle.cm_meaning.specs.declared.reference.Argument as declared
use Rattle.cm_meaning.specs.declared.reference.Reference as declared_reference
use Rattle.cm_meaning.specs.declared.reference.Argument.TheVariants as declared_arguments
use Rattle.cm_meaning.specs.declared.work.Purpose.{Purpose}
use Rattle.cm_meaning.specs.declared.work.Purpose.TheVariants as purposes
use Rattle.cm_meaning.specs.declared.work.Hand.{Hand}
use Rattle.cm_meaning.specs.declared.work.Hand.TheVariants as hands
use Rattle.cm_meaning.specs.declared.work.Work.{Work}
use Rattle.cm_meaning.specs.declared.work.Work.TheVariants as works
use Rattle.cm_meaning.specs.declared.work.Outcome.{Outcome}
use Rattle.cm_meaning.specs.declared.work.Outcome.TheVariants as outcomes
use Rattle.cm_syntax.specs.Frame.{frame_words}
use Rattle.cm_meaning.specs.Measure.{cilk_frames}
use Rattle.cm_meaning.specs.Typing.{parameters_in, IsSetRow, TypedArguments, TypedFunction, TypedProgram}
use Rattle.cm_meaning.specs.TypedState.{FitsParameter, FitsExtent, FitParameters, AtHand, nothing, back, at_hand, Inner, Outer, Running, Calling, Ready}
use Rattle.cm_meaning.specs.Layout.{reference_of, IsRowOf, slot_in, IsLaidOut, IsSamePlace, ShowsAfter, FitFrames, frames_words, TakesArguments, AreOfKinds, AreOfExtents, argument_of, program_in, calls_in, room_in, Shows}
use Rattle.cm_syntax.proofs.AccessLaw.{writes_on}
use Rattle.cm_meaning.proofs.EvaluatorLaw.{control_by, work_item, behind_work, control_at, work_move, elided, does_by, puts_does, kept_behind, same_run, control_behind, Inside, ready_inside, serial_move, row_there, row_at, slot_at_is, top_lives}
use Rattle.cm_meaning.proofs.Walk.{IsNoEnd}
use Rattle.cm_meaning.specs.Evaluator.{delivery, purpose_of, arguments_row, item_of, items_of, work_count, hand_of, hand_count, passed_in, control_with, control_in, IsKept, IsTypedAt, IsPlain, IsAtHand, IsReady, IsSameRun, Leads, Does, Steps, Puts}

-- ---- lists

-- so many of the last items, last first
pub last_reversed : {A : Type 0} (n : ℕ) (xs : List A) → reverse (drop (length xs - n) xs) ≡ take n (reverse xs)
last_reversed n xs = by (length xs - n) refl
  where
    parts : (k : ℕ) → reverse (drop k xs) ++ reverse (take k xs) ≡ reverse xs
    parts k = sym (reverse-append (take k xs) (drop k xs)) ∙ ap reverse (take-append-drop k xs)

    size : (k : ℕ) → length (reverse (drop k xs)) ≡ length xs - k
    size k = length-reverse (drop k xs) ∙ length-drop k xs

    by : (k : ℕ) → k ≡ length xs - n → reverse (drop k xs) ≡ take n (reverse xs)
    by zero e = sym (take_all n (reverse xs) (let s = length-reverse xs in omega arith))
    by (suc k) e = sym (take_at (reverse (drop (suc k) xs)) (reverse (take (suc k) xs)) n (let s = size (suc k) in omega arith)) ∙ ap (take n) (parts (suc k))

-- the others, last first
pub others_reversed : {A : Type 0} (n : ℕ) (xs : List A) → reverse (take (length xs - n) xs) ≡ drop n (reverse xs)
others_reversed n xs = by (length xs - n) refl
  where
    parts : (k : ℕ) → reverse (drop k xs) ++ reverse (take k xs) ≡ reverse xs
    parts k = sym (reverse-append (take k xs) (drop k xs)) ∙ ap reverse (take-append-drop k xs)

    size : (k : ℕ) → length (reverse (drop k xs)) ≡ length xs - k
    size k = length-reverse (drop k xs) ∙ length-drop k xs

    by : (k : ℕ) → k ≡ length xs - n → reverse (take k xs) ≡ drop n (reverse xs)
    by zero e = sym (drop_all n (reverse xs) (let s = length-reverse xs in omega arith))
    by (suc k) e = sym (drop_at (reverse (drop (suc k) xs)) (reverse (take (suc k) xs)) n (let s = size (suc k) in omega arith)) ∙ ap (drop n) (parts (suc k))

-- the same of a list's images
map-take : {A B : Type 0} (f : A → B) (n : ℕ) (xs : List A) → map f (take n xs) ≡ take n (map f xs)
map-take f zero xs = refl
map-take f (suc n) [] = refl
map-take f (suc n) (x ∷ xs) = ap (λ more. f x ∷ more) (map-take f n xs)

map-drop : {A B : Type 0} (f : A → B) (n : ℕ) (xs : List A) → map f (drop n xs) ≡ drop n (map f xs)
map-drop f zero xs = refl
map-drop f (suc n) [] = refl
map-drop f (suc n) (x ∷ xs) = map-drop f n xs

pub last_images : {A B : Type 0} (f : A → B) (n : ℕ) (xs : List A) → reverse (map f (drop (length xs - n) xs)) ≡ take n (reverse (map f xs))
last_images f n xs = ap reverse (map-drop f (length xs - n) xs ∙ ap (λ l. drop (l - n) (map f xs)) (sym (length-map xs f))) ∙ last_reversed n (map f xs)

pub other_images : {A B : Type 0} (f : A → B) (n : ℕ) (xs : List A) → reverse (map f (take (length xs - n) xs)) ≡ drop n (reverse (map f xs))
other_images f n xs = ap reverse (map-take f (length xs - n) xs ∙ ap (λ l. take (l - n) (map f xs)) (sym (length-map xs f))) ∙ others_reversed n (map f xs)

pub images_behind : {A B : Type 0} (f : A → B) (xs : List A) (x : A) → reverse (map f (xs ++ x ∷ [])) ≡ f x ∷ reverse (map f xs)
images_behind {A = A} f xs x = by xs
  where
    on : (xs : List A) → map f (xs ++ x ∷ []) ≡ map f xs ++ f x ∷ []
    on [] = refl
    on (y ∷ ys) = ap (λ more. f y ∷ more) (on ys)

    by : (xs : List A) → reverse (map f (xs ++ x ∷ [])) ≡ f x ∷ reverse (map f xs)
    by xs = ap reverse (on xs) ∙ reverse-append (map f xs) (f x ∷ [])

-- one more of them
pub one_more_taken : {A : Type 0} (n most : ℕ) (x : A) (xs : List A) → length xs < most → take (min (n + 1) most) (x ∷ xs) ≡ x ∷ take n xs
one_more_taken n most x xs h = by (min (n + 1) most) refl
  where
    by : (k : ℕ) → k ≡ min (n + 1) most → take k (x ∷ xs) ≡ x ∷ take n xs
    by zero e = absurd (omega arith)
    by (suc k) e = ap (λ more. x ∷ more) (same k (omega arith))
      where
        same : (k : ℕ) → k ≡ min n (most - 1) → take k xs ≡ take n xs
        same k e = let m : min k (length xs) ≡ min n (length xs) = omega arith in sym (take_min k xs) ∙ ap (λ i. take i xs) m ∙ take_min n xs

-- ---- a `return`

-- what stands before the join doesn't matter
pub behind_other : (work : Work) (ws : List Argument) (k : List rest.Item) (j : List rest.Item)
    → (work ≡ works.Join → ⊥) → rest_at_join (item_of work ws ∷ k) ≡ Some j → rest_at_join k ≡ Some j
behind_other works.Join ws k j n e = absurd (n refl)
behind_other works.End ws k j n e = cc e
behind_other _ ws k j n e = e

-- the rest of a running function has its join
module _ (program : Program) (h : Stack) (function : Function ℕ) (calls : List ℕ) (depth : ℕ) (after : List rest.Item → Type 0) where
  abbrev Fits : List ℕ → AtHand → List rest.Item → Type 0
  Fits = Inner program h function calls depth after

  abbrev HasJoin : List rest.Item → Type 0
  HasJoin k = (j : List rest.Item) × (rest_at_join k ≡ Some j)

  has_join : (k : List rest.Item) (set : List ℕ) (a : AtHand) → Fits set a k → HasJoin k
  has_join [] set a i = absurd i
  has_join (rest.evaluate e ∷ k) set a i = has_join k _ _ i.1
  has_join (rest.right o r ∷ k) set a i = has_join k _ _ i.3
  has_join (rest.apply o v ∷ k) set a i = has_join k _ _ i.2
  has_join (rest.prefix o ∷ k) set a i = has_join k _ _ i.2
  has_join (rest.both r ∷ k) set a i = has_join k _ _ i.2
  has_join (rest.either r ∷ k) set a i = has_join k _ _ i.2
  has_join (rest.truth ∷ k) set a i = has_join k _ _ i.1
  has_join (rest.element x ∷ k) set a i = has_join k _ _ i.2
  has_join (rest.read ∷ k) set a i = has_join k _ _ i.1
  has_join (rest.arguments u f ws row ∷ k) set a i = has_join k _ _ i.2
  has_join (rest.pass u f ws row ∷ k) set a i = has_join k _ _ i.3
  has_join (rest.take_back ∷ k) set a i = has_join k _ _ i.1
  has_join (rest.discard ∷ k) set a i = has_join k _ _ i.1
  has_join (rest.deliver x ∷ k) set a i = has_join k _ _ i.2
  has_join (rest.perform s ∷ k) set a i = has_join k _ _ i.2
  has_join (rest.sequence row ∷ k) set a i = has_join k _ _ i.2
  has_join (rest.body row ∷ k) set a i = has_join k _ _ i.2
  has_join (rest.declare row ∷ k) set a i = has_join k _ _ i.2
  has_join (rest.assign x ∷ k) set a i = has_join k _ _ i.2
  has_join (rest.update x o ∷ k) set a i = has_join k _ _ i.3
  has_join (rest.locate x o e ∷ k) set a i = has_join k _ _ i.4
  has_join (rest.store x n o ∷ k) set a i = has_join k _ _ i.4
  has_join (rest.branch s o ∷ k) set a i = has_join k _ _ i.4
  has_join (rest.turn t s b ∷ k) set a i = has_join k _ _ i.2
  has_join (rest.test t s b ∷ k) set a i = has_join k _ _ i.3
  has_join (rest.part x l r row ∷ k) set a i = has_join k _ _ i.6
  has_join (rest.tick ∷ k) set a i = has_join k _ _ i
  has_join (rest.show ∷ k) set a i = has_join k _ _ i.1
  has_join (rest.exit ∷ k) set a i = has_join k _ _ i.1
  has_join (rest.fall ∷ k) set a i = has_join k _ _ i
  has_join (rest.join ∷ k) set a i = (rest.join ∷ k, refl)
  has_join (rest.end ∷ k) set a i = absurd i

-- Work and arguments are gone, and the rest from the join on is the same.
pub record Popped (old now : Evaluator) : Type 0 where
  pub same : now ≡ record { program = old.program; input = old.input; page = old.page; account = old.account; hand = old.hand; rest = now.rest; passed = now.passed; frames = old.frames }
  pub join : List rest.Item
  pub was : rest_at_join (items_of (reverse old.rest.items) (passed_in old)) ≡ Some join
  pub is : rest_at_join (items_of (reverse now.rest.items) (passed_in now)) ≡ Some join

-- at first nothing is
pub nothing_popped : (ev : Evaluator) → IsReady ev works.Exit → Popped ev ev
nothing_popped ev ready =
    let inside = ready_inside ev works.Exit ev.hand ready.2 refl ready.1 tt ready.3 in
    let found = has_join ev.program.now ready.2 inside.function (inside.f ∷ inside.callers) (length inside.callers) (Outer ev.program.now ready.2 true inside.callers (back inside.function.gives)) (items_of (reverse ev.rest.items) (passed_in ev)) inside.set nothing inside.inner.1 in
    record { same = refl; join = found.0; was = found.1; is = found.1 }

-- one more piece of work, with its arguments
pub popped_more : (old now new : Evaluator) (work : Work) → Popped old now → (work ≡ works.Join → ⊥)
    → new ≡ record { program = now.program; input = now.input; page = now.page; account = now.account; hand = now.hand; rest = new.rest; passed = new.passed; frames = now.frames }
    → now.rest.items ≡ new.rest.items ++ work ∷ [] → new.passed.items ≡ take (length now.passed.items - work_count work) now.passed.items → Popped old new
popped_more old now new work popped other same one taken = record {
  same = same ∙ ap (λ ev. record { program = ev.program; input = ev.input; page = ev.page; account = ev.account; hand = ev.hand; rest = new.rest; passed = new.passed; frames = ev.frames }) popped.same;
  join = popped.join;
  was = popped.was;
  is = behind_other work (take (work_count work) (passed_in now)) _ popped.join other
      (ap rest_at_join (ap (λ ws. item_of work (take (work_count work) (passed_in now)) ∷ items_of (reverse new.rest.items) ws) (ap (λ l. reverse (map argument_of l)) taken ∙ other_images argument_of (work_count work) now.passed.items)
      ∙ ap (λ l. items_of l (passed_in now)) (sym (ap reverse one ∙ reverse-append new.rest.items (work ∷ [])))) ∙ popped.is);
}

-- with no call at hand no argument is the hand's
pub plain_state : (calls : List ℕ) (account : ℕ) (y : Hand) (works : List Work) (ws : List Argument) → IsPlain y
    → rest.control calls account (hand_of y (take (hand_count y) ws)) (items_of works (drop (hand_count y) ws)) ≡ rest.control calls account (hand_of y []) (items_of works ws)
plain_state calls account hands.Idle works ws p = refl
plain_state calls account (hands.Value v) works ws p = refl
plain_state calls account (hands.Returned v) works ws p = refl
plain_state calls account (hands.Entering f n) works ws p = absurd p
plain_state calls account (hands.Framing f n) works ws p = absurd p

-- at the join
pub popped_does : (old now new : Evaluator) (front : List Work) → IsReady old works.Exit → Popped old now → now.rest.items ≡ front ++ works.Join ∷ []
    → new ≡ record { program = now.program; input = now.input; page = now.page; account = now.account; hand = now.hand; rest = new.rest; passed = now.passed; frames = now.frames }
    → new.rest.items ≡ front ++ works.Join ∷ [] → Does old works.Exit outcomes.Going new
popped_does old now new front ready popped before same behind =
    does_by old new works.Exit old.hand outcomes.Going ready refl refl (subst IsKept (sym all) (record {
      laid = ready.0.laid;
      program = ready.0.program;
      typed = ready.0.typed;
      fit = ready.0.fit;
      account = ready.0.account;
      room = ready.0.room;
      page = ready.0.page;
      input = ready.0.input;
    })) (record {
      program = ap (λ ev. ev.program.now) all;
      input = ap (λ ev. ev.input.now) all;
      page = ap (λ ev. ev.page) all;
      room = ap (λ ev. room_in ev.frames) all;
    }) (λ h at. (h, moves h, subst (λ f. Shows f h) (sym (ap (λ ev. ev.frames) all)) at.1))
  where
    all : new ≡ record { program = old.program; input = old.input; page = old.page; account = old.account; hand = old.hand; rest = new.rest; passed = now.passed; frames = old.frames }
    all = same ∙ ap (λ ev. record { program = ev.program; input = ev.input; page = ev.page; account = ev.account; hand = ev.hand; rest = new.rest; passed = now.passed; frames = ev.frames }) popped.same

    turned : reverse new.rest.items ≡ works.Join ∷ reverse front
    turned = ap reverse behind ∙ reverse-append front (works.Join ∷ [])

    joins : items_of (reverse new.rest.items) (passed_in now) ≡ popped.join
    joins = let e : Some (items_of (works.Join ∷ reverse front) (passed_in now)) ≡ Some popped.join = ap (λ l. rest_at_join (items_of l (passed_in now))) (sym (ap reverse before ∙ reverse-append front (works.Join ∷ []))) ∙ popped.is in
        ap (λ l. items_of l (passed_in now)) turned ∙ cc e

    state : control_in new ≡ rest.control (calls_in old.frames) old.account (hand_of old.hand []) popped.join
    state = ap control_in all ∙ plain_state (calls_in old.frames) old.account old.hand (reverse new.rest.items) (passed_in now) ready.1
        ∙ ap (rest.control (calls_in old.frames) old.account (hand_of old.hand [])) joins

    moves : (h : Stack) → work_move old old.hand works.Exit h ≡ silent (control_in new) h
    moves h = ap (leave (control_at old old.hand works.Exit) h) popped.was ∙ ap (λ c. silent c h) (sym state)

-- ---- arguments

pub one_more_dropped : {A : Type 0} (n most : ℕ) (x : A) (xs : List A) → length xs < most → drop (min (n + 1) most) (x ∷ xs) ≡ drop n xs
one_more_dropped n most x xs h = by (min (n + 1) most) refl
  where
    by : (k : ℕ) → k ≡ min (n + 1) most → drop k (x ∷ xs) ≡ drop n xs
    by zero e = absurd (omega arith)
    by (suc k) e = same k (omega arith)
      where
        same : (k : ℕ) → k ≡ min n (most - 1) → drop k xs ≡ drop n xs
        same k e = let m : min k (length xs) ≡ min n (length xs) = omega arith in sym (drop_min k xs) ∙ ap (λ i. drop i xs) m ∙ drop_min n xs

-- what is kept doesn't ask for the arguments
kept_with : (old mid : Evaluator) → IsKept old
    → mid ≡ record { program = old.program; input = old.input; page = old.page; account = old.account; hand = old.hand; rest = old.rest; passed = mid.passed; frames = old.frames }
    → IsKept mid
kept_with old mid k same = subst IsKept (sym same) (record {
  laid = k.laid;
  program = k.program;
  typed = k.typed;
  fit = k.fit;
  account = k.account;
  room = k.room;
  page = k.page;
  input = k.input;
})

-- one more argument is known
pub argument_does : (old mid new : Evaluator) (work : Work) (y : Hand) (outcome : Outcome) (u : Purpose) (f n m most : ℕ) (row : Bor (List (Arg ℕ))) (w : declared.Argument)
    → IsReady old work → old.hand ≡ y → outcome ≡ outcomes.Going
    → mid ≡ record { program = old.program; input = old.input; page = old.page; account = old.account; hand = old.hand; rest = old.rest; passed = mid.passed; frames = old.frames }
    → mid.passed.items ≡ old.passed.items ++ w ∷ [] → m ≡ min (n + 1) most → length old.passed.items < most
    → Puts mid (works.Arguments u f m row ∷ []) hands.Idle new
    → ((h : Stack) → IsTypedAt old (control_with (work ∷ []) old) h → work_move old y work h
    ≡ silent (rest.control (calls_in old.frames) old.account rest.idle
    (rest.arguments (purpose_of u) f (argument_of w ∷ take n (passed_in old)) (arguments_row row.now).1 ∷ items_of (reverse old.rest.items) (drop n (passed_in old)))) h)
    → Does old work outcome new
argument_does old mid new work y outcome u f n m most row w ready is going same put more few puts moves =
    does_by old new work y outcome ready is going (kept_behind mid new (works.Arguments u f m row ∷ []) hands.Idle puts (kept_with old mid ready.0 same))
    (record {
      program = run.program ∙ ap (λ ev. ev.program.now) same;
      input = run.input ∙ ap (λ ev. ev.input.now) same;
      page = run.page ∙ ap (λ ev. ev.page) same;
      room = run.room ∙ ap (λ ev. room_in ev.frames) same;
    })
    (λ h at. (h, moves h at ∙ ap (λ c. silent c h) (sym state), subst (λ f. Shows f h) (sym (ap (λ ev. ev.frames) puts.0 ∙ ap (λ ev. ev.frames) same)) at.1))
  where
    run : IsSameRun mid new
    run = same_run mid new (works.Arguments u f m row ∷ []) hands.Idle puts

    known : passed_in mid ≡ argument_of w ∷ passed_in old
    known = ap (λ l. reverse (map argument_of l)) put ∙ images_behind argument_of old.passed.items w

    few_known : length (passed_in old) < most
    few_known = let a = length-reverse (map argument_of old.passed.items) in let b = length-map old.passed.items argument_of in omega arith

    first : take m (passed_in mid) ≡ argument_of w ∷ take n (passed_in old)
    first = ap (λ l. take m l) known ∙ ap (λ i. take i (argument_of w ∷ passed_in old)) more ∙ one_more_taken n most (argument_of w) (passed_in old) few_known

    others : drop m (passed_in mid) ≡ drop n (passed_in old)
    others = ap (λ l. drop m l) known ∙ ap (λ i. drop i (argument_of w ∷ passed_in old)) more ∙ one_more_dropped n most (argument_of w) (passed_in old) few_known

    state : control_in new ≡ rest.control (calls_in old.frames) old.account rest.idle
        (rest.arguments (purpose_of u) f (argument_of w ∷ take n (passed_in old)) (arguments_row row.now).1 ∷ items_of (reverse old.rest.items) (drop n (passed_in old)))
    state = control_behind mid new (works.Arguments u f m row ∷ []) hands.Idle puts
        ∙ ap (λ ev. rest.control (calls_in ev.frames) ev.account rest.idle
        (rest.arguments (purpose_of u) f (take m (passed_in mid)) (arguments_row row.now).1 ∷ items_of (reverse ev.rest.items) (drop m (passed_in mid)))) same
        ∙ ap (λ ws. rest.control (calls_in old.frames) old.account rest.idle
        (rest.arguments (purpose_of u) f ws (arguments_row row.now).1 ∷ items_of (reverse old.rest.items) (drop m (passed_in mid)))) first
        ∙ ap (λ ws. rest.control (calls_in old.frames) old.account rest.idle
        (rest.arguments (purpose_of u) f (argument_of w ∷ take n (passed_in old)) (arguments_row row.now).1 ∷ items_of (reverse old.rest.items) ws)) others

-- ---- a call gets its arguments

module _ (program : Program) (h : Stack) (calls : List ℕ) where
  -- of arguments with the first one last it is the first parameter's
  first_fits : (ws : List Argument) (w : Argument) (p : Slot) (ps : List Slot) → FitParameters program h calls (ws ++ w ∷ []) (p ∷ ps)
      → FitsParameter program h calls w (Some p) × FitParameters program h calls ws ps
  first_fits [] w p ps fit = (fit.0, tt)
  first_fits (v ∷ vs) w p ps fit =
      let more = first_fits vs w p ps fit.1 in
      let size : length (vs ++ w ∷ []) ≡ suc (length vs) = omega (arith, length-append vs (w ∷ [])) in
      (more.0, (subst (λ n. FitsParameter program h calls v (slice_get (p ∷ ps) n)) size fit.0, more.1))

  pub are_of_kinds : (given : List declared.Argument) (ps : List Slot) → FitParameters program h calls (reverse (map argument_of given)) ps → length given ≡ length ps → AreOfKinds given ps
  are_of_kinds [] [] fit e = tt
  are_of_kinds [] (p ∷ ps) fit e = absurd (omega arith)
  are_of_kinds (a ∷ rest_of) [] fit e = absurd (omega arith)
  are_of_kinds (a ∷ rest_of) (p ∷ ps) fit e = one a (extent_of p) parts.0 (are_of_kinds rest_of ps parts.1 (omega arith))
    where
      parts : FitsParameter program h calls (argument_of a) (Some p) × FitParameters program h calls (reverse (map argument_of rest_of)) ps
      parts = first_fits (reverse (map argument_of rest_of)) (argument_of a) p ps (subst (λ ws. FitParameters program h calls ws (p ∷ ps)) (reverse-append (argument_of a ∷ []) (map argument_of rest_of)) fit)

      one : (a : declared.Argument) (p : Extent) → FitsExtent program h calls (argument_of a) (Some p) → AreOfKinds rest_of ps → AreOfExtents (a ∷ rest_of) (p ∷ map extent_of ps)
      one (declared_arguments.Word v) extent.Word fit more = more
      one (declared_arguments.Slice r) extent.Reference fit more = more
      one (declared_arguments.Word v) extent.Reference fit more = absurd fit
      one (declared_arguments.Word v) (extent.Words n) fit more = absurd fit
      one (declared_arguments.Slice r) extent.Word fit more = absurd fit
      one (declared_arguments.Slice r) (extent.Words n) fit more = absurd fit

-- ---- results

-- what a call that goes on put, told of the result
pub by_outcome : {X : Type 0} (r : Result Outcome X) {P : Type 0} {D : Outcome → Type 0} → IfOk r (λ o. o ≡ outcomes.Going) → OnOk r P
    → ((o : Outcome) → o ≡ outcomes.Going → P → D o) → IfOk r D
by_outcome (Ok o) going put does = does o going put
by_outcome (Err e) going put does = tt

-- ---- the running function

pub record RunningAt (ev : Evaluator) (n : ℕ) : Type 0 where
  pub function : Function ℕ
  pub there : slice_get ev.program.now.functions n ≡ Some function
  pub runs : running_function ev.program.now ev.page ev.input.now (calls_in ev.frames) ≡ Some function

-- the function that a piece of work finds running
pub running_at : (ev : Evaluator) (work : Work) (n : ℕ) → IsReady ev work → IsNoEnd (work_item ev work)
    → ((f : ℕ) (more : List ℕ) → calls_in ev.frames ≡ f ∷ more → n ≡ f) → RunningAt ev n
running_at ev work n ready not_end found =
    let inside = ready_inside ev work ev.hand ready.2 refl ready.1 not_end ready.3 in
    record {
      function = inside.function;
      there = ap (slice_get ev.program.now.functions) (found inside.f inside.callers inside.are) ∙ inside.there;
      runs = ap (running_function ev.program.now ev.page ev.input.now) inside.are ∙ inside.there;
    }

-- a body falls off its end
pub fall_gives : (old new : Evaluator) (n : ℕ) (outcome : Outcome) (ready : IsReady old works.Fall) (at : RunningAt old n) → at.function.gives ≡ true
    → outcome ≡ outcomes.Going → Puts old [] (hands.Value (pos 0)) new → Does old works.Fall outcome new
fall_gives old new n outcome ready at gives going puts = puts_does old new works.Fall old.hand outcome [] (hands.Value (pos 0)) ready refl going puts
    (λ h typed. ap (λ o. fall_off (control_at old old.hand works.Fall) h o (behind_work old works.Fall)) at.runs
    ∙ ap (λ b. if b then hold (control_at old old.hand works.Fall) h (pos 0) (behind_work old works.Fall) else go_on (control_at old old.hand works.Fall) h (behind_work old works.Fall)) gives)

pub fall_lacks : (old new : Evaluator) (n : ℕ) (outcome : Outcome) (ready : IsReady old works.Fall) (at : RunningAt old n) → at.function.gives ≡ false
    → outcome ≡ outcomes.Going → Puts old [] hands.Idle new → Does old works.Fall outcome new
fall_lacks old new n outcome ready at gives going puts = puts_does old new works.Fall old.hand outcome [] hands.Idle ready refl going puts
    (λ h typed. ap (λ o. fall_off (control_at old old.hand works.Fall) h o (behind_work old works.Fall)) at.runs
    ∙ ap (λ b. if b then hold (control_at old old.hand works.Fall) h (pos 0) (behind_work old works.Fall) else go_on (control_at old old.hand works.Fall) h (behind_work old works.Fall)) gives)

-- ---- the account

-- what the calls take of the account, with one more call
pub one_more_call : (program : Program) (page f : ℕ) (calls : List ℕ) (function : Function ℕ) → slice_get program.functions f ≡ Some function
    → 4 * frames_words program (f ∷ calls) + page * cilk_frames program (f ∷ calls)
    ≡ call_bytes_in page (slice_get program.functions f) + (4 * frames_words program calls + page * cilk_frames program calls)
one_more_call program page f calls function there = rw there (by function.cilk)
  where
    by : (b : Bool) → 4 * (frames_words program calls + frame_words function) + page * ((if b then 1 else 0) + cilk_frames program calls)
        ≡ (4 * frame_words function + (if b then page else 0)) + (4 * frames_words program calls + page * cilk_frames program calls)
    by true = omega (arith, mul-add page 1 (cilk_frames program calls))
    by false = omega (arith, mul-add page 0 (cilk_frames program calls))

-- the account with one call less, and with one more
account_back : (a b bytes before behind now room after : ℕ) → b ≡ a + bytes → before ≡ bytes + behind → now ≡ behind → a + before ≡ 4 * room → after ≡ room
    → b + now ≡ 4 * after
account_back a b bytes before behind now room after e f g h i = omega arith

account_ahead : (a b bytes before behind now room after : ℕ) → bytes ≤ a → b ≡ a - bytes → now ≡ bytes + before → a + before ≡ 4 * room → after ≡ room
    → b + now ≡ 4 * after
account_ahead a b bytes before behind now room after l e f g h = omega arith

-- ---- the end of a call

pub record Ending (ev : Evaluator) : Type 0 where
  pub f : ℕ
  pub callers : List ℕ
  pub are : calls_in ev.frames ≡ f ∷ callers
  pub function : Function ℕ
  pub there : slice_get ev.program.now.functions f ≡ Some function

pub ending : (ev : Evaluator) → IsReady ev works.End → Ending ev
ending ev ready = by ev.hand ready.1 (calls_in ev.frames) refl
    (subst (λ c. Ready ev.program.now ready.2 true c.calls c.hand c.rest)
    (plain_state (calls_in ev.frames) ev.account ev.hand (works.End ∷ reverse ev.rest.items) (passed_in ev) ready.1) ready.3.0.rest)
  where
    k : List rest.Item
    k = items_of (reverse ev.rest.items) (passed_in ev)

    on : (a : AtHand) (calls : List ℕ) → calls_in ev.frames ≡ calls → Running ev.program.now ready.2 true calls a (rest.end ∷ k) → Ending ev
    on a [] are r = absurd (cc r.1)
    on a (f ∷ callers) are r = record { f = f; callers = callers; are = are; function = r.0; there = r.1 }

    by : (y : Hand) → IsPlain y → (calls : List ℕ) → calls_in ev.frames ≡ calls → Ready ev.program.now ready.2 true calls (hand_of y []) (rest.end ∷ k) → Ending ev
    by hands.Idle p calls are r = on _ calls are r
    by (hands.Value v) p calls are r = on _ calls are r
    by (hands.Returned v) p calls are r = on _ calls are r
    by (hands.Entering f n) p calls are r = absurd p
    by (hands.Framing f n) p calls are r = absurd p

-- what a call comes back with
abbrev pub back_hand : Hand → Hand
back_hand (hands.Value v) = hands.Returned (Some v)
back_hand _ = hands.Returned None

back_is : (y : Hand) → IsPlain y → hand_of (back_hand y) [] ≡ rest.returned (hand_value (hand_of y []))
back_is hands.Idle p = refl
back_is (hands.Value v) p = refl
back_is (hands.Returned v) p = refl
back_is (hands.Entering f n) p = absurd p
back_is (hands.Framing f n) p = absurd p

back_plain : (y : Hand) → IsPlain (back_hand y)
back_plain hands.Idle = tt
back_plain (hands.Value v) = tt
back_plain (hands.Returned v) = tt
back_plain (hands.Entering f n) = tt
back_plain (hands.Framing f n) = tt

pub end_does : (old new : Evaluator) (n : ℕ) → IsReady old works.End
    → new ≡ record { program = old.program; input = old.input; page = old.page; account = new.account; hand = new.hand; rest = old.rest; passed = old.passed; frames = new.frames }
    → new.hand ≡ back_hand old.hand
    → ((f : ℕ) (more : List ℕ) → calls_in old.frames ≡ f ∷ more → n ≡ f)
    → new.account ≡ old.account + call_bytes_in old.page (slice_get old.program.now.functions n)
    → IsLaidOut new.frames → IsSamePlace old.frames new.frames
    → ((f : ℕ) (more : List ℕ) → calls_in old.frames ≡ f ∷ more → calls_in new.frames ≡ more)
    → ShowsAfter old.frames new.frames (λ h. pop_frame h (top (calls_in old.frames)))
    → Does old works.End outcomes.Going new
end_does old new n ready same hand found account laid place calls shows =
    does_by old new works.End old.hand outcomes.Going ready refl refl (record {
      laid = laid;
      program = place.program ∙ ready.0.program ∙ sym same_program;
      typed = subst TypedProgram (sym same_program) ready.0.typed;
      fit = subst FitFrames (sym same_program) ready.0.fit;
      account = kept_account;
      room = omega (arith, ready.0.room, place.room);
      page = omega (arith, ready.0.page, ap (λ ev. ev.page) same);
      input = omega (arith, ready.0.input, ap (λ ev. length ev.input.now) same);
    }) (record {
      program = same_program;
      input = ap (λ ev. ev.input.now) same;
      page = ap (λ ev. ev.page) same;
      room = place.room;
    }) (λ h at. (pop_frame h (length at_end.callers), moves h, subst (λ d. Shows new.frames (pop_frame h d)) (ap top at_end.are) (shows h at.1)))
  where
    at_end : Ending old
    at_end = ending old ready

    same_program : new.program.now ≡ old.program.now
    same_program = ap (λ ev. ev.program.now) same

    bytes : ℕ
    bytes = call_bytes_in old.page (slice_get old.program.now.functions at_end.f)

    grown : new.account ≡ old.account + bytes
    grown = account ∙ ap (λ f. old.account + call_bytes_in old.page (slice_get old.program.now.functions f)) (found at_end.f at_end.callers at_end.are)

    kept_account : new.account + (4 * frames_words new.program.now (calls_in new.frames) + new.page * cilk_frames new.program.now (calls_in new.frames)) ≡ 4 * room_in new.frames
    kept_account =
        account_back old.account new.account bytes _ _ _ (room_in old.frames) (room_in new.frames) grown
        (ap (λ cs. 4 * frames_words old.program.now cs + old.page * cilk_frames old.program.now cs) at_end.are
        ∙ one_more_call old.program.now old.page at_end.f at_end.callers at_end.function at_end.there)
        (ap (λ ev. 4 * frames_words ev.program.now (calls_in new.frames) + ev.page * cilk_frames ev.program.now (calls_in new.frames)) same
        ∙ ap (λ cs. 4 * frames_words old.program.now cs + old.page * cilk_frames old.program.now cs) (calls at_end.f at_end.callers at_end.are))
        ready.0.account place.room

    state : control_in new ≡ rest.control at_end.callers (old.account + bytes) (rest.returned (hand_value (hand_of old.hand []))) (items_of (reverse old.rest.items) (passed_in old))
    state = ap control_in same
        ∙ ap (λ y. rest.control (calls_in new.frames) new.account (hand_of y (take (hand_count y) (passed_in old))) (items_of (reverse old.rest.items) (drop (hand_count y) (passed_in old)))) hand
        ∙ plain_state (calls_in new.frames) new.account (back_hand old.hand) (reverse old.rest.items) (passed_in old) (back_plain old.hand)
        ∙ ap (λ y. rest.control (calls_in new.frames) new.account y (items_of (reverse old.rest.items) (passed_in old))) (back_is old.hand ready.1)
        ∙ ap (λ cs. rest.control cs new.account (rest.returned (hand_value (hand_of old.hand []))) (items_of (reverse old.rest.items) (passed_in old))) (calls at_end.f at_end.callers at_end.are)
        ∙ ap (λ a. rest.control at_end.callers a (rest.returned (hand_value (hand_of old.hand []))) (items_of (reverse old.rest.items) (passed_in old))) grown

    moves : (h : Stack) → work_move old old.hand works.End h ≡ silent (control_in new) (pop_frame h (length at_end.callers))
    moves h = ap (λ cs. end_call old.program.now old.page old.input.now (control_at old old.hand works.End) h cs (behind_work old works.End)) at_end.are
        ∙ ap (λ c. silent c (pop_frame h (length at_end.callers))) (sym state)

-- ---- a call gets its frame

-- the arguments of the call are the last ones
given_last : (ev : Evaluator) (n known : ℕ) (given : List declared.Argument) → known ≡ length ev.passed.items - n
    → given ≡ take (length ev.passed.items - known) (drop known ev.passed.items) → reverse (map argument_of given) ≡ take n (passed_in ev)
given_last ev n known given at are =
    ap (λ l. reverse (map argument_of l)) (are ∙ take_rest ev.passed.items known ∙ ap (λ k. drop k ev.passed.items) at) ∙ last_images argument_of n ev.passed.items

pub called_at : (ev : Evaluator) (f n : ℕ) (h : Stack) → ev.hand ≡ hands.Framing f n → IsTypedAt ev (control_in ev) h
    → Calling ev.program.now h true (calls_in ev.frames) f (take n (passed_in ev)) (items_of (reverse ev.rest.items) (drop n (passed_in ev)))
called_at ev f n h is at = subst (λ c. Ready ev.program.now h true c.calls c.hand c.rest) (ap (control_by ev []) is) at.0.rest

-- the arguments of a call are of the kinds that its function takes
pub call_takes : (ev : Evaluator) (f n known : ℕ) (given : List declared.Argument) → IsAtHand ev → ev.hand ≡ hands.Framing f n
    → known ≡ length ev.passed.items - n → given ≡ take (length ev.passed.items - known) (drop known ev.passed.items) → TakesArguments (program_in ev.frames) f given
call_takes ev f n known given ready is at are = subst (λ p. TakesArguments p f given) (sym ready.0.program) (record {
  function = called.0;
  there = called.1;
  others = one.others;
  slots = one.slots;
  kinds = are_of_kinds ev.program.now ready.1 (calls_in ev.frames) given (parameter_slots called.0)
      (subst (λ ws. FitParameters ev.program.now ready.1 (calls_in ev.frames) ws (parameter_slots called.0)) (sym last) called.2) sizes;
})
  where
    called : Calling ev.program.now ready.1 true (calls_in ev.frames) f (take n (passed_in ev)) (items_of (reverse ev.rest.items) (drop n (passed_in ev)))
    called = called_at ev f n ready.1 is ready.2

    one : TypedFunction ev.program.now.functions called.0
    one = ready.0.typed.functions f called.0 called.1

    last : reverse (map argument_of given) ≡ take n (passed_in ev)
    last = given_last ev n known given at are

    sizes : length given ≡ length (parameter_slots called.0)
    sizes = sym (length-map given argument_of) ∙ sym (length-reverse (map argument_of given)) ∙ ap length last ∙ called.3

pub call_does : (old mid new : Evaluator) (f n known : ℕ) (outcome : Outcome) (given : List declared.Argument) (row : Bor (List (Stmt ℕ))) (function : Function ℕ)
    → IsAtHand old → old.hand ≡ hands.Framing f n → outcome ≡ outcomes.Going
    → slice_get old.program.now.functions f ≡ Some function → row.now ≡ function.body
    → call_bytes_in old.page (slice_get old.program.now.functions f) ≤ old.account
    → mid ≡ record { program = old.program; input = old.input; page = old.page; account = old.account - call_bytes_in old.page (slice_get old.program.now.functions f); hand = old.hand; rest = old.rest; passed = mid.passed; frames = mid.frames }
    → known ≡ length old.passed.items - n → given ≡ take (length old.passed.items - known) (drop known old.passed.items) → mid.passed.items ≡ take known old.passed.items
    → IsLaidOut mid.frames → IsSamePlace old.frames mid.frames → calls_in mid.frames ≡ f ∷ calls_in old.frames
    → ShowsAfter old.frames mid.frames (λ h. push_frame h (length (calls_in old.frames)) (reverse (map argument_of given)))
    → Puts mid (works.Body row ∷ works.Fall ∷ works.Join ∷ works.End ∷ []) hands.Idle new → Steps old outcome new
call_does old mid new f n known outcome given row function ready is going there body enough same at are kept_passed laid place calls shows puts = record {
  kept = kept_behind mid new before hands.Idle puts kept_mid;
  same = record {
    program = run.program ∙ same_program;
    input = run.input ∙ ap (λ ev. ev.input.now) same;
    page = run.page ∙ ap (λ ev. ev.page) same;
    room = run.room ∙ place.room;
  };
  leads = λ h typed. subst (λ o. Leads o (serial_step old.program.now old.page old.input.now (control_in old) h) new) (sym going) (
    push_frame h (length (calls_in old.frames)) (take n (passed_in old)),
    moves h,
    subst (λ frames. Shows frames (push_frame h (length (calls_in old.frames)) (take n (passed_in old)))) (sym (ap (λ ev. ev.frames) puts.0))
        (subst (λ ws. Shows mid.frames (push_frame h (length (calls_in old.frames)) ws)) (given_last old n known given at are) (shows h typed.1)),
  );
}
  where
    before : List Work
    before = works.Body row ∷ works.Fall ∷ works.Join ∷ works.End ∷ []

    run : IsSameRun mid new
    run = same_run mid new before hands.Idle puts

    same_program : mid.program.now ≡ old.program.now
    same_program = ap (λ ev. ev.program.now) same

    bytes : ℕ
    bytes = call_bytes_in old.page (slice_get old.program.now.functions f)

    kept_mid : IsKept mid
    kept_mid = record {
      laid = laid;
      program = place.program ∙ ready.0.program ∙ sym same_program;
      typed = subst TypedProgram (sym same_program) ready.0.typed;
      fit = subst FitFrames (sym same_program) ready.0.fit;
      account = account_ahead old.account mid.account bytes _ 0 _ (room_in old.frames) (room_in mid.frames) enough (ap (λ ev. ev.account) same)
          (ap (λ ev. 4 * frames_words ev.program.now (calls_in mid.frames) + ev.page * cilk_frames ev.program.now (calls_in mid.frames)) same
          ∙ ap (λ cs. 4 * frames_words old.program.now cs + old.page * cilk_frames old.program.now cs) calls
          ∙ one_more_call old.program.now old.page f (calls_in old.frames) function there)
          ready.0.account place.room;
      room = omega (arith, ready.0.room, place.room);
      page = omega (arith, ready.0.page, ap (λ ev. ev.page) same);
      input = omega (arith, ready.0.input, ap (λ ev. length ev.input.now) same);
    }

    -- what is to be done behind it
    behind : List rest.Item
    behind = items_of (reverse old.rest.items) (drop n (passed_in old))

    pushed : rest.Control
    pushed = rest.control (f ∷ calls_in old.frames) (old.account - bytes) rest.idle (rest.body function.body ∷ rest.fall ∷ rest.join ∷ rest.end ∷ behind)

    others : passed_in mid ≡ drop n (passed_in old)
    others = ap (λ l. reverse (map argument_of l)) (kept_passed ∙ ap (λ k. take k old.passed.items) at) ∙ other_images argument_of n old.passed.items

    state : control_in new ≡ pushed
    state = control_behind mid new before hands.Idle puts
        ∙ ap (λ ev. rest.control (calls_in mid.frames) ev.account rest.idle (rest.body row.now ∷ rest.fall ∷ rest.join ∷ rest.end ∷ items_of (reverse ev.rest.items) (passed_in mid))) same
        ∙ ap (λ cs. rest.control cs (old.account - bytes) rest.idle (rest.body row.now ∷ rest.fall ∷ rest.join ∷ rest.end ∷ items_of (reverse old.rest.items) (passed_in mid))) calls
        ∙ ap (λ b. rest.control (f ∷ calls_in old.frames) (old.account - bytes) rest.idle (rest.body b ∷ rest.fall ∷ rest.join ∷ rest.end ∷ items_of (reverse old.rest.items) (passed_in mid))) body
        ∙ ap (λ ws. rest.control (f ∷ calls_in old.frames) (old.account - bytes) rest.idle (rest.body function.body ∷ rest.fall ∷ rest.join ∷ rest.end ∷ items_of (reverse old.rest.items) ws)) others

    framing : rest.Control
    framing = control_by old [] (hands.Framing f n)

    moves : (h : Stack) → serial_step old.program.now old.page old.input.now (control_in old) h ≡ silent (control_in new) (push_frame h (length (calls_in old.frames)) (take n (passed_in old)))
    moves h = ap (λ y. serial_step old.program.now old.page old.input.now (control_by old [] y) h) is
        ∙ ap (λ o. elided old h (push_call old.program.now old.page old.input.now framing h f (take n (passed_in old)) behind o)) there
        ∙ ap (λ b. elided old h (if b then silent (rest.control (f ∷ calls_in old.frames) (old.account - call_bytes_in old.page (Some function)) rest.idle (rest.body function.body ∷ rest.fall ∷ rest.join ∷ rest.end ∷ behind)) (push_frame h (length (calls_in old.frames)) (take n (passed_in old))) else traps kind.Stack))
        (le-leb (call_bytes_in old.page (Some function)) old.account (subst (λ o. call_bytes_in old.page o ≤ old.account) there enough))
        ∙ ap (λ o. silent (rest.control (f ∷ calls_in old.frames) (old.account - call_bytes_in old.page o) rest.idle (rest.body function.body ∷ rest.fall ∷ rest.join ∷ rest.end ∷ behind)) (push_frame h (length (calls_in old.frames)) (take n (passed_in old)))) (sym there)
        ∙ ap (λ c. silent c (push_frame h (length (calls_in old.frames)) (take n (passed_in old)))) (sym state)

-- the same with the bytes as they were counted
pub call_does_by : (old mid new : Evaluator) (f n known taken : ℕ) (outcome : Outcome) (given : List declared.Argument) (row : Bor (List (Stmt ℕ))) (function : Function ℕ)
    → IsAtHand old → old.hand ≡ hands.Framing f n → outcome ≡ outcomes.Going
    → slice_get old.program.now.functions f ≡ Some function → row.now ≡ function.body
    → taken ≡ call_bytes_in old.page (slice_get old.program.now.functions f) → taken ≤ old.account
    → mid ≡ record { program = old.program; input = old.input; page = old.page; account = old.account - taken; hand = old.hand; rest = old.rest; passed = mid.passed; frames = mid.frames }
    → known ≡ length old.passed.items - n → given ≡ take (length old.passed.items - known) (drop known old.passed.items) → mid.passed.items ≡ take known old.passed.items
    → IsLaidOut mid.frames → IsSamePlace old.frames mid.frames → calls_in mid.frames ≡ f ∷ calls_in old.frames
    → ShowsAfter old.frames mid.frames (λ h. push_frame h (length (calls_in old.frames)) (reverse (map argument_of given)))
    → Puts mid (works.Body row ∷ works.Fall ∷ works.Join ∷ works.End ∷ []) hands.Idle new → Steps old outcome new
call_does_by old mid new f n known taken outcome given row function ready is going there body counted enough same at are kept_passed laid place calls shows puts =
    call_does old mid new f n known outcome given row function ready is going there body (subst (λ b. b ≤ old.account) counted enough)
    (same ∙ ap (λ b. record { program = old.program; input = old.input; page = old.page; account = old.account - b; hand = old.hand; rest = old.rest; passed = mid.passed; frames = mid.frames }) counted)
    at are kept_passed laid place calls shows puts

pub back_other : (y : Hand) → ((v : ℤ) → y ≡ hands.Value v → ⊥) → hands.Returned None ≡ back_hand y
back_other hands.Idle n = refl
back_other (hands.Value v) n = absurd (n v refl)
back_other (hands.Returned v) n = refl
back_other (hands.Entering f k) n = refl
back_other (hands.Framing f k) n = refl

-- ---- the arguments of a call

-- with no more of them the call is at hand
pub enter_does : (old new : Evaluator) (u : Purpose) (f n : ℕ) (row : Bor (List (Arg ℕ))) (outcome : Outcome) → IsReady old (works.Arguments u f n row) → row.now ≡ []
    → outcome ≡ outcomes.Going → Puts old (delivery u (top (calls_in old.frames))) (hands.Entering f n) new → Does old (works.Arguments u f n row) outcome new
enter_does old new u f n row outcome ready none going puts = record {
  kept = kept_behind old new (delivery u (top (calls_in old.frames))) (hands.Entering f n) puts ready.0;
  same = same_run old new (delivery u (top (calls_in old.frames))) (hands.Entering f n) puts;
  leads = λ h at. subst (λ o. Leads o (serial_step old.program.now old.page old.input.now (control_with (works.Arguments u f n row ∷ []) old) h) new) (sym going) (
    h,
    serial_move old old.hand (works.Arguments u f n row) h refl ready.1
        ∙ ap (λ l. elided old h (item_step old.program.now old.page old.input.now here h (rest.arguments (purpose_of u) f ws (arguments_row l).1) k)) none
        ∙ enters u h (λ x. held h x at)
        ∙ ap (λ c. silent c h) (sym (control_behind old new (delivery u (top (calls_in old.frames))) (hands.Entering f n) puts)),
    subst (λ frames. Shows frames h) (sym (ap (λ ev. ev.frames) puts.0)) at.1,
  );
}
  where
    here : rest.Control
    here = control_at old old.hand (works.Arguments u f n row)

    ws : List Argument
    ws = take n (passed_in old)

    k : List rest.Item
    k = items_of (reverse old.rest.items) (drop n (passed_in old))

    held : (h : Stack) (x : ℕ) → IsTypedAt old (control_with (works.Arguments u f n row ∷ []) old) h → may_write (h.words (top (calls_in old.frames)) x 0) ≡ true
    held h x at = at.0.words (top (calls_in old.frames)) x 0 (top_lives old ready.0 h _ _ (ready_inside old (works.Arguments u f n row) old.hand h refl ready.1 tt at))

    enters : (u : Purpose) (h : Stack) → ((x : ℕ) → may_write (h.words (top (calls_in old.frames)) x 0) ≡ true)
        → elided old h (enter_call here h (purpose_of u) f ws k) ≡ silent (control_by old (delivery u (top (calls_in old.frames))) (hands.Entering f n)) h
    enters purposes.Called h is = refl
    enters (purposes.Spawned None) h is = refl
    enters (purposes.Spawned (Some x)) h is = ap (elided old h) (writes_on (h.words (top (calls_in old.frames)) x 0) _ (is x))

module _ (ev : Evaluator) (y : Hand) (u : Purpose) (f n : ℕ) (row more : Bor (List (Arg ℕ))) (h : Stack) where
  -- the step of the arguments, by the first that is to come
  move_by : (l : List (Arg ℕ)) → row.now ≡ l → work_move ev y (works.Arguments u f n row) h
      ≡ item_step ev.program.now ev.page ev.input.now (control_at ev y (works.Arguments u f n row)) h (rest.arguments (purpose_of u) f (take n (passed_in ev)) (arguments_row l).1)
      (items_of (reverse ev.rest.items) (drop n (passed_in ev)))
  move_by l e = ap (λ l. item_step ev.program.now ev.page ev.input.now (control_at ev y (works.Arguments u f n row)) h (rest.arguments (purpose_of u) f (take n (passed_in ev)) (arguments_row l).1)
      (items_of (reverse ev.rest.items) (drop n (passed_in ev)))) e

  -- to another rest with nothing at hand
  abbrev ahead : List rest.Item → Move
  ahead items = silent (rest.control (calls_in ev.frames) ev.account rest.idle (items ++ items_of (reverse ev.rest.items) (drop n (passed_in ev)))) h

  pub value_moves : (e : Expr ℕ) → row.now ≡ arg.Value e ∷ more.now
      → work_move ev y (works.Arguments u f n row) h ≡ ahead (rest.evaluate e ∷ rest.pass (purpose_of u) f (take n (passed_in ev)) (arguments_row more.now).1 ∷ [])
  value_moves e first = move_by (arg.Value e ∷ more.now) first

  pub address_moves : (x : Mark ℕ) → row.now ≡ arg.Address x ∷ more.now
      → work_move ev y (works.Arguments u f n row) h
      ≡ ahead (rest.arguments (purpose_of u) f (slice (scalar_slice (top (calls_in ev.frames)) x.name) ∷ take n (passed_in ev)) (arguments_row more.now).1 ∷ [])
  address_moves x first = move_by (arg.Address x ∷ more.now) first

  pub slice_moves : (a : Mark ℕ) (r : Reference) → row.now ≡ arg.Slice a ∷ more.now
      → ((goes_on : Reference → Move) → slice_in (calls_in ev.frames) h (slot_at ev.program.now ev.page ev.input.now (calls_in ev.frames) a.name) a.name goes_on ≡ goes_on r)
      → work_move ev y (works.Arguments u f n row) h
      ≡ ahead (rest.arguments (purpose_of u) f (slice r ∷ take n (passed_in ev)) (arguments_row more.now).1 ∷ [])
  slice_moves a r first reads = move_by (arg.Slice a ∷ more.now) first ∙ reads _

-- the value of an argument is wanted
pub value_does : (old new : Evaluator) (u : Purpose) (f n : ℕ) (row more : Bor (List (Arg ℕ))) (e : Bor (Expr ℕ)) (outcome : Outcome) → IsReady old (works.Arguments u f n row)
    → row.now ≡ arg.Value e.now ∷ more.now → outcome ≡ outcomes.Going → Puts old (works.Evaluate e ∷ works.Pass u f n more ∷ []) hands.Idle new
    → Does old (works.Arguments u f n row) outcome new
value_does old new u f n row more e outcome ready first going puts =
    puts_does old new (works.Arguments u f n row) old.hand outcome (works.Evaluate e ∷ works.Pass u f n more ∷ []) hands.Idle ready refl going puts
    (λ h at. value_moves old old.hand u f n row more h e.now first)

-- an argument that is a slice is a row that was set
slice_typed : (functions : List (Function ℕ)) (slots : List Slot) (set : List ℕ) (parameters : List Slot) (a : Mark ℕ) (l : List (Arg ℕ))
    → TypedArguments functions slots set parameters (arguments_row (arg.Slice a ∷ l)).1 → IsSetRow functions slots set a.name
slice_typed functions slots set [] a l t = absurd t
slice_typed functions slots set (slot.Scalar ∷ ps) a l t = absurd t
slice_typed functions slots set (slot.Array n ∷ ps) a l t = absurd t
slice_typed functions slots set (slot.Slice ∷ ps) a l t = t.0

-- what an argument that is a slice tells of the running function
pub record SliceAt (ev : Evaluator) (a : Mark ℕ) (h : Stack) : Type 0 where
  pub there : IsSome (slot_in ev.frames a.name)
  pub reads : (r : Reference) → IsRowOf h (calls_in ev.frames) a.name (slot_in ev.frames a.name) r → (goes_on : Reference → Move)
      → slice_in (calls_in ev.frames) h (slot_at ev.program.now ev.page ev.input.now (calls_in ev.frames) a.name) a.name goes_on ≡ goes_on r

pub slice_at : (ev : Evaluator) (u : Purpose) (f n : ℕ) (row more : Bor (List (Arg ℕ))) (a : Mark ℕ) (h : Stack) → IsReady ev (works.Arguments u f n row)
    → row.now ≡ arg.Slice a ∷ more.now → IsTypedAt ev (control_with (works.Arguments u f n row ∷ []) ev) h → SliceAt ev a h
slice_at ev u f n row more a h ready first at = record {
  there = row_there ev ready.0 h _ _ inside a.name row_set.1;
  reads = λ r is goes_on. ap (λ o. slice_in (calls_in ev.frames) h o a.name goes_on) (slot_at_is ev ready.0 h _ _ inside a.name)
      ∙ (row_at ev ready.0 h _ _ inside a.name r at.0.refers row_set is).reads goes_on;
}
  where
    inside : Inside ev.program.now h (calls_in ev.frames) (at_hand (hand_of ev.hand [])) (work_item ev (works.Arguments u f n row) ∷ behind_work ev (works.Arguments u f n row))
    inside = ready_inside ev (works.Arguments u f n row) ev.hand h refl ready.1 tt at

    left : List Slot
    left = drop (length (take n (passed_in ev))) (parameters_in (slice_get ev.program.now.functions f))

    row_set : IsSetRow ev.program.now.functions inside.function.slots inside.set a.name
    row_set = slice_typed ev.program.now.functions inside.function.slots inside.set left a more.now
        (subst (λ l. TypedArguments ev.program.now.functions inside.function.slots inside.set left (arguments_row l).1) first inside.inner.1.2)

-- a slice is handed over
pub slice_does : (old mid new : Evaluator) (u : Purpose) (f n m most : ℕ) (row more : Bor (List (Arg ℕ))) (a : Mark ℕ) (r : declared_reference.Reference) (outcome : Outcome)
    → IsReady old (works.Arguments u f n row) → row.now ≡ arg.Slice a ∷ more.now
    → ((h : Stack) → Shows old.frames h → IsRowOf h (calls_in old.frames) a.name (slot_in old.frames a.name) (reference_of r)) → outcome ≡ outcomes.Going
    → mid ≡ record { program = old.program; input = old.input; page = old.page; account = old.account; hand = old.hand; rest = old.rest; passed = mid.passed; frames = old.frames }
    → mid.passed.items ≡ old.passed.items ++ declared_arguments.Slice r ∷ [] → m ≡ min (n + 1) most → length old.passed.items < most
    → Puts mid (works.Arguments u f m more ∷ []) hands.Idle new → Does old (works.Arguments u f n row) outcome new
slice_does old mid new u f n m most row more a r outcome ready first is going same put counted few puts =
    argument_does old mid new (works.Arguments u f n row) old.hand outcome u f n m most more (declared_arguments.Slice r) ready refl going same put counted few puts
    (λ h at. slice_moves old old.hand u f n row more h a (reference_of r) first ((slice_at old u f n row more a h ready first at).reads (reference_of r) (is h at.1)))

-- the slice of a scalar is
pub address_does : (old mid new : Evaluator) (u : Purpose) (f n m most : ℕ) (row more : Bor (List (Arg ℕ))) (x : Mark ℕ) (r : declared_reference.Reference) (outcome : Outcome)
    → IsReady old (works.Arguments u f n row) → row.now ≡ arg.Address x ∷ more.now
    → reference_of r ≡ scalar_slice (top (calls_in old.frames)) x.name → outcome ≡ outcomes.Going
    → mid ≡ record { program = old.program; input = old.input; page = old.page; account = old.account; hand = old.hand; rest = old.rest; passed = mid.passed; frames = old.frames }
    → mid.passed.items ≡ old.passed.items ++ declared_arguments.Slice r ∷ [] → m ≡ min (n + 1) most → length old.passed.items < most
    → Puts mid (works.Arguments u f m more ∷ []) hands.Idle new → Does old (works.Arguments u f n row) outcome new
address_does old mid new u f n m most row more x r outcome ready first is going same put counted few puts =
    argument_does old mid new (works.Arguments u f n row) old.hand outcome u f n m most more (declared_arguments.Slice r) ready refl going same put counted few puts
    (λ h at. address_moves old old.hand u f n row more h x first
    ∙ ap (λ s. ahead old old.hand u f n row more h (rest.arguments (purpose_of u) f (slice s ∷ take n (passed_in old)) (arguments_row more.now).1 ∷ [])) (sym is))
