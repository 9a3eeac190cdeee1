-- A piece whose calls are guarded does each item as the whole does: what it reads and writes is its own.
use Rattle.std.proofs.Common.{◌≡◌, ℕ, zero, suc, ◌+◌, ◌<◌, ◌≤◌, List, [], ◌∷◌, ◌++◌, length, Option, None, Some, refl, sym, ap, ◌∙◌, subst, arith, inl, inr, option_map}
use Rattle.std.specs.Prelude.{Bool, true, false, ◌==◌, if◌then◌else◌, ℤ, pos, ⊤, slice_get}
use Rattle.cm_syntax.specs.declared.expr.Op.{Op}
use Rattle.cm_syntax.specs.declared.expr.Op.TheVariants as op
use Rattle.cm_syntax.specs.declared.expr.Expr.{Expr}
use Rattle.cm_syntax.specs.declared.expr.Expr.TheVariants as expression
use Rattle.cm_syntax.specs.declared.expr.Arg.{Arg}
use Rattle.cm_syntax.specs.declared.expr.Arg.TheVariants as arg
use Rattle.cm_syntax.specs.declared.expr.Call.{Call, Row_of-Arg, end_of-Arg, more_of-Arg, items-the_row-Arg, items_hidden-the_row-Arg-1}
use Rattle.cm_syntax.specs.declared.expr.Mark.{Mark}
use Rattle.cm_syntax.specs.declared.stmt.Slot.{Slot}
use Rattle.cm_syntax.specs.declared.stmt.Slot.TheVariants as slot
use Rattle.cm_syntax.specs.Extent.{extent_of}
use Rattle.cm_syntax.specs.declared.stmt.Item as items
use Rattle.cm_syntax.specs.declared.stmt.Target.TheVariants as target
use Rattle.cm_syntax.specs.declared.stmt.Stmt.{Stmt, Row_of-Stmt, end_of-Stmt, more_of-Stmt}
use Rattle.cm_syntax.specs.declared.stmt.Stmt.TheVariants as statement
use Rattle.cm_syntax.specs.declared.stmt.Function.{Function}
use Rattle.cm_syntax.specs.declared.stmt.Program.{Program}
use Rattle.cm_syntax.specs.Shape.{Joined, Prefixed, Element, InputAt, IfAlone, IfElse, WhileLoop, ForLoop}
use Rattle.cm_syntax.specs.Label.{silent, ticks, prints, spawns, syncs, traps, ends, stuck}
use Rattle.cm_syntax.specs.Operator.{is_zero, natural, binary_value, divides, unary_value}
use Rattle.cm_syntax.specs.Walk.{mentions, calls as call_event, spawns as spawn_event, Order, nothing, event, next, choice}
use Rattle.cm_syntax.specs.Evaluation.{joined_order, slice_of, slices, row_slices, expression_order, row_order, argument_order, arguments_order, destination_order, destination_of, optional_order, items_order, rounds_order, statement_order, statements_order, body_order}
use Rattle.cm_syntax.specs.Cell.{Cell, absent, value_in, may_write}
use Rattle.cm_syntax.specs.Stack.{Reference, Stack, Scalar, Destination, Argument, word, slice, write_word, clear_words, write_parts, may_write_all, lent_stack, kept_stack}
use Rattle.cm_syntax.specs.Rest.{Purpose, called, spawned, Item, evaluate, right, apply, prefix, both, either, truth, element, read, arguments, pass, take_back, discard, deliver, perform, sequence, body, declare, assign, update, locate, store, branch, turn, test, part, tick, show, exit, fall, join, end, Hand, idle, holds, returned, entering, framing, Control, control}
use Rattle.cm_syntax.specs.Step.{Move, top, rest_at_join, scalar_slice, when_readable, when_writable, when_value, when_result, when_some, go_on, hold, write_step, leave, is_index, is_split, slice_in, destination_slot, invoke, spawn_call, enter_call, take_value, drop_value, declare_item, do_other, fall_off, running_function, when_slice, give_input, evaluate_step, statement_step, item_step}
use Rattle.cm_syntax.proofs.CellLaw.{valued}
use Rattle.cm_syntax.proofs.AccessLaw.{reading, writing, reads_value, writes_on}
use Rattle.cm_syntax.proofs.Rows.{row_of_call}
use Rattle.cm_meaning.specs.TypedState.{row_length, reference_length}
use Rattle.cm_meaning.specs.Visible.{Among, IsOpen, IsVisible, SeesExpression, SeesArguments, SeesOptional, SeesItem, SeesItems, SeesDestination, SeesStatement}
use Rattle.cm_meaning.proofs.LendingLaw.{Distinct, Obeys, more, kept, round, endless, Calm, calm_more, calm_out}
use Rattle.cm_meaning.proofs.TypedFramesLaw.{IsPlain, left_part, right_part}
use Rattle.cm_meaning.proofs.ItemLaw.{index_within, split_within}
use Rattle.cm_meaning.proofs.GuardLaw.{Access, reads, writes, Serves, Named, names, Covers, StandsFor, Stand, Ghost, Guards, Passes, Passed, onto, IsFree, Invokes, SeesPurpose, row_names, other_order, SeesOther, Closing, brace_order, AtJoin, Rest, to_join, slots_of, Chain, Going, Frames, PassesAt}
use Rattle.cm_meaning.proofs.GuardStepLaw.{both_true, both_and, lent_serves, Takes, taken_true, onto_first, distinct_onto, refer_stands, With, guards_spawned, guards_less, named_word, passes_named, passes_less, split_known, split_covered, guards_split, guards_closed, stand_closed, stand_same, stand_split, other_number}

-- ---- orders

calm_joined : (o : Op) (a b : Order) → Calm a → Calm b → Calm (joined_order o a b)
calm_joined op.Both a b x y = (x, (tt, y))
calm_joined op.Either a b x y = (x, (tt, y))
calm_joined _ a b x y = (x, y)

mutual
  -- an expression neither lends nor ends a path
  pub calm_expression : (e : Expr ℕ) → Calm (expression_order e)
  calm_expression (expression.Number n) = tt
  calm_expression (expression.Scalar x) = tt
  calm_expression (Element a place) = (calm_expression place, tt)
  calm_expression (expression.Len a) = tt
  calm_expression (InputAt place) = calm_expression place
  calm_expression expression.Inputs = tt
  calm_expression (Prefixed o e) = calm_expression e
  calm_expression (Joined o l r) = calm_joined o (expression_order l) (expression_order r) (calm_expression l) (calm_expression r)
  calm_expression (expression.Call' f _ row) = (calm_row row, tt)

  pub calm_row : {n : _} (row : Row_of-Arg ℕ n) → Calm (row_order row)
  calm_row end_of-Arg = tt
  calm_row (more_of-Arg first rest) = (calm_argument first, calm_row rest)

  calm_argument : (a : Arg ℕ) → Calm (argument_order a)
  calm_argument (arg.Value e) = calm_expression e
  calm_argument (arg.Slice a) = tt
  calm_argument (arg.Address x) = tt

-- the slices of a call's arguments are free where it is made
pub row_free : {n : _} (row : Row_of-Arg ℕ n) (q : List ℕ → Type 0) (lent : List ℕ) → Obeys (row_order row) q lent → Obeys (row_order row) (λ m. IsFree (row_names row) m × q m) lent
row_free end_of-Arg q lent h = ((λ x a. absurd a), h)
row_free (more_of-Arg (arg.Value e) rest) q lent h = more (expression_order e) (Obeys (row_order rest) q) (Obeys (row_order rest) (λ m. IsFree (row_names rest) m × q m)) lent (λ m g. row_free rest q m g) h
row_free (more_of-Arg (arg.Slice a) rest) q lent h = (
  h.0,
  calm_more (row_order rest) (calm_row rest) (λ m. IsFree (row_names rest) m × q m) (λ m. IsFree (a.name ∷ row_names rest) m × q m) lent
      (λ y. ((λ x b m. elim b [ inl e ↦ h.0 (subst (Among lent) (sym e) m) | inr d ↦ y.0 x d m ]), y.1)) (row_free rest q lent h.1),
)
row_free (more_of-Arg (arg.Address a) rest) q lent h = (
  h.0,
  calm_more (row_order rest) (calm_row rest) (λ m. IsFree (row_names rest) m × q m) (λ m. IsFree (a.name ∷ row_names rest) m × q m) lent
      (λ y. ((λ x b m. elim b [ inl e ↦ h.0 (subst (Among lent) (sym e) m) | inr d ↦ y.0 x d m ]), y.1)) (row_free rest q lent h.1),
)

-- a call
called_row : {n : _} (row : Row_of-Arg ℕ n) (q : List ℕ → Type 0) (lent : List ℕ) → Obeys (next (row_order row) (event (call_event (row_slices row)))) q lent → Obeys (row_order row) (Invokes called (onto [] (row_names row)) q) lent
called_row row q lent h = more (row_order row) (λ m. IsFree (row_names row) m × Obeys (event (call_event (row_slices row))) q m) (Invokes called (row_names row) q) lent (λ m y. (y.0, y.1.0, y.1.1))
    (row_free row (Obeys (event (call_event (row_slices row))) q) lent h)

-- a spawn
spawned_row : {n : _} (row : Row_of-Arg ℕ n) (at : ℕ) (x : Option (Mark ℕ)) (q : List ℕ → Type 0) (lent : List ℕ)
    → Obeys (next (row_order row) (next (destination_order x) (event (spawn_event at (destination_of x ++ row_slices row))))) q lent → Obeys (row_order row) (Invokes (spawned (destination_slot x)) (onto [] (row_names row)) q) lent
spawned_row row at None q lent h =
    more (row_order row) (λ m. IsFree (row_names row) m × Obeys (event (spawn_event at (row_slices row))) q m) (Invokes (spawned None) (row_names row) q) lent (λ m y. (y.0, y.1.0, y.1.1))
    (row_free row (Obeys (event (spawn_event at (row_slices row))) q) lent h)
spawned_row row at (Some x) q lent h =
    more (row_order row) (λ m. IsFree (row_names row) m × Obeys (next (event (mentions x.name x.at)) (event (spawn_event at (x ∷ row_slices row)))) q m) (Invokes (spawned (Some x.name)) (row_names row) q) lent
    (λ m y. ((λ z b l. elim b [ inl e ↦ y.1.0 (subst (Among m) (sym e) l) | inr d ↦ y.0 z d l ]), y.1.1.0, y.1.1.1))
    (row_free row (Obeys (next (event (mentions x.name x.at)) (event (spawn_event at (x ∷ row_slices row)))) q) lent h)

-- the arguments of a call in a list, and in a row
row_list : {n : _} (row : Row_of-Arg ℕ n) → arguments_order (items-the_row-Arg ℕ n row) ≡ row_order row
row_list end_of-Arg = refl
row_list (more_of-Arg first rest) = ap (λ o. next (argument_order first) o) (row_list rest)

slices_list : {n : _} (row : Row_of-Arg ℕ n) → slices (items-the_row-Arg ℕ n row) ≡ row_slices row
slices_list end_of-Arg = refl
slices_list (more_of-Arg first rest) = ap (λ s. slice_of first ++ s) (slices_list rest)

row_of : (call : Call ℕ) → items-the_row-Arg ℕ (row_of_call (expression.Call call)).0 (row_of_call (expression.Call call)).1 ≡ call.arguments
row_of call = items_hidden-the_row-Arg-1 ℕ call.arguments

-- ---- states

-- A piece's state: its calls are guarded, and their rests obey the rule.
pub record At (program : Program) (Away : Access → (n e t j : ℕ) → Type 0) (c : Control) (h : Stack) : Type 0 where
  pub ghosts : List Ghost
  pub going : Going program c.calls ghosts c.hand c.rest
  pub frames : Frames Away h.references c.calls ghosts
  pub passes : PassesAt Away c.calls c.hand

-- What a piece has of the whole: the value of a word that isn't gone, and all of one that isn't lent.
pub record Agrees (Away : Access → (e t j : ℕ) → Type 0) (h u : Stack) : Type 0 where
  pub value : (e t j : ℕ) → (Away reads e t j → ⊥) → value_in (h.words e t j) ≡ value_in (u.words e t j)
  pub cell : (e t j : ℕ) → (Away writes e t j → ⊥) → h.words e t j ≡ u.words e t j

-- what serves the whole and not a child
abbrev pub Outside : (whole lent : Stack) → Access → (e t j : ℕ) → Type 0
Outside u lent access e t j = Serves access (u.words e t j) × (Serves access (lent.words e t j) → ⊥)

-- what a spawn takes from the continuation
abbrev pub Taken : (lent kept : Stack) → Access → (e t j : ℕ) → Type 0
Taken lent kept access e t j = Takes access (lent.words e t j) (kept.words e t j)

-- what is away behind the spawn
abbrev pub Behind : (Away : Access → (n e t j : ℕ) → Type 0) → (depth : ℕ) → (lent kept : Stack) → Access → (n e t j : ℕ) → Type 0
Behind Away depth lent kept access = With (Away access) depth (Taken lent kept access)

-- a spawned call begins alone, with what it is passed
pub record Begins (u : Stack) (c call : Control) (lent : Stack) : Type 0 where
  pub callee : ℕ
  pub given : List Argument
  pub is : call ≡ control c.calls c.account (entering callee given) []
  pub passes : (access : Access) → Passes (Outside u lent access) given
  pub no_references : (d s : ℕ) → lent.references d s ≡ absent

-- a call at a depth that waits for its children
pub record Synced (program : Program) (Away : Access → (n e t j : ℕ) → Type 0) (h : Stack) (at : ℕ) (t : Control) : Type 0 where
  pub function : ℕ
  pub callers : List ℕ
  pub ghost : Ghost
  pub ghosts : List Ghost
  pub calls_are : t.calls ≡ function ∷ callers
  pub depth_is : length callers ≡ at
  pub guards : (access : Access) → Guards (Away access) (length callers) ghost
  pub stand : Stand (h.references (length callers)) ghost.known
  pub frames : Frames Away h.references callers ghosts
  pub plain : IsPlain t.hand
  pub going : Going program (function ∷ callers) (record { known = ghost.known; hidden = ghost.hidden; lent = [] } ∷ ghosts) t.hand t.rest

-- What a step of such a state gives; `u` is the whole. What is gone behind a spawn wasn't lent before it.
abbrev pub Next : Program → (Away : Access → (n e t j : ℕ) → Type 0) → (u : Stack) → Control → Stack → Move → Type 0
Next program Away u c h (silent t g) = At program Away t g
Next program Away u c h (ticks t g) = At program Away t g
Next program Away u c h (prints v t g) = At program Away t g
Next program Away u c h (spawns call lent x t g) = At program (Behind Away (top c.calls) lent g) t g × Begins u c call lent × ((e s j : ℕ) → Taken lent g reads e s j → Away writes (suc (top c.calls)) e s j → ⊥)
Next program Away u c h (syncs t) = Synced program Away h (top c.calls) t
Next program Away u c h (traps k) = ⊤
Next program Away u c h (ends v) = ⊤
Next program Away u c h stuck = ⊥

-- a step that isn't stuck
abbrev pub Runs : Move → Type 0
Runs stuck = ⊥
Runs _ = ⊤

-- the index of an element that is written is in its row
abbrev pub StoreFits : Program → (f depth : ℕ) → Stack → Item → Type 0
StoreFits program f depth u (store x j o) = j < row_length u depth x (slice_get (slots_of program f) x)
StoreFits program f depth u _ = ⊤

pub frames_less : (Away Less : Access → (n e t j : ℕ) → Type 0) (refs other : ℕ → ℕ → Cell Reference) (calls : List ℕ) (ghosts : List Ghost) → ((access : Access) (n e t j : ℕ) → n ≤ length calls → Less access n e t j → Away access n e t j)
    → ((d s : ℕ) → d < length calls → other d s ≡ refs d s) → Frames Away refs calls ghosts → Frames Less other calls ghosts
frames_less Away Less refs other calls [] f r w = tt
frames_less Away Less refs other [] (g ∷ ghosts) f r w = absurd w
frames_less Away Less refs other (c ∷ calls) (g ∷ ghosts) f r w = (
  λ access. guards_less (Away access) (Less access) (length calls) g (λ n e t j l. f access n e t j l) (w.0 access),
  stand_same (refs (length calls)) (other (length calls)) g.known (λ s a. r (length calls) s (omega arith)) w.1,
  frames_less Away Less refs other calls ghosts (λ access n e t j l. f access n e t j (omega (arith, l))) (λ d s l. r d s (omega (arith, l))) w.2,
)

module _ (program : Program) (page : ℕ) (input : List ℤ) (f : ℕ) (callers : List ℕ) (account : ℕ) (hand : Hand) (all larger : List Item) (h u : Stack) (Away : Access → (n e t j : ℕ) → Type 0) (ghosts : List Ghost) where
  -- the state, the same within the whole, and what a step gives
  abbrev c : Control
  c = control (f ∷ callers) account hand all

  abbrev w : Control
  w = control (f ∷ callers) account hand larger

  abbrev depth : ℕ
  depth = length callers

  abbrev Ok : Move → Type 0
  Ok = Next program Away u c h

  abbrev R : List Item → (known : List Named) → (hidden : List ℕ) → (lent : List ℕ) → Type 0
  R = Rest (slots_of program f) depth (Chain program callers ghosts)

  going_plain : (z : Hand) (k : List Item) (g : Ghost) → IsPlain z → R k g.known g.hidden g.lent → Going program (f ∷ callers) (g ∷ ghosts) z k
  going_plain (entering l ws) k g p r = absurd p
  going_plain (framing l ws) k g p r = absurd p
  going_plain idle (end ∷ k) g p r = absurd r
  going_plain (holds v) (end ∷ k) g p r = absurd r
  going_plain (returned v) (end ∷ k) g p r = absurd r
  going_plain idle k g p r = r
  going_plain (holds v) k g p r = r
  going_plain (returned v) k g p r = r

  no_passes : (z : Hand) → IsPlain z → PassesAt Away (f ∷ callers) z
  no_passes idle p = tt
  no_passes (holds v) p = tt
  no_passes (returned v) p = tt
  no_passes (entering l ws) p = absurd p
  no_passes (framing l ws) p = absurd p

  module _ (there : Agrees (λ access. Away access (suc depth)) h u) (rows : (s : ℕ) → h.references depth s ≡ u.references depth s)
      (frames : Frames Away h.references callers ghosts) (known : List Named) (hidden lent : List ℕ) (guards : (access : Access) → Guards (Away access) depth (record { known = known; hidden = hidden; lent = lent })) (stand : Stand (h.references depth) known) where
    abbrev ghost : Ghost
    ghost = record { known = known; hidden = hidden; lent = lent }

    -- ---- to other rests

    stays : (z : Hand) (k : List Item) (words : (e t j : ℕ) → Cell ℤ) → IsPlain z → R k known hidden lent → At program Away (control (f ∷ callers) account z k) (record { words = words; references = h.references })
    stays z k words p r = record { ghosts = ghost ∷ ghosts; going = going_plain z k ghost p r; frames = (guards, stand, frames); passes = no_passes z p }

    idles : (k : List Item) → R k known hidden lent → Ok (go_on c h k)
    idles k r = stays idle k h.words tt r

    holding : (v : ℤ) (k : List Item) → R k known hidden lent → Ok (hold c h v k)
    holding v k r = stays (holds v) k h.words tt r

    -- ---- what the whole has, the piece has

    free_own : (x j : ℕ) → IsOpen hidden x → (Among lent x → ⊥) → (access : Access) → Away access (suc depth) depth x j → ⊥
    free_own x j o l access = (guards access).free x depth x j o l (inl (refl, refl))

    serves_here : (access : Access) (e t j : ℕ) → (Away access (suc depth) e t j → ⊥) → Serves access (u.words e t j) → Serves access (h.words e t j)
    serves_here reads e t j a s = (s.0, there.value e t j a ∙ s.1)
    serves_here writes e t j a s = ap may_write (there.cell e t j a) ∙ s

    ok_readable : {A : Type 0} (a b : Cell A) (p q : A → Move) → value_in a ≡ value_in b → ((v : A) → value_in b ≡ Some v → Runs (q v) → Ok (p v)) → Runs (when_readable b q) → Ok (when_readable a p)
    ok_readable a b p q same go = reading (λ m. Runs m → Ok (when_readable a p)) (λ n. absurd n) b q (λ v e n. subst Ok (sym (reads_value a v p (same ∙ e))) (go v e n))

    ok_writable : {A : Type 0} (a b : Cell A) (p q : Move) → (may_write b ≡ true → may_write a ≡ true) → (Runs q → Ok p) → Runs (when_writable b q) → Ok (when_writable a p)
    ok_writable a b p q same go = writing (λ m. Runs m → Ok (when_writable a p)) (λ n. absurd n) b q (λ e n. subst Ok (sym (writes_on a p (same e))) (go n))

    ok_word : (e t j : ℕ) (p q : ℤ → Move) → (Away reads (suc depth) e t j → ⊥) → ((v : ℤ) → Runs (q v) → Ok (p v)) → Runs (when_readable (u.words e t j) q) → Ok (when_readable (h.words e t j) p)
    ok_word e t j p q a go = ok_readable (h.words e t j) (u.words e t j) p q (there.value e t j a) (λ v i. go v)

    ok_held : (e t j : ℕ) (p q : Move) → (Away writes (suc depth) e t j → ⊥) → (Runs q → Ok p) → Runs (when_writable (u.words e t j) q) → Ok (when_writable (h.words e t j) p)
    ok_held e t j p q a = ok_writable (h.words e t j) (u.words e t j) p q (serves_here writes e t j a)

    ok_value : (p q : ℤ → Move) → ((v : ℤ) → Runs (q v) → Ok (p v)) → Runs (when_value hand q) → Ok (when_value hand p)
    ok_value p q go = by hand
      where
        by : (z : Hand) → Runs (when_value z q) → Ok (when_value z p)
        by (holds v) n = go v n
        by idle n = absurd n
        by (returned v) n = absurd n
        by (entering l ws) n = absurd n
        by (framing l ws) n = absurd n

    ok_if : (b : Bool) (p q s t : Move) → (b ≡ true → Runs s → Ok p) → (Runs t → Ok q) → Runs (if b then s else t) → Ok (if b then p else q)
    ok_if true p q s t x y n = x refl n
    ok_if false p q s t x y n = y n

    ok_result : (o : Op) (v : Option ℤ) (p q : ℤ → Move) → ((w : ℤ) → Runs (q w) → Ok (p w)) → Runs (when_result o v q) → Ok (when_result o v p)
    ok_result o (Some v) p q go n = go v n
    ok_result o None p q go n = by (divides o) n
      where
        by : (b : Bool) → Runs (if b then traps Rattle.cm_syntax.specs.Trap.Divide else stuck) → Ok (if b then traps Rattle.cm_syntax.specs.Trap.Divide else stuck)
        by true n = tt
        by false n = absurd n

    ok_some : (v : Option ℤ) (p q : ℤ → Move) → ((w : ℤ) → Runs (q w) → Ok (p w)) → Runs (when_some v q) → Ok (when_some v p)
    ok_some (Some v) p q go n = go v n
    ok_some None p q go n = absurd n

    -- the words of a slice
    ok_slice : (x : ℕ) (p q : Reference → Move) → IsVisible (slots_of program f) (names known) hidden x
        → ((r : Reference) → ((e t j : ℕ) → Covers r e t j → StandsFor depth known x e t j) → r.length ≡ row_length u depth x (slice_get (slots_of program f) x) → Runs (q r) → Ok (p r))
        → Runs (when_slice program page input w u x q) → Ok (when_slice program page input c h x p)
    ok_slice x p q v go = by (slice_get (slots_of program f) x) refl go
      where
        own : (n e t j : ℕ) → Covers (record { depth = depth; slot = x; start = 0; length = n }) e t j → StandsFor depth known x e t j
        own n e t j o = inl (o.depth, o.slot)

        at_slice : slice_get (slots_of program f) x ≡ Some slot.Slice → ((r : Reference) → ((e t j : ℕ) → Covers r e t j → StandsFor depth known x e t j) → r.length ≡ reference_length (u.references depth x) → Runs (q r) → Ok (p r))
            → Runs (when_readable (u.references depth x) q) → Ok (when_readable (h.references depth x) p)
        at_slice s go = ok_readable (h.references depth x) (u.references depth x) p q (ap value_in (rows x))
            (λ r i. go r (λ e t j o. inr (refer_stands (h.references depth) known x e t j r stand (ap value_in (rows x) ∙ i) (v.named s) o)) (valued (λ z. r.length ≡ reference_length z) r refl (λ p. refl) (u.references depth x) i))

        by : (z : Option Slot) → slice_get (slots_of program f) x ≡ z → ((r : Reference) → ((e t j : ℕ) → Covers r e t j → StandsFor depth known x e t j) → r.length ≡ row_length u depth x z → Runs (q r) → Ok (p r))
            → Runs (slice_in (f ∷ callers) u (option_map extent_of z) x q) → Ok (slice_in (f ∷ callers) h (option_map extent_of z) x p)
        by None i go n = absurd n
        by (Some slot.Scalar) i go n = go (scalar_slice depth x) (own 1) refl n
        by (Some (slot.Array m)) i go n = go _ (own m) refl n
        by (Some slot.Slice) i go n = at_slice i go n

    -- what is written
    ok_write : (e t j : ℕ) (o : Option Op) (v : ℤ) (k m : List Item) → ((access : Access) → Away access (suc depth) e t j → ⊥) → R k known hidden lent → Runs (write_step w u e t j o v m) → Ok (write_step c h e t j o v k)
    ok_write e t j None v k m a r n = ok_held e t j _ _ (a writes) (λ n. stays idle k (write_word h e t j v).words tt r) n
    ok_write e t j (Some o) v k m a r n = ok_held e t j _ _ (a writes) (λ n. ok_word e t j _ _ (a reads) (λ old n. ok_result o (binary_value o old v) _ _ (λ s n. stays idle k (write_word h e t j s).words tt r) n) n) n

    ok_array : (x n : ℕ) → IsOpen hidden x → (Among lent x → ⊥) → may_write_all (u.words depth x) n ≡ true → may_write_all (h.words depth x) n ≡ true
    ok_array x zero o l i = refl
    ok_array x (suc n) o l i =
        let b = both_true (may_write (u.words depth x n)) (may_write_all (u.words depth x) n) i in
        both_and (may_write (h.words depth x n)) (may_write_all (h.words depth x) n) (serves_here writes depth x n (free_own x n o l writes) b.0) (ok_array x n o l b.1)

    -- ---- expressions

    ok_evaluate : (e : Expr ℕ) (k m : List Item) → SeesExpression (slots_of program f) (names known) hidden e → Obeys (expression_order e) (R k known hidden) lent → Runs (evaluate_step program page input w u e m) → Ok (evaluate_step program page input c h e k)
    ok_evaluate (expression.Number i) k m s o n = holding i k o
    ok_evaluate (expression.Scalar x) k m s o n = ok_word depth x.name 0 _ _ (free_own x.name 0 s o.0 reads) (λ v n. holding v k o.1) n
    ok_evaluate (Element a place) k m s o n = idles (evaluate place ∷ element a.name ∷ k) (s.1, kept (expression_order place) (IsVisible (slots_of program f) (names known) hidden a.name) (Obeys (event (mentions a.name a.at)) (R k known hidden)) lent s.0 o)
    ok_evaluate (expression.Len a) k m s o n = ok_slice a.name _ _ s (λ r q l n. holding (pos r.length) k o.1) n
    ok_evaluate (InputAt place) k m s o n = idles (evaluate place ∷ read ∷ k) (s, o)
    ok_evaluate expression.Inputs k m s o n = holding (pos (length input)) k o
    ok_evaluate (Prefixed p e) k m s o n = idles (evaluate e ∷ prefix p ∷ k) (s, o)
    ok_evaluate (Joined op.Both l r) k m s o n =
        idles (evaluate l ∷ both r ∷ k) (s.0, kept (expression_order l) (SeesExpression (slots_of program f) (names known) hidden r) (Obeys (choice nothing (expression_order r)) (R k known hidden)) lent s.1 o)
    ok_evaluate (Joined op.Either l r) k m s o n =
        idles (evaluate l ∷ either r ∷ k) (s.0, kept (expression_order l) (SeesExpression (slots_of program f) (names known) hidden r) (Obeys (choice nothing (expression_order r)) (R k known hidden)) lent s.1 o)
    ok_evaluate (Joined p l r) k m s o n =
        idles (evaluate l ∷ right p r ∷ k) (s.0, kept (expression_order l) (SeesExpression (slots_of program f) (names known) hidden r) (Obeys (expression_order r) (R k known hidden)) lent s.1 o)
    ok_evaluate (expression.Call' l _ row) k m s o n = idles (arguments called l.name [] row ∷ take_back ∷ k) (tt, s, ([], tt, called_row row (R k known hidden) lent o))

    -- ---- calls

    abbrev Sees : {n : _} → Row_of-Arg ℕ n → Type 0
    Sees row = SeesArguments (slots_of program f) (names known) hidden row

    -- what a spawn lends, names stand for
    ok_spawn : (l : ℕ) (ws : List Argument) (x : Destination) (xs lent_names : List ℕ) (k m : List Item) → ((s : Scalar) → x ≡ Some s → (s.depth ≡ depth) × Among lent_names s.slot × IsOpen hidden s.slot) → ((z : ℕ) → Among xs z → Among lent_names z)
        → Passed depth known hidden xs ws → IsFree lent_names lent → Distinct xs → R k known hidden (lent_names ++ lent) → Ok (spawn_call c h l ws x k)
    ok_spawn l ws x xs lent_names k m scalar more_ p free_ single r = (
      record {
        ghosts = record { known = known; hidden = hidden; lent = lent_names ++ lent } ∷ ghosts;
        going = going_plain idle k (record { known = known; hidden = hidden; lent = lent_names ++ lent }) tt r;
        frames = (
          λ access. guards_spawned (Away access) (Taken (lent_stack h x ws) (kept_stack h x ws) access) depth known hidden lent lent_names (named access) (guards access),
          stand,
          frames_less Away (Behind Away depth (lent_stack h x ws) (kept_stack h x ws)) h.references h.references callers ghosts (λ access n e t j q a. elim a [ inl b ↦ b | inr b ↦ absurd (too_far n q b.0) ]) (λ d s q. refl) frames,
        );
        passes = tt;
      },
      record {
        callee = l;
        given = ws;
        is = refl;
        passes = λ access. passes_less (Away access (suc depth)) (Outside u (lent_stack h x ws) access) ws (λ e t j q a o. o.1 (lent_serves access x ws e t j (h.words e t j) q (serves_here access e t j a o.0)))
            (passes_named (Away access) depth known hidden lent xs ws (guards access) p (λ y a. free_ y (more_ y a)) single);
        no_references = λ d s. refl;
      },
      λ e t j i a. (let b = named reads e t j i in (guards writes).free b.0 e t j b.2 (free_ b.0 b.1) b.3 a),
    )
      where
        too_far : (n : ℕ) → n ≤ depth → depth < n → ⊥
        too_far n q b = omega (arith, q, b)

        named : (access : Access) (e t j : ℕ) → Taken (lent_stack h x ws) (kept_stack h x ws) access e t j → (z : ℕ) × Among lent_names z × IsOpen hidden z × StandsFor depth known z e t j
        named access e t j i = elim (taken_true access x ws e t j (h.words e t j) i) [
          | inl a ↦ let b = scalar a.0 a.1 in (a.0.slot, b.1, b.2, inl (a.2 ∙ b.0, a.3))
          | inr a ↦ let b = named_word depth known hidden xs ws e t j p a in (b.0, more_ b.0 b.1, b.2, b.3)
        ]

    spawned_names : (x : ℕ) (s : Scalar) (xs : List ℕ) → IsOpen hidden x → Some (record { depth = depth; slot = x }) ≡ Some s → (s.depth ≡ depth) × Among (x ∷ xs) s.slot × IsOpen hidden s.slot
    spawned_names x s xs o e = subst (λ z. (z.depth ≡ depth) × Among (x ∷ xs) z.slot × IsOpen hidden z.slot) (same e) (refl, inl refl, o)
      where
        same : Some (record { depth = depth; slot = x }) ≡ Some s → record { depth = depth; slot = x } ≡ s
        same e = cc e

    ok_enter : (v : Purpose) (l : ℕ) (ws : List Argument) (k m : List Item) → SeesPurpose hidden v → (passed : List ℕ) → Passed depth known hidden passed ws → Invokes v (onto passed []) (R k known hidden) lent
        → Runs (enter_call w u v l ws m) → Ok (enter_call c h v l ws k)
    ok_enter called l ws k m s xs p i n = record {
      ghosts = ghost ∷ ghosts;
      going = i.2;
      frames = (guards, stand, frames);
      passes = λ access. passes_named (Away access) depth known hidden lent xs ws (guards access) p (λ x a. i.0 x (onto_first xs [] x a)) (distinct_onto xs [] i.1).0;
    }
    ok_enter (spawned None) l ws k m s xs p i n = ok_spawn l ws None xs (onto xs []) k m (λ z e. absurd (none z e)) (λ z a. onto_first xs [] z a) p i.0 (distinct_onto xs [] i.1).0 i.2
      where
        none : (z : Scalar) → None ≡ Some z → ⊥
        none z e = cc e
    ok_enter (spawned (Some x)) l ws k m s xs p i n = ok_held depth x 0 _ _ (free_own x 0 s (i.0 x (inl refl)) writes)
        (λ n. ok_spawn l ws (Some (record { depth = depth; slot = x })) xs (x ∷ onto xs []) k m (λ z e. spawned_names x z (onto xs []) s e) (λ z a. inr (onto_first xs [] z a)) p i.0 (distinct_onto xs [] i.1.1).0 i.2) n

    ok_arguments : {j : _} (v : Purpose) (l : ℕ) (ws : List Argument) (row : Row_of-Arg ℕ j) (k m : List Item) → R (arguments v l ws row ∷ k) known hidden lent → Runs (item_step program page input w u (arguments v l ws row) m) → Ok (item_step program page input c h (arguments v l ws row) k)
    ok_arguments v l ws end_of-Arg k m r n = ok_enter v l ws k m r.0 r.2.0 r.2.1 r.2.2 n
    ok_arguments v l ws (more_of-Arg (arg.Value e) rest) k m r n = idles (evaluate e ∷ pass v l ws rest ∷ k) (
      r.1.0,
      more (expression_order e) (Obeys (row_order rest) (Invokes v (onto r.2.0 (row_names rest)) (R k known hidden))) (R (pass v l ws rest ∷ k) known hidden) lent (λ z o. (r.0, r.1.1, (r.2.0, r.2.1, o))) r.2.2,
    )
    ok_arguments v l ws (more_of-Arg (arg.Slice a) rest) k m r n = ok_slice a.name _ _ r.1.0 (λ q o i n. idles (arguments v l (slice q ∷ ws) rest ∷ k) (r.0, r.1.1, (a.name ∷ r.2.0, (o, r.1.0.open_, r.2.1), r.2.2.1))) n
    ok_arguments v l ws (more_of-Arg (arg.Address x) rest) k m r n = idles (arguments v l (slice (scalar_slice depth x.name) ∷ ws) rest ∷ k) (r.0, r.1.1, (x.name ∷ r.2.0, ((λ e t j o. inl (o.depth, o.slot)), r.1.0, r.2.1), r.2.2.1))

    -- ---- statements

    ok_invoke_call : (e : Expr ℕ) (k m : List Item) → SeesExpression (slots_of program f) (names known) hidden e → Obeys (expression_order e) (R k known hidden) lent → Runs (invoke w u called e (discard ∷ m)) → Ok (invoke c h called e (discard ∷ k))
    ok_invoke_call (expression.Call' l _ row) k m s o n = idles (arguments called l.name [] row ∷ discard ∷ k) (tt, s, ([], tt, called_row row (R k known hidden) lent o))
    ok_invoke_call _ k m s o n = absurd n

    spawn_order_row : (at : ℕ) (x : Option (Mark ℕ)) (call : Call ℕ) (q : List ℕ → Type 0) (l : List ℕ) → Obeys (statement_order (statement.Spawn at x call)) q l
        → Obeys (next (row_order (row_of_call (expression.Call call)).1) (next (destination_order x) (event (spawn_event at (destination_of x ++ row_slices (row_of_call (expression.Call call)).1))))) q l
    spawn_order_row at x call q l h =
        let row = (row_of_call (expression.Call call)).1 in
        let orders : arguments_order call.arguments ≡ row_order row = ap arguments_order (sym (row_of call)) ∙ row_list row in
        let lists : slices call.arguments ≡ row_slices row = ap slices (sym (row_of call)) ∙ slices_list row in
        subst (λ s. Obeys (next (row_order row) (next (destination_order x) (event (spawn_event at (destination_of x ++ s))))) q l) lists
        (subst (λ o. Obeys (next o (next (destination_order x) (event (spawn_event at (destination_of x ++ slices call.arguments))))) q l) orders h)

    sees_destination : (x : Option (Mark ℕ)) → SeesDestination (slots_of program f) (names known) hidden x → SeesPurpose hidden (spawned (destination_slot x))
    sees_destination None s = tt
    sees_destination (Some x) s = s

    ok_invoke_spawn : (at : ℕ) (x : Option (Mark ℕ)) (e : Expr ℕ) (k m : List Item) → SeesDestination (slots_of program f) (names known) hidden x → SeesExpression (slots_of program f) (names known) hidden e
        → Obeys (next (row_order (row_of_call e).1) (next (destination_order x) (event (spawn_event at (destination_of x ++ row_slices (row_of_call e).1))))) (R k known hidden) lent
        → Runs (invoke w u (spawned (destination_slot x)) e m) → Ok (invoke c h (spawned (destination_slot x)) e k)
    ok_invoke_spawn at x (expression.Call' l _ row) k m d s o n = idles (arguments (spawned (destination_slot x)) l.name [] row ∷ k) (sees_destination x d, s, ([], tt, spawned_row row at x (R k known hidden) lent o))
    ok_invoke_spawn at x _ k m d s o n = absurd n

    ok_statement : (s : Stmt ℕ) (k m : List Item) → SeesStatement (slots_of program f) (names known) hidden s → Obeys (statement_order s) (R k known hidden) lent → Runs (statement_step program page input w u s m) → Ok (statement_step program page input c h s k)
    ok_statement statement.Empty k m s o n = idles k o
    ok_statement (statement.Declare row) k m s o n = idles (declare row ∷ k) (s, o)
    ok_statement (statement.Assign (target.Scalar x) None e) k m s o n = idles (evaluate e ∷ assign x.name ∷ k) (s.1, kept (expression_order e) (IsOpen hidden x.name) (Obeys (event (mentions x.name x.at)) (R k known hidden)) lent s.0 o)
    ok_statement (statement.Assign (target.Scalar x) (Some p) e) k m s o n = idles (evaluate e ∷ update x.name p ∷ k) (s.1, kept (expression_order e) (IsOpen hidden x.name) (Obeys (event (mentions x.name x.at)) (R k known hidden)) lent s.0 o)
    ok_statement (statement.Assign (target.Index a place) p e) k m s o n =
        idles (evaluate place ∷ locate a.name p e ∷ k) (s.0.1, more (expression_order place) (Obeys (next (event (mentions a.name a.at)) (expression_order e)) (R k known hidden)) (R (locate a.name p e ∷ k) known hidden) lent (λ z y. (s.0.0, s.1, y)) o)
    ok_statement (statement.Call call) k m s o n = ok_invoke_call (expression.Call call) k m s o n
    ok_statement (statement.Spawn at x call) k m s o n = ok_invoke_spawn at x (expression.Call call) k m s.0 s.1 (spawn_order_row at x call (R k known hidden) lent o) n
    ok_statement (statement.Sync at) k m s o n = record {
      function = f;
      callers = callers;
      ghost = ghost;
      ghosts = ghosts;
      calls_are = refl;
      depth_is = refl;
      guards = guards;
      stand = stand;
      frames = frames;
      plain = tt;
      going = going_plain idle k (record { known = known; hidden = hidden; lent = [] }) tt o;
    }
    ok_statement (IfAlone e z) k m s o n =
        idles (evaluate e ∷ branch z None ∷ k) (s.0, more (expression_order e) (Obeys (choice (statement_order z) nothing) (R k known hidden)) (R (branch z None ∷ k) known hidden) lent (λ l y. (s.1, tt, y)) o)
    ok_statement (IfElse e z y) k m s o n =
        idles (evaluate e ∷ branch z (Some y) ∷ k) (s.0, more (expression_order e) (Obeys (choice (statement_order z) (statement_order y)) (R k known hidden)) (R (branch z (Some y) ∷ k) known hidden) lent (λ l i. (s.1, s.2, i)) o)
    ok_statement (WhileLoop e b) k m s o n = idles (turn (Some e) statement.Empty b ∷ k) (s.0, tt, s.1, o)
    ok_statement (ForLoop first e z b) k m s o n =
        idles (perform first ∷ turn e z b ∷ k) (s.0, more (statement_order first) (Obeys (rounds_order e (next (statement_order b) (statement_order z))) (R k known hidden)) (R (turn e z b ∷ k) known hidden) lent (λ l i. (s.1, s.2, s.3, i)) o)
    ok_statement (statement.Split' whole place l r _ row close) k m s o n =
        idles (evaluate place ∷ part whole.name l.name r.name row ∷ k) (
          s.1,
          more (expression_order place)
              (Obeys (next (event (mentions whole.name whole.at)) (next (event (mentions l.name l.at)) (next (event (mentions r.name r.at)) (next (statements_order row) (next (event (mentions l.name close)) (event (mentions r.name close))))))) (R k known hidden))
              (R (part whole.name l.name r.name row ∷ k) known hidden) lent (λ z y. (s.0, s.2, s.3, y)) o,
        )
    ok_statement (statement.Return at None) k m s o n = idles (exit ∷ k) (to_join (slots_of program f) depth (Chain program callers ghosts) k known hidden [] o)
    ok_statement (statement.Return at (Some e)) k m s o n =
        idles (evaluate e ∷ exit ∷ k) (s, more (expression_order e) (λ z. R k known hidden []) (R (exit ∷ k) known hidden) lent (λ z y. to_join (slots_of program f) depth (Chain program callers ghosts) k known hidden [] y) o)
    ok_statement (statement.Print e) k m s o n = idles (evaluate e ∷ tick ∷ show ∷ k) (s, o)
    ok_statement (statement.Block' _ row) k m s o n = idles (sequence row ∷ k) (s, inl o)

    ok_other : (z : Option (Stmt ℕ)) (k m : List Item) → SeesOther (slots_of program f) (names known) hidden z → Obeys (other_order z) (R k known hidden) lent → Ok (do_other c h z k)
    ok_other None k m s o = idles k o
    ok_other (Some z) k m s o = idles (perform z ∷ k) (s, o)

    -- one turn of a loop, and then the loop again
    ok_turns : (e : Option (Expr ℕ)) (s b : Stmt ℕ) (k : List Item) → SeesOptional (slots_of program f) (names known) hidden e → SeesStatement (slots_of program f) (names known) hidden s → SeesStatement (slots_of program f) (names known) hidden b
        → Obeys (next (next (statement_order b) (statement_order s)) (rounds_order e (next (statement_order b) (statement_order s)))) (R k known hidden) lent → Ok (go_on c h (tick ∷ perform b ∷ perform s ∷ turn e s b ∷ k))
    ok_turns e s b k x y z o =
        let Q = Obeys (rounds_order e (next (statement_order b) (statement_order s))) (R k known hidden) in
        idles (tick ∷ perform b ∷ perform s ∷ turn e s b ∷ k) (
          z,
          more (statement_order b) (Obeys (statement_order s) Q) (R (perform s ∷ turn e s b ∷ k) known hidden) lent
              (λ l i. (y, more (statement_order s) Q (R (turn e s b ∷ k) known hidden) l (λ l i. (x, y, z, i)) i)) o,
        )

    ok_declare : (x : ℕ) (kind : Slot) (first : Option (Expr ℕ)) (rest : List (items.Item ℕ)) (k m : List Item) → IsOpen hidden x → SeesItem (slots_of program f) (names known) hidden kind first → SeesItems (slots_of program f) (names known) hidden rest
        → Obeys (optional_order first) (λ z. (Among z x → ⊥) × Obeys (items_order rest) (R k known hidden) z) lent → Runs (declare_item w u x (extent_of kind) first rest m) → Ok (declare_item c h x (extent_of kind) first rest k)
    ok_declare x slot.Scalar None rest k m p s y o n = ok_write depth x 0 None (pos 0) (declare rest ∷ k) (declare rest ∷ m) (free_own x 0 p o.0) (y, o.1) n
    ok_declare x slot.Scalar (Some e) rest k m p s y o n =
        idles (evaluate e ∷ assign x ∷ declare rest ∷ k) (s, more (expression_order e) (λ z. (Among z x → ⊥) × Obeys (items_order rest) (R k known hidden) z) (R (assign x ∷ declare rest ∷ k) known hidden) lent (λ z i. (p, (i.0, (y, i.1)))) o)
    ok_declare x (slot.Array i) first rest k m p s y o n = by (may_write_all (u.words depth x) i) refl n
      where
        same : (first : Option (Expr ℕ)) → Obeys (optional_order first) (λ z. (Among z x → ⊥) × Obeys (items_order rest) (R k known hidden) z) lent → (Among lent x → ⊥) × Obeys (items_order rest) (R k known hidden) lent
        same None o = o
        same (Some e) o = calm_out (expression_order e) (calm_expression e) (λ z. (Among z x → ⊥) × Obeys (items_order rest) (R k known hidden) z) lent o

        by : (b : Bool) → may_write_all (u.words depth x) i ≡ b → Runs (if b then silent (control (f ∷ callers) account idle (declare rest ∷ m)) (clear_words u depth x i) else stuck)
            → Ok (if may_write_all (h.words depth x) i then silent (control (f ∷ callers) account idle (declare rest ∷ k)) (clear_words h depth x i) else stuck)
        by true q n = let z = same first o in let held = ok_array x i p z.0 q in rw held (stays idle (declare rest ∷ k) (clear_words h depth x i).words tt (y, z.1))
        by false q n = absurd n
    ok_declare x slot.Slice first rest k m p s y o n = absurd n

    -- ---- splits

    ok_split : {i : _} (x l r : ℕ) (whole : Reference) (n : ℕ) (row : Row_of-Stmt ℕ i) (k : List Item) → n ≤ whole.length → ((e t j : ℕ) → Covers whole e t j → StandsFor depth known x e t j)
        → R (part x l r row ∷ k) known hidden lent → At program Away (control (f ∷ callers) account idle (sequence row ∷ k)) (write_parts h depth l r whole n)
    ok_split x l r whole n row k small stands_ g = record {
      ghosts = record { known = split_known depth known hidden x l r n whole small g.1; hidden = x ∷ hidden; lent = lent } ∷ ghosts;
      going = (
        g.2,
        inr (
          record {
            left = record { slot = l; reference = left_part whole n };
            right = record { slot = r; reference = right_part whole n };
            whole = x;
            outer_known = known;
            outer_hidden = hidden;
            known_is = refl;
            hidden_is = refl;
            left_open = g.1.left_open;
            right_open = g.1.right_open;
            covered = split_covered depth known hidden x l r n whole small g.1 stands_ g.0.open_ (guards writes).apart;
            outer_apart = (guards writes).apart;
          },
          g.3.1.1.1,
        ),
      );
      frames = (
        λ access. guards_split depth known hidden x l r n whole small g.1 stands_ (Away access) lent g.0.open_ g.3.0 (guards access),
        stand_split h depth known hidden x l r n whole g.1 stand,
        frames_less Away Away h.references (write_parts h depth l r whole n).references callers ghosts (λ access n e t j q a. a) before frames,
      );
      passes = tt;
    }
      where
        before : (d s : ℕ) → d < depth → (write_parts h depth l r whole n).references d s ≡ h.references d s
        before d s q = let b : (d == depth) ≡ false = other_number d depth (λ e. less d depth q e) in rw b refl
          where
            less : (a b : ℕ) → a < b → a ≡ b → ⊥
            less a b l e = omega (arith, l, e)

    -- the end of a split's block: its whole is open again
    ok_close : (k : List Item) (x : Closing depth known hidden) → Obeys (brace_order x.left.slot x.right.slot) (R k x.outer_known x.outer_hidden) lent → Ok (go_on c h k)
    ok_close k x o = record {
      ghosts = record { known = x.outer_known; hidden = x.outer_hidden; lent = lent } ∷ ghosts;
      going = going_plain idle k (record { known = x.outer_known; hidden = x.outer_hidden; lent = lent }) tt o.1.1;
      frames = (λ access. guards_closed (Away access) depth known hidden lent x o.0 o.1.0 (guards access), stand_closed (h.references depth) depth known hidden x stand, frames);
      passes = tt;
    }

    ok_sequence : {i : _} (row : Row_of-Stmt ℕ i) (k : List Item) → R (sequence row ∷ k) known hidden lent → Ok (item_step program page input c h (sequence row) k)
    ok_sequence end_of-Stmt k r = elim r.1 [ inl o ↦ idles k o | inr o ↦ ok_close k o.0 o.1 ]
    ok_sequence (more_of-Stmt first rest) k r = elim r.1 [
      | inl o ↦ idles (perform first ∷ sequence rest ∷ k) (r.0.0, more (statement_order first) (Obeys (statements_order rest) (R k known hidden)) (R (sequence rest ∷ k) known hidden) lent (λ z y. (r.0.1, inl y)) o)
      | inr o ↦ idles (perform first ∷ sequence rest ∷ k) (
        r.0.0,
        more (statement_order first) (Obeys (next (statements_order rest) (brace_order o.0.left.slot o.0.right.slot)) (R k o.0.outer_known o.0.outer_hidden)) (R (sequence rest ∷ k) known hidden) lent (λ z y. (r.0.1, inr (o.0, y))) o.1,
      )
    ]

    ok_body : (row : List (Stmt ℕ)) (k : List Item) → R (body row ∷ k) known hidden lent → Ok (item_step program page input c h (body row) k)
    ok_body [] k r = idles k r.1
    ok_body (first ∷ rest) k r = idles (perform first ∷ body rest ∷ k) (r.0.0, more (statement_order first) (Obeys (body_order rest) (R k known hidden)) (R (body rest ∷ k) known hidden) lent (λ z y. (r.0.1, y)) r.1)

    ok_declares : (row : List (items.Item ℕ)) (k m : List Item) → R (declare row ∷ k) known hidden lent → Runs (item_step program page input w u (declare row) m) → Ok (item_step program page input c h (declare row) k)
    ok_declares [] k m r n = idles k r.1
    ok_declares (x ∷ rest) k m r n = ok_declare x.name.name x.slot x.first rest k m r.0.0 r.0.1 r.0.2 r.1 n

    ok_fall : (k m : List Item) → R k known hidden lent → Runs (fall_off w u (running_function program page input (f ∷ callers)) m) → Ok (fall_off c h (running_function program page input (f ∷ callers)) k)
    ok_fall k m r n = by (running_function program page input (f ∷ callers)) n
      where
        gives_ : (b : Bool) → Ok (if b then hold c h (pos 0) k else go_on c h k)
        gives_ true = holding (pos 0) k r
        gives_ false = idles k r

        by : (z : Option (Function ℕ)) → Runs (fall_off w u z m) → Ok (fall_off c h z k)
        by None n = absurd n
        by (Some g) n = gives_ g.gives

    ok_take : (z : Hand) (k m : List Item) → R k known hidden lent → Runs (take_value w u z m) → Ok (take_value c h z k)
    ok_take (returned (Some v)) k m r n = holding v k r
    ok_take (returned None) k m r n = absurd n
    ok_take idle k m r n = absurd n
    ok_take (holds v) k m r n = absurd n
    ok_take (entering l ws) k m r n = absurd n
    ok_take (framing l ws) k m r n = absurd n

    ok_drop : (z : Hand) (k m : List Item) → R k known hidden lent → Runs (drop_value w u z m) → Ok (drop_value c h z k)
    ok_drop (returned v) k m r n = idles k r
    ok_drop idle k m r n = absurd n
    ok_drop (holds v) k m r n = absurd n
    ok_drop (entering l ws) k m r n = absurd n
    ok_drop (framing l ws) k m r n = absurd n

    ok_input : (v : Option ℤ) (k : List Item) → R k known hidden lent → Ok (give_input program page input c h v k)
    ok_input None k r = tt
    ok_input (Some v) k r = holding v k r

    module _ (plain : IsPlain hand) where
      plain_at : (k : List Item) → R k known hidden lent → At program Away (control (f ∷ callers) account hand k) h
      plain_at k r = record { ghosts = ghost ∷ ghosts; going = going_plain hand k ghost plain r; frames = (guards, stand, frames); passes = no_passes hand plain }

      -- a completed `return` leaves the items up to the join
      ok_leave : (k : List Item) → AtJoin (Chain program callers ghosts) k → Ok (leave c h (rest_at_join k))
      ok_leave [] a = absurd a
      ok_leave (join ∷ []) a = absurd a
      ok_leave (join ∷ end ∷ k) a = plain_at (join ∷ end ∷ k) a
      ok_leave (join ∷ _ ∷ k) a = absurd a
      ok_leave (end ∷ k) a = absurd a
      ok_leave (_ ∷ k) a = ok_leave k a

      ok_join : (k : List Item) → AtJoin (Chain program callers ghosts) (join ∷ k) → Synced program Away h depth (control (f ∷ callers) account hand k)
      ok_join [] a = absurd a
      ok_join (end ∷ k) a = record {
        function = f;
        callers = callers;
        ghost = ghost;
        ghosts = ghosts;
        calls_are = refl;
        depth_is = refl;
        guards = guards;
        stand = stand;
        frames = frames;
        plain = plain;
        going = by hand plain;
      }
        where
          by : (z : Hand) → IsPlain z → Going program (f ∷ callers) (record { known = known; hidden = hidden; lent = [] } ∷ ghosts) z (end ∷ k)
          by idle p = a
          by (holds v) p = a
          by (returned v) p = a
          by (entering l ws) p = absurd p
          by (framing l ws) p = absurd p
      ok_join (_ ∷ k) a = absurd a

      within : (r : Reference) (j : ℕ) → j < r.length → Covers r r.depth r.slot (r.start + j)
      within r j l = record { depth = refl; slot = refl; from = omega arith; to = omega (arith, l) }

      pub ok_item : (i : Item) (k m : List Item) → StoreFits program f depth u i → R (i ∷ k) known hidden lent → Runs (item_step program page input w u i m) → Ok (item_step program page input c h i k)
      ok_item (evaluate e) k m s r n = ok_evaluate e k m r.0 r.1 n
      ok_item (right o e) k m s r n = ok_value _ _ (λ v n. idles (evaluate e ∷ apply o v ∷ k) (r.0, r.1)) n
      ok_item (apply o v) k m s r n = ok_value _ _ (λ a n. ok_result o (binary_value o v a) _ _ (λ b n. holding b k r) n) n
      ok_item (prefix o) k m s r n = ok_value _ _ (λ v n. ok_some (unary_value o v) _ _ (λ b n. holding b k r) n) n
      ok_item (both e) k m s r n = ok_value _ _ (λ v n. ok_if (is_zero v) _ _ _ _ (λ q n. holding v (truth ∷ k) r.1.0) (λ n. idles (evaluate e ∷ truth ∷ k) (r.0, r.1.1)) n) n
      ok_item (either e) k m s r n = ok_value _ _ (λ v n. ok_if (is_zero v) _ _ _ _ (λ q n. idles (evaluate e ∷ truth ∷ k) (r.0, r.1.1)) (λ n. holding v (truth ∷ k) r.1.0) n) n
      ok_item truth k m s r n = ok_value _ _ (λ v n. holding _ k r) n
      ok_item (element x) k m s r n = ok_value _ _ (λ v n. ok_slice x _ _ r.0 (λ z q l n. ok_if (is_index v z.length) _ _ _ _
          (λ e n. ok_word z.depth z.slot (z.start + natural v) _ _ ((guards reads).free x z.depth z.slot (z.start + natural v) r.0.open_ r.1.0 (q z.depth z.slot (z.start + natural v) (within z (natural v) (index_within v z.length e)))) (λ a n. holding a k r.1.1) n) (λ n. tt) n) n) n
      ok_item read k m s r n = ok_value _ _ (λ v n. ok_if (is_index v (length input)) _ _ _ _ (λ e n. ok_input (slice_get input (natural v)) k r) (λ n. tt) n) n
      ok_item (arguments v l ws row) k m s r n = ok_arguments v l ws row k m r n
      ok_item (pass v l ws row) k m s r n = ok_value _ _ (λ a n. idles (arguments v l (word a ∷ ws) row ∷ k) (r.0, r.1, (r.2.0, r.2.1, r.2.2))) n
      ok_item take_back k m s r n = ok_take hand k m r n
      ok_item discard k m s r n = ok_drop hand k m r n
      ok_item (deliver x) k m s r n = absurd r
      ok_item (perform z) k m s r n = ok_statement z k m r.0 r.1 n
      ok_item (sequence row) k m s r n = ok_sequence row k r
      ok_item (body row) k m s r n = ok_body row k r
      ok_item (declare row) k m s r n = ok_declares row k m r n
      ok_item (assign x) k m s r n = ok_value _ _ (λ v n. ok_write depth x 0 None v k m (free_own x 0 r.0 r.1.0) r.1.1 n) n
      ok_item (update x o) k m s r n = ok_value _ _ (λ v n. ok_write depth x 0 (Some o) v k m (free_own x 0 r.0 r.1.0) r.1.1 n) n
      ok_item (locate x o e) k m s r n = ok_value _ _ (λ v n. ok_slice x _ _ r.0 (λ z q l n. ok_if (is_index v z.length) _ _ _ _
          (λ b n. idles (evaluate e ∷ store x (natural v) o ∷ k) (r.1, calm_more (expression_order e) (calm_expression e) (R k known hidden) (R (store x (natural v) o ∷ k) known hidden) lent (λ y. (r.0, (r.2.0, y))) r.2.1)) (λ n. tt) n) n) n
      ok_item (store x j o) k m s r n = ok_value _ _ (λ v n. ok_slice x _ _ r.0 (λ z q l n. ok_write z.depth z.slot (z.start + j) o v k m
          (λ access. (guards access).free x z.depth z.slot (z.start + j) r.0.open_ r.1.0 (q z.depth z.slot (z.start + j) (within z j (subst (λ y. j < y) (sym l) s)))) r.1.1 n) n) n
      ok_item (branch z o) k m s r n = ok_value _ _ (λ v n. ok_if (is_zero v) _ _ _ _ (λ q n. ok_other o k m r.1 r.2.1) (λ n. idles (perform z ∷ k) (r.0, r.2.0)) n) n
      ok_item (turn (Some t) z b) k m s r n =
          idles (evaluate t ∷ test t z b ∷ k) (
            r.0,
            more (expression_order t) (λ y. R k known hidden y × Obeys (next (statement_order b) (statement_order z)) (Obeys (rounds_order (Some t) (next (statement_order b) (statement_order z))) (R k known hidden)) y)
                (R (test t z b ∷ k) known hidden) lent (λ y g. (r.0, r.1, r.2, g.0, g.1)) (round (expression_order t) (next (statement_order b) (statement_order z)) (R k known hidden) lent r.3),
          )
      ok_item (turn None z b) k m s r n = ok_turns None z b k r.0 r.1 r.2 (endless (next (statement_order b) (statement_order z)) (R k known hidden) lent r.3)
      ok_item (test t z b) k m s r n = ok_value _ _ (λ v n. ok_if (is_zero v) _ _ _ _ (λ q n. idles k r.3) (λ n. ok_turns (Some t) z b k r.0 r.1 r.2 r.4) n) n
      ok_item (part x l y row) k m s r n = ok_value _ _ (λ v n. ok_slice x _ _ r.0 (λ z q e n. ok_if (is_split v z.length) _ _ _ _
          (λ b n. ok_there l _ _ (λ n. ok_there y _ _ (λ n. ok_split x l y z (natural v) row k (split_within v z.length b) q r) n) n) (λ n. tt) n) n) n
        where
          ok_there : (s : ℕ) (p q : Move) → (Runs q → Ok p) → Runs (when_writable (u.references depth s) q) → Ok (when_writable (h.references depth s) p)
          ok_there s p q = ok_writable (h.references depth s) (u.references depth s) p q (λ e. ap may_write (rows s) ∙ e)
      ok_item tick k m s r n = plain_at k r
      ok_item show k m s r n = ok_value _ _ (λ v n. idles k r) n
      ok_item exit k m s r n = ok_leave k r
      ok_item fall k m s r n = ok_fall k m r n
      ok_item join k m s r n = ok_join k r
      ok_item end k m s r n = absurd r
