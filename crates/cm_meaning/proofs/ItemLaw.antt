-- Each item of a running function leads from a typed state to a typed one, or the run ends by a trap.
use Rattle.std.proofs.Common.{◌≡◌, ℕ, zero, suc, ◌+◌, ◌<◌, ◌≤◌, List, [], ◌∷◌, length, Option, None, Some, refl, sym, ap, ◌∙◌, subst, arith, inl, inr, option_map}
use Rattle.std.proofs.lemmas.Bool.{ltb-true, leb-true}
use Rattle.std.specs.Prelude.{Bool, true, false, if◌then◌else◌, ℤ, pos, negsuc, slice_get, is_some}
use Rattle.cm_syntax.specs.declared.expr.Op.{Op}
use Rattle.cm_syntax.specs.declared.expr.Op.TheVariants as op
use Rattle.cm_syntax.specs.declared.expr.Expr.{Expr}
use Rattle.cm_syntax.specs.declared.expr.Expr.TheVariants as expression
use Rattle.cm_syntax.specs.declared.expr.Arg.TheVariants as arg
use Rattle.cm_syntax.specs.declared.expr.Call.{Row_of-Arg, end_of-Arg, more_of-Arg}
use Rattle.cm_syntax.specs.declared.expr.Mark.{Mark}
use Rattle.cm_syntax.specs.declared.stmt.Slot.{Slot}
use Rattle.cm_syntax.specs.declared.stmt.Slot.TheVariants as slot
use Rattle.cm_syntax.specs.Extent.{extent_of, extent_at}
use Rattle.cm_syntax.specs.declared.stmt.Item as items
use Rattle.cm_syntax.specs.declared.stmt.Target.TheVariants as target
use Rattle.cm_syntax.specs.declared.stmt.Stmt.{Stmt, Row_of-Stmt, end_of-Stmt, more_of-Stmt}
use Rattle.cm_syntax.specs.declared.stmt.Stmt.TheVariants as statement
use Rattle.cm_syntax.specs.declared.stmt.Function.{Function}
use Rattle.cm_syntax.specs.declared.stmt.Program.{Program}
use Rattle.cm_syntax.specs.Shape.{Joined, Prefixed, Element, InputAt, IfAlone, IfElse, WhileLoop, ForLoop}
use Rattle.cm_syntax.specs.Trap as kind
use Rattle.cm_syntax.specs.Fault.{parameter_slots}
use Rattle.cm_syntax.specs.Label.{traps, stuck}
use Rattle.cm_syntax.specs.Operator.{is_zero, natural, binary_value, divides, unary_value}
use Rattle.cm_syntax.specs.Cell.{Cell, present, may_write}
use Rattle.cm_syntax.specs.Stack.{Reference, Stack, Destination, Argument, word, slice, write_word, clear_words, write_reference, write_parts, may_write_all}
use Rattle.cm_syntax.specs.Rest.{Purpose, called, spawned, Item, evaluate, right, apply, prefix, both, either, truth, element, read, arguments, pass, take_back, discard, deliver, perform, sequence, body, declare, assign, update, locate, store, branch, turn, test, part, tick, show, exit, fall, join, end, Hand, idle, holds, returned, entering, framing, Control, control}
use Rattle.cm_syntax.specs.Step.{Move, inside, rest_at_join, scalar_slice, when_readable, when_writable, when_value, when_result, when_some, go_on, hold, write_step, leave, is_index, is_split, slice_in, slots_in, destination_slot, invoke, enter_call, take_value, drop_value, deliver_value, declare_item, do_other, fall_off, when_slice, give_input, evaluate_step, statement_step, item_step, step}
use Rattle.cm_meaning.specs.Elision.{serial}
use Rattle.cm_syntax.specs.ParseTree.{is_unary}
use Rattle.cm_syntax.proofs.AccessLaw.{writes_on}
use Rattle.cm_meaning.specs.Typing.{is_arithmetic, IsUpdate, GivesWanted, IsRow, IsSetScalar, IsSetRow, parameters_in, TypedExpression, TypedArguments, TypedInvocation, TypedItem, TypedItems, TypedDestination, set_by_items, set_behind, TypedStatement, TypedSequence}
use Rattle.cm_meaning.specs.TypedState.{IsPresent, row_words, IsSet, AreSet, AtHand, nothing, value, back, at_hand, HasComeBack, at_join, slots_at, IsReference, FitsParameter, HasNoStore, row_length, reference_length, behind_call, FitsPurpose, FitsDelivery, TypedOther, TypedLoop, FitsCall, FitsPass, Leaving, Inner, Outer, Calling, Ready, TypedState, KeepsTyped}
use Rattle.cm_meaning.proofs.WeakeningLaw.{IsAmong, among_one_more, among_its_behind, more_statement}
use Rattle.cm_meaning.proofs.GrowthLaw.{grows_before, sets_move, more_loop, reference_moves, moves, outer_moves}
use Rattle.cm_meaning.proofs.TypedFramesLaw.{IsPlain, state, running, Frames, Wider, present_value, present_held, only_zero, wider_grows, wider_frames, written_wider, cleared_wider, written_there, cleared_there, one_more_set, scalar_set, scalar_present, array_set, reference_grows, reference_sets, reference_frames, left_part, right_part, left_reference, right_reference, slots_last}
use Rattle.cm_meaning.proofs.ArgumentLaw.{gives_any, gives_back, comes_back, dropped_all, value_argument, slice_argument, address_argument, no_more}

-- a word that is updated has a value
abbrev CanWrite : Option Op → Cell ℤ → Type 0
CanWrite None c = may_write c ≡ true
CanWrite (Some o) c = (is_arithmetic o ≡ true) × IsPresent c

can_write : (o : Option Op) (c : Cell ℤ) → IsUpdate o → IsPresent c → CanWrite o c
can_write None c u p = present_held c p
can_write (Some o) c u p = (u, p)

pub index_within : (v : ℤ) (n : ℕ) → is_index v n ≡ true → natural v < n
index_within (pos m) n e = ltb-true m n e
index_within (negsuc m) n e = cc e

pub split_within : (v : ℤ) (n : ℕ) → is_split v n ≡ true → natural v ≤ n
split_within (pos m) n e = leb-true m n e
split_within (negsuc m) n e = cc e

module _ (program : Program) (page : ℕ) (input : List ℤ) (gives : Bool) where
  -- a step as the elision takes it
  abbrev pub elided : Stack → Move → Move
  elided = serial Control Stack Destination (step program page input) inside

  module _ (f : ℕ) (calls : List ℕ) (account : ℕ) (hand : Hand) (rest : List Item) (h : Stack) (frames : Frames program (f ∷ calls) h)
      (function : Function ℕ) (is : slice_get program.functions f ≡ Some function) (set : List ℕ) (are : AreSet h (length calls) function.slots set) where
    -- the state, what its step gives, and what fits the frame
    abbrev c : Control
    c = control (f ∷ calls) account hand rest

    abbrev Ok : Move → Type 0
    Ok m = KeepsTyped program gives (elided h m)

    abbrev Fits : Stack → List ℕ → AtHand → List Item → Type 0
    Fits g = Inner program g function (f ∷ calls) (length calls) (Outer program g gives calls (back function.gives))

    -- ---- to other rests

    goes : (z : Hand) (k : List Item) → IsPlain z → Fits h set (at_hand z) k → TypedState program gives (control (f ∷ calls) account z k) h
    goes z k p i = state program gives (f ∷ calls) account z k h frames (running program gives (f ∷ calls) h z k p (function, is, set, are, i))

    idles : (k : List Item) → Fits h set nothing k → Ok (go_on c h k)
    idles k i = goes idle k tt i

    holding : (v : ℤ) (k : List Item) → Fits h set value k → Ok (hold c h v k)
    holding v k i = goes (holds v) k tt i

    -- to another stack on which more is set
    puts : (g : Stack) (more : List ℕ) (k : List Item) → Wider (length (f ∷ calls)) h g → AreSet g (length calls) function.slots more → Fits h more nothing k
        → TypedState program gives (control (f ∷ calls) account idle k) g
    puts g more k w now i =
        let grown = wider_grows (length (f ∷ calls)) (length (f ∷ calls)) h g w in
        let inner = moves program h g function (f ∷ calls) (length calls) (Outer program h gives calls (back function.gives)) (Outer program g gives calls (back function.gives))
        grown.words (λ r. outer_moves program h g gives calls (back function.gives) r (grows_before (length calls) h g grown)) k nothing more more (λ x d. d) (inr (λ s. w.references (length calls) s)) i in
        state program gives (f ∷ calls) account idle k g (wider_frames program (f ∷ calls) h g w frames) (running program gives (f ∷ calls) g idle k tt (function, is, more, now, inner))

    own : length calls < length (f ∷ calls)
    own = omega arith

    kept_sets : (g : Stack) → Wider (length (f ∷ calls)) h g → AreSet g (length calls) function.slots set
    kept_sets g w = sets_move h g (length (f ∷ calls)) (length calls) function.slots set own (wider_grows (length (f ∷ calls)) (length (f ∷ calls)) h g w) are

    -- ---- what a step needs is there

    ok_present : {A : Type 0} (y : Cell A) (m : A → Move) → IsPresent y → ((v : A) → y ≡ present v → Ok (m v)) → Ok (when_readable y m)
    ok_present y m p g = let v = present_value y p in subst (λ z. Ok (when_readable z m)) (sym v.1) (g v.0 v.1)

    ok_held : {A : Type 0} (y : Cell A) (m : Move) → may_write y ≡ true → Ok m → Ok (when_writable y m)
    ok_held y m e g = subst Ok (sym (writes_on y m e)) g

    ok_value : (z : Hand) (m : ℤ → Move) → at_hand z ≡ value → ((v : ℤ) → Ok (m v)) → Ok (when_value z m)
    ok_value (holds v) m e g = g v
    ok_value idle m e g = cc e
    ok_value (returned v) m e g = cc e
    ok_value (entering l ws) m e g = cc e
    ok_value (framing l ws) m e g = cc e

    ok_if : (q : Bool) (m n : Move) → (q ≡ true → Ok m) → Ok n → Ok (if q then m else n)
    ok_if true m n g l = g refl
    ok_if false m n g l = l

    ok_divided : (q : Bool) (o : Op) (w : ℤ) (m : ℤ → Move) → divides o ≡ true → Ok (m w) → Ok (when_result o (if q then None else Some w) m)
    ok_divided true o w m e g = by (divides o) e
      where
        by : (q : Bool) → q ≡ true → Ok (if q then traps kind.Divide else stuck)
        by true e = tt
        by false e = cc e
    ok_divided false o w m e g = g

    ok_result : (o : Op) (a b : ℤ) (m : ℤ → Move) → is_arithmetic o ≡ true → ((w : ℤ) → Ok (m w)) → Ok (when_result o (binary_value o a b) m)
    ok_result op.Div a b m e g = ok_divided (is_zero b) op.Div _ m refl (g _)
    ok_result op.Rem a b m e g = ok_divided (is_zero b) op.Rem _ m refl (g _)
    ok_result op.Neg a b m e g = cc e
    ok_result op.Not a b m e g = cc e
    ok_result op.Flip a b m e g = cc e
    ok_result op.Both a b m e g = cc e
    ok_result op.Either a b m e g = cc e
    ok_result _ a b m e g = g _

    ok_some : (o : Op) (a : ℤ) (m : ℤ → Move) → is_unary o ≡ true → ((w : ℤ) → Ok (m w)) → Ok (when_some (unary_value o a) m)
    ok_some op.Neg a m e g = g _
    ok_some op.Not a m e g = g _
    ok_some op.Flip a m e g = g _
    ok_some _ a m e g = cc e

    -- ---- slices

    slots_top : slots_at program (f ∷ calls) (length calls) ≡ function.slots
    slots_top = slots_last program f calls ∙ ap slots_in is

    own_reference : (a n : ℕ) → n ≤ row_words (slice_get function.slots a) → ((i : ℕ) → i < n → IsPresent (h.words (length calls) a i))
        → IsReference program h (f ∷ calls) (record { depth = length calls; slot = a; start = 0; length = n })
    own_reference a n l p = record { live = own; within = subst (λ z. 0 + n ≤ row_words (slice_get z a)) (sym slots_top) (omega (arith, l)); set = λ i m o. p i (omega (arith, o)) }

    scalar_reference : (x : ℕ) → IsSetScalar program.functions function.slots set x → IsReference program h (f ∷ calls) (scalar_slice (length calls) x)
    scalar_reference x t = own_reference x 1 (subst (λ z. 1 ≤ row_words z) (sym t.1) (omega arith)) (only_zero (λ i. IsPresent (h.words (length calls) x i)) (scalar_present h (length calls) x (slice_get function.slots x) t.1 (are x t.0)))

    ok_slice : (a : ℕ) (m : Reference → Move) → IsSetRow program.functions function.slots set a
        → ((r : Reference) → IsReference program h (f ∷ calls) r → r.depth ≤ length calls → r.length ≡ row_length h (length calls) a (slice_get function.slots a) → Ok (m r)) → Ok (when_slice program page input c h a m)
    ok_slice a m t g = subst (λ z. Ok (slice_in (f ∷ calls) h (extent_at (slots_in z) a) a m)) (sym is) (by (slice_get function.slots a) refl (are a t.0) t.1 g)
      where
        by : (z : Option Slot) → slice_get function.slots a ≡ z → IsSet h (length calls) a z → IsRow z
            → ((r : Reference) → IsReference program h (f ∷ calls) r → r.depth ≤ length calls → r.length ≡ row_length h (length calls) a z → Ok (m r)) → Ok (slice_in (f ∷ calls) h (option_map extent_of z) a m)
        by None e s row g = absurd row
        by (Some slot.Scalar) e s row g = absurd row
        by (Some (slot.Array n)) e s row g = g _ (own_reference a n (subst (λ z. n ≤ row_words z) (sym e) (omega arith)) s) (omega arith) refl
        by (Some slot.Slice) e s row g = ok_present (h.references (length calls) a) m s (λ r here. let x = frames.refers (length calls) a r here in g r x.1 x.0 (ap reference_length (sym here)))

    -- ---- what is written

    ok_write : (d s i : ℕ) (o : Option Op) (v : ℤ) (k : List Item) → CanWrite o (h.words d s i) → ((w : ℤ) → TypedState program gives (control (f ∷ calls) account idle k) (write_word h d s i w)) → Ok (write_step c h d s i o v k)
    ok_write d s i None v k w g = ok_held (h.words d s i) _ w (g v)
    ok_write d s i (Some o) v k w g = ok_held (h.words d s i) _ (present_held _ w.1) (ok_present (h.words d s i) _ w.1 (λ old e. ok_result o old v _ w.0 g))

    -- a word of a live frame
    writes : (d s j : ℕ) (v : ℤ) (k : List Item) → d ≤ length calls → Fits h set nothing k → TypedState program gives (control (f ∷ calls) account idle k) (write_word h d s j v)
    writes d s j v k l i = let w = written_wider (length (f ∷ calls)) h d s j v (omega (arith, l)) in puts (write_word h d s j v) set k w (kept_sets (write_word h d s j v) w) i

    -- a scalar of the running frame, which is set then
    sets : (x : ℕ) (v : ℤ) (k : List Item) → slice_get function.slots x ≡ Some slot.Scalar → Fits h (x ∷ set) nothing k → TypedState program gives (control (f ∷ calls) account idle k) (write_word h (length calls) x 0 v)
    sets x v k e i =
        let g = write_word h (length calls) x 0 v in
        let w = written_wider (length (f ∷ calls)) h (length calls) x 0 v own in
        puts g (x ∷ set) k w (one_more_set g (length calls) function.slots set x (scalar_set g (length calls) x (slice_get function.slots x) e (written_there h (length calls) x 0 v)) (kept_sets g w)) i

    -- an array of the running frame
    clears : (x n : ℕ) (k : List Item) → slice_get function.slots x ≡ Some (slot.Array n) → Fits h (x ∷ set) nothing k → TypedState program gives (control (f ∷ calls) account idle k) (clear_words h (length calls) x n)
    clears x n k e i =
        let g = clear_words h (length calls) x n in
        let w = cleared_wider (length (f ∷ calls)) h (length calls) x n own in
        puts g (x ∷ set) k w (one_more_set g (length calls) function.slots set x (array_set g (length calls) x n (slice_get function.slots x) e (cleared_there h (length calls) x n)) (kept_sets g w)) i

    all_held : (x n : ℕ) → may_write_all (h.words (length calls) x) n ≡ true
    all_held x zero = refl
    all_held x (suc n) = let one = frames.words (length calls) x n own in rw one (all_held x n)

    -- ---- calls

    -- a call whose arguments are all known
    calling : (l : ℕ) (ws : List Argument) (k : List Item) → FitsCall program h function.slots (f ∷ calls) set (slice_get program.functions l) ws end_of-Arg
        → ((callee : Function ℕ) → slice_get program.functions l ≡ Some callee → Outer program h gives (f ∷ calls) (back callee.gives) k) → TypedState program gives (control (f ∷ calls) account (entering l ws) k) h
    calling l ws k t o = state program gives (f ∷ calls) account (entering l ws) k h frames (by (slice_get program.functions l) refl t)
      where
        by : (z : Option (Function ℕ)) → slice_get program.functions l ≡ z → FitsCall program h function.slots (f ∷ calls) set z ws end_of-Arg → Calling program h gives (f ∷ calls) l ws k
        by None e t = absurd t.0
        by (Some callee) e t =
            let few = no_more program h (f ∷ calls) ws (parameter_slots callee) t.1 in
            let many = dropped_all (parameter_slots callee) (length ws) t.2 in
            (callee, e, t.1, omega (arith, few, many), o callee e)

    -- the rest of a caller
    waits : (a : AtHand) (k : List Item) → Fits h set a k → Outer program h gives (f ∷ calls) a k
    waits a k i = (function, is, set, are, i)

    enters : (u : Purpose) (l : ℕ) (ws : List Argument) (k : List Item) → FitsPurpose function.slots u → FitsCall program h function.slots (f ∷ calls) set (slice_get program.functions l) ws end_of-Arg
        → Fits h set (behind_call u (slice_get program.functions l)) k → Ok (enter_call c h u l ws k)
    enters called l ws k p t i = calling l ws k t (λ callee e. waits (back callee.gives) k (subst (λ z. Fits h set (behind_call called z) k) e i))
    enters (spawned None) l ws k p t i = calling l ws (deliver None ∷ k) t (λ callee e. waits (back callee.gives) (deliver None ∷ k) (tt, tt, i))
    enters (spawned (Some x)) l ws k p t i = ok_held (h.words (length calls) x 0) _ (frames.words (length calls) x 0 own)
        (calling l ws (deliver destination ∷ k) t (λ callee e. waits (back callee.gives) (deliver destination ∷ k) (tt, (refl, p), i)))
      where
        destination : Destination
        destination = Some (record { depth = length calls; slot = x })

    ok_pass : {n : _} (u : Purpose) (l : ℕ) (ws : List Argument) (row : Row_of-Arg ℕ n) (k : List Item) → FitsPurpose function.slots u → FitsPass program h function.slots (f ∷ calls) set (slice_get program.functions l) ws row
        → Fits h set (behind_call u (slice_get program.functions l)) k → (v : ℤ) → Ok (go_on c h (arguments u l (word v ∷ ws) row ∷ k))
    ok_pass u l ws row k p t i v = idles (arguments u l (word v ∷ ws) row ∷ k) (p, (t.0, (subst (FitsParameter program h (f ∷ calls) (word v)) (sym t.2) tt, t.1), t.3), i)

    ok_arguments : {n : _} (u : Purpose) (l : ℕ) (ws : List Argument) (row : Row_of-Arg ℕ n) (k : List Item) → FitsPurpose function.slots u → FitsCall program h function.slots (f ∷ calls) set (slice_get program.functions l) ws row
        → Fits h set (behind_call u (slice_get program.functions l)) k → Ok (item_step program page input c h (arguments u l ws row) k)
    ok_arguments u l ws end_of-Arg k p t i = enters u l ws k p t i
    ok_arguments u l ws (more_of-Arg (arg.Value e) row) k p t i =
        let a = value_argument program.functions function.slots set (parameters_in (slice_get program.functions l)) (length ws) row e _ refl t.2 in
        idles (evaluate e ∷ pass u l ws row ∷ k) (a.0, (refl, p, (t.0, t.1, a.1.0, a.1.1), i))
    ok_arguments u l ws (more_of-Arg (arg.Slice x) row) k p t i =
        let a = slice_argument program.functions function.slots set (parameters_in (slice_get program.functions l)) (length ws) row x _ refl t.2 in
        ok_slice x.name _ a.0 (λ r q d e. idles (arguments u l (slice r ∷ ws) row ∷ k) (p, (t.0, (subst (FitsParameter program h (f ∷ calls) (slice r)) (sym a.1.0) q, t.1), a.1.1), i))
    ok_arguments u l ws (more_of-Arg (arg.Address x) row) k p t i =
        let a = address_argument program.functions function.slots set (parameters_in (slice_get program.functions l)) (length ws) row x _ refl t.2 in
        let r = scalar_slice (length calls) x.name in
        idles (arguments u l (slice r ∷ ws) row ∷ k) (p, (t.0, (subst (FitsParameter program h (f ∷ calls) (slice r)) (sym a.1.0) (scalar_reference x.name a.0), t.1), a.1.1), i)

    -- a call has no argument at first
    calls_first : {n : _} (l : ℕ) (wanted : Bool) (row : Row_of-Arg ℕ n) → GivesWanted wanted (slice_get program.functions l) → TypedArguments program.functions function.slots set (parameters_in (slice_get program.functions l)) row
        → FitsCall program h function.slots (f ∷ calls) set (slice_get program.functions l) [] row
    calls_first l wanted row g t = (gives_any (slice_get program.functions l) wanted g, tt, t)

    -- ---- what came back

    ok_take : (z : Hand) (k : List Item) → at_hand z ≡ back true → Fits h set value k → Ok (take_value c h z k)
    ok_take (returned (Some v)) k e i = holding v k i
    ok_take (returned None) k e i = absurd (by e)
      where
        by : back false ≡ back true → ⊥
        by e = cc e
    ok_take idle k e i = cc e
    ok_take (holds v) k e i = cc e
    ok_take (entering l ws) k e i = cc e
    ok_take (framing l ws) k e i = cc e

    ok_drop : (z : Hand) (k : List Item) → HasComeBack (at_hand z) → Fits h set nothing k → Ok (drop_value c h z k)
    ok_drop (returned v) k e i = idles k i
    ok_drop idle k e i = absurd e
    ok_drop (holds v) k e i = absurd e
    ok_drop (entering l ws) k e i = absurd e
    ok_drop (framing l ws) k e i = absurd e

    ok_deliver : (z : Hand) (x : Destination) (k : List Item) → HasComeBack (at_hand z) → FitsDelivery function.slots (length calls) x → Fits h set nothing k → Ok (deliver_value c h z x k)
    ok_deliver (returned v) None k e t i = idles k i
    ok_deliver (returned None) (Some x) k e t i = idles k i
    ok_deliver (returned (Some v)) (Some x) k e t i = ok_write x.depth x.slot 0 None v k (frames.words x.depth x.slot 0 (let d = t.0 in omega (arith, d))) (λ w. writes x.depth x.slot 0 w k (let d = t.0 in omega (arith, d)) i)
    ok_deliver idle x k e t i = absurd e
    ok_deliver (holds v) x k e t i = absurd e
    ok_deliver (entering l ws) x k e t i = absurd e
    ok_deliver (framing l ws) x k e t i = absurd e

    -- ---- expressions

    ok_evaluate : (e : Expr ℕ) (k : List Item) → TypedExpression program.functions function.slots set e → Fits h set value k → Ok (evaluate_step program page input c h e k)
    ok_evaluate (expression.Number n) k t i = holding n k i
    ok_evaluate (expression.Scalar x) k t i = ok_present (h.words (length calls) x.name 0) _ (scalar_present h (length calls) x.name (slice_get function.slots x.name) t.1 (are x.name t.0)) (λ v e. holding v k i)
    ok_evaluate (Element a place) k t i = idles (evaluate place ∷ element a.name ∷ k) (t.1, (refl, t.0, i))
    ok_evaluate (expression.Len a) k t i = ok_slice a.name _ t (λ r q d e. holding (pos r.length) k i)
    ok_evaluate (InputAt place) k t i = idles (evaluate place ∷ read ∷ k) (t, (refl, i))
    ok_evaluate expression.Inputs k t i = holding (pos (length input)) k i
    ok_evaluate (Prefixed o e) k t i = idles (evaluate e ∷ prefix o ∷ k) (t.1, (refl, t.0, i))
    ok_evaluate (Joined op.Both l r) k t i = idles (evaluate l ∷ both r ∷ k) (t.1, (refl, t.2, i))
    ok_evaluate (Joined op.Either l r) k t i = idles (evaluate l ∷ either r ∷ k) (t.1, (refl, t.2, i))
    ok_evaluate (Joined op.Neg l r) k t i = let e = t.0 in cc e
    ok_evaluate (Joined op.Not l r) k t i = let e = t.0 in cc e
    ok_evaluate (Joined op.Flip l r) k t i = let e = t.0 in cc e
    ok_evaluate (Joined o l r) k t i = idles (evaluate l ∷ right o r ∷ k) (t.1, (refl, refl, t.2, i))
    ok_evaluate (expression.Call' l _ row) k t i = idles (arguments called l.name [] row ∷ take_back ∷ k) (tt, calls_first l.name true row t.0 t.1, (gives_back (slice_get program.functions l.name) t.0, i))

    ok_invoke : (u : Purpose) (e : Expr ℕ) (wanted : Bool) (k : List Item) → FitsPurpose function.slots u → TypedInvocation program.functions function.slots set wanted e
        → ((l : ℕ) → GivesWanted false (slice_get program.functions l) → Fits h set (behind_call u (slice_get program.functions l)) k) → Ok (invoke c h u e k)
    ok_invoke u (expression.Call' l _ row) wanted k p t i = idles (arguments u l.name [] row ∷ k) (p, calls_first l.name wanted row t.0 t.1, i l.name (gives_any (slice_get program.functions l.name) wanted t.0))
    ok_invoke u _ wanted k p t i = absurd t

    -- ---- statements

    more_set : (less more : List ℕ) (a : AtHand) (k : List Item) → IsAmong less more → Fits h less a k → Fits h more a k
    more_set less more a k w i = moves program h h function (f ∷ calls) (length calls) (Outer program h gives calls (back function.gives)) (Outer program h gives calls (back function.gives))
        (λ d s j l p. p) (λ r o. o) k a less more w (inr (λ s. refl)) i

    purpose_of : (x : Option (Mark ℕ)) → TypedDestination program.functions function.slots set x → FitsPurpose function.slots (spawned (destination_slot x))
    purpose_of None t = tt
    purpose_of (Some x) t = t.1

    ok_statement : (s : Stmt ℕ) (k : List Item) → TypedStatement program.functions function.slots function.gives set s → HasNoStore k → Fits h (set_behind set s) nothing k → Ok (statement_step program page input c h s k)
    ok_statement statement.Empty k t n i = idles k i
    ok_statement (statement.Declare row) k t n i = idles (declare row ∷ k) (t, n, i)
    ok_statement (statement.Assign (target.Scalar x) None e) k t n i = idles (evaluate e ∷ assign x.name ∷ k) (t.2, (refl, t.0.1, more_set set (x.name ∷ set) nothing k (among_one_more x.name set) i))
    ok_statement (statement.Assign (target.Scalar x) (Some o) e) k t n i = idles (evaluate e ∷ update x.name o ∷ k) (t.2, (refl, t.0, t.1, i))
    ok_statement (statement.Assign (target.Index a place) o e) k t n i = idles (evaluate place ∷ locate a.name o e ∷ k) (t.0.1, (refl, t.0.0, t.1, t.2, i))
    ok_statement (statement.Call call) k t n i = ok_invoke called (expression.Call call) false (discard ∷ k) tt t (λ l g. (comes_back (slice_get program.functions l) g, i))
    ok_statement (statement.Spawn at x call) k t n i = ok_invoke (spawned (destination_slot x)) (expression.Call call) (is_some x) k (purpose_of x t.0) t.1 (λ l g. i)
    ok_statement (statement.Sync at) k t n i = idles k i
    ok_statement (IfAlone e s) k t n i = idles (evaluate e ∷ branch s None ∷ k) (t.0, (refl, t.1, tt, n, i))
    ok_statement (IfElse e s o) k t n i = idles (evaluate e ∷ branch s (Some o) ∷ k) (t.0, (refl, t.1, t.2, n, i))
    ok_statement (WhileLoop e b) k t n i = idles (turn (Some e) statement.Empty b ∷ k) ((t.0, tt, t.1), n, i)
    ok_statement (ForLoop first e s b) k t n i = idles (perform first ∷ turn e s b ∷ k) (t.0, n, ((t.1, t.2, t.3), n, more_set set (set_behind set first) nothing k (among_its_behind first set) i))
    ok_statement (statement.Split' whole place l r _ row close) k t n i = idles (evaluate place ∷ part whole.name l.name r.name row ∷ k) (t.1, (refl, t.0, t.2, t.3, t.4, n, i))
    ok_statement (statement.Return at None) k t n i = idles (exit ∷ k) (sym (ap at_join t), i)
    ok_statement (statement.Return at (Some e)) k t n i = idles (evaluate e ∷ exit ∷ k) (t.1, (sym (ap at_join t.0), i))
    ok_statement (statement.Print e) k t n i = idles (evaluate e ∷ tick ∷ show ∷ k) (t, (refl, i))
    ok_statement (statement.Block' _ row) k t n i = idles (sequence row ∷ k) (t, n, i)

    -- a statement, and then what follows it
    performs : (s : Stmt ℕ) (k : List Item) → TypedStatement program.functions function.slots function.gives set s → HasNoStore k → Fits h set nothing k → Ok (go_on c h (perform s ∷ k))
    performs s k t n i = idles (perform s ∷ k) (t, n, more_set set (set_behind set s) nothing k (among_its_behind s set) i)

    ok_other : (o : Option (Stmt ℕ)) (k : List Item) → TypedOther program.functions function set o → HasNoStore k → Fits h set nothing k → Ok (do_other c h o k)
    ok_other None k t n i = idles k i
    ok_other (Some s) k t n i = performs s k t n i

    -- one turn of a loop, and then the loop again
    turns : (e : Option (Expr ℕ)) (s b : Stmt ℕ) (k : List Item) → TypedLoop program.functions function set e s b → HasNoStore k → Fits h set nothing k → Ok (go_on c h (tick ∷ perform b ∷ perform s ∷ turn e s b ∷ k))
    turns e s b k t n i =
        let once = set_behind set b in
        let one = among_its_behind b set in
        let two : IsAmong set (set_behind once s) = λ x d. among_its_behind s once x (one x d) in
        idles (tick ∷ perform b ∷ perform s ∷ turn e s b ∷ k) (
          t.2,
          n,
          (
            more_statement program.functions function.slots function.gives s set once one t.1,
            n,
            (more_loop program.functions function e s b set (set_behind once s) two t, n, more_set set (set_behind once s) nothing k two i),
          ),
        )

    ok_declare : (x : ℕ) (kind : Slot) (first : Option (Expr ℕ)) (more : List (items.Item ℕ)) (k : List Item) → slice_get function.slots x ≡ Some kind → TypedItem program.functions function.slots set kind first
        → TypedItems program.functions function.slots (x ∷ set) more → HasNoStore k → Fits h (set_by_items (x ∷ set) more) nothing k → Ok (declare_item c h x (extent_of kind) first more k)
    ok_declare x slot.Scalar None more k e t l n i = ok_write (length calls) x 0 None (pos 0) (declare more ∷ k) (frames.words (length calls) x 0 own) (λ w. sets x w (declare more ∷ k) e (l, n, i))
    ok_declare x slot.Scalar (Some z) more k e t l n i = idles (evaluate z ∷ assign x ∷ declare more ∷ k) (t, (refl, e, (l, n, i)))
    ok_declare x (slot.Array m) first more k e t l n i = let held = all_held x m in rw held (clears x m (declare more ∷ k) e (l, n, i))
    ok_declare x slot.Slice first more k e t l n i = absurd t

    ok_input : (v : Option ℤ) (k : List Item) → Fits h set value k → Ok (give_input program page input c h v k)
    ok_input None k i = tt
    ok_input (Some v) k i = holding v k i

    -- ---- splits

    splits : {m : _} (l r : ℕ) (x : Reference) (n : ℕ) (row : Row_of-Stmt ℕ m) (k : List Item) → IsReference program h (f ∷ calls) x → x.depth ≤ length calls → n ≤ x.length
        → slice_get function.slots l ≡ Some slot.Slice → slice_get function.slots r ≡ Some slot.Slice → TypedSequence program.functions function.slots function.gives (r ∷ l ∷ set) row → HasNoStore k
        → Fits h set nothing k → TypedState program gives (control (f ∷ calls) account idle (sequence row ∷ k)) (write_parts h (length calls) l r x n)
    splits l r x n row k q d w el er t none i =
        let depth = length calls in
        let one = write_reference h depth l (left_part x n) in
        let two = write_reference one depth r (right_part x n) in
        let first = reference_frames program (f ∷ calls) h depth l (left_part x n) own d (left_reference program h (f ∷ calls) x n w q) frames in
        let second = reference_frames program (f ∷ calls) one depth r (right_part x n) own d (reference_moves program h one (f ∷ calls) (right_part x n) (λ e s j m p. p) (right_reference program h (f ∷ calls) x n w q)) first in
        let now = reference_sets one depth r (right_part x n) function.slots (l ∷ set) er (reference_sets h depth l (left_part x n) function.slots set el are) in
        let inner = moves program h two function (f ∷ calls) depth (Outer program h gives calls (back function.gives)) (Outer program two gives calls (back function.gives)) (λ e s j m p. p)
        (λ z o. outer_moves program one two gives calls (back function.gives) z (reference_grows one depth r (right_part x n)) (outer_moves program h one gives calls (back function.gives) z (reference_grows h depth l (left_part x n)) o))
        k nothing set (r ∷ l ∷ set) (λ y c. among_one_more r (l ∷ set) y (among_one_more l set y c)) (inl none) i in
        state program gives (f ∷ calls) account idle (sequence row ∷ k) two second (running program gives (f ∷ calls) two idle (sequence row ∷ k) tt (function, is, r ∷ l ∷ set, now, (t, none, inner)))

    -- ---- ends of bodies

    ok_fall : (k : List Item) → Fits h set (at_join function.gives) k → Ok (fall_off c h (slice_get program.functions f) k)
    ok_fall k i = subst (λ z. Ok (fall_off c h z k)) (sym is) (by function.gives i)
      where
        by : (q : Bool) → Fits h set (at_join q) k → Ok (if q then hold c h (pos 0) k else go_on c h k)
        by true i = holding (pos 0) k i
        by false i = idles k i

    module _ (plain : IsPlain hand) where
      ok_join : (k : List Item) → Leaving program h function (f ∷ calls) (length calls) (Outer program h gives calls (back function.gives)) (at_hand hand) k → TypedState program gives (control (f ∷ calls) account hand k) h
      ok_join [] i = absurd i
      ok_join (end ∷ k) i = state program gives (f ∷ calls) account hand (end ∷ k) h frames (by hand plain i)
        where
          by : (z : Hand) → IsPlain z → Leaving program h function (f ∷ calls) (length calls) (Outer program h gives calls (back function.gives)) (at_hand z) (end ∷ k) → Ready program h gives (f ∷ calls) z (end ∷ k)
          by idle p i = (function, is, i)
          by (holds v) p i = (function, is, i)
          by (returned v) p i = (function, is, i)
          by (entering l ws) p i = absurd p
          by (framing l ws) p i = absurd p
      ok_join (_ ∷ k) i = absurd i

      -- a completed `return` leaves the items up to the join
      ok_leave : (k : List Item) (less : List ℕ) (a : AtHand) → at_hand hand ≡ at_join function.gives → Fits h less a k → Ok (leave c h (rest_at_join k))
      ok_leave [] less a same i = absurd i
      ok_leave (end ∷ k) less a same i = absurd i
      ok_leave (join ∷ []) less a same i = absurd i
      ok_leave (join ∷ end ∷ k) less a same i = goes hand (join ∷ end ∷ k) plain (same, i.1)
      ok_leave (join ∷ _ ∷ k) less a same i = absurd i
      ok_leave (evaluate e ∷ k) less a same i = ok_leave k _ _ same i.1
      ok_leave (right o r ∷ k) less a same i = ok_leave k _ _ same i.3
      ok_leave (apply o v ∷ k) less a same i = ok_leave k _ _ same i.2
      ok_leave (prefix o ∷ k) less a same i = ok_leave k _ _ same i.2
      ok_leave (both r ∷ k) less a same i = ok_leave k _ _ same i.2
      ok_leave (either r ∷ k) less a same i = ok_leave k _ _ same i.2
      ok_leave (truth ∷ k) less a same i = ok_leave k _ _ same i.1
      ok_leave (element x ∷ k) less a same i = ok_leave k _ _ same i.2
      ok_leave (read ∷ k) less a same i = ok_leave k _ _ same i.1
      ok_leave (arguments u l ws row ∷ k) less a same i = ok_leave k _ _ same i.2
      ok_leave (pass u l ws row ∷ k) less a same i = ok_leave k _ _ same i.3
      ok_leave (take_back ∷ k) less a same i = ok_leave k _ _ same i.1
      ok_leave (discard ∷ k) less a same i = ok_leave k _ _ same i.1
      ok_leave (deliver x ∷ k) less a same i = ok_leave k _ _ same i.2
      ok_leave (perform s ∷ k) less a same i = ok_leave k _ _ same i.2
      ok_leave (sequence row ∷ k) less a same i = ok_leave k _ _ same i.2
      ok_leave (body row ∷ k) less a same i = ok_leave k _ _ same i.2
      ok_leave (declare row ∷ k) less a same i = ok_leave k _ _ same i.2
      ok_leave (assign x ∷ k) less a same i = ok_leave k _ _ same i.2
      ok_leave (update x o ∷ k) less a same i = ok_leave k _ _ same i.3
      ok_leave (locate x o e ∷ k) less a same i = ok_leave k _ _ same i.4
      ok_leave (store x j o ∷ k) less a same i = ok_leave k _ _ same i.4
      ok_leave (branch s o ∷ k) less a same i = ok_leave k _ _ same i.4
      ok_leave (turn t s b ∷ k) less a same i = ok_leave k _ _ same i.2
      ok_leave (test t s b ∷ k) less a same i = ok_leave k _ _ same i.3
      ok_leave (part x l r row ∷ k) less a same i = ok_leave k _ _ same i.6
      ok_leave (tick ∷ k) less a same i = ok_leave k _ _ same i
      ok_leave (show ∷ k) less a same i = ok_leave k _ _ same i.1
      ok_leave (exit ∷ k) less a same i = ok_leave k _ _ same i.1
      ok_leave (fall ∷ k) less a same i = ok_leave k _ _ same i

      -- a word of a reference
      word_at : (r : Reference) (j : ℕ) → IsReference program h (f ∷ calls) r → j < r.length → IsPresent (h.words r.depth r.slot (r.start + j))
      word_at r j q l = q.set (r.start + j) (omega arith) (omega (arith, l))

      -- an item of the running function
      pub ok_item : (x : Item) (k : List Item) → Fits h set (at_hand hand) (x ∷ k) → Ok (item_step program page input c h x k)
      ok_item (evaluate e) k i = ok_evaluate e k i.0 i.1
      ok_item (right o r) k i = ok_value hand _ i.0 (λ v. idles (evaluate r ∷ apply o v ∷ k) (i.2, (refl, i.1, i.3)))
      ok_item (apply o l) k i = ok_value hand _ i.0 (λ v. ok_result o l v _ i.1 (λ w. holding w k i.2))
      ok_item (prefix o) k i = ok_value hand _ i.0 (λ v. ok_some o v _ i.1 (λ w. holding w k i.2))
      ok_item (both r) k i = ok_value hand _ i.0 (λ v. ok_if (is_zero v) _ _ (λ e. holding v (truth ∷ k) (refl, i.2)) (idles (evaluate r ∷ truth ∷ k) (i.1, (refl, i.2))))
      ok_item (either r) k i = ok_value hand _ i.0 (λ v. ok_if (is_zero v) _ _ (λ e. idles (evaluate r ∷ truth ∷ k) (i.1, (refl, i.2))) (holding v (truth ∷ k) (refl, i.2)))
      ok_item truth k i = ok_value hand _ i.0 (λ v. holding _ k i.1)
      ok_item (element x) k i = ok_value hand _ i.0 (λ v. ok_slice x _ i.1 (λ r q d l. ok_if (is_index v r.length) _ _
          (λ e. ok_present (h.words r.depth r.slot (r.start + natural v)) _ (word_at r (natural v) q (index_within v r.length e)) (λ w m. holding w k i.2)) tt))
      ok_item read k i = ok_value hand _ i.0 (λ v. ok_if (is_index v (length input)) _ _ (λ e. ok_input (slice_get input (natural v)) k i.1) tt)
      ok_item (arguments u l ws row) k i = ok_arguments u l ws row k i.0 i.1 i.2
      ok_item (pass u l ws row) k i = ok_value hand _ i.0 (ok_pass u l ws row k i.1 i.2 i.3)
      ok_item take_back k i = ok_take hand k i.0 i.1
      ok_item discard k i = ok_drop hand k i.0 i.1
      ok_item (deliver x) k i = ok_deliver hand x k i.0 i.1 i.2
      ok_item (perform s) k i = ok_statement s k i.0 i.1 i.2
      ok_item (sequence end_of-Stmt) k i = idles k i.2
      ok_item (sequence (more_of-Stmt s row)) k i = idles (perform s ∷ sequence row ∷ k) (i.0.0, i.1, (i.0.1, i.1, more_set set (set_behind set s) nothing k (among_its_behind s set) i.2))
      ok_item (body []) k i = idles k i.2
      ok_item (body (s ∷ row)) k i = idles (perform s ∷ body row ∷ k) (i.0.0, i.1, (i.0.1, i.1, more_set set (set_behind set s) nothing k (among_its_behind s set) i.2))
      ok_item (declare []) k i = idles k i.2
      ok_item (declare (x ∷ row)) k i = ok_declare x.name.name x.slot x.first row k i.0.0 i.0.1 i.0.2 i.1 i.2
      ok_item (assign x) k i = ok_value hand _ i.0 (λ v. ok_write (length calls) x 0 None v k (frames.words (length calls) x 0 own) (λ w. sets x w k i.1 i.2))
      ok_item (update x o) k i = ok_value hand _ i.0 (λ v. ok_write (length calls) x 0 (Some o) v k
          (i.2, scalar_present h (length calls) x (slice_get function.slots x) i.1.1 (are x i.1.0)) (λ w. writes (length calls) x 0 w k (omega arith) i.3))
      ok_item (locate x o e) k i = ok_value hand _ i.0 (λ v. ok_slice x _ i.1 (λ r q d l. ok_if (is_index v r.length) _ _
          (λ b. idles (evaluate e ∷ store x (natural v) o ∷ k) (i.3, (refl, i.1, i.2, subst (λ n. natural v < n) l (index_within v r.length b), i.4))) tt))
      ok_item (store x j o) k i = ok_value hand _ i.0 (λ v. ok_slice x _ i.1 (λ r q d l. ok_write r.depth r.slot (r.start + j) o v k
          (can_write o _ i.2 (word_at r j q (subst (λ n. j < n) (sym l) i.3))) (λ w. writes r.depth r.slot (r.start + j) w k d i.4)))
      ok_item (branch s o) k i = ok_value hand _ i.0 (λ v. ok_if (is_zero v) _ _ (λ b. ok_other o k i.2 i.3 i.4) (performs s k i.1 i.3 i.4))
      ok_item (turn (Some t) s b) k i = idles (evaluate t ∷ test t s b ∷ k) (i.0.0, (refl, i.0, i.1, i.2))
      ok_item (turn None s b) k i = turns None s b k i.0 i.1 i.2
      ok_item (test t s b) k i = ok_value hand _ i.0 (λ v. ok_if (is_zero v) _ _ (λ e. idles k i.3) (turns (Some t) s b k i.1 i.2 i.3))
      ok_item (part x l r row) k i = ok_value hand _ i.0 (λ v. ok_slice x _ i.1 (λ z q d e. ok_if (is_split v z.length) _ _
          (λ b. ok_held (h.references (length calls) l) _ (frames.references (length calls) l own) (ok_held (h.references (length calls) r) _ (frames.references (length calls) r own)
          (splits l r z (natural v) row k q d (split_within v z.length b) i.2 i.3 i.4 i.5 i.6))) tt))
      ok_item tick k i = goes hand k plain i
      ok_item show k i = ok_value hand _ i.0 (λ v. idles k i.1)
      ok_item exit k i = ok_leave k set nothing i.0 i.1
      ok_item fall k i = ok_fall k i
      ok_item join k i = ok_join k i
      ok_item end k i = absurd i
