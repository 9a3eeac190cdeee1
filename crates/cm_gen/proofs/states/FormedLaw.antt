-- Every step leads from a formed state to formed states.
use Rattle.std.proofs.Common.{◌≡◌, ℕ, ◌+◌, ◌≤◌, List, [], ◌∷◌, ◌++◌, length, Option, None, Some, refl, sym, ap, ◌∙◌, subst, arith, append-nil, append_assoc}
use Rattle.std.proofs.lemmas.Bool.{leb-true}
use Rattle.std.proofs.lemmas.Option.{slice_get_within, get_or_from_slice_get}
use Rattle.std.specs.Prelude.{◌-◌, max, Bool, true, false, if◌then◌else◌, nat_le, ℤ, pos, FitsSigned, slice_get, is_some, Contains}
use Rattle.std.specs.Int.{w32}
use Rattle.cm_syntax.specs.declared.expr.Mark.{Mark}
use Rattle.cm_syntax.specs.declared.expr.Op.{Op}
use Rattle.cm_syntax.specs.declared.expr.Op.TheVariants as op
use Rattle.cm_syntax.specs.declared.expr.Expr.{Expr}
use Rattle.cm_syntax.specs.declared.expr.Expr.TheVariants as expression
use Rattle.cm_syntax.specs.declared.expr.Arg.TheVariants as arg
use Rattle.cm_syntax.specs.declared.expr.Call.{Row_of-Arg, end_of-Arg, more_of-Arg}
use Rattle.cm_syntax.specs.declared.stmt.Slot.{Slot}
use Rattle.cm_syntax.specs.declared.stmt.Extent.{Extent}
use Rattle.cm_syntax.specs.declared.stmt.Extent.TheVariants as extent
use Rattle.cm_syntax.specs.Extent.{extent_of, extent_at}
use Rattle.cm_gen.specs.FrameWord.{row_for}
use Rattle.cm_syntax.specs.declared.stmt.Item as items
use Rattle.cm_syntax.specs.declared.stmt.Target.TheVariants as target
use Rattle.cm_syntax.specs.declared.stmt.Stmt.{Stmt, end_of-Stmt, more_of-Stmt}
use Rattle.cm_syntax.specs.declared.stmt.Stmt.TheVariants as statement
use Rattle.cm_syntax.specs.declared.stmt.Function.{Function}
use Rattle.cm_syntax.specs.declared.stmt.Program.{Program}
use Rattle.cm_syntax.specs.Shape.{Joined, Prefixed, Element, InputAt, IfAlone, IfElse, WhileLoop, ForLoop}
use Rattle.cm_syntax.specs.Frame.{slots_words, temporaries, arguments_words, arguments_temporaries, optional_temporaries, items_temporaries, statement_temporaries, body_temporaries}
use Rattle.cm_syntax.proofs.FrameLaw.{temporaries_at_least}
use Rattle.cm_syntax.specs.Trap as kind
use Rattle.cm_syntax.specs.Label.{silent, ticks, prints, spawns, syncs, traps}
use Rattle.cm_syntax.specs.Operator.{is_zero, natural, binary_value, divides, unary_value}
use Rattle.cm_syntax.specs.Cell.{Cell, absent, value_in}
use Rattle.cm_syntax.specs.Stack.{Reference, Stack, Destination, Argument, word, slice, may_write_all, write_word, clear_words, write_parts, push_frame, pop_frame, lent_stack, kept_stack, empty_stack, IsUnder}
use Rattle.cm_syntax.specs.Rest.{Purpose, called, spawned, Item, evaluate, right, apply, prefix, both, either, truth, element, read, arguments, pass, take_back, discard, deliver, perform, sequence, body, declare, assign, update, locate, store, branch, turn, test, part, tick, show, exit, fall, join, end, Hand, idle, holds, returned, entering, framing, Control, control}
use Rattle.cm_syntax.specs.Step.{Move, inside, start_of, hand_value, rest_at_join, when_readable, when_writable, when_value, when_result, when_some, go_on, hold, write_step, leave, is_index, is_split, scalar_slice, slice_in, slots_in, call_bytes_in, destination_slot, invoke, spawn_call, enter_call, take_value, drop_value, deliver_value, declare_item, do_other, fall_off, when_slice, push_call, give_input, evaluate_step, statement_step, item_step, step}
use Rattle.cm_meaning.specs.Typing.{GivesWanted, TypedInvocation, TypedStatement}
use Rattle.cm_meaning.specs.TypedState.{nothing, value, back, at_hand, at_join, behind_call, Inner, Outer, Running, TypedState, KeepsTyped}
use Rattle.cm_meaning.specs.Law.{IsBeside, IsInside, arrival}
use Rattle.cm_gen.specs.Standing.{used, arguments_size, slots_here}
use Rattle.cm_gen.specs.FrameWord.{row_of, words_in, taken}
use Rattle.cm_gen.specs.Literal.{LiteralsFit, RowLiteralsFit, OptionLiteralsFit, ItemsLiteralsFit, StatementLiteralsFit}
use Rattle.cm_gen.specs.Formed.{Runs, IsPartOf, Within, alone, before, within, Gives, GivesBack, GivesTo, IsNoDelivery, loop_temporaries, other_temporaries, AreWords, OtherLiteralsFit, LoopLiteralsFit, HasWords, RestHasWords, HasRoom, ItemFits, RestFits, HandFits, Formed, KeepsFormed}
use Rattle.cm_meaning.proofs.TypedFramesLaw.{IsPlain, state, frames_of, running, cons_empty}
use Rattle.cm_meaning.proofs.BesideLaw.{beside}
use Rattle.cm_meaning.proofs.InsideLaw.{within as step_inside}
use Rattle.cm_meaning.proofs.ItemLaw.{elided}
use Rattle.cm_meaning.proofs.SafetyLaw.{typed_step, typed_start}
use Rattle.cm_meaning.proofs.TypingLaw.{sound_typed}
use Rattle.cm_meaning.specs.Elision.{serial}
use Rattle.cm_meaning.specs.Activation.{IsSettled}
use Rattle.cm_meaning.proofs.SettledLaw.{Keeps, Lawful, good_law}
use Rattle.cm_meaning.proofs.RunLaw.{first_settled}
use Rattle.cm_meaning.proofs.Walk.{IsNoEnd}
use Rattle.cm_gen.proofs.states.FactLaw.{context_calls, runs_on, array_fits, row_within}
use Rattle.cm_gen.proofs.states.LiteralLaw.{sound_literals}
use Rattle.cm_gen.proofs.states.ValueFitsLaw.{natural_fits, binary_fits, unary_fits}
use Rattle.cm_gen.proofs.states.PartLaw.{part_of_part, lent_part, kept_part, popped_part, part_of_sum, others, others_sum, others_under, StackFits, empty_fits, part_fits, write_fits, clear_fits, pop_fits, push_fits}
use Rattle.cm_syntax.proofs.AccessLaw.{reading, writing}

gives_of_wanted : (g : Option (Function ℕ)) → GivesWanted true g → Gives g
gives_of_wanted None h = h
gives_of_wanted (Some function) h = h

one_or_zero : (b : Bool) → FitsSigned w32 (if b then pos 0 else pos 1)
one_or_zero true = natural_fits 0 (omega arith)
one_or_zero false = natural_fits 1 (omega arith)

stands_in : {A : Type 0} (xs : List A) (i : ℕ) (x : A) → slice_get xs i ≡ Some x → Contains xs x
stands_in xs i x e = (i, slice_get_within xs i x e, get_or_from_slice_get xs i x x e)

-- what a call takes of the account
took : (account bytes same others limit : ℕ) → bytes ≤ account → same ≡ bytes → account + others ≡ limit → (account - bytes) + (same + others) ≡ limit
took account bytes same others limit l e b = omega (arith, l, e, b)

no_value : nothing ≡ value → ⊥
no_value e = cc e

no_back : (b : Bool) → back b ≡ value → ⊥
no_back b e = cc e

-- a hand that isn't delivered fits whatever isn't a delivery
hand_moves : (program : Program) (page : ℕ) (z : Hand) (k m : List Item) → IsPlain z → IsNoDelivery m → HandFits program page z k → HandFits program page z m
hand_moves program page idle k m p d h = tt
hand_moves program page (holds v) k m p d h = h
hand_moves program page (returned (Some v)) k m p d h = h
hand_moves program page (returned None) k [] p d h = tt
hand_moves program page (returned None) k (deliver x ∷ m) p d h = absurd d
hand_moves program page (returned None) k (_ ∷ m) p d h = tt
hand_moves program page (entering f ws) k m p d h = absurd p
hand_moves program page (framing f ws) k m p d h = absurd p

module _ (program : Program) (page limit : ℕ) (input : List ℤ) (runs : Runs program page limit input) where
  -- what is formed of a state, but for its types
  pub record Fine (t : Control) (g : Stack) : Type 0 where
    pub small : StackFits g
    pub words : RestHasWords t.rest
    pub balance : t.account + taken program page t.calls ≡ limit
    pub fits : RestFits program page t.rest t.calls
    pub hand_fits : HandFits program page t.hand t.rest

  module _ (frames : ℕ) (h : Stack) (Continues : Control → Type 0) where
    -- a step from a state with so many frames leads to such states, and ends no frame
    abbrev pub KeepsFine : Move → Type 0
    KeepsFine (silent t g) = (frames ≤ length t.calls) × Fine t g
    KeepsFine (ticks t g) = (frames ≤ length t.calls) × Fine t g
    KeepsFine (prints v t g) = (frames ≤ length t.calls) × Fine t g
    KeepsFine (spawns child lent x t kept) = Fine child lent × Fine t kept × Fine (inside child x t) h × IsPartOf lent h × IsPartOf kept h × Continues t
    KeepsFine (syncs t) = Fine t h
    KeepsFine _ = Unit {0}

  -- a state with a running function
  module _ (f : ℕ) (callers : List ℕ) (account : ℕ) (hand : Hand) (rest : List Item) (h : Stack) (Continues : Control → Type 0)
      (small : StackFits h) (balance : account + taken program page (f ∷ callers) ≡ limit)
      (lengths : (a : ℕ) (r : Reference) → value_in (row_of program page (f ∷ callers) h a) ≡ Some r → FitsSigned w32 (pos r.length)) where
    abbrev live : List ℕ
    live = f ∷ callers

    abbrev c : Control
    c = control live account hand rest

    abbrev Ok : Move → Type 0
    Ok m = KeepsFine (length live) h Continues m

    abbrev Fits : List Item → Type 0
    Fits k = RestFits program page k live

    abbrev Room : ℕ → Type 0
    Room n = HasRoom program page live n

    -- ---- to other rests

    fine : (z : Hand) (k : List Item) (g : Stack) → StackFits g → RestHasWords k → Fits k → HandFits program page z k → Fine (control live account z k) g
    fine z k g s w r p = record { small = s; words = w; balance = balance; fits = r; hand_fits = p }

    goes : (z : Hand) (k : List Item) → RestHasWords k → Fits k → HandFits program page z k → Ok (silent (control live account z k) h)
    goes z k w r p = (omega arith, fine z k h small w r p)

    idles : (k : List Item) → RestHasWords k → Fits k → Ok (go_on c h k)
    idles k w r = goes idle k w r tt

    holding : (v : ℤ) (k : List Item) → FitsSigned w32 v → RestHasWords k → Fits k → Ok (hold c h v k)
    holding v k fit w r = goes (holds v) k w r fit

    puts : (g : Stack) (k : List Item) → StackFits g → RestHasWords k → Fits k → Ok (silent (control live account idle k) g)
    puts g k s w r = (omega arith, fine idle k g s w r tt)

    -- ---- what a step needs

    ok_present : {A : Type 0} (y : Cell A) (m : A → Move) → ((v : A) → value_in y ≡ Some v → Ok (m v)) → Ok (when_readable y m)
    ok_present y m g = reading Ok tt y m g

    ok_held : {A : Type 0} (y : Cell A) (m : Move) → Ok m → Ok (when_writable y m)
    ok_held y m g = writing Ok tt y m (λ e. g)

    ok_value : (z : Hand) (k : List Item) (m : ℤ → Move) → HandFits program page z k → ((v : ℤ) → FitsSigned w32 v → Ok (m v)) → Ok (when_value z m)
    ok_value (holds v) k m p g = g v p
    ok_value _ k m p g = tt

    ok_if : (q : Bool) (m n : Move) → Ok m → Ok n → Ok (if q then m else n)
    ok_if true m n g l = g
    ok_if false m n g l = l

    ok_result : (o : Op) (a b : ℤ) (m : ℤ → Move) → FitsSigned w32 a → FitsSigned w32 b → ((w : ℤ) → FitsSigned w32 w → Ok (m w)) → Ok (when_result o (binary_value o a b) m)
    ok_result o a b m x y g = by (binary_value o a b) refl
      where
        by : (z : Option ℤ) → binary_value o a b ≡ z → Ok (when_result o z m)
        by None e = ok_if (divides o) _ _ tt tt
        by (Some v) e = g v (binary_fits o a b v x y e)

    ok_some : (o : Op) (a : ℤ) (m : ℤ → Move) → FitsSigned w32 a → ((w : ℤ) → FitsSigned w32 w → Ok (m w)) → Ok (when_some (unary_value o a) m)
    ok_some o a m x g = by (unary_value o a) refl
      where
        by : (z : Option ℤ) → unary_value o a ≡ z → Ok (when_some z m)
        by None e = tt
        by (Some v) e = g v (unary_fits o a v x e)

    ok_slice : (a : ℕ) (m : Reference → Move) → ((r : Reference) → value_in (row_of program page live h a) ≡ Some r → Ok (m r)) → Ok (when_slice program page input c h a m)
    ok_slice a m g = by (extent_at (slots_here program live) a) g
      where
        by : (z : Option Extent) → ((r : Reference) → value_in (row_for program page z live h a) ≡ Some r → Ok (m r)) → Ok (slice_in live h z a m)
        by None g = tt
        by (Some extent.Word) g = g _ refl
        by (Some (extent.Words n)) g = g _ refl
        by (Some extent.Reference) g = ok_present (h.references (length callers) a) m g

    ok_write : (d s i : ℕ) (o : Option Op) (v : ℤ) (k : List Item) → FitsSigned w32 v → RestHasWords k → Fits k → Ok (write_step c h d s i o v k)
    ok_write d s i None v k fit w r = ok_held (h.words d s i) _ (puts (write_word h d s i v) k (write_fits h d s i v fit small) w r)
    ok_write d s i (Some o) v k fit w r = ok_held (h.words d s i) _ (ok_present (h.words d s i) _ (λ old e. ok_result o old v _ (small d s i old e) fit (λ x y. puts (write_word h d s i x) k (write_fits h d s i x y small) w r)))

    -- ---- calls

    enough : (m n : ℕ) → n ≤ m → Room m → Room n
    enough m n l room = omega (arith, l, room)

    -- the room of arguments, where so many temporaries are in use
    abbrev ArgumentsRoom : {n : _} → Row_of-Arg ℕ n → (d : ℕ) → Type 0
    ArgumentsRoom row d = Room (max (d + arguments_words row) (arguments_temporaries row d))

    room_at : {n : _} (row : Row_of-Arg ℕ n) (d e : ℕ) → d ≡ e → ArgumentsRoom row d → ArgumentsRoom row e
    room_at row d e same room = subst (λ q. ArgumentsRoom row q) same room

    ok_spawn : (l : ℕ) (ws : List Argument) (x : Option ℕ) (y : Destination) (k : List Item) → AreWords ws → used k ≡ 0 → Room 0 → GivesBack (deliver y ∷ k) (slice_get program.functions l)
        → RestHasWords k → Fits k → Continues (control live account idle k) → Ok (spawn_call c h l ws y k)
    ok_spawn l ws x y k a none_ room g w r goes_on = (
      record { small = part_fits (lent_stack h y ws) h (lent_part h y ws) small; words = tt; balance = balance; fits = tt; hand_fits = (a, tt) },
      fine idle k (kept_stack h y ws) (part_fits (kept_stack h y ws) h (kept_part h y ws) small) w r tt,
      fine (entering l ws) (deliver y ∷ k) h small (tt, w) ((none_, room), r) (a, g),
      lent_part h y ws,
      kept_part h y ws,
      goes_on,
    )

    ok_call : (u : Purpose) (l : ℕ) (ws : List Argument) (k : List Item) → AreWords ws → Room 0 → GivesTo u k (slice_get program.functions l) → RestHasWords k → Fits k
        → ((x : Option ℕ) → u ≡ spawned x → Continues (control live account idle k)) → Ok (enter_call c h u l ws k)
    ok_call called l ws k a room g w r goes_on = goes (entering l ws) k w r (a, g)
    ok_call (spawned None) l ws k a room g w r goes_on = ok_spawn l ws None None k a g room tt w r (goes_on None refl)
    ok_call (spawned (Some x)) l ws k a room g w r goes_on = ok_held (h.words (length callers) x 0) _ (ok_spawn l ws (Some x) (Some (record { depth = length callers; slot = x })) k a g.0 room g.1 w r (goes_on (Some x) refl))

    ok_arguments : {n : _} (u : Purpose) (l : ℕ) (ws : List Argument) (row : Row_of-Arg ℕ n) (k : List Item) → AreWords ws × RowLiteralsFit row → RestHasWords k
        → ArgumentsRoom row (used k + arguments_size ws) × GivesTo u k (slice_get program.functions l) → Fits k
        → ((x : Option ℕ) → u ≡ spawned x → Continues (control live account idle k)) → Ok (item_step program page input c h (arguments u l ws row) k)
    ok_arguments u l ws end_of-Arg k a w g r goes_on = ok_call u l ws k a.0 (enough _ 0 (omega arith) g.0) g.1 w r goes_on
    ok_arguments u l ws (more_of-Arg (arg.Value e) more) k a w g r goes_on =
        idles (evaluate e ∷ pass u l ws more ∷ k) (a.1.0, ((a.0, a.1.1), w)) (enough _ _ (omega arith) g.0, ((room, g.1), r))
      where
        room : ArgumentsRoom more (used k + arguments_size ws + 1)
        room = enough _ _ (omega arith) g.0
    ok_arguments u l ws (more_of-Arg (arg.Slice a) more) k p w g r goes_on = ok_slice a.name _ (λ x e. idles (arguments u l (slice x ∷ ws) more ∷ k) ((p.0, p.1.1), w) ((room, g.1), r))
      where
        room : ArgumentsRoom more (used k + (2 + arguments_size ws))
        room = room_at more (used k + arguments_size ws + 2) (used k + (2 + arguments_size ws)) (omega arith) (enough _ _ (omega arith) g.0)
    ok_arguments u l ws (more_of-Arg (arg.Address x) more) k p w g r goes_on = idles (arguments u l (slice (scalar_slice (length callers) x.name) ∷ ws) more ∷ k) ((p.0, p.1.1), w) ((room, g.1), r)
      where
        room : ArgumentsRoom more (used k + (2 + arguments_size ws))
        room = room_at more (used k + arguments_size ws + 2) (used k + (2 + arguments_size ws)) (omega arith) (enough _ _ (omega arith) g.0)

    -- what is known of the callee of a call
    abbrev CalleeGives : Purpose → List Item → Expr ℕ → Type 0
    CalleeGives u k (expression.Call' g _ row) = GivesTo u k (slice_get program.functions g.name)
    CalleeGives u k _ = Unit {0}

    drops : (k : List Item) (e : Expr ℕ) → CalleeGives called (discard ∷ k) e
    drops k (expression.Call' g _ row) = tt
    drops k _ = tt

    spawns_to : (x : Option (Mark ℕ)) (k : List Item) (slots : List Slot) (set : List ℕ) (e : Expr ℕ) → used k ≡ 0 → TypedInvocation program.functions slots set (is_some x) e → CalleeGives (spawned (destination_slot x)) k e
    spawns_to None k slots set (expression.Call' g _ row) none_ t = none_
    spawns_to (Some x) k slots set (expression.Call' g _ row) none_ t = (none_, gives_of_wanted (slice_get program.functions g.name) t.0)
    spawns_to x k slots set _ none_ t = tt

    ok_invoke : (u : Purpose) (e : Expr ℕ) (k : List Item) → LiteralsFit e → used k ≡ 0 → Room (temporaries e 0) → CalleeGives u k e → RestHasWords k → Fits k → Ok (invoke c h u e k)
    ok_invoke u (expression.Call' g _ row) k a none_ room gives w r =
        idles (arguments u g.name [] row ∷ k) ((tt, a), w) ((room_at row 0 (used k + 0) (omega (arith, none_)) room, gives), r)
    ok_invoke u _ k a none_ room gives w r = tt

    ok_take : (z : Hand) (k m : List Item) → HandFits program page z m → RestHasWords k → Fits k → Ok (take_value c h z k)
    ok_take (returned (Some v)) k m p w r = holding v k p w r
    ok_take (returned None) k m p w r = tt
    ok_take _ k m p w r = tt

    ok_drop : (z : Hand) (k : List Item) → RestHasWords k → Fits k → Ok (drop_value c h z k)
    ok_drop (returned v) k w r = idles k w r
    ok_drop _ k w r = tt

    ok_deliver : (z : Hand) (x : Destination) (k m : List Item) → HandFits program page z m → RestHasWords k → Fits k → Ok (deliver_value c h z x k)
    ok_deliver (returned v) None k m p w r = idles k w r
    ok_deliver (returned (Some v)) (Some x) k m p w r = ok_write x.depth x.slot 0 None v k p w r
    ok_deliver (returned None) (Some x) k m p w r = idles k w r
    ok_deliver _ _ k m p w r = tt

    -- ---- expressions

    ok_evaluate : (e : Expr ℕ) (k : List Item) → LiteralsFit e → Room (temporaries e (used k)) → RestHasWords k → Fits k → Ok (evaluate_step program page input c h e k)
    ok_evaluate (expression.Number n) k a room w r = holding n k a w r
    ok_evaluate (expression.Scalar x) k a room w r = ok_present (h.words (length callers) x.name 0) _ (λ v e. holding v k (small _ _ _ v e) w r)
    ok_evaluate (Element x e) k a room w r = idles (evaluate e ∷ element x.name ∷ k) (a, (tt, w)) (room, (tt, r))
    ok_evaluate (expression.Len x) k a room w r = ok_slice x.name _ (λ z e. holding (pos z.length) k (lengths x.name z e) w r)
    ok_evaluate (InputAt e) k a room w r = idles (evaluate e ∷ read ∷ k) (a, (tt, w)) (room, (tt, r))
    ok_evaluate expression.Inputs k a room w r = holding (pos (length input)) k (natural_fits (length input) runs.count_fits) w r
    ok_evaluate (Prefixed o e) k a room w r = idles (evaluate e ∷ prefix o ∷ k) (a, (tt, w)) (room, (tt, r))
    ok_evaluate (Joined op.Both x y) k a room w r = idles (evaluate x ∷ both y ∷ k) (a.0, (a.1, w)) (enough _ _ (omega arith) room, (enough _ _ (omega arith) room, r))
    ok_evaluate (Joined op.Either x y) k a room w r = idles (evaluate x ∷ either y ∷ k) (a.0, (a.1, w)) (enough _ _ (omega arith) room, (enough _ _ (omega arith) room, r))
    ok_evaluate (Joined o x y) k a room w r = idles (evaluate x ∷ right o y ∷ k) (a.0, (a.1, w)) (enough _ _ (omega arith) room, (enough _ _ (omega arith) room, r))
    ok_evaluate (expression.Call' g _ row) k a room w r =
        idles (arguments called g.name [] row ∷ take_back ∷ k) ((tt, a), (tt, w)) ((room_at row (used k) (used k + 0) (omega arith) room, tt), (tt, r))

    -- ---- statements

    ok_statement : (s : Stmt ℕ) (k : List Item) (slots : List Slot) (set : List ℕ) (gives : Bool) → TypedStatement program.functions slots gives set s → StatementLiteralsFit s → used k ≡ 0
        → Room (statement_temporaries s) → RestHasWords k → Fits k → Ok (statement_step program page input c h s k)
    ok_statement statement.Empty k slots set gives t a none_ room w r = idles k w r
    ok_statement (statement.Declare row) k slots set gives t a none_ room w r = idles (declare row ∷ k) (a, w) ((none_, room), r)
    ok_statement (statement.Assign (target.Scalar x) None e) k slots set gives t a none_ room w r =
        idles (evaluate e ∷ assign x.name ∷ k) (a.1, (tt, w)) (room, ((none_, enough _ 0 (omega arith) room), r))
    ok_statement (statement.Assign (target.Scalar x) (Some o) e) k slots set gives t a none_ room w r =
        idles (evaluate e ∷ update x.name o ∷ k) (a.1, (tt, w)) (room, ((none_, enough _ 0 (omega arith) room), r))
    ok_statement (statement.Assign (target.Index x place) o e) k slots set gives t a none_ room w r =
        idles (evaluate place ∷ locate x.name o e ∷ k) (a.0, (a.1, w)) (enough _ _ (omega arith) room, ((none_, enough _ _ (omega arith) room), r))
    ok_statement (statement.Call call) k slots set gives t a none_ room w r =
        ok_invoke called (expression.Call call) (discard ∷ k) a refl room (drops k (expression.Call call)) (tt, w) ((none_, enough _ 0 (omega arith) room), r)
    ok_statement (statement.Spawn at x call) k slots set gives t a none_ room w r =
        ok_invoke (spawned (destination_slot x)) (expression.Call call) k a none_ room (spawns_to x k slots set (expression.Call call) none_ t.1) w r
    ok_statement (statement.Sync at) k slots set gives t a none_ room w r = fine idle k h small w r tt
    ok_statement (IfAlone e s) k slots set gives t a none_ room w r =
        idles (evaluate e ∷ branch s None ∷ k) (a.0, ((a.1, tt), w)) (enough _ _ (omega arith) room, ((none_, enough _ _ (omega arith) room), r))
    ok_statement (IfElse e s o) k slots set gives t a none_ room w r =
        idles (evaluate e ∷ branch s (Some o) ∷ k) (a.0, ((a.1, a.2), w)) (enough _ _ (omega arith) room, ((none_, enough _ _ (omega arith) room), r))
    ok_statement (WhileLoop e b) k slots set gives t a none_ room w r =
        idles (turn (Some e) statement.Empty b ∷ k) ((a.0, tt, a.1), w) ((none_, enough _ _ (omega arith) room), r)
    ok_statement (ForLoop first e s b) k slots set gives t a none_ room w r =
        idles (perform first ∷ turn e s b ∷ k) (a.0, ((a.1, a.2, a.3), w)) ((refl, enough _ _ (omega arith) room), ((none_, enough _ _ (omega arith) room), r))
    ok_statement (statement.Split' whole place x y _ row close) k slots set gives t a none_ room w r =
        idles (evaluate place ∷ part whole.name x.name y.name row ∷ k) (a.0, (a.1, w)) (enough _ _ (omega arith) room, ((none_, enough _ _ (omega arith) room), r))
    ok_statement (statement.Return at None) k slots set gives t a none_ room w r = idles (exit ∷ k) (tt, w) ((none_, room), r)
    ok_statement (statement.Return at (Some e)) k slots set gives t a none_ room w r = idles (evaluate e ∷ exit ∷ k) (a, (tt, w)) (room, ((none_, enough _ 0 (omega arith) room), r))
    ok_statement (statement.Print e) k slots set gives t a none_ room w r =
        idles (evaluate e ∷ tick ∷ show ∷ k) (a, (tt, (tt, w))) (room, ((refl, tt), ((none_, enough _ 0 (omega arith) room), r)))
    ok_statement (statement.Block' _ row) k slots set gives t a none_ room w r = idles (sequence row ∷ k) (a, w) ((none_, room), r)

    ok_other : (o : Option (Stmt ℕ)) (k : List Item) → OtherLiteralsFit o → used k ≡ 0 → Room (other_temporaries o) → RestHasWords k → Fits k → Ok (do_other c h o k)
    ok_other None k a none_ room w r = idles k w r
    ok_other (Some s) k a none_ room w r = idles (perform s ∷ k) (a, w) ((none_, room), r)

    ok_declare : (x : ℕ) (kind : Extent) (first : Option (Expr ℕ)) (more : List (items.Item ℕ)) (k : List Item) → OptionLiteralsFit first → ItemsLiteralsFit more → used k ≡ 0
        → Room (max (optional_temporaries first) (items_temporaries more)) → RestHasWords k → Fits k → Ok (declare_item c h x kind first more k)
    ok_declare x extent.Word None more k a b none_ room w r =
        ok_write (length callers) x 0 None (pos 0) (declare more ∷ k) (natural_fits 0 (omega arith)) (b, w) ((none_, enough _ _ (omega arith) room), r)
    ok_declare x extent.Word (Some e) more k a b none_ room w r =
        idles (evaluate e ∷ assign x ∷ declare more ∷ k) (a, (tt, (b, w))) (enough _ _ (omega arith) room, ((refl, enough _ 0 (omega arith) room), ((none_, enough _ _ (omega arith) room), r)))
    ok_declare x (extent.Words n) first more k a b none_ room w r =
        ok_if (may_write_all (h.words (length callers) x) n) _ _ (puts (clear_words h (length callers) x n) (declare more ∷ k) (clear_fits h (length callers) x n small) (b, w) ((none_, enough _ _ (omega arith) room), r)) tt
    ok_declare x extent.Reference first more k a b none_ room w r = tt

    ok_fall : (found : Option (Function ℕ)) (k : List Item) → RestHasWords k → Fits k → Ok (fall_off c h found k)
    ok_fall None k w r = tt
    ok_fall (Some function) k w r = ok_if function.gives _ _ (holding (pos 0) k (natural_fits 0 (omega arith)) w r) (idles k w r)

    -- one turn of a loop, and then the loop again
    ok_turn : (e : Option (Expr ℕ)) (s b : Stmt ℕ) (k : List Item) → LoopLiteralsFit e s b → used k ≡ 0 → Room (loop_temporaries e s b) → RestHasWords k → Fits k
        → Ok (go_on c h (tick ∷ perform b ∷ perform s ∷ turn e s b ∷ k))
    ok_turn e s b k a none_ room w r =
        idles (tick ∷ perform b ∷ perform s ∷ turn e s b ∷ k) (tt, (a.2, (a.1, (a, w))))
        ((refl, tt), ((refl, enough _ _ (omega arith) room), ((refl, enough _ _ (omega arith) room), ((none_, room), r))))

    -- a completed `return` leaves the items up to the join
    ok_leave : IsPlain hand → (k m : List Item) → HandFits program page hand m → RestHasWords k → Fits k → Ok (leave c h (rest_at_join k))
    ok_leave plain [] m p w r = tt
    ok_leave plain (end ∷ k) m p w r = tt
    ok_leave plain (join ∷ k) m p w r = goes hand (join ∷ k) w r (hand_moves program page hand m (join ∷ k) plain tt p)
    ok_leave plain (_ ∷ k) m p w r = ok_leave plain k m p w.1 r.1

    ok_input : (n : ℕ) (k : List Item) → RestHasWords k → Fits k → Ok (give_input program page input c h (slice_get input n) k)
    ok_input n k w r = by (slice_get input n) refl
      where
        by : (z : Option ℤ) → slice_get input n ≡ z → Ok (give_input program page input c h z k)
        by None e = tt
        by (Some v) e = holding v k (runs.numbers_fit v (stands_in input n v e)) w r

    -- ---- items

    module _ (whole : Stack) (function : Function ℕ) (set : List ℕ) (after : List Item → Type 0) (more : List Item) (plain : IsPlain hand)
        (goes_on : (k : List Item) → Inner program whole function live (length callers) after set nothing (k ++ more) → Continues (control live account idle k)) where
      -- behind the arguments of a spawn its function goes on
      continues : (u : Purpose) (l : ℕ) (k : List Item) → Inner program whole function live (length callers) after set (behind_call u (slice_get program.functions l)) (k ++ more)
          → (x : Option ℕ) → u ≡ spawned x → Continues (control live account idle k)
      continues u l k i x e = goes_on k (subst (λ z. Inner program whole function live (length callers) after set (behind_call z (slice_get program.functions l)) (k ++ more)) e i)

      ok_item : (x : Item) (k : List Item) → IsNoEnd x → HasWords x → RestHasWords k → ItemFits program page x k live → Fits k → HandFits program page hand (x ∷ k)
          → Inner program whole function live (length callers) after set (at_hand hand) (x ∷ (k ++ more)) → Ok (item_step program page input c h x k)
      ok_item (evaluate e) k q a w g r p i = ok_evaluate e k a g w r
      ok_item (right o y) k q a w g r p i = ok_value hand (right o y ∷ k) _ p (λ v f. idles (evaluate y ∷ apply o v ∷ k) (a, (f, w)) (enough _ _ (omega arith) g, (enough _ _ (omega arith) g, r)))
      ok_item (apply o l) k q a w g r p i = ok_value hand (apply o l ∷ k) _ p (λ v f. ok_result o l v _ a f (λ z y. holding z k y w r))
      ok_item (prefix o) k q a w g r p i = ok_value hand (prefix o ∷ k) _ p (λ v f. ok_some o v _ f (λ z y. holding z k y w r))
      ok_item (both y) k q a w g r p i = ok_value hand (both y ∷ k) _ p (λ v f. ok_if (is_zero v) _ _ (holding v (truth ∷ k) f (tt, w) (tt, r)) (idles (evaluate y ∷ truth ∷ k) (a, (tt, w)) (g, (tt, r))))
      ok_item (either y) k q a w g r p i = ok_value hand (either y ∷ k) _ p (λ v f. ok_if (is_zero v) _ _ (idles (evaluate y ∷ truth ∷ k) (a, (tt, w)) (g, (tt, r))) (holding v (truth ∷ k) f (tt, w) (tt, r)))
      ok_item truth k q a w g r p i = ok_value hand (truth ∷ k) _ p (λ v f. holding _ k (one_or_zero (is_zero v)) w r)
      ok_item (element x) k q a w g r p i = ok_value hand (element x ∷ k) _ p (λ v f. ok_slice x _ (λ z e. ok_if (is_index v z.length) _ _
          (ok_present (h.words z.depth z.slot (z.start + natural v)) _ (λ y n. holding y k (small _ _ _ y n) w r)) tt))
      ok_item read k q a w g r p i = ok_value hand (read ∷ k) _ p (λ v f. ok_if (is_index v (length input)) _ _ (ok_input (natural v) k w r) tt)
      ok_item (arguments u l ws row) k q a w g r p i = ok_arguments u l ws row k a w g r (continues u l k i.2)
      ok_item (pass u l ws row) k q a w g r p i = ok_value hand (pass u l ws row ∷ k) _ p (λ v f. idles (arguments u l (word v ∷ ws) row ∷ k) (((f, a.0), a.1), w)
          ((room_at row (used k + arguments_size ws + 1) (used k + (1 + arguments_size ws)) (omega arith) g.0, g.1), r))
      ok_item take_back k q a w g r p i = ok_take hand k (take_back ∷ k) p w r
      ok_item discard k q a w g r p i = ok_drop hand k w r
      ok_item (deliver x) k q a w g r p i = ok_deliver hand x k (deliver x ∷ k) p w r
      ok_item (perform s) k q a w g r p i = ok_statement s k function.slots set function.gives i.0 a g.0 g.1 w r
      ok_item (sequence end_of-Stmt) k q a w g r p i = idles k w r
      ok_item (sequence (more_of-Stmt s row)) k q a w g r p i =
          idles (perform s ∷ sequence row ∷ k) (a.0, (a.1, w)) ((refl, enough _ _ (omega arith) g.1), ((g.0, enough _ _ (omega arith) g.1), r))
      ok_item (body []) k q a w g r p i = idles k w r
      ok_item (body (s ∷ row)) k q a w g r p i = idles (perform s ∷ body row ∷ k) (a.0, (a.1, w)) ((refl, enough _ _ (omega arith) g.1), ((g.0, enough _ _ (omega arith) g.1), r))
      ok_item (declare []) k q a w g r p i = idles k w r
      ok_item (declare (x ∷ row)) k q a w g r p i = ok_declare x.name.name (extent_of x.slot) x.first row k a.0 a.1 g.0 g.1 w r
      ok_item (assign x) k q a w g r p i = ok_value hand (assign x ∷ k) _ p (λ v f. ok_write (length callers) x 0 None v k f w r)
      ok_item (update x o) k q a w g r p i = ok_value hand (update x o ∷ k) _ p (λ v f. ok_write (length callers) x 0 (Some o) v k f w r)
      ok_item (locate x o e) k q a w g r p i = ok_value hand (locate x o e ∷ k) _ p (λ v f. ok_slice x _ (λ z n. ok_if (is_index v z.length) _ _
          (idles (evaluate e ∷ store x (natural v) o ∷ k) (a, (tt, w)) (g.1, ((g.0, enough _ 1 (temporaries_at_least e 1) g.1), r))) tt))
      ok_item (store x j o) k q a w g r p i = ok_value hand (store x j o ∷ k) _ p (λ v f. ok_slice x _ (λ z n. ok_write z.depth z.slot (z.start + j) o v k f w r))
      ok_item (branch s o) k q a w g r p i = ok_value hand (branch s o ∷ k) _ p (λ v f. ok_if (is_zero v) _ _ (ok_other o k a.1 g.0 (enough _ _ (omega arith) g.1) w r)
          (idles (perform s ∷ k) (a.0, w) ((g.0, enough _ _ (omega arith) g.1), r)))
      ok_item (turn (Some t) s b) k q a w g r p i = idles (evaluate t ∷ test t s b ∷ k) (a.0, (a, w)) (enough _ _ (omega arith) g.1, (g, r))
      ok_item (turn None s b) k q a w g r p i = ok_turn None s b k a g.0 g.1 w r
      ok_item (test t s b) k q a w g r p i = ok_value hand (test t s b ∷ k) _ p (λ v f. ok_if (is_zero v) _ _ (idles k w r) (ok_turn (Some t) s b k a g.0 g.1 w r))
      ok_item (part x y z row) k q a w g r p i = ok_value hand (part x y z row ∷ k) _ p (λ v f. ok_slice x _ (λ m e. ok_if (is_split v m.length) _ _
          (ok_held (h.references (length callers) y) _ (ok_held (h.references (length callers) z) _ (puts (write_parts h (length callers) y z m (natural v)) (sequence row ∷ k) small (a, w) (g, r)))) tt))
      ok_item tick k q a w g r p i = goes hand k w r (hand_moves program page hand (tick ∷ k) k plain g.1 p)
      ok_item show k q a w g r p i = ok_value hand (show ∷ k) _ p (λ v f. idles k w r)
      ok_item exit k q a w g r p i = ok_leave plain k (exit ∷ k) p w r
      ok_item fall k q a w g r p i = ok_fall (slice_get program.functions f) k w r
      ok_item join k q a w g r p i = fine hand k h small w r (hand_moves program page hand (join ∷ k) k plain g.1 p)
      ok_item end k q a w g r p i = absurd q

  -- ---- calls that begin and end

  -- a frame of a function is begun
  ok_push : (calls : List ℕ) (account : ℕ) (hand : Hand) (rest : List Item) (h : Stack) (Continues : Control → Type 0) (l : ℕ) (ws : List Argument) (k : List Item) → StackFits h
      → account + taken program page calls ≡ limit → AreWords ws × GivesBack k (slice_get program.functions l) → RestHasWords k → RestFits program page k calls
      → (found : Option (Function ℕ)) → slice_get program.functions l ≡ found
      → KeepsFine (length calls) h Continues (push_call program page input (control calls account hand rest) h l ws k found)
  ok_push calls account hand rest h Continues l ws k small balance a w r None e = tt
  ok_push calls account hand rest h Continues l ws k small balance a w r (Some function) e = by (nat_le (call_bytes_in page (Some function)) account) refl
    where
      room : (n : ℕ) → n ≤ body_temporaries function.body → HasRoom program page (l ∷ calls) n
      room n less = subst (λ z. 2 + slots_words (slots_in z) + n ≤ words_in z) (sym e) (omega (arith, less))

      by : (q : Bool) → nat_le (call_bytes_in page (Some function)) account ≡ q
          → KeepsFine (length calls) h Continues (if q then silent (control (l ∷ calls) (account - call_bytes_in page (Some function)) idle (body function.body ∷ fall ∷ join ∷ end ∷ k)) (push_frame h (length calls) ws) else traps kind.Stack)
      by false q = tt
      by true q = (
        omega arith,
        record {
          small = push_fits h (length calls) ws a.0 small;
          words = (sound_literals program runs.sound l function e, (tt, (tt, (tt, w))));
          balance = took account (call_bytes_in page (Some function)) (call_bytes_in page (slice_get program.functions l)) (taken program page calls) limit (leb-true _ _ q) (ap (call_bytes_in page) e) balance;
          fits = ((refl, room (body_temporaries function.body) (omega arith)), ((refl, room 0 (omega arith)), ((refl, tt), (a.1, r))));
          hand_fits = tt;
        },
      )

  -- nothing comes back only where no value is delivered
  none_back : (k : List Item) (function : Function ℕ) → (value ≡ at_join function.gives → ⊥) → GivesBack k (Some function) → HandFits program page (returned None) k
  none_back [] function none_ g = tt
  none_back (deliver None ∷ k) function none_ g = tt
  none_back (deliver (Some x) ∷ k) function none_ g = none_ (sym (ap at_join g))
  none_back (_ ∷ k) function none_ g = tt

  comes_back : (z : Hand) (k m : List Item) (function : Function ℕ) → IsPlain z → at_hand z ≡ at_join function.gives → GivesBack k (Some function) → HandFits program page z m → HandFits program page (returned (hand_value z)) k
  comes_back (holds v) k m function plain e g p = p
  comes_back idle k m function plain e g p = none_back k function (λ n. no_value (e ∙ sym n)) g
  comes_back (returned v) k m function plain e g p = none_back k function (λ n. no_back (is_some v) (e ∙ sym n)) g
  comes_back (entering l ws) k m function plain e g p = absurd plain
  comes_back (framing l ws) k m function plain e g p = absurd plain

  -- ---- a step of the whole

  -- the types of the states that a step of the whole leads to
  abbrev TypedIn : (gives : Bool) → Within → Stack → Move → Type 0
  TypedIn gives context whole (silent t g) = TypedState program gives (within context t) g
  TypedIn gives context whole (ticks t g) = TypedState program gives (within context t) g
  TypedIn gives context whole (prints v t g) = TypedState program gives (within context t) g
  TypedIn gives context whole (spawns child lent x t kept) = TypedState program gives (within context (inside child x t)) whole
  TypedIn gives context whole (syncs t) = TypedState program gives (within context t) whole
  TypedIn gives context whole _ = Unit {0}

  typed_alone : (gives : Bool) (whole : Stack) (m : Move) → KeepsTyped program gives (elided program page input gives whole m) → TypedIn gives alone whole m
  typed_alone gives whole (silent t g) e = e
  typed_alone gives whole (ticks t g) e = e
  typed_alone gives whole (prints v t g) e = e
  typed_alone gives whole (spawns child lent x t kept) e = e
  typed_alone gives whole (syncs t) e = e
  typed_alone gives whole _ e = tt

  typed_before : (gives : Bool) (y : Destination) (z : Control) (whole : Stack) (arrives : Option ℤ → Move) (m n : Move) → IsInside y z arrives (elided program page input gives whole m) n → KeepsTyped program gives n
      → TypedIn gives (before y z) whole m
  typed_before gives y z whole arrives (silent t g) n i e = subst (KeepsTyped program gives) i e
  typed_before gives y z whole arrives (ticks t g) n i e = subst (KeepsTyped program gives) i e
  typed_before gives y z whole arrives (prints v t g) n i e = subst (KeepsTyped program gives) i e
  typed_before gives y z whole arrives (spawns child lent x t kept) n i e = subst (KeepsTyped program gives) i e
  typed_before gives y z whole arrives (syncs t) n i e = subst (KeepsTyped program gives) i e
  typed_before gives y z whole arrives _ n i e = tt

  typed_in : (gives : Bool) (context : Within) (c : Control) (whole : Stack) → TypedState program gives (within context c) whole → TypedIn gives context whole (step program page input c whole)
  typed_in gives alone c whole t = typed_alone gives whole (step program page input c whole) (typed_step program page input gives c whole (sound_typed program runs.sound) t)
  typed_in gives (before y z) c whole t = typed_before gives y z whole (arrival y z c whole) (step program page input c whole) _ (step_inside program page input y z c whole)
      (typed_step program page input gives (inside c y z) whole (sound_typed program runs.sound) t)

  -- a child before a continuation that is in a context
  child_within : (context : Within) (child t : Control) (x : Destination) → within context (inside child x t) ≡ within (before x (within context t)) child
  child_within alone child t x = refl
  child_within (before y z) child t x = ap (λ k. control child.calls child.account child.hand k) (append_assoc child.rest (deliver x ∷ t.rest) (deliver y ∷ z.rest))

  -- more items behind those of a state in a context
  abbrev behind : Within → List Item
  behind alone = []
  behind (before y z) = deliver y ∷ z.rest

  in_context : (context : Within) (c : Control) → within context c ≡ control c.calls c.account c.hand (c.rest ++ behind context)
  in_context alone c = ap (control c.calls c.account c.hand) (sym (append-nil c.rest))
  in_context (before y z) c = refl

  module _ (c : Control) (h : Stack) (x : Formed program page limit c h) where
    abbrev others_here : Stack
    others_here = others h x.whole x.is_part

    -- a state is typed in the context
    abbrev IsTyped : Control → Stack → Type 0
    IsTyped t g = TypedState program x.gives (within x.context t) g

    -- the continuation of a spawn is typed
    abbrev Continues : Control → Type 0
    Continues t = IsTyped t x.whole

    under : (n : ℕ) → length c.calls ≤ n → IsUnder n others_here
    under n l =
        let low : IsUnder (length c.calls) x.whole = subst (λ calls. IsUnder (length calls) x.whole) (context_calls x.context c) x.typed.below in
        others_under n h x.whole x.is_part (record { words = λ d s i m. low.words d s i (omega (arith, l, m)); references = λ d s m. low.references d s (omega (arith, l, m)) })

    formed : (t : Control) (g big : Stack) → Fine t g → IsTyped t big → IsPartOf g big → IsSettled t g → Formed program page limit t g
    formed t g big f typed p s = record {
      gives = x.gives;
      context = x.context;
      whole = big;
      typed = typed;
      is_part = p;
      settled = s;
      small = f.small;
      words = f.words;
      balance = f.balance;
      fits = f.fits;
      hand_fits = f.hand_fits;
    }

    child_formed : (child t : Control) (lent : Stack) (y : Destination) → Fine child lent → IsTyped (inside child y t) x.whole → IsPartOf lent x.whole → IsSettled child lent → Formed program page limit child lent
    child_formed child t lent y f typed p s = record {
      gives = x.gives;
      context = before y (within x.context t);
      whole = x.whole;
      typed = subst (λ z. TypedState program x.gives z x.whole) (child_within x.context child t y) typed;
      is_part = p;
      settled = s;
      small = f.small;
      words = f.words;
      balance = f.balance;
      fits = f.fits;
      hand_fits = f.hand_fits;
    }

    abbrev Typed : Move → Type 0
    Typed m = TypedIn x.gives x.context x.whole m

    -- a step is kept where its states are fine, it is done beside the other words of the whole, and that is typed and settled
    finish : (m y : Move) → KeepsFine (length c.calls) h Continues m → IsBeside others_here m y → Typed y → Keeps IsSettled m → Keeps IsSettled (serial Control Stack Destination (step program page input) inside h m)
        → KeepsFormed program page limit h m
    finish (silent t g) y f b i s o = let z = b (under (length t.calls) f.0) in formed t g z.0 f.1 (subst Typed z.1 i) (part_of_sum g others_here z.0 z.2) s
    finish (ticks t g) y f b i s o = let z = b (under (length t.calls) f.0) in formed t g z.0 f.1 (subst Typed z.1 i) (part_of_sum g others_here z.0 z.2) s
    finish (prints v t g) y f b i s o = let z = b (under (length t.calls) f.0) in formed t g z.0 f.1 (subst Typed z.1 i) (part_of_sum g others_here z.0 z.2) s
    finish (spawns child lent w t kept) y f b i s o =
        let typed : IsTyped (inside child w t) x.whole = subst Typed b.2 i in (
          child_formed child t lent w f.0 typed (part_of_part lent h x.whole f.3 x.is_part) s.0,
          formed t kept x.whole f.1 f.5 (part_of_part kept h x.whole f.4 x.is_part) s.1,
          formed (inside child w t) h x.whole f.2 typed x.is_part o,
        )
    finish (syncs t) y f b i s o = formed t h x.whole f (subst Typed b i) x.is_part o
    finish _ y f b i s o = tt

    typed_step_here : Typed (step program page input c x.whole)
    typed_step_here = typed_in x.gives x.context c x.whole x.typed

    law : Lawful program page input c h (step program page input c h)
    law = good_law program page input c h x.settled

    finished : KeepsFine (length c.calls) h Continues (step program page input c h) → KeepsFormed program page limit h (step program page input c h)
    finished f = finish (step program page input c h) (step program page input c x.whole) f
        (beside program page input h others_here x.whole (others_sum h x.whole x.is_part) c (under (length c.calls) (omega arith))) typed_step_here law.keeps law.goes_

  -- ---- the step of a formed state

  plain_step : (calls : List ℕ) (account : ℕ) (hand : Hand) (item : Item) (k : List Item) (g : Stack) → IsPlain hand
      → step program page input (control calls account hand (item ∷ k)) g ≡ item_step program page input (control calls account hand (item ∷ k)) g item k
  plain_step calls account idle item k g p = refl
  plain_step calls account (holds v) item k g p = refl
  plain_step calls account (returned v) item k g p = refl
  plain_step calls account (entering l ws) item k g p = absurd p
  plain_step calls account (framing l ws) item k g p = absurd p

  -- the state with what is behind it
  typed_here : (calls : List ℕ) (account : ℕ) (hand : Hand) (rest : List Item) (h : Stack) (x : Formed program page limit (control calls account hand rest) h)
      → TypedState program x.gives (control calls account hand (rest ++ behind x.context)) x.whole
  typed_here calls account hand rest h x = subst (λ z. TypedState program x.gives z x.whole) (in_context x.context (control calls account hand rest)) x.typed

  gave : (account bytes others limit : ℕ) → account + (bytes + others) ≡ limit → (account + bytes) + others ≡ limit
  gave account bytes others limit b = omega (arith, b)

  keeps_item : (calls : List ℕ) (account : ℕ) (hand : Hand) (item : Item) (k : List Item) (h : Stack) → IsPlain hand → (x : Formed program page limit (control calls account hand (item ∷ k)) h)
      → Running program x.whole x.gives calls (at_hand hand) (item ∷ (k ++ behind x.context)) → KeepsFormed program page limit h (step program page input (control calls account hand (item ∷ k)) h)
  keeps_item [] account hand item k h plain x r = absurd (cons_empty item (k ++ behind x.context) r.1)
  keeps_item (f ∷ callers) account hand end k h plain x r =
      let c : Control = control (f ∷ callers) account hand (end ∷ k) in
      let fine : Fine (control callers (account + call_bytes_in page (slice_get program.functions f)) (returned (hand_value hand)) k) (pop_frame h (length callers)) = record {
        small = pop_fits h (length callers) x.small;
        words = x.words.1;
        balance = gave account (call_bytes_in page (slice_get program.functions f)) (taken program page callers) limit x.balance;
        fits = x.fits.1;
        hand_fits = comes_back hand k (end ∷ k) r.0 plain r.2.0 (subst (GivesBack k) r.1 x.fits.0) x.hand_fits;
      } in
      subst (KeepsFormed program page limit h) (sym (plain_step (f ∷ callers) account hand end k h plain))
      (formed c h x _ (pop_frame h (length callers)) (pop_frame x.whole (length callers)) fine (subst (Typed c h x) (plain_step (f ∷ callers) account hand end k x.whole plain) (typed_step_here c h x))
      (popped_part h x.whole (length callers) x.is_part) (subst (Keeps IsSettled) (plain_step (f ∷ callers) account hand end k h plain) (law c h x).keeps))
  keeps_item (f ∷ callers) account hand item k h plain x r =
      let c : Control = control (f ∷ callers) account hand (item ∷ k) in
      let frames = frames_of program x.gives (control (f ∷ callers) account hand (item ∷ (k ++ behind x.context))) x.whole (typed_here (f ∷ callers) account hand (item ∷ k) h x) in
      finished c h x (subst (KeepsFine (length (f ∷ callers)) h (Continues c h x)) (sym (plain_step (f ∷ callers) account hand item k h plain))
      (ok_item f callers account hand (item ∷ k) h (Continues c h x) x.small x.balance
      (λ a z e. array_fits program page limit (f ∷ callers) z runs.sound (row_within program page limit (f ∷ callers) account hand (item ∷ k) h a z x (omega arith) e))
      x.whole r.0 r.2 (Outer program x.whole x.gives callers (back r.0.gives)) (behind x.context) plain
      (λ m i. subst (λ z. TypedState program x.gives z x.whole) (sym (in_context x.context (control (f ∷ callers) account idle m)))
      (state program x.gives (f ∷ callers) account idle (m ++ behind x.context) x.whole frames (running program x.gives (f ∷ callers) x.whole idle (m ++ behind x.context) tt (r.0, r.1, r.2, r.3, i))))
      item k tt x.words.0 x.words.1 x.fits.0 x.fits.1 x.hand_fits r.4))

  keeps_plain : (calls : List ℕ) (account : ℕ) (hand : Hand) (item : Item) (k : List Item) (h : Stack) → IsPlain hand
      → Formed program page limit (control calls account hand (item ∷ k)) h → KeepsFormed program page limit h (step program page input (control calls account hand (item ∷ k)) h)
  keeps_plain calls account hand item k h plain x =
      keeps_item calls account hand item k h plain x (runs_on program page limit x.whole x.gives calls hand (item ∷ (k ++ behind x.context)) plain (typed_here calls account hand (item ∷ k) h x).rest)

  keeps : (calls : List ℕ) (account : ℕ) (hand : Hand) (rest : List Item) (h : Stack) → Formed program page limit (control calls account hand rest) h
      → KeepsFormed program page limit h (step program page input (control calls account hand rest) h)
  keeps calls account (entering l ws) k h x =
      finished (control calls account (entering l ws) k) h x (omega arith, record { small = x.small; words = x.words; balance = x.balance; fits = x.fits; hand_fits = x.hand_fits })
  keeps calls account (framing l ws) k h x = finished (control calls account (framing l ws) k) h x
      (ok_push calls account (framing l ws) k h (Continues (control calls account (framing l ws) k) h x) l ws k x.small x.balance x.hand_fits x.words x.fits (slice_get program.functions l) refl)
  keeps calls account idle [] h x = tt
  keeps calls account (holds v) [] h x = tt
  keeps calls account (returned v) [] h x = tt
  keeps calls account idle (item ∷ k) h x = keeps_plain calls account idle item k h tt x
  keeps calls account (holds v) (item ∷ k) h x = keeps_plain calls account (holds v) item k h tt x
  keeps calls account (returned v) (item ∷ k) h x = keeps_plain calls account (returned v) item k h tt x

  -- a step keeps a state formed
  pub step_keeps : (c : Control) (h : Stack) → Formed program page limit c h → KeepsFormed program page limit h (step program page input c h)
  step_keeps c h x = keeps c.calls c.account c.hand c.rest h x

  -- the first state is formed
  pub start_formed : Formed program page limit (start_of program.main limit) empty_stack
  start_formed = record {
    gives = true;
    context = alone;
    whole = empty_stack;
    typed = typed_start program limit (sound_typed program runs.sound);
    is_part = record { words = λ d s i. (absent, refl); references = λ d s. (absent, refl) };
    settled = first_settled program.main limit;
    small = empty_fits;
    words = tt;
    balance = omega arith;
    fits = tt;
    hand_fits = (tt, tt);
  }
