-- The one walk: rules for the moves of any property of two moves are the property of the steps of all items but the end of a
-- call. The two are the steps of one item before two rests, on any stack; a property of one move leaves the second out.
use Rattle.std.proofs.Common.{◌≡◌, ◌≢◌, ℕ, zero, suc, ◌+◌, ◌<◌, List, [], ◌∷◌, ◌++◌, length, Option, None, Some, refl, sym, ◌∙◌, subst, arith, inl, inr}
use Rattle.std.proofs.lemmas.Bool.Decides.{eqb_tells}
use Rattle.std.specs.Prelude.{◌&&◌, Bool, true, false, if◌then◌else◌, ℤ, pos, slice_get}
use Rattle.cm_syntax.specs.declared.expr.Op.{Op}
use Rattle.cm_syntax.specs.declared.expr.Op.TheVariants as op
use Rattle.cm_syntax.specs.declared.expr.Expr.{Expr}
use Rattle.cm_syntax.specs.declared.expr.Expr.TheVariants as expression
use Rattle.cm_syntax.specs.declared.expr.Arg.TheVariants as arg
use Rattle.cm_syntax.specs.declared.expr.Call.{end_of-Arg, more_of-Arg}
use Rattle.cm_syntax.specs.declared.stmt.Extent.{Extent}
use Rattle.cm_syntax.specs.declared.stmt.Extent.TheVariants as extent
use Rattle.cm_syntax.specs.Extent.{extent_of}
use Rattle.cm_syntax.specs.declared.stmt.Item as items
use Rattle.cm_syntax.specs.declared.stmt.Target.TheVariants as target
use Rattle.cm_syntax.specs.declared.stmt.Stmt.{Stmt, end_of-Stmt, more_of-Stmt}
use Rattle.cm_syntax.specs.declared.stmt.Stmt.TheVariants as statement
use Rattle.cm_syntax.specs.declared.stmt.Function.{Function}
use Rattle.cm_syntax.specs.declared.stmt.Program.{Program}
use Rattle.cm_syntax.specs.Shape.{Joined, Prefixed, Element, InputAt, IfAlone, IfElse, WhileLoop, ForLoop}
use Rattle.cm_syntax.specs.Operator.{is_zero, natural, binary_value, divides, unary_value}
use Rattle.cm_syntax.specs.Label as move
use Rattle.cm_syntax.specs.Cell.{Cell, may_write}
use Rattle.cm_syntax.specs.Stack.{Reference, Stack, Argument, slice, Destination, may_write_all}
use Rattle.cm_syntax.specs.Stack as stack
use Rattle.cm_syntax.specs.Rest.{Purpose, called, spawned, Item, evaluate, right, apply, prefix, both, either, truth, element, read, arguments, pass, take_back, discard, deliver, perform, sequence, body, declare, assign, update, locate, store, branch, turn, test, part, tick, show, exit, fall, join, end, Hand, idle, holds, returned, Control, control}
use Rattle.cm_syntax.specs.Step.{Move, top, when_writable, when_value, when_result, when_some, write_step, is_index, is_split, scalar_slice, destination_slot, invoke, enter_call, take_value, drop_value, deliver_value, declare_item, do_other, fall_off, running_function, give_input, evaluate_step, statement_step, slice_in, slot_at, item_step}
use Rattle.cm_syntax.proofs.AccessLaw.{writing, writes_on}
use Rattle.cm_meaning.specs.Law.{writes_next}
use Rattle.cm_meaning.proofs.Walk.{IsPlainRow, IsNoEnd, nothing, word, zeros, parts, Rules, MoveRules, of_move, IsFree, IsFreeReference}

-- ---- counting

pub none_below : (i : ℕ) → i < 0 → ⊥
none_below i l = omega (arith, l)

pub below : (i n : ℕ) → (i ≢ n) → i < suc n → i < n
below i n d l = omega (arith, d, l)

-- of words that are all to be written the last is written, and then the others
last_first : (words : ℕ → Cell ℤ) (n : ℕ) (m : Move) → when_writable (words n) (if may_write_all words n then m else move.stuck) ≡ (if may_write_all words (suc n) then m else move.stuck)
last_first words n m = by (may_write (words n)) refl
  where
    by : (q : Bool) → may_write (words n) ≡ q → when_writable (words n) (if may_write_all words n then m else move.stuck) ≡ (if q && may_write_all words n then m else move.stuck)
    by true e = writes_on (words n) _ e
    by false e = writing (λ z. z ≡ move.stuck) refl (words n) _ (λ w. cc (sym w ∙ e))

module _ (program : Program) (page : ℕ) (input : List ℤ) (writes : Bool) (MayWrite : (depth slot index : ℕ) → Type 0) (MayRefer : (depth slot : ℕ) → Type 0)
    (P : (Stack → Move) → (Stack → Move) → Type 0) (c : Control) (account : ℕ) (rest : List Item) (k l : List Item) where
  -- the control of the second
  abbrev other : Control
  other = control c.calls account c.hand rest

  module _ (rules : Rules writes MayWrite MayRefer P c account rest k l) where
    -- a step that changes no word: with nothing at hand, or with a value
    going : (new : List Item) → IsPlainRow new → P (λ h. move.silent (control c.calls c.account idle (new ++ k)) h) (λ h. move.silent (control c.calls account idle (new ++ l)) h)
    going new q = rules.goes nothing idle new tt q

    giving : (v : ℤ) (new : List Item) → IsPlainRow new → P (λ h. move.silent (control c.calls c.account (holds v) (new ++ k)) h) (λ h. move.silent (control c.calls account (holds v) (new ++ l)) h)
    giving v new q = rules.goes nothing (holds v) new tt q

    -- what a step needs
    on_value : (y : Hand) (f m : ℤ → Stack → Move) → ((v : ℤ) → P (f v) (m v)) → P (λ h. when_value y (λ v. f v h)) (λ h. when_value y (λ v. m v h))
    on_value (holds v) f m e = e v
    on_value _ f m e = rules.none

    on_slice : (y : Option Extent) (s : ℕ) (f m : Reference → Stack → Move) → ((r : Reference) → P (f r) (m r)) → P (λ h. slice_in c.calls h y s (λ r. f r h)) (λ h. slice_in c.calls h y s (λ r. m r h))
    on_slice (Some extent.Word) s f m e = e _
    on_slice (Some (extent.Words w)) s f m e = e _
    on_slice (Some extent.Reference) s f m e = rules.reads_reference (top c.calls) s f m e
    on_slice None s f m e = rules.none

    on_if : (t : Bool) (f m x y : Stack → Move) → P f x → P m y → P (λ h. if t then f h else m h) (λ h. if t then x h else y h)
    on_if true f m x y a b = a
    on_if false f m x y a b = b

    on_result : (p : Op) (v : Option ℤ) (f m : ℤ → Stack → Move) → ((w : ℤ) → P (f w) (m w)) → P (λ h. when_result p v (λ w. f w h)) (λ h. when_result p v (λ w. m w h))
    on_result p (Some v) f m e = e v
    on_result p None f m e = on_if (divides p) _ _ _ _ (rules.error _) rules.none

    on_some : (v : Option ℤ) (f m : ℤ → Stack → Move) → ((w : ℤ) → P (f w) (m w)) → P (λ h. when_some v (λ w. f w h)) (λ h. when_some v (λ w. m w h))
    on_some (Some v) f m e = e v
    on_some None f m e = rules.none

    -- what it writes
    on_write : writes ≡ true → (d s i : ℕ) (o : Option Op) (v : ℤ) (new : List Item) → IsPlainRow new → P (λ h. write_step c h d s i o v (new ++ k)) (λ h. write_step other h d s i o v (new ++ l))
    on_write w d s i None v new q = rules.writes_word w d s i _ _ (λ m. rules.goes (word d s i v) idle new m q)
    on_write w d s i (Some p) v new q = rules.writes_word w d s i _ _ (λ m. rules.reads d s i _ _ (λ old. on_result p (binary_value p old v) _ _ (λ w. rules.goes (word d s i w) idle new m q)))

    -- words that are all to be written are written one by one
    on_all : writes ≡ true → (s n : ℕ) (f m : Stack → Move) → (((i : ℕ) → i < n → MayWrite (top c.calls) s i) → P f m)
        → P (λ h. if may_write_all (h.words (top c.calls) s) n then f h else move.stuck) (λ h. if may_write_all (h.words (top c.calls) s) n then m h else move.stuck)
    on_all w s zero f m go = go (λ i l. absurd (none_below i l))
    on_all w s (suc n) f m go = subst (λ z. P (λ h. if may_write_all (h.words (top c.calls) s) (suc n) then f h else move.stuck) z) (λ j h. last_first (h.words (top c.calls) s) n (m h) j)
        (subst (λ z. P z (λ h. when_writable (h.words (top c.calls) s n) (if may_write_all (h.words (top c.calls) s) n then m h else move.stuck))) (λ j h. last_first (h.words (top c.calls) s) n (f h) j)
        (rules.writes_word w (top c.calls) s n _ _ (λ e. on_all w s n f m (λ t. go (λ i l. elim (eqb_tells i n) [
          | inl one ↦ subst (MayWrite (top c.calls) s) (sym one.1) e
          | inr ne ↦ t i (below i n ne.1 l)
        ])))))

    -- what it does at calls, statements and expressions
    on_call : (u : Purpose) (f : ℕ) (ws : List Argument) → (writes_next (arguments u f ws end_of-Arg ∷ k) ≡ true → writes ≡ true) → P (λ h. enter_call c h u f ws k) (λ h. enter_call other h u f ws l)
    on_call called f ws w = rules.called f ws
    on_call (spawned None) f ws w = rules.spawns f ws None tt
    on_call (spawned (Some x)) f ws w = rules.writes_word (w refl) (top c.calls) x 0 _ _ (λ m. rules.spawns f ws (Some (record { depth = top c.calls; slot = x })) (refl, m))

    on_input : (v : Option ℤ) → P (λ h. give_input program page input c h v k) (λ h. give_input program page input other h v l)
    on_input None = rules.error _
    on_input (Some v) = giving v [] tt

    on_invoke : (u : Purpose) (e : Expr ℕ) (new : List Item) → IsPlainRow new → P (λ h. invoke c h u e (new ++ k)) (λ h. invoke other h u e (new ++ l))
    on_invoke u (expression.Call' f _ row) new q = going (arguments u f.name [] row ∷ new) q
    on_invoke u _ new q = rules.none

    on_take : (y : Hand) → P (λ h. take_value c h y k) (λ h. take_value other h y l)
    on_take (returned (Some v)) = giving v [] tt
    on_take (returned None) = rules.none
    on_take _ = rules.none

    on_drop : (y : Hand) → P (λ h. drop_value c h y k) (λ h. drop_value other h y l)
    on_drop (returned v) = going [] tt
    on_drop _ = rules.none

    on_deliver : writes ≡ true → (y : Hand) (x : Destination) → P (λ h. deliver_value c h y x k) (λ h. deliver_value other h y x l)
    on_deliver w (returned v) None = going [] tt
    on_deliver w (returned None) (Some x) = going [] tt
    on_deliver w (returned (Some v)) (Some x) = on_write w x.depth x.slot 0 None v [] tt
    on_deliver w _ _ = rules.none

    on_other : (s : Option (Stmt ℕ)) → P (λ h. do_other c h s k) (λ h. do_other other h s l)
    on_other None = going [] tt
    on_other (Some s) = going (perform s ∷ []) tt

    on_fall : (f : Option (Function ℕ)) → P (λ h. fall_off c h f k) (λ h. fall_off other h f l)
    on_fall None = rules.none
    on_fall (Some f) = on_if f.gives _ _ _ _ (giving (pos 0) [] tt) (going [] tt)

    on_declare : writes ≡ true → (x : ℕ) (z : Extent) (e : Option (Expr ℕ)) (more : List (items.Item ℕ)) → P (λ h. declare_item c h x z e more k) (λ h. declare_item other h x z e more l)
    on_declare w x extent.Word None more = on_write w (top c.calls) x 0 None (pos 0) (declare more ∷ []) tt
    on_declare w x extent.Word (Some e) more = going (evaluate e ∷ assign x ∷ declare more ∷ []) tt
    on_declare w x (extent.Words n) e more = on_all w x n _ _ (λ m. rules.goes (zeros x n) idle (declare more ∷ []) m tt)
    on_declare w x extent.Reference e more = rules.none

    on_evaluate : (e : Expr ℕ) → P (λ h. evaluate_step program page input c h e k) (λ h. evaluate_step program page input other h e l)
    on_evaluate (expression.Number n) = giving n [] tt
    on_evaluate (expression.Scalar x) = rules.reads (top c.calls) x.name 0 _ _ (λ v. giving v [] tt)
    on_evaluate (Element a e) = going (evaluate e ∷ element a.name ∷ []) tt
    on_evaluate (expression.Len a) = on_slice (slot_at program page input c.calls a.name) a.name _ _ (λ r. giving (pos r.length) [] tt)
    on_evaluate (InputAt e) = going (evaluate e ∷ read ∷ []) tt
    on_evaluate expression.Inputs = giving (pos (length input)) [] tt
    on_evaluate (Prefixed p e) = going (evaluate e ∷ prefix p ∷ []) tt
    on_evaluate (Joined op.Both a b) = going (evaluate a ∷ both b ∷ []) tt
    on_evaluate (Joined op.Either a b) = going (evaluate a ∷ either b ∷ []) tt
    on_evaluate (Joined p a b) = going (evaluate a ∷ right p b ∷ []) tt
    on_evaluate (expression.Call' f _ row) = going (arguments called f.name [] row ∷ take_back ∷ []) tt

    on_statement : (s : Stmt ℕ) → P (λ h. statement_step program page input c h s k) (λ h. statement_step program page input other h s l)
    on_statement statement.Empty = going [] tt
    on_statement (statement.Declare row) = going (declare row ∷ []) tt
    on_statement (statement.Assign (target.Scalar x) None e) = going (evaluate e ∷ assign x.name ∷ []) tt
    on_statement (statement.Assign (target.Scalar x) (Some p) e) = going (evaluate e ∷ update x.name p ∷ []) tt
    on_statement (statement.Assign (target.Index a index) p e) = going (evaluate index ∷ locate a.name p e ∷ []) tt
    on_statement (statement.Call call) = on_invoke called (expression.Call call) (discard ∷ []) tt
    on_statement (statement.Spawn at x call) = on_invoke (spawned (destination_slot x)) (expression.Call call) [] tt
    on_statement (statement.Sync at) = rules.syncs idle
    on_statement (IfAlone t s) = going (evaluate t ∷ branch s None ∷ []) tt
    on_statement (IfElse t s p) = going (evaluate t ∷ branch s (Some p) ∷ []) tt
    on_statement (WhileLoop t s) = going (turn (Some t) statement.Empty s ∷ []) tt
    on_statement (ForLoop first t s p) = going (perform first ∷ turn t s p ∷ []) tt
    on_statement (statement.Split' a index x y _ row close) = going (evaluate index ∷ part a.name x.name y.name row ∷ []) tt
    on_statement (statement.Return at None) = going (exit ∷ []) tt
    on_statement (statement.Return at (Some e)) = going (evaluate e ∷ exit ∷ []) tt
    on_statement (statement.Print e) = going (evaluate e ∷ tick ∷ show ∷ []) tt
    on_statement (statement.Block' _ row) = going (sequence row ∷ []) tt

    -- the step of each item but the end of a call
    pub item_law : (i : Item) → IsNoEnd i → (writes_next (i ∷ k) ≡ true → writes ≡ true) → P (λ h. item_step program page input c h i k) (λ h. item_step program page input other h i l)
    item_law end u e = absurd u
    item_law (evaluate x) u e = on_evaluate x
    item_law (right p r) u e = on_value c.hand _ _ (λ v. going (evaluate r ∷ apply p v ∷ []) tt)
    item_law (apply p a) u e = on_value c.hand _ _ (λ v. on_result p (binary_value p a v) _ _ (λ w. giving w [] tt))
    item_law (prefix p) u e = on_value c.hand _ _ (λ v. on_some (unary_value p v) _ _ (λ w. giving w [] tt))
    item_law (both r) u e = on_value c.hand _ _ (λ v. on_if (is_zero v) _ _ _ _ (giving v (truth ∷ []) tt) (going (evaluate r ∷ truth ∷ []) tt))
    item_law (either r) u e = on_value c.hand _ _ (λ v. on_if (is_zero v) _ _ _ _ (going (evaluate r ∷ truth ∷ []) tt) (giving v (truth ∷ []) tt))
    item_law truth u e = on_value c.hand _ _ (λ v. giving (if is_zero v then pos 0 else pos 1) [] tt)
    item_law (element s) u e = on_value c.hand _ _ (λ v. on_slice (slot_at program page input c.calls s) s _ _ (λ r.
        on_if (is_index v r.length) _ _ _ _ (rules.reads r.depth r.slot (r.start + natural v) _ _ (λ w. giving w [] tt)) (rules.error _)))
    item_law read u e = on_value c.hand _ _ (λ v. on_if (is_index v (length input)) _ _ _ _ (on_input (slice_get input (natural v))) (rules.error _))
    item_law (arguments p f ws end_of-Arg) u e = on_call p f ws e
    item_law (arguments p f ws (more_of-Arg (arg.Value x) more)) u e = going (evaluate x ∷ pass p f ws more ∷ []) tt
    item_law (arguments p f ws (more_of-Arg (arg.Slice x) more)) u e = on_slice (slot_at program page input c.calls x.name) x.name _ _ (λ r. going (arguments p f (slice r ∷ ws) more ∷ []) tt)
    item_law (arguments p f ws (more_of-Arg (arg.Address x) more)) u e = going (arguments p f (slice (scalar_slice (top c.calls) x.name) ∷ ws) more ∷ []) tt
    item_law (pass p f ws more) u e = on_value c.hand _ _ (λ v. going (arguments p f (stack.word v ∷ ws) more ∷ []) tt)
    item_law take_back u e = on_take c.hand
    item_law discard u e = on_drop c.hand
    item_law (deliver x) u e = on_deliver (e refl) c.hand x
    item_law (perform s) u e = on_statement s
    item_law (sequence end_of-Stmt) u e = going [] tt
    item_law (sequence (more_of-Stmt s m)) u e = going (perform s ∷ sequence m ∷ []) tt
    item_law (body []) u e = going [] tt
    item_law (body (s ∷ m)) u e = going (perform s ∷ body m ∷ []) tt
    item_law (declare []) u e = going [] tt
    item_law (declare (x ∷ more)) u e = on_declare (e refl) x.name.name (extent_of x.slot) x.first more
    item_law (assign x) u e = on_value c.hand _ _ (λ v. on_write (e refl) (top c.calls) x 0 None v [] tt)
    item_law (update x p) u e = on_value c.hand _ _ (λ v. on_write (e refl) (top c.calls) x 0 (Some p) v [] tt)
    item_law (locate s p x) u e = on_value c.hand _ _ (λ v. on_slice (slot_at program page input c.calls s) s _ _ (λ r.
        on_if (is_index v r.length) _ _ _ _ (going (evaluate x ∷ store s (natural v) p ∷ []) tt) (rules.error _)))
    item_law (store s i p) u e = on_value c.hand _ _ (λ v. on_slice (slot_at program page input c.calls s) s _ _ (λ r. on_write (e refl) r.depth r.slot (r.start + i) p v [] tt))
    item_law (branch s p) u e = on_value c.hand _ _ (λ v. on_if (is_zero v) _ _ _ _ (on_other p) (going (perform s ∷ []) tt))
    item_law (turn (Some t) s p) u e = going (evaluate t ∷ test t s p ∷ []) tt
    item_law (turn None s p) u e = going (tick ∷ perform p ∷ perform s ∷ turn None s p ∷ []) tt
    item_law (test t s p) u e = on_value c.hand _ _ (λ v. on_if (is_zero v) _ _ _ _ (going [] tt) (going (tick ∷ perform p ∷ perform s ∷ turn (Some t) s p ∷ []) tt))
    item_law (part s a b row) u e = on_value c.hand _ _ (λ v. on_slice (slot_at program page input c.calls s) s _ _ (λ x. on_if (is_split v x.length) _ _ _ _
        (rules.writes_reference (e refl) (top c.calls) a _ _ (λ m. rules.writes_reference (e refl) (top c.calls) b _ _ (λ o.
        rules.goes (parts a b x (natural v)) idle (sequence row ∷ []) (m, o) tt))) (rules.error _)))
    item_law tick u e = rules.ticks c.hand
    item_law show u e = on_value c.hand _ _ (λ v. rules.prints v)
    item_law exit u e = rules.leaves
    item_law fall u e = on_fall (running_function program page input c.calls)
    item_law join u e = rules.syncs c.hand

-- the same of one move on one stack
pub move_law : (program : Program) (page : ℕ) (input : List ℤ) (P : Move → Type 0) (c : Control) (h : Stack) (k : List Item) → MoveRules P c h k → (i : Item) → IsNoEnd i → P (item_step program page input c h i k)
move_law program page input P c h k rules i u = item_law program page input true (IsFree h) (IsFreeReference h) (λ f m. P (f h)) c c.account c.rest k k (of_move P c h k rules) i u (λ e. refl)
