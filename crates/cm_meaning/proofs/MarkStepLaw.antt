-- Where the mark of each function allows its body, steps keep rests that the marks of their calls allow.
use Rattle.std.proofs.Common.{◌≡◌, ℕ, ◌+◌, List, [], ◌∷◌, length, Option, None, Some, refl, sym, subst, inl, inr}
use Rattle.std.specs.Prelude.{Bool, true, false, if◌then◌else◌, nat_le, ℤ, pos, slice_get}
use Rattle.cm_syntax.specs.declared.expr.Op.{Op}
use Rattle.cm_syntax.specs.declared.expr.Op.TheVariants as op
use Rattle.cm_syntax.specs.declared.expr.Expr.{Expr}
use Rattle.cm_syntax.specs.declared.expr.Expr.TheVariants as expression
use Rattle.cm_syntax.specs.declared.expr.Arg.TheVariants as arg
use Rattle.cm_syntax.specs.declared.expr.Call.{end_of-Arg, more_of-Arg}
use Rattle.cm_syntax.specs.declared.stmt.Extent.{Extent}
use Rattle.cm_syntax.specs.declared.stmt.Extent.TheVariants as extent
use Rattle.cm_syntax.specs.Extent.{extent_of}
use Rattle.cm_syntax.specs.declared.stmt.Item as items
use Rattle.cm_syntax.specs.declared.stmt.Target.TheVariants as target
use Rattle.cm_syntax.specs.declared.stmt.Stmt.{Stmt, end_of-Stmt, more_of-Stmt}
use Rattle.cm_syntax.specs.declared.stmt.Stmt.TheVariants as statement
use Rattle.cm_syntax.specs.declared.stmt.Function.{Function}
use Rattle.cm_syntax.specs.declared.stmt.Program.{Program}
use Rattle.cm_syntax.specs.Shape.{Joined, Prefixed, Element, InputAt, IfAlone, IfElse, WhileLoop, ForLoop}
use Rattle.cm_syntax.specs.Trap as kind
use Rattle.cm_syntax.specs.Operator.{is_zero, natural, binary_value, divides, unary_value}
use Rattle.cm_syntax.specs.Label.{traps, stuck}
use Rattle.cm_syntax.specs.Cell.{Cell}
use Rattle.cm_syntax.specs.Stack.{Reference, Stack, Argument, Destination, may_write_all}
use Rattle.cm_syntax.specs.Rest.{Purpose, called, spawned, Item, evaluate, right, apply, prefix, both, either, truth, element, read, arguments, pass, take_back, discard, deliver, perform, sequence, body, declare, assign, update, locate, store, branch, turn, test, part, tick, show, exit, fall, join, end, Hand, idle, holds, returned, entering, framing, Control}
use Rattle.cm_syntax.specs.Step.{Move, top, hold, spawn_call, when_readable, when_writable, when_value, when_result, when_some, write_step, is_index, is_split, destination_slot, invoke, enter_call, take_value, drop_value, deliver_value, declare_item, do_other, fall_off, running_function, give_input, evaluate_step, statement_step, slice_in, slot_at, leave, rest_at_join, call_bytes_in, push_call, end_call, item_step, hand_step, step}
use Rattle.cm_syntax.proofs.AccessLaw.{reading, writing}
use Rattle.cm_meaning.specs.Mark.{AllowsStatement, AllowsBody, AllowsPurpose, AllowsOther, mark_in, mark_of, AllowsRest, AreAllowed, HasAllowedBodies, KeepsMarks}

module _ (program : Program) (page : ℕ) (input : List ℤ) (c : Control) (h : Stack) where
  abbrev Ok : Move → Type 0
  Ok = KeepsMarks program c

  abbrev Allows : List Item → Type 0
  Allows = AllowsRest program c.calls

  -- ---- what a step needs

  on_value : (y : Hand) (f : ℤ → Move) → ((v : ℤ) → Ok (f v)) → Ok (when_value y f)
  on_value (holds v) f e = e v
  on_value _ f e = tt

  on_cell : {A : Type 0} (a : Cell A) (f : A → Move) → ((v : A) → Ok (f v)) → Ok (when_readable a f)
  on_cell a f e = reading Ok tt a f (λ v q. e v)

  on_free : {A : Type 0} (a : Cell A) (m : Move) → Ok m → Ok (when_writable a m)
  on_free a m e = writing Ok tt a m (λ q. e)

  on_if : (b : Bool) (x y : Move) → Ok x → Ok y → Ok (if b then x else y)
  on_if true x y e f = e
  on_if false x y e f = f

  on_result : (p : Op) (v : Option ℤ) (f : ℤ → Move) → ((w : ℤ) → Ok (f w)) → Ok (when_result p v f)
  on_result p (Some v) f e = e v
  on_result p None f e = on_if (divides p) (traps kind.Divide) stuck tt tt

  on_some : (v : Option ℤ) (f : ℤ → Move) → ((w : ℤ) → Ok (f w)) → Ok (when_some v f)
  on_some (Some v) f e = e v
  on_some None f e = tt

  on_slice : (calls : List ℕ) (h : Stack) (y : Option Extent) (s : ℕ) (f : Reference → Move) → ((r : Reference) → Ok (f r)) → Ok (slice_in calls h y s f)
  on_slice calls h (Some extent.Word) s f e = e _
  on_slice calls h (Some (extent.Words w)) s f e = e _
  on_slice calls h (Some extent.Reference) s f e = on_cell _ f e
  on_slice calls h None s f e = tt

  on_write : (d s i : ℕ) (o : Option Op) (v : ℤ) (k : List Item) → Allows k → Ok (write_step c h d s i o v k)
  on_write d s i None v k m = on_free (h.words d s i) _ m
  on_write d s i (Some p) v k m = on_free (h.words d s i) _ (on_cell (h.words d s i) _ (λ old. on_result p (binary_value p old v) _ (λ w. m)))

  module _ (k : List Item) (m : Allows k) where
    on_call : (u : Purpose) (f : ℕ) (ws : List Argument) → AllowsPurpose (mark_of program c.calls) u → Ok (enter_call c h u f ws k)
    on_call called f ws a = m
    on_call (spawned None) f ws a = (a, tt, m)
    on_call (spawned (Some x)) f ws a = on_free (h.words (top c.calls) x 0) (spawn_call c h f ws (Some (record { depth = top c.calls; slot = x })) k) (a, tt, m)

    on_take : (y : Hand) → Ok (take_value c h y k)
    on_take (returned (Some v)) = m
    on_take (returned None) = tt
    on_take _ = tt

    on_drop : (y : Hand) → Ok (drop_value c h y k)
    on_drop (returned v) = m
    on_drop _ = tt

    on_deliver : (y : Hand) (x : Destination) → Ok (deliver_value c h y x k)
    on_deliver (returned v) None = m
    on_deliver (returned None) (Some x) = m
    on_deliver (returned (Some v)) (Some x) = on_write x.depth x.slot 0 None v k m
    on_deliver _ _ = tt

    on_input : (v : Option ℤ) → Ok (give_input program page input c h v k)
    on_input None = tt
    on_input (Some v) = m

    on_other : (s : Option (Stmt ℕ)) → AllowsOther (mark_of program c.calls) s → Ok (do_other c h s k)
    on_other None a = m
    on_other (Some s) a = (a, m)

    on_fall : (f : Option (Function ℕ)) → Ok (fall_off c h f k)
    on_fall None = tt
    on_fall (Some f) = on_if f.gives _ _ m m

    on_declare : (x : ℕ) (z : Extent) (e : Option (Expr ℕ)) (more : List (items.Item ℕ)) → Ok (declare_item c h x z e more k)
    on_declare x extent.Word None more = on_write _ x 0 None (pos 0) (declare more ∷ k) (tt, m)
    on_declare x extent.Word (Some e) more = (tt, (tt, (tt, m)))
    on_declare x (extent.Words n) e more = on_if (may_write_all _ n) _ stuck (tt, m) tt
    on_declare x extent.Reference e more = tt

    on_invoke : (u : Purpose) (e : Expr ℕ) → AllowsPurpose (mark_of program c.calls) u → Ok (invoke c h u e k)
    on_invoke u (expression.Call' f _ row) a = (a, m)
    on_invoke u _ a = tt

    on_leave : (r : Option (List Item)) → rest_at_join k ≡ r → Ok (leave c h r)
    on_leave None e = tt
    on_leave (Some r) e = at_join k r e m
      where
        at_join : (k r : List Item) → rest_at_join k ≡ Some r → Allows k → Allows r
        at_join [] r e m = cc e
        at_join (join ∷ k) r e m = let is : join ∷ k ≡ r = cc in subst Allows is m
        at_join (end ∷ k) r e m = cc e
        at_join (_ ∷ k) r e m = at_join k r e m.1

    on_evaluate : (e : Expr ℕ) → Ok (evaluate_step program page input c h e k)
    on_evaluate (expression.Number n) = m
    on_evaluate (expression.Scalar x) = on_cell (h.words (top c.calls) x.name 0) (λ v. hold c h v k) (λ v. m)
    on_evaluate (Element a e) = (tt, (tt, m))
    on_evaluate (expression.Len a) = on_slice c.calls h (slot_at program page input c.calls a.name) a.name _ (λ r. m)
    on_evaluate (InputAt e) = (tt, (tt, m))
    on_evaluate expression.Inputs = m
    on_evaluate (Prefixed p e) = (tt, (tt, m))
    on_evaluate (Joined op.Both a b) = (tt, (tt, m))
    on_evaluate (Joined op.Either a b) = (tt, (tt, m))
    on_evaluate (Joined p a b) = (tt, (tt, m))
    on_evaluate (expression.Call' f _ row) = (tt, (tt, m))

  on_statement : (k : List Item) (m : Allows k) (s : Stmt ℕ) → AllowsStatement (mark_of program c.calls) s → Ok (statement_step program page input c h s k)
  on_statement k m statement.Empty a = m
  on_statement k m (statement.Declare row) a = (tt, m)
  on_statement k m (statement.Assign (target.Scalar x) None e) a = (tt, (tt, m))
  on_statement k m (statement.Assign (target.Scalar x) (Some p) e) a = (tt, (tt, m))
  on_statement k m (statement.Assign (target.Index x index) p e) a = (tt, (tt, m))
  on_statement k m (statement.Call call) a = on_invoke (discard ∷ k) (tt, m) called (expression.Call call) tt
  on_statement k m (statement.Spawn at x call) a = on_invoke k m (spawned (destination_slot x)) (expression.Call call) a
  on_statement k m (statement.Sync at) a = (inl a, m)
  on_statement k m (IfAlone t s) a = (tt, ((a, tt), m))
  on_statement k m (IfElse t s p) a = (tt, (a, m))
  on_statement k m (WhileLoop t s) a = ((tt, a), m)
  on_statement k m (ForLoop first t s p) a = (a.0, ((a.1, a.2), m))
  on_statement k m (statement.Split' x index l r _ row close) a = (tt, (a, m))
  on_statement k m (statement.Return at None) a = (tt, m)
  on_statement k m (statement.Return at (Some e)) a = (tt, (tt, m))
  on_statement k m (statement.Print e) a = (tt, (tt, (tt, m)))
  on_statement k m (statement.Block' _ row) a = (a, m)

  -- ---- items

  on_item : (i : Item) (k : List Item) → c.rest ≡ i ∷ k → Allows (i ∷ k) → Ok (item_step program page input c h i k)
  on_item (evaluate e) k q a = on_evaluate k a.1 e
  on_item (right o r) k q a = on_value c.hand _ (λ v. (tt, (tt, a.1)))
  on_item (apply o x) k q a = on_value c.hand _ (λ v. on_result o (binary_value o x v) _ (λ w. a.1))
  on_item (prefix o) k q a = on_value c.hand _ (λ v. on_some (unary_value o v) _ (λ w. a.1))
  on_item (both r) k q a = on_value c.hand _ (λ v. on_if (is_zero v) _ _ (tt, a.1) (tt, (tt, a.1)))
  on_item (either r) k q a = on_value c.hand _ (λ v. on_if (is_zero v) _ _ (tt, (tt, a.1)) (tt, a.1))
  on_item truth k q a = on_value c.hand _ (λ v. a.1)
  on_item (element s) k q a = on_value c.hand _ (λ v. on_slice c.calls h (slot_at program page input c.calls s) s _ (λ r.
      on_if (is_index v r.length) _ _ (on_cell (h.words r.depth r.slot (r.start + natural v)) _ (λ w. a.1)) tt))
  on_item read k q a = on_value c.hand _ (λ v. on_if (is_index v (length input)) _ _ (on_input k a.1 (slice_get input (natural v))) tt)
  on_item (arguments u f ws end_of-Arg) k q a = on_call k a.1 u f ws a.0
  on_item (arguments u f ws (more_of-Arg (arg.Value x) more)) k q a = (tt, a)
  on_item (arguments u f ws (more_of-Arg (arg.Slice x) more)) k q a = on_slice c.calls h (slot_at program page input c.calls x.name) x.name _ (λ r. a)
  on_item (arguments u f ws (more_of-Arg (arg.Address x) more)) k q a = a
  on_item (pass u f ws more) k q a = on_value c.hand _ (λ v. a)
  on_item take_back k q a = on_take k a.1 c.hand
  on_item discard k q a = on_drop k a.1 c.hand
  on_item (deliver x) k q a = on_deliver k a.1 c.hand x
  on_item (perform s) k q a = on_statement k a.1 s a.0
  on_item (sequence end_of-Stmt) k q a = a.1
  on_item (sequence (more_of-Stmt s more)) k q a = (a.0.0, (a.0.1, a.1))
  on_item (body []) k q a = a.1
  on_item (body (s ∷ more)) k q a = (a.0.0, (a.0.1, a.1))
  on_item (declare []) k q a = a.1
  on_item (declare (x ∷ more)) k q a = on_declare k a.1 x.name.name (extent_of x.slot) x.first more
  on_item (assign x) k q a = on_value c.hand _ (λ v. on_write _ x 0 None v k a.1)
  on_item (update x o) k q a = on_value c.hand _ (λ v. on_write _ x 0 (Some o) v k a.1)
  on_item (locate s o e) k q a = on_value c.hand _ (λ v. on_slice c.calls h (slot_at program page input c.calls s) s _ (λ r. on_if (is_index v r.length) _ _ (tt, (tt, a.1)) tt))
  on_item (store s i o) k q a = on_value c.hand _ (λ v. on_slice c.calls h (slot_at program page input c.calls s) s _ (λ r. on_write r.depth r.slot (r.start + i) o v k a.1))
  on_item (branch s o) k q a = on_value c.hand _ (λ v. on_if (is_zero v) _ _ (on_other k a.1 o a.0.1) (a.0.0, a.1))
  on_item (turn (Some t) s b) k q a = (tt, a)
  on_item (turn None s b) k q a = (tt, (a.0.1, (a.0.0, a)))
  on_item (test t s b) k q a = on_value c.hand _ (λ v. on_if (is_zero v) _ _ a.1 (tt, (a.0.1, (a.0.0, a))))
  on_item (part s l r row) k q a = on_value c.hand _ (λ v. on_slice c.calls h (slot_at program page input c.calls s) s _ (λ x. on_if (is_split v x.length) _ _ (on_free (h.references (top c.calls) l) _ (on_free (h.references (top c.calls) r) _ a)) tt))
  on_item tick k q a = a.1
  on_item show k q a = on_value c.hand _ (λ v. a.1)
  on_item exit k q a = on_leave k a.1 (rest_at_join k) refl
  on_item fall k q a = on_fall k a.1 (running_function program page input c.calls)
  on_item join k q a = (inr q, a.1)
  on_item end k q a = ended c.calls a
    where
      ended : (calls : List ℕ) → AllowsRest program calls (end ∷ k) → Ok (end_call program page input c h calls k)
      ended [] a = tt
      ended (f ∷ calls) a = a

  -- ---- calls

  pushed : (bodies : HasAllowedBodies program) (f : ℕ) (ws : List Argument) (k : List Item) (y : Option (Function ℕ)) → slice_get program.functions f ≡ y → Allows k → Ok (push_call program page input c h f ws k y)
  pushed bodies f ws k None e a = tt
  pushed bodies f ws k (Some y) e a = on_if (nat_le (call_bytes_in page (Some y)) c.account) _ (traps kind.Stack) (subst (λ z. AllowsBody (mark_in z) y.body) (sym e) (bodies f y e), (tt, (tt, a))) tt

  pub steps_allowed : (bodies : HasAllowedBodies program) → AreAllowed program c → Ok (step program page input c h)
  steps_allowed bodies a = by c.hand c.rest refl a
    where
      by : (z : Hand) (k : List Item) → c.rest ≡ k → Allows k → Ok (hand_step program page input c h z k)
      by (entering f ws) k e a = a
      by (framing f ws) k e a = pushed bodies f ws k (slice_get program.functions f) refl a
      by idle [] e a = tt
      by (holds v) [] e a = tt
      by (returned v) [] e a = tt
      by idle (i ∷ k) e a = on_item i k e a
      by (holds v) (i ∷ k) e a = on_item i k e a
      by (returned v) (i ∷ k) e a = on_item i k e a
