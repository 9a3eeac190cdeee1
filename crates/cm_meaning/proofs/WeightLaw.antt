-- Each step that takes no tick lowers the weight.
use Rattle.std.proofs.Common.{◌≡◌, ℕ, ◌+◌, ◌<◌, ◌≤◌, List, [], ◌∷◌, length, Option, None, Some, refl, sym, subst, arith}
use Rattle.std.specs.Prelude.{Bool, true, false, if◌then◌else◌, nat_le, ℤ, pos, ⊤, slice_get}
use Rattle.cm_syntax.specs.declared.expr.Op.{Op}
use Rattle.cm_syntax.specs.declared.expr.Op.TheVariants as op
use Rattle.cm_syntax.specs.declared.expr.Expr.{Expr}
use Rattle.cm_syntax.specs.declared.expr.Expr.TheVariants as expression
use Rattle.cm_syntax.specs.declared.expr.Arg.TheVariants as arg
use Rattle.cm_syntax.specs.declared.expr.Call.{end_of-Arg, more_of-Arg}
use Rattle.cm_syntax.specs.declared.stmt.Extent.{Extent}
use Rattle.cm_syntax.specs.declared.stmt.Extent.TheVariants as extent
use Rattle.cm_syntax.specs.Extent.{extent_of}
use Rattle.cm_syntax.specs.declared.stmt.Item as items
use Rattle.cm_syntax.specs.declared.stmt.Target.TheVariants as target
use Rattle.cm_syntax.specs.declared.stmt.Stmt.{Stmt, end_of-Stmt, more_of-Stmt}
use Rattle.cm_syntax.specs.declared.stmt.Stmt.TheVariants as statement
use Rattle.cm_syntax.specs.declared.stmt.Function.{Function}
use Rattle.cm_syntax.specs.declared.stmt.Program.{Program}
use Rattle.cm_syntax.specs.Shape.{Joined, Prefixed, Element, InputAt, IfAlone, IfElse, WhileLoop, ForLoop}
use Rattle.cm_syntax.specs.Label.{silent, ticks, prints, spawns, syncs, traps, ends, stuck}
use Rattle.cm_syntax.specs.Operator.{is_zero, natural, binary_value, divides, unary_value}
use Rattle.cm_syntax.specs.Cell.{Cell}
use Rattle.cm_syntax.specs.Stack.{Reference, Stack, Destination, Argument, may_write_all}
use Rattle.cm_syntax.specs.Rest.{Purpose, called, spawned, Item, evaluate, right, apply, prefix, both, either, truth, element, read, arguments, pass, take_back, discard, deliver, perform, sequence, body, declare, assign, update, locate, store, branch, turn, test, part, tick, show, exit, fall, join, end, Hand, idle, holds, returned, entering, framing, Control}
use Rattle.cm_syntax.specs.Step.{Move, top, inside, rest_at_join, when_readable, when_writable, when_value, when_result, when_some, write_step, leave, is_index, is_split, slice_in, call_bytes_in, destination_slot, invoke, enter_call, take_value, drop_value, deliver_value, declare_item, do_other, fall_off, slot_at, running_function, when_slice, push_call, end_call, give_input, evaluate_step, statement_step, item_step, hand_step, step}
use Rattle.cm_syntax.proofs.AccessLaw.{reading, writing}
use Rattle.cm_meaning.specs.Weight.{expression_weight, arguments_weight, optional_weight, declare_weight, statement_weight, sequence_weight, body_weight, other_weight, rest_weight, join_weight, function_weight, weight_by, weight}
use Rattle.cm_meaning.specs.Law.{LowersWeight}
use Rattle.cm_meaning.proofs.EndLaw.{Lowers}
use Rattle.cm_meaning.proofs.TypedFramesLaw.{IsPlain}

join_below : (k : List Item) → join_weight k ≤ rest_weight k
join_below [] = omega arith
join_below (join ∷ k) = omega arith
join_below (end ∷ k) = omega arith
join_below (tick ∷ k) = omega arith
join_below (exit ∷ k) = omega arith
join_below (_ ∷ k) = let h = join_below k in omega (arith, h)

module _ (program : Program) (page : ℕ) (input : List ℤ) where
  -- a silent step, a print, a spawn or a sync leads to less weight than this
  abbrev Falls : Move → (before : ℕ) → Type 0
  Falls (silent t g) n = weight program t < n
  Falls (prints v t g) n = weight program t < n
  Falls (spawns call lent x t g) n = (weight program call < n) × (weight program t < n) × (weight program (inside call x t) < n)
  Falls (syncs t) n = weight program t < n
  Falls _ n = ⊤

  light : (h : Hand) (k : List Item) → IsPlain h → weight_by program h k ≡ rest_weight k
  light idle k p = refl
  light (holds v) k p = refl
  light (returned v) k p = refl
  light (entering f ws) k p = absurd p
  light (framing f ws) k p = absurd p

  falls_present : {A : Type 0} (c : Cell A) (f : A → Move) (n : ℕ) → ((v : A) → Falls (f v) n) → Falls (when_readable c f) n
  falls_present c f n h = reading (λ m. Falls m n) tt c f (λ v e. h v)

  falls_held : {A : Type 0} (c : Cell A) (f : Move) (n : ℕ) → Falls f n → Falls (when_writable c f) n
  falls_held c f n h = writing (λ m. Falls m n) tt c f (λ e. h)

  falls_value : (c : Hand) (f : ℤ → Move) (n : ℕ) → ((v : ℤ) → Falls (f v) n) → Falls (when_value c f) n
  falls_value (holds v) f n h = h v
  falls_value _ f n h = tt

  falls_if : (t : Bool) (f l : Move) (n : ℕ) → Falls f n → Falls l n → Falls (if t then f else l) n
  falls_if true f l n h k = h
  falls_if false f l n h k = k

  falls_slice : (c : Control) (g : Stack) (s : ℕ) (f : Reference → Move) (n : ℕ) → ((r : Reference) → Falls (f r) n) → Falls (when_slice program page input c g s f) n
  falls_slice c g s f n h = by (slot_at program page input c.calls s)
    where
      by : (z : Option Extent) → Falls (slice_in c.calls g z s f) n
      by (Some extent.Word) = h _
      by (Some (extent.Words w)) = h _
      by (Some extent.Reference) = falls_present (g.references (top c.calls) s) f n h
      by None = tt

  falls_result : (p : Op) (v : Option ℤ) (f : ℤ → Move) (n : ℕ) → ((w : ℤ) → Falls (f w) n) → Falls (when_result p v f) n
  falls_result p (Some v) f n h = h v
  falls_result p None f n h = falls_if (divides p) _ _ n tt tt

  falls_some : (v : Option ℤ) (f : ℤ → Move) (n : ℕ) → ((w : ℤ) → Falls (f w) n) → Falls (when_some v f) n
  falls_some (Some v) f n h = h v
  falls_some None f n h = tt

  falls_write : (c : Control) (h : Stack) (d s i : ℕ) (p : Option Op) (v : ℤ) (k : List Item) (n : ℕ) → rest_weight k < n → Falls (write_step c h d s i p v k) n
  falls_write c h d s i None v k n l = falls_held (h.words d s i) _ n l
  falls_write c h d s i (Some p) v k n l = falls_held (h.words d s i) _ n (falls_present (h.words d s i) _ n (λ old. falls_result p (binary_value p old v) _ n (λ w. l)))

  falls_call : (c : Control) (h : Stack) (u : Purpose) (f : ℕ) (ws : List Argument) (k : List Item) → Falls (enter_call c h u f ws k) (1 + rest_weight k)
  falls_call c h called f ws k = omega arith
  falls_call c h (spawned None) f ws k = (omega arith, omega arith, omega arith)
  falls_call c h (spawned (Some x)) f ws k = let one : 0 < 1 + rest_weight k = omega arith in let two : rest_weight k < 1 + rest_weight k = omega arith in falls_held (h.words (top c.calls) x 0) _ _ (one, two, one)

  falls_input : (c : Control) (h : Stack) (v : Option ℤ) (k : List Item) (n : ℕ) → rest_weight k < n → Falls (give_input program page input c h v k) n
  falls_input c h None k n l = tt
  falls_input c h (Some v) k n l = l

  falls_invoke : (c : Control) (h : Stack) (u : Purpose) (e : Expr ℕ) (k : List Item) → Falls (invoke c h u e k) (expression_weight e + rest_weight k)
  falls_invoke c h u (expression.Call' f _ row) k = omega arith
  falls_invoke c h u _ k = tt

  falls_take : (c : Control) (h : Stack) (z : Hand) (k : List Item) (n : ℕ) → rest_weight k < n → Falls (take_value c h z k) n
  falls_take c h (returned (Some v)) k n l = l
  falls_take c h (returned None) k n l = tt
  falls_take c h _ k n l = tt

  falls_drop : (c : Control) (h : Stack) (z : Hand) (k : List Item) (n : ℕ) → rest_weight k < n → Falls (drop_value c h z k) n
  falls_drop c h (returned v) k n l = l
  falls_drop c h _ k n l = tt

  falls_deliver : (c : Control) (h : Stack) (z : Hand) (x : Destination) (k : List Item) (n : ℕ) → rest_weight k < n → Falls (deliver_value c h z x k) n
  falls_deliver c h (returned v) None k n l = l
  falls_deliver c h (returned (Some v)) (Some x) k n l = falls_write c h x.depth x.slot 0 None v k n l
  falls_deliver c h (returned None) (Some x) k n l = l
  falls_deliver c h _ _ k n l = tt

  falls_other : (c : Control) (h : Stack) (s : Option (Stmt ℕ)) (k : List Item) (n : ℕ) → other_weight s + rest_weight k < n → Falls (do_other c h s k) n
  falls_other c h None k n l = omega (arith, l)
  falls_other c h (Some s) k n l = omega (arith, l)

  falls_fall : (c : Control) (h : Stack) (f : Option (Function ℕ)) (k : List Item) (n : ℕ) → rest_weight k < n → Falls (fall_off c h f k) n
  falls_fall c h None k n l = tt
  falls_fall c h (Some f) k n l = falls_if f.gives _ _ n l l

  falls_leave : (c : Control) (h : Stack) (k : List Item) → IsPlain c.hand → Falls (leave c h (rest_at_join k)) (1 + join_weight k)
  falls_leave c h [] p = tt
  falls_leave c h (join ∷ k) p = let l = light c.hand (join ∷ k) p in omega (arith, l)
  falls_leave c h (end ∷ k) p = tt
  falls_leave c h (_ ∷ k) p = falls_leave c h k p

  falls_declare : (c : Control) (h : Stack) (x : ℕ) (z : Extent) (e : Option (Expr ℕ)) (more : List (items.Item ℕ)) (k : List Item) → Falls (declare_item c h x z e more k) (optional_weight e + (declare_weight more + 2) + rest_weight k)
  falls_declare c h x extent.Word None more k = falls_write c h (top c.calls) x 0 None (pos 0) (declare more ∷ k) _ (omega arith)
  falls_declare c h x extent.Word (Some e) more k = omega arith
  falls_declare c h x (extent.Words n) e more k = let l : declare_weight more + rest_weight k < optional_weight e + (declare_weight more + 2) + rest_weight k = omega arith in falls_if (may_write_all (h.words (top c.calls) x) n) _ _ _ l tt
  falls_declare c h x extent.Reference e more k = tt

  falls_end : (c : Control) (h : Stack) (calls : List ℕ) (k : List Item) (n : ℕ) → rest_weight k < n → Falls (end_call program page input c h calls k) n
  falls_end c h [] k n l = tt
  falls_end c h (f ∷ calls) k n l = l

  falls_frame : (c : Control) (h : Stack) (f : ℕ) (ws : List Argument) (k : List Item) (z : Option (Function ℕ)) → Falls (push_call program page input c h f ws k z) (function_weight z + rest_weight k)
  falls_frame c h f ws k None = tt
  falls_frame c h f ws k (Some z) = let l : body_weight z.body + (1 + (1 + (1 + rest_weight k))) < body_weight z.body + 4 + rest_weight k = omega arith in falls_if (nat_le (call_bytes_in page (Some z)) c.account) _ _ _ l tt

  falls_evaluate : (c : Control) (h : Stack) (e : Expr ℕ) (k : List Item) → Falls (evaluate_step program page input c h e k) (expression_weight e + rest_weight k)
  falls_evaluate c h (expression.Number n) k = omega arith
  falls_evaluate c h (expression.Scalar x) k = let l : rest_weight k < 1 + rest_weight k = omega arith in falls_present (h.words (top c.calls) x.name 0) _ _ (λ v. l)
  falls_evaluate c h (Element p e) k = omega arith
  falls_evaluate c h (expression.Len p) k = let l : rest_weight k < 1 + rest_weight k = omega arith in falls_slice c h p.name _ _ (λ r. l)
  falls_evaluate c h (InputAt e) k = omega arith
  falls_evaluate c h expression.Inputs k = omega arith
  falls_evaluate c h (Prefixed p e) k = omega arith
  falls_evaluate c h (Joined op.Both l r) k = omega arith
  falls_evaluate c h (Joined op.Either l r) k = omega arith
  falls_evaluate c h (Joined x l r) k = omega arith
  falls_evaluate c h (expression.Call' f _ row) k = omega arith

  falls_statement : (c : Control) (h : Stack) (s : Stmt ℕ) (k : List Item) → Falls (statement_step program page input c h s k) (statement_weight s + rest_weight k)
  falls_statement c h statement.Empty k = omega arith
  falls_statement c h (statement.Declare row) k = omega arith
  falls_statement c h (statement.Assign (target.Scalar x) None e) k = omega arith
  falls_statement c h (statement.Assign (target.Scalar x) (Some p) e) k = omega arith
  falls_statement c h (statement.Assign (target.Index x place) p e) k = omega arith
  falls_statement c h (statement.Call call) k = more (expression_weight (expression.Call call)) (rest_weight k) (invoke c h called (expression.Call call) (discard ∷ k)) (falls_invoke c h called (expression.Call call) (discard ∷ k))
    where
      more : (x y : ℕ) (z : Move) → Falls z (x + (1 + y)) → Falls z (x + 1 + y)
      more x y z f = let e : x + (1 + y) ≡ x + 1 + y = omega arith in subst (λ q. Falls z q) e f
  falls_statement c h (statement.Spawn at x call) k = falls_invoke c h (spawned (destination_slot x)) (expression.Call call) k
  falls_statement c h (statement.Sync at) k = omega arith
  falls_statement c h (IfAlone t s) k = omega arith
  falls_statement c h (IfElse t s p) k = omega arith
  falls_statement c h (WhileLoop t s) k = omega arith
  falls_statement c h (ForLoop first t s p) k = omega arith
  falls_statement c h (statement.Split' whole place l r _ row close) k = omega arith
  falls_statement c h (statement.Return at None) k = let l = join_below k in omega (arith, l)
  falls_statement c h (statement.Return at (Some e)) k = let l = join_below k in omega (arith, l)
  falls_statement c h (statement.Print e) k = let l = join_below k in omega (arith, l)
  falls_statement c h (statement.Block' _ row) k = omega arith

  -- a value at hand, and a step to where less is to do
  falls_to : (h : Hand) (f : ℤ → Move) (n w : ℕ) → w < n → ((v : ℤ) → w < n → Falls (f v) n) → Falls (when_value h f) n
  falls_to h f n w l g = falls_value h f n (λ v. g v l)

  turns : (a b : ℕ) → a ≤ b → 1 + a < 2 + b
  turns a b h = omega (arith, h)

  shorter : (a b : ℕ) → 1 + b < a + 2 + b
  shorter a b = omega arith

  last_ : (k : ℕ) → k < 2 + k
  last_ k = omega arith

  falls_item : (c : Control) (h : Stack) (i : Item) (k : List Item) → IsPlain c.hand → Falls (item_step program page input c h i k) (rest_weight (i ∷ k))
  falls_item c h (evaluate e) k p = falls_evaluate c h e k
  falls_item c h (right x r) k p = falls_to c.hand _ _ (expression_weight r + (1 + rest_weight k)) (omega arith) (λ v l. l)
  falls_item c h (apply x a) k p = falls_to c.hand _ _ (rest_weight k) (omega arith) (λ v l. falls_result x (binary_value x a v) _ _ (λ w. l))
  falls_item c h (prefix x) k p = falls_to c.hand _ _ (rest_weight k) (omega arith) (λ v l. falls_some (unary_value x v) _ _ (λ w. l))
  falls_item c h (both r) k p = falls_to c.hand _ _ (expression_weight r + (1 + rest_weight k)) (omega arith) (λ v l. falls_if (is_zero v) _ _ _ (shorter (expression_weight r) (rest_weight k)) l)
  falls_item c h (either r) k p = falls_to c.hand _ _ (expression_weight r + (1 + rest_weight k)) (omega arith) (λ v l. falls_if (is_zero v) _ _ _ l (shorter (expression_weight r) (rest_weight k)))
  falls_item c h truth k p = falls_to c.hand _ _ (rest_weight k) (omega arith) (λ v l. l)
  falls_item c h (element s) k p = falls_to c.hand _ _ (rest_weight k) (omega arith) (λ v l. falls_slice c h s _ _ (λ r. falls_if (is_index v r.length) _ _ _ (falls_present (h.words r.depth r.slot (r.start + natural v)) _ _ (λ w. l)) tt))
  falls_item c h read k p = falls_to c.hand _ _ (rest_weight k) (omega arith) (λ v l. falls_if (is_index v (length input)) _ _ _ (falls_input c h (slice_get input (natural v)) k _ l) tt)
  falls_item c h (arguments u f ws end_of-Arg) k p = falls_call c h u f ws k
  falls_item c h (arguments u f ws (more_of-Arg (arg.Value e) more)) k p = omega arith
  falls_item c h (arguments u f ws (more_of-Arg (arg.Slice x) more)) k p = let l : arguments_weight more + rest_weight k < 0 + (arguments_weight more + 2) + rest_weight k = omega arith in falls_slice c h x.name _ _ (λ r. l)
  falls_item c h (arguments u f ws (more_of-Arg (arg.Address x) more)) k p = omega arith
  falls_item c h (pass u f ws more) k p = falls_to c.hand _ _ (arguments_weight more + rest_weight k) (omega arith) (λ v l. l)
  falls_item c h take_back k p = falls_take c h c.hand k _ (omega arith)
  falls_item c h discard k p = falls_drop c h c.hand k _ (omega arith)
  falls_item c h (deliver x) k p = falls_deliver c h c.hand x k _ (omega arith)
  falls_item c h (perform s) k p = falls_statement c h s k
  falls_item c h (sequence end_of-Stmt) k p = omega arith
  falls_item c h (sequence (more_of-Stmt s l)) k p = omega arith
  falls_item c h (body []) k p = omega arith
  falls_item c h (body (s ∷ l)) k p = omega arith
  falls_item c h (declare []) k p = omega arith
  falls_item c h (declare (x ∷ more)) k p = falls_declare c h x.name.name (extent_of x.slot) x.first more k
  falls_item c h (assign x) k p = falls_to c.hand _ _ (rest_weight k) (omega arith) (λ v l. falls_write c h (top c.calls) x 0 None v k _ l)
  falls_item c h (update x q) k p = falls_to c.hand _ _ (rest_weight k) (omega arith) (λ v l. falls_write c h (top c.calls) x 0 (Some q) v k _ l)
  falls_item c h (locate s q e) k p = falls_to c.hand _ _ (expression_weight e + (1 + rest_weight k)) (omega arith) (λ v l. falls_slice c h s _ _ (λ r. falls_if (is_index v r.length) _ _ _ l tt))
  falls_item c h (store s i q) k p = falls_to c.hand _ _ (rest_weight k) (omega arith) (λ v l. falls_slice c h s _ _ (λ r. falls_write c h r.depth r.slot (r.start + i) q v k _ l))
  falls_item c h (branch s q) k p = falls_to c.hand _ _ (statement_weight s + rest_weight k) (omega arith) (λ v l. falls_if (is_zero v) _ _ _ (falls_other c h q k _ (others (statement_weight s) (other_weight q) (rest_weight k))) l)
    where
      others : (a b c : ℕ) → b + c < a + (b + 1) + c
      others a b c = omega arith
  falls_item c h (turn (Some t) s q) k p = omega arith
  falls_item c h (turn None s q) k p = let l = join_below k in omega (arith, l)
  falls_item c h (test t s q) k p = falls_to c.hand _ _ (rest_weight k) (omega arith) (λ v l. falls_if (is_zero v) _ _ _ l (turns (join_weight k) (rest_weight k) (join_below k)))
  falls_item c h (part s l r row) k p = falls_to c.hand _ _ (sequence_weight row + rest_weight k) (omega arith) (λ v m. falls_slice c h s _ _ (λ x. falls_if (is_split v x.length) _ _ _
      (falls_held (h.references (top c.calls) l) _ _ (falls_held (h.references (top c.calls) r) _ _ m)) tt))
  falls_item c h tick k p = tt
  falls_item c h show k p = falls_to c.hand _ _ (rest_weight k) (omega arith) (λ v l. l)
  falls_item c h exit k p = falls_leave c h k p
  falls_item c h fall k p = falls_fall c h (running_function program page input c.calls) k _ (omega arith)
  falls_item c h join k p = let l = light c.hand k p in omega (arith, l)
  falls_item c h end k p = falls_end c h c.calls k _ (omega arith)

  pub falls : (c : Control) (h : Stack) → Falls (step program page input c h) (weight program c)
  falls c h = by c.hand c.rest refl
    where
      by : (z : Hand) (k : List Item) → c.hand ≡ z → Falls (hand_step program page input c h z k) (weight_by program z k)
      by (entering f ws) k e = tt
      by (framing f ws) k e = falls_frame c h f ws k (slice_get program.functions f)
      by idle [] e = tt
      by (holds v) [] e = tt
      by (returned v) [] e = tt
      by idle (i ∷ k) e = falls_item c h i k (subst IsPlain (sym e) tt)
      by (holds v) (i ∷ k) e = falls_item c h i k (subst IsPlain (sym e) tt)
      by (returned v) (i ∷ k) e = falls_item c h i k (subst IsPlain (sym e) tt)

  pub lowers : (c : Control) (h : Stack) → LowersWeight program c (step program page input c h)
  lowers c h = by (step program page input c h) (falls c h)
    where
      by : (x : Move) → Falls x (weight program c) → LowersWeight program c x
      by (silent t g) f = f
      by (ticks t g) f = tt
      by (prints v t g) f = f
      by (spawns call lent x t g) f = f
      by (syncs t) f = f
      by (traps k) f = tt
      by (ends v) f = tt
      by stuck f = tt

  -- as the elision needs it
  pub lowers_serial : (c : Control) (h : Stack) → Lowers Control Stack Destination (step program page input) inside (weight program) c (step program page input c h)
  lowers_serial c h = by (step program page input c h) (lowers c h)
    where
      by : (x : Move) → LowersWeight program c x → Lowers Control Stack Destination (step program page input) inside (weight program) c x
      by (silent t g) f = f
      by (ticks t g) f = tt
      by (prints v t g) f = f
      by (spawns call lent x t g) f = f.2
      by (syncs t) f = f
      by (traps k) f = tt
      by (ends v) f = tt
      by stuck f = tt
