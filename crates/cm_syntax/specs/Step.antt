-- The meaning of a program, step by step: one step does the first item of the rest, or what is at hand. It is a
-- function, and what it leads to is labelled (`Label.antt`).
use Rattle.std.specs.Prelude.{ℕ, ◌+◌, ◌*◌, ◌-◌, nat_lt, nat_le, Bool, false, if◌then◌else◌, ℤ, pos, negsuc, Option, None, Some, List, [], ◌∷◌, ◌++◌, length, slice_get}
use Rattle.cm_syntax.specs.declared.expr.Mark.{Mark}
use Rattle.cm_syntax.specs.declared.expr.Op.{Op}
use Rattle.cm_syntax.specs.declared.expr.Op.TheVariants as op
use Rattle.cm_syntax.specs.declared.expr.Expr.{Expr}
use Rattle.cm_syntax.specs.declared.expr.Expr.TheVariants as expression
use Rattle.cm_syntax.specs.declared.expr.Arg.TheVariants as arg
use Rattle.cm_syntax.specs.declared.expr.Call.{end_of-Arg, more_of-Arg}
use Rattle.cm_syntax.specs.declared.stmt.Slot.{Slot}
use Rattle.cm_syntax.specs.declared.stmt.Extent.{Extent}
use Rattle.cm_syntax.specs.declared.stmt.Extent.TheVariants as extent
use Rattle.cm_syntax.specs.declared.stmt.Item as items
use Rattle.cm_syntax.specs.declared.stmt.Target.TheVariants as target
use Rattle.cm_syntax.specs.declared.stmt.Stmt.{Stmt, end_of-Stmt, more_of-Stmt}
use Rattle.cm_syntax.specs.declared.stmt.Stmt.TheVariants as statement
use Rattle.cm_syntax.specs.declared.stmt.Function.{Function}
use Rattle.cm_syntax.specs.declared.stmt.Program.{Program}
use Rattle.cm_syntax.specs.Extent.{extent_of, extent_at}
use Rattle.cm_syntax.specs.Shape.{Joined, Prefixed, Element, InputAt, IfAlone, IfElse, WhileLoop, ForLoop}
use Rattle.cm_syntax.specs.Frame.{frame_words}
use Rattle.cm_syntax.specs.Trap as kind
use Rattle.cm_syntax.specs.Label.{Step, silent, ticks, prints, spawns, syncs, traps, ends, stuck}
use Rattle.cm_syntax.specs.Operator.{is_zero, natural, binary_value, divides, unary_value}
use Rattle.cm_syntax.specs.Cell.{Cell, absent, unset, present, shared}
use Rattle.cm_syntax.specs.Stack.{Reference, Stack, Destination, Argument, word, slice, may_write_all, write_word, clear_words, write_parts, push_frame, pop_frame, lent_stack, kept_stack}
use Rattle.cm_syntax.specs.Rest.{Purpose, called, spawned, Item, evaluate, right, apply, prefix, both, either, truth, element, read, arguments, pass, take_back, discard, deliver, perform, sequence, body, declare, assign, update, locate, store, branch, turn, test, part, tick, show, exit, fall, join, end, Hand, idle, holds, returned, entering, framing, Control, control}

-- a step of this language
abbrev pub Move : Type 0
Move = Step Control Stack Destination

-- ---- states

-- the depth of the running function's frame
abbrev pub top : (calls : List ℕ) → ℕ
top [] = 0
top (f ∷ calls) = length calls

-- of a state, that depth and the number of its frames
abbrev pub depth : Control → ℕ
depth c = top c.calls

abbrev pub frame_count : Control → ℕ
frame_count c = length c.calls

-- the control with another rest: with nothing at hand, or with a value
abbrev pub to : Control → List Item → Control
to c k = control c.calls c.account idle k

abbrev pub to_value : Control → ℤ → List Item → Control
to_value c v k = control c.calls c.account (holds v) k

-- main's first state: its call, before its tick
abbrev pub start_of : (main account : ℕ) → Control
start_of main account = control [] account (entering main []) []

-- a call that is done before its continuation goes on: its own rest, then its value is delivered, then the other rest
abbrev pub inside : Control → Destination → Control → Control
inside c x k = control c.calls c.account c.hand (c.rest ++ (deliver x ∷ k.rest))

-- the rest from the join of the running function on
abbrev pub rest_at_join : List Item → Option (List Item)
rest_at_join [] = None
rest_at_join (join ∷ k) = Some (join ∷ k)
rest_at_join (end ∷ k) = None
rest_at_join (_ ∷ k) = rest_at_join k

-- the value at hand, if there is one
abbrev pub hand_value : Hand → Option ℤ
hand_value (holds v) = Some v
hand_value _ = None

-- ---- what a step needs: where it isn't there the state is stuck

-- what is read is present
abbrev pub when_readable : {A : Type 0} → Cell A → (A → Move) → Move
when_readable (present v) goes_on = goes_on v
when_readable (shared p v) goes_on = goes_on v
when_readable unset goes_on = stuck
when_readable absent goes_on = stuck

-- of what is written the whole is held
abbrev pub when_writable : {A : Type 0} → Cell A → Move → Move
when_writable absent move = stuck
when_writable unset move = move
when_writable (present v) move = move
when_writable (shared p v) move = stuck

-- a value is at hand
abbrev pub when_value : Hand → (ℤ → Move) → Move
when_value (holds v) goes_on = goes_on v
when_value _ goes_on = stuck

-- the binary operator has a value; a division by 0 traps
abbrev pub when_result : Op → Option ℤ → (ℤ → Move) → Move
when_result o (Some v) goes_on = goes_on v
when_result o None goes_on = if divides o then traps kind.Divide else stuck

-- the unary operator has a value
abbrev pub when_some : Option ℤ → (ℤ → Move) → Move
when_some (Some v) goes_on = goes_on v
when_some None goes_on = stuck

-- ---- silent steps

-- to another rest with nothing at hand, or with a value at hand
abbrev pub go_on : Control → Stack → List Item → Move
go_on c h k = silent (to c k) h

abbrev pub hold : Control → Stack → ℤ → List Item → Move
hold c h v k = silent (to_value c v k) h

-- A value goes into a word, of which the whole is held: as it is, or the word becomes what the operator gives of the old
-- word and the value.
abbrev pub write_step : Control → Stack → (depth slot index : ℕ) → Option Op → ℤ → List Item → Move
write_step c h d s i None v k = when_writable (h.words d s i) (silent (to c k) (write_word h d s i v))
write_step c h d s i (Some o) v k = when_writable (h.words d s i) (when_readable (h.words d s i) (λ old. when_result o (binary_value o old v) (λ w. silent (to c k) (write_word h d s i w))))

-- a completed `return` goes to the join of its function, with what is at hand
abbrev pub leave : Control → Stack → Option (List Item) → Move
leave c h None = stuck
leave c h (Some k) = silent (control c.calls c.account c.hand k) h

-- ---- slices

-- an index into so many words, and where so many words may be split
abbrev pub is_index : ℤ → (count : ℕ) → Bool
is_index (pos n) count = nat_lt n count
is_index (negsuc n) count = false

abbrev pub is_split : ℤ → (count : ℕ) → Bool
is_split (pos n) count = nat_le n count
is_split (negsuc n) count = false

-- the slice of one scalar
abbrev pub scalar_slice : (depth slot : ℕ) → Reference
scalar_slice depth slot = record { depth = depth; slot = slot; start = 0; length = 1 }

-- the words of a slot of the running function, as a reference: its own words, or what its reference refers to
abbrev pub slice_in : (calls : List ℕ) → Stack → Option Extent → (s : ℕ) → (Reference → Move) → Move
slice_in calls h (Some extent.Word) s goes_on = goes_on (scalar_slice (top calls) s)
slice_in calls h (Some (extent.Words words)) s goes_on = goes_on (record { depth = top calls; slot = s; start = 0; length = words })
slice_in calls h (Some extent.Reference) s goes_on = when_readable (h.references (top calls) s) goes_on
slice_in calls h None s goes_on = stuck

-- ---- functions

abbrev pub slots_in : Option (Function ℕ) → List Slot
slots_in None = []
slots_in (Some function) = function.slots

-- what a call takes of the account: the bytes of its frame, and a page where it is marked `cilk`
abbrev pub call_bytes_in : (page : ℕ) → Option (Function ℕ) → ℕ
call_bytes_in page None = 0
call_bytes_in page (Some function) = 4 * frame_words function + (if function.cilk then page else 0)

-- the slot of a spawn's destination
abbrev pub destination_slot : Option (Mark ℕ) → Option ℕ
destination_slot None = None
destination_slot (Some x) = Some x.name

-- ---- calls and spawns

-- the arguments of a call are done one by one
abbrev pub invoke : Control → Stack → Purpose → Expr ℕ → List Item → Move
invoke c h purpose (expression.Call' f _ row) k = go_on c h (arguments purpose f.name [] row ∷ k)
invoke c h purpose _ k = stuck

-- a spawn parts what is held: the child has the call alone, the account and the words that it is lent
abbrev pub spawn_call : Control → Stack → (f : ℕ) → List Argument → Destination → List Item → Move
spawn_call c h f ws x k = spawns (control c.calls c.account (entering f ws) []) (lent_stack h x ws) x (to c k) (kept_stack h x ws)

-- All arguments are known: the call is at hand, or it is spawned. A destination has to be held whole.
abbrev pub enter_call : Control → Stack → Purpose → (f : ℕ) → List Argument → List Item → Move
enter_call c h called f ws k = silent (control c.calls c.account (entering f ws) k) h
enter_call c h (spawned None) f ws k = spawn_call c h f ws None k
enter_call c h (spawned (Some x)) f ws k = when_writable (h.words (top c.calls) x 0) (spawn_call c h f ws (Some (record { depth = top c.calls; slot = x })) k)

-- what a call came back with is a value of an expression
abbrev pub take_value : Control → Stack → Hand → List Item → Move
take_value c h (returned (Some v)) k = hold c h v k
take_value c h _ k = stuck

-- it is dropped
abbrev pub drop_value : Control → Stack → Hand → List Item → Move
drop_value c h (returned v) k = go_on c h k
drop_value c h _ k = stuck

-- it goes into the destination; a call that gives no value writes nothing
abbrev pub deliver_value : Control → Stack → Hand → Destination → List Item → Move
deliver_value c h (returned v) None k = go_on c h k
deliver_value c h (returned None) (Some x) k = go_on c h k
deliver_value c h (returned (Some v)) (Some x) k = write_step c h x.depth x.slot 0 None v k
deliver_value c h _ _ k = stuck

-- ---- statements

-- a variable is declared, and then the others: one word is 0 or its value, so many words are all 0
abbrev pub declare_item : Control → Stack → (x : ℕ) → Extent → Option (Expr ℕ) → List (items.Item ℕ) → List Item → Move
declare_item c h x extent.Word None more k = write_step c h (top c.calls) x 0 None (pos 0) (declare more ∷ k)
declare_item c h x extent.Word (Some e) more k = go_on c h (evaluate e ∷ assign x ∷ declare more ∷ k)
declare_item c h x (extent.Words n) e more k =
    if may_write_all (h.words (top c.calls) x) n then silent (to c (declare more ∷ k)) (clear_words h (top c.calls) x n) else stuck
declare_item c h x extent.Reference e more k = stuck

-- what an `if` does where its condition is 0
abbrev pub do_other : Control → Stack → Option (Stmt ℕ) → List Item → Move
do_other c h None k = go_on c h k
do_other c h (Some s) k = go_on c h (perform s ∷ k)

-- a body falls off its end: an `int` function gives 0, a `void` one nothing
abbrev pub fall_off : Control → Stack → Option (Function ℕ) → List Item → Move
fall_off c h None k = stuck
fall_off c h (Some function) k = if function.gives then hold c h (pos 0) k else go_on c h k

module _ (program : Program) (page : ℕ) (input : List ℤ) where
  -- what the slot of a variable of the running function has
  abbrev pub slot_at : (calls : List ℕ) → (s : ℕ) → Option Extent
  slot_at [] s = None
  slot_at (f ∷ calls) s = extent_at (slots_in (slice_get program.functions f)) s

  -- the running function
  abbrev pub running_function : (calls : List ℕ) → Option (Function ℕ)
  running_function [] = None
  running_function (f ∷ calls) = slice_get program.functions f

  -- what a call of this function takes of the account
  abbrev pub call_bytes : (f : ℕ) → ℕ
  call_bytes f = call_bytes_in page (slice_get program.functions f)

  -- the words of a slot of the running function
  abbrev pub when_slice : Control → Stack → (a : ℕ) → (Reference → Move) → Move
  when_slice c h a goes_on = slice_in c.calls h (slot_at c.calls a) a goes_on

  -- Behind its tick a call gets its frame, where the account has the bytes. A body ends in a join, which waits for
  -- the children, and in the end of the call; both stand in every function.
  abbrev pub push_call : Control → Stack → (f : ℕ) → List Argument → List Item → Option (Function ℕ) → Move
  push_call c h f ws k None = stuck
  push_call c h f ws k (Some function) = if nat_le (call_bytes_in page (Some function)) c.account
      then silent (control (f ∷ c.calls) (c.account - call_bytes_in page (Some function)) idle (body function.body ∷ fall ∷ join ∷ end ∷ k)) (push_frame h (length c.calls) ws)
      else traps kind.Stack

  -- a call ends: its frame goes and the account has the bytes again
  abbrev pub end_call : Control → Stack → (calls : List ℕ) → List Item → Move
  end_call c h [] k = stuck
  end_call c h (f ∷ calls) k = silent (control calls (c.account + call_bytes f) (returned (hand_value c.hand)) k) (pop_frame h (length calls))

  -- a number of the input
  abbrev pub give_input : Control → Stack → Option ℤ → List Item → Move
  give_input c h None k = traps kind.Input
  give_input c h (Some v) k = hold c h v k

  -- an expression, whose left operand comes first
  abbrev pub evaluate_step : Control → Stack → Expr ℕ → List Item → Move
  evaluate_step c h (expression.Number n) k = hold c h n k
  evaluate_step c h (expression.Scalar x) k = when_readable (h.words (top c.calls) x.name 0) (λ v. hold c h v k)
  evaluate_step c h (Element a index) k = go_on c h (evaluate index ∷ element a.name ∷ k)
  evaluate_step c h (expression.Len a) k = when_slice c h a.name (λ r. hold c h (pos r.length) k)
  evaluate_step c h (InputAt index) k = go_on c h (evaluate index ∷ read ∷ k)
  evaluate_step c h expression.Inputs k = hold c h (pos (length input)) k
  evaluate_step c h (Prefixed o e) k = go_on c h (evaluate e ∷ prefix o ∷ k)
  evaluate_step c h (Joined op.Both l r) k = go_on c h (evaluate l ∷ both r ∷ k)
  evaluate_step c h (Joined op.Either l r) k = go_on c h (evaluate l ∷ either r ∷ k)
  evaluate_step c h (Joined o l r) k = go_on c h (evaluate l ∷ right o r ∷ k)
  evaluate_step c h (expression.Call' f _ row) k = go_on c h (arguments called f.name [] row ∷ take_back ∷ k)

  -- a statement
  abbrev pub statement_step : Control → Stack → Stmt ℕ → List Item → Move
  statement_step c h statement.Empty k = go_on c h k
  statement_step c h (statement.Declare row) k = go_on c h (declare row ∷ k)
  statement_step c h (statement.Assign (target.Scalar x) None e) k = go_on c h (evaluate e ∷ assign x.name ∷ k)
  statement_step c h (statement.Assign (target.Scalar x) (Some o) e) k = go_on c h (evaluate e ∷ update x.name o ∷ k)
  statement_step c h (statement.Assign (target.Index a index) o e) k = go_on c h (evaluate index ∷ locate a.name o e ∷ k)
  statement_step c h (statement.Call call) k = invoke c h called (expression.Call call) (discard ∷ k)
  statement_step c h (statement.Spawn at x call) k = invoke c h (spawned (destination_slot x)) (expression.Call call) k
  statement_step c h (statement.Sync at) k = syncs (to c k)
  statement_step c h (IfAlone t s) k = go_on c h (evaluate t ∷ branch s None ∷ k)
  statement_step c h (IfElse t s o) k = go_on c h (evaluate t ∷ branch s (Some o) ∷ k)
  statement_step c h (WhileLoop t b) k = go_on c h (turn (Some t) statement.Empty b ∷ k)
  statement_step c h (ForLoop first t s b) k = go_on c h (perform first ∷ turn t s b ∷ k)
  statement_step c h (statement.Split' whole index l r _ row close) k = go_on c h (evaluate index ∷ part whole.name l.name r.name row ∷ k)
  statement_step c h (statement.Return at None) k = go_on c h (exit ∷ k)
  statement_step c h (statement.Return at (Some e)) k = go_on c h (evaluate e ∷ exit ∷ k)
  statement_step c h (statement.Print e) k = go_on c h (evaluate e ∷ tick ∷ show ∷ k)
  statement_step c h (statement.Block' _ row) k = go_on c h (sequence row ∷ k)

  -- the first item of the rest
  abbrev pub item_step : Control → Stack → Item → List Item → Move
  item_step c h (evaluate e) k = evaluate_step c h e k
  item_step c h (right o r) k = when_value c.hand (λ a. go_on c h (evaluate r ∷ apply o a ∷ k))
  item_step c h (apply o a) k = when_value c.hand (λ b. when_result o (binary_value o a b) (λ v. hold c h v k))
  item_step c h (prefix o) k = when_value c.hand (λ a. when_some (unary_value o a) (λ v. hold c h v k))
  item_step c h (both r) k = when_value c.hand (λ a. if is_zero a then hold c h a (truth ∷ k) else go_on c h (evaluate r ∷ truth ∷ k))
  item_step c h (either r) k = when_value c.hand (λ a. if is_zero a then go_on c h (evaluate r ∷ truth ∷ k) else hold c h a (truth ∷ k))
  item_step c h truth k = when_value c.hand (λ a. hold c h (if is_zero a then pos 0 else pos 1) k)
  item_step c h (element a) k = when_value c.hand (λ v. when_slice c h a (λ r.
      if is_index v r.length then when_readable (h.words r.depth r.slot (r.start + natural v)) (λ w. hold c h w k) else traps kind.Index))
  item_step c h read k = when_value c.hand (λ v. if is_index v (length input) then give_input c h (slice_get input (natural v)) k else traps kind.Input)
  item_step c h (arguments u f ws end_of-Arg) k = enter_call c h u f ws k
  item_step c h (arguments u f ws (more_of-Arg (arg.Value e) more)) k = go_on c h (evaluate e ∷ pass u f ws more ∷ k)
  item_step c h (arguments u f ws (more_of-Arg (arg.Slice a) more)) k = when_slice c h a.name (λ r. go_on c h (arguments u f (slice r ∷ ws) more ∷ k))
  item_step c h (arguments u f ws (more_of-Arg (arg.Address x) more)) k = go_on c h (arguments u f (slice (scalar_slice (top c.calls) x.name) ∷ ws) more ∷ k)
  item_step c h (pass u f ws more) k = when_value c.hand (λ v. go_on c h (arguments u f (word v ∷ ws) more ∷ k))
  item_step c h take_back k = take_value c h c.hand k
  item_step c h discard k = drop_value c h c.hand k
  item_step c h (deliver x) k = deliver_value c h c.hand x k
  item_step c h (perform s) k = statement_step c h s k
  item_step c h (sequence end_of-Stmt) k = go_on c h k
  item_step c h (sequence (more_of-Stmt first more)) k = go_on c h (perform first ∷ sequence more ∷ k)
  item_step c h (body []) k = go_on c h k
  item_step c h (body (first ∷ more)) k = go_on c h (perform first ∷ body more ∷ k)
  item_step c h (declare []) k = go_on c h k
  item_step c h (declare (x ∷ more)) k = declare_item c h x.name.name (extent_of x.slot) x.first more k
  item_step c h (assign x) k = when_value c.hand (λ v. write_step c h (top c.calls) x 0 None v k)
  item_step c h (update x o) k = when_value c.hand (λ v. write_step c h (top c.calls) x 0 (Some o) v k)
  item_step c h (locate a o e) k = when_value c.hand (λ v. when_slice c h a (λ r.
      if is_index v r.length then go_on c h (evaluate e ∷ store a (natural v) o ∷ k) else traps kind.Index))
  item_step c h (store a i o) k = when_value c.hand (λ v. when_slice c h a (λ r. write_step c h r.depth r.slot (r.start + i) o v k))
  item_step c h (branch s o) k = when_value c.hand (λ v. if is_zero v then do_other c h o k else go_on c h (perform s ∷ k))
  item_step c h (turn (Some t) s b) k = go_on c h (evaluate t ∷ test t s b ∷ k)
  item_step c h (turn None s b) k = go_on c h (tick ∷ perform b ∷ perform s ∷ turn None s b ∷ k)
  item_step c h (test t s b) k = when_value c.hand (λ v. if is_zero v then go_on c h k else go_on c h (tick ∷ perform b ∷ perform s ∷ turn (Some t) s b ∷ k))
  item_step c h (part a l r row) k = when_value c.hand (λ v. when_slice c h a (λ x. if is_split v x.length
      then when_writable (h.references (top c.calls) l) (when_writable (h.references (top c.calls) r)
      (silent (to c (sequence row ∷ k)) (write_parts h (top c.calls) l r x (natural v))))
      else traps kind.Index))
  item_step c h tick k = ticks (control c.calls c.account c.hand k) h
  item_step c h show k = when_value c.hand (λ v. prints v (to c k) h)
  item_step c h exit k = leave c h (rest_at_join k)
  item_step c h fall k = fall_off c h (running_function c.calls) k
  item_step c h join k = syncs (control c.calls c.account c.hand k)
  item_step c h end k = end_call c h c.calls k

  -- A call at hand takes its tick, then its frame; else the first item of the rest is done. With nothing left to do,
  -- the state is at its end where a call came back.
  abbrev pub hand_step : Control → Stack → Hand → List Item → Move
  hand_step c h (entering f ws) k = ticks (control c.calls c.account (framing f ws) k) h
  hand_step c h (framing f ws) k = push_call c h f ws k (slice_get program.functions f)
  hand_step c h (returned v) [] = ends v
  hand_step c h _ [] = stuck
  hand_step c h _ (item ∷ k) = item_step c h item k

  -- one step
  abbrev pub step : Control → Stack → Move
  step c h = hand_step c h c.hand c.rest
