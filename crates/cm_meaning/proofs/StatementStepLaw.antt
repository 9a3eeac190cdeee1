-- What the meaning does at each statement as the code matches it.
use Rattle.std.proofs.Common.{◌≡◌, ℕ, List, [], ◌∷◌, ◌++◌, reverse, Option, None, Some, refl, sym, ap, ◌∙◌, subst}
use Rattle.std.specs.Prelude.{ℤ, Result, Ok, Err, IfOk, OnOk}
use Rattle.std.specs.Borrow.{Bor}
use Rattle.std.specs.Option.{option_copied}
use Rattle.cm_text.specs.declared.error.Memory.{Memory}
use mathlib.Core.Former.{Count}
use Rattle.cm_syntax.specs.declared.expr.Mark.{Mark}
use Rattle.cm_syntax.specs.declared.expr.Expr.{Expr}
use Rattle.cm_syntax.specs.declared.expr.Expr.TheVariants as expression
use Rattle.cm_syntax.specs.declared.expr.Call.{Call, Row_of-Arg}
use Rattle.cm_syntax.specs.declared.stmt.Stmt.{Stmt, Row_of-Stmt}
use Rattle.cm_syntax.specs.declared.stmt.Stmt.TheVariants as statement
use Rattle.cm_syntax.specs.declared.stmt.Program.{Program}
use Rattle.cm_syntax.specs.Stack.{Stack}
use Rattle.cm_syntax.specs.Rest.{Purpose, called, spawned, Item, evaluate, arguments, discard, perform, sequence, branch, turn, part, Control}
use Rattle.cm_syntax.specs.Step.{go_on, invoke, destination_slot, statement_step}
use Rattle.cm_syntax.proofs.StatementLaw.{If-Alone, If-Else, While-Loop, For-Loop}
use Rattle.cm_syntax.specs.Label.{silent}
use Rattle.cm_meaning.specs.declared.evaluator.Evaluator.{Evaluator}
use Rattle.cm_meaning.specs.declared.work.Purpose as purpose
use Rattle.cm_meaning.specs.declared.work.Purpose.TheVariants as purposes
use Rattle.cm_meaning.specs.declared.work.Hand.TheVariants as hands
use Rattle.cm_meaning.specs.declared.work.Work.{Work}
use Rattle.cm_meaning.specs.declared.work.Work.TheVariants as works
use Rattle.cm_meaning.specs.declared.work.Outcome.{Outcome}
use Rattle.cm_meaning.specs.declared.work.Outcome.TheVariants as outcomes
use Rattle.cm_meaning.specs.Doing.{DoesItem, IsBegun}
use Rattle.cm_meaning.specs.Evaluator.{statements_row, arguments_row, purpose_of, optional_of, items_of, passed_in, IsReady, Does, Puts}
use Rattle.cm_meaning.proofs.EvaluatorLaw.{control_by, control_at, behind_work, put_does, call_row, block_row}

-- ---- the variants as the code makes them

-- a call begins with its arguments
invoke_call : (c : Control) (h : Stack) (u : Purpose) (call : Call ℕ) (k : List Item)
    → invoke c h u (expression.Call call) k ≡ go_on c h (arguments u call.function.name [] (arguments_row call.arguments).1 ∷ k)
invoke_call c h u call k = ap (λ (r : (n : Count) × Row_of-Arg ℕ n). go_on c h (arguments u call.function.name [] r.1 ∷ k)) (call_row call)

-- the step of each statement that has statements in it
module _ (program : Program) (page : ℕ) (input : List ℤ) (c : Control) (h : Stack) where
  step_If : (t : Expr ℕ) (s : Stmt ℕ) (o : Option (Stmt ℕ)) (k : List Item)
      → statement_step program page input c h (statement.If t s o) k ≡ go_on c h (evaluate t ∷ branch s o ∷ k)
  step_If t s None k = ap (λ x. statement_step program page input c h x k) (If-Alone t s)
  step_If t s (Some o) k = ap (λ x. statement_step program page input c h x k) (If-Else t s o)

  step_While : (t : Expr ℕ) (b : Stmt ℕ) (k : List Item)
      → statement_step program page input c h (statement.While t b) k ≡ go_on c h (turn (Some t) statement.Empty b ∷ k)
  step_While t b k = ap (λ x. statement_step program page input c h x k) (While-Loop t b)

  step_For : (first : Stmt ℕ) (t : Option (Expr ℕ)) (s b : Stmt ℕ) (k : List Item)
      → statement_step program page input c h (statement.For first t s b) k ≡ go_on c h (perform first ∷ turn t s b ∷ k)
  step_For first t s b k = ap (λ x. statement_step program page input c h x k) (For-Loop first t s b)

  step_Split : (whole : Mark ℕ) (place : Expr ℕ) (l r : Mark ℕ) (body : List (Stmt ℕ)) (close : ℕ) (k : List Item)
      → statement_step program page input c h (statement.Split whole place l r body close) k
      ≡ go_on c h (evaluate place ∷ part whole.name l.name r.name (statements_row body).1 ∷ k)
  step_Split whole place l r body close k =
      ap (λ (w : (n : Count) × Row_of-Stmt ℕ n). go_on c h (evaluate place ∷ part whole.name l.name r.name w.1 ∷ k)) (block_row body)

  step_Block : (body : List (Stmt ℕ)) (k : List Item)
      → statement_step program page input c h (statement.Block body) k ≡ go_on c h (sequence (statements_row body).1 ∷ k)
  step_Block body k = ap (λ (w : (n : Count) × Row_of-Stmt ℕ n). go_on c h (sequence w.1 ∷ k)) (block_row body)

-- ---- what each statement puts before the rest

-- what every Ok answer has
pub of_ok : (r : Result Outcome Memory) (P Q : Outcome → Type 0) → IfOk r P → ((o : Outcome) → P o → Q o) → IfOk r Q
of_ok (Ok o) P Q holds goes = goes o holds
of_ok (Err e) P Q holds goes = tt

-- a statement that puts this work before the rest
pub statement_puts : (old new : Evaluator) (s : Bor (Stmt ℕ)) (variant : Stmt ℕ) (r : Result Outcome Memory) (before : List Work)
    → IsReady old (works.Perform s) → s.now ≡ variant → IfOk r (λ o. o ≡ outcomes.Going) → OnOk r (Puts old before hands.Idle new)
    → ((h : Stack) → statement_step old.program.now old.page old.input.now (control_at old old.hand (works.Perform s)) h variant (behind_work old (works.Perform s))
    ≡ silent (control_by old before hands.Idle) h)
    → IfOk r (λ o. Does old (works.Perform s) o new)
statement_puts old new s variant r before ready is going put moves =
    put_does old new (works.Perform s) old.hand before hands.Idle r ready refl going put (λ h at.
    ap (λ x. statement_step old.program.now old.page old.input.now (control_at old old.hand (works.Perform s)) h x (behind_work old (works.Perform s))) is ∙ moves h)

-- a part that may not be there, as the code looks at it
pub copied_part : {A : Type 0} (r : Option (Bor A)) (t : Option A) → option_copied r ≡ t → optional_of r ≡ t
copied_part None t e = e
copied_part (Some x) t e = e

-- a `return`, wherever it stands
pub does_Return : (old new : Evaluator) (s : Bor (Stmt ℕ)) (r : Result Outcome Memory) (place : ℕ) (value : Option (Expr ℕ)) → s.now ≡ statement.Return place value
    → IfOk r (λ o. (place : ℕ) → DoesItem old (perform (statement.Return place value)) o new) → IfOk r (λ o. Does old (works.Perform s) o new)
does_Return old new s r place value is did =
    of_ok r (λ o. (place : ℕ) → DoesItem old (perform (statement.Return place value)) o new) (λ o. Does old (works.Perform s) o new) did (λ o does.
    subst (λ x. DoesItem old (perform x) o new) (sym is) (does place))

-- each statement, with what the code got of its parts
module _ (old new : Evaluator) (s : Bor (Stmt ℕ)) (r : Result Outcome Memory) (ready : IsReady old (works.Perform s)) (going : IfOk r (λ o. o ≡ outcomes.Going)) where
  -- the state at the statement, and what is behind it
  abbrev at_statement : Control
  at_statement = control_at old old.hand (works.Perform s)

  abbrev behind : List Item
  behind = behind_work old (works.Perform s)

  -- it did the statement
  abbrev Done : Type 0
  Done = IfOk r (λ o. Does old (works.Perform s) o new)

  -- arguments of a call that were begun are those of the call
  begun : (work : Work) (u : purpose.Purpose) (call : Call ℕ) (later : List Work) → IsBegun work u call → (h : Stack)
      → go_on at_statement h (arguments (purpose_of u) call.function.name [] (arguments_row call.arguments).1 ∷ items_of (later ++ reverse old.rest.items) (passed_in old))
      ≡ silent (control_by old (work ∷ later) hands.Idle) h
  begun work u call later (more, is, same) h =
      ap (λ xs. go_on at_statement h (arguments (purpose_of u) call.function.name [] (arguments_row xs).1 ∷ items_of (later ++ reverse old.rest.items) (passed_in old))) (sym same)
      ∙ ap (λ w. silent (control_by old (w ∷ later) hands.Idle) h) (sym is)

  pub does_Call : (work : Work) (call : Call ℕ) → s.now ≡ statement.Call call → IsBegun work purposes.Called call
      → OnOk r (Puts old (work ∷ works.Discard ∷ []) hands.Idle new) → Done
  does_Call work call is begins put = statement_puts old new s (statement.Call call) r (work ∷ works.Discard ∷ []) ready is going put (λ h.
      invoke_call at_statement h called call (discard ∷ behind) ∙ begun work purposes.Called call (works.Discard ∷ []) begins h)

  pub does_Spawn : (work : Work) (place : ℕ) (x : Option (Mark ℕ)) (call : Call ℕ) (u : purpose.Purpose) → s.now ≡ statement.Spawn place x call
      → u ≡ purposes.Spawned (destination_slot x) → IsBegun work u call → OnOk r (Puts old (work ∷ []) hands.Idle new) → Done
  does_Spawn work place x call u is same begins put = statement_puts old new s (statement.Spawn place x call) r (work ∷ []) ready is going put (λ h.
      invoke_call at_statement h (spawned (destination_slot x)) call behind
      ∙ begun work (purposes.Spawned (destination_slot x)) call [] (subst (λ u. IsBegun work u call) same begins) h)

  pub does_If : (t : Bor (Expr ℕ)) (chosen : Stmt ℕ) (other : Option (Stmt ℕ)) (got : Bor (Stmt ℕ)) (held : Option (Bor (Stmt ℕ)))
      → s.now ≡ statement.If t.now chosen other → got.now ≡ chosen → optional_of held ≡ other
      → OnOk r (Puts old (works.Evaluate t ∷ works.Branch got held ∷ []) hands.Idle new) → Done
  does_If t chosen other got held is same same_other put =
      statement_puts old new s (statement.If t.now chosen other) r (works.Evaluate t ∷ works.Branch got held ∷ []) ready is going put (λ h.
      step_If old.program.now old.page old.input.now at_statement h t.now chosen other behind
      ∙ ap (λ x. go_on at_statement h (evaluate t.now ∷ branch x other ∷ behind)) (sym same)
      ∙ ap (λ o. go_on at_statement h (evaluate t.now ∷ branch got.now o ∷ behind)) (sym same_other))

  pub does_While : (t : Bor (Expr ℕ)) (body : Stmt ℕ) (got : Bor (Stmt ℕ)) → s.now ≡ statement.While t.now body → got.now ≡ body
      → OnOk r (Puts old (works.Turn (Some t) None got ∷ []) hands.Idle new) → Done
  does_While t body got is same put =
      statement_puts old new s (statement.While t.now body) r (works.Turn (Some t) None got ∷ []) ready is going put (λ h.
      step_While old.program.now old.page old.input.now at_statement h t.now body behind
      ∙ ap (λ b. go_on at_statement h (turn (Some t.now) statement.Empty b ∷ behind)) (sym same))

  pub does_For : (first : Stmt ℕ) (t : Option (Expr ℕ)) (step body : Stmt ℕ) (held : Option (Bor (Expr ℕ))) (got_first got_step got_body : Bor (Stmt ℕ))
      → s.now ≡ statement.For first t step body → optional_of held ≡ t → got_first.now ≡ first → got_step.now ≡ step → got_body.now ≡ body
      → OnOk r (Puts old (works.Perform got_first ∷ works.Turn held (Some got_step) got_body ∷ []) hands.Idle new) → Done
  does_For first t step body held got_first got_step got_body is same same_first same_step same_body put =
      statement_puts old new s (statement.For first t step body) r (works.Perform got_first ∷ works.Turn held (Some got_step) got_body ∷ []) ready is going put (λ h.
      step_For old.program.now old.page old.input.now at_statement h first t step body behind
      ∙ sym (λ i. go_on at_statement h (perform (same_first i) ∷ turn (same i) (same_step i) (same_body i) ∷ behind)))

  pub does_Split : (place : Bor (Expr ℕ)) (whole left right : Mark ℕ) (body : List (Stmt ℕ)) (close : ℕ) (got : Bor (List (Stmt ℕ)))
      → s.now ≡ statement.Split whole place.now left right body close → got.now ≡ body
      → OnOk r (Puts old (works.Evaluate place ∷ works.Part whole.name left.name right.name got ∷ []) hands.Idle new) → Done
  does_Split place whole left right body close got is same put =
      statement_puts old new s (statement.Split whole place.now left right body close) r (works.Evaluate place ∷ works.Part whole.name left.name right.name got ∷ []) ready is going put (λ h.
      step_Split old.program.now old.page old.input.now at_statement h whole place.now left right body close behind
      ∙ ap (λ b. go_on at_statement h (evaluate place.now ∷ part whole.name left.name right.name (statements_row b).1 ∷ behind)) (sym same))

  pub does_Block : (body : List (Stmt ℕ)) (got : Bor (List (Stmt ℕ))) → s.now ≡ statement.Block body → got.now ≡ body
      → OnOk r (Puts old (works.Sequence got ∷ []) hands.Idle new) → Done
  does_Block body got is same put =
      statement_puts old new s (statement.Block body) r (works.Sequence got ∷ []) ready is going put (λ h.
      step_Block old.program.now old.page old.input.now at_statement h body behind
      ∙ ap (λ b. go_on at_statement h (sequence (statements_row b).1 ∷ behind)) (sym same))
