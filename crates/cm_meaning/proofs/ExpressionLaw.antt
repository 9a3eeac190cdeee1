-- The step of each expression as the code matches it.
use Rattle.std.proofs.Common.{◌≡◌, ℕ, List, [], ◌∷◌, length, refl, sym, ap, ◌∙◌, subst, arith, ◌≤◌, ◌+◌, ◌<◌}
use Rattle.std.specs.Prelude.{ℤ, pos, true, if◌then◌else◌, slice_get, Some}
use Rattle.cm_syntax.specs.Trap as kind
use Rattle.cm_syntax.specs.Operator.{natural}
use Rattle.std.specs.Borrow.{Bor}
use Rattle.cm_syntax.specs.declared.expr.Mark.{Mark}
use Rattle.cm_syntax.specs.declared.expr.Op.{Op}
use Rattle.cm_syntax.specs.declared.expr.Op.TheVariants as op
use Rattle.cm_syntax.specs.declared.expr.Arg.{Arg}
use Rattle.cm_syntax.specs.declared.expr.Call.{Call}
use Rattle.cm_syntax.specs.declared.expr.Expr.{Expr}
use Rattle.cm_syntax.specs.declared.expr.Expr.TheVariants as expression
use Rattle.cm_syntax.specs.Shape.{Joined, Binary-Joined, Unary-Prefixed, Index-Element, Input-InputAt}
use Rattle.cm_syntax.specs.Label.{silent, traps}
use Rattle.cm_syntax.specs.Limit.{max_frame_words}
use Rattle.cm_syntax.specs.Cell.{present}
use Rattle.cm_syntax.specs.Stack.{Stack, Reference}
use Rattle.cm_syntax.specs.Rest as rest
use Rattle.cm_syntax.specs.Step.{top, slot_at, when_readable, is_index, give_input, evaluate_step}
use Rattle.cm_meaning.specs.declared.evaluator.Evaluator.{Evaluator}
use Rattle.cm_meaning.specs.declared.work.Purpose.TheVariants as purposes
use Rattle.cm_meaning.specs.declared.work.Hand.{Hand}
use Rattle.cm_meaning.specs.declared.work.Hand.TheVariants as hands
use Rattle.cm_meaning.specs.declared.work.Work.{Work}
use Rattle.cm_meaning.specs.declared.work.Work.TheVariants as works
use Rattle.cm_meaning.specs.Typing.{TypedExpression}
use Rattle.cm_meaning.specs.TypedState.{at_hand}
use Rattle.cm_meaning.specs.Layout.{calls_in, slot_in, Shows, IsRowOf, IsWordAt}
use Rattle.cm_meaning.specs.Evaluator.{arguments_row, left_work, hand_of, control_with, IsTypedAt, IsReady}
use Rattle.cm_meaning.proofs.EvaluatorLaw.{control_by, control_at, behind_work, work_move, call_row, Inside, ready_inside, scalar_value, RowAt, row_read, row_few, row_word, row_word_value, index_is}

module _ (ev : Evaluator) (e : Bor (Expr ℕ)) where
  -- the expression's step puts this work before the rest, and this is at hand
  abbrev pub Moves : List Work → Hand → Type 0
  Moves before hand = (h : Stack) → work_move ev ev.hand (works.Evaluate e) h ≡ silent (control_by ev before hand) h

  -- the step, of another form of the expression
  stepped : (x : Expr ℕ) → e.now ≡ x → (h : Stack) → work_move ev ev.hand (works.Evaluate e) h
      ≡ evaluate_step ev.program.now ev.page ev.input.now (control_at ev ev.hand (works.Evaluate e)) h x (behind_work ev (works.Evaluate e))
  stepped x is h = ap (λ x. evaluate_step ev.program.now ev.page ev.input.now (control_at ev ev.hand (works.Evaluate e)) h x (behind_work ev (works.Evaluate e))) is

  -- to these items before the rest
  abbrev to_items : List rest.Item → rest.Control
  to_items items = rest.control (calls_in ev.frames) ev.account rest.idle items

  pub moves-Index : (a : Mark ℕ) (place : Expr ℕ) (got : Bor (Expr ℕ)) → e.now ≡ expression.Index a place → got.now ≡ place
      → Moves (works.Evaluate got ∷ works.Element a.name ∷ []) hands.Idle
  moves-Index a place got is same h = stepped _ (is ∙ Index-Element a place) h
      ∙ ap (λ x. silent (to_items (rest.evaluate x ∷ rest.element a.name ∷ behind_work ev (works.Evaluate e))) h) (sym same)

  pub moves-Input : (place : Expr ℕ) (got : Bor (Expr ℕ)) → e.now ≡ expression.Input place → got.now ≡ place
      → Moves (works.Evaluate got ∷ works.Read ∷ []) hands.Idle
  moves-Input place got is same h = stepped _ (is ∙ Input-InputAt place) h
      ∙ ap (λ x. silent (to_items (rest.evaluate x ∷ rest.read ∷ behind_work ev (works.Evaluate e))) h) (sym same)

  pub moves-Unary : (o : Op) (operand : Expr ℕ) (got : Bor (Expr ℕ)) → e.now ≡ expression.Unary o operand → got.now ≡ operand
      → Moves (works.Evaluate got ∷ works.Prefix o ∷ []) hands.Idle
  moves-Unary o operand got is same h = stepped _ (is ∙ Unary-Prefixed o operand) h
      ∙ ap (λ x. silent (to_items (rest.evaluate x ∷ rest.prefix o ∷ behind_work ev (works.Evaluate e))) h) (sym same)

  joined : (o : Op) (l r : Bor (Expr ℕ)) → e.now ≡ Joined o l.now r.now → Moves (works.Evaluate l ∷ left_work o r ∷ []) hands.Idle
  joined op.Both l r is h = stepped _ is h
  joined op.Either l r is h = stepped _ is h
  joined _ l r is h = stepped _ is h

  pub moves-Binary : (o : Op) (left right : Expr ℕ) (l r : Bor (Expr ℕ)) (behind : Work) → e.now ≡ expression.Binary o left right
      → l.now ≡ left → r.now ≡ right → behind ≡ left_work o r → Moves (works.Evaluate l ∷ behind ∷ []) hands.Idle
  moves-Binary o left right l r behind is same_left same_right put =
      subst (λ b. Moves (works.Evaluate l ∷ b ∷ []) hands.Idle) (sym put)
      (joined o l r (is ∙ Binary-Joined o left right ∙ (λ i. Joined o (sym same_left i) (sym same_right i))))

  pub moves-Call : (call : Call ℕ) (items : Bor (List (Arg ℕ))) → e.now ≡ expression.Call call → items.now ≡ call.arguments
      → Moves (works.Arguments purposes.Called call.function.name 0 items ∷ works.TakeBack ∷ []) hands.Idle
  moves-Call call items is same h = stepped _ is h
      ∙ ap (λ p. silent (to_items (rest.arguments rest.called call.function.name [] p.1 ∷ rest.take_back ∷ behind_work ev (works.Evaluate e))) h)
      (call_row call ∙ ap arguments_row (sym same))

  module _ (ready : IsReady ev (works.Evaluate e)) where
    -- the running function at the expression
    inside_at : (h : Stack) → IsTypedAt ev (control_with (works.Evaluate e ∷ []) ev) h
        → Inside ev.program.now h (calls_in ev.frames) (at_hand (hand_of ev.hand [])) (rest.evaluate e.now ∷ behind_work ev (works.Evaluate e))
    inside_at h at = ready_inside ev (works.Evaluate e) ev.hand h refl ready.1 tt at

    -- with this value at hand
    abbrev to_value : ℤ → rest.Control
    to_value v = rest.control (calls_in ev.frames) ev.account (rest.holds v) (behind_work ev (works.Evaluate e))

    pub moves-Scalar : (x : Mark ℕ) (d : ℕ) (v : ℤ) → e.now ≡ expression.Scalar x → d ≡ top (calls_in ev.frames)
        → ((h : Stack) (w : ℤ) → Shows ev.frames h → h.words d x.name 0 ≡ present w → v ≡ w)
        → (h : Stack) → IsTypedAt ev (control_with (works.Evaluate e ∷ []) ev) h
        → work_move ev ev.hand (works.Evaluate e) h ≡ silent (control_by ev [] (hands.Value v)) h
    moves-Scalar x d v is is_top reads h at =
        let inside = inside_at h at in
        let set = subst (TypedExpression ev.program.now.functions inside.function.slots inside.set) is inside.inner.0 in
        let w = scalar_value ev ready.0 h _ _ inside x.name set in
        let same : v ≡ w.0 = reads h w.0 at.1 (ap (λ d. h.words d x.name 0) is_top ∙ w.1) in
        stepped _ is h ∙ ap (λ cell. when_readable cell (λ v. silent (to_value v) h)) w.1 ∙ ap (λ v. silent (to_value v) h) (sym same)

    -- the row of a length
    row_of_length : (a : Mark ℕ) (r : Reference) → e.now ≡ expression.Len a
        → (h : Stack) → IsTypedAt ev (control_with (works.Evaluate e ∷ []) ev) h → IsRowOf h (calls_in ev.frames) a.name (slot_in ev.frames a.name) r
        → RowAt ev.program.now h (calls_in ev.frames) (top (calls_in ev.frames)) (slot_at ev.program.now ev.page ev.input.now (calls_in ev.frames) a.name) a.name r
    row_of_length a r is h at row =
        let inside = inside_at h at in
        row_read ev ready.0 h _ _ inside a.name r at.0.refers (subst (TypedExpression ev.program.now.functions inside.function.slots inside.set) is inside.inner.0) row

    pub moves-Len : (a : Mark ℕ) (r : Reference) → e.now ≡ expression.Len a
        → ((h : Stack) → Shows ev.frames h → IsRowOf h (calls_in ev.frames) a.name (slot_in ev.frames a.name) r)
        → (h : Stack) → IsTypedAt ev (control_with (works.Evaluate e ∷ []) ev) h
        → work_move ev ev.hand (works.Evaluate e) h ≡ silent (control_by ev [] (hands.Value (pos r.length))) h
    moves-Len a r is row h at = stepped _ is h ∙ (row_of_length a r is h at (row h at.1)).reads (λ r. silent (to_value (pos r.length)) h)

    pub length-fits : (a : Mark ℕ) (r : Reference) → e.now ≡ expression.Len a
        → ((h : Stack) → Shows ev.frames h → IsRowOf h (calls_in ev.frames) a.name (slot_in ev.frames a.name) r) → r.length ≤ max_frame_words
    length-fits a r is row = omega (arith, row_few ev ready.0 ready.2 r (row_of_length a r is ready.2 ready.3 (row ready.2 ready.3.1)).fits)

-- ---- elements

module _ (ev : Evaluator) (x : ℕ) (v : ℤ) (r : Reference) (ready : IsReady ev (works.Element x)) (is : ev.hand ≡ hands.Value v)
    (row : (h : Stack) → Shows ev.frames h → IsRowOf h (calls_in ev.frames) x (slot_in ev.frames x) r) (within : is_index v r.length ≡ true) where
  row_of_element : (h : Stack) → IsTypedAt ev (control_with (works.Element x ∷ []) ev) h
      → RowAt ev.program.now h (calls_in ev.frames) (top (calls_in ev.frames)) (slot_at ev.program.now ev.page ev.input.now (calls_in ev.frames) x) x r
  row_of_element h at =
      let inside = ready_inside ev (works.Element x) (hands.Value v) h is ready.1 tt at in
      row_read ev ready.0 h _ _ inside x r at.0.refers inside.inner.1 (row h at.1)

  -- the word is there, and where it stands is a small number
  pub element-there : (i : ℕ) → i ≡ natural v → IsWordAt ev.frames r.depth r.slot (r.start + i)
  element-there i at = let n = index_is v r.length within in
      row_word ev ready.0 ready.2 r (row_of_element ready.2 ready.3).fits i (omega (arith, n.2, at, ap natural n.1))

  pub element-fits : r.start + natural v < max_frame_words
  element-fits = let n = index_is v r.length within in
      omega (arith, n.2, ap natural n.1, row_few ev ready.0 ready.2 r (row_of_element ready.2 ready.3).fits)

  pub moves-Element : (i : ℕ) (word : ℤ) → i ≡ natural v
      → ((h : Stack) (w : ℤ) → Shows ev.frames h → h.words r.depth r.slot (r.start + i) ≡ present w → word ≡ w)
      → (h : Stack) → IsTypedAt ev (control_with (works.Element x ∷ []) ev) h
      → work_move ev (hands.Value v) (works.Element x) h ≡ silent (control_by ev [] (hands.Value word)) h
  moves-Element i word at reads h typed =
      let here = row_of_element h typed in
      let n = index_is v r.length within in
      let w = row_word_value ev h r here.fits (natural v) (omega (arith, n.2, ap natural n.1)) in
      let same : word ≡ w.0 = reads h w.0 typed.1 (ap (λ j. h.words r.depth r.slot (r.start + j)) at ∙ w.1) in
      here.reads _ ∙ ap (λ b. if b then when_readable (h.words r.depth r.slot (r.start + natural v)) (λ w. silent (to_value w) h) else traps kind.Index) within
      ∙ ap (λ cell. when_readable cell (λ w. silent (to_value w) h)) w.1 ∙ ap (λ w. silent (to_value w) h) (sym same)
    where
      to_value : ℤ → rest.Control
      to_value w = rest.control (calls_in ev.frames) ev.account (rest.holds w) (behind_work ev (works.Element x))

-- ---- the input

pub moves-Read : (ev : Evaluator) (v number : ℤ) → is_index v (length ev.input.now) ≡ true → slice_get ev.input.now (natural v) ≡ Some number
    → (h : Stack) → work_move ev (hands.Value v) works.Read h ≡ silent (control_by ev [] (hands.Value number)) h
moves-Read ev v number within at h =
    let c = control_at ev (hands.Value v) works.Read in
    let k = behind_work ev works.Read in
    let read = give_input ev.program.now ev.page ev.input.now c h in
    ap (λ b. if b then read (slice_get ev.input.now (natural v)) k else traps kind.Input) within ∙ ap (λ o. read o k) at
