-- What the definitions of the code say of a statement as the code matches on it, of a loop's two ends, and of lists that
-- loops go through from the end.
use Rattle.std.proofs.Common.{◌≡◌, ℕ, zero, suc, ◌+◌, ◌-◌, ◌<◌, ◌≤◌, Option, Some, None, List, [], ◌∷◌, ◌++◌, length, set, get_or, drop, refl, sym, ap, ◌∙◌, subst, arith, append_assoc, length-append}
use Rattle.std.proofs.lemmas.List.{set_at}
use Rattle.cm_syntax.specs.declared.expr.Mark.{Mark}
use Rattle.cm_syntax.specs.declared.expr.Expr.{Expr}
use Rattle.cm_syntax.specs.declared.stmt.Slot.{Slot}
use Rattle.cm_syntax.specs.declared.stmt.Item.{Item}
use Rattle.cm_syntax.specs.declared.stmt.Stmt.{Stmt, Row_of-Stmt, end_of-Stmt, more_of-Stmt, items-the_row-Stmt, items_hidden-the_row-Stmt-1}
use Rattle.cm_syntax.specs.declared.stmt.Stmt.TheVariants as statement
use Rattle.cm_syntax.specs.Shape.{ForLoop}
use Rattle.cm_syntax.specs.Frame.{slot_words}
use Rattle.cm_syntax.specs.Limit.{max_frame_words}
use Rattle.cm_syntax.proofs.Rows.{row_of_block}
use Rattle.cm_syntax.proofs.StatementLaw as measure
use Rattle.cm_syntax.proofs.StatementLaw.{If-Alone, If-Else, While-Loop, For-Loop}
use Rattle.cm_syntax.proofs.FrameLaw.{next}
use Rattle.cm_gen.specs.declared.form.Form.{Form}
use Rattle.cm_gen.specs.Part.{Part, straight}
use Rattle.cm_gen.specs.Code.{tick}
use Rattle.cm_gen.specs.Builder.{back}
use Rattle.cm_gen.specs.Expression.{skip, skip_unless, expression_code}
use Rattle.cm_gen.specs.Statement.{alone_of, choice_of, test_code, loop_code, loop_words, part_code, turn_code, statement_code, statement_size, sequence_code, sequence_size, body_code, body_size}
use Rattle.cm_gen.specs.Fits.{Fits, OptionFits, ItemsFit, StatementFits, SequenceFits, BodyFits}
use Rattle.cm_gen.proofs.sizes.SizeLaw.{joined, loop_length, size-statement, size-body}

-- ---- the two ends of a loop

pub test_closed : (e inner rest old c1 c2 c3 new : List Part) (behind : ℕ) → length rest ≡ behind → old ≡ inner ++ (back 0 ∷ rest)
    → c1 ≡ straight tick ++ old → c2 ≡ straight (skip_unless (length c1 - behind)) ++ c1 → c3 ≡ e ++ c2
    → new ≡ set c3 (length c3 - 1 - behind) (back (length c3 - behind - 1)) → new ≡ (e ++ test_code (length e) inner) ++ rest
test_closed e inner rest old c1 c2 c3 new behind size whole e1 e2 e3 closed =
    let turn : List Part = straight (skip_unless (length inner + 5)) ++ (straight tick ++ inner) in
    let front : List Part = e ++ turn in
    let n : ℕ = length e + (length inner + 6) in
    let tail : length old ≡ length inner + suc (length rest) = ap length whole ∙ length-append inner (back 0 ∷ rest) in
    let first : length c1 - behind ≡ length inner + 5 = omega (arith, ap length e1, tail, size) in
    let second : c2 ≡ turn ++ (back 0 ∷ rest) =
    e2 ∙ ap (λ k. straight (skip_unless k) ++ c1) first ∙ ap (λ l. straight (skip_unless (length inner + 5)) ++ l) (e1 ∙ ap (λ l. straight tick ++ l) whole) in
    let third : c3 ≡ front ++ (back 0 ∷ rest) = e3 ∙ ap (λ l. e ++ l) second ∙ sym (append_assoc e turn (back 0 ∷ rest)) in
    let sizes : length front ≡ n = omega (arith, length-append e turn) in
    let all : length c3 ≡ n + suc behind = omega (arith, ap length third, length-append front (back 0 ∷ rest), sizes, size) in
    let place : length c3 - 1 - behind ≡ length front = omega (arith, all, sizes) in
    let distance : length c3 - behind - 1 ≡ n = omega (arith, all) in
    closed ∙ ap (λ k. set c3 k (back (length c3 - behind - 1))) place ∙ ap (λ k. set c3 (length front) (back k)) distance
    ∙ ap (λ (l : List Part). set l (length front) (back n)) third ∙ set_at front (back 0) rest (back n) (length front) refl
    ∙ append_assoc e turn (back n ∷ rest)
    ∙ ap (λ l. e ++ (straight (skip_unless (length inner + 5)) ++ (straight tick ++ l))) (sym (append_assoc inner (back n ∷ []) rest))
    ∙ sym (append_assoc e (test_code (length e) inner) rest)

pub endless_closed : (slots : List Slot) (inner rest old c1 new : List Part) (behind : ℕ) → length rest ≡ behind → old ≡ inner ++ (back 0 ∷ rest)
    → c1 ≡ straight tick ++ old → new ≡ set c1 (length c1 - 1 - behind) (back (length c1 - behind - 1)) → new ≡ loop_code slots None inner ++ rest
endless_closed slots inner rest old c1 new behind size whole e1 closed =
    let front : List Part = straight tick ++ inner in
    let n : ℕ = length inner + 4 in
    let tail : length old ≡ length inner + suc (length rest) = ap length whole ∙ length-append inner (back 0 ∷ rest) in
    let all : length c1 ≡ n + suc behind = omega (arith, ap length e1, tail, size) in
    let place : length c1 - 1 - behind ≡ length front = omega (arith, all) in
    let distance : length c1 - behind - 1 ≡ n = omega (arith, all) in
    closed ∙ ap (λ k. set c1 k (back (length c1 - behind - 1))) place ∙ ap (λ k. set c1 (length front) (back k)) distance
    ∙ ap (λ (l : List Part). set l (length front) (back n)) (e1 ∙ ap (λ l. straight tick ++ l) whole) ∙ set_at front (back 0) rest (back n) (length front) refl
    ∙ ap (λ l. straight tick ++ l) (sym (append_assoc inner (back n ∷ []) rest))

-- ---- lists from the end

pub items_fit_at : (items : List (Item ℕ)) (i : ℕ) (x : Item ℕ) → ItemsFit items → i < length items → x ≡ get_or items i x
    → (slot_words x.slot ≤ max_frame_words) × OptionFits x.first
items_fit_at [] i x h lt is = absurd (omega arith)
items_fit_at (first ∷ more) zero x h lt is = subst (λ (y : Item ℕ). (slot_words y.slot ≤ max_frame_words) × OptionFits y.first) (sym is) (h.0, h.1)
items_fit_at (first ∷ more) (suc i) x h lt is = items_fit_at more i x h.2 (omega arith) is

pub body_fits_at : (body : List (Stmt ℕ)) (i : ℕ) (x : Stmt ℕ) → BodyFits body → i < length body → x ≡ get_or body i x → StatementFits x
body_fits_at [] i x h lt is = absurd (omega arith)
body_fits_at (first ∷ more) zero x h lt is = subst StatementFits (sym is) h.0
body_fits_at (first ∷ more) (suc i) x h lt is = body_fits_at more i x h.1 (omega arith) is

-- a turn over statements
pub body_next : (form : Form) (slots : List Slot) (body : List (Stmt ℕ)) (i : ℕ) (x : Stmt ℕ) (new mid old : List Part) (exit : ℕ) → i < length body
    → x ≡ get_or body i x → exit ≤ length old → new ≡ statement_code form slots (length mid - exit) x ++ mid
    → mid ≡ body_code form slots (length old - exit) (drop (i + 1) body) ++ old → new ≡ body_code form slots (length old - exit) (drop i body) ++ old
body_next form slots body i x new mid old exit lt is within h later =
    let more : List (Stmt ℕ) = drop (i + 1) body in
    let n : ℕ = length old - exit in
    let place : length mid - exit ≡ n + body_size form slots more =
    omega (arith, ap length later, length-append (body_code form slots n more) old, size-body form slots n more, within) in
    let code : List Part = statement_code form slots (n + body_size form slots more) x in
    h ∙ ap (λ k. statement_code form slots k x ++ mid) place ∙ ap (λ l. code ++ l) later ∙ sym (append_assoc code (body_code form slots n more) old)
    ∙ ap (λ (l : List (Stmt ℕ)). body_code form slots n l ++ old) (sym (next body i x lt is))

-- ---- what the code of an `if` and of a loop is put together of

pub choice_made : (chosen other old c1 c2 c3 new : List Part) (m n : ℕ) → c1 ≡ other ++ old → c2 ≡ straight (skip m) ++ c1 → m ≡ length other
    → c3 ≡ chosen ++ c2 → n ≡ length chosen + 1 → new ≡ straight (skip_unless n) ++ c3 → new ≡ choice_of chosen other ++ old
choice_made chosen other old c1 c2 c3 new m n e1 e2 em e3 en e4 =
    let later : List Part = straight (skip (length other)) ++ other in
    let second : c2 ≡ later ++ old = e2 ∙ ap (λ k. straight (skip k) ++ c1) em ∙ ap (λ l. straight (skip (length other)) ++ l) e1 in
    e4 ∙ ap (λ k. straight (skip_unless k) ++ c3) en
    ∙ ap (λ l. straight (skip_unless (length chosen + 1)) ++ l) (e3 ∙ ap (λ l. chosen ++ l) second ∙ sym (append_assoc chosen later old))

-- the place of what is chosen, before a jump over the other part
pub choice_place : (form : Form) (slots : List Slot) (other : Stmt ℕ) (exit m : ℕ) (old c1 c2 : List Part) → exit ≤ length old
    → c1 ≡ statement_code form slots (length old - exit) other ++ old → c2 ≡ straight (skip m) ++ c1
    → length c2 - exit ≡ length old - exit + (statement_size form slots other + 1)
choice_place form slots other exit m old c1 c2 within e1 e2 =
    let code = statement_code form slots (length old - exit) other in
    omega (arith, within, ap length e1, ap length e2, length-append code old, size-statement form slots (length old - exit) other)

-- a turn before an open jump
pub turn_made : (form : Form) (slots : List Slot) (step body : Stmt ℕ) (exit : ℕ) (old c0 c1 c2 : List Part) → exit ≤ length old → c0 ≡ back 0 ∷ old
    → c1 ≡ statement_code form slots (length c0 - exit) step ++ c0 → c2 ≡ statement_code form slots (length c1 - exit) body ++ c1
    → c2 ≡ turn_code form slots (length old - exit) step body ++ (back 0 ∷ old)
turn_made form slots step body exit old c0 c1 c2 within e0 e1 e2 =
    let n : ℕ = length old - exit in
    let first : length c0 - exit ≡ n + 1 = omega (arith, within, ap length e0) in
    let behind : List Part = statement_code form slots (n + 1) step in
    let middle : c1 ≡ behind ++ (back 0 ∷ old) = e1 ∙ ap (λ k. statement_code form slots k step ++ c0) first ∙ ap (λ l. behind ++ l) e0 in
    let second : length c1 - exit ≡ n + 1 + statement_size form slots step =
    omega (arith, within, ap length middle, length-append behind (back 0 ∷ old), size-statement form slots (n + 1) step) in
    let code : List Part = statement_code form slots (n + 1 + statement_size form slots step) body in
    e2 ∙ ap (λ k. statement_code form slots k body ++ c1) second ∙ ap (λ l. code ++ l) middle ∙ sym (append_assoc code behind (back 0 ∷ old))

-- what is done before a loop
pub first_made : (form : Form) (slots : List Slot) (s first step body : Stmt ℕ) (t : Option (Expr ℕ)) (exit : ℕ) (old mid new : List Part) → exit ≤ length old
    → s ≡ ForLoop first t step body → mid ≡ loop_code slots t (turn_code form slots (length old - exit) step body) ++ old → new ≡ statement_code form slots (length mid - exit) first ++ mid
    → new ≡ statement_code form slots (length old - exit) s ++ old
first_made form slots s first step body t exit old mid new within is e1 e2 =
    let n : ℕ = length old - exit in
    let turn : List Part = turn_code form slots n step body in
    let loop : List Part = loop_code slots t turn in
    let words : length loop ≡ (statement_size form slots body + statement_size form slots step) + loop_words slots t =
    loop_length slots t turn _ (joined _ _ _ _ (size-statement form slots (n + 1 + statement_size form slots step) body) (size-statement form slots (n + 1) step)) in
    let place : length mid - exit ≡ n + ((statement_size form slots body + statement_size form slots step) + loop_words slots t) =
    omega (arith, within, ap length e1, length-append loop old, words) in
    let code : List Part = statement_code form slots (n + ((statement_size form slots body + statement_size form slots step) + loop_words slots t)) first in
    e2 ∙ ap (λ k. statement_code form slots k first ++ mid) place ∙ ap (λ l. code ++ l) e1 ∙ sym (append_assoc code loop old)
    ∙ ap (λ x. statement_code form slots n x ++ old) (sym is)

-- a turn becomes a loop by its head
pub closed_none : (slots : List Slot) (t : Option (Expr ℕ)) (turn old mid new : List Part) (behind : ℕ) → mid ≡ turn ++ (back 0 ∷ old) → length old ≡ behind → t ≡ None
    → ((slots : List Slot) (inner rest : List Part) → mid ≡ inner ++ (back 0 ∷ rest) → length rest ≡ behind → new ≡ loop_code slots None inner ++ rest)
    → new ≡ loop_code slots t turn ++ old
closed_none slots t turn old mid new behind made size is h = h slots turn old made size ∙ ap (λ x. loop_code slots x turn ++ old) (sym is)

pub closed_some : (slots : List Slot) (t : Option (Expr ℕ)) (test : Expr ℕ) (turn old mid new : List Part) (behind : ℕ) → mid ≡ turn ++ (back 0 ∷ old) → length old ≡ behind
    → t ≡ Some test → ((inner rest : List Part) → mid ≡ inner ++ (back 0 ∷ rest) → length rest ≡ behind → new ≡ loop_code slots (Some test) inner ++ rest)
    → new ≡ loop_code slots t turn ++ old
closed_some slots t test turn old mid new behind made size is h = h turn old made size ∙ ap (λ x. loop_code slots x turn ++ old) (sym is)

-- a code under another name
pub renamed : (whole code old new : List Part) → whole ≡ code → new ≡ code ++ old → new ≡ whole ++ old
renamed whole code old new is h = h ∙ ap (λ l. l ++ old) (sym is)

-- ---- statements, as the code matches on them

pub record Alone (s : Stmt ℕ) (t : Expr ℕ) (chosen : Stmt ℕ) (form : Form) (slots : List Slot) (behind : ℕ) : Type 0 where
  pub smaller : measure.statement_size chosen < measure.statement_size s
  pub fits_test : Fits t 0
  pub fits : StatementFits chosen
  pub code : statement_code form slots behind s ≡ expression_code slots t 0 ++ alone_of (statement_code form slots behind chosen)

pub alone-If : (s : Stmt ℕ) (t : Expr ℕ) (chosen got : Stmt ℕ) (other : Option (Stmt ℕ)) (form : Form) (slots : List Slot) (behind : ℕ)
    → s ≡ statement.If t chosen other → other ≡ None → got ≡ chosen → StatementFits s → Alone s t got form slots behind
alone-If s t chosen got other form slots behind is none same fits =
    let shape = is ∙ ap (statement.If t chosen) none ∙ If-Alone t chosen in
    let parts = subst StatementFits shape fits in
    record {
      smaller = omega (arith, ap measure.statement_size shape, ap measure.statement_size same);
      fits_test = parts.0;
      fits = subst StatementFits (sym same) parts.1;
      code = ap (statement_code form slots behind) shape ∙ ap (λ x. expression_code slots t 0 ++ alone_of (statement_code form slots behind x)) (sym same);
    }

pub record Choice (s : Stmt ℕ) (t : Expr ℕ) (chosen other : Stmt ℕ) (form : Form) (slots : List Slot) (behind : ℕ) : Type 0 where
  pub smaller : measure.statement_size chosen + measure.statement_size other < measure.statement_size s
  pub fits_test : Fits t 0
  pub fits_chosen : StatementFits chosen
  pub fits_other : StatementFits other
  pub code : statement_code form slots behind s ≡ expression_code slots t 0
      ++ choice_of (statement_code form slots (behind + (statement_size form slots other + 1)) chosen) (statement_code form slots behind other)

pub choice-If : (s : Stmt ℕ) (t : Expr ℕ) (chosen got : Stmt ℕ) (other : Option (Stmt ℕ)) (else_is got_else : Stmt ℕ) (form : Form) (slots : List Slot) (behind : ℕ)
    → s ≡ statement.If t chosen other → other ≡ Some else_is → got ≡ chosen → got_else ≡ else_is → StatementFits s → Choice s t got got_else form slots behind
choice-If s t chosen got other else_is got_else form slots behind is some same same_else fits =
    let shape = is ∙ ap (statement.If t chosen) some ∙ If-Else t chosen else_is in
    let parts = subst StatementFits shape fits in
    record {
      smaller = omega (arith, ap measure.statement_size shape, ap measure.statement_size same, ap measure.statement_size same_else);
      fits_test = parts.0;
      fits_chosen = subst StatementFits (sym same) parts.1;
      fits_other = subst StatementFits (sym same_else) parts.2;
      code = ap (statement_code form slots behind) shape
          ∙ ap (λ x. expression_code slots t 0 ++ choice_of (statement_code form slots (behind + (statement_size form slots else_is + 1)) x) (statement_code form slots behind else_is)) (sym same)
          ∙ ap (λ y. expression_code slots t 0 ++ choice_of (statement_code form slots (behind + (statement_size form slots y + 1)) got) (statement_code form slots behind y)) (sym same_else);
    }

pub record Repeats (s : Stmt ℕ) (t : Expr ℕ) (body : Stmt ℕ) (form : Form) (slots : List Slot) (behind : ℕ) : Type 0 where
  pub smaller : measure.statement_size body < measure.statement_size s
  pub fits_test : Fits t 0
  pub fits : StatementFits body
  pub code : statement_code form slots behind s ≡ loop_code slots (Some t) (statement_code form slots (behind + 1) body)

pub repeats-While : (s : Stmt ℕ) (t : Expr ℕ) (body got : Stmt ℕ) (form : Form) (slots : List Slot) (behind : ℕ)
    → s ≡ statement.While t body → got ≡ body → StatementFits s → Repeats s t got form slots behind
repeats-While s t body got form slots behind is same fits =
    let shape = is ∙ While-Loop t body in
    let parts = subst StatementFits shape fits in
    record {
      smaller = omega (arith, ap measure.statement_size shape, ap measure.statement_size same);
      fits_test = parts.0;
      fits = subst StatementFits (sym same) parts.1;
      code = ap (statement_code form slots behind) shape ∙ ap (λ x. loop_code slots (Some t) (statement_code form slots (behind + 1) x)) (sym same);
    }

pub record Counts (s first : Stmt ℕ) (t : Option (Expr ℕ)) (step body : Stmt ℕ) : Type 0 where
  pub smaller_first : measure.statement_size first < measure.statement_size s
  pub smaller : measure.statement_size step + measure.statement_size body < measure.statement_size s
  pub fits_first : StatementFits first
  pub fits_test : OptionFits t
  pub fits_step : StatementFits step
  pub fits_body : StatementFits body
  pub shape : s ≡ ForLoop first t step body

pub counts-For : (s first : Stmt ℕ) (t : Option (Expr ℕ)) (step body got_first got_step got_body : Stmt ℕ)
    → s ≡ statement.For first t step body → got_first ≡ first → got_step ≡ step → got_body ≡ body → StatementFits s → Counts s got_first t got_step got_body
counts-For s first t step body got_first got_step got_body is same_first same_step same_body fits =
    let whole : s ≡ ForLoop got_first t got_step got_body = is ∙ For-Loop first t step body ∙ rw (same_first, same_step, same_body) refl in
    let parts = subst StatementFits whole fits in
    record {
      smaller_first = omega (arith, ap measure.statement_size whole);
      smaller = omega (arith, ap measure.statement_size whole);
      fits_first = parts.0;
      fits_test = parts.1;
      fits_step = parts.2;
      fits_body = parts.3;
      shape = whole;
    }

-- ---- blocks

row_size_is : (form : Form) (slots : List Slot) (n : _) (row : Row_of-Stmt ℕ n) → sequence_size form slots row ≡ body_size form slots (items-the_row-Stmt ℕ n row)
row_size_is form slots n end_of-Stmt = refl
row_size_is form slots n (more_of-Stmt first more) = ap (λ k. statement_size form slots first + k) (row_size_is form slots _ more)

pub row_code_is : (form : Form) (slots : List Slot) (behind : ℕ) (n : _) (row : Row_of-Stmt ℕ n)
    → sequence_code form slots behind row ≡ body_code form slots behind (items-the_row-Stmt ℕ n row)
row_code_is form slots behind n end_of-Stmt = refl
row_code_is form slots behind n (more_of-Stmt first more) =
    ap (λ k. statement_code form slots (behind + k) first ++ sequence_code form slots behind more) (row_size_is form slots _ more)
    ∙ ap (λ l. statement_code form slots (behind + body_size form slots (items-the_row-Stmt ℕ _ more)) first ++ l) (row_code_is form slots behind _ more)

row_fits : (n : _) (row : Row_of-Stmt ℕ n) → SequenceFits row → BodyFits (items-the_row-Stmt ℕ n row)
row_fits n end_of-Stmt h = tt
row_fits n (more_of-Stmt first more) h = (h.0, row_fits _ more h.1)

pub record Blocks (s : Stmt ℕ) (body : List (Stmt ℕ)) (form : Form) (slots : List Slot) (behind : ℕ) : Type 0 where
  pub smaller : measure.body_size body + 1 < measure.statement_size s
  pub fits : BodyFits body
  pub code : statement_code form slots behind s ≡ body_code form slots behind body

pub blocks-Block : (s : Stmt ℕ) (body got : List (Stmt ℕ)) (form : Form) (slots : List Slot) (behind : ℕ) → s ≡ statement.Block body → got ≡ body
    → StatementFits s → Blocks s got form slots behind
blocks-Block s body got form slots behind is same fits =
    let row = row_of_block (statement.Block body) in
    let listed : items-the_row-Stmt ℕ row.0 row.1 ≡ got = items_hidden-the_row-Stmt-1 _ body ∙ sym same in
    record {
      smaller = (measure.holds-Block s body got is same).smaller;
      fits = subst BodyFits listed (row_fits row.0 row.1 (subst StatementFits is fits));
      code = ap (statement_code form slots behind) is ∙ row_code_is form slots behind row.0 row.1 ∙ ap (body_code form slots behind) listed;
    }

pub record Splits (s : Stmt ℕ) (whole : Mark ℕ) (place : Expr ℕ) (left right : Mark ℕ) (body : List (Stmt ℕ)) (form : Form) (slots : List Slot) (behind : ℕ) : Type 0 where
  pub smaller : measure.body_size body + 1 < measure.statement_size s
  pub fits_place : Fits place 0
  pub fits : BodyFits body
  pub code : statement_code form slots behind s
      ≡ expression_code slots place 0 ++ (straight (part_code slots whole.name left.name right.name) ++ body_code form slots behind body)

pub splits-Split : (s : Stmt ℕ) (whole : Mark ℕ) (place : Expr ℕ) (left right : Mark ℕ) (body : List (Stmt ℕ)) (close : ℕ) (got : List (Stmt ℕ))
    (form : Form) (slots : List Slot) (behind : ℕ) → s ≡ statement.Split whole place left right body close → got ≡ body → StatementFits s
    → Splits s whole place left right got form slots behind
splits-Split s whole place left right body close got form slots behind is same fits =
    let row = row_of_block (statement.Split whole place left right body close) in
    let listed : items-the_row-Stmt ℕ row.0 row.1 ≡ got = items_hidden-the_row-Stmt-1 _ body ∙ sym same in
    let parts = subst StatementFits is fits in
    record {
      smaller = (measure.holds-Split s whole place left right body close got is same).smaller;
      fits_place = parts.0;
      fits = subst BodyFits listed (row_fits row.0 row.1 parts.1);
      code = ap (statement_code form slots behind) is
          ∙ ap (λ l. expression_code slots place 0 ++ (straight (part_code slots whole.name left.name right.name) ++ l))
          (row_code_is form slots behind row.0 row.1 ∙ ap (body_code form slots behind) listed);
    }
