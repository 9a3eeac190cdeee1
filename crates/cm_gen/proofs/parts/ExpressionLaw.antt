-- What the definitions of the code say of an expression as the code matches on it, and of a call's list of arguments.
use Rattle.std.proofs.Common.{◌≡◌, ℕ, ◌+◌, ◌<◌, Option, List, [], ◌∷◌, ◌++◌, refl, sym, ap, ◌∙◌, subst, arith, append_assoc}
use Rattle.cm_syntax.specs.declared.expr.Mark.{Mark}
use Rattle.cm_syntax.specs.declared.expr.Op.{Op}
use Rattle.cm_syntax.specs.declared.expr.Op.TheVariants as op
use Rattle.cm_syntax.specs.declared.expr.Expr.{Expr}
use Rattle.cm_syntax.specs.declared.expr.Expr.TheVariants as expression
use Rattle.cm_syntax.specs.declared.expr.Arg.{Arg}
use Rattle.cm_syntax.specs.declared.expr.Arg.TheVariants as argument
use Rattle.cm_syntax.specs.declared.expr.Call as calls
use Rattle.cm_syntax.specs.declared.expr.Call.{Row_of-Arg, end_of-Arg, more_of-Arg, items-the_row-Arg, items_hidden-the_row-Arg-1}
use Rattle.cm_syntax.specs.declared.stmt.Slot.{Slot}
use Rattle.cm_syntax.specs.Shape.{Joined, Prefixed, Element, InputAt, Binary-Joined, Unary-Prefixed, Index-Element, Input-InputAt}
use Rattle.cm_syntax.specs.Frame.{argument_words}
use Rattle.cm_gen.specs.Part.{Part, call, straight}
use Rattle.cm_gen.specs.Code.{service}
use Rattle.cm_isa.specs.Operation.{Operation}
use Rattle.std.specs.Prelude.{pos}
use Rattle.cm_gen.specs.Expression.{element_code, prefix_code, take_back_code, keep_word, expression_code, arguments_code}
use Rattle.cm_syntax.specs.Rest.{Purpose, spawned}
use Rattle.cm_syntax.proofs.Rows.{row_of_call}
use Rattle.cm_gen.proofs.parts.CodeLaw.{behind_one}
use Rattle.cm_gen.specs.declared.form.Form.{Form}
use Rattle.cm_gen.specs.Statement.{enter_code, invoke_code}
use Rattle.cm_gen.specs.Fits.{Fits, RowFits, RightFits, ListFits, behind_left, argument_code, list_code}

-- ---- the measure

abbrev mutual
  -- what grows at each step up in a tree, with a place for each function on the way
  pub weight : Expr ℕ → ℕ
  weight (Element name index) = weight index + 1
  weight (InputAt index) = weight index + 1
  weight (Prefixed o operand) = weight operand + 1
  weight (Joined o left right) = weight left + weight right + 3
  weight (expression.Call' function _ arguments) = row_weight arguments + 2
  weight _ = 0

  pub row_weight : {n : _} → Row_of-Arg ℕ n → ℕ
  row_weight end_of-Arg = 0
  row_weight (more_of-Arg first more) = argument_weight first + row_weight more + 2

  pub argument_weight : Arg ℕ → ℕ
  argument_weight (argument.Value value) = weight value + 1
  argument_weight _ = 0

abbrev pub list_weight : List (Arg ℕ) → ℕ
list_weight [] = 0
list_weight (first ∷ more) = argument_weight first + list_weight more + 2

-- ---- rows and lists

list_of_row-weight : (n : _) (row : Row_of-Arg ℕ n) → row_weight row ≡ list_weight (items-the_row-Arg ℕ n row)
list_of_row-weight n end_of-Arg = refl
list_of_row-weight n (more_of-Arg first more) = ap (λ x. argument_weight first + x + 2) (list_of_row-weight _ more)

list_of_row-fits : (n : _) (row : Row_of-Arg ℕ n) (d w : ℕ) → RowFits row d w → ListFits (items-the_row-Arg ℕ n row) d w
list_of_row-fits n end_of-Arg d w h = h
list_of_row-fits n (more_of-Arg first more) d w h = (h.0, list_of_row-fits _ more d (w + argument_words first) h.1)

pub list_of_row-code : (n : _) (row : Row_of-Arg ℕ n) (slots : List Slot) (d w : ℕ) → arguments_code slots row d w ≡ list_code slots (items-the_row-Arg ℕ n row) d w
list_of_row-code n end_of-Arg slots d w = refl
list_of_row-code n (more_of-Arg (argument.Value e) more) slots d w =
    ap (λ later. expression_code slots e (d + w) ++ (straight (keep_word slots (d + w)) ++ later)) (list_of_row-code _ more slots d (w + 1))
    ∙ sym (append_assoc (expression_code slots e (d + w)) (straight (keep_word slots (d + w))) _)
list_of_row-code n (more_of-Arg (argument.Slice a) more) slots d w =
    ap (λ later. argument_code slots (argument.Slice a) (d + w) ++ later) (list_of_row-code _ more slots d (w + 2))
list_of_row-code n (more_of-Arg (argument.Address x) more) slots d w =
    ap (λ later. argument_code slots (argument.Address x) (d + w) ++ later) (list_of_row-code _ more slots d (w + 2))

-- ---- expressions, as the code matches on them

-- one operand with instructions behind it
pub record One (e operand : Expr ℕ) (slots : List Slot) (d : ℕ) (after : List Operation) : Type 0 where
  pub smaller : weight operand < weight e
  pub fits : Fits operand d
  pub code : expression_code slots e d ≡ expression_code slots operand d ++ straight after

one : (e shape inner operand : Expr ℕ) (slots : List Slot) (d : ℕ) (after : List Operation) → e ≡ shape → operand ≡ inner → Fits e d
    → weight shape ≡ weight inner + 1 → (Fits shape d → Fits inner d) → expression_code slots shape d ≡ expression_code slots inner d ++ straight after
    → One e operand slots d after
one e shape inner operand slots d after is got fits size turned same = record {
  smaller = omega (arith, ap weight is, ap weight got, size);
  fits = subst (λ x. Fits x d) (sym got) (turned (subst (λ x. Fits x d) is fits));
  code = ap (λ x. expression_code slots x d) is ∙ same ∙ ap (λ x. expression_code slots x d ++ straight after) (sym got);
}

pub one-Index : (e : Expr ℕ) (name : Mark ℕ) (index operand : Expr ℕ) (slots : List Slot) (d : ℕ) → e ≡ expression.Index name index → operand ≡ index
    → Fits e d → One e operand slots d (element_code slots name.name)
one-Index e name index operand slots d is got fits = one e (Element name index) index operand slots d _ (is ∙ Index-Element name index) got fits refl (λ h. h) refl

pub one-Input : (e index operand : Expr ℕ) (slots : List Slot) (d : ℕ) → e ≡ expression.Input index → operand ≡ index
    → Fits e d → One e operand slots d (service (pos 2))
one-Input e index operand slots d is got fits = one e (InputAt index) index operand slots d _ (is ∙ Input-InputAt index) got fits refl (λ h. h) refl

pub one-Unary : (e : Expr ℕ) (o : Op) (inner operand : Expr ℕ) (slots : List Slot) (d : ℕ) → e ≡ expression.Unary o inner → operand ≡ inner
    → Fits e d → One e operand slots d (prefix_code o)
one-Unary e o inner operand slots d is got fits = one e (Prefixed o inner) inner operand slots d _ (is ∙ Unary-Prefixed o inner) got fits refl (λ h. h) refl

-- two operands and the operator between them
pub record Two (e left right : Expr ℕ) (o : Op) (slots : List Slot) (d : ℕ) : Type 0 where
  pub smaller_left : weight left < weight e
  pub smaller_right : weight right + 2 < weight e
  pub fits_left : Fits left d
  pub fits_right : RightFits o right d
  pub code : expression_code slots e d ≡ expression_code slots left d ++ behind_left slots o right d

joined_code : (o : Op) (l r : Expr ℕ) (slots : List Slot) (d : ℕ) → expression_code slots (Joined o l r) d ≡ expression_code slots l d ++ behind_left slots o r d
joined_code op.Both l r slots d = refl
joined_code op.Either l r slots d = refl
joined_code _ l r slots d = refl

joined_fits : (o : Op) (l r : Expr ℕ) (d : ℕ) → Fits (Joined o l r) d → Fits l d × RightFits o r d
joined_fits op.Both l r d h = h
joined_fits op.Either l r d h = h
joined_fits _ l r d h = (h.0, (h.1, h.2))

pub two-Binary : (e : Expr ℕ) (o : Op) (l r left right : Expr ℕ) (slots : List Slot) (d : ℕ) → e ≡ expression.Binary o l r → left ≡ l → right ≡ r
    → Fits e d → Two e left right o slots d
two-Binary e o l r left right slots d is got_left got_right fits =
    let shape = is ∙ Binary-Joined o l r in
    let parts = joined_fits o l r d (subst (λ x. Fits x d) shape fits) in
    let size : weight e ≡ weight l + weight r + 3 = ap weight shape in
    record {
      smaller_left = omega (arith, size, ap weight got_left);
      smaller_right = omega (arith, size, ap weight got_right);
      fits_left = subst (λ x. Fits x d) (sym got_left) parts.0;
      fits_right = subst (λ x. RightFits o x d) (sym got_right) parts.1;
      code = ap (λ x. expression_code slots x d) shape ∙ joined_code o l r slots d
          ∙ ap (λ x. expression_code slots x d ++ behind_left slots o r d) (sym got_left) ∙ ap (λ x. expression_code slots left d ++ behind_left slots o x d) (sym got_right);
    }

-- a call
pub record Calls (e : Expr ℕ) (f : ℕ) (arguments : List (Arg ℕ)) (slots : List Slot) (d : ℕ) : Type 0 where
  pub smaller : list_weight arguments + 1 < weight e
  pub fits : ListFits arguments d 0
  pub code : expression_code slots e d ≡ list_code slots arguments d 0 ++ call f ∷ straight take_back_code

pub calls-Call : (e : Expr ℕ) (c : calls.Call ℕ) (arguments : List (Arg ℕ)) (slots : List Slot) (d : ℕ) → e ≡ expression.Call c → arguments ≡ c.arguments
    → Fits e d → Calls e c.function.name arguments slots d
calls-Call e c arguments slots d is got fits =
    let row = row_of_call (expression.Call c) in
    let same = items_hidden-the_row-Arg-1 _ c.arguments in
    let listed : items-the_row-Arg ℕ row.0 row.1 ≡ arguments = same ∙ sym got in
    let size : weight (expression.Call c) ≡ list_weight arguments + 2 = ap (λ n. n + 2) (list_of_row-weight row.0 row.1 ∙ ap list_weight listed) in
    record {
      smaller = omega (arith, ap weight is, size);
      fits = subst (λ (l : List (Arg ℕ)). ListFits l d 0) listed (list_of_row-fits row.0 row.1 d 0 (subst (λ x. Fits x d) is fits));
      code = ap (λ x. expression_code slots x d) is
          ∙ ap (λ code. code ++ call c.function.name ∷ straight take_back_code) (list_of_row-code row.0 row.1 slots d 0 ∙ ap (λ (l : List (Arg ℕ)). list_code slots l d 0) listed);
    }

-- a call or a spawn that is a statement
pub record Invokes (c : calls.Call ℕ) (arguments : List (Arg ℕ)) (slots : List Slot) : Type 0 where
  pub fits : ListFits arguments 0 0
  pub code : (form : Form) (purpose : Purpose) → invoke_code form slots purpose (expression.Call c) ≡ list_code slots arguments 0 0 ++ enter_code form slots purpose c.function.name

pub invokes-Call : (c : calls.Call ℕ) (arguments : List (Arg ℕ)) (slots : List Slot) → arguments ≡ c.arguments → Fits (expression.Call c) 0 → Invokes c arguments slots
invokes-Call c arguments slots got fits =
    let row = row_of_call (expression.Call c) in
    let listed : items-the_row-Arg ℕ row.0 row.1 ≡ arguments = items_hidden-the_row-Arg-1 _ c.arguments ∙ sym got in
    record {
      fits = subst (λ (l : List (Arg ℕ)). ListFits l 0 0) listed (list_of_row-fits row.0 row.1 0 0 fits);
      code = λ form purpose. ap (λ code. code ++ enter_code form slots purpose c.function.name)
          (list_of_row-code row.0 row.1 slots 0 0 ∙ ap (λ (l : List (Arg ℕ)). list_code slots l 0 0) listed);
    }

-- a spawn, whose destination the code has found
pub spawned_at : (form : Form) (slots : List Slot) (c : calls.Call ℕ) (arguments : List (Arg ℕ)) (x y : Option ℕ) (new mid old : List Part)
    → Invokes c arguments slots → x ≡ y → mid ≡ enter_code form slots (spawned x) c.function.name ++ old → new ≡ list_code slots arguments 0 0 ++ mid
    → new ≡ invoke_code form slots (spawned y) (expression.Call c) ++ old
spawned_at form slots c arguments x y new mid old parts same e h =
    behind_one new mid old _ _ _ e (parts.code form (spawned x)) h ∙ ap (λ d. invoke_code form slots (spawned d) (expression.Call c) ++ old) same
