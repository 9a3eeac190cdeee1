-- What the definitions say of each expression as the code makes it, and of uses one behind the other.
use Rattle.std.proofs.Common.{◌≡◌, ℕ, ◌+◌, ◌<◌, Bool, List, [], ◌∷◌, ◌++◌, length, get_or, take, drop, None, refl, sym, ap, ◌∙◌, append-nil}
use Rattle.std.specs.Prelude.{map}
use Rattle.std.proofs.lemmas.List.{take_more, map-append}
use Rattle.std.proofs.lemmas.List.Sums.{fold-append}
use Rattle.std.proofs.lemmas.Grind.{flat_map-append}
use Rattle.cm_syntax.specs.declared.name.Name.{Name}
use Rattle.cm_syntax.specs.declared.expr.Mark.{Mark}
use Rattle.cm_syntax.specs.declared.expr.Op.{Op}
use Rattle.cm_syntax.specs.declared.expr.Expr.{Expr}
use Rattle.cm_syntax.specs.declared.expr.Expr.TheVariants as expression
use Rattle.cm_syntax.specs.declared.expr.Arg.{Arg}
use Rattle.cm_syntax.specs.declared.expr.Arg.TheVariants as argument
use Rattle.cm_syntax.specs.declared.expr.Call.{Call, Row_of-Arg, end_of-Arg, more_of-Arg, items-the_row-Arg, items_hidden-the_row-Arg-1}
use Rattle.cm_syntax.specs.declared.stmt.Function.{Function}
use Rattle.cm_syntax.specs.Shape.{Joined, Prefixed, Element, InputAt, Binary-Joined, Unary-Prefixed, Index-Element, Input-InputAt}
use Rattle.cm_syntax.specs.declared.stmt.Item.{Item}
use Rattle.cm_syntax.specs.Fault.{has_misfit}
use Rattle.cm_syntax.specs.Resolution.{Use, mention_of, call_use, element_read, argument_form, argument_forms, expression_uses, arguments_uses, argument_uses, call_uses, resolve_mark, resolve_function_mark, resolve_expression, resolve_arguments, resolve_argument, resolve_call}
use Rattle.cm_syntax.proofs.Rows.{row_of_call}
use Rattle.cm_names.specs.Found.{Found}
use Rattle.cm_names.specs.Finding.{after_use, after_uses}
use Rattle.cm_names.specs.Visible.{Shows, Sight}
use Rattle.cm_names.specs.declared.variable.Variables.{Variables}
use Rattle.cm_names.specs.Argument.{bare_of, uses_of_arguments}

-- ---- the numbers of expressions

module _ (functions : List (Function Name)) (visible : Sight) where
  pub resolved-Index : (value : Expr Name) (a : Mark Name) (index got : Expr Name) (m : Mark ℕ) (e : Expr ℕ) → value ≡ expression.Index a index → got ≡ index →
      m ≡ resolve_mark visible a → e ≡ resolve_expression functions visible got → expression.Index m e ≡ resolve_expression functions visible value
  resolved-Index value a index got m e is same p q = let made = ap (resolve_expression functions visible) (is ∙ Index-Element a index) in cc

  pub resolved-Input : (value index got : Expr Name) (e : Expr ℕ) → value ≡ expression.Input index → got ≡ index →
      e ≡ resolve_expression functions visible got → expression.Input e ≡ resolve_expression functions visible value
  resolved-Input value index got e is same q = let made = ap (resolve_expression functions visible) (is ∙ Input-InputAt index) in cc

  pub resolved-Unary : (value : Expr Name) (op : Op) (operand got : Expr Name) (e : Expr ℕ) → value ≡ expression.Unary op operand → got ≡ operand →
      e ≡ resolve_expression functions visible got → expression.Unary op e ≡ resolve_expression functions visible value
  resolved-Unary value op operand got e is same q = let made = ap (resolve_expression functions visible) (is ∙ Unary-Prefixed op operand) in cc

  pub resolved-Binary : (value : Expr Name) (op : Op) (left right got got' : Expr Name) (e e' : Expr ℕ) → value ≡ expression.Binary op left right →
      got ≡ left → got' ≡ right → e ≡ resolve_expression functions visible got → e' ≡ resolve_expression functions visible got' →
      expression.Binary op e e' ≡ resolve_expression functions visible value
  resolved-Binary value op left right got got' e e' is same same' q q' =
      let made = ap (resolve_expression functions visible) (is ∙ Binary-Joined op left right) in
      ap (λ x. expression.Binary op x e') (q ∙ ap (resolve_expression functions visible) same) ∙
      (ap (λ x. expression.Binary op (resolve_expression functions visible left) x) (q' ∙ ap (resolve_expression functions visible) same') ∙ sym made)

-- ---- the uses in expressions

-- what is found in uses that stand one behind the other
pub found_behind : (functions : List (Function Name)) (f : Function Name) (old between new : Found) (uses more : List Use) →
    between ≡ after_uses functions f old uses → new ≡ after_uses functions f between more → new ≡ after_uses functions f old (uses ++ more)
found_behind functions f old between new uses more p q =
    q ∙ (ap (λ found. after_uses functions f found more) p ∙ sym (fold-append (after_use functions f) old uses more))

module _ (functions : List (Function Name)) (f : Function Name) (visible : Sight) where
  pub found-Index : (value : Expr Name) (a : Mark Name) (index got : Expr Name) (old between new : Found) → value ≡ expression.Index a index → got ≡ index →
      between ≡ after_use functions f old (mention_of visible a element_read) → new ≡ after_uses functions f between (expression_uses visible got) →
      new ≡ after_uses functions f old (expression_uses visible value)
  found-Index value a index got old between new is same p q =
      let uses = ap (expression_uses visible) (is ∙ Index-Element a index) in
      found_behind functions f old between new (mention_of visible a element_read ∷ []) (expression_uses visible index)
      p (q ∙ ap (λ e. after_uses functions f between (expression_uses visible e)) same) ∙ ap (after_uses functions f old) (sym uses)

  pub found-Input : (value index got : Expr Name) (old new : Found) → value ≡ expression.Input index → got ≡ index →
      new ≡ after_uses functions f old (expression_uses visible got) → new ≡ after_uses functions f old (expression_uses visible value)
  found-Input value index got old new is same q =
      q ∙ ap (after_uses functions f old) (ap (expression_uses visible) same ∙ sym (ap (expression_uses visible) (is ∙ Input-InputAt index)))

  pub found-Unary : (value : Expr Name) (op : Op) (operand got : Expr Name) (old new : Found) → value ≡ expression.Unary op operand → got ≡ operand →
      new ≡ after_uses functions f old (expression_uses visible got) → new ≡ after_uses functions f old (expression_uses visible value)
  found-Unary value op operand got old new is same q =
      q ∙ ap (after_uses functions f old) (ap (expression_uses visible) same ∙ sym (ap (expression_uses visible) (is ∙ Unary-Prefixed op operand)))

  pub found-Binary : (value : Expr Name) (op : Op) (left right got got' : Expr Name) (old between new : Found) → value ≡ expression.Binary op left right →
      got ≡ left → got' ≡ right → between ≡ after_uses functions f old (expression_uses visible got) →
      new ≡ after_uses functions f between (expression_uses visible got') → new ≡ after_uses functions f old (expression_uses visible value)
  found-Binary value op left right got got' old between new is same same' p q =
      let uses = ap (expression_uses visible) (is ∙ Binary-Joined op left right) in
      found_behind functions f old between new (expression_uses visible left) (expression_uses visible right)
      (p ∙ ap (λ e. after_uses functions f old (expression_uses visible e)) same)
      (q ∙ ap (λ e. after_uses functions f between (expression_uses visible e)) same') ∙ ap (after_uses functions f old) (sym uses)

-- ---- arguments

-- an argument that is a value, and no bare name
pub record IsPlain (functions : List (Function Name)) (visible : Sight) (value : Expr Name) : Type 0 where
  pub resolved : resolve_argument functions visible (argument.Value value) ≡ argument.Value (resolve_expression functions visible value)
  pub uses : argument_uses visible (argument.Value value) ≡ expression_uses visible value

pub plain : (functions : List (Function Name)) (visible : Sight) (value : Expr Name) → None ≡ bare_of value → IsPlain functions visible value
plain functions visible (expression.Number n) is = record { resolved = refl; uses = refl }
plain functions visible (expression.Scalar x) is = absurd (cc)
plain functions visible (Element a index) is = record { resolved = refl; uses = refl }
plain functions visible (expression.Len a) is = record { resolved = refl; uses = refl }
plain functions visible (InputAt index) is = record { resolved = refl; uses = refl }
plain functions visible expression.Inputs is = record { resolved = refl; uses = refl }
plain functions visible (Prefixed op operand) is = record { resolved = refl; uses = refl }
plain functions visible (Joined op left right) is = record { resolved = refl; uses = refl }
plain functions visible (expression.Call' g _ arguments) is = record { resolved = refl; uses = refl }

-- the arguments that were resolved so far, and what was found in them
pub record Resolves (functions : List (Function Name)) (f : Function Name) (variables : Variables) (arguments : List (Arg Name)) (i : ℕ) (resolved : List (Arg ℕ)) (old new : Found) : Type 0 where
  pub made : (visible : Sight) → Shows variables visible → resolved ≡ map (resolve_argument functions visible) (take i arguments)
  pub found : (visible : Sight) → Shows variables visible → new ≡ after_uses functions f old (uses_of_arguments visible (take i arguments))

pub resolves-more : (functions : List (Function Name)) (f : Function Name) (variables : Variables) (arguments : List (Arg Name)) (i : ℕ) (x : Arg Name)
    (resolved longer : List (Arg ℕ)) (a : Arg ℕ) (old between new : Found) → i < length arguments → x ≡ get_or arguments i x →
    Resolves functions f variables arguments i resolved old between →
    ((visible : Sight) → Shows variables visible → a ≡ resolve_argument functions visible x) →
    ((visible : Sight) → Shows variables visible → new ≡ after_uses functions f between (argument_uses visible x)) →
    longer ≡ resolved ++ a ∷ [] → Resolves functions f variables arguments (i + 1) longer old new
resolves-more functions f variables arguments i x resolved longer a old between new lt is so_far made found pushed =
    let more : take (i + 1) arguments ≡ take i arguments ++ x ∷ [] = rw (is) (take_more arguments i x lt) in
    record {
      made = λ visible shows.
          pushed ∙ (ap (λ xs. xs ++ a ∷ []) (so_far.made visible shows) ∙
          (ap (λ y. map (resolve_argument functions visible) (take i arguments) ++ y ∷ []) (made visible shows) ∙
          (sym (map-append (resolve_argument functions visible) (take i arguments) (x ∷ [])) ∙
          ap (map (resolve_argument functions visible)) (sym more))));
      found = λ visible shows.
          found_behind functions f old between new (uses_of_arguments visible (take i arguments)) (argument_uses visible x)
          (so_far.found visible shows) (found visible shows) ∙
          ap (after_uses functions f old) (ap (λ us. uses_of_arguments visible (take i arguments) ++ us) (sym (append-nil (argument_uses visible x))) ∙
          (sym (flat_map-append (argument_uses visible) (take i arguments) (x ∷ [])) ∙ ap (uses_of_arguments visible) (sym more)));
    }

-- ---- calls

module _ (visible : Sight) where
  resolved_row : (functions : List (Function Name)) (n : _) (row : Row_of-Arg Name n) → resolve_arguments functions visible row ≡ map (resolve_argument functions visible) (items-the_row-Arg Name n row)
  resolved_row functions n end_of-Arg = refl
  resolved_row functions n (more_of-Arg first more) = ap (λ (xs : List (Arg ℕ)). resolve_argument functions visible first ∷ xs) (resolved_row functions _ more)

  forms_row : (n : _) (row : Row_of-Arg Name n) → argument_forms visible row ≡ map (argument_form visible) (items-the_row-Arg Name n row)
  forms_row n end_of-Arg = refl
  forms_row n (more_of-Arg first more) = ap (λ xs. argument_form visible first ∷ xs) (forms_row _ more)

  uses_row : (n : _) (row : Row_of-Arg Name n) → arguments_uses visible row ≡ uses_of_arguments visible (items-the_row-Arg Name n row)
  uses_row n end_of-Arg = refl
  uses_row n (more_of-Arg first more) = ap (λ xs. argument_uses visible first ++ xs) (uses_row _ more)

  abbrev call_of : Mark ℕ → List (Arg ℕ) → Call ℕ
  call_of function arguments = record { function = function; arguments = arguments }

  pub resolved-Call : (functions : List (Function Name)) (call : Call Name) (items : List (Arg Name)) (m : Mark ℕ) (arguments : List (Arg ℕ)) →
      items ≡ call.arguments → m ≡ resolve_function_mark functions call.function → arguments ≡ map (resolve_argument functions visible) items →
      call_of m arguments ≡ resolve_call functions visible (expression.Call call)
  resolved-Call functions call items m arguments same p q =
      let row = row_of_call (expression.Call call) in
      let all : resolve_arguments functions visible row.1 ≡ map (resolve_argument functions visible) call.arguments =
      resolved_row functions row.0 row.1 ∙ ap (map (resolve_argument functions visible)) (items_hidden-the_row-Arg-1 Name call.arguments) in
      ap (λ x. call_of x arguments) p ∙
      ap (call_of (resolve_function_mark functions call.function)) (q ∙ (ap (map (resolve_argument functions visible)) same ∙ sym all))

  pub found-Call : (functions : List (Function Name)) (f : Function Name) (call : Call Name) (wanted : Bool) (items : List (Arg Name)) (old between new : Found) →
      items ≡ call.arguments → between ≡ after_use functions f old (call_use call.function (map (argument_form visible) call.arguments) wanted) →
      new ≡ after_uses functions f between (uses_of_arguments visible items) → new ≡ after_uses functions f old (call_uses visible wanted (expression.Call call))
  found-Call functions f call wanted items old between new same p q =
      let row = row_of_call (expression.Call call) in
      let listed = items_hidden-the_row-Arg-1 Name call.arguments in
      let forms : argument_forms visible row.1 ≡ map (argument_form visible) call.arguments =
      forms_row row.0 row.1 ∙ ap (map (argument_form visible)) listed in
      let uses : arguments_uses visible row.1 ≡ uses_of_arguments visible call.arguments =
      uses_row row.0 row.1 ∙ ap (uses_of_arguments visible) listed in
      let first = p ∙ ap (λ xs. after_use functions f old (call_use call.function xs wanted)) (sym forms) in
      q ∙ (ap (after_uses functions f between) (ap (uses_of_arguments visible) same ∙ sym uses) ∙
      ap (λ found. after_uses functions f found (arguments_uses visible row.1)) first)

-- ---- whether some argument is of another kind than its parameter

-- the arguments and parameters that are left decide as all of them do
abbrev pub Left : Variables → List (Arg Name) → List (Item Name) → (i : ℕ) → Type 0
Left variables arguments parameters i = (visible : Sight) → Shows variables visible →
    has_misfit (map (argument_form visible) (drop i arguments)) (map (λ item. item.slot) (drop i parameters)) ≡
    has_misfit (map (argument_form visible) arguments) (map (λ item. item.slot) parameters)
