-- Where no use in an expression is faulty, each name in it stands for a variable that is set and of the kind that its
-- place wants: so the expression with its names numbered is well typed.
use Rattle.std.proofs.Common.{◌≡◌, ℕ, Bool, true, false, not, ◌&&◌, ◌||◌, cond, List, [], ◌∷◌, ◌++◌, length, refl, sym, ap, ◌∙◌, subst, arith, Option, None, Some, if◌then◌else◌, Contains, slice_get, eqb-true}
use Rattle.std.proofs.lemmas.Bool.{not-false, true≢false}
use Rattle.std.proofs.lemmas.List.Elements.{Contains-append_right}
use Rattle.std.specs.Prelude.{⊤}
use Rattle.cm_syntax.specs.declared.name.Name.{Name}
use Rattle.cm_syntax.specs.declared.expr.Mark.{Mark}
use Rattle.cm_syntax.specs.declared.expr.Expr.{Expr}
use Rattle.cm_syntax.specs.declared.expr.Expr.TheVariants as expression
use Rattle.cm_syntax.specs.declared.expr.Arg.{Arg}
use Rattle.cm_syntax.specs.declared.expr.Arg.TheVariants as argument
use Rattle.cm_syntax.specs.declared.expr.Call.{Call, Row_of-Arg, end_of-Arg, more_of-Arg, items-the_row-Arg, items_hidden-the_row-Arg-1}
use Rattle.cm_syntax.specs.declared.stmt.Slot.{Slot}
use Rattle.cm_syntax.specs.declared.stmt.Slot.TheVariants as slot
use Rattle.cm_syntax.specs.declared.stmt.Target.{Target}
use Rattle.cm_syntax.specs.declared.stmt.Target.TheVariants as target
use Rattle.cm_syntax.specs.declared.stmt.Function.{Function}
use Rattle.cm_syntax.specs.Shape.{Joined, Prefixed, Element, InputAt, Binary-Joined, Unary-Prefixed, Index-Element, Input-InputAt}
use Rattle.cm_syntax.specs.Text.{is_same}
use Rattle.cm_syntax.specs.Resolution.{Variable, Role, is_fit, lookup, hide, ArgumentForm, value_form, slice_form, Use, mention, call_use, mention_of, variable_form, argument_form, argument_forms, expression_uses, arguments_uses, argument_uses, optional_uses, call_uses, target_uses, variable_number, lookup_function, function_number, resolve_mark, resolve_function_mark, resolve_bare, resolve_expression, resolve_arguments, resolve_argument, resolve_optional, resolve_call, resolve_target}
use Rattle.cm_syntax.specs.Fault.{Variant, is_misfit, has_misfit, parameter_slots, call_faults, use_faults}
use Rattle.cm_syntax.proofs.Rows.{row_of_call}
use Rattle.cm_syntax.proofs.naming.NameLaw.{Each}
use Rattle.cm_syntax.proofs.naming.SoundLaw.{nothing_first, nothing_second, no_fault}
use Rattle.cm_meaning.specs.Typing.{IsRow, IsParameter, GivesWanted, parameters_in, IsSetScalar, IsSetRow, TypedExpression, TypedArguments, TypedOptional, TypedInvocation, TypedItem, TypedTarget}
use Rattle.cm_meaning.proofs.FormedLaw.{FormedExpression, FormedArguments, FormedArgument, FormedOptional, FormedItem, FormedTarget}

-- ---- lists

-- what holds of two lists, one behind the other
pub record Parts {A : Type 0} (P : A → Type 0) (xs ys : List A) : Type 0 where
  pub left : Each P xs
  pub right : Each P ys

pub Each-parts : {A : Type 0} (P : A → Type 0) (xs ys : List A) → Each P (xs ++ ys) → Parts P xs ys
Each-parts P [] ys h = record { left = tt; right = h }
Each-parts P (x ∷ xs) ys h =
    let more = Each-parts P xs ys h.1 in
    record { left = (h.0, more.left); right = more.right }

pub neither_first : (a b : Bool) → (a || b) ≡ false → a ≡ false
neither_first true b e = e
neither_first false b e = refl

pub neither_second : (a b : Bool) → (a || b) ≡ false → b ≡ false
neither_second true b e = cc
neither_second false b e = e

pub Contains-more : (xs : List ℕ) (x y : ℕ) → Contains xs y → Contains (x ∷ xs) y
Contains-more xs x y h = Contains-append_right (x ∷ []) xs y h

-- ---- functions

-- what is known of a function where its number stands in the program
pub record Standing (callee : Function Name) (found : Option (Function ℕ)) : Type 0 where
  pub function : Function ℕ
  pub is : found ≡ Some function
  pub gives : function.gives ≡ callee.gives
  pub same : parameter_slots function ≡ parameter_slots callee
  pub fit : Each IsParameter (parameter_slots callee)

-- A function of a tree, the tree's functions and those of its program, and the slots of the function; each function
-- that a name stands for is known where its number stands.
pub record Setting : Type 0 where
  pub functions : List (Function Name)
  pub numbered : List (Function ℕ)
  pub slots : List Slot
  pub own : Function Name
  pub known : (g : Name) (callee : Function Name) → lookup_function functions g ≡ Some callee → Standing callee (slice_get numbered (function_number functions g))

module _ (here : Setting) where
  open here use {functions, numbered, slots, own as f, known}

  -- ---- variables

  -- the use isn't faulty
  abbrev pub IsClean : Use → Type 0
  IsClean u = use_faults functions f u ≡ []

  -- the variable is set, and its slot is of its kind
  abbrev pub IsSet : (set : List ℕ) → Variable → Type 0
  IsSet set v = Contains set v.slot × (slice_get slots v.slot ≡ Some v.kind)

  -- all that are visible are
  abbrev pub AreSet : (set : List ℕ) → List Variable → Type 0
  AreSet set visible = Each (IsSet set) visible

  -- the variable that a name stands for, if it stands for one
  abbrev MayBeSet : (set : List ℕ) → Option Variable → Type 0
  MayBeSet set None = ⊤
  MayBeSet set (Some v) = IsSet set v

  found_set : (set : List ℕ) (visible : List Variable) (x : Name) → AreSet set visible → MayBeSet set (lookup visible x)
  found_set set [] x h = tt
  found_set set (v ∷ visible) x h = by_test (is_same v.name x) (found_set set visible x h.1)
    where
      by_test : (b : Bool) → MayBeSet set (lookup visible x) → MayBeSet set (cond b (Some v) (lookup visible x))
      by_test true more = h.0
      by_test false more = more

  pub without_set : (set : List ℕ) (x : Name) (visible : List Variable) → AreSet set visible → AreSet set (hide x visible)
  without_set set x [] h = tt
  without_set set x (v ∷ visible) h = by_test (is_same v.name x) (without_set set x visible h.1)
    where
      by_test : (b : Bool) → AreSet set (hide x visible) → AreSet set (if b then visible else v ∷ hide x visible)
      by_test true more = h.1
      by_test false more = (h.0, more)

  pub more_set : (set : List ℕ) (n : ℕ) (visible : List Variable) → AreSet set visible → AreSet (n ∷ set) visible
  more_set set n [] h = tt
  more_set set n (v ∷ visible) h = ((Contains-more set n v.slot h.0.0, h.0.1), more_set set n visible h.1)

  -- ---- uses of variables

  -- a name that is used in a role, without fault, is this number
  record Stands (set : List ℕ) (role : Role) (number : ℕ) : Type 0 where
    kind : Slot
    among : Contains set number
    is : slice_get slots number ≡ Some kind
    fit : is_fit role kind ≡ true

  stands : (set : List ℕ) (x : Mark Name) (role : Role) (found : Option Variable) → MayBeSet set found → IsClean (mention x role found) → Stands set role (variable_number found)
  stands set x role None h c = absurd (cc)
  stands set x role (Some v) h c = record { kind = v.kind; among = h.0; is = h.1; fit = not-false (is_fit role v.kind) (no_fault (not (is_fit role v.kind)) x.at Variant.kind c) }

  -- the roles of scalars
  stands_scalar : (role : Role) → is_fit role slot.Slice ≡ false → ((words : ℕ) → is_fit role (slot.Array words) ≡ false) → (set : List ℕ) (n : ℕ) → Stands set role n → IsSetScalar numbered slots set n
  stands_scalar role slice array set n h = by_kind h.kind h.is h.fit
    where
      by_kind : (k : Slot) → slice_get slots n ≡ Some k → is_fit role k ≡ true → IsSetScalar numbered slots set n
      by_kind slot.Scalar e fit = (h.among, e)
      by_kind (slot.Array words) e fit = absurd (true≢false (sym fit ∙ array words))
      by_kind slot.Slice e fit = absurd (true≢false (sym fit ∙ slice))

  -- the roles of arrays and slices
  stands_row : (role : Role) → is_fit role slot.Scalar ≡ false → (set : List ℕ) (n : ℕ) → Stands set role n → IsSetRow numbered slots set n
  stands_row role scalar set n h = (h.among, subst IsRow (sym h.is) (by_kind h.kind h.fit))
    where
      by_kind : (k : Slot) → is_fit role k ≡ true → IsRow (Some k)
      by_kind slot.Scalar fit = absurd (true≢false (sym fit ∙ scalar))
      by_kind (slot.Array words) fit = tt
      by_kind slot.Slice fit = tt

  pub set_scalar : (role : Role) → is_fit role slot.Slice ≡ false → ((words : ℕ) → is_fit role (slot.Array words) ≡ false) →
      (set : List ℕ) (visible : List Variable) (x : Mark Name) → AreSet set visible → IsClean (mention_of visible x role) → IsSetScalar numbered slots set (variable_number (lookup visible x.name))
  set_scalar role slice array set visible x h c = stands_scalar role slice array set _ (stands set x role (lookup visible x.name) (found_set set visible x.name h) c)

  pub set_row : (role : Role) → is_fit role slot.Scalar ≡ false →
      (set : List ℕ) (visible : List Variable) (x : Mark Name) → AreSet set visible → IsClean (mention_of visible x role) → IsSetRow numbered slots set (variable_number (lookup visible x.name))
  set_row role scalar set visible x h c = stands_row role scalar set _ (stands set x role (lookup visible x.name) (found_set set visible x.name h) c)

  -- ---- calls

  -- an argument for a parameter
  abbrev TypedOne : (set : List ℕ) → (parameter : Slot) → Arg ℕ → Type 0
  TypedOne set slot.Scalar (argument.Value e) = TypedExpression numbered slots set e
  TypedOne set slot.Slice (argument.Slice a) = IsSetRow numbered slots set a.name
  TypedOne set slot.Slice (argument.Address x) = IsSetScalar numbered slots set x.name
  TypedOne set _ _ = ⊥

  -- arguments in a list for parameters
  abbrev TypedList : (set : List ℕ) → (parameters : List Slot) → List (Arg ℕ) → Type 0
  TypedList set [] [] = ⊤
  TypedList set (parameter ∷ parameters) (first ∷ more) = TypedOne set parameter first × TypedList set parameters more
  TypedList set _ _ = ⊥

  one_more : {n : _} (set : List ℕ) (parameter : Slot) (parameters : List Slot) (first : Arg ℕ) (more : Row_of-Arg ℕ n) → TypedOne set parameter first →
      TypedArguments numbered slots set parameters more → TypedArguments numbered slots set (parameter ∷ parameters) (more_of-Arg first more)
  one_more set slot.Scalar parameters (argument.Value e) more h i = (h, i)
  one_more set slot.Slice parameters (argument.Slice a) more h i = (h, i)
  one_more set slot.Slice parameters (argument.Address x) more h i = (h, i)
  one_more set _ parameters _ more h i = absurd h

  row_typed : (n : _) (set : List ℕ) (parameters : List Slot) (row : Row_of-Arg ℕ n) → TypedList set parameters (items-the_row-Arg ℕ n row) → TypedArguments numbered slots set parameters row
  row_typed n set [] end_of-Arg h = refl
  row_typed n set (parameter ∷ parameters) end_of-Arg h = absurd h
  row_typed n set [] (more_of-Arg first more) h = absurd h
  row_typed n set (parameter ∷ parameters) (more_of-Arg first more) h = one_more set parameter parameters first more h.0 (row_typed _ set parameters more h.1)

  -- a call as the code makes it
  typed_invocation : (set : List ℕ) (wanted : Bool) (call : Call ℕ) → GivesWanted wanted (slice_get numbered call.function.name) →
      TypedList set (parameters_in (slice_get numbered call.function.name)) call.arguments → TypedInvocation numbered slots set wanted (expression.Call call)
  typed_invocation set wanted call gives h =
      let row = row_of_call (expression.Call call) in
      let parameters = parameters_in (slice_get numbered call.function.name) in
      (gives, row_typed row.0 set parameters row.1 (subst (TypedList set parameters) (sym (items_hidden-the_row-Arg-1 ℕ call.arguments)) h))

  -- where the forms fit the parameters, the arguments are typed
  abbrev Accepts : (set : List ℕ) → List ArgumentForm → List (Arg ℕ) → Type 0
  Accepts set forms arguments = (parameters : List Slot) → Each IsParameter parameters → length forms ≡ length parameters → has_misfit forms parameters ≡ false → TypedList set parameters arguments

  -- where the form fits the parameter, the argument is typed
  abbrev AcceptsOne : (set : List ℕ) → ArgumentForm → Arg ℕ → Type 0
  AcceptsOne set form one = (parameter : Slot) → IsParameter parameter → is_misfit form parameter ≡ false → TypedOne set parameter one

  none_accepted : (set : List ℕ) → Accepts set [] []
  none_accepted set [] fit count agree = tt
  none_accepted set (parameter ∷ parameters) fit count agree = absurd (cc)

  more_accepted : (set : List ℕ) (form : ArgumentForm) (forms : List ArgumentForm) (first : Arg ℕ) (more : List (Arg ℕ)) → AcceptsOne set form first → Accepts set forms more →
      Accepts set (form ∷ forms) (first ∷ more)
  more_accepted set form forms first more h i [] fit count agree = absurd (cc)
  more_accepted set form forms first more h i (parameter ∷ parameters) fit count agree = (
    h parameter fit.0 (neither_first (is_misfit form parameter) (has_misfit forms parameters) agree),
    i parameters fit.1 (omega (arith, count)) (neither_second (is_misfit form parameter) (has_misfit forms parameters) agree),
  )

  value_accepted : (set : List ℕ) (e : Expr ℕ) → TypedExpression numbered slots set e → AcceptsOne set value_form (argument.Value e)
  value_accepted set e h slot.Scalar fit agree = h
  value_accepted set e h (slot.Array words) fit agree = absurd fit
  value_accepted set e h slot.Slice fit agree = absurd (cc)

  address_accepted : (set : List ℕ) (x : Mark ℕ) → IsSetScalar numbered slots set x.name → AcceptsOne set slice_form (argument.Address x)
  address_accepted set x h slot.Scalar fit agree = absurd (cc)
  address_accepted set x h (slot.Array words) fit agree = absurd fit
  address_accepted set x h slot.Slice fit agree = h

  slice_accepted : (set : List ℕ) (x : Mark ℕ) → IsSetRow numbered slots set x.name → AcceptsOne set slice_form (argument.Slice x)
  slice_accepted set x h slot.Scalar fit agree = absurd (cc)
  slice_accepted set x h (slot.Array words) fit agree = absurd fit
  slice_accepted set x h slot.Slice fit agree = h

  -- a name alone
  bare_accepted : (set : List ℕ) (visible : List Variable) (x : Mark Name) → AreSet set visible → IsClean (mention_of visible x Role.bare_argument) →
      AcceptsOne set (variable_form (lookup visible x.name)) (resolve_bare visible x (variable_form (lookup visible x.name)))
  bare_accepted set visible x h c = by_found (lookup visible x.name) refl (found_set set visible x.name h) c
    where
      by_kind : (k : Slot) → Contains set (variable_number (lookup visible x.name)) → slice_get slots (variable_number (lookup visible x.name)) ≡ Some k →
          AcceptsOne set (if is_fit Role.value_read k then value_form else slice_form) (resolve_bare visible x (if is_fit Role.value_read k then value_form else slice_form))
      by_kind slot.Scalar i e = value_accepted set (expression.Scalar (resolve_mark visible x)) (i, e)
      by_kind (slot.Array words) i e = slice_accepted set (resolve_mark visible x) (i, subst IsRow (sym e) tt)
      by_kind slot.Slice i e = slice_accepted set (resolve_mark visible x) (i, subst IsRow (sym e) tt)

      by_found : (found : Option Variable) → lookup visible x.name ≡ found → MayBeSet set found → IsClean (mention x Role.bare_argument found) →
          AcceptsOne set (variable_form (lookup visible x.name)) (resolve_bare visible x (variable_form (lookup visible x.name)))
      by_found None e i d = absurd (cc)
      by_found (Some v) e i d =
          subst (λ found. AcceptsOne set (variable_form found) (resolve_bare visible x (variable_form found))) (sym e)
          (by_kind v.kind (subst (λ found. Contains set (variable_number found)) (sym e) i.0) (subst (λ found. slice_get slots (variable_number found) ≡ Some v.kind) (sym e) i.1))

  -- a call whose arguments are accepted
  typed_call : (set : List ℕ) (wanted : Bool) (g : Mark Name) (forms : List ArgumentForm) (arguments : List (Arg ℕ)) → IsClean (call_use g forms wanted) → Accepts set forms arguments →
      TypedInvocation numbered slots set wanted (expression.Call (record { function = resolve_function_mark functions g; arguments = arguments }))
  typed_call set wanted g forms arguments c accepts = by_found (lookup_function functions g.name) refl c
    where
      number : ℕ
      number = function_number functions g.name

      gives_wanted : (wanted : Bool) (function : Function ℕ) → (wanted && not function.gives) ≡ false → GivesWanted wanted (Some function)
      gives_wanted true function e = not-false function.gives e
      gives_wanted false function e = tt

      by_found : (found : Option (Function Name)) → lookup_function functions g.name ≡ found → call_faults g.at found forms wanted ≡ [] →
          TypedInvocation numbered slots set wanted (expression.Call (record { function = resolve_function_mark functions g; arguments = arguments }))
      by_found None e d = absurd (cc)
      by_found (Some callee) e d =
          let there = known g.name callee e in
          let parameters = parameter_slots callee in
          let count = no_fault _ g.at Variant.arity (nothing_first _ _ d) in
          let kinds = no_fault _ g.at Variant.kind (nothing_second _ _ d) in
          let gives : (wanted && not there.function.gives) ≡ false = ap (λ b. wanted && not b) there.gives ∙ neither_second (has_misfit forms parameters) (wanted && not callee.gives) kinds in
          let own = ap parameters_in there.is ∙ there.same in
          typed_invocation set wanted (record { function = resolve_function_mark functions g; arguments = arguments })
          (subst (GivesWanted wanted) (sym there.is) (gives_wanted wanted there.function gives))
          (subst (λ ps. TypedList set ps arguments) (sym own)
          (accepts parameters there.fit (eqb-true _ _ (not-false _ count)) (neither_first (has_misfit forms parameters) (wanted && not callee.gives) kinds)))

  -- ---- expressions

  mutual
    pub typed_expression : (set : List ℕ) (visible : List Variable) (e : Expr Name) → AreSet set visible → FormedExpression e → Each IsClean (expression_uses visible e) →
        TypedExpression numbered slots set (resolve_expression functions visible e)
    typed_expression set visible (expression.Number value) h w c = tt
    typed_expression set visible (expression.Scalar x) h w c = set_scalar Role.value_read refl (λ words. refl) set visible x h c.0
    typed_expression set visible (Element a index) h w c =
        subst (TypedExpression numbered slots set) (sym (Index-Element (resolve_mark visible a) (resolve_expression functions visible index)))
        (set_row Role.element_read refl set visible a h c.0, typed_expression set visible index h w c.1)
    typed_expression set visible (expression.Len a) h w c = set_row Role.length_read refl set visible a h c.0
    typed_expression set visible (InputAt index) h w c =
        subst (TypedExpression numbered slots set) (sym (Input-InputAt (resolve_expression functions visible index))) (typed_expression set visible index h w c)
    typed_expression set visible expression.Inputs h w c = tt
    typed_expression set visible (Prefixed op operand) h w c =
        subst (TypedExpression numbered slots set) (sym (Unary-Prefixed op (resolve_expression functions visible operand))) (w.0, typed_expression set visible operand h w.1 c)
    typed_expression set visible (Joined op left right) h w c =
        let parts = Each-parts IsClean (expression_uses visible left) (expression_uses visible right) c in
        subst (TypedExpression numbered slots set) (sym (Binary-Joined op (resolve_expression functions visible left) (resolve_expression functions visible right)))
        (w.0, typed_expression set visible left h w.1 parts.left, typed_expression set visible right h w.2 parts.right)
    typed_expression set visible (expression.Call' g _ arguments) h w c =
        typed_call set true g (argument_forms visible arguments) (resolve_arguments functions visible arguments) c.0 (typed_arguments set visible arguments h w c.1)

    typed_arguments : {n : _} (set : List ℕ) (visible : List Variable) (arguments : Row_of-Arg Name n) → AreSet set visible → FormedArguments arguments → Each IsClean (arguments_uses visible arguments) →
        Accepts set (argument_forms visible arguments) (resolve_arguments functions visible arguments)
    typed_arguments set visible end_of-Arg h w c = none_accepted set
    typed_arguments set visible (more_of-Arg first more) h w c =
        let parts = Each-parts IsClean (argument_uses visible first) (arguments_uses visible more) c in
        more_accepted set (argument_form visible first) (argument_forms visible more) (resolve_argument functions visible first) (resolve_arguments functions visible more)
        (typed_argument set visible first h w.0 parts.left) (typed_arguments set visible more h w.1 parts.right)

    typed_argument : (set : List ℕ) (visible : List Variable) (one : Arg Name) → AreSet set visible → FormedArgument one → Each IsClean (argument_uses visible one) →
        AcceptsOne set (argument_form visible one) (resolve_argument functions visible one)
    typed_argument set visible (argument.Value (expression.Scalar x)) h w c = bare_accepted set visible x h c.0
    typed_argument set visible (argument.Value value) h w c = value_accepted set (resolve_expression functions visible value) (typed_expression set visible value h w c)
    typed_argument set visible (argument.Slice a) h w c = absurd w
    typed_argument set visible (argument.Address x) h w c =
        address_accepted set (resolve_mark visible x) (set_scalar Role.reference refl (λ words. refl) set visible x h c.0)

  pub typed_optional : (set : List ℕ) (visible : List Variable) (value : Option (Expr Name)) → AreSet set visible → FormedOptional value → Each IsClean (optional_uses visible value) →
      TypedOptional numbered slots set (resolve_optional functions visible value)
  typed_optional set visible None h w c = tt
  typed_optional set visible (Some value) h w c = typed_expression set visible value h w c

  -- the expression is a call
  abbrev pub IsCall : Expr Name → Type 0
  IsCall (expression.Call' g _ arguments) = ⊤
  IsCall _ = ⊥

  -- a call that is a statement or is spawned
  pub typed_own_call : (set : List ℕ) (visible : List Variable) (wanted : Bool) (e : Expr Name) → IsCall e → AreSet set visible → FormedExpression e → Each IsClean (call_uses visible wanted e) →
      TypedInvocation numbered slots set wanted (expression.Call (resolve_call functions visible e))
  typed_own_call set visible wanted (expression.Call' g t arguments) is h w c =
      typed_call set wanted g (argument_forms visible arguments) (resolve_arguments functions visible arguments) c.0 (typed_arguments set visible arguments h w c.1)
  typed_own_call set visible wanted _ is h w c = absurd is

  pub typed_target : (set : List ℕ) (visible : List Variable) (t : Target Name) → AreSet set visible → FormedTarget t → Each IsClean (target_uses visible t) →
      TypedTarget numbered slots set (resolve_target functions visible t)
  typed_target set visible (target.Scalar x) h w c = set_scalar Role.value_write refl (λ words. refl) set visible x h c.0
  typed_target set visible (target.Index a index) h w c = (set_row Role.element_write refl set visible a h c.0, typed_expression set visible index h w c.1)

  pub typed_item : (set : List ℕ) (visible : List Variable) (kind : Slot) (first : Option (Expr Name)) → AreSet set visible → FormedItem kind first → Each IsClean (optional_uses visible first) →
      TypedItem numbered slots set kind (resolve_optional functions visible first)
  typed_item set visible slot.Scalar first h w c = typed_optional set visible first h w c
  typed_item set visible (slot.Array words) first h w c = tt
  typed_item set visible slot.Slice first h w c = w
