-- Names: which declaration a mention stands for, what is faulty, and the program in which names are numbers.
use Rattle.std.specs.Prelude.{◌≡◌, ℕ, ◌+◌, Bool, true, false, if◌then◌else◌, List, [], ◌∷◌, ◌++◌, length, map, Option, None, Some, option_map, unwrap_or, slice_get, position}
use Rattle.std.specs.List.{find, list_any}
use Rattle.cm_syntax.specs.declared.name.Name.{Name}
use Rattle.cm_syntax.specs.declared.expr.Mark.{Mark}
use Rattle.cm_syntax.specs.declared.expr.Expr.{Expr}
use Rattle.cm_syntax.specs.declared.expr.Expr.TheVariants as expression
use Rattle.cm_syntax.specs.declared.expr.Arg.{Arg}
use Rattle.cm_syntax.specs.declared.expr.Arg.TheVariants as argument
use Rattle.cm_syntax.specs.declared.expr.Call.{Call, Row_of-Arg, end_of-Arg, more_of-Arg}
use Rattle.cm_syntax.specs.declared.stmt.Slot.{Slot}
use Rattle.cm_syntax.specs.declared.stmt.Slot.TheVariants as slot
use Rattle.cm_syntax.specs.declared.stmt.Item.{Item}
use Rattle.cm_syntax.specs.declared.stmt.Target.{Target}
use Rattle.cm_syntax.specs.declared.stmt.Target.TheVariants as target
use Rattle.cm_syntax.specs.declared.stmt.Stmt.{Stmt, Row_of-Stmt, end_of-Stmt, more_of-Stmt}
use Rattle.cm_syntax.specs.declared.stmt.Stmt.TheVariants as statement
use Rattle.cm_syntax.specs.declared.stmt.Function.{Function}
use Rattle.cm_syntax.specs.Shape.{Joined, Prefixed, Element, InputAt, IfAlone, IfElse, WhileLoop, ForLoop}
use Rattle.cm_syntax.specs.Text.{is_same}

-- ---- what is visible at a point of a function

-- a declared variable, a parameter or a part of a split: its name, its slot and what it is
pub record Variable : Type 0 where
  pub name : Name
  pub slot : ℕ
  pub kind : Slot

-- A point of a function: the variables that are visible there with the nearest declaration first, the names that
-- the scope round it has declared, and the slot of the next declaration.
pub record Scope : Type 0 where
  pub visible : List Variable
  pub declared : List Name
  pub next_slot : ℕ

-- the variable that a name stands for: that of the nearest declaration
abbrev pub lookup : List Variable → Name → Option Variable
lookup visible x = find (λ v. is_same v.name x) visible

-- the variables without the nearest declaration of a name
abbrev pub hide : Name → List Variable → List Variable
hide x [] = []
hide x (v ∷ visible) = if is_same v.name x then visible else v ∷ hide x visible

-- before a function's first parameter
abbrev pub function_scope : Scope
function_scope = record { visible = []; declared = []; next_slot = 0 }

-- a scope of its own within another one
abbrev pub inner_scope : Scope → Scope
inner_scope scope = record { visible = scope.visible; declared = []; next_slot = scope.next_slot }

-- behind the declaration of a name
abbrev pub declare_name : Scope → Mark Name → Slot → Scope
declare_name scope x kind = record {
  visible = record { name = x.name; slot = scope.next_slot; kind = kind } ∷ scope.visible;
  declared = x.name ∷ scope.declared;
  next_slot = scope.next_slot + 1;
}

-- behind declared items
abbrev pub declare_items : Scope → List (Item Name) → Scope
declare_items scope [] = scope
declare_items scope (item ∷ more) = declare_items (declare_name scope item.name item.slot) more

-- what the parts of a split of such a variable are
abbrev pub part_kind : Slot → Slot
part_kind slot.Scalar = slot.Slice
part_kind (slot.Array words) = slot.Slice
part_kind slot.Slice = slot.Slice

-- what the parts of a split are, by the variable that the whole stands for
abbrev pub part_slot : Option Variable → Slot
part_slot None = slot.Slice
part_slot (Some whole) = part_kind whole.kind

-- the scope of a split's parts, round its block: they are visible there, and the whole isn't
abbrev pub split_scope : Scope → (whole left right : Mark Name) → Scope
split_scope scope whole left right =
    let hidden : Scope = record { visible = hide whole.name scope.visible; declared = []; next_slot = scope.next_slot } in
    let kind = part_slot (lookup scope.visible whole.name) in
    declare_name (declare_name hidden left kind) right kind

abbrev mutual
  -- how many slots a statement's declarations have
  pub slot_count : Stmt Name → ℕ
  slot_count (statement.Declare items) = length items
  slot_count (IfAlone test chosen) = slot_count chosen
  slot_count (IfElse test chosen other) = slot_count chosen + slot_count other
  slot_count (WhileLoop test body) = slot_count body
  slot_count (ForLoop first test step body) = slot_count first + (slot_count step + slot_count body)
  slot_count (statement.Split' whole index left right _ body close) = 2 + slots_count body
  slot_count (statement.Block' _ body) = slots_count body
  slot_count _ = 0

  pub slots_count : {n : _} → Row_of-Stmt Name n → ℕ
  slots_count end_of-Stmt = 0
  slots_count (more_of-Stmt first more) = slot_count first + slots_count more

-- behind a statement of another block: what it declares isn't visible there, but its slots are taken
abbrev pub reserve_slots : Scope → Stmt Name → Scope
reserve_slots scope s = record { visible = scope.visible; declared = scope.declared; next_slot = scope.next_slot + slot_count s }

-- behind a statement of the same block
abbrev pub scope_after : Scope → Stmt Name → Scope
scope_after scope (statement.Declare items) = declare_items scope items
scope_after scope s = reserve_slots scope s

-- ---- the slots of declarations, in the order of the text

abbrev mutual
  pub statement_slots : Scope → Stmt Name → List Slot
  statement_slots scope (statement.Declare items) = map (λ item. item.slot) items
  statement_slots scope (IfAlone test chosen) = statement_slots (inner_scope scope) chosen
  statement_slots scope (IfElse test chosen other) =
      statement_slots (inner_scope scope) chosen ++ statement_slots (inner_scope (reserve_slots scope chosen)) other
  statement_slots scope (WhileLoop test body) = statement_slots (inner_scope scope) body
  statement_slots scope (ForLoop first test step body) =
      let header = scope_after (inner_scope scope) first in
      statement_slots (inner_scope scope) first ++ (statement_slots header step ++ statement_slots (inner_scope (reserve_slots header step)) body)
  statement_slots scope (statement.Split' whole index left right _ body close) =
      let kind = part_slot (lookup scope.visible whole.name) in
      kind ∷ kind ∷ statements_slots (inner_scope (split_scope scope whole left right)) body
  statement_slots scope (statement.Block' _ body) = statements_slots (inner_scope scope) body
  statement_slots scope _ = []

  pub statements_slots : {n : _} → Scope → Row_of-Stmt Name n → List Slot
  statements_slots scope end_of-Stmt = []
  statements_slots scope (more_of-Stmt first more) = statement_slots scope first ++ statements_slots (scope_after scope first) more

abbrev pub body_slots : Scope → List (Stmt Name) → List Slot
body_slots scope [] = []
body_slots scope (first ∷ more) = statement_slots scope first ++ body_slots (scope_after scope first) more

-- the slots of a function: the parameters, then the declared names and the parts of splits
abbrev pub function_slots : Function Name → List Slot
function_slots f = map (λ item. item.slot) f.parameters ++ body_slots (declare_items function_scope f.parameters) f.body

-- ---- the uses of names

-- How a variable's name is used: its value; an element, which is read or written; in `len`; as the whole of a split;
-- as the target of an assignment; behind `&`; as the destination of a spawn; alone, as an argument.
pub data Role : Type 0 where
  value_read element_read element_write length_read split_whole value_write reference spawn_destination bare_argument : Role

-- whether a variable of this kind may be used so
abbrev pub is_fit : Role → Slot → Bool
is_fit value_read slot.Scalar = true
is_fit value_read (slot.Array words) = false
is_fit value_read slot.Slice = false
is_fit element_read slot.Scalar = false
is_fit element_read (slot.Array words) = true
is_fit element_read slot.Slice = true
is_fit element_write slot.Scalar = false
is_fit element_write (slot.Array words) = true
is_fit element_write slot.Slice = true
is_fit length_read slot.Scalar = false
is_fit length_read (slot.Array words) = true
is_fit length_read slot.Slice = true
is_fit split_whole slot.Scalar = false
is_fit split_whole (slot.Array words) = true
is_fit split_whole slot.Slice = true
is_fit value_write slot.Scalar = true
is_fit value_write (slot.Array words) = false
is_fit value_write slot.Slice = false
is_fit reference slot.Scalar = true
is_fit reference (slot.Array words) = false
is_fit reference slot.Slice = false
is_fit spawn_destination slot.Scalar = true
is_fit spawn_destination (slot.Array words) = false
is_fit spawn_destination slot.Slice = false
is_fit bare_argument slot.Scalar = true
is_fit bare_argument (slot.Array words) = true
is_fit bare_argument slot.Slice = true

-- what an argument is by its form: a value, a slice, or a bare name that stands for nothing, which fits every parameter
pub data ArgumentForm : Type 0 where
  value_form slice_form any_form : ArgumentForm

-- A use in a function, in the order of the text.
pub data Use : Type 0 where
  -- a variable's name, how it is used, and the variable that it stands for
  mention : Mark Name → Role → Option Variable → Use
  -- the function's name in a call, its arguments, and whether a value is wanted
  call_use : Mark Name → List ArgumentForm → (wanted : Bool) → Use
  -- an item whose name its scope has already
  redeclaration : (at : ℕ) → Use
  -- the word `spawn` or `sync`
  parallel_keyword : (at : ℕ) → Use
  -- the word `return`, and whether a value follows
  return_keyword : (at : ℕ) → (has_value : Bool) → Use

abbrev pub mention_of : List Variable → Mark Name → Role → Use
mention_of visible x role = mention x role (lookup visible x.name)

-- a variable as an argument
abbrev pub variable_form : Option Variable → ArgumentForm
variable_form None = any_form
variable_form (Some v) = if is_fit value_read v.kind then value_form else slice_form

abbrev pub argument_form : List Variable → Arg Name → ArgumentForm
argument_form visible (argument.Value (expression.Scalar x)) = variable_form (lookup visible x.name)
argument_form visible (argument.Value value) = value_form
argument_form visible (argument.Slice a) = slice_form
argument_form visible (argument.Address x) = slice_form

abbrev pub argument_forms : {n : _} → List Variable → Row_of-Arg Name n → List ArgumentForm
argument_forms visible end_of-Arg = []
argument_forms visible (more_of-Arg first more) = argument_form visible first ∷ argument_forms visible more

abbrev mutual
  pub expression_uses : List Variable → Expr Name → List Use
  expression_uses visible (expression.Number value) = []
  expression_uses visible (expression.Scalar x) = mention_of visible x value_read ∷ []
  expression_uses visible (Element a index) = mention_of visible a element_read ∷ expression_uses visible index
  expression_uses visible (expression.Len a) = mention_of visible a length_read ∷ []
  expression_uses visible (InputAt index) = expression_uses visible index
  expression_uses visible expression.Inputs = []
  expression_uses visible (Prefixed op operand) = expression_uses visible operand
  expression_uses visible (Joined op left right) = expression_uses visible left ++ expression_uses visible right
  expression_uses visible (expression.Call' f _ arguments) = call_use f (argument_forms visible arguments) true ∷ arguments_uses visible arguments

  pub arguments_uses : {n : _} → List Variable → Row_of-Arg Name n → List Use
  arguments_uses visible end_of-Arg = []
  arguments_uses visible (more_of-Arg first more) = argument_uses visible first ++ arguments_uses visible more

  pub argument_uses : List Variable → Arg Name → List Use
  argument_uses visible (argument.Value (expression.Scalar x)) = mention_of visible x bare_argument ∷ []
  argument_uses visible (argument.Value value) = expression_uses visible value
  argument_uses visible (argument.Slice a) = mention_of visible a bare_argument ∷ []
  argument_uses visible (argument.Address x) = mention_of visible x reference ∷ []

abbrev pub optional_uses : List Variable → Option (Expr Name) → List Use
optional_uses visible None = []
optional_uses visible (Some value) = expression_uses visible value

-- A call that is a statement or is spawned, and whether a value of it is wanted. It comes as an expression, whose
-- arguments can be matched; another expression never comes.
abbrev pub call_uses : List Variable → (wanted : Bool) → Expr Name → List Use
call_uses visible wanted (expression.Call' f _ arguments) = call_use f (argument_forms visible arguments) wanted ∷ arguments_uses visible arguments
call_uses visible wanted _ = []

abbrev pub target_uses : List Variable → Target Name → List Use
target_uses visible (target.Scalar x) = mention_of visible x value_write ∷ []
target_uses visible (target.Index a index) = mention_of visible a element_write ∷ expression_uses visible index

-- a name that its scope has already
abbrev pub redeclaration_uses : Scope → Mark Name → List Use
redeclaration_uses scope x = if list_any (is_same x.name) scope.declared then redeclaration x.at ∷ [] else []

-- an item is known behind its value
abbrev pub items_uses : Scope → List (Item Name) → List Use
items_uses scope [] = []
items_uses scope (item ∷ more) =
    redeclaration_uses scope item.name ++ (optional_uses scope.visible item.first ++ items_uses (declare_name scope item.name item.slot) more)

abbrev pub spawn_uses : List Variable → (at : ℕ) → Option (Mark Name) → Call Name → List Use
spawn_uses visible at None call = parallel_keyword at ∷ call_uses visible false (expression.Call call)
spawn_uses visible at (Some x) call = mention_of visible x spawn_destination ∷ parallel_keyword at ∷ call_uses visible true (expression.Call call)

abbrev pub has_value : Option (Expr Name) → Bool
has_value None = false
has_value (Some value) = true

abbrev mutual
  pub statement_uses : Scope → Stmt Name → List Use
  statement_uses scope statement.Empty = []
  statement_uses scope (statement.Declare items) = items_uses scope items
  statement_uses scope (statement.Assign written op value) = target_uses scope.visible written ++ expression_uses scope.visible value
  statement_uses scope (statement.Call call) = call_uses scope.visible false (expression.Call call)
  statement_uses scope (statement.Spawn at destination call) = spawn_uses scope.visible at destination call
  statement_uses scope (statement.Sync at) = parallel_keyword at ∷ []
  statement_uses scope (IfAlone test chosen) = expression_uses scope.visible test ++ statement_uses (inner_scope scope) chosen
  statement_uses scope (IfElse test chosen other) =
      expression_uses scope.visible test ++ (statement_uses (inner_scope scope) chosen ++ statement_uses (inner_scope (reserve_slots scope chosen)) other)
  statement_uses scope (WhileLoop test body) = expression_uses scope.visible test ++ statement_uses (inner_scope scope) body
  statement_uses scope (ForLoop first test step body) =
      let header = scope_after (inner_scope scope) first in
      statement_uses (inner_scope scope) first ++ (optional_uses header.visible test ++
      (statement_uses header step ++ statement_uses (inner_scope (reserve_slots header step)) body))
  statement_uses scope (statement.Split' whole index left right _ body close) =
      mention_of scope.visible whole split_whole ∷ (expression_uses scope.visible index ++
      ((if is_same left.name right.name then redeclaration right.at ∷ [] else []) ++
      statements_uses (inner_scope (split_scope scope whole left right)) body))
  statement_uses scope (statement.Return at value) = return_keyword at (has_value value) ∷ optional_uses scope.visible value
  statement_uses scope (statement.Print value) = expression_uses scope.visible value
  statement_uses scope (statement.Block' _ body) = statements_uses (inner_scope scope) body

  pub statements_uses : {n : _} → Scope → Row_of-Stmt Name n → List Use
  statements_uses scope end_of-Stmt = []
  statements_uses scope (more_of-Stmt first more) = statement_uses scope first ++ statements_uses (scope_after scope first) more

abbrev pub body_uses : Scope → List (Stmt Name) → List Use
body_uses scope [] = []
body_uses scope (first ∷ more) = statement_uses scope first ++ body_uses (scope_after scope first) more

-- the uses of a function, whose parameters and outermost block are one scope
abbrev pub function_uses : Function Name → List Use
function_uses f = items_uses function_scope f.parameters ++ body_uses (declare_items function_scope f.parameters) f.body

-- The i-th use of the function is a mention that stands for this variable.
abbrev pub ResolvesTo : Function Name → (i : ℕ) → Variable → Type 0
ResolvesTo f i v = (x : Mark Name) × (role : Role) × (slice_get (function_uses f) i ≡ Some (mention x role (Some v)))

-- ---- the program: each name is its number

-- the number of a variable's name; 0 where it stands for nothing
abbrev pub variable_number : Option Variable → ℕ
variable_number None = 0
variable_number (Some v) = v.slot

abbrev pub resolve_mark : List Variable → Mark Name → Mark ℕ
resolve_mark visible x = record { name = variable_number (lookup visible x.name); at = x.at }

-- the first function of a name
abbrev pub lookup_function : List (Function Name) → Name → Option (Function Name)
lookup_function functions f = find (λ g. is_same g.name.name f) functions

-- the number of a function's name; 0 where it stands for nothing
abbrev pub function_number : List (Function Name) → Name → ℕ
function_number functions f = unwrap_or (position (λ g. is_same g.name.name f) functions) 0

abbrev pub resolve_function_mark : List (Function Name) → Mark Name → Mark ℕ
resolve_function_mark functions f = record { name = function_number functions f.name; at = f.at }

abbrev pub resolve_bare : List Variable → Mark Name → ArgumentForm → Arg ℕ
resolve_bare visible x slice_form = argument.Slice (resolve_mark visible x)
resolve_bare visible x _ = argument.Value (expression.Scalar (resolve_mark visible x))

module _ (functions : List (Function Name)) where
  abbrev mutual
    pub resolve_expression : List Variable → Expr Name → Expr ℕ
    resolve_expression visible (expression.Number value) = expression.Number value
    resolve_expression visible (expression.Scalar x) = expression.Scalar (resolve_mark visible x)
    resolve_expression visible (Element a index) = expression.Index (resolve_mark visible a) (resolve_expression visible index)
    resolve_expression visible (expression.Len a) = expression.Len (resolve_mark visible a)
    resolve_expression visible (InputAt index) = expression.Input (resolve_expression visible index)
    resolve_expression visible expression.Inputs = expression.Inputs
    resolve_expression visible (Prefixed op operand) = expression.Unary op (resolve_expression visible operand)
    resolve_expression visible (Joined op left right) = expression.Binary op (resolve_expression visible left) (resolve_expression visible right)
    resolve_expression visible (expression.Call' f _ arguments) =
        expression.Call (record { function = resolve_function_mark functions f; arguments = resolve_arguments visible arguments })

    pub resolve_arguments : {n : _} → List Variable → Row_of-Arg Name n → List (Arg ℕ)
    resolve_arguments visible end_of-Arg = []
    resolve_arguments visible (more_of-Arg first more) = resolve_argument visible first ∷ resolve_arguments visible more

    -- a bare name that is an array or a slice is passed as a slice
    pub resolve_argument : List Variable → Arg Name → Arg ℕ
    resolve_argument visible (argument.Value (expression.Scalar x)) = resolve_bare visible x (variable_form (lookup visible x.name))
    resolve_argument visible (argument.Value value) = argument.Value (resolve_expression visible value)
    resolve_argument visible (argument.Slice a) = argument.Slice (resolve_mark visible a)
    resolve_argument visible (argument.Address x) = argument.Address (resolve_mark visible x)

  abbrev pub resolve_optional : List Variable → Option (Expr Name) → Option (Expr ℕ)
  resolve_optional visible value = option_map (resolve_expression visible) value

  -- a call, which comes as an expression as in `call_uses`
  abbrev pub resolve_call : List Variable → Expr Name → Call ℕ
  resolve_call visible (expression.Call' f _ arguments) = record { function = resolve_function_mark functions f; arguments = resolve_arguments visible arguments }
  resolve_call visible _ = record { function = record { name = 0; at = 0 }; arguments = [] }

  abbrev pub resolve_target : List Variable → Target Name → Target ℕ
  resolve_target visible (target.Scalar x) = target.Scalar (resolve_mark visible x)
  resolve_target visible (target.Index a index) = target.Index (resolve_mark visible a) (resolve_expression visible index)

  -- an item's number is its slot
  abbrev pub resolve_items : Scope → List (Item Name) → List (Item ℕ)
  resolve_items scope [] = []
  resolve_items scope (item ∷ more) =
      record { name = record { name = scope.next_slot; at = item.name.at }; slot = item.slot; first = resolve_optional scope.visible item.first } ∷
      resolve_items (declare_name scope item.name item.slot) more

  abbrev mutual
    pub resolve_statement : Scope → Stmt Name → Stmt ℕ
    resolve_statement scope statement.Empty = statement.Empty
    resolve_statement scope (statement.Declare items) = statement.Declare (resolve_items scope items)
    resolve_statement scope (statement.Assign written op value) =
        statement.Assign (resolve_target scope.visible written) op (resolve_expression scope.visible value)
    resolve_statement scope (statement.Call call) = statement.Call (resolve_call scope.visible (expression.Call call))
    resolve_statement scope (statement.Spawn at destination call) =
        statement.Spawn at (option_map (resolve_mark scope.visible) destination) (resolve_call scope.visible (expression.Call call))
    resolve_statement scope (statement.Sync at) = statement.Sync at
    resolve_statement scope (IfAlone test chosen) =
        statement.If (resolve_expression scope.visible test) (resolve_statement (inner_scope scope) chosen) None
    resolve_statement scope (IfElse test chosen other) =
        statement.If (resolve_expression scope.visible test) (resolve_statement (inner_scope scope) chosen)
        (Some (resolve_statement (inner_scope (reserve_slots scope chosen)) other))
    resolve_statement scope (WhileLoop test body) =
        statement.While (resolve_expression scope.visible test) (resolve_statement (inner_scope scope) body)
    resolve_statement scope (ForLoop first test step body) =
        let header = scope_after (inner_scope scope) first in
        statement.For (resolve_statement (inner_scope scope) first) (resolve_optional header.visible test)
        (resolve_statement header step) (resolve_statement (inner_scope (reserve_slots header step)) body)
    resolve_statement scope (statement.Split' whole index left right _ body close) =
        statement.Split (resolve_mark scope.visible whole) (resolve_expression scope.visible index)
        (record { name = scope.next_slot; at = left.at }) (record { name = scope.next_slot + 1; at = right.at })
        (resolve_statements (inner_scope (split_scope scope whole left right)) body) close
    resolve_statement scope (statement.Return at value) = statement.Return at (resolve_optional scope.visible value)
    resolve_statement scope (statement.Print value) = statement.Print (resolve_expression scope.visible value)
    resolve_statement scope (statement.Block' _ body) = statement.Block (resolve_statements (inner_scope scope) body)

    pub resolve_statements : {n : _} → Scope → Row_of-Stmt Name n → List (Stmt ℕ)
    resolve_statements scope end_of-Stmt = []
    resolve_statements scope (more_of-Stmt first more) = resolve_statement scope first ∷ resolve_statements (scope_after scope first) more

  abbrev pub resolve_body : Scope → List (Stmt Name) → List (Stmt ℕ)
  resolve_body scope [] = []
  resolve_body scope (first ∷ more) = resolve_statement scope first ∷ resolve_body (scope_after scope first) more

  -- the function of this index
  abbrev pub resolve_function : (index : ℕ) → Function Name → Function ℕ
  resolve_function index f = record {
    name = record { name = index; at = f.name.at };
    cilk = f.cilk;
    gives = f.gives;
    parameters = resolve_items function_scope f.parameters;
    body = resolve_body (declare_items function_scope f.parameters) f.body;
    slots = function_slots f;
  }

  abbrev pub resolve_functions : (index : ℕ) → List (Function Name) → List (Function ℕ)
  resolve_functions index [] = []
  resolve_functions index (f ∷ more) = resolve_function index f ∷ resolve_functions (index + 1) more
