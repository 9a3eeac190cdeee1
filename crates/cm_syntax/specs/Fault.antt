-- What is faulty in a tree, which fault is answered, and which programs are sound.
use Rattle.std.specs.Prelude.{◌≡◌, ℕ, ◌+◌, ◌≤◌, nat_lt, ◌==◌, Bool, true, false, not, ◌&&◌, ◌||◌, if◌then◌else◌, List, [], ◌∷◌, ◌++◌, length, map, Option, None, Some, codes, Contains}
use Rattle.std.specs.List.{list_any, flat_map}
use Rattle.cm_syntax.specs.declared.name.Name.{Name}
use Rattle.cm_syntax.specs.declared.stmt.Slot.{Slot}
use Rattle.cm_syntax.specs.declared.stmt.Slot.TheVariants as slot
use Rattle.cm_syntax.specs.declared.stmt.Function.{Function}
use Rattle.cm_syntax.specs.declared.stmt.Tree.{Tree}
use Rattle.cm_syntax.specs.declared.stmt.Program.{Program}
use Rattle.cm_syntax.specs.Text.{is_same}
use Rattle.cm_syntax.specs.Refusal.{IsSoundTree}
use Rattle.cm_syntax.specs.Resolution.{Variable, Role, is_fit, ArgumentForm, value_form, slice_form, any_form, Use, mention, call_use, redeclaration, parallel_keyword, return_keyword, function_uses, function_slots, function_scope, declare_items, lookup_function, function_number, resolve_body, resolve_functions}
use Rattle.cm_syntax.specs.Limit.{max_frame_words, max_functions, max_parameter_words}
use Rattle.cm_syntax.specs.Frame.{slots_words, rounded_frame, body_temporaries}

-- What is wrong at an offset. At one offset the variant that stands first here is answered.
pub data Variant : Type 0 where
  -- a name stands for nothing
  unknown : Variant
  -- a name stands a second time where it may stand once
  twice : Variant
  -- a call has another number of arguments than its function has parameters
  arity : Variant
  -- something of one kind stands where another is wanted
  kind : Variant
  -- no function is called `main`
  no_main : Variant
  -- a frame has too many words
  frame : Variant
  -- there are too many functions or parameter words
  count : Variant

-- the order of the variants
abbrev pub rank : Variant → ℕ
rank unknown = 0
rank twice = 1
rank arity = 2
rank kind = 3
rank no_main = 4
rank frame = 5
rank count = 6

-- a faulty offset and what is wrong there
pub record Fault : Type 0 where
  pub at : ℕ
  pub variant : Variant

abbrev pub fault_at : ℕ → Variant → Fault
fault_at at variant = record { at = at; variant = variant }

abbrev pub fault_where : Bool → ℕ → Variant → List Fault
fault_where is_faulty at variant = if is_faulty then fault_at at variant ∷ [] else []

-- ---- faults of uses

abbrev pub mention_faults : (at : ℕ) → Role → Option Variable → List Fault
mention_faults at role None = fault_at at unknown ∷ []
mention_faults at role (Some v) = fault_where (not (is_fit role v.kind)) at kind

-- whether an argument is of another kind than its parameter
abbrev pub is_misfit : ArgumentForm → Slot → Bool
is_misfit value_form slot.Scalar = false
is_misfit value_form (slot.Array words) = false
is_misfit value_form slot.Slice = true
is_misfit slice_form slot.Scalar = true
is_misfit slice_form (slot.Array words) = false
is_misfit slice_form slot.Slice = false
is_misfit any_form slot.Scalar = false
is_misfit any_form (slot.Array words) = false
is_misfit any_form slot.Slice = false

abbrev pub has_misfit : List ArgumentForm → List Slot → Bool
has_misfit (argument ∷ arguments) (parameter ∷ parameters) = is_misfit argument parameter || has_misfit arguments parameters
has_misfit _ _ = false

-- the slots of a function's parameters
abbrev pub parameter_slots : {N : Type 0} → Function N → List Slot
parameter_slots f = map (λ item. item.slot) f.parameters

abbrev pub call_faults : (at : ℕ) → Option (Function Name) → List ArgumentForm → (wanted : Bool) → List Fault
call_faults at None arguments wanted = fault_at at unknown ∷ []
call_faults at (Some callee) arguments wanted =
    fault_where (not (length arguments == length (parameter_slots callee))) at arity ++
    fault_where (has_misfit arguments (parameter_slots callee) || (wanted && not callee.gives)) at kind

-- ---- faults of mentions and functions

module _ (functions : List (Function Name)) where
  -- the faults of a use in the function f
  abbrev pub use_faults : (f : Function Name) → Use → List Fault
  use_faults f (mention x role variable) = mention_faults x.at role variable
  use_faults f (call_use g arguments wanted) = call_faults g.at (lookup_function functions g.name) arguments wanted
  use_faults f (redeclaration at) = fault_at at twice ∷ []
  use_faults f (parallel_keyword at) = fault_where (not f.cilk) at kind
  use_faults f (return_keyword at true) = fault_where (not f.gives) at kind
  use_faults f (return_keyword at false) = fault_where f.gives at kind

  -- whether a use is a mention, of a variable or a function, that is faulty
  abbrev pub is_faulty_mention : (f : Function Name) → Use → Bool
  is_faulty_mention f (mention x role variable) = not (length (use_faults f (mention x role variable)) == 0)
  is_faulty_mention f (call_use g arguments wanted) = not (length (use_faults f (call_use g arguments wanted)) == 0)
  is_faulty_mention f _ = false

  -- The temporaries of a function. Only where no mention is faulty have all names their numbers. Else they are
  -- counted in the tree, where a bare name that is an argument is a value.
  abbrev pub temporaries_of : Function Name → ℕ
  temporaries_of f =
      if list_any (is_faulty_mention f) (function_uses f) then body_temporaries f.body
      else body_temporaries (resolve_body functions (declare_items function_scope f.parameters) f.body)

  -- The words of a function's frame. In a tree without faults they are `frame_words` of the numbered function.
  abbrev pub frame_of : Function Name → ℕ
  frame_of f = rounded_frame (slots_words (function_slots f)) (temporaries_of f)

  -- ---- faults of functions

  -- `main` takes nothing and returns a value
  abbrev pub is_wrong_main : Function Name → Bool
  is_wrong_main f = is_same f.name.name (codes "main") && (not (length f.parameters == 0) || not f.gives)

  -- The function of this index, behind the ones before it. Indices count from 0, so the 257th function has index 256.
  abbrev pub function_faults : (before : List (Function Name)) → (index : ℕ) → Function Name → List Fault
  function_faults before index f =
      fault_where (list_any (λ g. is_same g.name.name f.name.name) before) f.name.at twice ++
      (fault_where (is_wrong_main f) f.name.at kind ++
      (fault_where (nat_lt max_frame_words (frame_of f)) f.name.at frame ++
      (fault_where (index == max_functions || nat_lt max_parameter_words (slots_words (parameter_slots f))) f.name.at count ++
      flat_map (use_faults f) (function_uses f))))

  abbrev pub functions_faults : (before : List (Function Name)) → (index : ℕ) → List (Function Name) → List Fault
  functions_faults before index [] = []
  functions_faults before index (f ∷ more) = function_faults before index f ++ functions_faults (before ++ f ∷ []) (index + 1) more

-- a function that is called `main`
abbrev pub is_main : Function Name → Bool
is_main f = is_same f.name.name (codes "main")

-- all faults of a tree
abbrev pub faults : Tree → List Fault
faults tree =
    functions_faults tree.functions [] 0 tree.functions ++
    fault_where (not (list_any is_main tree.functions)) tree.length no_main

-- the offset is faulty in the tree, and so
abbrev pub Faulty : Tree → (at : ℕ) → Variant → Type 0
Faulty tree at variant = Contains (faults tree) (fault_at at variant)

-- The least faulty offset is answered, and at one offset the variant that stands first.
pub record IsNameAnswer (tree : Tree) (at : ℕ) (variant : Variant) : Type 0 where
  pub faulty : Faulty tree at variant
  pub least : (offset : ℕ) (other : Variant) → Faulty tree offset other → at ≤ offset
  pub foremost : (other : Variant) → Faulty tree at other → rank variant ≤ rank other

-- ---- programs

-- the program of a tree: each name is its number
abbrev pub program_of : Tree → Program
program_of tree = record {
  functions = resolve_functions tree.functions 0 tree.functions;
  main = function_number tree.functions (codes "main");
}

-- the program of a sound tree without faults
abbrev pub IsSoundProgram : Program → Type 0
IsSoundProgram program = (tree : Tree) × IsSoundTree tree × (faults tree ≡ []) × (program ≡ program_of tree)

-- a function that stands in a sound program
abbrev pub IsSoundFunction : Function ℕ → Type 0
IsSoundFunction f = (program : Program) × IsSoundProgram program × Contains program.functions f
