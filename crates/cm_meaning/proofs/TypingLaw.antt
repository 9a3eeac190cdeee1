-- A sound program is well typed.
use Rattle.std.proofs.Common.{◌≡◌, ℕ, zero, suc, ◌+◌, ◌<◌, Bool, true, false, not, ◌&&◌, ◌||◌, cond, List, [], ◌∷◌, ◌++◌, length, map, refl, sym, ap, ◌∙◌, subst, arith, Option, None, Some, append-nil, Contains, slice_get, slice_index_or, option_map, unwrap_or, position, nat_lt, ◌==◌, eqb-true, lt-ltb, find, flat_map, codes}
use Rattle.std.proofs.lemmas.Bool.{not-false}
use Rattle.std.proofs.lemmas.Option.{slice_get_within, get_or_from_slice_get}
use Rattle.std.proofs.lemmas.List.Elements.{Contains-append_right}
use Rattle.std.proofs.lemmas.List.Folds.{find_at}
use Rattle.std.specs.List.{list_any, position_or_len}
use Rattle.cm_syntax.specs.declared.name.Name.{Name}
use Rattle.cm_syntax.specs.declared.stmt.Item.{Item}
use Rattle.cm_syntax.specs.declared.stmt.Function.{Function}
use Rattle.cm_syntax.specs.declared.stmt.Tree.{Tree}
use Rattle.cm_syntax.specs.declared.stmt.Program.{Program}
use Rattle.cm_syntax.specs.Text.{is_same}
use Rattle.cm_syntax.specs.Limit.{max_frame_words, max_functions, max_parameter_words}
use Rattle.cm_syntax.specs.Frame.{slots_words}
use Rattle.cm_syntax.specs.Resolution.{Scope, Use, function_scope, declare_name, declare_items, body_slots, function_slots, items_uses, body_uses, function_uses, lookup_function, function_number, resolve_items, resolve_function, resolve_functions}
use Rattle.cm_syntax.specs.Fault.{Variant, fault_where, parameter_slots, use_faults, frame_of, is_wrong_main, function_faults, functions_faults, is_main, faults, program_of, IsSoundProgram}
use Rattle.cm_syntax.proofs.naming.NameLaw.{Each}
use Rattle.cm_syntax.proofs.naming.SoundLaw.{nothing_first, nothing_second, no_fault}
use Rattle.cm_meaning.specs.Typing.{IsParameter, set_by_items, TypedBody, numbers_below, TypedFunction, TypedProgram}
use Rattle.cm_meaning.proofs.FormedLaw.{FormedFunction, sound_formed}
use Rattle.cm_meaning.proofs.TypedExpressionLaw.{Each-parts, neither_first, neither_second, Standing, Setting}
use Rattle.cm_meaning.proofs.TypedStatementLaw.{Fits, items_fit, typed_body}

-- ---- lists

Each-among : {A : Type 0} (P : A → Type 0) (xs : List A) (x : A) → Each P xs → (k : ℕ) → k < length xs → slice_index_or xs k x ≡ x → P x
Each-among P [] x h k lt is = absurd (omega (arith, lt))
Each-among P (y ∷ xs) x h zero lt is = subst P is h.0
Each-among P (y ∷ xs) x h (suc k) lt is = Each-among P xs x h.1 k (omega (arith, lt)) is

pub Contains-at : {A : Type 0} (xs : List A) (i : ℕ) (x : A) → slice_get xs i ≡ Some x → Contains xs x
Contains-at xs i x e = (i, slice_get_within xs i x e, get_or_from_slice_get xs i x x e)

-- what is found stands at its place, and passes the test
found_at : {A : Type 0} (p : A → Bool) (xs : List A) (x : A) → find p xs ≡ Some x → slice_get xs (unwrap_or (position p xs) 0) ≡ Some x
found_at p xs x e =
    let n = position_or_len p xs in
    let there : slice_get xs n ≡ Some x = sym (find_at p xs) ∙ e in
    let within : nat_lt n (length xs) ≡ true = lt-ltb n (length xs) (slice_get_within xs n x there) in
    subst (λ b. slice_get xs (unwrap_or (cond b (Some n) None) 0) ≡ Some x) (sym within) there

found_passes : {A : Type 0} (p : A → Bool) (xs : List A) (x : A) → find p xs ≡ Some x → p x ≡ true
found_passes p [] x e = absurd (cc)
found_passes p (y ∷ xs) x e = by_test (p y) refl (found_passes p xs x) e
  where
    by_test : (b : Bool) → p y ≡ b → (find p xs ≡ Some x → p x ≡ true) → cond b (Some y) (find p xs) ≡ Some x → p x ≡ true
    by_test true t later same = let is : y ≡ x = cc in subst (λ z. p z ≡ true) is t
    by_test false t later same = later same

-- where some element passes, one is found
some_found : {A : Type 0} (p : A → Bool) (xs : List A) → list_any p xs ≡ true → (x : A) × (find p xs ≡ Some x)
some_found p [] e = absurd (cc)
some_found {A} p (y ∷ xs) e = by_test (p y) (some_found p xs) e
  where
    by_test : (b : Bool) → (list_any p xs ≡ true → (x : A) × (find p xs ≡ Some x)) → (b || list_any p xs) ≡ true → (x : A) × (cond b (Some y) (find p xs) ≡ Some x)
    by_test true later h = (y, refl)
    by_test false later h = later h

-- ---- parameters

parameters_fit : (items : List (Item Name)) → ((item : Item Name) → Contains items item → IsParameter item.slot) → Each IsParameter (map (λ item. item.slot) items)
parameters_fit [] h = tt
parameters_fit (item ∷ more) h =
    (h item (0, omega arith, refl), parameters_fit more (λ x i. h x (Contains-append_right (item ∷ []) more x i)))

module _ (functions : List (Function Name)) where
  pub slots_same : (scope : Scope) (items : List (Item Name)) → map (λ item. item.slot) (resolve_items functions scope items) ≡ map (λ item. item.slot) items
  slots_same scope [] = refl
  slots_same scope (item ∷ more) = ap (λ s. item.slot ∷ s) (slots_same (declare_name scope item.name item.slot) more)

  -- the numbers of items that stand first in a function
  items_numbers : (scope : Scope) (items : List (Item Name)) →
      set_by_items (numbers_below scope.next_slot) (resolve_items functions scope items) ≡ numbers_below (scope.next_slot + length (resolve_items functions scope items))
  items_numbers scope [] = let e : scope.next_slot + 0 ≡ scope.next_slot = omega arith in ap numbers_below (sym e)
  items_numbers scope (item ∷ more) =
      let n = scope.next_slot in
      let later = declare_name scope item.name item.slot in
      let rest = resolve_items functions later more in
      let next : n + 1 ≡ suc n = omega arith in
      let count : (n + 1) + length rest ≡ n + suc (length rest) = omega arith in
      ap (λ m. set_by_items (numbers_below m) rest) (sym next) ∙ (items_numbers later more ∙ ap numbers_below count)

  -- ---- functions

  -- a function of the program is the numbered one of the tree
  pub resolved_at : (index : ℕ) (fs : List (Function Name)) (i : ℕ) → slice_get (resolve_functions functions index fs) i ≡ option_map (resolve_function functions (index + i)) (slice_get fs i)
  resolved_at index [] i = refl
  resolved_at index (f ∷ more) zero = let e : index ≡ index + 0 = omega arith in ap (λ n. Some (resolve_function functions n f)) e
  resolved_at index (f ∷ more) (suc i) =
      let e : (index + 1) + i ≡ index + suc i = omega arith in
      resolved_at (index + 1) more i ∙ ap (λ n. option_map (resolve_function functions n) (slice_get more i)) e

  -- no use in the function is faulty, and if it is called `main` it is a right one
  pub record Clean (f : Function Name) : Type 0 where
    pub right : is_wrong_main functions f ≡ false
    pub uses : Each (λ u. use_faults functions f u ≡ []) (function_uses f)

  clean_uses : (f : Function Name) (uses : List Use) → flat_map (use_faults functions f) uses ≡ [] → Each (λ u. use_faults functions f u ≡ []) uses
  clean_uses f [] e = tt
  clean_uses f (first ∷ more) e = (
    nothing_first (use_faults functions f first) (flat_map (use_faults functions f) more) e,
    clean_uses f more (nothing_second (use_faults functions f first) (flat_map (use_faults functions f) more) e),
  )

  clean : (before : List (Function Name)) (index : ℕ) (f : Function Name) → function_faults functions before index f ≡ [] → Clean f
  clean before index f e =
      let behind_name = nothing_second (fault_where (list_any (λ g. is_same g.name.name f.name.name) before) f.name.at Variant.twice) _ e in
      let behind_main = nothing_second (fault_where (is_wrong_main functions f) f.name.at Variant.kind) _ behind_name in
      let behind_frame = nothing_second (fault_where (nat_lt max_frame_words (frame_of functions f)) f.name.at Variant.frame) _ behind_main in
      let behind_count = nothing_second (fault_where (index == max_functions || nat_lt max_parameter_words (slots_words (parameter_slots f))) f.name.at Variant.count) _ behind_frame in
      record { right = no_fault _ f.name.at Variant.kind (nothing_first _ _ behind_name); uses = clean_uses f (function_uses f) behind_count }

  pub clean_at : (before : List (Function Name)) (index : ℕ) (fs : List (Function Name)) → functions_faults functions before index fs ≡ [] → (i : ℕ) (f : Function Name) → slice_get fs i ≡ Some f → Clean f
  clean_at before index [] e i f h = absurd (cc)
  clean_at before index (g ∷ more) e zero f h = let is : g ≡ f = cc in subst Clean is (clean before index g (nothing_first _ _ e))
  clean_at before index (g ∷ more) e (suc i) f h = clean_at (before ++ g ∷ []) (index + 1) more (nothing_second (function_faults functions before index g) _ e) i f h

  module _ (formed : (f : Function Name) → Contains functions f → FormedFunction f) (sound : functions_faults functions [] 0 functions ≡ []) where
    -- the functions of the program
    abbrev pub numbered : List (Function ℕ)
    numbered = resolve_functions functions 0 functions

    pub fit_parameters : (f : Function Name) → Contains functions f → Each IsParameter (parameter_slots f)
    fit_parameters f among = parameters_fit f.parameters (formed f among).parameters

    -- a function that is found by its name
    pub found_function : (g : Name) (f : Function Name) → lookup_function functions g ≡ Some f →
        slice_get numbered (function_number functions g) ≡ Some (resolve_function functions (0 + function_number functions g) f)
    found_function g f e =
        let n = function_number functions g in
        resolved_at 0 functions n ∙ ap (option_map (resolve_function functions (0 + n))) (found_at (λ h. is_same h.name.name g) functions f e)

    pub known_function : (g : Name) (f : Function Name) → lookup_function functions g ≡ Some f → Standing f (slice_get numbered (function_number functions g))
    known_function g f e =
        let place = found_at (λ h. is_same h.name.name g) functions f e in
        record {
          function = resolve_function functions (0 + function_number functions g) f;
          is = found_function g f e;
          gives = refl;
          same = slots_same function_scope f.parameters;
          fit = fit_parameters f (Contains-at functions _ f place);
        }

    typed_function : (index : ℕ) (f : Function Name) → Contains functions f → Clean f → TypedFunction numbered (resolve_function functions index f)
    typed_function index f among c =
        let outer = declare_items function_scope f.parameters in
        let own = map (λ (item : Item Name). item.slot) f.parameters in
        let others = body_slots outer f.body in
        let made = resolve_items functions function_scope f.parameters in
        let here : Setting = record { functions = functions; numbered = numbered; slots = function_slots f; own = f; known = known_function } in
        let start : Fits here [] function_scope (own ++ (others ++ [])) = record { visible = tt; before = []; at = refl; parts = ap (λ s. own ++ s) (sym (append-nil others)) } in
        let body = typed_body here (set_by_items [] made) outer f.body [] (items_fit here [] function_scope f.parameters (others ++ []) start)
        (formed f among).body (Each-parts (λ u. use_faults functions f u ≡ []) (items_uses function_scope f.parameters) (body_uses outer f.body) c.uses).right in
        let count : 0 + length made ≡ length made = omega arith in
        let same = slots_same function_scope f.parameters in
        record {
          others = others;
          slots = ap (λ s. s ++ others) (sym same);
          parameters = λ kind h. let i = subst (λ s. Contains s kind) same h in Each-among IsParameter own kind (fit_parameters f among) i.0 i.1 i.2;
          body = subst (λ set. TypedBody numbered (function_slots f) f.gives set (resolve_function functions index f).body)
              (items_numbers function_scope f.parameters ∙ ap numbers_below count) body;
        }

    typed_at : (index : ℕ) (g : Function ℕ) → slice_get numbered index ≡ Some g → TypedFunction numbered g
    typed_at index g e = by_found (slice_get functions index) refl (sym (resolved_at 0 functions index) ∙ e)
      where
        by_found : (found : Option (Function Name)) → slice_get functions index ≡ found → option_map (resolve_function functions (0 + index)) found ≡ Some g → TypedFunction numbered g
        by_found None i h = absurd (cc)
        by_found (Some f) i h =
            let is : resolve_function functions (0 + index) f ≡ g = cc in
            subst (TypedFunction numbered) is (typed_function (0 + index) f (Contains-at functions index f i) (clean_at [] 0 functions sound index f i))

-- ---- programs

no_items : (items : List (Item Name)) → (length items == 0) ≡ true → items ≡ []
no_items [] e = refl
no_items (item ∷ more) e = absurd (omega (arith, eqb-true (length (item ∷ more)) 0 e))

-- a function that is called `main` takes nothing and gives a value
right_main : (functions : List (Function Name)) (f : Function Name) → is_main f ≡ true → is_wrong_main functions f ≡ false → (f.parameters ≡ []) × (f.gives ≡ true)
right_main functions f named right = (no_items f.parameters (not-false _ (neither_first _ _ rest)), not-false f.gives (neither_second (not (length f.parameters == 0)) _ rest))
  where
    rest : (not (length f.parameters == 0) || not f.gives) ≡ false
    rest = subst (λ b. (b && (not (length f.parameters == 0) || not f.gives)) ≡ false) named right

-- the program of a tree that is formed and has no faults
pub typed_tree : (tree : Tree) → ((f : Function Name) → Contains tree.functions f → FormedFunction f) → faults tree ≡ [] → TypedProgram (program_of tree)
typed_tree tree formed e =
    let functions = tree.functions in
    let sound = nothing_first (functions_faults functions [] 0 functions) _ e in
    let some = not-false (list_any is_main functions) (no_fault (not (list_any is_main functions)) tree.length Variant.no_main (nothing_second (functions_faults functions [] 0 functions) _ e)) in
    let found = some_found is_main functions some in
    let f = found.0 in
    let n = function_number functions (codes "main") in
    let right = right_main functions f (found_passes is_main functions f found.1) (clean_at functions [] 0 functions sound n f (found_at is_main functions f found.1)).right in
    record {
      functions = typed_at functions formed sound;
      main = resolve_function functions (0 + n) f;
      is_main = found_function functions formed sound (codes "main") f found.1;
      main_takes = ap (resolve_items functions function_scope) right.0;
      main_gives = right.1;
    }

-- and a sound program
pub sound_typed : (program : Program) → IsSoundProgram program → TypedProgram program
sound_typed program s = subst TypedProgram (sym s.3) (typed_tree s.0 (sound_formed s.0 s.1) s.2)
