-- The arguments of a call in a sound program take few words.
use Rattle.std.proofs.Common.{◌≡◌, ℕ, zero, suc, ◌+◌, ◌≤◌, List, [], ◌∷◌, ◌++◌, length, map, Some, refl, sym, ap, subst, arith}
use Rattle.std.proofs.lemmas.Bool.{ltb-false}
use Rattle.std.proofs.lemmas.Option.{none-some, same_Some}
use Rattle.std.specs.Prelude.{Bool, true, false, ◌||◌, ◌==◌, nat_lt, take, slice_get}
use Rattle.std.specs.List.{list_any, flat_map}
use Rattle.cm_syntax.specs.declared.name.Name.{Name}
use Rattle.cm_syntax.specs.declared.stmt.Slot.{Slot}
use Rattle.cm_syntax.specs.declared.stmt.Item as items
use Rattle.cm_syntax.specs.declared.stmt.Function.{Function}
use Rattle.cm_syntax.specs.declared.stmt.Program.{Program}
use Rattle.cm_syntax.specs.Frame.{slots_words}
use Rattle.cm_syntax.specs.Limit.{max_frame_words, max_functions, max_parameter_words}
use Rattle.cm_syntax.specs.Resolution.{Scope, function_scope, declare_name, function_uses, resolve_items, resolve_function, resolve_functions}
use Rattle.cm_syntax.specs.Fault.{twice, kind, frame, count, fault_where, parameter_slots, use_faults, is_wrong_main, frame_of, function_faults, functions_faults, IsSoundProgram}
use Rattle.cm_syntax.specs.Text.{is_same}
use Rattle.cm_syntax.specs.Stack.{Stack, Argument}
use Rattle.cm_syntax.proofs.naming.SoundLaw.{nothing_first, nothing_second, no_fault}
use Rattle.cm_meaning.specs.TypedState.{FitParameters}
use Rattle.cm_gen.specs.Standing.{arguments_size}
use Rattle.cm_gen.proofs.patterns.ParameterLaw.{words_of_arguments}

-- where neither holds, the second doesn't
not_second : (a b : Bool) → (a || b) ≡ false → b ≡ false
not_second true b e = cc e
not_second false b e = e

-- numbering the names keeps the slots
slots_same : (functions : List (Function Name)) (scope : Scope) (ps : List (items.Item Name)) → map (λ item. item.slot) (resolve_items functions scope ps) ≡ map (λ item. item.slot) ps
slots_same functions scope [] = refl
slots_same functions scope (p ∷ ps) = ap (λ l. p.slot ∷ l) (slots_same functions (declare_name scope p.name p.slot) ps)

-- a function without faults has few words of parameters
few_words : (functions before : List (Function Name)) (index : ℕ) (f : Function Name) → function_faults functions before index f ≡ [] → slots_words (parameter_slots f) ≤ max_parameter_words
few_words functions before index f e =
    let doubled = fault_where (list_any (λ g. is_same g.name.name f.name.name) before) f.name.at twice in
    let misused = fault_where (is_wrong_main functions f) f.name.at kind in
    let great = fault_where (nat_lt max_frame_words (frame_of functions f)) f.name.at frame in
    let many = fault_where (index == max_functions || nat_lt max_parameter_words (slots_words (parameter_slots f))) f.name.at count in
    let uses = flat_map (use_faults functions f) (function_uses f) in
    let behind_frame = nothing_second great (many ++ uses) (nothing_second misused (great ++ (many ++ uses)) (nothing_second doubled (misused ++ (great ++ (many ++ uses))) e)) in
    ltb-false max_parameter_words (slots_words (parameter_slots f)) (not_second (index == max_functions) _ (no_fault _ f.name.at count (nothing_first many uses behind_frame)))

few_at : (functions before : List (Function Name)) (index : ℕ) (fs : List (Function Name)) → functions_faults functions before index fs ≡ [] → (i : ℕ) (f : Function ℕ) → slice_get (resolve_functions functions index fs) i ≡ Some f
    → slots_words (parameter_slots f) ≤ max_parameter_words
few_at functions before index [] e i f h = absurd (none-some f h)
few_at functions before index (g ∷ more) e zero f h =
    subst (λ (f : Function ℕ). slots_words (parameter_slots f) ≤ max_parameter_words) (same_Some (resolve_function functions index g) f h)
    (subst (λ l. slots_words l ≤ max_parameter_words) (sym (slots_same functions function_scope g.parameters)) (few_words functions before index g (nothing_first _ _ e)))
few_at functions before index (g ∷ more) e (suc i) f h = few_at functions (before ++ g ∷ []) (index + 1) more (nothing_second (function_faults functions before index g) _ e) i f h

-- the parameters of a function of a sound program take at most 8 words
pub sound_parameters : (program : Program) → IsSoundProgram program → (g : ℕ) (function : Function ℕ) → slice_get program.functions g ≡ Some function → slots_words (parameter_slots function) ≤ 8
sound_parameters program (tree, source, clean, is) g function e =
    few_at tree.functions [] 0 tree.functions (nothing_first _ _ clean) g function (subst (λ (p : Program). slice_get p.functions g ≡ Some function) is e)

take_least : (n : ℕ) (kinds : List Slot) → slots_words (take n kinds) ≤ slots_words kinds
take_least zero [] = omega arith
take_least zero (first ∷ kinds) = omega arith
take_least (suc n) [] = omega arith
take_least (suc n) (first ∷ kinds) = let h = take_least n kinds in omega (arith, h)

-- and so do its arguments
pub arguments_few : (program : Program) → IsSoundProgram program → (g : ℕ) (function : Function ℕ) → slice_get program.functions g ≡ Some function → (h : Stack) (calls : List ℕ) (ws : List Argument)
    → FitParameters program h calls ws (parameter_slots function) → arguments_size ws ≤ 8
arguments_few program sound g function e h calls ws fit =
    let size = words_of_arguments program h calls ws (parameter_slots function) fit in
    let least = take_least (length ws) (parameter_slots function) in
    let few = sound_parameters program sound g function e in
    omega (arith, size, least, few)
