-- A function of a sound program has a frame of at most 32,768 words.
use Rattle.std.proofs.Common.{◌≡◌, ℕ, ◌+◌, ◌<◌, ◌≤◌, Bool, true, false, not, ◌||◌, List, [], ◌∷◌, ◌++◌, length, map, refl, sym, ap, ◌∙◌, subst, All, if◌then◌else◌}
use Rattle.std.specs.Prelude.{nat_lt, ◌==◌, slice_index_or}
use Rattle.std.specs.List.{list_any, flat_map}
use Rattle.std.proofs.lemmas.Bool.{ltb-false}
use Rattle.std.proofs.lemmas.List.Elements.{All-nil, All-cons}
use Rattle.cm_syntax.specs.declared.name.Name.{Name}
use Rattle.cm_syntax.specs.declared.stmt.Function.{Function}
use Rattle.cm_syntax.specs.declared.stmt.Tree.{Tree}
use Rattle.cm_syntax.specs.Frame.{frame_words, rounded_frame, slots_words, body_temporaries}
use Rattle.cm_syntax.specs.Resolution.{Use, mention, call_use, redeclaration, parallel_keyword, return_keyword, function_uses, function_slots, function_scope, declare_items, resolve_body, resolve_functions, resolve_function}
use Rattle.cm_syntax.specs.Text.{is_same}
use Rattle.cm_syntax.specs.Limit.{max_frame_words, max_functions, max_parameter_words}
use Rattle.cm_syntax.specs.Fault.{Variant, twice, kind, frame, count, parameter_slots, is_wrong_main, fault_where, use_faults, is_faulty_mention, temporaries_of, frame_of, function_faults, functions_faults, faults, program_of, IsSoundFunction}

-- a list that is empty has an empty front
pub nothing_first : {A : Type 0} (a b : List A) → a ++ b ≡ [] → a ≡ []
nothing_first [] b e = refl
nothing_first (x ∷ a) b e = cc

-- and an empty rest
pub nothing_second : {A : Type 0} (a b : List A) → a ++ b ≡ [] → b ≡ []
nothing_second [] b e = e
nothing_second (x ∷ a) b e = cc

-- where no fault is noted there is none
pub no_fault : (is_faulty : Bool) (at : ℕ) (v : Variant) → fault_where is_faulty at v ≡ [] → is_faulty ≡ false
no_fault true at v e = cc
no_fault false at v e = refl

module _ (functions : List (Function Name)) where
  -- where no use is faulty no mention is
  no_faulty_use : (f : Function Name) (use_ : Use) → use_faults functions f use_ ≡ [] → is_faulty_mention functions f use_ ≡ false
  no_faulty_use f (mention x role v) e = ap (λ found. not (length found == 0)) e
  no_faulty_use f (call_use g arguments wanted) e = ap (λ found. not (length found == 0)) e
  no_faulty_use f (redeclaration at) e = refl
  no_faulty_use f (parallel_keyword at) e = refl
  no_faulty_use f (return_keyword at has_value) e = refl

  no_faulty_uses : (f : Function Name) (uses : List Use) → flat_map (use_faults functions f) uses ≡ [] → list_any (is_faulty_mention functions f) uses ≡ false
  no_faulty_uses f [] e = refl
  no_faulty_uses f (first ∷ more) e =
      let one = no_faulty_use f first (nothing_first (use_faults functions f first) (flat_map (use_faults functions f) more) e) in
      let others = no_faulty_uses f more (nothing_second (use_faults functions f first) (flat_map (use_faults functions f) more) e) in
      rw (one, others) refl

  -- of a function without faults: its frame isn't too great, and no use is faulty
  record Clean (f : Function Name) : Type 0 where
    few : nat_lt max_frame_words (frame_of functions f) ≡ false
    uses : flat_map (use_faults functions f) (function_uses f) ≡ []

  clean : (before : List (Function Name)) (index : ℕ) (f : Function Name) → function_faults functions before index f ≡ [] → Clean f
  clean before index f e =
      let doubled = fault_where (list_any (λ g. is_same g.name.name f.name.name) before) f.name.at twice in
      let misused = fault_where (is_wrong_main functions f) f.name.at kind in
      let great = fault_where (nat_lt max_frame_words (frame_of functions f)) f.name.at frame in
      let many = fault_where (index == max_functions || nat_lt max_parameter_words (slots_words (parameter_slots f))) f.name.at count in
      let uses = flat_map (use_faults functions f) (function_uses f) in
      let behind_main = nothing_second misused (great ++ (many ++ uses)) (nothing_second doubled (misused ++ (great ++ (many ++ uses))) e) in
      record {
        few = no_fault _ f.name.at frame (nothing_first great (many ++ uses) behind_main);
        uses = nothing_second many uses (nothing_second great (many ++ uses) behind_main);
      }

  -- so its frame is that of its numbered body
  frame_same : (before : List (Function Name)) (index : ℕ) (f : Function Name) → function_faults functions before index f ≡ [] →
      frame_of functions f ≡ frame_words (resolve_function functions index f)
  frame_same before index f e =
      let sound : list_any (is_faulty_mention functions f) (function_uses f) ≡ false = no_faulty_uses f (function_uses f) (clean before index f e).uses in
      let resolve_mark : temporaries_of functions f ≡ body_temporaries (resolve_body functions (declare_items function_scope f.parameters) f.body) =
      ap (λ t. if t then body_temporaries f.body else body_temporaries (resolve_body functions (declare_items function_scope f.parameters) f.body)) sound in
      ap (rounded_frame (slots_words (function_slots f))) resolve_mark

  frames_same : (before : List (Function Name)) (index : ℕ) (fs : List (Function Name)) → functions_faults functions before index fs ≡ [] →
      map (frame_of functions) fs ≡ map frame_words (resolve_functions functions index fs)
  frames_same before index [] e = refl
  frames_same before index (f ∷ more) e =
      let same = frame_same before index f (nothing_first _ _ e) in
      let others = frames_same (before ++ f ∷ []) (index + 1) more (nothing_second _ _ e) in
      λ i. same i ∷ others i

  frame_numbered : (before : List (Function Name)) (index : ℕ) (f : Function Name) → function_faults functions before index f ≡ [] →
      frame_words (resolve_function functions index f) ≤ max_frame_words
  frame_numbered before index f e =
      subst (λ n. n ≤ max_frame_words) (frame_same before index f e) (ltb-false max_frame_words (frame_of functions f) (clean before index f e).few)

  frames_numbered : (before : List (Function Name)) (index : ℕ) (fs : List (Function Name)) → functions_faults functions before index fs ≡ [] →
      All (λ g. frame_words g ≤ max_frame_words) (resolve_functions functions index fs)
  frames_numbered before index [] e = All-nil (λ g. frame_words g ≤ max_frame_words)
  frames_numbered before index (f ∷ more) e =
      All-cons (λ g. frame_words g ≤ max_frame_words) (resolve_function functions index f) (resolve_functions functions (index + 1) more)
      (frame_numbered before index f (nothing_first _ _ e)) (frames_numbered (before ++ f ∷ []) (index + 1) more (nothing_second _ _ e))

pub sound_frame : (f : Function ℕ) → IsSoundFunction f → frame_words f ≤ max_frame_words
sound_frame f (program, sound, (k, lt, is)) =
    let tree = sound.0 in
    let all = frames_numbered tree.functions [] 0 tree.functions (nothing_first _ _ sound.2) in
    let among : slice_index_or (resolve_functions tree.functions 0 tree.functions) k f ≡ f = ap (λ p. slice_index_or p.functions k f) (sym sound.3) ∙ is in
    let within : k < length (resolve_functions tree.functions 0 tree.functions) = subst (λ p. k < length p.functions) sound.3 lt in
    subst (λ g. frame_words g ≤ max_frame_words) among (all k f within)

-- in a tree without faults the words that are counted for a fault are those of the frames
pub frames_agree : (tree : Tree) → faults tree ≡ [] → map (frame_of tree.functions) tree.functions ≡ map frame_words (program_of tree).functions
frames_agree tree e = frames_same tree.functions [] 0 tree.functions (nothing_first _ _ e)
