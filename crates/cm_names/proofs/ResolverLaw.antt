-- Functions one after another, and what is found in each.
use Rattle.std.proofs.Common.{◌≡◌, ℕ, suc, ◌+◌, ◌<◌, Bool, true, false, not, if◌then◌else◌, List, [], ◌∷◌, ◌++◌, length, get_or, take, Option, None, Some, Err, inl, refl, sym, ap, ◌∙◌, subst, append_assoc, append-nil, arith}
use Rattle.std.specs.Prelude.{◌==◌, nat_lt, ◌||◌, option_map, position, codes, Contains}
use Rattle.std.specs.Option.{is_none, is_some}
use Rattle.std.specs.List.{flat_map, list_any}
use Rattle.std.proofs.lemmas.List.{take_more, length-take}
use Rattle.cm_syntax.specs.declared.name.Name.{Name}
use Rattle.cm_syntax.specs.declared.stmt.Stmt.{Stmt}
use Rattle.cm_syntax.specs.declared.stmt.Slot.{Slot}
use Rattle.cm_syntax.specs.declared.stmt.Function.{Function}
use Rattle.cm_syntax.specs.declared.stmt.Tree.{Tree}
use Rattle.cm_syntax.specs.Text.{is_same}
use Rattle.cm_syntax.specs.Limit.{max_frame_words, max_functions, max_parameter_words}
use Rattle.cm_syntax.specs.Frame.{slots_words, rounded_frame, body_temporaries}
use Rattle.cm_syntax.specs.Resolution.{function_scope, declare_items, function_slots, function_uses, resolve_body, resolve_function, resolve_functions}
use Rattle.cm_syntax.specs.Fault.{Fault, Variant, twice, kind, frame, count, fault_where, use_faults, is_faulty_mention, is_wrong_main, parameter_slots, frame_of, function_faults, functions_faults, faults, is_main, IsNameAnswer, unknown, arity, no_main}
use Rattle.cm_names.specs.Found.{Found, found_before}
use Rattle.cm_names.specs.Finding.{fault_of, variant_of, least_fault, IsLeast, after_faults, after_uses}
use Rattle.cm_names.specs.Answer.{Gives, IsRefusalOf, refusal_of}
use Rattle.cm_names.specs.declared.refusal.NameRefusal.{NameRefusal}
use Rattle.cm_syntax.proofs.refusing.OneAnswer.{IsNameAnswer-one}
use Rattle.cm_names.specs.declared.finding.FoundFault.{FoundFault}
use Rattle.cm_names.proofs.TableLaw.{missing}
use Rattle.cm_names.proofs.FaultLaw.{finds, least-more, least-swapped, least-answer}

-- ---- a function

module _ (functions : List (Function Name)) (f : Function Name) where
  -- whether the frame is too large, by what was resolved
  pub large : (slots : List Slot) (found : Found) (before : Option Fault) (tree : List (Stmt Name)) (body : List (Stmt ℕ)) (has_faulty_mention answer : Bool) →
      slots ≡ function_slots f → tree ≡ f.body → found ≡ after_uses functions f (found_before before) (function_uses f) → has_faulty_mention ≡ found.has_faulty_mention →
      body ≡ resolve_body functions (declare_items function_scope f.parameters) f.body →
      answer ≡ nat_lt max_frame_words (rounded_frame (slots_words slots) (if has_faulty_mention then body_temporaries tree else body_temporaries body)) →
      answer ≡ nat_lt max_frame_words (frame_of functions f)
  large slots found before tree body has_faulty_mention answer slots_are tree_is found_is faulty body_is is =
      let mentions : has_faulty_mention ≡ list_any (is_faulty_mention functions f) (function_uses f) =
      faulty ∙ (ap (λ x. x.has_faulty_mention) found_is ∙ (finds functions f (found_before before) (function_uses f)).has_faulty_mention) in
      is ∙ (ap (λ t. nat_lt max_frame_words (rounded_frame (slots_words slots) (if has_faulty_mention then body_temporaries t else body_temporaries body))) tree_is ∙
      (ap (λ s. nat_lt max_frame_words (rounded_frame (slots_words s) (if has_faulty_mention then body_temporaries f.body else body_temporaries body))) slots_are ∙
      (ap (λ b. nat_lt max_frame_words (rounded_frame (slots_words (function_slots f)) (if b then body_temporaries f.body else body_temporaries body))) mentions ∙
      ap (λ r. nat_lt max_frame_words (rounded_frame (slots_words (function_slots f))
      (if list_any (is_faulty_mention functions f) (function_uses f) then body_temporaries f.body else body_temporaries r))) body_is)))

  -- the fault that is kept behind the function
  pub kept_behind : (before : List (Function Name)) (index : ℕ) (earlier : List Fault) (least : Option Fault) (found0 found1 found2 found3 found4 : Found)
      (is_second is_wrong is_large is_excess : Bool) → IsLeast least earlier →
      found0 ≡ after_uses functions f (found_before least) (function_uses f) →
      is_second ≡ list_any (λ g. is_same g.name.name f.name.name) before → found1 ≡ after_faults found0 (fault_where is_second f.name.at twice) →
      is_wrong ≡ is_wrong_main functions f → found2 ≡ after_faults found1 (fault_where is_wrong f.name.at kind) →
      is_large ≡ nat_lt max_frame_words (frame_of functions f) → found3 ≡ after_faults found2 (fault_where is_large f.name.at frame) →
      is_excess ≡ (index == max_functions || nat_lt max_parameter_words (slots_words (parameter_slots f))) →
      found4 ≡ after_faults found3 (fault_where is_excess f.name.at count) →
      IsLeast found4.least (earlier ++ function_faults functions before index f)
  kept_behind before index earlier least found0 found1 found2 found3 found4 is_second is_wrong is_large is_excess is uses second noted1 wrong noted2 large_ noted3 excess noted4 =
      let in_uses = flat_map (use_faults functions f) (function_uses f) in
      let first = fault_where (list_any (λ g. is_same g.name.name f.name.name) before) f.name.at twice in
      let next = fault_where (is_wrong_main functions f) f.name.at kind in
      let third = fault_where (nat_lt max_frame_words (frame_of functions f)) f.name.at frame in
      let last = fault_where (index == max_functions || nat_lt max_parameter_words (slots_words (parameter_slots f))) f.name.at count in
      let begun : found0.least ≡ least_fault least in_uses = ap (λ x. x.least) uses ∙ (finds functions f (found_before least) (function_uses f)).least in
      let one : found1.least ≡ least_fault found0.least first = ap (λ x. x.least) noted1 ∙ ap (λ b. least_fault found0.least (fault_where b f.name.at twice)) second in
      let two : found2.least ≡ least_fault found1.least next = ap (λ x. x.least) noted2 ∙ ap (λ b. least_fault found1.least (fault_where b f.name.at kind)) wrong in
      let three : found3.least ≡ least_fault found2.least third = ap (λ x. x.least) noted3 ∙ ap (λ b. least_fault found2.least (fault_where b f.name.at frame)) large_ in
      let four : found4.least ≡ least_fault found3.least last = ap (λ x. x.least) noted4 ∙ ap (λ b. least_fault found3.least (fault_where b f.name.at count)) excess in
      by_parts earlier least found0.least found1.least found2.least found3.least found4.least in_uses first next third last is begun one two three four
    where
      by_parts : (earlier : List Fault) (m m0 m1 m2 m3 m4 : Option Fault) (u w1 w2 w3 w4 : List Fault) → IsLeast m earlier → m0 ≡ least_fault m u →
          m1 ≡ least_fault m0 w1 → m2 ≡ least_fault m1 w2 → m3 ≡ least_fault m2 w3 → m4 ≡ least_fault m3 w4 →
          IsLeast m4 (earlier ++ (w1 ++ (w2 ++ (w3 ++ (w4 ++ u)))))
      by_parts earlier m m0 m1 m2 m3 m4 u w1 w2 w3 w4 is p0 p1 p2 p3 p4 =
          let all : IsLeast (least_fault (least_fault (least_fault (least_fault (least_fault m u) w1) w2) w3) w4) (((((earlier ++ u) ++ w1) ++ w2) ++ w3) ++ w4) =
          least-more _ (((earlier ++ u) ++ w1) ++ w2 ++ w3) w4 (least-more _ ((earlier ++ u) ++ w1 ++ w2) w3 (least-more _ ((earlier ++ u) ++ w1) w2
          (least-more _ (earlier ++ u) w1 (least-more m earlier u is)))) in
          let same : m4 ≡ least_fault (least_fault (least_fault (least_fault (least_fault m u) w1) w2) w3) w4 =
          p4 ∙ ap (λ x. least_fault x w4) (p3 ∙ ap (λ x. least_fault x w3) (p2 ∙ ap (λ x. least_fault x w2) (p1 ∙ ap (λ x. least_fault x w1) p0))) in
          let listed : ((((earlier ++ u) ++ w1) ++ w2) ++ w3) ++ w4 ≡ earlier ++ (u ++ (w1 ++ (w2 ++ (w3 ++ w4)))) = simp append_assoc in
          let behind : (w1 ++ (w2 ++ (w3 ++ w4))) ++ u ≡ w1 ++ (w2 ++ (w3 ++ (w4 ++ u))) = simp append_assoc in
          rw (same) (subst (λ (xs : List Fault). IsLeast (least_fault (least_fault (least_fault (least_fault (least_fault m u) w1) w2) w3) w4) (earlier ++ xs)) behind
          (least-swapped _ earlier u (w1 ++ (w2 ++ (w3 ++ w4))) (subst (λ (xs : List Fault). IsLeast (least_fault (least_fault (least_fault (least_fault (least_fault m u) w1) w2) w3) w4) xs) listed all)))

-- ---- functions

module _ (functions : List (Function Name)) where
  resolve-append : (index : ℕ) (xs ys : List (Function Name)) →
      resolve_functions functions index (xs ++ ys) ≡ resolve_functions functions index xs ++ resolve_functions functions (index + length xs) ys
  resolve-append index [] ys = let same : index ≡ index + 0 = omega arith in ap (λ i. resolve_functions functions i ys) same
  resolve-append index (x ∷ xs) ys =
      let same : index + 1 + length xs ≡ index + suc (length xs) = omega arith in
      ap (λ rest. resolve_function functions index x ∷ rest) (resolve-append (index + 1) xs ys ∙
      ap (λ i. resolve_functions functions (index + 1) xs ++ resolve_functions functions i ys) same)

  faults-append : (before : List (Function Name)) (index : ℕ) (xs ys : List (Function Name)) →
      functions_faults functions before index (xs ++ ys) ≡ functions_faults functions before index xs ++ functions_faults functions (before ++ xs) (index + length xs) ys
  faults-append before index [] ys =
      let same : index ≡ index + 0 = omega arith in
      ap (λ i. functions_faults functions before i ys) same ∙ ap (λ all. functions_faults functions all (index + 0) ys) (sym (append-nil before))
  faults-append before index (x ∷ xs) ys =
      let same : index + 1 + length xs ≡ index + suc (length xs) = omega arith in
      let own = function_faults functions before index x in
      let rest = functions_faults functions (before ++ x ∷ []) (index + 1) xs in
      ap (λ all. own ++ all) (faults-append (before ++ x ∷ []) (index + 1) xs ys ∙
      (ap (λ i. rest ++ functions_faults functions ((before ++ x ∷ []) ++ xs) i ys) same ∙
      ap (λ all. rest ++ functions_faults functions all (index + suc (length xs)) ys) (append_assoc before (x ∷ []) xs))) ∙
      sym (append_assoc own rest (functions_faults functions (before ++ x ∷ xs) (index + suc (length xs)) ys))

  -- the first i functions are resolved, and the fault of them that is answered is kept
  pub record AreResolved (i : ℕ) (resolved : List (Function ℕ)) (least : Option FoundFault) : Type 0 where
    pub made : resolved ≡ resolve_functions functions 0 (take i functions)
    pub kept : IsLeast (option_map fault_of least) (functions_faults functions [] 0 (take i functions))

  pub resolved-more : (i : ℕ) (f : Function Name) (resolved longer : List (Function ℕ)) (made : Function ℕ) (least next : Option FoundFault) →
      i < length functions → f ≡ get_or functions i f → AreResolved i resolved least → made ≡ resolve_function functions i f →
      ((earlier : List Fault) → IsLeast (option_map fault_of least) earlier →
      IsLeast (option_map fault_of next) (earlier ++ function_faults functions (take i functions) i f)) →
      longer ≡ resolved ++ made ∷ [] → AreResolved (i + 1) longer next
  resolved-more i f resolved longer made least next lt is so_far own kept pushed =
      let more : take (i + 1) functions ≡ take i functions ++ f ∷ [] = rw (is) (take_more functions i f lt) in
      let short : 0 + length (take i functions) ≡ i = omega (arith, length-take i functions) in
      let here = ap (λ n. resolve_functions functions 0 (take i functions) ++ resolve_function functions n f ∷ []) short in
      let faulty = ap (λ n. functions_faults functions [] 0 (take i functions) ++ (function_faults functions (take i functions) n f ++ [])) short in
      let last = ap (λ xs. functions_faults functions [] 0 (take i functions) ++ xs) (append-nil (function_faults functions (take i functions) i f)) in
      record {
        made = pushed ∙ (ap (λ xs. xs ++ made ∷ []) so_far.made ∙ (ap (λ x. resolve_functions functions 0 (take i functions) ++ x ∷ []) own ∙
            (sym here ∙ (sym (resolve-append 0 (take i functions) (f ∷ [])) ∙ ap (resolve_functions functions 0) (sym more)))));
        kept = subst (IsLeast (option_map fault_of next))
            (sym last ∙ (sym faulty ∙ (sym (faults-append [] 0 (take i functions) (f ∷ [])) ∙ ap (functions_faults functions [] 0) (sym more))))
            (kept (functions_faults functions [] 0 (take i functions)) so_far.kept);
      }

-- ---- the answer

pub refused : (tree : Tree) (variant : Variant) (at : ℕ) → IsNameAnswer tree at variant → IsRefusalOf tree (refusal_of variant at)
refused tree unknown at is = is
refused tree twice at is = is
refused tree arity at is = is
refused tree kind at is = is
refused tree no_main at is = is
refused tree frame at is = is
refused tree count at is = is

as_none : (o : Option ℕ) (b : Bool) → is_some o ≡ not b → b ≡ is_none o
as_none None true is = refl
as_none None false is = absurd (cc)
as_none (Some n) true is = absurd (cc)
as_none (Some n) false is = refl

-- what is kept of all of a tree
pub kept_of_tree : (tree : Tree) (table : List (Function Name)) (least : Option Fault) (found0 found1 : Found) (main : Option ℕ) (is_missing : Bool) (name : Name) →
    table ≡ tree.functions → IsLeast least (functions_faults table [] 0 table) → found0 ≡ found_before least → name ≡ codes "main" →
    main ≡ position (λ g. is_same g.name.name name) table → is_some main ≡ not is_missing → found1 ≡ after_faults found0 (fault_where is_missing tree.length no_main) →
    IsLeast found1.least (faults tree)
kept_of_tree tree table least found0 found1 main is_missing name same is begun name_is number missing_is noted =
    let none : is_missing ≡ not (list_any is_main tree.functions) =
    as_none main is_missing missing_is ∙ (missing (λ g. is_same g.name.name name) table main number ∙
    (ap (λ x. not (list_any (λ g. is_same g.name.name x) table)) name_is ∙ ap (λ fs. not (list_any is_main fs)) same)) in
    let kept : found1.least ≡ least_fault least (fault_where (not (list_any is_main tree.functions)) tree.length no_main) =
    ap (λ x. x.least) noted ∙ (ap (λ x. least_fault x.least (fault_where is_missing tree.length no_main)) begun ∙
    ap (λ b. least_fault least (fault_where b tree.length no_main)) none) in
    rw (kept) (least-more least (functions_faults tree.functions [] 0 tree.functions) (fault_where (not (list_any is_main tree.functions)) tree.length no_main)
    (subst (λ fs. IsLeast least (functions_faults fs [] 0 fs)) same is))

-- the refusal that says the kept fault is the answer
pub gives : (tree : Tree) (fault : FoundFault) (refusal : NameRefusal) (at : ℕ) (variant : Variant) → IsLeast (Some (fault_of fault)) (faults tree) →
    refusal ≡ refusal_of (variant_of fault.kind) fault.at → IsNameAnswer tree at variant → Gives (Err refusal) (Err (refusal_of variant at))
gives tree fault refusal at variant least says is =
    let one = IsNameAnswer-one tree fault.at at (variant_of fault.kind) variant (least-answer tree (fault_of fault) least) is in
    let same : refusal ≡ refusal_of variant at = says ∙ (ap (λ v. refusal_of v fault.at) one.1 ∙ ap (refusal_of variant) one.0) in
    rw (same) (inl refl)
