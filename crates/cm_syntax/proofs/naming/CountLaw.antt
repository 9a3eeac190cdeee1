-- The 257th function of a tree is faulty.
use Rattle.std.proofs.Common.{◌≡◌, ℕ, ◌+◌, List, [], ◌∷◌, ◌++◌, length, refl, sym, subst, arith}
use Rattle.std.specs.Prelude.{nat_lt, Contains}
use Rattle.std.specs.List.{list_any, flat_map}
use Rattle.std.proofs.lemmas.List.Elements.{Contains-append_left, Contains-append_right}
use Rattle.cm_syntax.specs.declared.name.Name.{Name}
use Rattle.cm_syntax.specs.declared.stmt.Function.{Function}
use Rattle.cm_syntax.specs.declared.stmt.Tree.{Tree}
use Rattle.cm_syntax.specs.Text.{is_same}
use Rattle.cm_syntax.specs.Resolution.{function_uses}
use Rattle.cm_syntax.specs.Limit.{max_frame_words}
use Rattle.cm_syntax.specs.Fault.{twice, kind, frame, count, fault_at, fault_where, is_wrong_main, frame_of, use_faults, function_faults, functions_faults, Faulty}

module _ (functions : List (Function Name)) where
  -- a function of index 256 has the fault
  counted_there : (before : List (Function Name)) (f : Function Name) → Contains (function_faults functions before 256 f) (fault_at f.name.at count)
  counted_there before f =
      let fault = fault_at f.name.at count in
      let doubled = fault_where (list_any (λ g. is_same g.name.name f.name.name) before) f.name.at twice in
      let misused = fault_where (is_wrong_main functions f) f.name.at kind in
      let great = fault_where (nat_lt max_frame_words (frame_of functions f)) f.name.at frame in
      let uses = flat_map (use_faults functions f) (function_uses f) in
      let many = fault ∷ uses in
      Contains-append_right doubled (misused ++ (great ++ many)) fault
      (Contains-append_right misused (great ++ many) fault (Contains-append_right great many fault (0, omega arith, refl)))

  -- and it is among the faults of the functions from an index on
  reached : (earlier : List (Function Name)) (index : ℕ) (before : List (Function Name)) (f : Function Name) (more : List (Function Name)) →
      index + length before ≡ 256 → Contains (functions_faults functions earlier index (before ++ f ∷ more)) (fault_at f.name.at count)
  reached earlier index [] f more e =
      let same : 256 ≡ index = omega (arith, e) in
      Contains-append_left (function_faults functions earlier index f) (functions_faults functions (earlier ++ f ∷ []) (index + 1) more) (fault_at f.name.at count)
      (subst (λ i. Contains (function_faults functions earlier i f) (fault_at f.name.at count)) same (counted_there earlier f))
  reached earlier index (g ∷ before) f more e =
      Contains-append_right (function_faults functions earlier index g) (functions_faults functions (earlier ++ g ∷ []) (index + 1) (before ++ f ∷ more)) (fault_at f.name.at count)
      (reached (earlier ++ g ∷ []) (index + 1) before f more (omega (arith, e)))

pub too_many_functions : (tree : Tree) (before : List (Function Name)) (f : Function Name) (more : List (Function Name)) →
    tree.functions ≡ before ++ f ∷ more → length before ≡ 256 → Faulty tree f.name.at count
too_many_functions tree before f more parts e =
    Contains-append_left (functions_faults tree.functions [] 0 tree.functions) _ (fault_at f.name.at count)
    (subst (λ fs. Contains (functions_faults tree.functions [] 0 fs) (fault_at f.name.at count)) (sym parts) (reached tree.functions [] 0 before f more (omega (arith, e))))
