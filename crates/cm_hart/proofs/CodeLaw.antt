-- What the code has at an index, and what is then at an address.
use Rattle.std.proofs.Common.{◌≡◌, ◌↔◌, ℕ, ◌+◌, ◌<◌, ◌≤◌, List, [], ◌∷◌, ◌++◌, length, take, zero, suc, Option, None, Some, Ok, Err, arith, ap, refl, sym, subst, ◌∙◌, get_or}
use Rattle.std.specs.Prelude.{Result, MatchResult, IfSome, slice_index, slice_get}
use Rattle.std.proofs.lemmas.List.{take_more}
use Rattle.std.proofs.lemmas.Option.{slice_get-get_or, slice_get_past}
use Rattle.cm_isa.specs.Address.{InstructionAt, IsCodeAddress}
use Rattle.cm_isa.specs.Format.{Row}
use Rattle.cm_isa.specs.Operation.{Operation}
use Rattle.cm_isa.specs.declared.execution.FaultKind.{FaultKind}
use Rattle.cm_isa.specs.declared.execution.FaultKind.TheVariants as faults
use Rattle.cm_isa.proofs.Image.{image_is_one}
use Rattle.cm_hart.specs.Address.{IsStranger, Lacks}
use Rattle.cm_hart.specs.Code.{AreDecoded, DecodesTo}

-- what an entry that is looked up at an index tells of the words
abbrev Tells : (words : List ℕ) → ℕ → Option (Option Operation) → Type 0
Tells words k None = length words ≤ k
Tells words k (Some d) = (k < length words) × DecodesTo (slice_index words k) d

entry_tells : (words : List ℕ) (ds : List (Option Operation)) (k : ℕ) → AreDecoded words ds → Tells words k (slice_get ds k)
entry_tells [] [] k h = omega arith
entry_tells [] (d ∷ ds) k h = absurd h
entry_tells (w ∷ words) [] k h = absurd h
entry_tells (w ∷ words) (d ∷ ds) zero h = (omega arith, h.0)
entry_tells (w ∷ words) (d ∷ ds) (suc k) h = more (slice_get ds k) (entry_tells words ds k h.1)
  where
    more : (found : Option (Option Operation)) → Tells words k found → Tells (w ∷ words) (suc k) found
    more None small = omega (arith, small)
    more (Some d) there = (omega (arith, there.0), there.1)

-- an entry inside
pub here : (words : List ℕ) (ds : List (Option Operation)) (k : ℕ) (d : Option Operation) → AreDecoded words ds → k < length ds
    → ((other : Option Operation) → d ≡ get_or ds k other) → (k < length words) × DecodesTo (slice_index words k) d
here words ds k d h small is = subst (Tells words k) (slice_get-get_or ds k d small ∙ ap Some (sym (is d))) (entry_tells words ds k h)

-- and behind the last one
pub beyond : (words : List ℕ) (ds : List (Option Operation)) (k : ℕ) → AreDecoded words ds → length ds ≤ k → length words ≤ k
beyond words ds k h large = subst (Tells words k) (slice_get_past ds k large) (entry_tells words ds k h)

-- one word more
pub AreDecoded-push : (words : List ℕ) (ds : List (Option Operation)) (w : ℕ) (d : Option Operation) → AreDecoded words ds → DecodesTo w d → AreDecoded (words ++ w ∷ []) (ds ++ d ∷ [])
AreDecoded-push [] [] w d h one = (one, tt)
AreDecoded-push [] (e ∷ ds) w d h one = absurd h
AreDecoded-push (v ∷ words) [] w d h one = absurd h
AreDecoded-push (v ∷ words) (e ∷ ds) w d h one = (h.0, AreDecoded-push words ds w d h.1 one)

-- what `decode` gives is what the word decodes to
pub decodes : (word : ℕ) (d : Option Operation) → IfSome d (λ i. Row word i) → ((i : Operation) → Row word i → d ≡ Some i) → DecodesTo word d
decodes word None row all = λ i there. let none = all i there in cc
decodes word (Some i) row all = row

-- and one more of the words in front
pub decoded_more : (words : List ℕ) (k : ℕ) (ds more : List (Option Operation)) (d : Option Operation) → k < length words → AreDecoded (take k words) ds
    → DecodesTo (get_or words k 0) d → more ≡ ds ++ d ∷ [] → AreDecoded (take (k + 1) words) more
decoded_more words k ds more d small h one is = rw is (rw (take_more words k 0 small) (AreDecoded-push (take k words) ds (get_or words k 0) d h one))

-- what is at an address, or why nothing is, tells each clause of a fetch
module _ (image : List ℕ) (pc : ℕ) where
  pub found_by : (result : Result Operation FaultKind) → MatchResult result (InstructionAt image pc) (Lacks image pc) → (i : Operation) → InstructionAt image pc i → result ≡ Ok i
  found_by (Ok j) at i there = ap Ok (image_is_one image pc j i at there)
  found_by (Err faults.Jump) at i there = absurd (at (there.0, there.1))
  found_by (Err faults.Word) at i there = absurd (at.1 i there.2)
  found_by (Err faults.Align) at i there = absurd at
  found_by (Err faults.Place) at i there = absurd at
  found_by (Err faults.Break) at i there = absurd at

  pub jump_by : (result : Result Operation FaultKind) → MatchResult result (InstructionAt image pc) (Lacks image pc) → (result ≡ Err faults.Jump) ↔ (¬ IsCodeAddress image pc)
  jump_by (Ok j) at = ((λ e. cc), λ none. absurd (none (at.0, at.1)))
  jump_by (Err faults.Jump) at = ((λ e. at), λ none. refl)
  jump_by (Err faults.Word) at = ((λ e. cc), λ none. absurd (none at.0))
  jump_by (Err faults.Align) at = absurd at
  jump_by (Err faults.Place) at = absurd at
  jump_by (Err faults.Break) at = absurd at

  pub word_by : (result : Result Operation FaultKind) → MatchResult result (InstructionAt image pc) (Lacks image pc) → (result ≡ Err faults.Word) ↔ IsStranger image pc
  word_by (Ok j) at = ((λ e. cc), λ stranger. absurd (stranger.1 j at.2))
  word_by (Err faults.Jump) at = ((λ e. cc), λ stranger. absurd (at stranger.0))
  word_by (Err faults.Word) at = ((λ e. at), λ stranger. refl)
  word_by (Err faults.Align) at = absurd at
  word_by (Err faults.Place) at = absurd at
  word_by (Err faults.Break) at = absurd at
