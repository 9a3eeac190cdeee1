-- The words of instructions have the instructions at their addresses.
use Rattle.std.proofs.Common.{◌≡◌, ℕ, ◌+◌, ◌*◌, ◌/◌, List, [], ◌∷◌, ◌++◌, length, sym, ap, ◌∙◌, subst, arith, length-append, append_assoc}
use Rattle.std.proofs.Math.Seq.{get_or-append_seam}
use Rattle.std.specs.Prelude.{slice_index}
use Rattle.cm_isa.specs.Format.{Row}
use Rattle.cm_isa.specs.Operation.{Operation}
use Rattle.cm_isa.specs.Machine.{InstructionsAt}
use Rattle.cm_isa.specs.Address.{AreWordsOf, InstructionAt}

-- the instructions are in an image that has their words from some address on
pub words_are_instructions : (front words : List ℕ) (is : List Operation) → AreWordsOf words is → InstructionsAt (InstructionAt (front ++ words)) (4 * length front) is
words_are_instructions front [] [] h = tt
words_are_instructions front [] (i ∷ is) h = absurd h
words_are_instructions front (w ∷ ws) [] h = absurd h
words_are_instructions front (w ∷ ws) (i ∷ is) h =
    let address : 4 * length front / 4 ≡ length front = omega arith in
    let here : slice_index (front ++ w ∷ ws) (4 * length front / 4) ≡ w = ap (slice_index (front ++ w ∷ ws)) address ∙ get_or-append_seam front w ws 0 in
    let next : 4 * length (front ++ w ∷ []) ≡ 4 * length front + 4 = omega (arith, length-append front (w ∷ [])) in
    let rest = words_are_instructions (front ++ w ∷ []) ws is h.1 in
    let rest' = subst (λ l. InstructionsAt (InstructionAt l) (4 * length (front ++ w ∷ [])) is) (append_assoc front (w ∷ []) ws) rest in (
      (omega arith, omega (arith, length-append front (w ∷ ws)), subst (λ x. Row x i) (sym here) h.0),
      subst (λ p. InstructionsAt (InstructionAt (front ++ w ∷ ws)) p is) next rest',
    )
