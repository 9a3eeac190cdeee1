-- Images: one instruction for each word and each address, and the words of instructions.
use Rattle.std.proofs.Common.{◌≡◌, ℕ, ◌<◌, List, [], ◌∷◌, ◌++◌, sym, subst, arith}
use Rattle.cm_isa.specs.Operation.{Operation}
use Rattle.cm_isa.specs.Format.{Row, form_of, operation_at}
use Rattle.cm_isa.specs.Address.{AreWordsOf, InstructionAt}
use Rattle.cm_isa.specs.declared.kind.Format.{Format}
use Rattle.cm_isa.specs.declared.kind.Format.TheVariants.{R, Shift, I, S, B, U, J, Whole}
use Rattle.cm_isa.proofs.Run.{IsOne}

-- a word is in one row at most
pub one_row : (w : ℕ) (i j : Operation) → Row w i → Row w j → i ≡ j
one_row w i j first second = grind arith

-- an image has one instruction at each address at most
pub image_is_one : (image : List ℕ) → IsOne (InstructionAt image)
image_is_one image address i j first second = one_row _ i j first.2 second.2

-- no instruction names a register that isn't there
pub rd_below : (w : ℕ) (i : Operation) → Row w i → i.rd < 32
rd_below w i row = subst (λ (o : Operation). o.rd < 32) (sym row.fields) (by_format (form_of i.kind))
  where
    by_format : (f : Format) → (operation_at f i.kind w).rd < 32
    by_format (R a b c) = omega arith
    by_format (Shift a b c) = omega arith
    by_format (I a b) = omega arith
    by_format (S a b) = omega arith
    by_format (B a b) = omega arith
    by_format (U a) = omega arith
    by_format (J a) = omega arith
    by_format (Whole a) = omega arith

-- ---- words of instructions

-- one word and one instruction more
pub AreWordsOf-push : (words : List ℕ) (is : List Operation) (w : ℕ) (i : Operation) → AreWordsOf words is → Row w i → AreWordsOf (words ++ w ∷ []) (is ++ i ∷ [])
AreWordsOf-push [] [] w i h row = (row, tt)
AreWordsOf-push [] (j ∷ is) w i h row = absurd h
AreWordsOf-push (v ∷ words) [] w i h row = absurd h
AreWordsOf-push (v ∷ words) (j ∷ is) w i h row = (h.0, AreWordsOf-push words is w i h.1 row)
