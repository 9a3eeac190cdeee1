-- A program has one image.
use Rattle.std.proofs.Common.{◌≡◌, ℕ, suc, ◌^◌, ◌<◌, List, [], ◌∷◌, length, refl, ap, arith}
use Rattle.std.specs.Prelude.{slice_index}
use Rattle.cm_isa.specs.Operation.{Operation}
use Rattle.cm_isa.specs.Format.{Row}
use Rattle.cm_isa.specs.Address.{AreWordsOf}
use Rattle.cm_syntax.specs.declared.stmt.Program.{Program}
use Rattle.cm_gen.specs.declared.form.Form.{Form}
use Rattle.cm_gen.specs.Image.{image_of}
use Rattle.cilkm.specs.Built.{IsImageOf, IsLong}

-- an instruction has one word
one_word : (v w : ℕ) (i : Operation) → v < 2 ^ 32 → w < 2 ^ 32 → Row v i → Row w i → v ≡ w
one_word v w i first second x y = grind arith

-- instructions have one list of words
one_list : (a b : List ℕ) (is : List Operation) → ((k : ℕ) → slice_index a k < 2 ^ 32) → ((k : ℕ) → slice_index b k < 2 ^ 32)
    → AreWordsOf a is → AreWordsOf b is → a ≡ b
one_list [] [] [] first second x y = refl
one_list [] [] (i ∷ is) first second x y = refl
one_list (v ∷ a) [] [] first second x y = absurd x
one_list (v ∷ a) [] (i ∷ is) first second x y = absurd y
one_list [] (w ∷ b) [] first second x y = absurd y
one_list [] (w ∷ b) (i ∷ is) first second x y = absurd x
one_list (v ∷ a) (w ∷ b) [] first second x y = absurd x
one_list (v ∷ a) (w ∷ b) (i ∷ is) first second x y =
    let word = one_word v w i (first 0) (second 0) x.0 y.0 in
    let rest = one_list a b is (λ k. first (suc k)) (λ k. second (suc k)) x.1 y.1 in
    λ j. word j ∷ rest j

-- there are as many words as instructions
pub as_many : (words : List ℕ) (is : List Operation) → AreWordsOf words is → length words ≡ length is
as_many [] [] x = refl
as_many [] (i ∷ is) x = absurd x
as_many (w ∷ words) [] x = absurd x
as_many (w ∷ words) (i ∷ is) x = ap suc (as_many words is x.1)

module _ (program : Program) (form : Form) (page : ℕ) where
  -- a program has one image in a build
  pub one_image : (a b : List ℕ) → IsImageOf program form page a → IsImageOf program form page b → a ≡ b
  one_image a b x y = one_list a b (image_of program form page) x.each y.each x.code y.code

  -- and where it has one, that isn't too long
  pub built_or_long : (words : List ℕ) → IsImageOf program form page words → IsLong program form page → ⊥
  built_or_long words x long = let same = as_many words (image_of program form page) x.code in let few = x.few in omega (arith, same, few, long)
