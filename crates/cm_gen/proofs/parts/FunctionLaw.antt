-- What the definitions of the code say of functions, as loops go through them from the end.
use Rattle.std.proofs.Common.{◌≡◌, ℕ, zero, suc, ◌<◌, Bool, true, false, List, [], ◌∷◌, length, get_or, refl, sym, subst, arith}
use Rattle.cm_syntax.specs.declared.stmt.Function.{Function}
use Rattle.cm_gen.specs.Image.{marked}
use Rattle.cm_gen.specs.Fits.{FunctionFits, FunctionsFit}

pub function_fits_at : (fs : List (Function ℕ)) (i : ℕ) (f : Function ℕ) → FunctionsFit fs → i < length fs → f ≡ get_or fs i f → FunctionFits f
function_fits_at [] i f h lt is = absurd (omega arith)
function_fits_at (first ∷ more) zero f h lt is = subst FunctionFits (sym is) h.0
function_fits_at (first ∷ more) (suc i) f h lt is = function_fits_at more i f h.1 (omega arith) is

pub marked_same : (cilk : Bool) (f : Function ℕ) (more : List (Function ℕ)) → f.cilk ≡ cilk → marked cilk (f ∷ more) ≡ f ∷ marked cilk more
marked_same true f more is = rw is refl
marked_same false f more is = rw is refl

pub marked_other : (cilk : Bool) (f : Function ℕ) (more : List (Function ℕ)) → (f.cilk ≡ cilk → ⊥) → marked cilk (f ∷ more) ≡ marked cilk more
marked_other cilk f more is = by_mark cilk f.cilk refl is
  where
    by_mark : (c b : Bool) → f.cilk ≡ b → (b ≡ c → ⊥) → marked c (f ∷ more) ≡ marked c more
    by_mark true true e n = absurd (n refl)
    by_mark true false e n = rw e refl
    by_mark false true e n = rw e refl
    by_mark false false e n = absurd (n refl)
