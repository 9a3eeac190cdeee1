-- What the goals of the functions need that put code down from its end: instructions that stand before a code, one
-- pattern behind another.
use Rattle.std.proofs.Common.{◌≡◌, List, [], ◌∷◌, ◌++◌, refl, sym, ap, ◌∙◌, append_assoc}
use Rattle.std.proofs.lemmas.Int.{to_z-of_z}
use Rattle.cm_isa.specs.Operation.{Operation}
use Rattle.cm_gen.specs.Part.{plain, straight}

-- instructions one after another
pub straight_append : (x y : List Operation) → straight (x ++ y) ≡ straight x ++ straight y
straight_append [] y = refl
straight_append (i ∷ x) y = ap (λ c. plain i ∷ c) (straight_append x y)

pub ruleset behind = (append_assoc, straight_append, to_z-of_z)

-- one code before another one
pub behind_one : {A : Type 0} (new mid old inner after whole : List A) → mid ≡ after ++ old → whole ≡ inner ++ after → new ≡ inner ++ mid → new ≡ whole ++ old
behind_one new mid old inner after whole e w h = h ∙ ap (λ l. inner ++ l) e ∙ sym (append_assoc inner after old) ∙ ap (λ l. l ++ old) (sym w)
