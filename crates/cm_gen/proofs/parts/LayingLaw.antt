-- A turn over the parts of a code that is laid out.
use Rattle.std.proofs.lemmas.Option.{none-some, same_Some}
use Rattle.std.proofs.Common.{◌≡◌, ℕ, zero, suc, ◌+◌, ◌*◌, ◌<◌, List, [], ◌∷◌, ◌++◌, length, take, refl, sym, ap, ◌∙◌, subst, arith}
use Rattle.std.specs.Prelude.{slice_get, get_or, Some}
use Rattle.std.proofs.lemmas.List.{take_more, length-take-le}
use Rattle.cm_isa.specs.Operation.{Operation}
use Rattle.cm_isa.specs.Address.{AreWordsOf}
use Rattle.cm_isa.specs.Format.{Row}
use Rattle.cm_isa.proofs.Image.{AreWordsOf-push}
use Rattle.cm_gen.specs.Part.{Part, placed, laid}
use Rattle.cm_gen.specs.Builder.{IsCallWithin, AreCallsWithin}
use Rattle.cm_gen.proofs.images.ImageLaw.{laid-append}

found : {X : Type 0} (xs : List X) (i : ℕ) (x : X) → slice_get xs i ≡ Some x → get_or xs i x ≡ x
found [] i x at = refl
found (y ∷ more) zero x at = same_Some _ _ at
found (y ∷ more) (suc i) x at = found more i x at

pub calls_at : (limit : ℕ) (code : List Part) (i : ℕ) (p : Part) → AreCallsWithin limit code → slice_get code i ≡ Some p → IsCallWithin limit p
calls_at limit [] i p h at = absurd (none-some _ at)
calls_at limit (q ∷ more) zero p h at = subst (IsCallWithin limit) (same_Some _ _ at) h.0
calls_at limit (q ∷ more) (suc i) p h at = calls_at limit more i p h.1 at

pub laid_next : (start : ℕ) (code : List Part) (i : ℕ) (p : Part) → i < length code → slice_get code i ≡ Some p
    → laid start (take (i + 1) code) ≡ laid start (take i code) ++ placed (start + 4 * i) p ∷ []
laid_next start code i p lt at =
    let more : take (i + 1) code ≡ take i code ++ p ∷ [] = take_more code i p lt ∙ ap (λ x. take i code ++ x ∷ []) (found code i p at) in
    let size : length (take i code) ≡ i = length-take-le i code (omega (arith, lt)) in
    ap (laid start) more ∙ laid-append start (take i code) (p ∷ []) ∙ ap (λ n. laid start (take i code) ++ placed (start + 4 * n) p ∷ []) size

pub words_next : (start : ℕ) (code : List Part) (i address word : ℕ) (p : Part) (words : List ℕ) → i < length code → slice_get code i ≡ Some p → address ≡ start + 4 * i
    → AreWordsOf words (laid start (take i code)) → Row word (placed address p) → AreWordsOf (words ++ word ∷ []) (laid start (take (i + 1) code))
words_next start code i address word p words lt at is so_far row =
    subst (AreWordsOf (words ++ word ∷ [])) (sym (laid_next start code i p lt at))
    (AreWordsOf-push words (laid start (take i code)) word (placed (start + 4 * i) p) so_far (subst (λ a. Row word (placed a p)) is row))

-- the words of some instructions, and of others behind them
pub words_append : (x y : List ℕ) (is js : List Operation) → AreWordsOf x is → AreWordsOf y js → AreWordsOf (x ++ y) (is ++ js)
words_append [] y [] js h k = k
words_append [] y (i ∷ is) js h k = absurd h
words_append (w ∷ x) y [] js h k = absurd h
words_append (w ∷ x) y (i ∷ is) js h k = (h.0, words_append x y is js h.1 k)
