-- A loop's jump back has one turn ahead more than the loop's first word.
use Rattle.std.proofs.lemmas.List.{append_assoc, map-append}
use Rattle.std.proofs.Common.{◌≡◌, ◌≤◌, ℕ, zero, suc, ◌+◌, List, [], ◌∷◌, ◌++◌, length, map, Option, None, Some, refl, sym, ap, ◌∙◌, arith}
use Rattle.std.specs.Prelude.{slice_get}
use Rattle.cm_syntax.specs.declared.expr.Expr.{Expr}
use Rattle.cm_syntax.specs.declared.stmt.Slot.{Slot}
use Rattle.cm_gen.specs.Ahead.{total, each, once, tick_words, loop_turns, loop_credit, ahead}
use Rattle.cm_gen.proofs.ahead.TurnsLaw.{behind_each, length-plus}

-- what is ahead behind other places hangs on what stands there
behind_others : (xs cs ys ds : List ℕ) → length xs ≡ length cs → slice_get (ahead (xs ++ ys) (cs ++ ds)) (length xs) ≡ slice_get (ahead ys ds) 0
behind_others [] [] ys ds e = refl
behind_others [] (c ∷ cs) ys ds e = absurd (omega (arith, e))
behind_others (x ∷ xs) [] ys ds e = absurd (omega (arith, e))
behind_others (x ∷ xs) (c ∷ cs) ys ds e = behind_others xs cs ys ds (omega (arith, e))

pub jump_back : (slots : List Slot) (t : Option (Expr ℕ)) (turns inner behind credits : List ℕ) (outer : ℕ) → length turns ≡ length inner
    → slice_get (ahead (loop_turns slots t turns ++ behind) (map (λ c. c + outer) (loop_credit slots t turns inner) ++ credits)) (tick_words slots t + length turns)
    ≡ Some (1 + total behind + (total (loop_turns slots t turns) + outer))
jump_back slots t turns inner behind credits outer same =
    let w = tick_words slots t in
    let k = total (loop_turns slots t turns) in
    let xs = once w ++ turns in
    let kept = map (λ c. c + k) inner in
    let ps = map (λ c. c + outer) (each 0 w ++ kept) in
    let e1 : loop_turns slots t turns ++ behind ≡ xs ++ 1 ∷ behind =
    ap (λ l. l ++ behind) (sym (append_assoc (once w) turns (once 1))) ∙ append_assoc xs (once 1) behind in
    let none : 0 + k ≡ k = omega arith in
    let inside : loop_credit slots t turns inner ≡ (each 0 w ++ kept) ++ k ∷ [] =
    ap (λ l. each 0 w ++ l) (map-append (λ c. c + k) inner (0 ∷ []) ∙ ap (λ z. kept ++ z ∷ []) none) ∙ sym (append_assoc (each 0 w) kept (k ∷ [])) in
    let e2 : map (λ c. c + outer) (loop_credit slots t turns inner) ++ credits ≡ ps ++ (k + outer) ∷ credits =
    ap (λ l. map (λ c. c + outer) l ++ credits) inside ∙ (ap (λ l. l ++ credits) (map-append (λ c. c + outer) (each 0 w ++ kept) (k ∷ []))
    ∙ append_assoc ps ((k + outer) ∷ []) credits) in
    let long : length xs ≡ w + length turns = behind_each 1 w turns (length turns) refl in
    let short : length ps ≡ w + length turns =
    length-plus outer (each 0 w ++ kept) ∙ behind_each 0 w kept (length turns) (length-plus k inner ∙ sym same) in
    ap (λ l. slice_get (ahead l (map (λ c. c + outer) (loop_credit slots t turns inner) ++ credits)) (w + length turns)) e1
    ∙ (ap (λ l. slice_get (ahead (xs ++ 1 ∷ behind) l) (w + length turns)) e2
    ∙ (ap (λ i. slice_get (ahead (xs ++ 1 ∷ behind) (ps ++ (k + outer) ∷ credits)) i) (sym long)
    ∙ behind_others xs ps (1 ∷ behind) ((k + outer) ∷ credits) (long ∙ sym short)))

total-append : (x y : List ℕ) → total (x ++ y) ≡ total x + total y
total-append [] y = omega arith
total-append (n ∷ x) y = omega (arith, total-append x y)

-- over the words up to the tick, of which there is one at least
from_first : (w : ℕ) (rest behind cs credits : List ℕ) (outer : ℕ) → 1 ≤ w
    → slice_get (ahead ((once w ++ rest) ++ behind) (map (λ c. c + outer) (each 0 w ++ cs) ++ credits)) 0 ≡ Some (total (once w ++ rest) + total behind + outer)
from_first zero rest behind cs credits outer some = absurd (omega (arith, some))
from_first (suc w) rest behind cs credits outer some =
    let both = total-append (once (suc w) ++ rest) behind in
    let all : total ((once (suc w) ++ rest) ++ behind) + (0 + outer) ≡ total (once (suc w) ++ rest) + total behind + outer = omega (arith, both) in
    ap Some all

some_words : (slots : List Slot) (t : Option (Expr ℕ)) → 1 ≤ tick_words slots t
some_words slots None = omega arith
some_words slots (Some t) = omega arith

pub loop_first : (slots : List Slot) (t : Option (Expr ℕ)) (turns inner behind credits : List ℕ) (outer : ℕ)
    → slice_get (ahead (loop_turns slots t turns ++ behind) (map (λ c. c + outer) (loop_credit slots t turns inner) ++ credits)) 0
    ≡ Some (total (loop_turns slots t turns) + total behind + outer)
loop_first slots t turns inner behind credits outer =
    from_first (tick_words slots t) (turns ++ once 1) behind (map (λ c. c + total (loop_turns slots t turns)) (inner ++ 0 ∷ [])) credits outer (some_words slots t)
