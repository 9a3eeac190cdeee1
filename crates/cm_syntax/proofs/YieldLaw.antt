-- The tokens of parts of a parse tree, one behind another.
use Rattle.std.proofs.Common.{◌≡◌, suc, List, [], ◌∷◌, ◌++◌, length, refl, ap}
use Rattle.cm_syntax.specs.Token.{LocatedToken}
use Rattle.cm_syntax.specs.Yield.{CountedToken, located_tokens}

pub located-append : (a b : List CountedToken) → located_tokens (a ++ b) ≡ located_tokens a ++ located_tokens b
located-append [] b = refl
located-append (t ∷ a) b = ap (λ x. t.located ∷ x) (located-append a b)

pub length-located : (tokens : List CountedToken) → length (located_tokens tokens) ≡ length tokens
length-located [] = refl
length-located (t ∷ tokens) = ap suc (length-located tokens)

pub regroup : (a b : List CountedToken) (rest : List LocatedToken) → located_tokens (a ++ b) ++ rest ≡ located_tokens a ++ (located_tokens b ++ rest)
regroup [] b rest = refl
regroup (t ∷ a) b rest = ap (λ x. t.located ∷ x) (regroup a b rest)
