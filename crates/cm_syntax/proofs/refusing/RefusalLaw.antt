-- Syntax is refused at one offset at most.
use Rattle.std.proofs.Common.{◌≡◌, ℕ, ◌<◌, List, [], ◌∷◌, ◌++◌, length, sym, ap, ◌∙◌, subst, arith, inl, inr, append_assoc, length-append}
use Rattle.std.proofs.lemmas.Bool.{cases_order}
use Rattle.cm_syntax.specs.Token.{LocatedToken}
use Rattle.cm_syntax.specs.Refusal.{BeginsProgram, IsProgram, StopsAtToken, StopsAtEnd, Syntax}
use Rattle.cm_syntax.proofs.lexing.TokenLaw.{shorter_front, equal_fronts, Tokens-one}

-- what begins a program has fronts that do
pub BeginsProgram-front : (a b : List LocatedToken) → BeginsProgram (a ++ b) → BeginsProgram a
BeginsProgram-front a b h = (b ++ h.0, subst IsProgram (append_assoc a b h.0) h.1)

-- the tokens up to one of them are a front of a longer front
pub token_in_front : (a b c d : List LocatedToken) (t : LocatedToken) → a ++ t ∷ b ≡ c ++ d → length a < length c → (m : List LocatedToken) × (c ≡ (a ++ t ∷ []) ++ m)
token_in_front a b c d t e lt =
    let found = shorter_front (a ++ t ∷ []) b c d (append_assoc a (t ∷ []) b ∙ e) (omega (arith, length-append a (t ∷ []))) in
    (found.0, found.1)

pub stops_before : (bytes : List ℕ) (i : ℕ) (h : StopsAtToken bytes i) (c d : List LocatedToken) → h.before ++ h.token ∷ h.after ≡ c ++ d → length h.before < length c → BeginsProgram c → ⊥
stops_before bytes i h c d e lt begins =
    let found = token_in_front h.before h.after c d h.token e lt in
    h.no_further (BeginsProgram-front (h.before ++ h.token ∷ []) found.0 (subst BeginsProgram found.1 begins))

two_tokens : (bytes : List ℕ) (i j : ℕ) → StopsAtToken bytes i → StopsAtToken bytes j → i ≡ j
two_tokens bytes i j h k =
    let same : h.before ++ h.token ∷ h.after ≡ k.before ++ k.token ∷ k.after = Tokens-one h.read k.read in
    elim (cases_order (length h.before) (length k.before)) [
      | inl eq ↦
          let fronts = equal_fronts h.before (h.token ∷ h.after) k.before (k.token ∷ k.after) same (omega arith) (omega arith) in
          let tokens : h.token ≡ k.token = let tails = fronts.1 in cc in
          h.offset ∙ (ap (λ t. t.at) tokens ∙ sym k.offset)
      | inr either ↦ elim either [
        | inl lt ↦ absurd (stops_before bytes i h k.before (k.token ∷ k.after) same lt k.so_far)
        | inr gt ↦ absurd (stops_before bytes j k h.before (h.token ∷ h.after) (sym same) gt h.so_far)
      ]
    ]

token_and_end : (bytes : List ℕ) (i j : ℕ) → StopsAtToken bytes i → StopsAtEnd bytes j → ⊥
token_and_end bytes i j h k =
    let same : h.before ++ h.token ∷ h.after ≡ k.tokens = Tokens-one h.read k.read in
    h.no_further (BeginsProgram-front (h.before ++ h.token ∷ []) h.after
    (subst BeginsProgram (sym same ∙ sym (append_assoc h.before (h.token ∷ []) h.after)) k.so_far))

pub Syntax-one : (bytes : List ℕ) (i j : ℕ) → Syntax bytes i → Syntax bytes j → i ≡ j
Syntax-one bytes i j (inl h) (inl k) = two_tokens bytes i j h k
Syntax-one bytes i j (inl h) (inr k) = absurd (token_and_end bytes i j h k)
Syntax-one bytes i j (inr h) (inl k) = absurd (token_and_end bytes j i k h)
Syntax-one bytes i j (inr h) (inr k) = h.offset ∙ sym k.offset
