-- The tokens of a source without a refused offset can be written.
use Rattle.std.proofs.Common.{◌≡◌, ℕ, ◌≤◌, List, [], ◌∷◌, ◌++◌, map, refl, sym, ap, ◌∙◌, subst, arith, inl, inr, append_assoc}
use Rattle.std.specs.Prelude.{⊤}
use Rattle.std.proofs.lemmas.Bool.{cases_lt}
use Rattle.cm_syntax.specs.Token.{Token, LocatedToken, IsName, Spells, Tokens}
use Rattle.cm_syntax.specs.ParseTree.{Offset}
use Rattle.cm_syntax.specs.ParseTree as grammar
use Rattle.cm_syntax.specs.Yield.{Quantity, CountedToken, nothing, depth, operators, literal, words, program_tokens, located_tokens}
use Rattle.cm_syntax.specs.Lowering.{lower_program}
use Rattle.cm_syntax.specs.Refusal.{IsTooMuch, Refusal, IsRefused}
use Rattle.cm_syntax.specs.Limit.{max_literal, max_array_words}
use Rattle.cm_syntax.specs.Parser.{State, goes, stops, step, start}
use Rattle.cm_syntax.proofs.parser.TokenStep.{CountsNumber, number_counted, unfit_stops}
use Rattle.cm_syntax.proofs.parser.takes.Reached.{Reached, program_reached}
use Rattle.cm_syntax.proofs.printing.Laying.{Writable, AllWritable}
use Rattle.cm_syntax.proofs.YieldLaw.{located-append}

-- ---- names

-- a name token is a name
abbrev Named : Token → Type 0
Named (Token.name bytes) = IsName bytes
Named _ = ⊤

-- all of them are
abbrev AllNamed : List LocatedToken → Type 0
AllNamed [] = ⊤
AllNamed (t ∷ tokens) = Named t.token × AllNamed tokens

-- a token that stands in a text is
spelled_named : (t : Token) (text : List ℕ) → Spells t text → Named t
spelled_named (Token.keyword k) text h = tt
spelled_named (Token.sign s) text h = tt
spelled_named (Token.name bytes) text h = subst IsName h.0 h.1
spelled_named (Token.number n) text h = tt
spelled_named Token.unfit text h = tt

tokens_named : {at : ℕ} {bytes : List ℕ} {tokens : List LocatedToken} → Tokens at bytes tokens → AllNamed tokens
tokens_named Tokens.end = tt
tokens_named (Tokens.space white more) = tokens_named more
tokens_named (Tokens.comment parts h more) = tokens_named more
tokens_named (Tokens.token {token = t} {text = text} h more) = (spelled_named t text h.spelled, tokens_named more)
tokens_named (Tokens.fault h) = (tt, tt)

-- ---- no refused offset

-- a number at which not too much is counted can be written
small_written : (value : ℕ) (q : Quantity) → CountsNumber value q → (IsTooMuch q → ⊥) → value ≤ max_literal
small_written value nothing counts small = absurd counts
small_written value (depth d) counts small = absurd counts
small_written value (operators k) counts small = absurd counts
small_written value (literal size) counts small = elim (cases_lt max_literal value) [
  | inl more ↦ absurd (small (omega (arith, counts)))
  | inr le ↦ le
]
small_written value (words size) counts small = elim (cases_lt max_array_words value) [
  | inl more ↦ absurd (small (inr (omega (arith, counts))))
  | inr le ↦ omega arith
]

never_stops : (q : Quantity) (next : State) → stops ≡ goes q next → ⊥
never_stops q next e = cc

-- a token that the machine takes can be written
token_written : (s next : State) (t : Token) (at : Offset) (q : Quantity) → step s t at ≡ goes q next → Named t → (IsTooMuch q → ⊥) → Writable t
token_written s next (Token.keyword k) at q steps named small = tt
token_written s next (Token.sign found) at q steps named small = tt
token_written s next (Token.name bytes) at q steps named small = named
token_written s next (Token.number value) at q steps named small = small_written value q (number_counted s value at q next steps) small
token_written s next Token.unfit at q steps named small = absurd (never_stops q next (sym (unfit_stops s at) ∙ steps))

-- no offset is refused
abbrev Sound : List ℕ → Type 0
Sound bytes = (refusal : Refusal) (at : ℕ) → IsRefused bytes refusal at → ⊥

module _ (bytes : List ℕ) (source : grammar.Program) (read : Tokens 0 bytes (located_tokens (program_tokens source))) (sound : Sound bytes) where
  -- at no token is too much counted
  not_much_there : (before : List CountedToken) (t : CountedToken) (more : List CountedToken) → program_tokens source ≡ before ++ t ∷ more → IsTooMuch t.quantity → ⊥
  not_much_there before t more begins much =
      sound Refusal.size t.located.at (inl (record {
        before = before;
        token = t;
        after = located_tokens more;
        read = subst (Tokens 0 bytes) (ap located_tokens begins ∙ located-append before (t ∷ more)) read;
        offset = refl;
        source = source;
        more = more;
        begins = begins;
        much = inl much;
      }))

  -- the tokens from here on can be written
  all_written : (s last : State) (before more : List CountedToken) → program_tokens source ≡ before ++ more → Reached s more last → AllNamed (located_tokens more) →
      AllWritable (map (λ p. p.token) (located_tokens more))
  all_written s last before [] begins reached named = tt
  all_written s last before (t ∷ more) begins reached named = (
    token_written s reached.0 t.located.token t.located.at t.quantity reached.1 named.0 (not_much_there before t more begins),
    all_written reached.0 last (before ++ t ∷ []) more (begins ∙ sym (append_assoc before (t ∷ []) more)) reached.2 named.1,
  )

-- the tokens of a source without a refused offset can be written
pub sound_written : (bytes : List ℕ) (source : grammar.Program) → Tokens 0 bytes (located_tokens (program_tokens source)) →
    ((refusal : Refusal) (at : ℕ) → IsRefused bytes refusal at → ⊥) → AllWritable (map (λ p. p.token) (located_tokens (program_tokens source)))
sound_written bytes source read sound =
    all_written bytes source read sound start (State.functions_next (lower_program source)) [] (program_tokens source) refl (program_reached source) (tokens_named read)
