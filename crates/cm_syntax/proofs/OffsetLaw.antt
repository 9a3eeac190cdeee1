-- The offsets of the tokens of a text ascend, and what passes a limit begins a program.
use Rattle.std.proofs.Common.{◌≡◌, ◌≢◌, ℕ, suc, ◌+◌, ◌<◌, ◌≤◌, List, [], ◌∷◌, ◌++◌, length, refl, sym, ap, ◌∙◌, subst, arith, append_assoc, length-append}
use Rattle.cm_syntax.specs.Token.{LocatedToken, Tokens}
use Rattle.cm_syntax.specs.Yield.{located_tokens}
use Rattle.cm_syntax.specs.Refusal.{BeginsProgram, Exceeds}
use Rattle.cm_syntax.proofs.lexing.TokenLaw.{shorter_front, Tokens-one, token_some}
use Rattle.cm_syntax.proofs.refusing.RefusalLaw.{BeginsProgram-front}
use Rattle.cm_syntax.proofs.YieldLaw.{located-append}

-- ---- offsets ascend

-- the offsets are at least `low`, ascend, and are below `high`
abbrev pub Ascend : (low high : ℕ) → List LocatedToken → Type 0
Ascend low high [] = low ≤ high
Ascend low high (t ∷ tokens) = (low ≤ t.at) × (t.at < high) × Ascend (t.at + 1) high tokens

ascend_from : (low less high : ℕ) (tokens : List LocatedToken) → less ≤ low → Ascend low high tokens → Ascend less high tokens
ascend_from low less high [] le h = omega (arith, h)
ascend_from low less high (t ∷ tokens) le h = (omega (arith, h.0), h.1, h.2)

pub ascend_to : (low high more : ℕ) (tokens : List LocatedToken) → high ≡ more → Ascend low high tokens → Ascend low more tokens
ascend_to low high more tokens e h = subst (λ k. Ascend low k tokens) e h

pub tokens_ascend : {at : ℕ} {bytes : List ℕ} {tokens : List LocatedToken} → Tokens at bytes tokens → Ascend at (at + length bytes) tokens
tokens_ascend Tokens.end = omega arith
tokens_ascend {at} {tokens = tokens} (Tokens.space {byte = byte} {bytes = bytes} white more) =
    ascend_from (at + 1) at (at + suc (length bytes)) tokens (omega arith) (ascend_to (at + 1) (at + 1 + length bytes) (at + suc (length bytes)) tokens (omega arith) (tokens_ascend more))
tokens_ascend {at} {bytes} {tokens} (Tokens.comment {text = text} {rest = rest} parts h more) =
    ascend_from (at + length text) at (at + length bytes) tokens (omega arith)
    (ascend_to (at + length text) (at + length text + length rest) (at + length bytes) tokens (omega (arith, ap length parts, length-append text rest)) (tokens_ascend more))
tokens_ascend {at} {bytes} (Tokens.token {token = t} {text = text} {rest = rest} {tokens = tokens} h more) =
    let some = token_some t text h.spelled in
    let long : length bytes ≡ length text + length rest = ap length h.parts ∙ length-append text rest in (
      omega arith,
      omega arith,
      ascend_from (at + length text) (at + 1) (at + length bytes) tokens (omega arith)
          (ascend_to (at + length text) (at + length text + length rest) (at + length bytes) tokens (omega arith) (tokens_ascend more)),
    )
tokens_ascend {at} {bytes} (Tokens.fault f) = some bytes f.some
  where
    some : (bytes : List ℕ) → bytes ≢ [] → (at ≤ at) × (at < at + length bytes) × (at + 1 ≤ at + length bytes)
    some [] no_bytes = absurd (no_bytes refl)
    some (b ∷ bytes) no_bytes = (omega arith, omega arith, omega arith)

-- a token's offset is below the end, and not above that of a later one
pub offset_below : (low high : ℕ) (before : List LocatedToken) (t : LocatedToken) (after : List LocatedToken) → Ascend low high (before ++ t ∷ after) → (low ≤ t.at) × (t.at < high)
offset_below low high [] t after h = (h.0, h.1)
offset_below low high (u ∷ before) t after h = let found = offset_below (u.at + 1) high before t after h.2 in (omega (arith, h.0, found.0), found.1)

pub offset_order : (low high : ℕ) (before : List LocatedToken) (t : LocatedToken) (after later : List LocatedToken) (u : LocatedToken) (rest : List LocatedToken) →
    Ascend low high (before ++ t ∷ after) → before ++ t ∷ after ≡ later ++ u ∷ rest → length before ≤ length later → t.at ≤ u.at
offset_order low high [] t after [] u rest h e le = let same : t ≡ u = cc in omega (arith, ap (λ p. p.at) same)
offset_order low high [] t after (v ∷ later) u rest h e le =
    let tails : after ≡ later ++ u ∷ rest = cc in
    let found = offset_below (t.at + 1) high later u rest (subst (Ascend (t.at + 1) high) tails h.2) in omega (arith, found.0)
offset_order low high (v ∷ before) t after [] u rest h e le = absurd (omega arith)
offset_order low high (v ∷ before) t after (x ∷ later) u rest h e le =
    let tails : before ++ t ∷ after ≡ later ++ u ∷ rest = cc in
    offset_order (v.at + 1) high before t after later u rest h.2 tails (omega arith)

-- ---- what passes a limit begins a program

pub exceeds_begins : (bytes : List ℕ) (at : ℕ) (h : Exceeds bytes at) → BeginsProgram (located_tokens h.before ++ h.token.located ∷ [])
exceeds_begins bytes at h = (
  located_tokens h.more,
  (
    h.source,
    ap located_tokens h.begins ∙ (located-append h.before (h.token ∷ h.more) ∙ sym (append_assoc (located_tokens h.before) (h.token.located ∷ []) (located_tokens h.more))),
  ),
)

-- the tokens up to one that is not later begin a program as well
pub not_later : (bytes : List ℕ) (a : List LocatedToken) (t : LocatedToken) (b c : List LocatedToken) (u : LocatedToken) (d : List LocatedToken) → Tokens 0 bytes (a ++ t ∷ b) → Tokens 0 bytes (c ++ u ∷ d) →
    length a ≤ length c → BeginsProgram (c ++ u ∷ []) → BeginsProgram (a ++ t ∷ [])
not_later bytes a t b c u d read other le begins =
    let same : (a ++ t ∷ []) ++ b ≡ (c ++ u ∷ []) ++ d = append_assoc a (t ∷ []) b ∙ (Tokens-one read other ∙ sym (append_assoc c (u ∷ []) d)) in
    let found = shorter_front (a ++ t ∷ []) b (c ++ u ∷ []) d same (omega (arith, length-append a (t ∷ []), length-append c (u ∷ []))) in
    BeginsProgram-front (a ++ t ∷ []) found.0 (subst BeginsProgram found.1 begins)
