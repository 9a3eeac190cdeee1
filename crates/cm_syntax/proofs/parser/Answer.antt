-- The answer of the machine to a text is the answer of the definitions, so each text has one.
use Rattle.std.proofs.Common.{◌≡◌, ℕ, ◌+◌, ◌<◌, ◌≤◌, Bool, true, false, List, [], ◌∷◌, ◌++◌, length, refl, sym, ap, ◌∙◌, subst, arith, Option, None, Some, ◌⊎◌, inl, inr, append_assoc, append-nil, length-append, if◌then◌else◌}
use Rattle.std.specs.Prelude.{nat_lt}
use Rattle.std.proofs.lemmas.Bool.{cases_lt, ltb-true, ltb-false}
use Rattle.cm_syntax.specs.declared.name.Name.{Name}
use Rattle.cm_syntax.specs.declared.stmt.Function.{Function}
use Rattle.cm_syntax.specs.Limit.{max_source_bytes}
use Rattle.cm_syntax.specs.Token.{LocatedToken, Tokens}
use Rattle.cm_syntax.specs.Yield.{CountedToken, located_tokens}
use Rattle.cm_syntax.specs.Lowering.{lower_program}
use Rattle.cm_syntax.specs.Grammar.{Parses}
use Rattle.cm_syntax.specs.Refusal.{StopsAtToken, StopsAtEnd, Exceeds, IsTooMuch, IsTooNested, Size, Refusal, IsRefused, IsAnswer}
use Rattle.cm_syntax.specs.Parser.{State, goes, stops, step, finish, start, readable, Answer, IsAnswerTo, accepted, refused, end_answer, text_answer}
use Rattle.cm_syntax.proofs.lexing.TokenLaw.{Tokens-one}
use Rattle.cm_syntax.proofs.refusing.RefusalLaw.{token_in_front, stops_before, Syntax-one}
use Rattle.cm_syntax.proofs.YieldLaw.{regroup, located-append, length-located}
use Rattle.cm_syntax.proofs.OffsetLaw.{Ascend, ascend_to, tokens_ascend, offset_below, offset_order, exceeds_begins, not_later}
use Rattle.cm_syntax.proofs.parser.takes.Reached.{Reached, reached_on, reached_parts, same_front, same_counts, program_reached, begins_program, no_further, parses, is_no_program}
use Rattle.cm_syntax.proofs.parser.Run.{AllWithin, within_at, Outcome, outcome}

module _ (bytes : List ℕ) (front : List CountedToken) (behind : List LocatedToken) (read : Tokens 0 bytes (located_tokens front ++ behind)) (last : State) (reached : Reached start front last) where
  -- no limit is passed at a token in front
  none_exceeds : AllWithin [] front → (at : ℕ) (h : Exceeds bytes at) → length h.before < length front → ⊥
  none_exceeds within at h lt =
      let end = State.functions_next (lower_program h.source) in
      let found = token_in_front (located_tokens h.before) h.after (located_tokens front) behind h.token.located (Tokens-one h.read read) (omega (arith, length-located h.before, length-located front)) in
      let all = subst (λ tokens. Reached start tokens end) (h.begins ∙ sym (append_assoc h.before (h.token ∷ []) h.more)) (program_reached h.source) in
      let parts = reached_parts (h.before ++ h.token ∷ []) h.more start end all in
      let same : located_tokens front ≡ located_tokens (h.before ++ h.token ∷ []) ++ found.0 = found.1 ∙ ap (λ x. x ++ found.0) (sym (located-append h.before (h.token ∷ []))) in
      let counted = same_front (h.before ++ h.token ∷ []) front found.0 start parts.0 last parts.1 reached same in
      within_at [] h.before h.token counted.0 (subst (AllWithin []) (counted.1 ∙ append_assoc h.before (h.token ∷ []) counted.0) within) h.much

  -- syntax isn't refused at one
  none_stops : (at : ℕ) (h : StopsAtToken bytes at) → length h.before < length front → ⊥
  none_stops at h lt =
      stops_before bytes at h (located_tokens front) behind (Tokens-one h.read read) (omega (arith, length-located front)) (begins_program front last reached)

-- ---- a token that isn't wanted

module _ (bytes : List ℕ) (front : List CountedToken) (t : LocatedToken) (after : List LocatedToken) (read : Tokens 0 bytes (located_tokens front ++ t ∷ after)) (last : State)
    (reached : Reached start front last) (within : AllWithin [] front) (low : t.at < max_source_bytes) (stop : step last t.token t.at ≡ stops) where
  nothing_exceeds : (at : ℕ) → Exceeds bytes at → ⊥
  nothing_exceeds at h = elim (cases_lt (length h.before) (length front)) [
    | inl lt ↦ none_exceeds bytes front (t ∷ after) read last reached within at h lt
    | inr ge ↦ no_further front t last reached stop (not_later bytes (located_tokens front) t after (located_tokens h.before) h.token.located h.after read h.read
        (omega (arith, length-located h.before, length-located front)) (exceeds_begins bytes at h))
  ]

  here : StopsAtToken bytes t.at
  here = record {
    before = located_tokens front;
    token = t;
    after = after;
    read = read;
    offset = refl;
    so_far = begins_program front last reached;
    no_further = no_further front t last reached stop;
  }

  stopped_answer : IsAnswer bytes Refusal.syntax_ t.at
  stopped_answer = record { refused = inl here; least = least; size_first = size_first }
    where
      least : (other : Refusal) (offset : ℕ) → IsRefused bytes other offset → t.at ≤ offset
      least Refusal.syntax_ offset h = omega (arith, Syntax-one bytes t.at offset (inl here) h)
      least Refusal.size offset (inl h) = absurd (nothing_exceeds offset h)
      least Refusal.size offset (inr long) = omega (arith, low, long.0)

      size_first : Refusal.syntax_ ≡ Refusal.syntax_ → Size bytes t.at → ⊥
      size_first e (inl h) = nothing_exceeds t.at h
      size_first e (inr long) = absurd (omega (arith, low, long.0))

-- ---- a token at which too much is counted

module _ (bytes : List ℕ) (front : List CountedToken) (t : CountedToken) (after : List LocatedToken) (read : Tokens 0 bytes (located_tokens front ++ t.located ∷ after)) (last next : State)
    (reached : Reached start front last) (within : AllWithin [] front) (low : t.located.at < max_source_bytes) (goes_on : step last t.located.token t.located.at ≡ goes t.quantity next)
    (much : IsTooMuch t.quantity ⊎ IsTooNested (located_tokens front) t.located) where
  reached_too : Reached start (front ++ t ∷ []) next
  reached_too = reached_on front (t ∷ []) start last next reached (next, goes_on, refl)

  too_much : Exceeds bytes t.located.at
  too_much =
      let begins = begins_program (front ++ t ∷ []) next reached_too in
      let counted = same_counts begins.1.0 (front ++ t ∷ []) begins.0 next reached_too begins.1.1 in record {
        before = front;
        token = t;
        after = after;
        read = read;
        offset = refl;
        source = begins.1.0;
        more = counted.0;
        begins = counted.1 ∙ append_assoc front (t ∷ []) counted.0;
        much = much;
      }

  ascend : Ascend 0 (length bytes) (located_tokens front ++ t.located ∷ after)
  ascend = ascend_to 0 (0 + length bytes) (length bytes) _ (omega arith) (tokens_ascend read)

  exceeded_answer : IsAnswer bytes Refusal.size t.located.at
  exceeded_answer = record { refused = inl too_much; least = least; size_first = λ e. absurd (cc) }
    where
      least : (other : Refusal) (offset : ℕ) → IsRefused bytes other offset → t.located.at ≤ offset
      least Refusal.syntax_ offset (inl h) = elim (cases_lt (length h.before) (length (front ++ t ∷ []))) [
        | inl lt ↦ absurd (none_stops bytes (front ++ t ∷ []) after (subst (Tokens 0 bytes) (sym (regroup front (t ∷ []) after)) read) next reached_too offset h lt)
        | inr ge ↦ omega (
          arith,
          h.offset,
          offset_order 0 (length bytes) (located_tokens front) t.located after h.before h.token h.after ascend (Tokens-one read h.read)
              (omega (arith, ge, length-located front, length-append front (t ∷ []))),
        )
      ]
      least Refusal.syntax_ offset (inr h) = omega (arith, h.offset, (offset_below 0 (length bytes) (located_tokens front) t.located after ascend).1)
      least Refusal.size offset (inl h) = elim (cases_lt (length h.before) (length front)) [
        | inl lt ↦ absurd (none_exceeds bytes front (t.located ∷ after) read last reached within offset h lt)
        | inr ge ↦ omega (
          arith,
          h.offset,
          offset_order 0 (length bytes) (located_tokens front) t.located after (located_tokens h.before) h.token.located h.after ascend (Tokens-one read h.read)
              (omega (arith, ge, length-located front, length-located h.before)),
        )
      ]
      least Refusal.size offset (inr long) = omega (arith, low, long.0)

-- ---- the end of the tokens that may be read

module _ (bytes : List ℕ) (front : List CountedToken) (after : List LocatedToken) (read : Tokens 0 bytes (located_tokens front ++ after)) (last : State)
    (reached : Reached start front last) (within : AllWithin [] front) (unread : readable after ≡ []) where
  ascends : Ascend 0 (length bytes) (located_tokens front ++ after)
  ascends = ascend_to 0 (0 + length bytes) (length bytes) _ (omega arith) (tokens_ascend read)

  -- the first token behind stands where no byte may be read
  first_high : (t : LocatedToken) (more : List LocatedToken) → readable (t ∷ more) ≡ [] → max_source_bytes ≤ t.at
  first_high t more e = by_limit (nat_lt t.at max_source_bytes) refl e
    where
      by_limit : (b : Bool) → nat_lt t.at max_source_bytes ≡ b → (if b then t ∷ readable more else []) ≡ [] → max_source_bytes ≤ t.at
      by_limit true b e = absurd (cc)
      by_limit false b e = ltb-false t.at max_source_bytes b

  -- a token that isn't in front stands there as well
  later_high : (before : List LocatedToken) (t : LocatedToken) (more : List LocatedToken) → Tokens 0 bytes (before ++ t ∷ more) → length front ≤ length before → max_source_bytes ≤ t.at
  later_high before t more other le = by_after after refl
    where
      by_after : (rest : List LocatedToken) → after ≡ rest → max_source_bytes ≤ t.at
      by_after [] e =
          let same = Tokens-one read other in
          absurd (omega (arith, ap length same, ap length e, length-append (located_tokens front) after, length-append before (t ∷ more), length-located front))
      by_after (u ∷ rest) e =
          let first = first_high u rest (ap readable (sym e) ∙ unread) in
          let parts : located_tokens front ++ u ∷ rest ≡ before ++ t ∷ more = ap (λ x. located_tokens front ++ x) (sym e) ∙ Tokens-one read other in
          let order = offset_order 0 (length bytes) (located_tokens front) u rest before t more (subst (λ x. Ascend 0 (length bytes) (located_tokens front ++ x)) e ascends) parts (omega (arith, length-located front)) in
          omega (arith, first, order)

  too_long : max_source_bytes < length bytes → IsAnswer bytes Refusal.size max_source_bytes
  too_long long = record { refused = inr (refl, long); least = least; size_first = λ e. absurd (cc) }
    where
      least : (other : Refusal) (offset : ℕ) → IsRefused bytes other offset → max_source_bytes ≤ offset
      least Refusal.syntax_ offset (inl h) = elim (cases_lt (length h.before) (length front)) [
        | inl lt ↦ absurd (none_stops bytes front after read last reached offset h lt)
        | inr ge ↦ omega (arith, h.offset, later_high h.before h.token h.after h.read ge)
      ]
      least Refusal.syntax_ offset (inr h) = omega (arith, h.offset)
      least Refusal.size offset (inl h) = elim (cases_lt (length h.before) (length front)) [
        | inl lt ↦ absurd (none_exceeds bytes front after read last reached within offset h lt)
        | inr ge ↦ omega (arith, h.offset, later_high (located_tokens h.before) h.token.located h.after h.read (omega (arith, ge, length-located h.before)))
      ]
      least Refusal.size offset (inr h) = omega (arith, h.0)

  module _ (short : length bytes ≤ max_source_bytes) where
    -- each token is in front
    all_in_front : (before : List LocatedToken) (t : LocatedToken) (more : List LocatedToken) → Tokens 0 bytes (before ++ t ∷ more) → length before < length front
    all_in_front before t more other = elim (cases_lt (length before) (length front)) [
      | inl lt ↦ lt
      | inr ge ↦
          let below = offset_below 0 (length bytes) before t more (ascend_to 0 (0 + length bytes) (length bytes) _ (omega arith) (tokens_ascend other)) in
          absurd (omega (arith, below.1, short, later_high before t more other ge))
    ]

    nothing_behind : after ≡ []
    nothing_behind = by_after after refl
      where
        by_after : (rest : List LocatedToken) → after ≡ rest → rest ≡ []
        by_after [] e = refl
        by_after (u ∷ rest) e =
            let parts : Tokens 0 bytes (located_tokens front ++ u ∷ rest) = subst (λ x. Tokens 0 bytes (located_tokens front ++ x)) e read in
            absurd (omega (arith, length-located front, all_in_front (located_tokens front) u rest parts))

    all_read : Tokens 0 bytes (located_tokens front)
    all_read = subst (Tokens 0 bytes) (ap (λ x. located_tokens front ++ x) nothing_behind ∙ append-nil (located_tokens front)) read

    no_limit : (at : ℕ) → Size bytes at → ⊥
    no_limit at (inl h) = none_exceeds bytes front after read last reached within at h (omega (arith, length-located h.before, all_in_front (located_tokens h.before) h.token.located h.after h.read))
    no_limit at (inr h) = absurd (omega (arith, short, h.1))

    unfinished_answer : finish last ≡ None → IsAnswer bytes Refusal.syntax_ (length bytes)
    unfinished_answer e = record { refused = inr here; least = least; size_first = λ e s. no_limit (length bytes) s }
      where
        here : StopsAtEnd bytes (length bytes)
        here = record { tokens = located_tokens front; read = all_read; offset = refl; so_far = begins_program front last reached; unfinished = is_no_program front last reached e }

        least : (other : Refusal) (offset : ℕ) → IsRefused bytes other offset → length bytes ≤ offset
        least Refusal.syntax_ offset h = omega (arith, Syntax-one bytes (length bytes) offset (inr here) h)
        least Refusal.size offset h = absurd (no_limit offset h)

    finished_answer : (functions : List (Function Name)) → finish last ≡ Some functions → IsAnswerTo bytes (accepted functions)
    finished_answer functions e = ((located_tokens front, all_read, program, refl), none)
      where
        program : Parses (located_tokens front) functions
        program = parses front last reached functions e

        none : (refusal : Refusal) (at : ℕ) → IsRefused bytes refusal at → ⊥
        none Refusal.syntax_ at (inl h) = none_stops bytes front after read last reached at h (all_in_front h.before h.token h.after h.read)
        none Refusal.syntax_ at (inr h) = h.unfinished (program.0, program.1 ∙ Tokens-one all_read h.read)
        none Refusal.size at h = no_limit at h

  end_answered : IsAnswerTo bytes (end_answer (length bytes) (finish last))
  end_answered = by_end (finish last) refl (nat_lt max_source_bytes (length bytes)) refl
    where
      by_end : (found : Option (List (Function Name))) → finish last ≡ found → (b : Bool) → nat_lt max_source_bytes (length bytes) ≡ b → IsAnswerTo bytes (end_answer (length bytes) found)
      by_end None e true b = subst (λ x. IsAnswerTo bytes (if x then refused Refusal.size max_source_bytes else refused Refusal.syntax_ (length bytes))) (sym b) (too_long (ltb-true max_source_bytes (length bytes) b))
      by_end None e false b = subst (λ x. IsAnswerTo bytes (if x then refused Refusal.size max_source_bytes else refused Refusal.syntax_ (length bytes))) (sym b) (unfinished_answer (ltb-false max_source_bytes (length bytes) b) e)
      by_end (Some functions) e true b = subst (λ x. IsAnswerTo bytes (if x then refused Refusal.size max_source_bytes else accepted functions)) (sym b) (too_long (ltb-true max_source_bytes (length bytes) b))
      by_end (Some functions) e false b = subst (λ x. IsAnswerTo bytes (if x then refused Refusal.size max_source_bytes else accepted functions)) (sym b) (finished_answer (ltb-false max_source_bytes (length bytes) b) functions e)

-- ---- each text

answered : (bytes : List ℕ) (tokens : List LocatedToken) (answer : Answer) → Tokens 0 bytes tokens → Outcome (length bytes) start [] tokens answer → IsAnswerTo bytes answer
answered bytes tokens _ read (Outcome.stopped t after f low stop) = stopped_answer bytes f.front t after (subst (Tokens 0 bytes) f.parts read) f.last f.reached f.within low stop
answered bytes tokens _ read (Outcome.exceeded t after f low next goes_on much) =
    exceeded_answer bytes f.front t after (subst (Tokens 0 bytes) f.parts read) f.last next f.reached f.within low goes_on much
answered bytes tokens _ read (Outcome.ended after f unread) = end_answered bytes f.front after (subst (Tokens 0 bytes) f.parts read) f.last f.reached f.within unread

-- the machine's answer is the one of the definitions
pub text_answered : (bytes : List ℕ) (tokens : List LocatedToken) → Tokens 0 bytes tokens → IsAnswerTo bytes (text_answer tokens (length bytes))
text_answered bytes tokens read = answered bytes tokens (text_answer tokens (length bytes)) read (outcome (length bytes) start [] tokens)
