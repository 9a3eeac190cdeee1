-- Tokens that the machine takes are the first ones of a program, with the counts of each program that they begin; where
-- it stops at a token none begins with this token as well; and where the tokens may end they are a program.
use Rattle.std.proofs.Common.{◌≡◌, List, [], ◌∷◌, ◌++◌, refl, sym, ap, ◌∙◌, subst, Option, None, Some, append_assoc, append-nil}
use Rattle.cm_syntax.specs.declared.name.Name.{Name}
use Rattle.cm_syntax.specs.declared.stmt.Function.{Function}
use Rattle.cm_syntax.specs.Token.{LocatedToken}
use Rattle.cm_syntax.specs.ParseTree as grammar
use Rattle.cm_syntax.specs.Yield.{Quantity, CountedToken, program_tokens, located_tokens}
use Rattle.cm_syntax.specs.Lowering.{lower_program}
use Rattle.cm_syntax.specs.Grammar.{Parses}
use Rattle.cm_syntax.specs.Refusal.{IsProgram, BeginsProgram}
use Rattle.cm_syntax.specs.Parser.{State, Next, goes, stops, step, finish, start}
use Rattle.cm_syntax.proofs.parser.trace.Trace.{took, over, next_trace, trace, taken}
use Rattle.cm_syntax.proofs.parser.trace.OneTree.{program_traced, some_program}
use Rattle.cm_syntax.proofs.parser.takes.Written.{program_same}
use Rattle.cm_syntax.proofs.parser.takes.Wanted.{Functions, Continues, can_go_on}
use Rattle.cm_syntax.proofs.parser.takes.ExpressionTakes.{Enters}
use Rattle.cm_syntax.proofs.parser.takes.Takes.{takes, Ends, finishes}

-- the machine comes from the first state to the last by these tokens, with what is counted at them
abbrev pub Reached : State → List CountedToken → State → Type 0
Reached s [] last = s ≡ last
Reached s (t ∷ tokens) last = (next : State) × (step s t.located.token t.located.at ≡ goes t.quantity next) × Reached next tokens last

pub reached_on : (a b : List CountedToken) (s next last : State) → Reached s a next → Reached next b last → Reached s (a ++ b) last
reached_on [] b s next last r more = subst (λ x. Reached x b last) (sym r) more
reached_on (t ∷ a) b s next last r more = (r.0, r.1, reached_on a b r.0 next last r.2 more)

-- the state between tokens that are taken
pub reached_parts : (a b : List CountedToken) (s last : State) → Reached s (a ++ b) last → (middle : State) × Reached s a middle × Reached middle b last
reached_parts [] b s last h = (s, refl, h)
reached_parts (t ∷ a) b s last h = let more = reached_parts a b h.0 last h.2 in (more.0, (h.0, h.1, more.1), more.2)

same_quantity : (q p : Quantity) (s r : State) → goes q s ≡ goes p r → q ≡ p
same_quantity q p s r e = cc

same_state : (q p : Quantity) (s r : State) → goes q s ≡ goes p r → s ≡ r
same_state q p s r e = cc

never_stops : (q : Quantity) (s : State) → stops ≡ goes q s → ⊥
never_stops q s e = cc

-- one token is taken in one way
same_step : (s : State) (u t : CountedToken) (a r : State) → u.located ≡ t.located → step s u.located.token u.located.at ≡ goes u.quantity a → step s t.located.token t.located.at ≡ goes t.quantity r →
    (u ≡ t) × (a ≡ r)
same_step s u t a r same e j =
    let steps : goes u.quantity a ≡ goes t.quantity r = sym e ∙ (ap (λ x. step s x.token x.at) same ∙ j) in
    let counts = same_quantity u.quantity t.quantity a r steps in
    (λ i. record { located = same i; quantity = counts i }, same_state u.quantity t.quantity a r steps)

joined_fronts : {u t : CountedToken} {all both : List CountedToken} → u ≡ t → all ≡ both → u ∷ all ≡ t ∷ both
joined_fronts e j = λ i. e i ∷ j i

-- tokens that begin with some that are taken begin with their counts
pub same_front : (before all : List CountedToken) (more : List LocatedToken) (s last final : State) → Reached s before last → Reached s all final →
    located_tokens all ≡ located_tokens before ++ more → (rest : List CountedToken) × (all ≡ before ++ rest) × (located_tokens rest ≡ more) × Reached last rest final
same_front [] all more s last final r a e = (all, refl, e, subst (λ x. Reached x all final) r a)
same_front (t ∷ before) [] more s last final r a e = absurd (cc)
same_front (t ∷ before) (u ∷ all) more s last final r a e =
    let heads : u.located ≡ t.located = cc in
    let tails : located_tokens all ≡ located_tokens before ++ more = cc in
    let same = same_step s u t a.0 r.0 heads a.1 r.1 in
    let found = same_front before all more r.0 last final r.2 (subst (λ x. Reached x all final) same.1 a.2) tails in
    (found.0, joined_fronts {both = before ++ found.0} same.0 found.1, found.2, found.3)

-- ---- each program

reached_traced : (tokens : List CountedToken) (s last : State) → trace s (located_tokens tokens) ≡ taken tokens (over last) → Reached s tokens last
reached_traced [] s last e = cc
reached_traced (t ∷ tokens) s last e = by_next (step s t.located.token t.located.at) refl (λ next more. reached_traced tokens next last more) e
  where
    by_next : (n : Next) → step s t.located.token t.located.at ≡ n → ((next : State) → trace next (located_tokens tokens) ≡ taken tokens (over last) → Reached next tokens last) →
        next_trace n t.located.at (λ next. trace next (located_tokens tokens)) ≡ took t.quantity (taken tokens (over last)) →
        Reached s (t ∷ tokens) last
    by_next stops steps behind e = absurd (cc)
    by_next (goes quantity next) steps behind e =
        let count : quantity ≡ t.quantity = cc in
        let more : trace next (located_tokens tokens) ≡ taken tokens (over last) = cc in
        (next, steps ∙ ap (λ q. goes q next) count, behind next more)

pub program_reached : (p : grammar.Program) → Reached start (program_tokens p) (State.functions_next (lower_program p))
program_reached p = reached_traced (program_tokens p) start (State.functions_next (lower_program p)) (program_traced p)

-- where a program begins with tokens that are taken, it has their counts
pub same_counts : (p : grammar.Program) (before : List CountedToken) (more : List LocatedToken) (last : State) → Reached start before last → located_tokens (program_tokens p) ≡ located_tokens before ++ more →
    (rest : List CountedToken) × (program_tokens p ≡ before ++ rest) × (located_tokens rest ≡ more) × Reached last rest (State.functions_next (lower_program p))
same_counts p before more last r e = same_front before (program_tokens p) more start last (State.functions_next (lower_program p)) r (program_reached p) e

-- two programs whose tokens begin alike have the same counts there
pub one_count : (a b : grammar.Program) (before others more rest : List CountedToken) → program_tokens a ≡ before ++ more → program_tokens b ≡ others ++ rest →
    located_tokens before ≡ located_tokens others → before ≡ others
one_count a b before others more rest e j same =
    let one = reached_parts before more start (State.functions_next (lower_program a)) (subst (λ tokens. Reached start tokens (State.functions_next (lower_program a))) e (program_reached a)) in
    let other = reached_parts others rest start (State.functions_next (lower_program b)) (subst (λ tokens. Reached start tokens (State.functions_next (lower_program b))) j (program_reached b)) in
    let found = same_front others before [] start other.0 one.0 other.1 one.1 (same ∙ sym (append-nil (located_tokens others))) in
    found.1 ∙ nothing_more found.0 found.2
  where
    nothing_more : (more : List CountedToken) → located_tokens more ≡ [] → others ++ more ≡ others
    nothing_more [] e = append-nil others
    nothing_more (t ∷ more) e = absurd (cc)

-- no program begins with tokens that are taken and one at which the machine stops
pub no_further : (before : List CountedToken) (t : LocatedToken) (last : State) → Reached start before last → step last t.token t.at ≡ stops → BeginsProgram (located_tokens before ++ t ∷ []) → ⊥
no_further before t last r stop (more, (p, e)) =
    let found = same_counts p before (t ∷ more) last r (e ∙ append_assoc (located_tokens before) (t ∷ []) more) in
    by_rest found.0 found.2 found.3
  where
    by_rest : (rest : List CountedToken) → located_tokens rest ≡ t ∷ more → Reached last rest (State.functions_next (lower_program p)) → ⊥
    by_rest [] e r = absurd (cc)
    by_rest (u ∷ rest) e r =
        let heads : u.located ≡ t = cc in
        never_stops u.quantity r.0 (sym stop ∙ (ap (λ x. step last x.token x.at) (sym heads) ∙ r.1))

-- ---- some program

-- what may follow behind tokens that are taken, may follow them
follows : (tokens : List CountedToken) (s last : State) (w : List LocatedToken) → Reached s tokens last → Continues last w → Continues s (located_tokens tokens ++ w)
follows [] s last w r h = subst (λ x. Continues x w) (sym r) h
follows (t ∷ tokens) s last w r h =
    takes s t.located.token t.located.at (located_tokens tokens ++ w) (subst (λ n. Enters n (located_tokens tokens ++ w)) (sym r.1) (follows tokens r.0 last w r.2 h))

-- what may follow at the start is a program
program_follows : (w : List LocatedToken) → Continues start w → IsProgram w
program_follows w (Functions.none, can, same) = absurd can
program_follows w (Functions.some p, can, same) = (p, sym (same ∙ (program_same p [] ∙ append-nil (located_tokens (program_tokens p)))))

-- tokens that are taken begin a program
pub begins_program : (before : List CountedToken) (last : State) → Reached start before last → BeginsProgram (located_tokens before)
begins_program before last r = let more = can_go_on last in (more.0, program_follows (located_tokens before ++ more.0) (follows before start last more.0 r more.1))

-- ---- the end

may_end : (found : Option (List (Function Name))) (functions : List (Function Name)) → found ≡ Some functions → Ends found
may_end found functions e = subst Ends (sym e) tt

module _ (before : List CountedToken) (last : State) (r : Reached start before last) where
  -- behind the tokens of a program stands its state
  at_end : (p : grammar.Program) → located_tokens (program_tokens p) ≡ located_tokens before → finish last ≡ Some (lower_program p)
  at_end p e =
      let found = same_counts p before [] last r (e ∙ sym (append-nil (located_tokens before))) in
      by_rest found.0 found.2 found.3
    where
      by_rest : (rest : List CountedToken) → located_tokens rest ≡ [] → Reached last rest (State.functions_next (lower_program p)) → finish last ≡ Some (lower_program p)
      by_rest [] e r = ap finish r ∙ some_program p
      by_rest (u ∷ rest) e r = absurd (cc)

  -- where the text may end, the tokens are a program of what was read
  pub parses : (functions : List (Function Name)) → finish last ≡ Some functions → Parses (located_tokens before) functions
  parses functions e = by_program (program_follows (located_tokens before ++ []) (follows before start last [] r (finishes last (may_end (finish last) functions e))))
    where
      by_program : IsProgram (located_tokens before ++ []) → Parses (located_tokens before) functions
      by_program (p, tokens) =
          let same : located_tokens (program_tokens p) ≡ located_tokens before = tokens ∙ append-nil (located_tokens before) in
          let found : Some (lower_program p) ≡ Some functions = sym (at_end p same) ∙ e in
          let trees : lower_program p ≡ functions = cc in (p, same, trees)

  -- where it may not, they are none
  pub is_no_program : finish last ≡ None → IsProgram (located_tokens before) → ⊥
  is_no_program e (p, same) = let none : None ≡ Some (lower_program p) = sym e ∙ at_end p same in absurd (cc)
