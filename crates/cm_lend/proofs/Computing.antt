-- What is answered of a program, by computing: for rows.
use Rattle.std.proofs.Common.{◌≡◌, ℕ, ◌<◌, ◌≤◌, ◌==◌, ◌++◌, Bool, true, false, not, ◌&&◌, if◌then◌else◌, List, [], ◌∷◌, inl, inr, refl, sym, subst, ap, arith, Option, None, Some, Contains, nat_lt, map, length}
use Rattle.std.proofs.lemmas.List.Elements.{Contains-append_left, Contains-append_right, Contains-append_cases, Contains-push, Contains-push_cases}
use Rattle.std.proofs.lemmas.Bool.{ltb-true, ltb-false, eqb-true, eqb-false, true≢false}
use Rattle.std.specs.Prelude.{◌⊎◌, ◌↔◌}
use Rattle.cm_syntax.specs.declared.expr.Mark.{Mark}
use Rattle.cm_syntax.specs.declared.stmt.Function.{Function}
use Rattle.cm_syntax.specs.Fault.{faults, program_of}
use Rattle.cm_syntax.specs.Walk.{Event, mentions, calls, spawns, ends, Order, nothing, event, next, choice, turns}
use Rattle.cm_syntax.specs.Evaluation.{function_order}
use Rattle.cm_syntax.specs.Lending.{variables}
use Rattle.cm_syntax.proofs.parser.SourceText.{OfTree, answer_to, has_tree}
use Rattle.cm_lend.specs.Breach.{distance, Rather, IsBest, Picks, Breaks, IsAgain, IsOnceMore, BreaksAmong}
use Rattle.cm_lend.specs.Summary.{loan, mention, Meets, MeetsAt, IsBetter, Sums}
use Rattle.cm_lend.specs.Answer.{IsAnswer}
use Rattle.cm_lend.specs.Row.{HasAnswer}
use Rattle.cm_lend.specs.declared.breach.Breach.{Breach}
use Rattle.cm_lend.specs.declared.breach.Breach.TheVariants.{Lent, Same}
use Rattle.cm_lend.specs.declared.meeting.Loan.{Loan}
use Rattle.cm_lend.specs.declared.meeting.Mention.{Mention}
use Rattle.cm_lend.specs.declared.summary.Summary.{Summary}
use Rattle.cm_lend.proofs.BreachLaw.{rather_same, at_least_same, best_map, best_pick, better_both, better_map, none_there}
use Rattle.cm_lend.proofs.AgainLaw.{none_again, once_more, once_other, nothing_again, first_again}
use Rattle.cm_lend.proofs.SummaryLaw.{each_none, each_more, each_other, all_none, all_more, sums_choice, sums_next, sums_turns, sums_calls, sums_spawn}
use Rattle.cm_lend.proofs.AnswerLaw.{none_breaks, answer}

-- ---- the better of two

abbrev rather : Breach → Breach → Bool
rather (Lent at spawn) (Lent offset other) =
    if nat_lt at offset then true else (if nat_lt offset at then false else not (nat_lt (distance offset other) (distance at spawn)))
rather (Lent at spawn) (Same offset) = not (nat_lt offset at)
rather (Same at) (Lent offset other) = nat_lt at offset
rather (Same at) (Same offset) = not (nat_lt offset at)

lent_true : (a o x y : ℕ) → (if nat_lt a o then true else (if nat_lt o a then false else not (nat_lt y x))) ≡ true → (a < o) ⊎ ((a ≡ o) × (x ≤ y))
lent_true a o x y h = by (nat_lt a o) refl (nat_lt o a) refl (nat_lt y x) refl h
  where
    by : (p : Bool) → nat_lt a o ≡ p → (q : Bool) → nat_lt o a ≡ q → (r : Bool) → nat_lt y x ≡ r →
        (if p then true else (if q then false else not r)) ≡ true → (a < o) ⊎ ((a ≡ o) × (x ≤ y))
    by true e q f r g h = inl (ltb-true a o e)
    by false e true f r g h = absurd (true≢false (sym h))
    by false e false f true g h = absurd (true≢false (sym h))
    by false e false f false g h = inr (omega (arith, ltb-false a o e, ltb-false o a f), ltb-false y x g)

lent_false : (a o x y : ℕ) → (if nat_lt a o then true else (if nat_lt o a then false else not (nat_lt y x))) ≡ false → (o < a) ⊎ ((o ≡ a) × (y ≤ x))
lent_false a o x y h = by (nat_lt a o) refl (nat_lt o a) refl (nat_lt y x) refl h
  where
    by : (p : Bool) → nat_lt a o ≡ p → (q : Bool) → nat_lt o a ≡ q → (r : Bool) → nat_lt y x ≡ r →
        (if p then true else (if q then false else not r)) ≡ false → (o < a) ⊎ ((o ≡ a) × (y ≤ x))
    by true e q f r g h = absurd (true≢false h)
    by false e true f r g h = inl (ltb-true o a f)
    by false e false f true g h = inr (omega (arith, ltb-false a o e, ltb-false o a f), omega (arith, ltb-true y x g))
    by false e false f false g h = absurd (true≢false h)

not_less : (a o : ℕ) → not (nat_lt o a) ≡ true → a ≤ o
not_less a o h = by (nat_lt o a) refl h
  where
    by : (p : Bool) → nat_lt o a ≡ p → not p ≡ true → a ≤ o
    by true e h = absurd (true≢false (sym h))
    by false e h = ltb-false o a e

less : (a o : ℕ) → not (nat_lt o a) ≡ false → o < a
less a o h = by (nat_lt o a) refl h
  where
    by : (p : Bool) → nat_lt o a ≡ p → not p ≡ false → o < a
    by true e h = ltb-true o a e
    by false e h = absurd (true≢false h)

rather_true : (b d : Breach) → rather b d ≡ true → Rather b d
rather_true (Lent at spawn) (Lent offset other) h = lent_true at offset (distance at spawn) (distance offset other) h
rather_true (Lent at spawn) (Same offset) h = not_less at offset h
rather_true (Same at) (Lent offset other) h = ltb-true at offset h
rather_true (Same at) (Same offset) h = not_less at offset h

rather_false : (b d : Breach) → rather b d ≡ false → Rather d b
rather_false (Lent at spawn) (Lent offset other) h = lent_false at offset (distance at spawn) (distance offset other) h
rather_false (Lent at spawn) (Same offset) h = less at offset h
rather_false (Same at) (Lent offset other) h = ltb-false at offset h
rather_false (Same at) (Same offset) h = let lt = less at offset h in omega (arith, lt)

abbrev better_of : Option Breach → Option Breach → Option Breach
better_of None y = y
better_of (Some b) None = Some b
better_of (Some b) (Some d) = if rather b d then Some b else Some d

picks : (x y : Option Breach) → Picks x y (better_of x y)
picks None y = record { one_of = inr refl; first = tt; second = at_least_same y }
picks (Some b) None = record { one_of = inl refl; first = rather_same b; second = tt }
picks (Some b) (Some d) = by (rather b d) refl
  where
    by : (p : Bool) → rather b d ≡ p → Picks (Some b) (Some d) (if p then Some b else Some d)
    by true e = record { one_of = inl refl; first = rather_same b; second = rather_true b d e }
    by false e = record { one_of = inr refl; first = rather_false b d e; second = rather_same d }

-- ---- what a call passes again

abbrev once_of : (variable : ℕ) → List (Mark ℕ) → Option Breach
once_of variable [] = None
once_of variable (x ∷ more) = better_of (if x.name == variable then Some (Same x.at) else None) (once_of variable more)

is_once : (variable : ℕ) (more : List (Mark ℕ)) → IsBest (IsOnceMore variable more) (once_of variable more)
is_once variable [] = none_again variable
is_once variable (x ∷ more) =
    best_map (λ b. IsOnceMore variable (x ∷ []) b ⊎ IsOnceMore variable more b) (IsOnceMore variable (x ∷ more)) _ there back
    (best_pick (IsOnceMore variable (x ∷ [])) (IsOnceMore variable more) _ _ _ (one (x.name == variable) refl) (is_once variable more) (picks _ _))
  where
    one : (p : Bool) → (x.name == variable) ≡ p → IsBest (IsOnceMore variable (x ∷ [])) (if p then Some (Same x.at) else None)
    one true e = once_more variable [] x None (Some (Same x.at)) (none_again variable) (eqb-true x.name variable e) (picks None (Some (Same x.at)))
    one false e = once_other variable [] x None (none_again variable) (eqb-false x.name variable e)

    there : (b : Breach) → (IsOnceMore variable (x ∷ []) b ⊎ IsOnceMore variable more b) → IsOnceMore variable (x ∷ more) b
    there (Lent at spawn) (inl i) = i
    there (Lent at spawn) (inr i) = i
    there (Same at) (inl i) = Contains-append_left (x ∷ []) more (record { name = variable; at = at }) i
    there (Same at) (inr i) = Contains-append_right (x ∷ []) more (record { name = variable; at = at }) i

    back : (b : Breach) → IsOnceMore variable (x ∷ more) b → (IsOnceMore variable (x ∷ []) b ⊎ IsOnceMore variable more b)
    back (Lent at spawn) i = inl i
    back (Same at) i = Contains-append_cases (x ∷ []) more (record { name = variable; at = at }) i

abbrev again_of : List (Mark ℕ) → Option Breach
again_of [] = None
again_of (x ∷ more) = better_of (once_of x.name more) (again_of more)

is_again : (passed : List (Mark ℕ)) → IsBest (IsAgain passed) (again_of passed)
is_again [] = nothing_again
is_again (x ∷ more) = first_again x more _ _ _ (is_once x.name more) (is_again more) (picks _ _)

-- ---- where loans meet mentions

abbrev each_of : Option Breach → List Loan → Mention → Option Breach
each_of before [] m = before
each_of before (l ∷ loans) m = each_of (if l.variable == m.variable then better_of before (Some (Lent m.at l.spawn)) else before) loans m

is_each : (before : Option Breach) (loans : List Loan) (m : Mention) → IsBetter (MeetsAt loans m) before (each_of before loans m)
is_each before [] m = each_none m before
is_each before (l ∷ loans) m =
    better_map (λ b. MeetsAt (l ∷ []) m b ⊎ MeetsAt loans m b) (MeetsAt (l ∷ loans) m) before _ there back
    (better_both (MeetsAt (l ∷ []) m) (MeetsAt loans m) before _ _ (one (l.variable == m.variable) refl)
    (is_each (if l.variable == m.variable then better_of before (Some (Lent m.at l.spawn)) else before) loans m))
  where
    one : (p : Bool) → (l.variable == m.variable) ≡ p → IsBetter (MeetsAt (l ∷ []) m) before (if p then better_of before (Some (Lent m.at l.spawn)) else before)
    one true e = each_more [] l m before before _ (each_none m before) (eqb-true l.variable m.variable e) (picks before (Some (Lent m.at l.spawn)))
    one false e = each_other [] l m before before (each_none m before) (eqb-false l.variable m.variable e)

    there : (b : Breach) → (MeetsAt (l ∷ []) m b ⊎ MeetsAt loans m b) → MeetsAt (l ∷ loans) m b
    there (Lent at spawn) (inl i) = (i.0, Contains-append_left (l ∷ []) loans (loan spawn m.variable) i.1)
    there (Lent at spawn) (inr i) = (i.0, Contains-append_right (l ∷ []) loans (loan spawn m.variable) i.1)
    there (Same at) (inl i) = i
    there (Same at) (inr i) = i

    back : (b : Breach) → MeetsAt (l ∷ loans) m b → (MeetsAt (l ∷ []) m b ⊎ MeetsAt loans m b)
    back (Lent at spawn) i = elim (Contains-append_cases (l ∷ []) loans (loan spawn m.variable) i.1) [ inl j ↦ inl (i.0, j) | inr j ↦ inr (i.0, j) ]
    back (Same at) i = absurd i

abbrev all_of : Option Breach → List Loan → List Mention → Option Breach
all_of before loans [] = before
all_of before loans (m ∷ entering) = all_of (each_of before loans m) loans entering

is_all : (before : Option Breach) (loans : List Loan) (entering : List Mention) → IsBetter (Meets loans entering) before (all_of before loans entering)
is_all before loans [] = all_none loans before
is_all before loans (m ∷ entering) =
    better_map (λ b. Meets loans (m ∷ []) b ⊎ Meets loans entering b) (Meets loans (m ∷ entering)) before _ there back
    (better_both (Meets loans (m ∷ [])) (Meets loans entering) before _ _
    (all_more loans [] m before before _ (all_none loans before) (is_each before loans m)) (is_all (each_of before loans m) loans entering))
  where
    there : (b : Breach) → (Meets loans (m ∷ []) b ⊎ Meets loans entering b) → Meets loans (m ∷ entering) b
    there (Lent at spawn) (inl i) = (i.0, i.1, Contains-append_left (m ∷ []) entering (mention i.0 at) i.2)
    there (Lent at spawn) (inr i) = (i.0, i.1, Contains-append_right (m ∷ []) entering (mention i.0 at) i.2)
    there (Same at) (inl i) = i
    there (Same at) (inr i) = i

    back : (b : Breach) → Meets loans (m ∷ entering) b → (Meets loans (m ∷ []) b ⊎ Meets loans entering b)
    back (Lent at spawn) i =
        elim (Contains-append_cases (m ∷ []) entering (mention i.0 at) i.2) [ inl j ↦ inl (i.0, i.1, j) | inr j ↦ inr (i.0, i.1, j) ]
    back (Same at) i = absurd i

-- ---- pieces of text

abbrev event_sum : Event → Summary
event_sum (mentions variable at) = record { passes = true; leaving = []; entering = mention variable at ∷ []; found = None }
event_sum (calls passed) = record { passes = true; leaving = []; entering = []; found = again_of passed }
event_sum (spawns at lent) = record { passes = true; leaving = map (loan at) (variables lent); entering = []; found = again_of lent }
event_sum ends = record { passes = false; leaving = []; entering = []; found = None }

abbrev next_sum : Summary → Summary → Summary
next_sum s t = record {
  passes = s.passes && t.passes;
  leaving = if t.passes then s.leaving ++ t.leaving else t.leaving;
  entering = if s.passes then s.entering ++ t.entering else s.entering;
  found = all_of (better_of s.found t.found) s.leaving t.entering;
}

abbrev choice_sum : Summary → Summary → Summary
choice_sum s t = record {
  passes = if s.passes then true else t.passes;
  leaving = s.leaving ++ t.leaving;
  entering = s.entering ++ t.entering;
  found = better_of s.found t.found;
}

abbrev turns_sum : Summary → Summary
turns_sum s = record { passes = true; leaving = s.leaving; entering = s.entering; found = all_of s.found s.leaving s.entering }

abbrev sum_of : Order → Summary
sum_of nothing = record { passes = true; leaving = []; entering = []; found = None }
sum_of (event e) = event_sum e
sum_of (next first second) = next_sum (sum_of first) (sum_of second)
sum_of (choice one other) = choice_sum (sum_of one) (sum_of other)
sum_of (turns turn) = turns_sum (sum_of turn)

both_true : (p q : Bool) → ((p && q) ≡ true) ↔ ((p ≡ true) × (q ≡ true))
both_true true q = (λ e. (refl, e), λ e. e.1)
both_true false q = (λ e. absurd (true≢false (sym e)), λ e. e.0)

either_true : (p q : Bool) → ((if p then true else q) ≡ true) ↔ ((p ≡ true) ⊎ (q ≡ true))
either_true true q = (λ e. inl refl, λ e. refl)
either_true false q = (λ e. inr e, λ e. elim e [ inl i ↦ absurd (true≢false (sym i)) | inr i ↦ i ])

sums_nothing : Sums nothing (sum_of nothing)
sums_nothing = record {
  passes = (λ e. tt, λ h. refl);
  leaving = λ spawn variable. (λ h. absurd (none_there _ h), λ h. absurd h);
  entering = λ variable at. (λ h. absurd (none_there _ h), λ h. absurd h);
  found = none;
}
  where
    none : (b : Breach) → Breaks nothing b → ⊥
    none (Lent at spawn) h = h.1
    none (Same at) h = h

sums_event : (e : Event) → Sums (event e) (event_sum e)
sums_event (mentions variable at) = record {
  passes = (λ e. tt, λ h. refl);
  leaving = λ spawn lent. (λ h. absurd (none_there _ h), λ h. absurd h);
  entering = λ other offset. (
    λ h. elim (Contains-push_cases [] (mention variable at) (mention other offset) h)
        [ inl j ↦ absurd (none_there _ j) | inr e ↦ (ap (λ x. x.variable) e, ap (λ x. x.at) e) ],
    λ h. subst (λ v. Contains (mention variable at ∷ []) (mention v offset)) h.0
        (subst (λ a. Contains (mention variable at ∷ []) (mention variable a)) h.1 (Contains-push [] (mention variable at))),
  );
  found = none;
}
  where
    none : (b : Breach) → Breaks (event (mentions variable at)) b → ⊥
    none (Lent at spawn) h = h.1
    none (Same at) h = h
sums_event (calls passed) = sums_calls passed _ (is_again passed)
sums_event (spawns at lent) = sums_spawn at lent _ (is_again lent)
sums_event ends = record {
  passes = (λ e. true≢false (sym e), λ h. absurd h);
  leaving = λ spawn variable. (λ h. absurd (none_there _ h), λ h. absurd h);
  entering = λ variable at. (λ h. absurd (none_there _ h), λ h. absurd h);
  found = none;
}
  where
    none : (b : Breach) → Breaks (event ends) b → ⊥
    none (Lent at spawn) h = h.1
    none (Same at) h = h

is_sum : (o : Order) → Sums o (sum_of o)
is_sum nothing = sums_nothing
is_sum (event e) = sums_event e
is_sum (next first second) =
    sums_next first second (sum_of first) (sum_of second) _ _ _ (is_sum first) (is_sum second) (both_true _ _) (picks _ _) (is_all _ _ _)
is_sum (choice one other) =
    sums_choice one other (sum_of one) (sum_of other) _ _ (is_sum one) (is_sum other) (either_true _ _) (picks _ _)
is_sum (turns turn) = sums_turns turn (sum_of turn) _ (is_sum turn) (is_all _ _ _)

-- ---- programs

abbrev among_of : List (Function ℕ) → Option Breach
among_of [] = None
among_of (f ∷ more) = better_of (sum_of (function_order f)).found (among_of more)

is_among : (functions : List (Function ℕ)) → IsBest (BreaksAmong functions) (among_of functions)
is_among [] = none_breaks
is_among (f ∷ more) =
    best_map (λ b. Breaks (function_order f) b ⊎ BreaksAmong more b) (BreaksAmong (f ∷ more)) _ there back
    (best_pick (Breaks (function_order f)) (BreaksAmong more) _ _ _ (is_sum (function_order f)).found (is_among more) (picks _ _))
  where
    only : (g : Function ℕ) → Contains (f ∷ []) g → f ≡ g
    only g j = elim (Contains-push_cases [] f g j) [ inl k ↦ absurd (none_there _ k) | inr e ↦ e ]

    there : (b : Breach) → (Breaks (function_order f) b ⊎ BreaksAmong more b) → BreaksAmong (f ∷ more) b
    there b i = elim i [
      | inl j ↦ (f, Contains-append_left (f ∷ []) more f (Contains-push [] f), j)
      | inr j ↦ (j.0, Contains-append_right (f ∷ []) more j.0 j.1, j.2)
    ]

    back : (b : Breach) → BreaksAmong (f ∷ more) b → (Breaks (function_order f) b ⊎ BreaksAmong more b)
    back b i = elim (Contains-append_cases (f ∷ []) more i.0 i.1)
        [ inl j ↦ inl (subst (λ g. Breaks (function_order g) b) (sym (only i.0 j)) i.2) | inr j ↦ inr (i.0, j, i.2) ]

-- the answer to a source text
pub has_answer : {bytes : List ℕ} (found : Option Breach) →
    OfTree (λ tree. (faults tree ≡ []) × (among_of (program_of tree).functions ≡ found)) (length bytes) (answer_to bytes) → HasAnswer bytes found
has_answer {bytes} found h =
    let read = has_tree {P = λ tree. (faults tree ≡ []) × (among_of (program_of tree).functions ≡ found)} h in
    (read.0, read.1, read.2.0, subst (IsAnswer (program_of read.0)) read.2.1 (answer (program_of read.0) _ (is_among (program_of read.0).functions)))
