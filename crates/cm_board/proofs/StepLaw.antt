-- Each step keeps the rule, and tells what it should.
use Rattle.std.proofs.Common.{◌≡◌, ℕ, ◌+◌, ◌-◌, ◌%◌, ◌^◌, ◌<◌, ◌≤◌, ◌≢◌, eqb, ◌==◌, List, [], ◌∷◌, map, set, get_or, sym, refl, ap, ◌∙◌, subst, arith, true, false, true≢false, Option, Some, None, inl, MatchBool, eq-eqb, ne_eqb}
use mathlib.Core.Logic.{dite}
use mathlib.Core.Option.{some, none, some-injective, some-ne-none}
use native.Mathlib.Decide.{ℕ_discrete}
use lib.ListN.{get_elem?}
use prog.Atomic.{either}
use Rattle.atomic_table.specs.Table.{State, Me, keeps, takes, gives, stepped, Allows}
use Rattle.atomic_table.proofs.Lists.{exchanged}
use Rattle.cm_board.specs.declared.view.Scope.{Scope}
use Rattle.cm_board.specs.declared.view.Lead.{Lead}
use Rattle.cm_board.specs.declared.view.View.{View}
use Rattle.cm_board.specs.declared.view.Role.TheVariants.{Child, Filling, Deposited, Parked, Last, Left}
use Rattle.cm_board.specs.declared.view.Content.{Content}
use Rattle.cm_board.specs.declared.view.Content.TheVariants.{Answer}
use Rattle.cm_board.specs.Rule.{Place, out, filling, full, Holder, led, moving, parked, waiting, last, entry_of, holder_seat, holder_of, one_if, weight, TaskLies, Tallies, Ruled, view, lead}
use Rattle.cm_board.specs.Play.{closed, begun, filled, arrived}
use Rattle.cm_board.proofs.CountLaw.{nothing, total_one, total_two, holder_lead}
use Rattle.cm_board.proofs.RebuildLaw.{at_place, at_count, is_mine}

match_true : (P Q : Type 0) (n k : ℕ) → n ≡ k → P → MatchBool (eqb n k) P Q
match_true P Q n k e p = subst (λ b. MatchBool b P Q) (sym (eq-eqb n k e)) p

match_false : (P Q : Type 0) (n k : ℕ) → n ≢ k → Q → MatchBool (eqb n k) P Q
match_false P Q n k e q = subst (λ b. MatchBool b P Q) (sym (ne_eqb n k e)) q

-- the count, after one is taken from it
pub one_less : (n : ℕ) → 1 ≤ n → n < 18446744073709551616 → (n + (2 ^ 64 - 1)) % 2 ^ 64 ≡ n - 1
one_less n some_ below = omega arith

module _ {H A B T : Type 0} (answers : A → B → Type 0) (belongs : H → ℕ → List (Option A) → T → Type 0) (lies_in : H → ℕ → T → Type 0) (key : Scope H) where
  abbrev St : Type 0
  St = State (Option (Content B T)) (View H A)

  abbrev Ru : St → Type 0
  Ru = Ruled answers belongs lies_in key

  abbrev M : Type 0
  M = Me (Option (Content B T)) (View H A)

  pub begins : (slots me at : ℕ) (a : A) (scope : Scope H)
      → Allows Ru slots me (view scope (Child at a), []) (at + 1) (λ n. either (n == 0) 1 n) (λ r m'. begun (Some scope) [] (Child at a) r m')
  begins slots me at a scope s r long mine bound =
      let v : View H A = view scope (Child at a) in let w : View H A = view scope (Filling at a) in
      let here : get_elem? r.places at ≡ some (out me a) = (r.seats me v mine).claims at (out me a) refl in
      let lies = r.slots at (out me a) here in (
        w,
        takes at None,
        lies.1,
        exchanged (get_or s.words (at + 1) 0) 0 1 (λ n. Ru (stepped s (at + 1) n me [] w (takes at None)))
            (λ _. at_place answers belongs lies_in key s r at 1 me v w (out me a) (filling me a) none mine here
            (λ j e. sym (some-injective me j e)) (λ j e. (sym (some-injective me j e), refl))
            (λ i q e. sym (ap (λ (y : ℕ × Place A). y.0) (some-injective (at, out me a) (i, q) e)))
            (λ i q e. let t = some-injective (at, filling me a) (i, q) e in (sym (ap (λ (y : ℕ × Place A). y.0) t), sym (ap (λ (y : ℕ × Place A). y.1) t)))
            (refl, refl) refl refl (inl refl) refl (λ l e. nothing l e) refl refl tt)
            (λ ne. absurd (ne lies.0)),
        (lies.0, refl),
      )

  pub fills : (slots me at : ℕ) (a : A) (b : B) (scope : Scope H) → answers a b
      → Allows Ru slots me (view scope (Filling at a), (at, Some (Answer b)) ∷ []) (at + 1) (λ n. 2) (λ r m'. filled (Some scope) ((at, Some (Answer b)) ∷ []) (Filling at a) r m')
  fills slots me at a b scope fits s r long mine bound =
      let v : View H A = view scope (Filling at a) in let w : View H A = view scope Deposited in
      let here : get_elem? r.places at ≡ some (filling me a) = (r.seats me v mine).claims at (filling me a) refl in (
        w,
        gives,
        tt,
        at_place answers belongs lies_in key s r at 2 me v w (filling me a) (full a) (some (Some (Answer b))) mine here
            (λ j e. sym (some-injective me j e)) (λ j e. nothing j e)
            (λ i q e. sym (ap (λ (y : ℕ × Place A). y.0) (some-injective (at, filling me a) (i, q) e)))
            (λ i q e. nothing (i, q) e)
            (refl, (b, refl, fits)) refl refl (inl refl) refl (λ l e. nothing l e) refl refl tt,
        refl,
      )

  -- who is open is counted, and who isn't knows that nobody is: so where one is counted that doesn't lead, nobody leads
  alone : (s : St) (r : Ru s) (me : ℕ) (v : View H A) → get_elem? s.views me ≡ some v → weight v.role ≡ 1 → holder_of me v.role ≡ none → get_or s.words 0 0 ≡ 1
      → (j : ℕ) → holder_seat r.holder ≡ some j → ⊥
  alone s r me v mine one none_mine found j at =
      let u = r.lent j at in let k = r.seats j u.0 u.1 in let l = holder_lead j u.0.role r.holder u.2 in let t = k.tallies l.0 l.1 in let counted = r.count in
      let other : j ≢ me = λ same. some-ne-none r.holder (sym u.2 ∙ (subst (λ (x : ℕ × View H A). holder_of x.0 x.1.role ≡ none) (λ z. (sym same z, sym (is_mine s.views me j v u.0 mine same u.1) z)) none_mine)) in
      let two = total_two s.views me j v u.0 mine u.1 other in
      elim l.0.is_open as (λ b. l.0.is_open ≡ b → ⊥) [
        | true ↦ λ o. (let more = l.2 in let o' : one_if l.0.is_open ≡ 1 = ap one_if o in omega arith)
        | false ↦ λ o. (let z = t.2 o in omega arith)
      ] refl

  waits : (s : St) (r : Ru s) (me : ℕ) (v : View H A) → get_elem? s.views me ≡ some v → weight v.role ≡ 1 → holder_of me v.role ≡ none → get_or s.words 0 0 ≡ 1
      → (d : Holder) → r.holder ≡ d → r.holder ≡ waiting
  waits s r me v mine one none_mine found waiting e = e
  waits s r me v mine one none_mine found (led j) e = absurd (alone s r me v mine one none_mine found j (ap holder_seat e))
  waits s r me v mine one none_mine found (moving j) e = absurd (alone s r me v mine one none_mine found j (ap holder_seat e))
  waits s r me v mine one none_mine found (parked j) e = absurd (alone s r me v mine one none_mine found j (ap holder_seat e))
  waits s r me v mine one none_mine found (last j) e = absurd (alone s r me v mine one none_mine found j (ap holder_seat e))

  pub arrives : (slots me : ℕ) (scope : Scope H)
      → Allows Ru slots me (view scope Deposited, []) 0 (λ n. (n + (2 ^ 64 - 1)) % 2 ^ 64) (λ r m'. arrived (Some scope) [] Deposited r m')
  arrives slots me scope s r long mine bound =
      let v : View H A = view scope Deposited in let n : ℕ = get_or s.words 0 0 in
      let counted = r.count in let mineness = total_one s.views me v mine in
      let some_ : 1 ≤ n = omega arith in
      let less : (n + (2 ^ 64 - 1)) % 2 ^ 64 ≡ n - 1 = one_less n some_ bound in
      let knows = r.seats me v mine in
      dite (ℕ_discrete n 1)
      (λ one. let l : Lead A = lead true (map entry_of r.places) 0 [] in let w : View H A = view scope (Last (closed l)) in
      let waits' : r.holder ≡ waiting = waits s r me v mine refl refl one r.holder refl in (
        w,
        keeps,
        tt,
        subst (λ (m : ℕ). Ru record { words = set s.words 0 m; homes = s.homes; views = set s.views me w }) (sym less)
            (at_count answers belongs lies_in key s r (n - 1) me v w (last me) mine (omega arith) (λ i q e. nothing (i, q) e) (λ i q e. nothing (i, q) e)
            (λ j d other. nothing j (ap holder_seat (sym waits') ∙ d)) (λ j d other. absurd (other (sym (some-injective me j d)))) (λ _. refl) (λ d e. some-injective (last me) d e)
            (subst (λ (d : Holder). TaskLies (belongs key.home key.pages (map entry_of r.places)) d (get_or s.words 17 0) (get_elem? s.homes 16)) waits' r.task)
            knows.in_scope
            (λ m e. subst (Tallies (map entry_of r.places) (n - 1)) (some-injective (closed l) m e) (refl, (λ o. absurd (true≢false (sym o))), (λ _. omega arith))) refl refl (tt, refl)),
        (some_, match_true _ _ n 1 one (map entry_of r.places, refl)),
      ))
      (λ more. let w : View H A = view scope (Left ((0, n) ∷ [])) in (
        w,
        keeps,
        tt,
        subst (λ (m : ℕ). Ru record { words = set s.words 0 m; homes = s.homes; views = set s.views me w }) (sym less)
            (at_count answers belongs lies_in key s r (n - 1) me v w r.holder mine (omega arith) (λ i q e. nothing (i, q) e) (λ i q e. nothing (i, q) e)
            (λ j d other. (refl, omega arith)) (λ j d other. refl)
            (λ d. let u = r.lent me d in nothing r.holder (subst (λ (x : View H A). holder_of me x.role ≡ some r.holder) (some-injective u.0 v (sym u.1 ∙ mine)) u.2))
            (λ d e. nothing d e) r.task knows.in_scope (λ m e. nothing m e) refl refl tt),
        (some_, match_false _ _ n 1 more refl),
      ))

  pub arrives_parked : (slots me : ℕ) (l : Lead A) (scope : Scope H)
      → Allows Ru slots me (view scope (Parked l), []) 0 (λ n. (n + (2 ^ 64 - 1)) % 2 ^ 64) (λ r m'. arrived (Some scope) [] (Parked l) r m')
  arrives_parked slots me l scope s r long mine bound =
      let v : View H A = view scope (Parked l) in let n : ℕ = get_or s.words 0 0 in
      let counted = r.count in let mineness = total_one s.views me v mine in let weighs : one_if l.is_open ≡ 1 = ap one_if (r.seats me v mine).stands.1 in
      let some_ : 1 ≤ n = omega arith in
      let less : (n + (2 ^ 64 - 1)) % 2 ^ 64 ≡ n - 1 = one_less n some_ bound in
      let knows = r.seats me v mine in let here : r.holder ≡ parked me = knows.leads (parked me) refl in let tally = knows.tallies l refl in
      let task : TaskLies (belongs key.home key.pages (map entry_of r.places)) (parked me) (get_or s.words 17 0) (get_elem? s.homes 16)
      = subst (λ (d : Holder). TaskLies (belongs key.home key.pages (map entry_of r.places)) d (get_or s.words 17 0) (get_elem? s.homes 16)) here r.task in
      dite (ℕ_discrete n 1)
      (λ one. let w : View H A = view scope (Last (closed l)) in (
        w,
        keeps,
        tt,
        subst (λ (m : ℕ). Ru record { words = set s.words 0 m; homes = s.homes; views = set s.views me w }) (sym less)
            (at_count answers belongs lies_in key s r (n - 1) me v w (last me) mine (omega arith) (λ i q e. nothing (i, q) e) (λ i q e. nothing (i, q) e)
            (λ j d other. absurd (other (sym (some-injective me j (ap holder_seat (sym here) ∙ d))))) (λ j d other. absurd (other (sym (some-injective me j d)))) (λ _. refl) (λ d e. some-injective (last me) d e)
            task
            knows.in_scope
            (λ m e. subst (Tallies (map entry_of r.places) (n - 1)) (some-injective (closed l) m e) (tally.0, (λ o. absurd (true≢false (sym o))), (λ _. omega arith))) refl refl (tt, refl)),
        (some_, match_true _ _ n 1 one refl),
      ))
      (λ more. let w : View H A = view scope (Left ((0, n) ∷ l.log)) in (
        w,
        keeps,
        tt,
        subst (λ (m : ℕ). Ru record { words = set s.words 0 m; homes = s.homes; views = set s.views me w }) (sym less)
            (at_count answers belongs lies_in key s r (n - 1) me v w waiting mine (omega arith) (λ i q e. nothing (i, q) e) (λ i q e. nothing (i, q) e)
            (λ j d other. absurd (other (sym (some-injective me j (ap holder_seat (sym here) ∙ d))))) (λ j d other. nothing j d) (λ d. nothing me d) (λ d e. nothing d e)
            task knows.in_scope (λ m e. nothing m e) refl refl tt),
        (some_, match_false _ _ n 1 more refl),
      ))
