-- The owner's steps keep the rule, and tell what they should.
use Rattle.std.proofs.Common.{◌≡◌, ℕ, zero, suc, ◌+◌, ◌-◌, ◌%◌, ◌^◌, ◌<◌, ◌≤◌, ◌==◌, List, [], ◌∷◌, map, set, get_or, replicate, sym, refl, ap, ◌∙◌, subst, arith, true, false, true≢false, ⊎_elim, Option, Some, None, inl, inr}
use mathlib.Core.Logic.{dite}
use mathlib.Core.Option as opt
use mathlib.Core.Option.{some, none, some-injective, some-ne-none}
use native.Mathlib.Decide.{ℕ_discrete}
use lib.ListN.{get_elem?}
use lib.Seq.{map-set}
use prog.Atomic.{either}
use Rattle.atomic_table.specs.Table.{State, keeps, takes, gives, stepped, Allows}
use Rattle.atomic_table.proofs.Lists.{exchanged}
use Rattle.cm_board.specs.declared.view.Scope.{Scope}
use Rattle.cm_board.specs.declared.view.Lead.{Lead}
use Rattle.cm_board.specs.declared.view.View.{View}
use Rattle.cm_board.specs.declared.view.Role.TheVariants.{Owner, Adding, Backing, Emptying, Moving, Parked, Last}
use Rattle.cm_board.specs.declared.view.Content.{Content}
use Rattle.cm_board.specs.declared.view.Content.TheVariants.{Answer, Task}
use Rattle.cm_board.specs.Rule.{Place, free, out, filling, full, emptying, Holder, led, moving, parked, last, entry_of, seat_of, claim_of, holder_seat, Lies, TaskLies, Tallies, Knows, Ruled, view, lead, with_entry, Surplus, bare, surplus_seat, surplus_claim, SurplusLies}
use Rattle.cm_board.specs.Play.{noted, added, uncounted, tried, emptied, lifted, parked_as, taken, laid}
use Rattle.cm_board.proofs.CountLaw.{nothing, there, total_one, claim_counts}
use Rattle.cm_board.proofs.RebuildLaw.{at_place, at_holder, at_count, noting, is_mine, entries_set}
use Rattle.cm_board.proofs.PartLaw.{none_apart, map_at}
use Rattle.cm_board.proofs.StepLaw.{one_less}

one_more : (n m : ℕ) → n ≤ m + 1 → m + 2 < 18446744073709551616 → (n + 1) % 2 ^ 64 ≡ n + 1
one_more n m some_ below = omega arith

abbrev or_else : {X : Type 0} → X → Option X → X
or_else d None = d
or_else d (Some x) = x

some_same : {X : Type 0} (x y : X) → ◌≡◌ {A = Option X} (Some x) (Some y) → x ≡ y
some_same x y e = ap (or_else x) e

replicated : {X : Type 0} (n : ℕ) (x : X) (i : ℕ) (y : X) → get_elem? (replicate n x) i ≡ some y → (y ≡ x) × (i < n)
replicated zero x i y e = absurd (some-ne-none y (sym e))
replicated (suc n) x zero y e = (sym (some-injective x y e), omega arith)
replicated (suc n) x (suc i) y e = let t = replicated n x i y e in let less = t.1 in (t.0, omega arith)

zeros : (n i : ℕ) → get_or {A = ℕ} (replicate n 0) i 0 ≡ 0
zeros zero i = refl
zeros (suc n) zero = refl
zeros (suc n) (suc i) = zeros n i

all_zero : (i : ℕ) → 0 < i → get_or {A = ℕ} (1 ∷ replicate 33 0) i 0 ≡ 0
all_zero zero h = absurd (omega arith)
all_zero (suc i) h = zeros 33 i

in_row : {X : Type 0} (n : ℕ) (x : X) (i : ℕ) → i < n → get_elem? (map some (replicate n x)) i ≡ some (some x)
in_row zero x i h = absurd (omega arith)
in_row (suc n) x zero h = refl
in_row (suc n) x (suc i) h = in_row n x i (omega arith)

first_at : {X : Type 0} (v : X) (j : ℕ) → 0 ≡ j → get_elem? (v ∷ []) j ≡ some v
first_at v j e = subst (λ (z : ℕ). get_elem? (v ∷ []) z ≡ some v) e refl

module _ {H A B T : Type 0} (answers : A → B → Type 0) (belongs : H → ℕ → List (Option A) → T → Type 0) (lies_in : H → ℕ → T → Type 0) (key : Scope H) where
  abbrev St : Type 0
  St = State (Option (Content B T)) (View H A)

  abbrev Ru : St → Type 0
  Ru = Ruled answers belongs lies_in key

  abbrev Fits : (s : St) → Ru s → Holder → Type 0
  Fits s r d = TaskLies (belongs key.home key.pages (map entry_of r.places)) d (get_or s.words 17 0) (get_elem? s.homes 16)

  pub adds : (slots me at : ℕ) (a : A) (l : Lead A) (scope : Scope H) → l.is_open ≡ true → get_elem? l.asks at ≡ some None → l.spawned + 2 < 18446744073709551616
      → Allows Ru slots me (view scope (Owner l), []) 0 (λ n. (n + 1) % 2 ^ 64) (λ r m'. added at (Some a) (Some scope) [] (Owner l) r m')
  adds slots me at a l scope opened unused room s r long mine bound =
      let v : View H A = view scope (Owner l) in let n : ℕ = get_or s.words 0 0 in
      let l' : Lead A = lead l.is_open l.asks (l.spawned + 1) l.log in let w : View H A = view scope (Adding at a l') in
      let knows = r.seats me v mine in let here : r.holder ≡ led me = knows.leads (led me) refl in let tally = knows.tallies l refl in
      let most = tally.1 opened in
      let more : (n + 1) % 2 ^ 64 ≡ n + 1 = one_more n l.spawned most room in (
        w,
        keeps,
        tt,
        subst (λ (m : ℕ). Ru record { words = set s.words 0 m; homes = s.homes; views = set s.views me w }) (sym more)
            (at_count answers belongs lies_in key s r (n + 1) me v w (led me) mine (omega arith) (λ i q e. nothing (i, q) e) (λ i q e. nothing (i, q) e)
            (λ j d other. absurd (other (sym (some-injective me j (ap holder_seat (sym here) ∙ d))))) (λ j d other. absurd (other (sym (some-injective me j d)))) (λ _. refl) (λ d e. some-injective (led me) d e)
            (subst (Fits s r) here r.task) knows.in_scope
            (λ m e. subst (Tallies (map entry_of r.places) (n + 1)) (some-injective l' m e) (tally.0, (λ o. omega (arith, most)), (λ c. absurd (true≢false (sym opened ∙ c))))) refl refl (tt, unused)),
        refl,
      )

  pub uncounts : (slots me at : ℕ) (a : A) (l : Lead A) (scope : Scope H) → l.is_open ≡ true
      → Allows Ru slots me (view scope (Backing at a l), []) 0 (λ n. (n + (2 ^ 64 - 1)) % 2 ^ 64) (λ r m'. uncounted (Some scope) [] (Backing at a l) r m')
  uncounts slots me at a l scope opened s r long mine bound =
      let v : View H A = view scope (Backing at a l) in let n : ℕ = get_or s.words 0 0 in let l' : Lead A = with_entry l at None in let w : View H A = view scope (Owner l') in
      let knows = r.seats me v mine in let here : r.holder ≡ led me = knows.leads (led me) refl in let tally = knows.tallies l' refl in
      let counted = r.count in let mineness = total_one s.views me v mine in
      let most = tally.1 opened in
      let less : (n + (2 ^ 64 - 1)) % 2 ^ 64 ≡ n - 1 = one_less n (omega arith) bound in (
        w,
        keeps,
        tt,
        subst (λ (m : ℕ). Ru record { words = set s.words 0 m; homes = s.homes; views = set s.views me w }) (sym less)
            (at_count answers belongs lies_in key s r (n - 1) me v w (led me) mine (omega arith) (λ i q e. nothing (i, q) e) (λ i q e. nothing (i, q) e)
            (λ j d other. absurd (other (sym (some-injective me j (ap holder_seat (sym here) ∙ d))))) (λ j d other. absurd (other (sym (some-injective me j d)))) (λ _. refl) (λ d e. some-injective (led me) d e)
            (subst (Fits s r) here r.task) knows.in_scope
            (λ m e. subst (Tallies (map entry_of r.places) (n - 1)) (some-injective l' m e) (tally.0, (λ o. omega (arith, most)), (λ c. absurd (true≢false (sym opened ∙ c))))) refl refl tt),
        (knows.stands.1, refl),
      )

  -- a place in use that no seat has is filled
  pub is_full : (p : Place A) (a : A) → entry_of p ≡ Some a → ((j : ℕ) → seat_of p ≡ some j → ⊥) → p ≡ full a
  is_full free a e none_has = absurd (none_apart a e)
  is_full (out j x) a e none_has = absurd (none_has j refl)
  is_full (filling j x) a e none_has = absurd (none_has j refl)
  is_full (full x) a e none_has = ap full (some_same x a e)
  is_full (emptying j x) a e none_has = absurd (none_has j refl)

  -- a filled word is that of a full place
  is_full_at : (p : Place A) (a : A) (n : ℕ) (h : opt.Option (opt.Option (Option (Content B T)))) → entry_of p ≡ Some a → Lies answers p n h → n ≡ 2 → p ≡ full a
  is_full_at free a n h e lies two = absurd (none_apart a e)
  is_full_at (out j x) a n h e lies two = let z = lies.0 in absurd (omega arith)
  is_full_at (filling j x) a n h e lies two = let z = lies.0 in absurd (omega arith)
  is_full_at (full x) a n h e lies two = ap full (some_same x a e)
  is_full_at (emptying j x) a n h e lies two = let z = lies.0 in absurd (omega arith)

  -- beside an owner that is not open, no seat has a place
  all_in : (s : St) (r : Ru s) (me : ℕ) (l : Lead A) (scope : Scope H) → get_elem? s.views me ≡ some (view scope (Owner l)) → l.is_open ≡ false
      → (i : ℕ) (p : Place A) → get_elem? r.places i ≡ some p → (j : ℕ) → seat_of p ≡ some j → ⊥
  all_in s r me l scope mine shut i p at j own =
      let knows = r.seats me _ mine in let none_left = (knows.tallies l refl).2 shut in let here = knows.leads (led me) refl in
      let u = r.held i p j at own in let counted = r.count in
      ⊎_elim (λ one. let some_ = total_one s.views j u.0 u.1 in omega arith)
      (λ leads. let there' : r.holder ≡ led j = (r.seats j u.0 u.1).leads (led j) leads in let same : j ≡ me = some-injective j me (ap holder_seat (sym there' ∙ here)) in
      some-ne-none (i, p) (sym u.2 ∙ subst (λ (x : ℕ × View H A). claim_of x.0 x.1.role ≡ none) (λ z. (sym same z, sym (is_mine s.views me j _ u.0 mine same u.1) z)) refl))
      (claim_counts j u.0.role (i, p) u.2)

  pub tries : (slots me at : ℕ) (a : A) (l : Lead A) (scope : Scope H) → get_elem? l.asks at ≡ some (Some a)
      → Allows Ru slots me (view scope (Owner l), []) (at + 1) (λ n. either (n == 2) 1 n) (λ r m'. tried answers at (Some scope) [] (Owner l) r m')
  tries slots me at a l scope used s r long mine bound =
      let v : View H A = view scope (Owner l) in let n : ℕ = get_or s.words (at + 1) 0 in let l' : Lead A = noted l (at + 1) 2 in let w : View H A = view scope (Emptying at a l') in
      let knows = r.seats me v mine in let here : r.holder ≡ led me = knows.leads (led me) refl in let tally = knows.tallies l refl in
      let t = map_at entry_of r.places at (Some a) (ap (λ (es : List (Option A)). get_elem? es at) (sym tally.0) ∙ used) in
      let lies = r.slots at t.0 t.1 in
      let shut : l.is_open ≡ false → n ≡ 2 = λ closed_. (subst (λ (p : Place A). Lies answers p n (get_elem? s.homes at)) (is_full t.0 a t.2 (all_in s r me l scope mine closed_ at t.0 t.1)) lies).0 in
      dite (ℕ_discrete n 2)
      (λ two.
      let p : t.0 ≡ full a = is_full_at t.0 a n (get_elem? s.homes at) t.2 lies two in
      let filled_ = subst (λ (p : Place A). Lies answers p n (get_elem? s.homes at)) p lies in
      let at_k : get_elem? r.places at ≡ some (full a) = t.1 ∙ ap some p in (
        w,
        takes at (Some (Answer filled_.1.0)),
        filled_.1.1,
        exchanged n 2 1 (λ m. Ru (stepped s (at + 1) m me [] w (takes at (Some (Answer filled_.1.0)))))
            (λ _. at_place answers belongs lies_in key s r at 1 me v w (full a) (emptying me a) none mine at_k
            (λ j e. nothing j e) (λ j e. (sym (some-injective me j e), refl))
            (λ i q e. nothing (i, q) e)
            (λ i q e. let t = some-injective (at, emptying me a) (i, q) e in (sym (ap (λ (y : ℕ × Place A). y.0) t), sym (ap (λ (y : ℕ × Place A). y.1) t)))
            (refl, refl) refl refl (inl refl) refl
            (λ m e. subst (Tallies (map entry_of (set r.places at (emptying me a))) (get_or s.words 0 0)) (some-injective l' m e)
            (tally.0 ∙ sym (entries_set r.places at (full a) (emptying me a) at_k refl), tally.1, tally.2)) refl refl tt)
            (λ ne. absurd (ne two)),
        ((λ _. (a, filled_.1.0, used, filled_.1.2, refl)), (λ ne. absurd (ne two)), (λ _. two)),
      ))
      (λ ne. let u : View H A = view scope (Owner (noted l (at + 1) n)) in (
        u,
        keeps,
        tt,
        exchanged n 2 1 (λ m. Ru (stepped s (at + 1) m me [] u keeps))
            (λ two. absurd (ne two))
            (λ _. noting answers belongs lies_in key s r (at + 1) me v u mine refl refl refl refl knows.in_scope
            (λ m e. subst (Tallies (map entry_of r.places) (get_or s.words 0 0)) (some-injective (noted l (at + 1) n) m e) tally) refl refl tt),
        ((λ two. absurd (ne two)), (λ _. refl), (λ c. absurd (ne (shut c)))),
      ))

  pub empties : (slots me at : ℕ) (a : A) (l : Lead A) (scope : Scope H)
      → Allows Ru slots me (view scope (Emptying at a l), (at, None) ∷ []) (at + 1) (λ n. 0) (λ r m'. emptied (Some scope) ((at, None) ∷ []) (Emptying at a l) r m')
  empties slots me at a l scope s r long mine bound =
      let v : View H A = view scope (Emptying at a l) in let l' : Lead A = with_entry l at None in let w : View H A = view scope (Owner l') in
      let knows = r.seats me v mine in let leads : r.holder ≡ led me = knows.leads (led me) refl in let tally = knows.tallies l refl in
      let here : get_elem? r.places at ≡ some (emptying me a) = knows.claims at (emptying me a) refl in (
        w,
        gives,
        tt,
        at_place answers belongs lies_in key s r at 0 me v w (emptying me a) free (some None) mine here
            (λ j e. sym (some-injective me j e)) (λ j e. nothing j e)
            (λ i q e. sym (ap (λ (y : ℕ × Place A). y.0) (some-injective (at, emptying me a) (i, q) e)))
            (λ i q e. nothing (i, q) e)
            (refl, refl) refl refl (inr (ap holder_seat leads, leads)) refl
            (λ m e. subst (Tallies (map entry_of (set r.places at free)) (get_or s.words 0 0)) (some-injective l' m e)
            (sym (map-set entry_of r.places at free ∙ ap (λ (es : List (Option A)). set es at None) (sym tally.0)), tally.1, tally.2)) refl refl tt,
        refl,
      )

  pub lifts : (slots me : ℕ) (l : Lead A) (scope : Scope H)
      → Allows Ru slots me (view scope (Owner l), []) 17 (λ n. either (n == 0) 1 n) (λ r m'. lifted (Some scope) [] (Owner l) r m')
  lifts slots me l scope s r long mine bound =
      let v : View H A = view scope (Owner l) in let w : View H A = view scope (Moving l) in
      let knows = r.seats me v mine in let here : r.holder ≡ led me = knows.leads (led me) refl in let tally = knows.tallies l refl in
      let lies = subst (Fits s r) here r.task in (
        w,
        takes 16 None,
        lies.1,
        exchanged (get_or s.words 17 0) 0 1 (λ n. Ru (stepped s 17 n me [] w (takes 16 None)))
            (λ _. at_holder answers belongs lies_in key s r 1 me v w (moving me) none mine (ap holder_seat here) refl (λ i q e. nothing (i, q) e) (λ i q e. nothing (i, q) e)
            (refl, refl) refl refl (λ m e. subst (Tallies (map entry_of r.places) (get_or s.words 0 0)) (some-injective l m e) tally) (there s.homes 16 _ lies.1) refl refl tt)
            (λ ne. absurd (ne lies.0)),
        (lies.0, refl),
      )

  pub parks : (slots me : ℕ) (t : T) (l : Lead A) (scope : Scope H) → l.is_open ≡ true → belongs scope.home scope.pages l.asks t → 16 < slots
      → Allows Ru slots me (view scope (Moving l), (16, Some (Task t)) ∷ []) 17 (λ n. 2) (λ r m'. parked_as (Some scope) ((16, Some (Task t)) ∷ []) (Moving l) r m')
  parks slots me t l scope opened fits long_ s r long mine bound =
      let v : View H A = view scope (Moving l) in let w : View H A = view scope (Parked l) in
      let knows = r.seats me v mine in let here : r.holder ≡ moving me = knows.leads (moving me) refl in let tally = knows.tallies l refl in (
        w,
        gives,
        tt,
        at_holder answers belongs lies_in key s r 2 me v w (parked me) (some (Some (Task t))) mine (ap holder_seat here) refl (λ i q e. nothing (i, q) e) (λ i q e. nothing (i, q) e)
            (refl, (t, refl, subst (λ (x : Scope H × List (Option A)). belongs x.0.home x.0.pages x.1 t) (λ z. (knows.in_scope scope refl z, tally.0 z)) fits))
            refl refl (λ m e. subst (Tallies (map entry_of r.places) (get_or s.words 0 0)) (some-injective l m e) tally) (subst (λ (n : ℕ). 16 < n) (sym long) long_) refl refl (tt, opened),
        refl,
      )

  pub takes_task : (slots me : ℕ) (l : Lead A) (scope : Scope H)
      → Allows Ru slots me (view scope (Last l), []) 17 (λ n. either (n == 2) 1 n) (λ r m'. taken belongs (Some scope) [] (Last l) r m')
  takes_task slots me l scope s r long mine bound =
      let v : View H A = view scope (Last l) in let w : View H A = view scope (Moving l) in
      let knows = r.seats me v mine in let here : r.holder ≡ last me = knows.leads (last me) refl in let tally = knows.tallies l refl in
      let lies = subst (Fits s r) here r.task in let t : T = lies.1.0 in (
        w,
        takes 16 (Some (Task t)),
        lies.1.1,
        exchanged (get_or s.words 17 0) 2 1 (λ n. Ru (stepped s 17 n me [] w (takes 16 (Some (Task t)))))
            (λ _. at_holder answers belongs lies_in key s r 1 me v w (moving me) none mine (ap holder_seat here) refl (λ i q e. nothing (i, q) e) (λ i q e. nothing (i, q) e)
            (refl, refl) refl refl (λ m e. subst (Tallies (map entry_of r.places) (get_or s.words 0 0)) (some-injective l m e) tally) (there s.homes 16 _ lies.1.1) refl refl tt)
            (λ ne. absurd (ne lies.0)),
        (lies.0, (t, refl, subst (λ (x : Scope H × List (Option A)). belongs x.0.home x.0.pages x.1 t) (λ z. (sym (knows.in_scope scope refl) z, sym tally.0 z)) lies.1.2)),
      )

  pub lays : (slots me : ℕ) (l : Lead A) (scope : Scope H) → 16 < slots
      → Allows Ru slots me (view scope (Moving l), (16, None) ∷ []) 17 (λ n. 0) (λ r m'. laid (Some scope) ((16, None) ∷ []) (Moving l) r m')
  lays slots me l scope long_ s r long mine bound =
      let v : View H A = view scope (Moving l) in let w : View H A = view scope (Owner l) in
      let knows = r.seats me v mine in let here : r.holder ≡ moving me = knows.leads (moving me) refl in let tally = knows.tallies l refl in (
        w,
        gives,
        tt,
        at_holder answers belongs lies_in key s r 0 me v w (led me) (some None) mine (ap holder_seat here) refl (λ i q e. nothing (i, q) e) (λ i q e. nothing (i, q) e)
            (refl, refl) refl refl (λ m e. subst (Tallies (map entry_of r.places) (get_or s.words 0 0)) (some-injective l m e) tally) (subst (λ (n : ℕ). 16 < n) (sym long) long_) refl refl tt,
        refl,
      )

  first_knows : Knows key (replicate 16 free) (led 0) 1 0 (view {H = H} {A = A} key (Owner (lead true (replicate 16 None) 0 [])))
  first_knows = record {
    in_scope = λ sc e. sym (some_same key sc e);
    stands = tt;
    claims = λ i q e. nothing (i, q) e;
    leads = λ d e. some-injective (led 0) d e;
    tallies = λ m e. subst (Tallies (replicate 16 None) 1) (some-injective (lead true (replicate 16 None) 0 []) m e) (refl, (λ o. omega arith), (λ c. absurd (true≢false c)));
  }

  first_seat : (j : ℕ) (v : View H A) → get_elem? (view {H = H} {A = A} key (Owner (lead true (replicate 16 None) 0 [])) ∷ []) j ≡ some v → Knows key (replicate 16 free) (led 0) 1 j v
  first_seat zero v e = subst (Knows key (replicate 16 free) (led 0) 1 0) (some-injective _ v e) first_knows
  first_seat (suc j) v e = nothing v e

  first_idle : (j : ℕ) (v : View H A) → get_elem? (view {H = H} {A = A} key (Owner (lead true (replicate 16 None) 0 [])) ∷ []) j ≡ some v → (i : ℕ) (q : Surplus) → surplus_claim j v.role ≡ some (i, q) → get_elem? (replicate 16 bare) i ≡ some q
  first_idle zero v e i q f = absurd (some-ne-none (i, q) (sym f ∙ subst (λ (y : View H A). surplus_claim 0 y.role ≡ none) (some-injective _ v e) refl))
  first_idle (suc j) v e i q f = nothing v e

  -- the table at the start
  pub opens : Ru record { words = 1 ∷ replicate 33 0; homes = map some (replicate 33 None); views = view key (Owner (lead true (replicate 16 None) 0 [])) ∷ [] }
  opens = record {
    places = replicate 16 free;
    holder = led 0;
    wide = refl;
    sixteen = refl;
    count = refl;
    slots = λ i p e. let t = replicated 16 free i p e in subst (λ (x : Place A). Lies {T = T} answers x (get_or {A = ℕ} (1 ∷ replicate 33 0) (i + 1) 0) (get_elem? (map some (replicate {A = Option (Content B T)} 33 None)) i)) (sym t.0)
        (all_zero (i + 1) (omega arith), in_row 33 None i (omega (arith, t.1)));
    task = (refl, refl);
    held = λ i p j e own. let t = replicated 16 free i p e in nothing j (ap seat_of (sym t.0) ∙ own);
    lent = λ j e. let v : View H A = view key (Owner (lead true (replicate 16 None) 0 [])) in (v, first_at v j (some-injective 0 j e), ap some (ap led (sym (some-injective 0 j e))));
    seats = λ j v e. first_seat j v e;
    surpluses = replicate 16 bare;
    surplus_count = refl;
    surplus_slots = λ i p e. let t = replicated 16 bare i p e in subst (λ (x : Surplus). SurplusLies {B = B} (lies_in key.home key.pages) x (get_or {A = ℕ} (1 ∷ replicate 33 0) (i + 18) 0) (get_elem? (map some (replicate {A = Option (Content B T)} 33 None)) (i + 17))) (sym t.0)
        (all_zero (i + 18) (omega arith), in_row 33 None (i + 17) (omega (arith, t.1)));
    surplus_held = λ i p j e own. let t = replicated 16 bare i p e in nothing j (ap surplus_seat (sym t.0) ∙ own);
    handles = λ j v e i q f. first_idle j v e i q f;
  }
