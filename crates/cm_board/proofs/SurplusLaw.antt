-- Posts and fetches keep the rule.
use Rattle.std.proofs.Common.{◌≡◌, ℕ, ◌+◌, ◌<◌, ◌==◌, List, [], ◌∷◌, map, get_or, sym, refl, ap, ◌∙◌, subst, arith, Option, Some, None}
use mathlib.Core.Logic.{dite}
use mathlib.Core.Option as opt
use mathlib.Core.Option.{some, none, some-injective, some-ne-none}
use native.Mathlib.Decide.{ℕ_discrete}
use lib.ListN.{get_elem?}
use prog.Atomic.{either}
use Rattle.atomic_table.specs.Table.{State, keeps, takes, gives, stepped, Allows}
use Rattle.atomic_table.proofs.Lists.{exchanged}
use Rattle.cm_board.specs.declared.view.Scope.{Scope}
use Rattle.cm_board.specs.declared.view.Lead.{Lead}
use Rattle.cm_board.specs.declared.view.View.{View}
use Rattle.cm_board.specs.declared.view.Role.TheVariants.{Owner, Posting, Left, Fetching}
use Rattle.cm_board.specs.declared.view.Content.{Content}
use Rattle.cm_board.specs.declared.view.Content.TheVariants.{Task}
use Rattle.cm_board.specs.Rule.{Ruled, Tallies, entry_of, view, Surplus, bare, handled, stored, SurplusLies}
use Rattle.cm_board.specs.Play.{in_role, noted, post_tried, posted, fetch_tried, fetched}
use Rattle.cm_board.proofs.CountLaw.{nothing, there, some_at}
use Rattle.cm_board.proofs.RebuildLaw.{at_surplus, noting}
use Rattle.cm_board.proofs.PartLaw.{none_apart}

module _ {B T : Type 0} where
  bare_at : (F : T → Type 0) (q : Surplus) (n : ℕ) (h : opt.Option (opt.Option (Option (Content B T)))) → SurplusLies F q n h → n ≡ 0 → q ≡ bare
  bare_at F bare n h l z = refl
  bare_at F (handled j) n h l z = let o = l.0 in absurd (omega arith)
  bare_at F stored n h l z = let o = l.0 in absurd (omega arith)

  stored_at : (F : T → Type 0) (q : Surplus) (n : ℕ) (h : opt.Option (opt.Option (Option (Content B T)))) → SurplusLies F q n h → n ≡ 2 → q ≡ stored
  stored_at F bare n h l z = let o = l.0 in absurd (omega arith)
  stored_at F (handled j) n h l z = let o = l.0 in absurd (omega arith)
  stored_at F stored n h l z = refl

module _ {H A B T : Type 0} (answers : A → B → Type 0) (belongs : H → ℕ → List (Option A) → T → Type 0) (lies_in : H → ℕ → T → Type 0) (key : Scope H) where
  abbrev St : Type 0
  St = State (Option (Content B T)) (View H A)

  abbrev Ru : St → Type 0
  Ru = Ruled answers belongs lies_in key

  abbrev surplus_of : ℕ × Surplus → Surplus
  surplus_of t = t.1

  abbrev index_of : ℕ × Surplus → ℕ
  index_of t = t.0

  pub tries_post : (slots me k : ℕ) (l : Lead A) (scope : Scope H) → k < 16
      → Allows Ru slots me (view scope (Owner l), []) (k + 18) (λ n. either (n == 0) 1 n) (λ r m'. post_tried k (Some scope) [] (Owner l) r m')
  tries_post slots me k l scope small s r long mine bound =
      let v : View H A = view scope (Owner l) in let l' : Lead A = noted l (k + 18) 0 in let w : View H A = view scope (Posting k l') in let knows = r.seats me v mine in let tally = knows.tallies l refl in let n : ℕ = get_or s.words (k + 18) 0 in
      let many = r.surplus_count in let q = some_at r.surpluses k (omega arith) in let lies = r.surplus_slots k q.0 q.1 in
      dite (ℕ_discrete n 0)
      (λ zero_. let is : q.0 ≡ bare = bare_at (lies_in key.home key.pages) q.0 n (get_elem? s.homes (k + 17)) lies zero_ in
      let at_k : get_elem? r.surpluses k ≡ some bare = q.1 ∙ ap some is in let bare_lies = r.surplus_slots k bare at_k in (
        w,
        takes (k + 17) None,
        bare_lies.1,
        exchanged n 0 1 (λ m. Ru (stepped s (k + 18) m me [] w (takes (k + 17) None)))
            (λ _. at_surplus answers belongs lies_in key s r k 1 me v w bare (handled me) none mine at_k
            (λ j e. nothing j e) (λ j e. (sym (some-injective me j e), refl)) (λ i p e. nothing (i, p) e)
            (λ i p e. let t = some-injective (k, handled me) (i, p) e in (sym (ap index_of t), sym (ap surplus_of t)))
            (refl, refl) refl refl (λ m e. subst (Tallies (map entry_of r.places) (get_or s.words 0 0)) (some-injective l' m e) tally) refl refl knows.in_scope (there s.homes (k + 17) _ bare_lies.1) tt)
            (λ ne. absurd (ne zero_)),
        ((λ _. refl), (λ ne. absurd (ne zero_))),
      ))
      (λ ne. let u : View H A = view scope (Owner (noted l (k + 18) n)) in (
        u,
        keeps,
        tt,
        exchanged n 0 1 (λ m. Ru (stepped s (k + 18) m me [] u keeps)) (λ zero_. absurd (ne zero_))
            (λ _. noting answers belongs lies_in key s r (k + 18) me v u mine refl refl refl refl knows.in_scope
            (λ m e. subst (Tallies (map entry_of r.places) (get_or s.words 0 0)) (some-injective (noted l (k + 18) n) m e) tally) refl refl tt),
        ((λ zero_. absurd (ne zero_)), (λ _. refl)),
      ))

  pub posts : (slots me k : ℕ) (t : T) (l : Lead A) (scope : Scope H) → lies_in scope.home scope.pages t → k + 17 < slots
      → Allows Ru slots me (view scope (Posting k l), (k + 17, Some (Task t)) ∷ []) (k + 18) (λ n. 2) (λ r m'. posted (Some scope) ((k + 17, Some (Task t)) ∷ []) (Posting k l) r m')
  posts slots me k t l scope fits long_ s r long mine bound =
      let v : View H A = view scope (Posting k l) in let w : View H A = view scope (Owner l) in
      let knows = r.seats me v mine in let here : get_elem? r.surpluses k ≡ some (handled me) = r.handles me v mine k (handled me) refl in (
        w,
        gives,
        tt,
        at_surplus answers belongs lies_in key s r k 2 me v w (handled me) stored (some (Some (Task t))) mine here
            (λ j e. sym (some-injective me j e)) (λ j e. nothing j e) (λ i p e. sym (ap index_of (some-injective (k, handled me) (i, p) e))) (λ i p e. nothing (i, p) e)
            (refl, (t, refl, subst (λ (x : Scope H). lies_in x.home x.pages t) (knows.in_scope scope refl) fits)) refl refl
            (λ m e. subst (Tallies (map entry_of r.places) (get_or s.words 0 0)) (some-injective l m e) (knows.tallies l refl)) refl refl knows.in_scope
            (subst (λ (n : ℕ). k + 17 < n) (sym long) long_) tt,
        refl,
      )

  pub tries_fetch : (slots me k : ℕ) (log : List (ℕ × ℕ)) (scope : Scope H) → k < 16
      → Allows Ru slots me (view scope (Left log), []) (k + 18) (λ n. either (n == 2) 1 n) (λ r m'. fetch_tried lies_in k (Some scope) [] (Left log) r m')
  tries_fetch slots me k log scope small s r long mine bound =
      let v : View H A = view scope (Left log) in let w : View H A = view scope (Fetching k ((k + 18, 2) ∷ log)) in let n : ℕ = get_or s.words (k + 18) 0 in
      let many = r.surplus_count in let q = some_at r.surpluses k (omega arith) in let lies = r.surplus_slots k q.0 q.1 in
      let knows = r.seats me v mine in
      dite (ℕ_discrete n 2)
      (λ two. let is : q.0 ≡ stored = stored_at (lies_in key.home key.pages) q.0 n (get_elem? s.homes (k + 17)) lies two in
      let at_k : get_elem? r.surpluses k ≡ some stored = q.1 ∙ ap some is in let full_lies = r.surplus_slots k stored at_k in let t : T = full_lies.1.0 in (
        w,
        takes (k + 17) (Some (Task t)),
        full_lies.1.1,
        exchanged n 2 1 (λ m. Ru (stepped s (k + 18) m me [] w (takes (k + 17) (Some (Task t)))))
            (λ _. at_surplus answers belongs lies_in key s r k 1 me v w stored (handled me) none mine at_k
            (λ j e. nothing j e) (λ j e. (sym (some-injective me j e), refl)) (λ i p e. nothing (i, p) e)
            (λ i p e. let t = some-injective (k, handled me) (i, p) e in (sym (ap index_of t), sym (ap surplus_of t)))
            (refl, refl) refl refl (λ m e. nothing m e) refl refl knows.in_scope (there s.homes (k + 17) _ full_lies.1.1) tt)
            (λ ne. absurd (ne two)),
        ((λ _. (t, refl, subst (λ (x : Scope H). lies_in x.home x.pages t) (sym (knows.in_scope scope refl)) full_lies.1.2)), (λ ne. absurd (ne two))),
      ))
      (λ ne. let u : View H A = view scope (Left ((k + 18, n) ∷ log)) in (
        u,
        keeps,
        tt,
        exchanged n 2 1 (λ m. Ru (stepped s (k + 18) m me [] u keeps)) (λ two. absurd (ne two))
            (λ _. noting answers belongs lies_in key s r (k + 18) me v u mine refl refl refl refl knows.in_scope (λ m e. nothing m e) refl refl tt),
        ((λ two. absurd (ne two)), (λ _. refl)),
      ))

  pub fetches : (slots me k : ℕ) (log : List (ℕ × ℕ)) (scope : Scope H) → k + 17 < slots
      → Allows Ru slots me (view scope (Fetching k log), (k + 17, None) ∷ []) (k + 18) (λ n. 0) (λ r m'. fetched (Some scope) ((k + 17, None) ∷ []) (Fetching k log) r m')
  fetches slots me k log scope long_ s r long mine bound =
      let v : View H A = view scope (Fetching k log) in let w : View H A = in_role None (Left log) in
      let here : get_elem? r.surpluses k ≡ some (handled me) = r.handles me v mine k (handled me) refl in (
        w,
        gives,
        tt,
        at_surplus answers belongs lies_in key s r k 0 me v w (handled me) bare (some None) mine here
            (λ j e. sym (some-injective me j e)) (λ j e. nothing j e) (λ i p e. sym (ap index_of (some-injective (k, handled me) (i, p) e))) (λ i p e. nothing (i, p) e)
            (refl, refl) refl refl (λ m e. nothing m e) refl refl (λ sc e. absurd (none_apart sc e)) (subst (λ (n : ℕ). k + 17 < n) (sym long) long_) tt,
        refl,
      )
