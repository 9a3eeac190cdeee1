-- The steps, at a seat of which an equation says what it knows.
use Rattle.std.proofs.Common.{◌≡◌, ℕ, ◌+◌, ◌-◌, ◌%◌, ◌^◌, ◌<◌, ◌==◌, List, [], ◌∷◌, sym, subst, true, Option, Some, None}
use mathlib.Core.Option.{some}
use lib.ListN.{get_elem?}
use prog.Atomic.{either}
use Rattle.atomic_table.specs.Table.{State, Me, Allows, Splits, Joins}
use Rattle.cm_board.specs.declared.view.Scope.{Scope}
use Rattle.cm_board.specs.declared.view.Lead.{Lead}
use Rattle.cm_board.specs.declared.view.View.{View}
use Rattle.cm_board.specs.declared.view.Role.TheVariants.{Child, Filling, Deposited, Owner, Adding, Backing, Emptying, Moving, Parked, Last, Posting, Left, Fetching}
use Rattle.cm_board.specs.declared.view.Content.{Content}
use Rattle.cm_board.specs.declared.view.Content.TheVariants.{Answer, Task}
use Rattle.cm_board.specs.Rule.{Ruled, view, spent}
use Rattle.cm_board.specs.Play.{begun, filled, arrived, added, uncounted, tried, emptied, lifted, parked_as, taken, laid, owner_part, child_part, back, post_tried, posted, fetch_tried, fetched}
use Rattle.cm_board.proofs.ReadingLaw.{same_place, same_slot}
use Rattle.cm_board.proofs.PartLaw.{parts, joins}
use Rattle.cm_board.proofs.StepLaw.{begins, fills, arrives, arrives_parked}
use Rattle.cm_board.proofs.SurplusLaw.{tries_post, posts, tries_fetch, fetches}
use Rattle.cm_board.proofs.LeadLaw.{adds, uncounts, tries, empties, lifts, parks, takes_task, lays}

module _ {H A B T : Type 0} (answers : A → B → Type 0) (belongs : H → ℕ → List (Option A) → T → Type 0) (lies_in : H → ℕ → T → Type 0) (key : Scope H) (slots id : ℕ) (m : Me (Option (Content B T)) (View H A)) where
  abbrev Ru : State (Option (Content B T)) (View H A) → Type 0
  Ru = Ruled answers belongs lies_in key

  abbrev M : Type 0
  M = Me (Option (Content B T)) (View H A)

  pub begins_at : (at : ℕ) (a : A) → m ≡ (view key (Child at a), []) → Allows Ru slots id m (at + 1) (λ n. either (n == 0) 1 n) (λ r n. begun m.0.scope m.1 m.0.role r n)
  begins_at at a e = subst (λ (x : M). Allows Ru slots id x (at + 1) (λ n. either (n == 0) 1 n) (λ r n. begun x.0.scope x.1 x.0.role r n)) (sym e) (begins answers belongs lies_in key slots id at a key)

  pub fills_at : (at : ℕ) (a : A) (b : B) → answers a b → m ≡ (view key (Filling at a), (at, Some (Answer b)) ∷ []) → Allows Ru slots id m (at + 1) (λ n. 2) (λ r n. filled m.0.scope m.1 m.0.role r n)
  fills_at at a b fits e = subst (λ (x : M). Allows Ru slots id x (at + 1) (λ n. 2) (λ r n. filled x.0.scope x.1 x.0.role r n)) (sym e) (fills answers belongs lies_in key slots id at a b key fits)

  pub arrives_at : m ≡ (view key Deposited, []) → Allows Ru slots id m 0 (λ n. (n + (2 ^ 64 - 1)) % 2 ^ 64) (λ r n. arrived m.0.scope m.1 m.0.role r n)
  arrives_at e = subst (λ (x : M). Allows Ru slots id x 0 (λ n. (n + (2 ^ 64 - 1)) % 2 ^ 64) (λ r n. arrived x.0.scope x.1 x.0.role r n)) (sym e) (arrives answers belongs lies_in key slots id key)

  pub arrives_parked_at : (l : Lead A) → m ≡ (view key (Parked l), []) → Allows Ru slots id m 0 (λ n. (n + (2 ^ 64 - 1)) % 2 ^ 64) (λ r n. arrived m.0.scope m.1 m.0.role r n)
  arrives_parked_at l e = subst (λ (x : M). Allows Ru slots id x 0 (λ n. (n + (2 ^ 64 - 1)) % 2 ^ 64) (λ r n. arrived x.0.scope x.1 x.0.role r n)) (sym e) (arrives_parked answers belongs lies_in key slots id l key)

  pub adds_at : (at : ℕ) (ask : Option A) (a : A) (l : Lead A) → ask ≡ Some a → l.is_open ≡ true → get_elem? l.asks at ≡ some None → l.spawned + 2 < 18446744073709551616 → m ≡ (view key (Owner l), [])
      → Allows Ru slots id m 0 (λ n. (n + 1) % 2 ^ 64) (λ r n. added at ask m.0.scope m.1 m.0.role r n)
  adds_at at ask a l is opened unused room e = subst (λ (x : M × Option A). Allows Ru slots id x.0 0 (λ n. (n + 1) % 2 ^ 64) (λ r n. added at x.1 x.0.0.scope x.0.1 x.0.0.role r n)) (λ z. (sym e z, sym is z)) (adds answers belongs lies_in key slots id at a l key opened unused room)

  pub uncounts_at : (at : ℕ) (a : A) (l : Lead A) → l.is_open ≡ true → m ≡ (view key (Backing at a l), []) → Allows Ru slots id m 0 (λ n. (n + (2 ^ 64 - 1)) % 2 ^ 64) (λ r n. uncounted m.0.scope m.1 m.0.role r n)
  uncounts_at at a l opened e = subst (λ (x : M). Allows Ru slots id x 0 (λ n. (n + (2 ^ 64 - 1)) % 2 ^ 64) (λ r n. uncounted x.0.scope x.1 x.0.role r n)) (sym e) (uncounts answers belongs lies_in key slots id at a l key opened)

  pub tries_at : (at : ℕ) (a : A) (l : Lead A) → get_elem? l.asks at ≡ some (Some a) → m ≡ (view key (Owner l), [])
      → Allows Ru slots id m (at + 1) (λ n. either (n == 2) 1 n) (λ r n. tried answers ((at + 1) - 1) m.0.scope m.1 m.0.role r n)
  tries_at at a l used e = subst (λ (x : M × ℕ). Allows Ru slots id x.0 (at + 1) (λ n. either (n == 2) 1 n) (λ r n. tried answers x.1 x.0.0.scope x.0.1 x.0.0.role r n)) (λ z. (sym e z, same_place at z)) (tries answers belongs lies_in key slots id at a l key used)

  pub empties_at : (at : ℕ) (a : A) (l : Lead A) → m ≡ (view key (Emptying at a l), (at, None) ∷ []) → Allows Ru slots id m (at + 1) (λ n. 0) (λ r n. emptied m.0.scope m.1 m.0.role r n)
  empties_at at a l e = subst (λ (x : M). Allows Ru slots id x (at + 1) (λ n. 0) (λ r n. emptied x.0.scope x.1 x.0.role r n)) (sym e) (empties answers belongs lies_in key slots id at a l key)

  pub lifts_at : (l : Lead A) → m ≡ (view key (Owner l), []) → Allows Ru slots id m 17 (λ n. either (n == 0) 1 n) (λ r n. lifted m.0.scope m.1 m.0.role r n)
  lifts_at l e = subst (λ (x : M). Allows Ru slots id x 17 (λ n. either (n == 0) 1 n) (λ r n. lifted x.0.scope x.1 x.0.role r n)) (sym e) (lifts answers belongs lies_in key slots id l key)

  pub parks_at : (t : T) (l : Lead A) → l.is_open ≡ true → belongs key.home key.pages l.asks t → 16 < slots → m ≡ (view key (Moving l), (16, Some (Task t)) ∷ []) → Allows Ru slots id m 17 (λ n. 2) (λ r n. parked_as m.0.scope m.1 m.0.role r n)
  parks_at t l opened fits long e = subst (λ (x : M). Allows Ru slots id x 17 (λ n. 2) (λ r n. parked_as x.0.scope x.1 x.0.role r n)) (sym e) (parks answers belongs lies_in key slots id t l key opened fits long)

  pub takes_at : (l : Lead A) → m ≡ (view key (Last l), []) → Allows Ru slots id m 17 (λ n. either (n == 2) 1 n) (λ r n. taken belongs m.0.scope m.1 m.0.role r n)
  takes_at l e = subst (λ (x : M). Allows Ru slots id x 17 (λ n. either (n == 2) 1 n) (λ r n. taken belongs x.0.scope x.1 x.0.role r n)) (sym e) (takes_task answers belongs lies_in key slots id l key)

  pub lays_at : (l : Lead A) → 16 < slots → m ≡ (view key (Moving l), (16, None) ∷ []) → Allows Ru slots id m 17 (λ n. 0) (λ r n. laid m.0.scope m.1 m.0.role r n)
  lays_at l long e = subst (λ (x : M). Allows Ru slots id x 17 (λ n. 0) (λ r n. laid x.0.scope x.1 x.0.role r n)) (sym e) (lays answers belongs lies_in key slots id l key long)

  pub parts_at : (k : ℕ) (a : A) (l : Lead A) → m ≡ (view key (Adding k a l), []) → Splits Ru id m.0 (owner_part m.0) (child_part m.0)
  parts_at k a l e = subst (λ (x : M). Splits Ru id x.0 (owner_part x.0) (child_part x.0)) (sym e) (parts answers belongs lies_in key id k a l key)

  pub joins_at : (other k : ℕ) (w : M) (a : A) (l : Lead A) → m ≡ (view key (Owner l), []) → w ≡ (view key (Child k a), []) → Joins Ru id m.0 other w.0 (back m.0 w.0) spent
  joins_at other k w a l e f = subst (λ (x : M × M). Joins Ru id x.0.0 other x.1.0 (back x.0.0 x.1.0) spent) (λ z. (sym e z, sym f z)) (joins answers belongs lies_in key id other k a l key key)

  pub tries_post_at : (k : ℕ) (l : Lead A) → k < 16 → m ≡ (view key (Owner l), []) → Allows Ru slots id m (k + 18) (λ n. either (n == 0) 1 n) (λ r n. post_tried ((k + 18) - 18) m.0.scope m.1 m.0.role r n)
  tries_post_at k l small e = subst (λ (x : M × ℕ). Allows Ru slots id x.0 (k + 18) (λ n. either (n == 0) 1 n) (λ r n. post_tried x.1 x.0.0.scope x.0.1 x.0.0.role r n)) (λ z. (sym e z, same_slot k z)) (tries_post answers belongs lies_in key slots id k l key small)

  pub posts_at : (k : ℕ) (t : T) (l : Lead A) → lies_in key.home key.pages t → k + 17 < slots → m ≡ (view key (Posting k l), (k + 17, Some (Task t)) ∷ []) → Allows Ru slots id m (k + 18) (λ n. 2) (λ r n. posted m.0.scope m.1 m.0.role r n)
  posts_at k t l fits long e = subst (λ (x : M). Allows Ru slots id x (k + 18) (λ n. 2) (λ r n. posted x.0.scope x.1 x.0.role r n)) (sym e) (posts answers belongs lies_in key slots id k t l key fits long)

  pub tries_fetch_at : (k : ℕ) (log : List (ℕ × ℕ)) → k < 16 → m ≡ (view key (Left log), []) → Allows Ru slots id m (k + 18) (λ n. either (n == 2) 1 n) (λ r n. fetch_tried lies_in ((k + 18) - 18) m.0.scope m.1 m.0.role r n)
  tries_fetch_at k log small e = subst (λ (x : M × ℕ). Allows Ru slots id x.0 (k + 18) (λ n. either (n == 2) 1 n) (λ r n. fetch_tried lies_in x.1 x.0.0.scope x.0.1 x.0.0.role r n)) (λ z. (sym e z, same_slot k z)) (tries_fetch answers belongs lies_in key slots id k log key small)

  pub fetches_at : (k : ℕ) (log : List (ℕ × ℕ)) → k + 17 < slots → m ≡ (view key (Fetching k log), (k + 17, None) ∷ []) → Allows Ru slots id m (k + 18) (λ n. 0) (λ r n. fetched m.0.scope m.1 m.0.role r n)
  fetches_at k log long e = subst (λ (x : M). Allows Ru slots id x (k + 18) (λ n. 0) (λ r n. fetched x.0.scope x.1 x.0.role r n)) (sym e) (fetches answers belongs lies_in key slots id k log key long)
