-- Each step keeps the rule, and tells what it should.
use Rattle.std.proofs.Common.{◌≡◌, ℕ, zero, suc, ◌<◌, ◌==◌, List, [], ◌∷◌, length, get_or, sym, refl, ap, ◌∙◌, arith, Option, Some, None}
use mathlib.Core.Logic.{dite}
use mathlib.Core.Option as opt
use mathlib.Core.Option.{some, none, some-injective, some-ne-none}
use native.Mathlib.Decide.{ℕ_discrete}
use lib.ListN.{get_elem?}
use prog.Atomic.{either}
use Rattle.atomic_table.specs.Table.{State, keeps, takes, gives, stepped, Allows}
use Rattle.atomic_table.proofs.Lists.{exchanged}
use Rattle.cm_rack.specs.declared.view.View.{View}
use Rattle.cm_rack.specs.declared.view.View.TheVariants.{Spent, Idle, Putting, Holding, Placed, Taking}
use Rattle.cm_rack.specs.Rule.{Place, bare, held, full, Lies, Ruled}
use Rattle.cm_rack.specs.Play.{put_tried, filled, take_tried, emptied}
use Rattle.cm_rack.proofs.RebuildLaw.{at_place, noting, index_of, place_in}

some_place : {G : Type 0} (places : List (Place G)) (k : ℕ) → k < length places → (p : Place G) × (get_elem? places k ≡ some p)
some_place [] k h = absurd (omega arith)
some_place (p ∷ ps) zero h = (p, refl)
some_place (p ∷ ps) (suc k) h = some_place ps k (omega arith)

nothing : {X : Type 0} (x : X) {P : Type 0} → ◌≡◌ {A = opt.Option X} none (some x) → P
nothing x e = absurd (some-ne-none x (sym e))

module _ {T G : Type 0} (tag : T → G) where
  bare_at : (p : Place G) (n : ℕ) (h : opt.Option (opt.Option (Option T))) → Lies tag p n h → n ≡ 0 → p ≡ bare
  bare_at bare n h l z = refl
  bare_at (held j) n h l z = let o = l.0 in absurd (omega arith)
  bare_at (full j g) n h l z = let o = l.0 in absurd (omega arith)

  abbrev Ru : State (Option T) (View G) → Type 0
  Ru = Ruled tag

  pub tries_put : (slots me k : ℕ) (log : List (ℕ × ℕ)) → k < slots
      → Allows Ru slots me (Idle log, []) k (λ n. either (n == 0) 1 n) (λ r m'. put_tried k [] (Idle log) r m')
  tries_put slots me k log small s r long mine bound =
      let v : View G = Idle log in let w : View G = Putting k ((k, 0) ∷ log) in let n : ℕ = get_or s.words k 0 in
      let sized = r.sized in let q = some_place r.places k (omega (arith, long)) in let lies = r.slots k q.0 q.1 in
      dite (ℕ_discrete n 0)
      (λ zero_. let is : q.0 ≡ bare = bare_at q.0 n (get_elem? s.homes k) lies zero_ in
      let at_k : get_elem? r.places k ≡ some bare = q.1 ∙ ap some is in let bare_lies = r.slots k bare at_k in (
        w,
        takes k None,
        bare_lies.1,
        exchanged n 0 1 (λ m. Ru (stepped s k m me [] w (takes k None)))
            (λ _. at_place tag s r k 1 me v w bare (held me) none mine at_k
            (λ j e. nothing j e) (λ j e. (sym (some-injective me j e), refl)) (λ i p e. nothing (i, p) e)
            (λ i p e. let t = some-injective (k, held me) (i, p) e in (sym (ap index_of t), sym (ap place_in t)))
            (refl, refl))
            (λ ne. absurd (ne zero_)),
        ((λ _. refl), (λ ne. absurd (ne zero_))),
      ))
      (λ ne. let u : View G = Idle ((k, n) ∷ log) in (
        u,
        keeps,
        tt,
        exchanged n 0 1 (λ m. Ru (stepped s k m me [] u keeps)) (λ zero_. absurd (ne zero_))
            (λ _. noting tag s r k me v u mine refl refl),
        ((λ zero_. absurd (ne zero_)), (λ _. refl)),
      ))

  pub fills : (slots me k : ℕ) (t : T) (log : List (ℕ × ℕ))
      → Allows Ru slots me (Putting k log, (k, Some t) ∷ []) k (λ n. 2) (λ r m'. filled tag ((k, Some t) ∷ []) (Putting k log) r m')
  fills slots me k t log s r long mine bound =
      let v : View G = Putting k log in let w : View G = Holding k (tag t) log in
      let here : get_elem? r.places k ≡ some (held me) = r.claims me v mine k (held me) refl in (
        w,
        gives,
        tt,
        at_place tag s r k 2 me v w (held me) (full me (tag t)) (some (Some t)) mine here
            (λ j e. sym (some-injective me j e)) (λ j e. (sym (some-injective me j e), refl))
            (λ i p e. sym (ap index_of (some-injective (k, held me) (i, p) e)))
            (λ i p e. let u = some-injective (k, full me (tag t)) (i, p) e in (sym (ap index_of u), sym (ap place_in u)))
            (refl, (t, refl, refl)),
        refl,
      )

  pub tries_take : (slots me k : ℕ) (g : G)
      → Allows Ru slots me (Placed k g, []) k (λ n. either (n == 2) 1 n) (λ r m'. take_tried tag [] (Placed k g) r m')
  tries_take slots me k g s r long mine bound =
      let v : View G = Placed k g in let w : View G = Taking k in
      let here : get_elem? r.places k ≡ some (full me g) = r.claims me v mine k (full me g) refl in
      let lies = r.slots k (full me g) here in let t : T = lies.1.0 in (
        w,
        takes k (Some t),
        lies.1.1,
        exchanged (get_or s.words k 0) 2 1 (λ m. Ru (stepped s k m me [] w (takes k (Some t))))
            (λ _. at_place tag s r k 1 me v w (full me g) (held me) none mine here
            (λ j e. sym (some-injective me j e)) (λ j e. (sym (some-injective me j e), refl))
            (λ i p e. sym (ap index_of (some-injective (k, full me g) (i, p) e)))
            (λ i p e. let u = some-injective (k, held me) (i, p) e in (sym (ap index_of u), sym (ap place_in u)))
            (refl, refl))
            (λ ne. absurd (ne lies.0)),
        (t, refl, lies.1.2),
      )

  pub empties : (slots me k : ℕ)
      → Allows Ru slots me (Taking k, (k, None) ∷ []) k (λ n. 0) (λ r m'. emptied ((k, None) ∷ []) (Taking k) r m')
  empties slots me k s r long mine bound =
      let v : View G = Taking k in let w : View G = Spent in
      let here : get_elem? r.places k ≡ some (held me) = r.claims me v mine k (held me) refl in (
        w,
        gives,
        tt,
        at_place tag s r k 0 me v w (held me) bare (some None) mine here
            (λ j e. sym (some-injective me j e)) (λ j e. nothing j e) (λ i p e. sym (ap index_of (some-injective (k, held me) (i, p) e))) (λ i p e. nothing (i, p) e)
            (refl, refl),
        refl,
      )
