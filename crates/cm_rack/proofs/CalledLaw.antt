-- The steps, at a seat of which an equation says what it knows.
use Rattle.std.proofs.Common.{◌≡◌, ℕ, ◌<◌, ◌==◌, List, [], ◌∷◌, sym, ap, ◌∙◌, subst, Option, Some, None}
use prog.Atomic.{either}
use Rattle.atomic_table.specs.Table.{State, Me, Allows, Splits, rest}
use Rattle.cm_rack.specs.declared.view.View.{View}
use Rattle.cm_rack.specs.declared.view.View.TheVariants.{Spent, Idle, Putting, Holding, Placed, Taking}
use Rattle.cm_rack.specs.Rule.{Ruled}
use Rattle.cm_rack.specs.Play.{put_tried, filled, take_tried, emptied, hand_part, ticket_part}
use Rattle.cm_rack.specs.Views.{IsIdle, log_of}
use Rattle.cm_rack.proofs.StepLaw.{tries_put, fills, tries_take, empties}
use Rattle.cm_rack.proofs.PartLaw.{parts, enters}

module _ {T G : Type 0} (tag : T → G) (slots id : ℕ) (m : Me (Option T) (View G)) where
  abbrev Ru : State (Option T) (View G) → Type 0
  Ru = Ruled tag

  abbrev M : Type 0
  M = Me (Option T) (View G)

  pub tries_put_at : (k : ℕ) → k < slots → IsIdle m → Allows Ru slots id m k (λ n. either (n == 0) 1 n) (λ r n. put_tried k m.1 m.0 r n)
  tries_put_at k small e = subst (λ (x : M). Allows Ru slots id x k (λ n. either (n == 0) 1 n) (λ r n. put_tried k x.1 x.0 r n)) (sym e) (tries_put tag slots id k (log_of m) small)

  pub fills_at : (k : ℕ) (t : T) (log : List (ℕ × ℕ)) → m ≡ (Putting k log, (k, Some t) ∷ []) → Allows Ru slots id m k (λ n. 2) (λ r n. filled tag m.1 m.0 r n)
  fills_at k t log e = subst (λ (x : M). Allows Ru slots id x k (λ n. 2) (λ r n. filled tag x.1 x.0 r n)) (sym e) (fills tag slots id k t log)

  pub tries_take_at : (k : ℕ) (g : G) → m ≡ (Placed k g, []) → Allows Ru slots id m k (λ n. either (n == 2) 1 n) (λ r n. take_tried tag m.1 m.0 r n)
  tries_take_at k g e = subst (λ (x : M). Allows Ru slots id x k (λ n. either (n == 2) 1 n) (λ r n. take_tried tag x.1 x.0 r n)) (sym e) (tries_take tag slots id k g)

  pub empties_at : (k : ℕ) → m ≡ (Taking k, (k, None) ∷ []) → Allows Ru slots id m k (λ n. 0) (λ r n. emptied m.1 m.0 r n)
  empties_at k e = subst (λ (x : M). Allows Ru slots id x k (λ n. 0) (λ r n. emptied x.1 x.0 r n)) (sym e) (empties tag slots id k)

  pub parts_at : (k : ℕ) (g : G) (log : List (ℕ × ℕ)) → m ≡ (Holding k g log, []) → Splits Ru id m.0 (hand_part m.0) (ticket_part m.0)
  parts_at k g log e = subst (λ (x : M). Splits Ru id x.0 (hand_part x.0) (ticket_part x.0)) (sym e) (parts tag id k g log)

  pub enters_at : m ≡ (Idle [], []) → Splits Ru id m.0 m.0 (Idle [])
  enters_at e = subst (λ (x : M). Splits Ru id x.0 x.0 (Idle [])) (sym e) (enters tag id [])

-- What a seat is after a step, from what it was.
module _ {T G : Type 0} where
  pub put_tried_at : (k r : ℕ) (m n : Me (Option T) (View G)) → IsIdle m → put_tried k m.1 m.0 r n → put_tried k [] (Idle (log_of m)) r n
  put_tried_at k r m n e t = subst (λ (x : Me (Option T) (View G)). put_tried k x.1 x.0 r n) e t

  pub filled_at : (tag : T → G) (k r : ℕ) (t : T) (log : List (ℕ × ℕ)) (m n : Me (Option T) (View G)) → m ≡ (Putting k log, (k, Some t) ∷ []) → filled tag m.1 m.0 r n → n ≡ (Holding k (tag t) log, [])
  filled_at tag k r t log m n e f = subst (λ (x : Me (Option T) (View G)). filled tag x.1 x.0 r n) e f

  pub take_tried_at : (tag : T → G) (k r : ℕ) (g : G) (m n : Me (Option T) (View G)) → m ≡ (Placed k g, []) → take_tried tag m.1 m.0 r n → (t : T) × (n ≡ (Taking k, (k, Some t) ∷ [])) × (tag t ≡ g)
  take_tried_at tag k r g m n e t = subst (λ (x : Me (Option T) (View G)). take_tried tag x.1 x.0 r n) e t

  pub emptied_at : (k r : ℕ) (m n : Me (Option T) (View G)) → m ≡ (Taking k, (k, None) ∷ []) → emptied m.1 m.0 r n → n ≡ (Spent, [])
  emptied_at k r m n e t = subst (λ (x : Me (Option T) (View G)). emptied x.1 x.0 r n) e t

  pub hand_parted : (k : ℕ) (g : G) (log : List (ℕ × ℕ)) (m n : Me (Option T) (View G)) → m ≡ (Holding k g log, []) → n ≡ (hand_part m.0, m.1) → n ≡ (Idle log, [])
  hand_parted k g log m n e h = h ∙ (λ z. (hand_part (e z).0, (e z).1))

  pub ticket_parted : (k : ℕ) (g : G) (log : List (ℕ × ℕ)) (m n : Me (Option T) (View G)) → m ≡ (Holding k g log, []) → n ≡ (ticket_part m.0, []) → n ≡ (Placed k g, [])
  ticket_parted k g log m n e h = h ∙ (λ z. (ticket_part (e z).0, []))

pub after_exchange : {S V : Type 0} (v : V) (k : ℕ) (x y : S) (m n : Me S V) → m ≡ (v, (k, x) ∷ []) → n ≡ (m.0, (k, y) ∷ rest m.1) → n ≡ (v, (k, y) ∷ [])
after_exchange {S = S} {V = V} v k x y m n e f = f ∙ ap (λ (z : Me S V). (z.0, (k, y) ∷ rest z.1)) e

pub slot_there : {S V : Type 0} (v : V) (k : ℕ) (x : S) (m : Me S V) → m ≡ (v, (k, x) ∷ []) → m.1 ≡ (k, x) ∷ rest m.1
slot_there {S = S} {V = V} v k x m e = ap (λ (z : Me S V). z.1) e ∙ ap (λ (z : Me S V). (k, x) ∷ rest z.1) (sym e)

head_or : {X : Type 0} → X → List X → X
head_or d [] = d
head_or d (x ∷ xs) = x

-- what an exchange found
slot_was : {S : Type 0} (k : ℕ) (x y : S) (l : List (ℕ × S)) → l ≡ (k, x) ∷ [] → l ≡ (k, y) ∷ rest l → y ≡ x
unfolding head_or
slot_was {S = S} k x y l e f = ap (λ (l : List (ℕ × S)). (head_or (k, x) l).1) (sym f ∙ e)

pub found_there : {S V : Type 0} (v : V) (k : ℕ) (x y : S) (m : Me S V) → m ≡ (v, (k, x) ∷ []) → m.1 ≡ (k, y) ∷ rest m.1 → y ≡ x
found_there {S = S} {V = V} v k x y m e f = slot_was k x y m.1 (ap (λ (z : Me S V). z.1) e) f
