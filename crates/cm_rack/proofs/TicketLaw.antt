-- No two seats name one place, and what is there.
use Rattle.std.proofs.Common.{◌≡◌, ℕ, zero, suc, ◌<◌, List, [], ◌∷◌, sym, refl, ap, ◌∙◌, subst, arith, length, Option, Some, None}
use mathlib.Core.Option as opt
use mathlib.Core.Option.{some, none, some-injective, some-ne-none}
use lib.ListN.{get_elem?}
use Rattle.atomic_table.specs.Table.{State, Me}
use Rattle.cm_rack.specs.declared.view.View.{View}
use Rattle.cm_rack.specs.declared.view.View.TheVariants.{Spent, Idle, Putting, Holding, Placed, Taking}
use Rattle.cm_rack.specs.Rule.{Place, bare, held, full, seat_of, claim_of, name_of, hold_of, Ruled, OneTicket, IsThere, IsNamed, OneHolder, IsHeld, Lies}
use Rattle.cm_rack.specs.Views.{place_of, IsIdle, log_of}
use Rattle.cm_rack.proofs.RebuildLaw.{there}

abbrev IsEmptied : {X : Type 0} → Option X → Type 0
IsEmptied None = Unit {0}
IsEmptied (Some x) = ⊥

none_apart : {X : Type 0} (x : X) {P : Type 0} → ◌≡◌ {A = Option X} None (Some x) → P
none_apart x e = absurd (subst IsEmptied e tt)

abbrev or_zero : Option ℕ → ℕ
or_zero None = 0
or_zero (Some n) = n

some_place : {G : Type 0} (places : List (Place G)) (k : ℕ) → k < length places → (p : Place G) × (get_elem? places k ≡ some p)
some_place [] k h = absurd (omega arith)
some_place (p ∷ ps) zero h = (p, refl)
some_place (p ∷ ps) (suc k) h = some_place ps k (omega arith)

module _ {G : Type 0} where
  name_claim : (j : ℕ) (v : View G) (k : ℕ) (g : G) → name_of v ≡ some (k, g) → claim_of j v ≡ some (k, full j g)
  name_claim j (Holding at h log) k g e = ap (λ (t : ℕ × G). some (t.0, full j t.1)) (some-injective (at, h) (k, g) e)
  name_claim j (Placed at h) k g e = ap (λ (t : ℕ × G). some (t.0, full j t.1)) (some-injective (at, h) (k, g) e)
  name_claim j (Putting at log) k g e = absurd (some-ne-none _ (sym e))
  name_claim j (Taking at) k g e = absurd (some-ne-none _ (sym e))
  name_claim j Spent k g e = absurd (some-ne-none _ (sym e))
  name_claim j (Idle log) k g e = absurd (some-ne-none _ (sym e))

  hold_claim : (j : ℕ) (v : View G) (k : ℕ) → hold_of v ≡ some k → claim_of j v ≡ some (k, held j)
  hold_claim j (Putting at log) k e = ap (λ (n : ℕ). some (n, held j)) (some-injective at k e)
  hold_claim j (Taking at) k e = ap (λ (n : ℕ). some (n, held j)) (some-injective at k e)
  hold_claim j (Holding at h log) k e = absurd (some-ne-none _ (sym e))
  hold_claim j (Placed at h) k e = absurd (some-ne-none _ (sym e))
  hold_claim j Spent k e = absurd (some-ne-none _ (sym e))
  hold_claim j (Idle log) k e = absurd (some-ne-none _ (sym e))

  abbrev name_at : ℕ → Place G → opt.Option (ℕ × G)
  name_at k (full j g) = some (k, g)
  name_at k _ = none

  abbrev name_in : ℕ × Place G → opt.Option (ℕ × G)
  name_in t = name_at t.0 t.1

  claim_name : (j : ℕ) (v : View G) (k i : ℕ) (g : G) → claim_of j v ≡ some (k, full i g) → name_of v ≡ some (k, g)
  claim_name j (Holding at h log) k i g e = ap name_in (some-injective (at, full j h) (k, full i g) e)
  claim_name j (Placed at h) k i g e = ap name_in (some-injective (at, full j h) (k, full i g) e)
  claim_name j (Putting at log) k i g e = ap name_in (some-injective (at, held j) (k, full i g) e)
  claim_name j (Taking at) k i g e = ap name_in (some-injective (at, held j) (k, full i g) e)
  claim_name j Spent k i g e = absurd (some-ne-none _ (sym e))
  claim_name j (Idle log) k i g e = absurd (some-ne-none _ (sym e))

  abbrev hold_in : ℕ × Place G → opt.Option ℕ
  hold_in (k, held j) = some k
  hold_in (k, bare) = none
  hold_in (k, full j g) = none

  claim_hold : (j : ℕ) (v : View G) (k i : ℕ) → claim_of j v ≡ some (k, held i) → hold_of v ≡ some k
  claim_hold j (Putting at log) k i e = ap hold_in (some-injective (at, held j) (k, held i) e)
  claim_hold j (Taking at) k i e = ap hold_in (some-injective (at, held j) (k, held i) e)
  claim_hold j (Holding at h log) k i e = ap hold_in (some-injective (at, full j h) (k, held i) e)
  claim_hold j (Placed at h) k i e = ap hold_in (some-injective (at, full j h) (k, held i) e)
  claim_hold j Spent k i e = absurd (some-ne-none _ (sym e))
  claim_hold j (Idle log) k i e = absurd (some-ne-none _ (sym e))

  -- the one view of a ticket
  pub ticket_views : (k : ℕ) (vs : List (View G)) → place_of vs ≡ Some k → (g : G) × (vs ≡ Placed k g ∷ [])
  ticket_views k [] e = none_apart k e
  ticket_views k (Placed at g ∷ []) e = (g, ap (λ (n : ℕ). Placed n g ∷ []) (ap or_zero e))
  ticket_views k (Spent ∷ []) e = none_apart k e
  ticket_views k (Idle log ∷ []) e = none_apart k e
  ticket_views k (Putting at log ∷ []) e = none_apart k e
  ticket_views k (Holding at g log ∷ []) e = none_apart k e
  ticket_views k (Taking at ∷ []) e = none_apart k e
  ticket_views k (v ∷ w ∷ vs) e = none_apart k e

  abbrev head_view : List (View G) → View G
  head_view [] = Spent
  head_view (v ∷ vs) = v

  pub seated : {S : Type 0} (k : ℕ) (g : G) (vs : List (View G)) (m : Me S (View G)) → vs ≡ Placed k g ∷ [] → vs ≡ m.0 ∷ [] → m.1 ≡ [] → m ≡ (Placed k g, [])
  seated k g vs m e f h = let top : m.0 ≡ Placed k g = ap head_view (sym f ∙ e) in λ z. (top z, h z)

  -- an idle hand
  pub is_idle : {S : Type 0} (log : List (ℕ × ℕ)) (m : Me S (View G)) → m ≡ (Idle log, []) → IsIdle m
  is_idle log m e = e ∙ (λ z. (Idle (log_of (sym e z)), []))

abbrev from_some : {T G : Type 0} → (T → G) → G → Option T → G
from_some tag g None = g
from_some tag g (Some t) = tag t

module _ {T G : Type 0} (tag : T → G) where
  pub one_ticket : OneTicket tag
  one_ticket s i j k v w g h r at_i at_j ni nj =
      let a = r.claims i v at_i k (full i g) (name_claim i v k g ni) in let b = r.claims j w at_j k (full j h) (name_claim j w k h nj) in
      some-injective i j (ap seat_of (some-injective (full i g) (full j h) (sym a ∙ b)))

  pub is_there : IsThere tag
  is_there s j k v g r at n = r.slots k (full j g) (r.claims j v at k (full j g) (name_claim j v k g n))

  found_in : (s : State (Option T) (View G)) (r : Ruled tag s) (k : ℕ) (t : T) (p : Place G) → get_elem? r.places k ≡ some p → get_elem? s.homes k ≡ some (some (Some t))
      → (j : ℕ) × (v : View G) × (get_elem? s.views j ≡ some v) × (name_of v ≡ some (k, tag t))
  found_in s r k t bare at e = none_apart t (some-injective None (Some t) (some-injective _ _ (sym (r.slots k bare at).1 ∙ e)))
  found_in s r k t (held j) at e = absurd (some-ne-none (Some t) (sym (some-injective none (some (Some t)) (sym (r.slots k (held j) at).1 ∙ e))))
  found_in s r k t (full j g) at e =
      let lies = (r.slots k (full j g) at).1 in let u = r.owned k (full j g) j at refl in
      let same : Some lies.0 ≡ Some t = some-injective _ _ (some-injective _ _ (sym lies.1 ∙ e)) in
      let tags : g ≡ tag t = sym lies.2 ∙ ap (λ (o : Option T). from_some tag g o) same in
      (j, u.0, u.1, claim_name j u.0 k j g u.2 ∙ ap (λ (x : G). some (k, x)) tags)

  pub is_named : IsNamed tag
  is_named s k t r e = let sized = r.sized in let less = there s.homes k _ e in let p = some_place r.places k (omega arith) in found_in s r k t p.0 p.1 e

  pub one_holder : OneHolder tag
  one_holder s i j k v w r at_i at_j ni nj =
      let a = r.claims i v at_i k (held i) (hold_claim i v k ni) in let b = r.claims j w at_j k (held j) (hold_claim j w k nj) in
      (some-injective i j (ap seat_of (some-injective (held i) (held j) (sym a ∙ b))), (r.slots k (held i) a).0)

  held_by : (s : State (Option T) (View G)) (r : Ruled tag s) (k n : ℕ) (h : opt.Option (opt.Option (Option T))) (p : Place G) → get_elem? r.places k ≡ some p → Lies tag p n h → n ≡ 1
      → (j : ℕ) × (v : View G) × (get_elem? s.views j ≡ some v) × (hold_of v ≡ some k)
  held_by s r k n h bare at lies one = let zero_ = lies.0 in absurd (omega (arith, zero_, one))
  held_by s r k n h (held j) at lies one = let u = r.owned k (held j) j at refl in (j, u.0, u.1, claim_hold j u.0 k j u.2)
  held_by s r k n h (full j g) at lies one = let two = lies.0 in absurd (omega (arith, two, one))

  pub is_held : IsHeld tag
  is_held s k r below one = let sized = r.sized in let p = some_place r.places k (omega (arith, below, sized)) in held_by s r k _ _ p.0 p.1 (r.slots k p.0 p.1) one
