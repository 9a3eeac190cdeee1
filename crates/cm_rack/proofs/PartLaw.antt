-- The rule when a seat is cut in two, and of the table at the start.
use Rattle.std.proofs.Common.{◌≡◌, ℕ, zero, suc, ◌+◌, ◌<◌, ◌≢◌, ◌⊎◌, List, [], ◌∷◌, ◌++◌, map, length, set, get_or, replicate, sym, refl, ap, ◌∙◌, subst, arith, ⊎_elim, None, length-set, inl, inr}
use mathlib.Core.Option as opt
use mathlib.Core.Option.{some, none, some-injective, some-ne-none}
use lib.ListN.{get_elem?, length-map, length-replicate}
use Rattle.atomic_table.specs.Table.{Splits}
use Rattle.atomic_table.proofs.Lists.{at_set, set_here, set_else, at_longer, at_last}
use Rattle.cm_rack.specs.declared.view.View.{View}
use Rattle.cm_rack.specs.declared.view.View.TheVariants.{Idle, Holding, Placed}
use Rattle.cm_rack.specs.Rule.{Place, bare, full, seat_of, claim_of, Lies, Ruled}
use Rattle.cm_rack.proofs.RebuildLaw.{there, is_mine, claim_seat, seats_set}

snoc_at : {V : Type 0} (l : List V) (a b : V) (j : ℕ) → get_elem? (l ++ a ∷ []) j ≡ some b → (get_elem? l j ≡ some b) ⊎ ((j ≡ length l) × (a ≡ b))
snoc_at [] a b zero e = inr (refl, some-injective a b e)
snoc_at [] a b (suc j) e = absurd (some-ne-none b (sym e))
snoc_at (x ∷ xs) a b zero e = inl e
snoc_at (x ∷ xs) a b (suc j) e = ⊎_elim (λ t. inl t) (λ t. inr (ap suc t.0, t.1)) (snoc_at xs a b j e)

nothing : {X : Type 0} (x : X) {P : Type 0} → ◌≡◌ {A = opt.Option X} none (some x) → P
nothing x e = absurd (some-ne-none x (sym e))

replicated : {X : Type 0} (n : ℕ) (x : X) (i : ℕ) (y : X) → get_elem? (replicate n x) i ≡ some y → (x ≡ y) × (i < n)
replicated zero x i y e = nothing y e
replicated (suc n) x zero y e = (some-injective x y e, omega arith)
replicated (suc n) x (suc i) y e = let t = replicated n x i y e in (t.0, (let u = t.1 in omega arith))

in_row : {X : Type 0} (n : ℕ) (x : X) (i : ℕ) → i < n → get_elem? (map some (replicate n x)) i ≡ some (some x)
in_row zero x i h = absurd (omega arith)
in_row (suc n) x zero h = refl
in_row (suc n) x (suc i) h = in_row n x i (omega arith)

zero_at : (n i : ℕ) → ◌≡◌ {A = ℕ} (get_or (replicate n 0) i 0) 0
zero_at zero i = refl
zero_at (suc n) zero = refl
zero_at (suc n) (suc i) = zero_at n i

module _ {T G : Type 0} (tag : T → G) where
  -- the ticket leaves the hand
  pub parts : (me k : ℕ) (g : G) (log : List (ℕ × ℕ)) → Splits (Ruled tag) me (Holding k g log) (Idle log) (Placed k g)
  parts me k g log s r mine =
      let v : View G = Holding k g log in let w : View G = Idle log in let u : View G = Placed k g in
      let at_k : get_elem? r.places k ≡ some (full me g) = r.claims me v mine k (full me g) refl in
      let new : ℕ = length s.views in let p' : Place G = full new g in let places' : List (Place G) = set r.places k p' in
      let views' : List (View G) = set s.views me w ++ u ∷ [] in
      let long : length (set s.views me w) ≡ new = length-set s.views me w in
      record {
        places = places';
        sized = r.sized ∙ sym (length-set r.places k p');
        wide = r.wide ∙ ap (λ (m : ℕ). m + 1) (sym (length-set r.places k p'));
        slots = λ i q e. ⊎_elim
            (λ (t : (i ≡ k) × (p' ≡ q)). subst (λ (x : ℕ × Place G). Lies tag x.1 (get_or s.words x.0 0) (get_elem? s.homes x.0)) (λ z. (sym t.0 z, t.1 z)) (r.slots k (full me g) at_k))
            (λ (t : (i ≢ k) × (get_elem? r.places i ≡ some q)). r.slots i q t.1)
            (at_set r.places k i p' q e);
        owned = λ i q j e own. ⊎_elim
            (λ (t : (i ≡ k) × (p' ≡ q)). let is : j ≡ new = some-injective _ _ (sym own ∙ ap seat_of (sym t.1)) in
            (u, subst (λ (x : ℕ). get_elem? views' x ≡ some u) (sym is) (at_last (set s.views me w) u new long), subst (λ (x : ℕ × ℕ × Place G). claim_of x.0 u ≡ some (x.1, x.2)) (λ z. (sym is z, sym t.0 z, t.1 z)) refl))
            (λ (t : (i ≢ k) × (get_elem? r.places i ≡ some q)). let h = r.owned i q j t.1 own in (
              h.0,
              at_longer (set s.views me w) (u ∷ []) j h.0 (set_else s.views me j w
                  (λ same. t.0 (sym (ap (λ (y : ℕ × Place G). y.0) (some-injective (k, full me g) (i, q) (subst (λ (x : ℕ × View G). claim_of x.0 x.1 ≡ some (i, q)) (λ z. (same z, is_mine s.views me j v h.0 mine same h.1 z)) h.2))))) ∙ h.1),
              h.2,
            ))
            (at_set r.places k i p' q e);
        claims = λ j x e. ⊎_elim
            (λ t. seats_set (λ j u. (i : ℕ) (q : Place G) → claim_of j u ≡ some (i, q) → get_elem? places' i ≡ some q) s.views me w
            (λ i q f. absurd (some-ne-none (i, q) (sym f)))
            (λ j' x' other at i q f. let old = r.claims j' x' at i q f in set_else r.places k i p' (λ same. other (sym (some-injective me j' (ap seat_of (some-injective _ _ (sym at_k ∙ (ap (get_elem? r.places) (sym same) ∙ old))) ∙ claim_seat j' x' i q f)))) ∙ old)
            j x t)
            (λ t i q f. let f' = subst (λ (y : ℕ × View G). claim_of y.0 y.1 ≡ some (i, q)) (λ z. ((t.0 ∙ long) z, sym t.1 z)) f in
            subst (λ (y : ℕ × Place G). get_elem? places' y.0 ≡ some y.1) (some-injective (k, p') (i, q) f') (set_here r.places k p' (there r.places k (full me g) at_k)))
            (snoc_at (set s.views me w) u x j e);
      }

  -- one more seat that names nothing
  pub enters : (me : ℕ) (log : List (ℕ × ℕ)) → Splits (Ruled tag) me (Idle log) (Idle log) (Idle [])
  enters me log s r mine =
      let w : View G = Idle log in let u : View G = Idle [] in
      record {
        places = r.places;
        sized = r.sized;
        wide = r.wide;
        slots = r.slots;
        owned = λ i q j e own. let h = r.owned i q j e own in (
          h.0,
          at_longer (set s.views me w) (u ∷ []) j h.0 (set_else s.views me j w
              (λ same. some-ne-none (i, q) (sym (subst (λ (x : ℕ × View G). claim_of x.0 x.1 ≡ some (i, q)) (λ z. (same z, is_mine s.views me j w h.0 mine same h.1 z)) h.2))) ∙ h.1),
          h.2,
        );
        claims = λ j x e. ⊎_elim
            (λ t. seats_set (λ j u. (i : ℕ) (q : Place G) → claim_of j u ≡ some (i, q) → get_elem? r.places i ≡ some q) s.views me w
            (λ i q f. absurd (some-ne-none (i, q) (sym f))) (λ j' x' other at. r.claims j' x' at) j x t)
            (λ t i q f. absurd (some-ne-none (i, q) (sym (subst (λ (y : View G). claim_of j y ≡ some (i, q)) (sym t.1) f))))
            (snoc_at (set s.views me w) u x j e);
      }

  first_idle : (n j : ℕ) (v : View G) → get_elem? (Idle [] ∷ []) j ≡ some v → (i : ℕ) (q : Place G) → claim_of j v ≡ some (i, q) → get_elem? (replicate n bare) i ≡ some q
  first_idle n zero v e i q f = absurd (some-ne-none (i, q) (sym (subst (λ (y : View G). claim_of 0 y ≡ some (i, q)) (sym (some-injective _ v e)) f)))
  first_idle n (suc j) v e i q f = nothing v e

  -- the table at the start
  pub opens : (n : ℕ) → Ruled tag record { words = replicate (n + 1) 0; homes = map some (replicate n None); views = Idle [] ∷ [] }
  opens n = record {
    places = replicate n bare;
    sized = length-map (replicate n None) some ∙ (length-replicate n None ∙ sym (length-replicate n bare));
    wide = length-replicate (n + 1) 0 ∙ ap (λ (m : ℕ). m + 1) (sym (length-replicate n bare));
    slots = λ i p e. let t = replicated n bare i p e in subst (λ (x : Place G). Lies tag x (get_or (replicate (n + 1) 0) i 0) (get_elem? (map some (replicate n None)) i)) t.0 (zero_at (n + 1) i, in_row n None i t.1);
    owned = λ i p j e own. let t = replicated n bare i p e in nothing j (ap seat_of t.0 ∙ own);
    claims = λ j v e i q f. first_idle n j v e i q f;
  }

  pub opens_at : (ws : List ℕ) (n : ℕ) → ws ≡ replicate (n + 1) 0 → Ruled tag record { words = ws; homes = map some (replicate n None); views = Idle [] ∷ [] }
  opens_at ws n e = subst (λ (l : List ℕ). Ruled tag record { words = l; homes = map some (replicate n None); views = Idle [] ∷ [] }) (sym e) (opens n)
