-- The rule after a step, from what the step changes.
use Rattle.std.proofs.Common.{◌≡◌, ℕ, zero, suc, ◌+◌, ◌<◌, ◌≢◌, List, [], ◌∷◌, length, set, get_or, sym, refl, ap, ◌∙◌, subst, arith, ⊎_elim, Option, length-set, get_or-set_other, get_or-set_same}
use mathlib.Core.Option as opt
use mathlib.Core.Option.{some, none, some-injective, some-ne-none}
use lib.ListN.{get_elem?}
use lib.Seq.{set-get_or}
use Rattle.atomic_table.specs.Table.{State}
use Rattle.atomic_table.proofs.Lists.{at_set, set_here, set_else}
use Rattle.cm_rack.specs.declared.view.View.{View}
use Rattle.cm_rack.specs.declared.view.View.TheVariants.{Spent, Idle, Putting, Holding, Placed, Taking}
use Rattle.cm_rack.specs.Rule.{Place, held, full, seat_of, claim_of, Lies, Ruled}

pub there : {A : Type 0} (l : List A) (i : ℕ) (a : A) → get_elem? l i ≡ some a → i < length l
there [] i a e = absurd (some-ne-none a (sym e))
there (x ∷ xs) zero a e = omega arith
there (x ∷ xs) (suc i) a e = let t = there xs i a e in omega arith

pub is_mine : {V : Type 0} (vs : List V) (me j : ℕ) (v u : V) → get_elem? vs me ≡ some v → j ≡ me → get_elem? vs j ≡ some u → u ≡ v
is_mine vs me j v u mine same at = some-injective _ _ (sym at ∙ (ap (get_elem? vs) same ∙ mine))

module _ {G : Type 0} where
  seat_in : (j at i : ℕ) (q p : Place G) → seat_of q ≡ some j → ◌≡◌ {A = opt.Option (ℕ × Place G)} (some (at, q)) (some (i, p)) → seat_of p ≡ some j
  seat_in j at i q p own e = ap (λ (t : ℕ × Place G). seat_of t.1) (sym (some-injective _ _ e)) ∙ own

  pub claim_seat : (j : ℕ) (v : View G) (i : ℕ) (p : Place G) → claim_of j v ≡ some (i, p) → seat_of p ≡ some j
  claim_seat j (Putting at log) i p e = seat_in j at i (held j) p refl e
  claim_seat j (Holding at g log) i p e = seat_in j at i (full j g) p refl e
  claim_seat j (Placed at g) i p e = seat_in j at i (full j g) p refl e
  claim_seat j (Taking at) i p e = seat_in j at i (held j) p refl e
  claim_seat j Spent i p e = absurd (some-ne-none _ (sym e))
  claim_seat j (Idle log) i p e = absurd (some-ne-none _ (sym e))

  -- the views after a step of the seat me
  pub seats_set : (K : ℕ → View G → Type 0) (vs : List (View G)) (me : ℕ) (w : View G) → K me w → ((j : ℕ) (u : View G) → j ≢ me → get_elem? vs j ≡ some u → K j u)
      → (j : ℕ) (u : View G) → get_elem? (set vs me w) j ≡ some u → K j u
  seats_set K vs me w mine others j u e = ⊎_elim (λ (t : (j ≡ me) × (w ≡ u)). subst (λ (x : ℕ × View G). K x.0 x.1) (λ i. (sym t.0 i, t.1 i)) mine)
      (λ (t : (j ≢ me) × (get_elem? vs j ≡ some u)). others j u t.0 t.1) (at_set vs me j w u e)

  abbrev pub index_of : ℕ × Place G → ℕ
  index_of t = t.0

  abbrev pub place_in : ℕ × Place G → Place G
  place_in t = t.1

module _ {T G : Type 0} (tag : T → G) where
  abbrev pub St : Type 0
  St = State (Option T) (View G)

  pub lies_at : (q : Place G) {n m : ℕ} {g h : opt.Option (opt.Option (Option T))} → n ≡ m → g ≡ h → Lies tag q n g → Lies tag q m h
  lies_at q e f l = subst (λ (x : ℕ × opt.Option (opt.Option (Option T))). Lies tag q x.0 x.1) (λ z. (e z, f z)) l

  -- a step at the place k
  pub at_place : (s : St) (r : Ruled tag s) (k n me : ℕ) (v w : View G) (p p' : Place G) (h : opt.Option (Option T))
      → get_elem? s.views me ≡ some v → get_elem? r.places k ≡ some p
      → ((j : ℕ) → seat_of p ≡ some j → j ≡ me)
      → ((j : ℕ) → seat_of p' ≡ some j → (j ≡ me) × (claim_of me w ≡ some (k, p')))
      → ((i : ℕ) (q : Place G) → claim_of me v ≡ some (i, q) → i ≡ k)
      → ((i : ℕ) (q : Place G) → claim_of me w ≡ some (i, q) → (i ≡ k) × (q ≡ p'))
      → Lies tag p' n (some h)
      → Ruled tag record { words = set s.words k n; homes = set s.homes k h; views = set s.views me w }
  at_place s r k n me v w p p' h mine here own own' claimed claims lies =
      let below = there r.places k p here in let wide = r.wide in let sized = r.sized in
      let places' : List (Place G) = set r.places k p' in
      let long : k < length s.homes = omega arith in let broad : k < length s.words = omega arith in
      record {
        places = places';
        sized = length-set s.homes k h ∙ (sized ∙ sym (length-set r.places k p'));
        wide = length-set s.words k n ∙ (wide ∙ ap (λ (m : ℕ). m + 1) (sym (length-set r.places k p')));
        slots = λ i q e. ⊎_elim
            (λ (t : (i ≡ k) × (p' ≡ q)). subst (λ (x : ℕ × Place G). Lies tag x.1 (get_or (set s.words k n) x.0 0) (get_elem? (set s.homes k h) x.0)) (λ z. (sym t.0 z, t.1 z))
            (lies_at p' (sym (get_or-set_same s.words k n 0 broad)) (sym (set_here s.homes k h long)) lies))
            (λ (t : (i ≢ k) × (get_elem? r.places i ≡ some q)). let other = t.0 in
            lies_at q (sym (get_or-set_other s.words k i n 0 (λ z. other (omega arith)))) (sym (set_else s.homes k i h other)) (r.slots i q t.1))
            (at_set r.places k i p' q e);
        owned = λ i q j e mine_. ⊎_elim
            (λ (t : (i ≡ k) × (p' ≡ q)). let mineness = own' j (ap seat_of t.1 ∙ mine_) in (
              w,
              subst (λ (x : ℕ). get_elem? (set s.views me w) x ≡ some w) (sym mineness.0) (set_here s.views me w (there s.views me v mine)),
              subst (λ (x : ℕ × ℕ × Place G). claim_of x.0 w ≡ some (x.1, x.2)) (λ z. (sym mineness.0 z, sym t.0 z, t.1 z)) mineness.1,
            ))
            (λ (t : (i ≢ k) × (get_elem? r.places i ≡ some q)). let u = r.owned i q j t.1 mine_ in (
              u.0,
              set_else s.views me j w (λ same. t.0 (claimed i q (subst (λ (x : ℕ × View G). claim_of x.0 x.1 ≡ some (i, q)) (λ z. (same z, is_mine s.views me j v u.0 mine same u.1 z)) u.2))) ∙ u.1,
              u.2,
            ))
            (at_set r.places k i p' q e);
        claims = seats_set (λ j u. (i : ℕ) (q : Place G) → claim_of j u ≡ some (i, q) → get_elem? places' i ≡ some q) s.views me w
            (λ i q e. let t = claims i q e in subst (λ (x : ℕ × Place G). get_elem? places' x.0 ≡ some x.1) (λ z. (sym t.0 z, sym t.1 z)) (set_here r.places k p' below))
            (λ j u other at i q e. let old = r.claims j u at i q e in set_else r.places k i p' (λ same. other (own j (ap seat_of (some-injective _ _ (sym here ∙ (ap (get_elem? r.places) (sym same) ∙ old))) ∙ claim_seat j u i q e))) ∙ old);
      }

  -- a step that changes nothing but what the seat knows of its own steps
  pub noting : (s : St) (r : Ruled tag s) (k me : ℕ) (v w : View G)
      → get_elem? s.views me ≡ some v → claim_of me v ≡ none → claim_of me w ≡ none
      → Ruled tag record { words = set s.words k (get_or s.words k 0); homes = s.homes; views = set s.views me w }
  noting s r k me v w mine idle idle' = record {
    places = r.places;
    sized = r.sized;
    wide = length-set s.words k (get_or s.words k 0) ∙ r.wide;
    slots = λ i q e. lies_at q (ap (λ (l : List ℕ). get_or l i 0) (sym (set-get_or s.words k 0))) refl (r.slots i q e);
    owned = λ i q j e own. let u = r.owned i q j e own in (
      u.0,
      set_else s.views me j w (λ same. some-ne-none (i, q) (sym (subst (λ (x : ℕ × View G). claim_of x.0 x.1 ≡ some (i, q)) (λ z. (same z, is_mine s.views me j v u.0 mine same u.1 z)) u.2) ∙ idle)) ∙ u.1,
      u.2,
    );
    claims = seats_set (λ j u. (i : ℕ) (q : Place G) → claim_of j u ≡ some (i, q) → get_elem? r.places i ≡ some q) s.views me w
        (λ i q e. absurd (some-ne-none (i, q) (sym e ∙ idle'))) (λ j u other at. r.claims j u at);
  }
