-- The rule when a seat is cut in two, and when two are made one.
use Rattle.std.proofs.Common.{◌≡◌, ℕ, zero, suc, ◌+◌, ◌≢◌, ◌⊎◌, List, [], ◌∷◌, ◌++◌, map, length, set, get_or, sym, refl, ap, ◌∙◌, subst, arith, ⊎_elim, Option, Some, None, length-set, inl, inr}
use mathlib.Core.Option.{some, none, some-injective, some-ne-none}
use lib.ListN.{get_elem?}
use lib.Seq.{map-set}
use Rattle.atomic_table.specs.Table.{State, Splits, Joins}
use Rattle.atomic_table.proofs.Lists.{at_set, set_here, set_else, at_longer, at_last, at_map}
use Rattle.cm_board.specs.declared.view.Scope.{Scope}
use Rattle.cm_board.specs.declared.view.Lead.{Lead}
use Rattle.cm_board.specs.declared.view.View.{View}
use Rattle.cm_board.specs.declared.view.Role.TheVariants.{Child, Owner, Adding, Backing}
use Rattle.cm_board.specs.declared.view.Content.{Content}
use Rattle.cm_board.specs.Rule.{Place, free, out, filling, full, emptying, Holder, led, entry_of, seat_of, claim_of, holder_seat, Lies, TaskLies, Tallies, Knows, Ruled, view, spent, with_entry, surplus_claim}
use Rattle.cm_board.proofs.CountLaw.{there, total_set, total_snoc}
use Rattle.cm_board.proofs.RebuildLaw.{knows_stay, seats_set, place_set, is_mine, handles_set, surplus_held_set}

snoc_at : {V : Type 0} (l : List V) (a b : V) (j : ℕ) → get_elem? (l ++ a ∷ []) j ≡ some b → (get_elem? l j ≡ some b) ⊎ ((j ≡ length l) × (a ≡ b))
snoc_at [] a b zero e = inr (refl, some-injective a b e)
snoc_at [] a b (suc j) e = absurd (some-ne-none b (sym e))
snoc_at (x ∷ xs) a b zero e = inl e
snoc_at (x ∷ xs) a b (suc j) e = ⊎_elim (λ t. inl t) (λ t. inr (ap suc t.0, t.1)) (snoc_at xs a b j e)

abbrev IsFree : {X : Type 0} → Option X → Type 0
IsFree None = Unit {0}
IsFree (Some x) = ⊥

pub none_apart : {X : Type 0} (x : X) → ◌≡◌ {A = Option X} None (Some x) → ⊥
none_apart x e = subst IsFree e tt

pub map_at : {X Y : Type 0} (f : X → Y) (l : List X) (i : ℕ) (b : Y) → get_elem? (map f l) i ≡ some b → (a : X) × (get_elem? l i ≡ some a) × (f a ≡ b)
map_at f [] i b e = absurd (some-ne-none b (sym e))
map_at f (x ∷ xs) zero b e = (x, refl, some-injective (f x) b e)
map_at f (x ∷ xs) (suc i) b e = map_at f xs i b e

pub entry_none : {A : Type 0} (p : Place A) → entry_of p ≡ None → p ≡ free
entry_none free e = refl
entry_none (out j a) e = absurd (none_apart a (sym e))
entry_none (filling j a) e = absurd (none_apart a (sym e))
entry_none (full a) e = absurd (none_apart a (sym e))
entry_none (emptying j a) e = absurd (none_apart a (sym e))

module _ {H A B T : Type 0} (answers : A → B → Type 0) (belongs : H → ℕ → List (Option A) → T → Type 0) (lies_in : H → ℕ → T → Type 0) (key : Scope H) where
  abbrev St : Type 0
  St = State (Option (Content B T)) (View H A)

  abbrev Ru : St → Type 0
  Ru = Ruled answers belongs lies_in key

  pub parts : (me k : ℕ) (a : A) (l : Lead A) (scope : Scope H)
      → Splits Ru me (view scope (Adding k a l)) (view scope (Owner (with_entry l k (Some a)))) (view scope (Child k a))
  parts me k a l scope s r mine =
      let v : View H A = view scope (Adding k a l) in let l' : Lead A = with_entry l k (Some a) in let w : View H A = view scope (Owner l') in let u : View H A = view scope (Child k a) in
      let knows = r.seats me v mine in let here_holder : r.holder ≡ led me = knows.leads (led me) refl in let tally = knows.tallies l refl in
      let new : ℕ = length s.views in let p' : Place A = out new a in let places' : List (Place A) = set r.places k p' in
      let at_k : get_elem? r.places k ≡ some free = let t = map_at entry_of r.places k None (ap (λ (es : List (Option A)). get_elem? es k) (sym tally.0) ∙ knows.stands.1) in t.1 ∙ ap some (entry_none t.0 t.2) in
      let sixteen = r.sixteen in
      let entries : map entry_of places' ≡ set l.asks k (Some a) = map-set entry_of r.places k p' ∙ ap (λ (es : List (Option A)). set es k (Some a)) (sym tally.0) in
      let views' : List (View H A) = set s.views me w ++ u ∷ [] in
      let long : length (set s.views me w) ≡ new = length-set s.views me w in
      record {
        places = places';
        holder = r.holder;
        wide = r.wide;
        sixteen = length-set r.places k p' ∙ sixteen;
        count = let t = total_set s.views me v w mine in let t' = total_snoc (set s.views me w) u in let c = r.count in omega (arith, t, t', c);
        slots = λ i q e. ⊎_elim
            (λ (t : (i ≡ k) × (p' ≡ q)). subst (λ (x : ℕ × Place A). Lies answers x.1 (get_or s.words (x.0 + 1) 0) (get_elem? s.homes x.0)) (λ z. (sym t.0 z, t.1 z)) (r.slots k free at_k))
            (λ (t : (i ≢ k) × (get_elem? r.places i ≡ some q)). r.slots i q t.1)
            (at_set r.places k i p' q e);
        task = subst (λ (d : Holder). TaskLies (belongs key.home key.pages (map entry_of places')) d (get_or s.words 17 0) (get_elem? s.homes 16)) (sym here_holder)
            (subst (λ (d : Holder). TaskLies (belongs key.home key.pages (map entry_of r.places)) d (get_or s.words 17 0) (get_elem? s.homes 16)) here_holder r.task);
        held = λ i q j e own. ⊎_elim
            (λ (t : (i ≡ k) × (p' ≡ q)). let is : j ≡ new = some-injective _ _ (sym own ∙ ap seat_of (sym t.1)) in
            (u, subst (λ (x : ℕ). get_elem? views' x ≡ some u) (sym is) (at_last (set s.views me w) u new long), subst (λ (x : ℕ × ℕ × Place A). claim_of x.0 u.role ≡ some (x.1, x.2)) (λ z. (sym is z, sym t.0 z, t.1 z)) refl))
            (λ (t : (i ≢ k) × (get_elem? r.places i ≡ some q)). let h = r.held i q j t.1 own in (
              h.0,
              at_longer (set s.views me w) (u ∷ []) j h.0 (set_else s.views me j w
                  (λ same. some-ne-none _ (sym (subst (λ (x : ℕ × View H A). claim_of x.0 x.1.role ≡ some (i, q)) (λ z. (same z, is_mine s.views me j v h.0 mine same h.1 z)) h.2))) ∙ h.1),
              h.2,
            ))
            (at_set r.places k i p' q e);
        lent = λ j e. let same : me ≡ j = some-injective _ _ (ap holder_seat (sym here_holder) ∙ e) in (
          w,
          at_longer (set s.views me w) (u ∷ []) j w (subst (λ (x : ℕ). get_elem? (set s.views me w) x ≡ some w) same (set_here s.views me w (there s.views me v mine))),
          ap some (ap led (sym same) ∙ sym here_holder),
        );
        seats = λ j x e. ⊎_elim
            (λ t. seats_set (Knows key places' r.holder (get_or s.words 0 0)) s.views me w
            record {
              in_scope = knows.in_scope;
              stands = tt;
              claims = λ i q f. absurd (some-ne-none _ (sym f));
              leads = λ d f. here_holder ∙ some-injective _ _ f;
              tallies = λ m f. subst (Tallies (map entry_of places') (get_or s.words 0 0)) (some-injective l' m f) (sym entries, tally.1, tally.2);
            }
            (λ j' x' other at. knows_stay key r.places places' r.holder r.holder (get_or s.words 0 0) _ j' x' (r.seats j' x' at)
            (λ i q sq f. place_set r.places k free p' j' i q at_k (λ sp. some-ne-none _ (sym sp)) sq f)
            (λ d. absurd (other (some-injective _ _ (sym d ∙ ap holder_seat here_holder)))))
            j x t)
            (λ t. subst (λ (y : ℕ × View H A). Knows key places' r.holder (get_or s.words 0 0) y.0 y.1) (λ z. (sym (t.0 ∙ long) z, t.1 z)) record {
              in_scope = knows.in_scope;
              stands = tt;
              claims = λ i q f. subst (λ (y : ℕ × Place A). get_elem? places' y.0 ≡ some y.1) (some-injective (k, p') (i, q) f) (set_here r.places k p' (there r.places k free at_k));
              leads = λ d f. absurd (some-ne-none _ (sym f));
              tallies = λ m f. absurd (some-ne-none _ (sym f));
            })
            (snoc_at (set s.views me w) u x j e);
        surpluses = r.surpluses;
        surplus_count = r.surplus_count;
        surplus_slots = r.surplus_slots;
        surplus_held = λ i q j e own. let t = surplus_held_set r.surpluses s.views me v w mine refl r.surplus_held i q j e own in (t.0, at_longer (set s.views me w) (u ∷ []) j t.0 t.1, t.2);
        handles = λ j x e. ⊎_elim (λ t. handles_set r.surpluses s.views me w refl r.handles j x t)
            (λ t i q f. absurd (some-ne-none (i, q) (sym f ∙ subst (λ (y : View H A). surplus_claim j y.role ≡ none) t.1 refl)))
            (snoc_at (set s.views me w) u x j e);
      }

  pub joins : (me other k : ℕ) (a : A) (l : Lead A) (scope scope' : Scope H)
      → Joins Ru me (view scope (Owner l)) other (view scope' (Child k a)) (view scope (Backing k a l)) spent
  joins me other k a l scope scope' s r mine apart theirs' =
      let v : View H A = view scope (Owner l) in let l' : Lead A = with_entry l k None in let w : View H A = view scope (Backing k a l) in let c : View H A = view scope' (Child k a) in
      let theirs : get_elem? s.views other ≡ some c = sym (set_else s.views me other w apart) ∙ theirs' in
      let knows = r.seats me v mine in let here_holder : r.holder ≡ led me = knows.leads (led me) refl in let tally = knows.tallies l refl in
      let at_k : get_elem? r.places k ≡ some (out other a) = (r.seats other c theirs).claims k (out other a) refl in
      let places' : List (Place A) = set r.places k free in
      let sixteen = r.sixteen in
      let entries : map entry_of places' ≡ set l.asks k None = map-set entry_of r.places k free ∙ ap (λ (es : List (Option A)). set es k None) (sym tally.0) in
      let mid : List (View H A) = set s.views me w in
      let views' : List (View H A) = set mid other spent in
      record {
        places = places';
        holder = r.holder;
        wide = r.wide;
        sixteen = length-set r.places k free ∙ sixteen;
        count = let t = total_set s.views me v w mine in let t' = total_set mid other c spent theirs' in let n = r.count in omega (arith, t, t', n);
        slots = λ i q e. ⊎_elim
            (λ (t : (i ≡ k) × (free ≡ q)). subst (λ (x : ℕ × Place A). Lies answers x.1 (get_or s.words (x.0 + 1) 0) (get_elem? s.homes x.0)) (λ z. (sym t.0 z, t.1 z)) (r.slots k (out other a) at_k))
            (λ (t : (i ≢ k) × (get_elem? r.places i ≡ some q)). r.slots i q t.1)
            (at_set r.places k i free q e);
        task = subst (λ (d : Holder). TaskLies (belongs key.home key.pages (map entry_of places')) d (get_or s.words 17 0) (get_elem? s.homes 16)) (sym here_holder)
            (subst (λ (d : Holder). TaskLies (belongs key.home key.pages (map entry_of r.places)) d (get_or s.words 17 0) (get_elem? s.homes 16)) here_holder r.task);
        held = λ i q j e own. ⊎_elim
            (λ (t : (i ≡ k) × (free ≡ q)). absurd (some-ne-none _ (sym (ap seat_of t.1 ∙ own))))
            (λ (t : (i ≢ k) × (get_elem? r.places i ≡ some q)). let h = r.held i q j t.1 own in (
              h.0,
              set_else mid other j spent (λ same. t.0 (ap (λ (y : ℕ × Place A). y.0) (sym (some-injective (k, out other a) (i, q) (subst (λ (x : ℕ × View H A). claim_of x.0 x.1.role ≡ some (i, q)) (λ z. (same z, is_mine s.views other j c h.0 theirs same h.1 z)) h.2)))))
                  ∙ (set_else s.views me j w
                  (λ same. some-ne-none _ (sym (subst (λ (x : ℕ × View H A). claim_of x.0 x.1.role ≡ some (i, q)) (λ z. (same z, is_mine s.views me j v h.0 mine same h.1 z)) h.2))) ∙ h.1),
              h.2,
            ))
            (at_set r.places k i free q e);
        lent = λ j e. let same : me ≡ j = some-injective _ _ (ap holder_seat (sym here_holder) ∙ e) in (
          w,
          set_else mid other j spent (λ is. apart (sym is ∙ sym same)) ∙ subst (λ (x : ℕ). get_elem? mid x ≡ some w) same (set_here s.views me w (there s.views me v mine)),
          ap some (ap led (sym same) ∙ sym here_holder),
        );
        seats = seats_set (Knows key places' r.holder (get_or s.words 0 0)) mid other spent
            record {
              in_scope = λ sc f. absurd (none_apart sc f);
              stands = tt;
              claims = λ i q f. absurd (some-ne-none _ (sym f));
              leads = λ d f. absurd (some-ne-none _ (sym f));
              tallies = λ m f. absurd (some-ne-none _ (sym f));
            }
            (λ j x not at. seats_set (λ j x. j ≢ other → Knows key places' r.holder (get_or s.words 0 0) j x) s.views me w
            (λ _. record {
              in_scope = knows.in_scope;
              stands = (tt, ap (λ (es : List (Option A)). get_elem? es k) tally.0 ∙ at_map entry_of r.places k (out other a) at_k);
              claims = λ i q f. absurd (some-ne-none _ (sym f));
              leads = λ d f. here_holder ∙ some-injective _ _ f;
              tallies = λ m f. subst (Tallies (map entry_of places') (get_or s.words 0 0)) (some-injective l' m f) (sym entries, tally.1, tally.2);
            })
            (λ j' x' mine' at' not'. knows_stay key r.places places' r.holder r.holder (get_or s.words 0 0) _ j' x' (r.seats j' x' at')
            (λ i q sq f. place_set r.places k (out other a) free j' i q at_k (λ sp. not' (sym (some-injective _ _ sp))) sq f)
            (λ d. absurd (mine' (some-injective _ _ (sym d ∙ ap holder_seat here_holder)))))
            j x at not);
        surpluses = r.surpluses;
        surplus_count = r.surplus_count;
        surplus_slots = r.surplus_slots;
        surplus_held = surplus_held_set r.surpluses mid other c spent theirs' refl (surplus_held_set r.surpluses s.views me v w mine refl r.surplus_held);
        handles = handles_set r.surpluses mid other spent refl (handles_set r.surpluses s.views me w refl r.handles);
      }
