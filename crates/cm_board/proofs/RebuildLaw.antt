-- The rule after a step, from what the step changes.
use Rattle.std.proofs.Common.{◌≡◌, ℕ, ◌+◌, ◌<◌, ◌≤◌, ◌≢◌, ◌⊎◌, List, map, length, set, get_or, sym, refl, ap, ◌∙◌, subst, arith, ⊎_elim, le_trans, Option, Some, None, length-set, get_or-set_other, get_or-set_same}
use mathlib.Core.Logic.{dite}
use mathlib.Core.Option as opt
use mathlib.Core.Option.{some, none, some-injective, some-ne-none}
use native.Mathlib.Decide.{ℕ_discrete}
use lib.ListN.{get_elem?}
use lib.Seq.{map-set, set-get_or}
use Rattle.atomic_table.specs.Table.{State}
use Rattle.atomic_table.proofs.Lists.{at_set, set_here, set_else, set_again, at_map}
use Rattle.cm_board.specs.declared.view.Scope.{Scope}
use Rattle.cm_board.specs.declared.view.Lead.{Lead}
use Rattle.cm_board.specs.declared.view.View.{View}
use Rattle.cm_board.specs.declared.view.Content.{Content}
use Rattle.cm_board.specs.declared.view.Content.TheVariants.{Answer}
use Rattle.cm_board.specs.Rule.{Place, free, out, filling, full, emptying, Holder, led, entry_of, seat_of, claim_of, holder_seat, holder_of, lead_of, weight, Lies, TaskLies, Tallies, Stands, Knows, Ruled, Surplus, surplus_seat, surplus_claim, SurplusLies, SurplusHeld, Handles}
use Rattle.cm_board.proofs.CountLaw.{there, total_set, claim_seat, holder_seat_of, lead_holder, surplus_claim_seat}

module _ {H A : Type 0} where
  -- what another seat knows stays
  pub knows_stay : (key : Scope H) (places places' : List (Place A)) (holder holder' : Holder) (n n' j : ℕ) (v : View H A) → Knows key places holder n j v
      → ((at : ℕ) (p : Place A) → seat_of p ≡ some j → get_elem? places at ≡ some p → get_elem? places' at ≡ some p)
      → (holder_seat holder ≡ some j → (holder' ≡ holder) × (map entry_of places' ≡ map entry_of places) × (n' ≤ n))
      → Knows key places' holder' n' j v
  knows_stay key places places' holder holder' n n' j v k keep lead = record {
    in_scope = k.in_scope;
    stands = k.stands;
    claims = λ at p e. keep at p (claim_seat j v.role at p e) (k.claims at p e);
    leads = λ d e. let is = k.leads d e in let t = lead (ap holder_seat is ∙ holder_seat_of j v.role d e) in t.0 ∙ is;
    tallies = λ l e. let d = lead_holder j v.role l e in let is = k.leads d.0 d.1 in let t = lead (ap holder_seat is ∙ holder_seat_of j v.role d.0 d.1) in let old = k.tallies l e in
        let less = t.2 in (old.0 ∙ sym t.1, λ o. le_trans less (old.1 o), λ c. let z = old.2 c in omega arith);
  }

  -- the views after a step of the seat me
  pub seats_set : (K : ℕ → View H A → Type 0) (vs : List (View H A)) (me : ℕ) (w : View H A) → K me w → ((j : ℕ) (u : View H A) → j ≢ me → get_elem? vs j ≡ some u → K j u)
      → (j : ℕ) (u : View H A) → get_elem? (set vs me w) j ≡ some u → K j u
  seats_set K vs me w mine others j u e = ⊎_elim (λ (t : (j ≡ me) × (w ≡ u)). subst (λ (x : ℕ × View H A). K x.0 x.1) (λ i. (sym t.0 i, t.1 i)) mine)
      (λ (t : (j ≢ me) × (get_elem? vs j ≡ some u)). others j u t.0 t.1) (at_set vs me j w u e)

pub is_mine : {V : Type 0} (vs : List V) (me j : ℕ) (v u : V) → get_elem? vs me ≡ some v → j ≡ me → get_elem? vs j ≡ some u → u ≡ v
is_mine vs me j v u mine same at = some-injective _ _ (sym at ∙ (ap (get_elem? vs) same ∙ mine))

pub task_at : {B T : Type 0} (F : T → Type 0) (d : Holder) {n m : ℕ} {g h : opt.Option (opt.Option (Option (Content B T)))} → n ≡ m → g ≡ h → TaskLies F d n g → TaskLies F d m h
task_at {B = B} {T = T} F d e f l = subst (λ (x : ℕ × opt.Option (opt.Option (Option (Content B T)))). TaskLies F d x.0 x.1) (λ z. (e z, f z)) l

module _ {A : Type 0} where
  -- a place that changes in place k only
  pub place_set : (places : List (Place A)) (k : ℕ) (p p' : Place A) (j at : ℕ) (q : Place A) → get_elem? places k ≡ some p → (seat_of p ≡ some j → ⊥) → seat_of q ≡ some j → get_elem? places at ≡ some q
      → get_elem? (set places k p') at ≡ some q
  place_set places k p p' j at q here not own e = set_else places k at p' (λ same. not (ap seat_of (some-injective _ _ (sym here ∙ (ap (get_elem? places) (sym same) ∙ e))) ∙ own)) ∙ e

  pub entries_set : (places : List (Place A)) (k : ℕ) (p p' : Place A) → get_elem? places k ≡ some p → entry_of p' ≡ entry_of p → map entry_of (set places k p') ≡ map entry_of places
  entries_set places k p p' e same = map-set entry_of places k p' ∙ (ap (set (map entry_of places) k) same ∙ set_again (map entry_of places) k (entry_of p) (at_map entry_of places k p e))

  pub lies_there : {B T : Type 0} (answers : A → B → Type 0) (p : Place A) (n : ℕ) (h : opt.Option (opt.Option (Option (Content B T)))) → Lies answers p n h → (x : _) × (h ≡ some x)
  lies_there answers free n h l = (some None, l.1)
  lies_there answers (out j a) n h l = (some None, l.1)
  lies_there answers (filling j a) n h l = (none, l.1)
  lies_there answers (full a) n h l = (some (Some (Answer l.1.0)), l.1.1)
  lies_there answers (emptying j a) n h l = (none, l.1)

module _ {H A : Type 0} where
  pub handles_set : (surpluses : List Surplus) (vs : List (View H A)) (me : ℕ) (w : View H A) → surplus_claim me w.role ≡ none → Handles surpluses vs → Handles surpluses (set vs me w)
  handles_set surpluses vs me w idle old = seats_set (λ j v. (i : ℕ) (q : Surplus) → surplus_claim j v.role ≡ some (i, q) → get_elem? surpluses i ≡ some q) vs me w
      (λ i q e. absurd (some-ne-none (i, q) (sym e ∙ idle))) (λ j u other at. old j u at)

  pub surplus_held_set : (surpluses : List Surplus) (vs : List (View H A)) (me : ℕ) (v w : View H A) → get_elem? vs me ≡ some v → surplus_claim me v.role ≡ none → SurplusHeld surpluses vs → SurplusHeld surpluses (set vs me w)
  surplus_held_set surpluses vs me v w mine idle old i q j e own = let u = old i q j e own in (
    u.0,
    set_else vs me j w (λ same. some-ne-none (i, q) (sym (subst (λ (x : ℕ × View H A). surplus_claim x.0 x.1.role ≡ some (i, q)) (λ z. (same z, is_mine vs me j v u.0 mine same u.1 z)) u.2) ∙ idle)) ∙ u.1,
    u.2,
  )

pub surplus_at : {B T : Type 0} (F : T → Type 0) (q : Surplus) {n m : ℕ} {g h : opt.Option (opt.Option (Option (Content B T)))} → n ≡ m → g ≡ h → SurplusLies F q n g → SurplusLies F q m h
surplus_at {B = B} {T = T} F q e f l = subst (λ (x : ℕ × opt.Option (opt.Option (Option (Content B T)))). SurplusLies F q x.0 x.1) (λ z. (e z, f z)) l

module _ {H A B T : Type 0} (answers : A → B → Type 0) (belongs : H → ℕ → List (Option A) → T → Type 0) (lies_in : H → ℕ → T → Type 0) (key : Scope H) where
  abbrev St : Type 0
  St = State (Option (Content B T)) (View H A)

  abbrev pub Rule : St → Type 0
  Rule = Ruled answers belongs lies_in key

  lies_at : (q : Place A) {n m : ℕ} {g h : opt.Option (opt.Option (Option (Content B T)))} → n ≡ m → g ≡ h → Lies answers q n g → Lies answers q m h
  lies_at q e f l = subst (λ (x : ℕ × opt.Option (opt.Option (Option (Content B T)))). Lies answers q x.0 x.1) (λ z. (e z, f z)) l

  -- a step at the place k
  pub at_place : (s : St) (r : Rule s) (k n me : ℕ) (v w : View H A) (p p' : Place A) (h : opt.Option (Option (Content B T)))
      → get_elem? s.views me ≡ some v → get_elem? r.places k ≡ some p
      → ((j : ℕ) → seat_of p ≡ some j → j ≡ me)
      → ((j : ℕ) → seat_of p' ≡ some j → (j ≡ me) × (claim_of me w.role ≡ some (k, p')))
      → ((i : ℕ) (q : Place A) → claim_of me v.role ≡ some (i, q) → i ≡ k)
      → ((i : ℕ) (q : Place A) → claim_of me w.role ≡ some (i, q) → (i ≡ k) × (q ≡ p'))
      → Lies answers p' n (some h)
      → weight w.role ≡ weight v.role → holder_of me w.role ≡ holder_of me v.role
      → ((entry_of p' ≡ entry_of p) ⊎ ((holder_seat r.holder ≡ some me) × (r.holder ≡ led me)))
      → w.scope ≡ v.scope
      → ((l : Lead A) → lead_of w.role ≡ some l → Tallies (map entry_of (set r.places k p')) (get_or s.words 0 0) l)
      → surplus_claim me v.role ≡ none → surplus_claim me w.role ≡ none → Stands w.scope w.role
      → Rule record { words = set s.words (k + 1) n; homes = set s.homes k h; views = set s.views me w }
  at_place s r k n me v w p p' h mine here own own' claimed claims lies weighs holders entries scope tallies idle idle' stands =
      let wide = r.wide in let sixteen = r.sixteen in let below = there r.places k p here in
      let there' : get_or (set s.words (k + 1) n) 0 0 ≡ get_or s.words 0 0 = get_or-set_other s.words (k + 1) 0 n 0 (λ e. omega arith) in
      let knows = r.seats me v mine in
      let places' : List (Place A) = set r.places k p' in
      let there_home = there s.homes k _ (lies_there answers p _ _ (r.slots k p here)).1 in
      let same_or : (j : ℕ) → j ≢ me → holder_seat r.holder ≡ some j → (r.holder ≡ r.holder) × (map entry_of places' ≡ map entry_of r.places) × (get_or (set s.words (k + 1) n) 0 0 ≤ get_or s.words 0 0)
      = λ j other d. (refl, ⊎_elim (λ e. entries_set r.places k p p' here e) (λ t. absurd (other (some-injective _ _ (sym d ∙ t.0)))) entries, omega (arith, there')) in
      record {
        places = places';
        holder = r.holder;
        wide = length-set s.words (k + 1) n ∙ wide;
        sixteen = length-set r.places k p' ∙ sixteen;
        count = let t = total_set s.views me v w mine in let c = r.count in omega (arith, there', t, c, weighs);
        slots = λ i q e. ⊎_elim
            (λ (t : (i ≡ k) × (p' ≡ q)). subst (λ (x : ℕ × Place A). Lies answers x.1 (get_or (set s.words (k + 1) n) (x.0 + 1) 0) (get_elem? (set s.homes k h) x.0)) (λ z. (sym t.0 z, t.1 z))
            (lies_at p' (sym (get_or-set_same s.words (k + 1) n 0 (omega arith))) (sym (set_here s.homes k h there_home)) lies))
            (λ (t : (i ≢ k) × (get_elem? r.places i ≡ some q)). let other = t.0 in
            lies_at q (sym (get_or-set_other s.words (k + 1) (i + 1) n 0 (λ z. other (omega arith)))) (sym (set_else s.homes k i h other)) (r.slots i q t.1))
            (at_set r.places k i p' q e);
        task = task_at (belongs key.home key.pages (map entry_of places')) r.holder (sym (get_or-set_other s.words (k + 1) 17 n 0 (λ z. omega arith))) (sym (set_else s.homes k 16 h (λ z. omega arith)))
            (⊎_elim (λ e. subst (λ (es : List (Option A)). TaskLies (belongs key.home key.pages es) r.holder (get_or s.words 17 0) (get_elem? s.homes 16)) (sym (entries_set r.places k p p' here e)) r.task)
            (λ t. subst (λ (d : Holder). TaskLies (belongs key.home key.pages (map entry_of places')) d (get_or s.words 17 0) (get_elem? s.homes 16)) (sym t.1)
            (subst (λ (d : Holder). TaskLies (belongs key.home key.pages (map entry_of r.places)) d (get_or s.words 17 0) (get_elem? s.homes 16)) t.1 r.task)) entries);
        held = λ i q j e own. ⊎_elim
            (λ (t : (i ≡ k) × (p' ≡ q)). let mineness = own' j (ap seat_of t.1 ∙ own) in (
              w,
              subst (λ (x : ℕ). get_elem? (set s.views me w) x ≡ some w) (sym mineness.0) (set_here s.views me w (there s.views me v mine)),
              subst (λ (x : ℕ × ℕ × Place A). claim_of x.0 w.role ≡ some (x.1, x.2)) (λ z. (sym mineness.0 z, sym t.0 z, t.1 z)) mineness.1,
            ))
            (λ (t : (i ≢ k) × (get_elem? r.places i ≡ some q)). let u = r.held i q j t.1 own in (
              u.0,
              set_else s.views me j w (λ same. t.0 (claimed i q (subst (λ (x : ℕ × View H A). claim_of x.0 x.1.role ≡ some (i, q)) (λ z. (same z, is_mine s.views me j v u.0 mine same u.1 z)) u.2))) ∙ u.1,
              u.2,
            ))
            (at_set r.places k i p' q e);
        lent = λ j e. let u = r.lent j e in dite (ℕ_discrete j me)
            (λ same. (
              w,
              subst (λ (x : ℕ). get_elem? (set s.views me w) x ≡ some w) (sym same) (set_here s.views me w (there s.views me v mine)),
              subst (λ (x : ℕ). holder_of x w.role ≡ some r.holder) (sym same) (holders ∙ subst (λ (x : ℕ × View H A). holder_of x.0 x.1.role ≡ some r.holder) (λ z. (same z, is_mine s.views me j v u.0 mine same u.1 z)) u.2),
            ))
            (λ other. (u.0, set_else s.views me j w other ∙ u.1, u.2));
        seats = seats_set (Knows key places' r.holder (get_or (set s.words (k + 1) n) 0 0)) s.views me w
            record {
              in_scope = λ sc e. knows.in_scope sc (sym scope ∙ e);
              stands = stands;
              claims = λ i q e. let t = claims i q e in subst (λ (x : ℕ × Place A). get_elem? places' x.0 ≡ some x.1) (λ z. (sym t.0 z, sym t.1 z)) (set_here r.places k p' below);
              leads = λ d e. knows.leads d (sym holders ∙ e);
              tallies = λ l e. subst (λ (x : ℕ). Tallies (map entry_of places') x l) (sym there') (tallies l e);
            }
            (λ j u other at. knows_stay key r.places places' r.holder r.holder (get_or s.words 0 0) _ j u (r.seats j u at) (λ i q sq e. place_set r.places k p p' j i q here (λ sp. other (own j sp)) sq e) (same_or j other));
        surpluses = r.surpluses;
        surplus_count = r.surplus_count;
        surplus_slots = λ i q e. surplus_at (lies_in key.home key.pages) q (sym (get_or-set_other s.words (k + 1) (i + 18) n 0 (λ z. omega arith))) (sym (set_else s.homes k (i + 17) h (λ z. omega arith))) (r.surplus_slots i q e);
        surplus_held = surplus_held_set r.surpluses s.views me v w mine idle r.surplus_held;
        handles = handles_set r.surpluses s.views me w idle' r.handles;
      }

  -- a step at the task's slot, by the seat that leads
  pub at_holder : (s : St) (r : Rule s) (n me : ℕ) (v w : View H A) (holder' : Holder) (h : opt.Option (Option (Content B T)))
      → get_elem? s.views me ≡ some v
      → holder_seat r.holder ≡ some me
      → holder_of me w.role ≡ some holder'
      → ((i : ℕ) (q : Place A) → claim_of me v.role ≡ some (i, q) → ⊥)
      → ((i : ℕ) (q : Place A) → claim_of me w.role ≡ some (i, q) → ⊥)
      → TaskLies (belongs key.home key.pages (map entry_of r.places)) holder' n (some h)
      → weight w.role ≡ weight v.role
      → w.scope ≡ v.scope
      → ((l : Lead A) → lead_of w.role ≡ some l → Tallies (map entry_of r.places) (get_or s.words 0 0) l)
      → 16 < length s.homes → surplus_claim me v.role ≡ none → surplus_claim me w.role ≡ none → Stands w.scope w.role
      → Rule record { words = set s.words 17 n; homes = set s.homes 16 h; views = set s.views me w }
  at_holder s r n me v w holder' h mine leads holders' claimed claims lies weighs scope tallies long idle idle' stands =
      let wide = r.wide in let sixteen = r.sixteen in
      let there' : get_or (set s.words 17 n) 0 0 ≡ get_or s.words 0 0 = get_or-set_other s.words 17 0 n 0 (λ e. omega arith) in
      let knows = r.seats me v mine in record {
        places = r.places;
        holder = holder';
        wide = length-set s.words 17 n ∙ wide;
        sixteen = sixteen;
        count = let t = total_set s.views me v w mine in let c = r.count in omega (arith, there', t, c, weighs);
        slots = λ i q e. let below = there r.places i q e in
            lies_at q (sym (get_or-set_other s.words 17 (i + 1) n 0 (λ z. omega arith))) (sym (set_else s.homes 16 i h (λ z. omega arith))) (r.slots i q e);
        task = task_at (belongs key.home key.pages (map entry_of r.places)) holder' (sym (get_or-set_same s.words 17 n 0 (omega arith))) (sym (set_here s.homes 16 h long)) lies;
        held = λ i q j e own. let u = r.held i q j e own in (
          u.0,
          set_else s.views me j w (λ same. claimed i q (subst (λ (x : ℕ × View H A). claim_of x.0 x.1.role ≡ some (i, q)) (λ z. (same z, is_mine s.views me j v u.0 mine same u.1 z)) u.2)) ∙ u.1,
          u.2,
        );
        lent = λ j e. let same : me ≡ j = some-injective _ _ (sym (holder_seat_of me w.role holder' holders') ∙ e) in
            (w, subst (λ (x : ℕ). get_elem? (set s.views me w) x ≡ some w) same (set_here s.views me w (there s.views me v mine)), subst (λ (x : ℕ). holder_of x w.role ≡ some holder') same holders');
        seats = seats_set (Knows key r.places holder' (get_or (set s.words 17 n) 0 0)) s.views me w
            record {
              in_scope = λ sc e. knows.in_scope sc (sym scope ∙ e);
              stands = stands;
              claims = λ i q e. absurd (claims i q e);
              leads = λ d e. some-injective _ _ (sym holders' ∙ e);
              tallies = λ l e. subst (λ (x : ℕ). Tallies (map entry_of r.places) x l) (sym there') (tallies l e);
            }
            (λ j u other at. knows_stay key r.places r.places r.holder holder' (get_or s.words 0 0) _ j u (r.seats j u at) (λ i q sq e. e) (λ d. absurd (other (some-injective _ _ (sym d ∙ leads)))));
        surpluses = r.surpluses;
        surplus_count = r.surplus_count;
        surplus_slots = λ i q e. surplus_at (lies_in key.home key.pages) q (sym (get_or-set_other s.words 17 (i + 18) n 0 (λ z. omega arith))) (sym (set_else s.homes 16 (i + 17) h (λ z. omega arith))) (r.surplus_slots i q e);
        surplus_held = surplus_held_set r.surpluses s.views me v w mine idle r.surplus_held;
        handles = handles_set r.surpluses s.views me w idle' r.handles;
      }

  -- a step that changes the count, and maybe who leads
  pub at_count : (s : St) (r : Rule s) (n me : ℕ) (v w : View H A) (holder' : Holder)
      → get_elem? s.views me ≡ some v
      → n + weight v.role ≡ get_or s.words 0 0 + weight w.role
      → ((i : ℕ) (q : Place A) → claim_of me v.role ≡ some (i, q) → ⊥)
      → ((i : ℕ) (q : Place A) → claim_of me w.role ≡ some (i, q) → ⊥)
      → ((j : ℕ) → holder_seat r.holder ≡ some j → j ≢ me → (holder' ≡ r.holder) × (n ≤ get_or s.words 0 0))
      → ((j : ℕ) → holder_seat holder' ≡ some j → j ≢ me → holder' ≡ r.holder)
      → (holder_seat holder' ≡ some me → holder_of me w.role ≡ some holder')
      → ((d : Holder) → holder_of me w.role ≡ some d → holder' ≡ d)
      → TaskLies (belongs key.home key.pages (map entry_of r.places)) holder' (get_or s.words 17 0) (get_elem? s.homes 16)
      → ((scope : Scope H) → w.scope ≡ Some scope → scope ≡ key)
      → ((l : Lead A) → lead_of w.role ≡ some l → Tallies (map entry_of r.places) n l)
      → surplus_claim me v.role ≡ none → surplus_claim me w.role ≡ none → Stands w.scope w.role
      → Rule record { words = set s.words 0 n; homes = s.homes; views = set s.views me w }
  at_count s r n me v w holder' mine counts claimed claims others tied leads' leads lies scope tallies idle idle' stands =
      let wide = r.wide in let sixteen = r.sixteen in
      let now : get_or (set s.words 0 n) 0 0 ≡ n = get_or-set_same s.words 0 n 0 (omega arith) in record {
        places = r.places;
        holder = holder';
        wide = length-set s.words 0 n ∙ wide;
        sixteen = sixteen;
        count = let t = total_set s.views me v w mine in let c = r.count in omega (arith, now, t, c, counts);
        slots = λ i q e. lies_at q (sym (get_or-set_other s.words 0 (i + 1) n 0 (λ z. omega arith))) refl (r.slots i q e);
        task = task_at (belongs key.home key.pages (map entry_of r.places)) holder' (sym (get_or-set_other s.words 0 17 n 0 (λ z. omega arith))) refl lies;
        held = λ i q j e own. let u = r.held i q j e own in (
          u.0,
          set_else s.views me j w (λ same. claimed i q (subst (λ (x : ℕ × View H A). claim_of x.0 x.1.role ≡ some (i, q)) (λ z. (same z, is_mine s.views me j v u.0 mine same u.1 z)) u.2)) ∙ u.1,
          u.2,
        );
        lent = λ j e. dite (ℕ_discrete j me)
            (λ same. (
              w,
              subst (λ (x : ℕ). get_elem? (set s.views me w) x ≡ some w) (sym same) (set_here s.views me w (there s.views me v mine)),
              subst (λ (x : ℕ). holder_of x w.role ≡ some holder') (sym same) (leads' (e ∙ ap some same)),
            ))
            (λ other. let is = tied j e other in let u = r.lent j (ap holder_seat (sym is) ∙ e) in (u.0, set_else s.views me j w other ∙ u.1, u.2 ∙ ap some (sym is)));
        seats = seats_set (Knows key r.places holder' (get_or (set s.words 0 n) 0 0)) s.views me w
            record {
              in_scope = scope;
              stands = stands;
              claims = λ i q e. absurd (claims i q e);
              leads = leads;
              tallies = λ l e. subst (λ (x : ℕ). Tallies (map entry_of r.places) x l) (sym now) (tallies l e);
            }
            (λ j u other at. knows_stay key r.places r.places r.holder holder' (get_or s.words 0 0) _ j u (r.seats j u at) (λ i q sq e. e)
            (λ d. let t = others j d other in let less = t.1 in (t.0, refl, omega (arith, now))));
        surpluses = r.surpluses;
        surplus_count = r.surplus_count;
        surplus_slots = λ i q e. surplus_at (lies_in key.home key.pages) q (sym (get_or-set_other s.words 0 (i + 18) n 0 (λ z. omega arith))) refl (r.surplus_slots i q e);
        surplus_held = surplus_held_set r.surpluses s.views me v w mine idle r.surplus_held;
        handles = handles_set r.surpluses s.views me w idle' r.handles;
      }

  -- a step that changes nothing but what the seat knows of its own steps
  pub noting : (s : St) (r : Rule s) (i me : ℕ) (v w : View H A)
      → get_elem? s.views me ≡ some v
      → weight w.role ≡ weight v.role → holder_of me w.role ≡ holder_of me v.role
      → claim_of me v.role ≡ none → claim_of me w.role ≡ none
      → ((scope : Scope H) → w.scope ≡ Some scope → scope ≡ key)
      → ((l : Lead A) → lead_of w.role ≡ some l → Tallies (map entry_of r.places) (get_or s.words 0 0) l)
      → surplus_claim me v.role ≡ none → surplus_claim me w.role ≡ none → Stands w.scope w.role
      → Rule record { words = set s.words i (get_or s.words i 0); homes = s.homes; views = set s.views me w }
  noting s r i me v w mine weighs holders claim claim' scope tallies idle idle' stands =
      subst (λ (x : List ℕ). Rule record { words = x; homes = s.homes; views = set s.views me w }) (set-get_or s.words 0 0 ∙ sym (set-get_or s.words i 0))
      (at_count s r (get_or s.words 0 0) me v w r.holder mine (omega (arith, weighs)) (λ i q e. some-ne-none (i, q) (sym e ∙ claim)) (λ i q e. some-ne-none (i, q) (sym e ∙ claim'))
      (λ j d other. (refl, omega arith)) (λ j d other. refl)
      (λ d. let u = r.lent me d in holders ∙ subst (λ (x : View H A). holder_of me x.role ≡ some r.holder) (some-injective u.0 v (sym u.1 ∙ mine)) u.2)
      (λ d e. (r.seats me v mine).leads d (sym holders ∙ e))
      r.task scope tallies idle idle' stands)

  -- a step at the surplus slot k
  pub at_surplus : (s : St) (r : Rule s) (k n me : ℕ) (v w : View H A) (q q' : Surplus) (h : opt.Option (Option (Content B T)))
      → get_elem? s.views me ≡ some v → get_elem? r.surpluses k ≡ some q
      → ((j : ℕ) → surplus_seat q ≡ some j → j ≡ me)
      → ((j : ℕ) → surplus_seat q' ≡ some j → (j ≡ me) × (surplus_claim me w.role ≡ some (k, q')))
      → ((i : ℕ) (p : Surplus) → surplus_claim me v.role ≡ some (i, p) → i ≡ k)
      → ((i : ℕ) (p : Surplus) → surplus_claim me w.role ≡ some (i, p) → (i ≡ k) × (p ≡ q'))
      → SurplusLies (lies_in key.home key.pages) q' n (some h)
      → weight w.role ≡ weight v.role → holder_of me w.role ≡ holder_of me v.role
      → ((l : Lead A) → lead_of w.role ≡ some l → Tallies (map entry_of r.places) (get_or s.words 0 0) l)
      → claim_of me v.role ≡ none → claim_of me w.role ≡ none
      → ((scope : Scope H) → w.scope ≡ Some scope → scope ≡ key)
      → k + 17 < length s.homes → Stands w.scope w.role
      → Rule record { words = set s.words (k + 18) n; homes = set s.homes (k + 17) h; views = set s.views me w }
  at_surplus s r k n me v w q q' h mine here own own' claimed claims lies weighs holders tallies idle idle' scope long stands =
      let wide = r.wide in let sixteen = r.sixteen in let many = r.surplus_count in let below = there r.surpluses k q here in
      let there' : get_or (set s.words (k + 18) n) 0 0 ≡ get_or s.words 0 0 = get_or-set_other s.words (k + 18) 0 n 0 (λ e. omega arith) in
      let knows = r.seats me v mine in
      let surpluses' : List Surplus = set r.surpluses k q' in record {
        places = r.places;
        holder = r.holder;
        wide = length-set s.words (k + 18) n ∙ wide;
        sixteen = sixteen;
        count = let t = total_set s.views me v w mine in let c = r.count in omega (arith, there', t, c, weighs);
        slots = λ i p e. let less = there r.places i p e in
            lies_at p (sym (get_or-set_other s.words (k + 18) (i + 1) n 0 (λ z. omega arith))) (sym (set_else s.homes (k + 17) i h (λ z. omega arith))) (r.slots i p e);
        task = task_at (belongs key.home key.pages (map entry_of r.places)) r.holder (sym (get_or-set_other s.words (k + 18) 17 n 0 (λ z. omega arith))) (sym (set_else s.homes (k + 17) 16 h (λ z. omega arith))) r.task;
        held = λ i p j e own. let u = r.held i p j e own in (
          u.0,
          set_else s.views me j w (λ same. some-ne-none (i, p) (sym (subst (λ (x : ℕ × View H A). claim_of x.0 x.1.role ≡ some (i, p)) (λ z. (same z, is_mine s.views me j v u.0 mine same u.1 z)) u.2) ∙ idle)) ∙ u.1,
          u.2,
        );
        lent = λ j e. let u = r.lent j e in dite (ℕ_discrete j me)
            (λ same. (
              w,
              subst (λ (x : ℕ). get_elem? (set s.views me w) x ≡ some w) (sym same) (set_here s.views me w (there s.views me v mine)),
              subst (λ (x : ℕ). holder_of x w.role ≡ some r.holder) (sym same) (holders ∙ subst (λ (x : ℕ × View H A). holder_of x.0 x.1.role ≡ some r.holder) (λ z. (same z, is_mine s.views me j v u.0 mine same u.1 z)) u.2),
            ))
            (λ other. (u.0, set_else s.views me j w other ∙ u.1, u.2));
        seats = seats_set (Knows key r.places r.holder (get_or (set s.words (k + 18) n) 0 0)) s.views me w
            record {
              in_scope = scope;
              stands = stands;
              claims = λ i p e. absurd (some-ne-none (i, p) (sym e ∙ idle'));
              leads = λ d e. knows.leads d (sym holders ∙ e);
              tallies = λ l e. subst (λ (x : ℕ). Tallies (map entry_of r.places) x l) (sym there') (tallies l e);
            }
            (λ j u other at. knows_stay key r.places r.places r.holder r.holder (get_or s.words 0 0) _ j u (r.seats j u at) (λ i p sp e. e) (λ d. (refl, refl, omega (arith, there'))));
        surpluses = surpluses';
        surplus_count = length-set r.surpluses k q' ∙ many;
        surplus_slots = λ i p e. ⊎_elim
            (λ (t : (i ≡ k) × (q' ≡ p)). subst (λ (x : ℕ × Surplus). SurplusLies (lies_in key.home key.pages) x.1 (get_or (set s.words (k + 18) n) (x.0 + 18) 0) (get_elem? (set s.homes (k + 17) h) (x.0 + 17))) (λ z. (sym t.0 z, t.1 z))
            (surplus_at (lies_in key.home key.pages) q' (sym (get_or-set_same s.words (k + 18) n 0 (omega arith))) (sym (set_here s.homes (k + 17) h long)) lies))
            (λ (t : (i ≢ k) × (get_elem? r.surpluses i ≡ some p)). let other = t.0 in
            surplus_at (lies_in key.home key.pages) p (sym (get_or-set_other s.words (k + 18) (i + 18) n 0 (λ z. other (omega arith)))) (sym (set_else s.homes (k + 17) (i + 17) h (λ z. other (omega arith)))) (r.surplus_slots i p t.1))
            (at_set r.surpluses k i q' p e);
        surplus_held = λ i p j e own''. ⊎_elim
            (λ (t : (i ≡ k) × (q' ≡ p)). let mineness = own' j (ap surplus_seat t.1 ∙ own'') in (
              w,
              subst (λ (x : ℕ). get_elem? (set s.views me w) x ≡ some w) (sym mineness.0) (set_here s.views me w (there s.views me v mine)),
              subst (λ (x : ℕ × ℕ × Surplus). surplus_claim x.0 w.role ≡ some (x.1, x.2)) (λ z. (sym mineness.0 z, sym t.0 z, t.1 z)) mineness.1,
            ))
            (λ (t : (i ≢ k) × (get_elem? r.surpluses i ≡ some p)). let u = r.surplus_held i p j t.1 own'' in (
              u.0,
              set_else s.views me j w (λ same. t.0 (claimed i p (subst (λ (x : ℕ × View H A). surplus_claim x.0 x.1.role ≡ some (i, p)) (λ z. (same z, is_mine s.views me j v u.0 mine same u.1 z)) u.2))) ∙ u.1,
              u.2,
            ))
            (at_set r.surpluses k i q' p e);
        handles = seats_set (λ j u. (i : ℕ) (p : Surplus) → surplus_claim j u.role ≡ some (i, p) → get_elem? surpluses' i ≡ some p) s.views me w
            (λ i p e. let t = claims i p e in subst (λ (x : ℕ × Surplus). get_elem? surpluses' x.0 ≡ some x.1) (λ z. (sym t.0 z, sym t.1 z)) (set_here r.surpluses k q' below))
            (λ j u other at i p e. let old = r.handles j u at i p e in set_else r.surpluses k i q' (λ same. other (own j (ap surplus_seat (some-injective _ _ (sym here ∙ (ap (get_elem? r.surpluses) (sym same) ∙ old))) ∙ surplus_claim_seat j u.role i p e))) ∙ old);
      }
