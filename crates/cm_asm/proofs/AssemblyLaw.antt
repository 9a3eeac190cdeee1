-- Laws of items: addresses, first labels, words and refusals.
use Rattle.std.proofs.Common.{◌≡◌, ◌≢◌, ℕ, suc, ◌+◌, ◌*◌, ◌%◌, ◌^◌, ◌<◌, ◌≤◌, Bool, true, false, cond, eqb, List, [], ◌∷◌, ◌++◌, length, get_or, take, Option, Some, None, Result, Ok, Err, IsSome, IfSome, option_to_list, MatchOption, slice_get, refl, ap, sym, subst, ◌∙◌, append_assoc, arith, ⊎_elim, pos, ◌-ℤ◌, ℤ}
use Rattle.std.specs.List.{position, position_or_len, sum_by}
use Rattle.std.specs.Option.{option_or, option_map}
use Rattle.indexmap.specs.IndexMap.{IndexMap, get}
use Rattle.std.proofs.lemmas.Bool.{cases_lt, cases_order, both_ways, eq-eqb}
use Rattle.std.proofs.lemmas.Bool.Decides.{nat_tests}
use Rattle.std.proofs.lemmas.List.{append-nil, length_push, length-take-le, get_or-take}
use Rattle.std.proofs.lemmas.List.Sums.{sum_by-cons, sum_by_more, position_or_len_is}
use Rattle.std.proofs.lemmas.List.Quantifiers.{position-Some}
use Rattle.std.proofs.lemmas.Option.{slice_get_within, slice_get-get_or, slice_get_past, get_or_from_slice_get}
use Rattle.cm_isa.specs.Bits.{IsSigned}
use Rattle.cm_isa.specs.Operation.{Operation, operation}
use Rattle.cm_isa.specs.Address.{AreWordsOf}
use Rattle.cm_isa.specs.declared.kind.Kind.{Kind}
use Rattle.cm_isa.specs.declared.kind.Kind.TheVariants as kinds
use Rattle.cm_asm.specs.declared.item.TheConstants.{MAX_ITEMS}
use Rattle.cm_asm.specs.declared.item.Item.{Item}
use Rattle.cm_asm.specs.declared.item.Item.TheVariants.{Plain, Label, Jump, Branch}
use Rattle.cm_asm.specs.declared.assembler.Spot.{Spot}
use Rattle.cm_asm.specs.declared.assembler.AsmRefusal.{AsmRefusal}
use Rattle.cm_asm.specs.declared.assembler.AsmRefusal.TheVariants as refusals
use Rattle.cm_asm.specs.Assembly.{size_of, address_of, is_label, label_of, distance, operation_of, operations_from, Misses, IsRefused, IsRefusedAt, AreAccepted, RefusesFirst, IsFirstRefusal, AnswersWith}
use Rattle.cm_asm.specs.Listing.{AreWords}
use Rattle.cm_isa.proofs.Image.{AreWordsOf-push}
use Rattle.cm_asm.proofs.ListLaw.{each-push, position-push, position-None, some-before, take-one_more}
use Rattle.cm_asm.specs.Label.{spot_of, AreLabels, Reaches, GivesItem, GivesAt}

-- ---- addresses

size-multiple : (item : Item) → size_of item % 4 ≡ 0
size-multiple (Plain i) = refl
size-multiple (Label n) = refl
size-multiple (Jump rd n) = refl
size-multiple (Branch kind r q n) = refl

bytes-multiple : (items : List Item) → sum_by size_of items % 4 ≡ 0
bytes-multiple [] = refl
bytes-multiple (item ∷ items) = omega (arith, sum_by-cons size_of item items, size-multiple item, bytes-multiple items)

pub address-multiple : (items : List Item) (k : ℕ) → address_of items k % 4 ≡ 0
address-multiple items k = bytes-multiple (take k items)

pub address-more : (items : List Item) (k : ℕ) (item : Item) → slice_get items k ≡ Some item → address_of items (k + 1) ≡ address_of items k + size_of item
address-more items k item e =
    sum_by_more size_of items k item (slice_get_within items k item e) ∙ ap (λ it. address_of items k + size_of it) (get_or_from_slice_get items k item item e)

pub size-small : (item : Item) → size_of item ≤ 4
size-small (Plain i) = omega arith
size-small (Label n) = omega arith
size-small (Jump rd n) = omega arith
size-small (Branch kind r q n) = omega arith

-- ---- the first label

option_map-option_or : (f : ℕ → Spot) (o : Option ℕ) (b : Bool) (k : ℕ) → option_or (option_map f o) (cond b (Some (f k)) None) ≡ option_map f (option_or o (cond b (Some k) None))
option_map-option_or f None true k = refl
option_map-option_or f None false k = refl
option_map-option_or f (Some x) b k = refl

pub labels-more : {S : Type 0} (items : List Item) (old new : IndexMap ℕ Spot S) (k : ℕ) (item : Item) (spot : Spot) → slice_get items k ≡ Some item
    → AreLabels items (take k items) old → spot ≡ spot_of items k
    → ((n : ℕ) → get eqb new n ≡ option_or (get eqb old n) (cond (is_label n item) (Some spot) None)) → AreLabels items (take (k + 1) items) new
labels-more items old new k item spot e are same step n =
    let size : length (take k items) ≡ k = length-take-le k items (let lt = slice_get_within items k item e in omega arith) in
    let p = is_label n in
    let push : position p (take k items ++ item ∷ []) ≡ option_or (position p (take k items)) (cond (p item) (Some k) None) =
    position-push p (take k items) item ∙ ap (λ m. option_or (position p (take k items)) (cond (p item) (Some m) None)) size in
    rw (step n, are n, same, take-one_more items k item e, push)
    (option_map-option_or (spot_of items) (position (is_label n) (take k items)) (is_label n item) k)

-- the first of its number has none before it
not-before_first : (p : Item → Bool) (items : List Item) (k : ℕ) (d : Item) → position p items ≡ Some k → IsSome (position p (take k items)) → ⊥
not-before_first p items k d e some =
    let found = some-before p items k d (position p (take k items)) refl some in
    let first = position-Some p items k d e in
    both_ways (p (get_or items found.0 d)) (first.2 found.0 found.1) found.3

not-before_none : (p : Item → Bool) (items : List Item) (k : ℕ) (d : Item) → position p items ≡ None → IsSome (position p (take k items)) → ⊥
not-before_none p items k d e some =
    let found = some-before p items k d (position p (take k items)) refl some in
    both_ways (p (get_or items found.0 d)) (position-None p items found.0 d e found.2) found.3

-- one that isn't the first of its number has one before it
before-later : (p : Item → Bool) (items : List Item) (k t : ℕ) (item : Item) → slice_get items k ≡ Some item → p item ≡ true → position p items ≡ Some t → t ≢ k
    → IsSome (position p (take k items))
before-later p items k t item at passes e apart =
    let first = position-Some p items t item e in
    let inside = slice_get_within items k item at in
    let here : p (get_or items k item) ≡ true = ap p (get_or_from_slice_get items k item item at) ∙ passes in
    let below : t < k =
    ⊎_elim (λ lt. lt) (λ le. absurd (both_ways (p (get_or items k item)) (first.2 k (omega arith)) here)) (cases_lt t k) in
    let size : length (take k items) ≡ k = length-take-le k items (omega arith) in
    let same : position_or_len p (take k items) ≡ t =
    position_or_len_is p (take k items) t item (omega arith)
    (λ j lt. ap p (get_or-take k items j item (omega arith)) ∙ first.2 j lt)
    (λ lt. ap p (get_or-take k items t item below) ∙ first.1) in
    let found : position p (take k items) ≡ Some t = grind (arith, nat_tests) in
    rw found refl

-- ---- what an item gives

-- what the table says of a number
looked_up : (items : List Item) (spot : Spot) (o : Option ℕ) → Some spot ≡ option_map (spot_of items) o → (t : ℕ) × (o ≡ Some t) × (spot ≡ spot_of items t)
looked_up items spot None e = absurd cc
looked_up items spot (Some t) e = (t, refl, cc)

looked_up_none : (items : List Item) (o : Option ℕ) → None ≡ option_map (spot_of items) o → o ≡ None
looked_up_none items None e = refl
looked_up_none items (Some t) e = absurd cc

pub gives-at : (items : List Item) (k : ℕ) (item : Item) (r : Result (Option ℕ) AsmRefusal) → slice_get items k ≡ Some item → GivesItem items k item r → GivesAt items k r
gives-at items k item r e h = rw e h

pub gives-doubled : (items : List Item) (k n : ℕ) (spot : Spot) → slice_get items k ≡ Some (Label n) → Some spot ≡ option_map (spot_of items) (label_of items n) → spot.at ≢ k
    → GivesItem items k (Label n) (Err (refusals.Label k))
gives-doubled items k n spot at e apart =
    let found = looked_up items spot (label_of items n) e in
    (before-later (is_label n) items k found.0 (Label n) at (eq-eqb n n refl) found.1 (λ same. apart (ap (λ s. s.at) found.2 ∙ same)), refl)

pub gives-first : (items : List Item) (k n : ℕ) (spot : Spot) → Some spot ≡ option_map (spot_of items) (label_of items n) → spot.at ≡ k
    → GivesItem items k (Label n) (Ok None)
gives-first items k n spot e here =
    let found = looked_up items spot (label_of items n) e in
    let same : label_of items n ≡ Some k = found.1 ∙ ap (λ t. Some t) (sym (ap (λ s. s.at) found.2) ∙ here) in
    (refl, λ refusal h. not-before_first (is_label n) items k (Label n) same h.0)

pub gives-none : (items : List Item) (k n : ℕ) → None ≡ option_map (spot_of items) (label_of items n) → GivesItem items k (Label n) (Ok None)
gives-none items k n e =
    (refl, λ refusal h. not-before_none (is_label n) items k (Label n) (looked_up_none items (label_of items n) e) h.0)

not-missed : (bits : ℕ) (items : List Item) (k t : ℕ) (o : Option ℕ) (refusal : AsmRefusal) → o ≡ Some t → IsSigned bits (distance items k t) → Misses bits items k o refusal → ⊥
not-missed bits items k t o refusal e fits h = (subst (λ found. Misses bits items k found refusal) e h).0 fits

missed : (bits : ℕ) (items : List Item) (k t : ℕ) (o : Option ℕ) (far : ℤ) (refusal : AsmRefusal) → o ≡ Some t → far ≡ distance items k t → (IsSigned bits far → ⊥)
    → refusal ≡ refusals.Range k far → Misses bits items k o refusal
missed bits items k t o far refusal e same wide r =
    rw e (subst (λ d. (IsSigned bits d → ⊥) × (refusal ≡ refusals.Range k d)) same (wide, r))

-- the distance to a label that was looked up
far-is : (items : List Item) (k n t address : ℕ) (spot : Spot) (far : ℤ) → label_of items n ≡ Some t → spot ≡ spot_of items t → address ≡ address_of items k
    → far ≡ pos spot.address -ℤ pos address → far ≡ distance items k t
far-is items k n t address spot far e same p f =
    f ∙ ap (λ s. pos s.address -ℤ pos address) same ∙ ap (λ from. pos (address_of items t) -ℤ pos from) p

pub gives-jump : (items : List Item) (k rd n address : ℕ) (spot : Spot) (far : ℤ) (r : Result (Option ℕ) AsmRefusal)
    → Some spot ≡ option_map (spot_of items) (label_of items n) → address ≡ address_of items k → far ≡ pos spot.address -ℤ pos address
    → Reaches 21 (operation kinds.Jal rd 0 0 far) k far r → GivesItem items k (Jump rd n) r
gives-jump items k rd n address spot far (Ok None) e p f h = absurd h
gives-jump items k rd n address spot far (Ok (Some w)) e p f h =
    let found = looked_up items spot (label_of items n) e in
    let same = far-is items k n found.0 address spot far found.1 found.2 p f in
    let made : ℤ → Operation = λ d. operation kinds.Jal rd 0 0 d in (
      made far,
      ap (option_map (λ t. made (distance items k t))) found.1 ∙ ap (λ d. Some (made d)) (sym same),
      h.0,
      λ refusal refused. not-missed 21 items k found.0 (label_of items n) refusal found.1 (subst (λ d. IsSigned 21 d) same h.1) refused,
    )
gives-jump items k rd n address spot far (Err refusal) e p f h =
    let found = looked_up items spot (label_of items n) e in
    missed 21 items k found.0 (label_of items n) far refusal found.1 (far-is items k n found.0 address spot far found.1 found.2 p f) h.0 h.1

pub gives-branch : (items : List Item) (k : ℕ) (kind : Kind) (rs1 rs2 n address : ℕ) (spot : Spot) (far : ℤ) (r : Result (Option ℕ) AsmRefusal)
    → Some spot ≡ option_map (spot_of items) (label_of items n) → address ≡ address_of items k → far ≡ pos spot.address -ℤ pos address
    → Reaches 13 (operation kind 0 rs1 rs2 far) k far r → GivesItem items k (Branch kind rs1 rs2 n) r
gives-branch items k kind rs1 rs2 n address spot far (Ok None) e p f h = absurd h
gives-branch items k kind rs1 rs2 n address spot far (Ok (Some w)) e p f h =
    let found = looked_up items spot (label_of items n) e in
    let same = far-is items k n found.0 address spot far found.1 found.2 p f in
    let made : ℤ → Operation = λ d. operation kind 0 rs1 rs2 d in (
      made far,
      ap (option_map (λ t. made (distance items k t))) found.1 ∙ ap (λ d. Some (made d)) (sym same),
      h.0,
      λ refusal refused. not-missed 13 items k found.0 (label_of items n) refusal found.1 (subst (λ d. IsSigned 13 d) same h.1) refused,
    )
gives-branch items k kind rs1 rs2 n address spot far (Err refusal) e p f h =
    let found = looked_up items spot (label_of items n) e in
    missed 13 items k found.0 (label_of items n) far refusal found.1 (far-is items k n found.0 address spot far found.1 found.2 p f) h.0 h.1

pub gives-missing_jump : (items : List Item) (k rd n : ℕ) → None ≡ option_map (spot_of items) (label_of items n) → GivesItem items k (Jump rd n) (Err (refusals.Label k))
gives-missing_jump items k rd n e = rw (looked_up_none items (label_of items n) e) refl

pub gives-missing_branch : (items : List Item) (k : ℕ) (kind : Kind) (rs1 rs2 n : ℕ) → None ≡ option_map (spot_of items) (label_of items n)
    → GivesItem items k (Branch kind rs1 rs2 n) (Err (refusals.Label k))
gives-missing_branch items k kind rs1 rs2 n e = rw (looked_up_none items (label_of items n) e) refl

-- the address of a label that was looked up is a multiple of 4
pub spot-multiple : (items : List Item) (n : ℕ) (spot : Spot) → Some spot ≡ option_map (spot_of items) (label_of items n) → spot.address % 4 ≡ 0
spot-multiple items n spot e =
    let found = looked_up items spot (label_of items n) e in
    ap (λ s. s.address % 4) found.2 ∙ address-multiple items found.0

-- ---- refusals

pub IsRefusedAt-inside : (items : List Item) (k : ℕ) (refusal : AsmRefusal) → IsRefusedAt items k refusal → k < length items
IsRefusedAt-inside items k refusal h =
    ⊎_elim (λ lt. lt) (λ le. absurd (subst (λ o. MatchOption o ⊥ (λ item. IsRefused items k item refusal)) (slice_get_past items k le) h)) (cases_lt k (length items))

misses-one : (bits : ℕ) (items : List Item) (k : ℕ) (o : Option ℕ) (a b : AsmRefusal) → Misses bits items k o a → Misses bits items k o b → a ≡ b
misses-one bits items k None a b h j = h ∙ sym j
misses-one bits items k (Some t) a b h j = h.1 ∙ sym j.1

refused-one : (items : List Item) (k : ℕ) (item : Item) (a b : AsmRefusal) → IsRefused items k item a → IsRefused items k item b → a ≡ b
refused-one items k (Plain i) a b h j = absurd h
refused-one items k (Label n) a b h j = h.1 ∙ sym j.1
refused-one items k (Jump rd n) a b h j = misses-one 21 items k (label_of items n) a b h j
refused-one items k (Branch kind r q n) a b h j = misses-one 13 items k (label_of items n) a b h j

refused_at-one : (items : List Item) (k : ℕ) (o : Option Item) (a b : AsmRefusal) → MatchOption o ⊥ (λ item. IsRefused items k item a) → MatchOption o ⊥ (λ item. IsRefused items k item b) → a ≡ b
refused_at-one items k None a b h j = absurd h
refused_at-one items k (Some item) a b h j = refused-one items k item a b h j

pub RefusesFirst-one : (items : List Item) (a b : AsmRefusal) → RefusesFirst items a → RefusesFirst items b → a ≡ b
RefusesFirst-one items a b h j =
    ⊎_elim
    (λ same. refused_at-one items h.at (slice_get items h.at) a b h.here (subst (λ k. IsRefusedAt items k b) (sym same) j.here))
    (λ apart. ⊎_elim (λ lt. absurd (j.before h.at a lt h.here)) (λ gt. absurd (h.before j.at b gt j.here)) apart)
    (cases_order h.at j.at)

pub first-refusal : (items : List Item) (k : ℕ) (refusal : AsmRefusal) → GivesAt items k (Err refusal)
    → ((j : ℕ) (other : AsmRefusal) → j < k → IsRefusedAt items j other → ⊥) → RefusesFirst items refusal
first-refusal items k refusal h fine = record { at = k; here = h; before = fine }

answers : (refusal given : AsmRefusal) → given ≡ refusal → AnswersWith refusal (Err given)
answers refusal (refusals.Label at) e = e
answers refusal (refusals.Range at far) e = e
answers refusal refusals.Memory e = tt

pub AnswersWith-from : (items : List Item) (given refusal : AsmRefusal) → RefusesFirst items given → RefusesFirst items refusal → AnswersWith refusal (Err given)
AnswersWith-from items given refusal h j = answers refusal given (RefusesFirst-one items given refusal h j)

pub none-refused : (items : List Item) → ((k : ℕ) (other : AsmRefusal) → k < length items → IsRefusedAt items k other → ⊥) → (refusal : AsmRefusal) → RefusesFirst items refusal → ⊥
none-refused items fine refusal h = fine h.at refusal (IsRefusedAt-inside items h.at refusal h.here) h.here

-- one item more that isn't refused
pub fine-more : (items : List Item) (k : ℕ) (item : Item) → slice_get items k ≡ Some item → ((refusal : AsmRefusal) → IsRefused items k item refusal → ⊥)
    → ((j : ℕ) (other : AsmRefusal) → j < k → IsRefusedAt items j other → ⊥) → (j : ℕ) (other : AsmRefusal) → j < k + 1 → IsRefusedAt items j other → ⊥
fine-more items k item e here fine j other lt =
    ⊎_elim
    (λ below. fine j other below)
    (λ above h.
    let same : j ≡ k = omega arith in
    here other (subst (λ o. MatchOption o ⊥ (λ it. IsRefused items k it other)) e (subst (λ i. IsRefusedAt items i other) same h)))
    (cases_lt j k)

-- ---- words

pub operations_from-push : (items : List Item) (k : ℕ) (rest : List Item) (item : Item)
    → operations_from items k (rest ++ item ∷ []) ≡ operations_from items k rest ++ option_to_list (operation_of items (k + length rest) item)
operations_from-push items k [] item =
    let same : k + 0 ≡ k = omega arith in rw same (append-nil (option_to_list (operation_of items k item)))
operations_from-push items k (first ∷ rest) item =
    let same : k + 1 + length rest ≡ k + suc (length rest) = omega arith in
    rw (operations_from-push items (k + 1) rest item, same)
    (sym (append_assoc (option_to_list (operation_of items k first)) (operations_from items (k + 1) rest) (option_to_list (operation_of items (k + suc (length rest)) item))))

-- ---- the items so far

-- the words are those of the items before the index k, none of which is refused
pub record IsAssembledTo (items : List Item) (k : ℕ) (words : List ℕ) : Type 0 where
  pub words_of : AreWordsOf words (operations_from items 0 (take k items))
  pub address : address_of items k ≡ 4 * length words
  pub few : length words ≤ k
  pub each : (j : ℕ) → get_or words j 0 < 2 ^ 32
  pub fine : (j : ℕ) (refusal : AsmRefusal) → j < k → IsRefusedAt items j refusal → ⊥

no-label : (made : ℕ → Operation) (o : Option ℕ) → option_map made o ≡ None → o ≡ None
no-label made None e = refl
no-label made (Some t) e = absurd cc

-- an item without an instruction that isn't refused is a label
size-none : (items : List Item) (k : ℕ) (item : Item) → operation_of items k item ≡ None → ((refusal : AsmRefusal) → IsRefused items k item refusal → ⊥) → size_of item ≡ 0
size-none items k (Plain i) e fine = absurd cc
size-none items k (Label n) e fine = refl
size-none items k (Jump rd n) e fine = absurd (fine (refusals.Label k) (rw (no-label _ (label_of items n) e) refl))
size-none items k (Branch kind r q n) e fine = absurd (fine (refusals.Label k) (rw (no-label _ (label_of items n) e) refl))

size-some : (items : List Item) (k : ℕ) (item : Item) (i : Operation) → operation_of items k item ≡ Some i → size_of item ≡ 4
size-some items k (Plain i) j e = refl
size-some items k (Label n) j e = absurd cc
size-some items k (Jump rd n) j e = refl
size-some items k (Branch kind r q n) j e = refl

-- the instructions of one item more
operations-more : (items : List Item) (k : ℕ) (item : Item) → slice_get items k ≡ Some item
    → operations_from items 0 (take (k + 1) items) ≡ operations_from items 0 (take k items) ++ option_to_list (operation_of items k item)
operations-more items k item e =
    let inside = slice_get_within items k item e in
    let size : 0 + length (take k items) ≡ k = omega (arith, length-take-le k items (omega arith)) in
    let push = operations_from-push items 0 (take k items) item in
    ap (λ all. operations_from items 0 all) (take-one_more items k item e) ∙ push
    ∙ ap (λ at. operations_from items 0 (take k items) ++ option_to_list (operation_of items at item)) size

assembled-item : (items : List Item) (k : ℕ) (words next : List ℕ) (given : Option ℕ) (item : Item) → slice_get items k ≡ Some item
    → GivesItem items k item (Ok given) → IfSome given (λ w. w < 2 ^ 32) → next ≡ words ++ option_to_list given → IsAssembledTo items k words → IsAssembledTo items (k + 1) next
assembled-item items k words next None item e h small f so_far =
    let same : next ≡ words = f ∙ append-nil words in
    let more : operations_from items 0 (take (k + 1) items) ≡ operations_from items 0 (take k items) =
    operations-more items k item e ∙ ap (λ o. operations_from items 0 (take k items) ++ option_to_list o) h.0 ∙ append-nil (operations_from items 0 (take k items)) in
    let address = address-more items k item e in
    let size = size-none items k item h.0 h.1 in
    record {
      words_of = rw (same, more) so_far.words_of;
      address = rw same (let was = so_far.address in omega arith);
      few = rw same (let was = so_far.few in omega arith);
      each = rw same so_far.each;
      fine = fine-more items k item e h.1 so_far.fine;
    }
assembled-item items k words next (Some w) item e h small f so_far =
    let i = h.0 in
    let more : operations_from items 0 (take (k + 1) items) ≡ operations_from items 0 (take k items) ++ i ∷ [] =
    operations-more items k item e ∙ ap (λ o. operations_from items 0 (take k items) ++ option_to_list o) h.1 in
    let address = address-more items k item e in
    let size = size-some items k item i h.1 in
    let longer = length_push words w in
    record {
      words_of = rw (f, more) (AreWordsOf-push words (operations_from items 0 (take k items)) w i so_far.words_of h.2);
      address = rw f (let was = so_far.address in omega arith);
      few = rw f (let was = so_far.few in omega arith);
      each = rw f (each-push words w so_far.each small);
      fine = fine-more items k item e h.3 so_far.fine;
    }

assembled-at : (items : List Item) (k : ℕ) (words next : List ℕ) (given : Option ℕ) (o : Option Item) → slice_get items k ≡ o
    → MatchOption o ⊥ (λ item. GivesItem items k item (Ok given)) → IfSome given (λ w. w < 2 ^ 32) → next ≡ words ++ option_to_list given → IsAssembledTo items k words → IsAssembledTo items (k + 1) next
assembled-at items k words next given None e h small f so_far = absurd h
assembled-at items k words next given (Some item) e h small f so_far = assembled-item items k words next given item e h small f so_far

-- one item more
pub assembled-more : (items : List Item) (k : ℕ) (words next : List ℕ) (given : Option ℕ) → GivesAt items k (Ok given) → IfSome given (λ w. w < 2 ^ 32)
    → next ≡ words ++ option_to_list given → IsAssembledTo items k words → IsAssembledTo items (k + 1) next
assembled-more items k words next given h small f so_far = assembled-at items k words next given (slice_get items k) refl h small f so_far

-- no item is refused
pub all-fine : (items : List Item) → ((k : ℕ) (refusal : AsmRefusal) → k < length items → IsRefusedAt items k refusal → ⊥) → AreAccepted items
all-fine items fine = λ k refusal h. fine k refusal (IsRefusedAt-inside items k refusal h) h

-- all items
pub all-assembled : (items : List Item) (k : ℕ) (words : List ℕ) → length items ≤ MAX_ITEMS → k ≤ length items → IsAssembledTo items k words → AreWords words
all-assembled items k words few inside so_far = record { few = let short = so_far.few in omega arith; each = so_far.each }

-- the item that was read
pub found-at : (items : List Item) (k : ℕ) (d item : Item) → k < length items → get_or items k d ≡ item → slice_get items k ≡ Some item
found-at items k d item inside e = slice_get-get_or items k d inside ∙ ap (λ it. Some it) e
