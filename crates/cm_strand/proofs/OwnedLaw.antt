-- The laws of owned words: all that the other proofs know of them.
use Rattle.std.proofs.Common.{◌≡◌, ℕ, Bool, true, false, Option, None, Some, refl, sym, ap, ◌∙◌, subst}
use Rattle.std.proofs.lemmas.Bool.{eqb-true}
use Rattle.std.specs.Prelude.{◌==◌, if◌then◌else◌, IsSome}
use Rattle.cm_share.specs.Share.{Share, whole, part}
use Rattle.cm_share.proofs.ShareLaw.{share_comm, share_assoc, share_same, whole_alone}
use Rattle.cm_isa.specs.Machine.{Mapped, Stored, unmapped, writable, read_only, reads, IsWritable, with_word}
use Rattle.cm_isa.specs.Run.{Extends}
use Rattle.cm_strand.specs.Owned.{Held, nothing, held, share_of, stored, with_value, HeldSum, PartSum, Owned, Claim, seen, claim, no_words, no_claim, OwnedSum, ClaimSum, MayWrite, Lacks, put}

-- ---- shares of one word

part_commutes : (a b c : Option Share) → PartSum a b c → PartSum b a c
part_commutes None None c e = e
part_commutes None (Some p) c e = e
part_commutes (Some q) None c e = e
part_commutes (Some q) (Some p) c (r, s, e) = (r, share_comm s, e)

part_one : (a b c d : Option Share) → PartSum a b c → PartSum a b d → c ≡ d
part_one None b c d e f = e ∙ sym f
part_one (Some q) None c d e f = e ∙ sym f
part_one (Some q) (Some p) c d (r, s, e) (t, u, f) = e ∙ (ap Some (share_same s u) ∙ sym f)

part_pair : (a b c s t : Option Share) → PartSum a b s → PartSum s c t → (u : Option Share) × PartSum b c u × PartSum a u t
part_pair None b c s t e f = (t, subst (λ x. PartSum x c t) e f, refl)
part_pair (Some q) None c s t e f = by c (subst (λ x. PartSum x c t) e f)
  where
    by : (c : Option Share) → PartSum (Some q) c t → (u : Option Share) × PartSum None c u × PartSum (Some q) u t
    by None g = (None, refl, g)
    by (Some p) g = (Some p, refl, g)
part_pair (Some q) (Some p) c s t (r, sum, e) f = by c (subst (λ x. PartSum x c t) e f)
  where
    by : (c : Option Share) → PartSum (Some r) c t → (u : Option Share) × PartSum (Some p) c u × PartSum (Some q) u t
    by None g = (Some p, refl, (r, sum, g))
    by (Some o) (l, more, g) = let z = share_assoc sum more in (Some z.0, (z.0, z.1, refl), (l, z.2, g))

-- what the sum has whole, and the second claim nothing of, the first one has
part_rest : (a b c : Option Share) → PartSum a b c → c ≡ Some whole → b ≡ None → a ≡ Some whole
part_rest None b c e t f = sym f ∙ (sym e ∙ t)
part_rest (Some q) None c e t f = sym e ∙ t
part_rest (Some q) (Some p) c e t f = absurd (some_none f)
  where
    some_none : ◌≡◌ {A = Option Share} (Some p) None → ⊥
    some_none g = cc

part_none : (a b c : Option Share) → PartSum a b c → a ≡ None → b ≡ None → c ≡ None
part_none None b c e f g = e ∙ g
part_none (Some q) b c e f g = absurd (some_none f)
  where
    some_none : ◌≡◌ {A = Option Share} (Some q) None → ⊥
    some_none h = cc

-- beside the whole nobody has anything
part_alone : (a b c : Option Share) → PartSum a b c → a ≡ Some whole → b ≡ None
part_alone a None c e f = refl
part_alone a (Some p) c e f = by (subst (λ x. PartSum x (Some p) c) f e)
  where
    by : PartSum (Some whole) (Some p) c → Some p ≡ None
    by (r, s, g) = absurd (whole_alone s)

-- and the sum has the whole
part_whole : (a b c : Option Share) → PartSum a b c → a ≡ Some whole → c ≡ Some whole
part_whole a None c e f = by a e f
  where
    by : (a : Option Share) → PartSum a None c → a ≡ Some whole → c ≡ Some whole
    by None g h = g ∙ h
    by (Some q) g h = g ∙ h
part_whole a (Some p) c e f = by (subst (λ x. PartSum x (Some p) c) f e)
  where
    by : PartSum (Some whole) (Some p) c → c ≡ Some whole
    by (r, s, g) = absurd (whole_alone s)

-- ---- one word

held_shares : (a b c : Held) → HeldSum a b c → PartSum (share_of a) (share_of b) (share_of c)
held_shares nothing b c e = ap share_of e
held_shares (held q v) nothing c e = ap share_of e
held_shares (held q v) (held p w) c (same, r, s, e) = (r, s, ap share_of e)

held_commutes : (a b c : Held) → HeldSum a b c → HeldSum b a c
held_commutes nothing nothing c e = e
held_commutes nothing (held p w) c e = e
held_commutes (held q v) nothing c e = e
held_commutes (held q v) (held p w) c (same, r, s, e) = (sym same, r, share_comm s, e ∙ ap (held r) (sym same))

held_pair : (a b c s t : Held) → HeldSum a b s → HeldSum s c t → (u : Held) × HeldSum b c u × HeldSum a u t
held_pair nothing b c s t e f = (t, subst (λ x. HeldSum x c t) e f, refl)
held_pair (held q v) nothing c s t e f = by c (subst (λ x. HeldSum x c t) e f)
  where
    by : (c : Held) → HeldSum (held q v) c t → (u : Held) × HeldSum nothing c u × HeldSum (held q v) u t
    by nothing g = (nothing, refl, g)
    by (held p w) g = (held p w, refl, g)
held_pair (held q v) (held p w) c s t (same, r, sum, e) f = by c (subst (λ x. HeldSum x c t) e f)
  where
    by : (c : Held) → HeldSum (held r v) c t → (u : Held) × HeldSum (held p w) c u × HeldSum (held q v) u t
    by nothing g = (held p w, refl, (same, r, sum, g))
    by (held o x) (alike, l, more, g) =
        let z = share_assoc sum more in (held z.0 w, (alike ∙ sym same, z.0, z.1, refl), (same, l, z.2, g))

-- the sum keeps what may be written, and what may be read
stored_part : (r : Share) (v n : ℕ) → reads (stored (held r v)) ≡ Some v
stored_part whole v n = refl
stored_part (part p) v n = refl

held_writable : (a b c : Held) (n : ℕ) → HeldSum a b c → stored a ≡ writable n → stored c ≡ writable n
held_writable nothing b c n e f = absurd (differ f)
  where
    differ : unmapped ≡ writable n → ⊥
    differ g = cc
held_writable (held q v) nothing c n e f = ap stored e ∙ f
held_writable (held whole v) (held p w) c n (same, r, s, e) f = absurd (whole_alone s)
held_writable (held (part q) v) (held p w) c n (same, r, s, e) f = absurd (differ f)
  where
    differ : read_only v ≡ writable n → ⊥
    differ g = cc

word_is : (v n : ℕ) → read_only v ≡ read_only n → v ≡ n
word_is v n e = cc

held_readable : (a b c : Held) (n : ℕ) → HeldSum a b c → stored a ≡ read_only n → reads (stored c) ≡ Some n
held_readable nothing b c n e f = absurd (differ f)
  where
    differ : unmapped ≡ read_only n → ⊥
    differ g = cc
held_readable (held q v) nothing c n e f = ap (λ x. reads (stored x)) e ∙ ap reads f
held_readable (held whole v) (held p w) c n (same, r, s, e) f = absurd (whole_alone s)
held_readable (held (part q) v) (held p w) c n (same, r, s, e) f =
    ap (λ x. reads (stored x)) e ∙ (stored_part r v n ∙ ap Some (word_is v n f))

-- ---- claims

pub claims_commute : (a b c : Claim) → ClaimSum a b c → ClaimSum b a c
unfolding Claim ClaimSum
claims_commute a b c h = λ x. part_commutes (a x) (b x) (c x) (h x)

pub one_claim : (a b c d : Claim) → ClaimSum a b c → ClaimSum a b d → c ≡ d
unfolding Claim ClaimSum
one_claim a b c d h g = λ i x. part_one (a x) (b x) (c x) (d x) (h x) (g x) i

pub claims_pair : (a b c s t : Claim) → ClaimSum a b s → ClaimSum s c t → (u : Claim) × ClaimSum b c u × ClaimSum a u t
unfolding Claim ClaimSum
claims_pair a b c s t h g = (
  λ x. (part_pair (a x) (b x) (c x) (s x) (t x) (h x) (g x)).0,
  λ x. (part_pair (a x) (b x) (c x) (s x) (t x) (h x) (g x)).1,
  λ x. (part_pair (a x) (b x) (c x) (s x) (t x) (h x) (g x)).2,
)

pub claims_none : (a : Claim) → ClaimSum no_claim a a
unfolding Claim ClaimSum no_claim
claims_none a = λ x. refl

-- a + (b + c) as (a + c) + b
pub reorder : (a b c s t : Claim) → ClaimSum b c s → ClaimSum a s t → (u : Claim) × ClaimSum a c u × ClaimSum u b t
reorder a b c s t p q =
    let x = claims_pair b c a s t p (claims_commute a s t q) in
    (x.0, claims_commute c a x.0 x.1, claims_commute b x.0 t x.2)

-- a word that the sum has whole and the second claim lacks, the first one has
pub may_write_first : (a b c : Claim) (x : ℕ) → ClaimSum a b c → MayWrite c x → Lacks b x → MayWrite a x
unfolding Claim ClaimSum MayWrite Lacks
may_write_first a b c x h t f = part_rest (a x) (b x) (c x) (h x) t f

pub lacks_both : (a b c : Claim) (x : ℕ) → ClaimSum a b c → Lacks a x → Lacks b x → Lacks c x
unfolding Claim ClaimSum Lacks
lacks_both a b c x h f g = part_none (a x) (b x) (c x) (h x) f g

pub lacks_none : (x : ℕ) → Lacks no_claim x
unfolding Claim Lacks no_claim
lacks_none x = refl

-- who may write a word has it alone
pub written_alone : (a b c : Claim) (x : ℕ) → ClaimSum a b c → MayWrite a x → Lacks b x
unfolding Claim ClaimSum MayWrite Lacks
written_alone a b c x h f = part_alone (a x) (b x) (c x) (h x) f

-- and the sum has the whole
pub whole_of_sum : (a b c : Claim) (x : ℕ) → ClaimSum a b c → MayWrite a x → MayWrite c x
unfolding Claim ClaimSum MayWrite
whole_of_sum a b c x h f = part_whole (a x) (b x) (c x) (h x) f

-- ---- owned words

pub claim_sum : (a b c : Owned) → OwnedSum a b c → ClaimSum (claim a) (claim b) (claim c)
unfolding Owned Claim OwnedSum ClaimSum claim
claim_sum a b c h = λ x. held_shares (a x) (b x) (c x) (h x)

pub sums_commute : (a b c : Owned) → OwnedSum a b c → OwnedSum b a c
unfolding Owned OwnedSum
sums_commute a b c h = λ x. held_commutes (a x) (b x) (c x) (h x)

pub sums_pair : (a b c s t : Owned) → OwnedSum a b s → OwnedSum s c t → (u : Owned) × OwnedSum b c u × OwnedSum a u t
unfolding Owned OwnedSum
sums_pair a b c s t h g = (
  λ x. (held_pair (a x) (b x) (c x) (s x) (t x) (h x) (g x)).0,
  λ x. (held_pair (a x) (b x) (c x) (s x) (t x) (h x) (g x)).1,
  λ x. (held_pair (a x) (b x) (c x) (s x) (t x) (h x) (g x)).2,
)

-- a + (b + c) as (a + c) + b
pub reorder_sums : (a b c s t : Owned) → OwnedSum b c s → OwnedSum a s t → (u : Owned) × OwnedSum a c u × OwnedSum u b t
reorder_sums a b c s t p q =
    let x = sums_pair b c a s t p (sums_commute a s t q) in
    (x.0, sums_commute c a x.0 x.1, sums_commute b x.0 t x.2)

pub sum_extends : (a b c : Owned) → OwnedSum a b c → Extends (seen a) (seen c)
unfolding Owned OwnedSum seen
sum_extends a b c h = record {
  keeps_writable = λ x n e. held_writable (a x) (b x) (c x) n (h x) e;
  keeps_readable = λ x n e. held_readable (a x) (b x) (c x) n (h x) e;
}

pub no_words_claim : claim no_words ≡ no_claim
unfolding Owned Claim claim no_words no_claim
no_words_claim = refl

pub sum_none : (a : Owned) → OwnedSum no_words a a
unfolding Owned OwnedSum no_words
sum_none a = λ x. refl

-- nothing more is the same
pub sum_none_is : (a b : Owned) → OwnedSum no_words a b → b ≡ a
unfolding Owned OwnedSum no_words
sum_none_is a b h = λ i x. h x i

-- ---- a written word

written : (h : Held) (v : ℕ) → share_of h ≡ Some whole → stored (with_value h v) ≡ writable v
written nothing v e = absurd (differ e)
  where
    differ : ◌≡◌ {A = Option Share} None (Some whole) → ⊥
    differ f = cc
written (held whole w) v e = refl
written (held (part p) w) v e = absurd (differ e)
  where
    differ : ◌≡◌ {A = Option Share} (Some (part p)) (Some whole) → ⊥
    differ f = cc

share_kept : (h : Held) (v : ℕ) → share_of (with_value h v) ≡ share_of h
share_kept nothing v = refl
share_kept (held q w) v = refl

pub put_seen : (w : Owned) (a v : ℕ) → MayWrite (claim w) a → seen (put w a v) ≡ with_word (seen w) a v
unfolding Owned Claim claim seen put MayWrite
put_seen w a v may = λ i x. at x (x == a) refl i
  where
    at : (x : ℕ) (same : Bool) → (x == a) ≡ same → stored (if x == a then with_value (w x) v else w x) ≡ with_word (λ y. stored (w y)) a v x
    at x true e = rw e (written (w x) v (ap (λ y. share_of (w y)) (eqb-true x a e) ∙ may))
    at x false e = rw e refl

pub put_claim : (w : Owned) (a v : ℕ) → claim (put w a v) ≡ claim w
unfolding Owned Claim claim put
put_claim w a v = λ i x. at x (x == a) i
  where
    at : (x : ℕ) (same : Bool) → share_of (if same then with_value (w x) v else w x) ≡ share_of (w x)
    at x true = share_kept (w x) v
    at x false = refl

-- what may be written is seen so
is_written : (h : Held) → share_of h ≡ Some whole → IsWritable (stored h)
is_written nothing e = absurd (differ e)
  where
    differ : ◌≡◌ {A = Option Share} None (Some whole) → ⊥
    differ f = cc
is_written (held whole w) e = tt
is_written (held (part p) w) e = absurd (differ e)
  where
    differ : ◌≡◌ {A = Option Share} (Some (part p)) (Some whole) → ⊥
    differ f = cc

pub seen_where_claimed : (w : Owned) (x : ℕ) → MayWrite (claim w) x → IsWritable (seen w x)
unfolding Owned Claim MayWrite claim seen
seen_where_claimed w x h = is_written (w x) h

-- and nothing else may be written
is_whole : (h : Held) → IsWritable (stored h) → share_of h ≡ Some whole
is_whole nothing e = absurd e
is_whole (held whole w) e = refl
is_whole (held (part p) w) e = absurd e

pub claimed_where_written : (w : Owned) (x : ℕ) → IsWritable (seen w x) → MayWrite (claim w) x
unfolding Owned Claim MayWrite claim seen
claimed_where_written w x h = is_whole (w x) h

-- what is claimed may be read, and nothing else
is_read : (h : Held) → (share_of h ≡ None → ⊥) → IsSome (reads (stored h))
is_read nothing e = absurd (e refl)
is_read (held whole w) e = refl
is_read (held (part p) w) e = refl

pub read_where_claimed : (w : Owned) (x : ℕ) → (Lacks (claim w) x → ⊥) → IsSome (reads (seen w x))
unfolding Owned Claim Lacks claim seen
read_where_claimed w x h = is_read (w x) h

is_unread : (h : Held) → share_of h ≡ None → reads (stored h) ≡ None
is_unread nothing e = refl
is_unread (held q w) e = absurd (differ e)
  where
    differ : ◌≡◌ {A = Option Share} (Some q) None → ⊥
    differ f = cc

pub unread_where_lacking : (w : Owned) (x : ℕ) → Lacks (claim w) x → reads (seen w x) ≡ None
unfolding Owned Claim Lacks claim seen
unread_where_lacking w x h = is_unread (w x) h

-- ---- more words than others

read_on : (a b : Mapped) → Extends a b → (x n : ℕ) (s : Stored) → a x ≡ s → reads s ≡ Some n → reads (b x) ≡ Some n
read_on a b h x n unmapped e r = absurd (none_some r)
  where
    none_some : ◌≡◌ {A = Option ℕ} None (Some n) → ⊥
    none_some f = cc
read_on a b h x n (writable w) e r = ap reads (h.keeps_writable x w e) ∙ r
read_on a b h x n (read_only w) e r = h.keeps_readable x w e ∙ r

pub extends_same : (a : Mapped) → Extends a a
extends_same a = record { keeps_writable = λ x n e. e; keeps_readable = λ x n e. ap reads e }

pub extends_through : (a b c : Mapped) → Extends a b → Extends b c → Extends a c
extends_through a b c f g = record {
  keeps_writable = λ x n e. g.keeps_writable x n (f.keeps_writable x n e);
  keeps_readable = λ x n e. read_on b c g x n (b x) refl (f.keeps_readable x n e);
}
