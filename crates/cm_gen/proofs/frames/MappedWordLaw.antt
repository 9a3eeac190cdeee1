-- Words that are mapped, and what a map of words is after a write.
use Rattle.std.proofs.Common.{◌≡◌, ◌≢◌, ℕ, Some, refl, sym, ap, subst, eq-eqb}
use Rattle.std.proofs.lemmas.Bool.{ne_eqb}
use Rattle.std.specs.Prelude.{true, false, ◌==◌, if◌then◌else◌}
use Rattle.cm_isa.specs.Machine.{with_word, writable, IsWritable, Stored, unmapped, read_only, reads}

pub own_of : (s : Stored) → IsWritable s → (v : ℕ) × (s ≡ writable v)
own_of unmapped h = absurd h
own_of (writable v) h = (v, refl)
own_of (read_only v) h = absurd h

pub is_own_at : (s : Stored) (v : ℕ) → s ≡ writable v → IsWritable s
is_own_at s v e = subst IsWritable (sym e) tt

pub same_own : (v w : ℕ) → writable v ≡ writable w → v ≡ w
same_own v w e = cc e

-- an own word may be read
pub own_reads : (s : Stored) (v : ℕ) → s ≡ writable v → reads s ≡ Some v
own_reads s v e = ap reads e

pub with_word_same : (w : ℕ → Stored) (a v : ℕ) → with_word w a v a ≡ writable v
with_word_same w a v = let e : (a == a) ≡ true = eq-eqb a a refl in rw e refl

pub with_word_other : (w : ℕ → Stored) (a v x : ℕ) → x ≢ a → with_word w a v x ≡ w x
with_word_other w a v x other = let e : (x == a) ≡ false = ne_eqb x a other in rw e refl

pub with_word_mapped : (w : ℕ → Stored) (a v x : ℕ) → IsWritable (w x) → IsWritable (with_word w a v x)
with_word_mapped w a v x h = elim (x == a) as (λ b. IsWritable (if b then writable v else w x)) [ true ↦ tt | false ↦ h ]
