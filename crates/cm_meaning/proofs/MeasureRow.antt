-- The greatest value of a measure over a run that is computed.
use Rattle.std.proofs.Common.{◌≡◌, ℕ, zero, suc, ◌≤◌, List, [], ◌∷◌, Option, None, Some, refl, ap, subst, arith}
use Rattle.std.proofs.lemmas.Bool.{leb-true, leb-false}
use Rattle.std.specs.Prelude.{ℤ, Bool, true, false, nat_le, if◌then◌else◌}
use Rattle.cm_syntax.specs.declared.stmt.Program.{Program}
use Rattle.cm_syntax.specs.Label.{silent, ticks, prints, spawns, syncs, traps, ends, stuck}
use Rattle.cm_syntax.specs.Stack.{Stack, Destination, empty_stack}
use Rattle.cm_syntax.specs.Rest.{Control}
use Rattle.cm_syntax.specs.Step.{Move, step, inside}
use Rattle.cm_meaning.specs.End.{Done}
use Rattle.cm_meaning.specs.Elision.{here, quiet, tick, show}
use Rattle.cm_meaning.specs.Meaning.{Limits, Comes, SerialEnd, serial_step, first_control}
use Rattle.cm_meaning.specs.Measure.{IsGreatest}
use Rattle.cm_meaning.proofs.EndLaw.{prefix, halts_by}

-- the greater of two numbers, where the second one is found
abbrev raise : ℕ → Option ℕ → Option ℕ
raise n None = None
raise n (Some m) = Some (if nat_le n m then m else n)

record Raised (n : ℕ) (o : Option ℕ) (top : ℕ) : Type 0 where
  other : ℕ
  found : o ≡ Some other
  low : n ≤ top
  below : other ≤ top

some_same : (a b : ℕ) → Some a ≡ Some b → a ≡ b
some_same a b e = ap (λ z. elim z [ None ↦ a | Some q ↦ q ]) e

raised : (n : ℕ) (o : Option ℕ) (top : ℕ) → raise n o ≡ Some top → Raised n o top
raised n None top e = cc e
raised n (Some m) top e = by (nat_le n m) refl (some_same (if nat_le n m then m else n) top e)
  where
    by : (b : Bool) → nat_le n m ≡ b → (if b then m else n) ≡ top → Raised n (Some m) top
    by true l k = let a = leb-true n m l in record { other = m; found = refl; low = omega (arith, a, k); below = omega (arith, k) }
    by false l k = let a = leb-false n m l in record { other = m; found = refl; low = omega (arith, k); below = omega (arith, a, k) }

-- and which of the two it is
data Either (n : ℕ) (o : Option ℕ) (top : ℕ) : Type 0 where
  this : n ≡ top → Either n o top
  that : o ≡ Some top → Either n o top

which : (n : ℕ) (o : Option ℕ) (top : ℕ) → raise n o ≡ Some top → Either n o top
which n None top e = cc e
which n (Some m) top e = by (nat_le n m) (some_same (if nat_le n m then m else n) top e)
  where
    by : (b : Bool) → (if b then m else n) ≡ top → Either n (Some m) top
    by true k = that (ap Some k)
    by false k = this k

module _ (program : Program) (page : ℕ) (input : List ℤ) (measure : List ℕ → ℕ) where
  abbrev most_on : (Control → Stack → Option ℕ) → ℕ → Move → Option ℕ
  most_on go n (silent t g) = raise n (go t g)
  most_on go n (ticks t g) = raise n (go t g)
  most_on go n (prints v t g) = raise n (go t g)
  most_on go n _ = Some n

  abbrev pub most : (steps : ℕ) → Control → Stack → Option ℕ
  most zero c h = None
  most (suc s) c h = most_on (most s) (measure c.calls) (serial_step program page input c h)

  abbrev Runs : Control → Stack → List ℤ → ℕ → Control → Stack → Type 0
  Runs = Comes program page input

  at_step : (s : ℕ) (c : Control) (h : Stack) (x : Move) (n : ℕ) → serial_step program page input c h ≡ x → most (suc s) c h ≡ Some n → most_on (most s) (measure c.calls) x ≡ Some n
  at_step s c h x n e k = subst (λ z. most_on (most s) (measure c.calls) z ≡ Some n) e k

  most_here : (go : Control → Stack → Option ℕ) (a n : ℕ) (x : Move) → most_on go a x ≡ Some n → a ≤ n
  most_here go a n (silent t g) k = (raised a (go t g) n k).low
  most_here go a n (ticks t g) k = (raised a (go t g) n k).low
  most_here go a n (prints v t g) k = (raised a (go t g) n k).low
  most_here go a n (spawns call lent x t g) k = let e = some_same a n k in omega (arith, e)
  most_here go a n (syncs t) k = let e = some_same a n k in omega (arith, e)
  most_here go a n (traps l) k = let e = some_same a n k in omega (arith, e)
  most_here go a n (ends v) k = let e = some_same a n k in omega (arith, e)
  most_here go a n stuck k = let e = some_same a n k in omega (arith, e)

  none_found : {A : Type 0} (n : ℕ) → None ≡ Some n → A
  none_found n k = cc k

  bound : (s : ℕ) {c t : Control} {h g : Stack} {out : List ℤ} {m : ℕ} (n : ℕ) → most s c h ≡ Some n → Runs c h out m t g → measure t.calls ≤ n
  bound zero n k r = none_found n k
  bound (suc s) {c = c} {h = h} n k here = most_here (most s) (measure c.calls) n (serial_step program page input c h) k
  bound (suc s) {c = c} {h = h} n k (quiet {t = t} {g = g} e r) = let a = raised (measure c.calls) (most s t g) n (at_step s c h (silent t g) n e k) in let b = bound s a.other a.found r in let d = a.below in omega (arith, b, d)
  bound (suc s) {c = c} {h = h} n k (tick {t = t} {g = g} e r) = let a = raised (measure c.calls) (most s t g) n (at_step s c h (ticks t g) n e k) in let b = bound s a.other a.found r in let d = a.below in omega (arith, b, d)
  bound (suc s) {c = c} {h = h} n k (show {t = t} {g = g} {v = v} e r) = let a = raised (measure c.calls) (most s t g) n (at_step s c h (prints v t g) n e k) in let b = bound s a.other a.found r in let d = a.below in omega (arith, b, d)

  abbrev Meets : Control → Stack → ℕ → Type 0
  Meets c h n = (out : List ℤ) × (m : ℕ) × (t : Control) × (g : Stack) × Runs c h out m t g × (measure t.calls ≡ n)

  met_on : (go : Control → Stack → Option ℕ) → ((c : Control) (h : Stack) (n : ℕ) → go c h ≡ Some n → Meets c h n) → (c : Control) (h : Stack) (n : ℕ) → most_on go (measure c.calls) (serial_step program page input c h) ≡ Some n → Meets c h n
  met_on go meets c h n k = by (serial_step program page input c h) refl k
    where
      by : (x : Move) → serial_step program page input c h ≡ x → most_on go (measure c.calls) x ≡ Some n → Meets c h n
      by (silent t g) e k = elim (which (measure c.calls) (go t g) n k) [ this q ↦ ([], 0, c, h, here, q) | that q ↦ let m = meets t g n q in (m.0, m.1, m.2, m.3, quiet e m.4, m.5) ]
      by (ticks t g) e k = elim (which (measure c.calls) (go t g) n k) [ this q ↦ ([], 0, c, h, here, q) | that q ↦ let m = meets t g n q in (m.0, suc m.1, m.2, m.3, tick e m.4, m.5) ]
      by (prints v t g) e k = elim (which (measure c.calls) (go t g) n k) [ this q ↦ ([], 0, c, h, here, q) | that q ↦ let m = meets t g n q in (v ∷ m.0, m.1, m.2, m.3, show e m.4, m.5) ]
      by (spawns call lent x t g) e k = ([], 0, c, h, here, some_same (measure c.calls) n k)
      by (syncs t) e k = ([], 0, c, h, here, some_same (measure c.calls) n k)
      by (traps l) e k = ([], 0, c, h, here, some_same (measure c.calls) n k)
      by (ends v) e k = ([], 0, c, h, here, some_same (measure c.calls) n k)
      by stuck e k = ([], 0, c, h, here, some_same (measure c.calls) n k)

  met : (s : ℕ) (c : Control) (h : Stack) (n : ℕ) → most s c h ≡ Some n → Meets c h n
  met zero c h n k = none_found n k
  met (suc s) c h n k = met_on (most s) (met s) c h n k

-- of a run that ends by a value
pub greatest : (program : Program) (input : List ℤ) (limits : Limits) (measure : List ℕ → ℕ) (s n : ℕ) (out : List ℤ) (v : Option ℤ) (m : ℕ) → SerialEnd program input limits (Done out v m)
    → most program limits.page input measure s (first_control program limits) empty_stack ≡ Some n → IsGreatest program input limits measure n
greatest program input limits measure s n out v m done k = record {
  bound = λ out used t g r l. bound program limits.page input measure s n k r;
  met = (found.0, found.1, found.2, found.3, found.4, few found.4, found.5);
}
  where
    found : Meets program limits.page input measure (first_control program limits) empty_stack n
    found = met program limits.page input measure s (first_control program limits) empty_stack n k

    few : {t : Control} {g : Stack} {out : List ℤ} {used : ℕ} → Comes program limits.page input (first_control program limits) empty_stack out used t g → used ≤ limits.ticks
    few r = let x = (prefix Control Stack Destination (step program limits.page input) inside done.1.1 (halts_by Control Stack Destination (step program limits.page input) inside _ _ done.1.2 tt) r).sums in let y = done.1.3 in omega (arith, x, y)
