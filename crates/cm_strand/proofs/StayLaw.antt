-- No frame moves, over any number of events.
use Rattle.std.proofs.Common.{◌≡◌, ℕ, suc, ◌≤◌, ◌==◌, false, length, refl, sym, ap, ◌∙◌, arith}
use Rattle.std.proofs.lemmas.Bool.{ne_eqb}
use Rattle.cm_gen.specs.StandsFor.{Spot, Moves, stays, enters, comes, goes}
use Rattle.cm_gen.specs.StandsFor.{spot_at}
use Rattle.cm_strand.specs.Walk.{Walk, rest, move, shift_low, LiveOn, frames_to}

length_ne : (n k : ℕ) → n ≤ k → (n == suc k) ≡ false
length_ne n k l = ne_eqb n (suc k) (λ e. omega (arith, e, l))

one_kept : (n : ℕ) (old middle : Spot) → Moves old middle → n ≤ length old.frames → n ≤ length middle.frames → frames_to n old.frames ≡ frames_to n middle.frames
one_kept n old middle (stays e) a b = ap (λ s. frames_to n s.frames) (sym e)
one_kept n old middle (enters q e) a b = ap (λ s. frames_to n s.frames) (sym e)
one_kept n old middle (comes F e at r) a b = sym (ap (frames_to n) e ∙ (let t = length_ne n (length old.frames) a in rw t refl))
one_kept n old middle (goes F e at r) a b = ap (frames_to n) e ∙ (let t = length_ne n (length middle.frames) b in rw t refl)

first_live : (n : ℕ) (old new : Spot) (w : Walk old new) → LiveOn n w → n ≤ length old.frames
first_live n old new rest l = l
first_live n old new (move m w) l = l.0
first_live n old new (shift_low low w) l = l.0

-- The first frames that are live all the way stay where they are, whatever events come.
pub frames_stay : (n : ℕ) (old new : Spot) (w : Walk old new) → LiveOn n w → frames_to n old.frames ≡ frames_to n new.frames
frames_stay n old _ rest l = refl
frames_stay n old new (move {middle = middle} m w) l = one_kept n old middle m l.0 (first_live n middle new w l.1) ∙ frames_stay n middle new w l.1
frames_stay n old new (shift_low low w) l = frames_stay n (spot_at old low) new w l.1

pub walks_join : (a b c : Spot) → Walk a b → Walk b c → Walk a c
walks_join a b c rest w = w
walks_join a b c (move {middle = middle} m v) w = move m (walks_join middle b c v w)
walks_join a b c (shift_low low v) w = shift_low low (walks_join _ b c v w)
