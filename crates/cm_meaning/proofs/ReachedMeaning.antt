-- Existence and reached pieces, for the steps of the language.
use Rattle.std.proofs.Common.{◌≡◌, ℕ, ◌+◌, ◌*◌, ◌<◌, ◌≤◌, List, [], ◌∷◌, length, Option, None, refl, sym, subst, arith}
use Rattle.std.proofs.Math.Nat.{lt-div-mul-add}
use Rattle.std.specs.Prelude.{◌-◌, ℤ}
use Rattle.cm_syntax.specs.declared.stmt.Program.{Program}
use Rattle.cm_syntax.specs.Label.{silent, ticks, prints, spawns, syncs, traps, ends, stuck}
use Rattle.cm_syntax.specs.Stack.{Stack, Destination, StackSum, SharesBack, settle, empty_stack}
use Rattle.cm_syntax.specs.Rest.{Item, end, idle, Control, control}
use Rattle.cm_syntax.specs.Step.{Move, step, depth, inside, call_bytes}
use Rattle.cm_meaning.specs.End.{End, Done}
use Rattle.cm_meaning.specs.Piece.{Own, itself, then, its_child}
use Rattle.cm_meaning.specs.Meaning.{Limits, Ask, Piece, Fork, Reached, Stops, AllDone, IsNeverStuck, begun, main_ask, first_control, SerialEnd}
use Rattle.cm_meaning.specs.Measure.{frame_bytes, IsGreatest, IsSerialPages, pages_of}
use Rattle.cm_meaning.specs.Activation.{IsSettled, end_count}
use Rattle.cm_meaning.specs.Law.{LowersWeight}
use Rattle.cm_meaning.specs.Weight.{weight}
use Rattle.cm_meaning.proofs.WeightLaw.{lowers}
use Rattle.cm_meaning.proofs.RunLaw.{first_settled}
use Rattle.cm_meaning.proofs.AboveLaw.{IsLevel}
use Rattle.cm_meaning.proofs.ReturnLaw.{end_is}
use Rattle.cm_meaning.proofs.ForkMeaning.{laws}
use Rattle.cm_meaning.proofs.EndLaw as finish
use Rattle.cm_meaning.proofs.ExistenceLaw as existence
use Rattle.cm_meaning.proofs.ExistenceLaw.{Fine, Lighter}
use Rattle.cm_meaning.proofs.ReachedLaw as reached

module _ (program : Program) (page : ℕ) (input : List ℤ) where
  abbrev stepped : Control → Stack → Move
  stepped = step program page input

  lighter : (c : Control) (h : Stack) → Lighter Control Stack Destination StackSum SharesBack settle depth stepped inside (laws program page input) (weight program) c (stepped c h)
  lighter c h = by (stepped c h) (lowers program page input c h)
    where
      by : (x : Move) → LowersWeight program c x → Lighter Control Stack Destination StackSum SharesBack settle depth stepped inside (laws program page input) (weight program) c x
      by (silent t g) f = f
      by (ticks t g) f = tt
      by (prints v t g) f = f
      by (spawns call lent x t g) f = (f.0, f.1)
      by (syncs t) f = f
      by (traps k) f = tt
      by (ends v) f = tt
      by stuck f = tt

  -- what is reached from a piece from which no stuck one is
  reaching : (first : Piece) → IsNeverStuck program page input first → Fine Control Stack Destination StackSum SharesBack settle depth stepped inside (laws program page input)
  reaching first never = record {
    Okay = Reached program page input first;
    not_stuck = λ r e. never _ r e;
    goes_okay = λ r g. then r g;
    child_okay = λ r n. its_child r n;
  }

  pub fork_end : (ask : Ask) → IsSettled ask.call ask.lent → IsNeverStuck program page input (begun ask) → (e : End) × (w : Stack) × Fork program page input (begun ask) e w
  unfolding laws reaching
  fork_end ask settled never =
      existence.fork_end Control Stack Destination StackSum SharesBack settle depth stepped inside (laws program page input) (weight program) lighter (reaching (begun ask) never) ask settled itself

  -- the frames and the account that the rest of a settled state comes back to
  returning : (k : List Item) (calls : List ℕ) (account : ℕ) → end_count k ≤ length calls → (less : List ℕ) × (more : ℕ) × IsLevel program page input None (control less more idle []) k calls account
  returning [] calls account l = (calls, account, (refl, refl))
  returning (end ∷ k) [] account l = absurd (omega (arith, l))
  returning (end ∷ k) (f ∷ calls) account l = returning k calls (account + call_bytes program page input f) (omega (arith, l))
  returning (_ ∷ k) calls account l = returning k calls account l

  -- nothing is left to do where a settled state is at its end
  nothing_left : (c : Control) (h : Stack) (v : Option ℤ) → IsSettled c h → stepped c h ≡ ends v → c.rest ≡ []
  nothing_left c h v settled e =
      let r = returning c.rest c.calls c.account settled.enough in
      (end_is program page input None (control r.0 r.1 idle []) c h v (record { idle_ = refl; level = r.2; holds_ = tt }) e).1

-- ---- reached pieces

module _ (program : Program) (input : List ℤ) (limits : Limits) (never : IsNeverStuck program limits.page input (begun (main_ask program limits)))
    (out : List ℤ) (v : Option ℤ) (n : ℕ) (serial : SerialEnd program input limits (Done out v n)) where
  abbrev First : Piece
  First = begun (main_ask program limits)

  same_calls : (c k : Control) (x : Destination) → (inside c x k).calls ≡ c.calls
  same_calls c k x = refl

  pub piece_ends : (p : Piece) (o : Own) → Reached program limits.page input First p → Stops program limits.page input p.start p.own p.control p.held p.log o → (p.control.rest ≡ []) × AllDone p.log
  unfolding laws reaching
  piece_ends p o r stops =
      let e = reached.reached_ends Control Stack Destination StackSum SharesBack settle depth (step program limits.page input) inside (laws program limits.page input) (weight program)
      (lighter program limits.page input) (reaching program limits.page input First never) (first_control program limits) empty_stack (List ℕ) (λ c. c.calls) same_calls limits.ticks
      (first_settled program.main (limits.stack * limits.page)) itself (out, v, n, serial.0, serial.1) p o r stops in
      (nothing_left program limits.page input p.control p.held e.1 e.3 e.2, e.0)

  pub piece_bound : (p : Piece) (measure : List ℕ → ℕ) (most : ℕ) → Reached program limits.page input First p → IsGreatest program input limits measure most → measure p.control.calls ≤ most
  unfolding laws reaching
  piece_bound p measure most r greatest =
      let e = reached.reached_frames Control Stack Destination StackSum SharesBack settle depth (step program limits.page input) inside (laws program limits.page input) (weight program)
      (lighter program limits.page input) (reaching program limits.page input First never) (first_control program limits) empty_stack (List ℕ) (λ c. c.calls) same_calls limits.ticks
      (first_settled program.main (limits.stack * limits.page)) itself (out, v, n, serial.0, serial.1) p r in
      let whole = finish.prefix Control Stack Destination (step program limits.page input) inside serial.1.1
      (finish.halts_by Control Stack Destination (step program limits.page input) inside _ _ serial.1.2 tt) e.4 in
      let sums = whole.sums in
      let fits = serial.1.3 in
      subst (λ calls. measure calls ≤ most) e.5 (greatest.bound e.0 e.1 e.2 e.3 e.4 (omega (arith, sums, fits)))

  covered : (m bytes page : ℕ) → 1 ≤ page → bytes + (page - 1) < m + page → bytes ≤ m
  covered m bytes page l e = omega (arith, l, e)

  -- so many bytes are in that many pages
  in_pages : (page bytes : ℕ) → 1 ≤ page → bytes ≤ pages_of page bytes * page
  in_pages page bytes l = covered (pages_of page bytes * page) bytes page l (lt-div-mul-add {a = bytes + (page - 1)} {b = page} l)

  pub piece_pages : (p : Piece) (pages : ℕ) → 1 ≤ limits.page → Reached program limits.page input First p → IsSerialPages program input limits pages → frame_bytes program p.control.calls ≤ pages * limits.page
  piece_pages p pages l r is =
      let bound = piece_bound p (frame_bytes program) is.0 r is.1 in
      let fits = in_pages limits.page is.0 l in
      subst (λ m. frame_bytes program p.control.calls ≤ m * limits.page) (sym is.2) (omega (arith, bound, fits))
