-- The steps of the language meet the laws that fork and join ask for.
use Rattle.std.proofs.Common.{◌≡◌, ℕ, suc, ◌≤◌, List, [], ◌∷◌, length, Option, sym, subst, arith}
use Rattle.std.specs.Prelude.{◌-◌, ◌*◌, ℤ}
use Rattle.cm_syntax.specs.declared.stmt.Program.{Program}
use Rattle.cm_syntax.specs.Label.{silent, ticks, prints, spawns, syncs, traps, ends, stuck}
use Rattle.cm_syntax.specs.Stack.{Stack, Destination, StackSum, SharesBack, IsUnder, settle, empty_stack}
use Rattle.cm_syntax.specs.Rest.{Item, end, Control}
use Rattle.cm_syntax.specs.Step.{Move, step, depth, frame_count, inside}
use Rattle.cm_meaning.specs.End.{End}
use Rattle.cm_meaning.specs.Meaning.{Limits, Ask, Fork, ForkEnd, SerialEnd, begun, main_ask, first_control, serial_step, EndsAs}
use Rattle.cm_meaning.specs.Activation.{base, end_count, IsSettled}
use Rattle.cm_meaning.specs.Law.{IsBeside, IsInside, arrival}
use Rattle.cm_meaning.proofs.SumLaw.{comm, assoc, same, alone_, under_nothing, under_more, under_sum, settle_under, back_sum, back_settle, back_under}
use Rattle.cm_meaning.proofs.BesideLaw.{beside}
use Rattle.cm_meaning.proofs.InsideLaw.{within}
use Rattle.cm_meaning.proofs.EndLaw.{one_end}
use Rattle.cm_meaning.proofs.RunLaw.{first_settled}
use Rattle.cm_meaning.specs.Loan.{floor, floor_of}
use Rattle.cm_meaning.proofs.SettledLaw.{Moves, Keeps, IsSpawned, Met, good_law}
use Rattle.cm_meaning.proofs.AboveLaw.{IsAbove, IsLevel}
use Rattle.cm_meaning.proofs.ReturnLaw.{above_goes, returns_to}
use Rattle.cm_meaning.proofs.ForkLaw as fork

pub less : (a b : ℕ) → a - b ≤ a
less a b = omega arith

pub floor_low : (n : ℕ) (k : List Item) → floor_of n k ≤ n
floor_low n [] = omega arith
floor_low n (end ∷ k) = less n 1
floor_low n (_ ∷ k) = omega arith

module _ (program : Program) (page : ℕ) (input : List ℤ) where
  abbrev pub stepped : Control → Stack → Move
  stepped = step program page input

  abbrev pub goes : Control → Stack → Move
  goes = serial_step program page input

  pub beside_law : (b : Stack) (x y : Move) → IsBeside b x y → fork.Beside Control Stack Destination StackSum SharesBack settle depth stepped inside frame_count IsUnder b x y
  beside_law b (silent t g) y f = f
  beside_law b (ticks t g) y f = f
  beside_law b (prints v t g) y f = f
  beside_law b (spawns call lent x t g) y f = (f.0, f.1, f.2)
  beside_law b (syncs t) y f = f
  beside_law b (traps k) y f = f
  beside_law b (ends v) y f = f
  beside_law b stuck y f = f

  pub inside_law : (x : Destination) (k : Control) (m : Option ℤ → Move) (y w : Move) → IsInside x k m y w → fork.Within Control Stack Destination StackSum SharesBack settle depth stepped inside x k y w
  inside_law x k m (silent t g) w f = f
  inside_law x k m (ticks t g) w f = f
  inside_law x k m (prints v t g) w f = f
  inside_law x k m (spawns call lent y t g) w f = f
  inside_law x k m (syncs t) w f = f
  inside_law x k m (traps l) w f = f
  inside_law x k m (ends v) w f = tt
  inside_law x k m stuck w f = f

  pub keeps_law : (P : Control → Stack → Type 0) (x : Move) → Keeps P x → fork.Keeps Control Stack Destination StackSum SharesBack settle depth stepped inside P x
  keeps_law P (silent t g) f = f
  keeps_law P (ticks t g) f = f
  keeps_law P (prints v t g) f = f
  keeps_law P (spawns call lent x t g) f = f
  keeps_law P (syncs t) f = f
  keeps_law P (traps k) f = f
  keeps_law P (ends v) f = f
  keeps_law P stuck f = f

  pub moves_law : (c : Control) (h : Stack) (x : Move) → Moves c h x → fork.Moves Control Stack Destination StackSum SharesBack settle depth stepped inside base floor IsUnder c h x
  moves_law c h (silent t g) f = f
  moves_law c h (ticks t g) f = f
  moves_law c h (prints v t g) f = f
  moves_law c h (spawns call lent x t g) f = f
  moves_law c h (syncs t) f = (f.0, f.1, f.2)
  moves_law c h (traps k) f = f
  moves_law c h (ends v) f = f
  moves_law c h stuck f = f

  pub synced : {c t : Control} {h g : Stack} → IsSettled c h → stepped c h ≡ syncs t → IsSettled c g → IsSettled t g
  synced {c = c} {h = h} {g = g} w e u = subst (λ q. Met program page input c q) e (good_law program page input c h w).met g u.below

  pub running : {c t : Control} {k : Stack} → IsSettled c k → stepped c k ≡ syncs t → suc (depth c) ≡ length c.calls
  running {c = c} {k = k} w e = (subst (λ q. Moves c k q) e (good_law program page input c k w).moves).3

  pub added : {c t : Control} {h w g : Stack} (k : Stack) → IsSettled c k → stepped c k ≡ syncs t → IsSettled c h → IsUnder (suc (depth c)) w → StackSum h w g → IsSettled c g
  added {w = w} k u e s low o = record { shape = s.shape; enough = s.enough; below = under_sum o s.below (subst (λ q. IsUnder q w) (running u e) low) }

  pub spawned_above : {c t call : Control} {h g lent : Stack} {x : Destination} → IsSettled c h → stepped c h ≡ spawns call lent x t g → IsAbove program page input x t call lent
  spawned_above {c = c} {t = t} {call = call} {h = h} {lent = lent} {x = x} w e = let p = subst IsSpawned e (good_law program page input c h w).parts in
      record { idle_ = p.0; level = subst (λ q. IsLevel program page input x t q call.calls call.account) (sym p.1) (p.2, p.3); holds_ = p.4 }

  unfoldable pub laws : fork.Laws Control Stack Destination StackSum SharesBack settle depth stepped inside
  laws = record {
    empty = empty_stack;
    Under = IsUnder;
    comm = comm;
    assoc = assoc;
    same = same;
    nothing = alone_;
    under_empty = under_nothing;
    under_more = under_more;
    under_sum = under_sum;
    back_sum = back_sum;
    back_settle = back_settle;
    back_under = back_under;
    room = frame_count;
    floor = floor;
    base = base;
    floor_room = λ c. floor_low (length c.calls) c.rest;
    base_room = λ c. less (length c.calls) (end_count c.rest);
    beside = λ c h b g o low. beside_law b (stepped c h) (stepped c g) (beside program page input h b g o c low);
    Good = IsSettled;
    good_step = λ c h w. keeps_law IsSettled (stepped c h) (good_law program page input c h w).keeps;
    good_goes = λ c h w. keeps_law IsSettled (goes c h) (good_law program page input c h w).goes_;
    good_sync = synced;
    good_add = added;
    good_back = λ w low o. record { shape = w.shape; enough = w.enough; below = under_sum o w.below (under_more (floor_low _ _) low) };
    Above = IsAbove program page input;
    above_spawn = spawned_above;
    above_goes = λ x k c h a. keeps_law (IsAbove program page input x k) (goes c h) (above_goes program page input x k c h a);
    moves = λ c h w. moves_law c h (stepped c h) (good_law program page input c h w).moves;
    within = λ x k c h. inside_law x k (arrival x k c h) (goes c h) (goes (inside c x k) h) (within program page input x k c h);
    settle_under = settle_under;
    returns_to = λ x k c v h b g a e o. returns_to program page input x k c v h b g a e o;
  }

  pub fork_means : (ask : Ask) (e : End) (w : Stack) → IsSettled ask.call ask.lent → Fork program page input (begun ask) e w → EndsAs program page input ask.call ask.lent ask.start e w
  unfolding laws
  fork_means ask e w settled f = fork.forks_mean Control Stack Destination StackSum SharesBack settle depth stepped inside laws ask e w settled f

-- so a program has no other end than that of its elision
pub fork_serial : (program : Program) (input : List ℤ) (limits : Limits) (e : End) → ForkEnd program input limits e → SerialEnd program input limits e
fork_serial program input limits e f =
    (f.0, fork_means program limits.page input (main_ask program limits) e f.0 (first_settled program.main (limits.stack * limits.page)) f.1)

pub only_end : (program : Program) (input : List ℤ) (limits : Limits) (d e : End) → SerialEnd program input limits d → ForkEnd program input limits e → e ≡ d
only_end program input limits d e x f = let y = fork_serial program input limits e f in
    one_end Control Stack Destination (step program limits.page input) inside (first_control program limits) empty_stack limits.ticks e d y.0 x.0 y.1 x.1
