-- The account of a state is that of its calls: only the beginning and the end of a call change either.
use Rattle.std.proofs.Common.{◌≡◌, ℕ, ◌+◌, ◌≤◌, ◌*◌, List, [], ◌∷◌, length, Option, None, Some, refl, sym, ap, subst, arith}
use Rattle.std.proofs.lemmas.Bool.{leb-true}
use Rattle.std.specs.Prelude.{◌-◌, Bool, true, false, if◌then◌else◌, nat_le, ℤ, ⊤, slice_get}
use Rattle.cm_syntax.specs.declared.stmt.Function.{Function}
use Rattle.cm_syntax.specs.declared.stmt.Program.{Program}
use Rattle.cm_syntax.specs.Trap as kind
use Rattle.cm_syntax.specs.Frame.{frame_words}
use Rattle.cm_syntax.specs.Label.{silent, ticks, prints, spawns, syncs, traps, ends, stuck}
use Rattle.cm_syntax.specs.Stack.{Stack, Destination, Argument, push_frame, empty_stack}
use Rattle.cm_syntax.specs.Rest.{Item, body, fall, join, end, Hand, idle, holds, returned, entering, framing, Control, control}
use Rattle.cm_syntax.specs.Step.{Move, inside, rest_at_join, leave, call_bytes_in, call_bytes, push_call, end_call, item_step, hand_step, step}
use Rattle.cm_meaning.specs.Elision.{serial, here, quiet, tick as one_tick, show as one_number}
use Rattle.cm_meaning.specs.Meaning.{Limits, Piece, Comes, Reached, serial_step, first_control, begun, main_ask}
use Rattle.cm_meaning.specs.Measure.{account_of, frame_bytes_in, cilk_count_in, frame_bytes, cilk_frames, FitPages}
use Rattle.std.proofs.Math.Nat.{add-mul}
use Rattle.cm_meaning.proofs.AskLaw.{KeepsAll, reached_keeps}
use Rattle.cm_meaning.proofs.Walk.{MoveRules}
use Rattle.cm_meaning.proofs.WalkLaw.{move_law}

module _ (program : Program) (input : List ℤ) (limits : Limits) where
  -- each call of a chain fitted the account of those before it
  abbrev Fits : List ℕ → Type 0
  Fits [] = ⊤
  Fits (f ∷ calls) = (call_bytes program limits.page [] f ≤ account_of program limits calls) × Fits calls

  abbrev IsAccounted : Control → Type 0
  IsAccounted c = (c.account ≡ account_of program limits c.calls) × Fits c.calls

  abbrev Stays : Move → Type 0
  Stays = KeepsAll program limits.page input IsAccounted

  pushed : (c : Control) (h : Stack) (f : ℕ) (ws : List Argument) (k : List Item) (y : Option (Function ℕ)) → slice_get program.functions f ≡ y → IsAccounted c → Stays (push_call program limits.page input c h f ws k y)
  pushed c h f ws k None e a = tt
  pushed c h f ws k (Some y) e a = by (nat_le (call_bytes_in limits.page (Some y)) c.account) refl
    where
      bytes : call_bytes program limits.page [] f ≡ call_bytes_in limits.page (Some y)
      bytes = ap (call_bytes_in limits.page) e

      by : (b : Bool) → nat_le (call_bytes_in limits.page (Some y)) c.account ≡ b
          → Stays (if b then silent (control (f ∷ c.calls) (c.account - call_bytes_in limits.page (Some y)) idle (body y.body ∷ fall ∷ join ∷ end ∷ k)) (push_frame h (length c.calls) ws) else traps kind.Stack)
      by true l = numbers (call_bytes program limits.page [] f) (call_bytes_in limits.page (Some y)) c.account (account_of program limits c.calls) bytes a.0 (leb-true (call_bytes_in limits.page (Some y)) c.account l) a.1
        where
          numbers : (x y u v : ℕ) → x ≡ y → u ≡ v → y ≤ u → Fits c.calls → (u - y ≡ v - x) × ((x ≤ v) × Fits c.calls)
          numbers x y u v p q m r = (omega (arith, p, q), (omega (arith, p, q, m), r))
      by false l = tt

  popped : (c : Control) (h : Stack) (calls : List ℕ) (k : List Item) → c.calls ≡ calls → IsAccounted c → Stays (end_call program limits.page input c h calls k)
  popped c h [] k e a = tt
  popped c h (f ∷ calls) k e a = let b = subst (λ q. IsAccounted (control q c.account c.hand c.rest)) e a in
      (numbers c.account (account_of program limits calls) (call_bytes program limits.page [] f) b.0 b.1.0, b.1.1)
    where
      numbers : (u v x : ℕ) → u ≡ v - x → x ≤ v → u + x ≡ v
      numbers u v x p q = omega (arith, p, q)

  left : (c : Control) (h : Stack) (k : Option (List Item)) → IsAccounted c → Stays (leave c h k)
  left c h None a = tt
  left c h (Some k) a = a

  -- of an item only the end of a call changes the calls or the account
  rules : (c : Control) (h : Stack) (k : List Item) → IsAccounted c → MoveRules Stays c h k
  rules c h k a = record {
    none = tt;
    error = λ t. tt;
    goes = λ x y new m q. a;
    called = λ f ws. a;
    spawns = λ f ws x m. (a, a);
    ticks = λ y. a;
    prints = λ v. a;
    syncs = λ y. a;
    leaves = left c h (rest_at_join k) a;
  }

  step_stays : (c : Control) (h : Stack) → IsAccounted c → Stays (step program limits.page input c h)
  step_stays c h a = by c.hand c.rest
    where
      item : (i : Item) (k : List Item) → Stays (item_step program limits.page input c h i k)
      item end k = popped c h c.calls k refl a
      item i k = move_law program limits.page input Stays c h k (rules c h k a) i tt

      by : (z : Hand) (k : List Item) → Stays (hand_step program limits.page input c h z k)
      by (entering f ws) k = a
      by (framing f ws) k = pushed c h f ws k (slice_get program.functions f) refl a
      by idle [] = tt
      by (holds v) [] = tt
      by (returned v) [] = tt
      by idle (i ∷ k) = item i k
      by (holds v) (i ∷ k) = item i k
      by (returned v) (i ∷ k) = item i k

  -- ---- states of the elision

  abbrev elided : Stack → Move → Move
  elided = serial Control Stack Destination (step program limits.page input) inside

  stays_at : (c : Control) (h : Stack) (x : Move) → serial_step program limits.page input c h ≡ x → IsAccounted c → Stays x
  stays_at c h x e a = subst Stays e (by (step program limits.page input c h) (step_stays c h a))
    where
      by : (y : Move) → Stays y → Stays (elided h y)
      by (silent t g) s = s
      by (ticks t g) s = s
      by (prints v t g) s = s
      by (spawns call lent x t g) s = s.0
      by (syncs t) s = s
      by (traps k) s = tt
      by (ends v) s = tt
      by stuck s = tt

  run_stays : {c t : Control} {h g : Stack} {out : List ℤ} {n : ℕ} → Comes program limits.page input c h out n t g → IsAccounted c → IsAccounted t
  run_stays here a = a
  run_stays {c = c} {h = h} (quiet e r) a = run_stays r (stays_at c h _ e a)
  run_stays {c = c} {h = h} (one_tick e r) a = run_stays r (stays_at c h _ e a)
  run_stays {c = c} {h = h} (one_number e r) a = run_stays r (stays_at c h _ e a)

  pub account_is : (out : List ℤ) (n : ℕ) (t : Control) (g : Stack) → Comes program limits.page input (first_control program limits) empty_stack out n t g → t.account ≡ account_of program limits t.calls
  account_is out n t g r = (run_stays r (refl, tt)).0

  -- ---- reached pieces

  accounted : (p : Piece) → Reached program limits.page input (begun (main_ask program limits)) p → IsAccounted p.control
  accounted p r = (reached_keeps program limits.page input IsAccounted step_stays (main_ask program limits) (refl, tt) p r).0

  pub piece_account : (p : Piece) → Reached program limits.page input (begun (main_ask program limits)) p → p.control.account ≡ account_of program limits p.control.calls
  piece_account p r = (accounted p r).0

  -- a call takes the bytes of its frame, and a page where it is marked
  bytes_of : (y : Option (Function ℕ)) → call_bytes_in limits.page y ≡ frame_bytes_in y + cilk_count_in y * limits.page
  bytes_of None = omega arith
  bytes_of (Some y) = by y.cilk
    where
      by : (b : Bool) → 4 * frame_words y + (if b then limits.page else 0) ≡ 4 * frame_words y + (if b then 1 else 0) * limits.page
      by true = omega arith
      by false = omega arith

  all_bytes : (calls : List ℕ) → Fits calls → frame_bytes program calls + cilk_frames program calls * limits.page + account_of program limits calls ≡ limits.stack * limits.page
  all_bytes [] fits = omega arith
  all_bytes (f ∷ calls) fits =
      numbers (frame_bytes_in (slice_get program.functions f)) (frame_bytes program calls) (cilk_count_in (slice_get program.functions f)) (cilk_frames program calls) (account_of program limits calls) (call_bytes program limits.page [] f) (limits.stack * limits.page)
      (bytes_of (slice_get program.functions f)) fits.0 (all_bytes calls fits.1)
    where
      numbers : (x y c d a b s : ℕ) → b ≡ x + c * limits.page → b ≤ a → y + d * limits.page + a ≡ s → x + y + (c + d) * limits.page + (a - b) ≡ s
      numbers x y c d a b s e l i = let j : (c + d) * limits.page ≡ c * limits.page + d * limits.page = add-mul c d limits.page in omega (arith, e, l, i, j)

  pub piece_bytes : (p : Piece) → Reached program limits.page input (begun (main_ask program limits)) p
      → frame_bytes program p.control.calls + cilk_frames program p.control.calls * limits.page + p.control.account ≡ limits.stack * limits.page
  piece_bytes p r = let a = accounted p r in subst (λ z. frame_bytes program p.control.calls + cilk_frames program p.control.calls * limits.page + z ≡ limits.stack * limits.page) (sym a.0) (all_bytes p.control.calls a.1)

  pub pages_fit : FitPages program input limits limits.stack
  pages_fit p r = let s = piece_bytes p r in omega (arith, s)
