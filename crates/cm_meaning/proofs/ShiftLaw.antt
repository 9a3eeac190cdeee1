-- What a step does to the calls.
use Rattle.std.proofs.Common.{◌≡◌, ℕ, List, [], ◌∷◌, ◌++◌, length, Option, None, Some, refl, sym, ap, ◌∙◌, subst, arith}
use Rattle.std.specs.Prelude.{◌-◌, Bool, true, false, if◌then◌else◌, nat_le, ℤ, slice_get}
use Rattle.cm_syntax.specs.declared.stmt.Function.{Function}
use Rattle.cm_syntax.specs.declared.stmt.Program.{Program}
use Rattle.cm_syntax.specs.Trap as kind
use Rattle.cm_syntax.specs.Label.{silent, traps}
use Rattle.cm_syntax.specs.Stack.{Stack, Argument, push_frame}
use Rattle.cm_syntax.specs.Rest.{Item, body, fall, join, end, Hand, idle, holds, returned, entering, framing, Control, control}
use Rattle.cm_syntax.specs.Step.{Move, rest_at_join, leave, call_bytes_in, push_call, end_call, item_step, step}
use Rattle.cm_meaning.specs.Activation.{end_count}
use Rattle.cm_meaning.specs.Shift.{Shifts, stays, comes, goes, ShiftsCalls, KeepsBase, IsWithinOne}
use Rattle.cm_meaning.proofs.Walk.{IsPlainRow, IsNoEnd, MoveRules}
use Rattle.cm_meaning.proofs.WalkLaw.{move_law}

-- an item that is no end of a call isn't counted
count_item : (i : Item) (k : List Item) → IsNoEnd i → end_count (i ∷ k) ≡ end_count k
count_item end k u = absurd u
count_item i k u = refl

count_row : (new k : List Item) → IsPlainRow new → end_count (new ++ k) ≡ end_count k
count_row [] k q = refl
count_row (join ∷ new) k q = absurd q
count_row (end ∷ new) k q = absurd q
count_row (_ ∷ new) k q = count_row new k q

-- a completed `return` leaves out no end of a call
count_join : (k r : List Item) → rest_at_join k ≡ Some r → end_count r ≡ end_count k
count_join [] r e = cc e
count_join (join ∷ k) r e = ap (λ z. elim z [ None ↦ end_count r | Some q ↦ end_count q ]) (sym e)
count_join (end ∷ k) r e = cc e
count_join (_ ∷ k) r e = count_join k r e

module _ (program : Program) (page : ℕ) (input : List ℤ) (calls : List ℕ) (account : ℕ) (h : Stack) where
  -- a call of a state whose rest ends so many of the calls
  at : Hand → List Item → Control
  at z k = control calls account z k

  -- of an item that is no end of a call
  module _ (z : Hand) (i : Item) (k : List Item) (u : IsNoEnd i) where
    abbrev Ok : Move → Type 0
    Ok x = ShiftsCalls (control calls account z (i ∷ k)) x

    left : (r : Option (List Item)) → rest_at_join k ≡ r → Ok (leave (control calls account z (i ∷ k)) h r)
    left None e = tt
    left (Some r) e = stays (refl, count_join k r e ∙ sym (count_item i k u))

    same : (l : List Item) → end_count l ≡ end_count k → end_count l ≡ end_count (i ∷ k)
    same l e = e ∙ sym (count_item i k u)

    rules : MoveRules Ok (control calls account z (i ∷ k)) h k
    rules = record {
      none = tt;
      error = λ t. tt;
      goes = λ x y new m q. stays (refl, same (new ++ k) (count_row new k q));
      called = λ f ws. stays (refl, same k refl);
      spawns = λ f ws x m. ((refl, same k refl), refl, refl);
      ticks = λ y. (refl, same k refl);
      prints = λ v. (refl, same k refl);
      syncs = λ y. (refl, same k refl);
      leaves = left (rest_at_join k) refl;
    }

    item : Ok (item_step program page input (control calls account z (i ∷ k)) h i k)
    item = move_law program page input Ok (control calls account z (i ∷ k)) h k rules i u

  ended : (z : Hand) (k : List Item) (left : List ℕ) → calls ≡ left → ShiftsCalls (control calls account z (end ∷ k)) (end_call program page input (control calls account z (end ∷ k)) h left k)
  ended z k [] e = tt
  ended z k (f ∷ left) e = goes f e refl

  pushed : (f : ℕ) (ws : List Argument) (k : List Item) (y : Option (Function ℕ)) → ShiftsCalls (control calls account (framing f ws) k) (push_call program page input (control calls account (framing f ws) k) h f ws k y)
  pushed f ws k None = tt
  pushed f ws k (Some y) = by (nat_le (call_bytes_in page (Some y)) account)
    where
      by : (b : Bool) → ShiftsCalls (control calls account (framing f ws) k) (if b then silent (control (f ∷ calls) (account - call_bytes_in page (Some y)) idle (body y.body ∷ fall ∷ join ∷ end ∷ k)) (push_frame h (length calls) ws) else traps kind.Stack)
      by true = comes f ws refl refl refl
      by false = tt

  items : (z : Hand) (i : Item) (k : List Item) → ShiftsCalls (control calls account z (i ∷ k)) (item_step program page input (control calls account z (i ∷ k)) h i k)
  items z end k = ended z k calls refl
  items z i k = item z i k tt

  shifted : (z : Hand) (k : List Item) → ShiftsCalls (control calls account z k) (step program page input (control calls account z k) h)
  shifted (entering f ws) k = (refl, refl)
  shifted (framing f ws) k = pushed f ws k (slice_get program.functions f)
  shifted idle [] = tt
  shifted (holds v) [] = tt
  shifted (returned v) [] = refl
  shifted idle (i ∷ k) = items idle i k
  shifted (holds v) (i ∷ k) = items (holds v) i k
  shifted (returned v) (i ∷ k) = items (returned v) i k

-- at most the last call comes or goes
pub shift : (program : Program) (page : ℕ) (input : List ℤ) (c : Control) (h : Stack) → ShiftsCalls c (step program page input c h)
shift program page input c h = shifted program page input c.calls c.account h c.hand c.rest

-- so many calls are below those that the rest ends
pub base_kept : (program : Program) (page : ℕ) (input : List ℤ) (c d : Control) (h g : Stack) → step program page input c h ≡ silent d g → KeepsBase c d
base_kept program page input c d h g e = by (subst (ShiftsCalls c) e (shift program page input c h))
  where
    by : Shifts c d → KeepsBase c d
    by (stays s) = let l = ap length s.0 in let m = s.1 in omega (arith, l, m)
    by (comes f ws q l m) = let n = ap length l in omega (arith, n, m)
    by (goes f l m) = let n = ap length l in let o = ap end_count m in omega (arith, n, o)

pub within_one : (program : Program) (page : ℕ) (input : List ℤ) (c d : Control) (h g : Stack) → step program page input c h ≡ silent d g → IsWithinOne c d
within_one program page input c d h g e = by (subst (ShiftsCalls c) e (shift program page input c h))
  where
    by : Shifts c d → IsWithinOne c d
    by (stays s) = let l = ap length s.0 in (omega (arith, l), omega (arith, l))
    by (comes f ws q l m) = let n = ap length l in (omega (arith, n), omega (arith, n))
    by (goes f l m) = let n = ap length l in (omega (arith, n), omega (arith, n))
