-- What a call does stays above its continuation: the frames and the account come back to those of the continuation, and
-- its destination stays held.
use Rattle.std.proofs.Common.{◌≡◌, ℕ, ◌+◌, ◌<◌, ◌≤◌, List, [], ◌∷◌, ◌++◌, length, None, Some, ap, arith, inl, inr}
use Rattle.std.proofs.lemmas.Bool.Decides.{eqb_tells}
use Rattle.std.specs.Prelude.{Bool, true, false, ◌==◌, ◌&&◌, if◌then◌else◌, nat_lt, ℤ, pos, ⊤}
use Rattle.cm_syntax.specs.declared.stmt.Program.{Program}
use Rattle.cm_syntax.specs.Label.{silent, ticks, prints, spawns, syncs, traps, ends, stuck}
use Rattle.cm_syntax.specs.Cell.{Cell, present, may_write}
use Rattle.cm_syntax.specs.Stack.{Reference, Stack, Destination, Argument, write_word, clear_words, write_parts, push_frame, pop_frame}
use Rattle.cm_syntax.specs.Rest.{Item, deliver, join, end, Hand, idle, entering, Control, control}
use Rattle.cm_syntax.specs.Step.{Move, top, inside, rest_at_join, leave, call_bytes, end_call, item_step}
use Rattle.cm_meaning.specs.Law.{HoldsDestination}
use Rattle.cm_meaning.proofs.Walk.{IsPlainRow, Change, nothing, word, zeros, parts, changed, MoveRules}
use Rattle.cm_meaning.proofs.WalkLaw.{move_law}

module _ (program : Program) (page : ℕ) (input : List ℤ) (x : Destination) (z : Control) where
  -- the frames and the account are the continuation's when the rest is statement_step
  abbrev pub IsLevel : List Item → List ℕ → ℕ → Type 0
  IsLevel [] calls account = (calls ≡ z.calls) × (account ≡ z.account)
  IsLevel (end ∷ k) [] account = ⊥
  IsLevel (end ∷ k) (f ∷ calls) account = IsLevel k calls (account + call_bytes program page input f)
  IsLevel (_ ∷ k) calls account = IsLevel k calls account

  pub record IsAbove (c : Control) (h : Stack) : Type 0 where
    pub idle_ : z.hand ≡ idle
    pub level : IsLevel c.rest c.calls c.account
    pub holds_ : HoldsDestination x (length z.calls) h

  pub lowest : (k : List Item) (calls : List ℕ) (account : ℕ) → IsLevel k calls account → length z.calls ≤ length calls
  lowest [] calls account l = let e = ap length l.0 in omega (arith, e)
  lowest (end ∷ k) [] account l = absurd l
  lowest (end ∷ k) (f ∷ calls) account l = let e = lowest k calls (account + call_bytes program page input f) l in omega (arith, e)
  lowest (_ ∷ k) calls account l = lowest k calls account l

  present_there : (c : Cell ℤ) (v : ℤ) (q : Bool) → may_write c ≡ true → may_write (if q then present v else c) ≡ true
  present_there c v true h = λ i. true
  present_there c v false h = h

  module _ (c : Control) (h : Stack) (still : z.hand ≡ idle) (there : HoldsDestination x (length z.calls) h) where
    abbrev pub Ok : Move → Type 0
    Ok (silent t g) = IsAbove t g
    Ok (ticks t g) = IsAbove t g
    Ok (prints v t g) = IsAbove t g
    Ok (spawns call l y t g) = IsAbove (inside call y t) h
    Ok (syncs t) = IsAbove t h
    Ok (traps k) = ⊤
    Ok (ends v) = ⊥
    Ok stuck = ⊤

    module _ (k : List Item) (l : IsLevel k c.calls c.account) where
      going : (y : Hand) (r : List Item) → IsLevel r c.calls c.account → IsAbove (control c.calls c.account y r) h
      going y r e = record { idle_ = still; level = e; holds_ = there }

      put_holds : (y : Destination) → HoldsDestination y (length z.calls) h → (d s i : ℕ) (v : ℤ) → HoldsDestination y (length z.calls) (write_word h d s i v)
      put_holds None o d s i v = tt
      put_holds (Some p) o d s i v = (o.0, present_there (h.words p.depth p.slot 0) v (p.depth == d && (p.slot == s && 0 == i)) o.1)

      zeroed_holds : (y : Destination) → HoldsDestination y (length z.calls) h → (d s n : ℕ) → HoldsDestination y (length z.calls) (clear_words h d s n)
      zeroed_holds None o d s n = tt
      zeroed_holds (Some p) o d s n = (o.0, present_there (h.words p.depth p.slot 0) (pos 0) (p.depth == d && (p.slot == s && nat_lt 0 n)) o.1)

      parted_holds : (y : Destination) → HoldsDestination y (length z.calls) h → (d a b : ℕ) (r : Reference) (n : ℕ) → HoldsDestination y (length z.calls) (write_parts h d a b r n)
      parted_holds None o d a b r n = tt
      parted_holds (Some p) o d a b r n = o

      above_leave : (r : List Item) → IsLevel r c.calls c.account → Ok (leave c h (rest_at_join r))
      above_leave [] e = tt
      above_leave (join ∷ r) e = going c.hand (join ∷ r) e
      above_leave (end ∷ r) e = tt
      above_leave (_ ∷ r) e = above_leave r e

      changed_holds : (w : Change) → HoldsDestination x (length z.calls) (changed (top c.calls) w h)
      changed_holds nothing = there
      changed_holds (word d s i v) = put_holds x there d s i v
      changed_holds (zeros s n) = zeroed_holds x there (top c.calls) s n
      changed_holds (parts a b r n) = parted_holds x there (top c.calls) a b r n

      pushed_level : (new : List Item) → IsPlainRow new → IsLevel (new ++ k) c.calls c.account
      pushed_level [] q = l
      pushed_level (join ∷ new) q = absurd q
      pushed_level (end ∷ new) q = absurd q
      pushed_level (_ ∷ new) q = pushed_level new q

      rules : MoveRules Ok c h k
      rules = record {
        none = tt;
        error = λ t. tt;
        goes = λ w y new m q. record { idle_ = still; level = pushed_level new q; holds_ = changed_holds w };
        called = λ f ws. going (entering f ws) k l;
        spawns = λ f ws y m. going (entering f ws) (deliver y ∷ k) l;
        ticks = λ y. going y k l;
        prints = λ v. going idle k l;
        syncs = λ y. going y k l;
        leaves = above_leave k l;
      }

    popped_holds : (y : Destination) → HoldsDestination y (length z.calls) h → (n : ℕ) → length z.calls ≤ n → HoldsDestination y (length z.calls) (pop_frame h n)
    popped_holds None o n m = tt
    popped_holds (Some p) o n m = (o.0, elim (eqb_tells p.depth n) [ inl one ↦ absurd (less p.depth n (length z.calls) o.0 m one.1) | inr ne ↦ let e : (p.depth == n) ≡ false = ne.0 in rw e o.1 ])
      where
        less : (d n k : ℕ) → d < k → k ≤ n → d ≡ n → ⊥
        less d n k a b e = omega (arith, a, b, e)

    pub pushed_holds : (y : Destination) → HoldsDestination y (length z.calls) h → (n : ℕ) (ws : List Argument) → length z.calls ≤ n → HoldsDestination y (length z.calls) (push_frame h n ws)
    pushed_holds None o n ws m = tt
    pushed_holds (Some p) o n ws m = (o.0, elim (eqb_tells p.depth n) [ inl one ↦ absurd (less p.depth n (length z.calls) o.0 m one.1) | inr ne ↦ let e : (p.depth == n) ≡ false = ne.0 in rw e o.1 ])
      where
        less : (d n k : ℕ) → d < k → k ≤ n → d ≡ n → ⊥
        less d n k a b e = omega (arith, a, b, e)

    above_end : (calls : List ℕ) (k : List Item) → IsLevel (end ∷ k) calls c.account → Ok (end_call program page input c h calls k)
    above_end [] k l = tt
    above_end (f ∷ calls) k l = record { idle_ = still; level = l; holds_ = popped_holds x there (length calls) (lowest k calls _ l) }

    pub above_item : (i : Item) (k : List Item) → IsLevel (i ∷ k) c.calls c.account → Ok (item_step program page input c h i k)
    above_item end k l = above_end c.calls k l
    above_item i k l = move_law program page input Ok c h k (rules k l) i tt
