-- At its end a call inside its caller leads to the continuation.
use Rattle.std.proofs.Common.{◌≡◌, ℕ, ◌+◌, ◌≤◌, List, [], ◌∷◌, length, Option, None, Some, refl, sym, ap, ◌∙◌, subst, arith}
use Rattle.std.proofs.lemmas.Bool.{leb-true}
use Rattle.std.specs.Prelude.{◌-◌, Bool, true, false, ◌==◌, ◌&&◌, if◌then◌else◌, nat_le, ℤ, ⊤, slice_get}
use Rattle.cm_syntax.specs.declared.stmt.Function.{Function}
use Rattle.cm_syntax.specs.declared.stmt.Program.{Program}
use Rattle.cm_syntax.specs.Trap as kind
use Rattle.cm_syntax.specs.Label.{silent, ticks, prints, spawns, syncs, traps, ends, stuck}
use Rattle.cm_syntax.specs.Cell.{Cell, present, settle_cell, CellSum, may_write}
use Rattle.cm_syntax.specs.Stack.{Stack, Destination, Argument, write_word, push_frame, empty_stack, settle, StackSum}
use Rattle.cm_syntax.specs.Rest.{Item, body, fall, join, end, Hand, idle, holds, returned, entering, framing, Control, control}
use Rattle.cm_syntax.specs.Step.{Move, frame_count, to, inside, call_bytes_in, deliver_value, push_call, item_step, hand_step, step}
use Rattle.cm_meaning.specs.Elision.{serial, here, quiet, tick as one_tick, show as one_number}
use Rattle.cm_meaning.specs.Meaning.{serial_step, Comes}
use Rattle.cm_syntax.proofs.CellLaw.{writable_sum, settle_sum, settle_writable}
use Rattle.cm_syntax.proofs.AccessLaw.{writes_on}
use Rattle.cm_meaning.proofs.BesideLaw.{one_place, sum_if}
use Rattle.cm_meaning.specs.Law.{HoldsDestination, IsInside, arrival}
use Rattle.cm_meaning.proofs.SumLaw.{alone_, same}
use Rattle.cm_meaning.proofs.InsideLaw.{within}
use Rattle.cm_meaning.proofs.RunLaw.{inside_run}
use Rattle.cm_meaning.proofs.SettledLaw.{Keeps}
use Rattle.cm_meaning.proofs.AboveLaw.{IsLevel, IsAbove, Ok, above_item, pushed_holds, lowest}

module _ (program : Program) (page : ℕ) (input : List ℤ) (x : Destination) (z : Control) where
  -- an end comes only from an empty rest
  abbrev pub Ok_ : Control → Stack → Move → Type 0
  Ok_ c h (silent t g) = IsAbove program page input x z t g
  Ok_ c h (ticks t g) = IsAbove program page input x z t g
  Ok_ c h (prints v t g) = IsAbove program page input x z t g
  Ok_ c h (spawns call l y t g) = IsAbove program page input x z (inside call y t) h
  Ok_ c h (syncs t) = IsAbove program page input x z t h
  Ok_ c h (traps k) = ⊤
  Ok_ c h (ends v) = (c.hand ≡ returned v) × (c.rest ≡ [])
  Ok_ c h stuck = ⊤

  weaker : (c : Control) (h : Stack) (s : z.hand ≡ idle) (t : HoldsDestination x (length z.calls) h) (y : Move) → Ok program page input x z c h s t y → Ok_ c h y
  weaker c h s t (silent a b) o = o
  weaker c h s t (ticks a b) o = o
  weaker c h s t (prints v a b) o = o
  weaker c h s t (spawns call l y a b) o = o
  weaker c h s t (syncs a) o = o
  weaker c h s t (traps k) o = tt
  weaker c h s t (ends v) o = absurd o
  weaker c h s t stuck o = tt

  back : (a n : ℕ) → n ≤ a → a ≡ a - n + n
  back a n l = omega (arith, l)

  above_frame : (c : Control) (h : Stack) (f : ℕ) (ws : List Argument) (k : List Item) (y : Option (Function ℕ)) → slice_get program.functions f ≡ y → z.hand ≡ idle → IsLevel program page input x z k c.calls c.account → HoldsDestination x (length z.calls) h → Ok_ c h (push_call program page input c h f ws k y)
  above_frame c h f ws k None e s l t = tt
  above_frame c h f ws k (Some y) e s l t = by (nat_le (call_bytes_in page (Some y)) c.account) refl
    where
      n : ℕ
      n = call_bytes_in page (Some y)

      by : (q : Bool) → nat_le (call_bytes_in page (Some y)) c.account ≡ q → Ok_ c h (if q then silent (control (f ∷ c.calls) (c.account - call_bytes_in page (Some y)) idle (body y.body ∷ fall ∷ join ∷ end ∷ k)) (push_frame h (length c.calls) ws) else traps kind.Stack)
      by false q = tt
      by true q = record {
        idle_ = s;
        level = subst (λ a. IsLevel program page input x z k c.calls a) (back c.account (call_bytes_in page (Some y)) (leb-true (call_bytes_in page (Some y)) c.account q) ∙ ap (λ w. c.account - call_bytes_in page (Some y) + call_bytes_in page w) (sym e)) l;
        holds_ = pushed_holds program page input x z c h s t x t (length c.calls) ws (lowest program page input x z k c.calls c.account l);
      }

  above_step : (c : Control) (h : Stack) → IsAbove program page input x z c h → Ok_ c h (step program page input c h)
  above_step c h a = by c.hand c.rest refl refl
    where
      level_ : (k : List Item) → c.rest ≡ k → IsLevel program page input x z k c.calls c.account
      level_ k r = subst (λ q. IsLevel program page input x z q c.calls c.account) r a.level

      item : (i : Item) (k : List Item) → c.rest ≡ i ∷ k → Ok_ c h (item_step program page input c h i k)
      item i k r = weaker c h a.idle_ a.holds_ (item_step program page input c h i k) (above_item program page input x z c h a.idle_ a.holds_ i k (level_ (i ∷ k) r))

      by : (y : Hand) (k : List Item) → c.hand ≡ y → c.rest ≡ k → Ok_ c h (hand_step program page input c h y k)
      by (entering f ws) k e r = record { idle_ = a.idle_; level = level_ k r; holds_ = a.holds_ }
      by (framing f ws) k e r = above_frame c h f ws k (slice_get program.functions f) refl a.idle_ (level_ k r) a.holds_
      by idle [] e r = tt
      by (holds v) [] e r = tt
      by (returned v) [] e r = (e, r)
      by idle (i ∷ k) e r = item i k r
      by (holds v) (i ∷ k) e r = item i k r
      by (returned v) (i ∷ k) e r = item i k r

  abbrev elided : Stack → Move → Move
  elided = serial Control Stack Destination (step program page input) inside

  pub above_goes : (c : Control) (h : Stack) → IsAbove program page input x z c h → Keeps (IsAbove program page input x z) (elided h (step program page input c h))
  above_goes c h a = by (step program page input c h) (above_step c h a)
    where
      by : (y : Move) → Ok_ c h y → Keeps (IsAbove program page input x z) (elided h y)
      by (silent t g) o = o
      by (ticks t g) o = o
      by (prints v t g) o = o
      by (spawns call l y t g) o = o
      by (syncs t) o = o
      by (traps k) o = tt
      by (ends v) o = tt
      by stuck o = tt

  -- the end of a call: its hand and rest
  pub end_is : (c : Control) (h : Stack) (v : Option ℤ) → IsAbove program page input x z c h → step program page input c h ≡ ends v → (c.hand ≡ returned v) × (c.rest ≡ [])
  end_is c h v a e = subst (λ q. Ok_ c h q) e (above_step c h a)

  cell_put : (a b g : Cell ℤ) (v : ℤ) → may_write a ≡ true → CellSum a b g → CellSum (settle_cell a v) b (present v)
  cell_put a b g v t s = subst (λ z. CellSum (settle_cell a v) b z) (settle_writable g v (writable_sum a b g s t).0) (settle_sum a b g v s t)

  settled_sum : (h b g : Stack) (d s : ℕ) (v : ℤ) → (may_write (h.words d s 0) ≡ true) → StackSum h b g → StackSum (settle (Some (record { depth = d; slot = s })) (Some v) h) b (write_word g d s 0 v)
  settled_sum h b g d s v t o = record {
    words = λ e r j. sum_if (e == d && (r == s && j == 0)) _ (present v) _ _ _ (λ q. let x = one_place e d r s j 0 q in cell_put (h.words e r j) (b.words e r j) (g.words e r j) v ((λ k. may_write (h.words (x.0 k) (x.1 k) (x.2 k))) ∙ t) (o.words e r j)) (o.words e r j);
    references = o.references;
  }

  -- at its end the call's value is deliver_value and the continuation go_on on
  pub settles : (c : Control) (v : Option ℤ) (h b g : Stack) → HoldsDestination x (length z.calls) h → StackSum h b g → (i : Stack) × (deliver_value c g (returned v) x z.rest ≡ silent (to c z.rest) i) × StackSum (settle x v h) b i
  settles c v h b g t o = by x v t
    where
      by : (y : Destination) (v : Option ℤ) → HoldsDestination y (length z.calls) h → (i : Stack) × (deliver_value c g (returned v) y z.rest ≡ silent (to c z.rest) i) × StackSum (settle y v h) b i
      by None v t = (g, refl, o)
      by (Some p) None t = (g, refl, o)
      by (Some p) (Some v) t = (write_word g p.depth p.slot 0 v, writes_on _ _ (writable_sum _ _ _ (o.words p.depth p.slot 0) t.1).0, settled_sum h b g p.depth p.slot v t.1 o)

-- ---- a whole call

module _ (program : Program) (page : ℕ) (input : List ℤ) (x : Destination) (z : Control) where
  abbrev goes : Control → Stack → Move
  goes = serial_step program page input

  abbrev Runs : Control → Stack → List ℤ → ℕ → Control → Stack → Type 0
  Runs = Comes program page input

  above_at : (c : Control) (h : Stack) (y : Move) → goes c h ≡ y → IsAbove program page input x z c h → Keeps (IsAbove program page input x z) y
  above_at c h y e a = subst (λ q. Keeps (IsAbove program page input x z) q) e (above_goes program page input x z c h a)

  pub above_run : {c t : Control} {h g : Stack} {out : List ℤ} {n : ℕ} → Runs c h out n t g → IsAbove program page input x z c h → IsAbove program page input x z t g
  above_run here a = a
  above_run {c = c} {h = h} (quiet e r) a = above_run r (above_at c h _ e a)
  above_run {c = c} {h = h} (one_tick e r) a = above_run r (above_at c h _ e a)
  above_run {c = c} {h = h} (one_number e r) a = above_run r (above_at c h _ e a)

  one_more : {c t l : Control} {h g k : Stack} {out : List ℤ} {n : ℕ} → Runs c h out n t g → goes t g ≡ silent l k → Runs c h out n l k
  one_more here s = quiet s here
  one_more (quiet e r) s = quiet e (one_more r s)
  one_more (one_tick e r) s = one_tick e (one_more r s)
  one_more (one_number e r) s = one_number e (one_more r s)

  pub ended_by : {v : Option ℤ} (h : Stack) (y : Move) → serial Control Stack Destination (step program page input) inside h y ≡ ends v → y ≡ ends v
  ended_by h (ends w) e = e
  ended_by h (silent t g) e = cc e
  ended_by h (ticks t g) e = cc e
  ended_by h (prints w t g) e = cc e
  ended_by h (spawns call lent y t g) e = cc e
  ended_by h (syncs t) e = cc e
  ended_by h (traps k) e = cc e
  ended_by h stuck e = cc e

  abbrev quietly : Control → Stack → Move
  quietly t g = silent t g

  -- at its end, also beside other words
  pub returns_to : (c : Control) (v : Option ℤ) (h b g : Stack) → IsAbove program page input x z c h → step program page input c h ≡ ends v → StackSum h b g → (i : Stack) × (goes (inside c x z) g ≡ silent z i) × StackSum (settle x v h) b i
  returns_to c v h b g a e o = (delivered.0, inside_end ∙ delivered.1 ∙ same_state, delivered.2)
    where
      at_end : (c.hand ≡ returned v) × (c.rest ≡ [])
      at_end = end_is program page input x z c h v a e

      ended : step program page input c g ≡ ends v
      ended i = hand_step program page input c g (at_end.0 i) (at_end.1 i)

      inside_end : goes (inside c x z) g ≡ deliver_value (inside c x z) g (returned v) x z.rest
      inside_end = subst (λ q. IsInside x z (arrival x z c g) q (goes (inside c x z) g)) (ap (serial Control Stack Destination (step program page input) inside g) ended) (within program page input x z c g)

      delivered : (i : Stack) × (deliver_value (inside c x z) g (returned v) x z.rest ≡ silent (to (inside c x z) z.rest) i) × StackSum (settle x v h) b i
      delivered = settles program page input x z (inside c x z) v h b g a.holds_ o

      level : (c.calls ≡ z.calls) × (c.account ≡ z.account)
      level = subst (λ q. IsLevel program page input x z q c.calls c.account) at_end.1 a.level

      same_control : to (inside c x z) z.rest ≡ z
      same_control i = control (level.0 i) (level.1 i) (sym a.idle_ i) z.rest

      same_state : quietly (to (inside c x z) z.rest) delivered.0 ≡ quietly z delivered.0
      same_state i = quietly (same_control i) delivered.0

  leads_on : (c : Control) (v : Option ℤ) (h : Stack) → IsAbove program page input x z c h → goes c h ≡ ends v → goes (inside c x z) h ≡ silent z (settle x v h)
  leads_on c v h a e = back.1 ∙ same_state
    where
      back : (i : Stack) × (goes (inside c x z) h ≡ silent z i) × StackSum (settle x v h) empty_stack i
      back = returns_to c v h empty_stack h a (ended_by h (step program page input c h) e) (alone_ h)

      same_state : quietly z back.0 ≡ quietly z (settle x v h)
      same_state i = quietly z (same back.2 (alone_ (settle x v h)) i)

  pub whole_call : (f : ℕ) (ws : List Argument) (h g : Stack) (out : List ℤ) (n : ℕ) (t : Control) (v : Option ℤ) → z.hand ≡ idle → HoldsDestination x (frame_count z) h → Runs (control z.calls z.account (entering f ws) []) h out n t g
      → goes t g ≡ ends v → Runs (inside (control z.calls z.account (entering f ws) []) x z) h out n z (settle x v g)
  whole_call f ws h g out n t v still held r e = one_more (inside_run program page input x z r) (leads_on t v g (above_run r (record { idle_ = still; level = (refl, refl); holds_ = held })) e)
