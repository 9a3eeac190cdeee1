-- What a run of the elision leaves of the frames below those of its call: each word is as it was or has a value, and each
-- reference is as it was.
use Rattle.std.proofs.Common.{◌≡◌, ℕ, ◌<◌, ◌≤◌, List, [], ◌∷◌, length, Option, None, Some, refl, sym, ap, ◌∙◌, subst, arith, inl, inr}
use Rattle.std.proofs.lemmas.Bool.Decides.{eqb_tells}
use Rattle.cm_meaning.proofs.BesideLaw.{one_place, in_slot}
use Rattle.std.specs.Prelude.{◌-◌, ◌⊎◌, nat_le, Bool, true, false, ◌==◌, ◌&&◌, if◌then◌else◌, nat_lt, ℤ, pos, ⊤, slice_get}
use Rattle.cm_syntax.specs.declared.stmt.Function.{Function}
use Rattle.cm_syntax.specs.declared.stmt.Program.{Program}
use Rattle.cm_syntax.specs.Trap as kind
use Rattle.cm_syntax.specs.Label.{silent, ticks, prints, spawns, syncs, traps, ends, stuck}
use Rattle.cm_syntax.specs.Cell.{Cell, present, may_write}
use Rattle.cm_syntax.specs.Stack.{Reference, Stack, Destination, Argument, write_word, clear_words, write_parts, push_frame, pop_frame}
use Rattle.cm_syntax.specs.Rest.{Item, body, fall, join, end, Hand, idle, holds, returned, entering, framing, Control, control}
use Rattle.cm_syntax.specs.Step.{Move, top, inside, rest_at_join, leave, push_call, call_bytes_in, hand_step, end_call, item_step, step}
use Rattle.cm_meaning.specs.Elision as elision
use Rattle.cm_meaning.specs.Elision.{serial}
use Rattle.cm_meaning.specs.Meaning.{serial_step, Comes}
use Rattle.cm_meaning.proofs.Walk.{Change, nothing, word, zeros, parts, changed, MayChange, IsFree, IsFreeReference, MoveRules}
use Rattle.cm_meaning.proofs.WalkLaw.{move_law}
use Rattle.cm_meaning.proofs.SettledLaw.{Moves, Keeps, good_law, some_act, depth_below}
use Rattle.cm_meaning.proofs.TypedFramesLaw.{IsPlain}
use Rattle.cm_meaning.specs.Activation.{base, end_count, FitsHand, IsSettled}
use Rattle.cm_meaning.specs.TypedState.{IsPresent}

-- of two stacks, the words of the frames before this depth are the same, or the first might write there and the second has
-- a value; references are the same
pub record Wide (n : ℕ) (h g : Stack) : Type 0 where
  pub words : (d s i : ℕ) → d < n → (g.words d s i ≡ h.words d s i) ⊎ ((may_write (h.words d s i) ≡ true) × IsPresent (g.words d s i))
  pub references : (d s : ℕ) → d < n → g.references d s ≡ h.references d s

pub wide_same : (n : ℕ) (h : Stack) → Wide n h h
wide_same n h = record { words = λ d s i l. inl refl; references = λ d s l. refl }

pub wide_joined : (n : ℕ) (h g k : Stack) → Wide n h g → Wide n g k → Wide n h k
wide_joined n h g k a b = record {
  words = λ d s i l. elim (b.words d s i l) [
    | inl e ↦ elim (a.words d s i l) [ inl f ↦ inl (e ∙ f) | inr p ↦ inr (p.0, subst IsPresent (sym e) p.1) ]
    | inr p ↦ elim (a.words d s i l) [ inl f ↦ inr (ap may_write (sym f) ∙ p.0, p.1) | inr q ↦ inr (q.0, p.1) ]
  ];
  references = λ d s l. b.references d s l ∙ a.references d s l;
}

put_or : (q : Bool) (c : Cell ℤ) (v : ℤ) → (q ≡ true → may_write c ≡ true) → ((if q then present v else c) ≡ c) ⊎ ((may_write c ≡ true) × IsPresent (if q then present v else c))
put_or true c v h = inr (h refl, tt)
put_or false c v h = inl refl

apart_of : (d n : ℕ) → d < n → (d == n) ≡ false
apart_of d n l = elim (eqb_tells d n) [ inl one ↦ absurd (less d n l one.1) | inr ne ↦ ne.0 ]
  where
    less : (a b : ℕ) → a < b → a ≡ b → ⊥
    less a b l e = omega (arith, l, e)

popped_wide : (n m : ℕ) (h : Stack) → n ≤ m → Wide n h (pop_frame h m)
popped_wide n m h l = record {
  words = λ d s i k. let x : (d == m) ≡ false = apart_of d m (omega (arith, k, l)) in rw x (inl refl);
  references = λ d s k. let x : (d == m) ≡ false = apart_of d m (omega (arith, k, l)) in rw x refl;
}

pushed_wide : (n m : ℕ) (h : Stack) (ws : List Argument) → n ≤ m → Wide n h (push_frame h m ws)
pushed_wide n m h ws l = record {
  words = λ d s i k. let x : (d == m) ≡ false = apart_of d m (omega (arith, k, l)) in rw x (inl refl);
  references = λ d s k. let x : (d == m) ≡ false = apart_of d m (omega (arith, k, l)) in rw x refl;
}

module _ (program : Program) (page : ℕ) (input : List ℤ) (n : ℕ) where
  -- what a step does to the stack
  abbrev pub Ok_ : Stack → Move → Type 0
  Ok_ h (silent t g) = Wide n h g
  Ok_ h (ticks t g) = Wide n h g
  Ok_ h (prints v t g) = Wide n h g
  Ok_ h _ = ⊤

  module _ (c : Control) (h : Stack) (low : n ≤ top c.calls) where
    abbrev pub Ok : Move → Type 0
    Ok = Ok_ h

    same : Wide n h h
    same = wide_same n h

    written : (d s i : ℕ) (v : ℤ) → may_write (h.words d s i) ≡ true → Wide n h (write_word h d s i v)
    written d s i v m = record { words = λ e t j l. put_or (e == d && (t == s && j == i)) (h.words e t j) v (λ q. let x = one_place e d t s j i q in ap (λ z. may_write (h.words z t j)) x.0 ∙ ap (λ z. may_write (h.words d z j)) x.1 ∙ ap (λ z. may_write (h.words d s z)) x.2 ∙ m); references = λ e t l. refl }

    cleared : (d s m : ℕ) → ((i : ℕ) → i < m → IsFree h d s i) → Wide n h (clear_words h d s m)
    cleared d s m all = record { words = λ e t j l. put_or (e == d && (t == s && nat_lt j m)) (h.words e t j) (pos 0) (λ q. let x = in_slot e d t s j m q in ap (λ z. may_write (h.words z t j)) x.0 ∙ ap (λ z. may_write (h.words d z j)) x.1 ∙ all j x.2); references = λ e t l. refl }

    parted : (a b : ℕ) (r : Reference) (m : ℕ) → Wide n h (write_parts h (top c.calls) a b r m)
    parted a b r m = record {
      words = λ e t j l. inl refl;
      references = λ e t l. let x : (e == top c.calls) ≡ false = apart_of e (top c.calls) (omega (arith, l, low)) in rw x refl;
    }

    wide_leave : (r : List Item) → Ok (leave c h (rest_at_join r))
    wide_leave [] = tt
    wide_leave (join ∷ r) = same
    wide_leave (end ∷ r) = tt
    wide_leave (_ ∷ r) = wide_leave r

    wide_changed : (w : Change) → MayChange (IsFree h) (IsFreeReference h) (top c.calls) w → Wide n h (changed (top c.calls) w h)
    wide_changed nothing m = same
    wide_changed (word d s i v) m = written d s i v m
    wide_changed (zeros s m) all = cleared (top c.calls) s m all
    wide_changed (parts a b r m) o = parted a b r m

    rules : (k : List Item) → MoveRules Ok c h k
    rules k = record {
      none = tt;
      error = λ t. tt;
      goes = λ w y new m q. wide_changed w m;
      called = λ f ws. same;
      spawns = λ f ws y m. tt;
      ticks = λ y. same;
      prints = λ v. same;
      syncs = λ y. tt;
      leaves = wide_leave k;
    }

    wide_end : (calls : List ℕ) (k : List Item) → n ≤ top calls → Ok (end_call program page input c h calls k)
    wide_end [] k l = tt
    wide_end (f ∷ calls) k l = popped_wide n (length calls) h l

    pub wide_item : (i : Item) (k : List Item) → Ok (item_step program page input c h i k)
    wide_item end k = wide_end c.calls k low
    wide_item i k = move_law program page input Ok c h k (rules k) i tt

  -- ---- steps and runs

  pushed_call : (c : Control) (h : Stack) (f : ℕ) (ws : List Argument) (k : List Item) (y : Option (Function ℕ)) → n ≤ length c.calls → Ok_ h (push_call program page input c h f ws k y)
  pushed_call c h f ws k None l = tt
  pushed_call c h f ws k (Some y) l = by (nat_le (call_bytes_in page (Some y)) c.account)
    where
      by : (q : Bool) → Ok_ h (if q then silent (control (f ∷ c.calls) (c.account - call_bytes_in page (Some y)) idle (body y.body ∷ fall ∷ join ∷ end ∷ k)) (push_frame h (length c.calls) ws) else traps kind.Stack)
      by true = pushed_wide n (length c.calls) h ws l
      by false = tt

  wide_step : (c : Control) (h : Stack) → n ≤ length c.calls → ((i : Item) (k : List Item) → c.rest ≡ i ∷ k → IsPlain c.hand → n ≤ top c.calls) → Ok_ h (step program page input c h)
  wide_step c h l low = by c.hand c.rest refl refl
    where
      item : (i : Item) (k : List Item) → c.rest ≡ i ∷ k → IsPlain c.hand → Ok_ h (item_step program page input c h i k)
      item i k r p = wide_item c h (low i k r p) i k

      by : (y : Hand) (k : List Item) → c.hand ≡ y → c.rest ≡ k → Ok_ h (hand_step program page input c h y k)
      by (entering f ws) k e r = wide_same n h
      by (framing f ws) k e r = pushed_call c h f ws k (slice_get program.functions f) l
      by idle [] e r = tt
      by (holds v) [] e r = tt
      by (returned v) [] e r = tt
      by idle (i ∷ k) e r = item i k r (subst IsPlain (sym e) tt)
      by (holds v) (i ∷ k) e r = item i k r (subst IsPlain (sym e) tt)
      by (returned v) (i ∷ k) e r = item i k r (subst IsPlain (sym e) tt)

acts_one : (z : Hand) (i : Item) (k : List Item) → IsPlain z → FitsHand z (i ∷ k) → 1 ≤ end_count (i ∷ k)
acts_one (entering f ws) i k p o = absurd p
acts_one (framing f ws) i k p o = absurd p
acts_one idle end k p o = omega arith
acts_one (holds v) end k p o = omega arith
acts_one (returned v) end k p o = omega arith
acts_one idle i k p o = some_act (i ∷ k) o
acts_one (holds v) i k p o = some_act (i ∷ k) o
acts_one (returned v) i k p o = some_act (i ∷ k) o

module _ (program : Program) (page : ℕ) (input : List ℤ) where
  abbrev goes : Control → Stack → Move
  goes = serial_step program page input

  pub low_base : (c : Control) (h : Stack) → IsSettled c h → (i : Item) (k : List Item) → c.rest ≡ i ∷ k → IsPlain c.hand → base c ≤ top c.calls
  low_base c h w i k e p =
      let one : 1 ≤ end_count c.rest = subst (λ r. 1 ≤ end_count r) (sym e) (acts_one c.hand i k p (subst (FitsHand c.hand) e w.shape)) in
      let enough = w.enough in
      let last = depth_below c.calls (omega (arith, one, enough)) in
      omega (arith, one, enough, last)

  -- what a step of the elision keeps
  abbrev Next : (n : ℕ) → Stack → Move → Type 0
  Next n h (silent t g) = Wide n h g × IsSettled t g × (base t ≡ n)
  Next n h (ticks t g) = Wide n h g × IsSettled t g × (base t ≡ n)
  Next n h (prints v t g) = Wide n h g × IsSettled t g × (base t ≡ n)
  Next n h _ = ⊤

  next : (c : Control) (h : Stack) → IsSettled c h → Next (base c) h (goes c h)
  next c h w = by (step program page input c h) (wide_step program page input (base c) c h (below (length c.calls) (end_count c.rest)) (low_base c h w)) (good_law program page input c h w).moves (good_law program page input c h w).goes_
    where
      below : (a b : ℕ) → a - b ≤ a
      below a b = omega arith

      by : (x : Move) → Ok_ program page input (base c) h x → Moves c h x → Keeps IsSettled (serial Control Stack Destination (step program page input) inside h x) → Next (base c) h (serial Control Stack Destination (step program page input) inside h x)
      by (silent t g) o m q = (o, q, m.1)
      by (ticks t g) o m q = (o, q, m.1)
      by (prints v t g) o m q = (o, q, m.1)
      by (spawns call lent x t g) o m q = (wide_same (base c) h, q, m.4 ∙ m.2)
      by (syncs t) o m q = (wide_same (base c) h, q, m.2)
      by (traps k) o m q = tt
      by (ends v) o m q = tt
      by stuck o m q = tt

  next_at : (c : Control) (h : Stack) (x : Move) → goes c h ≡ x → IsSettled c h → Next (base c) h x
  next_at c h x e w = subst (Next (base c) h) e (next c h w)

  -- a run of a call
  pub wide_run : {c t : Control} {h g : Stack} {out : List ℤ} {m : ℕ} → Comes program page input c h out m t g → IsSettled c h → Wide (base c) h g
  wide_run {c = c} {h = h} elision.here w = wide_same (base c) h
  wide_run {c = c} {h = h} {g = k} (elision.quiet {t = t} {g = g} e r) w = let x = next_at c h _ e w in wide_joined (base c) h g k x.0 (subst (λ n. Wide n g k) x.2 (wide_run r x.1))
  wide_run {c = c} {h = h} {g = k} (elision.tick {t = t} {g = g} e r) w = let x = next_at c h _ e w in wide_joined (base c) h g k x.0 (subst (λ n. Wide n g k) x.2 (wide_run r x.1))
  wide_run {c = c} {h = h} {g = k} (elision.show {t = t} {g = g} e r) w = let x = next_at c h _ e w in wide_joined (base c) h g k x.0 (subst (λ n. Wide n g k) x.2 (wide_run r x.1))
