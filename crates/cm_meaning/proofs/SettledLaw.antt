-- Each step of a settled state leads to settled states, and frames come and go in order.
use Rattle.std.proofs.Common.{◌≡◌, ◌≢◌, ℕ, zero, suc, ◌+◌, ◌<◌, ◌≤◌, List, [], ◌∷◌, ◌++◌, length, Option, None, Some, refl, sym, ap, ◌∙◌, subst, arith, inl, inr}
use Rattle.std.proofs.lemmas.Bool.{eq-eqb, ltb-true}
use Rattle.std.proofs.lemmas.Bool.Decides.{eqb_tells}
use Rattle.std.specs.Prelude.{◌-◌, Bool, true, false, ◌==◌, if◌then◌else◌, nat_le, nat_lt, ℤ, ⊤, slice_get}
use Rattle.cm_syntax.specs.declared.stmt.Function.{Function}
use Rattle.cm_syntax.specs.declared.stmt.Program.{Program}
use Rattle.cm_syntax.specs.Trap as kind
use Rattle.cm_syntax.specs.Label.{silent, ticks, prints, spawns, syncs, traps, ends, stuck}
use Rattle.cm_syntax.specs.Cell.{Cell, absent, may_write}
use Rattle.cm_syntax.specs.Stack.{Reference, Stack, Destination, Argument, write_word, clear_words, write_parts, lent_stack, kept_stack, push_frame, pop_frame, StackSum, IsUnder}
use Rattle.cm_syntax.specs.Rest.{Item, deliver, body, fall, join, end, Hand, idle, holds, returned, entering, framing, Control, control}
use Rattle.cm_syntax.specs.Step.{Move, top, depth, inside, rest_at_join, hand_value, leave, call_bytes_in, spawn_call, push_call, end_call, item_step, hand_step, step}
use Rattle.cm_meaning.specs.Elision.{serial}
use Rattle.cm_meaning.specs.Activation.{IsInner, IsOuter, FitsHand, end_count, base, IsSettled}
use Rattle.cm_meaning.specs.Law.{HoldsDestination}
use Rattle.cm_meaning.specs.Loan.{floor_of, floor}
use Rattle.cm_meaning.proofs.SumLaw.{part_sum, lent_under, kept_under}
use Rattle.cm_meaning.proofs.Walk.{IsPlainRow, Change, nothing, word, zeros, parts, changed, MayChange, MayTake, IsFree, IsFreeReference, MoveRules}
use Rattle.cm_meaning.proofs.TypedFramesLaw.{IsPlain}
use Rattle.cm_meaning.proofs.WalkLaw.{none_below, move_law}

-- how frames come and go
abbrev pub Moves : Control → Stack → Move → Type 0
Moves c h (silent t g) = (floor c ≤ floor t) × (base t ≡ base c)
Moves c h (ticks t g) = (floor c ≤ floor t) × (base t ≡ base c)
Moves c h (prints v t g) = (floor c ≤ floor t) × (base t ≡ base c)
Moves c h (spawns call lent x t g) = (floor c ≤ floor t) × (depth c < floor t) × (base t ≡ base c) × (base call ≡ suc (depth c)) × (base (inside call x t) ≡ base t) × StackSum lent g h × IsUnder (suc (depth c)) g × (floor c ≤ suc (depth c)) × (base c ≤ depth c)
Moves c h (syncs t) = (depth c ≤ floor t) × (floor c ≤ suc (depth c)) × (base t ≡ base c) × (suc (depth c) ≡ length c.calls)
Moves c h (ends v) = IsUnder (base c) h × (floor c ≤ base c)
Moves c h _ = ⊤

-- what a spawn makes: a call alone, at the frames and the account of its continuation, that holds its destination
abbrev pub IsSpawned : Move → Type 0
IsSpawned (spawns call lent x t g) = (t.hand ≡ idle) × (call.rest ≡ []) × (call.calls ≡ t.calls) × (call.account ≡ t.account) × HoldsDestination x (length t.calls) lent
IsSpawned _ = ⊤

-- a property of the states that a step leads to
abbrev pub Keeps : (Control → Stack → Type 0) → Move → Type 0
Keeps P (silent t g) = P t g
Keeps P (ticks t g) = P t g
Keeps P (prints v t g) = P t g
Keeps P (spawns call lent x t g) = P call lent × P t g
Keeps P _ = ⊤

outer_of : (k : List Item) → IsInner k → IsOuter k
outer_of [] i = absurd i
outer_of (end ∷ k) i = absurd i
outer_of (_ ∷ k) i = i

shape_of : (z : Hand) (k : List Item) → IsOuter k → FitsHand z k
shape_of (entering f ws) k i = i
shape_of (framing f ws) k i = i
shape_of z [] i = i
shape_of z (end ∷ k) i = absurd i
shape_of z (_ ∷ k) i = i

floor_is : (n : ℕ) (k : List Item) → IsOuter k → n ≤ floor_of n k
floor_is n [] i = omega arith
floor_is n (end ∷ k) i = absurd i
floor_is n (_ ∷ k) i = omega arith

pub some_act : (k : List Item) → IsInner k → 1 ≤ end_count k
some_act [] i = absurd i
some_act (join ∷ []) i = absurd i
some_act (join ∷ end ∷ k) i = omega arith
some_act (join ∷ _ ∷ k) i = absurd i
some_act (end ∷ k) i = absurd i
some_act (_ ∷ k) i = some_act k i

-- a destination that is held is lent
lent_held : (h : Stack) (d s : ℕ) (ws : List Argument) → may_write (h.words d s 0) ≡ true → may_write ((lent_stack h (Some (record { depth = d; slot = s })) ws).words d s 0) ≡ true
lent_held h d s ws q = ap may_write lent ∙ q
  where
    lent : (lent_stack h (Some (record { depth = d; slot = s })) ws).words d s 0 ≡ h.words d s 0
    lent = let x = eq-eqb d d refl in let y = eq-eqb s s refl in rw (x, y) refl

pub depth_below : (calls : List ℕ) → 1 ≤ length calls → suc (top calls) ≡ length calls
depth_below [] l = omega (arith, l)
depth_below (f ∷ calls) l = refl

-- what may be written is there
is_there : {A : Type 0} (c : Cell A) → may_write c ≡ true → c ≡ absent → ⊥
is_there c h e = cc (sym h ∙ ap may_write e)

leaves : (z : Hand) (k : List Item) → IsPlain z → IsOuter k → FitsHand z (end ∷ k)
leaves (entering f ws) k p o = absurd p
leaves (framing f ws) k p o = absurd p
leaves _ k p o = o

positive : (n m : ℕ) → suc m ≤ n → n ≤ suc (n - 1)
positive n m l = omega (arith, l)

floor_low : (n : ℕ) (k : List Item) → floor_of n k ≤ n
floor_low n [] = omega arith
floor_low n (end ∷ k) = omega arith
floor_low n (_ ∷ k) = omega arith

module _ (program : Program) (page : ℕ) (input : List ℤ) where
  module _ (c : Control) (h : Stack) (low : IsUnder (length c.calls) h) where
    pub record To (m : ℕ) (t : Control) (g : Stack) : Type 0 where
      pub good : IsSettled t g
      pub level : length c.calls ≤ floor t
      pub even : base t ≡ length c.calls - m

    pub record Parts (m : ℕ) (call t : Control) (x : Destination) (lent_ g : Stack) : Type 0 where
      pub child : IsSettled call lent_
      pub later : To m t g
      pub whole : To m (inside call x t) h
      pub sum : StackSum lent_ g h
      pub kept_low : IsUnder (length c.calls) g
      pub child_base : base call ≡ suc (depth c)
      pub frame : suc (depth c) ≡ length c.calls
      pub spawned_ : (t.hand ≡ idle) × (call.rest ≡ []) × (call.calls ≡ t.calls) × (call.account ≡ t.account) × HoldsDestination x (length t.calls) lent_

    pub record Syncs (m : ℕ) (t : Control) : Type 0 where
      pub good : (g : Stack) → IsUnder (length c.calls) g → IsSettled t g
      pub level : length c.calls ≤ suc (floor t)
      pub even : base t ≡ length c.calls - m

    abbrev Fits : ℕ → Move → Type 0
    Fits m (silent t g) = To m t g
    Fits m (ticks t g) = To m t g
    Fits m (prints v t g) = To m t g
    Fits m (spawns call l x t g) = Parts m call t x l g
    Fits m (syncs t) = Syncs m t
    Fits m (ends v) = ⊥
    Fits m _ = ⊤

    -- an item of the running_function frame, with what follows it
    module _ (k : List Item) (in_ : IsInner k) (many : end_count k ≤ length c.calls) where
      abbrev Ok : Move → Type 0
      Ok x = Fits (end_count k) x

      to_ : (acc : ℕ) (z : Hand) (r : List Item) (g : Stack) → IsInner r → end_count r ≡ end_count k → IsUnder (length c.calls) g → To (end_count k) (control c.calls acc z r) g
      to_ acc z r g i e u = record {
        good = record { shape = shape_of z r (outer_of r i); enough = omega (arith, e, many); below = u };
        level = floor_is (length c.calls) r (outer_of r i);
        even = ap (λ q. length c.calls - q) e;
      }

      going : (z : Hand) (r : List Item) → IsInner r → end_count r ≡ end_count k → To (end_count k) (control c.calls c.account z r) h
      going z r i e = to_ c.account z r h i e low

      put_under : (d s i : ℕ) (v : ℤ) → may_write (h.words d s i) ≡ true → IsUnder (length c.calls) (write_word h d s i v)
      put_under d s i v there = record {
        words = λ e t j l. elim (eqb_tells e d) [
          | inr ne ↦ let x : (e == d) ≡ false = ne.0 in rw x (low.words e t j l)
          | inl one ↦ absurd (is_there (h.words d s i) there (low.words d s i (omega (arith, l, one.1))))
        ];
        references = low.references;
      }

      fits_spawn : (f : ℕ) (ws : List Argument) (x : Destination) → HoldsDestination x (length c.calls) (lent_stack h x ws) → Ok (spawn_call c h f ws x k)
      fits_spawn f ws x held = let one = some_act k in_ in let l : 1 ≤ length c.calls = omega (arith, one, many) in let d = depth_below c.calls l in record {
        child = record { shape = tt; enough = omega arith; below = lent_under h x ws low };
        later = to_ c.account idle k (kept_stack h x ws) in_ refl (kept_under h x ws low);
        whole = to_ c.account (entering f ws) (deliver x ∷ k) h in_ refl low;
        sum = part_sum h x ws;
        kept_low = kept_under h x ws low;
        child_base = omega (arith, d);
        frame = d;
        spawned_ = (refl, refl, refl, refl, held);
      }

      -- some frame is running
      running : suc (top c.calls) ≡ length c.calls
      running = let one = some_act k in_ in depth_below c.calls (omega (arith, one, many))

      fits_leave : (r : List Item) → IsInner r → end_count r ≡ end_count k → Ok (leave c h (rest_at_join r))
      fits_leave [] n e = absurd n
      fits_leave (join ∷ r) n e = going c.hand (join ∷ r) n e
      fits_leave (end ∷ r) n e = absurd n
      fits_leave (_ ∷ r) n e = fits_leave r n e

      zeroed_under : (d s n : ℕ) → ((i : ℕ) → i < n → IsFree h d s i) → IsUnder (length c.calls) (clear_words h d s n)
      zeroed_under d s n all = record {
        words = λ e t j l. elim (eqb_tells e d) [
          | inr ne ↦ let x : (e == d) ≡ false = ne.0 in rw x (low.words e t j l)
          | inl one ↦ by n all e t j l one
        ];
        references = low.references;
      }
        where
          by : (n : ℕ) → ((i : ℕ) → i < n → IsFree h d s i) → (e t j : ℕ) → length c.calls ≤ e → ((e == d) ≡ true) × (e ≡ d) → (clear_words h d s n).words e t j ≡ absent
          by zero all e t j l one = elim (eqb_tells t s) [
            | inr ne ↦ let x : (e == d) ≡ true = one.0 in let y : (t == s) ≡ false = ne.0 in rw (x, y) (low.words e t j l)
            | inl two ↦ let x : (e == d) ≡ true = one.0 in let y : (t == s) ≡ true = two.0 in let z : nat_lt j 0 ≡ false = not_below j in rw (x, y, z) (low.words e t j l)
          ]
            where
              not_below : (j : ℕ) → nat_lt j 0 ≡ false
              not_below j = case (nat_lt j 0) refl
                where
                  case : (q : Bool) → nat_lt j 0 ≡ q → nat_lt j 0 ≡ false
                  case true g = absurd (none_below j (ltb-true j 0 g))
                  case false g = g
          by (suc n) all e t j l one = absurd (is_there (h.words d s n) (all n (omega arith)) (low.words d s n (omega (arith, l, one.1))))

      parted_under : (l r : ℕ) (x : Reference) (p : ℕ) → may_write (h.references (top c.calls) l) ≡ true → IsUnder (length c.calls) (write_parts h (top c.calls) l r x p)
      parted_under l r x p there = record {
        words = low.words;
        references = λ d s m. elim (eqb_tells d (top c.calls)) [
          | inr ne ↦ let y : (d == top c.calls) ≡ false = ne.0 in rw y (low.references d s m)
          | inl one ↦ absurd (is_there (h.references (top c.calls) l) there (low.references (top c.calls) l (omega (arith, m, one.1))))
        ];
      }

      inner_row : (new : List Item) → IsPlainRow new → IsInner (new ++ k)
      inner_row [] q = in_
      inner_row (join ∷ new) q = absurd q
      inner_row (end ∷ new) q = absurd q
      inner_row (_ ∷ new) q = inner_row new q

      count_row : (new : List Item) → IsPlainRow new → end_count (new ++ k) ≡ end_count k
      count_row [] q = refl
      count_row (join ∷ new) q = absurd q
      count_row (end ∷ new) q = absurd q
      count_row (_ ∷ new) q = count_row new q

      changed_under : (w : Change) → MayChange (IsFree h) (IsFreeReference h) (top c.calls) w → IsUnder (length c.calls) (changed (top c.calls) w h)
      changed_under nothing m = low
      changed_under (word d s i v) m = put_under d s i v m
      changed_under (zeros s n) m = zeroed_under (top c.calls) s n m
      changed_under (parts l r x n) m = parted_under l r x n m.0

      held : (ws : List Argument) (x : Destination) → MayTake (IsFree h) (top c.calls) x → HoldsDestination x (length c.calls) (lent_stack h x ws)
      held ws None m = tt
      held ws (Some x) m = ((let r = running in let e = m.0 in omega (arith, r, e)), lent_held h x.depth x.slot ws m.1)

      syncing : (y : Hand) → Ok (syncs (control c.calls c.account y k))
      syncing y = record {
        good = λ g u. record { shape = shape_of y k (outer_of k in_); enough = many; below = u };
        level = let l = floor_is (length c.calls) k (outer_of k in_) in omega (arith, l);
        even = refl;
      }

      rules : MoveRules Ok c h k
      rules = record {
        none = tt;
        error = λ t. tt;
        goes = λ w y new m q. to_ c.account y (new ++ k) (changed (top c.calls) w h) (inner_row new q) (count_row new q) (changed_under w m);
        called = λ f ws. going (entering f ws) k in_ refl;
        spawns = λ f ws x m. fits_spawn f ws x (held ws x m);
        ticks = λ y. going y k in_ refl;
        prints = λ v. going idle k in_ refl;
        syncs = syncing;
        leaves = fits_leave k in_ refl;
      }

    -- the first item is one of the running_function frame and neither its join nor its end
    fits_item : (plain : IsPlain c.hand) (i : Item) (k : List Item) → IsInner (i ∷ k) → end_count (i ∷ k) ≤ length c.calls → Fits (end_count (i ∷ k)) (item_step program page input c h i k)
    fits_item plain join [] n m = absurd n
    fits_item plain join (end ∷ k) n m = record {
      good = λ g u. record { shape = leaves c.hand k plain n; enough = m; below = u };
      level = let l = positive (length c.calls) (end_count k) m in omega (arith, l);
      even = refl;
    }
    fits_item plain join (_ ∷ k) n m = absurd n
    fits_item plain end k n m = absurd n
    fits_item plain i k n m = move_law program page input (Fits (end_count k)) c h k (rules k n m) i tt

  abbrev Keeps_ : (Control → Stack → Type 0) → Move → Type 0
  Keeps_ = Keeps

  abbrev Moves_ : Control → Stack → Move → Type 0
  Moves_ = Moves

  abbrev elided : Stack → Move → Move
  elided = serial Control Stack Destination (step program page input) inside

  -- the states that a sync leads to fit with other words too
  abbrev pub Met : Control → Move → Type 0
  Met c (syncs t) = (g : Stack) → IsUnder (length c.calls) g → IsSettled t g
  Met c _ = ⊤

  pub record Lawful (c : Control) (h : Stack) (x : Move) : Type 0 where
    pub keeps : Keeps_ IsSettled x
    pub goes_ : Keeps_ IsSettled (elided h x)
    pub moves : Moves_ c h x
    pub met : Met c x
    pub parts : IsSpawned x

  -- of a step of the running_function frame's items
  lawful : (c : Control) (h : Stack) (low : IsUnder (length c.calls) h) (x : Move) → floor c ≤ length c.calls → 1 ≤ end_count c.rest → end_count c.rest ≤ length c.calls → Fits c h low (end_count c.rest) x → Lawful c h x
  lawful c h low (silent t g) f o m r = let a = r.level in record { keeps = r.good; goes_ = r.good; moves = (omega (arith, a, f), r.even); met = tt; parts = tt }
  lawful c h low (ticks t g) f o m r = let a = r.level in record { keeps = r.good; goes_ = r.good; moves = (omega (arith, a, f), r.even); met = tt; parts = tt }
  lawful c h low (prints v t g) f o m r = let a = r.level in record { keeps = r.good; goes_ = r.good; moves = (omega (arith, a, f), r.even); met = tt; parts = tt }
  lawful c h low (spawns call l x t g) f o m r =
      let a = r.later.level in let b = r.frame in let d = r.later.even in let e = r.whole.even in record {
        keeps = (r.child, r.later.good);
        goes_ = r.whole.good;
        moves = (omega (arith, a, f), omega (arith, a, b), d, r.child_base, e ∙ sym d, r.sum, under_less g b tt r.kept_low, omega (arith, f, b), omega (arith, o, m, b));
        met = tt;
        parts = r.spawned_;
      }
    where
      under_less : {n k : ℕ} (g : Stack) → n ≡ k → ⊤ → IsUnder k g → IsUnder n g
      under_less g e u v = subst (λ q. IsUnder q g) (sym e) v
  lawful c h low (syncs t) f o m r = let a = r.level in let d = depth_below c.calls (omega (arith, o, m)) in record {
    keeps = tt;
    goes_ = r.good h low;
    moves = (omega (arith, a, d), omega (arith, f, d), r.even, d);
    met = r.good;
    parts = tt;
  }
  lawful c h low (traps k) f o m r = record { keeps = tt; goes_ = tt; moves = tt; met = tt; parts = tt }
  lawful c h low (ends v) f o m r = absurd r
  lawful c h low stuck f o m r = record { keeps = tt; goes_ = tt; moves = tt; met = tt; parts = tt }

  pushed_under : (n : ℕ) (h : Stack) (ws : List Argument) → IsUnder n h → IsUnder (suc n) (push_frame h n ws)
  pushed_under n h ws u = record {
    words = λ d s i l. elim (eqb_tells d n) [ inl one ↦ absurd (less d n l one.1) | inr ne ↦ let x : (d == n) ≡ false = ne.0 in rw x (u.words d s i (omega (arith, l))) ];
    references = λ d s l. elim (eqb_tells d n) [ inl one ↦ absurd (less d n l one.1) | inr ne ↦ let x : (d == n) ≡ false = ne.0 in rw x (u.references d s (omega (arith, l))) ];
  }
    where
      less : (d n : ℕ) → suc n ≤ d → d ≡ n → ⊥
      less d n l e = omega (arith, l, e)

  popped_under : (n : ℕ) (h : Stack) → IsUnder (suc n) h → IsUnder n (pop_frame h n)
  popped_under n h u = record {
    words = λ d s i l. elim (eqb_tells d n) [ inl one ↦ let x : (d == n) ≡ true = one.0 in rw x refl | inr ne ↦ let x : (d == n) ≡ false = ne.0 in rw x (u.words d s i (above d n ne.1 l)) ];
    references = λ d s l. elim (eqb_tells d n) [ inl one ↦ let x : (d == n) ≡ true = one.0 in rw x refl | inr ne ↦ let x : (d == n) ≡ false = ne.0 in rw x (u.references d s (above d n ne.1 l)) ];
  }
    where
      above : (d n : ℕ) → d ≢ n → n ≤ d → suc n ≤ d
      above d n e l = omega (arith, e, l)

  law_framed : (c : Control) (h : Stack) (f : ℕ) (ws : List Argument) (k : List Item) (y : Option (Function ℕ)) → c.rest ≡ k → IsOuter k → end_count k ≤ length c.calls → IsUnder (length c.calls) h → Lawful c h (push_call program page input c h f ws k y)
  law_framed c h f ws k None e o m u = record { keeps = tt; goes_ = tt; moves = tt; met = tt; parts = tt }
  law_framed c h f ws k (Some y) e o m u = by (nat_le (call_bytes_in page (Some y)) c.account)
    where
      inner : IsSettled (control (f ∷ c.calls) (c.account - call_bytes_in page (Some y)) idle (body y.body ∷ fall ∷ join ∷ end ∷ k)) (push_frame h (length c.calls) ws)
      inner = record { shape = o; enough = omega (arith, m); below = pushed_under (length c.calls) h ws u }

      floors : floor_of (length c.calls) c.rest ≤ suc (length c.calls)
      floors = let l = floor_low (length c.calls) c.rest in omega (arith, l)

      bases : suc (length c.calls) - suc (end_count k) ≡ length c.calls - end_count c.rest
      bases = let l = ap end_count e in omega (arith, l)

      by : (q : Bool) → Lawful c h (if q then silent (control (f ∷ c.calls) (c.account - call_bytes_in page (Some y)) idle (body y.body ∷ fall ∷ join ∷ end ∷ k)) (push_frame h (length c.calls) ws) else traps kind.Stack)
      by true = record { keeps = inner; goes_ = inner; moves = (floors, bases); met = tt; parts = tt }
      by false = record { keeps = tt; goes_ = tt; moves = tt; met = tt; parts = tt }

  law_ended : (c : Control) (h : Stack) (calls : List ℕ) (k : List Item) → c.calls ≡ calls → c.rest ≡ end ∷ k → IsOuter k → suc (end_count k) ≤ length calls → IsUnder (length calls) h → Lawful c h (end_call program page input c h calls k)
  law_ended c h [] k e r o m u = record { keeps = tt; goes_ = tt; moves = tt; met = tt; parts = tt }
  law_ended c h (f ∷ calls) k e r o m u = record { keeps = good; goes_ = good; moves = (floors, bases); met = tt; parts = tt }
    where
      good : IsSettled (control calls (c.account + call_bytes_in page (slice_get program.functions f)) (returned (hand_value c.hand)) k) (pop_frame h (length calls))
      good = record { shape = shape_of (returned (hand_value c.hand)) k o; enough = omega (arith, m); below = popped_under (length calls) h u }

      floors : floor c ≤ floor_of (length calls) k
      floors = let a = floor_is (length calls) k o in let b : floor_of (length c.calls) c.rest ≡ length (f ∷ calls) - 1 = ap (λ q. floor_of (length q) c.rest) e ∙ ap (λ q. floor_of (length (f ∷ calls)) q) r in omega (arith, a, b)

      bases : length calls - end_count k ≡ base c
      bases = let b : base c ≡ length (f ∷ calls) - end_count (end ∷ k) = ap (λ q. length q - end_count c.rest) e ∙ ap (λ q. length (f ∷ calls) - end_count q) r in omega (arith, b)

  shape_idle : (z : Hand) (r : List Item) → IsPlain z → FitsHand z r → FitsHand idle r
  shape_idle (entering f ws) r p s = absurd p
  shape_idle (framing f ws) r p s = absurd p
  shape_idle z [] p s = s
  shape_idle idle r p s = s
  shape_idle (holds v) (end ∷ k) p s = s
  shape_idle (returned v) (end ∷ k) p s = s
  shape_idle (holds v) (_ ∷ k) p s = s
  shape_idle (returned v) (_ ∷ k) p s = s

  -- an item that isn't the end of a call
  law_inner : (c : Control) (h : Stack) (i : Item) (k : List Item) → IsPlain c.hand → c.rest ≡ i ∷ k → IsInner (i ∷ k) → end_count (i ∷ k) ≤ length c.calls → IsUnder (length c.calls) h → Lawful c h (item_step program page input c h i k)
  law_inner c h i k p e n m u = lawful c h u (item_step program page input c h i k) (floor_low (length c.calls) c.rest) (subst (λ r. 1 ≤ end_count r) (sym e) (some_act (i ∷ k) n)) (subst (λ r. end_count r ≤ length c.calls) (sym e) m)
      (subst (λ r. Fits c h u (end_count r) (item_step program page input c h i k)) (sym e) (fits_item c h u p i k n m))

  law_item : (c : Control) (h : Stack) (i : Item) (k : List Item) → IsPlain c.hand → c.rest ≡ i ∷ k → FitsHand idle (i ∷ k) → end_count (i ∷ k) ≤ length c.calls → IsUnder (length c.calls) h → Lawful c h (item_step program page input c h i k)
  law_item c h end k p e s m u = law_ended c h c.calls k refl e s m u
  law_item c h i k p e s m u = law_inner c h i k p e s m u

  -- each step from a good state leads to good states and moves frames as fork and join call_bytes it
  pub good_law : (c : Control) (h : Stack) → IsSettled c h → Lawful c h (step program page input c h)
  good_law c h g = by c.hand c.rest refl refl
    where
      low : IsUnder (length c.calls) h
      low = g.below

      plainly : (z : Hand) (k : List Item) → c.hand ≡ z → c.rest ≡ k → FitsHand z k
      plainly z k e r = subst (λ q. FitsHand q k) e (subst (λ q. FitsHand c.hand q) r g.shape)

      few : (k : List Item) → c.rest ≡ k → end_count k ≤ length c.calls
      few k r = subst (λ q. end_count q ≤ length c.calls) r g.enough

      entered : (f : ℕ) (ws : List Argument) (k : List Item) → c.rest ≡ k → IsOuter k → Lawful c h (ticks (control c.calls c.account (framing f ws) k) h)
      entered f ws k r o = let t = few k r in record {
        keeps = record { shape = o; enough = t; below = low };
        goes_ = record { shape = o; enough = t; below = low };
        moves = (let x : floor_of (length c.calls) c.rest ≡ floor_of (length c.calls) k = ap (λ q. floor_of (length c.calls) q) r in omega (arith, x), ap (λ q. length c.calls - end_count q) (sym r));
        met = tt;
        parts = tt;
      }

      last : (v : Option ℤ) → c.rest ≡ [] → Lawful c h (ends v)
      last v r = let b : base c ≡ length c.calls - 0 = ap (λ q. length c.calls - end_count q) r in let x = floor_low (length c.calls) c.rest in let same_ : length c.calls ≡ base c = omega (arith, b) in
          record { keeps = tt; goes_ = tt; moves = (subst (λ q. IsUnder q h) same_ low, omega (arith, x, same_)); met = tt; parts = tt }

      none_ : Lawful c h stuck
      none_ = record { keeps = tt; goes_ = tt; moves = tt; met = tt; parts = tt }

      item : (z : Hand) (p : IsPlain z) (i : Item) (k : List Item) → c.hand ≡ z → c.rest ≡ i ∷ k → Lawful c h (item_step program page input c h i k)
      item z p i k e r = law_item c h i k (subst IsPlain (sym e) p) r (shape_idle z (i ∷ k) p (plainly z (i ∷ k) e r)) (few (i ∷ k) r) low

      by : (z : Hand) (k : List Item) → c.hand ≡ z → c.rest ≡ k → Lawful c h (hand_step program page input c h z k)
      by (entering f ws) k e r = entered f ws k r (plainly (entering f ws) k e r)
      by (framing f ws) k e r = law_framed c h f ws k (slice_get program.functions f) r (plainly (framing f ws) k e r) (few k r) low
      by idle [] e r = none_
      by (holds v) [] e r = none_
      by (returned v) [] e r = last v r
      by idle (i ∷ k) e r = item idle tt i k e r
      by (holds v) (i ∷ k) e r = item (holds v) tt i k e r
      by (returned v) (i ∷ k) e r = item (returned v) tt i k e r
