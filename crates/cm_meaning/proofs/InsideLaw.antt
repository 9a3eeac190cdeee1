-- A step of the elision is the same step inside a caller's rest.
use Rattle.std.proofs.Common.{ℕ, List, [], ◌∷◌, ◌++◌, Option, None, Some, refl, sym, ap, ◌∙◌, append_assoc}
use Rattle.std.specs.Prelude.{◌≡◌, Bool, true, false, if◌then◌else◌, nat_le, ℤ, slice_get, ⊤}
use Rattle.cm_syntax.specs.declared.stmt.Function.{Function}
use Rattle.cm_syntax.specs.declared.stmt.Program.{Program}
use Rattle.cm_syntax.specs.Label.{silent}
use Rattle.cm_syntax.specs.Cell.{Cell}
use Rattle.cm_syntax.specs.Stack.{Stack, Destination, Argument}
use Rattle.cm_syntax.specs.Rest.{Item, deliver, join, end, Hand, idle, holds, returned, entering, framing, Control, control}
use Rattle.cm_syntax.specs.Step.{Move, top, inside, rest_at_join, when_writable, leave, call_bytes_in, deliver_value, push_call, end_call, item_step, hand_step, step}
use Rattle.cm_meaning.specs.Elision.{serial, serial_step}
use Rattle.cm_meaning.specs.Law.{IsInside, arrival}
use Rattle.cm_syntax.proofs.AccessLaw.{writing, both_read, both_write}
use Rattle.cm_meaning.proofs.Walk.{changed, Rules}
use Rattle.cm_meaning.proofs.WalkLaw.{item_law}

-- what follows a call: its destination is deliver_value and the continuation go_on on
module _ (program : Program) (page : ℕ) (input : List ℤ) (x : Destination) (z : Control) (h : Stack) (arrives : Option ℤ → Move) where
  abbrev elided : Move → Move
  elided = serial Control Stack Destination (step program page input) inside h

  abbrev In : Move → Move → Type 0
  In f g = IsInside x z arrives (elided f) (elided g)

  abbrev put_in : List Item → List Item
  put_in k = k ++ (deliver x ∷ z.rest)

  inside_if : (t : Bool) (f g m n : Move) → In f m → In g n → In (if t then f else g) (if t then m else n)
  inside_if true f g m n a b = a
  inside_if false f g m n a b = b

  module _ (c : Control) where
    abbrev big : Control
    big = inside c x z

    inside_leave : (k : List Item) → In (leave c h (rest_at_join k)) (leave big h (rest_at_join (put_in k)))
    inside_leave [] = tt
    inside_leave (join ∷ k) = refl
    inside_leave (end ∷ k) = tt
    inside_leave (_ ∷ k) = inside_leave k

    inside_end : (calls : List ℕ) (k : List Item) → In (end_call program page input c h calls k) (end_call program page input big h calls (put_in k))
    inside_end [] k = tt
    inside_end (f ∷ calls) k = refl

    inside_frame : (f : ℕ) (ws : List Argument) (k : List Item) (y : Option (Function ℕ)) → In (push_call program page input c h f ws k y) (push_call program page input big h f ws (put_in k) y)
    inside_frame f ws k None = tt
    inside_frame f ws k (Some y) = inside_if (nat_le (call_bytes_in page (Some y)) c.account) _ _ _ _ refl refl

    abbrev Both : (Stack → Move) → (Stack → Move) → Type 0
    Both f m = In (f h) (m h)

    rules : (k : List Item) → Rules true (λ d s i. ⊤) (λ d s. ⊤) Both c c.account (put_in c.rest) k (put_in k)
    rules k = record {
      none = tt;
      error = λ t. refl;
      reads = λ d s i f m e. both_read In tt (h.words d s i) _ _ (λ v q. e v);
      reads_reference = λ d s f m e. both_read In tt (h.references d s) _ _ (λ r q. e r);
      writes_word = λ w d s i f m e. both_write In tt (h.words d s i) _ _ (λ q. e tt);
      writes_reference = λ w d s f m e. both_write In tt (h.references d s) _ _ (λ q. e tt);
      goes = λ w y new m q. ap (λ r. silent (control c.calls c.account y r) (changed (top c.calls) w h)) (sym (append_assoc new k (deliver x ∷ z.rest)));
      called = λ f ws. refl;
      spawns = λ f ws w m. refl;
      ticks = λ y. refl;
      prints = λ v. refl;
      syncs = λ y. refl;
      leaves = inside_leave k;
    }

    inside_item : (i : Item) (k : List Item) → In (item_step program page input c h i k) (item_step program page input big h i (put_in k))
    inside_item end k = inside_end c.calls k
    inside_item i k = item_law program page input true (λ d s i. ⊤) (λ d s. ⊤) Both c c.account (put_in c.rest) k (put_in k) (rules k) i tt (λ e. refl)

    abbrev Arrives : Type 0
    Arrives = (v : Option ℤ) → elided (deliver_value big h (returned v) x z.rest) ≡ arrives v

    inside_step : Arrives → (y : Hand) (k : List Item) → c.hand ≡ y → In (hand_step program page input c h y k) (hand_step program page input big h y (put_in k))
    inside_step m (entering f ws) k e = refl
    inside_step m (framing f ws) k e = inside_frame f ws k (slice_get program.functions f)
    inside_step m idle [] e = tt
    inside_step m (holds v) [] e = tt
    inside_step m (returned v) [] e = ap (λ q. elided (deliver_value big h q x z.rest)) e ∙ m v
    inside_step m idle (i ∷ k) e = inside_item i k
    inside_step m (holds v) (i ∷ k) e = inside_item i k
    inside_step m (returned v) (i ∷ k) e = inside_item i k

    pub within_if : Arrives → In (step program page input c h) (step program page input big h)
    within_if m = inside_step m c.hand c.rest refl

module _ (program : Program) (page : ℕ) (input : List ℤ) (x : Destination) (z : Control) (c : Control) (h : Stack) where
  -- what a delivered value leads to is no spawn
  arrives : (v : Option ℤ) → serial Control Stack Destination (step program page input) inside h (arrival x z c h v) ≡ arrival x z c h v
  arrives v = by x v
    where
      silent_ : Move → Move
      silent_ y = serial Control Stack Destination (step program page input) inside h y

      held : (y : Cell ℤ) (t : Control) (g : Stack) → silent_ (when_writable y (silent t g)) ≡ when_writable y (silent t g)
      held y t g = writing (λ m. silent_ m ≡ m) refl y (silent t g) (λ q. refl)

      by : (y : Destination) (v : Option ℤ) → silent_ (deliver_value (inside c x z) h (returned v) y z.rest) ≡ deliver_value (inside c x z) h (returned v) y z.rest
      by None v = refl
      by (Some y) None = refl
      by (Some y) (Some v) = held (h.words y.depth y.slot 0) _ _

  -- the elision's step of a call is its step inside the caller
  pub within : IsInside x z (arrival x z c h) (serial_step Control Stack Destination (step program page input) inside c h) (serial_step Control Stack Destination (step program page input) inside (inside c x z) h)
  within = within_if program page input x z h (arrival x z c h) c arrives
