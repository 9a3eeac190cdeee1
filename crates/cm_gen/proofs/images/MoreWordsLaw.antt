-- With more words beside its own a machine stands as before, also in the middle of a step.
use Rattle.std.proofs.Common.{◌≡◌, ℕ, zero, suc, ◌+◌, List, [], ◌∷◌, Some, refl, sym, ap, ◌∙◌, subst, inl, inr}
use Rattle.std.proofs.lemmas.Option.{none-some}
use Rattle.std.specs.Prelude.{ℤ}
use Rattle.cm_isa.specs.Machine.{Machine, Mapped, Stored, unmapped, writable, read_only, reads, Code, StepsTo}
use Rattle.cm_isa.specs.Run.{Extends, word_or, with_more, replied_machine}
use Rattle.cm_isa.specs.Run as run
use Rattle.cm_isa.proofs.Run.{IsOne, runs_beside, runs_keep_fixed, larger_has_more}
use Rattle.cm_syntax.specs.declared.stmt.Program.{Program}
use Rattle.cm_syntax.specs.Trap as kind
use Rattle.cm_syntax.specs.Label.{silent, ticks, prints, spawns, syncs, traps, ends, stuck}
use Rattle.cm_syntax.specs.Stack.{Stack, Destination}
use Rattle.cm_syntax.specs.Rest.{Control}
use Rattle.cm_syntax.specs.Step.{Move, inside}
use Rattle.cm_syntax.specs.Cell.{unset}
use Rattle.cm_gen.specs.declared.form.Form.{Form}
use Rattle.cm_gen.specs.declared.form.Form.TheVariants.{Serial, Cilk}
use Rattle.cm_gen.specs.Returns.{Link, plain, call, back, link_of, Links, GoesTo}
use Rattle.cm_gen.specs.Standing.{Frame, form_here}
use Rattle.cm_gen.specs.FrameWord.{Holds, cell_at}
use Rattle.cm_gen.specs.StandsFor.{Spot, ExactAt, Serves, Traps, Reply, Turns, Comes, stands, turns, hears, opens, ArrivesSpawn, ArrivesSync, Arrives, with_words, spawned_spot, child_machine, passed}
use Rattle.cm_gen.specs.Moment.{StandsFor}
use Rattle.cm_gen.proofs.frames.DeeperLaw.{extends_cell, kept_extends}

-- a larger map of a larger one
extends_both : (v u w : Mapped) → Extends v u → Extends u w → Extends v w
extends_both v u w first second = record {
  keeps_writable = λ a n e. second.keeps_writable a n (first.keeps_writable a n e);
  keeps_readable = λ a n e. by a n (u a) refl (first.keeps_readable a n e);
}
  where
    by : (a n : ℕ) (found : Stored) → u a ≡ found → reads found ≡ Some n → reads (w a) ≡ Some n
    by a n unmapped e h = absurd (none-some n h)
    by a n (writable x) e h = ap reads (second.keeps_writable a x e) ∙ h
    by a n (read_only x) e h = second.keeps_readable a x e ∙ h

-- an instruction's link depends on where the machines are alone
same_link : (l : Link) (m n t u : Machine) (returns later : List ℕ) → t.counter ≡ m.counter → u.counter ≡ n.counter → Links l m n returns later → Links l t u returns later
same_link plain m n t u returns later e f h = h
same_link call m n t u returns later e f h = h ∙ ap (λ p. (p + 4) ∷ returns) (sym e)
same_link back m n t u returns later e f h = h ∙ ap (λ p. p ∷ later) (sym f)

module _ (code : Code) (one : IsOne code) where
  -- the same instruction with more words, and the words behind it
  record Steps (m next : Machine) (s : StepsTo code m next) (w : Mapped) : Type 0 where
    words : Mapped
    step : StepsTo code (with_words m w) (with_words next words)
    same : step.instruction ≡ s.instruction
    more : Extends next.words words

  steps_more : (m next : Machine) (w : Mapped) → Extends m.words w → (s : StepsTo code m next) → Steps m next s w
  steps_more m next w more s =
      let readable : (a n : ℕ) → m.words a ≡ read_only n → reads (w a) ≡ Some n = more.keeps_readable in
      let ran = runs_beside code (run.silent ∷ []) m next w readable (next, s, refl) in
      let moved : StepsTo code (with_words m w) (with_words next (with_more next.words w)) =
      subst (λ q. StepsTo code (with_words m q) (with_words next (with_more next.words w))) (larger_has_more m.words w more)
      (subst (λ q. StepsTo code (with_words m (with_more m.words w)) q) ran.2 ran.1) in
      record {
        words = with_more next.words w;
        step = moved;
        same = one m.counter moved.instruction s.instruction moved.there s.there;
        more = record {
          keeps_writable = λ a n e. ap (λ found. word_or found (w a)) e;
          keeps_readable = λ a n e. ap (λ found. reads (word_or found (w a))) e ∙ readable a n ((runs_keep_fixed code (run.silent ∷ []) m next a n (next, s, refl)).0 e);
        };
      }

  -- so many plain instructions
  goes_more : (n : ℕ) (m last : Machine) (w : Mapped) → Extends m.words w → GoesTo code n m last → (u : Mapped) × Extends last.words u × GoesTo code n (with_words m w) (with_words last u)
  goes_more zero m last w more e = (w, subst (λ q. Extends q.words w) e more, ap (λ q. with_words q w) e)
  goes_more (suc n) m last w more e =
      let s = steps_more m e.0 w more e.1 in
      let on = goes_more n e.0 last s.words s.more e.3 in
      (on.0, on.1, (with_words e.0 s.words, s.step, ap link_of s.same ∙ e.2, on.2))

module _ (program : Program) (page : ℕ) where
  pub holds_more : (calls : List ℕ) (frames : List Frame) (h : Stack) (v w : Mapped) → Extends v w → Holds program page calls frames h v → Holds program page calls frames h w
  holds_more calls frames h v w more holds = λ d s i deep place. extends_cell program page (cell_at program page calls frames h d s i) v w _ more (holds d s i deep place)

module _ (program : Program) (form : Form) (page : ℕ) (input : List ℤ) (code : Code) where
  pub exact_more : (spot : Spot) (left : ℕ) (c : Control) (h : Stack) (m : Machine) (w : Mapped) → Extends m.words w
      → ExactAt program form page input code spot left c h m → ExactAt program form page input code spot left c h (with_words m w)
  exact_more spot left c h m w more x = record {
    frames = x.frames;
    may_stand = x.may_stand;
    slots = holds_more program page c.calls spot.frames h m.words w more x.slots;
    kept = kept_extends program page c.rest c.calls spot.frames h m.words w more x.kept;
    own = λ d n deep ends low high own. extends_cell program page unset m.words w _ more (x.own d n deep ends low high own);
    returns_are = x.returns_are;
    zero_is = x.zero_is;
    low_is = x.low_is;
    account_is = x.account_is;
    left_is = x.left_is;
    pointer_is = x.pointer_is;
    placed = x.placed;
  }

  serves_more : (n : ℕ) (m : Machine) (w : Mapped) → Serves program form page input code n m → Serves program form page input code n (with_words m w)
  serves_more n m w x = record { there = x.there; number_is = x.number_is }

  traps_more : (k : kind.Trap) (m : Machine) (w : Mapped) → Traps program form page input code k m → Traps program form page input code k (with_words m w)
  traps_more kind.Divide m w x = serves_more 7 m w x
  traps_more kind.Index m w x = serves_more 8 m w x
  traps_more kind.Stack m w x = serves_more 9 m w x
  traps_more kind.Input m w x = (serves_more 2 m w x.0, x.1, x.2, x.3, x.4)

  reply_more : (n : ℕ) (m : Machine) (w : Mapped) → Reply program form page input code m n → Reply program form page input code (with_words m w) n
  reply_more n m w (inl x) = inl (serves_more 2 m w x.0, x.1, x.2, x.3)
  reply_more n m w (inr x) = inr (serves_more 3 m w x.0, x.1)

  module _ (one : IsOne code) where
    turns_more : (old : Spot) (left : ℕ) (c : Control) (h : Stack) (m : Machine) (w : Mapped) → Extends m.words w → Turns program form page input code old left c h m
        → Turns program form page input code old left c h (with_words m w)
    turns_more old left c h m w more t =
        let s = steps_more code one m t.next w more t.step in record {
          next = with_words t.next s.words;
          step = s.step;
          spot = t.spot;
          moves = t.moves;
          links = subst (λ i. Links (link_of i) (with_words m w) (with_words t.next s.words) old.returns t.spot.returns) (sym s.same)
              (same_link (link_of t.step.instruction) m t.next (with_words m w) (with_words t.next s.words) old.returns t.spot.returns refl refl t.links);
          stands = exact_more t.spot left c h t.next s.words s.more t.stands;
        }

    comes_more : (old : Spot) (left : ℕ) (c : Control) (h : Stack) (m : Machine) (w : Mapped) → Extends m.words w → Comes program form page input code old left c h m
        → Comes program form page input code old left c h (with_words m w)
    comes_more old left c h m w more (stands x) = stands (x.0, x.1, x.2, exact_more x.0 left c h m w more x.3)
    comes_more old left c h m w more (turns t) = turns (turns_more old left c h m w more t)
    comes_more old left c h m w more (hears n reply x) = hears n (reply_more n m w reply) (exact_more old left c h (replied_machine m (Some n)) w more x)
    comes_more old left c h m w more (opens f calls e shape may x) =
        opens f calls e shape may (record { store = x.store; low_end = x.low_end; goes_on = λ u larger. x.goes_on u (extends_both m.words w u more larger) })

    spawn_more : (own : Form) (old : Spot) (left : ℕ) (h : Stack) (child : Control) (lent : Stack) (x : Destination) (c : Control) (kept : Stack) (m : Machine) (w : Mapped) → Extends m.words w
        → ArrivesSpawn program form page input code own old left h child lent x c kept m → ArrivesSpawn program form page input code own old left h child lent x c kept (with_words m w)
    spawn_more Serial old left h child lent x c kept m w more t = turns_more old left (inside child x c) h m w more t
    spawn_more Cilk old left h child lent x c kept m w more s = record {
      serves = serves_more 4 m w s.serves;
      destination = s.destination;
      child_stands = exact_more (spawned_spot old) left child lent (child_machine m) w more s.child_stands;
      goes_on = exact_more old left c kept (passed m) w more s.goes_on;
    }

    sync_more : (own : Form) (old : Spot) (left : ℕ) (h : Stack) (c : Control) (m : Machine) (w : Mapped) → Extends m.words w
        → ArrivesSync program form page input code own old left h c m → ArrivesSync program form page input code own old left h c (with_words m w)
    sync_more Serial old left h c m w more x = exact_more old left c h m w more x
    sync_more Cilk old left h c m w more x = (serves_more 5 m w x.0, exact_more old left c h (passed m) w more x.1)

    arrives_more : (old : Spot) (left : ℕ) (calls : List ℕ) (h : Stack) (move : Move) (m : Machine) (w : Mapped) → Extends m.words w
        → Arrives program form page input code old left calls h move m → Arrives program form page input code old left calls h move (with_words m w)
    arrives_more old left calls h (silent c g) m w more x = comes_more old left c g m w more x
    arrives_more old zero calls h (ticks c g) m w more x = (serves_more 6 m w x.0, x.1)
    arrives_more old (suc left) calls h (ticks c g) m w more x = exact_more old left c g m w more x
    arrives_more old left calls h (prints v c g) m w more x = (serves_more 1 m w x.0, x.1, exact_more old left c g (passed m) w more x.2, x.3)
    arrives_more old left calls h (spawns child lent y c kept) m w more x = spawn_more (form_here program form calls) old left h child lent y c kept m w more x
    arrives_more old left calls h (syncs c) m w more x = sync_more (form_here program form calls) old left h c m w more x
    arrives_more old left calls h (traps k) m w more x = (traps_more k m w x.0, x.1)
    arrives_more old left calls h (ends v) m w more x = (serves_more 0 m w x.0, x.1, x.2, holds_more program page calls old.frames h m.words w more x.3)
    arrives_more old left calls h stuck m w more x = tt

    pub stands_more : (spot : Spot) (left : ℕ) (c : Control) (h : Stack) (m : Machine) (w : Mapped) → Extends m.words w
        → StandsFor program form page input code spot left c h m → StandsFor program form page input code spot left c h (with_words m w)
    stands_more spot left c h m w more (inl x) = inl (exact_more spot left c h m w more x)
    stands_more spot left c h m w more (inr x) =
        let on = goes_more code one x.count m x.last w more x.goes_to in
        inr (record { count = x.count; last = with_words x.last on.0; goes_to = on.2; arrives = arrives_more spot left c.calls h _ x.last on.0 on.1 x.arrives })
