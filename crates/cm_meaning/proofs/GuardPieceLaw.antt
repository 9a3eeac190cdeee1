-- No piece of a program that obeys the lending rule is stuck: each reached piece is guarded.
use Rattle.std.proofs.Common.{None, ◌≡◌, ℕ, suc, ◌+◌, ◌≤◌, List, [], ◌∷◌, ◌++◌, length, Option, Some, refl, sym, ap, ◌∙◌, subst, arith, inl, inr, append_assoc}
use Rattle.std.proofs.lemmas.Bool.{ltb-true, ltb-false}
use Rattle.std.specs.Prelude.{◌-◌, ◌⊎◌, nat_lt, Bool, true, false, ℤ, ⊤, slice_get}
use Rattle.cm_syntax.specs.declared.stmt.Function.{Function}
use Rattle.cm_syntax.specs.declared.stmt.Program.{Program}
use Rattle.cm_syntax.specs.Label.{silent, ticks, prints, spawns, syncs, traps, ends, stuck}
use Rattle.cm_syntax.specs.Evaluation.{function_order}
use Rattle.cm_syntax.specs.Cell.{absent, is_held, may_write, CellSum}
use Rattle.cm_syntax.specs.Stack.{Stack, Destination, Argument, empty_stack, settle, StackSum, IsUnder}
use Rattle.cm_syntax.specs.Rest.{Item, deliver, Hand, idle, holds, returned, entering, framing, Control, control}
use Rattle.cm_syntax.specs.Step.{Move, top, depth, frame_count, inside, step}
use Rattle.cm_syntax.proofs.CellLaw.{cell_comm, cell_alone, cell_none, value_sum, not_held, unheld, value_held, left_value, held_left, held_parts, whole_left, still_held}
use Rattle.cm_meaning.specs.Elision.{serial}
use Rattle.cm_meaning.specs.End.{Done, Trapped, Spent}
use Rattle.cm_meaning.specs.Piece.{awaited, printed, child, HasNote, here, Answer, none, past, before, other, taken, this, deeper, silently, ticking, showing, joining, parting, hearing, returning}
use Rattle.cm_meaning.specs.Meaning.{Ask, Piece, Fork, Goes, begun, serial_step}
use Rattle.cm_meaning.specs.Activation.{base, end_count, IsSettled}
use Rattle.cm_meaning.specs.Law.{IsBeside, IsInside, arrival}
use Rattle.cm_meaning.specs.Loan.{floor, IsLoan, Loans}
use Rattle.cm_meaning.specs.Typing.{TypedProgram}
use Rattle.cm_meaning.specs.TypedState.{TypedState, KeepsTyped}
use Rattle.cm_meaning.specs.Visible.{SeesProgram}
use Rattle.cm_meaning.proofs.LendingLaw.{Obeys}
use Rattle.cm_meaning.proofs.SumLaw.{comm, assoc, same as same_sum, alone_, under_more, under_sum}
use Rattle.cm_meaning.proofs.BesideLaw.{beside}
use Rattle.cm_meaning.proofs.InsideLaw.{within}
use Rattle.cm_meaning.proofs.SettledLaw.{Moves, Keeps, IsSpawned, good_law}
use Rattle.cm_meaning.proofs.SafetyLaw.{typed_step}
use Rattle.cm_meaning.proofs.TypedFramesLaw.{IsPlain, Wider, state, running, frames_of, cons_empty}
use Rattle.cm_meaning.proofs.WiderLaw.{low_base}
use Rattle.cm_meaning.proofs.GuardLaw.{Access, reads, writes, Serves, PassesAt}
use Rattle.cm_meaning.proofs.GuardStepLaw.{stand_same, passes_less, guards_joined}
use Rattle.cm_meaning.proofs.GuardItemLaw.{Agrees, At, Outside, Behind, Synced, Next, Runs, frames_less}
use Rattle.cm_meaning.proofs.GuardHandLaw.{Larger, ok_step}
use Rattle.cm_meaning.proofs.LoanLaw.{Log, LentTo, Away, gone_lent, away_less, loans_under, loans_bare, loans_more, loans_lent, lent_loans, lent_more, lent_high, Meets, Learns, joined_loans, joined_references, joined_under, joined_lent, joined_held, joined_own, typed_wider, Returned, returned_held, put_back, given_back, Back, back_loans, back_lent}
use Rattle.cm_meaning.proofs.ForkMeaning.{floor_low, synced}

-- where a piece stands in the whole: it is main's, or behind its call the caller goes on
pub data Around : Type 0 where
  alone : Around
  called_by : Destination → Control → Around

abbrev pub put : Around → Control → Control
put alone c = c
put (called_by x k) c = inside c x k

abbrev put_rest : Around → List Item → List Item
put_rest alone k = k
put_rest (called_by x t) k = k ++ (deliver x ∷ t.rest)

put_is : (a : Around) (calls : List ℕ) (account : ℕ) (hand : Hand) (rest : List Item) → put a (control calls account hand rest) ≡ control calls account hand (put_rest a rest)
put_is alone calls account hand rest = refl
put_is (called_by x t) calls account hand rest = refl

pub put_calls : (a : Around) (c : Control) → (put a c).calls ≡ c.calls
put_calls alone c = refl
put_calls (called_by x t) c = refl

larger : (a : Around) (rest : List Item) → Larger rest (put_rest a rest)
larger alone [] = inl refl
larger alone (i ∷ k) = (k, refl)
larger (called_by x t) [] = inr (x, t.rest, refl)
larger (called_by x t) (i ∷ k) = (k ++ (deliver x ∷ t.rest), refl)

-- a state with fewer words away
at_less : (program : Program) (More Less : Access → (n e t j : ℕ) → Type 0) (c : Control) (h g : Stack) → ((d s : ℕ) → g.references d s ≡ h.references d s) → ((access : Access) (n e t j : ℕ) → Less access n e t j → More access n e t j) → At program More c h → At program Less c g
at_less program More Less c h g same f a = record {
  ghosts = a.ghosts;
  going = a.going;
  frames = frames_less More Less h.references g.references c.calls a.ghosts (λ access n e t j l. f access n e t j) (λ d s l. same d s) a.frames;
  passes = by c.hand a.passes;
}
  where
    by : (z : Hand) → PassesAt More c.calls z → PassesAt Less c.calls z
    by (entering l ws) p = λ access. passes_less (More access (length c.calls)) (Less access (length c.calls)) ws (λ e t j q n m. n (f access (length c.calls) e t j m)) (p access)
    by (framing l ws) p = λ access. passes_less (More access (length c.calls)) (Less access (length c.calls)) ws (λ e t j q n m. n (f access (length c.calls) e t j m)) (p access)
    by idle p = tt
    by (holds v) p = tt
    by (returned v) p = tt

module _ (program : Program) (page : ℕ) (input : List ℤ) (typed : TypedProgram program) (sees : SeesProgram program)
    (obeys : (index : ℕ) (function : Function ℕ) → slice_get program.functions index ≡ Some function → Obeys (function_order function) (λ m. ⊤) []) where
  abbrev stepped : Control → Stack → Move
  stepped = step program page input

  abbrev goes : Control → Stack → Move
  goes = serial_step program page input

  abbrev elided : Stack → Move → Move
  elided = serial Control Stack Destination stepped inside

  -- ---- what is kept of a piece

  -- what is known of a child where it was spawned
  pub record Kid (d : ℕ) (q : Ask) : Type 0 where
    pub around : Around
    pub outside : Stack
    pub whole : Stack
    pub sum : StackSum q.lent outside whole
    pub under : IsUnder (base q.call) outside
    pub low : IsUnder (base q.call) q.lent
    pub child_base : base q.call ≡ suc d
    pub settled : IsSettled q.call q.lent
    pub typed_ : TypedState program true (put around q.call) whole
    pub at : At program (Away outside q.lent []) q.call q.lent

  abbrev pub Kids : Log → Type 0
  Kids [] = ⊤
  Kids (printed v ∷ log) = Kids log
  Kids (child d o x j q r ∷ log) = Kid d q × Kids log

  -- A piece with what its children hold and what is outside of it makes a typed state of the elision; it is guarded.
  pub record Okay (start own : ℕ) (c : Control) (h : Stack) (log : Log) : Type 0 where
    pub around : Around
    pub outside : Stack
    pub loans : Stack
    pub middle : Stack
    pub whole : Stack
    pub settled : IsSettled c h
    pub owes : Loans (base c) (floor c) log loans
    pub inner : StackSum h loans middle
    pub sum : StackSum middle outside whole
    pub under : IsUnder (base c) outside
    pub typed_ : TypedState program true (put around c) whole
    pub at : At program (Away outside h log) c h
    pub kids : Kids log

  floor_room : (c : Control) → floor c ≤ length c.calls
  floor_room c = floor_low (length c.calls) c.rest

  base_room : (c : Control) → base c ≤ length c.calls
  base_room c = by (length c.calls) (end_count c.rest)
    where
      by : (a b : ℕ) → a - b ≤ a
      by a b = omega arith

  -- what the whole holds it may write
  typed_writable : (c : Control) (u : Stack) → TypedState program true c u → (e t j : ℕ) → is_held (u.words e t j) ≡ true → may_write (u.words e t j) ≡ true
  typed_writable c u typed_u e t j i = by (nat_lt e (length c.calls)) refl
    where
      by : (b : Bool) → nat_lt e (length c.calls) ≡ b → may_write (u.words e t j) ≡ true
      by true l = typed_u.words e t j (ltb-true e (length c.calls) l)
      by false l = absurd (not_held (u.words e t j) (typed_u.below.words e t j (let m = ltb-false e (length c.calls) l in omega (arith, m))) i)

  runs_typed : (u : Stack) (x : Move) → KeepsTyped program true (elided u x) → Runs x
  runs_typed u (silent t g) k = tt
  runs_typed u (ticks t g) k = tt
  runs_typed u (prints v t g) k = tt
  runs_typed u (spawns call lent x t g) k = tt
  runs_typed u (syncs t) k = tt
  runs_typed u (traps l) k = tt
  runs_typed u (ends v) k = tt
  runs_typed u stuck k = absurd k

  -- a step of the elision in its caller's rest
  put_silent : (a : Around) (c t : Control) (u g : Stack) → goes c u ≡ silent t g → goes (put a c) u ≡ silent (put a t) g
  put_silent alone c t u g e = e
  put_silent (called_by x k) c t u g e = subst (λ q. IsInside x k (arrival x k c u) q (goes (inside c x k) u)) e (within program page input x k c u)

  put_ticks : (a : Around) (c t : Control) (u g : Stack) → goes c u ≡ ticks t g → goes (put a c) u ≡ ticks (put a t) g
  put_ticks alone c t u g e = e
  put_ticks (called_by x k) c t u g e = subst (λ q. IsInside x k (arrival x k c u) q (goes (inside c x k) u)) e (within program page input x k c u)

  put_prints : (a : Around) (v : ℤ) (c t : Control) (u g : Stack) → goes c u ≡ prints v t g → goes (put a c) u ≡ prints v (put a t) g
  put_prints alone v c t u g e = e
  put_prints (called_by x k) v c t u g e = subst (λ q. IsInside x k (arrival x k c u) q (goes (inside c x k) u)) e (within program page input x k c u)

  -- a spawned call in its caller's rest
  put_inside : (a : Around) (call t : Control) (x : Destination) → put a (inside call x t) ≡ inside call x (put a t)
  put_inside alone call t x = refl
  put_inside (called_by y k) call t x = ap (λ r. control call.calls call.account call.hand r) (append_assoc call.rest (deliver x ∷ t.rest) (deliver y ∷ k.rest))

  -- the continuation of a typed call is typed
  continues : (calls : List ℕ) (account more_ f : ℕ) (ws : List Argument) (x : Destination) (k : List Item) (u : Stack) → TypedState program true (control calls account (entering f ws) (deliver x ∷ k)) u → TypedState program true (control calls more_ idle k) u
  continues [] account more_ f ws x k u t = absurd (cons_empty (deliver x) k t.rest.4.1)
  continues (g ∷ calls) account more_ f ws x k u t =
      let r = t.rest.4 in
      state program true (g ∷ calls) more_ idle k u (frames_of program true (control (g ∷ calls) account (entering f ws) (deliver x ∷ k)) u t) (running program true (g ∷ calls) u idle k tt (r.0, r.1, r.2, r.3, r.4.2))

  -- ---- a step

  module _ {start own : ℕ} {c : Control} {h : Stack} {log : Log} (o : Okay start own c h log) where
    -- all that the piece doesn't hold
    others : (z : Stack) × StackSum o.loans o.outside z × StackSum h z o.whole
    others = assoc o.inner o.sum

    others_under : (n : ℕ) → floor c ≤ n → base c ≤ n → IsUnder n others.0
    others_under n l m = under_sum others.1 (under_more l (loans_under (base c) (floor c) log o.loans o.owes)) (under_more m o.under)

    keeps_typed : KeepsTyped program true (goes (put o.around c) o.whole)
    keeps_typed = typed_step program page input true (put o.around c) o.whole typed o.typed_

    -- all children are of calls below the floor
    lent_up : (n m e t j : ℕ) → floor c ≤ m → LentTo log n e t j → LentTo log m e t j
    lent_up n m e t j l p = lent_more (floor c) m log e t j l (lent_high (base c) (floor c) n log o.loans o.owes e t j p)

    others_held : (access : Access) (n e t j : ℕ) → Away o.outside h log access n e t j → is_held (others.0.words e t j) ≡ true
    others_held access n e t j a = elim (gone_lent o.outside h log access n e t j a) [
      | inl p ↦ held_left (o.outside.words e t j) (o.loans.words e t j) (others.0.words e t j) (cell_comm (o.loans.words e t j) (o.outside.words e t j) (others.0.words e t j) (others.1.words e t j)) p
      | inr p ↦ held_left (o.loans.words e t j) (o.outside.words e t j) (others.0.words e t j) (others.1.words e t j) (lent_loans (base c) (floor c) n log o.loans o.owes e t j p)
    ]

    away_held : (access : Access) (n e t j : ℕ) → Away o.outside h log access n e t j → is_held (o.whole.words e t j) ≡ true
    away_held access n e t j a =
        held_left (others.0.words e t j) (h.words e t j) (o.whole.words e t j) (cell_comm (h.words e t j) (others.0.words e t j) (o.whole.words e t j) (others.2.words e t j)) (others_held access n e t j a)

    there : Agrees (λ access. Away o.outside h log access (length c.calls)) h o.whole
    there = record {
      value = λ e t j n. left_value (h.words e t j) (o.loans.words e t j) (o.outside.words e t j) (others.0.words e t j) (o.whole.words e t j) (others.1.words e t j) (others.2.words e t j)
          (λ p k. n ((elim p [ inl i ↦ inr (lent e t j i) | inr v ↦ inl v ]), k));
      cell = λ e t j n. sym (cell_alone (h.words e t j) (others.0.words e t j) (o.whole.words e t j) (others.2.words e t j)
          (cell_none (o.loans.words e t j) (o.outside.words e t j) (others.0.words e t j) (others.1.words e t j) (unheld (o.loans.words e t j) (λ i. n (inr (lent e t j i)))) (unheld (o.outside.words e t j) (λ i. n (inl i)))));
    }
      where
        lent : (e t j : ℕ) → is_held (o.loans.words e t j) ≡ true → LentTo log (length c.calls) e t j
        lent e t j i = lent_more (floor c) (length c.calls) log e t j (floor_room c) (loans_lent (base c) (floor c) log o.loans o.owes e t j i)

    rows : (i : Item) (k : List Item) → c.rest ≡ i ∷ k → IsPlain c.hand → (s : ℕ) → h.references (top c.calls) s ≡ o.whole.references (top c.calls) s
    rows i k r p s =
        let d = top c.calls in
        let low = low_base program page input c h o.settled i k r p in
        let free : others.0.references d s ≡ absent =
        cell_alone (o.loans.references d s) (o.outside.references d s) (others.0.references d s) (others.1.references d s) (o.under.references d s low) ∙ loans_bare (base c) (floor c) log o.loans o.owes d s in
        sym (cell_alone (h.references d s) (others.0.references d s) (o.whole.references d s) (others.2.references d s) free)

    no_child : (access : Access) (e t j : ℕ) → Away o.outside h log access (suc (length c.calls)) e t j → Away o.outside h log access (length c.calls) e t j
    no_child access e t j = away_less o.outside h h log log (length c.calls) (suc (length c.calls)) e t j (lent_up (suc (length c.calls)) (length c.calls) e t j (floor_room c)) (λ a i. i) access

    -- what the step gives
    next : Next program (Away o.outside h log) o.whole c h (stepped c h)
    next =
        let k = put_rest o.around c.rest in
        let w : Control = control c.calls c.account c.hand k in
        let same = put_is o.around c.calls c.account c.hand c.rest in
        ok_step program page input typed sees obeys h o.whole (Away o.outside h log) c.calls c.account c.hand c.rest k (larger o.around c.rest) o.at there rows away_held no_child
        (subst (λ z. TypedState program true z o.whole) same o.typed_)
        (runs_typed o.whole (stepped w o.whole) (subst (λ z. KeepsTyped program true (goes z o.whole)) same keeps_typed))

    -- the step within the whole
    beside_step : IsBeside others.0 (stepped c h) (stepped c o.whole)
    beside_step = beside program page input h others.0 o.whole others.2 c (others_under (length c.calls) (floor_room c) (base_room c))

    moves : Moves c h (stepped c h)
    moves = (good_law program page input c h o.settled).moves

    settled_at : (x : Move) → stepped c h ≡ x → Keeps IsSettled x
    settled_at x e = subst (Keeps IsSettled) e (good_law program page input c h o.settled).keeps

    moves_at : (x : Move) → stepped c h ≡ x → Moves c h x
    moves_at x e = subst (Moves c h) e moves

    next_at : (x : Move) → stepped c h ≡ x → Next program (Away o.outside h log) o.whole c h x
    next_at x e = subst (Next program (Away o.outside h log) o.whole c h) e next

    further : (t : Control) → floor c ≤ floor t → base t ≡ base c → IsUnder (frame_count t) others.0
    further t l m = others_under (length t.calls) (let a = floor_room t in omega (arith, a, l)) (let a = base_room t in omega (arith, a, m))

    -- the piece behind a step that lends and joins nothing
    goes_on : {t : Control} {g : Stack} (own_ : ℕ) (u : Stack) → TypedState program true (put o.around t) u → StackSum g others.0 u → IsSettled t g → floor c ≤ floor t → base t ≡ base c → At program (Away o.outside h log) t g → Okay start own_ t g log
    goes_on {t = t} {g = g} own_ u typed_u sum settled l m a =
        let r = assoc (comm others.1) (comm sum) in
        record {
          around = o.around;
          outside = o.outside;
          loans = o.loans;
          middle = r.0;
          whole = u;
          settled = settled;
          owes = subst (λ b. Loans b (floor t) log o.loans) (sym m) (loans_more (base c) (floor c) (floor t) log o.loans l o.owes);
          inner = comm r.1;
          sum = comm r.2;
          under = subst (λ b. IsUnder b o.outside) (sym m) o.under;
          typed_ = typed_u;
          at = at_less program (Away o.outside h log) (Away o.outside g log) t g g (λ d s. refl) (λ access n e s j. away_less o.outside h g log log n n e s j (λ p. p) (λ p. still e s j (others_held writes n e s j p)) access) a;
          kids = o.kids;
        }
      where
        still : (e s j : ℕ) → is_held (others.0.words e s j) ≡ true → is_held (h.words e s j) ≡ true → is_held (g.words e s j) ≡ true
        still e s j = still_held (h.words e s j) (g.words e s j) (others.0.words e s j) (o.whole.words e s j) (u.words e s j) (others.2.words e s j) (sum.words e s j) (typed_writable (put o.around t) u typed_u e s j)

    okay_silent : {t : Control} {g : Stack} → stepped c h ≡ silent t g → Okay start own t g log
    okay_silent {t = t} {g = g} e =
        let m = moves_at _ e in
        let b = (subst (λ q. IsBeside others.0 q (stepped c o.whole)) e beside_step) (further t m.0 m.1) in
        goes_on own b.0 (subst (KeepsTyped program true) (put_silent o.around c t o.whole b.0 (ap (elided o.whole) b.1)) keeps_typed) b.2 (settled_at _ e) m.0 m.1 (next_at _ e)

    okay_tick : {t : Control} {g : Stack} → stepped c h ≡ ticks t g → Okay start (suc own) t g log
    okay_tick {t = t} {g = g} e =
        let m = moves_at _ e in
        let b = (subst (λ q. IsBeside others.0 q (stepped c o.whole)) e beside_step) (further t m.0 m.1) in
        goes_on (suc own) b.0 (subst (KeepsTyped program true) (put_ticks o.around c t o.whole b.0 (ap (elided o.whole) b.1)) keeps_typed) b.2 (settled_at _ e) m.0 m.1 (next_at _ e)

    okay_print : {v : ℤ} {t : Control} {g : Stack} → stepped c h ≡ prints v t g → Okay start own t g (printed v ∷ log)
    okay_print {v = v} {t = t} {g = g} e =
        let m = moves_at _ e in
        let b = (subst (λ q. IsBeside others.0 q (stepped c o.whole)) e beside_step) (further t m.0 m.1) in
        let k = goes_on own b.0 (subst (KeepsTyped program true) (put_prints o.around v c t o.whole b.0 (ap (elided o.whole) b.1)) keeps_typed) b.2 (settled_at _ e) m.0 m.1 (next_at _ e) in
        record {
          around = k.around;
          outside = k.outside;
          loans = k.loans;
          middle = k.middle;
          whole = k.whole;
          settled = k.settled;
          owes = k.owes;
          inner = k.inner;
          sum = k.sum;
          under = k.under;
          typed_ = k.typed_;
          at = at_less program (Away k.outside g log) (Away k.outside g (printed v ∷ log)) t g g (λ d s. refl) (λ access n e s j. away_less k.outside g g log (printed v ∷ log) n n e s j (λ p. p) (λ p i. i) access) k.at;
          kids = k.kids;
        }

    -- ---- a spawn

    module _ {t call : Control} {g lent : Stack} {x : Destination} (e : stepped c h ≡ spawns call lent x t g) where
      m_ : Moves c h (spawns call lent x t g)
      m_ = moves_at _ e

      parts : IsSpawned (spawns call lent x t g)
      parts = subst IsSpawned e (good_law program page input c h o.settled).parts

      settled_ : IsSettled call lent × IsSettled t g
      settled_ = settled_at _ e

      begins : Next program (Away o.outside h log) o.whole c h (spawns call lent x t g)
      begins = next_at _ e

      typed_inside : TypedState program true (inside call x (put o.around t)) o.whole
      typed_inside =
          let b = subst (λ q. IsBeside others.0 q (stepped c o.whole)) e beside_step in
          subst (λ z. TypedState program true z o.whole) (put_inside o.around call t x)
          (subst (KeepsTyped program true) (put_silent o.around c (inside call x t) o.whole o.whole (ap (elided o.whole) b.2)) keeps_typed)

      -- the child and the rest of the whole
      kept : (a : Stack) × StackSum g o.loans a × StackSum lent a o.middle
      kept = assoc m_.5 o.inner

      rest : (b : Stack) × StackSum kept.0 o.outside b × StackSum lent b o.whole
      rest = assoc kept.2 o.sum

      rest_under : IsUnder (base call) rest.0
      rest_under = subst (λ n. IsUnder n rest.0) (sym m_.3) (under_sum rest.1 (under_sum kept.1 m_.6 (under_more m_.7 (loans_under (base c) (floor c) log o.loans o.owes))) (under_more (let l = m_.8 in omega (arith, l)) o.under))

      lent_under : IsUnder (base call) lent
      lent_under = under_more (let n = ap end_count parts.1 in omega (arith, n)) settled_.0.below

      rest_sum : (e t j : ℕ) → CellSum (rest.0.words e t j) (lent.words e t j) (o.whole.words e t j)
      rest_sum e t j = cell_comm (lent.words e t j) (rest.0.words e t j) (o.whole.words e t j) (rest.2.words e t j)

      -- what is away from the child doesn't serve it, and serves the whole
      in_rest : (access : Access) (e t j : ℕ) → Away rest.0 lent [] access (length c.calls) e t j → Outside o.whole lent access e t j
      in_rest reads e t j (inr p, k) = absurd p
      in_rest reads e t j (inl p, k) = ((p.0, value_sum (rest.0.words e t j) (lent.words e t j) (o.whole.words e t j) p.0 (rest_sum e t j) p.1), λ s. k (value_held (lent.words e t j) s.0 s.1))
      in_rest writes e t j (inr p) = absurd p
      in_rest writes e t j (inl p) = (
        typed_writable (put o.around c) o.whole o.typed_ e t j (held_left (rest.0.words e t j) (lent.words e t j) (o.whole.words e t j) (rest_sum e t j) p),
        λ m. not_held (rest.0.words e t j) (whole_left (lent.words e t j) (rest.0.words e t j) (o.whole.words e t j) (rest.2.words e t j) m).1 p,
      )

      child_at : At program (Away rest.0 lent []) call lent
      child_at =
          let b = begins.1 in
          let made : At program (Away rest.0 lent []) (control c.calls c.account (entering b.callee b.given) []) lent = record {
            ghosts = [];
            going = refl;
            frames = tt;
            passes = λ access. passes_less (Outside o.whole lent access) (Away rest.0 lent [] access (length c.calls)) b.given (λ e t j q n m. n (in_rest access e t j m)) (b.passes access);
          } in
          subst (λ z. At program (Away rest.0 lent []) z lent) (sym b.is) made

      kid : (ask_start : ℕ) → Kid (depth c) (record { start = ask_start; call = call; lent = lent })
      kid ask_start = record {
        around = called_by x (put o.around t);
        outside = rest.0;
        whole = o.whole;
        sum = rest.2;
        under = rest_under;
        low = lent_under;
        child_base = m_.3;
        settled = settled_.0;
        typed_ = typed_inside;
        at = child_at;
      }

      typed_later : TypedState program true (put o.around t) o.whole
      typed_later =
          let b = begins.1 in
          let k = put o.around t in
          let at_call : TypedState program true (control c.calls c.account (entering b.callee b.given) (deliver x ∷ k.rest)) o.whole = subst (λ z. TypedState program true (inside z x k) o.whole) b.is typed_inside in
          let later = continues c.calls c.account k.account b.callee b.given x k.rest o.whole at_call in
          let calls : c.calls ≡ k.calls = sym (ap (λ z. z.calls) b.is) ∙ parts.2 ∙ sym (put_calls o.around t) in
          let hand : idle ≡ k.hand = sym (put_hand o.around t ∙ parts.0) in
          subst (λ z. TypedState program true (control k.calls k.account z k.rest) o.whole) hand (subst (λ z. TypedState program true (control z k.account idle k.rest) o.whole) calls later)
        where
          put_hand : (a : Around) (z : Control) → (put a z).hand ≡ z.hand
          put_hand alone z = refl
          put_hand (called_by y k) z = refl

      lent_bare : IsLoan (base c) (floor t) (depth c) lent
      lent_bare = record { from = m_.8; to = m_.1; under = subst (λ n. IsUnder n lent) m_.3 lent_under; bare = begins.1.no_references }

      -- what is gone, and was lent before, was gone before
      was : (n e s j : ℕ) → Serves reads (o.outside.words e s j) ⊎ LentTo log n e s j → (is_held (g.words e s j) ≡ true → ⊥) → Away o.outside h log reads n e s j
      was n e s j a k = (a, λ i. elim (held_parts (lent.words e s j) (g.words e s j) (h.words e s j) (m_.5.words e s j) i) [ inl l ↦ begins.2 e s j (l, k) (lifted a) | inr l ↦ k l ])
        where
          lifted : Serves reads (o.outside.words e s j) ⊎ LentTo log n e s j → Away o.outside h log writes (suc (depth c)) e s j
          lifted (inl p) = inl (value_held (o.outside.words e s j) p.0 p.1)
          lifted (inr p) = inr (lent_up n (suc (depth c)) e s j m_.7 p)

      abbrev noted : (ask_start : ℕ) → Log
      noted ask_start = child (depth c) own x false (record { start = ask_start; call = call; lent = lent }) awaited ∷ log

      with_child : (ask_start : ℕ) (access : Access) (n e s j : ℕ) → Away o.outside g (noted ask_start) access n e s j → Behind (Away o.outside h log) (depth c) lent g access n e s j
      with_child ask_start writes n e s j (inl p) = inl (inl p)
      with_child ask_start writes n e s j (inr (inl p)) = inr p
      with_child ask_start writes n e s j (inr (inr p)) = inl (inr p)
      with_child ask_start reads n e s j (inr (inl p), k) = inr (p.0, (p.1, k))
      with_child ask_start reads n e s j (inl p, k) = inl (was n e s j (inl p) k)
      with_child ask_start reads n e s j (inr (inr p), k) = inl (was n e s j (inr p) k)

      okay_part : (ask_start : ℕ) → Okay start own t g (noted ask_start)
      okay_part ask_start =
          let l = assoc (comm m_.5) o.inner in
          record {
            around = o.around;
            outside = o.outside;
            loans = l.0;
            middle = o.middle;
            whole = o.whole;
            settled = settled_.1;
            owes = (o.loans, subst (λ b. Loans b (floor t) log o.loans) (sym m_.2) (loans_more (base c) (floor c) (floor t) log o.loans m_.0 o.owes), l.1, subst (λ b. IsLoan b (floor t) (depth c) lent) (sym m_.2) lent_bare);
            inner = l.2;
            sum = o.sum;
            under = subst (λ b. IsUnder b o.outside) (sym m_.2) o.under;
            typed_ = typed_later;
            at = at_less program (Behind (Away o.outside h log) (depth c) lent g) (Away o.outside g (noted ask_start)) t g g (λ d s. refl) (with_child ask_start) begins.0;
            kids = (kid ask_start, o.kids);
          }

    -- ---- a join

    kids_joined : {d : ℕ} {later : Log} {a b : Stack} {log : Log} → Meets program page input d log a later b → Kids log → Kids later
    kids_joined none k = k
    kids_joined (past j) k = kids_joined j k
    kids_joined (before j) k = (k.0, kids_joined j k.1)
    kids_joined (other ne j) k = (k.0, kids_joined j k.1)
    kids_joined (taken s j) k = (k.0, kids_joined j k.1)

    okay_join : {t : Control} {g : Stack} {later : Log} → stepped c h ≡ syncs t → Meets program page input (depth c) log h later g → Okay start own t g later
    okay_join {t = t} {g = g} {later = later} e j = record {
      around = o.around;
      outside = o.outside;
      loans = p.0;
      middle = o.middle;
      whole = o.whole;
      settled = synced program page input o.settled e (record { shape = o.settled.shape; enough = o.settled.enough; below = joined_under program page input j (base c) (floor c) (length c.calls) o.loans (let l = m.3 in omega (arith, l)) o.owes o.settled.below });
      owes = subst (λ b. Loans b (floor t) later p.0) (sym m.2) (loans_more (base c) (depth c) (floor t) later p.0 m.0 p.1);
      inner = p.2;
      sum = o.sum;
      under = subst (λ b. IsUnder b o.outside) (sym m.2) o.under;
      typed_ = subst (KeepsTyped program true) (put_silent o.around c t o.whole o.whole (ap (elided o.whole) whole_syncs)) keeps_typed;
      at = at_synced (next_at _ e);
      kids = kids_joined j o.kids;
    }
      where
        m : Moves c h (syncs t)
        m = moves_at _ e

        p : (p : Stack) × Loans (base c) (depth c) later p × StackSum g p o.middle
        p = joined_loans program page input j (base c) (floor c) o.loans o.middle m.1 o.owes o.inner

        whole_syncs : stepped c o.whole ≡ syncs t
        whole_syncs = subst (λ q. IsBeside others.0 q (stepped c o.whole)) e beside_step

        same : (d s : ℕ) → g.references d s ≡ h.references d s
        same d s = joined_references program page input j (base c) (floor c) o.loans o.owes d s

        lent_less : (access : Access) (n e s k : ℕ) → Away o.outside g later access n e s k → Away o.outside h log access n e s k
        lent_less access n e s k = away_less o.outside h g log later n n e s k (joined_lent program page input j n e s k) (λ q. joined_held program page input j e s k) access

        own_less : (access : Access) (e s k : ℕ) → Away o.outside g later access (suc (depth c)) e s k → Away o.outside h log access (depth c) e s k
        own_less access e s k = away_less o.outside h g log later (depth c) (suc (depth c)) e s k (joined_own program page input j e s k) (λ q. joined_held program page input j e s k) access

        no_passes : (z : Hand) (calls : List ℕ) → IsPlain z → PassesAt (Away o.outside g later) calls z
        no_passes idle calls q = tt
        no_passes (holds v) calls q = tt
        no_passes (returned v) calls q = tt
        no_passes (entering f ws) calls q = absurd q
        no_passes (framing f ws) calls q = absurd q

        at_synced : Synced program (Away o.outside h log) h (top c.calls) t → At program (Away o.outside g later) t g
        at_synced y =
            let n = length y.callers in
            let made : At program (Away o.outside g later) (control (y.function ∷ y.callers) t.account t.hand t.rest) g = record {
              ghosts = record { known = y.ghost.known; hidden = y.ghost.hidden; lent = [] } ∷ y.ghosts;
              going = y.going;
              frames = (
                λ access. guards_joined (Away o.outside h log access) (Away o.outside g later access) n y.ghost.known y.ghost.hidden y.ghost.lent (λ e s k q. lent_less access n e s k q)
                    (subst (λ d. (e s k : ℕ) → Away o.outside g later access (suc d) e s k → Away o.outside h log access d e s k) (sym y.depth_is) (own_less access)) (y.guards access),
                stand_same (h.references n) (g.references n) y.ghost.known (λ s a. same n s) y.stand,
                frames_less (Away o.outside h log) (Away o.outside g later) h.references g.references y.callers y.ghosts (λ access n e s k l q. lent_less access n e s k q) (λ d s l. same d s) y.frames,
              );
              passes = no_passes t.hand (y.function ∷ y.callers) y.plain;
            } in
            subst (λ z. At program (Away o.outside g later) (control z t.account t.hand t.rest) g) (sym y.calls_are) made

  -- ---- an answer

  -- what a child gives back
  kid_returned : {d : ℕ} {q : Ask} → Kid d q → (x : Destination) (out : List ℤ) (v : Option ℤ) (m : ℕ) (w : Stack) → Fork program page input (begun q) (Done out v m) w → Returned q.lent (settle x v w) × IsUnder (base q.call) (settle x v w)
  kid_returned {q = q} k x out v m w f = given_back program page input q x out v m w k.settled k.low f

  -- the loans with an answer
  record Heard (b n m : ℕ) (later : Log) (r u : Stack) : Type 0 where
    loans : Stack
    whole : Stack
    owes : Loans b n later loans
    sum : StackSum loans r whole
    wider : Wider m u whole

  same_wider : (m : ℕ) (u : Stack) → Wider m u u
  same_wider m u = record { words = λ d s i. inl refl; references = λ d s. refl }

  hear : {log later : Log} → Learns program page input log later → Kids log → (b n m : ℕ) (l r u : Stack) → n ≤ m → Loans b n log l → StackSum l r u → Heard b n m later r u
  hear (this {j = true} f) k b n m l r u le owes s = record { loans = l; whole = u; owes = owes; sum = s; wider = same_wider m u }
  hear (this {d = d} {x = x} {q = q} {j = false} {e = Trapped out v i} f) k b n m l r u le owes s = record { loans = l; whole = u; owes = owes; sum = s; wider = same_wider m u }
  hear (this {d = d} {x = x} {q = q} {j = false} {e = Spent} f) k b n m l r u le owes s = record { loans = l; whole = u; owes = owes; sum = s; wider = same_wider m u }
  hear (this {d = d} {x = x} {q = q} {j = false} {e = Done out v i} {w = w} f) k b n m l r u le owes s =
      let back_ = kid_returned k.0 x out v i w f in
      let z = assoc owes.2 s in
      let put_ = put_back m q.lent (settle x v w) z.0 u (under_more (let a = owes.3.to in omega (arith, a, le)) owes.3.under) back_.0 z.2 in
      let y = assoc (comm z.1) (comm put_.1) in
      record {
        loans = y.0;
        whole = put_.0;
        owes = (owes.0, owes.1, comm y.1, record { from = owes.3.from; to = owes.3.to; under = subst (λ n. IsUnder n (settle x v w)) k.0.child_base back_.1; bare = λ e t. back_.0.references e t ∙ owes.3.bare e t });
        sum = comm y.2;
        wider = put_.2;
      }
  hear (deeper {n = printed v} a) k b n m l r u le owes s = let y = hear a k b n m l r u le owes s in record { loans = y.loans; whole = y.whole; owes = y.owes; sum = y.sum; wider = y.wider }
  hear (deeper {n = child d at x true q z} a) k b n m l r u le owes s = let y = hear a k.1 b n m l r u le owes s in record { loans = y.loans; whole = y.whole; owes = y.owes; sum = y.sum; wider = y.wider }
  hear (deeper {n = child d at x false q z} a) k b n m l r u le owes s =
      let t = assoc (comm owes.2) s in
      let y = hear a k.1 b n m owes.0 t.0 u le owes.1 t.2 in
      let v = assoc (comm t.1) (comm y.sum) in
      record { loans = v.0; whole = y.whole; owes = (y.loans, y.owes, v.1, owes.3); sum = comm v.2; wider = y.wider }

  heard_lent : {log later : Log} → Learns program page input log later → Kids log → (n e t j : ℕ) → LentTo later n e t j → LentTo log n e t j
  heard_lent (this {j = true} f) k n e t j l = l
  heard_lent (this {x = x} {q = q} {j = false} {e = Trapped out v i} f) k n e t j l = l
  heard_lent (this {x = x} {q = q} {j = false} {e = Spent} f) k n e t j l = l
  heard_lent (this {x = x} {q = q} {j = false} {e = Done out v i} {w = w} f) k n e t j (inl l) = inl (l.0, returned_held q.lent (settle x v w) (kid_returned k.0 x out v i w f).0 e t j l.1)
  heard_lent (this {x = x} {q = q} {j = false} {e = Done out v i} {w = w} f) k n e t j (inr l) = inr l
  heard_lent (deeper {n = printed v} a) k n e t j l = heard_lent a k n e t j l
  heard_lent (deeper {n = child d at x true q z} a) k n e t j l = heard_lent a k.1 n e t j l
  heard_lent (deeper {n = child d at x false q z} a) k n e t j (inl l) = inl l
  heard_lent (deeper {n = child d at x false q z} a) k n e t j (inr l) = inr (heard_lent a k.1 n e t j l)

  kids_heard : {log later : Log} → Learns program page input log later → Kids log → Kids later
  kids_heard (this f) k = k
  kids_heard (deeper {n = printed v} a) k = kids_heard a k
  kids_heard (deeper {n = child d at x j q z} a) k = (k.0, kids_heard a k.1)

  okay_hear : {start own : ℕ} {c : Control} {h : Stack} {log later : Log} → Okay start own c h log → Learns program page input log later → Okay start own c h later
  okay_hear {c = c} {h = h} {log = log} {later = later} o a =
      let r = assoc (comm o.inner) o.sum in
      let y = hear a o.kids (base c) (floor c) (length c.calls) o.loans r.0 o.whole (floor_room c) o.owes r.2 in
      let m = assoc (comm r.1) (comm y.sum) in
      record {
        around = o.around;
        outside = o.outside;
        loans = y.loans;
        middle = m.0;
        whole = y.whole;
        settled = o.settled;
        owes = y.owes;
        inner = m.1;
        sum = comm m.2;
        under = o.under;
        typed_ = typed_wider program o.whole y.whole (put o.around c) (subst (λ n. Wider (length n) o.whole y.whole) (sym (put_calls o.around c)) y.wider) o.typed_;
        at = at_less program (Away o.outside h log) (Away o.outside h later) c h h (λ d s. refl) (λ access n e t j. away_less o.outside h h log later n n e t j (heard_lent a o.kids n e t j) (λ p i. i) access) o.at;
        kids = kids_heard a o.kids;
      }

  -- ---- a share that comes back early

  kids_back : {log later : Log} {h g : Stack} → Back program page input log h later g → Kids log → Kids later
  kids_back (this y s) k = k
  kids_back (deeper {n = printed v} y) k = kids_back y k
  kids_back (deeper {n = child d at x j q z} y) k = (k.0, kids_back y k.1)

  okay_back : {start own : ℕ} {c : Control} {h g : Stack} {log later : Log} → Okay start own c h log → Back program page input log h later g → Okay start own c g later
  okay_back {c = c} {h = h} {g = g} {log = log} {later = later} o y =
      let i = back_loans program page input y (base c) (floor c) o.loans o.owes in
      let r = assoc (comm i.parted) (comm o.inner) in
      record {
        around = o.around;
        outside = o.outside;
        loans = i.loans;
        middle = o.middle;
        whole = o.whole;
        settled = record { shape = o.settled.shape; enough = o.settled.enough; below = under_sum i.joined o.settled.below (under_more (floor_room c) i.under) };
        owes = i.owes;
        inner = subst (λ z. StackSum z i.loans o.middle) (same_sum (comm r.1) i.joined) (comm r.2);
        sum = o.sum;
        under = o.under;
        typed_ = o.typed_;
        at = at_less program (Away o.outside h log) (Away o.outside g later) c h g
            (λ d s. cell_alone (h.references d s) (i.back.references d s) (g.references d s) (i.joined.references d s) (i.bare d s))
            (λ access n e t j. away_less o.outside h g log later n n e t j (back_lent program page input y n e t j) (λ a p. held_left (h.words e t j) (i.back.words e t j) (g.words e t j) (i.joined.words e t j) p) access) o.at;
        kids = kids_back y o.kids;
      }

  -- ---- all rules

  abbrev pub OkayPiece : Piece → Type 0
  OkayPiece p = Okay p.start p.own p.control p.held p.log

  pub okay_goes : {p q : Piece} → OkayPiece p → Goes program page input p q → OkayPiece q
  okay_goes o (silently e) = okay_silent o e
  okay_goes o (ticking e k l) = okay_tick o e
  okay_goes o (showing e) = okay_print o e
  okay_goes o (joining e j k l) = okay_join o e j
  okay_goes o (parting {start = start} {own = own} {m = m} e k) = okay_part o e (start - (own + m))
  okay_goes o (hearing a) = okay_hear o a
  okay_goes o (returning y) = okay_back o y

  begun_okay : {d : ℕ} (q : Ask) → Kid d q → OkayPiece (begun q)
  begun_okay q k = record {
    around = k.around;
    outside = k.outside;
    loans = empty_stack;
    middle = q.lent;
    whole = k.whole;
    settled = k.settled;
    owes = refl;
    inner = alone_ q.lent;
    sum = k.sum;
    under = k.under;
    typed_ = k.typed_;
    at = k.at;
    kids = tt;
  }

  kid_of : {log : Log} {d at : ℕ} {x : Destination} {j : Bool} {q : Ask} {r : Answer Control Stack Destination} → HasNote Control Stack Destination log (child d at x j q r) → Kids log → OkayPiece (begun q)
  kid_of {q = q} here k = begun_okay q k.0
  kid_of (deeper {m = printed v} a) k = kid_of a k
  kid_of (deeper {m = child d at x j q r} a) k = kid_of a k.1

  pub okay_child : {p : Piece} {d at : ℕ} {x : Destination} {j : Bool} {q : Ask} {r : Answer Control Stack Destination} → OkayPiece p → HasNote Control Stack Destination p.log (child d at x j q r) → OkayPiece (begun q)
  okay_child o a = kid_of a o.kids

  pub not_stuck : {p : Piece} → OkayPiece p → stepped p.control p.held ≡ stuck → ⊥
  not_stuck o e = next_at o _ e

  -- what a child of the log gives back
  note_kid : {log : Log} {d at : ℕ} {x : Destination} {j : Bool} {q : Ask} {r : Answer Control Stack Destination} → HasNote Control Stack Destination log (child d at x j q r) → Kids log → Kid d q
  note_kid here k = k.0
  note_kid (deeper {m = printed v} a) k = note_kid a k
  note_kid (deeper {m = child d at x j q r} a) k = note_kid a k.1

  pub note_returned : {p : Piece} {d at : ℕ} {x : Destination} {j : Bool} {q : Ask} {r : Answer Control Stack Destination} → OkayPiece p → HasNote Control Stack Destination p.log (child d at x j q r)
      → (out : List ℤ) (v : Option ℤ) (m : ℕ) (w : Stack) → Fork program page input (begun q) (Done out v m) w → Returned q.lent w
  note_returned o a out v m w f = (kid_returned (note_kid a o.kids) None out v m w f).0
