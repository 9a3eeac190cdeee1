-- The laws of statements: each only begins what it is made of, so its code is taken apart and no instruction is done. Only
-- a sync of the Cilk form comes to a service.
use Rattle.cm_gen.proofs.patterns.LeavesLaw.{SameRegisters, same_self}
use Rattle.std.proofs.Common.{◌≡◌, ℕ, ◌+◌, List, [], ◌∷◌, ◌++◌, length, None, Some, refl, sym, ap, subst, arith, inl, length-append}
use Rattle.std.specs.Prelude.{ℤ, pos}
use Rattle.cm_isa.specs.declared.convention.TheConstants as reg
use Rattle.cm_isa.specs.Machine.{Machine, Code, machine_with}
use Rattle.cm_gen.specs.Returns.{GoesTo}
use Rattle.cm_isa.specs.Register.{with_register}
use Rattle.cm_syntax.specs.declared.expr.Expr.{Expr}
use Rattle.cm_syntax.specs.declared.expr.Expr.TheVariants as expression
use Rattle.cm_syntax.specs.declared.stmt.Slot.{Slot}
use Rattle.cm_syntax.specs.declared.stmt.Target.TheVariants as target
use Rattle.cm_syntax.specs.declared.stmt.Stmt.{Stmt, Row_of-Stmt, end_of-Stmt, more_of-Stmt}
use Rattle.cm_syntax.specs.declared.stmt.Stmt.TheVariants as statement
use Rattle.cm_syntax.specs.declared.stmt.Program.{Program}
use Rattle.cm_syntax.specs.Shape.{IfAlone, IfElse, WhileLoop, ForLoop}
use Rattle.cm_syntax.specs.Stack.{Stack}
use Rattle.cm_syntax.specs.Rest.{Purpose, called, spawned, Item, evaluate, arguments, discard, perform, sequence, body, declare, assign, update, locate, branch, turn, part, tick, show, exit, Hand, idle, control}
use Rattle.cm_syntax.specs.Step.{destination_slot, invoke, statement_step, item_step}
use Rattle.cm_gen.specs.declared.form.Form.{Form}
use Rattle.cm_gen.specs.declared.form.Form.TheVariants.{Serial, Cilk}
use Rattle.cm_gen.specs.Assembler.{addi}
use Rattle.cm_gen.specs.Code.{service, tick as tick_code}
use Rattle.cm_gen.specs.Part.{Part, straight}
use Rattle.cm_gen.specs.Expression.{expression_code, arguments_code}
use Rattle.cm_gen.specs.Statement.{assign_code, update_code, write_code, enter_code, invoke_code, exit_code, loop_words, turn_code, alone_of, choice_of, sync_code, statement_code, statement_size, sequence_code, sequence_size, body_code, body_size}
use Rattle.cm_meaning.specs.Activation.{end_count}
use Rattle.cm_meaning.proofs.TypedFramesLaw.{IsPlain}
use Rattle.cm_gen.specs.FrameWord.{Kept}
use Rattle.cm_gen.specs.Standing.{StandsThen, Frame, IsBefore, used, slots_here, form_here, loop_of, split_code, Coded}
use Rattle.cm_gen.specs.StandsFor.{Spot, Placed, ExactAt, ArrivesSync, LeadsFrom, passed}
use Rattle.cm_gen.specs.Formed.{Formed}
use Rattle.cm_gen.proofs.patterns.PrologueLaw.{set_at}
use Rattle.cm_gen.proofs.sizes.SizeLaw.{joined, loop_length, size-statement, size-sequence, size-body, while_turn}
use Rattle.cm_gen.proofs.patterns.StandingLaw.{parted, parted_at, then_map, leads_map, before_on}
use Rattle.cm_gen.proofs.items.StateLaw.{exact_same, leads_to, leads_stuck, goes_behind, goes_on, coded_of}

-- a call's code is the same in both forms
called_both : (own : Form) (slots : List Slot) (f : ℕ) → enter_code Serial slots called f ≡ enter_code own slots called f
called_both Serial slots f = refl
called_both Cilk slots f = refl

called_form : (own : Form) (slots : List Slot) (e : Expr ℕ) → invoke_code Serial slots called e ≡ invoke_code own slots called e
called_form own slots (expression.Call' f _ row) = ap (λ c. arguments_code slots row 0 0 ++ c) (called_both own slots f.name)
called_form own slots _ = refl

-- the second of two parts, with its exit
pub behind : (code : Code) (frames : List Frame) (a b : List Part) (words : ℕ) (K L : ℕ → Type 0) (p : ℕ) → IsBefore frames p (length (a ++ b) + words) → StandsThen code (a ++ b) K p
    → ((q : ℕ) → IsBefore frames q (length b + words) → StandsThen code b K q → L q) → StandsThen code a L p
behind code frames a b words K L p before h f =
    then_map code a _ L p (parted_at code a b K p h)
    (λ q x. f q (before_on frames p q (length (a ++ b) + words) (length b + words) (let s = length-append a b in let e = x.0 in omega (arith, s, e)) before) x.1)

module _ (program : Program) (form : Form) (page limit : ℕ) (input : List ℤ) (code : Code) where
  module _ (spot : Spot) (left : ℕ) (calls : List ℕ) (account : ℕ) (hand : Hand) (k : List Item) (h : Stack) (m : Machine) (plain : IsPlain hand) where
    abbrev exact : List Item → Type 0
    exact l = ExactAt program form page input code spot left (control calls account hand l) h m

    abbrev coded : List Item → (p : ℕ) → Type 0
    coded l p = Coded program form page code l calls spot.frames p

    abbrev own : Form
    own = form_here program form calls

    abbrev slots : List Slot
    slots = slots_here program calls

    -- a sync, by the form of the running function; what is at hand lasts
    pub sync_by : (o : Form) (now : Hand) → IsPlain now → (j : List Item) → exact j → Kept program page k calls spot.frames h m.words → end_count k ≡ end_count j
        → ((r : ℕ → ℕ) (p : ℕ) → r reg.VALUE ≡ m.registers reg.VALUE → r reg.RESULT ≡ m.registers reg.RESULT → coded k p → Placed program form page input code now k calls spot.frames r p)
        → StandsThen code (straight (sync_code o)) (coded k) m.counter
        → (n : ℕ) × (t : Machine) × GoesTo code n m t × ArrivesSync program form page input code o spot left h (control calls account now k) t
    sync_by Serial now then_plain j x keeps count lasts here =
        (0, m, refl, exact_same program form page input code x plain now then_plain k m (same_self m.registers) refl keeps count (leads_map code _ (Placed program form page input code now k calls spot.frames m.registers) m.counter here (λ q c. lasts m.registers q refl refl c)))
    sync_by Cilk now then_plain j x keeps count lasts here =
        let r = with_register m.registers reg.SERVICE 5 in
        let t = machine_with m r (m.counter + 4) in
        let below = here.0.below in
        let same : SameRegisters m.registers r = record { zero_is = refl; sp = refl; account = refl; ticks = refl; pointer = refl } in (
          1,
          t,
          set_at code (addi reg.SERVICE reg.ZERO (pos 5)) refl reg.SERVICE 5 m.counter m refl (omega (arith, below)) here.0.there (let z = x.zero_is in rw z refl),
          (record { there = here.1.0.there; number_is = refl }, exact_same program form page input code x plain now then_plain k (passed t) same refl keeps count (leads_map code _ (Placed program form page input code now k calls spot.frames r) (m.counter + 4 + 4) here.1.1 (λ q c. lasts r q refl refl c))),
        )

    -- ---- statements

    -- the arguments of a call or of a spawn come first
    invoke_law : (purpose : Purpose) (e : Expr ℕ) (l j : List Item) (d : ℕ) (p : ℕ) → used l ≡ 0 → exact j → Kept program page l calls spot.frames h m.words → end_count l ≡ end_count j
        → StandsThen code (invoke_code own slots purpose e) (coded l) m.counter
        → LeadsFrom program form page input code spot left calls h (invoke (control calls account hand j) h purpose e l) m
    invoke_law purpose (expression.Call' f _ row) l j d p none x keeps count here =
        goes_on program form page input code x plain (arguments purpose f.name [] row ∷ l) (tt, keeps) count
        (subst (λ n. StandsThen code (arguments_code slots row n 0 ++ enter_code own slots purpose f.name) (coded l) m.counter) (sym none) here)
    invoke_law purpose _ l j d p none x keeps count here = leads_stuck program form page input code

    perform_by : (s : Stmt ℕ) → used k ≡ 0 → exact (perform s ∷ k) → coded (perform s ∷ k) m.counter
        → LeadsFrom program form page input code spot left calls h (statement_step program page input (control calls account hand (perform s ∷ k)) h s k) m
    perform_by statement.Empty none x c = goes_behind program form page input code x plain k x.kept refl c.2
    perform_by (statement.Declare row) none x c = goes_on program form page input code x plain (declare row ∷ k) x.kept refl c.2
    perform_by (statement.Assign (target.Scalar s) None e) none x c =
        goes_on program form page input code x plain (evaluate e ∷ assign s.name ∷ k) x.kept refl (parted code (expression_code slots e 0) (straight (assign_code slots s.name)) (coded k) m.counter c.2)
    perform_by (statement.Assign (target.Scalar s) (Some o) e) none x c =
        goes_on program form page input code x plain (evaluate e ∷ update s.name o ∷ k) x.kept refl (parted code (expression_code slots e 0) (straight (update_code slots s.name o)) (coded k) m.counter c.2)
    perform_by (statement.Assign (target.Index a place) o e) none x c =
        goes_on program form page input code x plain (evaluate place ∷ locate a.name o e ∷ k) x.kept refl (parted code (expression_code slots place 0) (write_code slots a.name o e) (coded k) m.counter c.2)
    perform_by (statement.Call f) none x c =
        invoke_law called (expression.Call f) (discard ∷ k) (perform (statement.Call f) ∷ k) 0 m.counter refl x x.kept refl
        (then_map code (invoke_code own slots called (expression.Call f)) (coded k) (coded (discard ∷ k)) m.counter
        (subst (λ l. StandsThen code l (coded k) m.counter) (called_form own slots (expression.Call f)) c.2) (λ q c. (0, c)))
    perform_by (statement.Spawn at y f) none x c =
        invoke_law (spawned (destination_slot y)) (expression.Call f) k (perform (statement.Spawn at y f) ∷ k) 0 m.counter none x x.kept refl c.2
    perform_by (statement.Sync at) none x c =
        let y = sync_by own idle tt (perform (statement.Sync at) ∷ k) x x.kept refl (λ r p e f g. g) c.2 in
        leads_to program form page input code y.0 y.1 y.2 y.3
    perform_by (IfAlone t s) none x c =
        goes_on program form page input code x plain (evaluate t ∷ branch s None ∷ k) x.kept refl
        (behind code spot.frames (expression_code slots t 0) (alone_of (statement_code own slots c.0 s)) c.0 (coded k) (coded (branch s None ∷ k)) m.counter c.1 c.2 (λ q b g. (c.0, b, g)))
    perform_by (IfElse t s o) none x c =
        goes_on program form page input code x plain (evaluate t ∷ branch s (Some o) ∷ k) x.kept refl
        (behind code spot.frames (expression_code slots t 0)
        (choice_of (statement_code own slots (c.0 + (statement_size own slots o + 1)) s) (statement_code own slots c.0 o)) c.0 (coded k) (coded (branch s (Some o) ∷ k)) m.counter c.1 c.2 (λ q b g. (c.0, b, g)))
    perform_by (WhileLoop t b) none x c =
        let e = while_turn own slots c.0 t b in
        goes_on program form page input code x plain (turn (Some t) statement.Empty b ∷ k) x.kept refl
        (m.counter, c.0, inl refl, subst (λ l. IsBefore spot.frames m.counter (length l + c.0)) e c.1, subst (λ l. StandsThen code l (coded k) m.counter) e c.2)
    perform_by (ForLoop first t s b) none x c =
        let loop : List Part = loop_of own slots c.0 t s b in
        let after : ℕ = (statement_size own slots b + statement_size own slots s) + loop_words slots t in
        let front : List Part = statement_code own slots (c.0 + after) first in
        let size : length loop ≡ after =
        loop_length slots t (turn_code own slots c.0 s b) (statement_size own slots b + statement_size own slots s)
        (joined _ _ _ _ (size-statement own slots (c.0 + 1 + statement_size own slots s) b) (size-statement own slots (c.0 + 1) s)) in
        let whole = length-append front loop in
        goes_on program form page input code x plain (perform first ∷ turn t s b ∷ k) x.kept refl (
          c.0 + after,
          before_on spot.frames m.counter m.counter (length (front ++ loop) + c.0) (length front + (c.0 + after)) (omega (arith, whole, size)) c.1,
          behind code spot.frames front loop c.0 (coded k) (coded (turn t s b ∷ k)) m.counter c.1 c.2 (λ q before g. (q, c.0, inl refl, before, g)),
        )
    perform_by (statement.Split' whole place l r _ row close) none x c =
        goes_on program form page input code x plain (evaluate place ∷ part whole.name l.name r.name row ∷ k) x.kept refl
        (behind code spot.frames (expression_code slots place 0) (split_code own slots c.0 whole.name l.name r.name row) c.0 (coded k) (coded (part whole.name l.name r.name row ∷ k)) m.counter c.1 c.2
        (λ q b g. (c.0, b, g)))
    perform_by (statement.Return at None) none x c =
        goes_on program form page input code x plain (exit ∷ k) x.kept refl (c.0, c.1, c.2)
    perform_by (statement.Return at (Some e)) none x c =
        goes_on program form page input code x plain (evaluate e ∷ exit ∷ k) x.kept refl
        (behind code spot.frames (expression_code slots e 0) (straight (exit_code c.0)) c.0 (coded k) (coded (exit ∷ k)) m.counter c.1 c.2 (λ q b g. (c.0, b, g)))
    perform_by (statement.Print e) none x c =
        goes_on program form page input code x plain (evaluate e ∷ tick ∷ show ∷ k) x.kept refl
        (then_map code (expression_code slots e 0) _ (coded (tick ∷ show ∷ k)) m.counter (parted code (expression_code slots e 0) (straight tick_code ++ straight (service (pos 1))) (coded k) m.counter c.2)
        (λ q g. parted code (straight tick_code) (straight (service (pos 1))) (coded k) q g))
    perform_by (statement.Block' _ row) none x c = goes_on program form page input code x plain (sequence row ∷ k) x.kept refl c

    sequence_by : {n : _} (row : Row_of-Stmt ℕ n) → exact (sequence row ∷ k) → coded (sequence row ∷ k) m.counter
        → LeadsFrom program form page input code spot left calls h (item_step program page input (control calls account hand (sequence row ∷ k)) h (sequence row) k) m
    sequence_by end_of-Stmt x c = goes_behind program form page input code x plain k x.kept refl c.2
    sequence_by (more_of-Stmt first more) x c =
        let after : ℕ = sequence_size own slots more in
        let front : List Part = statement_code own slots (c.0 + after) first in
        let later : List Part = sequence_code own slots c.0 more in
        let whole = length-append front later in
        let size : length later ≡ after = size-sequence own slots c.0 more in
        goes_on program form page input code x plain (perform first ∷ sequence more ∷ k) x.kept refl (
          c.0 + after,
          before_on spot.frames m.counter m.counter (length (front ++ later) + c.0) (length front + (c.0 + after)) (omega (arith, whole, size)) c.1,
          behind code spot.frames front later c.0 (coded k) (coded (sequence more ∷ k)) m.counter c.1 c.2 (λ q before g. (c.0, before, g)),
        )

    body_by : (row : List (Stmt ℕ)) → exact (body row ∷ k) → coded (body row ∷ k) m.counter
        → LeadsFrom program form page input code spot left calls h (item_step program page input (control calls account hand (body row ∷ k)) h (body row) k) m
    body_by [] x c = goes_behind program form page input code x plain k x.kept refl c.2
    body_by (first ∷ more) x c =
        let after : ℕ = body_size own slots more in
        let front : List Part = statement_code own slots (c.0 + after) first in
        let later : List Part = body_code own slots c.0 more in
        let whole = length-append front later in
        let size : length later ≡ after = size-body own slots c.0 more in
        goes_on program form page input code x plain (perform first ∷ body more ∷ k) x.kept refl (
          c.0 + after,
          before_on spot.frames m.counter m.counter (length (front ++ later) + c.0) (length front + (c.0 + after)) (omega (arith, whole, size)) c.1,
          behind code spot.frames front later c.0 (coded k) (coded (body more ∷ k)) m.counter c.1 c.2 (λ q before g. (c.0, before, g)),
        )

  -- ---- the laws

  pub perform_law : (s : Stmt ℕ) (spot : Spot) (left : ℕ) (calls : List ℕ) (account : ℕ) (hand : Hand) (k : List Item) (h : Stack) (m : Machine) → IsPlain hand
      → Formed program page limit (control calls account hand (perform s ∷ k)) h
      → ExactAt program form page input code spot left (control calls account hand (perform s ∷ k)) h m
      → Placed program form page input code hand (perform s ∷ k) calls spot.frames m.registers m.counter
      → LeadsFrom program form page input code spot left calls h (item_step program page input (control calls account hand (perform s ∷ k)) h (perform s) k) m
  perform_law s spot left calls account hand k h m plain formed x here =
      perform_by spot left calls account hand k h m plain s formed.fits.0.0 x (coded_of program form page limit input code hand (perform s ∷ k) calls spot.frames m.registers m.counter plain here)

  pub sequence_law : {n : _} (row : Row_of-Stmt ℕ n) (spot : Spot) (left : ℕ) (calls : List ℕ) (account : ℕ) (hand : Hand) (k : List Item) (h : Stack) (m : Machine) → IsPlain hand
      → ExactAt program form page input code spot left (control calls account hand (sequence row ∷ k)) h m
      → Placed program form page input code hand (sequence row ∷ k) calls spot.frames m.registers m.counter
      → LeadsFrom program form page input code spot left calls h (item_step program page input (control calls account hand (sequence row ∷ k)) h (sequence row) k) m
  sequence_law row spot left calls account hand k h m plain x here =
      sequence_by spot left calls account hand k h m plain row x (coded_of program form page limit input code hand (sequence row ∷ k) calls spot.frames m.registers m.counter plain here)

  pub body_law : (row : List (Stmt ℕ)) (spot : Spot) (left : ℕ) (calls : List ℕ) (account : ℕ) (hand : Hand) (k : List Item) (h : Stack) (m : Machine) → IsPlain hand
      → ExactAt program form page input code spot left (control calls account hand (body row ∷ k)) h m
      → Placed program form page input code hand (body row ∷ k) calls spot.frames m.registers m.counter
      → LeadsFrom program form page input code spot left calls h (item_step program page input (control calls account hand (body row ∷ k)) h (body row) k) m
  body_law row spot left calls account hand k h m plain x here =
      body_by spot left calls account hand k h m plain row x (coded_of program form page limit input code hand (body row ∷ k) calls spot.frames m.registers m.counter plain here)
