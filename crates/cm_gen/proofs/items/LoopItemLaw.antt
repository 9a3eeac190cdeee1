-- The laws of ticks, prints, choices and loops.
use Rattle.cm_gen.proofs.patterns.LeavesLaw.{SameRegisters, same_self}
use Rattle.std.proofs.Common.{◌≡◌, ℕ, zero, suc, ◌+◌, ◌-◌, ◌*◌, ◌^◌, ◌<◌, List, [], ◌∷◌, ◌++◌, length, Option, None, Some, refl, sym, ◌∙◌, subst, arith, inl, inr, length-append}
use Rattle.std.specs.Prelude.{Bool, true, false, if◌then◌else◌, ℤ, pos}
use Rattle.cm_isa.specs.declared.convention.TheConstants as reg
use Rattle.cm_isa.specs.Bits.{minus}
use Rattle.cm_isa.specs.Machine.{Machine, Code, machine_with}
use Rattle.cm_isa.specs.Register.{with_register}
use Rattle.cm_syntax.specs.declared.expr.Expr.{Expr}
use Rattle.cm_syntax.specs.declared.stmt.Slot.{Slot}
use Rattle.cm_syntax.specs.declared.stmt.Stmt.{Stmt}
use Rattle.cm_syntax.specs.declared.stmt.Program.{Program}
use Rattle.cm_syntax.specs.Operator.{is_zero}
use Rattle.cm_syntax.specs.Label.{silent, ticks, prints}
use Rattle.cm_syntax.specs.Stack.{Stack}
use Rattle.cm_syntax.specs.Rest.{Item, evaluate, perform, branch, turn, test, tick, show, Hand, idle, holds, control}
use Rattle.cm_syntax.specs.Step.{go_on, item_step}
use Rattle.cm_meaning.specs.Activation.{end_count}
use Rattle.cm_meaning.proofs.TypedFramesLaw.{IsPlain}
use Rattle.cm_gen.specs.declared.form.Form.{Form}
use Rattle.cm_gen.specs.Assembler.{addi, jal, bne}
use Rattle.cm_gen.specs.Code.{service, tick as tick_code}
use Rattle.cm_gen.specs.Part.{Part, straight}
use Rattle.cm_gen.specs.Expression.{skip, back_over, expression_code}
use Rattle.cm_gen.specs.Statement.{alone_of, choice_of, test_code, turn_code, statement_code, statement_size}
use Rattle.cm_gen.specs.FrameWord.{Kept}
use Rattle.cm_gen.specs.Standing.{Stands, JumpsTo, LeadsTo, IsTurn, StandsThen, IsBefore, slots_here, form_here, turn_words, loop_of, Coded}
use Rattle.cm_gen.specs.StandsFor.{Spot, Placed, ExactAt, LeadsFrom, passed}
use Rattle.cm_gen.proofs.patterns.StepLaw.{comes_by_one, comes_on, follow_is}
use Rattle.cm_gen.proofs.patterns.PrologueLaw.{set_at, tick_runs}
use Rattle.cm_gen.proofs.sizes.SizeLaw.{size-statement}
use Rattle.cm_gen.proofs.patterns.StandingLaw.{parted, parted_at, then_map, leads_map, then_end, then_second, straight_there, straight_end, before_on}
use Rattle.cm_gen.proofs.items.StateLaw.{plain_backs, exact_same, leads_to, leads_on, goes_on, with_value, coded_of, hand_lasts}
use Rattle.cm_gen.proofs.patterns.JumpLaw.{moved, jumps_on, jumps_back, bne_over, bne_next, is_nothing, is_something, then_join, end_place}

module _ (program : Program) (form : Form) (page limit : ℕ) (input : List ℤ) (code : Code) where
  -- ---- ticks and prints

  module _ (spot : Spot) (calls : List ℕ) (account : ℕ) (hand : Hand) (k : List Item) (h : Stack) (m : Machine) where
    abbrev coded : List Item → (p : ℕ) → Type 0
    coded l p = Coded program form page code l calls spot.frames p

    tick_by : (left : ℕ) → left < 2 ^ 32 → IsPlain hand
        → ExactAt program form page input code spot left (control calls account hand (tick ∷ k)) h m
        → Placed program form page input code hand (tick ∷ k) calls spot.frames m.registers m.counter
        → StandsThen code (straight tick_code) (coded k) m.counter
        → LeadsFrom program form page input code spot left calls h (ticks (control calls account hand k) h) m
    tick_by zero few none x here c =
        let left_is = x.left_is in
        let zero_is = x.zero_is in
        let below = c.1.1.0.below in
        let follows = follow_is m.counter (omega (arith, below)) in
        let u : Machine = moved m (m.counter + 4) in
        let v : Machine = machine_with u (with_register m.registers reg.SERVICE 6) (m.counter + 4 + 4) in
        leads_to program form page input code 2 v
        (comes_on code 1 1 m u v (comes_by_one code (bne reg.TICKS reg.ZERO (pos 12)) refl m u c.0.there (rw (zero_is, left_is, follows) refl))
        (set_at code (addi reg.SERVICE reg.ZERO (pos 6)) refl reg.SERVICE 6 (m.counter + 4) u refl (omega (arith, below)) c.1.0.there (rw zero_is refl)))
        (record { there = c.1.1.0.there; number_is = refl }, left_is)
    tick_by (suc n) few none x here c =
        let left_is = x.left_is in
        let there = straight_there code (bne reg.TICKS reg.ZERO (pos 12)) (service (pos 6) ++ addi reg.TICKS reg.TICKS (minus 1) ∷ []) (coded k) m.counter c in
        let below = there.below in
        let r = with_register m.registers reg.TICKS (m.registers reg.TICKS - 1) in
        let u : Machine = machine_with m r (m.counter + 16) in
        let end = straight_end code tick_code (coded k) m.counter c in
        leads_to program form page input code 2 u
        (tick_runs code m.counter m x.zero_is (λ e. omega (arith, e, left_is)) (omega (arith, left_is, few)) c.0.aligned refl (omega (arith, below)) there.there)
        (record {
          frames = x.frames;
          may_stand = x.may_stand;
          slots = x.slots;
          kept = x.kept;
          own = x.own;
          returns_are = x.returns_are ∙ plain_backs hand (end_count k) spot.frames m.registers none ∙ sym (plain_backs hand (end_count k) spot.frames r none);
          zero_is = x.zero_is;
          low_is = x.low_is;
          account_is = x.account_is;
          left_is = omega (arith, left_is);
          pointer_is = x.pointer_is;
          placed = leads_map code (coded k) (Placed program form page input code hand k calls spot.frames r) (m.counter + 16) end
              (λ q g. hand_lasts program form page limit input code hand (tick ∷ k) k calls spot.frames m.registers r m.counter q none refl refl here g);
        })

  pub tick_law : (spot : Spot) (left : ℕ) (calls : List ℕ) (account : ℕ) (hand : Hand) (k : List Item) (h : Stack) (m : Machine) → left < 2 ^ 32 → IsPlain hand
      → ExactAt program form page input code spot left (control calls account hand (tick ∷ k)) h m
      → Placed program form page input code hand (tick ∷ k) calls spot.frames m.registers m.counter
      → LeadsFrom program form page input code spot left calls h (item_step program page input (control calls account hand (tick ∷ k)) h tick k) m
  tick_law spot left calls account hand k h m few none x here =
      tick_by spot calls account hand k h m left few none x here (coded_of program form page limit input code hand (tick ∷ k) calls spot.frames m.registers m.counter none here)

  pub show_law : (spot : Spot) (left : ℕ) (calls : List ℕ) (account : ℕ) (hand : Hand) (k : List Item) (h : Stack) (m : Machine)
      → ExactAt program form page input code spot left (control calls account hand (show ∷ k)) h m
      → Placed program form page input code hand (show ∷ k) calls spot.frames m.registers m.counter
      → LeadsFrom program form page input code spot left calls h (item_step program page input (control calls account hand (show ∷ k)) h show k) m
  show_law spot left calls account hand k h m x here = with_value program form page input code hand _ x here law
    where
      law : (v : ℤ) → ExactAt program form page input code spot left (control calls account (holds v) (show ∷ k)) h m
          → Placed program form page input code (holds v) (show ∷ k) calls spot.frames m.registers m.counter
          → LeadsFrom program form page input code spot left calls h (prints v (control calls account idle k) h) m
      law v x here =
          let c = here.2 in
          let r = with_register m.registers reg.SERVICE 1 in
          let t = machine_with m r (m.counter + 4) in
          let below = c.0.below in
          let zero_is = x.zero_is in
          let same : SameRegisters m.registers r = record { zero_is = refl; sp = refl; account = refl; ticks = refl; pointer = refl } in
          leads_to program form page input code 1 t
          (set_at code (addi reg.SERVICE reg.ZERO (pos 1)) refl reg.SERVICE 1 m.counter m refl (omega (arith, below)) c.0.there (rw zero_is refl))
          (record { there = c.1.0.there; number_is = refl }, here.0, exact_same program form page input code x tt idle tt k (passed t) same refl x.kept refl c.1.1, here.1)

  -- ---- choices

  module _ (spot : Spot) (left : ℕ) (calls : List ℕ) (account : ℕ) (v : ℤ) (k : List Item) (h : Stack) (m : Machine) where
    abbrev exact : List Item → Type 0
    exact l = ExactAt program form page input code spot left (control calls account (holds v) l) h m

    abbrev place : List Item → Type 0
    place l = Placed program form page input code (holds v) l calls spot.frames m.registers m.counter

    abbrev stands : List Item → (p : ℕ) → Type 0
    stands l p = Coded program form page code l calls spot.frames p

    abbrev own : Form
    own = form_here program form calls

    abbrev slots : List Slot
    slots = slots_here program calls

    abbrev goes : List Item → Type 0
    goes l = LeadsFrom program form page input code spot left calls h (silent (control calls account idle l) h) m

    -- the value isn't 0: on behind the branch and the jump
    pub goes_over : (i : Item) (l : List Item) → is_zero v ≡ false → exact (i ∷ k) → place (i ∷ k) → Kept program page l calls spot.frames h m.words → end_count l ≡ end_count (i ∷ k)
        → Stands code m.counter (bne reg.VALUE reg.ZERO (pos 8)) → stands l (m.counter + 4 + 4) → goes l
    goes_over i l some x here keeps count there c =
        let u : Machine = moved m (m.counter + 8) in
        let below = there.below in
        let e : m.counter + 4 + 4 ≡ m.counter + 8 = omega arith in
        leads_on program form page input code 1 u
        (comes_by_one code (bne reg.VALUE reg.ZERO (pos 8)) refl m u there.there (bne_over m x.zero_is (is_something v some here.1 (m.registers reg.VALUE) here.0) there.aligned (omega (arith, below))))
        (exact_same program form page input code x tt idle tt l u (same_self m.registers) refl keeps count (0, subst (stands l) e c))

    -- it is 0: the jump goes over so many words
    pub goes_past : (i : Item) (l : List Item) (n : ℕ) → is_zero v ≡ true → exact (i ∷ k) → place (i ∷ k) → Kept program page l calls spot.frames h m.words → end_count l ≡ end_count (i ∷ k)
        → Stands code m.counter (bne reg.VALUE reg.ZERO (pos 8)) → Stands code (m.counter + 4) (jal reg.ZERO (pos (4 * suc n)))
        → m.counter + 4 + 4 + 4 * n < 2 ^ 30 → LeadsTo code (stands l) (m.counter + 4 + 4 + 4 * n) → goes l
    goes_past i l n none x here keeps count there next below c =
        let u : Machine = moved m (m.counter + 4) in
        let q = m.counter + 4 + 4 * suc n in
        let w : Machine = moved m q in
        let low = there.below in
        let aligned = next.aligned in
        let e : m.counter + 4 + 4 + 4 * n ≡ q = omega arith in
        leads_on program form page input code 2 w
        (comes_on code 1 1 m u w (comes_by_one code (bne reg.VALUE reg.ZERO (pos 8)) refl m u there.there (bne_next m x.zero_is (is_nothing v none (m.registers reg.VALUE) here.0) (omega (arith, low))))
        (comes_by_one code (jal reg.ZERO (pos (4 * suc n))) refl u w next.there (jumps_on (4 * suc n) u (omega (arith, aligned)) (omega (arith, below)))))
        (exact_same program form page input code x tt idle tt l w (same_self m.registers) refl keeps count (subst (LeadsTo code (stands l)) e c))

    -- an `if` without an `else`
    alone_law : (s : Stmt ℕ) (zeroed : Bool) → is_zero v ≡ zeroed → exact (branch s None ∷ k) → place (branch s None ∷ k)
        → LeadsFrom program form page input code spot left calls h (if zeroed then go_on (control calls account (holds v) (branch s None ∷ k)) h k else go_on (control calls account (holds v) (branch s None ∷ k)) h (perform s ∷ k)) m
    alone_law s true e x here =
        let c = here.2 in
        let chosen : List Part = statement_code own slots c.0 s in
        let next = c.2.1.0 in
        let below = next.below in
        goes_past (branch s None) k (length chosen) e x here x.kept refl c.2.0 next (end_place code chosen (stands k) (m.counter + 4 + 4) (omega (arith, below)) c.2.1.1) (then_end code chosen (stands k) (m.counter + 4 + 4) c.2.1.1)
    alone_law s false e x here =
        let c = here.2 in
        let chosen : List Part = statement_code own slots c.0 s in
        goes_over (branch s None) (perform s ∷ k) e x here x.kept refl c.2.0
        (c.0, before_on spot.frames m.counter (m.counter + 4 + 4) (length (alone_of chosen) + c.0) (length chosen + c.0) (omega arith) c.1, c.2.1.1)

    -- and with one
    choice_law : (s o : Stmt ℕ) (zeroed : Bool) → is_zero v ≡ zeroed → exact (branch s (Some o) ∷ k) → place (branch s (Some o) ∷ k)
        → LeadsFrom program form page input code spot left calls h (if zeroed then go_on (control calls account (holds v) (branch s (Some o) ∷ k)) h (perform o ∷ k) else go_on (control calls account (holds v) (branch s (Some o) ∷ k)) h (perform s ∷ k)) m
    choice_law s o true e x here =
        let c = here.2 in
        let chosen : List Part = statement_code own slots (c.0 + (statement_size own slots o + 1)) s in
        let other : List Part = statement_code own slots c.0 o in
        let later : List Part = straight (skip (length other)) ++ other in
        let whole = length-append chosen later in
        let g = then_second code chosen later (stands k) (m.counter + 4 + 4) c.2.1.1 in
        let q = m.counter + 4 + 4 + 4 * length chosen in
        let at : q + 4 ≡ m.counter + 4 + 4 + 4 * (length chosen + 1) = omega arith in
        let below = g.0.below in
        goes_past (branch s (Some o)) (perform o ∷ k) (length chosen + 1) e x here x.kept refl c.2.0 c.2.1.0 (omega (arith, below))
        (0, subst (stands (perform o ∷ k)) at (c.0, before_on spot.frames m.counter (q + 4) (length (choice_of chosen other) + c.0) (length other + c.0) (omega (arith, whole)) c.1, g.1))
    choice_law s o false e x here =
        let c = here.2 in
        let chosen : List Part = statement_code own slots (c.0 + (statement_size own slots o + 1)) s in
        let other : List Part = statement_code own slots c.0 o in
        let later : List Part = straight (skip (length other)) ++ other in
        let whole = length-append chosen later in
        let size : length other ≡ statement_size own slots o = size-statement own slots c.0 o in
        goes_over (branch s (Some o)) (perform s ∷ k) e x here x.kept refl c.2.0 (
          c.0 + (statement_size own slots o + 1),
          before_on spot.frames m.counter (m.counter + 4 + 4) (length (choice_of chosen other) + c.0) (length chosen + (c.0 + (statement_size own slots o + 1))) (omega (arith, whole, size)) c.1,
          then_join code chosen (StandsThen code later (stands k)) (stands k) (m.counter + 4 + 4) (parted code chosen later (stands k) (m.counter + 4 + 4) c.2.1.1) (λ q g. jump_over q other g),
        )
      where
        jump_over : (q : ℕ) (other : List Part) → StandsThen code (straight (skip (length other)) ++ other) (stands k) q → LeadsTo code (stands k) q
        jump_over q other g =
            let below = g.0.below in
            let last = then_end code other (stands k) (q + 4) g.1 in
            let room = end_place code other (stands k) (q + 4) (omega (arith, below)) g.1 in
            let at : JumpsTo code q (q + 4 + 4 * length other) = record { words = suc (length other); jump = g.0; target = omega arith; below = room } in
            (suc last.0, (q + 4 + 4 * length other, at, last.1))

    branch_by : (s : Stmt ℕ) (o : Option (Stmt ℕ)) → exact (branch s o ∷ k) → place (branch s o ∷ k)
        → LeadsFrom program form page input code spot left calls h (item_step program page input (control calls account (holds v) (branch s o ∷ k)) h (branch s o) k) m
    branch_by s None x here = alone_law s (is_zero v) refl x here
    branch_by s (Some o) x here = choice_law s o (is_zero v) refl x here

  pub branch_law : (s : Stmt ℕ) (o : Option (Stmt ℕ)) (spot : Spot) (left : ℕ) (calls : List ℕ) (account : ℕ) (hand : Hand) (k : List Item) (h : Stack) (m : Machine)
      → ExactAt program form page input code spot left (control calls account hand (branch s o ∷ k)) h m
      → Placed program form page input code hand (branch s o ∷ k) calls spot.frames m.registers m.counter
      → LeadsFrom program form page input code spot left calls h (item_step program page input (control calls account hand (branch s o ∷ k)) h (branch s o) k) m
  branch_law s o spot left calls account hand k h m x here = with_value program form page input code hand _ x here (λ v x here. branch_by spot left calls account v k h m s o x here)

  -- ---- loops

  module _ (spot : Spot) (left : ℕ) (calls : List ℕ) (account : ℕ) (k : List Item) (h : Stack) (m : Machine) where
    abbrev coded_at : List Item → (p : ℕ) → Type 0
    coded_at l p = Coded program form page code l calls spot.frames p

    abbrev in_form : Form
    in_form = form_here program form calls

    abbrev in_slots : List Slot
    in_slots = slots_here program calls

    abbrev whole_loop : (words : ℕ) → Option (Expr ℕ) → (s b : Stmt ℕ) → List Part
    whole_loop words t s b = loop_of in_form in_slots words t s b

    -- what a turn does behind its tick, with the jump back
    turn_coded : (t : Option (Expr ℕ)) (s b : Stmt ℕ) (top words n p : ℕ) → n ≡ turn_words in_form in_slots words t s b → p + 4 * length (turn_code in_form in_slots words s b) ≡ top + 4 * n
        → length (whole_loop words t s b) ≡ n + 1
        → IsBefore spot.frames top (length (whole_loop words t s b) + words) → StandsThen code (whole_loop words t s b) (coded_at k) top
        → StandsThen code (turn_code in_form in_slots words s b ++ straight (back_over n)) (coded_at k) p
        → coded_at (perform b ∷ perform s ∷ turn t s b ∷ k) p
    turn_coded t s b top words n p is place size before loop h =
        let first : List Part = statement_code in_form in_slots (words + 1 + statement_size in_form in_slots s) b in
        let second : List Part = statement_code in_form in_slots (words + 1) s in
        let later : List Part = straight (back_over n) in
        let both = length-append first second in
        let sized : length second ≡ statement_size in_form in_slots s = size-statement in_form in_slots (words + 1) s in
        let total = length (whole_loop words t s b) + words in (
          words + 1 + statement_size in_form in_slots s,
          before_on spot.frames top p total (length first + (words + 1 + statement_size in_form in_slots s)) (omega (arith, place, both, sized, size)) before,
          then_map code first _ (coded_at (perform s ∷ turn t s b ∷ k)) p
              (parted_at code first second _ p (parted_at code (first ++ second) later (coded_at k) p h))
              (λ q g. (
                words + 1,
                before_on spot.frames top q total (length second + (words + 1)) (let e = g.0 in omega (arith, e, place, both, size)) before,
                then_map code second _ (coded_at (turn t s b ∷ k)) q g.1
                    (λ r f. (top, words, inr (subst (λ c. Stands code r (jal reg.ZERO (minus (4 * c)))) is f.1.0, (let e = f.0 in omega (arith, e, place, is))), before, loop)),
              )),
        )

    -- a loop from its beginning on
    loop_coded : (t : Expr ℕ) (s b : Stmt ℕ) (top words : ℕ) → IsBefore spot.frames top (length (whole_loop words (Some t) s b) + words) → StandsThen code (whole_loop words (Some t) s b) (coded_at k) top
        → coded_at (evaluate t ∷ test t s b ∷ k) top
    loop_coded t s b top words before loop =
        let inner : List Part = turn_code in_form in_slots words s b in
        then_map code (expression_code in_slots t 0) _ (coded_at (test t s b ∷ k)) top
        (parted_at code (expression_code in_slots t 0) (test_code (length (expression_code in_slots t 0)) inner) (coded_at k) top loop)
        (λ q g. (top, words, g.0, before, loop))

    endless_coded : (s b : Stmt ℕ) (top words : ℕ) → IsBefore spot.frames top (length (whole_loop words None s b) + words) → StandsThen code (whole_loop words None s b) (coded_at k) top
        → coded_at (tick ∷ perform b ∷ perform s ∷ turn None s b ∷ k) top
    endless_coded s b top words before loop =
        let inner : List Part = turn_code in_form in_slots words s b in
        let n = length inner + 4 in
        let later : List Part = straight (back_over n) in
        let whole = length-append inner later in
        then_map code (straight tick_code) _ (coded_at (perform b ∷ perform s ∷ turn None s b ∷ k)) top
        (parted_at code (straight tick_code) (inner ++ later) (coded_at k) top loop)
        (λ q g. turn_coded None s b top words n q refl (let e = g.0 in omega (arith, e)) (omega (arith, whole)) before loop g.1)

    -- the next turn begins, behind a jump back or none
    begins : (hand : Hand) → IsPlain hand → (t : Option (Expr ℕ)) (s b : Stmt ℕ) (l : List Item) → ExactAt program form page input code spot left (control calls account hand (turn t s b ∷ k)) h m
        → Kept program page l calls spot.frames h m.words → end_count l ≡ end_count k
        → (top n : ℕ) → IsTurn code top n m.counter → coded_at l top
        → LeadsFrom program form page input code spot left calls h (silent (control calls account idle l) h) m
    begins hand plain t s b l x keeps count top n (inl e) c = goes_on program form page input code x plain l keeps count (subst (coded_at l) (sym e) c)
    begins hand plain t s b l x keeps count top n (inr back) c =
        let is = back.1 in
        let aligned = back.0.aligned in
        let below = back.0.below in
        leads_on program form page input code 1 (moved m top)
        (comes_by_one code (jal reg.ZERO (minus (4 * n))) refl m (moved m top) back.0.there (jumps_back (4 * n) m top is (omega (arith, is, aligned)) (omega (arith, below))))
        (exact_same program form page input code x plain idle tt l (moved m top) (same_self m.registers) refl keeps count (0, c))

    turn_by : (hand : Hand) → IsPlain hand → (t : Option (Expr ℕ)) (s b : Stmt ℕ) → ExactAt program form page input code spot left (control calls account hand (turn t s b ∷ k)) h m
        → coded_at (turn t s b ∷ k) m.counter
        → LeadsFrom program form page input code spot left calls h (item_step program page input (control calls account hand (turn t s b ∷ k)) h (turn t s b) k) m
    turn_by hand plain (Some t) s b x c = begins hand plain (Some t) s b (evaluate t ∷ test t s b ∷ k) x x.kept refl c.0 (turn_words in_form in_slots c.1 (Some t) s b) c.2 (loop_coded t s b c.0 c.1 c.3 c.4)
    turn_by hand plain None s b x c =
        begins hand plain None s b (tick ∷ perform b ∷ perform s ∷ turn None s b ∷ k) x x.kept refl c.0 (turn_words in_form in_slots c.1 None s b) c.2 (endless_coded s b c.0 c.1 c.3 c.4)

    -- behind the condition
    test_by : (v : ℤ) (t : Expr ℕ) (s b : Stmt ℕ) (zeroed : Bool) → is_zero v ≡ zeroed
        → ExactAt program form page input code spot left (control calls account (holds v) (test t s b ∷ k)) h m
        → Placed program form page input code (holds v) (test t s b ∷ k) calls spot.frames m.registers m.counter
        → LeadsFrom program form page input code spot left calls h (if zeroed then go_on (control calls account (holds v) (test t s b ∷ k)) h k
        else go_on (control calls account (holds v) (test t s b ∷ k)) h (tick ∷ perform b ∷ perform s ∷ turn (Some t) s b ∷ k)) m
    test_by v t s b zeroed e x here =
        let c = here.2 in
        let first : List Part = expression_code in_slots t 0 in
        let inner : List Part = turn_code in_form in_slots c.1 s b in
        let stands = subst (StandsThen code (test_code (length first) inner) (coded_at k)) (sym c.2) (then_second code first (test_code (length first) inner) (coded_at k) c.0 c.4) in
        by_zero zeroed e c.0 c.1 c.2 c.3 c.4 stands
      where
        by_zero : (zeroed : Bool) → is_zero v ≡ zeroed → (top words : ℕ) → m.counter ≡ top + 4 * length (expression_code in_slots t 0)
            → IsBefore spot.frames top (length (whole_loop words (Some t) s b) + words) → StandsThen code (whole_loop words (Some t) s b) (coded_at k) top
            → StandsThen code (test_code (length (expression_code in_slots t 0)) (turn_code in_form in_slots words s b)) (coded_at k) m.counter
            → LeadsFrom program form page input code spot left calls h (if zeroed then go_on (control calls account (holds v) (test t s b ∷ k)) h k
            else go_on (control calls account (holds v) (test t s b ∷ k)) h (tick ∷ perform b ∷ perform s ∷ turn (Some t) s b ∷ k)) m
        by_zero true e top words place before loop stands =
            let inner : List Part = turn_code in_form in_slots words s b in
            let n = length (expression_code in_slots t 0) + (length inner + 6) in
            let later : List Part = straight tick_code ++ (inner ++ straight (back_over n)) in
            let whole = length-append inner (straight (back_over n)) in
            let size : length later ≡ length inner + 5 = omega (arith, whole) in
            let low = stands.1.0.below in
            let p = m.counter + 4 + 4 in
            goes_past spot left calls account v k h m (test t s b) k (length inner + 5) e x here x.kept refl stands.0 stands.1.0
            (subst (λ c. p + 4 * c < 2 ^ 30) size (end_place code later (coded_at k) p (omega (arith, low)) stands.1.1))
            (subst (λ c. LeadsTo code (coded_at k) (p + 4 * c)) size (then_end code later (coded_at k) p stands.1.1))
        by_zero false e top words place before loop stands =
            let first : List Part = expression_code in_slots t 0 in
            let inner : List Part = turn_code in_form in_slots words s b in
            let n = length first + (length inner + 6) in
            let later : List Part = inner ++ straight (back_over n) in
            let whole = length-append inner (straight (back_over n)) in
            let all = length-append first (test_code (length first) inner) in
            let p = m.counter + 4 + 4 in
            goes_over spot left calls account v k h m (test t s b) (tick ∷ perform b ∷ perform s ∷ turn (Some t) s b ∷ k) e x here x.kept refl stands.0
            (then_map code (straight tick_code) _ (coded_at (perform b ∷ perform s ∷ turn (Some t) s b ∷ k)) p (parted_at code (straight tick_code) later (coded_at k) p stands.1.1)
            (λ q g. turn_coded (Some t) s b top words n q refl (let e = g.0 in omega (arith, e, place)) (omega (arith, whole, all)) before loop g.1))

  pub turn_law : (t : Option (Expr ℕ)) (s b : Stmt ℕ) (spot : Spot) (left : ℕ) (calls : List ℕ) (account : ℕ) (hand : Hand) (k : List Item) (h : Stack) (m : Machine) → IsPlain hand
      → ExactAt program form page input code spot left (control calls account hand (turn t s b ∷ k)) h m
      → Placed program form page input code hand (turn t s b ∷ k) calls spot.frames m.registers m.counter
      → LeadsFrom program form page input code spot left calls h (item_step program page input (control calls account hand (turn t s b ∷ k)) h (turn t s b) k) m
  turn_law t s b spot left calls account hand k h m none x here =
      turn_by spot left calls account k h m hand none t s b x (coded_of program form page limit input code hand (turn t s b ∷ k) calls spot.frames m.registers m.counter none here)

  pub test_law : (t : Expr ℕ) (s b : Stmt ℕ) (spot : Spot) (left : ℕ) (calls : List ℕ) (account : ℕ) (hand : Hand) (k : List Item) (h : Stack) (m : Machine)
      → ExactAt program form page input code spot left (control calls account hand (test t s b ∷ k)) h m
      → Placed program form page input code hand (test t s b ∷ k) calls spot.frames m.registers m.counter
      → LeadsFrom program form page input code spot left calls h (item_step program page input (control calls account hand (test t s b ∷ k)) h (test t s b) k) m
  test_law t s b spot left calls account hand k h m x here = with_value program form page input code hand _ x here (λ v x here. test_by spot left calls account k h m v t s b (is_zero v) refl x here)
