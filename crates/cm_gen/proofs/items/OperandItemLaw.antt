-- The laws of operators behind their operands: a left operand is kept in a temporary, operators compute, and `&&` and `||`
-- stop early.
use Rattle.cm_gen.proofs.patterns.LeavesLaw.{SameRegisters, same_self, same_after, same_leaves}
use Rattle.std.proofs.Common.{◌≡◌, ◌≢◌, ℕ, suc, ◌+◌, ◌*◌, ◌%◌, ◌^◌, ◌<◌, List, [], ◌∷◌, ◌++◌, length, Some, refl, sym, ap, ◌∙◌, subst, arith, length-append}
use Rattle.std.proofs.lemmas.Bool.{ne_eqb, lt-ltb}
use Rattle.std.proofs.lemmas.Option.{none-some}
use Rattle.std.specs.Prelude.{Bool, true, false, ◌==◌, if◌then◌else◌, nat_lt, ℤ, pos, FitsSigned, max}
use Rattle.std.specs.Int.{w32}
use Rattle.cm_isa.specs.Alu.{bit}
use Rattle.cm_isa.specs.Action.{follow}
use Rattle.cm_isa.specs.Machine.{Machine, Code, machine_after, machine_with, writable}
use Rattle.cm_gen.specs.Returns.{GoesTo}
use Rattle.cm_isa.specs.Register.{with_register}
use Rattle.cm_isa.specs.declared.convention.TheConstants as reg
use Rattle.cm_syntax.specs.declared.expr.Op.{Op}
use Rattle.cm_syntax.specs.declared.expr.Op.TheVariants as op
use Rattle.cm_syntax.specs.declared.expr.Expr.{Expr}
use Rattle.cm_syntax.specs.declared.stmt.Program.{Program}
use Rattle.cm_syntax.specs.Frame.{temporaries}
use Rattle.cm_syntax.specs.Operator.{is_zero, binary_value, unary_value}
use Rattle.cm_syntax.specs.Label.{silent}
use Rattle.cm_syntax.specs.Stack.{Stack}
use Rattle.cm_syntax.specs.Rest.{Item, evaluate, right, apply, prefix, both, either, truth, Hand, idle, holds, control}
use Rattle.cm_syntax.specs.Step.{Move, item_step}
use Rattle.cm_meaning.specs.Activation.{end_count}
use Rattle.cm_meaning.proofs.TypedFramesLaw.{IsPlain}
use Rattle.cm_gen.specs.declared.form.Form.{Form}
use Rattle.cm_gen.specs.Assembler.{jal, bne, beq, sltu}
use Rattle.cm_gen.specs.Code.{load_slot}
use Rattle.cm_gen.specs.Part.{Part, straight}
use Rattle.cm_gen.specs.Expression.{temporary_offset, operator_code, prefix_code, truth_code, keep_word, apply_code, expression_code}
use Rattle.cm_gen.specs.Standing.{LeadsTo, StandsThen, used, slots_here, Coded}
use Rattle.cm_gen.specs.FrameWord.{bits, Kept}
use Rattle.cm_gen.specs.StandsFor.{Spot, Placed, ExactAt, LeadsFrom}
use Rattle.cm_gen.specs.Formed.{RestFits, Formed}
use Rattle.cm_gen.proofs.patterns.WordLaw as words
use Rattle.cm_gen.proofs.patterns.StepLaw.{comes_by_one, comes_on, follow_is}
use Rattle.cm_gen.proofs.patterns.PatternLaw.{sets_by_one, load_slot_some, store_slot_some}
use Rattle.cm_gen.proofs.patterns.StandingLaw.{parted, leads_map, then_second, straight_end, code_at, code_front, code_back}
use Rattle.cm_gen.proofs.items.StateLaw.{exact_same, exact_with, leads_to, leads_on, gives_value, by_result, by_some, with_value}
use Rattle.cm_gen.proofs.states.FactLaw.{some_end}
use Rattle.cm_gen.proofs.patterns.JumpLaw.{moved, jumps_on, bne_over, bne_next, is_nothing, is_something}
use Rattle.cm_gen.proofs.states.ValueFitsLaw.{natural_fits, binary_fits, unary_fits}
use Rattle.cm_gen.proofs.patterns.OperatorLaw.{operator_runs, operator_traps, prefix_runs, nonzero_bits, zero_bits}
use Rattle.cm_gen.proofs.patterns.TemporaryLaw.{keep_runs, keeps_rest, temporary_runs, at_frame}
use Rattle.cm_gen.proofs.items.ExpressionItemLaw.{puts_value}

-- a unary operator has code
prefix_some : (o : Op) (a v : ℤ) → unary_value o a ≡ Some v → 0 < length (prefix_code o)
prefix_some op.Neg a v e = omega arith
prefix_some op.Not a v e = omega arith
prefix_some op.Flip a v e = omega arith
prefix_some _ a v e = absurd (none-some v e)

-- a word that isn't 0 is greater
truth_is : (a : ℤ) (w : ℕ) → FitsSigned w32 a → w ≡ bits a → bit (nat_lt 0 w) ≡ bits (if is_zero a then pos 0 else pos 1)
truth_is a w fits e = by_zero (is_zero a) refl
  where
    by_zero : (z : Bool) → is_zero a ≡ z → bit (nat_lt 0 w) ≡ bits (if z then pos 0 else pos 1)
    by_zero true is = let n = e ∙ zero_bits a is in rw n refl
    by_zero false is = let some = nonzero_bits a fits is in let more : nat_lt 0 w ≡ true = lt-ltb 0 w (omega (arith, some, e)) in rw more refl

truth_fits : (b : Bool) → FitsSigned w32 (if b then pos 0 else pos 1)
truth_fits true = natural_fits 0 (omega arith)
truth_fits false = natural_fits 1 (omega arith)

-- branches over one word, by VALUE
beq_over : (m : Machine) → m.registers reg.ZERO ≡ 0 → m.registers reg.VALUE ≡ 0 → m.counter % 4 ≡ 0 → m.counter + 8 < 2 ^ 32 → machine_after (beq reg.VALUE reg.ZERO (pos 8)) m ≡ Some (moved m (m.counter + 8))
beq_over m zero_is none aligned room =
    let e = words.offset_up m.counter 8 room in
    let four : (m.counter + 8) % 4 ≡ 0 = omega (arith, aligned) in
    rw (zero_is, none, e, four) refl

beq_next : (m : Machine) → m.registers reg.ZERO ≡ 0 → m.registers reg.VALUE ≢ 0 → m.counter + 4 < 2 ^ 32 → machine_after (beq reg.VALUE reg.ZERO (pos 8)) m ≡ Some (moved m (m.counter + 4))
beq_next m zero_is some room =
    let e = follow_is m.counter room in
    let differ : (m.registers reg.VALUE == 0) ≡ false = ne_eqb (m.registers reg.VALUE) 0 some in
    rw (zero_is, differ, e) refl

module _ (program : Program) (form : Form) (page limit : ℕ) (input : List ℤ) (code : Code) where
  module _ (spot : Spot) (left : ℕ) (calls : List ℕ) (account : ℕ) (hand : Hand) (k : List Item) (h : Stack) (m : Machine) where
    abbrev exact : Hand → List Item → Type 0
    exact now l = ExactAt program form page input code spot left (control calls account now l) h m

    abbrev placed : Hand → List Item → Type 0
    placed now l = Placed program form page input code now l calls spot.frames m.registers m.counter

    abbrev coded : List Item → (p : ℕ) → Type 0
    coded l p = Coded program form page code l calls spot.frames p

    abbrev leads : Move → Type 0
    leads move = LeadsFrom program form page input code spot left calls h move m

    -- a unary operator
    prefix_by : (o : Op) (a v : ℤ) → unary_value o a ≡ Some v → exact (holds a) (prefix o ∷ k) → placed (holds a) (prefix o ∷ k) → leads (silent (control calls account (holds v) k) h)
    prefix_by o a v e x here =
        let at = code_at code (prefix_code o) (coded k) m.counter (prefix_some o a v e) here.2 in
        let ran = prefix_runs code m x.zero_is o a v here.1 here.0 e at in
        puts_value program form page limit input code spot left calls account (holds a) k h m tt (prefix o ∷ k) (prefix_code o) v ran.0 ran.1 x ran.2 ran.3 (unary_fits o a v here.1 e) x.kept refl here.2

    pub prefix_law : (o : Op) → exact hand (prefix o ∷ k) → placed hand (prefix o ∷ k) → leads (item_step program page input (control calls account hand (prefix o ∷ k)) h (prefix o) k)
    prefix_law o x here = with_value program form page input code hand _ x here (λ a x here. by_some program form page input code (unary_value o a) _ (λ v e. prefix_by o a v e x here))

    -- the value of `&&` and `||`
    truth_by : (a : ℤ) → exact (holds a) (truth ∷ k) → placed (holds a) (truth ∷ k) → leads (silent (control calls account (holds (if is_zero a then pos 0 else pos 1)) k) h)
    truth_by a x here =
        let at = code_at code truth_code (coded k) m.counter (omega arith) here.2 in
        let below = at.below in
        let v : ℤ = if is_zero a then pos 0 else pos 1 in
        let zero_is = x.zero_is in
        let ran = sets_by_one code (sltu reg.VALUE reg.ZERO reg.VALUE) refl reg.VALUE (bits v) m refl (omega (arith, below)) at.there.0
        (rw zero_is (ap (λ w. Some (machine_with m (with_register m.registers reg.VALUE w) (follow m.counter))) (truth_is a (m.registers reg.VALUE) here.1 here.0))) in
        puts_value program form page limit input code spot left calls account (holds a) k h m tt (truth ∷ k) truth_code v 1 ran.0 x ran.1 ran.2 (truth_fits (is_zero a)) x.kept refl here.2

    pub truth_law : exact hand (truth ∷ k) → placed hand (truth ∷ k) → leads (item_step program page input (control calls account hand (truth ∷ k)) h truth k)
    truth_law x here = with_value program form page input code hand _ x here truth_by

    -- ---- `&&` and `||`

    -- no instruction but jumps, and on with another rest
    moves_on : IsPlain hand → (l j : List Item) (now : Hand) → IsPlain now → (n q : ℕ) → exact hand l → GoesTo code n m (moved m q) → Kept program page j calls spot.frames h m.words → end_count j ≡ end_count l
        → Placed program form page input code now j calls spot.frames m.registers q → leads (silent (control calls account now j) h)
    moves_on plain l j now then_plain n q x comes keeps count here =
        leads_on program form page input code n (moved m q) comes (exact_same program form page input code x plain now then_plain j (moved m q) (same_self m.registers) refl keeps count (0, here))

  module _ (spot : Spot) (left : ℕ) (calls : List ℕ) (account : ℕ) (k : List Item) (h : Stack) (m : Machine) (a : ℤ) (r : Expr ℕ) where
    abbrev right_part : List Part
    right_part = expression_code (slots_here program calls) r (used k)

    abbrev stands : (p : ℕ) → Type 0
    stands p = StandsThen code (right_part ++ straight truth_code) (Coded program form page code k calls spot.frames) p

    -- from the branch and the jump before the right operand
    module _ (l : List Item) (x : ExactAt program form page input code spot left (control calls account (holds a) l) h m) (keeps : Kept program page k calls spot.frames h m.words) (count : end_count k ≡ end_count l)
        (value : m.registers reg.VALUE ≡ bits a) (fits : FitsSigned w32 a) (p : ℕ) (place : p ≡ m.counter + 8) (behind : stands p) where
      abbrev leads_here : Move → Type 0
      leads_here move = LeadsFrom program form page input code spot left calls h move m

      -- the right operand comes
      takes_right : GoesTo code 1 m (moved m (m.counter + 8)) → leads_here (silent (control calls account idle (evaluate r ∷ truth ∷ k)) h)
      takes_right comes =
          moves_on spot left calls account (holds a) k h m tt l (evaluate r ∷ truth ∷ k) idle tt 1 (m.counter + 8) x comes keeps count
          (parted code right_part (straight truth_code) (Coded program form page code k calls spot.frames) (m.counter + 8) (subst stands place behind))

      -- or it is passed over
      passes_right : GoesTo code 1 m (moved m (m.counter + 4)) → code (m.counter + 4) (jal reg.ZERO (pos (4 * suc (length right_part)))) → m.counter % 4 ≡ 0
          → leads_here (silent (control calls account (holds a) (truth ∷ k)) h)
      passes_right comes jump aligned =
          let q = p + 4 * length right_part in
          let rest = then_second code right_part (straight truth_code) (Coded program form page code k calls spot.frames) p behind in
          let below = rest.0.below in
          let s = moved m (m.counter + 4) in
          let to : m.counter + 4 + 4 * suc (length right_part) ≡ q = omega (arith, place) in
          let jumps : machine_after (jal reg.ZERO (pos (4 * suc (length right_part)))) s ≡ Some (moved m q) = jumps_on (4 * suc (length right_part)) s (omega (arith, aligned)) (omega (arith, to, below)) ∙ ap (λ n. Some (moved m n)) to in
          moves_on spot left calls account (holds a) k h m tt l (truth ∷ k) (holds a) tt 2 q x (comes_on code 1 1 m s (moved m q) comes (comes_by_one code (jal reg.ZERO (pos (4 * suc (length right_part)))) refl s (moved m q) jump jumps)) keeps count
          (value, fits, rest)

    pub both_by : (x : ExactAt program form page input code spot left (control calls account (holds a) (both r ∷ k)) h m) → Placed program form page input code (holds a) (both r ∷ k) calls spot.frames m.registers m.counter
        → LeadsFrom program form page input code spot left calls h (if is_zero a then silent (control calls account (holds a) (truth ∷ k)) h else silent (control calls account idle (evaluate r ∷ truth ∷ k)) h) m
    both_by x here = by_zero (is_zero a) refl
      where
        by_zero : (z : Bool) → is_zero a ≡ z → LeadsFrom program form page input code spot left calls h (if z then silent (control calls account (holds a) (truth ∷ k)) h else silent (control calls account idle (evaluate r ∷ truth ∷ k)) h) m
        by_zero true is =
            let c = here.2 in let below = c.1.0.below in
            passes_right (both r ∷ k) x x.kept refl here.0 here.1 (m.counter + 4 + 4) (omega arith) c.1.1
            (comes_by_one code (bne reg.VALUE reg.ZERO (pos 8)) refl m _ c.0.there (bne_next m x.zero_is (is_nothing a is (m.registers reg.VALUE) here.0) (omega (arith, below)))) c.1.0.there c.0.aligned
        by_zero false is =
            let c = here.2 in let below = c.1.0.below in
            takes_right (both r ∷ k) x x.kept refl here.0 here.1 (m.counter + 4 + 4) (omega arith) c.1.1
            (comes_by_one code (bne reg.VALUE reg.ZERO (pos 8)) refl m _ c.0.there (bne_over m x.zero_is (is_something a is here.1 (m.registers reg.VALUE) here.0) c.0.aligned (omega (arith, below))))

    pub either_by : (x : ExactAt program form page input code spot left (control calls account (holds a) (either r ∷ k)) h m) → Placed program form page input code (holds a) (either r ∷ k) calls spot.frames m.registers m.counter
        → LeadsFrom program form page input code spot left calls h (if is_zero a then silent (control calls account idle (evaluate r ∷ truth ∷ k)) h else silent (control calls account (holds a) (truth ∷ k)) h) m
    either_by x here = by_zero (is_zero a) refl
      where
        by_zero : (z : Bool) → is_zero a ≡ z → LeadsFrom program form page input code spot left calls h (if z then silent (control calls account idle (evaluate r ∷ truth ∷ k)) h else silent (control calls account (holds a) (truth ∷ k)) h) m
        by_zero false is =
            let c = here.2 in let below = c.1.0.below in
            passes_right (either r ∷ k) x x.kept refl here.0 here.1 (m.counter + 4 + 4) (omega arith) c.1.1
            (comes_by_one code (beq reg.VALUE reg.ZERO (pos 8)) refl m _ c.0.there (beq_next m x.zero_is (is_something a is here.1 (m.registers reg.VALUE) here.0) (omega (arith, below)))) c.1.0.there c.0.aligned
        by_zero true is =
            let c = here.2 in let below = c.1.0.below in
            takes_right (either r ∷ k) x x.kept refl here.0 here.1 (m.counter + 4 + 4) (omega arith) c.1.1
            (comes_by_one code (beq reg.VALUE reg.ZERO (pos 8)) refl m _ c.0.there (beq_over m x.zero_is (is_nothing a is (m.registers reg.VALUE) here.0) c.0.aligned (omega (arith, below))))

  -- ---- the left operand in its temporary

  -- it is kept
  right_by : (spot : Spot) (left : ℕ) (calls : List ℕ) (account : ℕ) (o : Op) (r : Expr ℕ) (a : ℤ) (k : List Item) (h : Stack) (m : Machine) → RestFits program page (right o r ∷ k) calls → 0 < end_count k
      → ExactAt program form page input code spot left (control calls account (holds a) (right o r ∷ k)) h m → Placed program form page input code (holds a) (right o r ∷ k) calls spot.frames m.registers m.counter
      → LeadsFrom program form page input code spot left calls h (silent (control calls account idle (evaluate r ∷ apply o a ∷ k)) h) m
  right_by spot left [] account o r a k h m fits some x here = absurd fits.0
  right_by spot left (f ∷ calls) account o r a k h m fits some x here =
      let slots = slots_here program (f ∷ calls) in
      let d = used k in
      let count = max (d + 1) (temporaries r (d + 1)) in
      let later : List Part = expression_code slots r (d + 1) ++ straight (apply_code slots o d) in
      let rest : ℕ → Type 0 = Coded program form page code k (f ∷ calls) spot.frames in
      let parts = parted code (straight (keep_word slots d)) later rest m.counter here.2 in
      let at = code_at code (keep_word slots d) (StandsThen code later rest) m.counter (store_slot_some reg.VALUE (temporary_offset slots d)) parts in
      let less : d < count = omega arith in
      let ran = keep_runs program page code f calls spot.frames (end_count k) h d count reg.VALUE m (at_frame program form page input code spot left (control (f ∷ calls) account (holds a) (right o r ∷ k)) h m x) some fits.0 less refl at in
      let t = ran.0 in
      let does = ran.2 in
      let place = does.leaves.counter in
      let same : SameRegisters m.registers t.registers = same_leaves refl does.leaves in
      leads_on program form page input code _ t ran.1
      (exact_with program form page input code x tt idle tt (evaluate r ∷ apply o a ∷ k) h t same refl does.at.base.slots
      (does.there ∙ ap writable here.0, here.1, keeps_rest program page code f calls spot.frames k (end_count k) h d count _ _ m t x.frames fits.1 (omega arith) fits.0 less does x.kept)
      does.at.own
      (leads_map code (StandsThen code later rest) (Coded program form page code (evaluate r ∷ apply o a ∷ k) (f ∷ calls) spot.frames) t.counter
      (subst (LeadsTo code (StandsThen code later rest)) (sym place) (straight_end code (keep_word slots d) (StandsThen code later rest) m.counter parts))
      (λ q c. parted code (expression_code slots r (d + 1)) (straight (apply_code slots o d)) rest q c)))

  -- and it comes back for the operator
  apply_by : (spot : Spot) (left : ℕ) (calls : List ℕ) (account : ℕ) (o : Op) (a b : ℤ) (k : List Item) (h : Stack) (m : Machine) → RestFits program page (apply o a ∷ k) calls
      → (x : ExactAt program form page input code spot left (control calls account (holds b) (apply o a ∷ k)) h m) → Placed program form page input code (holds b) (apply o a ∷ k) calls spot.frames m.registers m.counter
      → LeadsFrom program form page input code spot left calls h (item_step program page input (control calls account (holds b) (apply o a ∷ k)) h (apply o a) k) m
  apply_by spot left [] account o a b k h m fits x here = absurd fits.0
  apply_by spot left (f ∷ calls) account o a b k h m fits x here =
      let slots = slots_here program (f ∷ calls) in
      let d = used k in
      let load = load_slot reg.LEFT (temporary_offset slots d) in
      let rest : ℕ → Type 0 = Coded program form page code k (f ∷ calls) spot.frames in
      let size = length-append load (operator_code o) in
      let some = load_slot_some reg.LEFT (temporary_offset slots d) in
      let at = code_at code (load ++ operator_code o) rest m.counter (omega (arith, size, some)) here.2 in
      let ran = temporary_runs program page code f calls spot.frames d (d + 1) reg.LEFT (bits a) m x.frames x.pointer_is fits.0 (omega arith) refl refl x.kept.0 (code_front code load (operator_code o) at) in
      let s = ran.0 in
      let does = ran.2 in
      let place = does.counter in
      let zero_is : s.registers reg.ZERO ≡ 0 = does.kept reg.ZERO refl ∙ x.zero_is in
      let operator_at = code_back code load (operator_code o) does.counter at in
      let value : s.registers reg.VALUE ≡ bits b = does.kept reg.VALUE refl ∙ here.0 in
      by_result program form page input code o (binary_value o a b) _
      (λ v e.
      let then_ = operator_runs code s zero_is a b x.kept.1 here.1 does.value value o v e operator_at in
      let sets = then_.3 in
      let end = sets.counter in
      let t = then_.1 in
      gives_value program form page input code x tt k v (length load + then_.0) t (m.counter + 4 * length (load ++ operator_code o)) (comes_on code (length load) then_.0 m s t ran.1 then_.2)
      (same_after (same_leaves refl does) (same_leaves refl sets)) (sets.words ∙ does.words) (omega (arith, end, place, size)) sets.value (binary_fits o a b v x.kept.1 here.1 e) x.kept.2 refl
      (straight_end code (load ++ operator_code o) rest m.counter here.2))
      (λ e divides_.
      let trap = operator_traps code s zero_is a b x.kept.1 here.1 does.value value o e divides_ operator_at in
      leads_to program form page input code (length load + trap.0) trap.1 (comes_on code (length load) trap.0 m s trap.1 ran.1 trap.2) (record { there = trap.3; number_is = trap.4 }, trap.5 ∙ does.kept reg.TICKS refl ∙ x.left_is))

  -- ---- the laws

  module _ (spot : Spot) (left : ℕ) (calls : List ℕ) (account : ℕ) (hand : Hand) (k : List Item) (h : Stack) (m : Machine) where
    pub both_law : (r : Expr ℕ) → exact spot left calls account hand k h m hand (both r ∷ k) → placed spot left calls account hand k h m hand (both r ∷ k)
        → leads spot left calls account hand k h m (item_step program page input (control calls account hand (both r ∷ k)) h (both r) k)
    both_law r x here = with_value program form page input code hand _ x here (λ a. both_by spot left calls account k h m a r)

    pub either_law : (r : Expr ℕ) → exact spot left calls account hand k h m hand (either r ∷ k) → placed spot left calls account hand k h m hand (either r ∷ k)
        → leads spot left calls account hand k h m (item_step program page input (control calls account hand (either r ∷ k)) h (either r) k)
    either_law r x here = with_value program form page input code hand _ x here (λ a. either_by spot left calls account k h m a r)

    pub right_law : (o : Op) (r : Expr ℕ) → IsPlain hand → Formed program page limit (control calls account hand (right o r ∷ k)) h
        → exact spot left calls account hand k h m hand (right o r ∷ k) → placed spot left calls account hand k h m hand (right o r ∷ k)
        → leads spot left calls account hand k h m (item_step program page input (control calls account hand (right o r ∷ k)) h (right o r) k)
    right_law o r plain formed x here =
        with_value program form page input code hand _ x here (λ a. right_by spot left calls account o r a k h m formed.fits (some_end program page limit calls account hand (right o r) k h plain tt formed))

    pub apply_law : (o : Op) (a : ℤ) → Formed program page limit (control calls account hand (apply o a ∷ k)) h
        → exact spot left calls account hand k h m hand (apply o a ∷ k) → placed spot left calls account hand k h m hand (apply o a ∷ k)
        → leads spot left calls account hand k h m (item_step program page input (control calls account hand (apply o a ∷ k)) h (apply o a) k)
    apply_law o a formed x here = with_value program form page input code hand _ x here (λ b. apply_by spot left calls account o a b k h m formed.fits)
