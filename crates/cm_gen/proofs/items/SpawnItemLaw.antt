-- The laws of a call and of a spawn behind their arguments: the words go to the registers, and then the call is at hand; or
-- the spawn is at its service.
use Rattle.cm_gen.proofs.patterns.ParameterLaw.{handed_within, handed_same}
use Rattle.cm_gen.proofs.patterns.JumpLaw.{jump_to, distance_to}
use Rattle.std.proofs.Common.{◌≡◌, ℕ, zero, suc, ◌+◌, ◌*◌, ◌%◌, ◌^◌, ◌<◌, ◌≤◌, List, [], ◌∷◌, ◌++◌, length, Option, None, Some, refl, sym, ap, ◌∙◌, subst, arith, length-append}
use Rattle.std.proofs.Math.Nat.{le-max_left}
use Rattle.std.proofs.lemmas.Bool.{ne_eqb, leb-false, lt-leb}
use Rattle.std.specs.Prelude.{false, ◌==◌, ℤ, pos, ◌-ℤ◌, slice_get, nat_le}
use Rattle.cm_isa.specs.Alu.{offset}
use Rattle.cm_isa.specs.Action.{follow}
use Rattle.cm_isa.specs.Operation.{Operation}
use Rattle.cm_isa.specs.Machine.{Machine, Mapped, Code, machine_with, Stored}
use Rattle.cm_gen.specs.Returns.{GoesTo}
use Rattle.cm_isa.specs.Register.{with_register}
use Rattle.cm_isa.specs.declared.convention.TheConstants as reg
use Rattle.cm_gen.proofs.frames.MappedWordLaw.{same_own}
use Rattle.cm_gen.proofs.states.PartLaw.{lent_part, kept_part}
use Rattle.cm_syntax.proofs.CellLaw.{map_sum}
use Rattle.cm_syntax.specs.declared.expr.Call.{Row_of-Arg, end_of-Arg, more_of-Arg}
use Rattle.cm_syntax.specs.declared.stmt.Slot.{Slot}
use Rattle.cm_syntax.specs.declared.stmt.Slot.TheVariants as slot
use Rattle.cm_syntax.specs.Extent.{extent_at}
use Rattle.cm_syntax.specs.declared.stmt.Extent.{Extent}
use Rattle.cm_syntax.specs.declared.stmt.Extent.TheVariants as extent
use Rattle.cm_syntax.specs.declared.stmt.Function.{Function}
use Rattle.cm_syntax.specs.declared.stmt.Program.{Program}
use Rattle.cm_syntax.specs.Label.{silent}
use Rattle.cm_syntax.specs.Stack.{Stack, Destination, Argument, word, slice, lent_stack, kept_stack}
use Rattle.cm_syntax.specs.Rest.{Purpose, called, spawned, Item, arguments, deliver, Hand, idle, entering, control}
use Rattle.cm_syntax.specs.Step.{scalar_slice, spawn_call, enter_call, item_step}
use Rattle.cm_meaning.specs.Activation.{end_count}
use Rattle.cm_meaning.specs.TypedState.{slots_at, FitParameters, FitsDestination, FitsPurpose}
use Rattle.cm_meaning.specs.Typing.{GivesWanted, parameters_in}
use Rattle.cm_meaning.proofs.TypedFramesLaw.{IsPlain}
use Rattle.cm_syntax.specs.Fault.{IsSoundProgram}
use Rattle.cm_gen.specs.declared.form.Form.{Form}
use Rattle.cm_gen.specs.declared.form.Form.TheVariants.{Serial, Cilk}
use Rattle.cm_gen.specs.Assembler.{jal}
use Rattle.cm_gen.specs.Code.{load_number, load_slot, service}
use Rattle.cm_gen.specs.Part.{Part, call, placed, straight, table_word}
use Rattle.cm_gen.specs.Expression.{slot_offset, temporary_offset, hand_over}
use Rattle.cm_gen.specs.Statement.{deliver_code, destination_code, enter_code}
use Rattle.cm_gen.specs.Standing.{Stands, LeadsTo, StandsThen, Frame, IsCompiled, arguments_size, used, slots_here, form_here, Coded}
use Rattle.cm_gen.specs.FrameWord.{bits, word_number, word_address, pointer_of, reference_address, AreFrames, value_cell, HasCell, Holds, HasTemporary, HasArguments, Kept, HasOwn, slice_value, cell_for}
use Rattle.cm_gen.specs.Formed.{HasRoom, RestFits, Formed, IsPartOf}
use Rattle.cm_gen.specs.StandsFor.{Spot, enters, backs, Turns, turns, Handed, passed, child_machine, Placed, ExactAt, Serves, destination_address, Spawns, ArrivesSpawn, LeadsFrom}
use Rattle.cm_gen.proofs.patterns.StepLaw.{comes_on, follow_is, with_register_other, with_register_same}
use Rattle.cm_gen.proofs.parts.CodeLaw.{straight_append}
use Rattle.cm_gen.proofs.patterns.PatternLaw.{load_number_runs, load_number_some, service_runs}
use Rattle.cm_gen.proofs.patterns.LeavesLaw.{Sets, SameRegisters, same_after, same_leaves, Leaves, codes_both, leaves_say}
use Rattle.cm_gen.proofs.patterns.StandingLaw.{then_below, straight_first, straight_end, IsCodeAt, code_at, code_front, code_back}
use Rattle.cm_gen.proofs.items.StateLaw.{plain_backs, exact_with, leads_to, by_held, coded_of}
use Rattle.cm_gen.proofs.frames.FrameWordLaw.{slots_top, temporary_mapped}
use Rattle.cm_gen.proofs.states.FactLaw.{opened, some_end, slots_are}
use Rattle.cm_gen.proofs.patterns.BaseLaw.{load_address_runs, slot_offset_is}
use Rattle.cm_gen.proofs.patterns.TemporaryLaw.{temporary_runs}
use Rattle.cm_gen.proofs.states.ValueFitsLaw.{natural_fits}
use Rattle.cm_gen.proofs.sizes.ArgumentWordsLaw.{arguments_few}
use Rattle.cm_gen.proofs.items.ArgumentItemLaw.{argument_law}
use Rattle.cm_gen.proofs.items.WriteLaw as write
use Rattle.cm_gen.proofs.frames.CellLaw.{cell_part}

-- ---- code before a part

module _ (code : Code) where
  -- instructions, perhaps none, before another part
  pub code_before : (is : List Operation) (first : Part) (more : List Part) (K : ℕ → Type 0) (p : ℕ) → StandsThen code (straight is ++ (first ∷ more)) K p
      → IsCodeAt code p is × StandsThen code (first ∷ more) K (p + 4 * length is)
  code_before [] first more K p c =
      let below = then_below code first more K p c in
      let e : p ≡ p + 4 * length {A = Operation} [] = omega arith in
      (record { there = tt; aligned = c.0.aligned; below = omega (arith, below) }, subst (StandsThen code (first ∷ more) K) e c)
  code_before (i ∷ is) first more K p c =
      let both = straight_first code i is (first ∷ more) K p c in
      (record { there = both.0.there; aligned = c.0.aligned; below = both.0.below }, both.1)

-- ---- words from temporaries to registers

module _ (program : Program) (page : ℕ) (code : Code) (f : ℕ) (calls : List ℕ) (frames : List Frame) where
  -- The machine t has so many temporaries from j on in the registers from r on.
  abbrev pub HandsOver : (j r count bytes : ℕ) → (m t : Machine) → Type 0
  HandsOver j r count bytes m t = Leaves (λ q. nat_le r q) (λ t. (n v : ℕ) → n < count → HasTemporary program page (f ∷ calls) frames m.words (j + n) v → t (r + n) ≡ v) (λ w. w) bytes m t

  pub hand_over_runs : (count j r ends most : ℕ) (m : Machine) → AreFrames program page (f ∷ calls) frames → m.registers reg.FP ≡ pointer_of frames → HasOwn program page ends (f ∷ calls) frames m.words → 0 < ends
      → HasRoom program page (f ∷ calls) most → j + count ≤ most → reg.RESULT ≤ r → IsCodeAt code m.counter (hand_over (slots_here program (f ∷ calls)) j r count)
      → let size = length (hand_over (slots_here program (f ∷ calls)) j r count) in (t : Machine) × GoesTo code size m t × HandsOver j r count (4 * size) m t
  hand_over_runs zero j r ends most m shape pointer own some room few high here =
      (m, refl, record { counter = omega arith; value = λ n v less. absurd (omega (arith, less)); kept = λ q less. refl; words = refl })
  hand_over_runs (suc count) j r ends most m shape pointer own some room few high here =
      let slots = slots_here program (f ∷ calls) in
      let a = load_slot r (temporary_offset slots j) in
      let b = hand_over slots (j + 1) (r + 1) count in
      let less : j < most = omega (arith, few) in
      let old = temporary_mapped program page ends f calls frames m.words j most some room less own in
      let zero_no : (r == reg.ZERO) ≡ false = ne_eqb r reg.ZERO (λ e. omega (arith, e, high)) in
      let pointer_no : (reg.FP == r) ≡ false = ne_eqb reg.FP r (λ e. omega (arith, e, high)) in
      let ran = temporary_runs program page code f calls frames j most r old.0 m shape pointer room less zero_no pointer_no old.1 (code_front code a b here) in
      let s = ran.0 in
      let does = ran.2 in
      let place = does.counter in
      let on = hand_over_runs count (j + 1) (r + 1) ends most s shape (does.kept reg.FP pointer_no ∙ pointer) (subst (λ w. HasOwn program page ends (f ∷ calls) frames w) (sym does.words) own) some room
      (omega (arith, few)) (omega (arith, high)) (code_back code a b place here) in
      codes_both code a b m s on.0 ran.1 does on.1 on.2
      (λ q low. let less = leb-false r q low in (ne_eqb q r (λ e. omega (arith, e, less)), lt-leb (r + 1) q (omega (arith, less)))) (value old.0 old.1 s does on.0 on.2)
    where
      value : (z : ℕ) → HasTemporary program page (f ∷ calls) frames m.words j z → (s : Machine) {bytes : ℕ} → Sets r z bytes m s → (t : Machine) {more : ℕ} → HandsOver (j + 1) (r + 1) count more s t
          → (n v : ℕ) → n < suc count → HasTemporary program page (f ∷ calls) frames m.words (j + n) v → t.registers (r + n) ≡ v
      value z has s does t hands zero v less there =
          let here : j + 0 ≡ j = omega arith in
          let reg_here : r ≡ r + 0 = omega arith in
          subst (λ q. t.registers q ≡ v) reg_here (hands.kept r (lt-leb (r + 1) r (omega arith)) ∙ does.value ∙ same_own z v (sym has ∙ subst (λ i. HasTemporary program page (f ∷ calls) frames m.words i v) here there))
      value z has s does t hands (suc n) v less there =
          let here : j + suc n ≡ j + 1 + n = omega arith in
          let reg_here : r + 1 + n ≡ r + suc n = omega arith in
          subst (λ q. t.registers q ≡ v) reg_here (hands.value n v (omega (arith, less))
          (subst (λ w. HasTemporary program page (f ∷ calls) frames w (j + 1 + n) v) (sym does.words) (subst (λ i. HasTemporary program page (f ∷ calls) frames m.words i v) here there)))

  -- the arguments that are in temporaries are in the registers then
  pub handed_over : (ws : List Argument) (j count bytes : ℕ) (m t : Machine) → HandsOver j reg.RESULT count bytes m t → arguments_size ws ≤ count → HasArguments program page (f ∷ calls) frames m.words j ws
      → Handed program page (f ∷ calls) frames t.registers ws
  handed_over [] j count bytes m t hands few has = tt
  handed_over (word v ∷ ws) j count bytes m t hands few has =
      (hands.value (arguments_size ws) (bits v) (omega (arith, few)) has.0, has.1, handed_over ws j count bytes m t hands (omega (arith, few)) has.2)
  handed_over (slice s ∷ ws) j count bytes m t hands few has =
      let a : j + arguments_size ws + 1 ≡ j + (arguments_size ws + 1) = omega arith in
      let b : reg.RESULT + (arguments_size ws + 1) ≡ reg.RESULT + arguments_size ws + 1 = omega arith in (
        hands.value (arguments_size ws) _ (omega (arith, few)) has.0,
        subst (λ q. t.registers q ≡ s.length) b (hands.value (arguments_size ws + 1) s.length (omega (arith, few)) (subst (λ i. HasTemporary program page (f ∷ calls) frames m.words i s.length) a has.1)),
        handed_over ws j count bytes m t hands (omega (arith, few)) has.2,
      )

-- ---- what a spawn lends and keeps

module _ (program : Program) (page : ℕ) where
  -- a part of a stack is where the whole is
  holds_part : (calls : List ℕ) (frames : List Frame) (h g : Stack) (w : Mapped) → IsPartOf g h → Holds program page calls frames h w → Holds program page calls frames g w
  holds_part calls frames h g w parts holds = λ d s i deep place. by_kind (extent_at (slots_at program calls d) s) d s i (w (word_address frames d (word_number (slots_at program calls d) s i))) (holds d s i deep place)
    where
      value : (d s i : ℕ) (found : Stored) → HasCell program page (value_cell program page (h.words d s i)) found → HasCell program page (value_cell program page (g.words d s i)) found
      value d s i found has = let p = parts.words d s i in cell_part program page _ _ _ found (map_sum bits (g.words d s i) p.0 (h.words d s i) p.1) has

      by_kind : (o : Option Extent) (d s i : ℕ) (found : Stored) → HasCell program page (cell_for program page o calls frames h d s i) found → HasCell program page (cell_for program page o calls frames g d s i) found
      by_kind None d s i found has = value d s i found has
      by_kind (Some extent.Word) d s i found has = value d s i found has
      by_kind (Some (extent.Words n)) d s i found has = value d s i found has
      by_kind (Some extent.Reference) d s i found has = let p = parts.references d s in cell_part program page _ _ _ found (map_sum (λ r. slice_value program page calls frames r i) (g.references d s) p.0 (h.references d s) p.1) has

  pub holds_lent : (calls : List ℕ) (frames : List Frame) (h : Stack) (x : Destination) (ws : List Argument) (w : Mapped) → Holds program page calls frames h w → Holds program page calls frames (lent_stack h x ws) w
  holds_lent calls frames h x ws w holds = holds_part calls frames h (lent_stack h x ws) w (lent_part h x ws) holds

  pub holds_kept : (calls : List ℕ) (frames : List Frame) (h : Stack) (x : Destination) (ws : List Argument) (w : Mapped) → Holds program page calls frames h w → Holds program page calls frames (kept_stack h x ws) w
  holds_kept calls frames h x ws w holds = holds_part calls frames h (kept_stack h x ws) w (kept_part h x ws) holds

-- the destination of a spawn, by its slot
abbrev destination_at : (depth : ℕ) → Option ℕ → Destination
destination_at d None = None
destination_at d (Some x) = Some (record { depth = d; slot = x })

module _ (program : Program) (form : Form) (page limit : ℕ) (input : List ℤ) (code : Code) (compiled : IsCompiled program form page code) where
  module _ (spot : Spot) (left f : ℕ) (calls : List ℕ) (account : ℕ) (k : List Item) (h : Stack) (m : Machine) where
    abbrev exact : Hand → List Item → Machine → Type 0
    exact hand l t = ExactAt program form page input code spot left (control (f ∷ calls) account hand l) h t

    abbrev coded : List Item → (p : ℕ) → Type 0
    coded l p = Coded program form page code l (f ∷ calls) spot.frames p

    abbrev slots : List Slot
    slots = slots_here program (f ∷ calls)

    abbrev hands : List Argument → List Operation
    hands ws = hand_over slots (used k) reg.RESULT (arguments_size ws)

    -- The machine t is behind the arguments, which are in registers.
    abbrev Over : (ws : List Argument) → (bytes : ℕ) → (t : Machine) → Type 0
    Over ws bytes t = Leaves (λ q. nat_le reg.RESULT q) (λ t. Handed program page (f ∷ calls) spot.frames t ws) (λ w. w) bytes m t

    over_by : (u : Purpose) (g : ℕ) (ws : List Argument) (hand : Hand) (most : ℕ) → exact hand (arguments u g ws end_of-Arg ∷ k) m → HasRoom program page (f ∷ calls) most → used k + arguments_size ws ≤ most → 0 < end_count k
        → IsCodeAt code m.counter (hands ws) → (t : Machine) × GoesTo code (length (hands ws)) m t × Over ws (4 * length (hands ws)) t
    over_by u g ws hand most x room few some here =
        let ran = hand_over_runs program page code f calls spot.frames (arguments_size ws) (used k) reg.RESULT (end_count k) most m x.frames x.pointer_is x.own some room few (omega arith) here in
        let does = ran.2 in
        (ran.0, ran.1, leaves_say does (handed_over program page code f calls spot.frames ws (used k) (arguments_size ws) _ m ran.0 does (omega arith) x.kept.0))

    -- ---- a call

    -- From behind the arguments a call jumps to the function's word in the table; it comes back to behind its instruction.
    entered : (u : Purpose) (g : ℕ) (ws : List Argument) (hand : Hand) → IsPlain hand → (function : Function ℕ) (l : List Item) (bytes : ℕ) (t : Machine) → slice_get program.functions g ≡ Some function
        → exact hand (arguments u g ws end_of-Arg ∷ k) m → Over ws bytes t → Stands code t.counter (placed t.counter (call g)) → LeadsTo code (coded l) (t.counter + 4)
        → Kept program page l (f ∷ calls) spot.frames h m.words → end_count l ≡ end_count k
        → Turns program form page input code spot left (control (f ∷ calls) account (entering g ws) l) h t
    entered u g ws hand plain function l bytes t is x over there next keeps count =
        let e = compiled.functions g function is in
        let low = e.table.below in
        let a = table_word g in
        let o = pos a -ℤ pos t.counter in
        let v = machine_with t (with_register t.registers reg.RA (follow t.counter)) a in
        let below = there.below in
        let aligned = there.aligned in
        let back : v.registers reg.RA ≡ t.counter + 4 = with_register_same t.registers reg.RA (follow t.counter) refl ∙ follow_is t.counter (omega (arith, below)) in
        let other : (q : ℕ) → (q == reg.RA) ≡ false → v.registers q ≡ t.registers q = λ q differ. with_register_other t.registers reg.RA (follow t.counter) q differ in
        let same : SameRegisters t.registers v.registers = record { zero_is = other reg.ZERO refl; sp = other reg.SP refl; account = other reg.ACCOUNT refl; ticks = other reg.TICKS refl; pointer = other reg.FP refl } in
        let whole : a % 4 ≡ 0 = omega arith in
        let all : SameRegisters m.registers v.registers = same_after (same_leaves refl over) same in
        let counted : spot.returns ≡ backs (end_count l) spot.frames = x.returns_are ∙ plain_backs hand (end_count k) spot.frames m.registers plain ∙ ap (λ n. backs n spot.frames) (sym count) in
        record {
          next = v;
          step = record { instruction = jal reg.RA o; there = there.there; effect = jump_to reg.RA a o t (distance_to t.counter a (omega (arith, low))) whole };
          spot = record { frames = spot.frames; low = spot.low; returns = (t.counter + 4) ∷ spot.returns };
          moves = enters (t.counter + 4) refl;
          links = refl;
          stands = record {
            frames = x.frames;
            may_stand = x.may_stand;
            slots = subst (λ w. Holds program page (f ∷ calls) spot.frames h w) (sym over.words) x.slots;
            kept = subst (λ w. Kept program page l (f ∷ calls) spot.frames h w) (sym over.words) keeps;
            own = subst (λ n. HasOwn program page n (f ∷ calls) spot.frames v.words) (sym count) (subst (λ w. HasOwn program page (end_count k) (f ∷ calls) spot.frames w) (sym over.words) x.own);
            returns_are = ap (λ p. p ∷ spot.returns) (sym back) ∙ ap (λ later. v.registers reg.RA ∷ later) counted;
            zero_is = all.zero_is ∙ x.zero_is;
            low_is = all.sp ∙ x.low_is;
            account_is = all.account ∙ x.account_is;
            left_is = all.ticks ∙ x.left_is;
            pointer_is = all.pointer ∙ x.pointer_is;
            placed = (
              0,
              (
                refl,
                handed_same program page (f ∷ calls) spot.frames t.registers v.registers ws (λ q high. other q (ne_eqb q reg.RA (λ e. omega (arith, e, high)))) over.value,
                ap (λ p. p % 4) back ∙ omega (arith, aligned),
                subst (λ p. p < 2 ^ 30) (sym back) (omega (arith, below)),
                subst (LeadsTo code (coded l)) (sym back) next,
              ),
            );
          };
        }

    -- the arguments, and then the call
    calls_by : (u : Purpose) (g : ℕ) (ws : List Argument) (hand : Hand) → IsPlain hand → (function : Function ℕ) (l : List Item) (more : List Part) (most : ℕ) → slice_get program.functions g ≡ Some function
        → exact hand (arguments u g ws end_of-Arg ∷ k) m → HasRoom program page (f ∷ calls) most → used k + arguments_size ws ≤ most → 0 < end_count k
        → StandsThen code (straight (hands ws) ++ (call g ∷ more)) (coded k) m.counter → ((p : ℕ) → StandsThen code more (coded k) p → LeadsTo code (coded l) p)
        → Kept program page l (f ∷ calls) spot.frames h m.words → end_count l ≡ end_count k
        → (t : Machine) × GoesTo code (length (hands ws)) m t × Turns program form page input code spot left (control (f ∷ calls) account (entering g ws) l) h t
    calls_by u g ws hand plain function l more most is x room few some c next keeps count =
        let both = code_before code (hands ws) (call g) more (coded k) m.counter c in
        let ran = over_by u g ws hand most x room few some both.0 in
        let t = ran.0 in
        let over = ran.2 in
        let here = subst (StandsThen code (call g ∷ more) (coded k)) (sym over.counter) both.1 in
        (t, ran.1, entered u g ws hand plain function l _ t is x over here.0 (next (t.counter + 4) here.1) keeps count)

    called_by : (g : ℕ) (ws : List Argument) (hand : Hand) → IsPlain hand → (function : Function ℕ) (own : Form) (most : ℕ) → slice_get program.functions g ≡ Some function
        → exact hand (arguments called g ws end_of-Arg ∷ k) m → HasRoom program page (f ∷ calls) most → used k + arguments_size ws ≤ most → 0 < end_count k
        → StandsThen code (straight (hands ws) ++ enter_code own slots called g) (coded k) m.counter
        → LeadsFrom program form page input code spot left (f ∷ calls) h (silent (control (f ∷ calls) account (entering g ws) k) h) m
    called_by g ws hand plain function own most is x room few some c =
        let on = calls_by called g ws hand plain function k [] most is x room few some (by_form own c) (λ p c. c) x.kept.1 refl in
        leads_to program form page input code _ on.0 on.1 (turns on.2)
      where
        by_form : (own : Form) → StandsThen code (straight (hands ws) ++ enter_code own slots called g) (coded k) m.counter → StandsThen code (straight (hands ws) ++ (call g ∷ [])) (coded k) m.counter
        by_form Serial c = c
        by_form Cilk c = c

    -- ---- a spawn that is a call

    -- what the call comes back with goes to the destination
    deliver_coded : (x : Option ℕ) (p : ℕ) → StandsThen code (straight (deliver_code slots x)) (coded k) p → coded (deliver (destination_at (length calls) x) ∷ k) p
    deliver_coded None p c = c
    deliver_coded (Some x) p c = c

    serial_by : (x : Option ℕ) (g : ℕ) (ws : List Argument) (hand : Hand) → IsPlain hand → (function : Function ℕ) (most : ℕ) → slice_get program.functions g ≡ Some function → form_here program form (f ∷ calls) ≡ Serial
        → exact hand (arguments (spawned x) g ws end_of-Arg ∷ k) m → HasRoom program page (f ∷ calls) most → used k + arguments_size ws ≤ most → 0 < end_count k
        → StandsThen code (straight (hands ws) ++ enter_code Serial slots (spawned x) g) (coded k) m.counter
        → LeadsFrom program form page input code spot left (f ∷ calls) h (spawn_call (control (f ∷ calls) account hand (arguments (spawned x) g ws end_of-Arg ∷ k)) h g ws (destination_at (length calls) x) k) m
    serial_by x g ws hand plain function most is own y room few some c =
        let to = destination_at (length calls) x in
        let on = calls_by (spawned x) g ws hand plain function (deliver to ∷ k) (straight (deliver_code slots x)) most is y room few some c (λ p c. (0, deliver_coded x p c)) y.kept.1 refl in
        leads_to program form page input code _ on.0 on.1
        (subst (λ own. ArrivesSpawn program form page input code own spot left h (control (f ∷ calls) account (entering g ws) []) (lent_stack h to ws) to (control (f ∷ calls) account idle k) (kept_stack h to ws) on.0) (sym own)
        on.2)

    -- ---- a spawn at its service

    -- behind the arguments: LEFT takes the address of the destination, or 0
    destination_runs : (x : Option ℕ) (n : Machine) → AreFrames program page (f ∷ calls) spot.frames → n.registers reg.ZERO ≡ 0 → n.registers reg.FP ≡ pointer_of spot.frames → FitsDestination slots x
        → IsCodeAt code n.counter (destination_code slots x)
        → (t : Machine) × GoesTo code (length (destination_code slots x)) n t
        × Sets reg.LEFT (destination_address program form page input code (f ∷ calls) spot.frames (destination_at (length calls) x)) (4 * length (destination_code slots x)) n t
    destination_runs None n shape zero_is pointer fits here =
        let below = here.below in load_number_runs code reg.LEFT (pos 0) n refl zero_is (natural_fits 0 (omega arith)) (omega (arith, below)) here.there
    destination_runs (Some x) n shape zero_is pointer fits here =
        let o = slot_offset slots x in
        let off = slot_offset_is program page f calls spot.frames x slot.Scalar shape fits in
        let below = here.below in
        let address : word_address spot.frames (length calls) (word_number slots x 0) ≡ reference_address program page (f ∷ calls) spot.frames (scalar_slice (length calls) x) =
        ap (λ l. word_address spot.frames (length calls) (word_number l x 0)) (sym (slots_top program page f calls)) in
        load_address_runs code reg.LEFT o _ n refl refl (subst (λ p. p < 2 ^ 32) (sym pointer) off.0.fits) off.1 (ap (λ p. offset p o) pointer ∙ off.0.address ∙ address) (omega (arith, below)) here.there

    -- the instructions of a spawn behind its arguments
    abbrev spawning : (x : Option ℕ) (g : ℕ) → List Operation
    spawning x g = load_number reg.VALUE (pos (table_word g)) ++ (destination_code slots x ++ service (pos 4))

    -- The machine t is at the service.
    record AtSpawn (x : Option ℕ) (g : ℕ) (ws : List Argument) (bytes : ℕ) (t : Machine) : Type 0 where
      counter : t.counter + 4 ≡ m.counter + bytes
      serves : Serves program form page input code 4 t
      same : SameRegisters m.registers t.registers
      handed : Handed program page (f ∷ calls) spot.frames t.registers ws
      words : t.words ≡ m.words
      entry : t.registers reg.VALUE ≡ table_word g
      destination : t.registers reg.LEFT ≡ destination_address program form page input code (f ∷ calls) spot.frames (destination_at (length calls) x)

    spawns_runs : (x : Option ℕ) (g : ℕ) (ws : List Argument) (bytes : ℕ) (t : Machine) → AreFrames program page (f ∷ calls) spot.frames → t.registers reg.ZERO ≡ 0 → t.registers reg.FP ≡ pointer_of spot.frames → FitsDestination slots x
        → table_word g < 2 ^ 30 → arguments_size ws ≤ 8 → Over ws bytes t → IsCodeAt code t.counter (spawning x g)
        → (steps : ℕ) × (v : Machine) × GoesTo code steps t v × AtSpawn x g ws (bytes + 4 * length (spawning x g)) v
    spawns_runs x g ws bytes t shape zero_is pointer fits small few over here =
        let a = load_number reg.VALUE (pos (table_word g)) in
        let b = destination_code slots x in
        let c = service (pos 4) in
        let size = length-append a (b ++ c) in
        let sizes = length-append b c in
        let below = here.below in
        let one = load_number_runs code reg.VALUE (pos (table_word g)) t refl zero_is (natural_fits (table_word g) (omega (arith, small))) (omega (arith, below, size, sizes)) (code_front code a (b ++ c) here).there in
        let s = one.0 in
        let does = one.2 in
        let place_s = does.counter in
        let here_s = code_back code a (b ++ c) place_s here in
        let two = destination_runs x s shape (does.kept reg.ZERO refl ∙ zero_is) (does.kept reg.FP refl ∙ pointer) fits (code_front code b c here_s) in
        let u = two.0 in
        let sets = two.2 in
        let place_u = sets.counter in
        let three = service_runs code 4 u (omega arith) (sets.kept reg.ZERO refl ∙ does.kept reg.ZERO refl ∙ zero_is) (code_back code b c place_u here_s) in
        let v = three.0 in
        let serves = three.2 in
        let place_v = serves.counter in
        let start = over.counter in (
          length a + length b + 1,
          v,
          comes_on code (length a + length b) 1 t u v (comes_on code (length a) (length b) t s u one.1 two.1) three.1,
          record {
            counter = ended m.counter bytes t.counter s.counter u.counter v.counter (length a) (length b) (length (a ++ (b ++ c))) (length (b ++ c)) start place_s place_u place_v size sizes;
            serves = record { there = three.3; number_is = serves.value };
            same = same_after (same_leaves refl over) (same_after (same_after (same_leaves refl does) (same_leaves refl sets)) (same_leaves refl serves));
            handed = handed_within program page (f ∷ calls) spot.frames t.registers v.registers ws 8 few
                (λ q high low. serves.kept q (ne_eqb q reg.SERVICE (λ e. omega (arith, e, low))) ∙ sets.kept q (ne_eqb q reg.LEFT (λ e. omega (arith, e, high))) ∙ does.kept q (ne_eqb q reg.VALUE (λ e. omega (arith, e, high)))) over.value;
            words = serves.words ∙ sets.words ∙ does.words ∙ over.words;
            entry = serves.kept reg.VALUE refl ∙ sets.kept reg.VALUE refl ∙ does.value;
            destination = serves.kept reg.LEFT refl ∙ sets.value;
          },
        )
      where
        ended : (p n t s u v a b all two : ℕ) → t ≡ p + n → s ≡ t + 4 * a → u ≡ s + 4 * b → v ≡ u + 4 → all ≡ a + two → two ≡ b + 2 → v + 4 ≡ p + (n + 4 * all)
        ended p n t s u v a b all two e f g h i j = omega (arith, e, f, g, h, i, j)

    -- what is said of that machine
    spawns_at : (x : Option ℕ) (g : ℕ) (ws : List Argument) (hand : Hand) → IsPlain hand → (bytes : ℕ) (t : Machine) → exact hand (arguments (spawned x) g ws end_of-Arg ∷ k) m → RestFits program page k (f ∷ calls) → arguments_size ws ≤ 8
        → AtSpawn x g ws bytes t → LeadsTo code (coded k) (m.counter + bytes)
        → let to = destination_at (length calls) x in
        Spawns program form page input code spot left (control (f ∷ calls) account (entering g ws) []) (lent_stack h to ws) to (control (f ∷ calls) account idle k) (kept_stack h to ws) t
    spawns_at x g ws hand plain bytes t y fits few at next =
        let to = destination_at (length calls) x in record {
          serves = at.serves;
          destination = at.destination;
          child_stands = record {
            frames = y.frames;
            may_stand = y.may_stand;
            slots = subst (λ w. Holds program page (f ∷ calls) spot.frames (lent_stack h to ws) w) (sym at.words) (holds_lent program page (f ∷ calls) spot.frames h to ws m.words y.slots);
            kept = tt;
            own = λ d n deep last some most number. absurd (omega (arith, deep, last));
            returns_are = refl;
            zero_is = at.same.zero_is ∙ y.zero_is;
            low_is = at.same.sp ∙ y.low_is;
            account_is = at.same.account ∙ y.account_is;
            left_is = at.same.ticks ∙ y.left_is;
            pointer_is = at.same.pointer ∙ y.pointer_is;
            placed = (
              0,
              (
                at.entry,
                handed_same program page (f ∷ calls) spot.frames t.registers (child_machine t).registers ws (λ q high. let e : (q == reg.RA) ≡ false = ne_eqb q reg.RA (λ e. omega (arith, e, high)) in rw e refl) at.handed,
                refl,
                omega arith,
                (0, (refl, compiled.ending)),
              ),
            );
          };
          goes_on = exact_with program form page input code y plain idle tt k (kept_stack h to ws) (passed t) at.same refl
              (subst (λ w. Holds program page (f ∷ calls) spot.frames (kept_stack h to ws) w) (sym at.words) (holds_kept program page (f ∷ calls) spot.frames h to ws m.words y.slots))
              (subst (λ w. Kept program page k (f ∷ calls) spot.frames (kept_stack h to ws) w) (sym at.words) (write.kept_stack program page k (f ∷ calls) spot.frames h (kept_stack h to ws) m.words fits y.frames refl y.kept.1))
              (subst (λ w. HasOwn program page (end_count k) (f ∷ calls) spot.frames w) (sym at.words) y.own)
              (subst (LeadsTo code (coded k)) (sym at.counter) next);
        }

    cilk_by : (x : Option ℕ) (g : ℕ) (ws : List Argument) (hand : Hand) → IsPlain hand → (function : Function ℕ) (most : ℕ) → slice_get program.functions g ≡ Some function → form_here program form (f ∷ calls) ≡ Cilk
        → FitsDestination slots x → RestFits program page k (f ∷ calls) → arguments_size ws ≤ 8
        → exact hand (arguments (spawned x) g ws end_of-Arg ∷ k) m → HasRoom program page (f ∷ calls) most → used k + arguments_size ws ≤ most → 0 < end_count k
        → StandsThen code (straight (hands ws) ++ enter_code Cilk slots (spawned x) g) (coded k) m.counter
        → LeadsFrom program form page input code spot left (f ∷ calls) h (spawn_call (control (f ∷ calls) account hand (arguments (spawned x) g ws end_of-Arg ∷ k)) h g ws (destination_at (length calls) x) k) m
    cilk_by x g ws hand plain function most is own kind fits short y room few some c =
        let to = destination_at (length calls) x in
        let a = hands ws in
        let b = spawning x g in
        let all = a ++ b in
        let c = subst (λ l. StandsThen code l (coded k) m.counter) (sym (straight_append a b)) c in
        let size = length-append a b in
        let number_some = load_number_some reg.VALUE (pos (table_word g)) in
        let number_size = length-append (load_number reg.VALUE (pos (table_word g))) (destination_code slots x ++ service (pos 4)) in
        let here = code_at code all (coded k) m.counter (omega (arith, size, number_some, number_size)) c in
        let e = compiled.functions g function is in
        let low = e.table.below in
        let ran = over_by (spawned x) g ws hand most y room few some (code_front code a b here) in
        let t = ran.0 in
        let over = ran.2 in
        let on = spawns_runs x g ws (4 * length a) t y.frames (over.kept reg.ZERO refl ∙ y.zero_is) (over.kept reg.FP refl ∙ y.pointer_is) kind (omega (arith, low)) short over (code_back code a b over.counter here) in
        let bytes : 4 * length all ≡ 4 * length a + 4 * length b = omega (arith, size) in
        leads_to program form page input code (length a + on.0) on.1 (comes_on code (length a) on.0 m t on.1 ran.1 on.2)
        (subst (λ own. ArrivesSpawn program form page input code own spot left h (control (f ∷ calls) account (entering g ws) []) (lent_stack h to ws) to (control (f ∷ calls) account idle k) (kept_stack h to ws) on.1) (sym own)
        (spawns_at x g ws hand plain (4 * length a + 4 * length b) on.1 y fits short on.3 (subst (λ n. LeadsTo code (coded k) (m.counter + n)) bytes (straight_end code all (coded k) m.counter c))))

    spawned_by : (x : Option ℕ) (g : ℕ) (ws : List Argument) (hand : Hand) → IsPlain hand → (function : Function ℕ) (own : Form) (most : ℕ) → slice_get program.functions g ≡ Some function → form_here program form (f ∷ calls) ≡ own
        → FitsDestination slots x → RestFits program page k (f ∷ calls) → arguments_size ws ≤ 8
        → exact hand (arguments (spawned x) g ws end_of-Arg ∷ k) m → HasRoom program page (f ∷ calls) most → used k + arguments_size ws ≤ most → 0 < end_count k
        → StandsThen code (straight (hands ws) ++ enter_code own slots (spawned x) g) (coded k) m.counter
        → LeadsFrom program form page input code spot left (f ∷ calls) h (spawn_call (control (f ∷ calls) account hand (arguments (spawned x) g ws end_of-Arg ∷ k)) h g ws (destination_at (length calls) x) k) m
    spawned_by x g ws hand plain function Serial most is own kind fits short y room few some c = serial_by x g ws hand plain function most is own y room few some c
    spawned_by x g ws hand plain function Cilk most is own kind fits short y room few some c = cilk_by x g ws hand plain function most is own kind fits short y room few some c

    -- all arguments are known: by what they are for
    enter_by : (u : Purpose) (g : ℕ) (ws : List Argument) (hand : Hand) → IsPlain hand → (function : Function ℕ) (most : ℕ) → slice_get program.functions g ≡ Some function
        → FitsPurpose slots u → RestFits program page k (f ∷ calls) → arguments_size ws ≤ 8
        → exact hand (arguments u g ws end_of-Arg ∷ k) m → HasRoom program page (f ∷ calls) most → used k + arguments_size ws ≤ most → 0 < end_count k
        → StandsThen code (straight (hands ws) ++ enter_code (form_here program form (f ∷ calls)) slots u g) (coded k) m.counter
        → LeadsFrom program form page input code spot left (f ∷ calls) h (enter_call (control (f ∷ calls) account hand (arguments u g ws end_of-Arg ∷ k)) h u g ws k) m
    enter_by called g ws hand plain function most is kind fits short y room few some c = called_by g ws hand plain function (form_here program form (f ∷ calls)) most is y room few some c
    enter_by (spawned None) g ws hand plain function most is kind fits short y room few some c =
        spawned_by None g ws hand plain function (form_here program form (f ∷ calls)) most is refl kind fits short y room few some c
    enter_by (spawned (Some x)) g ws hand plain function most is kind fits short y room few some c =
        by_held program form page input code (h.words (length calls) x 0) _ (λ held. spawned_by (Some x) g ws hand plain function (form_here program form (f ∷ calls)) most is refl kind fits short y room few some c)

  -- ---- the law

  -- the function that is called is in the program
  some_function : (found : Option (Function ℕ)) → GivesWanted false found → (function : Function ℕ) × (found ≡ Some function)
  some_function None gives = absurd gives
  some_function (Some function) gives = (function, refl)

  -- behind the arguments
  pub enter_law : (u : Purpose) (g : ℕ) (ws : List Argument) (spot : Spot) (left : ℕ) (calls : List ℕ) (account : ℕ) (hand : Hand) (k : List Item) (h : Stack) (m : Machine) → IsSoundProgram program → IsPlain hand
      → Formed program page limit (control calls account hand (arguments u g ws end_of-Arg ∷ k)) h
      → ExactAt program form page input code spot left (control calls account hand (arguments u g ws end_of-Arg ∷ k)) h m
      → Placed program form page input code hand (arguments u g ws end_of-Arg ∷ k) calls spot.frames m.registers m.counter
      → LeadsFrom program form page input code spot left calls h (item_step program page input (control calls account hand (arguments u g ws end_of-Arg ∷ k)) h (arguments u g ws end_of-Arg) k) m
  enter_law u g ws spot left [] account hand k h m sound none formed x here = absurd formed.fits.0.0
  enter_law u g ws spot left (f ∷ calls) account hand k h m sound none formed x here =
      let j = used k + arguments_size ws in
      let most = le-max_left (j + 0) j in
      let o = opened program page limit (f ∷ calls) account hand (arguments u g ws end_of-Arg) k h none tt formed in
      let callee = some_function (slice_get program.functions g) o.inner.1.0 in
      let fit = subst (λ found. FitParameters program o.whole (o.f ∷ o.callers) ws (parameters_in found)) callee.1 o.inner.1.1 in
      enter_by spot left f calls account k h m u g ws hand none callee.0 _ callee.1
      (subst (λ l. FitsPurpose l u) (sym (slots_are program page limit o)) o.inner.0) formed.fits.1 (arguments_few program sound g callee.0 callee.1 o.whole (o.f ∷ o.callers) ws fit) x formed.fits.0.0 (omega (arith, most))
      (some_end program page limit (f ∷ calls) account hand (arguments u g ws end_of-Arg) k h none tt formed)
      (coded_of program form page limit input code hand (arguments u g ws end_of-Arg ∷ k) (f ∷ calls) spot.frames m.registers m.counter none here)

  -- the arguments of a call
  pub arguments_law : (u : Purpose) (g : ℕ) (ws : List Argument) {n : _} (row : Row_of-Arg ℕ n) (spot : Spot) (left : ℕ) (calls : List ℕ) (account : ℕ) (hand : Hand) (k : List Item) (h : Stack) (m : Machine) → IsSoundProgram program
      → IsPlain hand
      → Formed program page limit (control calls account hand (arguments u g ws row ∷ k)) h
      → ExactAt program form page input code spot left (control calls account hand (arguments u g ws row ∷ k)) h m
      → Placed program form page input code hand (arguments u g ws row ∷ k) calls spot.frames m.registers m.counter
      → LeadsFrom program form page input code spot left calls h (item_step program page input (control calls account hand (arguments u g ws row ∷ k)) h (arguments u g ws row) k) m
  arguments_law u g ws end_of-Arg spot left calls account hand k h m sound none formed x here = enter_law u g ws spot left calls account hand k h m sound none formed x here
  arguments_law u g ws (more_of-Arg first more) spot left calls account hand k h m sound none formed x here =
      argument_law program form page limit input code u g ws first more spot left calls account hand k h m none formed x here
