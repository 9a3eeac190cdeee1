-- Between two instructions: what is ahead of a machine that stands for a state. From there both laws follow, of the next
-- instruction and of the service.
use Rattle.std.proofs.Common.{◌≡◌, ℕ, zero, suc, ◌^◌, ◌<◌, List, ◌∷◌, ◌++◌, length, refl, sym, ap, ◌∙◌, subst, arith, inl, inr}
use Rattle.std.proofs.lemmas.Option.{same_Some}
use Rattle.std.specs.Prelude.{◌⊎◌, ℤ, pos}
use Rattle.cm_isa.specs.declared.convention.TheConstants as reg
use Rattle.cm_isa.specs.Operation.{Operation, ecall}
use Rattle.cm_isa.specs.Machine.{Machine, Code, StepsTo, machine_after, reads}
use Rattle.cm_isa.proofs.Run.{call_is_no_step}
use Rattle.cm_syntax.specs.declared.stmt.Program.{Program}
use Rattle.cm_syntax.specs.Trap as kind
use Rattle.cm_syntax.specs.Label.{silent, ticks, prints, spawns, syncs, traps, ends, stuck}
use Rattle.cm_syntax.specs.Stack.{Stack}
use Rattle.cm_syntax.specs.Rest.{Item, deliver, Control}
use Rattle.cm_syntax.specs.Step.{Move, step, inside}
use Rattle.cm_meaning.specs.Activation.{end_count}
use Rattle.cm_meaning.specs.Weight.{weight}
use Rattle.cm_meaning.specs.Law.{LowersWeight}
use Rattle.cm_meaning.specs.Shift as shift
use Rattle.cm_meaning.specs.Shift.{Shifts, ShiftsCalls}
use Rattle.cm_gen.specs.declared.form.Form.{Form}
use Rattle.cm_gen.specs.declared.form.Form.TheVariants.{Serial, Cilk}
use Rattle.cm_gen.specs.Assembler.{sw}
use Rattle.cm_gen.specs.Returns.{plain, link_of, Links, GoesTo}
use Rattle.cm_gen.specs.Standing.{Frame, IsCompiled, form_here}
use Rattle.cm_gen.specs.FrameWord.{AreFrames}
use Rattle.cm_gen.specs.Formed.{Formed, KeepsFormed}
use Rattle.cm_gen.specs.StandsFor.{Spot, Moves, stays, enters, comes, goes, AreMapped, ExactAt, ExactFrom, Traps, Reply, Comes, stands, turns, hears, opens, Reaches, Turns, ArrivesSpawn, ArrivesSync, Arrives, LeadsFrom}
use Rattle.cm_gen.specs.Moment.{InStep, both_stay, both_come, both_go, Shift, StandsFor, Passes, here, quiet, tick, call, join, MapsFrame, GoesOn, AtService, at_print, at_reply, at_spawn, at_sync, at_spent, at_trap, at_end, Settles}
use Rattle.cm_gen.proofs.frames.FrameWordLaw.{lengths}

-- ---- calls and frames

module _ (program : Program) (page : ℕ) where
  -- as many calls are the same calls
  calls_stay : (c d : Control) → length d.calls ≡ length c.calls → Shifts c d → d.calls ≡ c.calls
  calls_stay c d many (shift.stays s) = s.0
  calls_stay c d many (shift.comes f ws q l n) = let a = ap length l in absurd (omega (arith, many, a))
  calls_stay c d many (shift.goes f l n) = let a = ap length l in absurd (omega (arith, many, a))

  -- calls and frames go together
  in_step : (old new : Spot) (c d : Control) → AreFrames program page c.calls old.frames → AreFrames program page d.calls new.frames → Moves old new → Shifts c d
      → InStep c.calls old.frames d.calls new.frames
  in_step old new c d were are moves shifts = by moves
    where
      many : length c.calls ≡ length old.frames
      many = lengths program page c.calls old.frames were

      later : length d.calls ≡ length new.frames
      later = lengths program page d.calls new.frames are

      same : new.frames ≡ old.frames → InStep c.calls old.frames d.calls new.frames
      same e = let n = ap length e in both_stay (calls_stay c d (omega (arith, many, later, n)) shifts) e

      one_more : (F : Frame) → new.frames ≡ F ∷ old.frames → Shifts c d → InStep c.calls old.frames d.calls new.frames
      one_more F e (shift.stays s) = let n = ap length e in let l = ap length s.0 in absurd (omega (arith, many, later, n, l))
      one_more F e (shift.comes f ws q l k) = both_come f F l e
      one_more F e (shift.goes f l k) = let n = ap length e in let a = ap length l in absurd (omega (arith, many, later, n, a))

      one_less : (F : Frame) → old.frames ≡ F ∷ new.frames → Shifts c d → InStep c.calls old.frames d.calls new.frames
      one_less F e (shift.stays s) = let n = ap length e in let l = ap length s.0 in absurd (omega (arith, many, later, n, l))
      one_less F e (shift.comes f ws q l k) = let n = ap length e in let a = ap length l in absurd (omega (arith, many, later, n, a))
      one_less F e (shift.goes f l k) = both_go f F l e

      by : Moves old new → InStep c.calls old.frames d.calls new.frames
      by (stays e) = same (ap (λ (s : Spot). s.frames) e)
      by (enters p e) = same (ap (λ (s : Spot). s.frames) e)
      by (comes F e a r) = one_more F e shifts
      by (goes F e a r) = one_less F e shifts

-- ---- what is ahead

module _ (program : Program) (form : Form) (page limit : ℕ) (input : List ℤ) (code : Code) (compiled : IsCompiled program form page code)
    (takes : (spot : Spot) (left : ℕ) (c : Control) (h : Stack) (m : Machine) → left < 2 ^ 32 → Formed program page limit c h → ExactAt program form page input code spot left c h m
    → LeadsFrom program form page input code spot left c.calls h (step program page input c h) m)
    (keeps : (c : Control) (h : Stack) → Formed program page limit c h → KeepsFormed program page limit h (step program page input c h))
    (lowers : (c : Control) (h : Stack) → LowersWeight program c (step program page input c h))
    (shifted : (c : Control) (h : Stack) → ShiftsCalls c (step program page input c h))
  where
    abbrev exact : Spot → (left : ℕ) → Control → Stack → Machine → Type 0
    exact = ExactAt program form page input code

    abbrev passes : Spot → (left : ℕ) → Control → Stack → Spot → (later : ℕ) → Control → Stack → Type 0
    passes = Passes program form page input

    -- What is ahead of a machine in the next step of its state: an instruction that neither calls nor goes back, with which it
    -- stands for the same state; the last instruction of a call or a return; a service; or nothing, where no rule has the state.
    data Ahead (spot : Spot) (left : ℕ) (c : Control) (h : Stack) (m : Machine) : Type 0 where
      goes_by : (next : Machine) (s : StepsTo code m next) → link_of s.instruction ≡ plain
          → LeadsFrom program form page input code spot left c.calls h (step program page input c h) next → Ahead spot left c h m
      turns_to : (d : Control) (g : Stack) (t : Turns program form page input code spot left d g m) → passes spot left c h t.spot left d g → Ahead spot left c h m
      serves : code m.counter ecall → AtService program form page input code spot left c h m → Ahead spot left c h m
      nothing : step program page input c h ≡ stuck → Ahead spot left c h m

    -- it passes to that state by no instruction
    record Finds (old : Spot) (left : ℕ) (c : Control) (h : Stack) (m : Machine) : Type 0 where
      spot : Spot
      later : ℕ
      to : Control
      held : Stack
      passes_to : passes old left c h spot later to held
      frames : AreFrames program page to.calls spot.frames
      returns : spot.returns ≡ old.returns
      ahead : Ahead spot later to held m

    -- two steps from one machine lead to one machine
    one_next : (m a b : Machine) → StepsTo code m a → StepsTo code m b → a ≡ b
    one_next m a b s t = same_Some a b (sym s.effect ∙ ap (λ i. machine_after i m) (compiled.one m.counter s.instruction t.instruction s.there t.there) ∙ t.effect)

    -- what is to be shown of the states that stand exactly
    abbrev At : (left : ℕ) → Control → Stack → Type 0
    At left c h = (spot : Spot) (m : Machine) → Formed program page limit c h → exact spot left c h m → Finds spot left c h m

    abbrev Fewer : (left : ℕ) → Type 0
    Fewer left = (l : ℕ) → left ≡ suc l → (d : Control) (g : Stack) → At l d g

    abbrev Lighter : (left bound : ℕ) → Type 0
    Lighter left bound = (d : Control) (g : Stack) → weight program d < bound → At left d g

    -- this is ahead of the machine in the state itself
    at : (spot : Spot) (left : ℕ) (c : Control) (h : Stack) (m : Machine) → AreFrames program page c.calls spot.frames → Ahead spot left c h m → Finds spot left c h m
    at spot left c h m shape x = record { spot = spot; later = left; to = c; held = h; passes_to = here; frames = shape; returns = refl; ahead = x }

    -- a state is passed
    behind : (old middle : Spot) (left later : ℕ) (c d : Control) (h g : Stack) (m : Machine) → middle.returns ≡ old.returns
        → ((new : Spot) (l : ℕ) (e : Control) (k : Stack) → passes middle later d g new l e k → passes old left c h new l e k)
        → Finds middle later d g m → Finds old left c h m
    behind old middle left later c d h g m same one on = record {
      spot = on.spot;
      later = on.later;
      to = on.to;
      held = on.held;
      passes_to = one on.spot on.later on.to on.held on.passes_to;
      frames = on.frames;
      returns = on.returns ∙ same;
      ahead = on.ahead;
    }

    trap_there : (k : kind.Trap) (m : Machine) → Traps program form page input code k m → code m.counter ecall
    trap_there kind.Divide m x = x.there
    trap_there kind.Index m x = x.there
    trap_there kind.Stack m x = x.there
    trap_there kind.Input m x = x.0.there

    reply_there : (n : ℕ) (m : Machine) → Reply program form page input code m n → code m.counter ecall
    reply_there n m (inl x) = x.0.there
    reply_there n m (inr x) = x.0.there

    -- no instruction of a step is left: it has arrived
    arrived : (left : ℕ) (c : Control) (h : Stack) (m : Machine) (old : Spot) (move : Move) → step program page input c h ≡ move → LowersWeight program c move → ShiftsCalls c move
        → KeepsFormed program page limit h move → AreFrames program page c.calls old.frames → Fewer left → Lighter left (weight program c) → MapsFrame program form page input code old m
        → Arrives program form page input code old left c.calls h move m → Finds old left c h m
    arrived left c h m old (silent d g) is less shifts formed shape fewer lighter maps x = by x
      where
        moved : (spot : Spot) → Moves old spot → AreFrames program page d.calls spot.frames → Shift old spot c d
        moved spot moves are = record { moves = moves; in_step = in_step program page old spot c d shape are moves shifts }

        stood : ExactFrom program form page input code old left d g m → Finds old left c h m
        stood x = behind old x.0 left left c d h g m x.2 (λ new l e k p. quiet is (moved x.0 x.1 x.3.frames) p) (lighter d g less x.0 m formed x.3)

        opened : (r : Reaches program form page input code old left d g m) → (n : ℕ) → GoesTo code n m r.last → Finds old left c h m
        opened r zero e = stood (r.stands.0, r.stands.1, r.stands.2, subst (λ t. exact r.stands.0 left d g t) (sym e) r.stands.3)
        opened r (suc n) e = at old left c h m shape (goes_by e.0 e.1 e.2 (
            subst (λ move. LeadsFrom program form page input code old left c.calls h move e.0) (sym is) (record { count = n; last = r.last; goes_to = e.3; arrives = stands r.stands })
            ))

        by : Comes program form page input code old left d g m → Finds old left c h m
        by (stands x) = stood x
        by (turns t) = at old left c h m shape (turns_to d g t (quiet is (moved t.spot t.moves t.stands.frames) here))
        by (hears n reply x) = at old left c h m shape (serves (reply_there n m reply) (
            at_reply n d g is reply (calls_stay program page c d (lengths program page d.calls old.frames x.frames ∙ sym (lengths program page c.calls old.frames shape)) shifts) x
            ))
        by (opens f calls calls_are frames may x) =
            let r = x.goes_on m.words (record { keeps_writable = λ a v e. e; keeps_readable = λ a v e. ap (λ s. reads s) e }) (
            subst (λ a. AreMapped a old.low m.words) x.low_end (maps x.store.there)
            ) in
            opened r r.count r.goes_to
    arrived zero c h m old (ticks d g) is less shifts formed shape fewer lighter maps x = at old zero c h m shape (serves x.0.there (at_spent d g is refl x.0 x.1))
    arrived (suc left) c h m old (ticks d g) is less shifts formed shape fewer lighter maps x =
        behind old old (suc left) left c d h g m refl (λ new l e k p. tick is shifts.0 p) (fewer left refl d g old m formed x)
    arrived left c h m old (prints v d g) is less shifts formed shape fewer lighter maps x = at old left c h m shape (serves x.0.there (at_print v d g is x.0 x.1 x.3 shifts.0 x.2))
    arrived left c h m old (spawns child lent x d kept) is less shifts formed shape fewer lighter maps arrives = by (form_here program form c.calls) refl arrives
      where
        nested : Shifts c (inside child x d)
        nested = shift.stays (shifts.1, ap (λ (r : List Item). end_count (r ++ (deliver x ∷ d.rest))) shifts.2 ∙ shifts.0.1)

        by : (own : Form) → form_here program form c.calls ≡ own → ArrivesSpawn program form page input code own old left h child lent x d kept m → Finds old left c h m
        by Serial own t = at old left c h m shape (
            turns_to (inside child x d) h t (call own is (record { moves = t.moves; in_step = in_step program page old t.spot c (inside child x d) shape t.stands.frames t.moves nested }) here)
            )
        by Cilk own y = at old left c h m shape (serves y.serves.there (at_spawn child lent x d kept is own shifts.0.0 y))
    arrived left c h m old (syncs d) is less shifts formed shape fewer lighter maps arrives = by (form_here program form c.calls) refl arrives
      where
        by : (own : Form) → form_here program form c.calls ≡ own → ArrivesSync program form page input code own old left h d m → Finds old left c h m
        by Serial own y = behind old old left left c d h h m refl (λ new l e k p. join own is shifts.0 p) (lighter d h less old m formed y)
        by Cilk own y = at old left c h m shape (serves y.0.there (at_sync d is own y.0 shifts.0 y.1))
    arrived left c h m old (traps k) is less shifts formed shape fewer lighter maps x = at old left c h m shape (serves (trap_there k m x.0) (at_trap k is x.0 x.1))
    arrived left c h m old (ends v) is less shifts formed shape fewer lighter maps x = at old left c h m shape (serves x.0.there (at_end v is x.0 x.1 x.2 x.3))
    arrived left c h m old stuck is less shifts formed shape fewer lighter maps x = at old left c h m shape (nothing is)

    -- within the instructions of a step
    within_step : (left : ℕ) (c : Control) (h : Stack) (m : Machine) (old : Spot) → Formed program page limit c h → AreFrames program page c.calls old.frames → Fewer left → Lighter left (weight program c)
        → MapsFrame program form page input code old m → LeadsFrom program form page input code old left c.calls h (step program page input c h) m → Finds old left c h m
    within_step left c h m old formed shape fewer lighter maps leads = by leads.count leads.goes_to
      where
        by : (n : ℕ) → GoesTo code n m leads.last → Finds old left c h m
        by zero e = arrived left c h m old (step program page input c h) refl (lowers c h) (shifted c h) (keeps c h formed) shape fewer lighter maps
            (subst (λ t. Arrives program form page input code old left c.calls h (step program page input c h) t) (sym e) leads.arrives)
        by (suc n) e = at old left c h m shape (goes_by e.0 e.1 e.2 (record { count = n; last = leads.last; goes_to = e.3; arrives = leads.arrives }))

    -- by the ticks that are left, and then by the weight of the state; where the stack pointer is at the next frame's place
    -- nothing has to be mapped
    lighter : (left bound : ℕ) → left < 2 ^ 32 → Fewer left → Lighter left bound
    lighter left zero small fewer c h less spot m formed x = absurd (omega (arith, less))
    lighter left (suc bound) small fewer c h less spot m formed x =
        within_step left c h m spot formed x.frames fewer (λ d g l. lighter left bound small fewer d g (omega (arith, l, less)))
        (λ there a aligned from to. let e = x.low_is in absurd (omega (arith, from, to, e))) (takes spot left c h m small formed x)

    exactly : (left : ℕ) → left < 2 ^ 32 → (c : Control) (h : Stack) → At left c h
    exactly zero small c h = lighter zero (suc (weight program c)) small (λ l e. absurd (omega (arith, e))) c h (omega arith)
    exactly (suc left) small c h =
        lighter (suc left) (suc (weight program c)) small (λ l e. subst (λ n. (d : Control) (g : Stack) → At n d g) (omega (arith, e)) (exactly left (omega (arith, small)))) c h (omega arith)

    finds : (left : ℕ) (c : Control) (h : Stack) (spot : Spot) (m : Machine) → left < 2 ^ 32 → Formed program page limit c h → AreFrames program page c.calls spot.frames
        → StandsFor program form page input code spot left c h m → MapsFrame program form page input code spot m → Finds spot left c h m
    finds left c h spot m small formed shape (inl x) maps = exactly left small c h spot m formed x
    finds left c h spot m small formed shape (inr leads) maps = within_step left c h m spot formed shape (earlier left small) (λ d g l. exactly left small d g) maps leads
      where
        earlier : (left : ℕ) → left < 2 ^ 32 → Fewer left
        earlier left small l e = exactly l (omega (arith, small, e))

    -- ---- the laws

    -- one passing after another
    after : {a : Spot} {b : Spot} {n : Spot} {l : ℕ} {k : ℕ} {i : ℕ} {c : Control} {d : Control} {e : Control} {h : Stack} {g : Stack} {f : Stack} → passes a l c h b k d g → passes b k d g n i e f → passes a l c h n i e f
    after here q = q
    after (quiet e s p) q = quiet e s (after p q)
    after (tick e s p) q = tick e s (after p q)
    after (call o e s p) q = call o e s (after p q)
    after (join o e s p) q = join o e s (after p q)

    -- behind the next instruction
    pub moment : (left : ℕ) (c : Control) (h : Stack) (spot : Spot) (m next : Machine) → left < 2 ^ 32 → Formed program page limit c h → AreFrames program page c.calls spot.frames
        → StandsFor program form page input code spot left c h m → MapsFrame program form page input code spot m → StepsTo code m next → GoesOn program form page input code spot left c h m next
    moment left c h old m next small formed shape y maps steps = let x = finds left c h old m small formed shape y maps in by x x.ahead
      where
        by : (x : Finds old left c h m) → Ahead x.spot x.later x.to x.held m → GoesOn program form page input code old left c h m next
        by x (goes_by n s is_plain leads) = record {
          spot = x.spot;
          later = x.later;
          to = x.to;
          held = x.held;
          passes = x.passes_to;
          frames = x.frames;
          stands_for = inl (
            inr (subst (λ t. LeadsFrom program form page input code x.spot x.later x.to.calls x.held (step program page input x.to x.held) t) (one_next m n next s steps) leads),
            λ z. subst (λ l. Links l m next old.returns x.spot.returns) (sym (ap link_of (compiled.one m.counter z.instruction s.instruction z.there s.there) ∙ is_plain)) x.returns,
          );
        }
        by x (turns_to d g t one) =
            let same = one_next m t.next next t.step steps in record {
              spot = t.spot;
              later = x.later;
              to = d;
              held = g;
              passes = after x.passes_to one;
              frames = t.stands.frames;
              stands_for = inl (
                inl (subst (λ q. exact t.spot x.later d g q) same t.stands),
                λ z. subst (λ i. Links (link_of i) m next old.returns t.spot.returns) (compiled.one m.counter t.step.instruction z.instruction t.step.there z.there)
                    (subst (λ r. Links (link_of t.step.instruction) m next r t.spot.returns) x.returns
                    (subst (λ q. Links (link_of t.step.instruction) m q x.spot.returns t.spot.returns) same t.links)),
              );
            }
        by x (serves there y) = absurd (call_is_no_step code compiled.one m next steps there)
        by x (nothing e) = record { spot = x.spot; later = x.later; to = x.to; held = x.held; passes = x.passes_to; frames = x.frames; stands_for = inr e }

    -- at a service
    pub settles : (left : ℕ) (c : Control) (h : Stack) (spot : Spot) (m : Machine) → left < 2 ^ 32 → Formed program page limit c h → AreFrames program page c.calls spot.frames
        → StandsFor program form page input code spot left c h m → code m.counter ecall → Settles program form page input code spot left c h m
    settles left c h old m small formed shape y asks =
        let x = finds left c h old m small formed shape y (λ store. absurd (no_store (compiled.one m.counter (sw reg.ZERO reg.SP (pos 0)) ecall store asks))) in
        record { spot = x.spot; later = x.later; to = x.to; held = x.held; passes = x.passes_to; frames = x.frames; returns = x.returns; service = by x x.ahead }
      where
        no_store : sw reg.ZERO reg.SP (pos 0) ≡ ecall → ⊥
        no_store e = let n : reg.SP ≡ 0 = ap (λ (i : Operation). i.rs1) e in omega (arith, n)

        by : (x : Finds old left c h m) → Ahead x.spot x.later x.to x.held m → AtService program form page input code x.spot x.later x.to x.held m ⊎ (step program page input x.to x.held ≡ stuck)
        by x (goes_by n s is_plain leads) = absurd (call_is_no_step code compiled.one m n s asks)
        by x (turns_to d g t one) = absurd (call_is_no_step code compiled.one m t.next t.step asks)
        by x (serves there y) = inl y
        by x (nothing e) = inr e
