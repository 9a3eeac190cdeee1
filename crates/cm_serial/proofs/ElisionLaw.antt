-- The run of an image is the elision of its program: from a machine that stands for a state, the steps of the elision are
-- followed to its end.
use Rattle.std.proofs.Common.{◌≡◌, ℕ, zero, suc, ◌+◌, ◌-◌, ◌*◌, ◌%◌, ◌^◌, ◌<◌, ◌≤◌, List, [], ◌∷◌, ◌++◌, length, Option, None, Some, refl, sym, ap, ◌∙◌, subst, arith, inl, inr}
use Rattle.std.proofs.lemmas.Bool.{ltb-false}
use Rattle.std.proofs.lemmas.Int.{ints, to_z-of_z}
use Rattle.std.proofs.lemmas.List.{append-nil, append_assoc}
use Rattle.std.proofs.lemmas.Option.{none-some, same_Some, slice_get_past}
use Rattle.std.specs.Prelude.{⊤, Bool, true, false, if◌then◌else◌, ◌==◌, ℤ, pos, negsuc, FitsSigned, is_some, slice_get}
use Rattle.std.specs.Int.{w32, cast_signed}
use Rattle.cm_isa.specs.Action.{action_at, follow}
use Rattle.cm_isa.specs.Effect.{action_change}
use Rattle.cm_isa.specs.Machine.{Machine, Mapped, writable, reads, readable_words, writable_words, IsWritable, Code, StepsTo, with_write, mapped_cell, next_machine}
use Rattle.cm_isa.specs.Operation.{ecall}
use Rattle.cm_isa.specs.Run.{ComesTo, replied_machine}
use Rattle.cm_isa.specs.declared.convention.TheConstants as reg
use Rattle.cm_isa.specs.declared.execution.Next.{Next}
use Rattle.cm_isa.specs.declared.execution.Next.TheVariants.{At, Service, PageFault, Fault}
use Rattle.cm_syntax.specs.declared.stmt.Function.{Function}
use Rattle.cm_syntax.specs.declared.stmt.Program.{Program}
use Rattle.cm_syntax.specs.Trap as kind
use Rattle.cm_syntax.specs.Label.{silent, ticks, prints, spawns, syncs, traps, ends, stuck}
use Rattle.cm_syntax.specs.Stack.{Stack, Destination}
use Rattle.cm_syntax.specs.Rest.{Control}
use Rattle.cm_syntax.specs.Step.{Move, step, inside, is_index, call_bytes_in}
use Rattle.cm_meaning.specs.declared.ended.Trap.TheVariants as trap
use Rattle.cm_meaning.specs.Elision as elision
use Rattle.cm_meaning.specs.End.{End, Done, Trapped, Spent}
use Rattle.cm_meaning.specs.Meaning.{Limits, Comes, EndsAs, serial_step}
use Rattle.cm_meaning.specs.Typing.{TypedProgram}
use Rattle.cm_meaning.specs.TypedState.{TypedState, KeepsTyped}
use Rattle.cm_meaning.proofs.SafetyLaw.{typed_step, typed_run}
use Rattle.cm_gen.specs.declared.form.Form.TheVariants.{Serial}
use Rattle.cm_gen.specs.Standing.{form_of, form_here}
use Rattle.cm_gen.specs.FrameWord.{bits, words_in, bytes_of, taken}
use Rattle.cm_gen.specs.Formed.{Runs, Formed, KeepsFormed}
use Rattle.cm_gen.specs.StandsFor.{Spot, ExactAt, Exact, Serves, Reaches, Turns, stands, turns, hears, opens, Arrives, ArrivesSpawn, ArrivesSync, LeadsFrom, passed}
use Rattle.cm_gen.proofs.patterns.StepLaw.{comes_by_steps}
use Rattle.cm_gen.proofs.frames.FrameWordLaw.{may_stand_above, may_stand_low, low_end_below}
use Rattle.cm_serial.specs.declared.service.Stop.TheVariants as stop
use Rattle.cm_serial.specs.declared.service.Answer.{Answer}
use Rattle.cm_serial.specs.declared.service.Answer.TheVariants as answer
use Rattle.cm_serial.specs.Service.{number_answer, answer_at}
use Rattle.cm_serial.specs.Run.{Asks, StopsAs, RunEnds, HasStack, stack_bytes}
use Rattle.cm_serial.specs.Run as run

-- ---- mapped words stay mapped

kept_write : (w : Mapped) (write : Option (ℕ × ℕ)) (a : ℕ) → IsWritable (w a) → IsWritable (with_write w write a)
kept_write w None a h = h
kept_write w (Some x) a h = by (a == x.0)
  where
    by : (same : Bool) → IsWritable (if same then writable x.1 else w a)
    by true = tt
    by false = h

kept_next : (next : Next) (result : Option ℕ) (rd : ℕ) (write : Option (ℕ × ℕ)) (m last : Machine) → next_machine next result rd write m ≡ Some last
    → (a : ℕ) → IsWritable (m.words a) → IsWritable (last.words a)
kept_next (At address) result rd write m last e a h = subst (λ (t : Machine). IsWritable (t.words a)) (same_Some _ last e) (kept_write m.words write a h)
kept_next Service result rd write m last e a h = absurd (none-some last e)
kept_next (PageFault address) result rd write m last e a h = absurd (none-some last e)
kept_next (Fault fault address) result rd write m last e a h = absurd (none-some last e)

kept_step : (code : Code) (m next : Machine) → StepsTo code m next → (a : ℕ) → IsWritable (m.words a) → IsWritable (next.words a)
kept_step code m next s =
    let change = action_change (mapped_cell (readable_words m.words)) (mapped_cell (writable_words m.words)) (action_at s.instruction m.registers m.counter) m.counter in
    kept_next change.next change.result s.instruction.rd change.write m next s.effect

kept_run : (code : Code) (n : ℕ) (m last : Machine) → ComesTo code n m last → (a : ℕ) → IsWritable (m.words a) → IsWritable (last.words a)
kept_run code zero m last c a h = subst (λ (t : Machine). IsWritable (t.words a)) c h
kept_run code (suc n) m last c a h = kept_run code n c.0 last c.2 a (kept_step code m c.0 c.1 a h)

-- ---- numbers

-- an index of a number that isn't there
no_number : (input : List ℤ) (v : ℤ) → FitsSigned w32 v → length input < 2 ^ 31 → is_index v (length input) ≡ false → slice_get input (bits v) ≡ None
no_number input (pos k) fits small outside =
    let far : length input ≤ k = ltb-false k (length input) outside in
    slice_get_past input (bits (pos k)) (omega (arith, ints, fits, far))
no_number input (negsuc k) fits small outside = slice_get_past input (bits (negsuc k)) (omega (arith, ints, fits, small))

-- the signed number of a value's bits
signed_bits : (v : ℤ) (n : ℕ) → n ≡ bits v → FitsSigned w32 v → cast_signed w32 n ≡ v
signed_bits v n e fits = ap (cast_signed w32) e ∙ to_z-of_z w32 v fits

-- in the serial form each function is serial
serial_here : (program : Program) (calls : List ℕ) → form_here program Serial calls ≡ Serial
serial_here program [] = refl
serial_here program (f ∷ calls) = by (slice_get program.functions f)
  where
    by : (function : Option (Function ℕ)) → form_of Serial function ≡ Serial
    by None = refl
    by (Some function) = either (function.cilk)
      where
        either : (cilk : Bool) → (if cilk then Serial else Serial) ≡ Serial
        either true = refl
        either false = refl

-- a frame takes no more than its call does
frame_within : (page : ℕ) (function : Option (Function ℕ)) → 4 * words_in function ≤ call_bytes_in page function
frame_within page None = omega arith
frame_within page (Some function) = omega arith

module _ (program : Program) (limits : Limits) (input : List ℤ) (code : Code) (runs : Runs program limits.page (stack_bytes limits) input)
    (below : (p : ℕ) → code p ecall → p + 4 < 2 ^ 32)
    (takes : (spot : Spot) (left : ℕ) (c : Control) (h : Stack) (m : Machine) → left < 2 ^ 32 → Formed program limits.page (stack_bytes limits) c h
    → ExactAt program Serial limits.page input code spot left c h m → LeadsFrom program Serial limits.page input code spot left c.calls h (step program limits.page input c h) m)
    (keeps : (c : Control) (h : Stack) → Formed program limits.page (stack_bytes limits) c h → KeepsFormed program limits.page (stack_bytes limits) h (step program limits.page input c h))
  where
    -- the run from a machine that has printed these numbers ends so
    abbrev pub Finishes : Machine → (printed : List ℤ) → End → Type 0
    Finishes m printed e = (steps : ℕ) × RunEnds code input limits.ticks m printed steps e

    -- whatever machine stands for a state with so many ticks left, its run ends so
    abbrev pub After : (left : ℕ) → Control → Stack → (printed : List ℤ) → End → Type 0
    After left c h printed e = (m : Machine) → HasStack (stack_bytes limits) m.words → Exact program Serial limits.page input code left c h m → Finishes m printed e

    -- What a step of the elision says of the run of a machine: it ends as it does from behind the step, or with the step.
    abbrev pub Goes : (left : ℕ) → Move → Machine → (printed : List ℤ) → Type 0
    Goes left (silent c h) m printed = (e : End) → After left c h printed e → Finishes m printed e
    Goes zero (ticks c h) m printed = Finishes m printed Spent
    Goes (suc left) (ticks c h) m printed = (e : End) → After left c h printed e → Finishes m printed e
    Goes left (prints v c h) m printed = (e : End) → After left c h (printed ++ v ∷ []) e → Finishes m printed e
    Goes left (traps k) m printed = (used : ℕ) → used + left ≡ limits.ticks → Finishes m printed (Trapped printed k used)
    Goes left (ends None) m printed = ⊤
    Goes left (ends (Some v)) m printed = (used : ℕ) → used + left ≡ limits.ticks → Finishes m printed (Done printed (Some v) used)
    Goes left _ m printed = ⊤

    -- a step as the elision takes it
    abbrev serial : Stack → Move → Move
    serial = elision.serial Control Stack Destination (step program limits.page input) inside

    -- ---- where a step arrives

    -- instructions before a run
    over : (n : ℕ) (m last : Machine) (printed : List ℤ) (e : End) → ComesTo code n m last → Finishes last printed e → Finishes m printed e
    over zero m last printed e c f = subst (λ t. Finishes t printed e) (sym c) f
    over (suc n) m last printed e c f = let later = over n c.0 last printed e c.2 f in (suc later.0, run.step c.1 later.1)

    -- at a service the environment does what its number says
    asks : (n : ℕ) (m : Machine) (a : Answer) → Serves program Serial limits.page input code n m → answer_at input n (m.registers reg.VALUE) ≡ a → Asks code input a m
    asks n m a serves e = record { there = serves.there; answer_is = ap (λ service. answer_at input service (m.registers reg.VALUE)) serves.number_is ∙ e }

    trapped : (n : ℕ) (m : Machine) (k : _) (left used : ℕ) (printed : List ℤ) → Serves program Serial limits.page input code n m → answer_at input n (m.registers reg.VALUE) ≡ answer.Stops (stop.Trap k)
        → m.registers reg.TICKS ≡ left → used + left ≡ limits.ticks → (e : End) → StopsAs limits.ticks (stop.Trap k) printed m.registers e → Finishes m printed e
    trapped n m k left used printed serves e t sum end s = (1, run.stops (stop.Trap k) (asks n m _ serves e) s)

    -- the machine behind a print
    passed_is : (m : Machine) → code m.counter ecall → passed m ≡ replied_machine m None
    passed_is m there =
        let small = below m.counter there in
        let next : m.counter + 4 ≡ follow m.counter = omega (arith, small) in
        ap (λ counter. record { registers = m.registers; counter = counter; words = m.words }) next

    -- the last instruction of a call or of a return
    turned : {c : Control} {h : Stack} {left : ℕ} {m : Machine} (old : Spot) (printed : List ℤ) → HasStack (stack_bytes limits) m.words → Turns program Serial limits.page input code old left c h m
        → (e : End) → After left c h printed e → Finishes m printed e
    turned {m = m} old printed stack x e after =
        let later = after x.next (λ a whole low high. kept_step code m x.next x.step a (stack a whole low high)) (x.spot, x.stands) in
        (suc later.0, run.step x.step later.1)

    arrive : (move : Move) (old : Spot) (left : ℕ) (calls : List ℕ) (h : Stack) (m : Machine) (printed : List ℤ) → KeepsFormed program limits.page (stack_bytes limits) h move
        → HasStack (stack_bytes limits) m.words → Arrives program Serial limits.page input code old left calls h move m → Goes left (serial h move) m printed
    arrive (silent d g) old left calls h m printed formed stack (stands x) = λ e after. after m stack (x.0, x.3)
    arrive (silent d g) old left calls h m printed formed stack (turns x) = turned old printed stack x
    arrive (silent d g) old left calls h m printed formed stack (hears n (inl reply) x) = λ e after.
        let later = after (replied_machine m (Some n)) stack (old, x) in
        (suc later.0, run.hears n (asks 2 m (answer.Replies n) reply.0 (ap number_answer reply.2 ∙ ap answer.Replies (sym reply.3))) later.1)
    arrive (silent d g) old left calls h m printed formed stack (hears n (inr reply) x) = λ e after.
        let later = after (replied_machine m (Some n)) stack (old, x) in
        (suc later.0, run.hears n (asks 3 m (answer.Replies n) reply.0 (ap answer.Replies (sym reply.1))) later.1)
    arrive (silent d g) old left calls h m printed formed stack (opens f before calls_are frames may x) = λ e after.
        over opened.count m opened.last printed e comes_to
        (after opened.last (λ a whole low high. kept_run code opened.count m opened.last comes_to a (stack a whole low high)) (opened.stands.0, opened.stands.3))
      where
        above : 2 ^ 30 ≤ old.low + taken program limits.page before
        above = may_stand_above program limits.page before old.frames old.low runs.page_is frames may

        low : old.low ≤ 2 ^ 30
        low = let a = may_stand_low program limits.page before old.frames old.low may in let b = low_end_below program limits.page before old.frames frames in omega (arith, a, b)

        mapped : (a : ℕ) → a % 4 ≡ 0 → old.low - bytes_of program limits.page f ≤ a → a < old.low → IsWritable (m.words a)
        mapped a whole from until =
            let balance = formed.balance in
            let took = ap (taken program limits.page) calls_are in
            let fits = frame_within limits.page (slice_get program.functions f) in
            stack a whole (omega (arith, from, above, balance, took, fits)) (omega (arith, until, low))

        opened : Reaches program Serial limits.page input code old left d g m
        opened = x.goes_on m.words (record { keeps_writable = λ a v e. e; keeps_readable = λ a v e. ap (λ s. reads s) e }) mapped

        comes_to : ComesTo code opened.count m opened.last
        comes_to = comes_by_steps code opened.count m opened.last opened.goes_to
    arrive (ticks d g) old zero calls h m printed formed stack x = (1, run.stops stop.Spent (asks 6 m _ x.0 refl) refl)
    arrive (ticks d g) old (suc left) calls h m printed formed stack x = λ e after. after m stack (old, x)
    arrive (prints v d g) old left calls h m printed formed stack x = λ e after.
        let later = after (passed m) stack (old, x.2) in
        let number = signed_bits v (m.registers reg.VALUE) x.1 x.3 in (
          suc later.0,
          run.prints (asks 1 m answer.Prints x.0 refl) (subst (λ t. RunEnds code input limits.ticks t (printed ++ cast_signed w32 (m.registers reg.VALUE) ∷ []) later.0 e) (passed_is m x.0.there)
              (subst (λ w. RunEnds code input limits.ticks (passed m) (printed ++ w ∷ []) later.0 e) (sym number) later.1)),
        )
    arrive (spawns child lent x d kept) old left calls h m printed formed stack arrives =
        turned old printed stack (subst (λ own. ArrivesSpawn program Serial limits.page input code own old left h child lent x d kept m) (serial_here program calls) arrives)
    arrive (syncs d) old left calls h m printed formed stack arrives = λ e after.
        after m stack (old, subst (λ own. ArrivesSync program Serial limits.page input code own old left h d m) (serial_here program calls) arrives)
    arrive (traps kind.Divide) old left calls h m printed formed stack x = λ used sum. (1, run.stops (stop.Trap trap.Divide) (asks 7 m _ x.0 refl) (used, (let t = x.1 in omega (arith, t, sum)), refl))
    arrive (traps kind.Index) old left calls h m printed formed stack x = λ used sum. (1, run.stops (stop.Trap trap.Index) (asks 8 m _ x.0 refl) (used, (let t = x.1 in omega (arith, t, sum)), refl))
    arrive (traps kind.Stack) old left calls h m printed formed stack x = λ used sum. (1, run.stops (stop.Trap trap.Stack) (asks 9 m _ x.0 refl) (used, (let t = x.1 in omega (arith, t, sum)), refl))
    arrive (traps kind.Input) old left calls h m printed formed stack x = λ used sum.
        let none = ap (slice_get input) x.0.2 ∙ no_number input x.0.1 x.0.3 runs.count_fits x.0.4 in
        (1, run.stops (stop.Trap trap.Input) (asks 2 m _ x.0.0 (ap number_answer none)) (used, (let t = x.1 in omega (arith, t, sum)), refl))
    arrive (ends None) old left calls h m printed formed stack x = tt
    arrive (ends (Some v)) old left calls h m printed formed stack x = λ used sum.
        (1, run.stops stop.Value (asks 0 m _ x.0 refl) (used, (let t = x.2 in omega (arith, t, sum)), ap (λ w. Done printed (Some w) used) (sym (signed_bits v (m.registers reg.RESULT) x.1.0 x.1.1))))
    arrive stuck old left calls h m printed formed stack x = tt

    -- the instructions of a step, and then where it arrives
    goes_over : (move : Move) (left n : ℕ) (m last : Machine) (printed : List ℤ) → ComesTo code n m last → Goes left move last printed → Goes left move m printed
    goes_over (silent d g) left n m last printed c x = λ e after. over n m last printed e c (x e after)
    goes_over (ticks d g) zero n m last printed c x = over n m last printed Spent c x
    goes_over (ticks d g) (suc left) n m last printed c x = λ e after. over n m last printed e c (x e after)
    goes_over (prints v d g) left n m last printed c x = λ e after. over n m last printed e c (x e after)
    goes_over (spawns child lent x d kept) left n m last printed c y = tt
    goes_over (syncs d) left n m last printed c x = tt
    goes_over (traps k) left n m last printed c x = λ used sum. over n m last printed (Trapped printed k used) c (x used sum)
    goes_over (ends None) left n m last printed c x = tt
    goes_over (ends (Some v)) left n m last printed c x = λ used sum. over n m last printed (Done printed (Some v) used) c (x used sum)
    goes_over stuck left n m last printed c x = tt

    -- a step of the elision is followed
    goes : (left : ℕ) (c : Control) (h : Stack) (m : Machine) (printed : List ℤ) → left < 2 ^ 32 → Formed program limits.page (stack_bytes limits) c h
        → HasStack (stack_bytes limits) m.words → Exact program Serial limits.page input code left c h m → Goes left (serial_step program limits.page input c h) m printed
    goes left c h m printed small formed stack x =
        let t = takes x.0 left c h m small formed x.1 in
        let comes_to = comes_by_steps code t.count m t.last t.goes_to in
        goes_over (serial h (step program limits.page input c h)) left t.count m t.last printed comes_to
        (arrive (step program limits.page input c h) x.0 left c.calls h t.last printed (keeps c h formed)
        (λ a whole low high. kept_run code t.count m t.last comes_to a (stack a whole low high)) t.arrives)

    -- ---- the elision

    -- the state behind a step of the elision
    abbrev FormedBehind : Move → Type 0
    FormedBehind (silent d g) = Formed program limits.page (stack_bytes limits) d g
    FormedBehind (ticks d g) = Formed program limits.page (stack_bytes limits) d g
    FormedBehind (prints v d g) = Formed program limits.page (stack_bytes limits) d g
    FormedBehind _ = ⊤

    formed_behind : (move : Move) (h : Stack) → KeepsFormed program limits.page (stack_bytes limits) h move → FormedBehind (serial h move)
    formed_behind (silent d g) h k = k
    formed_behind (ticks d g) h k = k
    formed_behind (prints v d g) h k = k
    formed_behind (spawns child lent x d kept) h k = k.2
    formed_behind (syncs d) h k = k
    formed_behind (traps t) h k = tt
    formed_behind (ends v) h k = tt
    formed_behind stuck h k = tt

    formed_step : (c : Control) (h : Stack) (move : Move) → serial_step program limits.page input c h ≡ move → Formed program limits.page (stack_bytes limits) c h → FormedBehind move
    formed_step c h move is x = subst FormedBehind is (formed_behind (step program limits.page input c h) h (keeps c h x))

    formed_run : {c t : Control} {h g : Stack} {out : List ℤ} {n : ℕ} → Comes program limits.page input c h out n t g → Formed program limits.page (stack_bytes limits) c h → Formed program limits.page (stack_bytes limits) t g
    formed_run elision.here x = x
    formed_run {c = c} {h = h} (elision.quiet is more) x = formed_run more (formed_step c h _ is x)
    formed_run {c = c} {h = h} (elision.tick is more) x = formed_run more (formed_step c h _ is x)
    formed_run {c = c} {h = h} (elision.show is more) x = formed_run more (formed_step c h _ is x)

    -- to a state that the elision comes to
    walk : {c t : Control} {h g : Stack} {out : List ℤ} {n : ℕ} → Comes program limits.page input c h out n t g → (left later : ℕ) → left ≡ n + later → left < 2 ^ 32
        → Formed program limits.page (stack_bytes limits) c h → (printed : List ℤ) (e : End) → After later t g (printed ++ out) e → After left c h printed e
    walk {t = t} {g = g} elision.here left later sum small formed printed e after =
        let same : later ≡ left = omega (arith, sum) in
        subst (λ n. After n t g printed e) same (subst (λ numbers. After later t g numbers e) (append-nil printed) after)
    walk {c = c} {h = h} (elision.quiet is more) left later sum small formed printed e after = λ m stack x.
        subst (λ move. Goes left move m printed) is (goes left c h m printed small formed stack x) e (walk more left later sum small (formed_step c h _ is formed) printed e after)
    walk {c = c} {h = h} (elision.tick {t = d} {g = f} {n = n} is more) left later sum small formed printed e after =
        by left sum small (λ less same few. walk more less later same few (formed_step c h _ is formed) printed e after)
      where
        by : (left : ℕ) → left ≡ suc n + later → left < 2 ^ 32 → ((less : ℕ) → less ≡ n + later → less < 2 ^ 32 → After less d f printed e) → After left c h printed e
        by zero sum small behind = absurd (omega (arith, sum))
        by (suc left) sum small behind = λ m stack x.
            subst (λ move. Goes (suc left) move m printed) is (goes (suc left) c h m printed small formed stack x) e (behind left (omega (arith, sum)) (omega (arith, small)))
    walk {c = c} {t = l} {h = h} {g = k} (elision.show {v = v} {out = out} is more) left later sum small formed printed e after = λ m stack x.
        subst (λ move. Goes left move m printed) is (goes left c h m printed small formed stack x) e
        (walk more left later sum small (formed_step c h _ is formed) (printed ++ v ∷ []) e (subst (λ numbers. After later l k numbers e) (sym (append_assoc printed (v ∷ []) out)) after))

    -- more ticks than are left
    spends : {c t : Control} {h g : Stack} {out : List ℤ} {n : ℕ} → Comes program limits.page input c h out n t g → (left : ℕ) → left < n → left < 2 ^ 32
        → Formed program limits.page (stack_bytes limits) c h → (printed : List ℤ) → After left c h printed Spent
    spends elision.here left more_than small formed printed = λ m stack x. absurd (omega (arith, more_than))
    spends {c = c} {h = h} (elision.quiet is more) left more_than small formed printed = λ m stack x.
        subst (λ move. Goes left move m printed) is (goes left c h m printed small formed stack x) Spent (spends more left more_than small (formed_step c h _ is formed) printed)
    spends {c = c} {h = h} (elision.tick {t = d} {g = f} {n = n} is more) left more_than small formed printed =
        by left more_than small (λ less more_still few. spends more less more_still few (formed_step c h _ is formed) printed)
      where
        by : (left : ℕ) → left < suc n → left < 2 ^ 32 → ((less : ℕ) → less < n → less < 2 ^ 32 → After less d f printed Spent) → After left c h printed Spent
        by zero more_than small behind = λ m stack x. subst (λ move. Goes zero move m printed) is (goes zero c h m printed small formed stack x)
        by (suc left) more_than small behind = λ m stack x.
            subst (λ move. Goes (suc left) move m printed) is (goes (suc left) c h m printed small formed stack x) Spent (behind left (omega (arith, more_than)) (omega (arith, small)))
    spends {c = c} {h = h} (elision.show {v = v} is more) left more_than small formed printed = λ m stack x.
        subst (λ move. Goes left move m printed) is (goes left c h m printed small formed stack x) Spent (spends more left more_than small (formed_step c h _ is formed) (printed ++ v ∷ []))

    -- the end of the elision is that of the run
    pub follows : (c : Control) (h w : Stack) (e : End) → TypedProgram program → TypedState program true c h → limits.ticks < 2 ^ 32 → Formed program limits.page (stack_bytes limits) c h
        → EndsAs program limits.page input c h limits.ticks e w → After limits.ticks c h [] e
    follows c h w (Done out v n) typed state small formed x =
        walk x.1 limits.ticks (limits.ticks - n) (let bound = x.3 in omega (arith, bound)) small formed [] (Done out v n)
        (λ m stack exact. by v m (subst (KeepsTyped program true) x.2 (typed_step program limits.page input true x.0 w typed (typed_run program limits.page input true typed x.1 state)))
        (subst (λ move. Goes (limits.ticks - n) move m out) x.2 (goes (limits.ticks - n) x.0 w m out (omega (arith, small)) (formed_run x.1 formed) stack exact)))
      where
        by : (v : Option ℤ) (m : Machine) → is_some v ≡ true → Goes (limits.ticks - n) (ends v) m out → Finishes m out (Done out v n)
        by None m e g = absurd (nothing e)
          where
            nothing : false ≡ true → ⊥
            nothing f = cc f
        by (Some u) m e g = g n (let bound = x.3 in omega (arith, bound))
    follows c h w (Trapped out k n) typed state small formed x =
        walk x.2 limits.ticks (limits.ticks - n) (let bound = x.4 in omega (arith, bound)) small formed [] (Trapped out k n)
        (λ m stack exact. subst (λ move. Goes (limits.ticks - n) move m out) x.3 (goes (limits.ticks - n) x.0 x.1 m out (omega (arith, small)) (formed_run x.2 formed) stack exact) n (let bound = x.4 in omega (arith, bound)))
    follows c h w Spent typed state small formed x = let more = x.more in spends x.comes limits.ticks more small formed []
