-- A run has one end, in one number of steps.
use Rattle.std.proofs.Common.{◌≡◌, ℕ, suc, List, Some, refl, sym, ap, ◌∙◌, subst, arith}
use Rattle.std.proofs.lemmas.Option.{same_Some}
use Rattle.std.specs.Prelude.{ℤ}
use Rattle.std.specs.Int.{w32, cast_signed}
use Rattle.cm_isa.specs.Machine.{Machine, Code, StepsTo, machine_after}
use Rattle.cm_isa.specs.Operation.{Operation}
use Rattle.cm_isa.specs.Run.{replied_machine}
use Rattle.cm_isa.specs.declared.convention.TheConstants as reg
use Rattle.cm_isa.proofs.Run.{IsOne, call_is_no_step}
use Rattle.cm_meaning.specs.End.{End, Done, Trapped}
use Rattle.cm_meaning.specs.Ended.{trap_of}
use Rattle.cm_serial.specs.declared.service.Stop.{Stop}
use Rattle.cm_serial.specs.declared.service.Stop.TheVariants as stop
use Rattle.cm_serial.specs.declared.service.Answer.{Answer}
use Rattle.cm_serial.specs.declared.service.Answer.TheVariants as answer
use Rattle.cm_serial.specs.Run.{Asks, StopsAs, RunEnds, stops, step, prints, hears}

-- one end of a stop
stops_once : (ticks : ℕ) (by : Stop) (printed : List ℤ) (r : ℕ → ℕ) (d e : End) → StopsAs ticks by printed r d → StopsAs ticks by printed r e → d ≡ e
stops_once ticks stop.Value printed r d e (n, a, x) (m, b, y) = let same : n ≡ m = omega (arith, a, b) in x ∙ ap (λ used. Done printed (Some (cast_signed w32 (r reg.RESULT))) used) same ∙ sym y
stops_once ticks (stop.Trap kind) printed r d e (n, a, x) (m, b, y) = let same : n ≡ m = omega (arith, a, b) in x ∙ ap (λ used. Trapped printed (trap_of kind) used) same ∙ sym y
stops_once ticks stop.Spent printed r d e x y = x ∙ sym y

module _ (code : Code) (one : IsOne code) (input : List ℤ) (ticks : ℕ) where
  step_once : (m a b : Machine) → StepsTo code m a → StepsTo code m b → a ≡ b
  step_once m a b first second =
      same_Some a b (sym first.effect ∙ ap (λ (i : Operation). machine_after i m) (one m.counter first.instruction second.instruction first.there second.there) ∙ second.effect)

  no_step : {A : Type 0} (m a : Machine) (done : Answer) → StepsTo code m a → Asks code input done m → A
  no_step m a done s asks = absurd (call_is_no_step code one m a s asks.there)

  same_answer : {m : Machine} (x y : Answer) → Asks code input x m → Asks code input y m → x ≡ y
  same_answer x y first second = sym first.answer_is ∙ second.answer_is

  same_word : (v w : ℕ) → answer.Replies v ≡ answer.Replies w → v ≡ w
  same_word v w e = cc

  same_stop : (x y : Stop) → answer.Stops x ≡ answer.Stops y → x ≡ y
  same_stop x y e = cc

  -- further steps
  more : {a b : ℕ} {d e : End} → (a ≡ b) × (d ≡ e) → (suc a ≡ suc b) × (d ≡ e)
  more x = (ap suc x.0, x.1)

  pub once : {m : Machine} {printed : List ℤ} {a b : ℕ} {d e : End} → RunEnds code input ticks m printed a d → RunEnds code input ticks m printed b e → (a ≡ b) × (d ≡ e)
  once {m = m} {printed = printed} {d = d} {e = e} (stops x first s) (stops y second t) =
      (refl, stops_once ticks x printed m.registers d e s (subst (λ by. StopsAs ticks by printed m.registers e) (sym (same_stop x y (same_answer _ _ first second))) t))
  once {m = m} (stops x first s) (step {next = next} second r) = no_step m next _ second first
  once (stops x first s) (prints second r) = absurd (differs (same_answer _ _ first second))
    where
      differs : answer.Stops x ≡ answer.Prints → ⊥
      differs f = cc
  once (stops x first s) (hears word second r) = absurd (differs (same_answer _ _ first second))
    where
      differs : answer.Stops x ≡ answer.Replies word → ⊥
      differs f = cc
  once {m = m} (step {next = next} first r) (stops y second t) = no_step m next _ first second
  once {m = m} {printed = printed} {e = e} (step {next = p} first r) (step {next = q} {steps = n} second t) =
      more (once r (subst (λ next. RunEnds code input ticks next printed n e) (step_once m q p second first) t))
  once {m = m} (step {next = next} first r) (prints second t) = no_step m next _ first second
  once {m = m} (step {next = next} first r) (hears word second t) = no_step m next _ first second
  once (prints first r) (stops y second t) = absurd (differs (same_answer _ _ first second))
    where
      differs : answer.Prints ≡ answer.Stops y → ⊥
      differs f = cc
  once {m = m} (prints first r) (step {next = next} second t) = no_step m next _ second first
  once (prints first r) (prints second t) = more (once r t)
  once (prints first r) (hears word second t) = absurd (differs (same_answer _ _ first second))
    where
      differs : answer.Prints ≡ answer.Replies word → ⊥
      differs f = cc
  once (hears word first r) (stops y second t) = absurd (differs (same_answer _ _ first second))
    where
      differs : answer.Replies word ≡ answer.Stops y → ⊥
      differs f = cc
  once {m = m} (hears word first r) (step {next = next} second t) = no_step m next _ second first
  once (hears word first r) (prints second t) = absurd (differs (same_answer _ _ first second))
    where
      differs : answer.Replies word ≡ answer.Prints → ⊥
      differs f = cc
  once {m = m} {printed = printed} {e = e} (hears v first r) (hears {steps = n} w second t) =
      more (once r (subst (λ word. RunEnds code input ticks (replied_machine m (Some word)) printed n e) (sym (same_word v w (same_answer _ _ first second))) t))
