-- The code takes each step: one law for each item and for each call at hand, put together.
use Rattle.cm_gen.proofs.items.StateLaw.{settled}
use Rattle.std.proofs.Common.{ℕ, ◌^◌, ◌<◌, List, [], ◌∷◌}
use Rattle.std.specs.Prelude.{ℤ}
use Rattle.cm_isa.specs.Machine.{Machine, Code}
use Rattle.cm_syntax.specs.declared.stmt.Program.{Program}
use Rattle.cm_syntax.specs.Stack.{Stack}
use Rattle.cm_syntax.specs.Rest.{Item, evaluate, right, apply, prefix, both, either, truth, element, read, arguments, pass, take_back, discard, deliver, perform, sequence, body, declare, assign, update, locate, store, branch, turn, test, part, tick, show, exit, fall, join, end, Hand, idle, holds, returned, entering, framing, Control, control}
use Rattle.cm_syntax.specs.Step.{step, hand_step, item_step}
use Rattle.cm_meaning.proofs.TypedFramesLaw.{IsPlain}
use Rattle.cm_gen.specs.declared.form.Form.{Form}
use Rattle.cm_gen.specs.Standing.{IsCompiled}
use Rattle.cm_gen.specs.Formed.{Runs, Formed}
use Rattle.cm_gen.specs.StandsFor.{Spot, Placed, ExactAt, LeadsFrom}
use Rattle.cm_gen.proofs.items.EntryLaw.{entering_law}
use Rattle.cm_gen.proofs.items.PushLaw.{framing_law}
use Rattle.cm_gen.proofs.items.LeaveLaw.{end_law, exit_law, fall_law, join_law, last_law}
use Rattle.cm_gen.proofs.items.ExpressionItemLaw.{evaluate_law}
use Rattle.cm_gen.proofs.items.OperandItemLaw.{right_law, apply_law, prefix_law, both_law, either_law, truth_law}
use Rattle.cm_gen.proofs.items.ElementItemLaw.{element_law, read_law}
use Rattle.cm_gen.proofs.items.CallItemLaw.{take_back_law, discard_law, deliver_law}
use Rattle.cm_gen.proofs.items.DeclareItemLaw.{declare_law}
use Rattle.cm_gen.proofs.items.ArgumentItemLaw.{pass_law}
use Rattle.cm_gen.proofs.items.SpawnItemLaw.{arguments_law}
use Rattle.cm_gen.proofs.items.SplitItemLaw.{part_law}
use Rattle.cm_gen.proofs.items.LoopItemLaw.{tick_law, show_law, branch_law, turn_law, test_law}
use Rattle.cm_gen.proofs.items.StatementItemLaw.{perform_law, sequence_law, body_law}
use Rattle.cm_gen.proofs.items.WriteItemLaw.{assign_law, update_law}
use Rattle.cm_gen.proofs.items.LocateItemLaw.{locate_law, store_law}

module _ (program : Program) (form : Form) (page limit : ℕ) (input : List ℤ) (code : Code) (runs : Runs program page limit input) (compiled : IsCompiled program form page code) where
  -- an item before a rest, with no call at hand
  item_law : (spot : Spot) (left : ℕ) (calls : List ℕ) (account : ℕ) (hand : Hand) (item : Item) (k : List Item) (h : Stack) (m : Machine) → left < 2 ^ 32 → IsPlain hand
      → Formed program page limit (control calls account hand (item ∷ k)) h
      → ExactAt program form page input code spot left (control calls account hand (item ∷ k)) h m
      → Placed program form page input code hand (item ∷ k) calls spot.frames m.registers m.counter
      → LeadsFrom program form page input code spot left calls h (item_step program page input (control calls account hand (item ∷ k)) h item k) m
  item_law spot left calls account hand (evaluate e) k h m few plain formed x here = evaluate_law program form page limit input code spot left calls account hand e k h m runs.count_fits plain formed x here
  item_law spot left calls account hand (right o r) k h m few plain formed x here = right_law program form page limit input code spot left calls account hand k h m o r plain formed x here
  item_law spot left calls account hand (apply o a) k h m few plain formed x here = apply_law program form page limit input code spot left calls account hand k h m o a formed x here
  item_law spot left calls account hand (prefix o) k h m few plain formed x here = prefix_law program form page limit input code spot left calls account hand k h m o x here
  item_law spot left calls account hand (both r) k h m few plain formed x here = both_law program form page limit input code spot left calls account hand k h m r x here
  item_law spot left calls account hand (either r) k h m few plain formed x here = either_law program form page limit input code spot left calls account hand k h m r x here
  item_law spot left calls account hand truth k h m few plain formed x here = truth_law program form page limit input code spot left calls account hand k h m x here
  item_law spot left calls account hand (element a) k h m few plain formed x here = element_law program form page limit input code spot left calls account hand k h m a plain formed x here
  item_law spot left calls account hand read k h m few plain formed x here = read_law program form page limit input code spot left calls account hand k h m runs.numbers_fit x here
  item_law spot left calls account hand (arguments u f ws row) k h m few plain formed x here = arguments_law program form page limit input code compiled u f ws row spot left calls account hand k h m runs.sound plain formed x here
  item_law spot left calls account hand (pass u f ws row) k h m few plain formed x here = pass_law program form page limit input code u f ws row spot left calls account hand k h m plain formed x here
  item_law spot left calls account hand take_back k h m few plain formed x here = take_back_law program form page limit input code spot left calls account hand k h m plain x here
  item_law spot left calls account hand discard k h m few plain formed x here = discard_law program form page limit input code spot left calls account hand k h m plain x here
  item_law spot left calls account hand (deliver y) k h m few plain formed x here = deliver_law program form page limit input code spot left calls account hand y k h m plain formed x here
  item_law spot left calls account hand (perform s) k h m few plain formed x here = perform_law program form page limit input code s spot left calls account hand k h m plain formed x here
  item_law spot left calls account hand (sequence row) k h m few plain formed x here = sequence_law program form page limit input code row spot left calls account hand k h m plain x here
  item_law spot left calls account hand (body row) k h m few plain formed x here = body_law program form page limit input code row spot left calls account hand k h m plain x here
  item_law spot left calls account hand (declare row) k h m few plain formed x here = declare_law program form page limit input code row spot left calls account hand k h m plain formed x here
  item_law spot left calls account hand (assign s) k h m few plain formed x here = assign_law program form page limit input code s spot left calls account hand k h m plain formed x here
  item_law spot left calls account hand (update s o) k h m few plain formed x here = update_law program form page limit input code s o spot left calls account hand k h m plain formed x here
  item_law spot left calls account hand (locate a o e) k h m few plain formed x here = locate_law program form page limit input code a o e spot left calls account hand k h m plain formed x here
  item_law spot left calls account hand (store a i o) k h m few plain formed x here = store_law program form page limit input code a i o spot left calls account hand k h m plain formed x here
  item_law spot left calls account hand (branch s o) k h m few plain formed x here = branch_law program form page limit input code s o spot left calls account hand k h m x here
  item_law spot left calls account hand (turn t s b) k h m few plain formed x here = turn_law program form page limit input code t s b spot left calls account hand k h m plain x here
  item_law spot left calls account hand (test t s b) k h m few plain formed x here = test_law program form page limit input code t s b spot left calls account hand k h m x here
  item_law spot left calls account hand (part a l r row) k h m few plain formed x here = part_law program form page limit input code a l r row spot left calls account hand k h m plain formed x here
  item_law spot left calls account hand tick k h m few plain formed x here = tick_law program form page limit input code spot left calls account hand k h m few plain x here
  item_law spot left calls account hand show k h m few plain formed x here = show_law program form page limit input code spot left calls account hand k h m x here
  item_law spot left calls account hand exit k h m few plain formed x here = exit_law program form page limit input code spot left calls account hand k h m plain x here
  item_law spot left calls account hand fall k h m few plain formed x here = fall_law program form page limit input code spot left calls account hand k h m plain x here
  item_law spot left calls account hand join k h m few plain formed x here = join_law program form page limit input code spot left calls account hand k h m plain x here
  item_law spot left calls account hand end k h m few plain formed x here = end_law program form page limit input code runs spot left calls account hand k h m plain formed x here

  -- what is at hand, and the rest
  hand_law : (spot : Spot) (left : ℕ) (calls : List ℕ) (account : ℕ) (hand : Hand) (k : List Item) (h : Stack) (m : Machine) → left < 2 ^ 32
      → Formed program page limit (control calls account hand k) h
      → ExactAt program form page input code spot left (control calls account hand k) h m
      → Placed program form page input code hand k calls spot.frames m.registers m.counter
      → LeadsFrom program form page input code spot left calls h (hand_step program page input (control calls account hand k) h hand k) m
  hand_law spot left calls account (entering f ws) k h m few formed x here = entering_law program form page limit input code compiled spot left calls account f ws k h m few formed x here
  hand_law spot left calls account (framing f ws) k h m few formed x here = framing_law program form page limit input code runs compiled spot left calls account f ws k h m formed x here
  hand_law spot left calls account idle [] h m few formed x here = last_law program form page limit input code spot left calls account idle h m tt x here
  hand_law spot left calls account (holds v) [] h m few formed x here = last_law program form page limit input code spot left calls account (holds v) h m tt x here
  hand_law spot left calls account (returned v) [] h m few formed x here = last_law program form page limit input code spot left calls account (returned v) h m tt x here
  hand_law spot left calls account idle (item ∷ k) h m few formed x here = item_law spot left calls account idle item k h m few tt formed x here
  hand_law spot left calls account (holds v) (item ∷ k) h m few formed x here = item_law spot left calls account (holds v) item k h m few tt formed x here
  hand_law spot left calls account (returned v) (item ∷ k) h m few formed x here = item_law spot left calls account (returned v) item k h m few tt formed x here

  -- the law: the jumps before the rest are done first
  pub each_step : (spot : Spot) (left : ℕ) (c : Control) (h : Stack) (m : Machine) → left < 2 ^ 32 → Formed program page limit c h
      → ExactAt program form page input code spot left c h m → LeadsFrom program form page input code spot left c.calls h (step program page input c h) m
  each_step spot left c h m few formed x = settled program form page input code x (λ t y here. hand_law spot left c.calls c.account c.hand c.rest h t few formed y here)
