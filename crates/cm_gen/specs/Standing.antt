-- Code at its place. The instructions of parts stand one after another, and what is said of the place behind them is a
-- continuation, so that the code of a rest is said item by item.
use Rattle.std.specs.Prelude.{◌≡◌, ℕ, zero, suc, ◌+◌, ◌*◌, ◌%◌, ◌^◌, ◌<◌, ◌⊎◌, ⊤, pos, ◌-ℤ◌, Option, None, Some, List, [], ◌∷◌, ◌++◌, length, slice_get}
use Rattle.cm_isa.specs.Bits.{minus}
use Rattle.cm_isa.specs.Operation.{Operation}
use Rattle.cm_isa.specs.Machine.{Code}
use Rattle.cm_isa.specs.declared.convention.TheConstants as reg
use Rattle.cm_syntax.specs.declared.expr.Expr.{Expr}
use Rattle.cm_syntax.specs.declared.stmt.Slot.{Slot}
use Rattle.cm_syntax.specs.declared.stmt.Stmt.{Stmt, Row_of-Stmt}
use Rattle.cm_syntax.specs.declared.stmt.Function.{Function}
use Rattle.cm_syntax.specs.declared.stmt.Program.{Program}
use Rattle.cm_syntax.specs.Rest.{Item, evaluate, right, apply, prefix, both, either, truth, element, read, arguments, pass, take_back, deliver, perform, sequence, body, declare, assign, update, locate, store, branch, turn, test, part, tick, show, exit, fall, join, end}
use Rattle.cm_syntax.specs.Stack.{Destination, Argument, word, slice}
use Rattle.cm_syntax.specs.Step.{slots_in, call_bytes_in}
use Rattle.cm_gen.specs.declared.form.Form.{Form}
use Rattle.cm_gen.specs.declared.form.Form.TheVariants.{Serial}
use Rattle.cm_gen.specs.Assembler.{jal}
use Rattle.cm_gen.specs.Code.{service, leave, tick as tick_code}
use Rattle.cm_gen.specs.Part.{Part, straight, placed, table_word}
use Rattle.cm_gen.specs.Expression.{expression_code, arguments_code, pass_code, right_code, both_code, either_code, apply_code, prefix_code, truth_code, element_code, take_back_code}
use Rattle.cm_gen.specs.Statement.{assign_code, update_code, write_code, store_code, items_code, enter_code, deliver_code, exit_code, loop_code, turn_code, branch_code, part_code, sync_code, statement_code, sequence_code, body_code}
use Rattle.cm_gen.specs.Image.{form_in, fall_code, function_code}

-- ---- places

-- an instruction stands at a place, which is a whole word far below the end of the addresses
pub record Stands (code : Code) (p : ℕ) (i : Operation) : Type 0 where
  pub there : code p i
  pub aligned : p % 4 ≡ 0
  pub below : p + 4 < 2 ^ 30

-- A jump forward stands at a place and leads to another one.
pub record JumpsTo (code : Code) (p q : ℕ) : Type 0 where
  pub words : ℕ
  pub jump : Stands code p (jal reg.ZERO (pos (4 * words)))
  pub target : q ≡ p + 4 * words
  pub below : q < 2 ^ 30

-- behind so many jumps this is said of the place
abbrev pub BehindJumps : Code → (jumps : ℕ) → (behind : ℕ → Type 0) → (p : ℕ) → Type 0
BehindJumps code zero behind p = behind p
BehindJumps code (suc n) behind p = (q : ℕ) × JumpsTo code p q × BehindJumps code n behind q

-- This is said of the place, or of where jumps lead from it: behind what an `if` chooses stands a jump over its `else`.
abbrev pub LeadsTo : Code → (behind : ℕ → Type 0) → (p : ℕ) → Type 0
LeadsTo code behind p = (jumps : ℕ) × BehindJumps code jumps behind p

-- These parts stand one after another from a place on, and this is said of the place behind them, or of where jumps lead from
-- there.
abbrev pub StandsThen : Code → List Part → (behind : ℕ → Type 0) → (p : ℕ) → Type 0
StandsThen code [] behind p = LeadsTo code behind p
StandsThen code (first ∷ more) behind p = Stands code p (placed p first) × StandsThen code more behind (p + 4)

-- these parts stand at a place, whatever is behind them
abbrev pub StandsAt : Code → List Part → (p : ℕ) → Type 0
StandsAt code parts p = StandsThen code parts (λ q. ⊤) p

-- ---- the code of a program

-- the end service stands at address 0
abbrev pub HasEnd : Code → Type 0
HasEnd code = StandsAt code (straight (service (pos 0))) 0

-- A function's word in the table jumps to its entry, where its code stands.
pub record HasEntry (form : Form) (page : ℕ) (code : Code) (f : ℕ) (function : Function ℕ) : Type 0 where
  pub entry : ℕ
  pub aligned : entry % 4 ≡ 0
  pub table : Stands code (table_word f) (jal reg.ZERO (pos entry -ℤ pos (table_word f)))
  pub entry_code : StandsAt code (function_code form page function) entry

-- The code of a program: the end service, the table, and every function. At one address stands one instruction.
pub record IsCompiled (program : Program) (form : Form) (page : ℕ) (code : Code) : Type 0 where
  pub one : (p : ℕ) (i j : Operation) → code p i → code p j → i ≡ j
  pub ending : HasEnd code
  pub functions : (f : ℕ) (function : Function ℕ) → slice_get program.functions f ≡ Some function → HasEntry form page code f function

-- ---- the code of a rest

-- the words that an argument takes, and those of several
abbrev pub argument_size : Argument → ℕ
argument_size (word v) = 1
argument_size (slice r) = 2

abbrev pub arguments_size : List Argument → ℕ
arguments_size [] = 0
arguments_size (w ∷ ws) = argument_size w + arguments_size ws

-- The temporaries that are in use for a rest: the operands and arguments that it knows, and the address of an element
-- that is written.
abbrev pub used : List Item → ℕ
used [] = 0
used (evaluate e ∷ k) = used k
used (right o r ∷ k) = used k
used (apply o a ∷ k) = used k + 1
used (prefix o ∷ k) = used k
used (both r ∷ k) = used k
used (either r ∷ k) = used k
used (truth ∷ k) = used k
used (element a ∷ k) = used k
used (read ∷ k) = used k
used (arguments u f ws row ∷ k) = used k + arguments_size ws
used (pass u f ws row ∷ k) = used k + arguments_size ws
used (take_back ∷ k) = used k
used (store a i o ∷ k) = 1
used (_ ∷ k) = 0

-- the slot of a destination
abbrev pub destination_of : Destination → Option ℕ
destination_of None = None
destination_of (Some x) = Some x.slot

-- The code of an item that no jump to the exit depends on, by the form of its function and the temporaries that are in
-- use behind it. The last case, no code, is of the items whose code is said below.
abbrev pub item_code : (own : Form) → List Slot → Item → (d : ℕ) → List Part
item_code own slots (evaluate e) d = expression_code slots e d
item_code own slots (right o r) d = right_code slots o r d
item_code own slots (apply o a) d = straight (apply_code slots o d)
item_code own slots (prefix o) d = straight (prefix_code o)
item_code own slots (both r) d = both_code slots r d
item_code own slots (either r) d = either_code slots r d
item_code own slots truth d = straight truth_code
item_code own slots (element a) d = straight (element_code slots a)
item_code own slots read d = straight (service (pos 2))
item_code own slots (arguments u f ws row) d = arguments_code slots row d (arguments_size ws) ++ enter_code own slots u f
item_code own slots (pass u f ws row) d = pass_code slots row d (arguments_size ws) ++ enter_code own slots u f
item_code own slots take_back d = straight take_back_code
item_code own slots (deliver x) d = straight (deliver_code slots (destination_of x))
item_code own slots (declare row) d = items_code slots row
item_code own slots (assign x) d = straight (assign_code slots x)
item_code own slots (update x o) d = straight (update_code slots x o)
item_code own slots (locate a o e) d = write_code slots a o e
item_code own slots (store a i o) d = straight (store_code slots o)
item_code own slots tick d = straight tick_code
item_code own slots show d = straight (service (pos 1))
item_code own slots fall d = straight fall_code
item_code own slots _ d = []

-- behind the place where a slice is split: the two parts, and the block that has them
abbrev pub split_code : (own : Form) → List Slot → (words a l r : ℕ) → {n : _} → Row_of-Stmt ℕ n → List Part
split_code own slots words a l r row = straight (part_code slots a l r) ++ sequence_code own slots words row

-- a whole loop, with so many words from behind it to the exit
abbrev pub loop_of : (own : Form) → List Slot → (words : ℕ) → Option (Expr ℕ) → (step body : Stmt ℕ) → List Part
loop_of own slots words t s b = loop_code slots t (turn_code own slots words s b)

-- the words of a loop before its jump back
abbrev pub turn_words : (own : Form) → List Slot → (words : ℕ) → Option (Expr ℕ) → (step body : Stmt ℕ) → ℕ
turn_words own slots words None s b = length (turn_code own slots words s b) + 4
turn_words own slots words (Some t) s b = length (expression_code slots t 0) + (length (turn_code own slots words s b) + 6)

-- A frame of a machine: its address, which is just above its words; where its call goes back to; and the exit of its
-- function, to which a `return` jumps.
pub record Frame : Type 0 where
  pub address : ℕ
  pub back : ℕ
  pub exit : ℕ

-- so many words at a place end so far before the exit of the running function
abbrev pub IsBefore : List Frame → (p words : ℕ) → Type 0
IsBefore [] p words = ⊥
IsBefore (frame ∷ frames) p words = p + 4 * words ≡ frame.exit

-- the exit is here
abbrev pub IsExit : List Frame → (p : ℕ) → Type 0
IsExit frames p = IsBefore frames p 0

-- A loop stands from `top` on, and this is the place: its beginning, or a jump back to it.
abbrev pub IsTurn : Code → (top words p : ℕ) → Type 0
IsTurn code top words p = (p ≡ top) ⊎ (Stands code p (jal reg.ZERO (minus (4 * words))) × (p ≡ top + 4 * words))

-- the slots of the running function
abbrev pub slots_here : Program → (calls : List ℕ) → List Slot
slots_here program [] = []
slots_here program (f ∷ calls) = slots_in (slice_get program.functions f)

-- the form of its code
abbrev pub form_of : Form → Option (Function ℕ) → Form
form_of form None = Serial
form_of form (Some function) = form_in form function

abbrev pub form_here : Program → Form → (calls : List ℕ) → Form
form_here program form [] = Serial
form_here program form (f ∷ calls) = form_of form (slice_get program.functions f)

module _ (program : Program) (form : Form) (page : ℕ) (code : Code) where
  -- The code of a rest stands from a place on: of each item, and behind it of the others. `words` is how many words are
  -- from behind an item's code to the exit.
  abbrev pub Coded : List Item → (calls : List ℕ) → List Frame → (p : ℕ) → Type 0
  Coded [] calls frames p = (p ≡ 0) × HasEnd code
  Coded (perform s ∷ k) calls frames p = (words : ℕ)
      × IsBefore frames p (length (statement_code (form_here program form calls) (slots_here program calls) words s) + words)
      × StandsThen code (statement_code (form_here program form calls) (slots_here program calls) words s) (Coded k calls frames) p
  Coded (sequence row ∷ k) calls frames p = (words : ℕ)
      × IsBefore frames p (length (sequence_code (form_here program form calls) (slots_here program calls) words row) + words)
      × StandsThen code (sequence_code (form_here program form calls) (slots_here program calls) words row) (Coded k calls frames) p
  Coded (body row ∷ k) calls frames p = (words : ℕ)
      × IsBefore frames p (length (body_code (form_here program form calls) (slots_here program calls) words row) + words)
      × StandsThen code (body_code (form_here program form calls) (slots_here program calls) words row) (Coded k calls frames) p
  Coded (branch s o ∷ k) calls frames p = (words : ℕ)
      × IsBefore frames p (length (branch_code (form_here program form calls) (slots_here program calls) words s o) + words)
      × StandsThen code (branch_code (form_here program form calls) (slots_here program calls) words s o) (Coded k calls frames) p
  Coded (part a l r row ∷ k) calls frames p = (words : ℕ)
      × IsBefore frames p (length (split_code (form_here program form calls) (slots_here program calls) words a l r row) + words)
      × StandsThen code (split_code (form_here program form calls) (slots_here program calls) words a l r row) (Coded k calls frames) p
  Coded (turn t s b ∷ k) calls frames p = (top : ℕ) × (words : ℕ)
      × IsTurn code top (turn_words (form_here program form calls) (slots_here program calls) words t s b) p
      × IsBefore frames top (length (loop_of (form_here program form calls) (slots_here program calls) words t s b) + words)
      × StandsThen code (loop_of (form_here program form calls) (slots_here program calls) words t s b) (Coded k calls frames) top
  Coded (test t s b ∷ k) calls frames p = (top : ℕ) × (words : ℕ)
      × (p ≡ top + 4 * length (expression_code (slots_here program calls) t 0))
      × IsBefore frames top (length (loop_of (form_here program form calls) (slots_here program calls) words (Some t) s b) + words)
      × StandsThen code (loop_of (form_here program form calls) (slots_here program calls) words (Some t) s b) (Coded k calls frames) top
  Coded (exit ∷ k) calls frames p = (words : ℕ) × IsBefore frames p (1 + words)
      × StandsThen code (straight (exit_code words)) (Coded k calls frames) p
  Coded (join ∷ k) calls frames p = IsExit frames p × StandsThen code (straight (sync_code (form_here program form calls))) (Coded k calls frames) p
  Coded (end ∷ k) [] frames p = ⊥
  Coded (end ∷ k) (f ∷ calls) [] p = ⊥
  Coded (end ∷ k) (f ∷ calls) (frame ∷ frames) p =
      StandsAt code (straight (leave (call_bytes_in page (slice_get program.functions f)))) p × (frame.back % 4 ≡ 0) × (frame.back < 2 ^ 30)
      × LeadsTo code (Coded k calls frames) frame.back
  Coded (item ∷ k) calls frames p = StandsThen code (item_code (form_here program form calls) (slots_here program calls) item (used k)) (Coded k calls frames) p
