-- The states for which code is proved: those of a run of a sound program, as a whole or as a strand of it. It is one
-- record, which holds at the start and which every step keeps.
use Rattle.std.specs.Prelude.{◌≡◌, ℕ, ◌+◌, ◌^◌, ◌<◌, ◌≤◌, ⊤, max, Bool, true, ℤ, Option, None, Some, FitsSigned, List, [], ◌∷◌, length, slice_get, Contains}
use Rattle.std.specs.Int.{w32}
use Rattle.cm_syntax.specs.declared.expr.Expr.{Expr}
use Rattle.cm_syntax.specs.declared.stmt.Stmt.{Stmt}
use Rattle.cm_syntax.specs.declared.stmt.Function.{Function}
use Rattle.cm_syntax.specs.declared.stmt.Program.{Program}
use Rattle.cm_syntax.specs.Fault.{IsSoundProgram}
use Rattle.cm_syntax.specs.Frame.{slots_words, temporaries, arguments_words, arguments_temporaries, optional_temporaries, items_temporaries, statement_temporaries, statements_temporaries, body_temporaries}
use Rattle.cm_syntax.specs.Label.{silent, ticks, prints, spawns, syncs}
use Rattle.cm_syntax.specs.Cell.{Cell, value_in, CellSum}
use Rattle.cm_syntax.specs.Stack.{Stack, Destination, Argument, word, slice}
use Rattle.cm_syntax.specs.Rest.{Purpose, called, spawned, Item, evaluate, right, apply, prefix, both, either, truth, element, read, arguments, pass, take_back, deliver, perform, sequence, body, declare, locate, store, branch, turn, test, part, tick, join, end, Hand, idle, holds, returned, entering, framing, Control}
use Rattle.cm_syntax.specs.Step.{Move, inside}
use Rattle.cm_meaning.specs.Activation.{IsSettled}
use Rattle.cm_meaning.specs.TypedState.{TypedState}
use Rattle.cm_maps.specs.Pages.{IsPage}
use Rattle.cm_gen.specs.Standing.{used, arguments_size, slots_here}
use Rattle.cm_gen.specs.FrameWord.{words_in, taken}
use Rattle.cm_gen.specs.Literal.{LiteralsFit, RowLiteralsFit, OptionLiteralsFit, ItemsLiteralsFit, StatementLiteralsFit, SequenceLiteralsFit, BodyLiteralsFit}

-- ---- what is fixed in a run

-- The premises of the laws: the program is sound, the page is one of the three sizes, the stack fits below its top, and
-- the numbers of the input are words.
pub record Runs (program : Program) (page limit : ℕ) (input : List ℤ) : Type 0 where
  pub sound : IsSoundProgram program
  pub page_is : IsPage page
  pub limit_fits : limit ≤ 2 ^ 30
  pub count_fits : length input < 2 ^ 31
  pub numbers_fit : (v : ℤ) → Contains input v → FitsSigned w32 v

-- ---- a strand's state as a part of the elision's

-- one cell makes another one together with some third
abbrev pub IsPart : {A : Type 0} → Cell A → Cell A → Type 0
IsPart {A = A} a c = (b : Cell A) × CellSum a b c

-- a stack holds what another one does, or less
pub record IsPartOf (h whole : Stack) : Type 0 where
  pub words : (d s i : ℕ) → IsPart (h.words d s i) (whole.words d s i)
  pub references : (d s : ℕ) → IsPart (h.references d s) (whole.references d s)

-- where a call is done: alone, or before a continuation to which its value goes
pub data Within : Type 0 where
  alone : Within
  before : Destination → (continuation : Control) → Within

abbrev pub within : Within → Control → Control
within alone c = c
within (before x k) c = inside c x k

-- ---- temporaries, and what calls give

-- a function gives a value
abbrev pub Gives : Option (Function ℕ) → Type 0
Gives None = ⊥
Gives (Some function) = function.gives ≡ true

-- where a call's value goes to a destination, the function gives one
abbrev pub GivesBack : List Item → Option (Function ℕ) → Type 0
GivesBack (deliver (Some x) ∷ k) callee = Gives callee
GivesBack _ callee = ⊤

-- Behind the arguments of a call: the call goes on to the rest; or it is spawned, and no operand is in use.
abbrev pub GivesTo : Purpose → List Item → Option (Function ℕ) → Type 0
GivesTo called k callee = GivesBack k callee
GivesTo (spawned None) k callee = used k ≡ 0
GivesTo (spawned (Some x)) k callee = (used k ≡ 0) × Gives callee

-- no value is delivered first
abbrev pub IsNoDelivery : List Item → Type 0
IsNoDelivery (deliver x ∷ k) = ⊥
IsNoDelivery _ = ⊤

-- the temporaries of a loop
abbrev pub loop_temporaries : Option (Expr ℕ) → (step body : Stmt ℕ) → ℕ
loop_temporaries t s b = max (optional_temporaries t) (max (statement_temporaries s) (statement_temporaries b))

-- those of what an `if` does where its condition is 0
abbrev pub other_temporaries : Option (Stmt ℕ) → ℕ
other_temporaries None = 0
other_temporaries (Some s) = statement_temporaries s

-- those of an item that begins with none in use
abbrev pub own_temporaries : Item → ℕ
own_temporaries (perform s) = statement_temporaries s
own_temporaries (sequence row) = statements_temporaries row
own_temporaries (body row) = body_temporaries row
own_temporaries (declare row) = items_temporaries row
own_temporaries (locate a o e) = temporaries e 1
own_temporaries (store a i o) = 1
own_temporaries (branch s o) = max (statement_temporaries s) (other_temporaries o)
own_temporaries (turn t s b) = loop_temporaries t s b
own_temporaries (test t s b) = loop_temporaries (Some t) s b
own_temporaries (part a l r row) = statements_temporaries row
own_temporaries _ = 0

-- ---- words

-- the values among arguments are words
abbrev pub AreWords : List Argument → Type 0
AreWords [] = ⊤
AreWords (word v ∷ ws) = FitsSigned w32 v × AreWords ws
AreWords (slice r ∷ ws) = AreWords ws

-- the literals of what an `if` does where its condition is 0
abbrev pub OtherLiteralsFit : Option (Stmt ℕ) → Type 0
OtherLiteralsFit None = ⊤
OtherLiteralsFit (Some s) = StatementLiteralsFit s

-- those of a loop
abbrev pub LoopLiteralsFit : Option (Expr ℕ) → (step body : Stmt ℕ) → Type 0
LoopLiteralsFit t s b = OptionLiteralsFit t × StatementLiteralsFit s × StatementLiteralsFit b

-- the literals, operands and arguments of an item are words, and no array that it declares is empty
abbrev pub HasWords : Item → Type 0
HasWords (evaluate e) = LiteralsFit e
HasWords (right o r) = LiteralsFit r
HasWords (apply o a) = FitsSigned w32 a
HasWords (both r) = LiteralsFit r
HasWords (either r) = LiteralsFit r
HasWords (arguments u f ws row) = AreWords ws × RowLiteralsFit row
HasWords (pass u f ws row) = AreWords ws × RowLiteralsFit row
HasWords (perform s) = StatementLiteralsFit s
HasWords (sequence row) = SequenceLiteralsFit row
HasWords (body row) = BodyLiteralsFit row
HasWords (declare row) = ItemsLiteralsFit row
HasWords (locate a o e) = LiteralsFit e
HasWords (branch s o) = StatementLiteralsFit s × OtherLiteralsFit o
HasWords (turn t s b) = LoopLiteralsFit t s b
HasWords (test t s b) = LoopLiteralsFit (Some t) s b
HasWords (part a l r row) = SequenceLiteralsFit row
HasWords _ = ⊤

-- and so those of a rest
abbrev pub RestHasWords : List Item → Type 0
RestHasWords [] = ⊤
RestHasWords (item ∷ k) = HasWords item × RestHasWords k

module _ (program : Program) (page : ℕ) where
  -- the frame of the running function has so many temporaries
  abbrev pub HasRoom : (calls : List ℕ) → (count : ℕ) → Type 0
  HasRoom [] count = ⊥
  HasRoom (f ∷ calls) count = 2 + slots_words (slots_here program (f ∷ calls)) + count ≤ words_in (slice_get program.functions f)

  -- An item before a rest fits the running frame: it has the temporaries that it takes, and no operand is in use where a
  -- statement begins.
  abbrev pub ItemFits : Item → List Item → (calls : List ℕ) → Type 0
  ItemFits (evaluate e) k calls = HasRoom calls (temporaries e (used k))
  ItemFits (right o r) k calls = HasRoom calls (max (used k + 1) (temporaries r (used k + 1)))
  ItemFits (apply o a) k calls = HasRoom calls (used k + 1)
  ItemFits (prefix o) k calls = ⊤
  ItemFits (both r) k calls = HasRoom calls (temporaries r (used k))
  ItemFits (either r) k calls = HasRoom calls (temporaries r (used k))
  ItemFits truth k calls = ⊤
  ItemFits (element a) k calls = ⊤
  ItemFits read k calls = ⊤
  ItemFits (arguments u f ws row) k calls = HasRoom calls (max (used k + arguments_size ws + arguments_words row) (arguments_temporaries row (used k + arguments_size ws)))
      × GivesTo u k (slice_get program.functions f)
  ItemFits (pass u f ws row) k calls = HasRoom calls (max (used k + arguments_size ws + 1 + arguments_words row) (arguments_temporaries row (used k + arguments_size ws + 1)))
      × GivesTo u k (slice_get program.functions f)
  ItemFits take_back k calls = ⊤
  ItemFits tick k calls = (used k ≡ 0) × IsNoDelivery k
  ItemFits join k calls = (used k ≡ 0) × IsNoDelivery k
  ItemFits item k calls = (used k ≡ 0) × HasRoom calls (own_temporaries item)

  -- a rest fits its frames
  abbrev pub RestFits : List Item → (calls : List ℕ) → Type 0
  RestFits [] calls = ⊤
  RestFits (end ∷ k) [] = ⊥
  RestFits (end ∷ k) (f ∷ calls) = GivesBack k (slice_get program.functions f) × RestFits k calls
  RestFits (item ∷ k) calls = ItemFits item k calls × RestFits k calls

  -- what is at hand fits a rest that waits for it, and its values are words
  abbrev pub HandFits : Hand → List Item → Type 0
  HandFits (entering f ws) k = AreWords ws × GivesBack k (slice_get program.functions f)
  HandFits (framing f ws) k = AreWords ws × GivesBack k (slice_get program.functions f)
  HandFits (returned None) (deliver (Some x) ∷ k) = ⊥
  HandFits (returned None) k = ⊤
  HandFits (returned (Some v)) k = FitsSigned w32 v
  HandFits (holds v) k = FitsSigned w32 v
  HandFits idle k = ⊤

  module _ (limit : ℕ) where
    -- The state of a strand. It is a part of a typed state of the elision; its rest ends its frames one by one; its words are
    -- words, and so are the literals, operands and arguments of its rest; the account is what the calls left of the stack; and
    -- its rest fits its frames.
    pub record Formed (c : Control) (h : Stack) : Type 0 where
      pub gives : Bool
      pub context : Within
      pub whole : Stack
      pub typed : TypedState program gives (within context c) whole
      pub is_part : IsPartOf h whole
      pub settled : IsSettled c h
      pub small : (d s i : ℕ) (v : ℤ) → value_in (h.words d s i) ≡ Some v → FitsSigned w32 v
      pub words : RestHasWords c.rest
      pub balance : c.account + taken program page c.calls ≡ limit
      pub fits : RestFits c.rest c.calls
      pub hand_fits : HandFits c.hand c.rest

    -- a step keeps it
    abbrev pub KeepsFormed : (h : Stack) → Move → Type 0
    KeepsFormed h (silent c g) = Formed c g
    KeepsFormed h (ticks c g) = Formed c g
    KeepsFormed h (prints v c g) = Formed c g
    KeepsFormed h (spawns child lent x c kept) = Formed child lent × Formed c kept × Formed (inside child x c) h
    KeepsFormed h (syncs c) = Formed c h
    KeepsFormed h _ = ⊤
