-- What the lending rule says of a piece that is under way: the rest of each of its calls obeys the rule, with the
-- variables that are lent there, and what the others stand for is at hand.
use Rattle.std.proofs.Common.{◌≡◌, ℕ, suc, ◌+◌, ◌<◌, ◌≤◌, List, [], ◌∷◌, ◌++◌, length, Option, None, Some, inl, inr}
use Rattle.std.specs.Prelude.{◌⊎◌, ⊤, true, slice_get}
use Rattle.cm_syntax.specs.declared.expr.Call.{Row_of-Arg}
use Rattle.cm_syntax.specs.declared.stmt.Slot.{Slot}
use Rattle.cm_syntax.specs.declared.stmt.Stmt.{Stmt}
use Rattle.cm_syntax.specs.declared.stmt.Program.{Program}
use Rattle.cm_syntax.specs.Walk.{mentions, Order, nothing, event, next, choice}
use Rattle.cm_syntax.specs.Evaluation.{row_slices, expression_order, row_order, items_order, rounds_order, statement_order, statements_order, body_order}
use Rattle.cm_syntax.specs.Lending.{variables}
use Rattle.cm_syntax.specs.Cell.{Cell, value_in, may_write}
use Rattle.cm_syntax.specs.Stack.{Reference, Argument, word, slice}
use Rattle.cm_syntax.specs.Rest.{Purpose, called, spawned, Item, evaluate, right, apply, prefix, both, either, truth, element, read, arguments, pass, take_back, discard, deliver, perform, sequence, body, declare, assign, update, locate, store, branch, turn, test, part, tick, show, exit, fall, join, end, Hand, entering, framing}
use Rattle.cm_syntax.specs.Step.{slots_in}
use Rattle.cm_meaning.specs.Visible.{Among, IsOpen, IsFresh, IsVisible, SeesExpression, SeesArguments, SeesOptional, SeesItems, SeesStatement, SeesSequence, SeesBody}
use Rattle.cm_meaning.proofs.LendingLaw.{Distinct, Obeys, leads_out}

-- ---- access

-- what is done with a word: it is read, or written
pub data Access : Type 0 where
  reads : Access
  writes : Access

-- the cell serves for it: there is a value to read, or the cell may be written
abbrev pub Serves : {A : Type 0} → Access → Cell A → Type 0
Serves {A = A} reads c = (v : A) × (value_in c ≡ Some v)
Serves writes c = may_write c ≡ true

-- ---- what names stand for

-- a slice that was named: its slot, and what it refers to
pub record Named : Type 0 where
  pub slot : ℕ
  pub reference : Reference

abbrev pub names : List Named → List ℕ
names [] = []
names (n ∷ known) = n.slot ∷ names known

-- the word is one of the reference's
pub record Covers (r : Reference) (e t j : ℕ) : Type 0 where
  pub depth : e ≡ r.depth
  pub slot : t ≡ r.slot
  pub from : r.start ≤ j
  pub to : j < r.start + r.length

-- one of the named slices of this slot refers to the word
abbrev pub Refers : List Named → (x : ℕ) → (e t j : ℕ) → Type 0
Refers [] x e t j = ⊥
Refers (n ∷ known) x e t j = ((n.slot ≡ x) × Covers n.reference e t j) ⊎ Refers known x e t j

-- the words that a name of the frame at a depth stands for: its own, and what it refers to
abbrev pub StandsFor : (depth : ℕ) → List Named → (x : ℕ) → (e t j : ℕ) → Type 0
StandsFor depth known x e t j = ((e ≡ depth) × (t ≡ x)) ⊎ Refers known x e t j

-- the named slices stand in their frame
abbrev pub Stand : (row : ℕ → Cell Reference) → List Named → Type 0
Stand row [] = ⊤
Stand row (n ∷ known) = (value_in (row n.slot) ≡ Some n.reference) × Stand row known

-- What is known of a call that is under way: its named slices, the wholes that are hidden, and what is lent.
pub record Ghost : Type 0 where
  pub known : List Named
  pub hidden : List ℕ
  pub lent : List ℕ

-- `Away n` are the words that the children of the calls before depth n, or what is outside of the piece, keep from an
-- access: for reading those that are *gone*, of which no share is here, for writing those that are *lent*, of which not
-- the whole is. What a call's names stand for isn't away; its own children take only lent variables; and two names that
-- are open overlap nowhere.
pub record Guards (Away : (n e t j : ℕ) → Type 0) (depth : ℕ) (g : Ghost) : Type 0 where
  pub near : (x e t j : ℕ) → StandsFor depth g.known x e t j → Away depth e t j → ⊥
  pub free : (x e t j : ℕ) → IsOpen g.hidden x → (Among g.lent x → ⊥) → StandsFor depth g.known x e t j → Away (suc depth) e t j → ⊥
  pub quiet : (x e t j : ℕ) → StandsFor depth g.known x e t j → ((y : ℕ) → IsOpen g.hidden y → StandsFor depth g.known y e t j → ⊥) → Away (suc depth) e t j → ⊥
  pub apart : (x y e t j : ℕ) → IsOpen g.hidden x → IsOpen g.hidden y → (x ≡ y → ⊥) → StandsFor depth g.known x e t j → StandsFor depth g.known y e t j → ⊥

-- ---- arguments

-- a slice among the arguments covers the word
abbrev pub CoveredBy : List Argument → (e t j : ℕ) → Type 0
CoveredBy [] e t j = ⊥
CoveredBy (word v ∷ ws) e t j = CoveredBy ws e t j
CoveredBy (slice r ∷ ws) e t j = Covers r e t j ⊎ CoveredBy ws e t j

-- what a call is passed isn't away, and no two slices overlap
abbrev pub Passes : (Away : (e t j : ℕ) → Type 0) → List Argument → Type 0
Passes Away [] = ⊤
Passes Away (word v ∷ ws) = Passes Away ws
Passes Away (slice r ∷ ws) =
    ((e t j : ℕ) → Covers r e t j → Away e t j → ⊥) × ((e t j : ℕ) → Covers r e t j → CoveredBy ws e t j → ⊥) × Passes Away ws

-- the slices among the arguments are what these names stand for, last first
abbrev pub Passed : (depth : ℕ) → List Named → (hidden : List ℕ) → (passed : List ℕ) → List Argument → Type 0
Passed depth known hidden [] [] = ⊤
Passed depth known hidden (x ∷ xs) [] = ⊥
Passed depth known hidden xs (word v ∷ ws) = Passed depth known hidden xs ws
Passed depth known hidden [] (slice r ∷ ws) = ⊥
Passed depth known hidden (x ∷ xs) (slice r ∷ ws) = ((e t j : ℕ) → Covers r e t j → StandsFor depth known x e t j) × IsOpen hidden x × Passed depth known hidden xs ws

-- names that stand last first, before others
abbrev pub onto : (xs ys : List ℕ) → List ℕ
onto [] ys = ys
onto (x ∷ xs) ys = onto xs (x ∷ ys)

-- none of the names is lent
abbrev pub IsFree : (xs lent : List ℕ) → Type 0
IsFree xs lent = (x : ℕ) → Among xs x → Among lent x → ⊥

-- A call passes these names, or a spawn lends them and its destination.
abbrev pub Invokes : Purpose → (xs : List ℕ) → (List ℕ → Type 0) → List ℕ → Type 0
Invokes called xs q lent = IsFree xs lent × Distinct xs × q lent
Invokes (spawned None) xs q lent = IsFree xs lent × Distinct xs × q (xs ++ lent)
Invokes (spawned (Some x)) xs q lent = IsFree (x ∷ xs) lent × Distinct (x ∷ xs) × q ((x ∷ xs) ++ lent)

abbrev pub SeesPurpose : (hidden : List ℕ) → Purpose → Type 0
SeesPurpose hidden called = ⊤
SeesPurpose hidden (spawned None) = ⊤
SeesPurpose hidden (spawned (Some x)) = IsOpen hidden x

-- the names of the slices in a row of arguments
abbrev pub row_names : {n : _} → Row_of-Arg ℕ n → List ℕ
row_names row = variables (row_slices row)

-- what an `if` does where its condition is 0
abbrev pub other_order : Option (Stmt ℕ) → Order
other_order None = nothing
other_order (Some s) = statement_order s

abbrev pub SeesOther : List Slot → (known hidden : List ℕ) → Option (Stmt ℕ) → Type 0
SeesOther slots known hidden None = ⊤
SeesOther slots known hidden (Some s) = SeesStatement slots known hidden s

-- ---- rests

-- At the end of a split's block: what was known and hidden outside of it. The parts cover the whole, but for words that
-- no open name stands for.
pub record Closing (depth : ℕ) (known : List Named) (hidden : List ℕ) : Type 0 where
  pub left : Named
  pub right : Named
  pub whole : ℕ
  pub outer_known : List Named
  pub outer_hidden : List ℕ
  pub known_is : known ≡ right ∷ left ∷ outer_known
  pub hidden_is : hidden ≡ whole ∷ outer_hidden
  pub left_open : IsOpen (whole ∷ outer_hidden) left.slot
  pub right_open : IsOpen (whole ∷ outer_hidden) right.slot
  pub covered : (e t j : ℕ) → StandsFor depth outer_known whole e t j
      → (StandsFor depth (right ∷ left ∷ outer_known) left.slot e t j ⊎ StandsFor depth (right ∷ left ∷ outer_known) right.slot e t j)
      ⊎ ((y : ℕ) → IsOpen (whole ∷ outer_hidden) y → StandsFor depth (right ∷ left ∷ outer_known) y e t j → ⊥)
  pub outer_apart : (x y e t j : ℕ) → IsOpen outer_hidden x → IsOpen outer_hidden y → (x ≡ y → ⊥) → StandsFor depth outer_known x e t j → StandsFor depth outer_known y e t j → ⊥

-- the closing brace mentions both parts
abbrev pub brace_order : (l r : ℕ) → Order
brace_order l r = next (event (mentions l 0)) (event (mentions r 0))

-- behind the join of the call stands its end, and then this
abbrev pub AtJoin : (after : List Item → Type 0) → List Item → Type 0
AtJoin after [] = ⊥
AtJoin after (join ∷ []) = ⊥
AtJoin after (join ∷ end ∷ k) = after k
AtJoin after (join ∷ _ ∷ k) = ⊥
AtJoin after (end ∷ k) = ⊥
AtJoin after (_ ∷ k) = AtJoin after k

-- The rest of a call up to its join obeys the rule, with what is lent.
module _ (slots : List Slot) (depth : ℕ) (after : List Item → Type 0) where
  abbrev pub Rest : List Item → (known : List Named) → (hidden : List ℕ) → (lent : List ℕ) → Type 0
  Rest [] known hidden lent = ⊥
  Rest (evaluate e ∷ k) known hidden lent = SeesExpression slots (names known) hidden e × Obeys (expression_order e) (Rest k known hidden) lent
  Rest (right o r ∷ k) known hidden lent = SeesExpression slots (names known) hidden r × Obeys (expression_order r) (Rest k known hidden) lent
  Rest (apply o v ∷ k) known hidden lent = Rest k known hidden lent
  Rest (prefix o ∷ k) known hidden lent = Rest k known hidden lent
  Rest (both r ∷ k) known hidden lent = SeesExpression slots (names known) hidden r × Obeys (choice nothing (expression_order r)) (Rest k known hidden) lent
  Rest (either r ∷ k) known hidden lent = SeesExpression slots (names known) hidden r × Obeys (choice nothing (expression_order r)) (Rest k known hidden) lent
  Rest (truth ∷ k) known hidden lent = Rest k known hidden lent
  Rest (element x ∷ k) known hidden lent = IsVisible slots (names known) hidden x × Obeys (event (mentions x 0)) (Rest k known hidden) lent
  Rest (read ∷ k) known hidden lent = Rest k known hidden lent
  Rest (arguments u f ws row ∷ k) known hidden lent = SeesPurpose hidden u × SeesArguments slots (names known) hidden row
      × ((passed : List ℕ) × Passed depth known hidden passed ws × Obeys (row_order row) (Invokes u (onto passed (row_names row)) (Rest k known hidden)) lent)
  Rest (pass u f ws row ∷ k) known hidden lent = SeesPurpose hidden u × SeesArguments slots (names known) hidden row
      × ((passed : List ℕ) × Passed depth known hidden passed ws × Obeys (row_order row) (Invokes u (onto passed (row_names row)) (Rest k known hidden)) lent)
  Rest (take_back ∷ k) known hidden lent = Rest k known hidden lent
  Rest (discard ∷ k) known hidden lent = Rest k known hidden lent
  Rest (deliver x ∷ k) known hidden lent = ⊥
  Rest (perform s ∷ k) known hidden lent = SeesStatement slots (names known) hidden s × Obeys (statement_order s) (Rest k known hidden) lent
  Rest (sequence row ∷ k) known hidden lent = SeesSequence slots (names known) hidden row
      × (Obeys (statements_order row) (Rest k known hidden) lent
      ⊎ ((c : Closing depth known hidden) × Obeys (next (statements_order row) (brace_order c.left.slot c.right.slot)) (Rest k c.outer_known c.outer_hidden) lent))
  Rest (body row ∷ k) known hidden lent = SeesBody slots (names known) hidden row × Obeys (body_order row) (Rest k known hidden) lent
  Rest (declare row ∷ k) known hidden lent = SeesItems slots (names known) hidden row × Obeys (items_order row) (Rest k known hidden) lent
  Rest (assign x ∷ k) known hidden lent = IsOpen hidden x × Obeys (event (mentions x 0)) (Rest k known hidden) lent
  Rest (update x o ∷ k) known hidden lent = IsOpen hidden x × Obeys (event (mentions x 0)) (Rest k known hidden) lent
  Rest (locate x o e ∷ k) known hidden lent = IsVisible slots (names known) hidden x × SeesExpression slots (names known) hidden e
      × Obeys (next (event (mentions x 0)) (expression_order e)) (Rest k known hidden) lent
  Rest (store x i o ∷ k) known hidden lent = IsVisible slots (names known) hidden x × Obeys (event (mentions x 0)) (Rest k known hidden) lent
  Rest (branch s o ∷ k) known hidden lent = SeesStatement slots (names known) hidden s × SeesOther slots (names known) hidden o
      × Obeys (choice (statement_order s) (other_order o)) (Rest k known hidden) lent
  Rest (turn t s b ∷ k) known hidden lent = SeesOptional slots (names known) hidden t × SeesStatement slots (names known) hidden s × SeesStatement slots (names known) hidden b
      × Obeys (rounds_order t (next (statement_order b) (statement_order s))) (Rest k known hidden) lent
  Rest (test t s b ∷ k) known hidden lent = SeesExpression slots (names known) hidden t × SeesStatement slots (names known) hidden s × SeesStatement slots (names known) hidden b
      × Rest k known hidden lent
      × Obeys (next (next (statement_order b) (statement_order s)) (rounds_order (Some t) (next (statement_order b) (statement_order s)))) (Rest k known hidden) lent
  Rest (part x l r row ∷ k) known hidden lent = IsVisible slots (names known) hidden x × IsFresh (names known) hidden x l r
      × SeesSequence slots (r ∷ l ∷ names known) (x ∷ hidden) row
      × Obeys (next (event (mentions x 0)) (next (event (mentions l 0)) (next (event (mentions r 0)) (next (statements_order row) (brace_order l r))))) (Rest k known hidden) lent
  Rest (tick ∷ k) known hidden lent = Rest k known hidden lent
  Rest (show ∷ k) known hidden lent = Rest k known hidden lent
  Rest (exit ∷ k) known hidden lent = AtJoin after k
  Rest (fall ∷ k) known hidden lent = Rest k known hidden lent
  Rest (join ∷ k) known hidden lent = AtJoin after (join ∷ k)
  Rest (end ∷ k) known hidden lent = ⊥

  -- each way through a rest leads to the join
  invoked_on : (u : Purpose) (xs : List ℕ) (q : List ℕ → Type 0) (lent : List ℕ) → Invokes u xs q lent → (m : List ℕ) × q m
  invoked_on called xs q lent h = (lent, h.2)
  invoked_on (spawned None) xs q lent h = (xs ++ lent, h.2)
  invoked_on (spawned (Some x)) xs q lent h = ((x ∷ xs) ++ lent, h.2)

  pub to_join : (k : List Item) (known : List Named) (hidden lent : List ℕ) → Rest k known hidden lent → AtJoin after k
  to_join [] known hidden lent h = h
  to_join (evaluate e ∷ k) known hidden lent h = let x = leads_out (expression_order e) (Rest k known hidden) lent h.1 in to_join k known hidden x.0 x.1
  to_join (right o r ∷ k) known hidden lent h = let x = leads_out (expression_order r) (Rest k known hidden) lent h.1 in to_join k known hidden x.0 x.1
  to_join (apply o v ∷ k) known hidden lent h = to_join k known hidden lent h
  to_join (prefix o ∷ k) known hidden lent h = to_join k known hidden lent h
  to_join (both r ∷ k) known hidden lent h = to_join k known hidden lent h.1.0
  to_join (either r ∷ k) known hidden lent h = to_join k known hidden lent h.1.0
  to_join (truth ∷ k) known hidden lent h = to_join k known hidden lent h
  to_join (element x ∷ k) known hidden lent h = to_join k known hidden lent h.1.1
  to_join (read ∷ k) known hidden lent h = to_join k known hidden lent h
  to_join (arguments u f ws row ∷ k) known hidden lent h =
      let x = leads_out (row_order row) (Invokes u (onto h.2.0 (row_names row)) (Rest k known hidden)) lent h.2.2 in
      let y = invoked_on u (onto h.2.0 (row_names row)) (Rest k known hidden) x.0 x.1 in to_join k known hidden y.0 y.1
  to_join (pass u f ws row ∷ k) known hidden lent h =
      let x = leads_out (row_order row) (Invokes u (onto h.2.0 (row_names row)) (Rest k known hidden)) lent h.2.2 in
      let y = invoked_on u (onto h.2.0 (row_names row)) (Rest k known hidden) x.0 x.1 in to_join k known hidden y.0 y.1
  to_join (take_back ∷ k) known hidden lent h = to_join k known hidden lent h
  to_join (discard ∷ k) known hidden lent h = to_join k known hidden lent h
  to_join (deliver x ∷ k) known hidden lent h = absurd h
  to_join (perform s ∷ k) known hidden lent h = let x = leads_out (statement_order s) (Rest k known hidden) lent h.1 in to_join k known hidden x.0 x.1
  to_join (sequence row ∷ k) known hidden lent h = elim h.1 [
    | inl g ↦ let x = leads_out (statements_order row) (Rest k known hidden) lent g in to_join k known hidden x.0 x.1
    | inr g ↦ let x = leads_out (next (statements_order row) (brace_order g.0.left.slot g.0.right.slot)) (Rest k g.0.outer_known g.0.outer_hidden) lent g.1 in to_join k g.0.outer_known g.0.outer_hidden x.0 x.1
  ]
  to_join (body row ∷ k) known hidden lent h = let x = leads_out (body_order row) (Rest k known hidden) lent h.1 in to_join k known hidden x.0 x.1
  to_join (declare row ∷ k) known hidden lent h = let x = leads_out (items_order row) (Rest k known hidden) lent h.1 in to_join k known hidden x.0 x.1
  to_join (assign x ∷ k) known hidden lent h = to_join k known hidden lent h.1.1
  to_join (update x o ∷ k) known hidden lent h = to_join k known hidden lent h.1.1
  to_join (locate x o e ∷ k) known hidden lent h = let x = leads_out (expression_order e) (Rest k known hidden) lent h.2.1 in to_join k known hidden x.0 x.1
  to_join (store x i o ∷ k) known hidden lent h = to_join k known hidden lent h.1.1
  to_join (branch s o ∷ k) known hidden lent h = let x = leads_out (choice (statement_order s) (other_order o)) (Rest k known hidden) lent h.2 in to_join k known hidden x.0 x.1
  to_join (turn t s b ∷ k) known hidden lent h = let x = leads_out (rounds_order t (next (statement_order b) (statement_order s))) (Rest k known hidden) lent h.3 in to_join k known hidden x.0 x.1
  to_join (test t s b ∷ k) known hidden lent h = to_join k known hidden lent h.3
  to_join (part x l r row ∷ k) known hidden lent h =
      let x = leads_out (next (event (mentions x 0)) (next (event (mentions l 0)) (next (event (mentions r 0)) (next (statements_order row) (brace_order l r))))) (Rest k known hidden) lent h.3 in to_join k known hidden x.0 x.1
  to_join (tick ∷ k) known hidden lent h = to_join k known hidden lent h
  to_join (show ∷ k) known hidden lent h = to_join k known hidden lent h
  to_join (exit ∷ k) known hidden lent h = h
  to_join (fall ∷ k) known hidden lent h = to_join k known hidden lent h
  to_join (join ∷ k) known hidden lent h = h
  to_join (end ∷ k) known hidden lent h = absurd h

-- ---- calls under way

module _ (program : Program) where
  abbrev pub slots_of : (f : ℕ) → List Slot
  slots_of f = slots_in (slice_get program.functions f)

  -- the rests of the calls of a piece, last first; its first call has nothing behind it
  abbrev pub Chain : (calls : List ℕ) → List Ghost → List Item → Type 0
  Chain calls [] k = k ≡ []
  Chain [] (g ∷ ghosts) k = ⊥
  Chain (f ∷ calls) (g ∷ ghosts) k = Rest (slots_of f) (length calls) (Chain calls ghosts) k g.known g.hidden g.lent

  -- with what is at hand
  abbrev pub Going : (calls : List ℕ) → List Ghost → Hand → List Item → Type 0
  Going calls ghosts (entering f ws) k = Chain calls ghosts k
  Going calls ghosts (framing f ws) k = Chain calls ghosts k
  Going (f ∷ calls) (g ∷ ghosts) hand (end ∷ k) = Chain calls ghosts k
  Going calls ghosts hand k = Chain calls ghosts k

-- each call of a piece is guarded, for each access
abbrev pub Frames : (Away : Access → (n e t j : ℕ) → Type 0) → (refs : ℕ → ℕ → Cell Reference) → (calls : List ℕ) → List Ghost → Type 0
Frames Away refs calls [] = ⊤
Frames Away refs [] (g ∷ ghosts) = ⊥
Frames Away refs (f ∷ calls) (g ∷ ghosts) = ((access : Access) → Guards (Away access) (length calls) g) × Stand (refs (length calls)) g.known × Frames Away refs calls ghosts

-- what a call at hand is passed
abbrev pub PassesAt : (Away : Access → (n e t j : ℕ) → Type 0) → (calls : List ℕ) → Hand → Type 0
PassesAt Away calls (entering f ws) = (access : Access) → Passes (Away access (length calls)) ws
PassesAt Away calls (framing f ws) = (access : Access) → Passes (Away access (length calls)) ws
PassesAt Away calls _ = ⊤
