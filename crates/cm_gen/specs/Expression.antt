-- The code of expressions. Its value goes to VALUE; d temporaries are in use before. What stands behind the left operand
-- of an operator, behind an index and so on has a name of its own, since a rest may begin there.
use Rattle.std.specs.Prelude.{ℕ, zero, suc, ◌+◌, ◌*◌, ℤ, pos, ◌+ℤ◌, if◌then◌else◌, Option, None, Some, List, [], ◌∷◌, ◌++◌, length}
use Rattle.cm_isa.specs.Bits.{minus}
use Rattle.cm_isa.specs.Operation.{Operation}
use Rattle.cm_isa.specs.declared.convention.TheConstants as reg
use Rattle.cm_syntax.specs.declared.expr.Op.{Op}
use Rattle.cm_syntax.specs.declared.expr.Op.TheVariants as op
use Rattle.cm_syntax.specs.declared.expr.Expr.{Expr}
use Rattle.cm_syntax.specs.declared.expr.Expr.TheVariants as expression
use Rattle.cm_syntax.specs.declared.expr.Arg.TheVariants as argument
use Rattle.cm_syntax.specs.declared.expr.Call.{Row_of-Arg, end_of-Arg, more_of-Arg}
use Rattle.cm_syntax.specs.declared.stmt.Slot.{Slot}
use Rattle.cm_syntax.specs.declared.stmt.Extent.{Extent}
use Rattle.cm_syntax.specs.declared.stmt.Extent.TheVariants as extent
use Rattle.cm_syntax.specs.Extent.{extent_at}
use Rattle.cm_syntax.specs.Shape.{Joined, Prefixed, Element, InputAt}
use Rattle.cm_syntax.specs.Frame.{slot_words, slots_words}
use Rattle.cm_gen.specs.Assembler.{lui, addi, add, sub, mul, div, rem, and, or, xor, xori, sll, sra, slli, slt, sltu, sltiu, lw, jal, bne, beq, bltu}
use Rattle.cm_gen.specs.Code.{is_near, low_part, high_part, load_number, load_slot, store_slot, service, temporary}
use Rattle.cm_gen.specs.Part.{Part, call, straight}

-- ---- the places of a frame

-- the words of the slots up to one, this one with them
abbrev pub words_through : List Slot → (x : ℕ) → ℕ
words_through [] x = 0
words_through (first ∷ more) zero = slot_words first
words_through (first ∷ more) (suc x) = slot_words first + words_through more x

-- the offset of a slot's lowest word from the frame pointer
abbrev pub slot_offset : List Slot → (x : ℕ) → ℤ
slot_offset slots x = minus (4 * (2 + words_through slots x))

-- the offset of temporary j
abbrev pub temporary_offset : List Slot → (j : ℕ) → ℤ
temporary_offset slots j = temporary (slots_words slots) j

-- the register takes the address at an offset from the frame pointer
abbrev pub load_address : (r : ℕ) → (offset : ℤ) → List Operation
load_address r o = if is_near o then addi r reg.FP o ∷ [] else lui r (high_part o) ∷ addi r r (low_part o) ∷ add r r reg.FP ∷ []

-- ---- jumps

-- a jump over so many words
abbrev pub skip : (words : ℕ) → List Operation
skip n = jal reg.ZERO (pos (4 * suc n)) ∷ []

-- a jump back over so many words before it
abbrev pub back_over : (words : ℕ) → List Operation
back_over n = jal reg.ZERO (minus (4 * n)) ∷ []

-- a jump over so many words where VALUE is 0
abbrev pub skip_unless : (words : ℕ) → List Operation
skip_unless n = bne reg.VALUE reg.ZERO (pos 8) ∷ skip n

-- a jump over so many words where VALUE isn't 0
abbrev pub skip_if : (words : ℕ) → List Operation
skip_if n = beq reg.VALUE reg.ZERO (pos 8) ∷ skip n

-- ---- operators

-- Behind a division's test: where the divisor in VALUE is 0, service 7 ends the run with the trap `divide`.
abbrev pub test_divisor : List Operation
test_divisor = bne reg.VALUE reg.ZERO (pos 12) ∷ service (pos 7)

-- A binary operator with its left operand in LEFT and its right one in VALUE. Unary operators and those that stop early
-- have no code here: no update of a sound program has them, and expressions have code of their own for them.
abbrev pub operator_code : Op → List Operation
operator_code op.Mul = mul reg.VALUE reg.LEFT reg.VALUE ∷ []
operator_code op.Div = test_divisor ++ div reg.VALUE reg.LEFT reg.VALUE ∷ []
operator_code op.Rem = test_divisor ++ rem reg.VALUE reg.LEFT reg.VALUE ∷ []
operator_code op.Add = add reg.VALUE reg.LEFT reg.VALUE ∷ []
operator_code op.Sub = sub reg.VALUE reg.LEFT reg.VALUE ∷ []
operator_code op.Shl = sll reg.VALUE reg.LEFT reg.VALUE ∷ []
operator_code op.Shr = sra reg.VALUE reg.LEFT reg.VALUE ∷ []
operator_code op.Lt = slt reg.VALUE reg.LEFT reg.VALUE ∷ []
operator_code op.Le = slt reg.VALUE reg.VALUE reg.LEFT ∷ xori reg.VALUE reg.VALUE (pos 1) ∷ []
operator_code op.Gt = slt reg.VALUE reg.VALUE reg.LEFT ∷ []
operator_code op.Ge = slt reg.VALUE reg.LEFT reg.VALUE ∷ xori reg.VALUE reg.VALUE (pos 1) ∷ []
operator_code op.Eq = sub reg.VALUE reg.LEFT reg.VALUE ∷ sltiu reg.VALUE reg.VALUE (pos 1) ∷ []
operator_code op.Ne = sub reg.VALUE reg.LEFT reg.VALUE ∷ sltu reg.VALUE reg.ZERO reg.VALUE ∷ []
operator_code op.And = and reg.VALUE reg.LEFT reg.VALUE ∷ []
operator_code op.Xor = xor reg.VALUE reg.LEFT reg.VALUE ∷ []
operator_code op.Or = or reg.VALUE reg.LEFT reg.VALUE ∷ []
operator_code _ = []

-- a unary operator on VALUE; no sound program has another one before an operand
abbrev pub prefix_code : Op → List Operation
prefix_code op.Neg = sub reg.VALUE reg.ZERO reg.VALUE ∷ []
prefix_code op.Not = sltiu reg.VALUE reg.VALUE (pos 1) ∷ []
prefix_code op.Flip = xori reg.VALUE reg.VALUE (minus 1) ∷ []
prefix_code _ = []

-- `&&` and `||` have the value 1 for all but 0
abbrev pub truth_code : List Operation
truth_code = sltu reg.VALUE reg.ZERO reg.VALUE ∷ []

-- behind the right operand of another operator: the left one comes from its temporary
abbrev pub apply_code : List Slot → Op → (d : ℕ) → List Operation
apply_code slots o d = load_slot reg.LEFT (temporary_offset slots d) ++ operator_code o

-- ---- slices

-- LEFT takes the address of a slot's first word and HELP the number of its words; of a slice, of the words that it
-- refers to. A mention of a slot that isn't there has no code, and no sound program has one.
abbrev pub base_for : Option Extent → (offset : ℤ) → List Operation
base_for None o = []
base_for (Some extent.Word) o = load_address reg.LEFT o ++ load_number reg.HELP (pos 1)
base_for (Some (extent.Words n)) o = load_address reg.LEFT o ++ load_number reg.HELP (pos n)
base_for (Some extent.Reference) o = load_slot reg.LEFT o ++ load_slot reg.HELP (o +ℤ pos 4)

-- the same by the slot's number
abbrev pub base : List Slot → (a : ℕ) → List Operation
base slots a = base_for (extent_at slots a) (slot_offset slots a)

-- VALUE takes the number of words
abbrev pub length_for : Option Extent → (offset : ℤ) → List Operation
length_for None o = []
length_for (Some extent.Word) o = load_number reg.VALUE (pos 1)
length_for (Some (extent.Words n)) o = load_number reg.VALUE (pos n)
length_for (Some extent.Reference) o = load_slot reg.VALUE (o +ℤ pos 4)

-- the same by the slot's number
abbrev pub length_code : List Slot → (a : ℕ) → List Operation
length_code slots a = length_for (extent_at slots a) (slot_offset slots a)

-- behind an index in VALUE: it becomes the address of the element; where there is none, service 8 ends the run with the
-- trap `index`
abbrev pub locate_code : List Slot → (a : ℕ) → List Operation
locate_code slots a =
    base slots a ++ (bltu reg.VALUE reg.HELP (pos 12) ∷ (service (pos 8) ++ slli reg.VALUE reg.VALUE (pos 2) ∷ add reg.VALUE reg.VALUE reg.LEFT ∷ []))

-- behind an index in VALUE: it becomes the word of the element
abbrev pub element_code : List Slot → (a : ℕ) → List Operation
element_code slots a = locate_code slots a ++ lw reg.VALUE reg.VALUE (pos 0) ∷ []

-- ---- arguments

-- a value that is an argument goes to its temporary
abbrev pub keep_word : List Slot → (j : ℕ) → List Operation
keep_word slots j = store_slot reg.VALUE (temporary_offset slots j)

-- so does a slice: its address and its number of words
abbrev pub keep_slice : List Slot → (a j : ℕ) → List Operation
keep_slice slots a j = base slots a
    ++ (addi reg.VALUE reg.HELP (pos 0) ∷ (store_slot reg.LEFT (temporary_offset slots j) ++ store_slot reg.VALUE (temporary_offset slots (j + 1))))

-- and so does the slice of one scalar
abbrev pub keep_scalar : List Slot → (x j : ℕ) → List Operation
keep_scalar slots x j = load_address reg.LEFT (slot_offset slots x)
    ++ (store_slot reg.LEFT (temporary_offset slots j) ++ (load_number reg.VALUE (pos 1) ++ store_slot reg.VALUE (temporary_offset slots (j + 1))))

-- so many words, from temporary j on, go to registers, from register r on
abbrev pub hand_over : List Slot → (j r count : ℕ) → List Operation
hand_over slots j r zero = []
hand_over slots j r (suc count) = load_slot r (temporary_offset slots j) ++ hand_over slots (j + 1) (r + 1) count

-- what a call came back with becomes VALUE
abbrev pub take_back_code : List Operation
take_back_code = addi reg.VALUE reg.RESULT (pos 0) ∷ []

-- ---- expressions

-- behind the left operand of `&&`, of `||`, and of another operator, with the code of the right one
abbrev pub both_of : (right : List Part) → List Part
both_of right = straight (skip_unless (length right)) ++ (right ++ straight truth_code)

abbrev pub either_of : (right : List Part) → List Part
either_of right = straight (skip_if (length right)) ++ (right ++ straight truth_code)

abbrev pub right_of : List Slot → Op → (d : ℕ) → (right : List Part) → List Part
right_of slots o d right = straight (keep_word slots d) ++ (right ++ straight (apply_code slots o d))

abbrev mutual
  -- an expression
  pub expression_code : List Slot → Expr ℕ → (d : ℕ) → List Part
  expression_code slots (expression.Number n) d = straight (load_number reg.VALUE n)
  expression_code slots (expression.Scalar x) d = straight (load_slot reg.VALUE (slot_offset slots x.name))
  expression_code slots (Element a index) d = expression_code slots index d ++ straight (element_code slots a.name)
  expression_code slots (expression.Len a) d = straight (length_code slots a.name)
  expression_code slots (InputAt index) d = expression_code slots index d ++ straight (service (pos 2))
  expression_code slots expression.Inputs d = straight (service (pos 3))
  expression_code slots (Prefixed o e) d = expression_code slots e d ++ straight (prefix_code o)
  expression_code slots (Joined op.Both l r) d = expression_code slots l d ++ both_of (expression_code slots r d)
  expression_code slots (Joined op.Either l r) d = expression_code slots l d ++ either_of (expression_code slots r d)
  expression_code slots (Joined o l r) d = expression_code slots l d ++ right_of slots o d (expression_code slots r (d + 1))
  expression_code slots (expression.Call' f _ row) d = arguments_code slots row d 0 ++ (call f.name ∷ straight take_back_code)

  -- the arguments of a call that are still to come, w words after the first one's, which has temporary d; then all words
  -- go to the registers
  pub arguments_code : List Slot → {n : _} → Row_of-Arg ℕ n → (d w : ℕ) → List Part
  arguments_code slots end_of-Arg d w = straight (hand_over slots d reg.RESULT w)
  arguments_code slots (more_of-Arg (argument.Value e) more) d w =
      expression_code slots e (d + w) ++ (straight (keep_word slots (d + w)) ++ arguments_code slots more d (w + 1))
  arguments_code slots (more_of-Arg (argument.Slice a) more) d w = straight (keep_slice slots a.name (d + w)) ++ arguments_code slots more d (w + 2)
  arguments_code slots (more_of-Arg (argument.Address x) more) d w = straight (keep_scalar slots x.name (d + w)) ++ arguments_code slots more d (w + 2)

-- behind the left operand of `&&`, of `||`, and of another operator
abbrev pub both_code : List Slot → Expr ℕ → (d : ℕ) → List Part
both_code slots r d = both_of (expression_code slots r d)

abbrev pub either_code : List Slot → Expr ℕ → (d : ℕ) → List Part
either_code slots r d = either_of (expression_code slots r d)

abbrev pub right_code : List Slot → Op → Expr ℕ → (d : ℕ) → List Part
right_code slots o r d = right_of slots o d (expression_code slots r (d + 1))

-- behind a value that is an argument: it is kept, and the others come
abbrev pub pass_code : List Slot → {n : _} → Row_of-Arg ℕ n → (d w : ℕ) → List Part
pass_code slots more d w = straight (keep_word slots (d + w)) ++ arguments_code slots more d (w + 1)
