-- The most words of each pattern of the code, whatever the frame, and what they come to for parts of some weight: 24 words for
-- each unit of it, with six to spare where an expression stands.
use Rattle.std.proofs.Common.{◌≡◌, ℕ, zero, suc, ◌+◌, ◌*◌, ◌≤◌, Bool, true, false, Option, None, Some, List, [], ◌∷◌, ◌++◌, length, sym, ap, ◌∙◌, subst, arith, length-append}
use Rattle.std.specs.Prelude.{pos, ℤ, ◌+ℤ◌, if◌then◌else◌}
use Rattle.cm_isa.specs.Operation.{Operation}
use Rattle.cm_isa.specs.declared.convention.TheConstants as reg
use Rattle.cm_syntax.specs.declared.expr.Op.{Op}
use Rattle.cm_syntax.specs.declared.expr.Op.TheVariants as op
use Rattle.cm_syntax.specs.declared.expr.Expr.{Expr}
use Rattle.cm_syntax.specs.declared.expr.Expr.TheVariants as expression
use Rattle.cm_syntax.specs.declared.expr.Arg.{Arg}
use Rattle.cm_syntax.specs.declared.expr.Call.{Call, items_hidden-the_row-Arg-1}
use Rattle.cm_syntax.specs.declared.stmt.Slot.{Slot}
use Rattle.cm_syntax.specs.Extent.{extent_at}
use Rattle.cm_syntax.specs.declared.stmt.Extent.{Extent}
use Rattle.cm_syntax.specs.declared.stmt.Extent.TheVariants as extent
use Rattle.cm_syntax.specs.Shape.{Joined}
use Rattle.cm_syntax.specs.Rest.{Purpose, called, spawned}
use Rattle.cm_syntax.proofs.Rows.{row_of_call}
use Rattle.cm_gen.specs.declared.form.Form.{Form}
use Rattle.cm_gen.specs.declared.form.Form.TheVariants.{Serial, Cilk}
use Rattle.cm_gen.specs.Part.{Part, call, straight, table_word}
use Rattle.cm_gen.specs.Code.{is_near, load_number, load_slot, store_slot, service, tick, entry, leave}
use Rattle.cm_gen.specs.Expression.{slot_offset, temporary_offset, load_address, operator_code, prefix_code, truth_code, apply_code, base, length_code, locate_code, element_code, keep_word, keep_slice, keep_scalar, hand_over, take_back_code, both_of, either_of, right_of, expression_code, base_for, length_for}
use Rattle.cm_gen.specs.Statement.{clear_words_code, clear_array_code, assign_code, update_code, store_code, enter_code, invoke_code, sync_code, loop_words, store_pair, part_code, optional_code, item_for}
use Rattle.cm_gen.specs.Image.{parameter_for}
use Rattle.cm_gen.specs.Fits.{list_code}
use Rattle.cm_gen.proofs.parts.ExpressionLaw.{list_of_row-code}
use Rattle.cm_gen.proofs.sizes.SizeLaw.{length-straight}

-- ---- patterns

-- at most so many instructions
pub record Words (n : ℕ) (code : List Operation) : Type 0 where
  pub most : length code ≤ n

pub written : (n : ℕ) (code : List Operation) → length code ≤ n → Words n code
written n code le = record { most = le }

pub joined : {m n : ℕ} {x y : List Operation} → Words m x → Words n y → Words (m + n) (x ++ y)
joined {x = x} {y = y} h k = record { most = omega (arith, h.most, k.most, length-append x y) }

pub wide : {m n : ℕ} {x : List Operation} → Words m x → m ≤ n → Words n x
wide h le = record { most = omega (arith, h.most, le) }

pub by_near : {n : ℕ} (b : Bool) {x y : List Operation} → Words n x → Words n y → Words n (if b then x else y)
by_near true h k = h
by_near false h k = k

pub number : (r : ℕ) (v : ℤ) → Words 2 (load_number r v)
number r v = by_near (is_near v) (written 2 _ (omega arith)) (written 2 _ (omega arith))

pub load : (r : ℕ) (o : ℤ) → Words 3 (load_slot r o)
load r o = by_near (is_near o) (written 3 _ (omega arith)) (written 3 _ (omega arith))

pub store : (r : ℕ) (o : ℤ) → Words 3 (store_slot r o)
store r o = by_near (is_near o) (written 3 _ (omega arith)) (written 3 _ (omega arith))

pub address : (r : ℕ) (o : ℤ) → Words 3 (load_address r o)
address r o = by_near (is_near o) (written 3 _ (omega arith)) (written 3 _ (omega arith))

pub operator : (o : Op) → Words 4 (operator_code o)
operator op.Div = written 4 _ (omega arith)
operator o = written 4 _ (omega arith)

pub prefix : (o : Op) → Words 1 (prefix_code o)
prefix op.Neg = written 1 _ (omega arith)
prefix o = written 1 _ (omega arith)

pub base_of : (s : Option Extent) (o : ℤ) → Words 6 (base_for s o)
base_of None o = written 6 _ (omega arith)
base_of (Some extent.Word) o = wide (joined (address reg.LEFT o) (number reg.HELP (pos 1))) (omega arith)
base_of (Some (extent.Words n)) o = wide (joined (address reg.LEFT o) (number reg.HELP (pos n))) (omega arith)
base_of (Some extent.Reference) o = joined (load reg.LEFT o) (load reg.HELP (o +ℤ pos 4))

pub base_words : (slots : List Slot) (a : ℕ) → Words 6 (base slots a)
base_words slots a = base_of (extent_at slots a) (slot_offset slots a)

pub length_of : (s : Option Extent) (o : ℤ) → Words 3 (length_for s o)
length_of None o = written 3 _ (omega arith)
length_of (Some extent.Word) o = wide (number reg.VALUE (pos 1)) (omega arith)
length_of (Some (extent.Words n)) o = wide (number reg.VALUE (pos n)) (omega arith)
length_of (Some extent.Reference) o = load reg.VALUE (o +ℤ pos 4)

pub locate : (slots : List Slot) (a : ℕ) → Words 11 (locate_code slots a)
locate slots a = joined (base_words slots a) (written 5 _ (omega arith))

pub element : (slots : List Slot) (a : ℕ) → Words 12 (element_code slots a)
element slots a = joined (locate slots a) (written 1 _ (omega arith))

pub keep : (slots : List Slot) (j : ℕ) → Words 3 (keep_word slots j)
keep slots j = store reg.VALUE (temporary_offset slots j)

pub put : (i : Operation) {n : ℕ} {is : List Operation} → Words n is → Words (n + 1) (i ∷ is)
put i h = record { most = omega (arith, h.most) }

pub slice : (slots : List Slot) (a j : ℕ) → Words 13 (keep_slice slots a j)
slice slots a j =
    wide (joined (base_words slots a) (put _ (joined (store reg.LEFT (temporary_offset slots j)) (store reg.VALUE (temporary_offset slots (j + 1)))))) (omega arith)

pub scalar : (slots : List Slot) (x j : ℕ) → Words 11 (keep_scalar slots x j)
scalar slots x j =
    wide (joined (address reg.LEFT (slot_offset slots x)) (joined (store reg.LEFT (temporary_offset slots j)) (joined (number reg.VALUE (pos 1)) (store reg.VALUE (temporary_offset slots (j + 1))))))
    (omega arith)

pub handed : (slots : List Slot) (j r count : ℕ) → Words (3 * count) (hand_over slots j r count)
handed slots j r zero = wide (written 0 _ (omega arith)) (omega arith)
handed slots j r (suc count) = wide (joined (load r (temporary_offset slots j)) (handed slots (j + 1) (r + 1) count)) (omega arith)

pub apply : (slots : List Slot) (o : Op) (d : ℕ) → Words 7 (apply_code slots o d)
apply slots o d = joined (load reg.LEFT (temporary_offset slots d)) (operator o)

-- ---- code of expressions

-- an expression of this weight, with six words to spare
pub record Short (weight : ℕ) (code : List Part) : Type 0 where
  pub most : length code + 6 ≤ 24 * weight

-- at most so many words
pub record Parts (n : ℕ) (code : List Part) : Type 0 where
  pub most : length code ≤ n

pub straightly : {n : ℕ} {is : List Operation} → Words n is → Parts n (straight is)
straightly {is = is} h = record { most = omega (arith, h.most, length-straight is) }

pub together : {m n : ℕ} {x y : List Part} → Parts m x → Parts n y → Parts (m + n) (x ++ y)
together {x = x} {y = y} h k = record { most = omega (arith, h.most, k.most, length-append x y) }

pub wider : {m n : ℕ} {x : List Part} → Parts m x → m ≤ n → Parts n x
wider h le = record { most = omega (arith, h.most, le) }

pub short : {n weight : ℕ} {code : List Part} → Parts n code → n + 6 ≤ 24 * weight → Short weight code
short h le = record { most = omega (arith, h.most, le) }

pub exactly : (code : List Part) → Parts (length code) code
exactly code = record { most = omega arith }

-- instructions behind an expression
pub behind : {n w : ℕ} {x : List Part} {is : List Operation} → Short w x → Words n is → n ≤ 24 → Short (w + 1) (x ++ straight is)
behind {x = x} {is = is} h k le = record { most = omega (arith, h.most, k.most, le, length-append x (straight is), length-straight is) }

pub renamed : (slots : List Slot) (e shape : Expr ℕ) (d w : ℕ) → e ≡ shape → Short w (expression_code slots shape d) → Short w (expression_code slots e d)
renamed slots e shape d w is h = subst (λ x. Short w (expression_code slots x d)) (sym is) h

pub both_short : (l r : List Part) (m n : ℕ) → Short m l → Short n r → Short (m + n + 1) (l ++ both_of r)
both_short l r m n h k = record { most = omega (arith, h.most, k.most, length-append l (both_of r), length-append r (straight truth_code)) }

pub either_short : (l r : List Part) (m n : ℕ) → Short m l → Short n r → Short (m + n + 1) (l ++ either_of r)
either_short l r m n h k = record { most = omega (arith, h.most, k.most, length-append l (either_of r), length-append r (straight truth_code)) }

pub right_short : (slots : List Slot) (o : Op) (d : ℕ) (l r : List Part) (m n : ℕ) → Short m l → Short n r → Short (m + n + 1) (l ++ right_of slots o d r)
right_short slots o d l r m n h k =
    let kept = (straightly (keep slots d)).most in
    let applied = (straightly (apply slots o d)).most in
    let tail : List Part = r ++ straight (apply_code slots o d) in
    record { most = omega (arith, h.most, k.most, kept, applied, length-append l (right_of slots o d r), length-append (straight (keep_word slots d)) tail, length-append r (straight (apply_code slots o d))) }

pub joined_short : (slots : List Slot) (o : Op) (l r : Expr ℕ) (d m n : ℕ) → Short m (expression_code slots l d) → ((d : ℕ) → Short n (expression_code slots r d)) → Short (m + n + 1) (expression_code slots (Joined o l r) d)
joined_short slots op.Both l r d m n h k = both_short (expression_code slots l d) (expression_code slots r d) m n h (k d)
joined_short slots op.Either l r d m n h k = either_short (expression_code slots l d) (expression_code slots r d) m n h (k d)
joined_short slots o l r d m n h k = right_short slots o d (expression_code slots l d) (expression_code slots r (d + 1)) m n h (k (d + 1))

-- a call, by its list of arguments
pub call_short : (slots : List Slot) (c : Call ℕ) (d w : ℕ) → Parts (24 * w) (list_code slots c.arguments d 0) → Short (w + 1) (expression_code slots (expression.Call c) d)
call_short slots c d w h =
    let row = row_of_call (expression.Call c) in
    let same = list_of_row-code row.0 row.1 slots d 0 ∙ ap (λ (l : List (Arg ℕ)). list_code slots l d 0) (items_hidden-the_row-Arg-1 ℕ c.arguments) in
    let tail : List Part = call c.function.name ∷ straight take_back_code in
    let all = together (subst (Parts (24 * w)) (sym same) h) (exactly tail) in
    short all (omega arith)

pub entered : (form : Form) (slots : List Slot) (purpose : Purpose) (f : ℕ) → Parts 8 (enter_code form slots purpose f)
entered Serial slots called f = record { most = omega arith }
entered Cilk slots called f = record { most = omega arith }
entered Serial slots (spawned None) f = record { most = omega arith }
entered Serial slots (spawned (Some x)) f =
    wider (together (exactly (call f ∷ [])) (straightly (joined (written 1 take_back_code (omega arith)) (store reg.VALUE (slot_offset slots x))))) (omega arith)
entered Cilk slots (spawned None) f =
    wider (straightly (joined (number reg.VALUE (pos (table_word f))) (joined (number reg.LEFT (pos 0)) (written 2 (service (pos 4)) (omega arith))))) (omega arith)
entered Cilk slots (spawned (Some x)) f =
    wider (straightly (joined (number reg.VALUE (pos (table_word f))) (joined (address reg.LEFT (slot_offset slots x)) (written 2 (service (pos 4)) (omega arith))))) (omega arith)

pub invoked : (form : Form) (slots : List Slot) (purpose : Purpose) (c : Call ℕ) (w : ℕ) → Parts (24 * w) (list_code slots c.arguments 0 0) → Parts (24 * w + 8) (invoke_code form slots purpose (expression.Call c))
invoked form slots purpose c w h =
    let row = row_of_call (expression.Call c) in
    let same = list_of_row-code row.0 row.1 slots 0 0 ∙ ap (λ (l : List (Arg ℕ)). list_code slots l 0 0) (items_hidden-the_row-Arg-1 ℕ c.arguments) in
    together (subst (Parts (24 * w)) (sym same) h) (entered form slots purpose c.function.name)

-- ---- code of declarations and assignments

pub cleared : (slots : List Slot) (x n : ℕ) → Words 9 (clear_array_code (slot_offset slots x) n)
cleared slots x n =
    wide (joined (address reg.VALUE (slot_offset slots x)) (joined (address reg.LEFT (slot_offset slots x +ℤ pos (4 * n))) (written 3 clear_words_code (omega arith)))) (omega arith)

-- an expression that may not be there
abbrev pub Optional : List Slot → (weight : ℕ) → Option (Expr ℕ) → Type 0
Optional slots w None = Unit {0}
Optional slots w (Some e) = Short w (expression_code slots e 0)

pub item_short : (slots : List Slot) (x : ℕ) (s : Extent) (w : ℕ) (o : Option (Expr ℕ)) → Optional slots w o → Parts (24 * (1 + w)) (item_for slots x s o)
item_short slots x extent.Word w None h = wider (straightly (store reg.ZERO (slot_offset slots x))) (omega arith)
item_short slots x extent.Word w (Some e) h =
    let code : List Part = expression_code slots e 0 in
    wider (together (exactly code) (straightly (store reg.VALUE (slot_offset slots x)))) (omega (arith, h.most))
item_short slots x (extent.Words n) w None h = wider (straightly (cleared slots x n)) (omega arith)
item_short slots x (extent.Words n) w (Some e) h = wider (straightly (cleared slots x n)) (omega arith)
item_short slots x extent.Reference w None h = record { most = omega arith }
item_short slots x extent.Reference w (Some e) h = record { most = omega arith }

pub updated : (slots : List Slot) (x : ℕ) (o : Op) → Words 10 (update_code slots x o)
updated slots x o = wide (joined (load reg.LEFT (slot_offset slots x)) (joined (operator o) (store reg.VALUE (slot_offset slots x)))) (omega arith)

pub stored : (slots : List Slot) (o : Option Op) → Words 9 (store_code slots o)
stored slots None = wide (joined (load reg.LEFT (temporary_offset slots 0)) (written 1 _ (omega arith))) (omega arith)
stored slots (Some o) = wide (joined (load reg.HELP (temporary_offset slots 0)) (put _ (joined (operator o) (written 1 _ (omega arith))))) (omega arith)

pub assigned : (slots : List Slot) (x : ℕ) → Words 3 (assign_code slots x)
assigned slots x = store reg.VALUE (slot_offset slots x)

pub length_words : (slots : List Slot) (a : ℕ) → Words 3 (length_code slots a)
length_words slots a = length_of (extent_at slots a) (slot_offset slots a)

-- ---- code of statements

pub synced : (form : Form) → length (sync_code form) ≤ 24
synced Serial = omega arith
synced Cilk = omega arith

pub loop_bound : (slots : List Slot) (w : ℕ) (t : Option (Expr ℕ)) → Optional slots w t → loop_words slots t ≤ 24 * w + 7
loop_bound slots w None h = omega arith
loop_bound slots w (Some t) h = omega (arith, h.most)

pub returned : (slots : List Slot) (w : ℕ) (o : Option (Expr ℕ)) → Optional slots w o → length (optional_code slots o) + 1 ≤ 24 * (w + 1)
returned slots w None h = omega arith
returned slots w (Some e) h = omega (arith, h.most)

pair : (a n : ℕ) (o : ℤ) → Words 6 (store_pair a n o)
pair a n o = joined (store a o) (store n (o +ℤ pos 4))

pub parted : (slots : List Slot) (whole left right : ℕ) → Words 24 (part_code slots whole left right)
parted slots whole left right =
    let first = pair reg.LEFT reg.VALUE (slot_offset slots left) in
    let second = pair reg.VALUE reg.SPARE (slot_offset slots right) in
    wide (joined (base_words slots whole) (put _ (put _ (put _ (put _ (joined first (put _ (put _ second)))))))) (omega arith)

-- ---- code of functions

pub parameter : (slots : List Slot) (x r : ℕ) (s : Extent) → Words 6 (parameter_for slots x r s)
parameter slots x r extent.Word = wide (store r (slot_offset slots x)) (omega arith)
parameter slots x r (extent.Words n) = written 6 _ (omega arith)
parameter slots x r extent.Reference = joined (store r (slot_offset slots x)) (store (r + 1) (slot_offset slots x +ℤ pos 4))

pub entered_frame : (b q : ℕ) → Words 18 (entry b q)
entered_frame b q =
    wide (joined (written 4 tick (omega arith)) (joined (joined (number reg.HELP (pos q)) (written 4 _ (omega arith))) (joined (number reg.HELP (pos b)) (written 6 _ (omega arith))))) (omega arith)

pub sync : (form : Form) → Words 2 (sync_code form)
sync Serial = written 2 _ (omega arith)
sync Cilk = written 2 _ (omega arith)

pub left : (q : ℕ) → Words 8 (leave q)
left q = joined (number reg.HELP (pos q)) (written 6 _ (omega arith))
