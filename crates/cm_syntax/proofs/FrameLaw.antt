-- What the definitions of a frame say of each expression as the code matches it, and of the arguments of a call.
use Rattle.std.proofs.Common.{◌≡◌, ℕ, zero, suc, ◌+◌, ◌<◌, ◌≤◌, max, ◌⊎◌, inl, inr, Bool, true, false, if◌then◌else◌, List, [], ◌∷◌, length, get_or, drop, drop-cons, add-one, refl, sym, ap, ◌∙◌, arith}
use Rattle.std.proofs.lemmas.Bool.{cases_lt}
use Rattle.cm_syntax.specs.declared.expr.Mark.{Mark}
use Rattle.cm_syntax.specs.declared.expr.Op.{Op}
use Rattle.cm_syntax.specs.declared.expr.Expr.{Expr}
use Rattle.cm_syntax.specs.declared.expr.Expr.TheVariants.{Number, Scalar, Len, Inputs, Index, Input, Unary, Binary, Call', Call}
use Rattle.cm_syntax.specs.declared.expr.Arg.{Arg}
use Rattle.cm_syntax.specs.declared.expr.Arg.TheVariants.{Value, Slice, Address}
use Rattle.cm_syntax.specs.declared.expr.Call as calls
use Rattle.cm_syntax.specs.declared.expr.Call.{Row_of-Arg, end_of-Arg, more_of-Arg, items-the_row-Arg, items_hidden-the_row-Arg-1}
use Rattle.cm_syntax.specs.Shape.{Joined, Prefixed, Element, InputAt, Binary-Joined, Unary-Prefixed, Index-Element, Input-InputAt}
use Rattle.cm_syntax.specs.Limit.{max_frame_words}
use Rattle.cm_syntax.specs.Frame.{capped, is_short_circuit, argument_words, arguments_words, temporaries, arguments_temporaries, argument_temporaries}
use Rattle.cm_syntax.proofs.Rows.{row_of_call}

-- ---- the measure of an expression, and what is in use at least

abbrev mutual
  -- what grows at each step up in a tree
  pub size_of : {N : Type 0} → Expr N → ℕ
  size_of (Element name index) = size_of index + 1
  size_of (InputAt index) = size_of index + 1
  size_of (Prefixed op operand) = size_of operand + 1
  size_of (Joined op left right) = size_of left + size_of right + 1
  size_of (Call' function _ arguments) = row_size arguments + 2
  size_of _ = 0

  pub row_size : {N : Type 0} {n : _} → Row_of-Arg N n → ℕ
  row_size end_of-Arg = 0
  row_size (more_of-Arg argument more) = argument_size argument + row_size more

  pub argument_size : {N : Type 0} → Arg N → ℕ
  argument_size (Value value) = size_of value + 1
  argument_size _ = 0

-- over whether the operator stops early
joined_at_least : (b : Bool) (d x y z : ℕ) → d ≤ x → d ≤ (if b then max x y else max x z)
joined_at_least true d x y z le = omega arith
joined_at_least false d x y z le = omega arith

-- at least those that are in use before
pub temporaries_at_least : {N : Type 0} (e : Expr N) (d : ℕ) → d ≤ temporaries e d
temporaries_at_least (Number n) d = omega arith
temporaries_at_least (Scalar name) d = omega arith
temporaries_at_least (Element name index) d = temporaries_at_least index d
temporaries_at_least (Len name) d = omega arith
temporaries_at_least (InputAt index) d = temporaries_at_least index d
temporaries_at_least Inputs d = omega arith
temporaries_at_least (Prefixed op operand) d = temporaries_at_least operand d
temporaries_at_least (Joined op left right) d = joined_at_least (is_short_circuit op) d _ _ _ (temporaries_at_least left d)
temporaries_at_least (Call' function _ arguments) d = omega arith

-- a count from where another stopped stops as the count from there on does
pub capped_from : (f : ℕ → ℕ) (d : ℕ) → ((n : ℕ) → n ≤ f n) → capped (f (capped d)) ≡ capped (f d)
capped_from f d least = by_cases (cases_lt (max_frame_words + 1) d)
  where
    by_cases : (max_frame_words + 1 < d) ⊎ (d ≤ max_frame_words + 1) → capped (f (capped d)) ≡ capped (f d)
    by_cases (inl many) = omega (arith, least d, least (capped d))
    by_cases (inr few) = ap (λ n. capped (f n)) (omega arith)

capped_max : (x y : ℕ) → capped (max x y) ≡ max (capped x) (capped y)
capped_max x y = omega arith

-- the parts of a call after an argument, whose count stopped, come to the same
parts_same : (most used words more at t s : ℕ) → capped t ≡ capped s →
    capped (max most (max (used + (words + more)) (max at s))) ≡ capped (max (max most (capped at)) (max (capped (used + words) + more) t))
parts_same most used words more at t s e =
    before most (used + (words + more)) at s
    ∙ regroup _ _ _ _ _ _ _ (omega arith) (omega arith) e
    ∙ sym (after most (capped (used + words) + more) (capped at) t)
  where
    before : (a b c d : ℕ) → capped (max a (max b (max c d))) ≡ max (capped a) (max (capped b) (max (capped c) (capped d)))
    before a b c d = capped_max a _ ∙ ap (max (capped a)) (capped_max b _ ∙ ap (max (capped b)) (capped_max c d))

    after : (a b c d : ℕ) → capped (max (max a c) (max b d)) ≡ max (max (capped a) (capped c)) (max (capped b) (capped d))
    after a b c d = capped_max _ _ ∙ ap (λ x. max x (capped (max b d))) (capped_max a c) ∙ ap (max (max (capped a) (capped c))) (capped_max b d)

    regroup : (a b c d x y z : ℕ) → x ≡ b → y ≡ c → z ≡ d → max a (max b (max c d)) ≡ max (max a y) (max x z)
    regroup a b c d x y z p q r = omega arith

-- ---- lists

-- the item at i of a list that a loop goes through
pub next : {X : Type 0} (xs : List X) (i : ℕ) (x : X) → i < length xs → x ≡ get_or xs i x → drop i xs ≡ x ∷ drop (i + 1) xs
next xs i x lt is = drop-cons xs i x lt ∙ rw (← is, add-one)

-- a turn of a loop that looks for the most of a list: of what is left, that of an item was found
pub most_of_next : (most left now later found next whole : ℕ) → left ≡ max now later → found ≡ capped now → next ≡ max most found →
    max most (capped left) ≡ whole → max next (capped later) ≡ whole
most_of_next most left now later found next whole parts is is_next so_far = omega arith

-- ---- expressions of one operand, and of two

-- e has what its operand has
pub record Passes {N : Type 0} (e operand : Expr N) (d : ℕ) : Type 0 where
  pub smaller : size_of operand < size_of e
  pub same : temporaries e d ≡ temporaries operand d

passes : {N : Type 0} (e index operand : Expr N) (d : ℕ) → size_of e ≡ size_of index + 1 → temporaries e d ≡ temporaries index d →
    operand ≡ index → Passes e operand d
passes e index operand d size same is = record {
  smaller = omega (arith, ap size_of is);
  same = same ∙ sym (ap (λ x. temporaries x d) is);
}

pub passes-Index : {N : Type 0} (e : Expr N) (name : Mark N) (index operand : Expr N) (d : ℕ) → e ≡ Index name index → operand ≡ index →
    Passes e operand d
passes-Index e name index operand d is got =
    let shape = is ∙ Index-Element name index in
    passes e index operand d (ap size_of shape) (ap (λ x. temporaries x d) shape) got

pub passes-Input : {N : Type 0} (e index operand : Expr N) (d : ℕ) → e ≡ Input index → operand ≡ index → Passes e operand d
passes-Input e index operand d is got =
    let shape = is ∙ Input-InputAt index in
    passes e index operand d (ap size_of shape) (ap (λ x. temporaries x d) shape) got

pub passes-Unary : {N : Type 0} (e : Expr N) (op : Op) (index operand : Expr N) (d : ℕ) → e ≡ Unary op index → operand ≡ index →
    Passes e operand d
passes-Unary e op index operand d is got =
    let shape = is ∙ Unary-Prefixed op index in
    passes e index operand d (ap size_of shape) (ap (λ x. temporaries x d) shape) got

-- e has what its left operand has from d on, and its right one from right_depth on
pub record Joins {N : Type 0} (e left right : Expr N) (d right_depth : ℕ) : Type 0 where
  pub smaller_left : size_of left < size_of e
  pub smaller_right : size_of right < size_of e
  pub most : temporaries e d ≡ max (temporaries left d) (temporaries right right_depth)

-- the same of the right operand's beginning
joined_most : (b : Bool) (d x : ℕ) (y : ℕ → ℕ) → d + 1 ≤ y (d + 1) →
    (if b then max x (y d) else max x (max (d + 1) (y (d + 1)))) ≡ max x (y (if b then d else d + 1))
joined_most true d x y le = refl
joined_most false d x y le = omega arith

pub joins-Binary : {N : Type 0} (e : Expr N) (op : Op) (left right first second : Expr N) (d : ℕ) → e ≡ Binary op left right →
    first ≡ left → second ≡ right → Joins e first second d (if is_short_circuit op then d else d + 1)
joins-Binary e op left right first second d is left_is right_is =
    let shape = is ∙ Binary-Joined op left right in
    let begun = if is_short_circuit op then d else d + 1 in
    let size : size_of e ≡ size_of left + size_of right + 1 = ap size_of shape in
    let parts = joined_most (is_short_circuit op) d (temporaries left d) (temporaries right) (temporaries_at_least right (d + 1)) in
    let most : temporaries e d ≡ max (temporaries left d) (temporaries right begun) = ap (λ x. temporaries x d) shape ∙ parts in
    record {
      smaller_left = omega (arith, ap size_of left_is);
      smaller_right = omega (arith, ap size_of right_is);
      most = rw (left_is, right_is) most;
    }

-- ---- calls, whose arguments a loop goes through

abbrev pub words_of : {N : Type 0} → List (Arg N) → ℕ
words_of [] = 0
words_of (argument ∷ more) = argument_words argument + words_of more

abbrev pub temporaries_of : {N : Type 0} → List (Arg N) → (d : ℕ) → ℕ
temporaries_of [] d = d
temporaries_of (argument ∷ more) d = max (argument_temporaries argument d) (temporaries_of more (d + argument_words argument))

abbrev pub arguments_size : {N : Type 0} → List (Arg N) → ℕ
arguments_size [] = 0
arguments_size (argument ∷ more) = argument_size argument + arguments_size more

words_row : {N : Type 0} (n : _) (row : Row_of-Arg N n) → arguments_words row ≡ words_of (items-the_row-Arg N n row)
words_row n end_of-Arg = refl
words_row n (more_of-Arg argument more) = ap (λ x. argument_words argument + x) (words_row _ more)

temporaries_row : {N : Type 0} (n : _) (row : Row_of-Arg N n) (d : ℕ) →
    arguments_temporaries row d ≡ temporaries_of (items-the_row-Arg N n row) d
temporaries_row n end_of-Arg d = refl
temporaries_row n (more_of-Arg argument more) d =
    ap (λ x. max (argument_temporaries argument d) x) (temporaries_row _ more (d + argument_words argument))

size_row : {N : Type 0} (n : _) (row : Row_of-Arg N n) → row_size row ≡ arguments_size (items-the_row-Arg N n row)
size_row n end_of-Arg = refl
size_row n (more_of-Arg argument more) = ap (λ x. argument_size argument + x) (size_row _ more)

-- The temporaries of a call, where arguments are left, and `most` and `used` are what those before came to.
abbrev pub rest_of_call : {N : Type 0} → List (Arg N) → (most used : ℕ) → ℕ
rest_of_call arguments most used = max most (max (used + words_of arguments) (temporaries_of arguments used))

pub rest_of_call-whole : {N : Type 0} (call : calls.Call N) (d : ℕ) → rest_of_call call.arguments d d ≡ temporaries (Call call) d
rest_of_call-whole call d =
    let row = row_of_call (Call call) in
    let same = items_hidden-the_row-Arg-1 _ call.arguments in
    let words : arguments_words row.1 ≡ words_of call.arguments = words_row row.0 row.1 ∙ ap words_of same in
    let listed = ap (λ (x : List (Arg _)). temporaries_of x d) same in
    let most : arguments_temporaries row.1 d ≡ temporaries_of call.arguments d = temporaries_row row.0 row.1 d ∙ listed in
    of_parts d _ _ _ _ words most
  where
    of_parts : (d w v s t : ℕ) → w ≡ v → s ≡ t → max d (max (d + v) t) ≡ max (d + w) s
    of_parts d w v s t words most = omega arith

pub size_of-Call : {N : Type 0} (e : Expr N) (call : calls.Call N) → e ≡ Call call → size_of e ≡ arguments_size call.arguments + 2
size_of-Call e call is =
    let row = row_of_call (Call call) in
    let same = items_hidden-the_row-Arg-1 _ call.arguments in
    let size : row_size row.1 ≡ arguments_size call.arguments = size_row row.0 row.1 ∙ ap arguments_size same in
    ap size_of is ∙ ap (λ x. x + 2) size

temporaries_of_at_least : {N : Type 0} (arguments : List (Arg N)) (d : ℕ) → d ≤ temporaries_of arguments d
temporaries_of_at_least [] d = omega arith
temporaries_of_at_least (Value value ∷ more) d = omega (arith, temporaries_at_least value d)
temporaries_of_at_least (Slice name ∷ more) d = omega arith
temporaries_of_at_least (Address name ∷ more) d = omega arith

-- the argument at i
pub record Takes {N : Type 0} (arguments : List (Arg N)) (i : ℕ) (argument : Arg N) (most used : ℕ) : Type 0 where
  pub smaller : argument_size argument ≤ arguments_size arguments
  pub rest : capped (rest_of_call (drop i arguments) most used) ≡
      capped (rest_of_call (drop (i + 1) arguments) (max most (capped (argument_temporaries argument used))) (capped (used + argument_words argument)))

argument_smaller : {N : Type 0} (arguments : List (Arg N)) (i : ℕ) (argument : Arg N) → i < length arguments →
    argument ≡ get_or arguments i argument → argument_size argument ≤ arguments_size arguments
argument_smaller [] i argument lt is = absurd (omega arith)
argument_smaller (first ∷ more) zero argument lt is = omega (arith, ap argument_size is)
argument_smaller (first ∷ more) (suc i) argument lt is = omega (arith, argument_smaller more i argument (omega arith) is)

pub takes : {N : Type 0} (arguments : List (Arg N)) (i : ℕ) (argument : Arg N) (most used : ℕ) → i < length arguments →
    argument ≡ get_or arguments i argument → Takes arguments i argument most used
takes arguments i argument most used lt is =
    let more = drop (i + 1) arguments in
    let same = ap (λ (x : List (Arg _)). rest_of_call x most used) (next arguments i argument lt is) in
    let later = capped_from (temporaries_of more) (used + argument_words argument) (temporaries_of_at_least more) in
    record {
      smaller = argument_smaller arguments i argument lt is;
      rest = ap capped same ∙ parts_same most used (argument_words argument) (words_of more) (argument_temporaries argument used) _ _ later;
    }
