-- The parse trees of the grammar, one type for each nonterminal. A constructor is an alternative of the grammar
-- with its parts in the order of the text. An `Offset` is the offset of a word or a sign of the alternative, and a
-- `Mark` a name with its offset. Numbers have no bound here.
use Rattle.std.specs.Prelude.{◌≡◌, ℕ, ◌≤◌, ◌<◌, Bool, true, false, List, Option}
use Rattle.cm_syntax.specs.declared.expr.Mark.{Mark as MarkOf}
use Rattle.cm_syntax.specs.declared.expr.Op.{Op}
use Rattle.cm_syntax.specs.declared.expr.Op.TheVariants as op

-- the number of source bytes before a token
abbrev pub Offset : Type 0
Offset = ℕ

-- a name and its offset
abbrev pub Mark : Type 0
Mark = MarkOf (List ℕ)

-- ---- levels of operators

abbrev pub is_unary : Op → Bool
is_unary op.Neg = true
is_unary op.Not = true
is_unary op.Flip = true
is_unary _ = false

-- The level of an operator: one of a higher level binds tighter.
abbrev pub level_of : Op → ℕ
level_of op.Either = 1
level_of op.Both = 2
level_of op.Or = 3
level_of op.Xor = 4
level_of op.And = 5
level_of op.Eq = 6
level_of op.Ne = 6
level_of op.Lt = 7
level_of op.Le = 7
level_of op.Gt = 7
level_of op.Ge = 7
level_of op.Shl = 8
level_of op.Shr = 8
level_of op.Add = 9
level_of op.Sub = 9
level_of op.Mul = 10
level_of op.Div = 10
level_of op.Rem = 10
level_of op.Neg = 11
level_of op.Not = 11
level_of op.Flip = 11

-- an operator that an update `t op= e` may have
abbrev pub is_update : Op → Bool
is_update op.Mul = true
is_update op.Div = true
is_update op.Rem = true
is_update op.Add = true
is_update op.Sub = true
is_update op.Shl = true
is_update op.Shr = true
is_update op.And = true
is_update op.Xor = true
is_update op.Or = true
is_update _ = false

-- the level of what stands by itself
abbrev pub primary_level : ℕ
primary_level = 12

-- ---- expressions

mutual
  -- An expression of this level. Binary operators group to the left: the left operand may have an operator of the
  -- same level, and the right one may not.
  pub data Expression : ℕ → Type 0 where
    -- `12`
    literal : Offset → (value : ℕ) → Expression primary_level
    -- `x`
    variable : Mark → Expression primary_level
    -- `a[e]`
    element : {level : ℕ} → Mark → (opening : Offset) → Expression level → (closing : Offset) → Expression primary_level
    -- `*p`
    pointee : (star : Offset) → Mark → Expression primary_level
    -- `f(..)`
    called : Call → Expression primary_level
    -- `len(a)`
    len : (word opening : Offset) → Mark → (closing : Offset) → Expression primary_level
    -- `input(e)`
    input : {level : ℕ} → (word opening : Offset) → Expression level → (closing : Offset) → Expression primary_level
    -- `inputs()`
    inputs : (word opening closing : Offset) → Expression primary_level
    -- `(e)`
    grouped : {level : ℕ} → (opening : Offset) → Expression level → (closing : Offset) → Expression primary_level
    -- `- e`, `! e`, `~ e`
    prefixed : {level : ℕ} → (op : Op) → is_unary op ≡ true → Offset → Expression level → level_of op ≤ level →
        Expression (level_of op)
    -- `e op e`
    joined : {left right : ℕ} → (op : Op) → is_unary op ≡ false → Expression left → level_of op ≤ left → Offset →
        Expression right → level_of op < right → Expression (level_of op)

  -- a call
  pub data Call : Type 0 where
    -- `f()`
    alone : Mark → (opening closing : Offset) → Call
    -- `f(a, ..)`
    with_ : Mark → (opening : Offset) → Arguments → (closing : Offset) → Call

  -- one argument or more, with commas between them
  pub data Arguments : Type 0 where
    last : Argument → Arguments
    before : Argument → (comma : Offset) → Arguments → Arguments

  pub data Argument : Type 0 where
    -- `e`
    value : {level : ℕ} → Expression level → Argument
    -- `&x`
    address : Offset → Mark → Argument

-- an expression of any level
pub data AnyExpression : Type 0 where
  any : {level : ℕ} → Expression level → AnyExpression

-- ---- declarations and simple statements

pub data Item : Type 0 where
  -- `x`
  scalar : Mark → Item
  -- `x = e`
  set : Mark → (assign : Offset) → AnyExpression → Item
  -- `a[12]`
  array : Mark → (opening : Offset) → Offset → (words : ℕ) → (closing : Offset) → Item

-- one declarator or more, with commas between them
pub data Items : Type 0 where
  last : Item → Items
  before : Item → (comma : Offset) → Items → Items

-- `int` and its items, without the semicolon
pub record Declaration : Type 0 where
  pub int_at : Offset
  pub items : Items

-- what an assignment writes
pub data Target : Type 0 where
  -- `x`
  scalar : Mark → Target
  -- `a[e]`
  element : Mark → (opening : Offset) → AnyExpression → (closing : Offset) → Target
  -- `*p`
  pointee : (star : Offset) → Mark → Target

-- an assignment or a call, without the semicolon
pub data Simple : Type 0 where
  -- `t = e`
  assign : Target → Offset → AnyExpression → Simple
  -- `t op= e`
  update : Target → (op : Op) → is_update op ≡ true → Offset → AnyExpression → Simple
  -- `t ++`, `t --`
  step_after : Target → (up : Bool) → Offset → Simple
  -- `++ t`, `-- t`
  step_before : (up : Bool) → Offset → Target → Simple
  -- `f(..)`
  call : Call → Simple

-- the first part of a `for`
pub data FirstPart : Type 0 where
  nothing : FirstPart
  declare : Declaration → FirstPart
  simple : Simple → FirstPart

-- ---- statements

mutual
  -- A statement that may be a body. It is open where it ends with an `if` that has no `else`: an `else` behind it
  -- would belong to that `if`, so an open statement is not what stands between an `if` and its own `else`.
  pub data Plain : (is_open : Bool) → Type 0 where
    -- `s ;`
    simple : Simple → (semicolon : Offset) → Plain false
    -- `;`
    empty : (semicolon : Offset) → Plain false
    -- `{ .. }`
    block : (opening : Offset) → Statements → (closing : Offset) → Plain false
    -- `if (e) s`
    if_alone : {is_open : Bool} → (word opening : Offset) → AnyExpression → (closing : Offset) → Plain is_open → Plain true
    -- `if (e) s else s`
    if_else : {is_open : Bool} → (word opening : Offset) → AnyExpression → (closing : Offset) → Plain false → (other : Offset) →
        Plain is_open → Plain is_open
    -- `while (e) s`
    while : {is_open : Bool} → (word opening : Offset) → AnyExpression → (closing : Offset) → Plain is_open → Plain is_open
    -- `for (s ; e ; s) s`
    for : {is_open : Bool} → (word opening : Offset) → FirstPart → (semicolon : Offset) → Option AnyExpression → (semicolon : Offset) →
        Option Simple → (closing : Offset) → Plain is_open → Plain is_open
    -- `split a at e as l, r { .. }`
    split : (word : Offset) → Mark → (at : Offset) → AnyExpression → (as_ : Offset) → Mark → (comma : Offset) → Mark →
        (opening : Offset) → Statements → (closing : Offset) → Plain false
    -- `return ;`, `return e ;`
    return : (word : Offset) → Option AnyExpression → (semicolon : Offset) → Plain false
    -- `print (e) ;`
    print : (word opening : Offset) → AnyExpression → (closing semicolon : Offset) → Plain false
    -- `sync ;`
    sync : (word semicolon : Offset) → Plain false
    -- `spawn f(..) ;`
    spawn : (word : Offset) → Call → (semicolon : Offset) → Plain false
    -- `x = spawn f(..) ;`
    spawn_into : Mark → (assign word : Offset) → Call → (semicolon : Offset) → Plain false

  -- the statements of a block
  pub data Statements : Type 0 where
    none : Statements
    declare : Declaration → (semicolon : Offset) → Statements → Statements
    plain : {is_open : Bool} → Plain is_open → Statements → Statements

-- ---- functions

pub data Parameter : Type 0 where
  -- `int x`
  scalar : (int_at : Offset) → Mark → Parameter
  -- `int a[]`
  slice : (int_at : Offset) → Mark → (opening closing : Offset) → Parameter
  -- `int *p`
  pointer : (int_at star : Offset) → Mark → Parameter

-- one parameter or more, with commas between them
pub data ParameterList : Type 0 where
  last : Parameter → ParameterList
  before : Parameter → (comma : Offset) → ParameterList → ParameterList

-- what stands between the parentheses of a function's head
pub data Parameters : Type 0 where
  none : Parameters
  -- `void`
  void : Offset → Parameters
  list : ParameterList → Parameters

pub record Function : Type 0 where
  -- the offset of `cilk`, where the function is marked so
  pub cilk_at : Option Offset
  -- `int`, and not `void`
  pub gives : Bool
  pub type_at : Offset
  pub name : Mark
  pub opening : Offset
  pub parameters : Parameters
  pub closing : Offset
  pub body_opening : Offset
  pub body : Statements
  pub body_closing : Offset

-- one function or more
pub data Program : Type 0 where
  last : Function → Program
  before : Function → Program → Program
