-- The shapes of expressions and statements, as definitions match on them: what a box holds stands here in
-- place of the box. A list of arguments or statements is a row, `end_of-..` or `more_of-.. first rest`.
use Rattle.std.specs.Prelude.{◌≡◌, refl, Option}
use Rattle.cm_syntax.specs.declared.expr.Mark.{Mark}
use Rattle.cm_syntax.specs.declared.expr.Op.{Op}
use Rattle.cm_syntax.specs.declared.expr.Expr.{Expr, more_of-Expr, end_of-Expr}
use Rattle.cm_syntax.specs.declared.expr.Expr.TheVariants.{Binary, Binary', Unary, Unary', Index, Index', Input, Input'}
use Rattle.cm_syntax.specs.declared.stmt.Stmt.{Stmt, more_of-Stmt, end_of-Stmt, None', Some'}
use Rattle.cm_syntax.specs.declared.stmt.Stmt.TheVariants.{If', While', For'}

-- two operands and the operator between them
pattern abbrev pub Joined : {N : Type 0} → Op → Expr N → Expr N → Expr N
Joined op left right = Binary' op tt (more_of-Expr left end_of-Expr) tt (more_of-Expr right end_of-Expr)

-- an operand with a unary operator before it
pattern abbrev pub Prefixed : {N : Type 0} → Op → Expr N → Expr N
Prefixed op operand = Unary' op tt (more_of-Expr operand end_of-Expr)

-- an element of an array or a slice
pattern abbrev pub Element : {N : Type 0} → Mark N → Expr N → Expr N
Element name index = Index' name tt (more_of-Expr index end_of-Expr)

-- a number of the input
pattern abbrev pub InputAt : {N : Type 0} → Expr N → Expr N
InputAt index = Input' tt (more_of-Expr index end_of-Expr)

-- an `if` without an `else`
pattern abbrev pub IfAlone : {N : Type 0} → Expr N → Stmt N → Stmt N
IfAlone test chosen = If' test tt (more_of-Stmt chosen end_of-Stmt) None'

-- an `if` with an `else`
pattern abbrev pub IfElse : {N : Type 0} → Expr N → Stmt N → Stmt N → Stmt N
IfElse test chosen other = If' test tt (more_of-Stmt chosen end_of-Stmt) (Some' tt (more_of-Stmt other end_of-Stmt))

-- a `while`
pattern abbrev pub WhileLoop : {N : Type 0} → Expr N → Stmt N → Stmt N
WhileLoop test body = While' test tt (more_of-Stmt body end_of-Stmt)

-- a `for`
pattern abbrev pub ForLoop : {N : Type 0} → Stmt N → Option (Expr N) → Stmt N → Stmt N → Stmt N
ForLoop first test step body =
    For' tt (more_of-Stmt first end_of-Stmt) test tt (more_of-Stmt step end_of-Stmt) tt (more_of-Stmt body end_of-Stmt)

-- the variants as the code makes them are these shapes
pub Binary-Joined : {N : Type 0} (op : Op) (left right : Expr N) → Binary op left right ≡ Joined op left right
unfolding Rattle.cm_syntax.specs.declared.expr.Arg.TheBlock.shape-the_row-Expr-0 Rattle.cm_syntax.specs.declared.expr.Arg.TheBlock.hidden-the_row-Expr-0 denote.Hole.Carrier.hidden
Binary-Joined op left right = refl

pub Unary-Prefixed : {N : Type 0} (op : Op) (operand : Expr N) → Unary op operand ≡ Prefixed op operand
unfolding Rattle.cm_syntax.specs.declared.expr.Arg.TheBlock.shape-the_row-Expr-0 Rattle.cm_syntax.specs.declared.expr.Arg.TheBlock.hidden-the_row-Expr-0 denote.Hole.Carrier.hidden
Unary-Prefixed op operand = refl

pub Index-Element : {N : Type 0} (name : Mark N) (index : Expr N) → Index name index ≡ Element name index
unfolding Rattle.cm_syntax.specs.declared.expr.Arg.TheBlock.shape-the_row-Expr-0 Rattle.cm_syntax.specs.declared.expr.Arg.TheBlock.hidden-the_row-Expr-0 denote.Hole.Carrier.hidden
Index-Element name index = refl

pub Input-InputAt : {N : Type 0} (index : Expr N) → Input index ≡ InputAt index
unfolding Rattle.cm_syntax.specs.declared.expr.Arg.TheBlock.shape-the_row-Expr-0 Rattle.cm_syntax.specs.declared.expr.Arg.TheBlock.hidden-the_row-Expr-0 denote.Hole.Carrier.hidden
Input-InputAt index = refl
