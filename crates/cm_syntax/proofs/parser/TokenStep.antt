-- What the machine counts at a number, and that it takes no token that fits nowhere.
use Rattle.std.proofs.Common.{◌≡◌, ℕ, refl, subst, None}
use Rattle.std.specs.Prelude.{⊤}
use Rattle.cm_syntax.specs.declared.expr.Expr.TheVariants as expression
use Rattle.cm_syntax.specs.declared.stmt.Slot.TheVariants as slot
use Rattle.cm_syntax.specs.declared.stmt.Stmt.TheVariants as statement
use Rattle.cm_syntax.specs.declared.stmt.Target.TheVariants as target
use Rattle.cm_syntax.specs.Token.{Token}
use Rattle.cm_syntax.specs.ParseTree.{Offset}
use Rattle.cm_syntax.specs.Yield.{Quantity}
use Rattle.cm_syntax.specs.Parser.{State, Next, goes, stops, step, item}

-- the number is counted, as a literal or as the words of an array
abbrev pub CountsNumber : ℕ → Quantity → Type 0
CountsNumber n (Quantity.literal value) = value ≡ n
CountsNumber n (Quantity.words words) = words ≡ n
CountsNumber n _ = ⊥

-- two numbers aren't wanted, or both are counted
abbrev pub AlikeNumbers : (n m : ℕ) → Next → Next → Type 0
AlikeNumbers n m stops stops = ⊤
AlikeNumbers n m (goes q next) (goes r other) = CountsNumber n q × CountsNumber m r
AlikeNumbers n m _ _ = ⊥

module _ (n m : ℕ) (at : Offset) where
  pub alike_numbers : (s : State) → AlikeNumbers n m (step s (Token.number n) at) (step s (Token.number m) at)
  alike_numbers (State.sign_next s next) = tt
  alike_numbers (State.word_next w next) = tt
  alike_numbers (State.name_next k) = tt
  alike_numbers (State.operand before k) = (refl, refl)
  alike_numbers (State.operand_name x before k) = alike_numbers (k (expression.Scalar x) before)
  alike_numbers (State.operators level before e k) = alike_numbers (k e before)
  alike_numbers (State.first_argument k) = (refl, refl)
  alike_numbers (State.next_argument before k) = (refl, refl)
  alike_numbers (State.more_arguments before k) = tt
  alike_numbers (State.optional_value k) = (refl, refl)
  alike_numbers (State.item_name x k) = alike_numbers (k (item x slot.Scalar))
  alike_numbers (State.array_words k) = (refl, refl)
  alike_numbers (State.more_items before k) = alike_numbers (k before)
  alike_numbers (State.target_next k) = tt
  alike_numbers (State.target_name x k) = alike_numbers (k (target.Scalar x))
  alike_numbers (State.writing written k) = tt
  alike_numbers (State.simple first k) = tt
  alike_numbers (State.simple_name x k) = tt
  alike_numbers (State.first_part k) = tt
  alike_numbers (State.last_part k) = tt
  alike_numbers (State.plain d inner k) = tt
  alike_numbers (State.plain_name x k) = tt
  alike_numbers (State.destination x k) = (refl, refl)
  alike_numbers (State.otherwise d test chosen k) = alike_numbers (k (statement.If test chosen None))
  alike_numbers (State.statements d before k) = tt
  alike_numbers (State.first_parameter k) = tt
  alike_numbers (State.parameter_declarator k) = tt
  alike_numbers (State.parameter_name x k) = alike_numbers (k (item x slot.Scalar))
  alike_numbers (State.more_parameters before k) = tt
  alike_numbers (State.function_next k) = tt
  alike_numbers (State.return_type k) = tt
  alike_numbers (State.functions_next before) = tt

-- what is counted at a number that is taken
pub number_counted : (s : State) (n : ℕ) (at : Offset) (q : Quantity) (next : State) → step s (Token.number n) at ≡ goes q next → CountsNumber n q
number_counted s n at q next e = by_next (step s (Token.number n) at) (alike_numbers n n at s) e
  where
    by_next : (found : Next) → AlikeNumbers n n found found → found ≡ goes q next → CountsNumber n q
    by_next stops h e = absurd (cc)
    by_next (goes r other) h e = let same : r ≡ q = cc in subst (CountsNumber n) same h.0

-- a token that fits nowhere is wanted nowhere
pub unfit_stops : (s : State) (at : Offset) → step s Token.unfit at ≡ stops
unfit_stops (State.sign_next s next) at = refl
unfit_stops (State.word_next w next) at = refl
unfit_stops (State.name_next k) at = refl
unfit_stops (State.operand before k) at = refl
unfit_stops (State.operand_name x before k) at = unfit_stops (k (expression.Scalar x) before) at
unfit_stops (State.operators level before e k) at = unfit_stops (k e before) at
unfit_stops (State.first_argument k) at = refl
unfit_stops (State.next_argument before k) at = refl
unfit_stops (State.more_arguments before k) at = refl
unfit_stops (State.optional_value k) at = refl
unfit_stops (State.item_name x k) at = unfit_stops (k (item x slot.Scalar)) at
unfit_stops (State.array_words k) at = refl
unfit_stops (State.more_items before k) at = unfit_stops (k before) at
unfit_stops (State.target_next k) at = refl
unfit_stops (State.target_name x k) at = unfit_stops (k (target.Scalar x)) at
unfit_stops (State.writing written k) at = refl
unfit_stops (State.simple first k) at = refl
unfit_stops (State.simple_name x k) at = refl
unfit_stops (State.first_part k) at = refl
unfit_stops (State.last_part k) at = refl
unfit_stops (State.plain d inner k) at = refl
unfit_stops (State.plain_name x k) at = refl
unfit_stops (State.destination x k) at = refl
unfit_stops (State.otherwise d test chosen k) at = unfit_stops (k (statement.If test chosen None)) at
unfit_stops (State.statements d before k) at = refl
unfit_stops (State.first_parameter k) at = refl
unfit_stops (State.parameter_declarator k) at = refl
unfit_stops (State.parameter_name x k) at = unfit_stops (k (item x slot.Scalar)) at
unfit_stops (State.more_parameters before k) at = refl
unfit_stops (State.function_next k) at = refl
unfit_stops (State.return_type k) at = refl
unfit_stops (State.functions_next before) at = refl
