-- Texts that are the same but for a `sync` that one has more, wherever it stands.
use Rattle.std.specs.Prelude.{◌≡◌, ℕ, List, ◌∷◌, ◌++◌, Option, None, Some}
use Rattle.cm_syntax.specs.declared.expr.Mark.{Mark}
use Rattle.cm_syntax.specs.declared.expr.Expr.{Expr}
use Rattle.cm_syntax.specs.declared.stmt.Stmt.{Stmt}
use Rattle.cm_syntax.specs.declared.stmt.Stmt.TheVariants as statement

mutual
  -- the second statements have a `sync` more
  pub data AddsSync : (body longer : List (Stmt ℕ)) → Type 0 where
    -- between two of them
    between : {body longer : List (Stmt ℕ)} (before after : List (Stmt ℕ)) (at : ℕ) →
        body ≡ before ++ after → longer ≡ before ++ statement.Sync at ∷ after → AddsSync body longer
    -- in one of them
    within : {body longer : List (Stmt ℕ)} (before after : List (Stmt ℕ)) (s t : Stmt ℕ) → AddsSyncIn s t →
        body ≡ before ++ s ∷ after → longer ≡ before ++ t ∷ after → AddsSync body longer

  -- the second statement has a `sync` more
  pub data AddsSyncIn : (s t : Stmt ℕ) → Type 0 where
    in_block : {s t : Stmt ℕ} (body longer : List (Stmt ℕ)) → AddsSync body longer →
        s ≡ statement.Block body → t ≡ statement.Block longer → AddsSyncIn s t
    in_split : {s t : Stmt ℕ} (whole : Mark ℕ) (index : Expr ℕ) (left right : Mark ℕ) (body longer : List (Stmt ℕ)) (close : ℕ) →
        AddsSync body longer → s ≡ statement.Split whole index left right body close →
        t ≡ statement.Split whole index left right longer close → AddsSyncIn s t
    in_if : {s t : Stmt ℕ} (test : Expr ℕ) (chosen longer : Stmt ℕ) → AddsSyncIn chosen longer →
        s ≡ statement.If test chosen None → t ≡ statement.If test longer None → AddsSyncIn s t
    in_then : {s t : Stmt ℕ} (test : Expr ℕ) (chosen longer other : Stmt ℕ) → AddsSyncIn chosen longer →
        s ≡ statement.If test chosen (Some other) → t ≡ statement.If test longer (Some other) → AddsSyncIn s t
    in_else : {s t : Stmt ℕ} (test : Expr ℕ) (chosen other longer : Stmt ℕ) → AddsSyncIn other longer →
        s ≡ statement.If test chosen (Some other) → t ≡ statement.If test chosen (Some longer) → AddsSyncIn s t
    in_while : {s t : Stmt ℕ} (test : Expr ℕ) (body longer : Stmt ℕ) → AddsSyncIn body longer →
        s ≡ statement.While test body → t ≡ statement.While test longer → AddsSyncIn s t
    in_for : {s t : Stmt ℕ} (first : Stmt ℕ) (test : Option (Expr ℕ)) (step body longer : Stmt ℕ) → AddsSyncIn body longer →
        s ≡ statement.For first test step body → t ≡ statement.For first test step longer → AddsSyncIn s t
