-- Texts with fewer paths than others: without a spawn there is none, and a `sync` adds none.
use Rattle.std.proofs.Common.{◌≡◌, ℕ, inl, inr, List, [], ◌∷◌, ◌++◌, ap, sym, subst, refl, Option, None, Some}
use Rattle.cm_syntax.specs.declared.expr.Expr.{Expr}
use Rattle.cm_syntax.specs.declared.stmt.Stmt.{Stmt}
use Rattle.cm_syntax.specs.Walk.{Event, mentions, calls, spawns, ends, Order, nothing, event, next, choice, turns, Has}
use Rattle.cm_syntax.specs.Evaluation.{expression_order, mention_order, rounds_order, statement_order, body_order}
use Rattle.cm_syntax.specs.Lending.{Lends, Mentions}
use Rattle.cm_lend.specs.Part.{Passes, Enters, Leaves, Holds}
use Rattle.cm_lend.specs.Spawn.{IsSpawn}
use Rattle.cm_lend.specs.AddedSync.{AddsSync, AddsSyncIn, between, within, in_block, in_split, in_if, in_then, in_else, in_while, in_for}
use Rattle.cm_lend.proofs.TreeLaw.{order_Block, order_Split, order_IfAlone, order_IfElse, order_While, order_For}

-- ---- a path begins at such an event

leaves_has : (From : Event → Type 0) (o : Order) → Leaves From o → Has From o
leaves_has From nothing h = h
leaves_has From (event e) h = h
leaves_has From (next first second) (inl h) = inl (leaves_has From first h.0)
leaves_has From (next first second) (inr h) = inr (leaves_has From second h)
leaves_has From (choice one other) (inl h) = inl (leaves_has From one h)
leaves_has From (choice one other) (inr h) = inr (leaves_has From other h)
leaves_has From (turns turn) h = leaves_has From turn h

holds_has : (From To : Event → Type 0) (o : Order) → Holds From To o → Has From o
holds_has From To nothing h = h
holds_has From To (event e) h = absurd h
holds_has From To (next first second) (inl h) = inl (holds_has From To first h)
holds_has From To (next first second) (inr (inl h)) = inr (holds_has From To second h)
holds_has From To (next first second) (inr (inr h)) = inl (leaves_has From first h.0)
holds_has From To (choice one other) (inl h) = inl (holds_has From To one h)
holds_has From To (choice one other) (inr h) = inr (holds_has From To other h)
holds_has From To (turns turn) (inl h) = holds_has From To turn h
holds_has From To (turns turn) (inr h) = leaves_has From turn h.0

has_map : (P Q : Event → Type 0) (o : Order) → ((e : Event) → P e → Q e) → Has P o → Has Q o
has_map P Q nothing there h = h
has_map P Q (event e) there h = there e h
has_map P Q (next first second) there (inl h) = inl (has_map P Q first there h)
has_map P Q (next first second) there (inr h) = inr (has_map P Q second there h)
has_map P Q (choice one other) there (inl h) = inl (has_map P Q one there h)
has_map P Q (choice one other) there (inr h) = inr (has_map P Q other there h)
has_map P Q (turns turn) there h = has_map P Q turn there h

pub path_has_spawn : (o : Order) (spawn variable at : ℕ) → Holds (Lends spawn variable) (Mentions variable at) o → Has IsSpawn o
path_has_spawn o spawn variable at h = has_map (Lends spawn variable) IsSpawn o lends (holds_has (Lends spawn variable) (Mentions variable at) o h)
  where
    lends : (e : Event) → Lends spawn variable e → IsSpawn e
    lends (mentions v a) i = i
    lends (calls passed) i = i
    lends (spawns a lent) i = tt
    lends ends i = i

-- ---- each path of the one is a path of the other

pub record Less (o p : Order) : Type 0 where
  pub passes : Passes o → Passes p
  pub enters : (variable at : ℕ) → Enters (Mentions variable at) o → Enters (Mentions variable at) p
  pub leaves : (spawn variable : ℕ) → Leaves (Lends spawn variable) o → Leaves (Lends spawn variable) p
  pub holds : (spawn variable at : ℕ) → Holds (Lends spawn variable) (Mentions variable at) o → Holds (Lends spawn variable) (Mentions variable at) p

less_same : (o : Order) → Less o o
less_same o = record { passes = λ h. h; enters = λ v a h. h; leaves = λ s v h. h; holds = λ s v a h. h }

less_is : {o p q r : Order} → o ≡ p → q ≡ r → Less p r → Less o q
less_is {p = p} {q = q} e f h = subst (λ x. Less x q) (sym e) (subst (Less p) (sym f) h)

less_next : {o p q r : Order} → Less o p → Less q r → Less (next o q) (next p r)
less_next a b = record {
  passes = λ h. (a.passes h.0, b.passes h.1);
  enters = λ v at h. elim h [ inl i ↦ inl (a.enters v at i) | inr i ↦ inr (a.passes i.0, b.enters v at i.1) ];
  leaves = λ s v h. elim h [ inl i ↦ inl (a.leaves s v i.0, b.passes i.1) | inr i ↦ inr (b.leaves s v i) ];
  holds = λ s v at h. elim h [
    | inl i ↦ inl (a.holds s v at i)
    | inr i ↦ elim i [ inl j ↦ inr (inl (b.holds s v at j)) | inr j ↦ inr (inr (a.leaves s v j.0, b.enters v at j.1)) ]
  ];
}

less_choice : {o p q r : Order} → Less o p → Less q r → Less (choice o q) (choice p r)
less_choice a b = record {
  passes = λ h. elim h [ inl i ↦ inl (a.passes i) | inr i ↦ inr (b.passes i) ];
  enters = λ v at h. elim h [ inl i ↦ inl (a.enters v at i) | inr i ↦ inr (b.enters v at i) ];
  leaves = λ s v h. elim h [ inl i ↦ inl (a.leaves s v i) | inr i ↦ inr (b.leaves s v i) ];
  holds = λ s v at h. elim h [ inl i ↦ inl (a.holds s v at i) | inr i ↦ inr (b.holds s v at i) ];
}

less_turns : {o p : Order} → Less o p → Less (turns o) (turns p)
less_turns a = record {
  passes = λ h. h;
  enters = a.enters;
  leaves = a.leaves;
  holds = λ s v at h. elim h [ inl i ↦ inl (a.holds s v at i) | inr i ↦ inr (a.leaves s v i.0, a.enters v at i.1) ];
}

less_rounds : (test : Option (Expr ℕ)) {o p : Order} → Less o p → Less (rounds_order test o) (rounds_order test p)
less_rounds None a = less_next (less_turns a) (less_same (event ends))
less_rounds (Some test) a = less_next (less_turns (less_next (less_same (expression_order test)) a)) (less_same (expression_order test))

less_end : (o : Order) → Less (next (event ends) o) o
less_end o = record {
  passes = λ h. h.1;
  enters = λ v at h. elim h [ inl i ↦ absurd i | inr i ↦ i.1 ];
  leaves = λ s v h. elim h [ inl i ↦ absurd i.0 | inr i ↦ i ];
  holds = λ s v at h. elim h [ inl i ↦ absurd i | inr i ↦ elim i [ inl j ↦ j | inr j ↦ absurd j.0 ] ];
}

-- behind the same statements
less_behind : (before x y : List (Stmt ℕ)) → Less (body_order x) (body_order y) → Less (body_order (before ++ x)) (body_order (before ++ y))
less_behind [] x y h = h
less_behind (s ∷ before) x y h = less_next (less_same (statement_order s)) (less_behind before x y h)

mutual
  pub less_body : {body longer : List (Stmt ℕ)} → AddsSync body longer → Less (body_order longer) (body_order body)
  less_body (between before after at e f) =
      less_is (ap body_order f) (ap body_order e) (less_behind before _ after (less_end (body_order after)))
  less_body (within before after s t h e f) =
      less_is (ap body_order f) (ap body_order e) (less_behind before (t ∷ after) (s ∷ after) (less_next (less_statement h) (less_same (body_order after))))

  less_statement : {s t : Stmt ℕ} → AddsSyncIn s t → Less (statement_order t) (statement_order s)
  less_statement (in_block body longer h e f) = less_is (order_Block _ longer f) (order_Block _ body e) (less_body h)
  less_statement (in_split whole index left right body longer close h e f) =
      less_is (order_Split _ whole index left right longer close f) (order_Split _ whole index left right body close e)
      (less_next (less_same (expression_order index)) (less_next (less_same (mention_order whole)) (less_next (less_same (mention_order left))
      (less_next (less_same (mention_order right)) (less_next (less_body h) (less_same (next (event (mentions left.name close)) (event (mentions right.name close)))))))))
  less_statement (in_if test x y h e f) =
      less_is (order_IfAlone _ test y None f refl) (order_IfAlone _ test x None e refl)
      (less_next (less_same (expression_order test)) (less_choice (less_statement h) (less_same nothing)))
  less_statement (in_then test x y z h e f) =
      less_is (order_IfElse _ test y (Some z) z f refl) (order_IfElse _ test x (Some z) z e refl)
      (less_next (less_same (expression_order test)) (less_choice (less_statement h) (less_same (statement_order z))))
  less_statement (in_else test x y z h e f) =
      less_is (order_IfElse _ test x (Some z) z f refl) (order_IfElse _ test x (Some y) y e refl)
      (less_next (less_same (expression_order test)) (less_choice (less_same (statement_order x)) (less_statement h)))
  less_statement (in_while test x y h e f) = less_is (order_While _ test y f) (order_While _ test x e) (less_rounds (Some test) (less_statement h))
  less_statement (in_for first test step x y h e f) =
      less_is (order_For _ first step y test f) (order_For _ first step x test e)
      (less_next (less_same (statement_order first)) (less_rounds test (less_next (less_statement h) (less_same (statement_order step)))))
