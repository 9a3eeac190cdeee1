use Rattle.std.proofs.Common.{sym, ap, refl, ◌∙◌, ◌++◌, ◌∷◌, [], arith, Some}
use Rattle.cm_syntax.specs.declared.stmt.Stmt.TheVariants as statement
use Rattle.cm_syntax.specs.Parser.{State}
use Rattle.cm_reader.specs.Read.{answer}
use Rattle.cm_reader.proofs.StepLaw.{err_same, refused_on, ok_map, err_map}
use Rattle.cm_reader.proofs.StatementLaw.{plain_goes, else_goes, no_else_same, close_goes, plain_same}
use Rattle.std.proofs.Common.{◌≤◌, ◌+◌}
use Rattle.std.proofs.lemmas.Bool.{leb-true}
use Rattle.cm_syntax.specs.Parser.{body}
use Rattle.cm_reader.specs.declared.start.StatementStart.TheVariants as start
use Rattle.cm_reader.proofs.cursor.Reader.+statement.Goals as goal

pub plain-returns-in-If-clause-ok : goal.plain-returns-in-If-clause-ok
plain-returns-in-If-clause-ok t c =
    ok_map c.if_statement.result (λ read h k. h c.args.inner k) c.if_statement.ensures.ok

pub plain-returns-in-If-clause-err : goal.plain-returns-in-If-clause-err
plain-returns-in-If-clause-err t c =
    err_map c.if_statement.result (λ refusal h k. h c.args.inner k) c.if_statement.ensures.err

pub plain-returns-in-While-clause-ok : goal.plain-returns-in-While-clause-ok
plain-returns-in-While-clause-ok t c =
    ok_map c.while_statement.result (λ read h k. h c.args.inner k) c.while_statement.ensures.ok

pub plain-returns-in-While-clause-err : goal.plain-returns-in-While-clause-err
plain-returns-in-While-clause-err t c =
    err_map c.while_statement.result (λ refusal h k. h c.args.inner k) c.while_statement.ensures.err

pub plain-returns-in-For-clause-ok : goal.plain-returns-in-For-clause-ok
plain-returns-in-For-clause-ok t c =
    ok_map c.for_statement.result (λ read h k. h c.args.inner k) c.for_statement.ensures.ok

pub plain-returns-in-For-clause-err : goal.plain-returns-in-For-clause-err
plain-returns-in-For-clause-err t c =
    err_map c.for_statement.result (λ refusal h k. h c.args.inner k) c.for_statement.ensures.err

pub plain-returns-in-Split-clause-ok : goal.plain-returns-in-Split-clause-ok
plain-returns-in-Split-clause-ok t c =
    ok_map c.split_statement.result (λ read h k. h c.args.inner k) c.split_statement.ensures.ok

pub plain-returns-in-Split-clause-err : goal.plain-returns-in-Split-clause-err
plain-returns-in-Split-clause-err t c =
    err_map c.split_statement.result (λ refusal h k. h c.args.inner k) c.split_statement.ensures.err

pub plain-returns-in-Flat-clause-ok : goal.plain-returns-in-Flat-clause-ok
plain-returns-in-Flat-clause-ok t c =
    ok_map c.flat.result (λ read h k. h c.args.inner k) c.flat.ensures.ok

pub plain-returns-in-Flat-clause-err : goal.plain-returns-in-Flat-clause-err
plain-returns-in-Flat-clause-err t c =
    err_map c.flat.result (λ refusal h k. h c.args.inner k) c.flat.ensures.err

pub plain-flat-requires : goal.plain-flat-requires
plain-flat-requires t c =
    sym c.statement_start.ensures ∙ c.in-Flat.is

pub block-returns-in_err-rest-clause-err : goal.block-returns-in_err-rest-clause-err
block-returns-in_err-rest-clause-err t c =
    err_same _ c.from_residual.result c.in_err-rest.field-0.0 c.from_residual.ensures.1
    (λ k. c.in_err-rest.ensures.err (State.plain c.args.depth c.args.inner k) _ (plain_goes c.args.depth c.args.inner k c.args.tokens.now start.Block _ c.requires.start (λ token. refl)))

pub block-statements-requires : goal.block-statements-requires
block-statements-requires t c =
    let small : c.args.depth ≤ 64 = leb-true c.args.depth 64 c.in_ok-rest.ensures.within in
    (omega (arith, c.decreases, c.in_ok-rest.ensures.shorter), omega (arith, small, c.requires.inner))

pub block-returns-in_err-inside-clause-err : goal.block-returns-in_err-inside-clause-err
block-returns-in_err-inside-clause-err t c =
    err_same _ c.from_residual-in_err-inside.result c.in_err-inside.field-0.0 c.from_residual-in_err-inside.ensures.1
    (λ k. refused_on _ (c.in_ok-rest.ensures.ok (State.plain c.args.depth c.args.inner k) _ (plain_goes c.args.depth c.args.inner k c.args.tokens.now start.Block _ c.requires.start (λ token. refl))) (c.in_err-inside.ensures.err (λ inside close. k (statement.Block inside))))

pub block-returns-clause-ok : goal.block-returns-clause-ok
block-returns-clause-ok t c =
    λ k. c.in_ok-rest.ensures.ok (State.plain c.args.depth c.args.inner k) _ (plain_goes c.args.depth c.args.inner k c.args.tokens.now start.Block _ c.requires.start (λ token. refl)) ∙ c.in_ok-inside.ensures.ok (λ inside close. k (statement.Block inside))

pub while_statement-returns-in_err-rest-clause-err : goal.while_statement-returns-in_err-rest-clause-err
while_statement-returns-in_err-rest-clause-err t c =
    err_same _ c.from_residual.result c.in_err-rest.field-0.0 c.from_residual.ensures.1
    (λ inner k. c.in_err-rest.ensures.err (State.plain c.args.depth inner k) _ (plain_goes c.args.depth inner k c.args.tokens.now start.While _ c.requires (λ token. refl)))

pub while_statement-returns-in_err-test-clause-err : goal.while_statement-returns-in_err-test-clause-err
while_statement-returns-in_err-test-clause-err t c =
    err_same _ c.from_residual-in_err-test.result c.in_err-test.field-0.0 c.from_residual-in_err-test.ensures.1
    (λ inner k. refused_on _ (c.in_ok-rest.ensures.ok (State.plain c.args.depth inner k) _ (plain_goes c.args.depth inner k c.args.tokens.now start.While _ c.requires (λ token. refl))) (c.in_err-test.ensures.err (λ test. body c.args.depth (λ inside. k (statement.While test inside)))))

pub while_statement-body-requires : goal.while_statement-body-requires
while_statement-body-requires t c =
    (omega (arith, c.decreases, c.in_ok-rest.ensures.shorter, c.in_ok-test.ensures.shorter), leb-true c.args.depth 64 c.in_ok-rest.ensures.within)

pub while_statement-returns-clause-ok : goal.while_statement-returns-clause-ok
while_statement-returns-clause-ok t c =
    λ inner k. c.in_ok-rest.ensures.ok (State.plain c.args.depth inner k) _ (plain_goes c.args.depth inner k c.args.tokens.now start.While _ c.requires (λ token. refl)) ∙ (c.in_ok-test.ensures.ok (λ test. body c.args.depth (λ inside. k (statement.While test inside))) ∙ c.in_ok-body.ensures.ok (λ inside. k (statement.While c.in_ok-test.test inside)))

pub if_statement-returns-in_err-rest-clause-err : goal.if_statement-returns-in_err-rest-clause-err
if_statement-returns-in_err-rest-clause-err t c =
    err_same _ c.from_residual.result c.in_err-rest.field-0.0 c.from_residual.ensures.1
    (λ inner k. c.in_err-rest.ensures.err (State.plain c.args.depth inner k) _ (plain_goes c.args.depth inner k c.args.tokens.now start.If _ c.requires (λ token. refl)))

pub if_statement-returns-in_err-test-clause-err : goal.if_statement-returns-in_err-test-clause-err
if_statement-returns-in_err-test-clause-err t c =
    err_same _ c.from_residual-in_err-test.result c.in_err-test.field-0.0 c.from_residual-in_err-test.ensures.1
    (λ inner k. refused_on _ (c.in_ok-rest.ensures.ok (State.plain c.args.depth inner k) _ (plain_goes c.args.depth inner k c.args.tokens.now start.If _ c.requires (λ token. refl))) (c.in_err-test.ensures.err (λ test. body c.args.depth (λ chosen. State.otherwise c.args.depth test chosen k))))

pub if_statement-returns-clause-ok : goal.if_statement-returns-clause-ok
if_statement-returns-clause-ok t c =
    λ inner k. c.in_ok-rest.ensures.ok (State.plain c.args.depth inner k) _ (plain_goes c.args.depth inner k c.args.tokens.now start.If _ c.requires (λ token. refl)) ∙ (c.in_ok-test.ensures.ok (λ test. body c.args.depth (λ chosen. State.otherwise c.args.depth test chosen k)) ∙ c.in_ok-then.ensures.ok c.in_ok-test.test k)

pub otherwise-returns-in_err-rest-clause-err : goal.otherwise-returns-in_err-rest-clause-err
otherwise-returns-in_err-rest-clause-err t c =
    err_same _ c.from_residual.result c.in_err-rest.field-0.0 c.from_residual.ensures.1
    (λ test chosen k. c.in_err-rest.ensures.err (State.otherwise c.args.depth test chosen k) _ (else_goes c.args.depth test chosen k c.args.tokens.now (sym c.is_next_word.ensures ∙ c.if-is_next_word.true)))

pub otherwise-returns-in_ok-other-clause-ok : goal.otherwise-returns-in_ok-other-clause-ok
otherwise-returns-in_ok-other-clause-ok t c =
    λ test chosen k. c.in_ok-rest.ensures.ok (State.otherwise c.args.depth test chosen k) _ (else_goes c.args.depth test chosen k c.args.tokens.now (sym c.is_next_word.ensures ∙ c.if-is_next_word.true)) ∙ c.in_ok-other.ensures.ok (λ other. k (statement.If test chosen (Some other)))

pub otherwise-returns-else-is_next_word-clause-ok : goal.otherwise-returns-else-is_next_word-clause-ok
otherwise-returns-else-is_next_word-clause-ok t c =
    λ test chosen k. no_else_same c.args.self.length c.args.depth test chosen k c.args.tokens.now (sym c.is_next_word.ensures ∙ c.if-is_next_word.false)

pub for_statement-returns-in_err-rest-clause-err : goal.for_statement-returns-in_err-rest-clause-err
for_statement-returns-in_err-rest-clause-err t c =
    err_same _ c.from_residual.result c.in_err-rest.field-0.0 c.from_residual.ensures.1
    (λ inner k. c.in_err-rest.ensures.err (State.plain c.args.depth inner k) _ (plain_goes c.args.depth inner k c.args.tokens.now start.For _ c.requires (λ token. refl)))

pub for_statement-returns-in_err-first-clause-err : goal.for_statement-returns-in_err-first-clause-err
for_statement-returns-in_err-first-clause-err t c =
    err_same _ c.from_residual-in_err-first.result c.in_err-first.field-0.0 c.from_residual-in_err-first.ensures.1
    (λ inner k. refused_on _ (c.in_ok-rest.ensures.ok (State.plain c.args.depth inner k) _ (plain_goes c.args.depth inner k c.args.tokens.now start.For _ c.requires (λ token. refl))) (c.in_err-first.ensures.err (λ first test last. body c.args.depth (λ inside. k (statement.For first test last inside)))))

pub for_statement-body-requires : goal.for_statement-body-requires
for_statement-body-requires t c =
    (omega (arith, c.decreases, c.in_ok-rest.ensures.shorter, c.in_ok-first.ensures.shorter), leb-true c.args.depth 64 c.in_ok-rest.ensures.within)

pub for_statement-returns-clause-ok : goal.for_statement-returns-clause-ok
for_statement-returns-clause-ok t c =
    λ inner k. c.in_ok-rest.ensures.ok (State.plain c.args.depth inner k) _ (plain_goes c.args.depth inner k c.args.tokens.now start.For _ c.requires (λ token. refl)) ∙ (c.in_ok-first.ensures.ok (λ first test last. body c.args.depth (λ inside. k (statement.For first test last inside))) ∙ c.in_ok-body.ensures.ok (λ inside. k (statement.For c.in_ok-first.first c.in_ok-first.test c.in_ok-first.step inside)))

pub split_statement-returns-in_err-rest-clause-err : goal.split_statement-returns-in_err-rest-clause-err
split_statement-returns-in_err-rest-clause-err t c =
    err_same _ c.from_residual.result c.in_err-rest.field-0.0 c.from_residual.ensures.1
    (λ inner k. c.in_err-rest.ensures.err (State.plain c.args.depth inner k) _ (plain_goes c.args.depth inner k c.args.tokens.now start.Split _ c.requires (λ token. refl)))

pub split_statement-returns-in_err-whole-clause-err : goal.split_statement-returns-in_err-whole-clause-err
split_statement-returns-in_err-whole-clause-err t c =
    err_same _ c.from_residual-in_err-whole.result c.in_err-whole.field-0.0 c.from_residual-in_err-whole.ensures.1
    (λ inner k. refused_on _ (c.in_ok-rest.ensures.ok (State.plain c.args.depth inner k) _ (plain_goes c.args.depth inner k c.args.tokens.now start.Split _ c.requires (λ token. refl))) (c.in_err-whole.ensures.err (λ whole e left right. State.statements (c.args.depth + 1) [] (λ inside close. k (statement.Split whole e left right inside close)))))

pub split_statement-statements-requires : goal.split_statement-statements-requires
split_statement-statements-requires t c =
    let small : c.args.depth ≤ 64 = leb-true c.args.depth 64 c.in_ok-rest.ensures.within in
    (omega (arith, c.decreases, c.in_ok-rest.ensures.shorter, c.in_ok-whole.ensures.shorter), omega (arith, small))

pub split_statement-returns-in_err-body-clause-err : goal.split_statement-returns-in_err-body-clause-err
split_statement-returns-in_err-body-clause-err t c =
    err_same _ c.from_residual-in_err-body.result c.in_err-body.field-0.0 c.from_residual-in_err-body.ensures.1
    (λ inner k. refused_on _ (c.in_ok-rest.ensures.ok (State.plain c.args.depth inner k) _ (plain_goes c.args.depth inner k c.args.tokens.now start.Split _ c.requires (λ token. refl)) ∙ c.in_ok-whole.ensures.ok (λ whole e left right. State.statements (c.args.depth + 1) [] (λ inside close. k (statement.Split whole e left right inside close)))) (c.in_err-body.ensures.err (λ inside close. k (statement.Split c.in_ok-whole.whole c.in_ok-whole.place c.in_ok-whole.left c.in_ok-whole.right inside close))))

pub split_statement-returns-clause-ok : goal.split_statement-returns-clause-ok
split_statement-returns-clause-ok t c =
    λ inner k. c.in_ok-rest.ensures.ok (State.plain c.args.depth inner k) _ (plain_goes c.args.depth inner k c.args.tokens.now start.Split _ c.requires (λ token. refl)) ∙ (c.in_ok-whole.ensures.ok (λ whole e left right. State.statements (c.args.depth + 1) [] (λ inside close. k (statement.Split whole e left right inside close))) ∙ c.in_ok-body.ensures.ok (λ inside close. k (statement.Split c.in_ok-whole.whole c.in_ok-whole.place c.in_ok-whole.left c.in_ok-whole.right inside close)))

pub statement-returns-in_err-statement-clause-err : goal.statement-returns-in_err-statement-clause-err
statement-returns-in_err-statement-clause-err t c =
    err_same _ c.from_residual.result c.in_err-statement.field-0.0 c.from_residual.ensures.1
    (λ before k. refused_on _ (plain_same c.args.self.length c.args.depth before k c.args.tokens.now c.requires.more (sym c.is_next_word.ensures ∙ c.if-is_next_word.false)) (c.in_err-statement.ensures.err (λ s. State.statements c.args.depth (before ++ s ∷ []) k)))

pub statement-returns-in_ok-statement-clause-ok : goal.statement-returns-in_ok-statement-clause-ok
statement-returns-in_ok-statement-clause-ok t c =
    λ before k. plain_same c.args.self.length c.args.depth before k c.args.tokens.now c.requires.more (sym c.is_next_word.ensures ∙ c.if-is_next_word.false) ∙ c.in_ok-statement.ensures.ok (λ s. State.statements c.args.depth (before ++ s ∷ []) k)

pub statements-returns-in_err-statement-clause-err : goal.statements-returns-in_err-statement-clause-err
statements-returns-in_err-statement-clause-err t c =
    err_same _ c.from_residual.result c.in_err-statement.field-0.0 c.from_residual.ensures.1
    (λ k. refused_on _ (c.loop-rest.invariant.reads k) (c.in_err-statement.ensures.err c.loop-rest.statements k))

pub statements-loop-rest-preserved : goal.statements-loop-rest-preserved
statements-loop-rest-preserved t c =
    record {
      reads = λ k. c.loop-rest.invariant.reads k ∙ (c.in_ok-statement.ensures.ok c.loop-rest.statements k ∙ ap (λ xs. answer c.args.self.length (State.statements c.args.depth xs k) c.in_ok-statement.end.now) (sym c.in_ok-push.ensures.ok));
      shorter = omega (arith, c.in_ok-statement.ensures.shorter, c.loop-rest.invariant.shorter);
    }

pub statements-returns-in_err-rest-clause-err : goal.statements-returns-in_err-rest-clause-err
statements-returns-in_err-rest-clause-err t c =
    err_same _ c.from_residual-in_err-rest.result c.in_err-rest.field-0.0 c.from_residual-in_err-rest.ensures.1
    (λ k. refused_on _ (c.loop-rest.invariant.reads k) (c.in_err-rest.ensures.err (State.statements c.args.depth c.loop-rest.statements k) _ (close_goes c.args.depth c.loop-rest.statements k c.loop-rest.rest.now (sym c.is_next.ensures ∙ c.loop-rest-test.false))))

pub statements-returns-clause-ok : goal.statements-returns-clause-ok
statements-returns-clause-ok t c =
    λ k. c.loop-rest.invariant.reads k ∙ (c.in_ok-rest.ensures.ok (State.statements c.args.depth c.loop-rest.statements k) _ (close_goes c.args.depth c.loop-rest.statements k c.loop-rest.rest.now (sym c.is_next.ensures ∙ c.loop-rest-test.false)) ∙ ap (λ at. answer c.args.self.length (k c.loop-rest.statements at) c.in_ok-rest.rest.now) (sym c.next_offset-close.ensures))

pub while_statement-returns-in_err-body-clause-err : goal.while_statement-returns-in_err-body-clause-err
while_statement-returns-in_err-body-clause-err t c =
    err_same _ c.from_residual-in_err-body.result c.in_err-body.field-0.0 c.from_residual-in_err-body.ensures.1
    (λ inner k. refused_on _ (c.in_ok-rest.ensures.ok (State.plain c.args.depth inner k) _ (plain_goes c.args.depth inner k c.args.tokens.now start.While _ c.requires (λ token. refl)) ∙ c.in_ok-test.ensures.ok (λ test. body c.args.depth (λ inside. k (statement.While test inside)))) (c.in_err-body.ensures.err (λ inside. k (statement.While c.in_ok-test.test inside))))

pub for_statement-returns-in_err-body-clause-err : goal.for_statement-returns-in_err-body-clause-err
for_statement-returns-in_err-body-clause-err t c =
    err_same _ c.from_residual-in_err-body.result c.in_err-body.field-0.0 c.from_residual-in_err-body.ensures.1
    (λ inner k. refused_on _ (c.in_ok-rest.ensures.ok (State.plain c.args.depth inner k) _ (plain_goes c.args.depth inner k c.args.tokens.now start.For _ c.requires (λ token. refl)) ∙ c.in_ok-first.ensures.ok (λ first test last. body c.args.depth (λ inside. k (statement.For first test last inside)))) (c.in_err-body.ensures.err (λ inside. k (statement.For c.in_ok-first.first c.in_ok-first.test c.in_ok-first.step inside))))

pub if_statement-branches-requires : goal.if_statement-branches-requires
if_statement-branches-requires t c =
    (omega (arith, c.decreases, c.in_ok-rest.ensures.shorter, c.in_ok-test.ensures.shorter), leb-true c.args.depth 64 c.in_ok-rest.ensures.within)

pub if_statement-returns-in_err-then-clause-err : goal.if_statement-returns-in_err-then-clause-err
if_statement-returns-in_err-then-clause-err t c =
    err_same _ c.from_residual-in_err-then.result c.in_err-then.field-0.0 c.from_residual-in_err-then.ensures.1
    (λ inner k. refused_on _ (c.in_ok-rest.ensures.ok (State.plain c.args.depth inner k) _ (plain_goes c.args.depth inner k c.args.tokens.now start.If _ c.requires (λ token. refl)) ∙ c.in_ok-test.ensures.ok (λ test. body c.args.depth (λ chosen. State.otherwise c.args.depth test chosen k))) (c.in_err-then.ensures.err c.in_ok-test.test k))

pub branches-returns-in_err-then-clause-err : goal.branches-returns-in_err-then-clause-err
branches-returns-in_err-then-clause-err t c =
    err_same _ c.from_residual.result c.in_err-then.field-0.0 c.from_residual.ensures.1
    (λ test k. c.in_err-then.ensures.err (λ chosen. State.otherwise c.args.depth test chosen k))

pub branches-returns-in_err-other-clause-err : goal.branches-returns-in_err-other-clause-err
branches-returns-in_err-other-clause-err t c =
    err_same _ c.from_residual-in_err-other.result c.in_err-other.field-0.0 c.from_residual-in_err-other.ensures.1
    (λ test k. refused_on _ (c.in_ok-then.ensures.ok (λ chosen. State.otherwise c.args.depth test chosen k)) (c.in_err-other.ensures.err test c.in_ok-then.then k))

pub branches-returns-clause-ok : goal.branches-returns-clause-ok
branches-returns-clause-ok t c =
    λ test k. c.in_ok-then.ensures.ok (λ chosen. State.otherwise c.args.depth test chosen k) ∙ c.in_ok-other.ensures.ok test c.in_ok-then.then k

pub body-returns-clause-ok : goal.body-returns-clause-ok
body-returns-clause-ok t c =
    λ k. rw (c.in_ok-body.ensures) (c.in_ok-inside.ensures.ok k)

pub otherwise-returns-in_err-other-clause-err : goal.otherwise-returns-in_err-other-clause-err
otherwise-returns-in_err-other-clause-err t c =
    err_same _ c.from_residual-in_err-other.result c.in_err-other.field-0.0 c.from_residual-in_err-other.ensures.1
    (λ test chosen k. refused_on _ (c.in_ok-rest.ensures.ok (State.otherwise c.args.depth test chosen k) _ (else_goes c.args.depth test chosen k c.args.tokens.now (sym c.is_next_word.ensures ∙ c.if-is_next_word.true))) (c.in_err-other.ensures.err (λ other. k (statement.If test chosen (Some other)))))
