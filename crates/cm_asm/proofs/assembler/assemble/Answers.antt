use Rattle.std.proofs.Common.{◌∙◌, sym, subst, arith}
use Rattle.std.proofs.lemmas.List.{append-nil}
use Rattle.std.proofs.lemmas.Result.{err_from_is_err_and}
use Rattle.cm_asm.specs.Assembly.{RefusesFirst}
use Rattle.cm_asm.proofs.AssemblyLaw.{all-assembled, all-fine, assembled-more, first-refusal, AnswersWith-from, none-refused}
use Rattle.cm_asm.proofs.assembler.assemble.Goals as goal
use Rattle.cm_asm.proofs.assembler.assemble.Goals.{in-Some+in_ok-push, in_default}

pub returns-in_err-word-clause-each_refusal : goal.returns-in_err-word-clause-each_refusal
returns-in_err-word-clause-each_refusal c =
    let items = c.args.items.now in
    let p = err_from_is_err_and c.from_residual-in_err-word.result c.from_residual-in_err-word.ensures.1 in
    let first = first-refusal items c.loop-at.at c.in_err-word.field-0.0 c.in_err-word.ensures c.loop-at.invariant.fine in
    rw p.1 (λ refusal h. AnswersWith-from items p.0 refusal (subst (λ given. RefusesFirst items given) (sym p.2) first) h)

pub loop-at-preserved : goal.loop-at-preserved
loop-at-preserved c =
    let l = c.loop-at in
    let step = assembled-more c.args.items.now l.at l.words c.match-branch-3.words c.in_ok-word.field-0 c.in_ok-word.ensures in
    elim c.match-branch-3.branch [
      | in-Some+in_ok-push w ↦ step (let found = w.in-Some.is in rw found (omega arith)) (let found = w.in-Some.is in rw found (w.words-is ∙ w.in_ok-push.ensures.ok)) l.invariant
      | in_default w ↦ step (let found = w.in_default.is in rw found tt) (let found = w.in_default.is in rw found (w.words-is ∙ sym (append-nil l.words))) l.invariant
    ]

pub returns-clause-accepted : goal.returns-clause-accepted
returns-clause-accepted c = all-fine c.args.items.now (λ k other lt. c.loop-at.invariant.fine k other (omega arith))

pub returns-clause-image : goal.returns-clause-image
returns-clause-image c = all-assembled c.args.items.now c.loop-at.at c.loop-at.words c.requires.few c.loop-at.auto.at-end c.loop-at.invariant

pub returns-clause-each_refusal : goal.returns-clause-each_refusal
returns-clause-each_refusal c =
    none-refused c.args.items.now (λ k other lt. c.loop-at.invariant.fine k other (omega arith))
