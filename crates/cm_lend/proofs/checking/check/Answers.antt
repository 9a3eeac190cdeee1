use Rattle.std.proofs.Common.{None, Some, ◌∙◌, ap}
use Rattle.cm_lend.specs.declared.breach.Breach.TheVariants.{Lent, Same}
use Rattle.cm_lend.proofs.AnswerLaw.{gives}
use Rattle.cm_lend.proofs.checking.check.Goals as goal

pub returns-in-None-clause-each_lent : goal.returns-in-None-clause-each_lent
returns-in-None-clause-each_lent c = λ at spawn h.
    rw c.of.ensures (gives c.args.program _ None (Some (Lent at spawn)) c.in_ok-breach_of.ensures c.in-None.is h)

pub returns-in-None-clause-each_same : goal.returns-in-None-clause-each_same
returns-in-None-clause-each_same c = λ at h.
    rw c.of.ensures (gives c.args.program _ None (Some (Same at)) c.in_ok-breach_of.ensures c.in-None.is h)

pub returns-in-Some-Lent-clause-each_accepted : goal.returns-in-Some-Lent-clause-each_accepted
returns-in-Some-Lent-clause-each_accepted c = λ h.
    gives c.args.program _ (Some (Lent _ _)) None c.in_ok-breach_of.ensures (c.in-Some-Lent.is ∙ ap Some c.in-Some-Lent.field-0-is) h

pub returns-in-Some-Lent-clause-each_lent : goal.returns-in-Some-Lent-clause-each_lent
returns-in-Some-Lent-clause-each_lent c = λ at spawn h.
    gives c.args.program _ (Some (Lent _ _)) (Some (Lent at spawn)) c.in_ok-breach_of.ensures (c.in-Some-Lent.is ∙ ap Some c.in-Some-Lent.field-0-is) h

pub returns-in-Some-Lent-clause-each_same : goal.returns-in-Some-Lent-clause-each_same
returns-in-Some-Lent-clause-each_same c = λ at h.
    gives c.args.program _ (Some (Lent _ _)) (Some (Same at)) c.in_ok-breach_of.ensures (c.in-Some-Lent.is ∙ ap Some c.in-Some-Lent.field-0-is) h

pub returns-clause-each_accepted : goal.returns-clause-each_accepted
returns-clause-each_accepted c = λ h.
    gives c.args.program _ (Some (Same _)) None c.in_ok-breach_of.ensures (c.in-Some-Same.is ∙ ap Some c.in-Some-Same.field-0-is) h

pub returns-clause-each_lent : goal.returns-clause-each_lent
returns-clause-each_lent c = λ at spawn h.
    gives c.args.program _ (Some (Same _)) (Some (Lent at spawn)) c.in_ok-breach_of.ensures (c.in-Some-Same.is ∙ ap Some c.in-Some-Same.field-0-is) h

pub returns-clause-each_same : goal.returns-clause-each_same
returns-clause-each_same c = λ at h.
    gives c.args.program _ (Some (Same _)) (Some (Same at)) c.in_ok-breach_of.ensures (c.in-Some-Same.is ∙ ap Some c.in-Some-Same.field-0-is) h
