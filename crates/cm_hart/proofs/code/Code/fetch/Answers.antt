-- What is at the address by the entry that is looked up; each other clause follows from this one.
use Rattle.std.proofs.Common.{arith, subst, rules}
use Rattle.cm_hart.specs.Code.{DecodesTo}
use Rattle.cm_hart.proofs.CodeLaw.{here, beyond, found_by, jump_by, word_by}
use Rattle.cm_hart.proofs.code.Code.fetch.Goals as goal

pub returns-in-Some-Some-clause-cases : goal.returns-in-Some-Some-clause-cases
returns-in-Some-Some-clause-cases c =
    let at = here c.args.self.now c.deref.result.now _ _ (search rules) c.in-Some-Some.ensures.lookup.3.0 c.in-Some-Some.ensures.lookup.3.1 in
    (c.if-pc-ne0.false, at.0, subst (DecodesTo _) c.in-Some-Some.field-0-is at.1)

pub returns-in-Some-None-clause-cases : goal.returns-in-Some-None-clause-cases
returns-in-Some-None-clause-cases c =
    let at = here c.args.self.now c.deref.result.now _ _ (search rules) c.in-Some-None.ensures.lookup.3.0 c.in-Some-None.ensures.lookup.3.1 in
    ((c.if-pc-ne0.false, at.0), subst (DecodesTo _) c.in-Some-None.field-0-is at.1)

pub returns-in-None-clause-cases : goal.returns-in-None-clause-cases
returns-in-None-clause-cases c = λ inside.
    let at = beyond c.args.self.now c.deref.result.now _ (search rules) c.in-None.ensures.lookup.3 in
    omega (arith, at, inside.1)

pub returns-in-Some-Some-clause-found : goal.returns-in-Some-Some-clause-found
returns-in-Some-Some-clause-found c = found_by _ _ _ (returns-in-Some-Some-clause-cases c)

pub returns-in-Some-Some-clause-jump : goal.returns-in-Some-Some-clause-jump
returns-in-Some-Some-clause-jump c = jump_by _ _ _ (returns-in-Some-Some-clause-cases c)

pub returns-in-Some-Some-clause-word : goal.returns-in-Some-Some-clause-word
returns-in-Some-Some-clause-word c = word_by _ _ _ (returns-in-Some-Some-clause-cases c)

pub returns-in-Some-None-clause-found : goal.returns-in-Some-None-clause-found
returns-in-Some-None-clause-found c = found_by _ _ _ (returns-in-Some-None-clause-cases c)

pub returns-in-Some-None-clause-jump : goal.returns-in-Some-None-clause-jump
returns-in-Some-None-clause-jump c = jump_by _ _ _ (returns-in-Some-None-clause-cases c)

pub returns-in-Some-None-clause-word : goal.returns-in-Some-None-clause-word
returns-in-Some-None-clause-word c = word_by _ _ _ (returns-in-Some-None-clause-cases c)

pub returns-in-None-clause-found : goal.returns-in-None-clause-found
returns-in-None-clause-found c = found_by _ _ _ (returns-in-None-clause-cases c)

pub returns-in-None-clause-jump : goal.returns-in-None-clause-jump
returns-in-None-clause-jump c = jump_by _ _ _ (returns-in-None-clause-cases c)

pub returns-in-None-clause-word : goal.returns-in-None-clause-word
returns-in-None-clause-word c = word_by _ _ _ (returns-in-None-clause-cases c)
