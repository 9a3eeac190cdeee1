use Rattle.std.proofs.Common.{arith}
use Rattle.cm_meaning.proofs.law.more_ticks_same_end.Goals as goal

pub returns-clause-done : goal.returns-clause-done
returns-clause-done c = λ program page input a h w less more out v n l x. (x.0, x.1, x.2, (let b = x.3 in omega (arith, l, b)))

pub returns-clause-trapped : goal.returns-clause-trapped
returns-clause-trapped c = λ program page input a h w less more out k n l x. (x.0, x.1, x.2, x.3, (let b = x.4 in omega (arith, l, b)))

pub returns-clause-spent : goal.returns-clause-spent
returns-clause-spent c = λ program page input a h w less more l x. record { out = x.out; used = x.used; last = x.last; held = x.held; comes = x.comes; more = (let b = x.more in omega (arith, l, b)) }

pub returns-clause-within : goal.returns-clause-within
returns-clause-within c = λ program page input a h w less more out v n l x. (x.0, x.1, x.2, l)
