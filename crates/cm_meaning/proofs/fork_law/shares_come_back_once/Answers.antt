use Rattle.std.proofs.Common.{◌≡◌, ℕ, List, ap, ◌∙◌, subst, inl, inr}
use Rattle.std.specs.Prelude.{ℤ, true, false}
use Rattle.cm_syntax.specs.declared.stmt.Program.{Program}
use Rattle.cm_syntax.specs.Cell.{Cell, absent, is_held, may_write, ComesEarly}
use Rattle.cm_syntax.specs.Stack.{Stack, StackSum}
use Rattle.cm_syntax.proofs.CellLaw.{not_held}
use Rattle.cm_meaning.specs.Piece.{here, this, deeper}
use Rattle.cm_meaning.specs.Meaning.{Note, GivesBack}
use Rattle.cm_meaning.specs.Law.{ComesFromOne}
use Rattle.cm_meaning.proofs.SumLaw.{comm, assoc, same, back_sum}
use Rattle.cm_meaning.proofs.fork_law.shares_come_back_once.Goals as goal

from_one : (program : Program) (page : ℕ) (input : List ℤ) {log later : List Note} {h g : Stack} → GivesBack program page input log h later g → ComesFromOne log later h g
from_one program page input (this {d = d} {o = o} {m = m} {x = x} {q = q} {out = out} {v = v} {given = given} {back = back} {rest = rest} y s) = record {
  depth = d;
  own = o;
  destination = x;
  ask = q;
  out = out;
  value = v;
  used = m;
  given = given;
  back = back;
  rest = rest;
  before = here;
  after = here;
  shares = y;
  joined = s;
}
from_one program page input (deeper y) = let x = from_one program page input y in record {
  depth = x.depth;
  own = x.own;
  destination = x.destination;
  ask = x.ask;
  out = x.out;
  value = x.value;
  used = x.used;
  given = x.given;
  back = x.back;
  rest = x.rest;
  before = deeper x.before;
  after = deeper x.after;
  shares = x.shares;
  joined = x.joined;
}

not_whole : (b r g : Cell ℤ) → ComesEarly b r g → may_write b ≡ false
not_whole b r g (inl e) = ap may_write e.0
not_whole b r g (inr e) = ap may_write e.2 ∙ e.1

left_none : (b r g : Cell ℤ) → ComesEarly b r g → is_held b ≡ true → r ≡ absent
left_none b r g (inl e) h = absurd (not_held b e.0 h)
left_none b r g (inr e) h = e.3

pub returns-clause-from_one : goal.returns-clause-from_one
returns-clause-from_one c = λ program page input log later h g y. from_one program page input y

pub returns-clause-together : goal.returns-clause-together
returns-clause-together c = λ back rest given h g whole y s t.
    let r = assoc (comm (back_sum y)) (comm t) in
    comm (subst (λ z. StackSum rest z whole) (same (comm r.1) s) r.2)

pub returns-clause-no_whole : goal.returns-clause-no_whole
returns-clause-no_whole c = λ back rest given y d s i. not_whole (back.words d s i) (rest.words d s i) (given.words d s i) (y.words d s i)

pub returns-clause-once : goal.returns-clause-once
returns-clause-once c = λ back rest given y d s i. left_none (back.words d s i) (rest.words d s i) (given.words d s i) (y.words d s i)
