use Rattle.std.proofs.Common.{◌≡◌, ℕ, ap, ◌∙◌, sym, refl, subst, arith, ◌≤◌, ◌<◌, ◌-◌, slice_index}
use Rattle.cm_isa.specs.Register.{with_register, put}
use Rattle.cm_isa.specs.declared.convention.TheConstants as reg
use Rattle.cm_hart.specs.declared.hart.Hart.{Hart}
use Rattle.cm_strand.specs.Turn.{unpaid, joined_log, AllFilledDone}
use Rattle.cm_strand.specs.Seen.{IsLog}
use Rattle.cm_strand.specs.declared.scope.Scope as code_scope
use Rattle.cm_strand.proofs.SeenLaw.{with_put}
use Rattle.cm_strand.proofs.DueLaw.{is_scope, first_fits, popped_rest}
use Rattle.cm_strand.proofs.answer.join.Goals as goal

pub due-requires : goal.due-requires
due-requires c =
    let (S, s, h, is, filled, le) = c.requires in
    first_fits c.args.strand.now c.unwrap-scope.result S s h
    (is_scope c.args.strand.now c.unwrap-scope.result S s h is (λ some. sym c.unwrap-scope.ensures ∙ c.pop.ensures.value c.unwrap-scope.result some)) le

pub take_due-requires : goal.take_due-requires
take_due-requires c =
    let (S, s, h, is, filled, le) = c.requires in
    first_fits c.args.strand.now c.unwrap-scope.result S s h
    (is_scope c.args.strand.now c.unwrap-scope.result S s h is (λ some. sym c.unwrap-scope.ensures ∙ c.pop.ensures.value c.unwrap-scope.result some)) le

pub returns-in-Some-clause-joined : goal.returns-in-Some-clause-joined
returns-in-Some-clause-joined c = λ _ S h s words is fits.
    let scope = is_scope c.args.strand.now c.unwrap-scope.result S s h is (λ some. sym c.unwrap-scope.ensures ∙ c.pop.ensures.value c.unwrap-scope.result some) in
    let first = ap (λ (x : code_scope.Scope). x.first) scope in let low = ap (λ (x : code_scope.Scope). x.low) scope in
    let due = (c.in-Some.ensures S.log h.log).1 in
    let Same : ℕ → Type 0 = λ n. unpaid n S.log ≡ c.in-Some.due in let taken = subst Same first due in
    let Joined : ℕ → Type 0 = λ n. IsLog c.take_due.new.self (joined_log n S.log) in
    let rs = c.args.strand.now.hart.regs in
    let pc = ap (λ (k : Hart). k.pc) c.reply.ensures.hart in let counter = h.counter in record {
      registers = ap (λ f. with_register (with_register f reg.TICKS (f reg.TICKS - unpaid s.first S.log)) reg.SP s.low) h.registers
          ∙ ap (λ f. with_register f reg.SP s.low)
          (with_put rs reg.TICKS (slice_index rs reg.TICKS - unpaid s.first S.log) c.get-left.ensures.shape (omega arith)
          ∙ ap slice_index ((λ i. put rs reg.TICKS (sym c.get-left.ensures.value i - taken i)) ∙ sym c.set.ensures.value))
          ∙ with_put c.set.new.self reg.SP s.low c.set.ensures.shape (omega arith)
          ∙ ap slice_index ((λ i. put c.set.new.self reg.SP (sym low i)) ∙ sym c.set-in-Some.ensures.value)
          ∙ ap (λ (k : Hart). slice_index k.regs) (sym c.reply.ensures.hart);
      counter = omega (arith, pc, counter, fits);
      start = h.start;
      log = subst Joined first (c.take_due.ensures S.log h.log due);
      scopes = popped_rest S.scopes c.args.strand.now.scopes.items c.pop.new.self.items c.args.strand.now.scopes.len h.scopes c.args.strand.now.scopes.ok.0 c.pop.ensures.rest;
      course = h.course;
    }

pub returns-in-Some-clause-which : goal.returns-in-Some-clause-which
returns-in-Some-clause-which c = λ S h s is.
    let scope = is_scope c.args.strand.now c.unwrap-scope.result S s h is (λ some. sym c.unwrap-scope.ensures ∙ c.pop.ensures.value c.unwrap-scope.result some) in
    let P : ℕ → Type 0 = λ n. AllFilledDone n S.log × (unpaid n S.log ≡ c.in-Some.due) × (c.in-Some.due ≤ c.get-left.result) in
    let all = subst P (ap (λ (x : code_scope.Scope). x.first) scope) (c.in-Some.ensures S.log h.log) in
    let left = c.get-left.ensures.value ∙ ap (λ (f : ℕ → ℕ). f reg.TICKS) (sym h.registers) in
    let ticks = all.1 in let fits = all.2 in ((λ _. (all.0, omega (arith, ticks, fits, left))), (λ _. refl))

pub returns-in-None-clause-which : goal.returns-in-None-clause-which
returns-in-None-clause-which c = λ S h s is.
    let scope = is_scope c.args.strand.now c.unwrap-scope.result S s h is (λ some. sym c.unwrap-scope.ensures ∙ c.pop.ensures.value c.unwrap-scope.result some) in
    let P : ℕ → Type 0 = λ n. AllFilledDone n S.log → c.get-left.result < unpaid n S.log in
    let over = subst P (ap (λ (x : code_scope.Scope). x.first) scope) (c.in-None.ensures S.log h.log) in
    let left = c.get-left.ensures.value ∙ ap (λ (f : ℕ → ℕ). f reg.TICKS) (sym h.registers) in
    ((λ same. cc), (λ all. let more = over all.0 in let fits = all.1 in absurd (omega (arith, more, fits, left))))
