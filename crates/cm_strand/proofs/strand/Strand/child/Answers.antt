use Rattle.std.proofs.Common.{◌≡◌, ℕ, ap, ◌∙◌, sym, subst, arith, ◌∷◌, slice_index}
use Rattle.cm_isa.specs.declared.convention.TheConstants as reg
use Rattle.cm_hart.specs.declared.hart.Hart.{Hart}
use Rattle.cm_strand.specs.Strand.{Strand, hole}
use Rattle.cm_strand.specs.Turn.{new_hole, scopes_at}
use Rattle.cm_strand.specs.Seen.{IsStrand, IsLog, fresh_hole, scopes_of}
use Rattle.cm_strand.proofs.strand.Strand.child.Goals as goal

pub returns-clause-parent : goal.returns-clause-parent
returns-clause-parent c = λ S h request depth kept fits.
    let start : IsStrand (record c.args.parent.now { scopes = c.reserve.new.self }) S =
    record { registers = h.registers; counter = h.counter; start = h.start; log = h.log; scopes = c.reserve.ensures.items ∙ h.scopes; course = h.course } in
    let target : c.get-target.result ≡ S.registers reg.LEFT = c.get-target.ensures.value ∙ ap (λ (f : ℕ → ℕ). f reg.LEFT) (sym h.registers) in
    let WithUsed : ℕ → Type 0 = λ u. IsLog c.hole.new.self (hole (fresh_hole u (S.registers reg.LEFT) request) ∷ S.log) in
    let WithTarget : ℕ → Type 0 = λ t. IsLog c.hole.new.self (hole (fresh_hole c.used-used.result t request) ∷ S.log) in
    let log = subst WithUsed (c.used-used.ensures S start) (subst WithTarget target (c.in_ok-hole.ensures.ok S.log h.log request)) in
    let with_hole : Strand = record S { log = hole (new_hole S request) ∷ S.log } in
    let held : IsStrand (record c.args.parent.now { scopes = c.reserve.new.self; log = c.hole.new.self }) with_hole =
    record { registers = h.registers; counter = h.counter; start = h.start; log = log; scopes = start.scopes; course = h.course } in
    let x = c.open.ensures.strand with_hole held depth in
    let pc = ap (λ (k : Hart). k.pc) c.reply.ensures.hart in let counter = x.counter in record {
      registers = x.registers ∙ ap (λ (k : Hart). slice_index k.regs) (sym c.reply.ensures.hart);
      counter = omega (arith, pc, counter, fits);
      start = x.start;
      log = x.log;
      scopes = x.scopes ∙ ap (λ n. scopes_of (scopes_at S.scopes (S.registers reg.FP) (S.registers reg.SP) n depth)) (c.in_ok-hole.ensures.number S.log h.log);
      course = x.course;
    }

pub returns-clause-child : goal.returns-clause-child
returns-clause-child c = λ S h lent. c.called-child.ensures S lent (h.registers ∙ ap (λ (k : Hart). slice_index k.regs) (sym c.open.ensures.hart))
