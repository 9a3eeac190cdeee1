use Rattle.std.proofs.Common.{arith, sym, ◌∙◌}
use Rattle.cm_asm.proofs.ReadingLaw.{agreeing-none, agreeing-stop, agreeing-end, agreeing-more}
use Rattle.cm_asm.proofs.reading.+agreeing.Goals as goal
use Rattle.cm_asm.proofs.reading.+agreeing.Goals.{then-count-digits-via-then-count-digits, then-count-digits-via-else-count-digits+then-count-text}

pub returns-then-digits-eq0 : goal.returns-then-digits-eq0
returns-then-digits-eq0 t c = agreeing-none c.args.text.now c.args.digits c.args.number c.if-digits-eq0.true

pub returns-then-count-digits : goal.returns-then-count-digits
returns-then-count-digits t c =
    let text = c.args.text.now in
    elim c.then-count-digits.branch [
      | then-count-digits-via-then-count-digits w ↦ agreeing-stop text c.args.digits c.args.number c.agreeing-count.result (omega arith) c.agreeing-count.ensures (omega arith)
      | then-count-digits-via-else-count-digits+then-count-text w ↦
          agreeing-end text c.args.digits c.args.number c.agreeing-count.result (omega arith) c.agreeing-count.ensures (omega arith) (λ lt. absurd (omega arith))
    ]

pub returns-then-text-count : goal.returns-then-text-count
returns-then-text-count t c =
    agreeing-end c.args.text.now c.args.digits c.args.number c.agreeing-count.result (omega arith) c.agreeing-count.ensures (omega arith)
    (λ lt e. c.if-text-count.true (sym e ∙ sym c.hex_digit.ensures))

pub returns : goal.returns
returns t c =
    let inside = c.agreeing-count.ensures.inside in
    agreeing-more c.args.text.now c.args.digits c.args.number c.agreeing-count.result (omega arith) c.agreeing-count.ensures (omega arith)
    (omega arith) (c.if-text-count.false ∙ c.hex_digit.ensures)
