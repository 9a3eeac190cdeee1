use Rattle.std.proofs.Common.{arith}
use Rattle.cm_asm.proofs.ListingLaw.{hex-none, hex-more}
use Rattle.cm_asm.proofs.listing.+put_hex.Goals as goal

pub returns-then-digits-eq0 : goal.returns-then-digits-eq0
returns-then-digits-eq0 t c = hex-none c.args.digits c.args.number c.args.text.now c.if-digits-eq0.true

pub returns : goal.returns
returns t c =
    hex-more c.args.digits c.args.number c.args.text.now c.put_hex.new.text c.push.new.self c.hex_digit.result (omega arith)
    c.in_ok-put_hex.ensures c.hex_digit.ensures c.in_ok-push.ensures.ok
