use Rattle.cm_asm.proofs.ListingLaw.{line-appended}
use Rattle.cm_asm.proofs.listing.put_line.Goals as goal

pub returns : goal.returns
returns c =
    line-appended c.args.address c.args.word c.args.text.now c.put_hex.new.text c.push.new.self c.put_hex-2.new.text c.push-2.new.self
    c.in_ok-put_hex.ensures c.in_ok-push.ensures.ok c.in_ok-put_hex-2.ensures c.in_ok-push-2.ensures.ok
