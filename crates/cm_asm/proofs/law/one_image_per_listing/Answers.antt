use Rattle.cm_asm.proofs.TextLaw.{listing-injective}
use Rattle.cm_asm.proofs.law.one_image_per_listing.Goals as goal

pub returns : goal.returns
returns c = listing-injective
