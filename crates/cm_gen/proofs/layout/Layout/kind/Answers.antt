use Rattle.cm_gen.proofs.parts.LayoutLaw.{kind_small}
use Rattle.cm_gen.proofs.layout.Layout.kind.Goals as goal

pub returns-clause-small : goal.returns-clause-small
returns-clause-small c = kind_small _ _ _ c.find.result c.find.ensures.value c.find.ensures.fits
