use Rattle.std.proofs.Common.{sym, ap, ◌∙◌, subst}
use Rattle.cm_syntax.specs.declared.stmt.Program.{Program}
use Rattle.cm_gen.specs.Fits.{FunctionsFit}
use Rattle.cm_gen.proofs.images.MakingLaw.{fits_of}
use Rattle.cm_gen.proofs.making.build_of.Goals as goal

pub serial_size-requires-clause-fits : goal.serial_size-requires-clause-fits
serial_size-requires-clause-fits c =
    subst (λ (p : Program). FunctionsFit p.functions) (sym c.program-value.ensures.program) (fits_of c.args.program.now c.program-value.ensures.sound)

pub front-requires-clause-fits : goal.front-requires-clause-fits
front-requires-clause-fits c =
    subst (λ (p : Program). FunctionsFit p.functions) (sym c.program-value.ensures.program) (fits_of c.args.program.now c.program-value.ensures.sound)

pub frames-requires : goal.frames-requires
frames-requires c =
    let same = c.items-list.ensures ∙ ap (λ (p : Program). p.functions) c.program-value.ensures.program in
    subst FunctionsFit (sym same) (fits_of c.args.program.now c.program-value.ensures.sound)
