use Rattle.cm_reader.proofs.PrinterLaw.{level_of_Unary, level_of_Binary}
use Rattle.cm_reader.proofs.printer.own_level.Goals as goal

pub returns-in-Unary : goal.returns-in-Unary
returns-in-Unary c = level_of_Unary _ _ _ _ c.in-Unary.is c.level_of.ensures

pub returns-in-Binary : goal.returns-in-Binary
returns-in-Binary c = level_of_Binary _ _ _ _ _ c.in-Binary.is c.level_of-in-Binary.ensures
