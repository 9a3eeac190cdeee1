use Rattle.cm_reader.proofs.PrinterLaw.{head_of_For}
use Rattle.cm_reader.proofs.printer.put_head.Goals as goal

pub returns-in-For : goal.returns-in-For
returns-in-For c = rw (head_of_For _ _ _ _ _ _ _ c.in-For.is c.get.ensures c.get-in-For.ensures) c.put_for_head.ensures
