use Rattle.cm_gen.proofs.images.ImageLaw.{image_parts, length-front, serial_entry}
use Rattle.cm_gen.proofs.law.serial_parts_are_alike.Goals as goal

pub returns-clause-front : goal.returns-clause-front
returns-clause-front c = length-front

pub returns-clause-part : goal.returns-clause-part
returns-clause-part c = image_parts

pub returns-clause-addresses : goal.returns-clause-addresses
returns-clause-addresses c = serial_entry
