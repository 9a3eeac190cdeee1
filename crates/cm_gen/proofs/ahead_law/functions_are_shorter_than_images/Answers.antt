use Rattle.cm_gen.proofs.ahead.ImageRoomLaw.{room_in_image}
use Rattle.cm_gen.proofs.ahead_law.functions_are_shorter_than_images.Goals as goal

pub returns : goal.returns
returns c = room_in_image
