use Rattle.sw_message.proofs.ReplyLemmas.{fits_room}
use Rattle.sw_message.proofs.laws.fits_its_room.Goals as goal

pub returns : goal.returns
returns c = fits_room
