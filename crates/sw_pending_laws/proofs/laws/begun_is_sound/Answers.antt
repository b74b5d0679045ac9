use Rattle.sw_pending_laws.proofs.Begun.{begun-sound}
use Rattle.sw_pending_laws.proofs.laws.begun_is_sound.Goals as goal

pub returns : goal.returns
returns c = begun-sound
