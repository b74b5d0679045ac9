use Rattle.sw_shard_laws.proofs.Running.{begun-sound}
use Rattle.sw_shard_laws.proofs.laws.begun_is_sound.Goals as goal

pub returns : goal.returns
returns c = begun-sound
