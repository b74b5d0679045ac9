use Rattle.sw_listing_laws.proofs.Soundly.{honest-sound}
use Rattle.sw_listing_laws.proofs.laws.honest_runs_are_sound.Goals as goal

pub returns : goal.returns
returns c = honest-sound
