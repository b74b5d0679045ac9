use Rattle.sw_origin_laws.proofs.Soundly.{honest-rooted}
use Rattle.sw_origin_laws.proofs.laws.honest_runs_are_rooted.Goals as goal

pub returns : goal.returns
returns c = honest-rooted
