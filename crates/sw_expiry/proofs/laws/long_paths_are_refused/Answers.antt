use Rattle.sw_expiry.proofs.Faults.{long-paths-refused}
use Rattle.sw_expiry.proofs.laws.long_paths_are_refused.Goals as goal

pub returns : goal.returns
returns c = long-paths-refused
