use Rattle.sw_disk.proofs.Crashes.{leaves-durable}
use Rattle.sw_disk.proofs.laws.what_is_found_is_kept.Goals as goal

pub returns : goal.returns
returns c = leaves-durable
