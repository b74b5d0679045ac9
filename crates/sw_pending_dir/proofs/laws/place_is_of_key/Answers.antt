use Rattle.sw_pending_dir.proofs.FolderReading.{place_is_of_key}
use Rattle.sw_pending_dir.proofs.laws.place_is_of_key.Goals as goal

pub returns : goal.returns
returns c = place_is_of_key
