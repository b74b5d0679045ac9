use Rattle.sw_machine.proofs.Runs.{hashes-stand}
use Rattle.sw_machine.proofs.laws.hashes_stand.Goals as goal

pub returns : goal.returns
returns c = hashes-stand
