use Rattle.sw_shared.proofs.Sharing.{shares-names}
use Rattle.sw_shared.proofs.laws.reads_are_shared.Goals as goal

pub returns : goal.returns
returns c = shares-names
