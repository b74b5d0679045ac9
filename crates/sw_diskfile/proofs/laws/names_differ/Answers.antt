use Rattle.sw_diskfile.proofs.Names.{names_differ}
use Rattle.sw_diskfile.proofs.laws.names_differ.Goals as goal

pub returns : goal.returns
returns c = names_differ
