use Rattle.sw_hashdir.proofs.OneReading.{read_as_it_stands}
use Rattle.sw_hashdir.proofs.laws.read_as_it_stands.Goals as goal

pub returns : goal.returns
returns c = read_as_it_stands
