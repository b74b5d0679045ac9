use Rattle.sw_hashdir.proofs.OneReading.{one_reading}
use Rattle.sw_hashdir.proofs.laws.one_reading.Goals as goal

pub returns : goal.returns
returns c = one_reading
