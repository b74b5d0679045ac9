use Rattle.sw_http.proofs.ReadingLemmas.{one_reading}
use Rattle.sw_http.proofs.laws.one_reading.Goals as goal

pub returns : goal.returns
returns c = one_reading
