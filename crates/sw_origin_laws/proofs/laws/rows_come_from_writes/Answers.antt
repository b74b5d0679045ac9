use Rattle.sw_origin_laws.proofs.Running.{rows-come-from-writes}
use Rattle.sw_origin_laws.proofs.laws.rows_come_from_writes.Goals as goal

pub returns : goal.returns
returns c = rows-come-from-writes
