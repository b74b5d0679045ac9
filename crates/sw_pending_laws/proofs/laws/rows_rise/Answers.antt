use Rattle.sw_pending_laws.proofs.Rows.{rows-rise}
use Rattle.sw_pending_laws.proofs.laws.rows_rise.Goals as goal

pub returns : goal.returns
returns c = rows-rise
