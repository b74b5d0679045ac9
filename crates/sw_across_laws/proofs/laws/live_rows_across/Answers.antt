use Rattle.sw_across_laws.proofs.Live.{live-rows-across}
use Rattle.sw_across_laws.proofs.laws.live_rows_across.Goals as goal

pub returns : goal.returns
returns c = live-rows-across
