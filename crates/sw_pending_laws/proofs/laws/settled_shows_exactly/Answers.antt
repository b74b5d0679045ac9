use Rattle.sw_pending_laws.proofs.Showing.{shows-exactly}
use Rattle.sw_pending_laws.proofs.laws.settled_shows_exactly.Goals as goal

pub returns : goal.returns
returns c = shows-exactly
