use Rattle.std.proofs.Common.{refl, inr}
use Rattle.sw_container_server.proofs.verbs.read_removal.Goals as goal

-- there is no time
pub returns-in-None : goal.returns-in-None
returns-in-None c = inr (λ has. c.in-None.ensures has.0 has.1, refl)
