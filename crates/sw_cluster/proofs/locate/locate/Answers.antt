use Rattle.std.proofs.Common.{refl}
use Rattle.sw_cluster.proofs.OpeningLemmas.{not_opened, opened}
use Rattle.sw_cluster.proofs.locate.locate.Goals as goal

pub returns-in-Ok-clause-ends : goal.returns-in-Ok-clause-ends
returns-in-Ok-clause-ends g c =
    rw (← c.ring_of.ensures) (opened _ _ _ _ _ _ _ _ c.in-Ok.ring c.in-Ok.ensures.opening (c.in-Ok.ensures.opening.1, c.write_where-status.ensures))

pub returns-in-Err-clause-ends : goal.returns-in-Err-clause-ends
returns-in-Err-clause-ends g c =
    rw (← c.ring_of.ensures) (not_opened _ _ _ _ _ _ _ c.in-Err.fault c.in-Err.ensures.opening c.refuse_ring.ensures.refused refl)
