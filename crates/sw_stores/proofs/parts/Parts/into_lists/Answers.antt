use Rattle.std.proofs.Common.{sym}
use Rattle.sw_stores.proofs.Pairs.{zip-firsts, zip-seconds}
use Rattle.sw_stores.proofs.parts.Parts.into_lists.Goals as goal

pub returns-clause-volumes : goal.returns-clause-volumes
returns-clause-volumes g c =
    let i = c.self.inside in
    rw (sym c.self.view_is) (sym (zip-firsts i.volumes.items i.keepers.items c.self.invariant))

pub returns-clause-keepers : goal.returns-clause-keepers
returns-clause-keepers g c =
    let i = c.self.inside in
    rw (sym c.self.view_is) (sym (zip-seconds i.volumes.items i.keepers.items c.self.invariant))
