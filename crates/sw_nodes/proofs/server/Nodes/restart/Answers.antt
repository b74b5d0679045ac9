use Rattle.std.proofs.Common.{refl}
use Rattle.sw_core.specs.Worlds.{keeper_seen}
use Rattle.sw_nodes.proofs.Restarting.{fails-to-start}
use Rattle.sw_nodes.proofs.server.Nodes.restart.Goals as goal

pub returns-in-Err-Failed-clause-lifted : goal.returns-in-Err-Failed-clause-lifted
returns-in-Err-Failed-clause-lifted g c =
    fails-to-start g.S.V.Volume.tells g.S.V.Volume.holds g.S.V.Volume.faults
    (keeper_seen g.S.K.Keeper.tells g.S.K.Keeper.holds g.S.K.Keeper.faults) g.S.Stores.calls g.S.Stores.rests g.S.Stores.out c.args.self.now.ring.now
    c.args.device c.args.self.now.network.door c.lift.new.self c.args.self.now.stores.now c.restart_range.new.stores c.in-Ok-lift.parts _ _
    c.stripes-stripes.ensures.value (rw (c.from-2.ensures, c.from-3.ensures, c.stripes-stripes.ensures.value) refl) c.requires.ready.lock_bits
    c.in-Ok-lift.ensures.ok c.in-Err-Failed.ensures.home c.in-Err-Failed.ensures.rests c.in-Err-Failed.ensures.tried

pub returns-clause-lifted : goal.returns-clause-lifted
returns-clause-lifted g c =
    fails-to-start g.S.V.Volume.tells g.S.V.Volume.holds g.S.V.Volume.faults
    (keeper_seen g.S.K.Keeper.tells g.S.K.Keeper.holds g.S.K.Keeper.faults) g.S.Stores.calls g.S.Stores.rests g.S.Stores.out c.args.self.now.ring.now
    c.args.device c.args.self.now.network.door c.lift.new.self c.args.self.now.stores.now c.restart_range.new.stores c.in-Ok-lift.parts _ _
    c.stripes-stripes.ensures.value (rw (c.from-2.ensures, c.from-3.ensures, c.stripes-stripes.ensures.value) refl) c.requires.ready.lock_bits
    c.in-Ok-lift.ensures.ok c.in-Err-NoMemory.ensures.home c.in-Err-NoMemory.ensures.rests c.in-Err-NoMemory.ensures.tried
