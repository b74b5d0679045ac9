use Rattle.sw_core.specs.Worlds.{keeper_seen}
use Rattle.std.proofs.Common.{◌≡◌, ◌*◌, ◌^◌}
use Rattle.sw_volume.specs.Volume.{raised_by}
use Rattle.sw_nodes.specs.Nodes.{IsReady}
use Rattle.sw_cluster.specs.Rounds.{RestartsFirst}
use Rattle.sw_cluster.proofs.rounds.restart_all.Given as goal

-- the devices so far were restarted
abbrev pub invariant-loop-device : goal.invariant-loop-device
invariant-loop-device g l =
    let s = g.S.Stores in
    let v = g.S.V.Volume in let keeper = g.S.K.Keeper in
    record {
      restarted : RestartsFirst v.tells v.holds v.faults (keeper_seen keeper.tells keeper.holds keeper.faults) l.ring l.device l.initial.world l.world;
      ready : IsReady s.out l.ring l.world l.stores;
      calls : s.calls l.stores ≡ raised_by (l.device * 2 ^ l.ring.lock_bits) (s.calls l.initial.stores);
      faults : s.faults l.stores ≡ s.faults l.initial.stores;
    }
