use Rattle.sw_core.specs.Worlds.{keeper_seen}
use Rattle.std.proofs.Common.{ap, subst, inl, inr, refl}
use Rattle.sw_control.specs.Asking.{IsControl, IsPlaced}
use Rattle.sw_nodes.proofs.Controlling.{came_again, done_nothing, files_listed, push_ready, row_push_ready, rows_were_pushed, stayed_away, trail_told}
use Rattle.sw_nodes.proofs.Controlling.{was_pushed}
use Rattle.sw_nodes.proofs.Splitting.{cleave_ready, creation_ready, shards_ready, shards_told, was_cleft, were_created}
use Rattle.sw_nodes.proofs.Updating.{pending_ready, pending_told, update_ready, was_updated}
use Rattle.sw_control.specs.declared.asking.Control.TheVariants as controls
use Rattle.sw_nodes.proofs.server.Nodes.control.Goals as goal

pub returns-in-Ok-Files-clause-served : goal.returns-in-Ok-Files-clause-served
returns-in-Ok-Files-clause-served g c =
    files_listed g.S.V.Volume.tells g.S.V.Volume.holds g.S.V.Volume.faults (keeper_seen g.S.K.Keeper.tells g.S.K.Keeper.holds g.S.K.Keeper.faults)
    g.S.Stores.faults g.S.Stores.calls g.S.Stores.out c.args.self.now.ring.now
    c.files.new.self.ring.now c.args.self.now.network.door c.files.new.self.network.door c.args.self.now.stores c.files.new.self.stores c.args.request.now
    c.args._now
    c.files.result c.in-Ok-Files.device c.requires.control
    (subst (IsControl c.args.self.now.ring.now c.args.request.now) c.in-Ok-Files.field-0-is c.in-Ok-Files.ensures.exact)
    (ap (λ r. r.now) c.files.ensures.same.0) c.files.ensures.same.1 c.requires.ready c.files.ensures.filed

pub returns-in-Ok-Restart-clause-served : goal.returns-in-Ok-Restart-clause-served
returns-in-Ok-Restart-clause-served g c =
    came_again g.S.V.Volume.tells g.S.V.Volume.holds g.S.V.Volume.faults (keeper_seen g.S.K.Keeper.tells g.S.K.Keeper.holds g.S.K.Keeper.faults)
    g.S.Stores.faults g.S.Stores.calls g.S.Stores.out c.args.self.now.ring.now
    c.restart.new.self.ring.now c.args.self.now.network.door c.restart.new.self.network.door c.args.self.now.stores c.restart.new.self.stores c.args.request.now
    c.args._now
    c.restart.result c.in-Ok-Restart.device c.requires.control
    (subst (IsControl c.args.self.now.ring.now c.args.request.now) c.in-Ok-Restart.field-0-is c.in-Ok-Restart.ensures.exact)
    (ap (λ r. r.now) c.restart.ensures.same.0) c.restart.ensures.same.1 c.restart.ensures.kept c.restart.ensures.ready c.restart.ensures.restarted

pub returns-in-Ok-Restart-clause-halted : goal.returns-in-Ok-Restart-clause-halted
returns-in-Ok-Restart-clause-halted g c =
    stayed_away g.S.V.Volume.tells g.S.V.Volume.holds g.S.V.Volume.faults (keeper_seen g.S.K.Keeper.tells g.S.K.Keeper.holds g.S.K.Keeper.faults)
    g.S.Stores.faults g.S.Stores.calls g.S.Stores.out c.args.self.now.ring.now
    c.restart.new.self.ring.now c.args.self.now.network.door c.restart.new.self.network.door c.args.self.now.stores c.restart.new.self.stores c.args.request.now
    g.S.Stores.rests c.restart.result c.in-Ok-Restart.device c.requires.control
    (subst (IsControl c.args.self.now.ring.now c.args.request.now) c.in-Ok-Restart.field-0-is c.in-Ok-Restart.ensures.exact)
    (ap (λ r. r.now) c.restart.ensures.same.0) c.restart.ensures.same.1 c.restart.ensures.faults c.restart.ensures.lifted

pub returns-in-Ok-Replicate-clause-served : goal.returns-in-Ok-Replicate-clause-served
returns-in-Ok-Replicate-clause-served g c =
    was_pushed g.S.V.Volume.tells g.S.V.Volume.holds g.S.V.Volume.faults (keeper_seen g.S.K.Keeper.tells g.S.K.Keeper.holds g.S.K.Keeper.faults)
    g.S.Stores.faults g.S.Stores.calls g.S.Stores.out c.args.self.now.ring.now
    c.replicate.new.self.ring.now c.args.self.now.network.door c.replicate.new.self.network.door c.args.self.now.stores c.replicate.new.self.stores
    c.args.request.now
    c.args._now c.replicate.result c.in-Ok-Replicate.asked c.requires.control
    (subst (IsControl c.args.self.now.ring.now c.args.request.now) c.in-Ok-Replicate.field-0-is c.in-Ok-Replicate.ensures.exact)
    (subst (IsPlaced c.args.self.now.ring.now) c.in-Ok-Replicate.field-0-is c.in-Ok-Replicate.ensures.placed)
    (ap (λ r. r.now) c.replicate.ensures.same.0) c.replicate.ensures.same.1 c.requires.ready c.replicate.ensures.replicated

pub returns-in-Ok-Replicate-clause-ready : goal.returns-in-Ok-Replicate-clause-ready
returns-in-Ok-Replicate-clause-ready g c =
    push_ready g.S.V.Volume.tells g.S.V.Volume.holds g.S.V.Volume.faults (keeper_seen g.S.K.Keeper.tells g.S.K.Keeper.holds g.S.K.Keeper.faults)
    g.S.Stores.faults g.S.Stores.calls g.S.Stores.out c.args.self.now.ring.now
    c.replicate.new.self.ring.now c.args.self.now.network.door c.replicate.new.self.network.door c.args.self.now.stores c.replicate.new.self.stores
    c.args.request.now
    c.in-Ok-Replicate.asked c.replicate.result
    (subst (IsControl c.args.self.now.ring.now c.args.request.now) c.in-Ok-Replicate.field-0-is c.in-Ok-Replicate.ensures.exact)
    (ap (λ r. r.now) c.replicate.ensures.same.0) c.replicate.ensures.same.1 c.requires.ready c.replicate.ensures.replicated

pub returns-in-Ok-PushRows-clause-served : goal.returns-in-Ok-PushRows-clause-served
returns-in-Ok-PushRows-clause-served g c =
    rows_were_pushed g.S.V.Volume.tells g.S.V.Volume.holds g.S.V.Volume.faults (keeper_seen g.S.K.Keeper.tells g.S.K.Keeper.holds g.S.K.Keeper.faults)
    g.S.Stores.faults g.S.Stores.calls g.S.Stores.out c.args.self.now.ring.now
    c.push_rows.new.self.ring.now c.args.self.now.network.door c.push_rows.new.self.network.door c.args.self.now.stores c.push_rows.new.self.stores
    c.args.request.now
    c.args._now c.push_rows.result c.in-Ok-PushRows.asked c.requires.control
    (subst (IsControl c.args.self.now.ring.now c.args.request.now) c.in-Ok-PushRows.field-0-is c.in-Ok-PushRows.ensures.exact)
    (subst (IsPlaced c.args.self.now.ring.now) c.in-Ok-PushRows.field-0-is c.in-Ok-PushRows.ensures.placed)
    (ap (λ r. r.now) c.push_rows.ensures.same.0) c.push_rows.ensures.same.1 c.requires.ready c.push_rows.ensures.pushed

pub returns-in-Ok-PushRows-clause-ready : goal.returns-in-Ok-PushRows-clause-ready
returns-in-Ok-PushRows-clause-ready g c =
    row_push_ready g.S.V.Volume.tells g.S.V.Volume.holds g.S.V.Volume.faults (keeper_seen g.S.K.Keeper.tells g.S.K.Keeper.holds g.S.K.Keeper.faults)
    g.S.Stores.faults g.S.Stores.calls g.S.Stores.out c.args.self.now.ring.now
    c.push_rows.new.self.ring.now c.args.self.now.network.door c.push_rows.new.self.network.door c.args.self.now.stores c.push_rows.new.self.stores
    c.args.request.now
    c.in-Ok-PushRows.asked c.push_rows.result
    (subst (IsPlaced c.args.self.now.ring.now) c.in-Ok-PushRows.field-0-is c.in-Ok-PushRows.ensures.placed)
    (ap (λ r. r.now) c.push_rows.ensures.same.0) c.push_rows.ensures.same.1 c.requires.ready c.push_rows.ensures.pushed

pub returns-in-Ok-Update-clause-served : goal.returns-in-Ok-Update-clause-served
returns-in-Ok-Update-clause-served g c =
    was_updated g.S.V.Volume.tells g.S.V.Volume.holds g.S.V.Volume.faults (keeper_seen g.S.K.Keeper.tells g.S.K.Keeper.holds g.S.K.Keeper.faults)
    g.S.Stores.faults g.S.Stores.calls g.S.Stores.out c.args.self.now.ring.now
    c.update.new.self.ring.now c.args.self.now.network.door c.update.new.self.network.door c.args.self.now.stores c.update.new.self.stores
    c.args.request.now
    c.args._now c.update.result c.in-Ok-Update.asked c.requires.control
    (subst (IsControl c.args.self.now.ring.now c.args.request.now) c.in-Ok-Update.field-0-is c.in-Ok-Update.ensures.exact)
    (ap (λ r. r.now) c.update.ensures.same.0) c.update.ensures.same.1 c.requires.ready c.update.ensures.updated

pub returns-in-Ok-Update-clause-ready : goal.returns-in-Ok-Update-clause-ready
returns-in-Ok-Update-clause-ready g c =
    update_ready g.S.V.Volume.tells g.S.V.Volume.holds g.S.V.Volume.faults (keeper_seen g.S.K.Keeper.tells g.S.K.Keeper.holds g.S.K.Keeper.faults)
    g.S.Stores.faults g.S.Stores.calls g.S.Stores.out c.args.self.now.ring.now
    c.update.new.self.ring.now c.args.self.now.network.door c.update.new.self.network.door c.args.self.now.stores c.update.new.self.stores
    c.args.request.now
    c.update.result c.in-Ok-Update.asked (ap (λ r. r.now) c.update.ensures.same.0) c.update.ensures.same.1 c.requires.ready c.update.ensures.updated

pub returns-in-Ok-CreateShards-clause-served : goal.returns-in-Ok-CreateShards-clause-served
returns-in-Ok-CreateShards-clause-served g c =
    were_created g.S.V.Volume.tells g.S.V.Volume.holds g.S.V.Volume.faults (keeper_seen g.S.K.Keeper.tells g.S.K.Keeper.holds g.S.K.Keeper.faults)
    g.S.Stores.faults g.S.Stores.calls g.S.Stores.out c.args.self.now.ring.now
    c.create_shards.new.self.ring.now c.args.self.now.network.door c.create_shards.new.self.network.door c.args.self.now.stores c.create_shards.new.self.stores
    c.args.request.now
    c.args._now c.create_shards.result c.in-Ok-CreateShards.asked c.requires.control
    (subst (IsControl c.args.self.now.ring.now c.args.request.now) c.in-Ok-CreateShards.field-0-is c.in-Ok-CreateShards.ensures.exact)
    (ap (λ r. r.now) c.create_shards.ensures.same.0) c.create_shards.ensures.same.1 c.requires.ready c.create_shards.ensures.created

pub returns-in-Ok-CreateShards-clause-ready : goal.returns-in-Ok-CreateShards-clause-ready
returns-in-Ok-CreateShards-clause-ready g c =
    creation_ready g.S.V.Volume.tells g.S.V.Volume.holds g.S.V.Volume.faults (keeper_seen g.S.K.Keeper.tells g.S.K.Keeper.holds g.S.K.Keeper.faults)
    g.S.Stores.faults g.S.Stores.calls g.S.Stores.out c.args.self.now.ring.now
    c.create_shards.new.self.ring.now c.args.self.now.network.door c.create_shards.new.self.network.door c.args.self.now.stores c.create_shards.new.self.stores
    c.args.request.now
    c.create_shards.result c.in-Ok-CreateShards.asked
    (subst (IsControl c.args.self.now.ring.now c.args.request.now) c.in-Ok-CreateShards.field-0-is c.in-Ok-CreateShards.ensures.exact)
    (ap (λ r. r.now) c.create_shards.ensures.same.0) c.create_shards.ensures.same.1 c.requires.ready c.create_shards.ensures.created

pub returns-in-Ok-Cleave-clause-served : goal.returns-in-Ok-Cleave-clause-served
returns-in-Ok-Cleave-clause-served g c =
    was_cleft g.S.V.Volume.tells g.S.V.Volume.holds g.S.V.Volume.faults (keeper_seen g.S.K.Keeper.tells g.S.K.Keeper.holds g.S.K.Keeper.faults)
    g.S.Stores.faults g.S.Stores.calls g.S.Stores.out c.args.self.now.ring.now
    c.cleave.new.self.ring.now c.args.self.now.network.door c.cleave.new.self.network.door c.args.self.now.stores c.cleave.new.self.stores
    c.args.request.now
    c.args._now c.cleave.result c.in-Ok-Cleave.asked c.requires.control
    (subst (IsControl c.args.self.now.ring.now c.args.request.now) c.in-Ok-Cleave.field-0-is c.in-Ok-Cleave.ensures.exact)
    (ap (λ r. r.now) c.cleave.ensures.same.0) c.cleave.ensures.same.1 c.requires.ready c.cleave.ensures.cleft

pub returns-in-Ok-Cleave-clause-ready : goal.returns-in-Ok-Cleave-clause-ready
returns-in-Ok-Cleave-clause-ready g c =
    cleave_ready g.S.V.Volume.tells g.S.V.Volume.holds g.S.V.Volume.faults (keeper_seen g.S.K.Keeper.tells g.S.K.Keeper.holds g.S.K.Keeper.faults)
    g.S.Stores.faults g.S.Stores.calls g.S.Stores.out c.args.self.now.ring.now
    c.cleave.new.self.ring.now c.args.self.now.network.door c.cleave.new.self.network.door c.args.self.now.stores c.cleave.new.self.stores
    c.args.request.now
    c.cleave.result c.in-Ok-Cleave.asked
    (subst (IsControl c.args.self.now.ring.now c.args.request.now) c.in-Ok-Cleave.field-0-is c.in-Ok-Cleave.ensures.exact)
    (ap (λ r. r.now) c.cleave.ensures.same.0) c.cleave.ensures.same.1 c.requires.ready c.cleave.ensures.cleft

pub returns-in-Ok-Shards-clause-served : goal.returns-in-Ok-Shards-clause-served
returns-in-Ok-Shards-clause-served g c =
    shards_told g.S.V.Volume.tells g.S.V.Volume.holds g.S.V.Volume.faults (keeper_seen g.S.K.Keeper.tells g.S.K.Keeper.holds g.S.K.Keeper.faults)
    g.S.Stores.faults g.S.Stores.calls g.S.Stores.out c.args.self.now.ring.now
    c.shards.new.self.ring.now c.args.self.now.network.door c.shards.new.self.network.door c.args.self.now.stores c.shards.new.self.stores
    c.args.request.now
    c.args._now c.shards.result c.in-Ok-Shards.asked c.requires.control
    (subst (IsControl c.args.self.now.ring.now c.args.request.now) c.in-Ok-Shards.field-0-is c.in-Ok-Shards.ensures.exact)
    (ap (λ r. r.now) c.shards.ensures.same.0) c.shards.ensures.same.1 c.requires.ready c.shards.ensures.told

pub returns-in-Ok-Shards-clause-ready : goal.returns-in-Ok-Shards-clause-ready
returns-in-Ok-Shards-clause-ready g c =
    shards_ready g.S.V.Volume.tells g.S.V.Volume.holds g.S.V.Volume.faults (keeper_seen g.S.K.Keeper.tells g.S.K.Keeper.holds g.S.K.Keeper.faults)
    g.S.Stores.faults g.S.Stores.calls g.S.Stores.out c.args.self.now.ring.now
    c.shards.new.self.ring.now c.args.self.now.network.door c.shards.new.self.network.door c.args.self.now.stores c.shards.new.self.stores
    c.args.request.now
    c.shards.result c.in-Ok-Shards.asked
    (ap (λ r. r.now) c.shards.ensures.same.0) c.shards.ensures.same.1 c.requires.ready c.shards.ensures.told

pub returns-in-Ok-Pending-clause-served : goal.returns-in-Ok-Pending-clause-served
returns-in-Ok-Pending-clause-served g c =
    pending_told g.S.V.Volume.tells g.S.V.Volume.holds g.S.V.Volume.faults (keeper_seen g.S.K.Keeper.tells g.S.K.Keeper.holds g.S.K.Keeper.faults)
    g.S.Stores.faults g.S.Stores.calls g.S.Stores.out c.args.self.now.ring.now
    c.pending.new.self.ring.now c.args.self.now.network.door c.pending.new.self.network.door c.args.self.now.stores c.pending.new.self.stores
    c.args.request.now
    c.args._now c.pending.result c.in-Ok-Pending.device c.requires.control
    (subst (IsControl c.args.self.now.ring.now c.args.request.now) c.in-Ok-Pending.field-0-is c.in-Ok-Pending.ensures.exact)
    (ap (λ r. r.now) c.pending.ensures.same.0) c.pending.ensures.same.1 c.requires.ready c.pending.ensures.told

pub returns-in-Ok-Pending-clause-ready : goal.returns-in-Ok-Pending-clause-ready
returns-in-Ok-Pending-clause-ready g c =
    pending_ready g.S.V.Volume.tells g.S.V.Volume.holds g.S.V.Volume.faults (keeper_seen g.S.K.Keeper.tells g.S.K.Keeper.holds g.S.K.Keeper.faults)
    g.S.Stores.faults g.S.Stores.calls g.S.Stores.out c.args.self.now.ring.now
    c.pending.new.self.ring.now c.args.self.now.network.door c.pending.new.self.network.door c.args.self.now.stores c.pending.new.self.stores
    c.args.request.now
    c.pending.result c.in-Ok-Pending.device (ap (λ r. r.now) c.pending.ensures.same.0) c.pending.ensures.same.1 c.requires.ready c.pending.ensures.told

pub returns-in-Ok-Trail-clause-served : goal.returns-in-Ok-Trail-clause-served
returns-in-Ok-Trail-clause-served g c =
    done_nothing g.S.V.Volume.tells g.S.V.Volume.holds g.S.V.Volume.faults (keeper_seen g.S.K.Keeper.tells g.S.K.Keeper.holds g.S.K.Keeper.faults)
    g.S.Stores.faults g.S.Stores.calls g.S.Stores.out c.args.self.now.ring.now
    c.args.self.now.network.door c.args.self.now.stores c.args.request.now c.args._now c.or_wanting.result c.requires.control c.requires.ready
    (trail_told g.S.V.Volume.tells g.S.V.Volume.holds g.S.V.Volume.faults (keeper_seen g.S.K.Keeper.tells g.S.K.Keeper.holds g.S.K.Keeper.faults)
    c.args.self.now.ring.now c.args.self.now.network.door c.args.request.now
    c.trail.result c.or_wanting.result
    (subst (IsControl c.args.self.now.ring.now c.args.request.now) c.in-Ok-Trail.field-0-is c.in-Ok-Trail.ensures.exact)
    c.trail.ensures c.or_wanting.ensures.ok c.or_wanting.ensures.err)

pub returns-in-Ok-Refused-clause-served : goal.returns-in-Ok-Refused-clause-served
returns-in-Ok-Refused-clause-served g c =
    done_nothing g.S.V.Volume.tells g.S.V.Volume.holds g.S.V.Volume.faults (keeper_seen g.S.K.Keeper.tells g.S.K.Keeper.holds g.S.K.Keeper.faults)
    g.S.Stores.faults g.S.Stores.calls g.S.Stores.out c.args.self.now.ring.now
    c.args.self.now.network.door c.args.self.now.stores c.args.request.now c.args._now c.bare.result c.requires.control c.requires.ready
    (inl (
      controls.Refused,
      subst (IsControl c.args.self.now.ring.now c.args.request.now) c.in-Ok-Refused.field-0-is c.in-Ok-Refused.ensures.exact,
      (refl, c.bare.ensures),
    ))

pub returns-in-Err-clause-served : goal.returns-in-Err-clause-served
returns-in-Err-clause-served g c =
    done_nothing g.S.V.Volume.tells g.S.V.Volume.holds g.S.V.Volume.faults (keeper_seen g.S.K.Keeper.tells g.S.K.Keeper.holds g.S.K.Keeper.faults)
    g.S.Stores.faults g.S.Stores.calls g.S.Stores.out c.args.self.now.ring.now
    c.args.self.now.network.door c.args.self.now.stores c.args.request.now c.args._now c.bare-in-Err.result c.requires.control c.requires.ready
    (inr (refl, c.bare-in-Err.ensures))
