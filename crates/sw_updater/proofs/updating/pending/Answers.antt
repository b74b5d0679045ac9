use Rattle.std.proofs.Common.{Ok, Err}
use Rattle.sw_updater.proofs.AllRead.{all-read}
use Rattle.sw_updater.proofs.Stripes.{fault-told, records-told}
use Rattle.sw_updater.proofs.Wanting.{pending-wanted}
use Rattle.sw_updater.proofs.updating.pending.Goals as goal

pub returns-in_err-records-clause-read : goal.returns-in_err-records-clause-read
returns-in_err-records-clause-read g c =
    let s = g.D.Door.sight in
    let ring = c.args.ring.now in
    let reads = c.in_err-records.ensures.reads in
    pending-wanted ring c.args.device (s c.args.door.now) c.from_residual.result (s c.read_stripes.new.door) reads.2.0 c.from_residual.ensures.0
    (all-read ring c.args.device (s c.args.door.now) (s c.read_stripes.new.door) c.stripes.result reads.0 (Ok reads.2.0) c.stripes.ensures.value reads.2.1
    reads.1)

pub returns-in-Ok-clause-read : goal.returns-in-Ok-clause-read
returns-in-Ok-clause-read g c =
    let s = g.D.Door.sight in
    let reads = c.in_ok-records.ensures.reads in (
      c.in-Ok.records.items,
      all-read c.args.ring.now c.args.device (s c.args.door.now) (s c.read_stripes.new.door) c.stripes.result reads.0 (Ok c.in-Ok.records.items)
          c.stripes.ensures.value (records-told c.in_ok-records.field-0 reads.0 c.in-Ok.records c.in-Ok.is reads.2) reads.1,
      c.in_order.ensures,
    )

pub returns-in-Err-clause-read : goal.returns-in-Err-clause-read
returns-in-Err-clause-read g c =
    let s = g.D.Door.sight in
    let reads = c.in_ok-records.ensures.reads in
    all-read c.args.ring.now c.args.device (s c.args.door.now) (s c.read_stripes.new.door) c.stripes.result reads.0 (Err c.in-Err.fault)
    c.stripes.ensures.value (fault-told c.in_ok-records.field-0 reads.0 c.in-Err.fault c.in-Err.is reads.2) reads.1
