use Rattle.std.proofs.Common.{◌^◌, inl, inr, refl, subst, Ok, Err}
use Rattle.std.proofs.lemmas.List.Sorted.{All-permutation}
use Rattle.std.specs.List.{range_with_len}
use Rattle.std.specs.Result.{is_ok}
use Rattle.sw_pass.proofs.Counts.{hinders-from}
use Rattle.sw_pass.specs.Outcomes.{fault_hindrance, nothing_yet}
use Rattle.sw_pass.specs.Turns.{InTurn}
use Rattle.sw_pass.specs.declared.outcome.Outcome.{Outcome}
use Rattle.sw_pending.specs.Outcomes.{IsRecord}
use Rattle.sw_updater.proofs.Afterwards.{ended}
use Rattle.sw_updater.proofs.AllRead.{fault-pending, records-pending}
use Rattle.sw_updater.proofs.Goodness.{good-records}
use Rattle.sw_updater.specs.Updating.{IsUpdated}
use Rattle.sw_updater.proofs.updating.run.Goals as goal

pub update_each-requires-clause-records : goal.update_each-requires-clause-records
update_each-requires-clause-records g c =
    let s = g.D.Door.sight in
    let ring = c.args.ring.now in
    let told = records-pending ring c.args.device (s c.args.door.now) (s c.pending.new.door) c.in_ok-records.field-0 c.in-Ok.records c.in-Ok.is
    c.in_ok-records.ensures.read in
    All-permutation (IsRecord ring.secrets) told.0 c.in-Ok.records.items told.2.same
    (good-records ring.secrets c.args.device (range_with_len 0 (2 ^ ring.lock_bits)) (s c.args.door.now) (Ok told.0) (s c.pending.new.door)
    c.requires.ring.secrets told.1)

pub returns-in_err-records-clause-updates : goal.returns-in_err-records-clause-updates
returns-in_err-records-clause-updates g c =
    let s = g.D.Door.sight in
    let read = c.in_err-records.ensures.read in (
      Ok read.0,
      s c.pending.new.door,
      read.1,
      inr (refl, c.requires.fresh, ended c.from_residual.result c.from_residual.ensures.0),
    )

pub returns-in-Ok-clause-updates : goal.returns-in-Ok-clause-updates
returns-in-Ok-clause-updates g c =
    let s = g.D.Door.sight in
    let ring = c.args.ring.now in
    let records = c.in-Ok.records in
    let told = records-pending ring c.args.device (s c.args.door.now) (s c.pending.new.door) c.in_ok-records.field-0 records c.in-Ok.is
    c.in_ok-records.ensures.read in (
      Ok told.0,
      s c.pending.new.door,
      told.1,
      inl (
        records.items,
        told.2,
        subst (λ (o : Outcome). InTurn (IsUpdated ring c.args.device) records.items (s c.pending.new.door) o (s c.update_each.new.door)
            c.update_each.new.outcome (is_ok c.update_each.result)) c.requires.fresh c.update_each.ensures.updates,
      ),
    )

pub returns-in-Err-clause-updates : goal.returns-in-Err-clause-updates
returns-in-Err-clause-updates g c =
    let s = g.D.Door.sight in (
      Err c.in-Err.fault,
      s c.pending.new.door,
      fault-pending c.args.ring.now c.args.device (s c.args.door.now) (s c.pending.new.door) c.in_ok-records.field-0 c.in-Err.fault c.in-Err.is
          c.in_ok-records.ensures.read,
      (
        refl,
        hinders-from c.of_fault.result (fault_hindrance c.in-Err.fault) c.args.outcome.now nothing_yet c.hinder.new.outcome (is_ok c.hinder.result)
            c.of_fault.ensures c.requires.fresh c.hinder.ensures,
      ),
    )
