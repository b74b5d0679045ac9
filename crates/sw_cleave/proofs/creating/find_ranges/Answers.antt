use Rattle.std.proofs.Common.{◌≡◌, ◌∙◌, ap, Ok, Err, false, fold, true, inl, inr, None, refl, Some}
use Rattle.sw_cleave.proofs.Coming.{comes-ended, comes-then, keeps-of}
use Rattle.sw_cleave.proofs.Ranging.{cut-into, cut-places}
use Rattle.sw_cleave.specs.Cleaving.{leaves}
use Rattle.sw_cleave.specs.Creating.{IsFound, IsSplit}
use Rattle.sw_container_steps.specs.Reads.{parcel_of}
use Rattle.sw_pass.specs.Outcomes.{cont_hindrance}
use Rattle.sw_peer.proofs.Heard.{heard}
use Rattle.sw_peer.specs.ContSights.{IsLooked}
use Rattle.sw_peer.specs.declared.cont_event.ContEvent.TheVariants.{Parceled}
use Rattle.sw_peer.specs.declared.link.Link.TheVariants.{Local}
use Rattle.sw_rows.specs.Rows.{Listed, merged, no_rows}
use Rattle.sw_shard_range.specs.Bounds.{inner_bounds}
use Rattle.sw_cleave.proofs.creating.find_ranges.Goals as goal

pub returns-in_err-rows-in-Ok-clause-creates : goal.returns-in_err-rows-in-Ok-clause-creates
returns-in_err-rows-in-Ok-clause-creates g c =
    let s = g.D.Door.sight in
    let mid = s c.sync_rows-read.new.self in
    comes-ended (IsFound c.args.ring.now c.args.device c.args.place.now c.args.per_shard c.args.time (s c.args.door.now) c.args.outcome.now mid
    c.args.outcome.now) c.from_residual.result c.from_residual.ensures.0 (leaves 1) (
      Ok c.in-Ok.parcel,
      mid,
      heard (IsLooked Local c.args.device c.args.place.now (parcel_of c.args.device) (λ read. Parceled c.args.place.now c.args.device read))
          (s c.args.door.now) Local c.sync_rows-read.result (Ok (Ok c.in-Ok.parcel)) mid c.in-Ok.ensures c.sync_rows-read.ensures.read,
      inr (refl, refl, refl),
    )

pub returns-in_err-bounds-in-Ok-clause-creates : goal.returns-in_err-bounds-in-Ok-clause-creates
returns-in_err-bounds-in-Ok-clause-creates g c =
    let s = g.D.Door.sight in
    let mid = s c.sync_rows-read.new.self in
    comes-ended (IsFound c.args.ring.now c.args.device c.args.place.now c.args.per_shard c.args.time (s c.args.door.now) c.args.outcome.now mid
    c.args.outcome.now) c.from_residual-in_err-bounds-in-Ok.result c.from_residual-in_err-bounds-in-Ok.ensures.0 (leaves 1) (
      Ok c.in-Ok.parcel,
      mid,
      heard (IsLooked Local c.args.device c.args.place.now (parcel_of c.args.device) (λ read. Parceled c.args.place.now c.args.device read))
          (s c.args.door.now) Local c.sync_rows-read.result (Ok (Ok c.in-Ok.parcel)) mid c.in-Ok.ensures c.sync_rows-read.ensures.read,
      inr (refl, refl, refl),
    )

pub returns-in_err-ranges-in-Ok-clause-creates : goal.returns-in_err-ranges-in-Ok-clause-creates
returns-in_err-ranges-in-Ok-clause-creates g c =
    let s = g.D.Door.sight in
    let mid = s c.sync_rows-read.new.self in
    comes-ended (IsFound c.args.ring.now c.args.device c.args.place.now c.args.per_shard c.args.time (s c.args.door.now) c.args.outcome.now mid
    c.args.outcome.now) c.from_residual-in_err-ranges-in-Ok.result c.from_residual-in_err-ranges-in-Ok.ensures.0 (leaves 1) (
      Ok c.in-Ok.parcel,
      mid,
      heard (IsLooked Local c.args.device c.args.place.now (parcel_of c.args.device) (λ read. Parceled c.args.place.now c.args.device read))
          (s c.args.door.now) Local c.sync_rows-read.result (Ok (Ok c.in-Ok.parcel)) mid c.in-Ok.ensures c.sync_rows-read.ensures.read,
      inr (refl, refl, refl),
    )

pub split-requires-clause-shards : goal.split-requires-clause-shards
split-requires-clause-shards g c =
    let known : c.deref.result.now ≡ inner_bounds c.args.per_shard (fold merged no_rows c.in-Ok.parcel.rows).list =
    c.deref.ensures.value ∙ (c.in_ok-bounds-in-Ok.ensures ∙ ap (λ (l : Listed). inner_bounds c.args.per_shard l.list) c.in_ok-rows-in-Ok.ensures) in
    cut-places c.args.ring.now.secrets c.args.place.now c.args.time (inner_bounds c.args.per_shard (fold merged no_rows c.in-Ok.parcel.rows).list)
    c.in-Some.ranges
    (cut-into c.args.ring.now.secrets c.args.place.now c.args.time c.deref.result.now
    (inner_bounds c.args.per_shard (fold merged no_rows c.in-Ok.parcel.rows).list) c.in_ok-ranges-in-Ok.field-0 (Some c.in-Some.ranges) known c.in-Some.is
    c.in_ok-ranges-in-Ok.ensures).0

pub returns-in-Some-clause-creates : goal.returns-in-Some-clause-creates
returns-in-Some-clause-creates g c =
    let s = g.D.Door.sight in
    let mid = s c.sync_rows-read.new.self in
    let known : c.deref.result.now ≡ inner_bounds c.args.per_shard (fold merged no_rows c.in-Ok.parcel.rows).list =
    c.deref.ensures.value ∙ (c.in_ok-bounds-in-Ok.ensures ∙ ap (λ (l : Listed). inner_bounds c.args.per_shard l.list) c.in_ok-rows-in-Ok.ensures) in
    comes-then (IsSplit c.args.ring.now c.args.device c.args.place.now c.args.time c.in-Some.ranges mid c.args.outcome.now (s c.split.new.door)
    c.split.new.outcome)
    (IsFound c.args.ring.now c.args.device c.args.place.now c.args.per_shard c.args.time (s c.args.door.now) c.args.outcome.now
    (s c.split.new.door) c.split.new.outcome)
    (λ came on is. (
      Ok c.in-Ok.parcel,
      mid,
      heard (IsLooked Local c.args.device c.args.place.now (parcel_of c.args.device) (λ read. Parceled c.args.place.now c.args.device read))
          (s c.args.door.now) Local c.sync_rows-read.result (Ok (Ok c.in-Ok.parcel)) mid c.in-Ok.ensures c.sync_rows-read.ensures.read,
      inl (
        Some c.in-Some.ranges,
        cut-into c.args.ring.now.secrets c.args.place.now c.args.time c.deref.result.now
            (inner_bounds c.args.per_shard (fold merged no_rows c.in-Ok.parcel.rows).list) c.in_ok-ranges-in-Ok.field-0 (Some c.in-Some.ranges) known
            c.in-Some.is c.in_ok-ranges-in-Ok.ensures,
        is,
      ),
    )) c.split.result c.split.ensures.creates

pub returns-in-Ok-clause-creates : goal.returns-in-Ok-clause-creates
returns-in-Ok-clause-creates g c =
    let s = g.D.Door.sight in
    let mid = s c.sync_rows-read.new.self in
    let known : c.deref.result.now ≡ inner_bounds c.args.per_shard (fold merged no_rows c.in-Ok.parcel.rows).list =
    c.deref.ensures.value ∙ (c.in_ok-bounds-in-Ok.ensures ∙ ap (λ (l : Listed). inner_bounds c.args.per_shard l.list) c.in_ok-rows-in-Ok.ensures) in (
      Ok c.in-Ok.parcel,
      mid,
      heard (IsLooked Local c.args.device c.args.place.now (parcel_of c.args.device) (λ read. Parceled c.args.place.now c.args.device read))
          (s c.args.door.now) Local c.sync_rows-read.result (Ok (Ok c.in-Ok.parcel)) mid c.in-Ok.ensures c.sync_rows-read.ensures.read,
      inl (
        None,
        cut-into c.args.ring.now.secrets c.args.place.now c.args.time c.deref.result.now
            (inner_bounds c.args.per_shard (fold merged no_rows c.in-Ok.parcel.rows).list) c.in_ok-ranges-in-Ok.field-0 None known c.in-None.is
            c.in_ok-ranges-in-Ok.ensures,
        (refl, c.leaving.ensures, c.in_ok-keep-in-None.ensures),
      ),
    )

pub returns-in_err-keep-in-Err-clause-creates : goal.returns-in_err-keep-in-Err-clause-creates
returns-in_err-keep-in-Err-clause-creates g c =
    let s = g.D.Door.sight in
    let mid = s c.sync_rows-read.new.self in
    comes-ended (IsFound c.args.ring.now c.args.device c.args.place.now c.args.per_shard c.args.time (s c.args.door.now) c.args.outcome.now mid
    c.keep-in-Err.new.outcome) c.from_residual-in_err-keep-in-Err.result c.from_residual-in_err-keep-in-Err.ensures.0 (leaves 1) (
      Err c.in-Err.answer,
      mid,
      heard (IsLooked Local c.args.device c.args.place.now (parcel_of c.args.device) (λ read. Parceled c.args.place.now c.args.device read))
          (s c.args.door.now) Local c.sync_rows-read.result (Ok (Err c.in-Err.answer)) mid c.in-Err.ensures c.sync_rows-read.ensures.read,
      (
        refl,
        refl,
        keeps-of c.of_container_answer.result (cont_hindrance c.in-Err.answer) c.args.outcome.now c.keep-in-Err.new.outcome false
            c.of_container_answer.ensures c.in_err-keep-in-Err.ensures,
      ),
    )

pub returns-clause-creates : goal.returns-clause-creates
returns-clause-creates g c =
    let s = g.D.Door.sight in
    let mid = s c.sync_rows-read.new.self in (
      Err c.in-Err.answer,
      mid,
      heard (IsLooked Local c.args.device c.args.place.now (parcel_of c.args.device) (λ read. Parceled c.args.place.now c.args.device read))
          (s c.args.door.now) Local c.sync_rows-read.result (Ok (Err c.in-Err.answer)) mid c.in-Err.ensures c.sync_rows-read.ensures.read,
      (
        refl,
        c.leaving-in-Err.ensures,
        keeps-of c.of_container_answer.result (cont_hindrance c.in-Err.answer) c.args.outcome.now c.keep-in-Err.new.outcome true
            c.of_container_answer.ensures c.in_ok-keep-in-Err.ensures,
      ),
    )
