use Rattle.std.proofs.Common.{◌∙◌, Ok, Err, false, true, inl, inr, refl, sym}
use Rattle.sw_cleave.proofs.Coming.{comes-ended, comes-then, keeps-of}
use Rattle.sw_cleave.proofs.Moving.{moved-from}
use Rattle.sw_cleave.specs.Cleaving.{IsParcelMoved, IsRangeMoved, leaves}
use Rattle.sw_container_steps.specs.Reads.{range_parcel_of}
use Rattle.sw_pass.specs.Outcomes.{cont_hindrance}
use Rattle.sw_peer.proofs.Heard.{heard}
use Rattle.sw_peer.specs.ContSights.{IsLooked}
use Rattle.sw_peer.specs.declared.cont_event.ContEvent.TheVariants.{Cleft}
use Rattle.sw_peer.specs.declared.link.Link.TheVariants.{Local}
use Rattle.sw_cleave.proofs.cleaving.move_range.Goals as goal

pub returns-in_err-devices-clause-cleaves : goal.returns-in_err-devices-clause-cleaves
returns-in_err-devices-clause-cleaves g c =
    let s = g.D.Door.sight in
    comes-ended (IsRangeMoved c.args.ring.now c.args.device c.args.place.now c.args.range.now c.args.index c.args.points.now c.args.open_ranges
    (s c.args.door.now) c.args.outcome.now (s c.args.door.now) c.args.outcome.now) c.from_residual-in_err-devices.result
    c.from_residual-in_err-devices.ensures.0 (leaves c.args.open_ranges) (inl (sym c.is_place.ensures ∙ c.if-not-is_place.false, inr (refl, refl, refl)))

pub returns-in-Ok-clause-cleaves : goal.returns-in-Ok-clause-cleaves
returns-in-Ok-clause-cleaves g c =
    let s = g.D.Door.sight in
    let range = c.args.range.now in
    let all = c.in_ok-devices.devices in
    let above = c.least_point-above.result in
    comes-then (IsParcelMoved c.args.device c.args.place.now range.shard c.args.index all c.args.open_ranges c.in-Ok.parcel (s c.rows_above-read.new.self)
    c.args.outcome.now (s c.move_parcel.new.door) c.move_parcel.new.outcome)
    (IsRangeMoved c.args.ring.now c.args.device c.args.place.now range c.args.index c.args.points.now c.args.open_ranges (s c.args.door.now)
    c.args.outcome.now (s c.move_parcel.new.door) c.move_parcel.new.outcome)
    (λ came on is. moved-from c.args.ring.now c.args.device c.args.place.now c.args.points.now c.args.open_ranges (s c.args.door.now) c.args.outcome.now
    (s c.move_parcel.new.door) c.move_parcel.new.outcome came on range c.args.index all c.as_slice.result.now above c.is_place.result
    c.is_place.ensures c.if-not-is_place.false c.in_ok-devices.ensures.value c.as_slice.ensures c.least_point-above.ensures (
      Ok c.in-Ok.parcel,
      s c.rows_above-read.new.self,
      heard (IsLooked Local c.args.device c.args.place.now (range_parcel_of c.args.index above) (λ read. Cleft c.args.place.now c.args.index above read))
          (s c.args.door.now) Local c.rows_above-read.result (Ok (Ok c.in-Ok.parcel)) (s c.rows_above-read.new.self) c.in-Ok.ensures
          c.rows_above-read.ensures.read,
      is,
    )) c.move_parcel.result c.move_parcel.ensures.cleaves

pub returns-in_ok-keep-in-Err-clause-cleaves : goal.returns-in_ok-keep-in-Err-clause-cleaves
returns-in_ok-keep-in-Err-clause-cleaves g c =
    let s = g.D.Door.sight in
    let range = c.args.range.now in
    let all = c.in_ok-devices.devices in
    let above = c.least_point-above.result in
    moved-from c.args.ring.now c.args.device c.args.place.now c.args.points.now c.args.open_ranges (s c.args.door.now) c.args.outcome.now
    (s c.rows_above-read.new.self) c.keep-in-Err.new.outcome c.leaving-in-Err.result true range c.args.index all c.as_slice.result.now above
    c.is_place.result c.is_place.ensures c.if-not-is_place.false c.in_ok-devices.ensures.value c.as_slice.ensures c.least_point-above.ensures (
      Err c.in-Err.answer,
      s c.rows_above-read.new.self,
      heard (IsLooked Local c.args.device c.args.place.now (range_parcel_of c.args.index above) (λ read. Cleft c.args.place.now c.args.index above read))
          (s c.args.door.now) Local c.rows_above-read.result (Ok (Err c.in-Err.answer)) (s c.rows_above-read.new.self) c.in-Err.ensures
          c.rows_above-read.ensures.read,
      (
        refl,
        c.leaving-in-Err.ensures,
        keeps-of c.of_container_answer.result (cont_hindrance c.in-Err.answer) c.args.outcome.now c.keep-in-Err.new.outcome true
            c.of_container_answer.ensures c.in_ok-keep-in-Err.ensures,
      ),
    )

pub returns-in_err-keep-in-Err-clause-cleaves : goal.returns-in_err-keep-in-Err-clause-cleaves
returns-in_err-keep-in-Err-clause-cleaves g c =
    let s = g.D.Door.sight in
    let range = c.args.range.now in
    let all = c.in_ok-devices.devices in
    let above = c.least_point-above.result in
    comes-ended (IsRangeMoved c.args.ring.now c.args.device c.args.place.now range c.args.index c.args.points.now c.args.open_ranges (s c.args.door.now)
    c.args.outcome.now (s c.rows_above-read.new.self) c.keep-in-Err.new.outcome) c.from_residual-in_err-keep-in-Err.result
    c.from_residual-in_err-keep-in-Err.ensures.0 (leaves c.args.open_ranges)
    (moved-from c.args.ring.now c.args.device c.args.place.now c.args.points.now c.args.open_ranges (s c.args.door.now) c.args.outcome.now
    (s c.rows_above-read.new.self) c.keep-in-Err.new.outcome (leaves c.args.open_ranges) false range c.args.index all c.as_slice.result.now above
    c.is_place.result c.is_place.ensures c.if-not-is_place.false c.in_ok-devices.ensures.value c.as_slice.ensures c.least_point-above.ensures (
      Err c.in-Err.answer,
      s c.rows_above-read.new.self,
      heard (IsLooked Local c.args.device c.args.place.now (range_parcel_of c.args.index above) (λ read. Cleft c.args.place.now c.args.index above read))
          (s c.args.door.now) Local c.rows_above-read.result (Ok (Err c.in-Err.answer)) (s c.rows_above-read.new.self) c.in-Err.ensures
          c.rows_above-read.ensures.read,
      (
        refl,
        refl,
        keeps-of c.of_container_answer.result (cont_hindrance c.in-Err.answer) c.args.outcome.now c.keep-in-Err.new.outcome false
            c.of_container_answer.ensures c.in_err-keep-in-Err.ensures,
      ),
    ))
