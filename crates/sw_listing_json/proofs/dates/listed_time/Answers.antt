use Rattle.std.proofs.Common.{ℕ, ◌≤◌, Bool, false, Option, Some, ◌∙◌, ap}
use Rattle.jiff.specs.Types.{DateTime as Moment}
use Rattle.jiff.specs.Words.{datetime_text}
use Rattle.sw_listing_json.proofs.Moments.{nanos_is}
use Rattle.sw_listing_json.proofs.dates.listed_time.Goals as goal

pub returns : goal.returns
returns c =
    let moment = c.to_datetime.result in
    let value = rw c.unwrap-instant.ensures at c.from_microsecond.ensures.value in
    let most : c.args.time ≤ 999999999999999 = rw c.units.ensures.same at c.units.ensures.bound in
    let shown = rw c.units.ensures.same at value in
    let options = ap (λ (o : Bool × ℕ × Option ℕ). datetime_text o.0 o.1 o.2 c.to_plain.result) c.precision.ensures in
    let start = ap (λ (o : Bool × ℕ × Option ℕ). datetime_text o.0 o.1 (Some 6) c.to_plain.result) c.new.ensures in
    let plain = ap (λ (dt : Moment). datetime_text false 84 (Some 6) dt) c.to_plain.ensures in
    record {
      shown = moment;
      nanos = c.to_datetime.ensures ∙ nanos_is c.args.time c.unwrap-instant.result.nanosecond most shown;
      is_text = c.datetime_text.ensures ∙ options ∙ start ∙ plain;
    }
