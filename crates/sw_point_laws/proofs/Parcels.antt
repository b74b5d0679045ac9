-- What reads of a container tell of its tables.
use Rattle.std.proofs.Common.{◌≡◌, ℕ, Bool, true, false, cond, List, Option, None, Some, Ok, Err, refl, ap}
use Rattle.sw_container_steps.specs.Presence.{deletion_after, is_no_time}
use Rattle.sw_container_steps.specs.Reads.{parcel_of, range_parcel, range_parcel_of, range_rows, rows_for, sharding_of}
use Rattle.sw_container_steps.specs.declared.cont_answer.ContAnswer.TheVariants as answers
use Rattle.sw_container_steps.specs.declared.sharding.Sharding.{Sharding}
use Rattle.sw_container_steps.specs.declared.syncing.Parcel.{Parcel}
use Rattle.sw_keeper.specs.declared.tables.Tables.{Tables}
use Rattle.sw_shard_range.specs.declared.range.Range.{Range}

-- whether a container is there
abbrev is_there : Tables → Bool
is_there t = is_no_time (deletion_after t.put_time t.delete_time)

-- how far a container is split is told of what it has
pub sharding-is : (o : Option Tables) (front : ℕ) (x : Sharding) → Ok x ≡ sharding_of o front
    → (t : Tables) × (o ≡ Some t) × (x.ranges ≡ t.ranges) × (x.points ≡ t.points)
sharding-is None front x told = cc
sharding-is (Some t) front x told = by (is_there t) told
  where
    by : (b : Bool) → Ok x ≡ cond b (Ok (record { ranges = t.ranges; cursor = t.cursor; points = t.points; emptied = t.emptied })) (Err answers.Absent)
        → (u : Tables) × (Some t ≡ Some u) × (x.ranges ≡ u.ranges) × (x.points ≡ u.points)
    by true told =
        let is : x ≡ record { ranges = t.ranges; cursor = t.cursor; points = t.points; emptied = t.emptied } = cc in
        (t, refl, ap (λ (s : Sharding). s.ranges) is, ap (λ (s : Sharding). s.points) is)
    by false told = cc

-- so are the rows above a sync point
abbrev pub IsParcel : ℕ → Option Tables → Parcel → Type 0
IsParcel device o x = (t : Tables) × (o ≡ Some t) × (x.rows ≡ rows_for device t) × (x.top ≡ t.rows.top)

pub parcel-is : (device : ℕ) (o : Option Tables) (front : ℕ) (x : Parcel) → Ok x ≡ parcel_of device o front → IsParcel device o x
parcel-is device None front x told = cc
parcel-is device (Some t) front x told = by (is_there t) told
  where
    by : (b : Bool) → Ok x ≡ cond b (Ok (record { rows = rows_for device t; top = t.rows.top })) (Err answers.Absent)
        → IsParcel device (Some t) x
    by true told =
        let is : x ≡ record { rows = rows_for device t; top = t.rows.top } = cc in
        (t, refl, ap (λ (p : Parcel). p.rows) is, ap (λ (p : Parcel). p.top) is)
    by false told = cc

-- and those of a range above a number
abbrev pub IsRangeParcel : ℕ → ℕ → Option Tables → Parcel → Type 0
IsRangeParcel index above o x =
    (t : Tables) × (ranges : List Range) × (o ≡ Some t) × (t.ranges ≡ Some ranges) × (x.rows ≡ range_rows ranges index above t) × (x.top ≡ t.rows.top)

pub range-parcel-is : (index above : ℕ) (o : Option Tables) (front : ℕ) (x : Parcel) → Ok x ≡ range_parcel_of index above o front
    → IsRangeParcel index above o x
range-parcel-is index above None front x told = cc
range-parcel-is index above (Some t) front x told = by (is_there t) told
  where
    with : (w : Option (List Range)) → t.ranges ≡ w → Ok x ≡ range_parcel w index above t → IsRangeParcel index above (Some t) x
    with None split told = cc
    with (Some ranges) split told =
        let is : x ≡ record { rows = range_rows ranges index above t; top = t.rows.top } = cc in
        (t, ranges, refl, split, ap (λ (p : Parcel). p.rows) is, ap (λ (p : Parcel). p.top) is)

    by : (b : Bool) → Ok x ≡ cond b (range_parcel t.ranges index above t) (Err answers.Absent) → IsRangeParcel index above (Some t) x
    by true told = with t.ranges refl told
    by false told = cc
