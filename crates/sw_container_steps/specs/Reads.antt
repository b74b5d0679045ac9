-- What is read of a container. (The container server of OpenStack Swift tells the same; what is told of a deleted one is this project's
-- own.)
use Rattle.std.specs.Prelude.{◌≡◌, ◌≢◌, ℕ, Bool, true, false, if◌then◌else◌, List, [], filter, map, Option, None, Some, Result, Ok, Err}
use Rattle.std.specs.Option.{option_map, option_map_or}
use Rattle.sw_listing.specs.Listing.{listing}
use Rattle.sw_listing.specs.declared.entry.Entry.{Entry}
use Rattle.sw_listing.specs.declared.query.Query.{Query}
use Rattle.sw_rows.specs.Rows.{rows_above}
use Rattle.sw_rows.specs.declared.row.Row.{Row}
use Rattle.sw_rows.specs.Sums.{bytes_of, count_of, hash_of}
use Rattle.sw_shard_range.specs.declared.range.Range.{Range}
use Rattle.sw_sync.specs.Points.{point_at}
use Rattle.sw_keeper.specs.declared.tables.Tables.{Tables}
use Rattle.sw_container_steps.specs.Presence.{deletion_after, is_no_time}
use Rattle.sw_container_steps.specs.Serving.{is_of_range, unserved}
use Rattle.sw_container_steps.specs.declared.cont_answer.ContAnswer.{ContAnswer}
use Rattle.sw_container_steps.specs.declared.cont_answer.ContAnswer.TheVariants as answers
use Rattle.sw_container_steps.specs.declared.info.Info.{Info}
use Rattle.sw_container_steps.specs.declared.info.SplitState.{SplitState}
use Rattle.sw_container_steps.specs.declared.info.SplitState.TheVariants as states
use Rattle.sw_container_steps.specs.declared.sharding.Sharding.{Sharding}
use Rattle.sw_container_steps.specs.declared.syncing.Parcel.{Parcel}

-- what is told of a container that is there, else `Absent`
abbrev pub where_present : {A : Type 0} → Option Tables → (Tables → A) → Result A ContAnswer
where_present None told = Err answers.Absent
where_present (Some t) told = if is_no_time (deletion_after t.put_time t.delete_time) then Ok (told t) else Err answers.Absent

-- put time and delete time, also of a container that is deleted
abbrev pub times_of : Option Tables → ℕ → Result (Option (ℕ × Option ℕ)) ContAnswer
times_of t front = Ok (option_map (λ t. (t.put_time, t.delete_time)) t)

-- how far a container is split
abbrev pub split_over : Option (List Range) → Bool → SplitState
split_over None emptied = states.Unsharded
split_over (Some ranges) false = states.Sharding
split_over (Some ranges) true = states.Sharded

abbrev pub split_of : Tables → SplitState
split_of t = split_over t.ranges t.emptied

-- what is told of a container that is there. Counts and hash are those of the rows whose names aren't left to shards
abbrev pub told_of : ℕ → Tables → Info
told_of front t = record {
  put_time = t.put_time;
  count = count_of (unserved t);
  bytes = bytes_of (unserved t);
  hash = hash_of (unserved t);
  split = split_of t;
  front = front;
}

abbrev pub info_of : Option Tables → ℕ → Result Info ContAnswer
info_of t front = where_present t (told_of front)

abbrev pub listing_of : Query → Option Tables → ℕ → Result (List Entry) ContAnswer
listing_of query t front = where_present t (λ t. listing query (unserved t))

-- the rows above the sync point of a device, all where none is kept
abbrev pub rows_for : ℕ → Tables → List Row
rows_for device t = rows_above (option_map_or (λ rowid. rowid) (point_at t.syncs 0 device) 0) t.rows.list

-- the same of a container that is there, and the greatest number given out
abbrev pub parcel_of : ℕ → Option Tables → ℕ → Result Parcel ContAnswer
parcel_of device t front = where_present t (λ t. record { rows = rows_for device t; top = t.rows.top })

-- how far a container that is there is split, and the kept points
abbrev pub sharding_of : Option Tables → ℕ → Result Sharding ContAnswer
sharding_of t front = where_present t (λ t. record { ranges = t.ranges; cursor = t.cursor; points = t.points; emptied = t.emptied })

-- those of the range above a number
abbrev pub range_rows : List Range → ℕ → ℕ → Tables → List Row
range_rows ranges range point t = map (λ n. n.row) (filter (is_of_range ranges range point) t.rows.list)

abbrev pub range_parcel : Option (List Range) → ℕ → ℕ → Tables → Result Parcel ContAnswer
range_parcel None range point t = Err answers.NoRanges
range_parcel (Some ranges) range point t = Ok (record { rows = range_rows ranges range point t; top = t.rows.top })

-- the rows of a range above a number, of a container that is there and has ranges, and the greatest number given out
abbrev pub range_parcel_of : ℕ → ℕ → Option Tables → ℕ → Result Parcel ContAnswer
range_parcel_of range point None front = Err answers.Absent
range_parcel_of range point (Some t) front =
    if is_no_time (deletion_after t.put_time t.delete_time) then range_parcel t.ranges range point t else Err answers.Absent

-- the container is there, and there are such rows
abbrev pub HasRowsFor : ℕ → Option Tables → Type 0
HasRowsFor device None = ⊥
HasRowsFor device (Some t) = (is_no_time (deletion_after t.put_time t.delete_time) ≡ true) × (rows_for device t ≢ [])

-- it is there
abbrev pub HasSharding : Option Tables → Type 0
HasSharding None = ⊥
HasSharding (Some t) = is_no_time (deletion_after t.put_time t.delete_time) ≡ true

-- it is there and has ranges, and the range has such rows
abbrev pub HasRangeRowsIn : Option (List Range) → ℕ → ℕ → Tables → Type 0
HasRangeRowsIn None range point t = ⊥
HasRangeRowsIn (Some ranges) range point t = range_rows ranges range point t ≢ []

abbrev pub HasRangeRows : ℕ → ℕ → Option Tables → Type 0
HasRangeRows range point None = ⊥
HasRangeRows range point (Some t) = (is_no_time (deletion_after t.put_time t.delete_time) ≡ true) × HasRangeRowsIn t.ranges range point t

-- it is there, and a range is closed, so that what is told of it isn't what runs along with its rows
abbrev pub HasClosed : Option Tables → Type 0
HasClosed None = ⊥
HasClosed (Some t) = (is_no_time (deletion_after t.put_time t.delete_time) ≡ true) × (t.ranges ≢ None) × (t.cursor ≢ 0)
