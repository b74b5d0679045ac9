-- A container without shard ranges stays without them, whatever else is made of it, and leaves no name to a shard.
use Rattle.std.proofs.Common.{◌≡◌, ℕ, nat_lt, Bool, true, false, cond, List, [], ◌∷◌, ◌++◌, Option, None, Some, refl, ap, subst, sym}
use Rattle.std.specs.Bool.{⊤}
use Rattle.std.specs.List.{filter}
use Rattle.std.specs.Prelude.{is_none}
use Rattle.sw_hashpath.specs.declared.place.Place.{Place}
use Rattle.sw_keeper.specs.Changes.{begun}
use Rattle.sw_keeper.specs.declared.tables.Tables.{Tables}
use Rattle.sw_rows.specs.Rows.{Listed, find_named, fits, merged}
use Rattle.sw_rows.specs.declared.numbered.Numbered.{Numbered}
use Rattle.sw_rows.specs.declared.row.Row.{Row}
use Rattle.sw_shard_range.specs.declared.range.Range.{Range}
use Rattle.sw_sync.specs.Points.{is_above, point_at}
use Rattle.sw_container_steps.specs.Entries.{all_entered, entered}
use Rattle.sw_container_steps.specs.Serving.{IsUnsplit, served_by, unserved}
use Rattle.sw_container_steps.specs.Steps.{created_by, creator, entries_for, is_plain, merging_entries, rows_entries}
use Rattle.sw_container_steps.specs.Entries.{rows_of}
use Rattle.sw_container_steps.specs.declared.cont_change.ContChange.{ContChange}
use Rattle.sw_container_steps.specs.declared.cont_change.ContChange.TheVariants.{Create, Remove, MergeRow, MergeRows, SetRanges, Ack, CloseRange}
use Rattle.sw_container_steps.specs.declared.cont_change.ContChange.TheVariants.{EmptyOut, SetSync}
use Rattle.sw_container_steps.specs.declared.cont_entry.ContEntry.{ContEntry}
use Rattle.sw_container_steps.specs.declared.cont_entry.ContEntry.TheVariants.{Created, Removed, Merged, Ranged, Acked, Closed, Emptied, Synced}

-- ---- all names are its own

none-left : (o : Option (List Range)) (cursor : ℕ) (ns : List Numbered) → o ≡ None → filter (λ n. is_none (served_by o cursor n.row.name)) ns ≡ ns
none-left None cursor [] is = refl
none-left None cursor (n ∷ ns) is = ap (λ (xs : List Numbered). n ∷ xs) (none-left None cursor ns is)
none-left (Some ranges) cursor ns is = cc

pub unsplit-shows : (t : Tables) → IsUnsplit (Some t) → unserved t ≡ t.rows.list
unsplit-shows t is = none-left t.ranges t.cursor t.rows.list is

-- ---- steps that are none on ranges

-- entries of creations, deletions, rows and sync points
abbrev IsPlainEntry : ContEntry → Type 0
IsPlainEntry (Created place time) = ⊤
IsPlainEntry (Removed place time) = ⊤
IsPlainEntry (Merged place row) = ⊤
IsPlainEntry (Ranged place ranges) = ⊥
IsPlainEntry (Acked place range device rowid) = ⊥
IsPlainEntry (Closed place range) = ⊥
IsPlainEntry (Emptied place) = ⊥
IsPlainEntry (Synced place device rowid) = ⊤

abbrev ArePlainEntries : List ContEntry → Type 0
ArePlainEntries [] = ⊤
ArePlainEntries (e ∷ es) = IsPlainEntry e × ArePlainEntries es

plain-append : (xs ys : List ContEntry) → ArePlainEntries xs → ArePlainEntries ys → ArePlainEntries (xs ++ ys)
plain-append [] ys p q = q
plain-append (x ∷ xs) ys p q = (p.0, plain-append xs ys p.1 q)

entered-unsplit : (t : Option Tables) (e : ContEntry) → IsPlainEntry e → IsUnsplit t → IsUnsplit (entered t e)
entered-unsplit None (Created place time) plain is = refl
entered-unsplit None (Removed place time) plain is = tt
entered-unsplit None (Merged place row) plain is = tt
entered-unsplit None (Synced place device rowid) plain is = tt
entered-unsplit (Some t) (Created place time) plain is = is
entered-unsplit (Some t) (Removed place time) plain is = is
entered-unsplit (Some t) (Merged place row) plain is = is
entered-unsplit (Some t) (Synced place device rowid) plain is = is
entered-unsplit t (Ranged place ranges) plain is = absurd plain
entered-unsplit t (Acked place range device rowid) plain is = absurd plain
entered-unsplit t (Closed place range) plain is = absurd plain
entered-unsplit t (Emptied place) plain is = absurd plain

pub all-unsplit : (t : Option Tables) (es : List ContEntry) → ArePlainEntries es → IsUnsplit t → IsUnsplit (all_entered t es)
all-unsplit t [] plain is = is
all-unsplit t (e ∷ es) plain is = all-unsplit (entered t e) es plain.1 (entered-unsplit t e plain.0 is)

merging-plain : (l : Listed) (place : Place) (rows : List Row) → ArePlainEntries (merging_entries l place rows)
merging-plain l place [] = tt
merging-plain l place (row ∷ rows) = by (fits (find_named l.list row.name) row) (merging-plain (merged l row) place rows)
  where
    by : (b : Bool) → ArePlainEntries (merging_entries (merged l row) place rows)
        → ArePlainEntries (cond b (Merged place row ∷ merging_entries (merged l row) place rows) (merging_entries (merged l row) place rows))
    by true rest = (tt, rest)
    by false rest = rest

created-plain : (t : Option Tables) (place : Place) (row : Option Row) → ArePlainEntries (created_by t place row)
created-plain t place None = tt
created-plain t place (Some row) = (tt, tt)

rows-plain : (t : Option Tables) (place : Place) (rows : List Row) → ArePlainEntries (rows_entries t place rows)
rows-plain t place rows =
    plain-append (created_by t place (creator t place rows)) (merging_entries (rows_of t) place rows) (created-plain t place (creator t place rows))
    (merging-plain (rows_of t) place rows)

entries-plain : (t : Option Tables) (place : Place) (change : ContChange) → is_plain change ≡ true → ArePlainEntries (entries_for t place change)
entries-plain None place (Create time) is = (tt, tt)
entries-plain (Some t) place (Create time) is = by (nat_lt t.put_time time)
  where
    by : (b : Bool) → ArePlainEntries (cond b (Created place time ∷ []) [])
    by true = (tt, tt)
    by false = tt
entries-plain t place (Remove time) is = (tt, tt)
entries-plain t place (MergeRow row) is = rows-plain t place (row ∷ [])
entries-plain t place (MergeRows rows) is = rows-plain t place rows
entries-plain t place (SetRanges ranges) is = cc
entries-plain t place (Ack range device rowid) is = cc
entries-plain t place (CloseRange range devices) is = cc
entries-plain t place EmptyOut is = cc
entries-plain None place (SetSync device rowid) is = tt
entries-plain (Some t) place (SetSync device rowid) is = by (is_above rowid (point_at t.syncs 0 device))
  where
    by : (b : Bool) → ArePlainEntries (cond b (Synced place device rowid ∷ []) [])
    by true = (tt, tt)
    by false = tt

-- what such a step leaves, over whatever it was decided by
pub step-unsplit : (t read : Option Tables) (place : Place) (change : ContChange) → is_plain change ≡ true → IsUnsplit t
    → IsUnsplit (all_entered t (entries_for read place change))
step-unsplit t read place change plain is = all-unsplit t (entries_for read place change) (entries-plain read place change plain) is
