-- What entries leave of tables: their rows are in the order of their numbers still, and rows alone leave how far a container is split.
use Rattle.std.proofs.Common.{◌≡◌, ℕ, ◌+◌, ◌≤◌, nat_lt, Bool, true, false, cond, List, [], ◌∷◌, ◌++◌, length, Option, None, Some, refl, ◌∙◌}
use Rattle.std.proofs.lemmas.List.Elements.{All-nil}
use Rattle.sw_container_steps.specs.Entries.{all_entered, closed, emptied, entered, ranged, rows_of}
use Rattle.sw_container_steps.specs.Steps.{created_by, creator, entries_for, merging_entries}
use Rattle.sw_container_steps.specs.declared.cont_entry.ContEntry.{ContEntry}
use Rattle.sw_container_steps.specs.declared.cont_entry.ContEntry.TheVariants.{Created, Removed, Merged, Ranged, Acked, Closed, Emptied, Synced}
use Rattle.sw_container_steps.specs.declared.cont_change.ContChange.TheVariants.{Create, MergeRows}
use Rattle.sw_hashpath.specs.declared.place.Place.{Place}
use Rattle.sw_keeper.specs.declared.tables.Tables.{Tables}
use Rattle.sw_rows.proofs.Greater.{listed-merged}
use Rattle.sw_rows.specs.Rows.{IsListed, Listed, find_named, fits, merged, no_rows, no_rows_at}
use Rattle.sw_rows.specs.declared.numbered.Numbered.{Numbered}
use Rattle.sw_rows.specs.declared.row.Row.{Row}
use Rattle.sw_shard_range.specs.States.{all_in_state, with_state}
use Rattle.sw_shard_range.specs.declared.range.Range.{Range}
use Rattle.sw_split_steps.specs.Tables.{standing}
use Rattle.sw_point_laws.proofs.Entering.{ArePlain, IsPlain}

-- ---- rows in the order of their numbers

none-listed : (top : ℕ) → IsListed (no_rows_at top)
none-listed top = record { rising = tt; within = All-nil (λ (n : Numbered). n.rowid ≤ top); once = tt }

pub nothing-listed : IsListed no_rows
nothing-listed = none-listed 0

abbrev AreListed : Option Tables → Type 0
AreListed t = IsListed (rows_of t)

entered-listed : (t : Option Tables) (entry : ContEntry) → AreListed t → AreListed (entered t entry)
entered-listed None (Created place time) is = nothing-listed
entered-listed None (Removed place time) is = is
entered-listed None (Merged place row) is = is
entered-listed None (Ranged place ranges) is = is
entered-listed None (Acked place range device rowid) is = is
entered-listed None (Closed place range) is = is
entered-listed None (Emptied place) is = is
entered-listed None (Synced place device rowid) is = is
entered-listed (Some t) (Created place time) is = is
entered-listed (Some t) (Removed place time) is = is
entered-listed (Some t) (Merged place row) is = listed-merged t.rows row is
entered-listed (Some t) (Ranged place ranges) is = by t.ranges
  where
    by : (o : Option (List Range)) → IsListed (ranged t o ranges).rows
    by None = is
    by (Some old) = is
entered-listed (Some t) (Acked place range device rowid) is = is
entered-listed (Some t) (Closed place range) is = by t.ranges
  where
    at : (ranges : List Range) (b : Bool)
        → IsListed (cond b (record t { ranges = Some (with_state 30 t.cursor ranges); cursor = t.cursor + 1 }) t).rows
    at ranges true = is
    at ranges false = is

    by : (o : Option (List Range)) → IsListed (closed t o).rows
    by None = is
    by (Some ranges) = at ranges (nat_lt t.cursor (length ranges))
entered-listed (Some t) (Emptied place) is = by t.ranges
  where
    at : (ranges : List Range) (b : Bool)
        → IsListed (cond b t (record t { rows = no_rows_at t.rows.top; ranges = Some (all_in_state 40 ranges); emptied = true })).rows
    at ranges true = is
    at ranges false = none-listed t.rows.top

    by : (o : Option (List Range)) → IsListed (emptied t o).rows
    by None = is
    by (Some ranges) = at ranges (nat_lt t.cursor (length ranges))
entered-listed (Some t) (Synced place device rowid) is = is

pub all-listed : (t : Option Tables) (entries : List ContEntry) → AreListed t → AreListed (all_entered t entries)
all-listed t [] is = is
all-listed t (entry ∷ entries) is = all-listed (entered t entry) entries (entered-listed t entry is)

pub rows-standing : (t : Option Tables) → (standing t).rows ≡ rows_of t
rows-standing None = refl
rows-standing (Some t) = refl

-- ---- how far a container is split

-- both have the same ranges, and as many of them are closed
abbrev pub AreSplitAlike : Option Tables → Option Tables → Type 0
AreSplitAlike t after = ((standing after).ways ≡ (standing t).ways) × ((standing after).cursor ≡ (standing t).cursor)

plain-alike : (t : Option Tables) (entry : ContEntry) → IsPlain entry → AreSplitAlike t (entered t entry)
plain-alike None (Created place time) is = (refl, refl)
plain-alike None (Removed place time) is = (refl, refl)
plain-alike None (Merged place row) is = (refl, refl)
plain-alike (Some t) (Created place time) is = (refl, refl)
plain-alike (Some t) (Removed place time) is = (refl, refl)
plain-alike (Some t) (Merged place row) is = (refl, refl)
plain-alike t (Ranged place ranges) is = absurd is
plain-alike t (Acked place range device rowid) is = absurd is
plain-alike t (Closed place range) is = absurd is
plain-alike t (Emptied place) is = absurd is
plain-alike t (Synced place device rowid) is = absurd is

pub all-alike : (t : Option Tables) (entries : List ContEntry) → ArePlain entries → AreSplitAlike t (all_entered t entries)
all-alike t [] are = (refl, refl)
all-alike t (entry ∷ entries) are =
    let one = plain-alike t entry are.0 in
    let rest = all-alike (entered t entry) entries are.1 in (rest.0 ∙ one.0, rest.1 ∙ one.1)

-- ---- entries of creations and rows are plain

merging-plain : (l : Listed) (place : Place) (rows : List Row) → ArePlain (merging_entries l place rows)
merging-plain l place [] = tt
merging-plain l place (row ∷ rows) = by (fits (find_named l.list row.name) row) (merging-plain (merged l row) place rows)
  where
    by : (b : Bool) → ArePlain (merging_entries (merged l row) place rows)
        → ArePlain (cond b (Merged place row ∷ merging_entries (merged l row) place rows) (merging_entries (merged l row) place rows))
    by true rest = (tt, rest)
    by false rest = rest

pub rows-plain : (t : Option Tables) (place : Place) (rows : List Row) → ArePlain (entries_for t place (MergeRows rows))
rows-plain t place rows = by (creator t place rows)
  where
    by : (o : Option Row) → ArePlain (created_by t place o ++ merging_entries (rows_of t) place rows)
    by None = merging-plain (rows_of t) place rows
    by (Some row) = (tt, merging-plain (rows_of t) place rows)

pub creation-plain : (t : Option Tables) (place : Place) (time : ℕ) → ArePlain (entries_for t place (Create time))
creation-plain None place time = (tt, tt)
creation-plain (Some t) place time = by (nat_lt t.put_time time)
  where
    by : (b : Bool) → ArePlain (cond b (Created place time ∷ []) [])
    by true = (tt, tt)
    by false = tt
