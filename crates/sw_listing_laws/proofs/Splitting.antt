-- Where the rows of a container were taken away it has shard ranges, whatever entries come; and what is left to shards once stays so.
use Rattle.std.proofs.Common.{◌≡◌, ◌+◌, nat_lt, Bool, true, false, cond, List, [], ◌∷◌, length, Option, None, Some, ◌⊎◌, inl, inr, arith, refl}
use Rattle.std.specs.Bool.{⊤}
use Rattle.std.specs.List.{fold}
use Rattle.std.proofs.lemmas.Bool.{cases_Bool}
use Rattle.sw_container_steps.specs.Entries.{closed, emptied, entered, ranged}
use Rattle.sw_container_steps.specs.Serving.{IsUnsplit}
use Rattle.sw_container_steps.specs.declared.cont_entry.ContEntry.{ContEntry}
use Rattle.sw_container_steps.specs.declared.cont_entry.ContEntry.TheVariants.{Created, Removed, Merged, Ranged, Acked, Closed, Emptied, Synced}
use Rattle.sw_keeper.specs.declared.tables.Tables.{Tables}
use Rattle.sw_machine.specs.Machine.{IsWhole, is_emptied}
use Rattle.sw_rows.specs.Rows.{no_rows_at}
use Rattle.sw_shard_range.specs.States.{all_in_state, with_state}
use Rattle.sw_shard_range.specs.declared.range.Range.{Range}

-- no rows were taken away of a container that has no ranges
abbrev pub IsSplitWhereEmptied : Option Tables → Type 0
IsSplitWhereEmptied t = is_emptied t ≡ true → IsUnsplit t → ⊥

-- ranges that are set stay, and rows go only where there are some
split-ranged : (t : Tables) (o : Option (List Range)) (ranges : List Range) → IsSplitWhereEmptied (Some t) → IsSplitWhereEmptied (Some (ranged t o ranges))
split-ranged t None ranges is = λ gone whole. cc
split-ranged t (Some old) ranges is = is

split-closed : (t : Tables) (o : Option (List Range)) → IsSplitWhereEmptied (Some t) → IsSplitWhereEmptied (Some (closed t o))
split-closed t None is = is
split-closed t (Some ranges) is = by (nat_lt t.cursor (length ranges))
  where
    by : (b : Bool)
        → IsSplitWhereEmptied (Some (cond b (record t { ranges = Some (with_state 30 t.cursor ranges); cursor = t.cursor + 1 }) t))
    by true = λ gone whole. cc
    by false = is

split-emptied : (t : Tables) (o : Option (List Range)) → IsSplitWhereEmptied (Some t) → IsSplitWhereEmptied (Some (emptied t o))
split-emptied t None is = is
split-emptied t (Some ranges) is = by (nat_lt t.cursor (length ranges))
  where
    by : (b : Bool)
        → IsSplitWhereEmptied (Some (cond b t (record t { rows = no_rows_at t.rows.top; ranges = Some (all_in_state 40 ranges); emptied = true })))
    by true = is
    by false = λ gone whole. cc

split-entered : (t : Option Tables) (e : ContEntry) → IsSplitWhereEmptied t → IsSplitWhereEmptied (entered t e)
split-entered None (Created place time) is = λ gone whole. cc
split-entered None (Removed place time) is = is
split-entered None (Merged place row) is = is
split-entered None (Ranged place ranges) is = is
split-entered None (Acked place range device rowid) is = is
split-entered None (Closed place range) is = is
split-entered None (Emptied place) is = is
split-entered None (Synced place device rowid) is = is
split-entered (Some t) (Created place time) is = is
split-entered (Some t) (Removed place time) is = is
split-entered (Some t) (Merged place row) is = is
split-entered (Some t) (Ranged place ranges) is = split-ranged t t.ranges ranges is
split-entered (Some t) (Acked place range device rowid) is = is
split-entered (Some t) (Closed place range) is = split-closed t t.ranges is
split-entered (Some t) (Emptied place) is = split-emptied t t.ranges is
split-entered (Some t) (Synced place device rowid) is = is

pub split-still : (t : Option Tables) (es : List ContEntry) → IsSplitWhereEmptied t → IsSplitWhereEmptied (fold entered t es)
split-still t [] is = is
split-still t (e ∷ es) is = split-still (entered t e) es (split-entered t e is)

-- ---- what a container keeps

-- no rows were taken away, and no name is left to a shard
abbrev pub IsKept : Option Tables → Type 0
IsKept None = ⊤
IsKept (Some t) = (t.emptied ≡ false) × ((t.ranges ≡ None) ⊎ (t.cursor ≡ 0))

pub whole-kept : (t : Option Tables) → IsWhole t → IsKept t
whole-kept None whole = tt
whole-kept (Some t) whole = (whole.0, inr whole.1)

-- what has no ranges keeps all
pub unsplit-kept : (t : Option Tables) → IsSplitWhereEmptied t → IsUnsplit t → IsKept t
unsplit-kept None split whole = tt
unsplit-kept (Some t) split whole = by (cases_Bool t.emptied)
  where
    by : (t.emptied ≡ true) ⊎ (t.emptied ≡ false) → IsKept (Some t)
    by (inl gone) = absurd (split gone whole)
    by (inr stays) = (stays, inl whole)

pub kept-rows : (t : Option Tables) → IsKept t → is_emptied t ≡ false
kept-rows None kept = refl
kept-rows (Some t) kept = kept.0

-- what keeps all behind an entry did so before it
kept-ranged : (t : Tables) (o : Option (List Range)) (ranges : List Range) → t.ranges ≡ o → IsKept (Some (ranged t o ranges)) → IsKept (Some t)
kept-ranged t None ranges is kept = (kept.0, inl is)
kept-ranged t (Some old) ranges is kept = kept

kept-closed : (t : Tables) (o : Option (List Range)) → IsKept (Some (closed t o)) → IsKept (Some t)
kept-closed t None kept = kept
kept-closed t (Some ranges) kept = by (nat_lt t.cursor (length ranges)) kept
  where
    by : (b : Bool) → IsKept (Some (cond b (record t { ranges = Some (with_state 30 t.cursor ranges); cursor = t.cursor + 1 }) t)) → IsKept (Some t)
    by true (stays, inl never) = cc
    by true (stays, inr never) = absurd (omega (arith, never))
    by false is = is

kept-emptied : (t : Tables) (o : Option (List Range)) → IsKept (Some (emptied t o)) → IsKept (Some t)
kept-emptied t None kept = kept
kept-emptied t (Some ranges) kept = by (nat_lt t.cursor (length ranges)) kept
  where
    by : (b : Bool) → IsKept (Some (cond b t (record t { rows = no_rows_at t.rows.top; ranges = Some (all_in_state 40 ranges); emptied = true })))
        → IsKept (Some t)
    by true is = is
    by false is = cc

kept-entered : (t : Option Tables) (e : ContEntry) → IsKept (entered t e) → IsKept t
kept-entered None e kept = tt
kept-entered (Some t) (Created place time) kept = kept
kept-entered (Some t) (Removed place time) kept = kept
kept-entered (Some t) (Merged place row) kept = kept
kept-entered (Some t) (Ranged place ranges) kept = kept-ranged t t.ranges ranges refl kept
kept-entered (Some t) (Acked place range device rowid) kept = kept
kept-entered (Some t) (Closed place range) kept = kept-closed t t.ranges kept
kept-entered (Some t) (Emptied place) kept = kept-emptied t t.ranges kept
kept-entered (Some t) (Synced place device rowid) kept = kept

pub kept-still : (t : Option Tables) (es : List ContEntry) → IsKept (fold entered t es) → IsKept t
kept-still t [] kept = kept
kept-still t (e ∷ es) kept = kept-entered t e (kept-still (entered t e) es kept)
