-- Points: for a range and a device, the number (ROWID) up to which the device has what is owed to it. (OpenStack Swift's databases keep such numbers
-- as sync points; that they are kept by range as well is this project's own.)
use Rattle.std.specs.Prelude.{ℕ, zero, suc, Bool, true, max, nat_lt, if◌then◌else◌, unwrap_or, List, Option, None, Some}
use Rattle.std.specs.BTreeMap.{insert_entry, is_at}
use Rattle.std.specs.Map.{lookup}
use Rattle.std.specs.Ordering.{nat_cmp, ordering_then}
use Rattle.std.specs.declared.cmp.Ordering.{Ordering}

-- what a point is kept for: the index of a range, and the number of a device
abbrev pub PointKey : Type 0
PointKey = ℕ × ℕ

-- by range, then by device
abbrev pub key_cmp : PointKey → PointKey → Ordering
key_cmp a b = ordering_then (nat_cmp a.0 b.0) (nat_cmp a.1 b.1)

-- points in order of what they are kept for, one each
abbrev pub PointList : Type 0
PointList = List (PointKey × ℕ)

-- the number that is kept for a range and a device, where there is one
abbrev pub point_at : PointList → ℕ → ℕ → Option ℕ
point_at points range device = lookup (is_at (key_cmp (range, device))) points

-- the points with this number for a range and a device, in place of the one that was kept
abbrev pub with_point : PointList → ℕ → ℕ → ℕ → PointList
with_point points range device rowid = insert_entry key_cmp points (range, device) rowid

-- whether a number is above what is kept. No number is below 0
abbrev pub is_above : ℕ → Option ℕ → Bool
is_above rowid None = true
is_above rowid (Some kept) = nat_lt kept rowid

-- the greater of the number and what is kept
abbrev pub raised : PointList → ℕ → ℕ → ℕ → PointList
raised points range device rowid = if is_above rowid (point_at points range device) then with_point points range device rowid else points

-- the greatest number that is kept for a range and any of the first devices, 0 where none is kept
abbrev pub greatest_of_first : PointList → ℕ → ℕ → ℕ
greatest_of_first points range zero = 0
greatest_of_first points range (suc device) = max (unwrap_or (point_at points range device) 0) (greatest_of_first points range device)

-- the greatest number that is kept for a range: a device has a number below 256
unfoldable pub greatest_point : PointList → ℕ → ℕ
greatest_point points range = greatest_of_first points range 256
