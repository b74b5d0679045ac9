-- Which files of a hash directory make its object. After OpenStack Swift's rule for cleaning up a hash directory; the
-- answers at one time are this project's own: a tombstone is above data, and data is above metadata.
use Rattle.std.specs.Prelude.{◌≡◌, ◌==◌, ◌||◌, ◌&&◌, nat_lt, Bool, true, false, not, List, Option, None, Some, MatchOption}
use Rattle.std.specs.List.{Contains}
use Rattle.sw_diskfile.specs.declared.file_name.FileName.{FileName}
use Rattle.sw_diskfile.specs.declared.picking.Picked.{Picked}
use Rattle.sw_timestamp.specs.declared.tag.Tag.{Tag}
use Rattle.sw_timestamp.specs.declared.tag.Tag.TheVariants.{Put, Del, Meta}

abbrev pub is_del : Tag → Bool
is_del Put = false
is_del Del = true
is_del Meta = false

abbrev pub is_meta : Tag → Bool
is_meta Put = false
is_meta Del = false
is_meta Meta = true

-- whether a file is data or a tombstone
abbrev pub is_base : FileName → Bool
is_base file = not (is_meta file.tag)

-- whether the first is above the second: it is later, or a tombstone at the time of data
abbrev pub is_above : FileName → FileName → Bool
is_above file other = nat_lt other.time file.time || ((other.time == file.time) && (is_del file.tag && not (is_del other.tag)))

-- whether metadata counts beside this base: it is strictly later, or there is no base
abbrev pub is_later_meta : Option FileName → FileName → Bool
is_later_meta None file = is_meta file.tag
is_later_meta (Some base) file = is_meta file.tag && nat_lt base.time file.time

-- the file is one of the names that pass the test, and none of them is above it
pub record IsGreatest (names : List FileName) (test : FileName → Bool) (file : FileName) : Type 0 where
  pub among : Contains names file
  pub passes : test file ≡ true
  pub none_above : (other : FileName) → Contains names other → test other ≡ true → is_above other file ≡ false

-- the greatest of the names that pass the test, or none where none passes
abbrev pub IsGreatestOf : List FileName → (FileName → Bool) → Option FileName → Type 0
IsGreatestOf names test found = MatchOption found ((file : FileName) → Contains names file → test file ≡ false) (IsGreatest names test)

-- the base is the greatest data or tombstone, and the meta the greatest metadata that is strictly later than it
pub record IsPicked (names : List FileName) (picked : Picked) : Type 0 where
  pub base : IsGreatestOf names is_base picked.base
  pub meta : IsGreatestOf names (is_later_meta picked.base) picked.meta
