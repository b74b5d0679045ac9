-- The databases that are open, the one that was used longest ago first. (This project's own.)
use Rattle.std.specs.Prelude.{ℕ, Bool, ◌&&◌, List, Option, None, Some, drop, nat_le, length, if◌then◌else◌, is_some, position, slice_get}
use Rattle.std.specs.List.{remove}
use Rattle.std.specs.Str.{bytes_eq}
use Rattle.sw_hashpath.specs.declared.place.Place.{Place}
use Rattle.sw_container_store.specs.declared.open_list.OpenDatabase.{OpenDatabase}

-- whether two places are one
abbrev pub is_same : Place → Place → Bool
is_same one other = bytes_eq one.account other.account && bytes_eq one.container other.container && bytes_eq one.hash other.hash

module _ {D : Type 0} where
  abbrev pub is_of : Place → OpenDatabase D → Bool
  is_of place entry = is_same entry.place place

  -- the one at this number, where there is one
  abbrev pub found_by : List (OpenDatabase D) → Option ℕ → Option (OpenDatabase D)
  found_by list None = None
  found_by list (Some at) = slice_get list at

  -- all but the one at this number
  abbrev pub but : List (OpenDatabase D) → Option ℕ → List (OpenDatabase D)
  but list None = list
  but list (Some at) = remove list at

  -- the database of a place, where it is open
  abbrev pub found_at : List (OpenDatabase D) → Place → Option (OpenDatabase D)
  found_at list place = found_by list (position (is_of place) list)

  -- all but the one of a place
  abbrev pub without : List (OpenDatabase D) → Place → List (OpenDatabase D)
  without list place = but list (position (is_of place) list)

  -- whether it is that of the container whose hash this is
  abbrev pub is_hashed : List ℕ → OpenDatabase D → Bool
  is_hashed hash entry = bytes_eq entry.place.hash hash

  -- the same of the container whose hash this is
  abbrev pub found_hashed : List (OpenDatabase D) → List ℕ → Option (OpenDatabase D)
  found_hashed list hash = found_by list (position (is_hashed hash) list)

  abbrev pub without_hashed : List (OpenDatabase D) → List ℕ → List (OpenDatabase D)
  without_hashed list hash = but list (position (is_hashed hash) list)

  -- those that stay where one more is to be opened: of 16 the first is closed
  abbrev pub after_room : List (OpenDatabase D) → List (OpenDatabase D)
  after_room list = if nat_le 16 (length list) then drop 1 list else list

  -- those that are open beside the database of a place: where it is to be opened there is room for it
  abbrev pub beside : List (OpenDatabase D) → Place → List (OpenDatabase D)
  beside list place = if is_some (found_at list place) then without list place else after_room list
