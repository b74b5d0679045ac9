-- The tables that stay loaded, those of the container that was used longest ago first. (This project's own.)
use Rattle.std.specs.Prelude.{◌≡◌, ◌≢◌, ℕ, ◌+◌, ◌≤◌, ◌⊎◌, Bool, ◌&&◌, nat_lt, nat_le, if◌then◌else◌, List, [], ◌∷◌, ◌++◌, length, Option, None, Some, All}
use Rattle.std.specs.Prelude.{is_some, position, slice_get, option_to_list}
use Rattle.std.specs.List.{AllPairs, remove, sum_by}
use Rattle.sw_hashpath.specs.declared.place.Place.{Place}
use Rattle.sw_keeper.specs.declared.tables.Tables.{Tables}
use Rattle.sw_container_steps.specs.Entries.{is_same_place, rows_of}
use Rattle.sw_container_db.specs.declared.loaded_list.Loaded.{Loaded}

-- ---- of which places they are

-- the tables of a place
abbrev pub tables_at : Place → Option Tables → Loaded
tables_at place tables = record { place = place; tables = tables }

abbrev pub is_of : Place → Loaded → Bool
is_of place l = is_same_place l.place place

-- the one at this number, where there is one
abbrev pub found_by : List Loaded → Option ℕ → Option Loaded
found_by loaded None = None
found_by loaded (Some at) = slice_get loaded at

-- all but the one at this number
abbrev pub but : List Loaded → Option ℕ → List Loaded
but loaded None = loaded
but loaded (Some at) = remove loaded at

-- whether the tables of a place are loaded
abbrev pub is_loaded : Place → List Loaded → Bool
is_loaded place loaded = is_some (position (is_of place) loaded)

-- the tables of a place, where they are loaded
abbrev pub found : Place → List Loaded → Option Loaded
found place loaded = found_by loaded (position (is_of place) loaded)

-- all but those of a place
abbrev pub without : Place → List Loaded → List Loaded
without place loaded = but loaded (position (is_of place) loaded)

-- the same, where those of a place are used: they are the last then
abbrev pub touched : Place → List Loaded → List Loaded
touched place loaded = without place loaded ++ option_to_list (found place loaded)

-- none are those of this place
abbrev pub Lacks : Place → List Loaded → Type 0
Lacks place loaded = All (λ l. l.place ≢ place) loaded

-- no place has its tables twice
abbrev pub AreApart : List Loaded → Type 0
AreApart loaded = AllPairs (λ l m. l.place ≢ m.place) loaded

-- ---- how many they are

-- how many rows tables have
abbrev pub rows_held : Option Tables → ℕ
rows_held tables = length (rows_of tables).list

-- how many rows all have together
abbrev pub all_rows : List Loaded → ℕ
all_rows loaded = sum_by (λ l. rows_held l.tables) loaded

-- whether there is room for one more, of so many rows
abbrev pub has_room : ℕ → List Loaded → Bool
has_room more loaded = nat_lt (length loaded) 64 && nat_le (all_rows loaded + more) 262144

-- those that stay where one more comes, of so many rows: those used longest ago go until there is room
abbrev pub trimmed : ℕ → List Loaded → List Loaded
trimmed more [] = []
trimmed more (l ∷ ls) = if has_room more (l ∷ ls) then l ∷ ls else trimmed more ls

-- at most 64, and at most 262,144 rows, or one alone
pub record IsBounded (loaded : List Loaded) : Type 0 where
  pub containers : length loaded ≤ 64
  pub rows : (length loaded ≤ 1) ⊎ (all_rows loaded ≤ 262144)

-- what is always so of them
pub record IsLoadedList (loaded : List Loaded) : Type 0 where
  pub bounded : IsBounded loaded
  pub apart : AreApart loaded

-- the tables of this place were used last
abbrev pub IsLast : Place → List Loaded → Type 0
IsLast place loaded = (others : List Loaded) × (read : Option Tables) × (loaded ≡ others ++ tables_at place read ∷ [])
