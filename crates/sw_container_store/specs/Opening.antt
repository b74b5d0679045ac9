-- How the database of a place is reached. (This project's own.)
use Rattle.std.specs.Prelude.{◌≡◌, ℕ, Bool, true, false, List, Option, None, MatchOption}
use Rattle.sqlite_value.specs.Order.{Row as SqlRow}
use Rattle.sw_hashpath.specs.declared.place.Place.{Place}
use Rattle.sw_container_store.specs.declared.open_list.OpenDatabase.{OpenDatabase}
use Rattle.sw_container_store.specs.declared.statements.Query.{Query}
use Rattle.sw_container_store.specs.OpenList.{found_at}
use Rattle.sw_container_store.specs.Telling.{IsChecked}

module _ {H D : Type 0} where
  -- the database of a place where it is open: its file was looked for, once, and is there; where it isn't open nothing was asked
  abbrev pub IsTaken : (H → List ℕ → Bool → H → Type 0) → H → H → Place → Option (OpenDatabase D) → Type 0
  IsTaken Finds old new place entry = MatchOption entry (new ≡ old) (λ _. Finds old place.hash true new)

  -- the database of a place was opened, by the hash of the place, and checked
  pub record IsOpened (Opens : H → List ℕ → H → D → Type 0) (Shows : Query → SqlRow → D → D → List SqlRow → Type 0) (old new : H) (place : Place)
      (entry : OpenDatabase D) : Type 0 where
    pub opened : D
    pub opens : Opens old place.hash new opened
    pub checked : IsChecked Shows place opened entry.database
    pub its : entry.place ≡ place

  -- a database that is reached: that of the place, where it is open, whose file was looked for and is there; else it was opened
  abbrev pub IsReached : (H → List ℕ → Bool → H → Type 0) → (H → List ℕ → H → D → Type 0) → (Query → SqlRow → D → D → List SqlRow → Type 0) → H → H
      → List (OpenDatabase D) → Place → OpenDatabase D → Type 0
  IsReached Finds Opens Shows old new list place entry =
      MatchOption (found_at list place) (IsOpened Opens Shows old new place entry) (λ e. (entry ≡ e) × Finds old place.hash true new)

  -- the database of a place isn't open, and it was looked for, once: it isn't there
  pub record IsAbsent (Finds : H → List ℕ → Bool → H → Type 0) (old new : H) (list : List (OpenDatabase D)) (place : Place) : Type 0 where
    pub closed : found_at list place ≡ None
    pub absent : Finds old place.hash false new

  -- a database that is found: that of the place is reached, and where it isn't open it was looked for before, once, and is there
  pub record IsFound (Finds : H → List ℕ → Bool → H → Type 0) (Opens : H → List ℕ → H → D → Type 0)
      (Shows : Query → SqlRow → D → D → List SqlRow → Type 0) (old new : H) (list : List (OpenDatabase D)) (place : Place) (entry : OpenDatabase D) : Type 0
    where
      pub mid : H
      pub found : MatchOption (found_at list place) (Finds old place.hash true mid) (λ _. mid ≡ old)
      pub reached : IsReached Finds Opens Shows mid new list place entry
