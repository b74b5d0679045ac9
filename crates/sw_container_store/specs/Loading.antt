-- What a load tells, and what it leaves of the databases that are open. (This project's own.)
use Rattle.std.specs.Prelude.{◌≡◌, ◌⊎◌, ℕ, Bool, List, [], ◌∷◌, ◌++◌, Option, None}
use Rattle.sqlite_value.specs.Order.{Row as SqlRow}
use Rattle.sw_hashpath.specs.declared.place.Place.{Place}
use Rattle.sw_keeper.specs.declared.tables.Tables.{Tables}
use Rattle.sw_container_store.specs.declared.open_list.OpenDatabase.{OpenDatabase}
use Rattle.sw_container_store.specs.declared.statements.Query.{Query}
use Rattle.sw_container_store.specs.OpenList.{beside, found_at}
use Rattle.sw_container_store.specs.Opening.{IsAbsent, IsFound}
use Rattle.sw_container_store.specs.Telling.{TellsTables}

module _ {D : Type 0} where
  -- what a load that fails leaves: the database of the place isn't open, where it was it is let go, and where it was to be opened there is room for it
  abbrev pub IsLeft : List (OpenDatabase D) → List (OpenDatabase D) → Place → Type 0
  IsLeft old new place = (new ≡ beside old place) ⊎ ((found_at old place ≡ None) × (new ≡ old))

module _ {H D : Type 0} where
  -- no database is there: nothing is told, and the same ones are open
  pub record IsNone (Finds : H → List ℕ → Bool → H → Type 0) (before after : H) (old new : List (OpenDatabase D)) (place : Place) (tables : Option Tables)
      : Type 0 where
    pub absent : IsAbsent Finds before after old place
    pub none : tables ≡ None
    pub list : new ≡ old

  -- the database that was found was asked its tables, and nothing else, and these are what it told; it then is the one that was used last
  pub record IsRead (Finds : H → List ℕ → Bool → H → Type 0) (Opens : H → List ℕ → H → D → Type 0)
      (Shows : Query → SqlRow → D → D → List SqlRow → Type 0) (before after : H) (old new : List (OpenDatabase D)) (place : Place) (tables : Option Tables)
      : Type 0 where
    pub entry : OpenDatabase D
    pub found : IsFound Finds Opens Shows before after old place entry
    pub read : D
    pub told : TellsTables Shows place entry.database read tables
    pub list : new ≡ beside old place ++ record entry { database = read } ∷ []

  -- what a load tells
  abbrev pub IsLoaded : (H → List ℕ → Bool → H → Type 0) → (H → List ℕ → H → D → Type 0) → (Query → SqlRow → D → D → List SqlRow → Type 0) → H → H
      → List (OpenDatabase D) → List (OpenDatabase D) → Place → Option Tables → Type 0
  IsLoaded Finds Opens Shows before after old new place tables =
      IsNone Finds before after old new place tables ⊎ IsRead Finds Opens Shows before after old new place tables
