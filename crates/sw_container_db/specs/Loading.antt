-- What the load of the tables of a place comes to, where nothing is in doubt. (This project's own.)
use Rattle.std.specs.Prelude.{◌≡◌, Bool, true, [], ◌∷◌, ◌++◌, Option, IfSome}
use Rattle.sw_hashpath.specs.declared.place.Place.{Place}
use Rattle.sw_keeper.specs.declared.tables.Tables.{Tables}
use Rattle.sw_container_db.specs.Calling.{beside}
use Rattle.sw_container_db.specs.ContDirs.{ContKept}
use Rattle.sw_container_db.specs.LoadedList.{found, tables_at}

-- the tables of the place are the last: those that were loaded, where they were, and those that are held, where the keeper tells them
pub record Loads {K : Type 0} (tells : K → Bool) (holds : K → Place → Option Tables) (k : ContKept K) (place : Place) (n : ContKept K) : Type 0 where
  pub read : Option Tables
  pub was : IfSome (found place k.loaded) (λ l. read ≡ l.tables)
  pub known : tells k.keeper ≡ true → read ≡ holds k.keeper place
  pub loaded : n.loaded ≡ beside place read k.loaded ++ tables_at place read ∷ []
