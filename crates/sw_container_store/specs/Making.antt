-- What a batch makes of the databases that are open. (This project's own.)
use Rattle.std.specs.Prelude.{◌≡◌, ℕ, Bool, List, [], ◌∷◌, ◌++◌}
use Rattle.sqlite_value.specs.Order.{Row as SqlRow}
use Rattle.sw_hashpath.specs.declared.place.Place.{Place}
use Rattle.sw_keeper.specs.declared.batch.Change.{Change}
use Rattle.sw_container_store.specs.declared.open_list.OpenDatabase.{OpenDatabase}
use Rattle.sw_container_store.specs.declared.statements.Command.{Command}
use Rattle.sw_container_store.specs.declared.statements.Query.{Query}
use Rattle.sw_container_store.specs.OpenList.{beside}
use Rattle.sw_container_store.specs.Opening.{IsReached}
use Rattle.sw_container_store.specs.Runs.{RunsAll}
use Rattle.sw_container_store.specs.Values.{transaction}

module _ {H D : Type 0} where
  -- a batch was made: exactly its transaction was asked of the database that was reached, which then is the one that was used last
  pub record IsMade (Finds : H → List ℕ → Bool → H → Type 0) (Opens : H → List ℕ → H → D → Type 0)
      (Shows : Query → SqlRow → D → D → List SqlRow → Type 0) (Runs : Command → SqlRow → D → D → Type 0) (before after : H)
      (old new : List (OpenDatabase D)) (place : Place) (batch : List Change) : Type 0 where
    pub entry : OpenDatabase D
    pub reached : IsReached Finds Opens Shows before after old place entry
    pub made : D
    pub asked : RunsAll Runs (transaction place batch) entry.database made
    pub list : new ≡ beside old place ++ record entry { database = made } ∷ []
