-- Statements that a database was asked one after the other, over any database. (This project's own.)
use Rattle.std.specs.Prelude.{◌≡◌, List, [], ◌∷◌}
use Rattle.sqlite_value.specs.Order.{Row as SqlRow}
use Rattle.sw_container_store.specs.declared.statements.Command.{Command}
use Rattle.sw_container_store.specs.Values.{Asked}

module _ {D : Type 0} where
  -- exactly these were asked, in this order, where a database that is asked one thing goes from the one to the other as Runs says
  unfoldable pub RunsAll : (Command → SqlRow → D → D → Type 0) → List Asked → D → D → Type 0
  RunsAll Runs [] old new = new ≡ old
  RunsAll Runs (asked ∷ more) old new = (mid : D) × Runs asked.command asked.values old mid × RunsAll Runs more mid new
