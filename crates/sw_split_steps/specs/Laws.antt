-- What is promised of steps at containers as changes of a ledger. (This project's own.)
use Rattle.std.specs.Prelude.{◌≡◌, ℕ, List, Option, None}
use Rattle.sw_container_steps.specs.Entries.{all_entered}
use Rattle.sw_container_steps.specs.Serving.{served}
use Rattle.sw_container_steps.specs.Steps.{cont_refusal, entries_for}
use Rattle.sw_container_steps.specs.declared.cont_change.ContChange.{ContChange}
use Rattle.sw_hashpath.specs.declared.place.Place.{Place}
use Rattle.sw_keeper.specs.declared.tables.Tables.{Tables}
use Rattle.sw_shard_laws.specs.Ledger.{served as served_at}
use Rattle.sw_split_steps.specs.Tables.{IsInOrder, IsPassed, table_of}

-- the entries of a step that isn't refused are changes, and pass their tests
abbrev pub StepsAreChanges : Type 0
StepsAreChanges = (t : Option Tables) (place : Place) (change : ContChange) → IsInOrder t → cont_refusal t place change ≡ None
    → IsPassed change t (entries_for t place change)

abbrev pub NothingIsInOrder : Type 0
NothingIsInOrder = IsInOrder None

-- what it leaves is in order
abbrev pub StepsKeepOrder : Type 0
StepsKeepOrder = (t : Option Tables) (place : Place) (change : ContChange) → IsInOrder t → cont_refusal t place change ≡ None
    → IsInOrder (all_entered t (entries_for t place change))

abbrev pub ServedAgrees : Type 0
ServedAgrees = (t : Tables) (name : List ℕ) → served t name ≡ served_at (table_of t) name
