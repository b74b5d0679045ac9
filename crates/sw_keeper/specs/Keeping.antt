-- What a keeper is: tables of containers, each at its place. (This project's own.)
use Rattle.std.specs.Prelude.{◌≡◌, ◌≢◌, ℕ, ◌≤◌, ◌↔◌, ⊤, List, Option, OnOk, Result, Ok, Err}
use Rattle.std.proofs.Common.{◌⊎◌}
use Rattle.std.specs.List.{Contains}
use Rattle.std.specs.List.Sorted.{IsStrictlySortedBy}
use Rattle.sw_hashpath.specs.declared.place.Place.{Place}
use Rattle.sw_outside.specs.Counts.{raised}
use Rattle.sw_outside.specs.Faults.{HasRisen}
use Rattle.sw_keeper.specs.Changes.{all_changed}
use Rattle.sw_keeper.specs.Places.{place_cmp}
use Rattle.sw_keeper.specs.declared.batch.Change.{Change}
use Rattle.sw_keeper.specs.declared.keeper_error.KeeperError.{KeeperError}
use Rattle.sw_keeper.specs.declared.keeper_error.KeeperError.TheVariants.{Failed, NoMemory}
use Rattle.sw_keeper.specs.declared.tables.Tables.{Tables}

-- the tables at each place; none where nothing is held
abbrev pub Holdings : Type 0
Holdings = Place → Option Tables

-- at every place stands what stood there
abbrev pub IsSame : Holdings → Holdings → Type 0
IsSame old new = (place : Place) → new place ≡ old place

-- at this one place all changes were made, and at every other place stands what stood there
pub record Changes (old new : Holdings) (place : Place) (batch : List Change) : Type 0 where
  pub there : new place ≡ all_changed (old place) batch
  pub elsewhere : (p : Place) → p ≢ place → new p ≡ old p

-- all changes were made, or none
abbrev pub MayChange : Holdings → Holdings → Place → List Change → Type 0
MayChange old new place batch = IsSame old new ⊎ Changes old new place batch

-- the places are those of which P holds, each once, in their order
pub record ListsPlaces (places : List Place) (P : Place → Type 0) : Type 0 where
  pub ascending : IsStrictlySortedBy place_cmp places
  pub exact : (place : Place) → Contains places place ↔ P place

module _ {T : Type 0} where
  -- P holds, where the call has failed
  abbrev pub OnFailed : Result T KeeperError → Type 0 → Type 0
  OnFailed (Ok _) P = ⊤
  OnFailed (Err Failed) P = P
  OnFailed (Err NoMemory) P = ⊤

  -- P holds, where memory ran out
  abbrev pub OnNoMemory : Result T KeeperError → Type 0 → Type 0
  OnNoMemory (Ok _) P = ⊤
  OnNoMemory (Err Failed) P = ⊤
  OnNoMemory (Err NoMemory) P = P

  -- one call counts one fault where it failed, and none else; so the count didn't fall, and has risen where the call failed
  pub record HasCause (before now : ℕ) (result : Result T KeeperError) : Type 0 where
    pub once : OnFailed result (now ≡ raised before)
    pub memory : OnNoMemory result (now ≡ before)
    pub kept : OnOk result (now ≡ before)
    pub later : before ≤ now
    pub risen : OnFailed result (HasRisen before now)
