-- What a keeper in memory is, as contracts see it. (This project's own.)
use Rattle.std.specs.Prelude.{◌≡◌, ℕ, List, Bool, true, false, Option, Some, None}
use Rattle.std.specs.BTreeMap.{insert_entry}
use Rattle.sw_hashpath.specs.declared.place.Place.{Place}
use Rattle.sw_keeper.specs.Changes.{all_changed}
use Rattle.sw_keeper.specs.Places.{at, place_cmp}
use Rattle.sw_keeper.specs.declared.batch.Change.{Change}
use Rattle.sw_outside.specs.declared.failing_call.FailingCall.{FailingCall}
use Rattle.sw_outside.specs.Counts.{raised}
use Rattle.sw_keeper.specs.declared.tables.Tables.{Tables}

-- a keeper in memory
pub record MemState : Type 0 where
  pub shelves : List (Place × Tables)  -- what it holds, in the order of places
  pub failing : List FailingCall  -- the calls that fail
  pub calls : ℕ  -- how many calls there were
  pub faults : ℕ  -- how many of them failed

-- the shelves with these tables at a place, in their order
abbrev pub with_tables : List (Place × Tables) → Place → Option Tables → List (Place × Tables)
with_tables shelves place None = shelves
with_tables shelves place (Some tables) = insert_entry place_cmp shelves place tables

-- the shelves after a batch at a place
abbrev pub with_batch : List (Place × Tables) → Place → List Change → List (Place × Tables)
with_batch shelves place batch = with_tables shelves place (all_changed (at shelves place) batch)

-- the keeper after one more call that didn't fail, but for what it changed
abbrev pub after_call : MemState → MemState
after_call s = record s { calls = raised s.calls }

-- the keeper after one more call that failed, but for what it changed
abbrev pub after_fault : MemState → MemState
after_fault s = record s { calls = raised s.calls; faults = raised s.faults }

-- how a commit that failed leaves the keeper, as it was planned: its changes are made, or aren't. Where it isn't to fail,
-- it has not failed
abbrev pub GoesAs : Option Bool → MemState → MemState → Place → List Change → Type 0
GoesAs None old new place batch = ⊥
GoesAs (Some true) old new place batch = new ≡ record (after_fault old) { shelves = with_batch old.shelves place batch }
GoesAs (Some false) old new place batch = new ≡ after_fault old
