-- What is promised of passes that split a container. (This project's own.)
use Rattle.std.specs.Prelude.{◌≡◌, ℕ, ◌<◌, false, true, List, Option, Some, ◌⊎◌, Ok}
use Rattle.std.specs.Cmp.Lexicographic.{slice_cmp}
use Rattle.std.specs.List.{All}
use Rattle.std.specs.List.Sorted.{IsStrictlySortedBy}
use Rattle.std.specs.Ordering.{nat_cmp}
use Rattle.sw_cleave.specs.Cleaving.{IsCleave}
use Rattle.sw_cleave.specs.Cutting.{AreCut}
use Rattle.sw_hashpath.specs.declared.place.Place.{Place}
use Rattle.sw_hashpath.specs.declared.secrets.Secrets.{Secrets}
use Rattle.sw_keeper.specs.declared.tables.Tables.{Tables}
use Rattle.sw_pass.specs.declared.outcome.Outcome.{Outcome}
use Rattle.sw_peer.specs.Sights.{Sight, cont_lock}
use Rattle.sw_ring.specs.declared.ring.Ring.{Ring}
use Rattle.sw_shard_range.specs.Laws.{AreTiled}
use Rattle.sw_shard_range.specs.Names.{is_empty}
use Rattle.sw_shard_range.specs.declared.range.Range.{Range}

-- a device tells what it has of the container
abbrev pub IsTold : ℕ → Place → Sight → Type 0
IsTold device place s = (s.containers.seen (cont_lock s.nodes device place)).told ≡ true

-- it was there and still is; and its rows were taken away, or more of its ranges are closed
pub record HasGoneOn (old new : Option Tables) : Type 0 where
  pub before : Tables
  pub after : Tables
  pub held : old ≡ Some before
  pub holds : new ≡ Some after
  pub further : (after.emptied ≡ true) ⊎ (before.cursor < after.cursor)

-- At nodes that nobody else changes meanwhile: where a pass is done the container at its device has gone on
abbrev pub DonePassesGoOn : Type 0
DonePassesGoOn = (ring : Ring) (device : ℕ) (place : Place) (s t : Sight) (outcome : Outcome) → IsCleave ring device place s (Ok outcome) t
    → outcome.done ≡ true → IsTold device place s → t.alone ≡ true → HasGoneOn (s.containers.holds device place) (t.containers.holds device place)

-- The ranges into which bounds are cut that rise, and none of which is empty, are all names, each once: no list of them is refused
abbrev pub CutsAreTiled : Type 0
CutsAreTiled = (secrets : Secrets) (place : Place) (time : ℕ) (bounds : List (List ℕ)) (ranges : List Range) → IsStrictlySortedBy (slice_cmp nat_cmp) bounds
    → All (λ bound. is_empty bound ≡ false) bounds → AreCut secrets place time bounds ranges → AreTiled ranges
