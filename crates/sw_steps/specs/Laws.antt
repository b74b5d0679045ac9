-- What is promised of steps and passes. (This project's own.)
use Rattle.std.specs.Prelude.{◌≡◌, ◌≢◌, ℕ, true, false, List, Result}
use Rattle.sw_machine.specs.Honest.{RunsHonestly}
use Rattle.sw_machine.specs.Doors.{RunsOnLeaving}
use Rattle.sw_machine.specs.Laws.{LocksAreApart}
use Rattle.sw_core.specs.Worlds.{nodes_of}
use Rattle.sw_hashpath.specs.declared.secrets.Secrets.{Secrets}
use Rattle.sw_lossy.specs.declared.acts.Acts.{Acts}
use Rattle.sw_outside.specs.declared.errors.NoMemory.{NoMemory}
use Rattle.sw_pass.specs.declared.outcome.Outcome.{Outcome}
use Rattle.sw_peer.specs.Sights.{Sight}
use Rattle.sw_steps.specs.Exchanging.{AreMet}
use Rattle.sw_hashpath.specs.declared.place.Place.{Place}
use Rattle.sw_ring.specs.declared.ring.Ring.{Ring}
use Rattle.sw_shard_range.specs.Names.{is_hidden}
use Rattle.sw_steps.specs.Passing.{AreRowsPushedOver, AreShardsCreatedOver, IsCleftOver, IsPushedOver, IsUpdateOver}
use Rattle.sw_steps.specs.Stepping.{AreMade}
use Rattle.sw_pass.specs.Rings.{replicas_in}
use Rattle.sw_steps.specs.declared.step.Step.{Step}

-- A push is a run of the machine, whatever comes of it: what was lost, came twice, hindered it or wanted memory. Each transfer carries a
-- write that its sender stands for, as far as the sender's lock tells what it has. No record is marked or dropped
abbrev pub PushingRuns : Type 0
PushingRuns = (from to part : ℕ) (acts : Acts) (s : Sight) (result : Result Outcome NoMemory) (t : Sight) → IsPushedOver from to part acts s result t
    → from ≢ to → t.alone ≡ true → RunsOnLeaving s t

-- So is a push of rows, and an honest one. Each message carries a row that its sender has, as far as the sender's lock tells what it has; a row goes to a shard
-- only where the receiver left it to that; and a point is kept only behind the acknowledgement of each row up to it
abbrev pub RowPushesRun : Type 0
RowPushesRun = (ring : Ring) (from to : ℕ) (place : Place) (acts : Acts) (s : Sight) (result : Result Outcome NoMemory) (t : Sight)
    → AreRowsPushedOver ring from to place acts s result t → from ≢ to → t.alone ≡ true → RunsHonestly ring.secrets (replicas_in ring) s t

-- So is a pass that moves a range of a container to its shard, where the container isn't a shard itself. Each message carries rows that its sender has, as far
-- as the sender's lock tells what it has: they were read there, and what the pass made there since then only raised points; each point is raised behind the
-- acknowledgement of these rows, and the range is closed by all devices of its shard
abbrev pub CleavesRun : Type 0
CleavesRun = (ring : Ring) (device : ℕ) (place : Place) (acts : Acts) (s : Sight) (result : Result Outcome NoMemory) (t : Sight)
    → IsCleftOver ring device place acts s result t → is_hidden place ≡ false → t.alone ≡ true → RunsHonestly ring.secrets (replicas_in ring) s t

-- So is a pass that creates the shards of a container that isn't one itself. The list of ranges in each message is the one that its sender has, as far as the
-- sender's lock tells what it has: it was read there, or set there before the first message; and it is set once each replica of each shard was created
abbrev pub CreationsRun : Type 0
CreationsRun = (ring : Ring) (device : ℕ) (place : Place) (per_shard time : ℕ) (acts : Acts) (s : Sight) (result : Result Outcome NoMemory) (t : Sight)
    → AreShardsCreatedOver ring device place per_shard time acts s result t → is_hidden place ≡ false → t.alone ≡ true
    → RunsHonestly ring.secrets (replicas_in ring) s t

-- So is an update, and an honest one. Each message carries to the container of a record's name, or to a shard that this left the row to, what stands under that
-- name at the device, as far as its lock tells that; a device is marked once such a row counts as acknowledged by it; and a record is dropped by all devices of
-- its container
abbrev pub UpdatesRun : Type 0
UpdatesRun = (ring : Ring) (device : ℕ) (acts : Acts) (s : Sight) (result : Result Outcome NoMemory) (t : Sight)
    → IsUpdateOver ring device acts s result t → s.nodes.secrets ≡ ring.secrets → t.alone ≡ true → RunsHonestly ring.secrets (replicas_in ring) s t

-- Where a list of steps is made that has a push from a to b and a later one back, and what the list told of both says that they are done, both
-- devices hold the join of what both held, of each hash that the steps between them left
abbrev pub StepsMeet : Type 0
StepsMeet = (all : List Step) (told : List Outcome) (s t : Sight) → AreMade all told s t → t.alone ≡ true → AreMet all told s t

-- a lock of a world is one of one device
abbrev pub WorldsAreApart : Type 0
WorldsAreApart = (devices lock_bits power : ℕ) (secrets : Secrets) → LocksAreApart (nodes_of devices lock_bits power secrets)
