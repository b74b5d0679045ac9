-- What a request for containers asks the nodes of a ring for, or the status that refuses it. (OpenStack Swift's container server; the order of the
-- refusals is this project's own.)
--
-- `Verdicts.antt` has the tests of each verb, and what it asks for where all are passed.
use Rattle.std.specs.Prelude.{◌≡◌, ⊤, ℕ, ◌<◌, true, List, ◌∷◌, Option, None, Some, Contains}
use Rattle.sw_container_steps.specs.Steps.{is_plain}
use Rattle.sw_hashpath.specs.declared.place.Place.{Place}
use Rattle.sw_message.specs.declared.request.Request.{Request}
use Rattle.sw_object_server.specs.Places.{IsDevice}
use Rattle.sw_object_server.specs.Tests.{IsDecided}
use Rattle.sw_ring.specs.declared.ring.Ring.{Ring}
use Rattle.sw_container_server.specs.Places.{IsKeeper, IsPlace, is_partition_of, name_fault, part_of, place_in}
use Rattle.sw_container_server.specs.Targets.{is_row, target_of, verb_of}
use Rattle.sw_container_server.specs.Verdicts.{Yields, verb_tests}
use Rattle.sw_container_server.specs.declared.asked.ContAsked.{ContAsked}
use Rattle.sw_container_server.specs.declared.asked.ContAsked.TheVariants as asks
use Rattle.sw_container_server.specs.declared.target.Target.{Target}
use Rattle.sw_container_server.specs.declared.verb.Verb.{Verb}
use Rattle.sw_container_server.specs.declared.verdict.Verdict.{Verdict}
use Rattle.sw_container_server.specs.declared.verdict.Verdict.TheVariants as verdicts

-- ---- the tests

-- nothing is wrong with its names
abbrev pub HasGoodNames : Target → Verb → Type 0
HasGoodNames t verb = name_fault verb t ≡ None

-- the ring has its device
abbrev pub HasDevice : Ring → Target → Type 0
HasDevice ring t = Contains ring.devices t.device

-- its partition is that of the container
abbrev pub IsInPartition : Ring → Target → Type 0
IsInPartition ring t = is_partition_of ring (place_in ring t) t.partition ≡ true

-- its device keeps the containers of that partition
abbrev pub IsAtKeeper : Ring → Target → Type 0
IsAtKeeper ring t = (device : ℕ) × IsDevice ring t.device (Some device) × IsKeeper ring (part_of ring (place_in ring t)) device

-- what a request with this verb has to pass, in this order, each with the status that refuses it
abbrev pub tests : Ring → Target → Request → Verb → List (ℕ × Type 0)
tests ring t r verb =
    (400, HasGoodNames t verb)
    ∷ (404, HasDevice ring t)
    ∷ (400, IsInPartition ring t)
    ∷ (404, IsAtKeeper ring t)
    ∷ verb_tests ring r verb

-- ---- what is asked for

-- a verdict on the container of this place at this device
abbrev pub asked_at : ℕ → Place → Verdict → ContAsked
asked_at device place (verdicts.Refused status) = asks.Refused status
asked_at device place (verdicts.Change change) = asks.Change device place change
asked_at device place (verdicts.Info replica) = asks.Info device place replica
asked_at device place (verdicts.List query replica) = asks.List device place query replica

-- what its verb asks for, at its device and place
abbrev pub AsksFor : Ring → Target → Request → Verb → ContAsked → Type 0
AsksFor ring t r verb asked =
    (device : ℕ) × (verdict : Verdict) × IsDevice ring t.device (Some device) × Yields ring t.object r verb verdict
    × (asked ≡ asked_at device (place_in ring t) verdict)

-- the first test that fails decides: the request is refused with its status. Where none fails, it asks for what its verb does
unfoldable pub IsAskedBy : Ring → Target → Request → Verb → ContAsked → Type 0
IsAskedBy ring t r verb = IsDecided (tests ring t r verb) asks.Refused (AsksFor ring t r verb)

-- a method that is no verb is refused before all else
abbrev pub IsAskedWith : Ring → Request → Option Verb → ContAsked → Type 0
IsAskedWith ring r None asked = asked ≡ asks.Refused 405
IsAskedWith ring r (Some verb) asked = IsAskedBy ring (target_of r.path) r verb asked

-- what a request for containers asks for, whatever its body
abbrev pub IsAsked : Ring → Request → ContAsked → Type 0
IsAsked ring r asked = IsAskedWith ring r (verb_of (is_row r.path) r.method) asked

-- what is asked for has such a place, and is no step on shard ranges; and shards have a replica of the number that is asked for
abbrev pub IsPlaced : Ring → ContAsked → Type 0
IsPlaced ring (asks.Refused status) = ⊤
IsPlaced ring (asks.Change device place change) = IsPlace ring device place × (is_plain change ≡ true)
IsPlaced ring (asks.Info device place replica) = IsPlace ring device place × (replica < ring.replicas)
IsPlaced ring (asks.List device place query replica) = IsPlace ring device place × (replica < ring.replicas)
