-- What is promised of the definitions of this server. (This project's own.)
use Rattle.std.specs.Prelude.{◌≡◌, ⊤, ℕ, ◌<◌, true, Bool, List, Some, Result, ◌⊎◌}
use Rattle.sw_container_steps.specs.declared.cont_answer.ContAnswer.{ContAnswer}
use Rattle.sw_container_steps.specs.declared.cont_change.ContChange.{ContChange}
use Rattle.sw_container_steps.specs.declared.cont_change.ContChange.TheVariants as changes
use Rattle.sw_container_steps.specs.declared.info.Info.{Info}
use Rattle.sw_hashpath.specs.declared.place.Place.{Place}
use Rattle.sw_listing.specs.declared.entry.Entry.{Entry}
use Rattle.sw_listing.specs.declared.query.Query.{Query}
use Rattle.sw_message.specs.declared.request.Request.{Request}
use Rattle.sw_message.specs.declared.response.Response.{Response}
use Rattle.sw_object_server.specs.Replies.{bare}
use Rattle.sw_peer.specs.Sights.{Sight, cont_lock}
use Rattle.sw_peer.specs.declared.line.Line.{Line}
use Rattle.sw_ring.specs.declared.ring.Ring.{Ring}
use Rattle.sw_container_server.specs.Asking.{IsAsked}
use Rattle.sw_container_server.specs.Places.{IsPlace}
use Rattle.sw_container_server.specs.Replies.{IsListingReply}
use Rattle.sw_container_server.specs.Serving.{IsAnswered, IsGivenUp, IsLeft}
use Rattle.sw_container_server.specs.declared.asked.ContAsked.{ContAsked}
use Rattle.sw_container_server.specs.declared.asked.ContAsked.TheVariants.{Change, List as ListOf, Refused}

-- a request for containers asks for one thing
abbrev pub AsksForOne : Type 0
AsksForOne = (ring : Ring) (r : Request) (a b : ContAsked) → IsAsked ring r a → IsAsked ring r b → a ≡ b

-- a creation, a deletion or one row: what a client may have a container take
abbrev pub IsOfClient : ContChange → Type 0
IsOfClient (changes.Create time) = ⊤
IsOfClient (changes.Remove time) = ⊤
IsOfClient (changes.MergeRow row) = ⊤
IsOfClient change = ⊥

-- no request for containers asks for another step: none merges several rows, is of shard ranges, or keeps how far other replicas have the rows
abbrev pub AsksForFew : Type 0
AsksForFew = (ring : Ring) (r : Request) (device : ℕ) (place : Place) (change : ContChange) → IsAsked ring r (Change device place change) → IsOfClient change

-- what was told of a container and its entries has one reply
abbrev pub HasOneReply : Type 0
HasOneReply = (json : Bool) (info : Info) (listed : Result (List Entry) ContAnswer) (a b : Response)
    → IsListingReply json info listed a → IsListingReply json info listed b → a ≡ b

-- a request, and a door that keeps its trail before and after it, leave no choice of the answer
abbrev pub HasOneAnswer : {D : Type 0} → (D → Sight) → Type 0
HasOneAnswer {D} sight = (old new : D) (ring : Ring) (r : Request) (lines : List Line) (a b : Response) → (sight old).trail ≡ Some lines
    → IsAnswered sight old new ring r a → IsAnswered sight old new ring r b → a ≡ b

-- a request that is refused leaves the door as it was, and where it is answered, then by the bare status
abbrev pub RefusedChangesNothing : {D : Type 0} → (D → Sight) → Type 0
RefusedChangesNothing {D} sight = (old new : D) (ring : Ring) (r : Request) (status : ℕ) → IsAsked ring r (Refused status)
    → ((response : Response) → IsAnswered sight old new ring r response → (new ≡ old) × (response ≡ bare status))
    × (IsGivenUp sight old new ring r → new ≡ old)

-- where steps came and their reply found no memory, the devices hold what they held
abbrev pub LeavesHeld : Type 0
LeavesHeld = (ring : Ring) (old new : Sight) (asked : ContAsked) → IsLeft ring old new asked → new.alone ≡ true → (device : ℕ) (place : Place)
    → (new.containers.seen (cont_lock new.nodes device place)).told ≡ true → new.containers.holds device place ≡ old.containers.holds device place

-- whatever becomes of it, a request for containers leaves the objects what they were
abbrev pub LeavesObjects : {D : Type 0} → (D → Sight) → Type 0
LeavesObjects {D} sight = (old new : D) (ring : Ring) (r : Request) (response : Response)
    → IsAnswered sight old new ring r response ⊎ IsGivenUp sight old new ring r → (sight new).objects ≡ (sight old).objects

-- a read asks a device that keeps the container, and a replica of shards that there is
abbrev pub IsAtReplica : Ring → ℕ → Place → ℕ → Type 0
IsAtReplica ring device place replica = IsPlace ring device place × (replica < ring.replicas)

abbrev pub AsksAtKeepers : Type 0
AsksAtKeepers = (ring : Ring) (r : Request) (device : ℕ) (place : Place) (query : Query) (replica : ℕ)
    → IsAsked ring r (ListOf device place query replica) → IsAtReplica ring device place replica
