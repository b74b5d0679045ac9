-- What is promised of the definitions of this server. (This project's own.)
use Rattle.std.specs.Prelude.{◌≡◌, ℕ, Bool, true, List}
use Rattle.sw_message.specs.declared.request.Request.{Request}
use Rattle.sw_message.specs.declared.response.Response.{Response}
use Rattle.sw_object_steps.specs.Journals.{Hash}
use Rattle.sw_peer.specs.Sights.{Sight}
use Rattle.sw_object_steps.specs.declared.got.Got.{Got}
use Rattle.sw_ring.specs.declared.ring.Ring.{Ring}
use Rattle.sw_object_server.specs.Asking.{IsAsked}
use Rattle.sw_object_server.specs.Serving.{IsLeft}
use Rattle.sw_object_server.specs.Showing.{IsDate, IsShown}
use Rattle.sw_object_server.specs.declared.asked.Asked.{Asked}

-- a request asks the nodes of a ring for one thing
abbrev pub AsksForOne : Type 0
AsksForOne = (ring : Ring) (r : Request) (a b : Asked) → IsAsked ring r a → IsAsked ring r b → a ≡ b

-- a time has one date
abbrev pub HasOneDate : Type 0
HasOneDate = (time : ℕ) (text other : List ℕ) → IsDate time text → IsDate time other → text ≡ other

-- what was got has one reply
abbrev pub HasOneReply : Type 0
HasOneReply = (got : Got) (moment : ℕ) (head_only : Bool) (a b : Response) → IsShown got moment head_only a → IsShown got moment head_only b → a ≡ b

-- where a step came and its reply found no memory, the devices hold what they held
abbrev pub LeavesHeld : Type 0
LeavesHeld = (old new : Sight) (moment : ℕ) (asked : Asked) → IsLeft old new moment asked → new.alone ≡ true → (device : ℕ) (hash : Hash)
    → (new.objects.seen (new.nodes.lock device hash)).told ≡ true → new.objects.holds device hash ≡ old.objects.holds device hash
