-- What a request for an object leaves of the nodes.
use Rattle.std.proofs.Common.{ap, inl, inr, ℕ}
use Rattle.sw_message.specs.declared.request.Request.{Request}
use Rattle.sw_message.specs.declared.response.Response.{Response}
use Rattle.sw_object_server.specs.Serving.{IsAnswered, IsGivenUp, IsLeft, IsServed}
use Rattle.sw_object_server.specs.declared.asked.Asked.{Asked}
use Rattle.sw_object_server.specs.declared.asked.Asked.TheVariants as asks
use Rattle.sw_peer.specs.Sights.{Sight}
use Rattle.sw_ring.specs.declared.ring.Ring.{Ring}
use Rattle.sw_nodes.proofs.Asking.{IsForWrite, asks-for-write}
use Rattle.sw_nodes.proofs.Keeping.{Keeps, change-keeps, keeps-same, read-keeps}

module _ {D : Type 0} (sight : D → Sight) where
  pub answered_keeps : (ring : Ring) (old new : D) (request : Request) (moment : ℕ) (response : Response) →
      IsAnswered sight old new ring request moment response → Keeps (sight old) (sight new)
  answered_keeps ring old new request moment response answered = by_asked answered.0 (asks-for-write ring request answered.0 answered.1) answered.2
    where
      by_asked : (asked : Asked) → IsForWrite asked → IsServed sight old new moment asked response → Keeps (sight old) (sight new)
      by_asked (asks.Refused status) writes served = keeps-same (sight old) (sight new) (ap sight served.0)
      by_asked (asks.Change device name change) writes served = change-keeps device name change writes (sight old) served.0 (sight new) served.1.called
      by_asked (asks.Read device name head_only) writes served = read-keeps device name (sight old) served.0 (sight new) served.1.called

  pub left_keeps : (ring : Ring) (old new : D) (request : Request) (moment : ℕ) → IsGivenUp sight old new ring request moment →
      Keeps (sight old) (sight new)
  left_keeps ring old new request moment (inl same) = keeps-same (sight old) (sight new) (ap sight same)
  left_keeps ring old new request moment (inr left) = by_asked left.0 (asks-for-write ring request left.0 left.1) left.2
    where
      by_asked : (asked : Asked) → IsForWrite asked → IsLeft (sight old) (sight new) moment asked → Keeps (sight old) (sight new)
      by_asked (asks.Refused status) writes gone = absurd gone
      by_asked (asks.Change device name change) writes gone = change-keeps device name change writes (sight old) gone.0 (sight new) gone.1.called
      by_asked (asks.Read device name head_only) writes gone = read-keeps device name (sight old) gone.0 (sight new) gone.1.called
