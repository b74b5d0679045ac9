-- What a request for replicas leaves of the nodes.
use Rattle.std.proofs.Common.{ap, ℕ, List, [], ◌∷◌, Result, Ok, Err, inl, inr}
use Rattle.sw_message.specs.declared.request.Request.{Request}
use Rattle.sw_message.specs.declared.response.Response.{Response}
use Rattle.std.specs.declared.alloc.Global.{Global}
use Rattle.std.specs.declared.vec.Vec.{Vec}
use Rattle.sw_object_steps.specs.declared.dir_fault.DirFault.{DirFault}
use Rattle.sw_peer.specs.Sights.{Sight}
use Rattle.sw_replica_server.specs.Serving.{AreFilesRead, AreRead, IsAnswered, IsFilesLeft, IsGivenUp, IsLeft, IsServed, IsStopped}
use Rattle.sw_replica_server.specs.declared.asked.ReplicaAsked.{ReplicaAsked}
use Rattle.sw_replica_server.specs.declared.asked.ReplicaAsked.TheVariants as asks
use Rattle.sw_ring.specs.declared.ring.Ring.{Ring}
use Rattle.sw_suffix.specs.declared.dir_line.DirLine.{DirLine}
use Rattle.sw_nodes.proofs.Keeping.{Keeps, files-keeps, hashes-keeps, keeps-join, keeps-same}

-- ---- several reads

several-keeps : (device part : ℕ) (suffixes : List ℕ) (s : Sight) (found : List DirLine) (t : Sight) → AreFilesRead device part suffixes s found t →
    Keeps s t
several-keeps device part [] s found t read = keeps-same s t read.0
several-keeps device part (suffix ∷ suffixes) s found t read =
    keeps-join s read.2 t (files-keeps device part suffix s (Ok read.0) read.2 read.3.called)
    (several-keeps device part suffixes read.2 read.1 t read.4)

stopped-keeps : (device part : ℕ) (suffixes : List ℕ) (s : Sight) (fault : DirFault) (t : Sight) → IsStopped device part suffixes s fault t → Keeps s t
stopped-keeps device part suffixes s fault t x =
    keeps-join s x.mid t (several-keeps device part x.front s x.found x.mid x.before)
    (files-keeps device part x.suffix x.mid (Err fault) t x.stops.called)

read-keeps : (device part : ℕ) (suffixes : List ℕ) (s : Sight) (got : Result (Vec DirLine Global) DirFault) (t : Sight) → AreRead device part suffixes s got t
    → Keeps s t
read-keeps device part suffixes s (Ok lines) t read = several-keeps device part suffixes s lines.items t read
read-keeps device part suffixes s (Err fault) t read = stopped-keeps device part suffixes s fault t read

left_files-keeps : (device part : ℕ) (suffixes : List ℕ) (s t : Sight) → IsFilesLeft s t device part suffixes → Keeps s t
left_files-keeps device part suffixes s t (inl some) = several-keeps device part some.front s some.found t some.read
left_files-keeps device part suffixes s t (inr stopped) = stopped-keeps device part suffixes s stopped.0 t stopped.1

-- ---- a request

module _ {D : Type 0} (sight : D → Sight) (ring : Ring) (request : Request) (old new : D) where
  served-keeps : (asked : ReplicaAsked) (response : Response) → IsServed sight old new asked response → Keeps (sight old) (sight new)
  served-keeps (asks.Refused status) response served = keeps-same (sight old) (sight new) (ap sight served.0)
  served-keeps (asks.Hashes device part) response served = hashes-keeps device part (sight old) served.0 (sight new) served.1.called
  served-keeps (asks.Files device part suffixes) response served = read-keeps device part suffixes (sight old) served.0 (sight new) served.1

  left-keeps : (asked : ReplicaAsked) → IsLeft (sight old) (sight new) asked → Keeps (sight old) (sight new)
  left-keeps (asks.Refused status) left = absurd left
  left-keeps (asks.Hashes device part) left = hashes-keeps device part (sight old) left.0 (sight new) left.1.called
  left-keeps (asks.Files device part suffixes) left = left_files-keeps device part suffixes (sight old) (sight new) left

  pub answered-keeps : (response : Response) → IsAnswered sight old new ring request response → Keeps (sight old) (sight new)
  answered-keeps response x = served-keeps x.0 response x.2

  pub given_up-keeps : IsGivenUp sight old new ring request → Keeps (sight old) (sight new)
  given_up-keeps (inl same) = keeps-same (sight old) (sight new) (ap sight same)
  given_up-keeps (inr x) = left-keeps x.0 x.2
