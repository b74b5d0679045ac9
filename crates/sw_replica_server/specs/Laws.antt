-- What is promised of the definitions of this server. (This project's own.)
use Rattle.std.specs.Prelude.{◌≡◌, ◌<◌, List, map, ◌⊎◌, Result}
use Rattle.std.specs.Cmp.Lexicographic.{slice_cmp}
use Rattle.std.specs.List.{All}
use Rattle.std.specs.List.Sorted.{IsStrictlySortedBy}
use Rattle.std.specs.Ordering.{nat_cmp}
use Rattle.std.specs.declared.alloc.Global.{Global}
use Rattle.std.specs.declared.vec.Vec.{Vec}
use Rattle.sw_hashpath.specs.HashParts.{IsDigest}
use Rattle.sw_message.specs.declared.request.Request.{Request}
use Rattle.sw_message.specs.declared.response.Response.{Response}
use Rattle.sw_peer.specs.Sights.{HoldsAll, Sight}
use Rattle.sw_object_steps.specs.declared.dir_fault.DirFault.{DirFault}
use Rattle.sw_ring.specs.declared.ring.Ring.{Ring}
use Rattle.sw_suffix.specs.declared.dir_line.DirLine.{DirLine}
use Rattle.sw_suffix.specs.declared.told.SuffixHash.{SuffixHash}
use Rattle.sw_replica_server.specs.Asking.{IsAsked}
use Rattle.sw_replica_server.specs.ReplicaText.{by_hash, hashes_text}
use Rattle.sw_replica_server.specs.Replies.{files_reply}
use Rattle.sw_replica_server.specs.Serving.{IsLeft, IsServed}
use Rattle.sw_replica_server.specs.declared.asked.ReplicaAsked.{ReplicaAsked}

-- a request for replicas asks the nodes of a ring for one thing
abbrev pub AsksForOne : Type 0
AsksForOne = (ring : Ring) (r : Request) (a b : ReplicaAsked) → IsAsked ring r a → IsAsked ring r b → a ≡ b

-- what was told of files has one reply
abbrev pub HasOneReply : Type 0
HasOneReply = (got : Result (Vec DirLine Global) DirFault) (a b : Response) → a ≡ files_reply got → b ≡ files_reply got → a ≡ b

-- the hashes of a reply ascend
abbrev pub InByteOrder : Type 0
InByteOrder = (lines : List DirLine) → IsStrictlySortedBy (slice_cmp nat_cmp) (map (λ line. line.hash) (by_hash lines))

-- whatever becomes of it, a request for replicas leaves the devices what they held
abbrev pub LeavesHeld : Type 0
LeavesHeld = (old new : Sight) (asked : ReplicaAsked) (response : Response)
    → IsServed (λ s. s) old new asked response ⊎ IsLeft old new asked → HoldsAll old new

-- what is told of a suffix: it is below 4,096, and has an MD5
abbrev pub IsTold : SuffixHash → Type 0
IsTold one = (one.suffix < 4096) × IsDigest one.md5

-- a text leaves no choice of the hashes that it tells
abbrev pub HashesFromText : Type 0
HashesFromText = (hashes others : List SuffixHash) → All IsTold hashes → All IsTold others → hashes_text hashes ≡ hashes_text others
    → hashes ≡ others
