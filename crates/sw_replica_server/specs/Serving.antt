-- What becomes of a request for replicas over a door: the reads that it asks for come once to the device, and what they told is replied. (This
-- project's own.)
--
-- The states of the door are of any type D: they are looked at through its sight alone.
use Rattle.std.specs.Prelude.{◌≡◌, ⊤, ℕ, ◌^◌, ◌<◌, true, List, [], ◌∷◌, ◌++◌, ◌⊎◌, Result, Ok, Err}
use Rattle.std.specs.declared.alloc.Global.{Global}
use Rattle.std.specs.declared.vec.Vec.{Vec}
use Rattle.sw_message.specs.declared.request.Request.{Request}
use Rattle.sw_message.specs.declared.response.Response.{Response}
use Rattle.sw_object_server.specs.Replies.{bare}
use Rattle.sw_object_server.specs.Serving.{IsStepped}
use Rattle.sw_peer.specs.Sights.{IsFilesRead, IsHashesRead, Nodes, Sight}
use Rattle.sw_object_steps.specs.declared.dir_fault.DirFault.{DirFault}
use Rattle.sw_peer.specs.declared.link.Link.TheVariants.{Local}
use Rattle.sw_ring.specs.declared.ring.Ring.{Ring}
use Rattle.sw_suffix.specs.declared.dir_line.DirLine.{DirLine}
use Rattle.sw_suffix.specs.declared.told.SuffixHash.{SuffixHash}
use Rattle.sw_replica_server.specs.Asking.{IsAsked}
use Rattle.sw_replica_server.specs.Replies.{files_reply, hashes_reply, shows_fault, takes_memory}
use Rattle.sw_replica_server.specs.declared.asked.ReplicaAsked.{ReplicaAsked}
use Rattle.sw_replica_server.specs.declared.asked.ReplicaAsked.TheVariants as asks

-- ---- the files of several suffixes

-- the files of these suffixes were read at the device itself, one suffix after the other, and these are their lines, as they were found
abbrev pub AreFilesRead : ℕ → ℕ → List ℕ → Sight → List DirLine → Sight → Type 0
AreFilesRead device part [] s found t = (t ≡ s) × (found ≡ [])
AreFilesRead device part (suffix ∷ suffixes) s found t =
    (lines : Vec DirLine Global) × (more : List DirLine) × (mid : Sight) × IsStepped (IsFilesRead Local device part suffix) s (Ok lines) mid
    × AreFilesRead device part suffixes mid more t × (found ≡ lines.items ++ more)

-- the first of these suffixes that couldn't be read ended the reads
pub record IsStopped (device part : ℕ) (suffixes : List ℕ) (s : Sight) (fault : DirFault) (t : Sight) : Type 0 where
  pub front : List ℕ
  pub suffix : ℕ
  pub behind : List ℕ
  pub all : suffixes ≡ front ++ suffix ∷ behind
  pub found : List DirLine
  pub mid : Sight
  pub before : AreFilesRead device part front s found mid
  pub stops : IsStepped (IsFilesRead Local device part suffix) mid (Err fault) t

-- what the reads of the files of these suffixes gave
abbrev pub AreRead : ℕ → ℕ → List ℕ → Sight → Result (Vec DirLine Global) DirFault → Sight → Type 0
AreRead device part suffixes s (Ok lines) t = AreFilesRead device part suffixes s lines.items t
AreRead device part suffixes s (Err fault) t = IsStopped device part suffixes s fault t

-- the files of all or of some first ones of these suffixes were read
pub record AreSomeRead (device part : ℕ) (suffixes : List ℕ) (s t : Sight) : Type 0 where
  pub front : List ℕ
  pub behind : List ℕ
  pub all : suffixes ≡ front ++ behind
  pub found : List DirLine
  pub read : AreFilesRead device part front s found t

-- ---- a reply

-- the hashes were read, and what was told is replied
abbrev pub IsHashesServed : Sight → Sight → ℕ → ℕ → Response → Type 0
IsHashesServed old new device part response =
    (got : Result (Vec SuffixHash Global) DirFault) × IsStepped (IsHashesRead Local device part) old got new × (response ≡ hashes_reply got)

-- the files were read, and what was told is replied
abbrev pub IsFilesServed : Sight → Sight → ℕ → ℕ → List ℕ → Response → Type 0
IsFilesServed old new device part suffixes response =
    (got : Result (Vec DirLine Global) DirFault) × AreRead device part suffixes old got new × (response ≡ files_reply got)

-- what was asked for was done. A refused request leaves the door as it was
abbrev pub IsServed : {D : Type 0} → (D → Sight) → D → D → ReplicaAsked → Response → Type 0
IsServed sight old new (asks.Refused status) response = (new ≡ old) × (response ≡ bare status)
IsServed sight old new (asks.Hashes device part) response = IsHashesServed (sight old) (sight new) device part response
IsServed sight old new (asks.Files device part suffixes) response = IsFilesServed (sight old) (sight new) device part suffixes response

-- the request was answered, by what it asks for
abbrev pub IsAnswered : {D : Type 0} → (D → Sight) → D → D → Ring → Request → Response → Type 0
IsAnswered sight old new ring r response = (asked : ReplicaAsked) × IsAsked ring r asked × IsServed sight old new asked response

-- ---- want of memory

-- the hashes were read
abbrev pub IsHashesLeft : Sight → Sight → ℕ → ℕ → Type 0
IsHashesLeft old new device part =
    (got : Result (Vec SuffixHash Global) DirFault) × IsStepped (IsHashesRead Local device part) old got new × (takes_memory got ≡ true)

-- the files of all or of some first ones of the suffixes were read; or the first of them that couldn't be read ended the reads
abbrev pub IsFilesLeft : Sight → Sight → ℕ → ℕ → List ℕ → Type 0
IsFilesLeft old new device part suffixes =
    AreSomeRead device part suffixes old new
    ⊎ ((fault : DirFault) × IsStopped device part suffixes old fault new × (shows_fault fault ≡ true))

-- the reads that were asked for came, or some first ones of them. A refused request has none
abbrev pub IsLeft : Sight → Sight → ReplicaAsked → Type 0
IsLeft old new (asks.Refused status) = ⊥
IsLeft old new (asks.Hashes device part) = IsHashesLeft old new device part
IsLeft old new (asks.Files device part suffixes) = IsFilesLeft old new device part suffixes

-- No reply was made. No read came, and the door is as it was; or reads came that the request asks for: then what they told, or its reply, found
-- no memory
abbrev pub IsGivenUp : {D : Type 0} → (D → Sight) → D → D → Ring → Request → Type 0
IsGivenUp sight old new ring r = (new ≡ old) ⊎ ((asked : ReplicaAsked) × IsAsked ring r asked × IsLeft (sight old) (sight new) asked)

-- the door reaches what is asked for: its device, and its partition
abbrev pub IsReached : Nodes → ReplicaAsked → Type 0
IsReached nodes (asks.Refused status) = ⊤
IsReached nodes (asks.Hashes device part) = (device < nodes.devices) × (part < 2 ^ nodes.power)
IsReached nodes (asks.Files device part suffixes) = (device < nodes.devices) × (part < 2 ^ nodes.power)
