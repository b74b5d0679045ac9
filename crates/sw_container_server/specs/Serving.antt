-- What becomes of a request for containers over a door: the steps that it asks for come once to the device, and what they were answered is replied.
-- (This project's own.)
--
-- The states of the door are of any type D: they are looked at through its sight alone.
use Rattle.std.specs.Prelude.{◌≡◌, ℕ, Bool, true, false, ◌&&◌, List, ◌⊎◌, Result, Ok, Err}
use Rattle.sw_container_steps.specs.Reads.{info_of, listing_of}
use Rattle.sw_container_steps.specs.declared.cont_answer.ContAnswer.{ContAnswer}
use Rattle.sw_container_steps.specs.declared.cont_change.ContChange.{ContChange}
use Rattle.sw_container_steps.specs.declared.info.Info.{Info}
use Rattle.sw_hashpath.specs.declared.place.Place.{Place}
use Rattle.sw_listing.specs.declared.entry.Entry.{Entry}
use Rattle.sw_listing.specs.declared.query.Query.{Query}
use Rattle.sw_message.specs.declared.request.Request.{Request}
use Rattle.sw_message.specs.declared.response.Response.{Response}
use Rattle.sw_object_server.specs.Replies.{bare}
use Rattle.sw_object_server.specs.Serving.{IsStepped}
use Rattle.sw_peer.specs.ContSights.{IsContMade, IsLooked}
use Rattle.sw_peer.specs.Sights.{Sight}
use Rattle.sw_peer.specs.declared.cont_event.ContEvent.TheVariants.{Informed, Listed}
use Rattle.sw_peer.specs.declared.link.Link.TheVariants.{Local}
use Rattle.sw_ring.specs.declared.ring.Ring.{Ring}
use Rattle.sw_sharded_listing.specs.Across.{IsListedAcross}
use Rattle.sw_sharded_listing.specs.Counts.{Count, IsCountedAcross}
use Rattle.sw_container_server.specs.Asking.{IsAsked}
use Rattle.sw_container_server.specs.Counting.{is_split, with_count}
use Rattle.sw_container_server.specs.Replies.{IsListingReply, change_reply, info_reply, is_starved, shows_time}
use Rattle.sw_container_server.specs.declared.asked.ContAsked.{ContAsked}
use Rattle.sw_container_server.specs.declared.asked.ContAsked.TheVariants as asks

-- ---- the steps, each of which came once, said at the device itself

-- one that may change the container
abbrev pub IsChanged : ℕ → Place → ContChange → Sight → ContAnswer → Sight → Type 0
IsChanged device place change = IsStepped (IsContMade Local device place change)

-- a read of what is told of it
abbrev pub IsInformed : ℕ → Place → Sight → Result Info ContAnswer → Sight → Type 0
IsInformed device place = IsStepped (IsLooked Local device place info_of (λ told. Informed place told))

-- a read of its listing
abbrev pub IsListed : ℕ → Place → Query → Sight → Result (List Entry) ContAnswer → Sight → Type 0
IsListed device place query = IsStepped (IsLooked Local device place (listing_of query) (λ listed. Listed place query listed))

module _ (ring : Ring) (device : ℕ) (place : Place) (replica : ℕ) where
  -- ---- what is told of the container, and of its shards

  -- where this was told of the container, and it is split, the counts of its shards are read, and it is told with them
  abbrev pub AreCounted : Result Info ContAnswer → Sight → Result Info ContAnswer → Sight → Type 0
  AreCounted (Ok info) mid told new =
      ((is_split info ≡ false) × (new ≡ mid) × (told ≡ Ok info))
      ⊎ ((is_split info ≡ true) × (count : Count) × IsCountedAcross ring device place replica mid count new × (told ≡ with_count info count))
  AreCounted (Err answer) mid told new = (new ≡ mid) × (told ≡ Err answer)

  abbrev pub IsTold : Sight → Result Info ContAnswer → Sight → Type 0
  IsTold old told new = (read : Result Info ContAnswer) × (mid : Sight) × IsInformed device place old read mid × AreCounted read mid told new

  -- the listing of a container of which this was told: of one that is split it is that across its shards
  abbrev pub IsShown : Query → Info → Sight → Result (List Entry) ContAnswer → Sight → Type 0
  IsShown query info old listed new =
      ((is_split info ≡ false) × IsListed device place query old listed new)
      ⊎ ((is_split info ≡ true) × IsListedAcross ring device place query replica old listed new)

-- ---- a reply

-- the change came, and its answer is replied
abbrev pub IsChangeServed : Sight → Sight → ℕ → Place → ContChange → Response → Type 0
IsChangeServed old new device place change response =
    (answer : ContAnswer) × IsChanged device place change old answer new × (response ≡ change_reply change answer)

-- what is told of the container was read, and is replied
abbrev pub IsInfoServed : Ring → Sight → Sight → ℕ → Place → ℕ → Response → Type 0
IsInfoServed ring old new device place replica response =
    (told : Result Info ContAnswer) × IsTold ring device place replica old told new × (response ≡ info_reply told)

-- whether a listing of a container of which this was told isn't shown: one across shards that found no memory is no reply
abbrev pub is_unshown : Info → Result (List Entry) ContAnswer → Bool
is_unshown info (Ok entries) = false
is_unshown info (Err answer) = is_split info && is_starved answer

-- What follows on this being told of the container: its listing is read and replied. Where nothing was told, that is replied, and no step comes
abbrev pub IsFollowed : Ring → Sight → Sight → ℕ → Place → Query → ℕ → Result Info ContAnswer → Response → Type 0
IsFollowed ring mid new device place query replica (Ok info) response =
    (listed : Result (List Entry) ContAnswer) × IsShown ring device place replica query info mid listed new × (is_unshown info listed ≡ false)
    × IsListingReply query.json info listed response
IsFollowed ring mid new device place query replica (Err answer) response = (new ≡ mid) × (response ≡ info_reply (Err answer))

-- what is told of the container was read first, and then its listing
abbrev pub IsListingServed : Ring → Sight → Sight → ℕ → Place → Query → ℕ → Response → Type 0
IsListingServed ring old new device place query replica response =
    (told : Result Info ContAnswer) × (mid : Sight) × IsTold ring device place replica old told mid
    × IsFollowed ring mid new device place query replica told response

-- what was asked for was done. A refused request leaves the door as it was
abbrev pub IsServed : {D : Type 0} → (D → Sight) → Ring → D → D → ContAsked → Response → Type 0
IsServed sight ring old new (asks.Refused status) response = (new ≡ old) × (response ≡ bare status)
IsServed sight ring old new (asks.Change device place change) response = IsChangeServed (sight old) (sight new) device place change response
IsServed sight ring old new (asks.Info device place replica) response = IsInfoServed ring (sight old) (sight new) device place replica response
IsServed sight ring old new (asks.List device place query replica) response =
    IsListingServed ring (sight old) (sight new) device place query replica response

-- the request was answered, by what it asks for
abbrev pub IsAnswered : {D : Type 0} → (D → Sight) → D → D → Ring → Request → Response → Type 0
IsAnswered sight old new ring r response = (asked : ContAsked) × IsAsked ring r asked × IsServed sight ring old new asked response

-- ---- want of memory

-- the change came and was refused, since what stands isn't earlier: it changed nothing
abbrev pub IsChangeLeft : Sight → Sight → ℕ → Place → ContChange → Type 0
IsChangeLeft old new device place change = (answer : ContAnswer) × IsChanged device place change old answer new × (shows_time answer ≡ true)

-- the reads came, and the container was told of
abbrev pub IsInfoLeft : Ring → Sight → Sight → ℕ → Place → ℕ → Type 0
IsInfoLeft ring old new device place replica = (info : Info) × IsTold ring device place replica old (Ok info) new

-- whether a listing of a container of which this was told may find no memory behind it: it has entries, or it found none itself across shards
abbrev pub may_starve : Info → Result (List Entry) ContAnswer → Bool
may_starve info (Ok entries) = true
may_starve info (Err answer) = is_split info && is_starved answer

-- all reads came, and the container was told of; its entries were too, or found no memory across shards
abbrev pub IsListingLeft : Ring → Sight → Sight → ℕ → Place → Query → ℕ → Type 0
IsListingLeft ring old new device place query replica =
    (info : Info) × (mid : Sight) × (listed : Result (List Entry) ContAnswer) × IsTold ring device place replica old (Ok info) mid
    × IsShown ring device place replica query info mid listed new × (may_starve info listed ≡ true)

-- the steps that were asked for came, and changed nothing. A refused request has none
abbrev pub IsLeft : Ring → Sight → Sight → ContAsked → Type 0
IsLeft ring old new (asks.Refused status) = ⊥
IsLeft ring old new (asks.Change device place change) = IsChangeLeft old new device place change
IsLeft ring old new (asks.Info device place replica) = IsInfoLeft ring old new device place replica
IsLeft ring old new (asks.List device place query replica) = IsListingLeft ring old new device place query replica

-- No reply was made. No step came, and the door is as it was; or exactly the steps came that the request asks for, and changed nothing: then it
-- was the reply that found no memory
abbrev pub IsGivenUp : {D : Type 0} → (D → Sight) → D → D → Ring → Request → Type 0
IsGivenUp sight old new ring r = (new ≡ old) ⊎ ((asked : ContAsked) × IsAsked ring r asked × IsLeft ring (sight old) (sight new) asked)
