-- The calls by which a container that is split is listed, one after the other, and what they are answered. (OpenStack Swift's proxy lists the shards of a
-- container one after the other; that nothing partial is ever answered is this project's own.)
use Rattle.std.specs.Prelude.{◌≡◌, ℕ, not, ◌==◌, Bool, true, false, List, [], ◌∷◌, ◌++◌, length, ◌⊎◌, Result, Ok, Err}
use Rattle.sw_container_steps.specs.Reads.{listing_of, sharding_of}
use Rattle.sw_container_steps.specs.declared.cont_answer.ContAnswer.{ContAnswer}
use Rattle.sw_container_steps.specs.declared.cont_answer.ContAnswer.TheVariants.{Failed, NoMemory}
use Rattle.sw_container_steps.specs.declared.sharding.Sharding.{Sharding}
use Rattle.sw_hashpath.specs.declared.place.Place.{Place}
use Rattle.sw_listing.specs.declared.entry.Entry.{Entry}
use Rattle.sw_listing.specs.declared.query.Query.{Query}
use Rattle.sw_peer.specs.ContSights.{IsLooked}
use Rattle.sw_peer.specs.Sights.{Calls, Sight}
use Rattle.sw_peer.specs.declared.cont_event.ContEvent.TheVariants.{Listed, Sharded}
use Rattle.sw_peer.specs.declared.link.Link.TheVariants.{Local}
use Rattle.sw_ring.specs.declared.ring.Ring.{Ring}
use Rattle.sw_shard_listing.specs.Ranges.{after_entries, begun, has_text, moved, moved_takes_memory}
use Rattle.sw_sharded_listing.specs.Parts.{Part, are_places, parts_of, served_in}

abbrev pub Listing : Type 0
Listing = Result (List Entry) ContAnswer

-- memory ran out before a call, for something that takes it
abbrev pub GivesUp : Bool → Sight → Listing → Sight → Type 0
GivesUp takes old got new = (takes ≡ true) × (new ≡ old) × (got ≡ Err NoMemory)

-- ---- one part

-- a container is asked for a listing, at the device itself
abbrev pub IsListed : ℕ → Place → Query → Sight → Listing → Sight → Type 0
IsListed device place query old got new = Calls (IsLooked Local device place (listing_of query) (λ read. Listed place query read)) old Local (Ok got) new

-- a part is asked for what the query asks for in its range
abbrev pub IsPartListed : Query → Part → Sight → Listing → Sight → Type 0
IsPartListed query part old got new =
    GivesUp (moved_takes_memory query part.lower part.upper) old got new
    ⊎ IsListed part.device part.place (moved query part.lower part.upper) old got new

-- ---- parts in turn

-- entries, and what follows them
abbrev pub preceded : List Entry → Listing → Listing
preceded entries (Ok later) = Ok (entries ++ later)
preceded entries (Err answer) = Err answer

-- there are entries, which are kept, and behind which the query is moved on
abbrev pub are_some : List Entry → Bool
are_some entries = not (length entries == 0)

-- a part is asked, its entries are added to those that were found before, and the query is moved on; or it gives none, or memory runs out behind it
abbrev pub IsPartAdded : Part → Query → List Entry → Sight → Result (Unit {0}) ContAnswer → Query → List Entry → Sight → Type 0
IsPartAdded part query found old (Ok done) next all new =
    (entries : List Entry) × IsPartListed query part old (Ok entries) new × (next ≡ after_entries query entries) × (all ≡ found ++ entries)
IsPartAdded part query found old (Err answer) next all new =
    IsPartListed query part old (Err answer) new
    ⊎ ((entries : List Entry) × IsPartListed query part old (Ok entries) new × (are_some entries ≡ true) × (answer ≡ NoMemory))

-- Each part is asked once, in turn, for what the query still asks for in its range, also where nothing is left of its limit. The first that gives no listing
-- ends it, with its answer: nothing partial is answered
abbrev pub AreListed : Query → List Part → Sight → Listing → Sight → Type 0
AreListed query [] old got new = (new ≡ old) × (got ≡ Ok [])
AreListed query (part ∷ parts) old got new =
    ((answer : ContAnswer) × IsPartListed query part old (Err answer) new × (got ≡ Err answer))
    ⊎ ((entries : List Entry) × (mid : Sight) × IsPartListed query part old (Ok entries) mid
    × (GivesUp (are_some entries) mid got new
    ⊎ ((later : Listing) × AreListed (after_entries query entries) parts mid later new × (got ≡ preceded entries later))))

-- all of them, from where the query begins
abbrev pub AreAllListed : Query → List Part → Sight → Listing → Sight → Type 0
AreAllListed query parts old got new = GivesUp (has_text query) old got new ⊎ AreListed (begun query) parts old got new

-- ---- the whole

-- the container tells how far it is split, at the device itself
abbrev pub IsShardingRead : ℕ → Place → Sight → Result Sharding ContAnswer → Sight → Type 0
IsShardingRead device place old got new = Calls (IsLooked Local device place sharding_of (λ read. Sharded place read)) old Local (Ok got) new

module _ (ring : Ring) (device : ℕ) (place : Place) (query : Query) (replica : ℕ) where
  -- its parts are listed, where the nodes know each shard that a range is left to; a list that names another place is a fault, and then no part is asked
  abbrev pub IsListedNext : Result Sharding ContAnswer → Sight → Listing → Sight → Type 0
  IsListedNext (Ok sharding) old got new =
      ((are_places ring.secrets (served_in sharding.ranges sharding.cursor) ≡ true)
      × AreAllListed query (parts_of ring device place replica query.reverse sharding.ranges sharding.cursor) old got new)
      ⊎ ((are_places ring.secrets (served_in sharding.ranges sharding.cursor) ≡ false) × (new ≡ old) × (got ≡ Err Failed))
  IsListedNext (Err answer) old got new = (new ≡ old) × (got ≡ Err answer)

  -- first the container tells how far it is split
  abbrev pub IsListedAcross : Sight → Listing → Sight → Type 0
  IsListedAcross old got new = (read : Result Sharding ContAnswer) × (mid : Sight) × IsShardingRead device place old read mid × IsListedNext read mid got new
