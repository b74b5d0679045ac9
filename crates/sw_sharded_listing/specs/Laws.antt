-- What a listing of a container that is split is a listing of. (This project's own.)
use Rattle.std.specs.Prelude.{◌≡◌, ℕ, Bool, true, List, [], ◌∷◌, Option, Some, Ok}
use Rattle.sw_container_steps.specs.Presence.{is_present}
use Rattle.sw_container_steps.specs.Reads.{listing_of}
use Rattle.sw_container_steps.specs.Serving.{IsUnsplit, unserved}
use Rattle.sw_hashpath.specs.declared.place.Place.{Place}
use Rattle.sw_keeper.specs.declared.tables.Tables.{Tables}
use Rattle.sw_listing.specs.Listing.{listing}
use Rattle.sw_listing.specs.declared.entry.Entry.{Entry}
use Rattle.sw_listing.specs.declared.query.Query.{Query}
use Rattle.sw_peer.specs.ContSights.{ContMoves, HoldsTables, IsIn}
use Rattle.sw_peer.specs.Sights.{IsSame, Sight, cont_lock}
use Rattle.sw_ring.specs.declared.ring.Ring.{Ring}
use Rattle.sw_shard_listing.specs.Laws.{AreInTurn, AreSegments}
use Rattle.sw_shard_listing.specs.Ranges.{Segment, all_within}
use Rattle.sw_shard_range.specs.Laws.{AreTiled}
use Rattle.sw_shard_range.specs.declared.range.Range.{Range}
use Rattle.sw_sharded_listing.specs.Across.{IsListedAcross}
use Rattle.sw_sharded_listing.specs.Parts.{Part, parts_of}

-- ---- what was read

-- The container was there, with these tables, as it was read at the device. Where the door is alone, and the lock told its contents, they are what the device
-- holds; and no read changes what any device holds
pub record IsReadAt (device : ℕ) (place : Place) (tables : Tables) (old new : Sight) : Type 0 where
  pub at : Sight
  pub present : is_present (Some tables) ≡ true
  pub held : at.alone ≡ true → (at.containers.seen (cont_lock old.nodes device place)).told ≡ true → Some tables ≡ at.containers.holds device place
  pub moves : ContMoves (IsIn device place) old at
  pub holds_all : HoldsTables old at
  pub same : IsSame at new

-- each part was read, in turn
abbrev pub AreRead : List Part → List Tables → Sight → Sight → Type 0
AreRead [] [] old new = new ≡ old
AreRead [] (t ∷ ts) old new = ⊥
AreRead (part ∷ parts) [] old new = ⊥
AreRead (part ∷ parts) (t ∷ ts) old new = (mid : Sight) × IsReadAt part.device part.place t old mid × AreRead parts ts mid new

-- the rows that were shown of a part: those whose names its container hasn't left to shards itself
abbrev pub segment_of : Part → Tables → Segment
segment_of part t = record { lower = part.lower; upper = part.upper; rows = unserved t }

abbrev pub segments_of : List Part → List Tables → List Segment
segments_of [] ts = []
segments_of (part ∷ parts) [] = []
segments_of (part ∷ parts) (t ∷ ts) = segment_of part t ∷ segments_of parts ts

-- ---- laws

module _ (ring : Ring) (device : ℕ) (place : Place) (query : Query) (replica : ℕ) (entries : List Entry) (old new : Sight) where
  -- The tables of the container itself tell its parts, and each part was read; the entries are the listing of all rows that were read and lie in the range of
  -- their part, where the names of each part come before those of the next ones
  pub record IsListingOfAll : Type 0 where
    pub first : Tables
    pub mid : Sight
    pub is_first : IsReadAt device place first old mid
    pub read : List Tables
    pub are_read : AreRead (parts_of ring device place replica query.reverse first.ranges first.cursor) read mid new
    pub lists : AreSegments (segments_of (parts_of ring device place replica query.reverse first.ranges first.cursor) read)
        → AreInTurn query.reverse (segments_of (parts_of ring device place replica query.reverse first.ranges first.cursor) read)
        → entries ≡ listing query (all_within (segments_of (parts_of ring device place replica query.reverse first.ranges first.cursor) read))

  -- Where the container itself had no ranges, it was read once more, and the entries are what one listing of it answers
  pub record IsOneListing : Type 0 where
    pub first : Tables
    pub mid : Sight
    pub is_first : IsReadAt device place first old mid
    pub unsplit : IsUnsplit (Some first) → (t : Tables) × IsReadAt device place t mid new
        × (AreSegments (record { lower = []; upper = []; rows = unserved t } ∷ []) → (front : ℕ) → Ok entries ≡ listing_of query (Some t) front)

-- a listing across shards is the listing of all rows that were read of them, each within its range
abbrev pub AcrossLists : Type 0
AcrossLists = (ring : Ring) (device : ℕ) (place : Place) (query : Query) (replica : ℕ) (entries : List Entry) (old new : Sight)
    → IsListedAcross ring device place query replica old (Ok entries) new → IsListingOfAll ring device place query replica entries old new

-- a listing of a container that isn't split is its listing
abbrev pub UnsplitListsOnce : Type 0
UnsplitListsOnce = (ring : Ring) (device : ℕ) (place : Place) (query : Query) (replica : ℕ) (entries : List Entry) (old new : Sight)
    → IsListedAcross ring device place query replica old (Ok entries) new → IsOneListing ring device place query replica entries old new

-- the parts of ranges that are all names, each once, are in turn, whatever was read of them: so what is asked above is only that no container has two rows of
-- one name, and that names are plain
abbrev pub PartsAreInTurn : Type 0
PartsAreInTurn = (ring : Ring) (device : ℕ) (place : Place) (replica : ℕ) (backwards : Bool) (ranges : Option (List Range)) (cursor : ℕ) (read : List Tables)
    → ((list : List Range) → ranges ≡ Some list → AreTiled list)
    → AreInTurn backwards (segments_of (parts_of ring device place replica backwards ranges cursor) read)
