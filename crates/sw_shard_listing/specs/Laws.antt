-- What is promised of listings over ranges. (This project's own.)
use Rattle.std.specs.Prelude.{◌≡◌, ⊤, ℕ, ◌<◌, Bool, true, false, if◌then◌else◌, List, [], ◌∷◌, Contains}
use Rattle.sw_listing.specs.Asking.{is_before}
use Rattle.sw_listing.specs.Listing.{listing}
use Rattle.sw_listing.specs.declared.query.Query.{Query}
use Rattle.sw_rows.specs.declared.numbered.Numbered.{Numbered}
use Rattle.sw_shard_listing.specs.Ranges.{Segment, all_within, begun, listed_in_turn, within}

-- two rows of one name are one
abbrev pub IsOnce : List Numbered → Type 0
IsOnce rows = (m n : Numbered) → Contains rows m → Contains rows n → m.row.name ≡ n.row.name → m.row ≡ n.row

-- each live row of the one is a row of the other
abbrev pub ShowsIn : List Numbered → List Numbered → Type 0
ShowsIn rows others = (n : Numbered) → Contains rows n → n.row.deleted ≡ false → (m : Numbered) × Contains others m × (m.row ≡ n.row)

-- tables with the same live rows have the same listings, in whatever order their rows stand, whatever their numbers are, and whatever deleted rows are among
-- them: so a listing of the shards of a container is a listing of the container, where a client's row is live in the one as in the other
abbrev pub ListingIsOfItsRows : Type 0
ListingIsOfItsRows = (query : Query) (rows others : List Numbered) → IsOnce rows → IsOnce others → ShowsIn rows others → ShowsIn others rows
    → listing query rows ≡ listing query others

-- a name has no byte 0, and being UTF-8 no byte 255; so there is room behind each bound, and behind all names that begin with a text
abbrev pub IsPlain : List ℕ → Type 0
IsPlain [] = ⊤
IsPlain (b ∷ bs) = (0 < b) × (b < 255) × IsPlain bs

-- a name comes before another in the direction of a listing
abbrev pub is_ahead : Bool → List ℕ → List ℕ → Bool
is_ahead backwards one other = if backwards then is_before other one else is_before one other

-- the names of each segment come before those of all later ones: segments stand in the direction of the listing. Rows that lie out of their segment's range
-- don't count, so nothing is asked of them.
abbrev pub AreInTurn : Bool → List Segment → Type 0
AreInTurn backwards [] = ⊤
AreInTurn backwards (s ∷ ss) =
    ((m n : Numbered) → Contains (within s) m → Contains (all_within ss) n → is_ahead backwards m.row.name n.row.name ≡ true) × AreInTurn backwards ss

-- each segment has one row of a name at most, and its names are plain
abbrev pub AreSegments : List Segment → Type 0
AreSegments [] = ⊤
AreSegments (s ∷ ss) = IsOnce s.rows × ((n : Numbered) → Contains s.rows n → IsPlain n.row.name) × AreSegments ss

-- the listings of segments, one after another and each with the query moved on, are the listing of all their rows: no entry comes twice or is lost where names
-- that are rolled up to one text lie in several segments, and the limit counts each once
abbrev pub ListingsAddUp : Type 0
ListingsAddUp = (query : Query) (segments : List Segment) → AreSegments segments → AreInTurn query.reverse segments
    → listed_in_turn (begun query) segments ≡ listing query (all_within segments)
