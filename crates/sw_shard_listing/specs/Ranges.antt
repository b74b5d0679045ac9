-- Rows that lie in several ranges of names, and how a query is moved from one range to the next. (This project's own; that a range has its upper bound
-- and not its lower one is that of the shards of OpenStack Swift.)
--
-- A query that asks for a range alone has the range's bounds as its markers, and goes on where the listing before it ended. With a delimiter that takes
-- care: a rolled-up entry that is the marker is left out, and names that are rolled up to one text can lie in several ranges. So a bound is never
-- written as a text that names are rolled up to, and behind a rolled-up entry all its names are passed over.
use Rattle.std.specs.Prelude.{ℕ, ◌-◌, Bool, true, false, not, ◌&&◌, ◌||◌, ◌==◌, if◌then◌else◌, List, [], ◌∷◌, ◌++◌, length, filter, Option, None, Some}
use Rattle.std.specs.List.{flat_map}
use Rattle.std.specs.Str.{bytes_eq}
use Rattle.sw_listing.specs.Asking.{is_above, is_before, rolled_text}
use Rattle.sw_listing.specs.Listing.{listing}
use Rattle.sw_listing.specs.declared.entry.Entry.{Entry}
use Rattle.sw_listing.specs.declared.entry.Entry.TheVariants.{Row, Subdir}
use Rattle.sw_listing.specs.declared.query.Query.{Query}
use Rattle.sw_rows.specs.declared.numbered.Numbered.{Numbered}

-- ---- ranges

-- a name doesn't come after a bound; an empty text is none
abbrev pub is_up_to : List ℕ → List ℕ → Bool
is_up_to bound name = (length bound == 0) || not (is_before bound name)

abbrev pub is_between : List ℕ → List ℕ → List ℕ → Bool
is_between lower upper name = is_above lower name && is_up_to upper name

-- rows, and the range of names that counts of them
pub record Segment : Type 0 where
  pub lower : List ℕ
  pub upper : List ℕ
  pub rows : List Numbered

-- the rows of a segment that count
abbrev pub within : Segment → List Numbered
within s = filter (λ n. is_between s.lower s.upper n.row.name) s.rows

-- those of all segments
abbrev pub all_within : List Segment → List Numbered
all_within segments = flat_map within segments

-- ---- queries that are moved

-- the least text above a bound; an empty text is no bound, and stays so. Names that come after the one come after the other, and names up to the one
-- come before the other, since no name has a byte 0; and no name is rolled up to a text that ends with this byte, so that as a marker it leaves no
-- rolled-up entry out, as the bound itself may.
abbrev pub next_text : List ℕ → List ℕ
next_text [] = []
next_text (b ∷ bs) = (b ∷ bs) ++ 0 ∷ []

-- of two bounds that names have to be above, the one that asks for more; an empty text is none
abbrev pub higher : List ℕ → List ℕ → List ℕ
higher one other = if is_before one other then other else one

-- of two bounds that names have to be below, the one that asks for more
abbrev pub nearer : List ℕ → List ℕ → List ℕ
nearer [] other = other
nearer (b ∷ bs) [] = b ∷ bs
nearer (b ∷ bs) (c ∷ cs) = if is_before (b ∷ bs) (c ∷ cs) then b ∷ bs else c ∷ cs

-- the query, for the names of a range alone: its own markers stay where they ask for more than the bounds. Backwards the listing begins at the upper
-- bound.
abbrev pub moved : Query → List ℕ → List ℕ → Query
moved query lower upper =
    record query {
      marker = if query.reverse then nearer query.marker (next_text upper) else higher query.marker (next_text lower);
      end_marker = if query.reverse then higher query.end_marker (next_text lower) else nearer query.end_marker (next_text upper);
    }

-- behind all names that are rolled up to this text, in the direction of the listing: forwards with a byte 255 behind it, which UTF-8 hasn't got and
-- which is above all its bytes; backwards the text itself, since none of these names is below it
abbrev pub behind : Bool → List ℕ → List ℕ
behind true text = text
behind false text = text ++ 255 ∷ []

abbrev pub last_entry : List Entry → Option Entry
last_entry [] = None
last_entry (e ∷ []) = Some e
last_entry (e ∷ f ∷ es) = last_entry (f ∷ es)

-- the query, after what is rolled up to the last entry that was listed, so that this entry doesn't come again for names of later ranges. Behind a row
-- nothing is to be passed over, since its name is in no later range.
abbrev pub passed : Query → Option Entry → Query
passed query None = query
passed query (Some (Row row)) = query
passed query (Some (Subdir text)) = record query { marker = behind query.reverse text }

-- the query for what comes after these entries, which count of its limit
abbrev pub after_entries : Query → List Entry → Query
after_entries query entries = record (passed query (last_entry entries)) { limit = query.limit - length entries }

abbrev pub is_this : List ℕ → Option (List ℕ) → Bool
is_this text None = false
is_this text (Some other) = bytes_eq text other

-- whether names are rolled up to the marker itself, and so left out: forwards alone, since backwards none of these names is asked for
abbrev pub leaves_out : Query → Bool
leaves_out query = not query.reverse && is_this query.marker (rolled_text query.delimiter (length query.prefix) query.marker)

-- the query as it begins: where names are left out, behind all of these. A marker that is moved to a bound no longer tells that they are.
abbrev pub begun : Query → Query
begun query = record query { marker = if leaves_out query then behind false query.marker else query.marker }

-- ---- what takes memory: texts that aren't empty

-- a query has a marker, an end marker or a prefix
abbrev pub has_text : Query → Bool
has_text query = not (length query.marker == 0) || not (length query.end_marker == 0) || not (length query.prefix == 0)

-- it has, or a range has a bound
abbrev pub moved_takes_memory : Query → List ℕ → List ℕ → Bool
moved_takes_memory query lower upper = has_text query || not (length lower == 0) || not (length upper == 0)

abbrev pub is_rolled_up : Option Entry → Bool
is_rolled_up (Some (Subdir text)) = true
is_rolled_up other = false

-- the last entry is what names are rolled up to
abbrev pub ends_rolled : List Entry → Bool
ends_rolled entries = is_rolled_up (last_entry entries)

-- ---- listings

-- the listings of the segments one after another, each with the query moved on: what was listed is never looked at again
abbrev pub listed_in_turn : Query → List Segment → List Entry
listed_in_turn query [] = []
listed_in_turn query (s ∷ ss) =
    listing (moved query s.lower s.upper) s.rows
    ++ listed_in_turn (after_entries query (listing (moved query s.lower s.upper) s.rows)) ss
