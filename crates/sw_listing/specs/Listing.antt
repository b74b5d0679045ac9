-- The listing that answers a query over rows. (The OpenStack Swift documentation, "Pagination" and "Pseudo-hierarchical
-- folders"; that a rolled-up entry which is the marker itself is left out is this project's own.)
--
-- Names are rolled up before they are ordered, and equal entries are one. That is the same as to order the names, to roll
-- each up and to take equal neighbours together, since rolling up keeps the order of names: `rolled_in_order` of
-- `proofs/Rolls.antt`, on which the walk of `list` stands.
use Rattle.std.specs.Prelude.{ℕ, Bool, not, ◌&&◌, if◌then◌else◌, List, [], fold, length, reverse, take, Option, None, Some}
use Rattle.std.specs.BTreeMap.{insert_entry}
use Rattle.std.specs.Cmp.Lexicographic.{slice_cmp}
use Rattle.std.specs.List.{filter_map}
use Rattle.std.specs.Map.{values_of}
use Rattle.std.specs.Ordering.{nat_cmp}
use Rattle.std.specs.Str.{bytes_eq}
use Rattle.sw_listing.specs.Asking.{is_asked, rolled_text}
use Rattle.sw_listing.specs.Entries.{entry_text}
use Rattle.sw_listing.specs.declared.entry.Entry.{Entry}
use Rattle.sw_listing.specs.declared.entry.Entry.TheVariants as entry
use Rattle.sw_listing.specs.declared.query.Query.{Query}
use Rattle.sw_rows.specs.declared.numbered.Numbered.{Numbered}
use Rattle.sw_rows.specs.declared.row.Row.{Row}

-- what a row is listed as: itself, or what its name is rolled up to; nothing where that is the marker
abbrev pub entry_of : Query → Row → Option (List ℕ) → Option Entry
entry_of query row None = Some (entry.Row row)
entry_of query row (Some text) = if bytes_eq text query.marker then None else Some (entry.Subdir text)

-- what a row is listed as, where it is live and its name is asked for
abbrev pub shows : Query → Row → Option Entry
shows query row =
    if not row.deleted && is_asked query row.name
    then entry_of query row (rolled_text query.delimiter (length query.prefix) row.name)
    else None

-- the entries of all rows, in no order of names, where one text may come several times
abbrev pub entries_asked : Query → List Numbered → List Entry
entries_asked query rows = filter_map (λ n. shows query n.row) rows

-- an entry put in its place among entries in byte order of their texts, or in the place of the one of its text
abbrev pub with_entry : List (List ℕ × Entry) → Entry → List (List ℕ × Entry)
with_entry found entry = insert_entry (slice_cmp nat_cmp) found (entry_text entry) entry

-- entries by their texts, in byte order; those of one text are one
abbrev pub by_text : List Entry → List (List ℕ × Entry)
by_text entries = fold with_entry [] entries

abbrev pub in_direction : Bool → List Entry → List Entry
in_direction backwards entries = if backwards then reverse entries else entries

-- the first entries that are asked for, as many as the limit allows
abbrev pub listing : Query → List Numbered → List Entry
listing query rows = take query.limit (in_direction query.reverse (values_of (by_text (entries_asked query rows))))
