-- A listing as JSON. (The OpenStack Swift documentation, "Show container details and list objects": the members of an
-- object and of a `subdir`; members stand in byte order of their names, with no space, as serde_json writes them.)
use Rattle.std.specs.Prelude.{◌≡◌, ℕ, List, codes}
use Rattle.std.specs.List.{AllZip}
use Rattle.hex.specs.Hex.{encode_lower}
use Rattle.serde_json.specs.Data.{Data, number, unsigned, string, array, object, member, no_members}
use Rattle.serde_json.specs.View.{items_of}
use Rattle.serde_json.specs.Written.{compact_text}
use Rattle.sw_listing.specs.declared.entry.Entry.{Entry}
use Rattle.sw_listing.specs.declared.entry.Entry.TheVariants as entry
use Rattle.sw_rows.specs.declared.row.Row.{Row}
use Rattle.sw_listing_json.specs.Dates.{IsListedTime}

-- the object of a size, a type, a hash, a date and a name
abbrev pub row_object : ℕ → List ℕ → List ℕ → List ℕ → List ℕ → Data
row_object size content_type hash date name =
    object (member (codes "bytes") (number (unsigned size))
    (member (codes "content_type") (string content_type)
    (member (codes "hash") (string hash)
    (member (codes "last_modified") (string date)
    (member (codes "name") (string name) no_members)))))

-- the object of a row that is listed with this date; its hash is the ETag's lower-case digits
abbrev pub row_data : Row → List ℕ → Data
row_data row date = row_object row.size row.content_type (encode_lower row.etag) date row.name

-- the object of what names are rolled up to
abbrev pub subdir_data : List ℕ → Data
subdir_data text = object (member (codes "subdir") (string text) no_members)

-- the object of a row, with the date of its time
pub record IsRowData (row : Row) (d : Data) : Type 0 where
  pub date : List ℕ
  pub is_date : IsListedTime row.created_at date
  pub is_data : d ≡ row_data row date

abbrev pub IsEntryData : Entry → Data → Type 0
IsEntryData (entry.Row row) d = IsRowData row d
IsEntryData (entry.Subdir text) d = d ≡ subdir_data text

-- the compact text of the list of the entries' objects
pub record IsJson (entries : List Entry) (bytes : List ℕ) : Type 0 where
  pub objects : List Data
  pub each : AllZip IsEntryData entries objects
  pub is_text : bytes ≡ compact_text (array (items_of objects))
