-- What a writer of JSON adds. (This project's own.)
use Rattle.std.specs.Prelude.{◌≡◌, List, ◌++◌}
use Rattle.std.specs.List.{AllZip, flat_map}
use Rattle.json.specs.Token.{Token}
use Rattle.json.specs.Tree.{json_tokens}
use Rattle.json.specs.Written.{Written}
use Rattle.serde_json.specs.Data.{Data}
use Rattle.serde_json.specs.Written.{outline}
use Rattle.sw_listing.specs.declared.entry.Entry.{Entry}
use Rattle.sw_rows.specs.declared.row.Row.{Row}
use Rattle.sw_listing_json.specs.Json.{IsEntryData, IsRowData}

-- these tokens are written behind the others
pub record Adds (tokens : List Token) (old new : Written) : Type 0 where
  pub before : new.before ≡ old.before
  pub added : new.tokens ≡ old.tokens ++ tokens

abbrev pub tokens_of : Data → List Token
tokens_of d = json_tokens (outline d)

-- the tokens of this data are written
abbrev pub AddsData : Data → Written → Written → Type 0
AddsData d old new = Adds (tokens_of d) old new

-- the object of a row is written
pub record AddsRow (row : Row) (old new : Written) : Type 0 where
  pub object : Data
  pub is : IsRowData row object
  pub adds : AddsData object old new

-- the object of an entry is written
pub record AddsEntry (entry : Entry) (old new : Written) : Type 0 where
  pub object : Data
  pub is : IsEntryData entry object
  pub adds : AddsData object old new

-- the objects of all entries are written
pub record AddsEntries (entries : List Entry) (old new : Written) : Type 0 where
  pub objects : List Data
  pub each : AllZip IsEntryData entries objects
  pub adds : Adds (flat_map tokens_of objects) old new
