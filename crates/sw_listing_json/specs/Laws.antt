-- What is promised of the texts of listings. (This project's own.)
use Rattle.std.specs.Prelude.{◌≡◌, ℕ, List}
use Rattle.sw_listing.specs.declared.entry.Entry.{Entry}
use Rattle.sw_listing_json.specs.Dates.{IsListedTime}
use Rattle.sw_listing_json.specs.Json.{IsJson}

-- a time is listed as one text
abbrev pub HasOneDate : Type 0
HasOneDate = (units : ℕ) (text other : List ℕ) → IsListedTime units text → IsListedTime units other → text ≡ other

-- entries are written as one text
abbrev pub HasOneJson : Type 0
HasOneJson = (entries : List Entry) (bytes other : List ℕ) → IsJson entries bytes → IsJson entries other → bytes ≡ other
