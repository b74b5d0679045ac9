-- The requests that make up a run of bytes. (This project's own.)
use Rattle.std.specs.Prelude.{◌≡◌, ℕ, List, ◌++◌, map, All, Option, ◌⊎◌}
use Rattle.std.specs.List.{flat_map}
use Rattle.std.specs.Io.KnownBytes.{Consumes}
use Rattle.sw_http.specs.Request.{Parts, AreParts, Reads, text_of, request_of, IsSkipped, IsNoRequest}
use Rattle.sw_message.specs.declared.request.Request.{Request}

-- the input begins with the texts of these requests, one after the other, and rest follows
pub record BeginsWith (input : Option (List ℕ)) (requests : List Request) (rest : Option (List ℕ)) : Type 0 where
  pub parts : List Parts
  pub are_parts : All AreParts parts
  pub requests_are : requests ≡ map request_of parts
  pub texts : Consumes input rest (flat_map text_of parts)

-- these bytes are the texts of these requests, and then rest
pub record ReadsAll (bytes : List ℕ) (parts : List Parts) (rest : List ℕ) : Type 0 where
  pub are_parts : All AreParts parts
  pub whole : bytes ≡ flat_map text_of parts ++ rest

-- nothing more can be read: only line ends to be skipped are left, or no front of what is left is a request's text
abbrev pub IsEnd : List ℕ → Type 0
IsEnd rest = IsSkipped rest ⊎ IsNoRequest rest

-- Bytes have one reading: whatever requests they begin with are the first of those that make them up to the end.
abbrev pub OneReading : Type 0
OneReading = (bytes : List ℕ) (some all : List Parts) (rest last : List ℕ) → ReadsAll bytes some rest → ReadsAll bytes all last → IsEnd last
    → (others : List Parts) × (all ≡ some ++ others) × ReadsAll rest others last

-- No request's text begins another's: where bytes begin with a request, then they and whatever follows them begin with the same request and no other.
abbrev pub OneRequest : Type 0
OneRequest = (bytes more : List ℕ) (first second : Parts) (rest last : List ℕ) → Reads bytes first rest → Reads (bytes ++ more) second last
    → (first ≡ second) × (rest ++ more ≡ last)
