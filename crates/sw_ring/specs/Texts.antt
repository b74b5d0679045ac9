-- What the bytes of a ring say, or the first thing that is wrong with them. (This project's own, over JSON as
-- `serde_json` reads it.)
use Rattle.std.specs.Prelude.{ℕ, List, if◌then◌else◌, Option, Some, None, Result, Ok, Err}
use Rattle.std.specs.Str.{is_utf8}
use Rattle.serde_json.specs.Data.{Data}
use Rattle.serde_json.specs.Read.{read}
use Rattle.sw_ring.specs.Faults.{first_fault}
use Rattle.sw_ring.specs.RingData.{RingData}
use Rattle.sw_ring.specs.Shapes.{ring_in}
use Rattle.sw_ring.specs.declared.bad_ring.BadRing.{BadRing}
use Rattle.sw_ring.specs.declared.bad_ring.BadRing.TheVariants.{NotJson, BadShape}

-- the JSON value that bytes are, with nesting of at most 127
unfoldable pub json_in : List ℕ → Option Data
json_in bytes = if is_utf8 bytes then read bytes else None

-- the ring, unless something is wrong with it
abbrev pub unless_faulty : Option BadRing → RingData → Result RingData BadRing
unless_faulty None ring = Ok ring
unless_faulty (Some bad) ring = Err bad

abbrev pub judged : Option RingData → Result RingData BadRing
judged None = Err BadShape
judged (Some ring) = unless_faulty (first_fault ring) ring

abbrev pub ring_of : Option Data → Result RingData BadRing
ring_of None = Err NotJson
ring_of (Some d) = judged (ring_in d)

abbrev pub ring_text : List ℕ → Result RingData BadRing
ring_text bytes = ring_of (json_in bytes)
