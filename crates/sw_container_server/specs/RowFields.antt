-- What single fields of a request for containers say. (OpenStack Swift's object server tells a container server of an object by `X-Size`,
-- `X-Content-Type` and `X-Etag`. The grammars of the first and the last, and `X-Swc-Shard-Replica`, are this project's own. Of a field that stands
-- several times the last one counts.)
use Rattle.std.specs.Prelude.{◌≡◌, ℕ, ◌<◌, List, codes, decimal, Option, None, Some}
use Rattle.std.specs.Option.{option_and_then}
use Rattle.std.specs.Result.{result_ok}
use Rattle.hex.specs.Hex.{decode_sized}
use Rattle.sw_fields.specs.Fields.{checked_type}
use Rattle.sw_message.specs.Fields.{field_value_of}
use Rattle.sw_message.specs.Framing.{length_of}
use Rattle.sw_message.specs.declared.fields.Field.{Field}
use Rattle.sw_ring.specs.declared.ring.Ring.{Ring}

-- the size that the fields tell, where they tell one: it is written as a Content-Length is, in 1 to 18 digits
abbrev pub size_of : List Field → Option ℕ
size_of fields = option_and_then length_of (field_value_of (codes "x-size") fields)

-- the media type: a text that is UTF-8 and not empty
abbrev pub type_of : List Field → Option (List ℕ)
type_of fields = option_and_then checked_type (field_value_of (codes "x-content-type") fields)

-- the 16 bytes that 32 hexadecimal digits of either case are
abbrev pub etag_in : List ℕ → Option (List ℕ)
etag_in text = result_ok (decode_sized text 16)

-- the ETag
abbrev pub etag_of : List Field → Option (List ℕ)
etag_of fields = option_and_then etag_in (field_value_of (codes "x-etag") fields)

-- the text is this number in decimal, which is below the count
abbrev pub IsNumberBelow : ℕ → ℕ → List ℕ → Type 0
IsNumberBelow count number text = (number < count) × (text ≡ decimal number)

-- the text, where one is given, asks for this replica; none asks for the first
abbrev pub AsksReplicaBy : Ring → Option (List ℕ) → ℕ → Type 0
AsksReplicaBy ring None replica = replica ≡ 0
AsksReplicaBy ring (Some text) replica = IsNumberBelow ring.replicas replica text

-- the fields ask for this replica of shards, which is one of the ring's
abbrev pub AsksReplica : Ring → List Field → ℕ → Type 0
AsksReplica ring fields = AsksReplicaBy ring (field_value_of (codes "x-swc-shard-replica") fields)

-- they ask for one
abbrev pub IsReplica : Ring → List Field → Type 0
IsReplica ring fields = (replica : ℕ) × AsksReplica ring fields replica
