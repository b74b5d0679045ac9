-- What a request has to be that is answered by a step, test by test; `Asking.antt` has their order. (OpenStack Swift's object server.)
use Rattle.std.specs.Prelude.{◌≡◌, ℕ, Bool, true, ◌||◌, ◌⊎◌, List, codes, Option, Some, None, IsSome, Contains}
use Rattle.md5.specs.Md5.{md5}
use Rattle.sw_fields.specs.Expiry.{is_second, second_of}
use Rattle.sw_fields.specs.Fields.{IsTimeOf, agrees_with, is_replicated, type_of}
use Rattle.sw_fields.specs.Metadata.{IsHeads}
use Rattle.sw_hashpath.specs.declared.name.Name.{Name}
use Rattle.sw_message.specs.Fields.{field_value_of}
use Rattle.sw_message.specs.declared.fields.Field.{Field}
use Rattle.sw_message.specs.declared.request.Body.TheVariants.{Whole}
use Rattle.sw_message.specs.declared.request.Request.{Request}
use Rattle.sw_ring.specs.declared.ring.Ring.{Ring}
use Rattle.sw_state.specs.declared.heads.Heads.{Heads}
use Rattle.sw_object_server.specs.Places.{is_partition_of, name_fault, name_in}
use Rattle.sw_object_server.specs.Targets.{is_for_objects, parts_of, verb_of}
use Rattle.sw_object_server.specs.declared.verb.Verb.{Verb}
use Rattle.sw_object_server.specs.declared.verb.Verb.TheVariants.{Put, Post, Delete}

-- ---- the target

-- its path has five segments or more, and no field says that it is a container's row
abbrev pub IsForObjects : Request → Type 0
IsForObjects r = is_for_objects r ≡ true

-- its method is PUT, GET, HEAD, POST or DELETE
abbrev pub HasVerb : Request → Type 0
HasVerb r = IsSome (verb_of r.method)

-- nothing is wrong with its names
abbrev pub HasGoodNames : Request → Type 0
HasGoodNames r = name_fault (parts_of r.path) ≡ None

-- the ring has its device
abbrev pub HasDevice : Ring → Request → Type 0
HasDevice ring r = Contains ring.devices (parts_of r.path).device

-- the name of its object under the ring's secrets
abbrev pub name_of : Ring → Request → Name
name_of ring r = name_in ring (parts_of r.path)

-- its partition is that of the name
abbrev pub IsInPartition : Ring → Request → Type 0
IsInPartition ring r = is_partition_of ring (name_of ring r) (parts_of r.path).partition ≡ true

-- ---- the verb

-- its method is this one
abbrev pub IsVerb : Verb → Request → Type 0
IsVerb verb r = verb_of r.method ≡ Some verb

abbrev pub IsPut : Request → Type 0
IsPut r = IsVerb Put r

abbrev pub IsDelete : Request → Type 0
IsDelete r = IsVerb Delete r

-- it is a PUT or a POST
abbrev pub TakesMetadata : Request → Type 0
TakesMetadata r = IsVerb Put r ⊎ IsVerb Post r

-- it is a PUT, a POST or a DELETE
abbrev pub IsChange : Request → Type 0
IsChange r = TakesMetadata r ⊎ IsDelete r

-- ---- fields and body

-- its fields give the write a time
abbrev pub HasTime : Request → Type 0
HasTime r = (time : ℕ) × IsTimeOf r.fields time

-- it says how long its body is
abbrev pub HasLength : Request → Type 0
HasLength r = r.framed ≡ true

-- its body isn't too large
abbrev pub IsSmall : Request → Type 0
IsSmall r = (body : List ℕ) × (r.body ≡ Whole body)

-- it has a content type
abbrev pub HasType : Request → Type 0
HasType r = IsSome (type_of r.fields)

-- its metadata is good: that of a write at its time
abbrev pub HasMetadata : Ring → Request → Type 0
HasMetadata ring r = (time : ℕ) × (heads : Heads) × IsTimeOf r.fields time × IsHeads time (name_of ring r) r.fields (Some heads)

-- its ETag, where one is given, is the digest of its body
abbrev pub HasDigest : Request → Type 0
HasDigest r = (body : List ℕ) → r.body ≡ Whole body → agrees_with (md5 body) r.fields ≡ true

-- what a deletion says of the second at which the object has to expire
abbrev pub expiry_text : List Field → Option (List ℕ)
expiry_text fields = field_value_of (codes "x-if-delete-at") fields

-- that second, where it names one
abbrev pub second_in : Option (List ℕ) → Option ℕ
second_in None = None
second_in (Some text) = second_of text

-- whether it is a second, where it says something
abbrev pub is_second_in : Option (List ℕ) → Bool
is_second_in None = true
is_second_in (Some text) = is_second text

-- a deletion names no second of expiry, or a good one, unless another node sends it
abbrev pub NamesSecond : Request → Type 0
NamesSecond r = (is_replicated r.fields || is_second_in (expiry_text r.fields)) ≡ true
