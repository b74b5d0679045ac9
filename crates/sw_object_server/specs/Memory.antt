-- Where memory is taken to read what a request asks for: no other answer can find none. (This project's own.)
use Rattle.std.specs.Prelude.{◌≡◌, ℕ, true, List, Some, IsSome}
use Rattle.sw_hashpath.specs.declared.name.Name.{Name}
use Rattle.sw_message.specs.declared.fields.Field.{Field}
use Rattle.sw_message.specs.declared.request.Request.{Request}
use Rattle.sw_ring.specs.declared.ring.Ring.{Ring}
use Rattle.sw_fields.specs.Expiry.{expiry_of}
use Rattle.sw_fields.specs.Fields.{IsTimeOf}
use Rattle.sw_fields.specs.Metadata.{TakesItems}
use Rattle.sw_object_server.specs.Places.{IsDevice, is_partition_of}
use Rattle.sw_object_server.specs.Requirements.{HasLength, HasType, IsSmall}
use Rattle.sw_object_server.specs.declared.target.Parts.{Parts}
use Rattle.sw_object_server.specs.declared.verb.Verb.{Verb}
use Rattle.sw_object_server.specs.declared.verb.Verb.TheVariants.{Put, Get, Head, Post, Delete}

-- for a PUT's items and its type: its second of expiry isn't refused
abbrev pub TakesHeads : ℕ → Name → List Field → Type 0
TakesHeads time name fields = IsSome (expiry_of time name fields)

-- for a PUT: it says how long its body is, this isn't too large, and it has a type
pub record TakesContent (name : Name) (r : Request) (time : ℕ) : Type 0 where
  pub length : HasLength r
  pub small : IsSmall r
  pub type : HasType r
  pub heads : TakesHeads time name r.fields

-- for what a verb asks for at this name: never for that of a read or of a deletion
abbrev pub TakesMemory : Verb → Name → Request → Type 0
TakesMemory Put name r = (time : ℕ) × IsTimeOf r.fields time × TakesContent name r time
TakesMemory Post name r = (time : ℕ) × IsTimeOf r.fields time × TakesItems time name r.fields
TakesMemory Get name r = ⊥
TakesMemory Head name r = ⊥
TakesMemory Delete name r = ⊥

-- the same where the name is known: only at a device of the ring, and in the name's own partition
pub record TakesAtName (ring : Ring) (parts : Parts) (verb : Verb) (name : Name) (r : Request) : Type 0 where
  pub device : ℕ
  pub is_device : IsDevice ring parts.device (Some device)
  pub in_partition : is_partition_of ring name parts.partition ≡ true
  pub takes : TakesMemory verb name r
