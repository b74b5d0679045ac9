-- The metadata that a PUT and a POST give an object. (OpenStack Swift's object server.)
use Rattle.std.specs.Prelude.{◌≡◌, ℕ, true, List, Option, IsSome}
use Rattle.std.specs.Option.{option_map, option_zip}
use Rattle.sw_hashpath.specs.declared.name.Name.{Name}
use Rattle.sw_message.specs.declared.fields.Field.{Field}
use Rattle.sw_state.specs.declared.head.Head.{Head}
use Rattle.sw_state.specs.declared.heads.Heads.{Heads}
use Rattle.sw_fields.specs.Expiry.{expiry_of}
use Rattle.sw_fields.specs.Items.{has_items, items_of}

-- what metadata says: the second of expiry, where there is one, and the items
abbrev pub data_of : Heads → Option ℕ × List Head
data_of heads = (heads.delete_at, heads.items)

-- the metadata that the fields give a write of this name at this time; none where the second of expiry or the items are refused
abbrev pub IsHeads : ℕ → Name → List Field → Option Heads → Type 0
IsHeads time name fields heads = option_map data_of heads ≡ option_zip (expiry_of time name fields) (items_of fields)

-- memory is taken for the metadata of a write of this name at this time: its second of expiry isn't refused, and a field is an item
abbrev pub TakesItems : ℕ → Name → List Field → Type 0
TakesItems time name fields = IsSome (expiry_of time name fields) × (has_items fields ≡ true)
