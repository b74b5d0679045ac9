-- What is promised of the definition of kept items. (This project's own.)
use Rattle.std.specs.Prelude.{◌≡◌, ℕ, Bool, ◌&&◌, List, find, reverse}
use Rattle.std.specs.Option.{option_map}
use Rattle.std.specs.Str.{bytes_eq, str_to_ascii_lowercase}
use Rattle.sw_message.specs.declared.fields.Field.{Field}
use Rattle.sw_state.specs.HeadNames.{value_of}
use Rattle.sw_fields.specs.Items.{is_item_field, kept_items}

-- whether a field is an item, and one that is kept under this name
abbrev pub is_item_named : List ℕ → Field → Bool
is_item_named name f = is_item_field f && bytes_eq (str_to_ascii_lowercase f.name) name

-- what is kept under a name is the value of the last field that is its item, and nothing where none is
abbrev pub KeepsTheLast : Type 0
KeepsTheLast = (fields : List Field) (name : List ℕ)
    → value_of (kept_items fields) name ≡ option_map (λ f. f.value) (find (is_item_named name) (reverse fields))
