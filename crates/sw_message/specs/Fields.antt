-- Fields by their names, which are compared without case. (RFC 9110 section 5.1.)
use Rattle.std.specs.Prelude.{ℕ, Bool, List, Option, count_by, find, reverse}
use Rattle.std.specs.Option.{option_map}
use Rattle.std.specs.List.{list_any}
use Rattle.std.specs.Str.{str_eq_ignore_ascii_case}
use Rattle.sw_message.specs.declared.fields.Field.{Field}

-- whether the field has this name
abbrev pub is_named : List ℕ → Field → Bool
is_named name f = str_eq_ignore_ascii_case f.name name

-- whether a field has this name
abbrev pub has_field : List ℕ → List Field → Bool
has_field name fields = list_any (is_named name) fields

-- how many fields have this name
abbrev pub field_count : List ℕ → List Field → ℕ
field_count name fields = count_by (is_named name) fields

-- the value of the last field of this name
abbrev pub field_value_of : List ℕ → List Field → Option (List ℕ)
field_value_of name fields = option_map (λ f. f.value) (find (is_named name) (reverse fields))
