-- Header items as a list. RFC 9112 writes a header as field lines of a name and a value; that each name has bytes from
-- `!` to `~` and stands once, in the order of bytes, is this project's own.
use Rattle.std.specs.Prelude.{ℕ, Bool, true, false, ◌&&◌, nat_le, nat_lt, List, [], ◌∷◌, ◌++◌, length, Option, filter, find, slice_get}
use Rattle.std.specs.Cmp.Lexicographic.{slice_cmp}
use Rattle.std.specs.List.{list_all}
use Rattle.std.specs.Option.{option_map, option_map_or}
use Rattle.std.specs.Ordering.{nat_cmp, is_lt}
use Rattle.std.specs.Str.{bytes_eq}
use Rattle.sw_state.specs.declared.head.Head.{Head}

-- whether one name comes before another in the order of their bytes
abbrev pub is_before : List ℕ → List ℕ → Bool
is_before a b = is_lt (slice_cmp nat_cmp a b)

-- whether a byte is one from `!` to `~`
abbrev pub is_name_byte : ℕ → Bool
is_name_byte b = nat_le 33 b && nat_le b 126

-- whether the bytes are a name: one or more of these
abbrev pub is_name : List ℕ → Bool
is_name name = nat_lt 0 (length name) && list_all is_name_byte name

-- whether each item has a name, and a name that comes before those of all items after it
abbrev pub are_heads : List Head → Bool
are_heads [] = true
are_heads (h ∷ hs) = is_name h.name && (list_all (λ x. is_before h.name x.name) hs && are_heads hs)

-- the list with the item in its place, where it stands alone under its name
abbrev pub with_head : List Head → Head → List Head
with_head hs h = filter (λ x. is_before x.name h.name) hs ++ h ∷ filter (λ x. is_before h.name x.name) hs

-- the value of the item of this name
abbrev pub value_of : List Head → List ℕ → Option (List ℕ)
value_of hs name = option_map (λ h. h.value) (find (λ h. bytes_eq h.name name) hs)

-- whether the item at this place has the name
abbrev pub is_name_at : List Head → ℕ → List ℕ → Bool
is_name_at hs at name = option_map_or (λ h. bytes_eq h.name name) (slice_get hs at) false
