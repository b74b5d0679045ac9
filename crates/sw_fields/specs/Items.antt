-- The header items that a request gives an object, and the limits of user metadata. (OpenStack Swift's object server and API. The limits
-- are counted over the items that are kept.)
use Rattle.std.specs.Prelude.{ℕ, ◌+◌, ◌-◌, Bool, ◌&&◌, ◌||◌, List, [], length, take, fold, codes, count_by, sum_by, nat_eq, nat_le, not, Option, None, Some}
use Rattle.std.specs.Prelude.{if◌then◌else◌}
use Rattle.std.specs.List.{list_all, list_any, starts_with}
use Rattle.std.specs.Option.{option_and_then}
use Rattle.std.specs.Str.{str_eq_ignore_ascii_case, str_to_ascii_lowercase}
use Rattle.sw_message.specs.Fields.{is_named}
use Rattle.sw_message.specs.declared.fields.Field.{Field}
use Rattle.sw_state.specs.HeadNames.{is_name, with_head}
use Rattle.sw_state.specs.declared.head.Head.{Head}

-- how long the prefix of the names of user metadata is
abbrev pub prefix_size : ℕ
prefix_size = length (codes "x-object-meta-")

-- whether a field is an item of user metadata: its name begins with `x-object-meta-`, compared without case
abbrev pub is_user_field : Field → Bool
is_user_field f = nat_le prefix_size (length f.name) && str_eq_ignore_ascii_case (take prefix_size f.name) (codes "x-object-meta-")

-- whether it is one of the other fields that an object keeps
abbrev pub is_kept_field : Field → Bool
is_kept_field f =
    is_named (codes "cache-control") f
    || (is_named (codes "content-disposition") f
    || (is_named (codes "content-encoding") f
    || (is_named (codes "content-language") f
    || (is_named (codes "expires") f
    || is_named (codes "x-robots-tag") f))))

abbrev pub is_item_field : Field → Bool
is_item_field f = is_user_field f || is_kept_field f

-- whether one of these fields is an item: memory is taken for items alone
abbrev pub has_items : List Field → Bool
has_items fields = list_any is_item_field fields

-- the item that a field is: its name in lower case, and its value
abbrev pub item_of : Field → Head
item_of f = record { name = str_to_ascii_lowercase f.name; value = f.value }

-- items, with that of a field in its place where the field is one
abbrev pub with_field : List Head → Field → List Head
with_field items f = if is_item_field f then with_head items (item_of f) else items

-- the items of a list of fields, in the order of their names. Of those with one name the last is kept
abbrev pub kept_items : List Field → List Head
kept_items fields = fold with_field [] fields

-- whether an item's name has only bytes that a name can have, as every name of a field that was read has
abbrev pub has_good_name : Field → Bool
has_good_name f = not (is_item_field f) || is_name (str_to_ascii_lowercase f.name)

-- ---- the limits of user metadata

abbrev pub is_user_item : Head → Bool
is_user_item h = starts_with nat_eq h.name (codes "x-object-meta-")

-- how long an item's name is behind the prefix
abbrev pub name_size : Head → ℕ
name_size h = length h.name - prefix_size

-- whether an item of user metadata has a name behind the prefix, and neither this nor its value is too long
abbrev pub is_in_limits : Head → Bool
is_in_limits h =
    not (is_user_item h)
    || (nat_le 1 (name_size h) && (nat_le (name_size h) 128 && nat_le (length h.value) 256))

-- how many bytes of user metadata an item is
abbrev pub user_size : Head → ℕ
user_size h = if is_user_item h then name_size h + length h.value else 0

-- whether items are no more than an object may have
abbrev pub are_few : List Head → Bool
are_few items =
    nat_le (count_by is_user_item items) 90 && (list_all is_in_limits items && nat_le (sum_by user_size items) 4096)

abbrev pub few_of : List Head → Option (List Head)
few_of items = if are_few items then Some items else None

abbrev pub named_items : List Field → Option (List Head)
named_items fields = if list_all has_good_name fields then Some (kept_items fields) else None

-- the items that a request gives its object, unless one has no name that a field can have, or they break a limit
abbrev pub items_of : List Field → Option (List Head)
items_of fields = option_and_then few_of (named_items fields)
