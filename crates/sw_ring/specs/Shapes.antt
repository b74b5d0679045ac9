-- Which JSON value is a ring. (This project's own, over JSON values as `serde_json` reads them.)
use Rattle.std.specs.Prelude.{ℕ, ◌==◌, ◌&&◌, ◌||◌, List, [], ◌∷◌, length, codes, Bool, false, nat_lt, nat_le, if◌then◌else◌, Option, Some, None, option_map}
use Rattle.std.specs.Prelude.{option_and_then}
use Rattle.std.specs.Char.{is_ascii_digit, is_ascii_lowercase}
use Rattle.std.specs.List.{list_all}
use Rattle.std.specs.Option.{option_map_or}
use Rattle.serde_json.specs.Data.{Data, Items, no_items, item}
use Rattle.serde_json.specs.Events.{members_len}
use Rattle.serde_json.specs.Find.{as_array, as_number, as_object, as_str, as_u64, get}
use Rattle.sw_hashpath.specs.declared.secrets.Secrets.{Secrets}
use Rattle.sw_ring.specs.RingData.{RingData, each_row}

-- the value, where it passes the test
abbrev pub only_if : {A : Type 0} → (A → Bool) → A → Option A
only_if test a = if test a then Some a else None

-- a list whose items f reads
abbrev pub items_in : {A : Type 0} → (Data → Option A) → Items → Option (List A)
items_in f no_items = Some []
items_in f (item d ds) = option_and_then (λ a. option_map (λ rest. a ∷ rest) (items_in f ds)) (f d)

abbrev pub list_in : {A : Type 0} → (Data → Option A) → Data → Option (List A)
list_in f d = option_and_then (items_in f) (as_array d)

-- a whole number below 2 ^ 64, written without a sign, a point or an exponent
abbrev pub number_in : Data → Option ℕ
number_in d = option_and_then as_u64 (as_number d)

abbrev pub is_name_byte : ℕ → Bool
is_name_byte b = is_ascii_lowercase b || is_ascii_digit b

abbrev pub is_device_name : List ℕ → Bool
is_device_name name = nat_lt 0 (length name) && nat_le (length name) 32 && list_all is_name_byte name

abbrev pub name_in : Data → Option (List ℕ)
name_in d = option_and_then (only_if is_device_name) (as_str d)

abbrev pub row_in : Data → Option (List ℕ)
row_in d = list_in number_in d

-- the value at a key, as f reads it
abbrev pub field : {A : Type 0} → (Data → Option A) → List ℕ → Data → Option A
field f key d = option_and_then f (get key d)

abbrev pub secrets_from : Option (List ℕ) → Option (List ℕ) → Option Secrets
secrets_from (Some prefix) (Some suffix) = Some (record { prefix = prefix; suffix = suffix })
secrets_from _ _ = None

abbrev pub ring_from : Option (List (List ℕ)) → Option ℕ → Option ℕ → Option ℕ → Option Secrets → Option (List (List ℕ)) → Option (List (List ℕ)) →
    Option RingData
ring_from (Some devices) (Some power) (Some lock_bits) (Some replicas) (Some secrets) (Some object) (Some container) =
    Some (record { devices = devices; power = power; lock_bits = lock_bits; replicas = replicas; secrets = secrets; object = object; container = container })
ring_from _ _ _ _ _ _ _ = None

-- what the values at the eight keys say
unfoldable pub fields_in : Data → Option RingData
fields_in d = ring_from
    (field (list_in name_in) (codes "devices") d)
    (field number_in (codes "part_power") d)
    (field number_in (codes "lock_bits") d)
    (field number_in (codes "replicas") d)
    (secrets_from (field as_str (codes "hash_prefix") d) (field as_str (codes "hash_suffix") d))
    (field (list_in row_in) (codes "object") d)
    (field (list_in row_in) (codes "container") d)

-- at most 4 lock bits, and no more than bits of the partition, at least one replica, and rows of so many devices. A
-- power of 0 is a fault of its own
abbrev pub is_sound : RingData → Bool
is_sound ring = nat_le ring.lock_bits 4 && (ring.power == 0 || nat_le ring.lock_bits ring.power)
    && nat_lt 0 ring.replicas && each_row (λ row. length row == ring.replicas) ring

-- whether it is an object with so many keys
abbrev pub has_keys : ℕ → Data → Bool
has_keys n d = option_map_or (λ members. members_len members == n) (as_object d) false

-- the ring that a JSON value is: it has the eight keys and no other, and what they say is sound
unfoldable pub ring_in : Data → Option RingData
ring_in d = if has_keys 8 d then option_and_then (only_if is_sound) (fields_in d) else None
