-- Where a name is in a ring, as text. (This project's own, over OpenStack Swift's hash paths, partitions and suffixes.)
use Rattle.std.specs.Prelude.{ℕ, List, [], ◌∷◌, ◌++◌, drop, codes, decimal, slice_index_or, Option, None, Some}
use Rattle.std.specs.List.{flat_map}
use Rattle.hex.specs.Hex.{encode_lower}
use Rattle.sw_hashpath.specs.HashParts.{partition_of}
use Rattle.sw_hashpath.specs.Paths.{hash_of}
use Rattle.sw_ring.specs.Tables.{table_of}
use Rattle.sw_ring.specs.declared.ring.Ring.{Ring}
use Rattle.sw_ring.specs.declared.ring.Which.{Which}
use Rattle.sw_ring.specs.declared.ring.Which.TheVariants.{Object, Container}

-- the name of a device, with a space before it
abbrev pub spaced_name : Ring → ℕ → List ℕ
spaced_name ring device = 32 ∷ slice_index_or ring.devices device []

-- the names of the devices that keep a partition, in the order of its row
abbrev pub row_text : Ring → Which → ℕ → List ℕ
row_text ring which partition = flat_map (spaced_name ring) (slice_index_or (table_of which ring) partition [])

-- the devices that keep a name: those of the object table for an object, of the container table for a container, and none for an account
abbrev pub devices_text : Ring → ℕ → Option (List ℕ) → Option (List ℕ) → List ℕ
devices_text ring partition container (Some object) = row_text ring Object partition
devices_text ring partition (Some container) None = row_text ring Container partition
devices_text ring partition None None = codes " -"

-- the four lines that say where a name with this hash is, each with the line end before it
unfoldable pub hash_line : List ℕ → List ℕ
hash_line hash = codes "hash " ++ encode_lower hash

unfoldable pub partition_line : ℕ → List ℕ
partition_line partition = codes "\npartition " ++ decimal partition

-- the suffix is the last three digits of the hash
unfoldable pub suffix_line : List ℕ → List ℕ
suffix_line hash = codes "\nsuffix " ++ drop 29 (encode_lower hash)

unfoldable pub devices_line : List ℕ → List ℕ
devices_line devices = codes "\ndevices" ++ devices

abbrev pub where_lines : List ℕ → ℕ → List ℕ → List ℕ
where_lines hash partition devices =
    (((hash_line hash ++ partition_line partition) ++ suffix_line hash) ++ devices_line devices) ++ 10 ∷ []

-- the text that says where a name is
abbrev pub where_text : Ring → List ℕ → Option (List ℕ) → Option (List ℕ) → List ℕ
where_text ring account container object =
    let hash = hash_of ring.secrets account container object in
    let partition = partition_of hash ring.power in
    where_lines hash partition (devices_text ring partition container object)
