-- Where a container's database stands, as in OpenStack Swift: below the containers of a device, by partition, suffix and hash. (Swift's documentation tells of
-- the partition and the suffix in "The Rings"; that the folder of a lock stands before them is this project's own.)
use Rattle.std.specs.Prelude.{ℕ, List, ◌∷◌, ◌++◌, codes, drop}
use Rattle.std.specs.Fmt.{decimal}
use Rattle.hex.specs.Hex.{encode_lower}
use Rattle.sw_hashpath.specs.HashParts.{partition_of}

-- a name on a path
abbrev pub segment : List ℕ → List ℕ
segment name = 47 ∷ name

-- the database of the container of this hash, below the folder of a lock, in a ring of 2 to the power partitions: the suffix is the last three of the hash's 32
-- digits
abbrev pub database_path : List ℕ → ℕ → List ℕ → List ℕ
database_path root power hash =
    root ++ segment (codes "containers") ++ segment (decimal (partition_of hash power)) ++ segment (drop 29 (encode_lower hash)) ++ segment (encode_lower hash)
    ++ segment (encode_lower hash) ++ codes ".db"
