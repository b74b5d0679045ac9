-- The parts of a hash. The partition and the suffix are those of the OpenStack Swift documentation ("The Rings",
-- "Replication"). The stripe is this project's own.
use Rattle.std.specs.Prelude.{◌≡◌, ℕ, ◌-◌, ◌/◌, ◌%◌, ◌^◌, ◌<◌, List, drop, length, take, slice_index}
use Rattle.std.specs.Int.{w16, w32, from_be_bytes}
use Rattle.std.specs.List.{All}

-- a hash, as any MD5 (RFC 1321), is 16 bytes
abbrev pub IsDigest : List ℕ → Type 0
IsDigest digest = (length digest ≡ 16) × All (λ b. b < 256) digest

-- the first four bytes as a number, high byte first, without its last 32 - power bits
abbrev pub partition_of : List ℕ → ℕ → ℕ
partition_of hash power = from_be_bytes w32 (take 4 hash) / 2 ^ (32 - power)

-- the last three hexadecimal digits as a number
abbrev pub suffix_of : List ℕ → ℕ
suffix_of hash = from_be_bytes w16 (drop 14 hash) % 16 ^ 3

-- the first lock_bits bits as a number
abbrev pub stripe_of : List ℕ → ℕ → ℕ
stripe_of hash lock_bits = slice_index hash 0 / 2 ^ (8 - lock_bits)
