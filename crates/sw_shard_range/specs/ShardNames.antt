-- The names of shards. (OpenStack Swift names a shard so: it lies in an account of its own, `.shards_` and the account of the container, and its
-- container is `CONTAINER-MD5-TIME-INDEX`.)
use Rattle.std.specs.Prelude.{ℕ, List, ◌∷◌, ◌++◌, codes, decimal}
use Rattle.hex.specs.Hex.{encode_lower}
use Rattle.md5.specs.Md5.{md5}
use Rattle.sw_timestamp.specs.TimeText.{normal_text}

abbrev pub shard_account : List ℕ → List ℕ
shard_account account = codes ".shards_" ++ account

-- the container's name, the MD5 of it in 32 lower-case hexadecimal digits, the time in its normal form, and the index, with a dash between each two; 45
-- is '-'
unfoldable pub shard_container : List ℕ → ℕ → ℕ → List ℕ
shard_container container time index = container ++ 45 ∷ encode_lower (md5 container) ++ 45 ∷ normal_text time ++ 45 ∷ decimal index
