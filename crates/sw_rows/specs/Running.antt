-- Sums that run while rows come and go. (This project's own.)
use Rattle.std.specs.Prelude.{◌≡◌, ◌<◌, ◌^◌, List, All, sum_by}
use Rattle.sw_rows.specs.Sums.{count_of, hash_of, live_size}
use Rattle.sw_rows.specs.declared.numbered.Numbered.{Numbered}
use Rattle.sw_rows.specs.declared.sums.Sums.{Sums}

-- the count, the whole sum of bytes and the hash of these rows, each of which tells of less than 2^64 bytes
pub record AreSums (sums : Sums) (list : List Numbered) : Type 0 where
  pub count : sums.count ≡ count_of list
  pub bytes : sums.bytes ≡ sum_by (λ n. live_size n.row) list
  pub hash : sums.hash ≡ hash_of list
  pub small : All (λ n. live_size n.row < 2 ^ 64) list
