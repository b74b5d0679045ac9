-- The names of shards with two indexes.
use Rattle.std.proofs.Common.{◌≡◌, ℕ, List, [], ◌∷◌, ◌++◌, arith}
use Rattle.std.specs.Fmt.{decimal}
use Rattle.std.proofs.lemmas.Fmt.{decimal_injective}
use Rattle.hex.specs.Hex.{encode_lower}
use Rattle.md5.specs.Md5.{md5}
use Rattle.sw_timestamp.specs.TimeText.{normal_text}
use Rattle.sw_shard_range.specs.Laws.{ShardNamesDiffer}
use Rattle.sw_shard_range.specs.ShardNames.{shard_container}

-- what stands behind the same text is the same
same-back : (xs ys zs : List ℕ) → xs ++ ys ≡ xs ++ zs → ys ≡ zs
same-back [] ys zs same = same
same-back (x ∷ xs) ys zs same = same-back xs ys zs cc

pub names-differ : ShardNamesDiffer
unfolding shard_container
names-differ container time i j small_i small_j same =
    let front : List ℕ = container ++ 45 ∷ encode_lower (md5 container) ++ 45 ∷ normal_text time in
    let indexes : (45 ∷ decimal i) ≡ (45 ∷ decimal j) = same-back front (45 ∷ decimal i) (45 ∷ decimal j) same in
    decimal_injective i j (omega arith) (omega arith) (same-back (45 ∷ []) (decimal i) (decimal j) indexes)
