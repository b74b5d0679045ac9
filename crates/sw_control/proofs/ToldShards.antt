-- How the text of shard ranges grows.
use Rattle.std.proofs.Common.{◌≡◌, ℕ, ◌+◌, ◌<◌, List, [], ◌∷◌, ◌++◌, length, get_or, take, refl, ap, append_assoc, append-nil, arith}
use Rattle.std.proofs.lemmas.List.{length-take-le, take_more}
use Rattle.sw_shard_range.specs.declared.range.Range.{Range}
use Rattle.sw_control.specs.ShardsText.{shard_line, shard_lines, shards_text}

shard_lines-append : (before : ℕ) (xs ys : List Range)
    → shard_lines before (xs ++ ys) ≡ shard_lines before xs ++ shard_lines (before + length xs) ys
shard_lines-append before [] ys =
    let none : before ≡ before + 0 = omega arith in
    ap (λ n. shard_lines n ys) none
shard_lines-append before (x ∷ xs) ys =
    let number : before + 1 + length xs ≡ before + length (x ∷ xs) = omega arith in
    rw (shard_lines-append (before + 1) xs ys, number) (simp append_assoc)

-- one range more
pub shards_text-more : (ranges : List Range) (i : ℕ) (range : Range) → i < length ranges → range ≡ get_or ranges i range
    → shards_text (take (i + 1) ranges) ≡ shards_text (take i ranges) ++ shard_line i range
shards_text-more ranges i range within is =
    let more = take_more ranges i range within in
    let count : 0 + length (take i ranges) ≡ i = omega (arith, length-take-le i ranges (omega arith)) in
    let line = append-nil (shard_line i range) in
    rw (more, ← is, shard_lines-append 0 (take i ranges) (range ∷ []), count, line) refl
