-- The text of the shard ranges of a container: a text line for each. (This project's own. Their states are numbered as OpenStack Swift numbers them.)
use Rattle.std.specs.Prelude.{ℕ, ◌+◌, List, [], ◌∷◌, ◌++◌, codes, decimal}
use Rattle.sw_metafile.specs.Escapes.{escape}
use Rattle.sw_shard_range.specs.declared.range.Range.{Range}
use Rattle.sw_control.specs.TrailText.{place_path}

-- a bound in escaped form, or an asterisk where there is none: no escaped text is that
abbrev pub bound_text : List ℕ → List ℕ
bound_text [] = codes "*"
bound_text (b ∷ bs) = escape (b ∷ bs)

-- the text line of a range with this index: the number of its state, its bounds, and the path of its shard
abbrev pub shard_line : ℕ → Range → List ℕ
shard_line index range =
    decimal index ++ (codes " " ++ (decimal range.state ++ (codes " " ++ (bound_text range.lower ++ (codes " " ++ (bound_text range.upper
    ++ (codes " " ++ (escape (place_path range.shard) ++ codes "\n"))))))))

-- the text lines of ranges, where so many stand before them
abbrev pub shard_lines : ℕ → List Range → List ℕ
shard_lines before [] = []
shard_lines before (range ∷ ranges) = shard_line before range ++ shard_lines (before + 1) ranges

-- the text of ranges, in the order of the list, with indexes from 0
abbrev pub shards_text : List Range → List ℕ
shards_text ranges = shard_lines 0 ranges
