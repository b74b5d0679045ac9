-- How far ranges have come: what changes of them while their bounds and shards stay. (OpenStack Swift's states of shard ranges.)
use Rattle.std.specs.Prelude.{ℕ, zero, suc, List, [], ◌∷◌}
use Rattle.sw_shard_range.specs.declared.range.Range.{Range}

abbrev pub all_in_state : ℕ → List Range → List Range
all_in_state state [] = []
all_in_state state (r ∷ rs) = record r { state = state } ∷ all_in_state state rs

-- the range of this index alone is in this state
abbrev pub with_state : ℕ → ℕ → List Range → List Range
with_state state index [] = []
with_state state zero (r ∷ rs) = record r { state = state } ∷ rs
with_state state (suc index) (r ∷ rs) = r ∷ with_state state index rs
