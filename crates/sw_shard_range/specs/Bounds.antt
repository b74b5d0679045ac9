-- Where a container is cut into shards. (OpenStack Swift's sharder takes every so many-th name of a container as the upper bound of a shard; that a
-- bound has a name behind it, and how many bounds there are at most, is this project's own.)
use Rattle.std.specs.Prelude.{ℕ, ◌+◌, ◌==◌, if◌then◌else◌, not, List, [], ◌∷◌, map, filter, take}
use Rattle.std.specs.Cmp.Lexicographic.{slice_cmp}
use Rattle.std.specs.Ordering.{match_ordering, nat_cmp}
use Rattle.sw_rows.specs.declared.numbered.Numbered.{Numbered}
use Rattle.sw_rows.specs.declared.row.Row.{Row}

-- names in byte order, and this one in its place among them; where it is among them already, they stay
abbrev pub with_name : List ℕ → List (List ℕ) → List (List ℕ)
with_name name [] = name ∷ []
with_name name (n ∷ ns) = match_ordering (slice_cmp nat_cmp name n) (name ∷ n ∷ ns) (n ∷ ns) (n ∷ with_name name ns)

-- the names of the rows that aren't deleted, in byte order
abbrev pub live_names : List Numbered → List (List ℕ)
live_names [] = []
live_names (n ∷ ns) = if n.row.deleted then live_names ns else with_name n.row.name (live_names ns)

-- each name that is the last of so many and has another name behind it, where this many have come since the last bound
abbrev pub every : ℕ → ℕ → List (List ℕ) → List (List ℕ)
every per_shard come [] = []
every per_shard come (n ∷ []) = []
every per_shard come (n ∷ m ∷ ns) = if come + 1 == per_shard then n ∷ every per_shard 0 (m ∷ ns) else every per_shard (come + 1) (m ∷ ns)

-- the upper bounds of all shards but the last. Where there are more than 4,294,967,294 they are the first of them, so that there are fewer than 2^32 shards
abbrev pub inner_bounds : ℕ → List Numbered → List (List ℕ)
inner_bounds per_shard list = take 4294967294 (every per_shard 0 (live_names list))

-- the names of the rows that are left on a walk and aren't deleted
abbrev pub names_left : List Row → List (List ℕ)
names_left rows = map (λ r. r.name) (filter (λ r. not r.deleted) rows)
