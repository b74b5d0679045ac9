-- Which names shard ranges have, and when a list of them has all names, each once. (OpenStack Swift's shard ranges. Which range of a list is the first that
-- doesn't fit is this project's own.)
use Rattle.std.specs.Prelude.{ℕ, ◌+◌, Bool, not, ◌&&◌, if◌then◌else◌, List, [], ◌∷◌, Option, None, Some}
use Rattle.std.specs.List.{prefix_len}
use Rattle.std.specs.Str.{bytes_eq}
use Rattle.sw_shard_range.specs.Names.{is_above, is_after, is_beyond, is_empty}
use Rattle.sw_shard_range.specs.declared.range.Range.{Range}

-- whether a range has a name: it comes after the lower bound, and not after the upper one
abbrev pub has : Range → List ℕ → Bool
has range name = is_after range.lower name && not (is_beyond range.upper name)

-- ---- lists of ranges

-- whether a range that others follow can stand behind this bound: it begins there, and ends above it
abbrev pub fits_inside : List ℕ → Range → Bool
fits_inside bound range = bytes_eq range.lower bound && is_above range.upper range.lower

-- whether the last range can stand behind this bound: it begins there, and has no upper bound
abbrev pub fits_last : List ℕ → Range → Bool
fits_last bound range = bytes_eq range.lower bound && is_empty range.upper

-- the index of the first range that can't stand behind the bound where those before it end, or that of the missing one where there is none. The first
-- of these ranges has this index, and has to begin at this bound
abbrev pub fault_from : List ℕ → ℕ → List Range → Option ℕ
fault_from bound index [] = Some index
fault_from bound index (r ∷ []) = if fits_last bound r then None else Some index
fault_from bound index (r ∷ s ∷ rs) = if fits_inside bound r then fault_from r.upper (index + 1) (s ∷ rs) else Some index

-- the index of the first range at which a list isn't all names, each once
abbrev pub first_fault : List Range → Option ℕ
first_fault ranges = fault_from [] 0 ranges

-- the index of the first range whose upper bound is none or isn't below the name: how many ranges stand before it
abbrev pub index_in : List Range → List ℕ → ℕ
index_in ranges name = prefix_len (λ r. is_beyond r.upper name) ranges
