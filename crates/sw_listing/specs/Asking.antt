-- Which names a query asks for, and what they are rolled up to. (The OpenStack Swift documentation, "Pagination" and
-- "Pseudo-hierarchical folders": `marker`, `end_marker`, `prefix`, `delimiter`, `reverse`.)
use Rattle.std.specs.Prelude.{ℕ, ◌+◌, Bool, ◌&&◌, ◌||◌, ◌==◌, if◌then◌else◌, List, length, take, drop, nat_eq, Option, None, Some, position}
use Rattle.std.specs.Cmp.Lexicographic.{slice_cmp}
use Rattle.std.specs.List.{starts_with}
use Rattle.std.specs.Option.{option_map}
use Rattle.std.specs.Ordering.{is_lt, nat_cmp}
use Rattle.sw_listing.specs.declared.query.Query.{Query}

-- names are ordered by their bytes
abbrev pub is_before : List ℕ → List ℕ → Bool
is_before one other = is_lt (slice_cmp nat_cmp one other)

-- a name comes after a bound; an empty text is none
abbrev pub is_above : List ℕ → List ℕ → Bool
is_above bound name = (length bound == 0) || is_before bound name

-- a name comes before a bound; an empty text is none
abbrev pub is_below : List ℕ → List ℕ → Bool
is_below bound name = (length bound == 0) || is_before name bound

-- a name lies behind the marker and before the end marker, in the direction of the listing
abbrev pub is_within : Query → List ℕ → Bool
is_within query name =
    if query.reverse then is_below query.marker name && is_above query.end_marker name
    else is_above query.marker name && is_below query.end_marker name

-- the names that are asked for lie between the markers and begin with the prefix
abbrev pub is_asked : Query → List ℕ → Bool
is_asked query name = is_within query name && starts_with nat_eq name query.prefix

-- how many bytes of a name are up to and with the first delimiter that stands behind so many bytes
abbrev pub rolled_size : ℕ → ℕ → List ℕ → Option ℕ
rolled_size delimiter behind name = option_map (λ place. behind + place + 1) (position (λ b. b == delimiter) (drop behind name))

-- what a name is rolled up to: its beginning up to and with the delimiter
abbrev pub rolled_text : Option ℕ → ℕ → List ℕ → Option (List ℕ)
rolled_text None behind name = None
rolled_text (Some delimiter) behind name = option_map (λ size. take size name) (rolled_size delimiter behind name)
