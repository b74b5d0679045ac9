-- Hidden accounts, and names and bounds in the order of their bytes. (OpenStack Swift: accounts that begin with `.` are its own hidden ones; the lower bound
-- of a shard range is excluded, the upper one is included, and an empty text is no bound.)
use Rattle.std.specs.Prelude.{ℕ, Bool, false, not, ◌&&◌, ◌||◌, ◌==◌, List, [], ◌∷◌, length}
use Rattle.std.specs.Cmp.Lexicographic.{slice_cmp}
use Rattle.std.specs.Ordering.{is_lt, nat_cmp}
use Rattle.sw_hashpath.specs.declared.place.Place.{Place}

-- whether a name begins with `.`, which is the byte 46
abbrev pub is_hidden_name : List ℕ → Bool
is_hidden_name [] = false
is_hidden_name (b ∷ bs) = b == 46

-- whether the account of a place begins with `.`
abbrev pub is_hidden : Place → Bool
is_hidden place = is_hidden_name place.account

-- ---- texts in byte order

abbrev pub is_empty : List ℕ → Bool
is_empty text = length text == 0

-- whether a text comes after another
abbrev pub is_above : List ℕ → List ℕ → Bool
is_above text other = is_lt (slice_cmp nat_cmp other text)

-- whether a name comes after a lower bound; an empty text is none
abbrev pub is_after : List ℕ → List ℕ → Bool
is_after lower name = is_empty lower || is_above name lower

-- whether a name comes after an upper bound; an empty text is none
abbrev pub is_beyond : List ℕ → List ℕ → Bool
is_beyond upper name = not (is_empty upper) && is_above name upper
