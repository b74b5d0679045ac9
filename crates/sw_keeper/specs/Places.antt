-- The order of places: by the bytes of the account, then of the container, then of the hash. (This project's own.)
use Rattle.std.specs.Prelude.{ℕ, Bool, false, List, Option, slice_get}
use Rattle.std.specs.Option.{option_map_or}
use Rattle.std.specs.Cmp.Lexicographic.{slice_cmp}
use Rattle.std.specs.Map.{lookup}
use Rattle.std.specs.Ordering.{is_eq, nat_cmp, on, then_cmp}
use Rattle.std.specs.declared.cmp.Ordering.{Ordering}
use Rattle.sw_hashpath.specs.declared.place.Place.{Place}

abbrev pub place_cmp : Place → Place → Ordering
place_cmp = then_cmp (then_cmp (on (λ p. p.account) (slice_cmp nat_cmp)) (on (λ p. p.container) (slice_cmp nat_cmp))) (on (λ p. p.hash) (slice_cmp nat_cmp))

module _ {X : Type 0} where
  -- what stands at a place
  abbrev pub at : List (Place × X) → Place → Option X
  at entries place = lookup (λ p. is_eq (place_cmp place p)) entries

  -- the entry at an index is that of the place
  abbrev pub is_place_at : List (Place × X) → ℕ → Place → Bool
  is_place_at entries index place = option_map_or (λ e. is_eq (place_cmp e.0 place)) (slice_get entries index) false
