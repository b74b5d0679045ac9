-- Which rings of a right shape are refused, and why. (This project's own.)
use Rattle.std.specs.Prelude.{ℕ, ◌==◌, ◌||◌, ◌^◌, List, [], ◌∷◌, length, Bool, false, not, nat_eq, nat_le, nat_lt, if◌then◌else◌, Option, Some, None, bytes_eq}
use Rattle.std.specs.List.{list_any}
use Rattle.sw_ring.specs.RingData.{RingData, any_row}
use Rattle.sw_ring.specs.declared.bad_ring.BadRing.{BadRing}
use Rattle.sw_ring.specs.declared.bad_ring.BadRing.TheVariants.{BadPower, SameName, UnknownDevice, RowCount, SameDevice, TooLarge}

-- whether an element is equal to a later one
abbrev pub has_repeat : {A : Type 0} → (A → A → Bool) → List A → Bool
has_repeat eq [] = false
has_repeat eq (x ∷ xs) = list_any (λ y. eq y x) xs || has_repeat eq xs

-- whether a row has a device number that is no place in a list of so many
abbrev pub has_unknown : ℕ → List ℕ → Bool
has_unknown devices row = list_any (λ device. nat_le devices device) row

-- the first thing that is wrong with a ring
unfoldable pub first_fault : RingData → Option BadRing
first_fault ring =
    if ring.power == 0 || nat_lt 16 ring.power then Some BadPower
    else if has_repeat bytes_eq ring.devices then Some SameName
    else if any_row (has_unknown (length ring.devices)) ring then Some UnknownDevice
    else if not (length ring.object == 2 ^ ring.power) || not (length ring.container == 2 ^ ring.power) then Some RowCount
    else if any_row (has_repeat nat_eq) ring then Some SameDevice
    else if nat_lt 8 (length ring.devices) || nat_lt 3 ring.replicas then Some TooLarge
    else None
