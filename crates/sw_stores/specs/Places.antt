-- The locks of devices, each a pair of a device and a stripe, and their places: the stripes of the first device in order, then those of the
-- next. (This project's own.)
use Rattle.std.specs.Prelude.{◌≡◌, ℕ, ◌+◌, ◌-◌, ◌*◌, ◌/◌, ◌%◌, Bool, true, false, not, ◌&&◌, ◌||◌, nat_eq, nat_lt, nat_le}

-- of all pairs of a device and a stripe this one
abbrev pub is_pair : ℕ → ℕ → ℕ → ℕ → Bool
is_pair device stripe d s = nat_eq d device && nat_eq s stripe

-- of all pairs those of `count` places from `first` on, where a device has so many stripes
abbrev pub is_among : ℕ → ℕ → ℕ → ℕ → ℕ → Bool
is_among stripes first count d s = nat_lt s stripes && (nat_le first (d * stripes + s) && nat_lt (d * stripes + s) (first + count))

-- and those of the places below `count` but those from `first` on, up to `past`
abbrev pub is_around : ℕ → ℕ → ℕ → ℕ → ℕ → ℕ → Bool
is_around stripes first past count d s = is_among stripes 0 first d s || is_among stripes past (count - past) d s

module _ {T : Type 0} where
  -- what is told of the pair of a place
  abbrev pub at_place : (ℕ → ℕ → T) → ℕ → ℕ → T
  at_place told stripes place = told (place / stripes) (place % stripes)

  -- of each pair is told what was
  abbrev pub IsAsItWas : (ℕ → ℕ → T) → (ℕ → ℕ → T) → Type 0
  IsAsItWas old new = (d s : ℕ) → new d s ≡ old d s

  -- of each other pair is told what was
  abbrev pub IsSameBut : (ℕ → ℕ → Bool) → (ℕ → ℕ → T) → (ℕ → ℕ → T) → Type 0
  IsSameBut chosen old new = (d s : ℕ) → chosen d s ≡ false → new d s ≡ old d s

-- the volumes of these pairs, and no others, are out besides those that were
abbrev pub GoOut : (ℕ → ℕ → Bool) → (ℕ → ℕ → Bool) → (ℕ → ℕ → Bool) → Type 0
GoOut chosen old new = (d s : ℕ) → new d s ≡ (chosen d s || old d s)

-- the volumes of these pairs, and no others, are out no longer
abbrev pub ComeHome : (ℕ → ℕ → Bool) → (ℕ → ℕ → Bool) → (ℕ → ℕ → Bool) → Type 0
ComeHome chosen old new = (d s : ℕ) → new d s ≡ (not (chosen d s) && old d s)

-- the volume of each of these pairs is out
abbrev pub AreOut : (ℕ → ℕ → Bool) → (ℕ → ℕ → Bool) → Type 0
AreOut chosen out = (d s : ℕ) → chosen d s ≡ true → out d s ≡ true

-- and of none of them
abbrev pub AreHome : (ℕ → ℕ → Bool) → (ℕ → ℕ → Bool) → Type 0
AreHome chosen out = (d s : ℕ) → chosen d s ≡ true → out d s ≡ false
