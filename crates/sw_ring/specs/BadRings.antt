-- The numbers of what is wrong with a ring. (This project's own.)
use Rattle.std.specs.Prelude.{ℕ}
use Rattle.sw_ring.specs.declared.bad_ring.BadRing.{BadRing}
use Rattle.sw_ring.specs.declared.bad_ring.BadRing.TheVariants.{NotJson, BadShape, BadPower, SameName, UnknownDevice, RowCount, SameDevice, TooLarge}

abbrev pub bad_ring_number : BadRing → ℕ
bad_ring_number NotJson = 1
bad_ring_number BadShape = 2
bad_ring_number BadPower = 3
bad_ring_number SameName = 4
bad_ring_number UnknownDevice = 5
bad_ring_number RowCount = 6
bad_ring_number SameDevice = 7
bad_ring_number TooLarge = 8
