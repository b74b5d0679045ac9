-- A name has one place, since no two devices have one name.
use Rattle.std.proofs.Common.{◌≡◌, Contains, Some, slice_get}
use Rattle.sw_ring.proofs.Repeats.{at_index, at_no_place, at_one_place}
use Rattle.sw_ring.proofs.ring.Ring.device.Goals as goal

pub returns-in_err-place-clause-known : goal.returns-in_err-place-clause-known
returns-in_err-place-clause-known c =
    let unknown : ¬ (Contains c.args.self.now.devices c.args.name.now) = rw (← c.as_slice.ensures) c.in_err-place.ensures.nowhere in
    at_no_place _ _ _ c.from_residual.ensures unknown

pub returns-clause-known : goal.returns-clause-known
returns-clause-known c =
    let at : slice_get c.args.self.now.devices c.in_ok-place.place ≡ Some c.args.name.now =
    rw (← c.as_slice.ensures) (at_index _ _ _ c.in_ok-place.ensures.here.0 c.in_ok-place.ensures.here.1) in
    at_one_place _ _ _ c.args.self.now.distinct_names at
