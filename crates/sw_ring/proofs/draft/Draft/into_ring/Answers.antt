-- A draft with which nothing is wrong meets the rule of a ring.
use Rattle.std.proofs.Common.{◌≡◌, None, arith, subst, sym, true}
use Rattle.sw_ring.specs.Faults.{first_fault}
use Rattle.sw_ring.specs.RingData.{RingData}
use Rattle.sw_ring.specs.Shapes.{is_sound}
use Rattle.sw_ring.specs.contracts.draft.Draft.{the_view}
use Rattle.sw_ring.specs.declared.draft.Draft.TheInside.{Inside}
use Rattle.sw_ring.proofs.Accepted.{IsAccepted, accepted}
use Rattle.sw_ring.proofs.draft.Draft.into_ring.Goals as goal

fine : (inside : Inside) (ring : RingData) → the_view inside ≡ ring → is_sound ring ≡ true → first_fault ring ≡ None → IsAccepted (the_view inside)
fine inside ring is sound faultless = subst IsAccepted (sym is) (accepted ring sound faultless)

pub narrow_table-requires-clause-few : goal.narrow_table-requires-clause-few
narrow_table-requires-clause-few c =
    let ring = fine c.self.inside c.args.self c.self.view_is c.requires.sound c.requires.faultless in
    rw c.as_slice-devices.ensures (omega (arith, ring.few_devices))

pub narrow_table-requires-clause-known : goal.narrow_table-requires-clause-known
narrow_table-requires-clause-known c =
    let ring = fine c.self.inside c.args.self c.self.view_is c.requires.sound c.requires.faultless in
    rw (c.as_slice-devices.ensures, c.deref.ensures.value) ring.object_known

pub narrow_table-requires-2-clause-few : goal.narrow_table-requires-2-clause-few
narrow_table-requires-2-clause-few c =
    let ring = fine c.self.inside c.args.self c.self.view_is c.requires.sound c.requires.faultless in
    rw c.as_slice-devices.ensures (omega (arith, ring.few_devices))

pub narrow_table-requires-2-clause-known : goal.narrow_table-requires-2-clause-known
narrow_table-requires-2-clause-known c =
    let ring = fine c.self.inside c.args.self c.self.view_is c.requires.sound c.requires.faultless in
    rw (c.as_slice-devices.ensures, c.deref-2.ensures.value) ring.container_known

pub overflow_cast-result : goal.overflow_cast-result
overflow_cast-result c =
    let ring = fine c.self.inside c.args.self c.self.view_is c.requires.sound c.requires.faultless in
    omega (arith, ring.greatest_power)

pub overflow_cast-result-3 : goal.overflow_cast-result-3
overflow_cast-result-3 c =
    let ring = fine c.self.inside c.args.self c.self.view_is c.requires.sound c.requires.faultless in
    omega (arith, ring.greatest_replicas)

pub invariant_of-result : goal.invariant_of-result
invariant_of-result c =
    let ring = fine c.self.inside c.args.self c.self.view_is c.requires.sound c.requires.faultless in
    record {
      few_devices = ring.few_devices;
      distinct_names = ring.distinct_names;
      least_power = ring.least_power;
      greatest_power = ring.greatest_power;
      few_lock_bits = ring.few_lock_bits;
      lock_bits_within_power = ring.lock_bits_within_power;
      least_replicas = ring.least_replicas;
      greatest_replicas = ring.greatest_replicas;
      object_count = rw (c.in_ok-object.ensures, c.deref.ensures.value) ring.object_count;
      container_count = rw (c.in_ok-container.ensures, c.deref-2.ensures.value) ring.container_count;
      object_rows = rw (c.in_ok-object.ensures, c.deref.ensures.value) ring.object_rows;
      container_rows = rw (c.in_ok-container.ensures, c.deref-2.ensures.value) ring.container_rows;
    }
