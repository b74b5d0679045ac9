use Rattle.std.proofs.Common.{◌≡◌, ◌∙◌, ◌*◌, ◌^◌, ◌≤◌, List, length, None, refl, sym, subst, arith, All}
use Rattle.std.proofs.lemmas.List.{length-map}
use Rattle.sw_container_locks.specs.declared.cont_slot.ContSlot.{ContSlot}
use Rattle.sw_core.proofs.Containing.{begun-containers}
use Rattle.sw_core.proofs.Keeping.{opened-slots, opened-world}
use Rattle.sw_core.proofs.Wholes.{none-some}
use Rattle.sw_core.specs.Worlds.{AreContainers}
use Rattle.sw_core.specs.declared.slot.Slot.TheVariants as slots
use Rattle.sw_stores.proofs.Pairs.{unzipped}
use Rattle.sw_core.proofs.world.World.open.Given.{Over}
use Rattle.sw_core.proofs.world.World.open.Goals as goal

pub returns-in-Err-clause-back : goal.returns-in-Err-clause-back
returns-in-Err-clause-back g c =
    rw (c.of.ensures, c.in-Err.ensures.back, c.into_lists-volumes.ensures.volumes, c.into_lists-volumes.ensures.keepers) (unzipped c.args.parts)

same-volumes : (g : Over) (c : goal.After-new-2 g) → length c.into_lists-volumes.result.0.items ≡ length c.args.parts
same-volumes g c = rw c.into_lists-volumes.ensures.volumes (length-map c.args.parts (λ part. part.0))

same-keepers : (g : Over) (c : goal.After-new-2 g) → length c.into_lists-volumes.result.1.items ≡ length c.args.parts
same-keepers g c = rw c.into_lists-volumes.ensures.keepers (length-map c.args.parts (λ part. part.1))

same-count : (g : Over) (c : goal.After-new-2 g) → length c.in-Ok-lifted_slots.slots.items ≡ length c.into_lists-volumes.result.0.items
same-count g c = c.in-Ok-lifted_slots.ensures.count ∙ (c.len-count.ensures ∙ sym (same-volumes g c))

all-out : (g : Over) (c : goal.After-new-2 g) → All (λ slot. slot ≡ slots.Lifted c.in-Ok.secrets) c.in-Ok-lifted_slots.slots.items
all-out g c = rw c.in-Ok.ensures c.in-Ok-lifted_slots.ensures.lifted

pub invariant_of-result : goal.invariant_of-result
invariant_of-result g c =
    let ring = c.args.ring.now in
    let few : length c.as_slice.result.now ≤ 256 = rw c.as_slice.ensures (omega (arith, ring.few_devices)) in
    let greatest : ring.power ≤ 32 = omega (arith, ring.greatest_power) in
    let all : length c.args.parts ≡ length c.as_slice.result.now * 2 ^ ring.lock_bits = rw c.as_slice.ensures c.requires.parts in
    let wide : length c.open_slots.new.places.items ≤ c.in-Ok-with_capacity.room.cap =
    omega (arith, c.open_slots.ensures.count, same-count g c, same-volumes g c, c.len-count.ensures, c.in-Ok-with_capacity.ensures.capacity) in (
      opened-world c.in-Ok.secrets ring.power c.args.max_bytes c.into_lists-volumes.result.0.items c.in-Ok-lifted_slots.slots.items
          c.open_slots.new.places.items (same-count g c)
          (all-out g c) c.open_slots.ensures (length c.as_slice.result.now) ring.lock_bits
          c.new.result.items 0 c.in-Ok-open.containers few ring.few_lock_bits ring.lock_bits_within_power ring.least_power greatest (same-volumes g c ∙ all),
      record {
        empty = c.in-Ok-with_capacity.ensures.items;
        wide = wide;
        spared = λ out. none-some None refl out;
        line = λ out. none-some None refl out;
      },
      subst (λ (locks : List (ContSlot _)). AreContainers (length c.as_slice.result.now) ring.lock_bits None locks) (sym c.in-Ok-open.ensures.opens)
          (begun-containers (length c.as_slice.result.now) ring.lock_bits c.into_lists-volumes.result.1.items (same-keepers g c ∙ all)),
    )

pub returns-clause-opens : goal.returns-clause-opens
returns-clause-opens g c =
    let ring = c.args.ring.now in
    let slots = opened-slots c.in-Ok.secrets ring.power c.args.max_bytes c.into_lists-volumes.result.0.items c.in-Ok-lifted_slots.slots.items
    c.open_slots.new.places.items
    (same-count g c) (all-out g c) c.open_slots.ensures in
    rw (
      slots,
      c.as_slice.ensures,
      c.in-Ok.ensures,
      c.new.ensures.items,
      c.in-Ok-open.ensures.opens,
      c.into_lists-volumes.ensures.volumes,
      c.into_lists-volumes.ensures.keepers,
    ) refl
