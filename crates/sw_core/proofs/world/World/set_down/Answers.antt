use Rattle.std.proofs.Common.{◌≡◌, ◌^◌, [], ◌∷◌, ◌++◌, length, Some, refl, sym, ◌∙◌}
use Rattle.std.proofs.lemmas.List.{length-map}
use Rattle.sw_core.proofs.Containing.{set-there}
use Rattle.sw_core.proofs.Keeping.{roomy-in, set-world}
use Rattle.sw_core.specs.Worlds.{AllNodes, restart_line}
use Rattle.sw_core.proofs.world.World.set_down.Goals as goal

pub invariant_of-self : goal.invariant_of-self
invariant_of-self g c =
    let i = c.self.inside in
    let w : AllNodes _ _ = record {
      devices = i.devices;
      lock_bits = i.lock_bits;
      power = i.power;
      secrets = i.secrets;
      slots = i.slots.items;
      lines = i.lines.items;
      max_bytes = i.max_bytes;
      asks = i.asks;
      lifted = i.lifted;
      containers = i.containers;
    } in
    let out : i.lifted ≡ Some c.args.device = rw (sym c.self.view_is) at c.requires.lifted in
    let amount : length c.args.parts ≡ 2 ^ i.lock_bits = rw (sym c.self.view_is) at c.requires.parts in
    let volumes : length c.into_lists-volumes.result.0.items ≡ 2 ^ i.lock_bits =
    rw c.into_lists-volumes.ensures.volumes (length-map c.args.parts (λ part. part.0) ∙ amount) in
    let keepers : length c.into_lists-volumes.result.1.items ≡ 2 ^ i.lock_bits =
    rw c.into_lists-volumes.ensures.keepers (length-map c.args.parts (λ part. part.1) ∙ amount) in
    let down = rw (c.from.ensures, c.stripes-count.ensures.value) at c.open_slots.ensures in
    let locks = rw (c.from.ensures, c.stripes-count.ensures.value) at c.set_down.ensures in (
      set-world w c.self.invariant.0 c.args.device c.open_slots.new.places.items c.into_lists-volumes.result.0.items c.push_reserved.new.self.items
          c.set_down.new.self out volumes down,
      roomy-in i.slots.items c.open_slots.new.places.items i.room i.lines c.push_reserved.new.self i.spare c.make_room.new.spare i.lifted down.count
          c.self.invariant.1,
      set-there i.devices i.lock_bits i.containers i.lifted c.args.device c.set_down.new.self c.into_lists-volumes.result.1.items c.self.invariant.2 out
          keepers locks,
    )

pub returns : goal.returns
returns g c =
    let i = c.self.inside in
    let w : AllNodes _ _ = record {
      devices = i.devices;
      lock_bits = i.lock_bits;
      power = i.power;
      secrets = i.secrets;
      slots = i.slots.items;
      lines = i.lines.items;
      max_bytes = i.max_bytes;
      asks = i.asks;
      lifted = i.lifted;
      containers = i.containers;
    } in
    let lines : c.push_reserved.new.self.items ≡ w.lines ++ restart_line c.args.device ∷ [] =
    c.push_reserved.ensures.items ∙ rw (c.make_room.ensures.same, c.line_of_restart.ensures) refl in
    let down = rw (c.from.ensures, c.stripes-count.ensures.value, c.into_lists-volumes.ensures.volumes) at c.open_slots.ensures in
    let locks = rw (c.from.ensures, c.stripes-count.ensures.value, c.into_lists-volumes.ensures.keepers) at c.set_down.ensures in
    rw (sym c.self.view_is) (record { down = down; containers = locks; rest = rw lines refl })
