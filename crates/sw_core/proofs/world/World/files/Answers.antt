use Rattle.std.proofs.Common.{◌≡◌, [], ◌∷◌, ◌++◌, None, sym, ◌∙◌, inl, refl}
use Rattle.sw_peer.specs.declared.line.Event.TheVariants.{Listed}
use Rattle.sw_peer.specs.declared.link.Link.TheVariants.{Local}
use Rattle.sw_core.proofs.Keeping.{listed, looked-world}
use Rattle.sw_core.proofs.Wholes.{roomy}
use Rattle.sw_core.specs.Listing.{is_failed}
use Rattle.sw_core.specs.Worlds.{AllNodes, keeper_seen}
use Rattle.sw_core.proofs.world.World.files.Goals as goal

pub invariant_of-self-2 : goal.invariant_of-self-2
invariant_of-self-2 g c =
    let v = g.V.Volume in
    let k = g.K.Keeper in
    let i = c.self.inside in
    let w : AllNodes _ _ = record {
      devices = i.devices;
      lock_bits = i.lock_bits;
      power = i.power;
      secrets = i.secrets;
      slots = i.slots.items;
      lines = i.lines.items;
      max_bytes = i.max_bytes;
      asks = i.asks;
      lifted = i.lifted;
      containers = i.containers;
    } in
    let whole : i.lifted ≡ None = rw (sym c.self.view_is) at c.requires.whole in
    let looked = rw (c.from.ensures, c.stripes-count.ensures.value) at c.files_in-paths.ensures.looked in (
      looked-world v.tells v.holds v.faults (keeper_seen k.tells k.holds k.faults) w c.self.invariant.0 whole c.args.device c.files_in-paths.new.places.items
          c.push_reserved.new.self.items looked,
      roomy i.slots.items c.files_in-paths.new.places.items i.room i.lines c.push_reserved.new.self i.spare i.lifted whole looked.count c.self.invariant.1,
      c.self.invariant.2,
    )

pub returns-clause-listed : goal.returns-clause-listed
returns-clause-listed g c =
    let v = g.V.Volume in
    let k = g.K.Keeper in
    let i = c.self.inside in
    let w : AllNodes _ _ = record {
      devices = i.devices;
      lock_bits = i.lock_bits;
      power = i.power;
      secrets = i.secrets;
      slots = i.slots.items;
      lines = i.lines.items;
      max_bytes = i.max_bytes;
      asks = i.asks;
      lifted = i.lifted;
      containers = i.containers;
    } in
    let whole : i.lifted ≡ None = rw (sym c.self.view_is) at c.requires.whole in
    let looked = rw (c.from.ensures, c.stripes-count.ensures.value) at c.files_in-paths.ensures.looked in
    let items : c.push_reserved.new.self.items
    ≡ w.lines ++ record { device = c.args.device; link = Local; event = Listed (is_failed c.files_in-paths.result); added = [] } ∷ [] =
    c.push_reserved.ensures.items ∙ rw (c.reserve.ensures.items, c.line_of_listing.ensures) refl in
    inl (rw (sym c.self.view_is) (listed v.tells v.holds v.faults (keeper_seen k.tells k.holds k.faults) w c.self.invariant.0 whole c.args.device
    c.files_in-paths.new.places.items c.push_reserved.new.self.items looked
    (is_failed c.files_in-paths.result) items c.files_in-paths.ensures.risen))
