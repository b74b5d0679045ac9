use Rattle.std.proofs.Common.{◌<◌, ◌≤◌, ◌∙◌, ◌∷◌, ◌++◌, [], ℕ, List, length, ap, arith, rules, subst, sym}
use Rattle.std.proofs.lemmas.Grind.{flat_map-append}
use Rattle.std.proofs.lemmas.Iterator.Adapters.{YieldsList-from_vec}
use Rattle.std.proofs.lemmas.Iterator.Consumers.{YieldsList-turn}
use Rattle.std.proofs.lemmas.List.{append-nil}
use Rattle.std.proofs.lemmas.List.Elements.{All-push}
use Rattle.std.specs.List.{flat_map}
use Rattle.sw_core.proofs.Slots.{gives-few}
use Rattle.sw_core.specs.Worlds.{SlotTellsOn, volume_in}
use Rattle.sw_core.proofs.world.slots.volumes_in.Goals as goal

pub push_reserved-requires : goal.push_reserved-requires
push_reserved-requires g c =
    let given = c.loop-place.yielded in
    let turn = YieldsList-turn (YieldsList-from_vec c.args.places.items (search rules) (search rules)) given c.loop-place.place-iterator c.loop-place.yielded_by
    c.next.result c.next.new.self c.in-Some.place c.in-Some.is c.next.ensures.steps in
    let more : length given < length c.args.places.items = turn.0 in
    let few = gives-few given in
    let same = ap length c.loop-place.invariant.volumes in
    omega arith

pub loop-place-preserved-in-Some-volume_at : goal.loop-place-preserved-in-Some-volume_at
loop-place-preserved-in-Some-volume_at g c =
    let v = g.V.Volume in
    let given = c.loop-place.yielded in let place = c.in-Some.place in let volume = c.in-Some-volume_at.volume in
    record {
      volumes =
          c.push_reserved.ensures.items
          ∙ (ap (λ (vs : List _). vs ++ volume ∷ []) c.loop-place.invariant.volumes
          ∙ (ap (λ (vs : List _). flat_map volume_in given ++ vs) (c.in-Some-volume_at.ensures.volume ∙ sym (append-nil (volume_in place)))
          ∙ sym (flat_map-append volume_in given (place ∷ []))));
      told = All-push (SlotTellsOn v.tells v.holds v.faults) given place c.loop-place.invariant.told c.in-Some-volume_at.ensures.told;
      room = subst (λ (n : ℕ). c.args.room.cap ≤ n) (sym c.push_reserved.ensures.capacity) c.loop-place.invariant.room;
    }
