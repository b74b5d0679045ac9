-- What was read, followed by what is read of the items that are left, is what is read of all.
use Rattle.std.proofs.Common.{◌≡◌, ◌++◌, drop, option_map}
use Rattle.serde_json.specs.View.{items_view}
use Rattle.sw_ring.specs.Shapes.{items_in, number_in}
use Rattle.sw_ring.proofs.fields.numbers_of.Given as goal

abbrev pub invariant-loop-item : goal.invariant-loop-item
invariant-loop-item l = option_map (λ rest. l.numbers.items ++ rest) (items_in number_in (items_view (drop l.item-index l.items))) ≡ items_in number_in
    (items_view l.items)
