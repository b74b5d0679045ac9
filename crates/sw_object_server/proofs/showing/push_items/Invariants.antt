-- What has been added are the items before the index.
use Rattle.std.proofs.Common.{◌≡◌, ◌++◌, map, take}
use Rattle.sw_object_server.specs.Showing.{field_of}
use Rattle.sw_object_server.proofs.showing.push_items.Given as goal

abbrev pub invariant-loop-item : goal.invariant-loop-item
invariant-loop-item l = l.fields.items ≡ l.fn.fields.items ++ map field_of (take l.item-index l.items)
