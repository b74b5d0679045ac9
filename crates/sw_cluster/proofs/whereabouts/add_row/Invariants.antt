use Rattle.std.proofs.Common.{◌≡◌, ◌++◌, take}
use Rattle.std.specs.List.{flat_map}
use Rattle.sw_cluster.specs.Whereabouts.{spaced_name}
use Rattle.sw_cluster.proofs.whereabouts.add_row.Given as goal

-- the names of the devices so far were added
abbrev pub invariant-loop-device : goal.invariant-loop-device
invariant-loop-device l = l.text.items ≡ l.initial.text.items ++ flat_map (spaced_name l.ring) (take l.device-index l.row)
