use Rattle.std.proofs.Common.{take}
use Rattle.sw_diskfile.specs.Picking.{IsGreatestOf, is_later_meta}
use Rattle.sw_diskfile.proofs.picking.greatest_meta.Given as goal

abbrev pub invariant-loop-name : goal.invariant-loop-name
invariant-loop-name l = IsGreatestOf (take l.name-index l.names) (is_later_meta l.base) l.greatest
