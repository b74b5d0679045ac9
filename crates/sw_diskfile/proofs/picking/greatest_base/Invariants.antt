use Rattle.std.proofs.Common.{take}
use Rattle.sw_diskfile.specs.Picking.{IsGreatestOf, is_base}
use Rattle.sw_diskfile.proofs.picking.greatest_base.Given as goal

abbrev pub invariant-loop-name : goal.invariant-loop-name
invariant-loop-name l = IsGreatestOf (take l.name-index l.names) is_base l.greatest
