use Rattle.std.proofs.Common.{◌≡◌, false, take}
use Rattle.std.specs.List.{list_any}
use Rattle.sw_disk.specs.Folders.{makes}
use Rattle.sw_disk.proofs.disk_log.DiskLog.is_there.Given as goal

abbrev pub invariant-loop-change : goal.invariant-loop-change
invariant-loop-change l = list_any (makes l.dir) (take l.change-index l.change-items) ≡ false
