use Rattle.std.proofs.Common.{◌≡◌, false, take}
use Rattle.std.specs.List.{list_any}
use Rattle.sw_disk.specs.Folders.{makes_in}
use Rattle.sw_disk.proofs.disk_log.DiskLog.has_folder_in.Given as goal

abbrev pub invariant-loop-change : goal.invariant-loop-change
invariant-loop-change l = list_any (makes_in l.dir) (take l.change-index l.change-items) ≡ false
