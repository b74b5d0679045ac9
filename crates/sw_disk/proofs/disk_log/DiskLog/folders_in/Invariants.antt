use Rattle.std.proofs.Common.{◌≡◌, ◌↔◌, ℕ, List, [], true, take, IsSome}
use Rattle.std.specs.List.{list_any}
use Rattle.sw_disk.specs.Folders.{names_in}
use Rattle.sw_volume.specs.Tree.{contents}
use Rattle.sw_disk.proofs.disk_log.DiskLog.folders_in.Given as goal

abbrev pub invariant-loop-change : goal.invariant-loop-change
invariant-loop-change l =
    (name : List ℕ) → IsSome (contents l.names.folders [] name) ↔ (list_any (names_in l.dir name) (take l.change-index l.change-items) ≡ true)
