use Rattle.std.proofs.Common.{◌≡◌, ℕ, List, drop, true, IsSome}
use Rattle.std.specs.List.{Contains}
use Rattle.sw_disk.specs.Keeping.{IsInOrder, IsOrdered, Rests, writing}
use Rattle.sw_disk.specs.Moments.{Passes}
use Rattle.sw_disk.proofs.opening.prepare.Given as goal

abbrev pub invariant-loop-name : goal.invariant-loop-name
invariant-loop-name g l =
    (g.D.Disk.tells l.disk ≡ g.D.Disk.tells l.fn.disk)
    × (g.D.Disk.faults l.disk ≡ g.D.Disk.faults l.fn.disk)
    × (g.D.Disk.tells l.fn.disk ≡ true → IsInOrder (g.D.Disk.now l.disk))
    × (g.D.Disk.tells l.fn.disk ≡ true → Passes (Rests IsOrdered) (g.D.Disk.now l.fn.disk) (g.D.Disk.past l.fn.disk) (g.D.Disk.now l.disk)
    (g.D.Disk.past l.disk))
    × (g.D.Disk.tells l.fn.disk ≡ true → (file : List ℕ) → IsSome ((g.D.Disk.now l.disk).files writing file) → Contains (drop l.name-index l.name-items) file)
    × (g.D.Disk.place l.disk ≡ g.D.Disk.place l.fn.disk)
