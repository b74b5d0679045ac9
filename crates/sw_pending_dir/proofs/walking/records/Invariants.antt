use Rattle.std.proofs.Common.{◌≡◌, true, drop, take}
use Rattle.sw_volume.specs.Tree.{contents}
use Rattle.sw_volume.specs.Volume.{IsSame}
use Rattle.sw_pending_dir.proofs.AllFolders.{Walked}
use Rattle.sw_pending_dir.proofs.walking.records.Given as goal

-- what was read of the folders so far
abbrev pub invariant-loop-name : goal.invariant-loop-name
invariant-loop-name g l = record {
  walked : Walked (g.V.Volume.tells l.fn.volume ≡ true) l.secrets (contents (g.V.Volume.holds l.fn.volume)) (take l.name-index l.name-items)
      (drop l.name-index l.name-items) l.found.items (g.V.Volume.calls l.fn.volume) (g.V.Volume.lists l.fn.volume) (g.V.Volume.calls l.volume)
      (g.V.Volume.lists l.volume);
  same : g.V.Volume.tells l.fn.volume ≡ true → IsSame (contents (g.V.Volume.holds l.fn.volume)) (contents (g.V.Volume.holds l.volume));
  told : g.V.Volume.tells l.volume ≡ g.V.Volume.tells l.fn.volume;
  faults : g.V.Volume.faults l.volume ≡ g.V.Volume.faults l.fn.volume;
}
