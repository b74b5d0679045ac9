use Rattle.std.proofs.Common.{◌≡◌, true, drop, length, take}
use Rattle.sw_outside.specs.Counts.{raised}
use Rattle.sw_volume.specs.Tree.{contents}
use Rattle.sw_volume.specs.Volume.{IsSame, raised_by}
use Rattle.sw_pending_dir.specs.Walks.{keys_among}
use Rattle.sw_pending_dir.proofs.FolderReading.{ReadSoFar}
use Rattle.sw_pending_dir.proofs.walking.add_records.Given as goal

-- what was read of the names so far, one file for each that is the name of a record
abbrev pub invariant-loop-name : goal.invariant-loop-name
invariant-loop-name g l = record {
  far : ReadSoFar (g.V.Volume.tells l.fn.volume ≡ true) l.secrets (contents (g.V.Volume.holds l.fn.volume)) l.dir (take l.name-index l.name-items)
      (drop l.name-index l.name-items) l.fn.found.items l.found.items;
  same : g.V.Volume.tells l.fn.volume ≡ true → IsSame (contents (g.V.Volume.holds l.fn.volume)) (contents (g.V.Volume.holds l.volume));
  told : g.V.Volume.tells l.volume ≡ g.V.Volume.tells l.fn.volume;
  faults : g.V.Volume.faults l.volume ≡ g.V.Volume.faults l.fn.volume;
  calls : g.V.Volume.calls l.volume ≡ raised_by (length (keys_among l.dir (take l.name-index l.name-items))) (raised (g.V.Volume.calls l.fn.volume));
  lists : g.V.Volume.lists l.volume ≡ raised (g.V.Volume.lists l.fn.volume);
}
