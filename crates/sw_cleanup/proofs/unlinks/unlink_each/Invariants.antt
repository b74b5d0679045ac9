use Rattle.sw_volume.specs.Tree.{contents}
use Rattle.std.proofs.Common.{◌≡◌, ◌≤◌, true, take}
use Rattle.sw_volume.specs.Volume.{raised_by}
use Rattle.sw_cleanup.specs.Cleaning.{Unlinks}
use Rattle.sw_cleanup.proofs.unlinks.unlink_each.Given as goal

-- the files so far were unlinked
abbrev pub invariant-loop-file : goal.invariant-loop-file
invariant-loop-file g l = record {
  unlinks : g.V.Volume.tells l.initial.volume ≡ true → Unlinks (contents (g.V.Volume.holds l.initial.volume)) (contents (g.V.Volume.holds l.volume)) l.dir
      (take l.file-index l.files) (g.V.Volume.faults l.initial.volume) (g.V.Volume.faults l.volume);
  told : g.V.Volume.tells l.volume ≡ g.V.Volume.tells l.initial.volume;
  later : g.V.Volume.faults l.initial.volume ≤ g.V.Volume.faults l.volume;
  calls : g.V.Volume.calls l.volume ≡ raised_by l.file-index (g.V.Volume.calls l.initial.volume);
  lists : g.V.Volume.lists l.volume ≡ g.V.Volume.lists l.initial.volume;
}
