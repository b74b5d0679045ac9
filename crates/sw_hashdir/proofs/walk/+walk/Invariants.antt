use Rattle.std.proofs.Common.{◌≡◌, ◌-◌, true, take}
use Rattle.sw_volume.specs.Tree.{contents}
use Rattle.sw_volume.specs.Volume.{IsSame}
use Rattle.sw_hashdir.specs.Walks.{Adds}
use Rattle.sw_hashdir.proofs.Walking.{IsAlong, OnlyLists}
use Rattle.sw_hashdir.proofs.walk.+walk.Given as goal

abbrev pub decreases-walk : goal.decreases-walk
decreases-walk g l = l.levels

-- the folders so far were walked
abbrev pub invariant-loop-folder : goal.invariant-loop-folder
invariant-loop-folder g l = record {
  adds : g.V.Volume.tells l.fn.volume ≡ true → Adds l.initial.found l.found
      (IsAlong (contents (g.V.Volume.holds l.fn.volume)) (l.levels - 1) l.dir (take l.folder-index l.folder-items));
  same : g.V.Volume.tells l.fn.volume ≡ true → IsSame (contents (g.V.Volume.holds l.fn.volume)) (contents (g.V.Volume.holds l.volume));
  told : g.V.Volume.tells l.volume ≡ g.V.Volume.tells l.fn.volume;
  faults : g.V.Volume.faults l.volume ≡ g.V.Volume.faults l.fn.volume;
  only_lists : OnlyLists (g.V.Volume.calls l.fn.volume) (g.V.Volume.lists l.fn.volume) (g.V.Volume.calls l.volume) (g.V.Volume.lists l.volume);
}
