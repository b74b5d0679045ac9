use Rattle.std.proofs.Common.{◌≡◌, true}
use Rattle.sw_volume.specs.Tree.{contents}
use Rattle.sw_volume.specs.Volume.{IsSame}
use Rattle.sw_hashdir.proofs.Lines.{LinesSoFar}
use Rattle.sw_hashdir.proofs.Walking.{OnlyLists}
use Rattle.sw_hashdir.proofs.comparing.lines_of.Given as goal

-- the lines of the hashes so far
abbrev pub invariant-loop-hash : goal.invariant-loop-hash
invariant-loop-hash g l = record {
  lines : LinesSoFar l.power (g.V.Volume.tells l.fn.volume ≡ true) (contents (g.V.Volume.holds l.fn.volume)) l.initial.hash-iterator l.hash-iterator
      l.lines.items;
  same : g.V.Volume.tells l.fn.volume ≡ true → IsSame (contents (g.V.Volume.holds l.fn.volume)) (contents (g.V.Volume.holds l.volume));
  told : g.V.Volume.tells l.volume ≡ g.V.Volume.tells l.fn.volume;
  faults : g.V.Volume.faults l.volume ≡ g.V.Volume.faults l.fn.volume;
  only_lists : OnlyLists (g.V.Volume.calls l.fn.volume) (g.V.Volume.lists l.fn.volume) (g.V.Volume.calls l.volume) (g.V.Volume.lists l.volume);
}
