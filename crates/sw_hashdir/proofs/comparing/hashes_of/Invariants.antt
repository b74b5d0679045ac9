use Rattle.std.proofs.Common.{◌≡◌, true}
use Rattle.sw_volume.specs.Tree.{contents}
use Rattle.sw_volume.specs.Volume.{IsSame}
use Rattle.sw_hashdir.proofs.Hashes.{HashesSoFar}
use Rattle.sw_hashdir.proofs.Walking.{OnlyLists}
use Rattle.sw_hashdir.proofs.comparing.hashes_of.Given as goal

-- what is compared of the suffixes so far
abbrev pub invariant-loop-suffix : goal.invariant-loop-suffix
invariant-loop-suffix g l = record {
  hashes : HashesSoFar l.power l.part (g.V.Volume.tells l.fn.volume ≡ true) (contents (g.V.Volume.holds l.fn.volume))
      l.initial.suffix-iterator l.suffix-iterator l.hashes.items;
  same : g.V.Volume.tells l.fn.volume ≡ true → IsSame (contents (g.V.Volume.holds l.fn.volume)) (contents (g.V.Volume.holds l.volume));
  told : g.V.Volume.tells l.volume ≡ g.V.Volume.tells l.fn.volume;
  faults : g.V.Volume.faults l.volume ≡ g.V.Volume.faults l.fn.volume;
  only_lists : OnlyLists (g.V.Volume.calls l.fn.volume) (g.V.Volume.lists l.fn.volume) (g.V.Volume.calls l.volume) (g.V.Volume.lists l.volume);
}
