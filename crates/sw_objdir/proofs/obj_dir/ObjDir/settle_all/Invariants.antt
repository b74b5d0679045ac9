use Rattle.std.proofs.Common.{◌≡◌, ℕ, length}
use Rattle.sw_objdir.specs.Comparing.{Looks, is_in}
use Rattle.sw_objdir.specs.Stepping.{AddsBriefs, LooksAt}
use Rattle.sw_objdir.proofs.obj_dir.ObjDir.settle_all.Given as goal

-- the doubts so far were settled, and no call failed
abbrev pub invariant-loop : goal.invariant-loop
invariant-loop g l = record {
  looks : LooksAt g.V.Volume.tells g.V.Volume.holds g.V.Volume.faults (is_in l.fn.self.power l.scope) l.fn.self l.self;
  briefs : AddsBriefs l.fn.self.journal.entries l.self.journal.entries l.fn.settled.items l.settled.items;
  faults : g.V.Volume.faults l.self.volume ≡ g.V.Volume.faults l.fn.self.volume;
  only_lists : (n : ℕ) × Looks g.V.Volume.calls g.V.Volume.lists n 0 l.fn.self l.self;
}

abbrev pub decreases-loop : goal.decreases-loop
decreases-loop g l = length l.self.journal.doubts
