use Rattle.std.proofs.Common.{◌≡◌, true, length}
use Rattle.sw_objdir.proofs.FilingSettling.{HasSettled}
use Rattle.sw_objdir.specs.Filings.{filings}
use Rattle.sw_objdir.specs.Stepping.{AddsBriefs, LooksAt}
use Rattle.sw_object_steps.specs.Journals.{Hash, written}
use Rattle.sw_objdir.proofs.obj_dir.ObjDir.settle_records.Given as goal

-- the doubts so far were settled, each by one read, and no call failed
abbrev pub invariant-loop : goal.invariant-loop
invariant-loop g l = record {
  looks : LooksAt g.V.Volume.tells g.V.Volume.holds g.V.Volume.faults (λ hash. true) l.fn.self l.self;
  briefs : AddsBriefs l.fn.self.journal.entries l.self.journal.entries l.fn.settled.items l.settled.items;
  writes : (hash : Hash) → written hash l.self.journal.doubts ≡ written hash l.fn.self.journal.doubts;
  settled : HasSettled g.V.Volume.tells g.V.Volume.holds g.V.Volume.faults g.V.Volume.calls g.V.Volume.lists l.fn.self l.self;
}

abbrev pub decreases-loop : goal.decreases-loop
decreases-loop g l = length (filings l.self.journal.doubts)
