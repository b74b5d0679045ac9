-- The ranges below the bounds so far, and the last of these bounds.
use Rattle.std.proofs.Common.{◌≡◌, [], length, take}
use Rattle.sw_cleave.proofs.Ranging.{AreBelow, end_of}
use Rattle.sw_cleave.proofs.cutting.cut.Given as goal

abbrev pub invariant-loop-upper : goal.invariant-loop-upper
invariant-loop-upper l = record {
  below : AreBelow l.secrets l.place l.time 0 [] (take l.upper-index l.bounds) l.list.items;
  lower : l.lower ≡ end_of [] (take l.upper-index l.bounds);
  count : length l.list.items ≡ l.upper-index;
}
