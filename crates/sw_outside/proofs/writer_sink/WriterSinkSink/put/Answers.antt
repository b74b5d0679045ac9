use Rattle.std.proofs.Common.{arith}
use Rattle.std.proofs.KnownBytes.{Appends-trans}
use Rattle.std.proofs.Math.Seq.{take-add}
use Rattle.std.proofs.lemmas.Grind.{common_steps}
use Rattle.std.proofs.lemmas.List.{take_rest}
use Rattle.sw_outside.proofs.writer_sink.WriterSinkSink.put.Goals as goal

-- what was taken before, and then what this call took of the rest
pub loop-done-preserved : goal.loop-done-preserved
loop-done-preserved g c = record {
  within = grind (arith, common_steps, c.in-Ok.ensures.bound, c.loop-done.invariant.within);
  taken = rw take-add (Appends-trans _ _ _ _ _ c.loop-done.invariant.taken (rw take_rest at c.in-Ok.ensures.bytes));
  sound = c.loop-done.invariant.sound;
  counted = c.loop-done.invariant.counted;
  same = c.loop-done.invariant.same;
}
