use Rattle.std.proofs.Common.{◌≡◌, ◌-◌, ◌≤◌, length, take}
use Rattle.std.specs.Io.KnownBytes.{Appends}
use Rattle.sw_outside.proofs.writer_sink.WriterSinkSink.put.Given as goal

-- the bytes before `done` were taken, no call has failed, and the number is the same
abbrev pub invariant-loop-done : goal.invariant-loop-done
invariant-loop-done g l = record {
  within : l.done ≤ length l.bytes;
  taken : Appends (g.W.Write.contents l.initial.self.writer) (g.W.Write.contents l.self.writer) (take l.done l.bytes);
  sound : l.self.faults ≡ l.initial.self.faults;
  counted : l.self.calls ≡ l.initial.self.calls;
  same : l.self.number ≡ l.initial.self.number;
}

abbrev pub decreases-loop-done : goal.decreases-loop-done
decreases-loop-done g l = length l.bytes - l.done
