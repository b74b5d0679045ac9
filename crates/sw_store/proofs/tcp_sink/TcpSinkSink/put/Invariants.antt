use Rattle.std.proofs.Common.{◌≡◌, ◌-◌, ◌≤◌, length}
use Rattle.sw_store.proofs.tcp_sink.TcpSinkSink.put.Given as goal

-- the bytes before `done` were taken, no call has failed, and the number is the same
abbrev pub invariant-loop-done : goal.invariant-loop-done
invariant-loop-done g l = record {
  within : l.done ≤ length l.bytes;
  sound : l.self.faults ≡ l.initial.self.faults;
  counted : l.self.calls ≡ l.initial.self.calls;
  same : l.self.number ≡ l.initial.self.number;
}

abbrev pub decreases-loop-done : goal.decreases-loop-done
decreases-loop-done g l = length l.bytes - l.done
