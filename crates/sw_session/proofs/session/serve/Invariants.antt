use Rattle.std.proofs.Common.{◌≡◌}
use Rattle.std.specs.Io.KnownBytes.{prepend_known}
use Rattle.sw_outside.specs.Readings.{TicksEach}
use Rattle.sw_http.specs.Reads.{ReadsWhile}
use Rattle.sw_session.specs.Session.{IsBetween}
use Rattle.sw_session.proofs.Ends.{Progress, PutsSoFar}
use Rattle.sw_session.proofs.session.serve.Given as goal

-- what is held and left is what the input still has after the requests that were answered
abbrev pub invariant-loop : goal.invariant-loop
invariant-loop g l = record {
  ready : g.V.Server.ready l.server;
  progress : Progress g.V.Server.last g.V.Server.serves l.initial.server (g.R.Source.left l.initial.source) (prepend_known l.held (g.R.Source.left l.source))
      (g.W.Sink.taken l.initial.out) (g.W.Sink.taken l.out) l.moments.items l.server l.counter;
  ticks : TicksEach (g.C.Clock.readings l.initial.clock) (g.C.Clock.readings l.clock) l.moments.items;
  needed : ReadsWhile g.R.Source.left g.R.Source.calls l.initial.source l.source (g.R.Source.left l.initial.source)
      (IsBetween g.V.Server.last g.V.Server.serves l.initial.server l.moments.items);
  reads : g.R.Source.faults l.source ≡ g.R.Source.faults l.initial.source;
  writes : g.W.Sink.faults l.out ≡ g.W.Sink.faults l.initial.out;
  read_at : g.R.Source.number l.source ≡ g.R.Source.number l.initial.source;
  written_at : g.W.Sink.number l.out ≡ g.W.Sink.number l.initial.out;
  puts : PutsSoFar g.V.Server.last g.V.Server.serves l.initial.server (g.R.Source.left l.initial.source) (prepend_known l.held (g.R.Source.left l.source))
      (g.W.Sink.taken l.initial.out) (g.W.Sink.taken l.out) l.moments.items l.server (g.W.Sink.calls l.initial.out) (g.W.Sink.calls l.out);
}
