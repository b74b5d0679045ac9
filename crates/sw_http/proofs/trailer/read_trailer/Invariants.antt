use Rattle.std.proofs.Common.{◌≡◌, ◌≤◌, ◌+◌, ◌-◌, length, take}
use Rattle.std.specs.Io.KnownBytes.{Keeps, prepend_known}
use Rattle.httparse.specs.Grammar.{MayBecomeSection}
use Rattle.sw_http.specs.ChunkSteps.{HasNoTrailer, IsTrailerCut}
use Rattle.sw_http.specs.Fronts.{IsUnfinished}
use Rattle.sw_http.specs.Reads.{ReadsWhile}
use Rattle.sw_http.proofs.trailer.read_trailer.Given as goal

-- the bytes were only read, and no trailer stands in front of those that were looked at
abbrev pub invariant-loop-len : goal.invariant-loop-len
invariant-loop-len g l = record {
  room : length l.headers ≡ 128;
  within : l.seen ≤ length l.held;
  none_seen : HasNoTrailer (take l.seen l.held);
  unfinished : IsUnfinished MayBecomeSection (take l.seen l.held);
  kept : Keeps (prepend_known l.initial.held (g.R.Source.left l.initial.source)) (prepend_known l.held (g.R.Source.left l.source));
  reads : ReadsWhile g.R.Source.left g.R.Source.calls l.initial.source l.source (prepend_known l.initial.held (g.R.Source.left l.initial.source)) IsTrailerCut;
  sound : g.R.Source.faults l.source ≡ g.R.Source.faults l.initial.source;
  same : g.R.Source.number l.source ≡ g.R.Source.number l.initial.source;
}

abbrev pub decreases-loop-len : goal.decreases-loop-len
decreases-loop-len g l = 65536 + 8192 - length l.held
