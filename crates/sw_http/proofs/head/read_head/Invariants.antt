use Rattle.std.proofs.Common.{◌≡◌, ◌≤◌, ◌+◌, ◌-◌, length, take}
use Rattle.std.specs.Io.KnownBytes.{Keeps, prepend_known}
use Rattle.httparse.specs.Grammar.{MayBecomeRequest}
use Rattle.httparse.specs.Pieces.{Stops, is_newline}
use Rattle.sw_http.specs.Fronts.{IsUnfinished}
use Rattle.sw_message.specs.Head.{HasNoHead}
use Rattle.sw_http.specs.Reads.{ReadsWhile}
use Rattle.sw_http.specs.Opening.{IsHeadCut}
use Rattle.sw_http.proofs.head.read_head.Given as goal

-- the bytes were only read, and no head stands in front of those that were looked at
abbrev pub invariant-loop-spans : goal.invariant-loop-spans
invariant-loop-spans g l = record {
  room : length l.headers ≡ 128;
  within : l.seen ≤ length l.held;
  begins : Stops is_newline l.held;
  none_seen : HasNoHead (take l.seen l.held);
  unfinished : IsUnfinished MayBecomeRequest (take l.seen l.held);
  kept : Keeps (prepend_known l.initial.held (g.R.Source.left l.initial.source)) (prepend_known l.held (g.R.Source.left l.source));
  reads : ReadsWhile g.R.Source.left g.R.Source.calls l.initial.source l.source (prepend_known l.initial.held (g.R.Source.left l.initial.source)) IsHeadCut;
  sound : g.R.Source.faults l.source ≡ g.R.Source.faults l.initial.source;
  same : g.R.Source.number l.source ≡ g.R.Source.number l.initial.source;
}

abbrev pub decreases-loop-spans : goal.decreases-loop-spans
decreases-loop-spans g l = 65536 + 8192 - length l.held
