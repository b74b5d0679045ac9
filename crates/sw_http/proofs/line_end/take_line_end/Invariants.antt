use Rattle.std.proofs.Common.{◌≡◌, ◌≤◌, ◌-◌, length}
use Rattle.std.specs.Io.KnownBytes.{Keeps, prepend_known}
use Rattle.sw_http.specs.Reads.{ReadsWhile}
use Rattle.sw_http.specs.Input.{IsShort}
use Rattle.sw_http.proofs.line_end.take_line_end.Given as goal

-- the bytes were only read
abbrev pub invariant-loop-held : goal.invariant-loop-held
invariant-loop-held g l = record {
  kept : Keeps (prepend_known l.initial.held (g.R.Source.left l.initial.source)) (prepend_known l.held (g.R.Source.left l.source));
  more : length l.initial.held ≤ length l.held;
  reads : ReadsWhile g.R.Source.left g.R.Source.calls l.initial.source l.source
      (prepend_known l.initial.held (g.R.Source.left l.initial.source)) (IsShort l.initial.held);
  sound : g.R.Source.faults l.source ≡ g.R.Source.faults l.initial.source;
  same : g.R.Source.number l.source ≡ g.R.Source.number l.initial.source;
}

abbrev pub decreases-loop-held : goal.decreases-loop-held
decreases-loop-held g l = 2 - length l.held
