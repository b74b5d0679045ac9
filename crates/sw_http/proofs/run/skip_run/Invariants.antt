use Rattle.std.proofs.Common.{◌≡◌, ◌≤◌, ◌+◌, ◌-◌, ◌*◌, length}
use Rattle.std.specs.Io.KnownBytes.{prepend_known}
use Rattle.sw_http.specs.Input.{IsAllRun, TakesRun, test_of}
use Rattle.sw_http.specs.Reads.{ReadsWhile}
use Rattle.sw_http.proofs.run.skip_run.Given as goal

-- so many bytes were taken off the input, and no more than may be
abbrev pub invariant-loop-skipped : goal.invariant-loop-skipped
invariant-loop-skipped g l = record {
  few : l.skipped ≤ l.limit;
  taken : TakesRun (test_of l.class) (prepend_known l.initial.held (g.R.Source.left l.initial.source)) (prepend_known l.held (g.R.Source.left l.source))
      l.skipped;
  reads : ReadsWhile g.R.Source.left g.R.Source.calls l.initial.source l.source
      (prepend_known l.initial.held (g.R.Source.left l.initial.source)) (IsAllRun (test_of l.class) l.limit);
  sound : g.R.Source.faults l.source ≡ g.R.Source.faults l.initial.source;
  same : g.R.Source.number l.source ≡ g.R.Source.number l.initial.source;
}

-- what may still be skipped; a turn that begins with nothing held skips nothing, and holds something at its end
abbrev pub decreases-loop-skipped : goal.decreases-loop-skipped
decreases-loop-skipped g l = 2 * (l.limit - l.skipped) + (1 - length l.held)
