use Rattle.std.proofs.Common.{◌≡◌, ◌-◌, length}
use Rattle.std.specs.Io.KnownBytes.{Keeps, prepend_known}
use Rattle.sw_http.specs.Reads.{ReadsWhile}
use Rattle.sw_http.specs.ChunkSteps.{IsDigitsCut}
use Rattle.sw_http.proofs.chunk_line.read_digits.Given as goal

-- the bytes were only read
abbrev pub invariant-loop-run : goal.invariant-loop-run
invariant-loop-run g l = record {
  kept : Keeps (prepend_known l.initial.held (g.R.Source.left l.initial.source)) (prepend_known l.held (g.R.Source.left l.source));
  reads : ReadsWhile g.R.Source.left g.R.Source.calls l.initial.source l.source (prepend_known l.initial.held (g.R.Source.left l.initial.source)) IsDigitsCut;
  sound : g.R.Source.faults l.source ≡ g.R.Source.faults l.initial.source;
  same : g.R.Source.number l.source ≡ g.R.Source.number l.initial.source;
}

abbrev pub decreases-loop-run : goal.decreases-loop-run
decreases-loop-run g l = 17 - length l.held
