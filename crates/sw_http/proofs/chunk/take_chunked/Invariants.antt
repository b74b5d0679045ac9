use Rattle.std.proofs.Common.{◌≡◌, ◌≤◌}
use Rattle.std.specs.Io.KnownBytes.{prepend_known}
use Rattle.sw_http.specs.Body.{IsWithinLimit}
use Rattle.sw_http.specs.ChunkSteps.{IsChunkedCut, TakesChunks}
use Rattle.sw_http.specs.Reads.{ReadsWhile}
use Rattle.sw_http.proofs.chunk.take_chunked.Given as goal

-- chunks were taken off the input, and the body now has their bytes too
abbrev pub invariant-loop-len : goal.invariant-loop-len
invariant-loop-len g l = record {
  few : l.left ≤ l.room;
  within : IsWithinLimit l.body;
  takes : TakesChunks (prepend_known l.initial.held (g.R.Source.left l.initial.source)) (prepend_known l.held (g.R.Source.left l.source)) l.initial.body l.body
      l.room l.left;
  reads : ReadsWhile g.R.Source.left g.R.Source.calls l.initial.source l.source
      (prepend_known l.initial.held (g.R.Source.left l.initial.source)) (IsChunkedCut l.room);
  sound : g.R.Source.faults l.source ≡ g.R.Source.faults l.initial.source;
  same : g.R.Source.number l.source ≡ g.R.Source.number l.initial.source;
}

abbrev pub decreases-loop-len : goal.decreases-loop-len
decreases-loop-len g l = l.left
