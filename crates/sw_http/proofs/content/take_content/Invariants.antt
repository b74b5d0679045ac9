use Rattle.std.proofs.Common.{◌≡◌, ◌<◌, ◌≤◌, ◌-◌, length}
use Rattle.std.specs.Io.KnownBytes.{prepend_known}
use Rattle.sw_http.specs.ChunkSteps.{TakesBytes}
use Rattle.sw_http.specs.Reads.{ReadsWhile}
use Rattle.sw_http.proofs.content.take_content.Given as goal

-- so many bytes were taken off the input, and the body now has them too
abbrev pub invariant-loop-taken : goal.invariant-loop-taken
invariant-loop-taken g l = record {
  few : l.taken ≤ l.len;
  takes : TakesBytes (prepend_known l.initial.held (g.R.Source.left l.initial.source)) (prepend_known l.held (g.R.Source.left l.source)) l.initial.body l.body
      l.taken;
  reads : ReadsWhile g.R.Source.left g.R.Source.calls l.initial.source l.source
      (prepend_known l.initial.held (g.R.Source.left l.initial.source)) (λ seen. length seen < l.len);
  sound : g.R.Source.faults l.source ≡ g.R.Source.faults l.initial.source;
  same : g.R.Source.number l.source ≡ g.R.Source.number l.initial.source;
}

abbrev pub decreases-loop-taken : goal.decreases-loop-taken
decreases-loop-taken g l = l.len - l.taken
