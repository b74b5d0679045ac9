use Rattle.std.proofs.Common.{◌-◌, arith}
use Rattle.sw_http.specs.ChunkSteps.{IsChunkedCut}
use Rattle.sw_http.proofs.ChunkedLemmas.{chunks_more, chunks_within, chunked_taken, chunks_refused, trailer_refused, chunks_cut, trailer_cut}
use Rattle.std.proofs.lemmas.Result.{err_from_is_err_and}
use Rattle.sw_http.proofs.InputLemmas.{on_err_at}
use Rattle.sw_http.proofs.ReadsLemmas.{reads_map, reads_then}
use Rattle.sw_http.proofs.chunk.take_chunked.Goals as goal

pub loop-len-preserved : goal.loop-len-preserved
loop-len-preserved g c =
    let step = rw c.in-More.is at c.in_ok-len.ensures.step in
    let takes = chunks_more _ _ _ _ _ _ _ _ (c.loop-len.left - c.in-More.len) c.in-More.len c.loop-len.invariant.takes step.0 (omega (arith, step.2)) in
    record {
      few = omega arith;
      within = chunks_within _ _ _ _ _ _ takes;
      takes = takes;
      reads = reads_then _ _ c.loop-len.invariant.reads
          (reads_map _ _ _ _ c.take_chunk.ensures.reads (λ now. chunks_cut _ _ now _ _ _ _ c.loop-len.invariant.takes));
      sound = omega (arith, c.in_ok-len.ensures.sound);
      same = omega (arith, c.in_ok-len.ensures.source_number);
    }

pub returns-in-Last-clause-taken : goal.returns-in-Last-clause-taken
returns-in-Last-clause-taken g c e =
    let step = rw c.in-Last.is at c.in_ok-len.ensures.step in
    chunked_taken _ _ _ _ _ _ _ _ _ _ c.loop-len.invariant.takes step.0 step.2 step.1 (c.take_trailer.ensures.taken e)

pub returns-in-Last-clause-none : goal.returns-in-Last-clause-none
returns-in-Last-clause-none g c e =
    let step = rw c.in-Last.is at c.in_ok-len.ensures.step in
    trailer_refused _ _ _ _ _ _ _ _ c.loop-len.invariant.takes step.0 step.1 (c.take_trailer.ensures.none e)

pub returns-in-Bad-clause-none : goal.returns-in-Bad-clause-none
returns-in-Bad-clause-none g c _ =
    chunks_refused _ _ _ _ _ _ c.loop-len.invariant.takes (rw c.in-Bad.is at c.in_ok-len.ensures.step)

pub returns-in_err-len-clause-cut : goal.returns-in_err-len-clause-cut
returns-in_err-len-clause-cut g c e =
    let exit = err_from_is_err_and c.from_residual.result c.from_residual.ensures.1 in let given = exit.1 in let same = exit.2 in
    chunks_cut _ _ _ _ _ _ _ c.loop-len.invariant.takes (c.in_err-len.ensures.cut (cc))

pub returns-in-Last-clause-cut : goal.returns-in-Last-clause-cut
returns-in-Last-clause-cut g c e =
    let step = rw c.in-Last.is at c.in_ok-len.ensures.step in
    trailer_cut _ _ _ _ _ _ _ _ _ c.loop-len.invariant.takes step.0 step.1 (on_err_at _ _ _ e c.take_trailer.ensures.cut)

pub returns-in_err-len-clause-reads : goal.returns-in_err-len-clause-reads
returns-in_err-len-clause-reads g c =
    reads_then _ _ c.loop-len.invariant.reads
    (reads_map _ _ _ _ c.take_chunk.ensures.reads (λ now. chunks_cut _ _ now _ _ _ _ c.loop-len.invariant.takes))

pub returns-in-Bad-clause-reads : goal.returns-in-Bad-clause-reads
returns-in-Bad-clause-reads g c =
    reads_then _ _ c.loop-len.invariant.reads
    (reads_map _ _ _ _ c.take_chunk.ensures.reads (λ now. chunks_cut _ _ now _ _ _ _ c.loop-len.invariant.takes))

pub returns-in-Last-clause-reads : goal.returns-in-Last-clause-reads
returns-in-Last-clause-reads g c =
    let step = rw c.in-Last.is at c.in_ok-len.ensures.step in
    let earlier = reads_then _ (IsChunkedCut c.args.room) c.loop-len.invariant.reads
    (reads_map _ _ _ _ c.take_chunk.ensures.reads (λ now. chunks_cut _ _ now _ _ _ _ c.loop-len.invariant.takes)) in
    reads_then _ _ earlier
    (reads_map _ _ _ _ c.take_trailer.ensures.reads (λ now. trailer_cut _ _ _ now _ _ _ _ _ c.loop-len.invariant.takes step.0 step.1))
