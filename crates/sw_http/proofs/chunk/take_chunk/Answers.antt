use Rattle.std.proofs.Common.{◌<◌, Ok, ap, arith, inl, inr}
use Rattle.sw_http.specs.ChunkSteps.{HasNoChunked, HasNoLineWithin}
use Rattle.sw_http.proofs.ChunkedLemmas.{no_chunked_line, chunk_taken, step_last_long, step_too_long, step_no_data, chunk_cut_line, chunk_cut_data}
use Rattle.sw_http.proofs.InputLemmas.{if_some_map}
use Rattle.std.proofs.lemmas.Result.{err_from_is_err_and}
use Rattle.sw_http.proofs.ReadsLemmas.{reads_map, reads_then}
use Rattle.sw_http.proofs.chunk.take_chunk.Goals as goal

pub returns-in_default-clause-step : goal.returns-in_default-clause-step
returns-in_default-clause-step g c =
    if_some_map _ (HasNoLineWithin c.args.room) (HasNoChunked c.args.room) (no_chunked_line c.args.room) (c.in_ok-line.ensures.none (ap Ok c.in_default.is))

pub returns-else-line-room-clause-step : goal.returns-else-line-room-clause-step
returns-else-line-room-clause-step g c =
    step_last_long _ _ _ _ (rw c.in-Some.is at c.in_ok-line.ensures.taken) c.if-line-eq0.true (omega arith)

pub returns-then-branch-clause-step : goal.returns-then-branch-clause-step
returns-then-branch-clause-step g c =
    let some : 0 < c.in-Some.line.size = omega arith in
    let taken = c.in_ok-take_sized.ensures.taken (ap Ok c.if-branch.true) in (
      chunk_taken _ _ _ _ _ c.in-Some.line (rw c.in-Some.is at c.in_ok-line.ensures.taken) some taken,
      omega arith,
      c.in_ok-take_sized.ensures.fits (ap Ok c.if-branch.true),
    )

pub returns-else-branch-clause-step : goal.returns-else-branch-clause-step
returns-else-branch-clause-step g c =
    let some : 0 < c.in-Some.line.size = omega arith in
    let line = rw c.in-Some.is at c.in_ok-line.ensures.taken in
    elim (c.in_ok-take_sized.ensures.none (ap Ok c.if-branch.false)) [
      | inl many ↦ step_too_long _ _ _ _ line some many
      | inr none ↦ step_no_data _ _ _ _ line some none
    ]

pub returns-in_err-line-clause-cut : goal.returns-in_err-line-clause-cut
returns-in_err-line-clause-cut g c e =
    let exit = err_from_is_err_and c.from_residual.result c.from_residual.ensures.1 in let given = exit.1 in let same = exit.2 in
    chunk_cut_line _ _ _ c.in_err-line.ensures.cut

pub returns-in_err-take_sized-clause-cut : goal.returns-in_err-take_sized-clause-cut
returns-in_err-take_sized-clause-cut g c e =
    let exit = err_from_is_err_and c.from_residual-in_err-take_sized.result c.from_residual-in_err-take_sized.ensures.1 in let given = exit.1 in let same =
    exit.2 in
    let some : 0 < c.in-Some.line.size = omega arith in
    chunk_cut_data _ _ _ _ _ (rw c.in-Some.is at c.in_ok-line.ensures.taken) some (c.in_err-take_sized.ensures.cut (cc))

pub returns-in_err-line-clause-reads : goal.returns-in_err-line-clause-reads
returns-in_err-line-clause-reads g c = reads_map _ _ _ _ c.take_chunk_line.ensures.reads (λ now. chunk_cut_line _ now _)

pub returns-in_default-clause-reads : goal.returns-in_default-clause-reads
returns-in_default-clause-reads g c = reads_map _ _ _ _ c.take_chunk_line.ensures.reads (λ now. chunk_cut_line _ now _)

pub returns-then-line-room-clause-reads : goal.returns-then-line-room-clause-reads
returns-then-line-room-clause-reads g c = reads_map _ _ _ _ c.take_chunk_line.ensures.reads (λ now. chunk_cut_line _ now _)

pub returns-else-line-room-clause-reads : goal.returns-else-line-room-clause-reads
returns-else-line-room-clause-reads g c = reads_map _ _ _ _ c.take_chunk_line.ensures.reads (λ now. chunk_cut_line _ now _)

pub returns-in_err-take_sized-clause-reads : goal.returns-in_err-take_sized-clause-reads
returns-in_err-take_sized-clause-reads g c =
    let some : 0 < c.in-Some.line.size = omega arith in
    reads_then _ _ (reads_map _ _ _ _ c.take_chunk_line.ensures.reads (λ now. chunk_cut_line _ now _))
    (reads_map _ _ _ _ c.take_sized.ensures.reads (λ now. chunk_cut_data _ _ now _ _ (rw c.in-Some.is at c.in_ok-line.ensures.taken) some))

pub returns-then-branch-clause-reads : goal.returns-then-branch-clause-reads
returns-then-branch-clause-reads g c =
    let some : 0 < c.in-Some.line.size = omega arith in
    reads_then _ _ (reads_map _ _ _ _ c.take_chunk_line.ensures.reads (λ now. chunk_cut_line _ now _))
    (reads_map _ _ _ _ c.take_sized.ensures.reads (λ now. chunk_cut_data _ _ now _ _ (rw c.in-Some.is at c.in_ok-line.ensures.taken) some))

pub returns-else-branch-clause-reads : goal.returns-else-branch-clause-reads
returns-else-branch-clause-reads g c =
    let some : 0 < c.in-Some.line.size = omega arith in
    reads_then _ _ (reads_map _ _ _ _ c.take_chunk_line.ensures.reads (λ now. chunk_cut_line _ now _))
    (reads_map _ _ _ _ c.take_sized.ensures.reads (λ now. chunk_cut_data _ _ now _ _ (rw c.in-Some.is at c.in_ok-line.ensures.taken) some))
