use Rattle.std.proofs.Common.{Ok, ap}
use Rattle.sw_http.specs.ChunkSteps.{IsTailCut}
use Rattle.sw_http.proofs.LineLemmas.{tail_no_extension, tail_no_end, tail_cut_blanks, tail_cut_extension, tail_cut_end}
use Rattle.std.proofs.lemmas.Result.{err_from_is_err_and}
use Rattle.sw_http.proofs.ReadsLemmas.{reads_map, reads_then}
use Rattle.sw_http.proofs.chunk_line.take_tail.Goals as goal

pub returns-in_default-2-clause-none : goal.returns-in_default-2-clause-none
returns-in_default-2-clause-none g c _ =
    tail_no_extension _ _ _ _ _ (rw c.in-Some.is at c.in_ok-pad.ensures.taken) (rw c.in-Some.is at c.in_ok-pad.ensures.few)
    (rw c.in-Some.is at c.in_ok-pad.ensures.stops)
    (c.in_ok-extension.ensures.none (ap Ok c.in_default-2.is))

pub returns-else-branch-clause-none : goal.returns-else-branch-clause-none
returns-else-branch-clause-none g c _ =
    tail_no_end _ _ _ _ _ _ _ _ (rw c.in-Some.is at c.in_ok-pad.ensures.taken) (rw c.in-Some.is at c.in_ok-pad.ensures.stops)
    (rw c.in-Some-2.is at c.in_ok-extension.ensures.taken) (c.in_ok-take_line_end.ensures.none (ap Ok c.if-branch.false))

pub returns-in_err-extension-clause-cut : goal.returns-in_err-extension-clause-cut
returns-in_err-extension-clause-cut g c =
    let exit = err_from_is_err_and c.from_residual-in_err-extension.result c.from_residual-in_err-extension.ensures.1 in
    rw exit.1 (tail_cut_extension _ _ _ _ _ (rw c.in-Some.is at c.in_ok-pad.ensures.taken) (rw c.in-Some.is at c.in_ok-pad.ensures.few)
    c.in_err-extension.ensures.cut)

pub returns-in_err-take_line_end-clause-cut : goal.returns-in_err-take_line_end-clause-cut
returns-in_err-take_line_end-clause-cut g c =
    let exit = err_from_is_err_and c.from_residual-in_err-take_line_end.result c.from_residual-in_err-take_line_end.ensures.1 in
    rw exit.1 (tail_cut_end _ _ _ _ _ _ _ _ _ (rw c.in-Some.is at c.in_ok-pad.ensures.taken) (rw c.in-Some.is at c.in_ok-pad.ensures.few)
    (rw c.in-Some.is at c.in_ok-pad.ensures.stops) (rw c.in-Some-2.is at c.in_ok-extension.ensures.taken)
    (rw c.in-Some-2.is at c.in_ok-extension.ensures.bound) c.in_err-take_line_end.ensures.cut)

pub returns-in_err-pad-clause-reads : goal.returns-in_err-pad-clause-reads
returns-in_err-pad-clause-reads g c = reads_map _ _ _ _ c.take_run.ensures.reads (λ now. tail_cut_blanks _ now _)

pub returns-in_default-clause-reads : goal.returns-in_default-clause-reads
returns-in_default-clause-reads g c = reads_map _ _ _ _ c.take_run.ensures.reads (λ now. tail_cut_blanks _ now _)

pub returns-in_err-extension-clause-reads : goal.returns-in_err-extension-clause-reads
returns-in_err-extension-clause-reads g c =
    reads_then _ _ (reads_map _ _ _ _ c.take_run.ensures.reads (λ now. tail_cut_blanks _ now _))
    (reads_map _ _ _ _ c.take_extension.ensures.reads (λ now. tail_cut_extension _ _ now _ _ (rw c.in-Some.is at c.in_ok-pad.ensures.taken)
    (rw c.in-Some.is at c.in_ok-pad.ensures.few)))

pub returns-in_default-2-clause-reads : goal.returns-in_default-2-clause-reads
returns-in_default-2-clause-reads g c =
    reads_then _ _ (reads_map _ _ _ _ c.take_run.ensures.reads (λ now. tail_cut_blanks _ now _))
    (reads_map _ _ _ _ c.take_extension.ensures.reads (λ now. tail_cut_extension _ _ now _ _ (rw c.in-Some.is at c.in_ok-pad.ensures.taken)
    (rw c.in-Some.is at c.in_ok-pad.ensures.few)))

pub returns-in_err-take_line_end-clause-reads : goal.returns-in_err-take_line_end-clause-reads
returns-in_err-take_line_end-clause-reads g c =
    let earlier = reads_then _ (IsTailCut c.args.room) (reads_map _ _ _ _ c.take_run.ensures.reads (λ now. tail_cut_blanks _ now _))
    (reads_map _ _ _ _ c.take_extension.ensures.reads (λ now. tail_cut_extension _ _ now _ _ (rw c.in-Some.is at c.in_ok-pad.ensures.taken)
    (rw c.in-Some.is at c.in_ok-pad.ensures.few))) in
    reads_then _ _ earlier
    (reads_map _ _ _ _ c.take_line_end.ensures.reads
    (λ now. tail_cut_end _ _ _ _ _ now _ _ _ (rw c.in-Some.is at c.in_ok-pad.ensures.taken) (rw c.in-Some.is at c.in_ok-pad.ensures.few)
    (rw c.in-Some.is at c.in_ok-pad.ensures.stops) (rw c.in-Some-2.is at c.in_ok-extension.ensures.taken)
    (rw c.in-Some-2.is at c.in_ok-extension.ensures.bound)))

pub returns-then-branch-clause-reads : goal.returns-then-branch-clause-reads
returns-then-branch-clause-reads g c =
    let earlier = reads_then _ (IsTailCut c.args.room) (reads_map _ _ _ _ c.take_run.ensures.reads (λ now. tail_cut_blanks _ now _))
    (reads_map _ _ _ _ c.take_extension.ensures.reads (λ now. tail_cut_extension _ _ now _ _ (rw c.in-Some.is at c.in_ok-pad.ensures.taken)
    (rw c.in-Some.is at c.in_ok-pad.ensures.few))) in
    reads_then _ _ earlier
    (reads_map _ _ _ _ c.take_line_end.ensures.reads
    (λ now. tail_cut_end _ _ _ _ _ now _ _ _ (rw c.in-Some.is at c.in_ok-pad.ensures.taken) (rw c.in-Some.is at c.in_ok-pad.ensures.few)
    (rw c.in-Some.is at c.in_ok-pad.ensures.stops) (rw c.in-Some-2.is at c.in_ok-extension.ensures.taken)
    (rw c.in-Some-2.is at c.in_ok-extension.ensures.bound)))

pub returns-else-branch-clause-reads : goal.returns-else-branch-clause-reads
returns-else-branch-clause-reads g c =
    let earlier = reads_then _ (IsTailCut c.args.room) (reads_map _ _ _ _ c.take_run.ensures.reads (λ now. tail_cut_blanks _ now _))
    (reads_map _ _ _ _ c.take_extension.ensures.reads (λ now. tail_cut_extension _ _ now _ _ (rw c.in-Some.is at c.in_ok-pad.ensures.taken)
    (rw c.in-Some.is at c.in_ok-pad.ensures.few))) in
    reads_then _ _ earlier
    (reads_map _ _ _ _ c.take_line_end.ensures.reads
    (λ now. tail_cut_end _ _ _ _ _ now _ _ _ (rw c.in-Some.is at c.in_ok-pad.ensures.taken) (rw c.in-Some.is at c.in_ok-pad.ensures.few)
    (rw c.in-Some.is at c.in_ok-pad.ensures.stops) (rw c.in-Some-2.is at c.in_ok-extension.ensures.taken)
    (rw c.in-Some-2.is at c.in_ok-extension.ensures.bound)))

pub returns-in_err-pad-clause-cut : goal.returns-in_err-pad-clause-cut
returns-in_err-pad-clause-cut g c =
    let exit = err_from_is_err_and c.from_residual.result c.from_residual.ensures.1 in
    rw exit.1 (tail_cut_blanks _ _ _ c.in_err-pad.ensures.cut)
