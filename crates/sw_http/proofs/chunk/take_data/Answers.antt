use Rattle.std.proofs.Common.{Ok, ap}
use Rattle.sw_http.proofs.BodyLemmas.{data_none, data_cut_short, data_cut_end}
use Rattle.std.proofs.lemmas.Result.{err_from_is_err_and}
use Rattle.sw_http.proofs.InputLemmas.{on_err_at}
use Rattle.sw_http.proofs.ReadsLemmas.{reads_map, reads_then}
use Rattle.sw_http.proofs.chunk.take_data.Goals as goal

pub returns-then-branch-clause-none : goal.returns-then-branch-clause-none
returns-then-branch-clause-none g c e =
    data_none _ _ _ _ _ (c.in_ok-take_content.ensures.taken (ap Ok c.if-branch.true)) (c.take_line_end.ensures.none e)

pub returns-then-branch-clause-cut : goal.returns-then-branch-clause-cut
returns-then-branch-clause-cut g c e =
    data_cut_end _ _ _ _ _ _ _ (c.in_ok-take_content.ensures.taken (ap Ok c.if-branch.true)) (on_err_at _ _ _ e c.take_line_end.ensures.cut)

pub returns-in_err-take_content-clause-reads : goal.returns-in_err-take_content-clause-reads
returns-in_err-take_content-clause-reads g c = reads_map _ _ _ _ c.take_content.ensures.reads (λ now. data_cut_short _ now _)

pub returns-else-branch-clause-reads : goal.returns-else-branch-clause-reads
returns-else-branch-clause-reads g c = reads_map _ _ _ _ c.take_content.ensures.reads (λ now. data_cut_short _ now _)

pub returns-then-branch-clause-reads : goal.returns-then-branch-clause-reads
returns-then-branch-clause-reads g c =
    reads_then _ _ (reads_map _ _ _ _ c.take_content.ensures.reads (λ now. data_cut_short _ now _))
    (reads_map _ _ _ _ c.take_line_end.ensures.reads
    (λ now. data_cut_end _ _ now _ _ _ _ (c.in_ok-take_content.ensures.taken (ap Ok c.if-branch.true))))

pub returns-in_err-take_content-clause-cut : goal.returns-in_err-take_content-clause-cut
returns-in_err-take_content-clause-cut g c e =
    let exit = err_from_is_err_and c.from_residual.result c.from_residual.ensures.1 in let given = exit.1 in let same = exit.2 in
    data_cut_short _ _ _ (c.in_err-take_content.ensures.cut (cc))
