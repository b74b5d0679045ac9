use Rattle.std.proofs.Common.{Ok, ap, refl, inl}
use Rattle.httparse.specs.Pieces.{is_newline}
use Rattle.sw_http.specs.Continue.{AwaitsHead, MayHaveHead}
use Rattle.sw_http.specs.Opening.{IsHeadless}
use Rattle.sw_http.specs.Input.{IsLongRun}
use Rattle.sw_http.proofs.InputLemmas.{if_some_map, seen_map}
use Rattle.sw_http.proofs.OpeningLemmas.{opened, headless, headless_run, opening_cut_run, opening_cut_head, wanted_opening}
use Rattle.std.proofs.lemmas.Result.{err_from_is_err_and}
use Rattle.sw_http.proofs.ReadsLemmas.{reads_map, reads_then}
use Rattle.sw_http.proofs.opening.take_opening.Goals as goal

pub returns-in-TooMany-clause-opening : goal.returns-in-TooMany-clause-opening
returns-in-TooMany-clause-opening g c =
    if_some_map _ (IsLongRun is_newline 65536) IsHeadless headless_run (rw c.in-TooMany.is at c.in_ok-skipped.ensures.run)

pub returns-in-Some-clause-opening : goal.returns-in-Some-clause-opening
returns-in-Some-clause-opening g c =
    let run = rw c.in-Begun.is at c.in_ok-skipped.ensures.run in
    opened _ _ _ _ _ _ _ run.0 run.1 (rw c.in-Some.is at c.in_ok-open.ensures.taken) refl

pub returns-in-None-clause-opening : goal.returns-in-None-clause-opening
returns-in-None-clause-opening g c =
    let run = rw c.in-Begun.is at c.in_ok-skipped.ensures.run in
    headless _ _ _ _ run.0 run.2 (c.in_ok-open.ensures.none (ap Ok c.in-None.is))

pub returns-in_err-skipped-clause-cut : goal.returns-in_err-skipped-clause-cut
returns-in_err-skipped-clause-cut g c e =
    let exit = err_from_is_err_and c.from_residual.result c.from_residual.ensures.1 in let given = exit.1 in let same = exit.2 in
    opening_cut_run _ _ c.in_err-skipped.ensures.cut

pub returns-in_err-open-clause-cut : goal.returns-in_err-open-clause-cut
returns-in_err-open-clause-cut g c e =
    let exit = err_from_is_err_and c.from_residual-in_err-open.result c.from_residual-in_err-open.ensures.1 in let given = exit.1 in let same = exit.2 in
    let run = rw c.in-Begun.is at c.in_ok-skipped.ensures.run in
    opening_cut_head _ _ _ _ run.0 run.1 (c.in_err-open.ensures.cut (cc))

pub returns-in_err-skipped-clause-reads : goal.returns-in_err-skipped-clause-reads
returns-in_err-skipped-clause-reads g c = reads_map _ _ _ _ c.skip_run.ensures.reads (λ now. opening_cut_run _ now)

pub returns-in-Ended-clause-reads : goal.returns-in-Ended-clause-reads
returns-in-Ended-clause-reads g c = reads_map _ _ _ _ c.skip_run.ensures.reads (λ now. opening_cut_run _ now)

pub returns-in-TooMany-clause-reads : goal.returns-in-TooMany-clause-reads
returns-in-TooMany-clause-reads g c = reads_map _ _ _ _ c.skip_run.ensures.reads (λ now. opening_cut_run _ now)

pub returns-in_err-open-clause-reads : goal.returns-in_err-open-clause-reads
returns-in_err-open-clause-reads g c =
    let run = rw c.in-Begun.is at c.in_ok-skipped.ensures.run in
    reads_then _ _ (reads_map _ _ _ _ c.skip_run.ensures.reads (λ now. opening_cut_run _ now))
    (reads_map _ _ _ _ c.take_head.ensures.reads (λ now. opening_cut_head _ _ now _ run.0 run.1))

pub returns-in-Some-clause-reads : goal.returns-in-Some-clause-reads
returns-in-Some-clause-reads g c =
    let run = rw c.in-Begun.is at c.in_ok-skipped.ensures.run in
    reads_then _ _ (reads_map _ _ _ _ c.skip_run.ensures.reads (λ now. opening_cut_run _ now))
    (reads_map _ _ _ _ c.take_head.ensures.reads (λ now. opening_cut_head _ _ now _ run.0 run.1))

pub returns-in-None-clause-reads : goal.returns-in-None-clause-reads
returns-in-None-clause-reads g c =
    let run = rw c.in-Begun.is at c.in_ok-skipped.ensures.run in
    reads_then _ _ (reads_map _ _ _ _ c.skip_run.ensures.reads (λ now. opening_cut_run _ now))
    (reads_map _ _ _ _ c.take_head.ensures.reads (λ now. opening_cut_head _ _ now _ run.0 run.1))

pub returns-in_err-skipped-clause-wanted : goal.returns-in_err-skipped-clause-wanted
returns-in_err-skipped-clause-wanted g c e =
    seen_map _ _ AwaitsHead MayHaveHead (λ bytes awaits. inl awaits) (opening_cut_run _ _ c.in_err-skipped.ensures.cut)

pub returns-in_err-open-clause-wanted : goal.returns-in_err-open-clause-wanted
returns-in_err-open-clause-wanted g c e =
    let exit = err_from_is_err_and c.from_residual-in_err-open.result c.from_residual-in_err-open.ensures.1 in let given = exit.1 in let same = exit.2 in
    let run = rw c.in-Begun.is at c.in_ok-skipped.ensures.run in
    wanted_opening _ _ _ _ run.0 run.1 (c.in_err-open.ensures.wanted (cc))
