use Rattle.std.proofs.Common.{◌≡◌, Ok, Err, ap, inr}
use Rattle.std.proofs.lemmas.Result.{err_from_is_err_and}
use Rattle.sw_http.specs.Input.{fault_of}
use Rattle.sw_http.specs.declared.reader.HttpFault.TheVariants as faults
use Rattle.sw_http.proofs.RequestLemmas.{called_once, cut_body, cut_opening, fault_is_failed, request_taken, refuses_body, refuses_headless, told_whole}
use Rattle.sw_http.proofs.RequestLemmas.{needs_body, needs_opening, fault_is_wanting, wanted_body}
use Rattle.sw_http.proofs.InputLemmas.{seen_read}
use Rattle.sw_http.proofs.ReadsLemmas.{reads_map, reads_then}
use Rattle.sw_http.proofs.reader.next_request.Goals as goal

pub returns-in-Some-clause-request : goal.returns-in-Some-clause-request
returns-in-Some-clause-request g c =
    let opens = rw c.in-Head.is at c.in_ok-open.ensures.opening in
    let taken = rw c.in-Some.is at c.in_ok-body.ensures.taken in
    request_taken _ _ _ _ _ c.in-Head.open c.in-Head.room c.in-Some.body c.request_of.result opens c.in_ok-body.ensures.told taken c.request_of.ensures

pub returns-in-None-clause-bad : goal.returns-in-None-clause-bad
returns-in-None-clause-bad g c _ =
    let opens = rw c.in-Head.is at c.in_ok-open.ensures.opening in
    let none = c.in_ok-body.ensures.none (ap Ok c.in-None.is) in
    refuses_body _ _ _ (g.W.Sink.taken c.read_body.new.out) c.in-Head.open c.in-Head.room opens c.in_ok-body.ensures.told none

pub returns-in-None-clause-may_continue : goal.returns-in-None-clause-may_continue
returns-in-None-clause-may_continue g c =
    let opens = rw c.in-Head.is at c.in_ok-open.ensures.opening in
    inr (told_whole _ _ _ _ c.in-Head.open c.in-Head.room opens c.in_ok-body.ensures.told)

pub returns-in_err-open-clause-seen : goal.returns-in_err-open-clause-seen
returns-in_err-open-clause-seen g c e =
    let exit = err_from_is_err_and c.from_residual.result c.from_residual.ensures.1 in
    let given = exit.1 in
    let same = exit.2 in
    let failed : fault_of c.in_err-open.field-0.0 ≡ faults.ReadFault = cc in
    cut_opening _ _ _ _ (c.in_err-open.ensures.cut (ap Err (fault_is_failed _ failed)))

pub returns-in-Bad-clause-bad : goal.returns-in-Bad-clause-bad
returns-in-Bad-clause-bad g c _ = refuses_headless _ _ (rw c.in-Bad.is at c.in_ok-open.ensures.opening)

pub returns-in_err-body-clause-seen : goal.returns-in_err-body-clause-seen
returns-in_err-body-clause-seen g c e =
    let exit = err_from_is_err_and c.from_residual-in_err-body.result c.from_residual-in_err-body.ensures.1 in
    let given = exit.1 in
    let same = exit.2 in
    let opens = rw c.in-Head.is at c.in_ok-open.ensures.opening in
    cut_body _ _ _ _ _ _ _ c.in-Head.open c.in-Head.room opens (c.in_err-body.ensures.told_first (cc)) c.in_err-body.ensures.puts
    (c.in_err-body.ensures.cut (cc))

pub returns-in_err-body-clause-puts : goal.returns-in_err-body-clause-puts
returns-in_err-body-clause-puts g c =
    let opens = rw c.in-Head.is at c.in_ok-open.ensures.opening in
    called_once _ _ c.in-Head.open c.in-Head.room _ _ opens c.in_err-body.ensures.puts

pub returns-in-Some-clause-puts : goal.returns-in-Some-clause-puts
returns-in-Some-clause-puts g c =
    let opens = rw c.in-Head.is at c.in_ok-open.ensures.opening in
    called_once _ _ c.in-Head.open c.in-Head.room _ _ opens c.in_ok-body.ensures.puts

pub returns-in_err-open-clause-reads : goal.returns-in_err-open-clause-reads
returns-in_err-open-clause-reads g c = reads_map _ _ _ _ c.take_opening.ensures.reads (λ now. needs_opening _ now)

pub returns-in-Ended-clause-reads : goal.returns-in-Ended-clause-reads
returns-in-Ended-clause-reads g c = reads_map _ _ _ _ c.take_opening.ensures.reads (λ now. needs_opening _ now)

pub returns-in-Bad-clause-reads : goal.returns-in-Bad-clause-reads
returns-in-Bad-clause-reads g c = reads_map _ _ _ _ c.take_opening.ensures.reads (λ now. needs_opening _ now)

pub returns-in_err-body-clause-reads : goal.returns-in_err-body-clause-reads
returns-in_err-body-clause-reads g c =
    let opens = rw c.in-Head.is at c.in_ok-open.ensures.opening in
    reads_then _ _ (reads_map _ _ _ _ c.take_opening.ensures.reads (λ now. needs_opening _ now))
    (reads_map _ _ _ _ c.read_body.ensures.reads (λ now. needs_body _ _ now c.in-Head.open c.in-Head.room opens))

pub returns-in-Some-clause-reads : goal.returns-in-Some-clause-reads
returns-in-Some-clause-reads g c =
    let opens = rw c.in-Head.is at c.in_ok-open.ensures.opening in
    reads_then _ _ (reads_map _ _ _ _ c.take_opening.ensures.reads (λ now. needs_opening _ now))
    (reads_map _ _ _ _ c.read_body.ensures.reads (λ now. needs_body _ _ now c.in-Head.open c.in-Head.room opens))

pub returns-in-None-clause-reads : goal.returns-in-None-clause-reads
returns-in-None-clause-reads g c =
    let opens = rw c.in-Head.is at c.in_ok-open.ensures.opening in
    reads_then _ _ (reads_map _ _ _ _ c.take_opening.ensures.reads (λ now. needs_opening _ now))
    (reads_map _ _ _ _ c.read_body.ensures.reads (λ now. needs_body _ _ now c.in-Head.open c.in-Head.room opens))

pub returns-in-None-clause-puts : goal.returns-in-None-clause-puts
returns-in-None-clause-puts g c =
    let opens = rw c.in-Head.is at c.in_ok-open.ensures.opening in
    called_once _ _ c.in-Head.open c.in-Head.room _ _ opens c.in_ok-body.ensures.puts

pub returns-in_err-open-clause-wanted : goal.returns-in_err-open-clause-wanted
returns-in_err-open-clause-wanted g c e =
    let exit = err_from_is_err_and c.from_residual.result c.from_residual.ensures.1 in
    let given = exit.1 in
    let same = exit.2 in
    let wanting : fault_of c.in_err-open.field-0.0 ≡ faults.NoMemory = cc in
    c.in_err-open.ensures.wanted (ap Err (fault_is_wanting _ wanting))

pub returns-in_err-body-clause-wanted : goal.returns-in_err-body-clause-wanted
returns-in_err-body-clause-wanted g c e =
    let opens = rw c.in-Head.is at c.in_ok-open.ensures.opening in
    wanted_body _ _ _ c.in-Head.open c.in-Head.room opens (seen_read _ _ _ _ c.read_body.ensures.reads.given)
