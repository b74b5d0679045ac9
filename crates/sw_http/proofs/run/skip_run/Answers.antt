use Rattle.std.proofs.Common.{◌≡◌, ℕ, ◌<◌, List, length, refl, arith, ap, sym, subst, ◌∙◌}
use Rattle.std.proofs.lemmas.Bool.Decides.{nat_tests}
use Rattle.std.proofs.lemmas.Result.{err_from_is_err_and}
use Rattle.std.specs.List.{prefix_len}
use Rattle.sw_http.specs.Input.{test_of}
use Rattle.sw_http.proofs.InputLemmas.{run_step, run_step_stops, run_within, run_kept, run_few, run_too_long, run_is_all, all_at_end, kept_read, kept_unread}
use Rattle.sw_http.proofs.InputLemmas.{read_none, no_bytes, run_cut}
use Rattle.sw_http.proofs.ReadsLemmas.{reads_run, reads_then}
use Rattle.sw_http.proofs.run.skip_run.Goals as goal

pub returns-then-run-limit-clause-run : goal.returns-then-run-limit-clause-run
returns-then-run-limit-clause-run g c =
    let is = c.run_len-run.ensures ∙ ap (prefix_len (test_of c.args.class)) c.rest.ensures in
    run_too_long _ _ _ _ _ (run_step _ _ c.loop-skipped.held _ _ _ _ c.loop-skipped.invariant.taken is refl) (omega arith)

pub advance-requires : goal.advance-requires
advance-requires g c = run_within _ c.loop-skipped.held _ (c.run_len-run.ensures ∙ ap (prefix_len (test_of c.args.class)) c.rest.ensures)

pub returns-then-not-is_empty-clause-run : goal.returns-then-not-is_empty-clause-run
returns-then-not-is_empty-clause-run g c =
    let is = c.run_len-run.ensures ∙ ap (prefix_len (test_of c.args.class)) c.rest.ensures in
    let taken = run_step _ _ c.loop-skipped.held _ _ _ _ c.loop-skipped.invariant.taken is c.advance.ensures in
    let some : 0 < length c.rest-in-loop-skipped.result.now = grind (arith, nat_tests) in
    let held = subst (λ (l : List ℕ). 0 < length l) c.rest-in-loop-skipped.ensures some in
    (taken, omega arith, run_step_stops _ c.loop-skipped.held _ _ is c.advance.ensures held)

pub returns-in_err-read_more-clause-kept : goal.returns-in_err-read_more-clause-kept
returns-in_err-read_more-clause-kept g c =
    let is = c.run_len-run.ensures ∙ ap (prefix_len (test_of c.args.class)) c.rest.ensures in
    let taken = run_step _ _ c.loop-skipped.held _ _ _ _ c.loop-skipped.invariant.taken is c.advance.ensures in
    let kept = kept_unread _ _ _ _ c.in_err-read_more.ensures.read.0 c.in_err-read_more.ensures.read.1 in
    let exit = err_from_is_err_and c.from_residual.result c.from_residual.ensures.1 in
    rw exit.1 (run_few _ _ _ _ _ (run_kept _ _ _ _ _ taken kept) (omega arith))

pub returns-then-branch-eq0-clause-run : goal.returns-then-branch-eq0-clause-run
returns-then-branch-eq0-clause-run g c =
    let is = c.run_len-run.ensures ∙ ap (prefix_len (test_of c.args.class)) c.rest.ensures in
    let taken = run_step _ _ c.loop-skipped.held _ _ _ _ c.loop-skipped.invariant.taken is c.advance.ensures in
    let read = c.in_ok-read_more.ensures.read in
    let end = read.at_end c.if-branch-eq0.true in
    let nothing : length c.rest-in-loop-skipped.result.now ≡ 0 = grind (arith, nat_tests) in
    let none = read_none _ _ _ _ _ read c.if-branch-eq0.true ∙ sym c.rest-in-loop-skipped.ensures ∙ no_bytes _ nothing in
    let all = all_at_end _ _ none end in
    (run_is_all _ _ _ _ _ (run_kept _ _ _ _ _ taken (kept_read _ _ _ _ _ read)) (omega arith) all, end, all)

pub loop-skipped-preserved : goal.loop-skipped-preserved
loop-skipped-preserved g c =
    let is = c.run_len-run.ensures ∙ ap (prefix_len (test_of c.args.class)) c.rest.ensures in
    let taken = run_step _ _ c.loop-skipped.held _ _ _ _ c.loop-skipped.invariant.taken is c.advance.ensures in
    let nothing : length c.rest-in-loop-skipped.result.now ≡ 0 = grind (arith, nat_tests) in
    let none = sym c.rest-in-loop-skipped.ensures ∙ no_bytes _ nothing in
    record {
      few = omega arith;
      taken = run_kept _ _ _ _ _ taken (kept_read _ _ _ _ _ c.in_ok-read_more.ensures.read);
      reads = reads_then _ _ c.loop-skipped.invariant.reads (reads_run _ _ _ _ _ taken (omega arith) none c.read_more.ensures.reads);
      sound = omega (arith, c.in_ok-read_more.ensures.sound);
      same = omega (arith, c.read_more.ensures.source_number);
    }

pub returns-in_err-read_more-clause-cut : goal.returns-in_err-read_more-clause-cut
returns-in_err-read_more-clause-cut g c =
    let exit = err_from_is_err_and c.from_residual.result c.from_residual.ensures.1 in
    let is = c.run_len-run.ensures ∙ ap (prefix_len (test_of c.args.class)) c.rest.ensures in
    let taken = run_step _ _ c.loop-skipped.held _ _ _ _ c.loop-skipped.invariant.taken is c.advance.ensures in
    let nothing : length c.rest-in-loop-skipped.result.now ≡ 0 = grind (arith, nat_tests) in
    let read = c.in_err-read_more.ensures.read in
    rw exit.1 (run_cut _ _ _ _ _ _ _ _ taken (omega arith) (sym c.rest-in-loop-skipped.ensures ∙ no_bytes _ nothing) read.0 read.1)

pub returns-in_err-read_more-clause-reads : goal.returns-in_err-read_more-clause-reads
returns-in_err-read_more-clause-reads g c =
    let is = c.run_len-run.ensures ∙ ap (prefix_len (test_of c.args.class)) c.rest.ensures in
    let taken = run_step _ _ c.loop-skipped.held _ _ _ _ c.loop-skipped.invariant.taken is c.advance.ensures in
    let nothing : length c.rest-in-loop-skipped.result.now ≡ 0 = grind (arith, nat_tests) in
    let none = sym c.rest-in-loop-skipped.ensures ∙ no_bytes _ nothing in
    reads_then _ _ c.loop-skipped.invariant.reads (reads_run _ _ _ _ _ taken (omega arith) none c.read_more.ensures.reads)

pub returns-then-branch-eq0-clause-reads : goal.returns-then-branch-eq0-clause-reads
returns-then-branch-eq0-clause-reads g c =
    let is = c.run_len-run.ensures ∙ ap (prefix_len (test_of c.args.class)) c.rest.ensures in
    let taken = run_step _ _ c.loop-skipped.held _ _ _ _ c.loop-skipped.invariant.taken is c.advance.ensures in
    let nothing : length c.rest-in-loop-skipped.result.now ≡ 0 = grind (arith, nat_tests) in
    let none = sym c.rest-in-loop-skipped.ensures ∙ no_bytes _ nothing in
    reads_then _ _ c.loop-skipped.invariant.reads (reads_run _ _ _ _ _ taken (omega arith) none c.read_more.ensures.reads)
