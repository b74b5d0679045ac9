use Rattle.std.proofs.Common.{ℕ, ◌<◌, ◌≤◌, List, length, arith, sym, ap, ◌∙◌, subst}
use Rattle.std.proofs.KnownBytes.{Keeps-trans}
use Rattle.std.proofs.lemmas.Result.{err_from_is_err_and}
use Rattle.std.specs.Char.{is_ascii_hexdigit}
use Rattle.std.specs.List.{prefix_len}
use Rattle.sw_http.specs.ChunkSteps.{HasNoLine, IsDigitsCut}
use Rattle.sw_http.proofs.InputLemmas.{kept_read, read_none, if_kept, if_always, if_ended, seen_held, seen_kept}
use Rattle.sw_http.proofs.LineLemmas.{no_line_long, no_line_empty, no_line_ended, has_digits, digits_cut}
use Rattle.sw_http.proofs.ReadsLemmas.{reads_more}
use Rattle.sw_http.proofs.chunk_line.read_digits.Goals as goal

pub returns-then-run-gt-MAX_SIZE_DIGITS-clause-none : goal.returns-then-run-gt-MAX_SIZE_DIGITS-clause-none
returns-then-run-gt-MAX_SIZE_DIGITS-clause-none g c _ =
    let is = c.digit_run-run.ensures ∙ ap (prefix_len is_ascii_hexdigit) c.rest.ensures in
    if_kept _ _ HasNoLine c.loop-run.invariant.kept (if_always _ _ HasNoLine (no_line_long _ _ is c.if-run-gt-MAX_SIZE_DIGITS.true))

pub returns-then-run-eq0-clause-none : goal.returns-then-run-eq0-clause-none
returns-then-run-eq0-clause-none g c _ =
    let is = c.digit_run-run.ensures ∙ ap (prefix_len is_ascii_hexdigit) c.rest.ensures in
    let inside = subst (λ (l : List ℕ). c.digit_run-run.result < length l) c.rest-in-loop-run.ensures c.if-run-rest.true in
    if_kept _ _ HasNoLine c.loop-run.invariant.kept (if_always _ _ HasNoLine (no_line_empty _ _ is c.if-run-eq0.true inside))

pub returns-else-run-eq0-clause-found : goal.returns-else-run-eq0-clause-found
returns-else-run-eq0-clause-found g c =
    let is = c.digit_run-run.ensures ∙ ap (prefix_len is_ascii_hexdigit) c.rest.ensures in
    let inside = subst (λ (l : List ℕ). c.digit_run-run.result < length l) c.rest-in-loop-run.ensures c.if-run-rest.true in
    has_digits _ _ is (omega arith) (omega arith) inside

pub returns-then-branch-eq0-clause-none : goal.returns-then-branch-eq0-clause-none
returns-then-branch-eq0-clause-none g c _ =
    let is = c.digit_run-run.ensures ∙ ap (prefix_len is_ascii_hexdigit) c.rest.ensures in
    let all = subst (λ (l : List ℕ). length l ≤ c.digit_run-run.result) c.rest-in-loop-run.ensures (omega arith) in
    let read = c.in_ok-read_more.ensures.read in
    let none_there = subst HasNoLine (sym (read_none _ _ _ _ _ read c.if-branch-eq0.true)) (no_line_ended _ _ is all) in
    if_kept _ _ HasNoLine (Keeps-trans _ _ _ c.loop-run.invariant.kept (kept_read _ _ _ _ _ read))
    (if_ended _ _ HasNoLine none_there (read.at_end c.if-branch-eq0.true))

pub returns-in_err-read_more-clause-cut : goal.returns-in_err-read_more-clause-cut
returns-in_err-read_more-clause-cut g c =
    let exit = err_from_is_err_and c.from_residual.result c.from_residual.ensures.1 in
    let is = c.digit_run-run.ensures ∙ ap (prefix_len is_ascii_hexdigit) c.rest.ensures in
    let all = subst (λ (l : List ℕ). length l ≤ c.digit_run-run.result) c.rest-in-loop-run.ensures (omega arith) in
    let read = c.in_err-read_more.ensures.read in
    rw exit.1 (seen_kept _ _ _ IsDigitsCut c.loop-run.invariant.kept (seen_held _ _ _ _ IsDigitsCut read.0 read.1 (digits_cut _ _ is all (omega arith))))

pub returns-in_err-read_more-clause-reads : goal.returns-in_err-read_more-clause-reads
returns-in_err-read_more-clause-reads g c =
    let is = c.digit_run-run.ensures ∙ ap (prefix_len is_ascii_hexdigit) c.rest.ensures in
    let all = subst (λ (l : List ℕ). length l ≤ c.digit_run-run.result) c.rest-in-loop-run.ensures (omega arith) in
    reads_more _ c.loop-run.held _ c.loop-run.invariant.reads c.loop-run.invariant.kept (digits_cut _ _ is all (omega arith))
    c.read_more.ensures.reads

pub returns-then-branch-eq0-clause-reads : goal.returns-then-branch-eq0-clause-reads
returns-then-branch-eq0-clause-reads g c =
    let is = c.digit_run-run.ensures ∙ ap (prefix_len is_ascii_hexdigit) c.rest.ensures in
    let all = subst (λ (l : List ℕ). length l ≤ c.digit_run-run.result) c.rest-in-loop-run.ensures (omega arith) in
    reads_more _ c.loop-run.held _ c.loop-run.invariant.reads c.loop-run.invariant.kept (digits_cut _ _ is all (omega arith))
    c.read_more.ensures.reads

pub loop-run-preserved : goal.loop-run-preserved
loop-run-preserved g c =
    let is = c.digit_run-run.ensures ∙ ap (prefix_len is_ascii_hexdigit) c.rest.ensures in
    let all = subst (λ (l : List ℕ). length l ≤ c.digit_run-run.result) c.rest-in-loop-run.ensures (omega arith) in
    record {
      kept = Keeps-trans _ _ _ c.loop-run.invariant.kept (kept_read _ _ _ _ _ c.in_ok-read_more.ensures.read);
      reads = reads_more _ c.loop-run.held _ c.loop-run.invariant.reads c.loop-run.invariant.kept (digits_cut _ _ is all (omega arith))
          c.read_more.ensures.reads;
      sound = omega (arith, c.in_ok-read_more.ensures.sound, c.loop-run.invariant.sound);
      same = omega (arith, c.read_more.ensures.source_number, c.loop-run.invariant.same);
    }
