use Rattle.std.proofs.Common.{Ok, ap, ◌∙◌, ℕ, List, take, refl, sym, subst}
use Rattle.std.specs.Str.Parse.{digits_value}
use Rattle.std.specs.Io.KnownBytes.{Consumes, prepend_known}
use Rattle.sw_http.proofs.InputLemmas.{kept_consumes, front_taken}
use Rattle.sw_http.proofs.LineLemmas.{line_no_tail, line_taken, line_cut_digits, line_cut_tail}
use Rattle.std.proofs.lemmas.Result.{err_from_is_err_and}
use Rattle.sw_http.proofs.ReadsLemmas.{reads_map, reads_then}
use Rattle.sw_http.proofs.chunk_line.take_chunk_line.Goals as goal

pub returns-in_default-2-clause-none : goal.returns-in_default-2-clause-none
returns-in_default-2-clause-none g c _ =
    line_no_tail _ _ _ _ _ _ c.in_ok-digits.ensures.kept (rw c.in-Some.is at c.in_ok-digits.ensures.found) c.advance.ensures
    (c.in_ok-tail.ensures.none (ap Ok c.in_default-2.is))

pub returns-clause-taken : goal.returns-clause-taken
returns-clause-taken g c =
    let held : List ℕ = c.read_digits.new.held in
    let left = g.R.Source.left c.read_digits.new.source in
    let front = kept_consumes _ _ _ _ c.in_ok-digits.ensures.kept
    (subst (λ (l : List ℕ). Consumes (prepend_known held left) (prepend_known l left) (take c.in-Some.digits held)) (sym c.advance.ensures)
    (front_taken held left c.in-Some.digits)) in
    let size = c.size_of-size.ensures ∙ ap (λ (l : List ℕ). digits_value 16 (take c.in-Some.digits l)) c.rest.ensures in
    line_taken _ _ _ _ _ _ _ (rw c.in-Some.is at c.in_ok-digits.ensures.found) front (rw c.in-Some-2.is at c.in_ok-tail.ensures.taken) size refl

pub returns-in_err-tail-clause-cut : goal.returns-in_err-tail-clause-cut
returns-in_err-tail-clause-cut g c =
    let exit = err_from_is_err_and c.from_residual-in_err-tail.result c.from_residual-in_err-tail.ensures.1 in
    rw exit.1 (line_cut_tail _ _ _ _ _ _ _ c.in_ok-digits.ensures.kept (rw c.in-Some.is at c.in_ok-digits.ensures.found) c.advance.ensures
    c.in_err-tail.ensures.cut)

pub returns-in_err-digits-clause-cut : goal.returns-in_err-digits-clause-cut
returns-in_err-digits-clause-cut g c =
    let exit = err_from_is_err_and c.from_residual.result c.from_residual.ensures.1 in
    rw exit.1 (line_cut_digits _ _ _ c.in_err-digits.ensures.cut)

pub returns-in_err-digits-clause-reads : goal.returns-in_err-digits-clause-reads
returns-in_err-digits-clause-reads g c = reads_map _ _ _ _ c.read_digits.ensures.reads (λ now. line_cut_digits _ now _)

pub returns-in_default-clause-reads : goal.returns-in_default-clause-reads
returns-in_default-clause-reads g c = reads_map _ _ _ _ c.read_digits.ensures.reads (λ now. line_cut_digits _ now _)

pub returns-in_err-tail-clause-reads : goal.returns-in_err-tail-clause-reads
returns-in_err-tail-clause-reads g c =
    reads_then _ _ (reads_map _ _ _ _ c.read_digits.ensures.reads (λ now. line_cut_digits _ now _))
    (reads_map _ _ _ _ c.take_tail.ensures.reads
    (λ now. line_cut_tail _ _ _ _ now _ _ c.in_ok-digits.ensures.kept (rw c.in-Some.is at c.in_ok-digits.ensures.found) c.advance.ensures))

pub returns-in_default-2-clause-reads : goal.returns-in_default-2-clause-reads
returns-in_default-2-clause-reads g c =
    reads_then _ _ (reads_map _ _ _ _ c.read_digits.ensures.reads (λ now. line_cut_digits _ now _))
    (reads_map _ _ _ _ c.take_tail.ensures.reads
    (λ now. line_cut_tail _ _ _ _ now _ _ c.in_ok-digits.ensures.kept (rw c.in-Some.is at c.in_ok-digits.ensures.found) c.advance.ensures))

pub returns-clause-reads : goal.returns-clause-reads
returns-clause-reads g c =
    reads_then _ _ (reads_map _ _ _ _ c.read_digits.ensures.reads (λ now. line_cut_digits _ now _))
    (reads_map _ _ _ _ c.take_tail.ensures.reads
    (λ now. line_cut_tail _ _ _ _ now _ _ c.in_ok-digits.ensures.kept (rw c.in-Some.is at c.in_ok-digits.ensures.found) c.advance.ensures))
