use Rattle.std.proofs.Common.{ℕ, List, [], ◌∷◌, drop, sym, ap, ◌∙◌}
use Rattle.std.specs.Io.KnownBytes.{Consumes, prepend_known}
use Rattle.sw_http.proofs.InputLemmas.{text_taken}
use Rattle.sw_http.proofs.LineLemmas.{extension_present, extension_cut}
use Rattle.std.proofs.lemmas.Result.{err_from_is_err_and}
use Rattle.sw_http.proofs.ReadsLemmas.{reads_map, reads_none}
use Rattle.sw_http.proofs.chunk_line.take_extension.Goals as goal

pub returns-in-Some-clause-taken : goal.returns-in-Some-clause-taken
returns-in-Some-clause-taken g c =
    let text = sym c.rest.ensures ∙ c.begins_with.ensures.found c.if-not-begins_with.false ∙ ap (λ (l : List ℕ). 59 ∷ l)
    (ap (drop 1) c.rest.ensures ∙ sym c.advance.ensures) in
    let semicolon : Consumes (prepend_known c.args.held.now (g.R.Source.left c.args.source.now))
    (prepend_known c.advance.new.self (g.R.Source.left c.args.source.now)) (59 ∷ []) =
    text_taken _ _ (59 ∷ []) _ text in
    extension_present _ _ _ _ _ semicolon (rw c.in-Some.is at c.in_ok-len.ensures.taken) (rw c.in-Some.is at c.in_ok-len.ensures.stops)

pub returns-in_err-len-clause-cut : goal.returns-in_err-len-clause-cut
returns-in_err-len-clause-cut g c =
    let exit = err_from_is_err_and c.from_residual.result c.from_residual.ensures.1 in
    let text = sym c.rest.ensures ∙ c.begins_with.ensures.found c.if-not-begins_with.false ∙ ap (λ (l : List ℕ). 59 ∷ l)
    (ap (drop 1) c.rest.ensures ∙ sym c.advance.ensures) in
    let semicolon : Consumes (prepend_known c.args.held.now (g.R.Source.left c.args.source.now))
    (prepend_known c.advance.new.self (g.R.Source.left c.args.source.now)) (59 ∷ []) =
    text_taken _ _ (59 ∷ []) _ text in
    rw exit.1 (extension_cut _ _ _ _ semicolon c.in_err-len.ensures.cut)

pub returns-then-not-begins_with-clause-reads : goal.returns-then-not-begins_with-clause-reads
returns-then-not-begins_with-clause-reads g c = reads_none _ _ _

pub returns-in_err-len-clause-reads : goal.returns-in_err-len-clause-reads
returns-in_err-len-clause-reads g c =
    let text = sym c.rest.ensures ∙ c.begins_with.ensures.found c.if-not-begins_with.false ∙ ap (λ (l : List ℕ). 59 ∷ l)
    (ap (drop 1) c.rest.ensures ∙ sym c.advance.ensures) in
    let semicolon : Consumes (prepend_known c.args.held.now (g.R.Source.left c.args.source.now))
    (prepend_known c.advance.new.self (g.R.Source.left c.args.source.now)) (59 ∷ []) =
    text_taken _ _ (59 ∷ []) _ text in
    reads_map _ _ _ _ c.take_run.ensures.reads (λ now. extension_cut _ _ now _ semicolon)

pub returns-in-Some-clause-reads : goal.returns-in-Some-clause-reads
returns-in-Some-clause-reads g c =
    let text = sym c.rest.ensures ∙ c.begins_with.ensures.found c.if-not-begins_with.false ∙ ap (λ (l : List ℕ). 59 ∷ l)
    (ap (drop 1) c.rest.ensures ∙ sym c.advance.ensures) in
    let semicolon : Consumes (prepend_known c.args.held.now (g.R.Source.left c.args.source.now))
    (prepend_known c.advance.new.self (g.R.Source.left c.args.source.now)) (59 ∷ []) =
    text_taken _ _ (59 ∷ []) _ text in
    reads_map _ _ _ _ c.take_run.ensures.reads (λ now. extension_cut _ _ now _ semicolon)

pub returns-in-None-clause-reads : goal.returns-in-None-clause-reads
returns-in-None-clause-reads g c =
    let text = sym c.rest.ensures ∙ c.begins_with.ensures.found c.if-not-begins_with.false ∙ ap (λ (l : List ℕ). 59 ∷ l)
    (ap (drop 1) c.rest.ensures ∙ sym c.advance.ensures) in
    let semicolon : Consumes (prepend_known c.args.held.now (g.R.Source.left c.args.source.now))
    (prepend_known c.advance.new.self (g.R.Source.left c.args.source.now)) (59 ∷ []) =
    text_taken _ _ (59 ∷ []) _ text in
    reads_map _ _ _ _ c.take_run.ensures.reads (λ now. extension_cut _ _ now _ semicolon)
