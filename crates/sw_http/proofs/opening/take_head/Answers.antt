use Rattle.std.proofs.Common.{ℕ, List, subst, inl}
use Rattle.sw_http.specs.Opening.{IsHeadCut, MayBeginHead}
use Rattle.sw_http.proofs.InputLemmas.{seen_map}
use Rattle.sw_http.proofs.OpeningLemmas.{AreCopied, head_taken, wanted_head}
use Rattle.sw_http.proofs.opening.take_head.Goals as goal

pub returns-clause-taken : goal.returns-clause-taken
returns-clause-taken g c =
    let copied : AreCopied c.rest.result.now c.read_head.new.headers c.in-Some.spans c.in_ok-open.open = record {
      method = c.in_ok-open.ensures.method;
      path = c.in_ok-open.ensures.path;
      query = c.in_ok-open.ensures.query;
      fields = c.in_ok-open.ensures.fields;
    } in
    head_taken _ _ _ _ c.read_head.new.headers c.in-Some.spans c.in_ok-open.open c.read_head.ensures.kept (rw c.in-Some.is at c.in_ok-spans.ensures.found)
    c.advance.ensures
    (subst (λ (b : List ℕ). AreCopied b c.read_head.new.headers c.in-Some.spans c.in_ok-open.open) c.rest.ensures copied)

pub returns-in_err-spans-clause-cut : goal.returns-in_err-spans-clause-cut
returns-in_err-spans-clause-cut g c e = c.in_err-spans.ensures.cut

pub returns-in_err-spans-clause-wanted : goal.returns-in_err-spans-clause-wanted
returns-in_err-spans-clause-wanted g c e = seen_map _ _ IsHeadCut MayBeginHead (λ bytes cut. inl cut) c.in_err-spans.ensures.cut

pub returns-in_err-open-clause-wanted : goal.returns-in_err-open-clause-wanted
returns-in_err-open-clause-wanted g c e =
    wanted_head _ _ _ c.read_head.new.headers c.in-Some.spans c.in_ok-spans.ensures.kept (rw c.in-Some.is at c.in_ok-spans.ensures.found)
