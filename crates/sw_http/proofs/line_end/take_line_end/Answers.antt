use Rattle.std.proofs.Common.{arith, subst, sym, ◌∙◌}
use Rattle.std.proofs.KnownBytes.{Keeps-trans}
use Rattle.sw_http.specs.Input.{IsLineEndCut}
use Rattle.sw_http.proofs.InputLemmas.{end_cut, kept_read, longer_read}
use Rattle.sw_http.proofs.ReadsLemmas.{reads_more}
use Rattle.sw_http.proofs.line_end.take_line_end.Goals as goal

pub returns-then-branch-eq0-clause-reads : goal.returns-then-branch-eq0-clause-reads
returns-then-branch-eq0-clause-reads g c =
    let cut : IsLineEndCut c.loop-held.held = subst IsLineEndCut c.rest-in-loop-held.ensures
    (end_cut c.rest-in-loop-held.result.now _
    (λ after e. let yes = c.begins_with.ensures.all after (c.rest.ensures ∙ sym c.rest-in-loop-held.ensures ∙ e) in let no = c.if-begins_with.false in cc)
    (c.begins_with-in-loop-held.ensures.found c.if-not-begins_with.false)) in
    reads_more _ c.loop-held.held _ c.loop-held.invariant.reads c.loop-held.invariant.kept (cut, c.loop-held.invariant.more) c.read_more.ensures.reads

pub loop-held-preserved : goal.loop-held-preserved
loop-held-preserved g c =
    let read = c.in_ok-read_more.ensures.read in
    let cut : IsLineEndCut c.loop-held.held = subst IsLineEndCut c.rest-in-loop-held.ensures
    (end_cut c.rest-in-loop-held.result.now _
    (λ after e. let yes = c.begins_with.ensures.all after (c.rest.ensures ∙ sym c.rest-in-loop-held.ensures ∙ e) in let no = c.if-begins_with.false in cc)
    (c.begins_with-in-loop-held.ensures.found c.if-not-begins_with.false)) in
    record {
      kept = Keeps-trans _ _ _ c.loop-held.invariant.kept (kept_read _ _ _ _ _ read);
      more = omega (arith, c.loop-held.invariant.more, longer_read _ _ _ _ _ read);
      reads = reads_more _ c.loop-held.held _ c.loop-held.invariant.reads c.loop-held.invariant.kept (cut, c.loop-held.invariant.more)
          c.read_more.ensures.reads;
      sound = omega (arith, c.in_ok-read_more.ensures.sound, c.loop-held.invariant.sound);
      same = omega (arith, c.read_more.ensures.source_number, c.loop-held.invariant.same);
    }
