use Rattle.std.proofs.Common.{rules, ℕ, ◌<◌, ◌≤◌, List, length, refl, arith, sym, subst, ◌∙◌}
use Rattle.std.proofs.KnownBytes.{Keeps-refl, Keeps-trans}
use Rattle.std.proofs.lemmas.Result.{err_from_is_err_and}
use Rattle.sw_http.specs.ChunkSteps.{HasNoTrailer, IsTrailerCut}
use Rattle.httparse.specs.Grammar.{MayBecomeSection}
use Rattle.sw_http.specs.Fronts.{IsUnfinished}
use Rattle.sw_http.proofs.TrailerLemmas.{no_trailer_in_none, never_long}
use Rattle.sw_http.proofs.InputLemmas.{unfinished_none, unfinished_still, front_read, longer_read, seen_still}
use Rattle.sw_http.proofs.InputLemmas.{kept_read, read_none, if_kept, if_always, if_ended}
use Rattle.sw_http.proofs.ReadsLemmas.{reads_more, reads_none}
use Rattle.sw_http.proofs.trailer.read_trailer.Goals as goal

pub loop-len-init : goal.loop-len-init
loop-len-init g c = record {
  room = omega arith;
  within = omega arith;
  none_seen = no_trailer_in_none _ refl;
  unfinished = unfinished_none _;
  kept = Keeps-refl _;
  reads = reads_none _ _ _;
  sound = omega arith;
  same = omega arith;
}

pub returns-then-seen-ge-MAX_HEAD-clause-none : goal.returns-then-seen-ge-MAX_HEAD-clause-none
returns-then-seen-ge-MAX_HEAD-clause-none g c _ =
    let none_there = subst HasNoTrailer c.rest.ensures c.in-NotYet.ensures.look in
    let long = subst (λ (l : List ℕ). 65536 ≤ length l) c.rest-seen.ensures c.if-seen-ge-MAX_HEAD.true in
    if_kept _ _ HasNoTrailer c.loop-len.invariant.kept (if_always _ _ HasNoTrailer (never_long _ none_there long))

pub returns-then-branch-eq0-clause-none : goal.returns-then-branch-eq0-clause-none
returns-then-branch-eq0-clause-none g c _ =
    let read = c.in_ok-read_more.ensures.read in
    let none_there = subst HasNoTrailer (c.rest.ensures ∙ sym (read_none _ _ _ _ _ read c.if-branch-eq0.true)) c.in-NotYet.ensures.look in
    if_kept _ _ HasNoTrailer (Keeps-trans _ _ _ c.loop-len.invariant.kept (kept_read _ _ _ _ _ read))
    (if_ended _ _ HasNoTrailer none_there (read.at_end c.if-branch-eq0.true))

pub loop-len-preserved : goal.loop-len-preserved
loop-len-preserved g c =
    let read = c.in_ok-read_more.ensures.read in
    let none_there = subst HasNoTrailer c.rest.ensures c.in-NotYet.ensures.look in
    let still = unfinished_still MayBecomeSection _ _ (rw c.rest.ensures c.loop-len.invariant.unfinished) c.in-NotYet.ensures.unfinished in
    let cut : IsTrailerCut c.loop-len.held = record {
      none = subst HasNoTrailer c.rest.ensures c.in-NotYet.ensures.look;
      short = subst (λ (l : List ℕ). length l < 65536) c.rest-seen.ensures c.if-seen-ge-MAX_HEAD.false;
      unfinished = subst (IsUnfinished MayBecomeSection) c.rest.ensures still;
    } in
    record {
      room = search rules;
      within = rw c.rest-seen.ensures (longer_read _ _ _ _ _ read);
      none_seen = rw c.rest-seen.ensures (front_read HasNoTrailer _ _ _ _ _ none_there read);
      unfinished =
          rw c.rest-seen.ensures (front_read (IsUnfinished MayBecomeSection) _ _ _ _ _ (subst (IsUnfinished MayBecomeSection) c.rest.ensures still) read);
      kept = Keeps-trans _ _ _ c.loop-len.invariant.kept (kept_read _ _ _ _ _ read);
      reads = reads_more _ c.loop-len.held _ c.loop-len.invariant.reads c.loop-len.invariant.kept cut c.read_more.ensures.reads;
      sound = search rules;
      same = search rules;
    }

pub returns-in_err-read_more-clause-cut : goal.returns-in_err-read_more-clause-cut
returns-in_err-read_more-clause-cut g c =
    let exit = err_from_is_err_and c.from_residual.result c.from_residual.ensures.1 in
    let still = unfinished_still MayBecomeSection _ _ (rw c.rest.ensures c.loop-len.invariant.unfinished) c.in-NotYet.ensures.unfinished in
    rw exit.1 (seen_still _ c.loop-len.held _ _ _ IsTrailerCut c.loop-len.invariant.kept
    c.in_err-read_more.ensures.read.0 c.in_err-read_more.ensures.read.1 (record {
      none = subst HasNoTrailer c.rest.ensures c.in-NotYet.ensures.look;
      short = subst (λ (l : List ℕ). length l < 65536) c.rest-seen.ensures c.if-seen-ge-MAX_HEAD.false;
      unfinished = subst (IsUnfinished MayBecomeSection) c.rest.ensures still;
    }))

pub returns-in_err-read_more-clause-reads : goal.returns-in_err-read_more-clause-reads
returns-in_err-read_more-clause-reads g c =
    let still = unfinished_still MayBecomeSection _ _ (rw c.rest.ensures c.loop-len.invariant.unfinished) c.in-NotYet.ensures.unfinished in
    let cut : IsTrailerCut c.loop-len.held = record {
      none = subst HasNoTrailer c.rest.ensures c.in-NotYet.ensures.look;
      short = subst (λ (l : List ℕ). length l < 65536) c.rest-seen.ensures c.if-seen-ge-MAX_HEAD.false;
      unfinished = subst (IsUnfinished MayBecomeSection) c.rest.ensures still;
    } in
    reads_more _ c.loop-len.held _ c.loop-len.invariant.reads c.loop-len.invariant.kept cut c.read_more.ensures.reads

pub returns-then-branch-eq0-clause-reads : goal.returns-then-branch-eq0-clause-reads
returns-then-branch-eq0-clause-reads g c =
    let still = unfinished_still MayBecomeSection _ _ (rw c.rest.ensures c.loop-len.invariant.unfinished) c.in-NotYet.ensures.unfinished in
    let cut : IsTrailerCut c.loop-len.held = record {
      none = subst HasNoTrailer c.rest.ensures c.in-NotYet.ensures.look;
      short = subst (λ (l : List ℕ). length l < 65536) c.rest-seen.ensures c.if-seen-ge-MAX_HEAD.false;
      unfinished = subst (IsUnfinished MayBecomeSection) c.rest.ensures still;
    } in
    reads_more _ c.loop-len.held _ c.loop-len.invariant.reads c.loop-len.invariant.kept cut c.read_more.ensures.reads
