use Rattle.std.proofs.Common.{◌≡◌, ℕ, ◌≤◌, List, length, take, ap, sym, ◌∙◌, arith}
use Rattle.std.proofs.lemmas.Bool.Decides.{nat_tests}
use Rattle.sw_http.specs.Body.{extended}
use Rattle.sw_http.proofs.BodyLemmas.{content_cut, content_cut_straight, content_step, content_straight, content_kept}
use Rattle.sw_http.proofs.ReadsLemmas.{reads_map, reads_then}
use Rattle.sw_http.proofs.content.take_content.Goals as goal

pub loop-taken-preserved : goal.loop-taken-preserved
loop-taken-preserved g c =
    let takes = content_kept _ _ _ _ _ _ c.loop-taken.invariant.takes c.hold_some.ensures.kept in
    let within : c.min-piece.result ≤ length c.hold_some.new.held = omega (arith, ap length c.rest-else-left-ge-PIECE.ensures) in
    let now = c.in_ok-keep.ensures.kept ∙ ap (λ (l : List ℕ). extended c.loop-taken.body (take c.min-piece.result l)) c.rest-else-left-ge-PIECE-2.ensures in
    record {
      few = omega arith;
      takes = content_step _ _ _ _ _ _ _ _ _ takes within c.advance.ensures now;
      reads = reads_then _ _ c.loop-taken.invariant.reads
          (reads_map _ _ _ _ c.hold_some.ensures.reads (λ now. content_cut _ _ now _ _ _ _ c.loop-taken.invariant.takes (omega arith)));
      sound = omega (arith, c.in_ok-hold_some.ensures.sound);
      same = omega (arith, c.hold_some.ensures.source_number);
    }

pub returns-in_err-hold_some-clause-reads : goal.returns-in_err-hold_some-clause-reads
returns-in_err-hold_some-clause-reads g c =
    reads_then _ _ c.loop-taken.invariant.reads
    (reads_map _ _ _ _ c.hold_some.ensures.reads (λ now. content_cut _ _ now _ _ _ _ c.loop-taken.invariant.takes (omega arith)))

pub returns-then-not-branch-clause-reads : goal.returns-then-not-branch-clause-reads
returns-then-not-branch-clause-reads g c =
    reads_then _ _ c.loop-taken.invariant.reads
    (reads_map _ _ _ _ c.hold_some.ensures.reads (λ now. content_cut _ _ now _ _ _ _ c.loop-taken.invariant.takes (omega arith)))

pub returns-in_err-keep-clause-reads : goal.returns-in_err-keep-clause-reads
returns-in_err-keep-clause-reads g c =
    reads_then _ _ c.loop-taken.invariant.reads
    (reads_map _ _ _ _ c.hold_some.ensures.reads (λ now. content_cut _ _ now _ _ _ _ c.loop-taken.invariant.takes (omega arith)))

pub returns-in_err-given-clause-reads : goal.returns-in_err-given-clause-reads
returns-in_err-given-clause-reads g c =
    let nothing : length c.rest.result.now ≡ 0 = grind (arith, nat_tests) in
    let none : length c.loop-taken.held ≡ 0 = ap length (sym c.rest.ensures) ∙ nothing in
    reads_then _ _ c.loop-taken.invariant.reads
    (reads_map _ _ _ _ c.read_straight.ensures.reads (λ now. content_cut_straight _ _ now _ _ _ _ _ c.loop-taken.invariant.takes (omega arith) none))

pub returns-then-given-eq0-clause-reads : goal.returns-then-given-eq0-clause-reads
returns-then-given-eq0-clause-reads g c =
    let nothing : length c.rest.result.now ≡ 0 = grind (arith, nat_tests) in
    let none : length c.loop-taken.held ≡ 0 = ap length (sym c.rest.ensures) ∙ nothing in
    reads_then _ _ c.loop-taken.invariant.reads
    (reads_map _ _ _ _ c.read_straight.ensures.reads (λ now. content_cut_straight _ _ now _ _ _ _ _ c.loop-taken.invariant.takes (omega arith) none))

pub loop-taken-preserved-then-has_room : goal.loop-taken-preserved-then-has_room
loop-taken-preserved-then-has_room g c =
    let nothing : length c.rest.result.now ≡ 0 = grind (arith, nat_tests) in
    let none : length c.loop-taken.held ≡ 0 = ap length (sym c.rest.ensures) ∙ nothing in
    let given = c.in_ok-given.ensures.taken in
    record {
      few = omega (arith, given.0);
      takes = content_straight _ _ _ _ _ _ _ _ _ c.loop-taken.invariant.takes none given.1;
      reads = reads_then _ _ c.loop-taken.invariant.reads
          (reads_map _ _ _ _ c.read_straight.ensures.reads (λ now. content_cut_straight _ _ now _ _ _ _ _ c.loop-taken.invariant.takes (omega arith) none));
      sound = omega (arith, c.in_ok-given.ensures.sound, c.loop-taken.invariant.sound);
      same = omega (arith, c.read_straight.ensures.source_number, c.loop-taken.invariant.same);
    }
