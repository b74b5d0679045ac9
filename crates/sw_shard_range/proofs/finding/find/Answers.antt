use Rattle.std.proofs.Common.{◌≡◌, [], ◌++◌, ℕ, List, length, sym, ◌∙◌, ap, arith}
use Rattle.std.specs.Option.{option_copied}
use Rattle.sw_shard_range.specs.Bounds.{every, live_names}
use Rattle.sw_shard_range.proofs.Cutting.{all-bounds, first-bounds, taken-waiting, waiting}
use Rattle.sw_shard_range.proofs.Walks.{walk-names}
use Rattle.sw_shard_range.proofs.finding.find.Goals as goal

pub loop-next-init : goal.loop-next-init
loop-next-init c =
    let names : waiting (option_copied c.next_live-next.result) c.next_live-next.new.left ≡ live_names c.args.rows.now.list =
    taken-waiting c.next_live-next.result c.in_ok-left.left c.next_live-next.new.left c.next_live-next.ensures
    ∙ walk-names c.args.rows.now.list c.in_ok-left.left c.in_ok-left.ensures.rule.once c.in_ok-left.ensures.rows in
    record {
      told = rw c.new-bounds.ensures.items (ap (every c.args.per_shard 0) names);
      fits = omega (arith, c.new-bounds.ensures.len);
      counts = λ some. omega (arith, c.requires);
    }

pub returns-then-len-eq-MOST : goal.returns-then-len-eq-MOST
returns-then-len-eq-MOST c =
    let bounds = c.loop-next.bounds in
    let full : length bounds.items ≡ 4294967294 = omega (arith, bounds.ok.0, c.len.ensures, c.if-len-eq-MOST.true) in
    sym (first-bounds 4294967294 bounds.items _ (every c.args.per_shard 0 (live_names c.args.rows.now.list)) c.loop-next.invariant.told full)

pub returns : goal.returns
returns c =
    let bounds = c.loop-next.bounds in
    let all : List (List ℕ) = every c.args.per_shard 0 (live_names c.args.rows.now.list) in
    let done : bounds.items ++ [] ≡ all = rw c.in_default.is at c.loop-next.invariant.told in
    sym (all-bounds 4294967294 bounds.items all done (omega (arith, bounds.ok.0, c.loop-next.invariant.fits)))
