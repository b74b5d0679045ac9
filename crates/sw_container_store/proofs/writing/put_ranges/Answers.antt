use Rattle.std.proofs.Common.{◌≡◌, ◌∙◌, ◌∷◌, ◌+◌, ◌++◌, ◌<◌, ◌≤◌, [], List, ℕ, length, map, take, refl, sym, ap, subst}
use Rattle.std.proofs.lemmas.List.{take_all, take_more}
use Rattle.sw_shard_range.specs.declared.range.Range.{Range}
use Rattle.sw_container_store.specs.Runs.{RunsAll}
use Rattle.sw_container_store.specs.declared.statements.Command.TheVariants.{CutRanges, PutRange}
use Rattle.sw_container_store.specs.Values.{Asked, range_asked, range_rows, range_values}
use Rattle.sw_container_store.proofs.Ranging.{asked-more}
use Rattle.sw_container_store.proofs.Running.{runs-first, runs-more}
use Rattle.sw_container_store.proofs.writing.put_ranges.Goals as goal

pub loop-range-init : goal.loop-range-init
unfolding RunsAll
loop-range-init g c = record { asked = refl; index = refl; key = refl }

-- one range more
pub loop-range-preserved : goal.loop-range-preserved
loop-range-preserved g c =
    let i = c.loop-range.range-index in
    let items = c.as_slice-range-items.result.now in
    let more : take (i + 1) items ≡ take i items ++ c.range-item.result ∷ [] =
    take_more items i c.range-item.result c.loop-range-test.true ∙ ap (λ (x : Range). take i items ++ x ∷ []) (sym c.range-item.is) in
    let within : i < length c.args.ranges.now =
    subst (λ (list : List Range). i < length list) c.as_slice-range-items.ensures.value c.loop-range-test.true in
    let next = asked-more c.args.ranges.now i c.range-item.result within
    (subst (λ (list : List Range). take (i + 1) list ≡ take i list ++ c.range-item.result ∷ []) c.as_slice-range-items.ensures.value more) in
    record {
      asked = subst (λ (list : List Asked). RunsAll g.D.Database.runs list c.run.new.self c.put_range.new.database) (sym next)
          (runs-more g.D.Database.runs (map range_asked (range_rows 0 (take i c.args.ranges.now))) (range_asked (range_values i c.range-item.result))
          c.run.new.self c.loop-range.database c.put_range.new.database c.loop-range.invariant.asked
          (subst (λ (index : ℕ). g.D.Database.runs PutRange (range_values index c.range-item.result) c.loop-range.database c.put_range.new.database)
          c.loop-range.invariant.index c.in_ok-put_range.ensures.runs));
      index = ap (λ (n : ℕ). n + 1) c.loop-range.invariant.index;
      key = c.put_range.ensures.key ∙ c.loop-range.invariant.key;
    }

pub returns-clause-runs : goal.returns-clause-runs
returns-clause-runs g c =
    runs-first g.D.Database.runs (record { command = CutRanges; values = [] }) (map range_asked (range_rows 0 c.args.ranges.now)) c.args.database.now
    c.run.new.self c.loop-range.database c.in_ok-run.ensures.runs
    (subst (λ (list : List Range). RunsAll g.D.Database.runs (map range_asked (range_rows 0 list)) c.run.new.self c.loop-range.database)
    (take_all c.loop-range.range-index c.args.ranges.now
    (subst (λ (list : List Range). length list ≤ c.loop-range.range-index) c.as_slice-range-items.ensures.value c.loop-range-test.false))
    c.loop-range.invariant.asked)
