use Rattle.std.proofs.Common.{◌≡◌, ◌∙◌, ◌+◌, ◌∷◌, ◌++◌, [], List, Option, IfSome, length, take, sym, ap, subst, arith}
use Rattle.std.proofs.lemmas.List.{take_more}
use Rattle.sqlite_value.specs.Order.{Row as SqlRow}
use Rattle.sw_shard_range.specs.declared.range.Range.{Range}
use Rattle.sw_container_store.specs.Values.{range_rows, range_values}
use Rattle.sw_container_store.proofs.Ranging.{rows-more}
use Rattle.sw_container_store.proofs.reading_ranges.ranges_of.Goals as goal

-- one range more
pub loop-row-preserved : goal.loop-row-preserved
loop-row-preserved c =
    let i = c.loop-row.row-index in
    let rows = c.args.rows.now in
    let list = c.loop-row.list.items in
    let range = c.in-Some.range in
    let more : take (i + 1) rows ≡ take i rows ++ c.row-item.result ∷ [] =
    take_more rows i c.row-item.result c.loop-row-test.true ∙ ap (λ (x : SqlRow). take i rows ++ x ∷ []) (sym c.row-item.is) in
    let its : c.row-item.result ≡ range_values c.len.result range =
    subst (λ (o : Option Range). IfSome o (λ r. c.row-item.result ≡ range_values c.len.result r)) c.in-Some.is c.in_ok-range.ensures in
    let index : c.len.result ≡ 0 + length list = omega (arith, c.len.ensures ∙ c.loop-row.list.ok.0) in
    ap (λ (l : List Range). range_rows 0 l) c.in_ok-push-in-Some.ensures.items
    ∙ (rows-more 0 c.len.result list range index
    ∙ (ap (λ (r : List SqlRow). r ++ range_values c.len.result range ∷ []) c.loop-row.invariant
    ∙ (ap (λ (x : SqlRow). take i rows ++ x ∷ []) (sym its) ∙ sym more)))
