use Rattle.std.proofs.Common.{rules, ◌≡◌, ◌∙◌, ◌+◌, ◌∷◌, ◌++◌, [], List, ℕ, map, take, sym, ap, subst}
use Rattle.std.proofs.lemmas.List.{map-append, take_more}
use Rattle.sqlite_value.specs.Order.{Row as SqlRow}
use Rattle.sw_sync.specs.Points.{PointList}
use Rattle.sw_container_store.specs.Values.{point_values}
use Rattle.sw_container_store.proofs.Pointing.{AreBefore, before-more, points-more, put-behind}
use Rattle.sw_container_store.proofs.reading_ranges.shard_points_of.Goals as goal

-- one point more
pub loop-row-preserved : goal.loop-row-preserved
loop-row-preserved c =
    let i = c.loop-row.row-index in
    let rows = c.args.rows.now in
    let points = c.loop-row.points in
    let range = c.in-Some.range in
    let device = c.in-Some.device in
    let rowid = c.in-Some.rowid in
    let before : AreBefore range device points =
    before-more range device c.loop-row.least.0 c.loop-row.least.1 points c.loop-row.invariant.before (c.is_at_least.ensures c.if-not-is_at_least.false) in
    let put : c.set.new.self ≡ points ++ ((range, device), rowid) ∷ [] = c.in_ok-set.ensures.ok ∙ put-behind range device rowid points before in
    let its : c.row-item.result ≡ point_values ((range, device), rowid) = search (rules, c.in-Some.ensures) in
    let more : take (i + 1) rows ≡ take i rows ++ c.row-item.result ∷ [] =
    take_more rows i c.row-item.result c.loop-row-test.true ∙ ap (λ (x : SqlRow). take i rows ++ x ∷ []) (sym c.row-item.is) in
    record {
      values = ap (λ (p : PointList). map point_values p) put
          ∙ (map-append point_values points (((range, device), rowid) ∷ [])
          ∙ (ap (λ (r : List SqlRow). r ++ point_values ((range, device), rowid) ∷ []) c.loop-row.invariant.values
          ∙ (ap (λ (x : SqlRow). take i rows ++ x ∷ []) (sym its) ∙ sym more)));
      before = subst (λ (next : ℕ). AreBefore range (next + 1) c.set.new.self) (sym c.from.ensures)
          (subst (λ (p : PointList). AreBefore range (device + 1) p) (sym put) (points-more range device rowid points before));
    }
