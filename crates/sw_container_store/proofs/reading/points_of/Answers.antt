use Rattle.std.proofs.Common.{rules, ◌≡◌, ◌∙◌, ◌+◌, ◌≤◌, ◌∷◌, ◌++◌, [], List, ℕ, map, take, sym, ap, subst, arith}
use Rattle.std.proofs.lemmas.List.{map-append, take_more}
use Rattle.sqlite_value.specs.Order.{Row as SqlRow}
use Rattle.sw_sync.specs.Points.{PointList}
use Rattle.sw_container_store.specs.Telling.{AreSyncs}
use Rattle.sw_container_store.specs.Values.{point_values}
use Rattle.sw_container_store.proofs.Syncing.{below-more, put-above, syncs-more}
use Rattle.sw_container_store.proofs.reading.points_of.Goals as goal

-- one point more
pub loop-row-preserved : goal.loop-row-preserved
loop-row-preserved c =
    let i = c.loop-row.row-index in
    let rows = c.args.rows.now in
    let points = c.loop-row.points in
    let device = c.in-Some.device in
    let rowid = c.in-Some.rowid in
    let above : c.loop-row.least ≤ device = omega (arith, c.if-from-least.false, c.from.ensures) in
    let put : c.set.new.self ≡ points ++ ((0, device), rowid) ∷ [] =
    c.in_ok-set.ensures.ok ∙ put-above 0 c.loop-row.least device rowid points c.loop-row.invariant.each above in
    let its : c.row-item.result ≡ point_values ((0, device), rowid) = search (rules, c.in-Some.ensures) in
    let more : take (i + 1) rows ≡ take i rows ++ c.row-item.result ∷ [] =
    take_more rows i c.row-item.result c.loop-row-test.true ∙ ap (λ (x : SqlRow). take i rows ++ x ∷ []) (sym c.row-item.is) in
    record {
      values = ap (λ (p : PointList). map point_values p) put
          ∙ (map-append point_values points (((0, device), rowid) ∷ [])
          ∙ (ap (λ (r : List SqlRow). r ++ point_values ((0, device), rowid) ∷ []) c.loop-row.invariant.values
          ∙ (ap (λ (x : SqlRow). take i rows ++ x ∷ []) (sym its) ∙ sym more)));
      each = subst (λ (next : ℕ). AreSyncs 0 (next + 1) c.set.new.self) (sym c.from-least.ensures)
          (subst (λ (p : PointList). AreSyncs 0 (device + 1) p) (sym put) (syncs-more 0 c.loop-row.least device rowid points c.loop-row.invariant.each above));
      most = search rules;
    }

pub returns-clause-each : goal.returns-clause-each
returns-clause-each c = below-more 0 c.loop-row.least 256 c.loop-row.points c.loop-row.invariant.each c.loop-row.invariant.most
