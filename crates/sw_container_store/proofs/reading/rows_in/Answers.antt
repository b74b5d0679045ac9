use Rattle.std.proofs.Common.{rules, SFits, to_z, ◌≤◌, ◌∙◌, ◌∷◌, ◌++◌, [], ℤ, List, pos, length, map, refl, sym, ap, subst, arith, w64}
use Rattle.std.proofs.lemmas.Int.{to_z-of_z}
use Rattle.std.proofs.lemmas.List.{flat_map_more}
use Rattle.sqlite_value.specs.Order.{Row as SqlRow}
use Rattle.sw_container_store.specs.Telling.{EndsAt, ShowsPages}
use Rattle.sw_container_store.specs.Values.{numbered_values}
use Rattle.sw_container_store.proofs.Paging.{pages-more}
use Rattle.sw_container_store.proofs.reading.rows_in.Goals as goal

-- no page yet
pub loop-init : goal.loop-init
unfolding ShowsPages
loop-init g c = record { key = refl; pages = []; shown = (refl, refl); all = ap (λ l. map numbered_values l.list) c.empty_at-rows.ensures; top = refl }

-- one page more
pub loop-preserved : goal.loop-preserved
loop-preserved g c =
    let pages = c.loop.invariant.pages in
    let page = c.in_ok-page.page.items in
    let fits : SFits w64 c.in-Some.end = search rules in
    let added = c.in_ok-add_page.ensures c.if-not-branch.false in
    let ends : EndsAt page c.in-Some.end = subst (λ (rows : List SqlRow). EndsAt rows c.in-Some.end) c.deref-in-loop.ensures.value c.in-Some.ensures in
    let full : 1000 ≤ length page = omega (arith, c.in_ok-page.page.ok) in
    let told : ShowsPages g.D.Database.shows (pages ++ page ∷ []) (pos 0) c.in-Some.end c.top_in.new.database c.ask.new.self =
    pages-more g.D.Database.shows pages page (pos 0) (to_z w64 c.loop.after-bits) c.in-Some.end c.top_in.new.database c.loop.database c.ask.new.self
    c.loop.invariant.shown c.in_ok-page.ensures.shows full ends in
    record {
      key = c.ask.ensures.key ∙ c.loop.invariant.key;
      pages = pages ++ page ∷ [];
      shown = subst (λ (at : ℤ). ShowsPages g.D.Database.shows (pages ++ page ∷ []) (pos 0) at c.top_in.new.database c.ask.new.self)
          (sym (to_z-of_z w64 c.in-Some.end fits)) told;
      all = added.0 ∙ (ap (λ (rows : List SqlRow). map numbered_values c.loop.rows.list ++ rows) c.deref.ensures.value
          ∙ (ap (λ (rows : List SqlRow). rows ++ page) c.loop.invariant.all ∙ flat_map_more (λ (page : List SqlRow). page) [] pages page));
      top = added.1 ∙ c.loop.invariant.top;
    }
