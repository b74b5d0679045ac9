use Rattle.std.proofs.Common.{◌++◌, List, get_or, take, sym, ◌∙◌, ap}
use Rattle.sw_rows.specs.Exchanging.{but_all}
use Rattle.sw_rows.specs.Index.{but}
use Rattle.sw_rows.specs.declared.numbered.Numbered.{Numbered}
use Rattle.sw_rows.proofs.Exchanging.{but-behind, but_all-more}
use Rattle.sw_rows.proofs.exchange.cut_all.Goals as goal

pub loop-rowid-preserved : goal.loop-rowid-preserved
loop-rowid-preserved g c =
    let numbers = c.args.gone.now in
    let i = c.loop-rowid.rowid-index in
    let rowid = get_or numbers i 0 in
    let left = but_all g.behind.list (take i numbers) in
    c.cut.ensures.rows ∙ ap (λ (l : List Numbered). but l rowid) c.loop-rowid.invariant
    ∙ but-behind left g.behind.rows rowid (c.requires.1 i 0 c.loop-rowid-test.true)
    ∙ ap (λ (l : List Numbered). l ++ g.behind.rows) (sym (but_all-more g.behind.list numbers i 0 c.loop-rowid-test.true))
