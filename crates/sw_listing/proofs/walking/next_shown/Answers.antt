use Rattle.std.proofs.Common.{sym}
use Rattle.sw_listing.proofs.Walks.{skips-more}
use Rattle.sw_listing.proofs.walking.next_shown.Goals as goal

pub returns-in-Some-show : goal.returns-in-Some-show
returns-in-Some-show c = record {
  row = c.in-Some.row.now;
  met = c.loop-row.left;
  skips = c.loop-row.invariant;
  takes = c.in-Some.ensures;
  shown = sym c.in-Some-show.ensures;
}

pub loop-row-preserved : goal.loop-row-preserved
loop-row-preserved c =
    skips-more c.args.query.now c.args.left.now c.loop-row.left c.take.new.left c.in-Some.row.now c.loop-row.invariant c.in-Some.ensures
    (sym c.in_default-show.ensures)
