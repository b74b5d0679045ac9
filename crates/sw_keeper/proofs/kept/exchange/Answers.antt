use Rattle.std.proofs.Common.{◌≡◌, ◌≤◌, [], true, sym, ◌∙◌, ap, arith, subst}
use Rattle.sw_keeper.proofs.Drafting.{cleared, rising-from}
use Rattle.sw_keeper.specs.Drafts.{spared_of}
use Rattle.sw_rows.specs.Exchanging.{exchanged}
use Rattle.sw_rows.specs.Rows.{IsListed, IsRising, Listed}
use Rattle.sw_keeper.proofs.kept.exchange.Goals as goal

pub exchange-requires-clause-rising : goal.exchange-requires-clause-rising
exchange-requires-clause-rising c =
    rw c.empty-left.ensures (rising-from 0 c.args.present.now.top c.args.rows.items (omega arith) c.requires.rising)

pub exchange-requires-clause-listed : goal.exchange-requires-clause-listed
exchange-requires-clause-listed c =
    let listed = rw c.if-clears.true at c.requires.listed in
    rw c.empty-left.ensures (subst IsListed (cleared c.args.present.now c.args.numbers.now c.args.rows.items c.args.top) listed)

pub returns-in_ok-exchange-clause-rows : goal.returns-in_ok-exchange-clause-rows
returns-in_ok-exchange-clause-rows c =
    let made = rw c.empty-left.ensures at c.in_ok-exchange.ensures.rows in
    rw c.if-clears.true (made ∙ sym (cleared c.args.present.now c.args.numbers.now c.args.rows.items c.args.top))
