use Rattle.std.proofs.Common.{Ok}
use Rattle.sw_cleave.proofs.Coming.{comes-then}
use Rattle.sw_cleave.specs.Cleaving.{IsClosed, IsClosedBy}
use Rattle.sw_container_steps.specs.declared.cont_change.ContChange.TheVariants.{CloseRange}
use Rattle.sw_peer.proofs.Heard.{heard}
use Rattle.sw_peer.specs.ContSights.{IsContMade}
use Rattle.sw_peer.specs.declared.link.Link.TheVariants.{Local}
use Rattle.sw_cleave.proofs.closing.close.Goals as goal

pub returns-clause-closes : goal.returns-clause-closes
returns-clause-closes g c =
    let s = g.D.Door.sight in
    comes-then (λ came on. IsClosedBy c.args.open_ranges c.unwrap.result c.args.outcome.now c.count_closing.new.outcome came on)
    (IsClosed c.args.device c.args.place.now c.args.range c.args.devices c.args.open_ranges (s c.args.door.now) c.args.outcome.now
    (s c.change_container-answer.new.self) c.count_closing.new.outcome)
    (λ came on is. (
      c.unwrap.result,
      heard (IsContMade Local c.args.device c.args.place.now (CloseRange c.args.range c.args.devices)) (s c.args.door.now) Local
          c.change_container-answer.result (Ok c.unwrap.result) (s c.change_container-answer.new.self) c.unwrap.ensures c.change_container-answer.ensures.made,
      is,
    )) c.count_closing.result c.count_closing.ensures
