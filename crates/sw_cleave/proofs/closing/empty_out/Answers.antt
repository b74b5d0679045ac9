use Rattle.std.proofs.Common.{Ok}
use Rattle.sw_cleave.proofs.Coming.{comes-then}
use Rattle.sw_cleave.specs.Cleaving.{IsEmptied, IsEmptiedBy}
use Rattle.sw_container_steps.specs.declared.cont_change.ContChange.TheVariants.{EmptyOut}
use Rattle.sw_peer.proofs.Heard.{heard}
use Rattle.sw_peer.specs.ContSights.{IsContMade}
use Rattle.sw_peer.specs.declared.link.Link.TheVariants.{Local}
use Rattle.sw_cleave.proofs.closing.empty_out.Goals as goal

pub returns-clause-empties : goal.returns-clause-empties
returns-clause-empties g c =
    let s = g.D.Door.sight in
    comes-then (λ came on. IsEmptiedBy c.unwrap.result c.args.outcome.now c.count_emptying.new.outcome came on)
    (IsEmptied c.args.device c.args.place.now (s c.args.door.now) c.args.outcome.now (s c.change_container-answer.new.self) c.count_emptying.new.outcome)
    (λ came on is. (
      c.unwrap.result,
      heard (IsContMade Local c.args.device c.args.place.now EmptyOut) (s c.args.door.now) Local c.change_container-answer.result (Ok c.unwrap.result)
          (s c.change_container-answer.new.self) c.unwrap.ensures c.change_container-answer.ensures.made,
      is,
    )) c.count_emptying.result c.count_emptying.ensures
