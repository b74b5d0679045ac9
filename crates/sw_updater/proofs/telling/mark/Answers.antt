use Rattle.std.proofs.Common.{inl, subst, Ok}
use Rattle.sw_object_steps.specs.declared.change.Change.TheVariants.{MarkRecord}
use Rattle.sw_peer.proofs.Heard.{heard}
use Rattle.sw_peer.specs.Sights.{Calls, IsMade}
use Rattle.sw_peer.specs.declared.link.Link.TheVariants.{Local}
use Rattle.sw_pending.specs.declared.filed.Filed.{Filed}
use Rattle.sw_updater.proofs.telling.mark.Goals as goal

pub returns-clause-marks : goal.returns-clause-marks
returns-clause-marks g c =
    let s = g.D.Door.sight in
    let task = c.args.task.now in
    inl (
      c.unwrap.result,
      s c.change-answer.new.self,
      heard (IsMade Local task.device task.filed.name (MarkRecord task.filed c.args.to)) (s c.args.door.now) Local c.change-answer.result (Ok c.unwrap.result)
          (s c.change-answer.new.self) c.unwrap.ensures
          (subst (λ (filed : Filed). Calls (IsMade Local task.device task.filed.name (MarkRecord filed c.args.to)) (s c.args.door.now) Local
          c.change-answer.result (s c.change-answer.new.self)) c.in_ok-copy.ensures c.change-answer.ensures.made),
      c.count_mark.ensures task.device task.filed (s c.change-answer.new.self),
    )
