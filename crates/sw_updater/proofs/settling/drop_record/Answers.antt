use Rattle.std.proofs.Common.{ℕ, List, inl, subst, Ok}
use Rattle.sw_object_steps.specs.declared.change.Change.TheVariants.{DropRecord}
use Rattle.sw_peer.proofs.Heard.{heard}
use Rattle.sw_peer.specs.Sights.{Calls, IsMade}
use Rattle.sw_peer.specs.declared.link.Link.TheVariants.{Local}
use Rattle.sw_pending.specs.declared.filed.Filed.{Filed}
use Rattle.sw_updater.proofs.settling.drop_record.Goals as goal

pub returns-clause-drops : goal.returns-clause-drops
returns-clause-drops g c =
    let s = g.D.Door.sight in
    let task = c.args.task.now in
    inl (
      c.unwrap.result,
      s c.change-answer.new.self,
      heard (IsMade Local task.device task.filed.name (DropRecord task.filed task.all)) (s c.args.door.now) Local c.change-answer.result (Ok c.unwrap.result)
          (s c.change-answer.new.self) c.unwrap.ensures
          (subst (λ (filed : Filed). Calls (IsMade Local task.device task.filed.name (DropRecord filed task.all)) (s c.args.door.now) Local
          c.change-answer.result (s c.change-answer.new.self)) c.in_ok-copy.ensures
          (subst (λ (all : List ℕ). Calls (IsMade Local task.device task.filed.name (DropRecord c.in_ok-copy.field-0 all)) (s c.args.door.now) Local
          c.change-answer.result (s c.change-answer.new.self)) c.in_ok-copy-2.ensures c.change-answer.ensures.made)),
      c.count_drop.ensures task.device task.filed (s c.change-answer.new.self),
    )
