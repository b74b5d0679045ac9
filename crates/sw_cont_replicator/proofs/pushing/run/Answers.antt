use Rattle.std.proofs.Common.{Ok, Err, refl, subst, true}
use Rattle.std.specs.Result.{is_ok}
use Rattle.sw_container_steps.specs.Reads.{parcel_of}
use Rattle.sw_cont_replicator.proofs.Ending.{ended-told, ended-untold}
use Rattle.sw_cont_replicator.specs.Pushing.{IsParcelSent, point_told}
use Rattle.sw_pass.proofs.Counts.{hinders-from}
use Rattle.sw_pass.specs.Outcomes.{cont_hindrance, nothing_yet}
use Rattle.sw_pass.specs.declared.outcome.Outcome.{Outcome}
use Rattle.sw_peer.proofs.Heard.{heard}
use Rattle.sw_peer.specs.ContSights.{IsLooked}
use Rattle.sw_peer.specs.declared.cont_event.ContEvent.TheVariants.{Parceled}
use Rattle.sw_peer.specs.declared.link.Link.TheVariants.{Local}
use Rattle.sw_cont_replicator.proofs.pushing.run.Goals as goal

pub returns-in-Ok-clause-pushes : goal.returns-in-Ok-clause-pushes
returns-in-Ok-clause-pushes g c =
    let s = g.D.Door.sight in (
      Ok c.in-Ok.parcel,
      s c.sync_rows-read.new.self,
      heard (IsLooked Local c.args.from c.args.place.now (parcel_of c.args.to) (λ read. Parceled c.args.place.now c.args.to read)) (s c.args.door.now) Local
          c.sync_rows-read.result (Ok (Ok c.in-Ok.parcel)) (s c.sync_rows-read.new.self) c.in-Ok.ensures c.sync_rows-read.ensures.read,
      subst (λ (o : Outcome). IsParcelSent c.args.from c.args.to c.args.place.now c.args.ring.now c.in-Ok.parcel (s c.sync_rows-read.new.self) o
          (s c.send_parcel.new.door) c.send_parcel.new.outcome (point_told c.send_parcel.result) (is_ok c.send_parcel.result)) c.requires.fresh
          c.send_parcel.ensures.pushes,
    )

pub returns-in_ok-hinder-in-Err-clause-pushes : goal.returns-in_ok-hinder-in-Err-clause-pushes
returns-in_ok-hinder-in-Err-clause-pushes g c =
    let s = g.D.Door.sight in (
      Err c.in-Err.answer,
      s c.sync_rows-read.new.self,
      heard (IsLooked Local c.args.from c.args.place.now (parcel_of c.args.to) (λ read. Parceled c.args.place.now c.args.to read)) (s c.args.door.now) Local
          c.sync_rows-read.result (Ok (Err c.in-Err.answer)) (s c.sync_rows-read.new.self) c.in-Err.ensures c.sync_rows-read.ensures.read,
      (
        refl,
        refl,
        hinders-from c.of_container_answer.result (cont_hindrance c.in-Err.answer) c.args.outcome.now nothing_yet c.hinder.new.outcome true
            c.of_container_answer.ensures c.requires.fresh c.in_ok-hinder-in-Err.ensures,
      ),
    )

pub returns-in_err-hinder-in-Err-clause-pushes : goal.returns-in_err-hinder-in-Err-clause-pushes
returns-in_err-hinder-in-Err-clause-pushes g c =
    let s = g.D.Door.sight in (
      Err c.in-Err.answer,
      s c.sync_rows-read.new.self,
      heard (IsLooked Local c.args.from c.args.place.now (parcel_of c.args.to) (λ read. Parceled c.args.place.now c.args.to read)) (s c.args.door.now) Local
          c.sync_rows-read.result (Ok (Err c.in-Err.answer)) (s c.sync_rows-read.new.self) c.in-Err.ensures c.sync_rows-read.ensures.read,
      (
        refl,
        ended-untold c.from_residual.result c.from_residual.ensures.0,
        hinders-from c.of_container_answer.result (cont_hindrance c.in-Err.answer) c.args.outcome.now nothing_yet c.hinder.new.outcome
            (is_ok c.from_residual.result) c.of_container_answer.ensures c.requires.fresh
            (ended-told c.from_residual.result c.from_residual.ensures.0 c.of_container_answer.result c.args.outcome.now c.hinder.new.outcome
            c.in_err-hinder-in-Err.ensures),
      ),
    )
