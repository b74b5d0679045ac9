use Rattle.std.proofs.Common.{◌∙◌, Ok, ap, false, true, inl, inr, length, refl, suc, sym}
use Rattle.sw_cleave.proofs.Coming.{comes-ended, comes-then, keeps-of}
use Rattle.sw_cleave.specs.Cleaving.{leaves}
use Rattle.sw_cleave.specs.Creating.{IsListGiven, IsListSet, others}
use Rattle.sw_pass.specs.Outcomes.{cont_hindrance}
use Rattle.sw_peer.proofs.Heard.{heard}
use Rattle.sw_peer.specs.ContSights.{IsContMade}
use Rattle.sw_peer.specs.declared.link.Link.TheVariants.{Local}
use Rattle.sw_cleave.proofs.creating.set_list.Goals as goal

pub returns-then-is_acknowledged-clause-sets : goal.returns-then-is_acknowledged-clause-sets
returns-then-is_acknowledged-clause-sets g c =
    let s = g.D.Door.sight in
    let mid = s c.change_container.new.self in
    comes-then (IsListGiven c.args.ring.now c.args.device c.args.place.now c.args.list.now mid c.args.outcome.now (s c.give_list.new.door)
    c.give_list.new.outcome)
    (IsListSet c.args.ring.now c.args.device c.args.place.now c.args.list.now (s c.args.door.now) c.args.outcome.now (s c.give_list.new.door)
    c.give_list.new.outcome)
    (λ came on is. (
      c.unwrap-answer.result,
      mid,
      heard (IsContMade Local c.args.device c.args.place.now c.args.list.now) (s c.args.door.now) Local c.change_container.result
          (Ok c.unwrap-answer.result) mid c.unwrap-answer.ensures c.change_container.ensures.made,
      inl (sym c.is_acknowledged.ensures ∙ c.if-is_acknowledged.true, is),
    )) c.give_list.result c.give_list.ensures.gives

pub returns-in_err-keep-clause-sets : goal.returns-in_err-keep-clause-sets
returns-in_err-keep-clause-sets g c =
    let s = g.D.Door.sight in
    let mid = s c.change_container.new.self in
    comes-ended (IsListSet c.args.ring.now c.args.device c.args.place.now c.args.list.now (s c.args.door.now) c.args.outcome.now mid c.keep.new.outcome)
    c.from_residual.result c.from_residual.ensures.0 (leaves (suc (length (others c.args.ring.now c.args.device c.args.place.now)))) (
      c.unwrap-answer.result,
      mid,
      heard (IsContMade Local c.args.device c.args.place.now c.args.list.now) (s c.args.door.now) Local c.change_container.result
          (Ok c.unwrap-answer.result) mid c.unwrap-answer.ensures c.change_container.ensures.made,
      inr (
        sym c.is_acknowledged.ensures ∙ c.if-is_acknowledged.false,
        refl,
        refl,
        keeps-of c.of_container_answer.result (cont_hindrance c.unwrap-answer.result) c.args.outcome.now c.keep.new.outcome false
            c.of_container_answer.ensures c.in_err-keep.ensures,
      ),
    )

pub returns-clause-sets : goal.returns-clause-sets
returns-clause-sets g c =
    let s = g.D.Door.sight in
    let mid = s c.change_container.new.self in (
      c.unwrap-answer.result,
      mid,
      heard (IsContMade Local c.args.device c.args.place.now c.args.list.now) (s c.args.door.now) Local c.change_container.result
          (Ok c.unwrap-answer.result) mid c.unwrap-answer.ensures c.change_container.ensures.made,
      inr (
        sym c.is_acknowledged.ensures ∙ c.if-is_acknowledged.false,
        refl,
        c.leaving.ensures ∙ ap leaves c.replicas.ensures,
        keeps-of c.of_container_answer.result (cont_hindrance c.unwrap-answer.result) c.args.outcome.now c.keep.new.outcome true
            c.of_container_answer.ensures c.in_ok-keep.ensures,
      ),
    )
