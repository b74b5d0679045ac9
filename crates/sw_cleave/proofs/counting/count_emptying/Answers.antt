use Rattle.std.proofs.Common.{◌∙◌, false, inr, refl, sym}
use Rattle.sw_cleave.proofs.Coming.{comes-ended, keeps-of}
use Rattle.sw_cleave.specs.Cleaving.{IsEmptiedBy, leaves}
use Rattle.sw_pass.specs.Outcomes.{cont_hindrance}
use Rattle.sw_cleave.proofs.counting.count_emptying.Goals as goal

pub returns-in_err-keep : goal.returns-in_err-keep
returns-in_err-keep c =
    comes-ended (λ came on. IsEmptiedBy c.args.answer.now c.args.outcome.now c.keep.new.outcome came on) c.from_residual.result c.from_residual.ensures.0
    (leaves 1)
    (inr (
      sym c.is_acknowledged.ensures ∙ c.if-is_acknowledged.false,
      refl,
      keeps-of c.of_container_answer.result (cont_hindrance c.args.answer.now) c.args.outcome.now c.keep.new.outcome false c.of_container_answer.ensures
          c.in_err-keep.ensures,
    ))
