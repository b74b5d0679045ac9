use Rattle.std.proofs.Common.{◌∙◌, false, sym}
use Rattle.sw_cleave.proofs.Coming.{comes-ended, keeps-of, unclosed}
use Rattle.sw_cleave.specs.Cleaving.{IsClosedBy, leaves}
use Rattle.sw_pass.specs.Outcomes.{cont_hindrance}
use Rattle.sw_cleave.proofs.counting.count_closing.Goals as goal

pub returns-in_err-keep : goal.returns-in_err-keep
returns-in_err-keep c =
    comes-ended (λ came on. IsClosedBy c.args.open_ranges c.args.answer.now c.args.outcome.now c.keep.new.outcome came on) c.from_residual.result
    c.from_residual.ensures.0 (leaves c.args.open_ranges)
    (unclosed c.args.open_ranges c.args.answer.now c.args.outcome.now c.keep.new.outcome false c.in_default.not-Later
    (sym c.is_acknowledged.ensures ∙ c.if-is_acknowledged.false)
    (keeps-of c.of_container_answer.result (cont_hindrance c.args.answer.now) c.args.outcome.now c.keep.new.outcome false c.of_container_answer.ensures
    c.in_err-keep.ensures))
