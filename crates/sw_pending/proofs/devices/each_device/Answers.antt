use Rattle.std.proofs.Common.{sym, ap, ◌∙◌, Some}
use Rattle.sw_pending.proofs.DeviceTexts.{each_fails, each_next}
use Rattle.sw_pending.proofs.devices.each_device.Goals as goal

pub returns-in_default : goal.returns-in_default
returns-in_default c = each_fails (λ text. text.now) c.args.texts.now c.loop-text.text-index _ c.loop-text-test.true (sym c.in_default.ensures)

pub loop-text-preserved : goal.loop-text-preserved
loop-text-preserved c =
    each_next (λ text. text.now) c.args.texts.now c.loop-text.text-index _ c.loop-text.devices c.in-Some.device c.loop-text-test.true c.loop-text.invariant
    (sym c.in-Some.ensures)
    ∙ ap (λ l. Some l) (sym c.in_ok-push.ensures.ok)
