use Rattle.std.proofs.Common.{◌≡◌, ℕ, List, ◌++◌, ◌∷◌, ap, sym, ◌∙◌}
use Rattle.std.specs.Fmt.{decimal}
use Rattle.std.proofs.lemmas.List.{take_all}
use Rattle.sw_pending.specs.Texts.{devices_text}
use Rattle.sw_pending.proofs.DeviceTexts.{number_pushed}
use Rattle.sw_pending.proofs.writing.push_devices.Goals as goal

pub loop-device-init : goal.loop-device-init
loop-device-init c = λ d is.
    let both = sym c.in-Some.ensures.cases.0 ∙ is in
    let same : c.in-Some.first.now ≡ d = cc in
    c.in_ok-push_number.ensures ∙ ap (λ (n : ℕ). c.args.out.now.items ++ decimal n) same

pub loop-device-preserved : goal.loop-device-preserved
loop-device-preserved c = λ d is.
    number_pushed d c.in-Some.rest.now c.loop-device.device-index c.args.out.now.items c.loop-device.out.items c.push-in-loop-device.new.self.items
    c.push_number-in-loop-device.new.out.items c.loop-device-test.true (c.loop-device.invariant d is) c.in_ok-push-2.ensures.items
    c.in_ok-push_number-2.ensures

pub returns : goal.returns
returns c =
    let is = c.in-Some.ensures.cases.0 in
    c.loop-device.invariant c.in-Some.first.now is
    ∙ ap (λ (l : List ℕ). c.args.out.now.items ++ devices_text (c.in-Some.first.now ∷ l))
    (take_all c.loop-device.device-index c.in-Some.rest.now c.loop-device-test.false)
    ∙ ap (λ (l : List ℕ). c.args.out.now.items ++ devices_text l) (sym is)
