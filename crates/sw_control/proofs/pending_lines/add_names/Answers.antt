use Rattle.std.proofs.Common.{ℕ, List, ◌++◌, ◌∷◌, ap, sym, ◌∙◌}
use Rattle.std.proofs.lemmas.List.{take_all}
use Rattle.sw_control.specs.PendingText.{names_text}
use Rattle.sw_control.proofs.ToldDevices.{name_added}
use Rattle.sw_control.proofs.pending_lines.add_names.Goals as goal

pub loop-device-preserved : goal.loop-device-preserved
loop-device-preserved c = λ d is.
    name_added c.args.devices.now d c.in-Some.rest.now c.loop-device.device-index c.args.text.now.items c.loop-device.text.items
    c.extend_from_slice-in-loop-device.new.self.items c.device_name-in-loop-device.result.now c.extend_from_slice-in-loop-device-2.new.self.items
    c.loop-device-test.true (c.loop-device.invariant d is) c.in_ok-extend_from_slice-3.ensures.items c.device_name-in-loop-device.ensures
    c.in_ok-extend_from_slice-4.ensures.items

pub returns : goal.returns
returns c =
    let is = c.in-Some.ensures.cases.0 in
    c.loop-device.invariant c.in-Some.first.now is
    ∙ ap (λ (l : List ℕ). c.args.text.now.items ++ names_text c.args.devices.now (c.in-Some.first.now ∷ l))
    (take_all c.loop-device.device-index c.in-Some.rest.now c.loop-device-test.false)
    ∙ ap (λ (l : List ℕ). c.args.text.now.items ++ names_text c.args.devices.now l) (sym is)
