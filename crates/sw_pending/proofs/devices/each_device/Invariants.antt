use Rattle.std.proofs.Common.{◌≡◌, Some, map, take}
use Rattle.sw_pending.specs.Reading.{each_device}
use Rattle.sw_pending.proofs.devices.each_device.Given as goal

-- the devices of the texts so far
abbrev pub invariant-loop-text : goal.invariant-loop-text
invariant-loop-text l = each_device (map (λ text. text.now) (take l.text-index l.texts)) ≡ Some l.devices
