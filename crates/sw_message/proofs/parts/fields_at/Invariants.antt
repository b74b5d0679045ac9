use Rattle.std.proofs.Common.{◌≡◌, map, take}
use Rattle.sw_message.specs.Head.{field_at}
use Rattle.sw_message.proofs.parts.fields_at.Given as goal

abbrev pub invariant-loop-header : goal.invariant-loop-header
invariant-loop-header l = l.fields.items ≡ map (field_at l.bytes) (take l.header-index l.covered)
