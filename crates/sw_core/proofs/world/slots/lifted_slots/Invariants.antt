use Rattle.std.proofs.Common.{◌≡◌, length, All}
use Rattle.sw_core.specs.declared.slot.Slot.TheVariants as slots
use Rattle.sw_core.proofs.world.slots.lifted_slots.Given as goal

abbrev pub invariant-loop : goal.invariant-loop
invariant-loop g l = (length l.made.items ≡ l.counter) × All (λ slot. slot ≡ slots.Lifted l.secrets) l.made.items
