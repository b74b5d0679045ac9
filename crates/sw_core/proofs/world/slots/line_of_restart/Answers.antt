use Rattle.std.proofs.Common.{[], refl}
use Rattle.sw_core.proofs.world.slots.line_of_restart.Goals as goal

pub new-requires-3 : goal.new-requires-3
new-requires-3 c = record { settled = rw (c.since.ensures [] [] refl c.new.ensures.items) c.new-2.ensures.items; entered = refl }

pub returns : goal.returns
returns c = let none = c.since.ensures [] [] refl c.new.ensures.items in cc
