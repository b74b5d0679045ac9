use Rattle.std.proofs.Common.{[], refl}
use Rattle.sw_container_locks.proofs.making.line_of.Goals as goal

pub of_container-requires-clause-added : goal.of_container-requires-clause-added
of_container-requires-clause-added g c = c.since.ensures [] [] refl c.new-none.ensures.items

pub returns-clause-line : goal.returns-clause-line
returns-clause-line g c = let none = c.since.ensures [] [] refl c.new-none.ensures.items in cc
