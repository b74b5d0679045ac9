use Rattle.sw_core.proofs.Stripes.{shifted}
use Rattle.sw_core.proofs.world.stripes.Goals as goal

pub returns-clause-within : goal.returns-clause-within
returns-clause-within c = shifted c.args.lock_bits c.requires
