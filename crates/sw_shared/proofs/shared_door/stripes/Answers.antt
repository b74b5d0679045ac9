use Rattle.sw_core.proofs.Stripes.{shifted}
use Rattle.sw_shared.proofs.shared_door.stripes.Goals as goal

pub returns-clause-within : goal.returns-clause-within
returns-clause-within c = shifted c.args.lock_bits c.requires
