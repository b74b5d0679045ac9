use Rattle.sw_ring.proofs.Stripes.{few}
use Rattle.sw_ring.proofs.ring.Ring.stripes.Goals as goal

pub returns-clause-most : goal.returns-clause-most
returns-clause-most c = few c.args.self.now.lock_bits c.args.self.now.few_lock_bits
