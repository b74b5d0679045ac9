-- What is left of 32 bits after a shift by 32 - power has power bits.
use Rattle.sw_hashpath.proofs.Shifts.{first_bits}
use Rattle.sw_hashpath.proofs.hash_parts.partition.Goals as goal

pub returns-clause-below : goal.returns-clause-below
returns-clause-below c = first_bits c.from_be_bytes.result 32 c.args.power c.requires.greatest c.from_be_bytes.type_inv
