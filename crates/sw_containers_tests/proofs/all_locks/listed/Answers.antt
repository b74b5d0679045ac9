use Rattle.std.proofs.Common.{rules}
use Rattle.sw_containers_tests.proofs.all_locks.listed.Goals as goal

pub list-listing-requires : goal.list-listing-requires
list-listing-requires g c = record { is_open = c.is_open.ensures.0 (search rules) }
