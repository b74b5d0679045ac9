use Rattle.std.proofs.Common.{rules}
use Rattle.sw_containers_tests.proofs.all_locks.front.Goals as goal

pub info-info-requires : goal.info-info-requires
info-info-requires g c = record { is_open = c.is_open.ensures.0 (search rules) }
