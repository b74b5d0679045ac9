use Rattle.std.proofs.Common.{rules}
use Rattle.sw_containers_tests.proofs.all_locks.put_time.Goals as goal

pub times-times-requires : goal.times-times-requires
times-times-requires g c = record { is_open = c.is_open.ensures.0 (search rules) }
