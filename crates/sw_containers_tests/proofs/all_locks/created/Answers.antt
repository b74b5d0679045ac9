use Rattle.std.proofs.Common.{rules}
use Rattle.sw_containers_tests.proofs.all_locks.created.Goals as goal

pub change-answer-requires : goal.change-answer-requires
change-answer-requires g c = record { is_open = c.is_open.ensures.0 (search rules) }
