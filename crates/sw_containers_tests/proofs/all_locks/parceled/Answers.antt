use Rattle.std.proofs.Common.{rules}
use Rattle.sw_containers_tests.proofs.all_locks.parceled.Goals as goal

pub sync_rows-parcel-requires : goal.sync_rows-parcel-requires
sync_rows-parcel-requires g c = record { is_open = c.is_open.ensures.0 (search rules) }
