use Rattle.std.proofs.Common.{length}
use Rattle.sw_store.proofs.layout.+add_devices.Given as goal

abbrev pub decreases-add_devices : goal.decreases-add_devices
decreases-add_devices l = length l.names.now
