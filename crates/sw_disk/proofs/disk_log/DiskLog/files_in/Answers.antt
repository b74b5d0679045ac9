use Rattle.std.proofs.Common.{refl}
use Rattle.sw_disk.proofs.Logs.{lists-told}
use Rattle.sw_disk.specs.Changes.{run}
use Rattle.sw_disk.proofs.disk_log.DiskLog.files_in.Goals as goal

pub returns-in-Ok-clause-all : goal.returns-in-Ok-clause-all
returns-in-Ok-clause-all c = lists-told c.args.self.now.files.folders
    (run c.args.self.now.changes.items).now c.args.dir.now c.in-Ok.listing.files c.args.self.now.told
    (c.in-Ok.ensures.files refl)
