use Rattle.std.proofs.Common.{◌∙◌, ap, length, ◌==◌, List, ℕ}
use Rattle.sw_disk.proofs.Logs.{has_file-listed}
use Rattle.sw_disk.specs.Changes.{run}
use Rattle.sw_disk.proofs.disk_log.DiskLog.has_file_in.Goals as goal

pub returns-clause-found : goal.returns-clause-found
returns-clause-found c = has_file-listed (run c.args.self.now.changes.items).now c.args.dir.now c.in_ok-files.files c.is_empty.result c.in_ok-files.ensures.all
    (c.is_empty.ensures ∙ ap (λ (l : List (List ℕ)). length l == 0) c.as_slice.ensures)
