use Rattle.std.proofs.Common.{◌≡◌, true, inl, inr, Result, Ok, Err}
use Rattle.std.proofs.lemmas.Result.{on_err_weaker}
use Rattle.std.specs.declared.alloc.Global.{Global}
use Rattle.std.specs.declared.vec.Vec.{Vec}
use Rattle.sw_object_steps.specs.declared.dir_fault.DirFault.{DirFault}
use Rattle.sw_suffix.specs.declared.dir_line.DirLine.{DirLine}
use Rattle.sw_replica_server.specs.Replies.{takes_memory}
use Rattle.sw_replica_server.specs.Serving.{AreRead, IsFilesLeft}
use Rattle.sw_replica_server.proofs.Several.{all-read}
use Rattle.sw_replica_server.proofs.serving.show_files.Goals as goal

-- no memory for the reply that tells what was read
pub returns-clause-err : goal.returns-clause-err
returns-clause-err g c = on_err_weaker c.files_reply.result (by c.in_ok-got.got c.in_ok-got.ensures.ok) c.files_reply.ensures.err
  where
    by : (got : Result (Vec DirLine Global) DirFault)
        → AreRead c.args.device c.args.part c.args.suffixes.now (g.D.Door.sight c.args.door.now) got (g.D.Door.sight c.read_files.new.door)
        → takes_memory got ≡ true
        → IsFilesLeft (g.D.Door.sight c.args.door.now) (g.D.Door.sight c.read_files.new.door) c.args.device c.args.part c.args.suffixes.now
    by (Ok lines) read takes =
        inl (all-read c.args.device c.args.part c.args.suffixes.now (g.D.Door.sight c.args.door.now) lines.items (g.D.Door.sight c.read_files.new.door) read)
    by (Err fault) read takes = inr (fault, read, takes)
