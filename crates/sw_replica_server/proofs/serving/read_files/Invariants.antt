use Rattle.std.proofs.Common.{◌≡◌, take}
use Rattle.sw_replica_server.specs.Serving.{AreFilesRead}
use Rattle.sw_replica_server.proofs.serving.read_files.Given as goal

-- the files of the suffixes before the index were read
abbrev pub invariant-loop-suffix : goal.invariant-loop-suffix
invariant-loop-suffix g l = record {
  nodes : (g.D.Door.sight l.door).nodes ≡ (g.D.Door.sight l.fn.door).nodes;
  read : AreFilesRead l.device l.part (take l.suffix-index l.suffix-items) (g.D.Door.sight l.fn.door) l.lines.items (g.D.Door.sight l.door);
}
