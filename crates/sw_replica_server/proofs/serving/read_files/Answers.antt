use Rattle.std.proofs.Common.{◌≡◌, ◌+◌, ◌++◌, ◌∙◌, ap, sym, subst, get_or, List, ℕ, Ok, take}
use Rattle.sw_suffix.specs.declared.dir_line.DirLine.{DirLine}
use Rattle.sw_replica_server.specs.Serving.{AreFilesRead, AreSomeRead, IsStopped}
use Rattle.sw_replica_server.proofs.Several.{nodes-on, read-next, some-read, stopped, told}
use Rattle.sw_replica_server.proofs.serving.read_files.Goals as goal

-- one suffix more
pub loop-suffix-preserved : goal.loop-suffix-preserved
loop-suffix-preserved g c =
    let s = g.D.Door.sight in
    let items = c.as_slice-suffix-items.result.now in
    let i = c.loop-suffix.suffix-index in
    let found : c.extend_from_slice.new.self.items ≡ c.loop-suffix.lines.items ++ c.in-Ok.more.items =
    c.in_ok-extend_from_slice-in-Ok.ensures.items ∙ ap (λ (l : List DirLine). c.loop-suffix.lines.items ++ l) c.deref.ensures.value in
    record {
      nodes = nodes-on c.args.device c.args.part (get_or items i 0) (s c.args.door.now) (s c.loop-suffix.door) (Ok c.in-Ok.more) (s c.read_suffix.new.door)
          c.loop-suffix.invariant.nodes c.in-Ok.ensures;
      read = subst (λ (l : List DirLine). AreFilesRead c.args.device c.args.part (take (i + 1) items) (s c.args.door.now) l (s c.read_suffix.new.door))
          (sym found)
          (read-next c.args.device c.args.part items i c.loop-suffix-test.true (s c.args.door.now) c.loop-suffix.lines.items (s c.loop-suffix.door)
          c.loop-suffix.invariant.read (s c.read_suffix.new.door) c.in-Ok.more c.in-Ok.ensures);
    }

-- its lines found no memory
pub returns-in_err-extend_from_slice-in-Ok-clause-err : goal.returns-in_err-extend_from_slice-in-Ok-clause-err
returns-in_err-extend_from_slice-in-Ok-clause-err g c =
    let s = g.D.Door.sight in
    let items = c.as_slice-suffix-items.result.now in
    told c.from_residual.result
    (subst (λ (suffixes : List ℕ). AreSomeRead c.args.device c.args.part suffixes (s c.args.door.now) (s c.read_suffix.new.door))
    c.as_slice-suffix-items.ensures.value
    (some-read c.args.device c.args.part items c.loop-suffix.suffix-index c.loop-suffix-test.true (s c.args.door.now) c.loop-suffix.lines.items
    (s c.loop-suffix.door) c.loop-suffix.invariant.read (s c.read_suffix.new.door) c.in-Ok.more c.in-Ok.ensures))

-- it couldn't be read
pub returns-in-Err-clause-ok : goal.returns-in-Err-clause-ok
returns-in-Err-clause-ok g c =
    let s = g.D.Door.sight in
    let items = c.as_slice-suffix-items.result.now in
    subst (λ (suffixes : List ℕ). IsStopped c.args.device c.args.part suffixes (s c.args.door.now) c.in-Err.fault (s c.read_suffix.new.door))
    c.as_slice-suffix-items.ensures.value
    (stopped c.args.device c.args.part items c.loop-suffix.suffix-index c.loop-suffix-test.true (s c.args.door.now) c.loop-suffix.lines.items
    (s c.loop-suffix.door) c.loop-suffix.invariant.read (s c.read_suffix.new.door) c.in-Err.fault c.in-Err.ensures)
