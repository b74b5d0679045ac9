use Rattle.std.proofs.Common.{◌∙◌, []}
use Rattle.sw_disk.proofs.Moments.{on_ok, rests-call, rests-then}
use Rattle.sw_disk.proofs.Readying.{opens-writing, ready-writing}
use Rattle.sw_disk.proofs.States.{opens-folder_synced}
use Rattle.sw_disk.specs.Keeping.{IsOrdered}
use Rattle.sw_disk.proofs.opening.make_writing.Goals as goal

pub returns-in_err-make_folder-clause-time : goal.returns-in_err-make_folder-clause-time
returns-in_err-make_folder-clause-time g c = λ tells.
    rests-call IsOrdered _ _ _ _ _ (opens-writing (g.D.Disk.now c.args.disk.now)) (c.make_folder.ensures.either tells) (c.make_folder.ensures.time tells)

pub returns-clause-ready : goal.returns-clause-ready
returns-clause-ready g c = on_ok c.sync_folder.result _ _
    (λ synced tells. ready-writing (g.D.Disk.now c.args.disk.now) (g.D.Disk.now c.make_folder.new.self) (g.D.Disk.now c.sync_folder.new.self) (c.requires tells)
    (c.in_ok-make_folder.ensures.ok tells) (synced (c.make_folder.ensures.told ∙ tells)))
    c.sync_folder.ensures.ok

pub returns-clause-time : goal.returns-clause-time
returns-clause-time g c = λ tells.
    let t1 = c.make_folder.ensures.told ∙ tells in
    let called = rests-call IsOrdered _ _ _ _ _ (opens-writing (g.D.Disk.now c.args.disk.now)) (c.make_folder.ensures.either tells)
    (c.make_folder.ensures.time tells) in
    rests-then IsOrdered _ _ _ _ _ _ called (rests-call IsOrdered _ _ _ _ _ (opens-folder_synced (g.D.Disk.now c.make_folder.new.self) [])
    (c.sync_folder.ensures.either t1) (c.sync_folder.ensures.time t1))
