use Rattle.std.proofs.Common.{◌∙◌, sym, ap, subst, List, ℕ, Some, Option}
use Rattle.sw_disk.proofs.Moments.{as_turns, on_ok, rests-call, rests-then, then_rests, then_turns, turns-call}
use Rattle.sw_disk.proofs.States.{rests-folder_synced}
use Rattle.sw_disk.proofs.Turning.{durable-moved, same-sets, sets-moved, sets-same, turns-moved}
use Rattle.sw_disk.specs.Disk.{DiskFile, DiskState}
use Rattle.sw_disk.specs.Keeping.{IsInOrder, Rests, kept, writing}
use Rattle.sw_volume.specs.Volume.{Sets}
use Rattle.sw_disk.proofs.writing.put_whole.Goals as goal

pub returns-in_err-write_whole-clause-time : goal.returns-in_err-write_whole-clause-time
returns-in_err-write_whole-clause-time g c = λ tells o. as_turns c.args.dir.now c.args.file.now (Some c.args.bytes.now) _ _ _ _
    (c.write_whole.ensures.time tells)

pub returns-in_err-make_way-clause-time : goal.returns-in_err-make_way-clause-time
returns-in_err-make_way-clause-time g c = λ tells o.
    let t1 = c.write_whole.ensures.told ∙ tells in
    as_turns c.args.dir.now c.args.file.now (Some c.args.bytes.now) _ _ _ _
    (rests-then IsInOrder _ _ _ _ _ _ (c.write_whole.ensures.time tells) (c.make_way.ensures.time t1 ((c.write_whole.ensures.time tells).last.order o).ordered))

pub returns-in_err-rename-clause-time : goal.returns-in_err-rename-clause-time
returns-in_err-rename-clause-time g c = λ tells o.
    let t1 = c.write_whole.ensures.told ∙ tells in
    let t2 = c.make_way.ensures.told ∙ t1 in
    let came = rests-then IsInOrder _ _ _ _ _ _ (c.write_whole.ensures.time tells)
    (c.make_way.ensures.time t1 ((c.write_whole.ensures.time tells).last.order o).ordered) in
    let whole = ap (λ (fs : List ℕ → List ℕ → Option DiskFile). fs writing c.args.name.now) (c.make_way.ensures.files t1)
    ∙ c.in_ok-write_whole.ensures.ok tells in
    let turns = turns-moved (g.D.Disk.now c.make_way.new.disk) c.args.name.now c.args.dir.now c.args.file.now c.args.bytes.now c.requires whole
    (c.in_ok-make_way.ensures.ok t1 ((c.write_whole.ensures.time tells).last.order o).ordered) in
    then_turns c.args.dir.now c.args.file.now (Some c.args.bytes.now) _ _ _ _ _ _ came
    (turns-call c.args.dir.now c.args.file.now (Some c.args.bytes.now) _ _ _ _ _ turns (c.rename.ensures.either t2) (c.rename.ensures.time t2))

pub returns-clause-set : goal.returns-clause-set
returns-clause-set g c = on_ok c.sync_folder.result _ _
    (λ synced tells o.
    let t1 = c.write_whole.ensures.told ∙ tells in
    let t2 = c.make_way.ensures.told ∙ t1 in
    let t3 = c.rename.ensures.told ∙ t2 in
    let came = rests-then IsInOrder _ _ _ _ _ _ (c.write_whole.ensures.time tells)
    (c.make_way.ensures.time t1 ((c.write_whole.ensures.time tells).last.order o).ordered) in
    let whole = ap (λ (fs : List ℕ → List ℕ → Option DiskFile). fs writing c.args.name.now) (c.make_way.ensures.files t1)
    ∙ c.in_ok-write_whole.ensures.ok tells in
    let sets = sets-moved (g.D.Disk.now c.make_way.new.disk) c.args.name.now c.args.dir.now c.args.file.now c.args.bytes.now c.requires whole
    (c.in_ok-make_way.ensures.ok t1 ((c.write_whole.ensures.time tells).last.order o).ordered) in
    let sets' = subst (λ (x : DiskState). Sets (kept (g.D.Disk.now c.make_way.new.disk)) (kept x) c.args.dir.now c.args.file.now (Some c.args.bytes.now))
    (sym (c.in_ok-rename.ensures.ok t2)) sets in
    let rests = subst (λ (x : DiskState). Rests IsInOrder (g.D.Disk.now c.rename.new.self) x) (sym (synced t3))
    (rests-folder_synced (g.D.Disk.now c.rename.new.self) c.args.dir.now) in
    let D = g.D.Disk.now in
    same-sets c.args.dir.now c.args.file.now (Some c.args.bytes.now) (D c.args.disk.now) (D c.rename.new.self) (D c.sync_folder.new.self)
    (sets-same c.args.dir.now c.args.file.now (Some c.args.bytes.now) (D c.args.disk.now) (D c.make_way.new.disk)
    (D c.rename.new.self) came.last.now sets') rests.now)
    c.sync_folder.ensures.ok

pub returns-clause-durable : goal.returns-clause-durable
returns-clause-durable g c = on_ok c.sync_folder.result _ _
    (λ synced tells o.
    let t1 = c.write_whole.ensures.told ∙ tells in
    let t2 = c.make_way.ensures.told ∙ t1 in
    let t3 = c.rename.ensures.told ∙ t2 in
    let whole = ap (λ (fs : List ℕ → List ℕ → Option DiskFile). fs writing c.args.name.now) (c.make_way.ensures.files t1)
    ∙ c.in_ok-write_whole.ensures.ok tells in
    durable-moved (g.D.Disk.now c.make_way.new.disk) (g.D.Disk.now c.rename.new.self)
    (g.D.Disk.now c.sync_folder.new.self) c.args.name.now c.args.dir.now c.args.file.now c.args.bytes.now
    c.requires whole (c.in_ok-make_way.ensures.ok t1 ((c.write_whole.ensures.time tells).last.order o).ordered) (c.in_ok-rename.ensures.ok t2) (synced t3))
    c.sync_folder.ensures.ok

pub returns-clause-time : goal.returns-clause-time
returns-clause-time g c = λ tells o.
    let t1 = c.write_whole.ensures.told ∙ tells in
    let t2 = c.make_way.ensures.told ∙ t1 in
    let t3 = c.rename.ensures.told ∙ t2 in
    let came = rests-then IsInOrder _ _ _ _ _ _ (c.write_whole.ensures.time tells)
    (c.make_way.ensures.time t1 ((c.write_whole.ensures.time tells).last.order o).ordered) in
    let whole = ap (λ (fs : List ℕ → List ℕ → Option DiskFile). fs writing c.args.name.now) (c.make_way.ensures.files t1)
    ∙ c.in_ok-write_whole.ensures.ok tells in
    let turns = turns-moved (g.D.Disk.now c.make_way.new.disk) c.args.name.now c.args.dir.now c.args.file.now c.args.bytes.now c.requires whole
    (c.in_ok-make_way.ensures.ok t1 ((c.write_whole.ensures.time tells).last.order o).ordered) in
    let turned = then_turns c.args.dir.now c.args.file.now (Some c.args.bytes.now) _ _ _ _ _ _ came
    (turns-call c.args.dir.now c.args.file.now (Some c.args.bytes.now) _ _ _ _ _ turns (c.rename.ensures.either t2) (c.rename.ensures.time t2)) in
    then_rests c.args.dir.now c.args.file.now (Some c.args.bytes.now) _ _ _ _ _ _ turned
    (rests-call IsInOrder _ _ _ _ _ (rests-folder_synced (g.D.Disk.now c.rename.new.self) c.args.dir.now) (c.sync_folder.ensures.either t3)
    (c.sync_folder.ensures.time t3))
