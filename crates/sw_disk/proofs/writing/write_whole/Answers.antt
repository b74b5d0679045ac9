use Rattle.std.proofs.Common.{◌∙◌}
use Rattle.sw_disk.proofs.Moments.{on_ok, passes-one, rests-call, rests-then}
use Rattle.sw_disk.proofs.Turning.{rests-create, rests-file_synced, whole-written}
use Rattle.sw_disk.specs.Keeping.{IsInOrder, Rests}
use Rattle.sw_disk.proofs.writing.write_whole.Goals as goal

pub returns-in_err-create-clause-time : goal.returns-in_err-create-clause-time
returns-in_err-create-clause-time g c = λ tells.
    passes-one (Rests IsInOrder) _ _ _ _ (c.create.ensures.time tells) (rests-create _ _ c.args.name.now (c.create.ensures.either tells))

pub returns-clause-ok : goal.returns-clause-ok
returns-clause-ok g c = on_ok c.sync_file.result _ _
    (λ synced tells. whole-written _ _ _ c.args.name.now c.args.bytes.now (c.in_ok-create.ensures.ok tells) (synced (c.create.ensures.told ∙ tells)))
    c.sync_file.ensures.ok

pub returns-clause-time : goal.returns-clause-time
returns-clause-time g c = λ tells.
    let t1 = c.create.ensures.told ∙ tells in
    let made = passes-one (Rests IsInOrder) _ _ _ _ (c.create.ensures.time tells) (rests-create _ _ c.args.name.now (c.create.ensures.either tells)) in
    rests-then IsInOrder _ _ _ _ _ _ made (rests-call IsInOrder _ _ _ _ _ (rests-file_synced (g.D.Disk.now c.create.new.self) c.args.name.now)
    (c.sync_file.ensures.either t1) (c.sync_file.ensures.time t1))
