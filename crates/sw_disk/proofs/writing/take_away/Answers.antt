use Rattle.std.proofs.Common.{◌≡◌, ◌∙◌, true, false, sym, ap, subst, None, Bool, if◌then◌else◌}
use Rattle.sw_disk.proofs.Moments.{as_turns, on_ok, rests-call, rests-look, rests-then, then_rests, turns-call}
use Rattle.sw_disk.proofs.States.{rests-folder_synced}
use Rattle.sw_disk.proofs.Turning.{durable-missing, durable-none, durable-removed, kept-none, same-sets, sets-nothing, sets-removed, turns-removed}
use Rattle.sw_disk.specs.Calls.{folder_synced}
use Rattle.sw_disk.specs.Disk.{DiskState}
use Rattle.sw_disk.specs.Keeping.{IsDurable, IsInOrder, Rests, kept}
use Rattle.sw_disk.specs.Standings.{Stands}
use Rattle.sw_disk.specs.declared.disk.Standing.{Standing}
use Rattle.sw_disk.specs.declared.disk.Standing.TheVariants.{Missing}
use Rattle.sw_volume.specs.Volume.{Sets}
use Rattle.sw_disk.proofs.writing.take_away.Goals as goal

pub returns-in_err-unlink-clause-time : goal.returns-in_err-unlink-clause-time
returns-in_err-unlink-clause-time g c = λ tells.
    turns-call c.args.dir.now c.args.file.now None _ _ _ _ _ (turns-removed (g.D.Disk.now c.args.disk.now) c.args.dir.now c.args.file.now c.requires.place)
    (c.unlink.ensures.either tells) (c.unlink.ensures.time tells)

stood : (b : Bool) (a r : DiskState) (t : DiskState) → b ≡ true → t ≡ (if b then r else a) → t ≡ r
stood true a r t on e = e
stood false a r t on e = cc

none_stood : (b : Bool) (a r : DiskState) (t : DiskState) → b ≡ false → t ≡ (if b then r else a) → t ≡ a
none_stood true a r t off e = cc
none_stood false a r t off e = e

pub returns-then-branch-clause-set : goal.returns-then-branch-clause-set
returns-then-branch-clause-set g c = on_ok c.sync_folder.result _ _
    (λ synced tells.
    let D = g.D.Disk.now in
    let is_removed = stood c.in_ok-unlink.field-0 _ _ (D c.unlink.new.self) c.if-branch.true (c.in_ok-unlink.ensures.ok tells) in
    let sets = subst (λ (x : DiskState). Sets (kept (D c.args.disk.now)) (kept x) c.args.dir.now c.args.file.now None) (sym is_removed)
    (sets-removed (D c.args.disk.now) c.args.dir.now c.args.file.now c.requires.place) in
    let rests = subst (λ (x : DiskState). Rests IsInOrder (D c.unlink.new.self) x) (sym (synced (c.unlink.ensures.told ∙ tells)))
    (rests-folder_synced (D c.unlink.new.self) c.args.dir.now) in
    same-sets c.args.dir.now c.args.file.now None (D c.args.disk.now) (D c.unlink.new.self) (D c.sync_folder.new.self) sets rests.now)
    c.sync_folder.ensures.ok

pub returns-then-branch-clause-durable : goal.returns-then-branch-clause-durable
returns-then-branch-clause-durable g c = on_ok c.sync_folder.result _ _
    (λ synced tells o.
    let D = g.D.Disk.now in
    let is_removed = stood c.in_ok-unlink.field-0 _ _ (D c.unlink.new.self) c.if-branch.true (c.in_ok-unlink.ensures.ok tells) in
    durable-removed (D c.args.disk.now) (D c.unlink.new.self) (D c.sync_folder.new.self) c.args.dir.now c.args.file.now is_removed
    (synced (c.unlink.ensures.told ∙ tells)))
    c.sync_folder.ensures.ok

pub returns-then-branch-clause-durable_stood : goal.returns-then-branch-clause-durable_stood
returns-then-branch-clause-durable_stood g c = on_ok c.sync_folder.result _ _
    (λ synced tells there.
    let D = g.D.Disk.now in
    let is_removed = stood c.in_ok-unlink.field-0 _ _ (D c.unlink.new.self) c.if-branch.true (c.in_ok-unlink.ensures.ok tells) in
    durable-removed (D c.args.disk.now) (D c.unlink.new.self) (D c.sync_folder.new.self) c.args.dir.now c.args.file.now is_removed
    (synced (c.unlink.ensures.told ∙ tells)))
    c.sync_folder.ensures.ok

pub returns-then-branch-clause-time : goal.returns-then-branch-clause-time
returns-then-branch-clause-time g c = λ tells.
    let t1 = c.unlink.ensures.told ∙ tells in
    let turned = turns-call c.args.dir.now c.args.file.now None _ _ _ _ _
    (turns-removed (g.D.Disk.now c.args.disk.now) c.args.dir.now c.args.file.now c.requires.place)
    (c.unlink.ensures.either tells) (c.unlink.ensures.time tells) in
    then_rests c.args.dir.now c.args.file.now None _ _ _ _ _ _ turned
    (rests-call IsInOrder _ _ _ _ _ (rests-folder_synced (g.D.Disk.now c.unlink.new.self) c.args.dir.now) (c.sync_folder.ensures.either t1)
    (c.sync_folder.ensures.time t1))

-- nothing was taken away, and the folder was looked at
pub returns-in_err-look-clause-time : goal.returns-in_err-look-clause-time
returns-in_err-look-clause-time g c = λ tells.
    let D = g.D.Disk.now in
    let t1 = c.unlink.ensures.told ∙ tells in
    let same = none_stood c.in_ok-unlink.field-0 _ _ (D c.unlink.new.self) c.if-branch.false (c.in_ok-unlink.ensures.ok tells) in
    as_turns c.args.dir.now c.args.file.now None _ _ _ _
    (rests-then IsInOrder _ _ _ _ _ _ (rests-look IsInOrder (D c.args.disk.now) (D c.unlink.new.self) _ _ same (c.unlink.ensures.time tells))
    (rests-look IsInOrder (D c.unlink.new.self) (D c.look.new.self) _ _ (c.look.ensures.same t1) (c.look.ensures.time t1)))

pub returns-in-Missing-clause-set : goal.returns-in-Missing-clause-set
returns-in-Missing-clause-set g c = λ tells.
    let D = g.D.Disk.now in
    let t1 = c.unlink.ensures.told ∙ tells in
    let same = none_stood c.in_ok-unlink.field-0 _ _ (D c.unlink.new.self) c.if-branch.false (c.in_ok-unlink.ensures.ok tells) in
    sets-nothing (D c.args.disk.now) (D c.look.new.self) c.args.dir.now c.args.file.now ((c.in_ok-unlink.ensures.found tells).1 c.if-branch.false)
    (c.look.ensures.same t1 ∙ same)

pub returns-in-Missing-clause-durable : goal.returns-in-Missing-clause-durable
returns-in-Missing-clause-durable g c = λ tells o.
    let D = g.D.Disk.now in
    let t1 = c.unlink.ensures.told ∙ tells in
    let same = none_stood c.in_ok-unlink.field-0 _ _ (D c.unlink.new.self) c.if-branch.false (c.in_ok-unlink.ensures.ok tells) in
    let missing : Stands (D c.args.disk.now) c.args.dir.now Missing =
    subst (λ (x : DiskState). Stands x c.args.dir.now Missing) same
    (subst (λ (s : Standing). Stands (D c.unlink.new.self) c.args.dir.now s) c.in-Missing.is (c.in_ok-look.ensures.found t1)) in
    subst (λ (x : DiskState). IsDurable x c.args.dir.now c.args.file.now None) (sym (c.look.ensures.same t1 ∙ same))
    (durable-missing (D c.args.disk.now) c.args.dir.now c.args.file.now o.ordered c.requires.below missing
    ((c.in_ok-unlink.ensures.found tells).1 c.if-branch.false))

pub returns-in-Missing-clause-durable_stood : goal.returns-in-Missing-clause-durable_stood
returns-in-Missing-clause-durable_stood g c = λ tells there.
    absurd (kept-none (g.D.Disk.now c.args.disk.now) c.args.dir.now c.args.file.now ((c.in_ok-unlink.ensures.found tells).1 c.if-branch.false) there)

pub returns-in-Missing-clause-time : goal.returns-in-Missing-clause-time
returns-in-Missing-clause-time g c = λ tells.
    let D = g.D.Disk.now in
    let t1 = c.unlink.ensures.told ∙ tells in
    let same = none_stood c.in_ok-unlink.field-0 _ _ (D c.unlink.new.self) c.if-branch.false (c.in_ok-unlink.ensures.ok tells) in
    as_turns c.args.dir.now c.args.file.now None _ _ _ _
    (rests-then IsInOrder _ _ _ _ _ _ (rests-look IsInOrder (D c.args.disk.now) (D c.unlink.new.self) _ _ same (c.unlink.ensures.time tells))
    (rests-look IsInOrder (D c.unlink.new.self) (D c.look.new.self) _ _ (c.look.ensures.same t1) (c.look.ensures.time t1)))

pub returns-in-Empty-clause-set : goal.returns-in-Empty-clause-set
returns-in-Empty-clause-set g c = on_ok c.sync_folder-in-Empty.result _ _
    (λ synced tells.
    let D = g.D.Disk.now in
    let t1 = c.unlink.ensures.told ∙ tells in
    let same = none_stood c.in_ok-unlink.field-0 _ _ (D c.unlink.new.self) c.if-branch.false (c.in_ok-unlink.ensures.ok tells) in
    let sets = sets-nothing (D c.args.disk.now) (D c.look.new.self) c.args.dir.now c.args.file.now ((c.in_ok-unlink.ensures.found tells).1 c.if-branch.false)
    (c.look.ensures.same t1 ∙ same) in
    let rests = subst (λ (x : DiskState). Rests IsInOrder (D c.look.new.self) x) (sym (synced (c.look.ensures.told ∙ t1)))
    (rests-folder_synced (D c.look.new.self) c.args.dir.now) in
    same-sets c.args.dir.now c.args.file.now None (D c.args.disk.now) (D c.look.new.self) (D c.sync_folder-in-Empty.new.self) sets rests.now)
    c.sync_folder-in-Empty.ensures.ok

pub returns-in-Empty-clause-durable : goal.returns-in-Empty-clause-durable
returns-in-Empty-clause-durable g c = on_ok c.sync_folder-in-Empty.result _ _
    (λ synced tells o.
    let D = g.D.Disk.now in
    let t1 = c.unlink.ensures.told ∙ tells in
    let same = none_stood c.in_ok-unlink.field-0 _ _ (D c.unlink.new.self) c.if-branch.false (c.in_ok-unlink.ensures.ok tells) in
    durable-none (D c.args.disk.now) (D c.sync_folder-in-Empty.new.self) c.args.dir.now c.args.file.now
    ((c.in_ok-unlink.ensures.found tells).1 c.if-branch.false)
    (synced (c.look.ensures.told ∙ t1) ∙ ap (λ (x : DiskState). folder_synced x c.args.dir.now) (c.look.ensures.same t1 ∙ same)))
    c.sync_folder-in-Empty.ensures.ok

pub returns-in-Empty-clause-durable_stood : goal.returns-in-Empty-clause-durable_stood
returns-in-Empty-clause-durable_stood g c = on_ok c.sync_folder-in-Empty.result _ _
    (λ synced tells there.
    let D = g.D.Disk.now in
    let t1 = c.unlink.ensures.told ∙ tells in
    let same = none_stood c.in_ok-unlink.field-0 _ _ (D c.unlink.new.self) c.if-branch.false (c.in_ok-unlink.ensures.ok tells) in
    durable-none (D c.args.disk.now) (D c.sync_folder-in-Empty.new.self) c.args.dir.now c.args.file.now
    ((c.in_ok-unlink.ensures.found tells).1 c.if-branch.false)
    (synced (c.look.ensures.told ∙ t1) ∙ ap (λ (x : DiskState). folder_synced x c.args.dir.now) (c.look.ensures.same t1 ∙ same)))
    c.sync_folder-in-Empty.ensures.ok

pub returns-in-Empty-clause-time : goal.returns-in-Empty-clause-time
returns-in-Empty-clause-time g c = λ tells.
    let D = g.D.Disk.now in
    let t1 = c.unlink.ensures.told ∙ tells in
    let t2 = c.look.ensures.told ∙ t1 in
    let same = none_stood c.in_ok-unlink.field-0 _ _ (D c.unlink.new.self) c.if-branch.false (c.in_ok-unlink.ensures.ok tells) in
    as_turns c.args.dir.now c.args.file.now None _ _ _ _
    (rests-then IsInOrder _ _ _ _ _ _
    (rests-then IsInOrder _ _ _ _ _ _ (rests-look IsInOrder (D c.args.disk.now) (D c.unlink.new.self) _ _ same (c.unlink.ensures.time tells))
    (rests-look IsInOrder (D c.unlink.new.self) (D c.look.new.self) _ _ (c.look.ensures.same t1) (c.look.ensures.time t1)))
    (rests-call IsInOrder _ _ _ _ _ (rests-folder_synced (D c.look.new.self) c.args.dir.now) (c.sync_folder-in-Empty.ensures.either t2)
    (c.sync_folder-in-Empty.ensures.time t2)))
