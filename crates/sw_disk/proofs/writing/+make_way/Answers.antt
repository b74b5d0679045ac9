use Rattle.std.proofs.Common.{arith, ◌≡◌, ◌==◌, ℕ, List, [], ◌∷◌, Bool, true, false, length, sym, ◌∙◌, ap, subst, refl, eqb-true}
use Rattle.sw_disk.proofs.Moments.{passes-none, rests-call, rests-look, rests-then, on_ok}
use Rattle.sw_disk.proofs.States.{rests-none, rests-made, rests-folder_synced}
use Rattle.sw_disk.proofs.Ways.{on_disk-own, on_disk-empty, on_disk-made, shorter}
use Rattle.sw_disk.specs.Calls.{folder_synced}
use Rattle.sw_disk.specs.Crash.{IsOnDisk}
use Rattle.sw_disk.specs.Disk.{DiskState}
use Rattle.sw_disk.specs.Keeping.{IsInOrder, IsOrdered, Rests}
use Rattle.sw_disk.specs.Paths.{above}
use Rattle.sw_disk.specs.Standings.{Stands}
use Rattle.sw_disk.specs.declared.disk.Standing.{Standing}
use Rattle.sw_disk.specs.declared.disk.Standing.TheVariants.{Empty}
use Rattle.sw_disk.proofs.writing.+make_way.Goals as goal

none_is_empty : (dir : List ℕ) → true ≡ (length dir == 0) → dir ≡ []
none_is_empty [] e = refl
none_is_empty (b ∷ bs) e = absurd (omega (arith, eqb-true (length (b ∷ bs)) 0 (sym e)))

empty_is_none : (dir : List ℕ) (b : Bool) → b ≡ (length dir == 0) → b ≡ false → ¬ (dir ≡ [])
empty_is_none dir b e off = λ none. cc (ap (λ (l : List ℕ). length l == 0) none)

pub returns-then-is_empty-clause-ok : goal.returns-then-is_empty-clause-ok
returns-then-is_empty-clause-ok g t c = λ tells ordered. on_disk-own (g.D.Disk.now c.args.disk.now) c.args.dir.now
    (none_is_empty c.args.dir.now c.if-is_empty.ensures)

pub returns-then-is_empty-clause-time : goal.returns-then-is_empty-clause-time
returns-then-is_empty-clause-time g t c = λ tells ordered. passes-none (Rests IsInOrder) (g.D.Disk.now c.args.disk.now) (g.D.Disk.past c.args.disk.now)
    (rests-none IsInOrder (g.D.Disk.now c.args.disk.now))

pub returns-in_err-look-clause-time : goal.returns-in_err-look-clause-time
returns-in_err-look-clause-time g t c = λ tells ordered. rests-look IsInOrder _ _ _ _ (c.look.ensures.same tells) (c.look.ensures.time tells)

pub make_way-requires : goal.make_way-requires
make_way-requires g t c κs within =
    let less = shorter c.args.dir.now (empty_is_none c.args.dir.now c.is_empty.result c.is_empty.ensures c.if-is_empty.false) in
    let way = ap (λ (l : List ℕ). length l) c.above-in-Missing.ensures in
    (omega (arith, less, way), within)

pub returns-in_err-make_way-in-Missing-clause-time : goal.returns-in_err-make_way-in-Missing-clause-time
returns-in_err-make_way-in-Missing-clause-time g t c = λ tells ordered.
    let looked = rests-look IsInOrder (g.D.Disk.now c.args.disk.now) (g.D.Disk.now c.look.new.self) _ _ (c.look.ensures.same tells)
    (c.look.ensures.time tells) in
    rests-then IsInOrder _ _ _ _ _ _ looked (c.make_way.ensures.time (c.look.ensures.told ∙ tells) (subst IsOrdered (sym (c.look.ensures.same tells)) ordered))

pub returns-in_err-make_folder-in-Missing-clause-time : goal.returns-in_err-make_folder-in-Missing-clause-time
returns-in_err-make_folder-in-Missing-clause-time g t c = λ tells ordered.
    let t1 = c.look.ensures.told ∙ tells in
    let t2 = c.make_way.ensures.told ∙ t1 in
    let looked = rests-look IsInOrder (g.D.Disk.now c.args.disk.now) (g.D.Disk.now c.look.new.self) _ _ (c.look.ensures.same tells)
    (c.look.ensures.time tells) in
    let came = rests-then IsInOrder _ _ _ _ _ _ looked (c.make_way.ensures.time t1 (subst IsOrdered (sym (c.look.ensures.same tells)) ordered)) in
    let way : IsOnDisk (g.D.Disk.now c.make_way.new.disk) (above c.args.dir.now) =
    subst (λ (d : List ℕ). IsOnDisk (g.D.Disk.now c.make_way.new.disk) d) c.above-in-Missing.ensures
    (c.in_ok-make_way-in-Missing.ensures.ok t1 (subst IsOrdered (sym (c.look.ensures.same tells)) ordered)) in
    rests-then IsInOrder _ _ _ _ _ _ came (rests-call IsInOrder _ _ _ _ _ (rests-made (g.D.Disk.now c.make_way.new.disk) c.args.dir.now way)
    (c.make_folder.ensures.either t2) (c.make_folder.ensures.time t2))

pub returns-in-Filled-clause-time : goal.returns-in-Filled-clause-time
returns-in-Filled-clause-time g t c = λ tells ordered. rests-look IsInOrder _ _ _ _ (c.look.ensures.same tells) (c.look.ensures.time tells)

pub returns-in-Empty-clause-ok : goal.returns-in-Empty-clause-ok
returns-in-Empty-clause-ok g t c = on_ok c.sync_folder.result _ _
    (λ synced tells ordered.
    let t1 = c.look.ensures.told ∙ tells in
    let same = c.look.ensures.same tells in
    let found : Stands (g.D.Disk.now c.args.disk.now) c.args.dir.now Empty = subst
    (λ (s : Standing). Stands (g.D.Disk.now c.args.disk.now) c.args.dir.now s) c.in-Empty.is (c.in_ok-look.ensures.found tells) in
    let ne = empty_is_none c.args.dir.now c.is_empty.result c.is_empty.ensures c.if-is_empty.false in
    let is = synced t1 ∙ ap (λ (d : List ℕ). folder_synced (g.D.Disk.now c.look.new.self) d) c.above.ensures ∙ ap
    (λ (s : DiskState). folder_synced s (above c.args.dir.now)) same in
    on_disk-empty (g.D.Disk.now c.args.disk.now) (g.D.Disk.now c.sync_folder.new.self) c.args.dir.now ne ordered found.0 is)
    c.sync_folder.ensures.ok

pub returns-in-Empty-clause-time : goal.returns-in-Empty-clause-time
returns-in-Empty-clause-time g t c = λ tells ordered.
    let t1 = c.look.ensures.told ∙ tells in
    let looked = rests-look IsInOrder (g.D.Disk.now c.args.disk.now) (g.D.Disk.now c.look.new.self) _ _ (c.look.ensures.same tells)
    (c.look.ensures.time tells) in
    rests-then IsInOrder _ _ _ _ _ _ looked (rests-call IsInOrder _ _ _ _ _ (rests-folder_synced (g.D.Disk.now c.look.new.self) c.above.result.now)
    (c.sync_folder.ensures.either t1) (c.sync_folder.ensures.time t1))

pub returns-in_ok-make_folder-in-Missing-clause-ok : goal.returns-in_ok-make_folder-in-Missing-clause-ok
returns-in_ok-make_folder-in-Missing-clause-ok g t c = on_ok c.sync_folder-in-Missing.result _ _
    (λ synced tells ordered.
    let t1 = c.look.ensures.told ∙ tells in
    let t2 = c.make_way.ensures.told ∙ t1 in
    let t3 = c.make_folder.ensures.told ∙ t2 in
    let way : IsOnDisk (g.D.Disk.now c.make_way.new.disk) (above c.args.dir.now) =
    subst (λ (d : List ℕ). IsOnDisk (g.D.Disk.now c.make_way.new.disk) d) c.above-in-Missing.ensures
    (c.in_ok-make_way-in-Missing.ensures.ok t1 (subst IsOrdered (sym (c.look.ensures.same tells)) ordered)) in
    on_disk-made (g.D.Disk.now c.make_way.new.disk) (g.D.Disk.now c.make_folder.new.self) (g.D.Disk.now c.sync_folder-in-Missing.new.self) c.args.dir.now way
    (c.in_ok-make_folder-in-Missing.ensures.ok t2) (synced t3 ∙ ap
    (λ (d : List ℕ). folder_synced (g.D.Disk.now c.make_folder.new.self) d) c.above-in-Missing-2.ensures))
    c.sync_folder-in-Missing.ensures.ok

pub returns-in_ok-make_folder-in-Missing-clause-time : goal.returns-in_ok-make_folder-in-Missing-clause-time
returns-in_ok-make_folder-in-Missing-clause-time g t c = λ tells ordered.
    let t1 = c.look.ensures.told ∙ tells in
    let t2 = c.make_way.ensures.told ∙ t1 in
    let t3 = c.make_folder.ensures.told ∙ t2 in
    let looked = rests-look IsInOrder (g.D.Disk.now c.args.disk.now) (g.D.Disk.now c.look.new.self) _ _ (c.look.ensures.same tells)
    (c.look.ensures.time tells) in
    let came = rests-then IsInOrder _ _ _ _ _ _ looked (c.make_way.ensures.time t1 (subst IsOrdered (sym (c.look.ensures.same tells)) ordered)) in
    let way : IsOnDisk (g.D.Disk.now c.make_way.new.disk) (above c.args.dir.now) =
    subst (λ (d : List ℕ). IsOnDisk (g.D.Disk.now c.make_way.new.disk) d) c.above-in-Missing.ensures
    (c.in_ok-make_way-in-Missing.ensures.ok t1 (subst IsOrdered (sym (c.look.ensures.same tells)) ordered)) in
    let is_made = rests-then IsInOrder _ _ _ _ _ _ came (rests-call IsInOrder _ _ _ _ _ (rests-made (g.D.Disk.now c.make_way.new.disk) c.args.dir.now way)
    (c.make_folder.ensures.either t2) (c.make_folder.ensures.time t2)) in
    rests-then IsInOrder _ _ _ _ _ _ is_made (rests-call IsInOrder _ _ _ _ _
    (rests-folder_synced (g.D.Disk.now c.make_folder.new.self) c.above-in-Missing-2.result.now) (c.sync_folder-in-Missing.ensures.either t3)
    (c.sync_folder-in-Missing.ensures.time t3))
