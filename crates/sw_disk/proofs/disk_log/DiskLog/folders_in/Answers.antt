use Rattle.std.proofs.Common.{◌≡◌, ◌⊎◌, ◌↔◌, ◌∙◌, List, [], true, IsSome, subst, refl}
use Rattle.std.proofs.lemmas.List.{take_all}
use Rattle.std.specs.List.{list_any}
use Rattle.sw_disk.proofs.Makes.{lists-subfolders, named-more}
use Rattle.sw_disk.specs.Folders.{names_in}
use Rattle.sw_disk.specs.declared.change.Change.{Change}
use Rattle.sw_volume.specs.Tree.{contents}
use Rattle.sw_disk.proofs.disk_log.DiskLog.folders_in.Goals as goal

pub loop-change-preserved : goal.loop-change-preserved
loop-change-preserved c = λ name.
    named-more (names_in c.args.dir.now name) c.deref-change-items.result.now c.loop-change.change-index c.change-item.result _ _ c.loop-change-test.true
    (c.loop-change.invariant name)
    (subst (λ (x : Change). IsSome (contents c.add_name.new.names.folders [] name)
    ↔ (IsSome (contents c.loop-change.names.folders [] name) ⊎ (names_in c.args.dir.now name x ≡ true)))
    c.change-item.is (c.in_ok-add_name.ensures name))

pub returns-in-Ok : goal.returns-in-Ok
returns-in-Ok c =
    let all = take_all c.loop-change.change-index c.deref-change-items.result.now c.loop-change-test.false ∙ c.deref-change-items.ensures.value in
    lists-subfolders c.loop-change.names.folders c.args.self.now.changes.items c.args.dir.now c.in-Ok.listing.files
    (λ name. subst (λ (l : List Change). IsSome (contents c.loop-change.names.folders [] name) ↔ (list_any (names_in c.args.dir.now name) l ≡ true))
    all (c.loop-change.invariant name))
    (c.in-Ok.ensures.files refl)
