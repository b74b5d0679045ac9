use Rattle.std.proofs.Common.{◌≡◌, true, List, ℕ, ◌∙◌, ap, subst}
use Rattle.sw_cleanup.specs.Cleaning.{AreListedIn}
use Rattle.sw_hashdir.specs.Places.{dir_text}
use Rattle.sw_objdir.proofs.RecordFinding.{looks-gone}
use Rattle.sw_objdir.specs.Directories.{IsDir, Kept}
use Rattle.sw_volume.specs.Tree.{contents}
use Rattle.sw_objdir.proofs.obj_dir.ObjDir.look_gone.Goals as goal

pub returns-in-Ok-list : goal.returns-in-Ok-list
returns-in-Ok-list g c =
    let v = g.V.Volume in
    let k = c.args.self.now in let n = c.list.new.self in let name = c.args.name.now in let seen = c.in-Ok-list.seen in
    let dir : IsDir v.tells v.holds v.faults k = subst (λ (x : Kept _). IsDir v.tells v.holds v.faults x) c.self.view_is c.self.invariant in
    let path_is : c.in-Ok.dir.items ≡ dir_text k.power name.hash = c.in-Ok.ensures.text ∙ ap (λ (x : Kept _). dir_text x.power name.hash) c.self.view_is in
    let names : v.tells k.volume ≡ true → AreListedIn (contents (v.holds k.volume)) (dir_text k.power name.hash) seen.names.items =
    λ told. subst (λ (d : List ℕ). AreListedIn (contents (v.holds k.volume)) d seen.names.items) (c.deref.ensures.value ∙ path_is)
    (c.in-Ok-list.ensures.names told) in
    looks-gone v.tells v.holds v.faults v.calls v.lists k dir name c.args.time n c.list.ensures.dir c.list.ensures.looks c.is_before.result seen.names.items
    seen.picked seen.outline c.is_before.ensures names c.in-Ok-list.ensures.picked c.in-Ok-list.ensures.shape c.in-Ok-list.ensures.outline
    c.in-Ok-list.ensures.settles c.in-Ok-list.ensures.settled c.list.ensures.calls c.list.ensures.lists c.in-Ok-list.ensures.cause.kept
