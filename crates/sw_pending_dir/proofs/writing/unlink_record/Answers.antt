use Rattle.std.proofs.Common.{◌≡◌, ℕ, true, List, None, OnErr, OnOk, subst, take}
use Rattle.sw_pending.specs.Names.{folder_text, name_text}
use Rattle.sw_volume.specs.Tree.{Folders, contents}
use Rattle.sw_volume.specs.Volume.{Contents, MaySet, Sets}
use Rattle.sw_pending_dir.specs.Steps.{DropsRecord, MayDropRecord}
use Rattle.sw_pending_dir.proofs.Results.{on-err, on-ok, written}
use Rattle.sw_pending_dir.proofs.Stepping.{unlink-drops, unlink-may-drop}
use Rattle.sw_pending_dir.proofs.writing.unlink_record.Goals as goal

pub returns-clause-ok : goal.returns-clause-ok
returns-clause-ok g c =
    let T : Type 0 = g.V.Volume.tells c.args.volume.now ≡ true in
    let old : Contents = contents (g.V.Volume.holds c.args.volume.now) in
    let new : Contents = contents (g.V.Volume.holds c.unlink.new.self) in
    let name : take c.write_name-count.result c.write_name-count.new.out ≡ name_text c.args.key.now =
    written (name_text c.args.key.now) _ c.write_name-count.new.out c.write_name-count.result c.write_name-count.ensures.count
    c.write_name-count.ensures.text in
    subst (λ (d : List ℕ). OnOk c.unlink.result (T → Sets old new d (name_text c.args.key.now) None)) c.folder.ensures
    (subst (λ (n : List ℕ). OnOk c.unlink.result (T → Sets old new c.folder.result n None)) name c.unlink.ensures.ok)

pub returns-clause-failed : goal.returns-clause-failed
returns-clause-failed g c =
    let T : Type 0 = g.V.Volume.tells c.args.volume.now ≡ true in
    let old : Contents = contents (g.V.Volume.holds c.args.volume.now) in
    let new : Contents = contents (g.V.Volume.holds c.unlink.new.self) in
    let name : take c.write_name-count.result c.write_name-count.new.out ≡ name_text c.args.key.now =
    written (name_text c.args.key.now) _ c.write_name-count.new.out c.write_name-count.result c.write_name-count.ensures.count
    c.write_name-count.ensures.text in
    subst (λ (d : List ℕ). OnErr c.unlink.result (T → MaySet old new d (name_text c.args.key.now) None)) c.folder.ensures
    (subst (λ (n : List ℕ). OnErr c.unlink.result (T → MaySet old new c.folder.result n None)) name c.unlink.ensures.failed)

pub returns-clause-drops : goal.returns-clause-drops
returns-clause-drops g c =
    let T : Type 0 = g.V.Volume.tells c.args.volume.now ≡ true in
    let old : Folders = g.V.Volume.holds c.args.volume.now in
    let new : Folders = g.V.Volume.holds c.unlink.new.self in
    let key = c.args.key.now in
    on-ok (T → Sets (contents old) (contents new) (folder_text key.hash) (name_text key) None) (T → DropsRecord key old new)
    (λ sets told. unlink-drops old new key c.write_name-count.ensures.key (sets told)) c.unlink.result (returns-clause-ok g c)

pub returns-clause-may_drop : goal.returns-clause-may_drop
returns-clause-may_drop g c =
    let T : Type 0 = g.V.Volume.tells c.args.volume.now ≡ true in
    let old : Folders = g.V.Volume.holds c.args.volume.now in
    let new : Folders = g.V.Volume.holds c.unlink.new.self in
    let key = c.args.key.now in
    on-err (T → MaySet (contents old) (contents new) (folder_text key.hash) (name_text key) None) (T → MayDropRecord key old new)
    (λ sets told. unlink-may-drop old new key c.write_name-count.ensures.key (sets told)) c.unlink.result (returns-clause-failed g c)
