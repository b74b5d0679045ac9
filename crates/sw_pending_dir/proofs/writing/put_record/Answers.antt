use Rattle.std.proofs.Common.{◌≡◌, ℕ, true, List, Some, subst, ◌∙◌}
use Rattle.sw_pending.specs.Names.{folder_text, name_text}
use Rattle.sw_pending.specs.Records.{key_of}
use Rattle.sw_pending.specs.declared.key.RecordKey.{RecordKey}
use Rattle.sw_volume.specs.Tree.{Folders, contents}
use Rattle.sw_volume.specs.Volume.{MaySet, Sets}
use Rattle.sw_pending_dir.specs.Steps.{FilesRecord, MayFileRecord}
use Rattle.sw_pending_dir.proofs.Results.{on-failed, on-ok}
use Rattle.sw_pending_dir.proofs.Stepping.{put-files, put-may-file}
use Rattle.sw_pending_dir.proofs.writing.put_record.Goals as goal

pub returns-clause-files : goal.returns-clause-files
returns-clause-files g c =
    let T : Type 0 = g.V.Volume.tells c.args.volume.now ≡ true in
    let old : Folders = g.V.Volume.holds c.args.volume.now in
    let new : Folders = g.V.Volume.holds c.put_file.new.volume in
    let filed = c.args.filed.now in
    on-ok (T → Sets (contents old) (contents new) (folder_text c.key.result.hash) (name_text c.key.result) (Some c.as_slice.result.now)) (T
    → FilesRecord filed old new)
    (λ sets told. put-files old new filed c.in_ok-bytes.ensures.record
    (subst (λ (b : List ℕ). Sets (contents old) (contents new) (folder_text filed.name.hash) (name_text (key_of filed)) (Some b))
    (c.as_slice.ensures ∙ c.in_ok-bytes.ensures.text)
    (subst (λ (k : RecordKey). Sets (contents old) (contents new) (folder_text k.hash) (name_text k) (Some c.as_slice.result.now)) c.key.ensures (sets told))))
    c.put_file.result c.put_file.ensures.ok

pub returns-clause-may_file : goal.returns-clause-may_file
returns-clause-may_file g c =
    let T : Type 0 = g.V.Volume.tells c.args.volume.now ≡ true in
    let old : Folders = g.V.Volume.holds c.args.volume.now in
    let new : Folders = g.V.Volume.holds c.put_file.new.volume in
    let filed = c.args.filed.now in
    on-failed (T → MaySet (contents old) (contents new) (folder_text c.key.result.hash) (name_text c.key.result) (Some c.as_slice.result.now))
    (T → MayFileRecord filed old new)
    (λ sets told. put-may-file old new filed c.in_ok-bytes.ensures.record
    (subst (λ (b : List ℕ). MaySet (contents old) (contents new) (folder_text filed.name.hash) (name_text (key_of filed)) (Some b))
    (c.as_slice.ensures ∙ c.in_ok-bytes.ensures.text)
    (subst (λ (k : RecordKey). MaySet (contents old) (contents new) (folder_text k.hash) (name_text k) (Some c.as_slice.result.now)) c.key.ensures
    (sets told))))
    c.put_file.result c.put_file.ensures.failed
