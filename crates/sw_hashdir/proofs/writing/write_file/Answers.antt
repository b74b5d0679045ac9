use Rattle.std.proofs.Common.{◌≡◌, ℕ, ◌++◌, ◌∷◌, [], List, Some, Result, Err, refl, ap, subst, ◌∙◌, filter}
use Rattle.sw_cleanup.specs.Cleaning.{Unlinks, obsolete_of}
use Rattle.sw_diskfile.specs.StateFiles.{name_of}
use Rattle.sw_cleanup.specs.Obsolete.{is_obsolete}
use Rattle.sw_diskfile.specs.FileNames.{name_text}
use Rattle.sw_diskfile.specs.declared.file_name.FileName.{FileName}
use Rattle.sw_metafile.specs.Texts.{file_text}
use Rattle.sw_timestamp.specs.declared.tag.Tag.{Tag}
use Rattle.sw_volume.specs.Tree.{contents}
use Rattle.sw_volume.specs.Volume.{MaySet, OnFailed, Sets}
use Rattle.sw_hashdir.proofs.Putting.{put-may-join, writes-join}
use Rattle.sw_volume.specs.declared.errors.VolumeError.{VolumeError}
use Rattle.sw_volume.specs.declared.errors.VolumeError.TheVariants.{Failed, NoMemory}
use Rattle.sw_hashdir.proofs.writing.write_file.Goals as goal

pub returns-in-Ok-clause-ok : goal.returns-in-Ok-clause-ok
returns-in-Ok-clause-ok g c = λ told.
    let v = g.V.Volume in
    let w = c.args.write.now in
    let file : FileName = record { time = w.time; tag = c.tag.result } in
    let file_is : file ≡ name_of w = ap (λ (t : Tag). let f : FileName = record { time = w.time; tag = t } in f) c.tag.ensures in
    let names : List FileName = c.args.names.now in
    record {
      between = v.holds c.put.new.volume;
      puts = subst (λ (f : FileName). Sets (contents (v.holds c.args.volume.now)) (contents (v.holds c.put.new.volume)) c.args.dir.now (name_text f)
          (Some (file_text c.args.name.now.account c.args.name.now.container c.args.name.now.object w))) file_is
          (subst (λ (bytes : List ℕ). Sets (contents (v.holds c.args.volume.now)) (contents (v.holds c.put.new.volume)) c.args.dir.now (name_text file)
          (Some bytes)) (c.as_slice.ensures ∙ c.in_ok-bytes.ensures.text) (c.in-Ok.ensures.ok told));
      unlinks = subst (λ (before : ℕ). Unlinks (contents (v.holds c.put.new.volume)) (contents (v.holds c.unlink_each.new.volume)) c.args.dir.now
          (obsolete_of (names ++ name_of w ∷ [])) before (v.faults c.unlink_each.new.volume)) (c.in-Ok.ensures.cause.kept)
          (subst (λ (f : FileName). Unlinks (contents (v.holds c.put.new.volume)) (contents (v.holds c.unlink_each.new.volume)) c.args.dir.now
          (filter (is_obsolete (names ++ f ∷ [])) (names ++ f ∷ [])) (v.faults c.put.new.volume) (v.faults c.unlink_each.new.volume)) file_is
          (subst (λ (fs : List FileName). Unlinks (contents (v.holds c.put.new.volume)) (contents (v.holds c.unlink_each.new.volume)) c.args.dir.now fs
          (v.faults c.put.new.volume) (v.faults c.unlink_each.new.volume))
          (c.deref.ensures.value ∙ c.in_ok-superseded.ensures) (c.unlink_each.ensures.unlinks (c.put.ensures.told ∙ told))));
    }

pub returns-in-Ok-clause-joins : goal.returns-in-Ok-clause-joins
returns-in-Ok-clause-joins g c = λ told.
    let v = g.V.Volume in
    writes-join (v.holds c.args.volume.now) (v.holds c.unlink_each.new.volume) c.args.dir.now c.args.names.now c.args.name.now c.args.write.now
    (v.faults c.args.volume.now) (v.faults c.unlink_each.new.volume)
    c.in_ok-bytes.ensures.file (returns-in-Ok-clause-ok g c told)

on-failed : (T : Type 0) (e : VolumeError) (P Q : Type 0) → (P → Q) → let r : Result T VolumeError = Err e in OnFailed r P → OnFailed r Q
on-failed T Failed P Q step is = step is
on-failed T NoMemory P Q step is = is

pub returns-clause-failed : goal.returns-clause-failed
returns-clause-failed g c =
    let v = g.V.Volume in
    let w = c.args.write.now in
    let file_is : (let f : FileName = record { time = w.time; tag = c.tag.result } in f)
    ≡ name_of w = ap (λ (t : Tag). let f : FileName = record { time = w.time; tag = t } in f) c.tag.ensures in
    on-failed (Unit {0}) c.in-Err.error _ _
    (λ may told. subst (λ (f : FileName). MaySet (contents (v.holds c.args.volume.now)) (contents (v.holds c.put.new.volume)) c.args.dir.now (name_text f)
    (Some (file_text c.args.name.now.account c.args.name.now.container c.args.name.now.object w))) file_is
    (subst (λ (bytes : List ℕ). MaySet (contents (v.holds c.args.volume.now)) (contents (v.holds c.put.new.volume)) c.args.dir.now
    (name_text (record { time = w.time; tag = c.tag.result })) (Some bytes)) (c.as_slice.ensures ∙ c.in_ok-bytes.ensures.text) (may told)))
    c.in-Err.ensures.failed

pub returns-clause-may_join : goal.returns-clause-may_join
returns-clause-may_join g c =
    let v = g.V.Volume in
    let w = c.args.write.now in
    on-failed (Unit {0}) c.in-Err.error _ _
    (λ may told. put-may-join (v.holds c.args.volume.now) (v.holds c.put.new.volume) c.args.dir.now
    (file_text c.args.name.now.account c.args.name.now.container c.args.name.now.object w) c.args.names.now c.args.name.now w
    refl c.in_ok-bytes.ensures.file (may told))
    (returns-clause-failed g c)
