use Rattle.std.proofs.Common.{◌≡◌, ℕ, true, List, Some, OnOk, subst, take}
use Rattle.sw_pending.specs.Names.{name_text}
use Rattle.sw_volume.specs.Tree.{contents}
use Rattle.sw_volume.specs.Volume.{Contents, MaySet, OnFailed, Sets}
use Rattle.sw_pending_dir.proofs.Results.{written}
use Rattle.sw_pending_dir.proofs.writing.put_file.Goals as goal

pub returns-clause-key : goal.returns-clause-key
returns-clause-key g c = c.write_name-count.ensures.key

pub returns-clause-ok : goal.returns-clause-ok
returns-clause-ok g c =
    let T : Type 0 = g.V.Volume.tells c.args.volume.now ≡ true in
    let old : Contents = contents (g.V.Volume.holds c.args.volume.now) in
    let new : Contents = contents (g.V.Volume.holds c.put.new.self) in
    let name : take c.write_name-count.result c.write_name-count.new.out ≡ name_text c.args.key.now =
    written (name_text c.args.key.now) _ c.write_name-count.new.out c.write_name-count.result c.write_name-count.ensures.count
    c.write_name-count.ensures.text in
    subst (λ (d : List ℕ). OnOk c.put.result (T → Sets old new d (name_text c.args.key.now) (Some c.args.bytes.now))) c.folder.ensures
    (subst (λ (n : List ℕ). OnOk c.put.result (T → Sets old new c.folder.result n (Some c.args.bytes.now))) name c.put.ensures.ok)

pub returns-clause-failed : goal.returns-clause-failed
returns-clause-failed g c =
    let T : Type 0 = g.V.Volume.tells c.args.volume.now ≡ true in
    let old : Contents = contents (g.V.Volume.holds c.args.volume.now) in
    let new : Contents = contents (g.V.Volume.holds c.put.new.self) in
    let name : take c.write_name-count.result c.write_name-count.new.out ≡ name_text c.args.key.now =
    written (name_text c.args.key.now) _ c.write_name-count.new.out c.write_name-count.result c.write_name-count.ensures.count
    c.write_name-count.ensures.text in
    subst (λ (d : List ℕ). OnFailed c.put.result (T → MaySet old new d (name_text c.args.key.now) (Some c.args.bytes.now))) c.folder.ensures
    (subst (λ (n : List ℕ). OnFailed c.put.result (T → MaySet old new c.folder.result n (Some c.args.bytes.now))) name c.put.ensures.failed)
