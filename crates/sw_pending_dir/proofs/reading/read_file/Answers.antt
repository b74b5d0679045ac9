use Rattle.std.proofs.Common.{◌≡◌, ℕ, true, List, IfOk, IsSome, subst, take}
use Rattle.sw_pending.specs.Names.{name_text}
use Rattle.sw_volume.specs.Tree.{contents}
use Rattle.sw_volume.specs.Volume.{Contents, OnNoMemory}
use Rattle.sw_pending_dir.proofs.Results.{written}
use Rattle.sw_pending_dir.proofs.reading.read_file.Goals as goal

pub returns-clause-value : goal.returns-clause-value
returns-clause-value g c =
    let T : Type 0 = g.V.Volume.tells c.args.volume.now ≡ true in
    let old : Contents = contents (g.V.Volume.holds c.args.volume.now) in
    let name : take c.write_name-count.result c.write_name-count.new.out ≡ name_text c.args.key.now =
    written (name_text c.args.key.now) _ c.write_name-count.new.out c.write_name-count.result c.write_name-count.ensures.count
    c.write_name-count.ensures.text in
    subst (λ (d : List ℕ). IfOk c.read.result (λ found. T → found ≡ old d (name_text c.args.key.now))) c.folder.ensures
    (subst (λ (n : List ℕ). IfOk c.read.result (λ found. T → found ≡ old c.folder.result n)) name c.read.ensures.value)

pub returns-clause-starved : goal.returns-clause-starved
returns-clause-starved g c =
    let T : Type 0 = g.V.Volume.tells c.args.volume.now ≡ true in
    let old : Contents = contents (g.V.Volume.holds c.args.volume.now) in
    let name : take c.write_name-count.result c.write_name-count.new.out ≡ name_text c.args.key.now =
    written (name_text c.args.key.now) _ c.write_name-count.new.out c.write_name-count.result c.write_name-count.ensures.count
    c.write_name-count.ensures.text in
    subst (λ (d : List ℕ). OnNoMemory c.read.result (T → IsSome (old d (name_text c.args.key.now)))) c.folder.ensures
    (subst (λ (n : List ℕ). OnNoMemory c.read.result (T → IsSome (old c.folder.result n))) name c.read.ensures.starved)
