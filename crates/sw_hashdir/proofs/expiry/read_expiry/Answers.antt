use Rattle.std.proofs.Common.{◌≡◌, ℕ, true, Result, Err, Option, subst, sym, ◌∙◌}
use Rattle.sw_diskfile.specs.declared.file_name.FileName.{FileName}
use Rattle.sw_hashpath.specs.declared.decode_error.BadFile.{BadFile}
use Rattle.sw_hashdir.specs.Readings.{IfDamaged, IsDamagedAt, IsFoundAt, IsOutOfOrder}
use Rattle.sw_hashdir.specs.declared.reading.ReadFault.{ReadFault}
use Rattle.sw_hashdir.specs.declared.reading.ReadFault.TheVariants.{Damaged, Failed, NoMemory}
use Rattle.sw_hashdir.proofs.Sound.{damaged-disorder, expiry-picked, second-expiry}
use Rattle.sw_hashdir.proofs.expiry.read_expiry.Goals as goal

pub returns-in-Ok-clause-expiry : goal.returns-in-Ok-clause-expiry
returns-in-Ok-clause-expiry g c = λ told.
    let folders = g.V.Volume.holds c.args.volume.now in
    let secrets = c.args.secrets.now in
    let hash = c.args.hash.now in
    let dir = c.args.dir.now in
    second-expiry secrets hash folders dir c.args.picked.now c.second_of.result (
      c.in-Ok.found,
      subst (λ (o : Option FileName). IsFoundAt secrets hash folders dir o c.in-Ok.found) c.expiry_file.ensures (c.in-Ok.ensures.found told),
      c.second_of.ensures,
    )

on-damaged : (T : Type 0) (fault : ReadFault) (P Q : BadFile → Type 0) → ((bad : BadFile) → P bad → Q bad)
    → let r : Result T ReadFault = Err fault in IfDamaged r P → IfDamaged r Q
on-damaged T (Damaged bad) P Q step is = step bad is
on-damaged T Failed P Q step is = is
on-damaged T NoMemory P Q step is = is

pub returns-in-Err-clause-disorder : goal.returns-in-Err-clause-disorder
returns-in-Err-clause-disorder g c =
    let v = g.V.Volume in
    let folders = v.holds c.args.volume.now in
    let secrets = c.args.secrets.now in
    let hash = c.args.hash.now in
    let dir = c.args.dir.now in
    let picked = c.args.picked.now in
    on-damaged (Option ℕ) c.in-Err.fault
    (λ bad. v.tells c.args.volume.now ≡ true → IsDamagedAt secrets hash folders dir c.expiry_file.result bad)
    (λ bad. v.tells c.args.volume.now ≡ true → IsOutOfOrder secrets hash folders dir picked)
    (λ bad damaged told. damaged-disorder secrets hash folders dir picked bad c.expiry_file.result
    (λ file e. expiry-picked picked file (sym c.expiry_file.ensures ∙ e)) (damaged told))
    c.in-Err.ensures.damaged

pub returns-in-Ok-clause-said : goal.returns-in-Ok-clause-said
returns-in-Ok-clause-said g c = (c.in-Ok.found, λ none. c.in-Ok.ensures.absent (c.expiry_file.ensures ∙ none), c.second_of.ensures)
