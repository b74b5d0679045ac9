use Rattle.std.proofs.Common.{◌≡◌, ℕ, true, List, Option, Result, Err, subst, sym, ◌∙◌}
use Rattle.sw_hashpath.specs.declared.decode_error.BadFile.{BadFile}
use Rattle.sw_pending.specs.declared.filed.Filed.{Filed}
use Rattle.sw_volume.specs.Tree.{Folders}
use Rattle.sw_pending_dir.specs.Places.{AllRecordsInOrder, IsRecordOf}
use Rattle.sw_pending_dir.specs.Readings.{IfDamaged, IsDamage}
use Rattle.sw_pending_dir.specs.declared.fault.ReadFault.{ReadFault}
use Rattle.sw_pending_dir.proofs.Results.{if-damaged}
use Rattle.sw_pending_dir.proofs.Standing.{at-record, damaged-disorder, none-at}
use Rattle.sw_pending_dir.proofs.reading.read_record.Goals as goal

pub returns-in-Ok-clause-value : goal.returns-in-Ok-clause-value
returns-in-Ok-clause-value g c = λ told.
    sym (at-record c.args.secrets.now c.args.key.now (g.V.Volume.holds c.args.volume.now) c.in-Ok-Some.bytes c.in-Ok.filed
    (sym (c.in-Ok-Some.ensures.value told) ∙ c.in-Ok-Some.field-0-is)
    (subst (λ (b : List ℕ). IsRecordOf c.args.secrets.now c.args.key.now b c.in-Ok.filed) c.as_slice.ensures c.in-Ok.ensures.found))

pub returns-in-Ok-None-clause-value : goal.returns-in-Ok-None-clause-value
returns-in-Ok-None-clause-value g c = λ told.
    sym (none-at c.args.secrets.now c.args.key.now (g.V.Volume.holds c.args.volume.now) (sym (c.in-Ok-None.ensures.value told) ∙ c.in-Ok-None.field-0-is))

pub returns-in-Ok-Some-clause-disorder : goal.returns-in-Ok-Some-clause-disorder
returns-in-Ok-Some-clause-disorder g c =
    let T : Type 0 = g.V.Volume.tells c.args.volume.now ≡ true in
    let folders : Folders = g.V.Volume.holds c.args.volume.now in
    let Q : BadFile → Type 0 = λ bad. T → ¬ (AllRecordsInOrder c.args.secrets.now folders) in
    subst (λ (f : ReadFault). let r : Result (Option Filed) ReadFault = Err f in IfDamaged r Q) (sym c.from.ensures)
    (if-damaged Filed (Option Filed) (IsDamage c.args.secrets.now c.args.key.now c.as_slice.result.now) Q
    (λ bad damage told. damaged-disorder c.args.secrets.now c.args.key.now folders bad c.read_file.ensures.key (record {
      bytes = c.in-Ok-Some.bytes;
      is_there = sym (c.in-Ok-Some.ensures.value told) ∙ c.in-Ok-Some.field-0-is;
      damage = subst (λ (b : List ℕ). IsDamage c.args.secrets.now c.args.key.now b bad) c.as_slice.ensures damage;
    })) c.in-Err-record_in.error c.in-Err-record_in.ensures.damaged)
