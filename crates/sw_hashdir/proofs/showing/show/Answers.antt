use Rattle.std.proofs.Common.{◌≡◌, true, Option, None, Some, Result, Ok, Err, ◌⊎◌, inl, inr, subst, sym, ◌∙◌}
use Rattle.std.specs.Option.{IfSome}
use Rattle.sw_diskfile.specs.StateFiles.{name_of}
use Rattle.sw_hashpath.specs.declared.decode_error.BadFile.{BadFile}
use Rattle.sw_object_steps.specs.declared.got.Got.TheVariants as gots
use Rattle.sw_hashdir.specs.Readings.{CallsReading, IfDamaged, IsDamagedOf, IsGotIn, IsWholeAt, OnShown, got_read}
use Rattle.sw_hashdir.specs.declared.reading.ReadFault.{ReadFault}
use Rattle.sw_hashdir.specs.declared.showing.Object.{Object}
use Rattle.sw_hashdir.proofs.Sound.{either-disorder, object-calls, on-shown, shown-gone, shown-got, shown-none, shown-some}
use Rattle.sw_hashdir.proofs.showing.show.Goals as goal

pub returns-in_default-clause-shown : goal.returns-in_default-clause-shown
returns-in_default-clause-shown g c = λ told.
    let folders = g.V.Volume.holds c.args.volume.now in
    let secrets = c.args.secrets.now in
    let hash = c.args.hash.now in
    let dir = c.args.dir.now in
    let picked = c.args.seen.now.picked in
    shown-got secrets hash folders dir picked c.args.front (gots.NotFound c.time_of.result)
    (shown-none secrets hash folders dir c.args.front picked c.time_of.result (sym c.data_of.ensures ∙ c.in_default.is) c.time_of.ensures)

pub returns-in-Ok-Some-clause-shown : goal.returns-in-Ok-Some-clause-shown
returns-in-Ok-Some-clause-shown g c = by c.got_of.ensures
  where
    by : (c.got_of.result ≡ gots.NoMemory) ⊎ (c.got_of.result ≡ got_read c.in-Ok-Some.object.data c.in-Ok-Some.object.meta c.args.front)
        → OnShown c.got_of.result (g.V.Volume.tells c.args.volume.now ≡ true
        → IsGotIn c.args.secrets.now c.args.hash.now (g.V.Volume.holds c.args.volume.now) c.args.dir.now c.args.front c.args.seen.now.picked c.got_of.result)
    by (inl memory) = rw memory tt
    by (inr read) = on-shown c.got_of.result _ (λ told.
        let folders = g.V.Volume.holds c.args.volume.now in
        let secrets = c.args.secrets.now in
        let hash = c.args.hash.now in
        let dir = c.args.dir.now in
        let picked = c.args.seen.now.picked in
        let file = c.in-Some.file in
        let whole : IsWholeAt secrets hash folders dir file picked.meta (Some c.in-Ok-Some.object) =
        subst (λ (o : Option Object). IsWholeAt secrets hash folders dir file picked.meta o) c.in-Ok-Some.field-0-is (c.in-Ok-Some.ensures.found told) in
        shown-got secrets hash folders dir picked c.args.front c.got_of.result
        (shown-some secrets hash folders dir c.args.front picked file c.in-Ok-Some.object c.got_of.result (sym c.data_of.ensures ∙ c.in-Some.is) whole read))

pub returns-in-Ok-Some-clause-calls : goal.returns-in-Ok-Some-clause-calls
returns-in-Ok-Some-clause-calls g c =
    let picked = c.args.seen.now.picked in
    let before = g.V.Volume.calls c.args.volume.now in
    let now = g.V.Volume.calls c.read_object.new.volume in
    object-calls picked.base picked.meta c.in-Some.file c.in-Ok-Some.object before now c.args.front c.got_of.result
    (sym c.data_of.ensures ∙ c.in-Some.is)
    (subst (λ (o : Option Object). IfSome o (λ (x : Object). name_of x.data ≡ c.in-Some.file)) c.in-Ok-Some.field-0-is c.in-Ok-Some.ensures.named)
    c.got_of.ensures
    (subst (λ (o : Option Object). let r : Result (Option Object) ReadFault = Ok o in CallsReading picked.meta before now r) c.in-Ok-Some.field-0-is
    c.in-Ok-Some.ensures.calls)

pub returns-in-Ok-None-clause-shown : goal.returns-in-Ok-None-clause-shown
returns-in-Ok-None-clause-shown g c = λ told.
    let folders = g.V.Volume.holds c.args.volume.now in
    let secrets = c.args.secrets.now in
    let hash = c.args.hash.now in
    let dir = c.args.dir.now in
    let picked = c.args.seen.now.picked in
    let file = c.in-Some.file in
    let gone : IsWholeAt secrets hash folders dir file picked.meta None =
    subst (λ (o : Option Object). IsWholeAt secrets hash folders dir file picked.meta o) c.in-Ok-None.field-0-is (c.in-Ok-None.ensures.found told) in
    shown-got secrets hash folders dir picked c.args.front (gots.NotFound None)
    (shown-gone secrets hash folders dir c.args.front picked file (sym c.data_of.ensures ∙ c.in-Some.is) gone)

pub returns-in-Err-Damaged-clause-disorder : goal.returns-in-Err-Damaged-clause-disorder
returns-in-Err-Damaged-clause-disorder g c = λ told.
    let v = g.V.Volume in
    let folders = v.holds c.args.volume.now in
    let secrets = c.args.secrets.now in
    let hash = c.args.hash.now in
    let dir = c.args.dir.now in
    let picked = c.args.seen.now.picked in
    let file = c.in-Some.file in
    let before = v.calls c.args.volume.now in
    let now = v.calls c.read_object.new.volume in
    either-disorder secrets hash folders dir picked file before now c.in-Err-Damaged.bad (sym c.data_of.ensures ∙ c.in-Some.is)
    (subst (λ (f : ReadFault). let r : Result (Option Object) ReadFault = Err f in
    IfDamaged r (λ (bad : BadFile). v.tells c.args.volume.now ≡ true → IsDamagedOf secrets hash folders dir file picked.meta before now bad))
    c.in-Err-Damaged.field-0-is c.in-Err-Damaged.ensures.damaged told)
