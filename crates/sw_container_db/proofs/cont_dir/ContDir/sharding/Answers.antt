use Rattle.sw_container_steps.specs.declared.cont_answer.ContAnswer.TheVariants as conts
use Rattle.std.proofs.lemmas.Result.{err_from_is_err_and}
use Rattle.std.proofs.Common.{◌≡◌, inr, length, sym, ◌∙◌, ap, subst}
use Rattle.sw_container_steps.specs.Reads.{sharding_of, HasSharding}
use Rattle.sw_container_steps.specs.Rules.{cont_look}
use Rattle.sw_container_steps.specs.declared.sharding.Sharding.{Sharding}
use Rattle.sw_keeper.specs.declared.tables.Tables.{Tables}
use Rattle.sw_container_db.specs.Calling.{beside, settled_in}
use Rattle.sw_container_db.specs.LoadedList.{tables_at}
use Rattle.sw_container_db.proofs.Calls.{shown, shown-wants, unready-read}
use Rattle.sw_container_db.proofs.Ends.{shown-tells}
use Rattle.sw_container_db.proofs.ReadSteps.{read-none, read-step, seen-known}
use Rattle.sw_container_db.proofs.cont_dir.ContDir.sharding.Goals as goal

abbrev told : Tables → Sharding
told t = record { ranges = t.ranges; cursor = t.cursor; points = t.points; emptied = t.emptied }

pub tables-requires : goal.tables-requires
tables-requires g c =
    let seen = c.in_ok-ready.ensures.called in
    (c.args.place.now, (beside c.args.place.now seen.read (settled_in c.args.self.now), seen.read, seen.looked.loaded))

pub returns-in-Ok-clause-read : goal.returns-in-Ok-clause-read
returns-in-Ok-clause-read g c =
    let v = g.K.Keeper in let place = c.args.place.now in
    let front = length c.ready.new.self.journal.entries in
    read-step v.tells v.holds v.faults c.args.self.now c.ready.new.self place c.ready.ensures.began c.ready.ensures.told c.ready.ensures.fresh
    c.ready.ensures.same c.ready.ensures.grows c.ready.ensures.settles c.ready.ensures.fits c.tables.result.now sharding_of c.in-Ok.answer
    c.ready.ensures.tied c.in_ok-ready.ensures.called.looked.settled
    (seen-known v.tells v.holds v.faults c.args.self.now c.ready.new.self place c.ready.ensures.began c.ready.ensures.told c.ready.ensures.fresh
    c.ready.ensures.same c.ready.ensures.grows c.ready.ensures.settles c.ready.ensures.fits
    v.calls c.in_ok-ready.ensures.called c.tables.result.now c.tables.ensures)
    (c.in-Ok.ensures.ok front) (ap cont_look (c.in-Ok.ensures.ok front) ∙ shown-tells c.tables.result.now told)

pub returns-in-Ok-clause-called : goal.returns-in-Ok-clause-called
returns-in-Ok-clause-called g c =
    let v = g.K.Keeper in let place = c.args.place.now in let front = length c.ready.new.self.journal.entries in
    shown v.tells v.holds v.faults v.calls c.args.self.now c.ready.new.self place c.tables.result.now
    told c.in-Ok.answer (c.in-Ok.ensures.ok front) c.in_ok-ready.ensures.called

pub returns-in_err-ready-clause-read : goal.returns-in_err-ready-clause-read
returns-in_err-ready-clause-read g c =
    let v = g.K.Keeper in
    let exit = err_from_is_err_and c.from_residual.result c.from_residual.ensures.1 in
    rw (exit.1, exit.2) (read-none v.tells v.holds v.faults c.args.self.now c.ready.new.self c.args.place.now c.ready.ensures.began c.ready.ensures.told
    c.ready.ensures.fresh c.ready.ensures.same c.ready.ensures.grows c.ready.ensures.settles c.ready.ensures.fits
    sharding_of c.in_err-ready.field-0.0 c.in_err-ready.ensures.fault
    c.in_err-ready.ensures.cause)

pub returns-in-Err-clause-read : goal.returns-in-Err-clause-read
returns-in-Err-clause-read g c =
    let v = g.K.Keeper in
    read-none v.tells v.holds v.faults c.args.self.now c.ready.new.self c.args.place.now c.ready.ensures.began c.ready.ensures.told
    c.ready.ensures.fresh c.ready.ensures.same c.ready.ensures.grows c.ready.ensures.settles c.ready.ensures.fits
    sharding_of conts.NoMemory (λ tells. cc) (λ fails. cc)

pub returns-in-Ok-clause-wanted : goal.returns-in-Ok-clause-wanted
returns-in-Ok-clause-wanted g c =
    let v = g.K.Keeper in let front = length c.ready.new.self.journal.entries in
    shown-wants v.tells v.holds v.faults v.calls c.args.self.now c.ready.new.self c.args.place.now HasSharding
    c.tables.result.now told c.in-Ok.answer (c.in-Ok.ensures.ok front)

pub returns-in-Err-clause-wanted : goal.returns-in-Err-clause-wanted
returns-in-Err-clause-wanted g c =
    let place = c.args.place.now in let seen = c.in_ok-ready.ensures.called in
    let was : c.tables.result.now ≡ seen.read =
    c.tables.ensures (beside place seen.read (settled_in c.args.self.now)) (tables_at place seen.read) seen.looked.loaded in
    inr (inr (seen.read, seen.is_read, subst HasSharding was c.in-Err.ensures.starved))

pub returns-in_err-ready-clause-wanted : goal.returns-in_err-ready-clause-wanted
returns-in_err-ready-clause-wanted g c =
    let v = g.K.Keeper in
    let exit = err_from_is_err_and c.from_residual.result c.from_residual.ensures.1 in
    rw (exit.1, exit.2) (unready-read v.tells v.holds v.faults v.calls c.args.self.now c.ready.new.self c.args.place.now HasSharding
    c.in_err-ready.field-0.0 c.in_err-ready.ensures.wanted)
