use Rattle.std.proofs.lemmas.Result.{err_from_is_err_and}
use Rattle.std.proofs.Common.{length, Ok, refl}
use Rattle.sw_container_steps.specs.Reads.{times_of}
use Rattle.sw_container_db.specs.Calling.{beside, settled_in}
use Rattle.sw_container_db.proofs.ReadSteps.{read-none, read-step, seen-known}
use Rattle.sw_container_db.proofs.cont_dir.ContDir.times.Goals as goal

pub tables-requires : goal.tables-requires
tables-requires g c =
    let seen = c.in_ok-ready.ensures.called in
    (c.args.place.now, (beside c.args.place.now seen.read (settled_in c.args.self.now), seen.read, seen.looked.loaded))

pub returns-clause-read : goal.returns-clause-read
returns-clause-read g c =
    let v = g.K.Keeper in let place = c.args.place.now in
    read-step v.tells v.holds v.faults c.args.self.now c.ready.new.self place c.ready.ensures.began c.ready.ensures.told c.ready.ensures.fresh
    c.ready.ensures.same c.ready.ensures.grows c.ready.ensures.settles c.ready.ensures.fits c.tables.result.now times_of (Ok c.times_of.result)
    c.ready.ensures.tied c.in_ok-ready.ensures.called.looked.settled
    (seen-known v.tells v.holds v.faults c.args.self.now c.ready.new.self place c.ready.ensures.began c.ready.ensures.told c.ready.ensures.fresh
    c.ready.ensures.same c.ready.ensures.grows c.ready.ensures.settles c.ready.ensures.fits
    v.calls c.in_ok-ready.ensures.called c.tables.result.now c.tables.ensures)
    (c.times_of.ensures (length c.ready.new.self.journal.entries)) refl

pub returns-in_err-ready-clause-read : goal.returns-in_err-ready-clause-read
returns-in_err-ready-clause-read g c =
    let v = g.K.Keeper in
    let exit = err_from_is_err_and c.from_residual.result c.from_residual.ensures.1 in
    rw (exit.1, exit.2) (read-none v.tells v.holds v.faults c.args.self.now c.ready.new.self c.args.place.now c.ready.ensures.began c.ready.ensures.told
    c.ready.ensures.fresh c.ready.ensures.same c.ready.ensures.grows c.ready.ensures.settles c.ready.ensures.fits
    times_of c.in_err-ready.field-0.0 c.in_err-ready.ensures.fault
    c.in_err-ready.ensures.cause)
